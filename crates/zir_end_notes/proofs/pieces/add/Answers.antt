use Rattle.std.proofs.Common.{◌+◌, ◌++◌, arith, ap, sym, ◌∙◌, drop, take}
use Rattle.std.proofs.lemmas.List.{take_more}
use Rattle.zir_end_notes.proofs.Growing.{at_error, ◌▸◌, adds_as, part_as, part_first, part_next, in_parts}
use Rattle.zir_end_notes.proofs.pieces.add.Goals as goal

pub returns-in_err-add_byte-clause-failed : goal.returns-in_err-add_byte-clause-failed
returns-in_err-add_byte-clause-failed g c =
    at_error c.from_residual.result (part_as c.args.bytes.now
    (ap (λ l. l ++ drop (c.loop-byte.byte-index + 1) c.args.bytes.now) (sym (take_more c.args.bytes.now c.loop-byte.byte-index _ (omega arith))) ∙ in_parts c.args.bytes.now (c.loop-byte.byte-index + 1))
    (part_first (drop (c.loop-byte.byte-index + 1) c.args.bytes.now) (part_next c.loop-byte.invariant.adds c.in_err-add_byte.ensures.failed)))

pub loop-byte-preserved : goal.loop-byte-preserved
loop-byte-preserved g c = record {
  adds = adds_as (take (c.loop-byte.byte-index + 1) c.args.bytes.now) (sym (take_more c.args.bytes.now c.loop-byte.byte-index _ (omega arith))) (c.loop-byte.invariant.adds ▸ c.in_ok-add_byte.ensures.ok);
  tells = λ t. c.loop-byte.invariant.tells (c.in_ok-add_byte.ensures.untold t);
  later = omega (arith, c.loop-byte.invariant.later, c.in_ok-add_byte.ensures.cause.later);
}
