use Rattle.std.proofs.Common.{◌≡◌, ℕ, ◌+◌, List, ◌++◌, arith, sym, ◌∙◌, drop, append_assoc}
use Rattle.zir_meaning.specs.Notes.{value_text, with_commas}
use Rattle.zir_end_notes.specs.Parts.{comma_before, texts_from}
use Rattle.zir_end_notes.proofs.Growing.{at_error, from_ok, from_error, ◌▸◌, adds_as, part_as, part_first, part_next}
use Rattle.zir_end_notes.proofs.Commas.{commas_from, Left, left_more}
use Rattle.zir_end_notes.proofs.values.+value.Goals as goal

-- ---- what stands round the parts

pub add_framed-returns-in_err-add-clause-failed : goal.add_framed-returns-in_err-add-clause-failed
add_framed-returns-in_err-add-clause-failed g t c = at_error c.from_residual.result (part_first _ c.in_err-add.ensures.failed)

pub add_framed-returns-in_err-add-2-clause-failed :
    goal.add_framed-returns-in_err-add-2-clause-failed
add_framed-returns-in_err-add-2-clause-failed g t c =
    at_error c.from_residual-in_err-add-2.result (part_next c.in_ok-add.ensures.ok (part_first _ (part_as c.args.frame.before.now c.as_bytes.ensures.value c.in_err-add-2.ensures.failed)))

pub add_framed-returns-in_err-add_parts-clause-failed :
    goal.add_framed-returns-in_err-add_parts-clause-failed
add_framed-returns-in_err-add_parts-clause-failed g t c =
    at_error c.from_residual-in_err-add_parts.result
    (part_next c.in_ok-add.ensures.ok (part_next (adds_as c.args.frame.before.now c.as_bytes.ensures.value c.in_ok-add-2.ensures.ok) (part_first _ c.in_err-add_parts.ensures.failed)))

pub add_framed-returns-clause-ok : goal.add_framed-returns-clause-ok
add_framed-returns-clause-ok g t c =
    from_ok c.add-3.result
    (λ last. c.in_ok-add.ensures.ok ▸ (adds_as c.args.frame.before.now c.as_bytes.ensures.value c.in_ok-add-2.ensures.ok ▸ (c.in_ok-add_parts.ensures.ok ▸ adds_as c.args.frame.behind.now c.as_bytes-2.ensures.value last)))
    c.add-3.ensures.ok

pub add_framed-returns-clause-failed : goal.add_framed-returns-clause-failed
add_framed-returns-clause-failed g t c =
    from_error c.add-3.result
    (λ last. part_next c.in_ok-add.ensures.ok (part_next (adds_as c.args.frame.before.now c.as_bytes.ensures.value c.in_ok-add-2.ensures.ok) (part_next c.in_ok-add_parts.ensures.ok (part_as c.args.frame.behind.now c.as_bytes-2.ensures.value last))))
    c.add-3.ensures.failed

-- ---- the parts

-- a comma and a text between what was added before and what follows
regroup : (before comma text behind : List ℕ) → (before ++ comma) ++ (text ++ behind) ≡ (before ++ (comma ++ text)) ++ behind
regroup before comma text behind = simp append_assoc

pub add_parts-returns-in_err-add-clause-failed : goal.add_parts-returns-in_err-add-clause-failed
add_parts-returns-in_err-add-clause-failed g t c =
    let i : ℕ = c.loop-place.place in
    let text : List ℕ = value_text c.args.structs.now c.in-Some.kind.lengths.now c.in-Some.kind.base c.index-parts-place.result in
    let rest : List ℕ = commas_from (i + 1) (texts_from c.args.structs.now c.args.kinds (i + 1) (drop (i + 1) c.args.parts.now)) in
    let left : Left c.args.structs.now c.args.kinds c.args.parts.now (i + 1) (c.loop-place.invariant.so_far ++ (comma_before i ++ text)) =
    left_more c.args.structs.now c.args.kinds c.args.parts.now i c.index-parts-place.result c.in-Some.kind.lengths.now c.in-Some.kind.base c.loop-place.invariant.so_far (omega arith) c.index-parts-place.is c.in-Some.ensures c.loop-place.invariant.left in
    at_error c.from_residual.result
    (part_as (with_commas (texts_from c.args.structs.now c.args.kinds 0 c.args.parts.now)) (regroup c.loop-place.invariant.so_far (comma_before i) text rest ∙ sym left)
    (part_first (text ++ rest) (part_next c.loop-place.invariant.adds (part_as (comma_before i) (c.as_bytes.ensures.value ∙ c.comma.ensures) c.in_err-add.ensures.failed))))

pub add_parts-returns-in_err-add_value-clause-failed :
    goal.add_parts-returns-in_err-add_value-clause-failed
add_parts-returns-in_err-add_value-clause-failed g t c =
    let i : ℕ = c.loop-place.place in
    let rest : List ℕ = commas_from (i + 1) (texts_from c.args.structs.now c.args.kinds (i + 1) (drop (i + 1) c.args.parts.now)) in
    at_error c.from_residual-in_err-add_value.result
    (part_as (with_commas (texts_from c.args.structs.now c.args.kinds 0 c.args.parts.now))
    (sym (left_more c.args.structs.now c.args.kinds c.args.parts.now i c.index-parts-place.result c.in-Some.kind.lengths.now c.in-Some.kind.base c.loop-place.invariant.so_far (omega arith) c.index-parts-place.is c.in-Some.ensures c.loop-place.invariant.left))
    (part_first rest (part_next c.loop-place.invariant.adds (part_next (adds_as (comma_before i) (c.as_bytes.ensures.value ∙ c.comma.ensures) c.in_ok-add.ensures.ok) c.in_err-add_value.ensures.failed))))

pub add_parts-loop-place-preserved : goal.add_parts-loop-place-preserved
add_parts-loop-place-preserved g t c =
    let i : ℕ = c.loop-place.place in
    record {
      so_far = c.loop-place.invariant.so_far ++ (comma_before i ++ value_text c.args.structs.now c.in-Some.kind.lengths.now c.in-Some.kind.base c.index-parts-place.result);
      left = left_more c.args.structs.now c.args.kinds c.args.parts.now i c.index-parts-place.result c.in-Some.kind.lengths.now c.in-Some.kind.base c.loop-place.invariant.so_far (omega arith) c.index-parts-place.is c.in-Some.ensures c.loop-place.invariant.left;
      adds = c.loop-place.invariant.adds ▸ (adds_as (comma_before i) (c.as_bytes.ensures.value ∙ c.comma.ensures) c.in_ok-add.ensures.ok ▸ c.in_ok-add_value.ensures.ok);
      tells = λ u. c.loop-place.invariant.tells (c.in_ok-add.ensures.untold (c.in_ok-add_value.ensures.untold u));
      later = omega (arith, c.loop-place.invariant.later, c.in_ok-add.ensures.cause.later, c.in_ok-add_value.ensures.cause.later);
    }
