use Rattle.std.proofs.Common.{◌≡◌, ◌∷◌, ◌∙◌, ap, sym, refl, ◌≤◌, ◌<◌, ◌+◌, get_or, length, arith}
use Rattle.std.proofs.lemmas.List.{get_or_default}
use Rattle.zir_bit_samples.specs.Reading.{KeptBytes}
use Rattle.std.specs.Prelude.{slice_range}
use Rattle.zir_bit_samples.proofs.Giving.{gives_kept, part-cons}
use Rattle.zir_bit_samples.proofs.bytes.ByteReader.next.Goals as goal

pub returns-then-self-clause-bytes : goal.returns-then-self-clause-bytes
returns-then-self-clause-bytes g c =
    let old : KeptBytes = record { bytes = slice_range c.self.inside.piece.items c.self.inside.at c.self.inside.filled; ended = c.self.inside.ended; failed = c.self.inside.failed } in
    let new : KeptBytes = record { bytes = slice_range c.self.inside.piece.items (c.self.inside.at + 1) c.self.inside.filled; ended = c.self.inside.ended; failed = c.self.inside.failed } in
    let inside : c.self.inside.at < length c.self.inside.piece.items = omega arith in
    let within : c.self.inside.filled ≤ length c.self.inside.piece.items = omega arith in
    let byte : get_or c.self.inside.piece.items c.self.inside.at 0 ≡ c.index-byte.result.now = get_or_default c.self.inside.piece.items c.self.inside.at 0 c.index-byte.result.now inside ∙ sym c.index-byte.ensures in
    let first = part-cons c.self.inside.piece.items c.self.inside.at c.self.inside.filled c.if-self.true within ∙ ap (λ b. b ∷ new.bytes) byte in
    rw (← c.self.view_is) (gives_kept old new (g.S.Source.left c.args.source.now) c.index-byte.result.now first refl)
