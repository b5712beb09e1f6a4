use Rattle.std.proofs.Common.{ℕ, List, ap, subst, sym, ◌∙◌}
use Rattle.zir_tree.specs.declared.format.Format.{Format}
use Rattle.std.specs.Prelude.{slice_range}
use Rattle.zir_reader.specs.Numbers.{Decides, Held}
use Rattle.zir_reader.proofs.Bits.{decides-bits}
use Rattle.zir_reader.proofs.Texts.{decides-text}
use Rattle.zir_reader.proofs.numbers.Numbers.first.Goals as goal

pub returns-in-Binary : goal.returns-in-Binary
returns-in-Binary c =
    let r = c.self.inside in
    let held : Format → List ℕ → Held = λ f items. record { format = f; base = r.base; bytes = slice_range items r.at r.filled; bit = r.bit; ended = r.ended } in
    let h = decides-bits r.base (slice_range c.deref.result.now r.at r.filled) r.bit r.ended c.first_bits.result c.self.invariant.0 c.self.invariant.4 c.first_bits.ensures in
    subst (λ (v : Held). Decides v c.first_bits.result) (ap (λ f. held f c.deref.result.now) (sym c.in-Binary.is) ∙ ap (held r.format) c.deref.ensures.value ∙ c.self.view_is) h

pub returns-in-Text : goal.returns-in-Text
returns-in-Text c =
    let r = c.self.inside in
    let held : Format → List ℕ → Held = λ f items. record { format = f; base = r.base; bytes = slice_range items r.at r.filled; bit = r.bit; ended = r.ended } in
    let h = decides-text r.base (slice_range c.deref.result.now r.at r.filled) r.bit r.ended c.read_item.result c.read_item.ensures in
    subst (λ (v : Held). Decides v c.read_item.result) (ap (λ f. held f c.deref.result.now) (sym c.in-Text.is) ∙ ap (held r.format) c.deref.ensures.value ∙ c.self.view_is) h
