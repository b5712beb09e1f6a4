use Rattle.std.proofs.Common.{ap, rules, subst, sym, ◌≡◌, ◌<◌, ◌≤◌, ◌+◌, ◌-◌, ◌∙◌, false, length, length-drop, length-take, drop, take, arith}
use Rattle.std.proofs.lemmas.List.{places, with_items_is}
use Rattle.std.specs.Prelude.{nat_eq, slice_range}
use Rattle.std.specs.Vec.{with_items}
use Rattle.zir_reader.specs.Numbers.{Fills, Held}
use Rattle.zir_reader.proofs.Holding.{holds, read-fills}
use Rattle.zir_reader.proofs.numbers.Numbers.fill.Goals as goal

pub returns-clause-fills : goal.returns-clause-fills
returns-clause-fills g c =
    let r = c.self.inside in
    let one = c.move_front.new.piece in
    let two = c.read_behind.new.piece in
    let held = r.filled - r.at in
    let left = g.S.Source.left c.args.source.now in
    let now = g.S.Source.left c.read_behind.new.source in
    let more : r.ended ≡ false = ap (λ (v : Held). v.ended) c.self.view_is ∙ c.requires.open in
    let few = subst (λ (v : Held). length v.bytes ≤ 64) (sym c.self.view_is) c.requires.room in
    let moved = c.move_front.ensures.moved ∙ ap (λ xs. slice_range xs r.at r.filled) c.deref_mut.ensures.value in
    let between : (with_items r.piece one).items ≡ one = with_items_is r.piece one (search (rules, places)) in
    let front = c.read_behind.ensures.front ∙ ap (take held) (c.deref_mut-2.ensures.value ∙ between) in
    let last : (with_items (with_items r.piece one) two).items ≡ two = with_items_is (with_items r.piece one) two (search (rules, places)) in
    let size = c.read_behind.ensures.len ∙ c.deref_mut-2.ensures.len ∙ sym c.deref_mut.ensures.len ∙ ap length c.deref_mut.ensures.value ∙ c.self.invariant.1 in
    let room : held < length two = omega (arith, few, size, c.self.invariant.1, c.self.invariant.2, c.self.invariant.3, length-take held (drop r.at r.piece.items), length-drop r.at r.piece.items) in
    let told = read-fills r.format r.base r.piece.items one two _ r.at r.filled c.in_ok-count.count r.bit r.ended left now more moved front last room c.in_ok-count.ensures.read in
    let new = holds r.format r.base (with_items (with_items r.piece one) two).items 0 (held + c.in_ok-count.count) r.bit (nat_eq c.in_ok-count.count 0) in
    subst (λ (v : Held). Fills v left new now) c.self.view_is told
