-- Steps of a part as steps of what holds it.
use Rattle.std.specs.Prelude.{ℕ, zero, suc, ◌≡◌, ◌≢◌, refl, ◌+◌, ◌≤◌, ◌<◌, ◌⊎◌, List, [], ◌∷◌, Option, Some, None, Bool, true, map, length, get_or, slice_set}
use Rattle.std.proofs.Common.{ap, sym, subst, ◌∙◌, arith, inl, inr}
use denote.Hole.Carrier.{hidden}
use Rattle.std.specs.declared.vec.Vec.{Vec}
use Rattle.std.specs.declared.boxed.Box.{Box}
use Rattle.std.specs.declared.alloc.Global.{Global}
use Rattle.zir_bit_tree.specs.declared.value.Val.{Val}
use Rattle.zir_bit_tree.specs.declared.ends.End.TheVariants.{Value}
use Rattle.zir_tree.specs.declared.place.Place.{Place}
use Rattle.zir_bit_tree.specs.declared.tree.Comp.{Comp, Block as BlockComp, Repeat as RepeatComp, Pipe as PipeComp}
use Rattle.zir_bit_tree.specs.declared.tree.Comp.TheBlock.{shape-the_row-Member-0, hidden-the_row-Member-0, shape-the_row-Comp-1, hidden-the_row-Comp-1}
use Rattle.zir_bit_tree.specs.declared.tree.Member.{Member}
use Rattle.zir_bit_meaning.specs.Trace.{State}
use Rattle.zir_bit_laws.specs.Process.{Proc, Ends, NextProc, then_proc}
use Rattle.zir_bit_laws.specs.Offers.{Fed}
use Rattle.zir_bit_laws.proofs.Offers.{fed_then}
use Rattle.zir_steps.specs.declared.answer.Answer.{Answer}
use Rattle.zir_steps.specs.declared.answer.Answer.TheVariants.{Yield, Skip, Done, Need, Stopped}
use Rattle.zir_machine.specs.declared.progress.Focus.{Focus}
use Rattle.zir_machine.specs.declared.progress.Span.{Span}
use Rattle.zir_machine.specs.declared.node.Node.{Node, Block, Repeat, Pipe}
use Rattle.zir_machine.specs.declared.node.Part.{Part}
use Rattle.zir_machine.specs.declared.node.Loop.{Loop}
use Rattle.zir_machine.specs.declared.node.Link.{Link}
use Rattle.zir_machine.specs.Standing.{ended_value}
use Rattle.zir_machine.specs.Steps.{Stands, Stepped, Paced, Uses, Took}
use Rattle.zir_machine.specs.Heights.{height, heights, row_height}
use Rattle.zir_machine.specs.Understood.{Looped, Linked, members_of, row_in, row_sound, row_awaits, loop_comp, link_comp, link_sound}
use Rattle.zir_machine.specs.Nodes.{held, looped, linked, comp_of, is_sound, is_waiting}
use Rattle.zir_machine.proofs.Levels.{meant-Block, meant-Repeat, meant-Pipe, row_get, row_set, row_past, sound_get, sound_set, after_part}

-- two steps, one after the other
pub fed_trans : (i j k : Option Val) (p q r : Proc) → Fed i j p q → Fed j k q r → Fed i k p r
fed_trans None None None p q r g h = g ∙ h
fed_trans None None (Some z) p q r g h = absurd h
fed_trans None (Some y) k p q r g h = absurd g
fed_trans (Some x) None None p q r g h = (g.0, g.1, g.2, sym h ∙ g.3)
fed_trans (Some x) None (Some z) p q r g h = absurd h
fed_trans (Some x) (Some y) None p q r g h = (h.0, h.1, g.1 ∙ h.2, h.3 ∙ ap h.1 (sym g.0))
fed_trans (Some x) (Some y) (Some z) p q r g h = (g.0 ∙ h.0, g.1 ∙ h.1)

-- the same process moved by nothing
pub fed_same : (i : Option Val) (p q : Proc) → p ≡ q → Fed i i p q
fed_same None p q e = e
fed_same (Some x) p q e = (refl, e)

-- what follows a component that has not ended
pub stands_then : (a : Answer) (j : Option Val) (q : Proc) (next : NextProc) (f : Focus) (s : State) → a ≢ Done → Stands a f s j q → Stands a f s j (then_proc q next)
stands_then Yield j q next f s n h = h
stands_then Skip j q next f s n h = h
stands_then Done j q next f s n h = absurd (n refl)
stands_then Need j q next f s n h = (h.0, (λ x. then_proc (h.1 x) next), ap (λ q. then_proc q next) h.2)
stands_then Stopped j q next f s n h = ap (λ q. then_proc q next) h

-- a step of a part is one of the whole
pub stepped_then : (a : Answer) (i j : Option Val) (p q : Proc) (next : NextProc) (f : Focus) (s : State) → a ≢ Done → Stepped a i j p q f s → Stepped a i j (then_proc p next) (then_proc q next) f s
stepped_then a i j p q next f s n h = record { moved = fed_then i j p q next h.moved; stands = stands_then a j q next f s n h.stands }

-- a component that has ended, by the value of the focus
pub done_value : (a : Answer) (i j : Option Val) (p q : Proc) (f : Focus) (s : State) → a ≡ Done → Stepped a i j p q f s → q ≡ Ends (Value (ended_value f)) s
done_value a i j p q f s e h =
    let w : Stands Done f s j q = subst (λ a. Stands a f s j q) e h.stands in
    w.2 ∙ ap (λ v. Ends (Value v) s) (sym (ap ended_value w.1))

-- a step after a move
pub stepped_after : (a : Answer) (i j k : Option Val) (p q r : Proc) (f : Focus) (s : State) → Fed i j p q → Stepped a j k q r f s → Stepped a i k p r f s
stepped_after a i j k p q r f s g h = record { moved = fed_trans i j k p q r g h.moved; stands = h.stands }

-- one of two is the greater
below : (a b : ℕ) → (a < b) ⊎ (b ≤ a)
below zero zero = inr (omega arith)
below zero (suc b) = inl (omega arith)
below (suc a) zero = inr (omega arith)
below (suc a) (suc b) = elim (below a b) [ inl h ↦ inl (omega arith) | inr h ↦ inr (omega arith) ]

-- fuel that is used in two steps is used with ticks
used_twice : (f g h t u v : ℕ) → (g < f → t < u) → (h < g → u < v) → t ≤ u → u ≤ v → h < f → t < v
used_twice f g h t u v a b le lf lt = elim (below g f) [ inl w ↦ (let z : t < u = a w in omega arith) | inr w ↦ (let z : u < v = b (omega arith) in omega arith) ]

-- an answer after work
pub paced_after : (a : Answer) (f g h t u v : ℕ) → Uses f g t u → Paced a g h u v → Paced a f h t v
paced_after a f g h t u v w p = record {
  fuel_falls = omega (arith, w.fuel_falls, p.fuel_falls);
  ticks_rise = omega (arith, w.ticks_rise, p.ticks_rise);
  used = λ n. used_twice f g h t u v w.used (p.used n) w.ticks_rise p.ticks_rise;
  yields = λ e. let z : u < v = p.yields e in omega (arith, z, w.ticks_rise);
  pauses = p.pauses;
}

-- work after work
pub uses_after : (f g h t u v : ℕ) → Uses f g t u → h ≤ g → u ≤ v → (h < g → u < v) → Uses f h t v
uses_after f g h t u v w a b c = record { fuel_falls = omega (arith, w.fuel_falls); ticks_rise = omega (arith, w.ticks_rise); used = used_twice f g h t u v w.used c w.ticks_rise b }

-- a step of a part as a step of its block
pub row_stepped : (a : Answer) (i j : Option Val) (ps : List Part) (k base : ℕ) (d p q : Part) (f f' : Focus) (s s' : State) → a ≢ Done → k < length ps → p ≡ get_or ps k d → (held q).bound ≡ (held p).bound →
    Stepped a i j ((held p).meant.does f s) ((held q).meant.does f' s') f' s' → Stepped a i j (row_in (map held ps) k base f s) (row_in (map held (slice_set ps k q)) k base f' s') f' s'
row_stepped a i j ps k base d p q f f' s s' n h e b w =
    subst (λ r. Stepped a i j (row_in (map held ps) k base f s) r f' s') (sym (row_set ps k base q f' s' h))
    (subst (λ r. Stepped a i j r (then_proc ((held q).meant.does f' s') (after_part ps k base (held q).bound)) f' s') (sym (row_get ps k base d f s h))
    (subst (λ p. Stepped a i j (then_proc ((held p).meant.does f s) (after_part ps k base (held p).bound)) (then_proc ((held q).meant.does f' s') (after_part ps k base (held q).bound)) f' s') e
    (subst (λ b. Stepped a i j (then_proc ((held p).meant.does f s) (after_part ps k base (held p).bound)) (then_proc ((held q).meant.does f' s') (after_part ps k base b)) f' s') (sym b)
    (stepped_then a i j ((held p).meant.does f s) ((held q).meant.does f' s') (after_part ps k base (held p).bound) f' s' n w))))

-- a part that ended, as a step of its block
pub row_moved : (i j : Option Val) (ps : List Part) (k base : ℕ) (d p q : Part) (f f' : Focus) (s s' : State) → k < length ps → p ≡ get_or ps k d → (held q).bound ≡ (held p).bound →
    Fed i j ((held p).meant.does f s) ((held q).meant.does f' s') → Fed i j (row_in (map held ps) k base f s) (row_in (map held (slice_set ps k q)) k base f' s')
row_moved i j ps k base d p q f f' s s' h e b w =
    subst (λ r. Fed i j (row_in (map held ps) k base f s) r) (sym (row_set ps k base q f' s' h))
    (subst (λ r. Fed i j r (then_proc ((held q).meant.does f' s') (after_part ps k base (held q).bound))) (sym (row_get ps k base d f s h))
    (subst (λ p. Fed i j (then_proc ((held p).meant.does f s) (after_part ps k base (held p).bound)) (then_proc ((held q).meant.does f' s') (after_part ps k base (held q).bound))) e
    (subst (λ b. Fed i j (then_proc ((held p).meant.does f s) (after_part ps k base (held p).bound)) (then_proc ((held q).meant.does f' s') (after_part ps k base b))) (sym b)
    (fed_then i j ((held p).meant.does f s) ((held q).meant.does f' s') (after_part ps k base (held p).bound) w))))

-- a block all of whose parts have ended
pub row_ends : (a : Answer) (i j : Option Val) (ps : List Part) (k base : ℕ) (f f' : Focus) (s s' : State) → length ps ≤ k → Stepped a i j (row_in [] 0 base f s) (row_in [] 0 base f' s') f' s' → Stepped a i j (row_in (map held ps) k base f s) (row_in (map held ps) k base f' s') f' s'
row_ends a i j ps k base f f' s s' h w =
    subst (λ r. Stepped a i j (row_in (map held ps) k base f s) r f' s') (sym (row_past ps k base f' s' h))
    (subst (λ r. Stepped a i j r (row_in [] 0 base f' s') f' s') (sym (row_past ps k base f s h)) w)

-- the part that runs is sound
pub part_sound : (ps : List Part) (k : ℕ) (d p : Part) (f : Focus) (s : State) → k < length ps → p ≡ get_or ps k d → row_sound (map held ps) k f s ≡ true → (held p).meant.sound f s ≡ true
part_sound ps k d p f s h e w = ap (λ p. (held p).meant.sound f s) e ∙ sym (sound_get ps k d f s h) ∙ w

-- a block whose part was written is sound
pub row_set_sound : (ps : List Part) (k : ℕ) (q : Part) (f : Focus) (s : State) → k < length ps → (held q).meant.sound f s ≡ true → row_sound (map held (slice_set ps k q)) k f s ≡ true
row_set_sound ps k q f s h e = sound_set ps k q f s h ∙ e

-- a block has as many members as parts
pub length-members : (ps : List Part) → length (members_of (map held ps)) ≡ length ps
length-members [] = refl
length-members (p ∷ ps) = ap suc (length-members ps)

-- How the way down is bounded.

-- the height of a block
height-Block : (ms : List Member) (p : Place) → height (BlockComp ms p) ≡ suc (heights ms)
unfolding shape-the_row-Member-0 hidden-the_row-Member-0 hidden
height-Block ms p = ap suc (rows ms)
  where
    rows : (ms : List Member) → row_height (hidden-the_row-Member-0 ms) ≡ heights ms
    rows [] = refl
    rows (m ∷ ms) = ap (λ n. height m.what + n) (rows ms)

-- the height of a repeat
pub height-Repeat : (c : Comp) (p : Place) → height (RepeatComp c p) ≡ suc (height c)
unfolding shape-the_row-Comp-1 hidden-the_row-Comp-1 hidden
height-Repeat c p = refl

-- the height of a composition
pub height-Pipe : (a b : Comp) (p : Place) → height (PipeComp a b p) ≡ suc (height a + height b)
unfolding shape-the_row-Comp-1 hidden-the_row-Comp-1 hidden
height-Pipe a b p = refl

-- a part is no higher than the block
pub part_height : (ps : List Part) (k : ℕ) (d p : Part) → k < length ps → p ≡ get_or ps k d → height (held p).meant.what ≤ heights (members_of (map held ps))
part_height ps k d p h e = subst (λ p. height (held p).meant.what ≤ heights (members_of (map held ps))) (sym e) (below ps k h)
  where
    below : (ps : List Part) (k : ℕ) → k < length ps → height (held (get_or ps k d)).meant.what ≤ heights (members_of (map held ps))
    below [] k h = absurd (omega arith)
    below (p ∷ ps) zero h = omega arith
    below (p ∷ ps) (suc k) h = let w : height (held (get_or ps k d)).meant.what ≤ heights (members_of (map held ps)) = below ps k (omega arith) in omega (arith, w)

-- a node that is a block is higher than its members
pub block_height : (m : Node) (u v : Vec Part Global) (span : Span) → m ≡ Block v span → u ≡ v → height (comp_of m) ≡ suc (heights (members_of (map held u.items)))
block_height m u v span e z = ap (λ m. height (comp_of m)) e ∙ ap (λ r. height r.what) (meant-Block v span) ∙ height-Block (members_of (map held v.items)) span.place ∙ ap (λ v. suc (heights (members_of (map held v.items)))) (sym z)

-- a node that is a repeat is higher than its body
pub loop_height : (m : Node) (a b : Box Loop Global) → m ≡ Repeat b → a ≡ b → height (comp_of m) ≡ suc (height (comp_of a.value.body))
loop_height m a b e z = ap (λ m. height (comp_of m)) e ∙ ap (λ r. height r.what) (meant-Repeat b) ∙ height-Repeat (looped b.value).body.what (looped b.value).place ∙ ap (λ b. suc (height (comp_of b.value.body))) (sym z)

-- a node that is a composition is higher than its sides
pub pipe_height : (m : Node) (a b : Box Link Global) → m ≡ Pipe b → a ≡ b → height (comp_of m) ≡ suc (height (comp_of a.value.left) + height (comp_of a.value.right))
pipe_height m a b e z =
    ap (λ m. height (comp_of m)) e ∙ ap (λ r. height r.what) (meant-Pipe b) ∙ height-Pipe (linked b.value).left.what (linked b.value).right.what (linked b.value).place
    ∙ ap (λ b. suc (height (comp_of b.value.left) + height (comp_of b.value.right))) (sym z)

-- loops of the same component have bodies of the same height
pub same_body : (a b : Looped) → loop_comp a ≡ loop_comp b → height a.body.what ≡ height b.body.what
same_body a b e =
    let h : suc (height a.body.what) ≡ suc (height b.body.what) = sym (height-Repeat a.body.what a.place) ∙ ap height e ∙ height-Repeat b.body.what b.place in omega (arith, h)

-- the sides of the same component are as high
pub same_sides : (a b : Linked) → link_comp a ≡ link_comp b → height a.left.what + height a.right.what ≡ height b.left.what + height b.right.what
same_sides a b e =
    let h : suc (height a.left.what + height a.right.what) ≡ suc (height b.left.what + height b.right.what) = sym (height-Pipe a.left.what a.right.what a.place) ∙ ap height e ∙ height-Pipe b.left.what b.right.what b.place in omega (arith, h)

-- What a node's soundness says of what is inside it.

-- a node that is a block is sound inside
pub block_inside : (m : Node) (u v : Vec Part Global) (span span' : Span) (f : Focus) (s : State) → m ≡ Block v span → u ≡ v → span' ≡ span → is_sound m f s ≡ true → row_sound (map held u.items) span'.at f s ≡ true
block_inside m u v span span' f s e z y h =
    ap (λ u. row_sound (map held u.items) span'.at f s) z ∙ ap (λ t. row_sound (map held v.items) t.at f s) y ∙ sym (ap (λ r. r.sound f s) (meant-Block v span)) ∙ sym (ap (λ m. is_sound m f s) e) ∙ h

-- a node that is a repeat is sound inside
pub loop_inside : (m : Node) (a b : Box Loop Global) (f : Focus) (s : State) → m ≡ Repeat b → a ≡ b → is_sound m f s ≡ true → (looped a.value).body.sound f s ≡ true
loop_inside m a b f s e z h = ap (λ a. (looped a.value).body.sound f s) z ∙ sym (ap (λ r. r.sound f s) (meant-Repeat b)) ∙ sym (ap (λ m. is_sound m f s) e) ∙ h

-- a node that is a composition is sound inside
pub pipe_inside : (m : Node) (a b : Box Link Global) (f : Focus) (s : State) → m ≡ Pipe b → a ≡ b → is_sound m f s ≡ true → link_sound (linked a.value) f s ≡ true
pipe_inside m a b f s e z h = ap (λ a. link_sound (linked a.value) f s) z ∙ sym (ap (λ r. r.sound f s) (meant-Pipe b)) ∙ sym (ap (λ m. is_sound m f s) e) ∙ h

-- Whether an element that was offered is still there.

-- where nothing is offered nothing is left
fed_none : (j : Option Val) (p q : Proc) → Fed None j p q → j ≡ None
fed_none None p q h = refl
fed_none (Some x) p q h = absurd h

-- what needs an element first takes the one that is offered
pub took_step : (i j : Option Val) (p q : Proc) (w : Bool) → Took i w → (w ≡ true → j ≡ None) → Fed i j p q → j ≡ None
took_step i j p q w t f h = elim t [ inl e ↦ fed_none j p q (subst (λ i. Fed i j p q) e h) | inr e ↦ f e ]

-- whether the part that runs needs an element, read
pub awaits_get : (ps : List Part) (k : ℕ) (d p : Part) (f : Focus) → k < length ps → p ≡ get_or ps k d → row_awaits (map held ps) k f ≡ true → (held p).meant.awaits f ≡ true
awaits_get ps k d p f h e w = ap (λ p. (held p).meant.awaits f) e ∙ sym (same ps k h) ∙ w
  where
    same : (ps : List Part) (k : ℕ) → k < length ps → row_awaits (map held ps) k f ≡ (held (get_or ps k d)).meant.awaits f
    same [] k h = absurd (omega arith)
    same (p ∷ ps) zero h = refl
    same (p ∷ ps) (suc k) h = same ps k (omega arith)

-- whether the part that runs needs an element, written
pub awaits_set : (ps : List Part) (k : ℕ) (q : Part) (f : Focus) → k < length ps → (held q).meant.awaits f ≡ true → row_awaits (map held (slice_set ps k q)) k f ≡ true
awaits_set [] k q f h e = absurd (omega arith)
awaits_set (p ∷ ps) zero q f h e = e
awaits_set (p ∷ ps) (suc k) q f h e = awaits_set ps k q f (omega arith) e

-- nothing is needed behind the parts
pub awaits_past : (ps : List Part) (k : ℕ) (f : Focus) → length ps ≤ k → row_awaits (map held ps) k f ≡ true → ⊥
awaits_past [] k f h e = cc
awaits_past (p ∷ ps) zero f h e = omega arith
awaits_past (p ∷ ps) (suc k) f h e = awaits_past ps k f (omega arith) e

-- an end with a value is no stop
pub done_goes : (a : Answer) → a ≡ Done → a ≢ Stopped
done_goes a e = subst (λ a. a ≢ Stopped) (sym e) (λ k. absurd (cc))

-- a node that is a block needs what its part does
pub block_awaits : (m : Node) (u v : Vec Part Global) (span span' : Span) (f : Focus) → m ≡ Block v span → u ≡ v → span' ≡ span → is_waiting m f ≡ true → row_awaits (map held u.items) span'.at f ≡ true
block_awaits m u v span span' f e z y h =
    ap (λ u. row_awaits (map held u.items) span'.at f) z ∙ ap (λ t. row_awaits (map held v.items) t.at f) y ∙ sym (ap (λ r. r.awaits f) (meant-Block v span)) ∙ sym (ap (λ m. is_waiting m f) e) ∙ h
