-- A node, by what its parts mean.
use Rattle.std.specs.Prelude.{ℕ, zero, suc, ◌≡◌, refl, ◌+◌, ◌≤◌, ◌<◌, List, [], ◌∷◌, Option, true, map, length, drop, get_or, slice_set}
use Rattle.std.proofs.Common.{ap, sym, ◌∙◌, arith, rules}
use Rattle.std.specs.declared.vec.Vec.{Vec}
use Rattle.std.specs.declared.boxed.Box.{Box}
use Rattle.std.specs.declared.alloc.Global.{Global}
use Rattle.zir_bit_tree.specs.declared.value.Val.{Val}
use Rattle.zir_bit_tree.specs.declared.value.Val.TheVariants.{Unit as UnitVal}
use Rattle.zir_bit_tree.specs.declared.ends.End.TheVariants.{Value}
use Rattle.zir_tree.specs.declared.ident.Ident.{Ident}
use Rattle.zir_bit_tree.specs.declared.tree.Comp.{Comp, Block as BlockComp}
use Rattle.zir_bit_meaning.specs.Trace.{State}
use Rattle.zir_bit_meaning.specs.Component.{bind, leave}
use Rattle.zir_bit_laws.specs.Process.{Proc, Ends, NextProc, then_proc, turns_proc, proc, list_proc}
use Rattle.zir_bit_laws.proofs.Equations.{block-list, repeat-turns, pipe-piped}
use Rattle.zir_bit_laws.proofs.Fuel.{loop-next}
use Rattle.zir_machine.specs.declared.progress.Focus.{Focus}
use Rattle.zir_machine.specs.declared.progress.Focus.TheVariants.{Ended}
use Rattle.zir_machine.specs.declared.node.Node.{Node, Block, Repeat, Pipe, the_lemmas}
use Rattle.zir_machine.specs.declared.node.Part.{Part}
use Rattle.zir_machine.specs.declared.node.Link.{Link}
use Rattle.zir_machine.specs.declared.progress.Span.{Span}
use Rattle.zir_machine.specs.declared.node.Loop.{Loop}
use Rattle.zir_machine.specs.Understood.{members_of, row_in, row_sound, row_done, again, rest_of_row, loop_does, link_starts, link_does}
use Rattle.zir_machine.specs.Standing.{ended_value}
use Rattle.zir_machine.specs.Nodes.{row_of, loop_of, link_of, meant, held, looped, linked, comp_of, proc_in}

-- a block means what its parts do
pub meant-Block : (v : Vec Part Global) (span : Span) → meant (Block v span) ≡ row_of (map held v.items) span
meant-Block v span = search (rules, the_lemmas)

-- a repeat means what its body does
pub meant-Repeat : (b : Box Loop Global) → meant (Repeat b) ≡ loop_of (looped b.value)
meant-Repeat b = search (rules, the_lemmas)

-- a composition means what its sides do
pub meant-Pipe : (b : Box Link Global) → meant (Pipe b) ≡ link_of (linked b.value)
meant-Pipe b = search (rules, the_lemmas)

-- what follows the part at this place
abbrev pub after_part : List Part → ℕ → ℕ → Option Ident → NextProc
after_part ps k base name = rest_of_row (map held (drop (suc k) ps)) base name

-- the part that runs, read
pub row_get : (ps : List Part) (k base : ℕ) (d : Part) (f : Focus) (s : State) → k < length ps →
    row_in (map held ps) k base f s ≡ then_proc ((held (get_or ps k d)).meant.does f s) (after_part ps k base (held (get_or ps k d)).bound)
row_get [] k base d f s h = absurd (omega arith)
row_get (p ∷ ps) zero base d f s h = refl
row_get (p ∷ ps) (suc k) base d f s h = row_get ps k base d f s (omega arith)

-- the part that runs, written
pub row_set : (ps : List Part) (k base : ℕ) (q : Part) (f : Focus) (s : State) → k < length ps →
    row_in (map held (slice_set ps k q)) k base f s ≡ then_proc ((held q).meant.does f s) (after_part ps k base (held q).bound)
row_set [] k base q f s h = absurd (omega arith)
row_set (p ∷ ps) zero base q f s h = refl
row_set (p ∷ ps) (suc k) base q f s h = row_set ps k base q f s (omega arith)

-- the soundness of the part that runs, read
pub sound_get : (ps : List Part) (k : ℕ) (d : Part) (f : Focus) (s : State) → k < length ps → row_sound (map held ps) k f s ≡ (held (get_or ps k d)).meant.sound f s
sound_get [] k d f s h = absurd (omega arith)
sound_get (p ∷ ps) zero d f s h = refl
sound_get (p ∷ ps) (suc k) d f s h = sound_get ps k d f s (omega arith)

-- the soundness of the part that runs, written
pub sound_set : (ps : List Part) (k : ℕ) (q : Part) (f : Focus) (s : State) → k < length ps → row_sound (map held (slice_set ps k q)) k f s ≡ (held q).meant.sound f s
sound_set [] k q f s h = absurd (omega arith)
sound_set (p ∷ ps) zero q f s h = refl
sound_set (p ∷ ps) (suc k) q f s h = sound_set ps k q f s (omega arith)

-- a block is sound behind its parts
pub sound_past : (ps : List Part) (k : ℕ) (f : Focus) (s : State) → length ps ≤ k → row_sound (map held ps) k f s ≡ true
sound_past [] k f s h = refl
sound_past (p ∷ ps) zero f s h = absurd (omega arith)
sound_past (p ∷ ps) (suc k) f s h = sound_past ps k f s (omega arith)

-- a part that runs the same is the same member
members_put : (ps : List Part) (k : ℕ) (d q : Part) → (held q).bound ≡ (held (get_or ps k d)).bound → (held q).meant.what ≡ (held (get_or ps k d)).meant.what →
    members_of (map held (slice_set ps k q)) ≡ members_of (map held ps)
members_put [] k d q e h = refl
members_put (p ∷ ps) zero d q e h =
    ap (λ b. record { bound = b; what = (held q).meant.what } ∷ members_of (map held ps)) e ∙ ap (λ c. record { bound = (held p).bound; what = c } ∷ members_of (map held ps)) h
members_put (p ∷ ps) (suc k) d q e h = ap (λ ms. record { bound = (held p).bound; what = (held p).meant.what } ∷ ms) (members_put ps k d q e h)

-- a part that runs the same component leaves the block what it was
pub members_set : (ps : List Part) (k : ℕ) (d p q : Part) → p ≡ get_or ps k d → (held q).bound ≡ (held p).bound → (held q).meant.what ≡ (held p).meant.what →
    members_of (map held (slice_set ps k q)) ≡ members_of (map held ps)
members_set ps k d p q w e h = members_put ps k d q (e ∙ ap (λ p. (held p).bound) w) (h ∙ ap (λ p. (held p).meant.what) w)

-- the parts from one on
pub part_at : (ps : List Part) (k : ℕ) (d : Part) → k < length ps → drop k ps ≡ get_or ps k d ∷ drop (suc k) ps
part_at [] k d h = absurd (omega arith)
part_at (p ∷ ps) zero d h = refl
part_at (p ∷ ps) (suc k) d h = part_at ps k d (omega arith)

-- a block behind its parts is what its focus says
pub row_past : (ps : List Part) (k base : ℕ) (f : Focus) (s : State) → length ps ≤ k → row_in (map held ps) k base f s ≡ row_in [] 0 base f s
row_past [] k base f s h = refl
row_past (p ∷ ps) zero base f s h = absurd (omega arith)
row_past (p ∷ ps) (suc k) base f s h = row_past ps k base f s (omega arith)

-- there is nothing behind the parts
pub drop_past : (ps : List Part) (k : ℕ) → length ps ≤ k → drop k ps ≡ []
drop_past [] zero h = refl
drop_past [] (suc k) h = refl
drop_past (p ∷ ps) zero h = absurd (omega arith)
drop_past (p ∷ ps) (suc k) h = drop_past ps k (omega arith)

-- the parts from this place on, the first of which has begun
pub begins : (ps : List Part) (k base : ℕ) (v : Val) (d p q : Part) (f : Focus) (s s' : State) → k < length ps → p ≡ get_or ps k d →
    proc (held p).meant.what s ≡ (held q).meant.does f s' → (held q).bound ≡ (held p).bound →
    list_proc (members_of (map held (drop k ps))) base v s ≡ row_in (map held (slice_set ps k q)) k base f s'
begins ps k base v d p q f s s' h w e b =
    ap (λ ps. list_proc (members_of (map held ps)) base v s) (part_at ps k d h)
    ∙ ap (λ p. then_proc (proc (held p).meant.what s) (after_part ps k base (held p).bound)) (sym w)
    ∙ ap (λ r. then_proc r (after_part ps k base (held p).bound)) e
    ∙ ap (λ b. then_proc ((held q).meant.does f s') (after_part ps k base b)) (sym b)
    ∙ sym (row_set ps k base q f s' h)

-- a part that begins is sound in its block
pub begins_sound : (ps : List Part) (k : ℕ) (q : Part) (f : Focus) (s : State) → k < length ps → (held q).meant.sound f s ≡ true → row_sound (map held (slice_set ps k q)) k f s ≡ true
begins_sound ps k q f s h e = sound_set ps k q f s h ∙ e

-- no part is left
pub finishes : (ps : List Part) (k base : ℕ) (v : Val) (f : Focus) (s s' : State) → length ps ≤ k → f ≡ Ended v → s' ≡ leave base s →
    list_proc (members_of (map held (drop k ps))) base v s ≡ row_in (map held ps) k base f s'
finishes ps k base v f s s' h e g =
    ap (λ ps. list_proc (members_of (map held ps)) base v s) (drop_past ps k h)
    ∙ ap (λ s. Ends (Value v) s) (sym g)
    ∙ ap (λ f. row_in [] 0 base f s') (sym e)
    ∙ sym (row_past ps k base f s' h)

-- a turn of a loop begins
pub turn_begins : (c c' : Comp) (m : ℕ) (s s1 : State) (q : Proc) → s.left ≡ suc m → s1 ≡ record s { ticks = s.ticks + 1; left = m } → proc c s1 ≡ q → c' ≡ c → turns_proc s.left (proc c) s ≡ then_proc q (again c')
turn_begins c c' m s s1 q e g h k =
    loop-next c m s e ∙ ap (λ s. then_proc (proc c s) (again c)) (sym g) ∙ ap (λ p. then_proc p (again c)) h ∙ ap (λ c. then_proc q (again c)) (sym k)

-- a node whose kind is known means what its parts mean
pub as_block : (m : Node) (u v w : Vec Part Global) (span span' : Span) (n : ℕ) (f : Focus) (s s' : State) → m ≡ Block v span → u ≡ v → span'.at ≡ 0 → span'.base ≡ n → n ≡ length s.store →
    list_proc (members_of (map held (drop 0 u.items))) n UnitVal s ≡ row_in (map held w.items) 0 n f s' → proc (comp_of m) s ≡ proc_in (Block w span') f s'
as_block m u v w span span' n f s s' e z h k len g =
    ap (λ m. proc (comp_of m) s) e ∙ ap (λ r. proc r.what s) (meant-Block v span) ∙ block-list (members_of (map held v.items)) span.place s
    ∙ ap (λ n. list_proc (members_of (map held v.items)) n UnitVal s) (sym len)
    ∙ ap (λ ps. list_proc (members_of (map held ps)) n UnitVal s) (sym (drop-none v.items))
    ∙ ap (λ v. list_proc (members_of (map held (drop 0 v.items))) n UnitVal s) (sym z)
    ∙ g
    ∙ ap (λ k. row_in (map held w.items) k n f s') (sym h)
    ∙ ap (λ n. row_in (map held w.items) span'.at n f s') (sym k)
    ∙ sym (ap (λ r. r.does f s') (meant-Block w span'))
  where
    drop-none : (ps : List Part) → drop 0 ps ≡ ps
    drop-none [] = refl
    drop-none (p ∷ ps) = refl

-- a node that is a repeat
pub as_loop : (m x : Node) (a b b' : Box Loop Global) (f : Focus) (s s' : State) → m ≡ Repeat b → a ≡ b → x ≡ Repeat b' →
    turns_proc s.left (proc (looped a.value).body.what) s ≡ loop_does (looped b'.value) f s' → proc (comp_of m) s ≡ proc_in x f s'
as_loop m x a b b' f s s' e z y h =
    ap (λ m. proc (comp_of m) s) e ∙ ap (λ r. proc r.what s) (meant-Repeat b) ∙ repeat-turns (looped b.value).body.what (looped b.value).place s
    ∙ ap (λ b. turns_proc s.left (proc (looped b.value).body.what) s) (sym z) ∙ h ∙ sym (ap (λ r. r.does f s') (meant-Repeat b')) ∙ sym (ap (λ x. proc_in x f s') y)

-- a node that is a composition
pub as_pipe : (m x : Node) (a b b' : Box Link Global) (f : Focus) (s s' : State) → m ≡ Pipe b → a ≡ b → x ≡ Pipe b' →
    link_starts (linked a.value) s ≡ link_does (linked b'.value) f s' → proc (comp_of m) s ≡ proc_in x f s'
as_pipe m x a b b' f s s' e z y h =
    ap (λ m. proc (comp_of m) s) e ∙ ap (λ r. proc r.what s) (meant-Pipe b) ∙ pipe-piped (linked b.value).left.what (linked b.value).right.what (linked b.value).place s
    ∙ ap (λ b. link_starts (linked b.value) s) (sym z) ∙ h ∙ sym (ap (λ r. r.does f s') (meant-Pipe b')) ∙ sym (ap (λ x. proc_in x f s') y)

-- a block of the same members runs the same component
pub block_same : (m : Node) (u v w : Vec Part Global) (span span' : Span) → m ≡ Block v span → u ≡ v → span'.place ≡ span.place → members_of (map held w.items) ≡ members_of (map held u.items) → comp_of (Block w span') ≡ comp_of m
block_same m u v w span span' e z y h =
    ap (λ r. r.what) (meant-Block w span') ∙ ap (λ ms. BlockComp ms span'.place) h ∙ ap (λ v. BlockComp (members_of (map held v.items)) span'.place) z ∙ ap (BlockComp (members_of (map held v.items))) y
    ∙ sym (ap (λ r. r.what) (meant-Block v span)) ∙ sym (ap comp_of e)

-- a part that ended, read
done_get : (ps : List Part) (k : ℕ) (d : Part) (f : Focus) (s : State) → k < length ps → row_done (map held ps) k f s → (held (get_or ps k d)).meant.does f s ≡ Ends (Value (ended_value f)) s
done_get [] k d f s h e = absurd e
done_get (p ∷ ps) zero d f s h e = e
done_get (p ∷ ps) (suc k) d f s h e = done_get ps k d f s (omega arith) e

-- a part that ended, written
pub done_put : (ps : List Part) (k : ℕ) (q : Part) (f : Focus) (s : State) → k < length ps → (held q).meant.does f s ≡ Ends (Value (ended_value f)) s → row_done (map held (slice_set ps k q)) k f s
done_put [] k q f s h e = absurd (omega arith)
done_put (p ∷ ps) zero q f s h e = e
done_put (p ∷ ps) (suc k) q f s h e = done_put ps k q f s (omega arith) e

-- what follows the part that has ended
pub row_next : (ps : List Part) (k base : ℕ) (d p : Part) (name : Option Ident) (f : Focus) (v : Val) (s s2 : State) (r : Proc) → k < length ps → p ≡ get_or ps k d → name ≡ (held p).bound → v ≡ ended_value f →
    row_done (map held ps) k f s → s2 ≡ bind name v s → list_proc (members_of (map held (drop (k + 1) ps))) base v s2 ≡ r → row_in (map held ps) k base f s ≡ r
row_next ps k base d p name f v s s2 r h e b w done g z =
    let one : suc k ≡ k + 1 = omega arith in
    row_get ps k base d f s h
    ∙ ap (λ q. then_proc q (after_part ps k base (held (get_or ps k d)).bound)) (done_get ps k d f s h done)
    ∙ ap (λ v. after_part ps k base (held (get_or ps k d)).bound v s) (sym w)
    ∙ ap (λ p. after_part ps k base (held p).bound v s) (sym e)
    ∙ ap (λ b. after_part ps k base b v s) (sym b)
    ∙ ap (λ s. list_proc (members_of (map held (drop (suc k) ps))) base v s) (sym g)
    ∙ ap (λ n. list_proc (members_of (map held (drop n ps))) base v s2) one
    ∙ z
