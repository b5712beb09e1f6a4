-- Equations of the meaning by the values that code has, and laws of what follows a process.
use Rattle.std.specs.Prelude.{ℕ, pos, List, [], ◌∷◌, Some, None, ◌≡◌, refl}
use Rattle.std.proofs.Common.{ap, ◌∙◌}
use denote.Hole.Carrier.{hidden}
use Rattle.zir_tree.specs.declared.place.Place.{Place}
use Rattle.zir_tree.specs.declared.value.Val.{Val, Unit as UnitVal}
use Rattle.zir_tree.specs.declared.value.Slot.{Slot}
use Rattle.zir_tree.specs.declared.ident.Ident.{Ident}
use Rattle.zir_tree.specs.declared.expr.Expr.{Expr}
use Rattle.zir_tree.specs.declared.comp.Turning.{Turning}
use Rattle.zir_tree.specs.declared.comp.Link.{Link}
use Rattle.zir_tree.specs.declared.comp.Comp.{Comp, Repeat, While, Times, For, If, Block, Pipe}
use Rattle.zir_tree.specs.declared.comp.Comp.TheBlock.{shape-the_row-Member-1, hidden-the_row-Member-1, shape-the_row-Comp-0, hidden-the_row-Comp-0}
use Rattle.zir_tree.specs.declared.comp.Member.{Member, Bind, Var, Run}
use Rattle.zir_tree.specs.declared.ends.End.TheVariants.{Value, Starved, Trap as Trapped, Spent}
use Rattle.zir_meaning.specs.Values.{is_one, num_of}
use Rattle.zir_meaning.specs.Store.{Store, depth, merge_slots, merge}
use Rattle.zir_meaning.specs.Trace.{State, point}
use Rattle.zir_meaning.specs.Evaluation.{ev}
use Rattle.zir_meaning.specs.Statements.{bind, turns_of, initial_of}
use Rattle.zir_meaning.specs.Assigned.{assigns}
use Rattle.zir_meaning.specs.Composition.{fresh}
use Rattle.zir_meaning.specs.Component.{always, test_of, Around}
use Rattle.zir_laws.specs.Process.{Proc, Gives, Ends, Needs, NextProc, then_proc, with_proc, choose_proc, turns_proc, counted_proc, piped, Procs, proc, members_proc, list_proc}

-- functions that agree everywhere are equal
pub funext : {A : Type 0} {B : Type 0} (f g : A → B) → ((x : A) → f x ≡ g x) → f ≡ g
funext f g h = λ i x. h x i

-- where the left side assigns nothing the merged variables are the right ones
merge_slots-none : (left right : List Slot) → merge_slots [] left right ≡ right
merge_slots-none left [] = refl
merge_slots-none left (slot ∷ right) = ap (λ slots. slot ∷ slots) (merge_slots-none left right)

-- where the left side assigns nothing the merged store is the right one
pub merge-none : (left right : Store) → merge [] left right ≡ right
merge-none left right =
    ap (λ tops. record { tops = tops; locals = merge_slots [] left.locals right.locals }) (merge_slots-none left.tops right.tops)
    ∙ ap (λ locals. record right { locals = locals }) (merge_slots-none left.locals right.locals)

-- what follows twice may be joined
pub then-assoc : (p : Proc) (f g : NextProc) → then_proc (then_proc p f) g ≡ then_proc p (λ v s. then_proc (f v s) g)
then-assoc (Gives o p) f g = ap (Gives o) (then-assoc p f g)
then-assoc (Ends (Value v) s) f g = refl
then-assoc (Ends Starved s) f g = refl
then-assoc (Ends (Trapped t) s) f g = refl
then-assoc (Ends Spent s) f g = refl
then-assoc (Needs s next) f g = ap (Needs s) (funext _ _ (λ x. then-assoc (next x) f g))

-- the process of a loop is turns of its body, at most as many as ticks are left
pub repeat-turns : (r : Around) (procs : Procs) (c : Comp) (p : Place) (s : State) → proc r procs (Repeat c p) s ≡ turns_proc s.left always (proc r procs c) s
unfolding shape-the_row-Comp-0 hidden-the_row-Comp-0 hidden
repeat-turns r procs c p s = refl

-- the process of a loop with a condition
pub while-turns : (r : Around) (procs : Procs) (turning : Turning) (e : Expr) (c : Comp) (p : Place) (s : State) →
    proc r procs (While turning e c p) s ≡ turns_proc s.left (test_of turning (ev r.library e)) (proc r procs c) s
unfolding shape-the_row-Comp-0 hidden-the_row-Comp-0 hidden
while-turns r procs turning e c p s = refl

-- the process of so many turns
pub times-counted : (r : Around) (procs : Procs) (e : Expr) (c : Comp) (p : Place) (s : State) →
    proc r procs (Times e c p) s ≡ with_proc (ev r.library e s) (λ v s'. counted_proc (turns_of (num_of v)) None (pos 0) (proc r procs c) s')
unfolding shape-the_row-Comp-0 hidden-the_row-Comp-0 hidden
times-counted r procs e c p s = refl

-- the process of so many turns with an index
pub for-counted : (r : Around) (procs : Procs) (name : Ident) (a n : Expr) (c : Comp) (p : Place) (s : State) →
    proc r procs (For name a n c p) s ≡ with_proc (ev r.library a s) (λ v s'. with_proc (ev r.library n s')
    (λ w s''. counted_proc (turns_of (num_of w)) (Some name) (num_of v) (proc r procs c) s''))
unfolding shape-the_row-Comp-0 hidden-the_row-Comp-0 hidden
for-counted r procs name a n c p s = refl

-- the process of one of two components
pub if-choose : (r : Around) (procs : Procs) (e : Expr) (a b : Comp) (p : Place) (s : State) →
    proc r procs (If e a b p) s ≡ with_proc (ev r.library e s) (λ v s'. choose_proc (is_one v) (proc r procs a) (proc r procs b) s')
unfolding shape-the_row-Comp-0 hidden-the_row-Comp-0 hidden
if-choose r procs e a b p s = refl

-- the process of a composition is that of its right side over that of its left side
pub pipe-piped : (r : Around) (procs : Procs) (link : Link) (a b : Comp) (p : Place) (s : State) →
    proc r procs (Pipe link a b p) s ≡ piped (assigns r.assigned a) (depth s.store) s (proc r procs b (fresh s)) (point s) (proc r procs a s)
unfolding shape-the_row-Comp-0 hidden-the_row-Comp-0 hidden
pipe-piped r procs link a b p s = refl

-- a row of members is as a process what the list of them is
members-list : (r : Around) (procs : Procs) (ms : List Member) (n : ℕ) (v : Val) (s : State) →
    members_proc r procs (hidden-the_row-Member-1 ms) n v s ≡ list_proc r procs ms n v s
unfolding shape-the_row-Member-1 hidden-the_row-Member-1 hidden
members-list r procs [] n v s = refl
members-list r procs (Bind name c ∷ ms) n v s =
    ap (then_proc (proc r procs c s)) (funext _ _ (λ w. funext _ _ (λ s'. members-list r procs ms n w (bind name.id w s'))))
members-list r procs (Var var ∷ ms) n v s =
    ap (with_proc (initial_of r.library var.ty var.initial s))
    (funext _ _ (λ w. funext _ _ (λ s'. members-list r procs ms n UnitVal (bind var.name.id w s'))))
members-list r procs (Run c ∷ ms) n v s =
    ap (then_proc (proc r procs c s)) (funext _ _ (λ w. funext _ _ (λ s'. members-list r procs ms n w s')))

-- the process of a block is that of the list of its members
pub block-list : (r : Around) (procs : Procs) (ms : List Member) (p : Place) (s : State) →
    proc r procs (Block ms p) s ≡ list_proc r procs ms (depth s.store) UnitVal s
unfolding shape-the_row-Member-1 hidden-the_row-Member-1 hidden
block-list r procs ms p s = members-list r procs ms (depth s.store) UnitVal s
