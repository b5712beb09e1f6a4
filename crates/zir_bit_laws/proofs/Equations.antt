-- Equations of the meaning by the values that code has, and laws of what follows a process.
use Rattle.std.specs.Prelude.{ℕ, List, [], ◌∷◌, ◌++◌, ◌≡◌, refl, length}
use Rattle.std.proofs.Common.{ap, ◌∙◌}
use denote.Hole.Carrier.{hidden}
use Rattle.zir_bit_tree.specs.declared.value.Val.{Val}
use Rattle.zir_bit_tree.specs.declared.value.Val.TheVariants.{Unit as UnitVal}
use Rattle.zir_tree.specs.declared.place.Place.{Place}
use Rattle.zir_bit_tree.specs.declared.ends.End.TheVariants.{Value, Starved, Trap as Trapped, Spent}
use Rattle.zir_bit_tree.specs.declared.tree.Expr.{Expr, Xor}
use Rattle.zir_bit_tree.specs.declared.tree.Expr.TheBlock.{shape-the_row-Expr-0, hidden-the_row-Expr-0}
use Rattle.zir_bit_tree.specs.declared.tree.Comp.{Comp, Take, Emit, Return, Block, Block', Repeat, Repeat', Pipe, Pipe', end_of-Comp, more_of-Comp, Row_of-Member, end_of-Member, more_of-Member}
use Rattle.zir_bit_tree.specs.declared.tree.Comp.TheBlock.{shape-the_row-Member-0, hidden-the_row-Member-0, shape-the_row-Comp-1, hidden-the_row-Comp-1}
use Rattle.zir_bit_tree.specs.declared.tree.Member.{Member}
use Rattle.zir_bit_meaning.specs.Store.{Store, merge}
use Rattle.zir_bit_meaning.specs.Trace.{State, point}
use Rattle.zir_bit_meaning.specs.Evaluation.{Got, ev, then_eval, xor_of}
use Rattle.zir_bit_meaning.specs.Composition.{fresh}
use Rattle.zir_bit_meaning.specs.Component.{bind, assigns, row_assigns}
use Rattle.zir_bit_laws.specs.Process.{Proc, Gives, Ends, Needs, NextProc, then_proc, turns_proc, piped, proc, members_proc, list_proc}

-- functions that agree everywhere are equal
pub funext : {A : Type 0} {B : Type 0} (f g : A → B) → ((x : A) → f x ≡ g x) → f ≡ g
funext f g h = λ i x. h x i

-- an exclusive or evaluates its parts from left to right
pub ev-Xor : (a b : Expr) (p : Place) (s : State) → ev (Xor a b p) s ≡ then_eval (ev a s) (λ v s'. then_eval (ev b s') (λ w s''. Got (xor_of v w) s''))
unfolding shape-the_row-Expr-0 hidden-the_row-Expr-0 hidden
ev-Xor a b p s = refl

-- a row of members is as a process what the list of them is
members-list : (ms : List Member) (n : ℕ) (v : Val) (s : State) → members_proc (hidden-the_row-Member-0 ms) n v s ≡ list_proc ms n v s
unfolding shape-the_row-Member-0 hidden-the_row-Member-0 hidden
members-list [] n v s = refl
members-list (m ∷ ms) n v s = ap (then_proc (proc m.what s)) (funext _ _ (λ w. funext _ _ (λ s'. members-list ms n w (bind m.bound w s'))))

-- the process of a block is that of the list of its members
pub block-list : (ms : List Member) (p : Place) (s : State) → proc (Block ms p) s ≡ list_proc ms (length s.store) UnitVal s
unfolding shape-the_row-Member-0 hidden-the_row-Member-0 hidden
block-list ms p s = members-list ms (length s.store) UnitVal s

-- the process of a loop is turns of its body, at most as many as ticks are left
pub repeat-turns : (c : Comp) (p : Place) (s : State) → proc (Repeat c p) s ≡ turns_proc s.left (proc c) s
unfolding shape-the_row-Comp-1 hidden-the_row-Comp-1 hidden
repeat-turns c p s = refl

-- the process of a composition is that of its right side over that of its left side
pub pipe-piped : (a b : Comp) (p : Place) (s : State) → proc (Pipe a b p) s ≡ piped (assigns a) (length s.store) s (proc b (fresh s)) (point s) (proc a s)
unfolding shape-the_row-Comp-1 hidden-the_row-Comp-1 hidden
pipe-piped a b p s = refl

-- two empty lists are empty
append-none : (a b : List ℕ) → a ≡ [] → b ≡ [] → a ++ b ≡ []
append-none a b e f = ap (λ a. a ++ b) e ∙ f

mutual
  -- no form of the language assigns a variable yet
  pub assigns-none : (c : Comp) → assigns c ≡ []
  assigns-none (Take p) = refl
  assigns-none (Emit e p) = refl
  assigns-none (Return e p) = refl
  assigns-none (Block' _ ms p) = row_assigns-none ms
  assigns-none (Repeat' _ (more_of-Comp c end_of-Comp) p) = assigns-none c
  assigns-none (Pipe' _ (more_of-Comp a end_of-Comp) _ (more_of-Comp b end_of-Comp) p) = append-none (assigns a) (assigns b) (assigns-none a) (assigns-none b)

  -- nor do the members of a block
  row_assigns-none : {m : _} (ms : Row_of-Member m) → row_assigns ms ≡ []
  row_assigns-none end_of-Member = refl
  row_assigns-none (more_of-Member name c ms) = append-none (assigns c) (row_assigns ms) (assigns-none c) (row_assigns-none ms)

-- where the left side assigns nothing the merged store is the right one
pub merge-none : (left right : Store) → merge [] left right ≡ right
merge-none left [] = refl
merge-none left (slot ∷ right) = ap (λ store. slot ∷ store) (merge-none left right)

-- what follows twice may be joined
pub then-assoc : (p : Proc) (f g : NextProc) → then_proc (then_proc p f) g ≡ then_proc p (λ v s. then_proc (f v s) g)
then-assoc (Gives o p) f g = ap (Gives o) (then-assoc p f g)
then-assoc (Ends (Value v) s) f g = refl
then-assoc (Ends Starved s) f g = refl
then-assoc (Ends (Trapped t) s) f g = refl
then-assoc (Ends Spent s) f g = refl
then-assoc (Needs s next) f g = ap (Needs s) (funext _ _ (λ x. then-assoc (next x) f g))
