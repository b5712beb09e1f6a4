-- The trace of a component over the whole list of its input elements.
use Rattle.std.specs.Prelude.{ℕ, zero, suc, ◌+◌, ℤ, pos, List, [], ◌∷◌, ◌++◌, Bool, true, false, not, Option, Some, None}
use Rattle.zir_tree.specs.declared.value.Val.{Val, Unit as UnitVal, Bool as BoolVal, Num, List as Vals}
use Rattle.zir_tree.specs.declared.ident.Ident.{Ident}
use Rattle.zir_tree.specs.declared.ends.End.TheVariants.{Value, Starved}
use Rattle.zir_tree.specs.declared.expr.Callee.TheVariants.{Function}
use Rattle.zir_tree.specs.declared.comp.Turning.{Turning}
use Rattle.zir_tree.specs.declared.comp.Turning.TheVariants.{While, Until}
use Rattle.zir_tree.specs.declared.comp.Comp.{Comp, Take, Takes, Emit, Emits, Return, Do, Repeat', While', Times', For', If', Map, Filter, Call, Block', Pipe', end_of-Comp, more_of-Comp, Row_of-Member, end_of-Member, more_of-Member}
use Rattle.zir_tree.specs.declared.comp.Member.{Bind, Var, Run}
use Rattle.zir_meaning.specs.Values.{parts, is_one, num_of}
use Rattle.zir_meaning.specs.Store.{depth}
use Rattle.zir_meaning.specs.Trace.{State, point, Trace, spent, ends, gives, then_do, tick}
use Rattle.zir_meaning.specs.Evaluation.{Eval, Got, Library, then_eval, ev, called_by, with_value, with_values}
use Rattle.zir_meaning.specs.Statements.{bind, leave, turns_of, next_index, initial_of, run_body}
use Rattle.zir_meaning.specs.Assigned.{Assigning, assigns}
use Rattle.zir_meaning.specs.Composition.{compose, fresh, values}

-- what a component does from a state over some elements
abbrev pub Does : Type 0
Does = State → List Val → Trace

-- one element, which costs a tick; without one the component starves, whatever ticks are left
abbrev pub take_of : Does
take_of s [] = ends Starved s []
take_of s (x ∷ xs) = tick s xs (λ s' ys. ends (Value x) (record s' { taken = s'.taken + 1 }) ys)

-- so many more elements behind these, one after the other, as an array
abbrev pub takes_of : ℕ → List Val → Does
takes_of zero vs s xs = ends (Value (Vals vs)) s xs
takes_of (suc n) vs s xs = then_do (take_of s xs) (λ v s' ys. takes_of n (vs ++ v ∷ []) s' ys)

-- these values as outputs, each after a tick
abbrev pub outputs : List Val → Does
outputs [] s xs = ends (Value UnitVal) s xs
outputs (v ∷ vs) s xs = tick s xs (λ s' ys. gives (record { value = v; at = point s' }) (outputs vs s' ys))

-- an end with this value after a tick
abbrev pub returns : Val → Does
returns v s xs = tick s xs (λ s' ys. ends (Value v) s' ys)

-- one of two components
abbrev pub choose : Bool → Does → Does → Does
choose true a b s xs = a s xs
choose false a b s xs = b s xs

-- a turn where the test holds, and else an end with unit
abbrev pub turn_if : Eval → Does → List Val → Trace
turn_if e turn xs = with_value e xs (λ v s ys. choose (is_one v) turn (λ s' zs. ends (Value UnitVal) s' zs) s ys)

-- a body again and again while the test holds, each turn after a tick; the ticks left bound the number of turns
abbrev pub turns : ℕ → (State → Eval) → Does → Does
turns zero test body s xs = turn_if (test s) (λ s' ys. spent) xs
turns (suc more) test body s xs =
    turn_if (test s) (λ s' ys. tick s' ys (λ s'' zs. then_do (body s'' zs) (λ v s3 ws. turns more test body s3 ws))) xs

-- a test that always holds
abbrev pub always : State → Eval
always s = Got (BoolVal true) s

-- an evaluation whose value is true where the given one's is not
abbrev pub inverted : Eval → Eval
inverted e = then_eval e (λ v s. Got (BoolVal (not (is_one v))) s)

-- the test of a loop that turns while its condition holds, or until it does
abbrev pub test_of : Turning → (State → Eval) → State → Eval
test_of While condition s = condition s
test_of Until condition s = inverted (condition s)

-- an index comes into scope, where there is a name for it
abbrev pub bind_index : Option Ident → ℤ → State → State
bind_index None i s = s
bind_index (Some name) i s = bind name.id (Num i) s

-- so many turns, each after a tick and with the next index for the name
abbrev pub counted : ℕ → Option Ident → ℤ → Does → Does
counted zero name i body s xs = ends (Value UnitVal) s xs
counted (suc more) name i body s xs =
    tick s xs (λ s' ys. then_do (body (bind_index name i s') ys) (λ v s'' zs. counted more name (next_index i) body (leave (depth s.store) s'') zs))

-- one element, and the function of it as an output
abbrev pub mapped : Library → ℕ → Does
mapped l k s xs = then_do (take_of s xs) (λ x s' ys. with_value (called_by l (Function k) (x ∷ []) s') ys (λ v s'' zs. outputs (v ∷ []) s'' zs))

-- one element, as an output where the function of it is true, and else nothing after a tick
abbrev pub filtered : Library → ℕ → Does
filtered l k s xs =
    then_do (take_of s xs) (λ x s' ys. with_value (called_by l (Function k) (x ∷ []) s') ys
    (λ v s'' zs. choose (is_one v) (outputs (x ∷ [])) (returns UnitVal) s'' zs))

-- what a component rests on besides itself: what expressions rest on, and what functions and instances assign
pub record Around : Type 0 where
  pub library : Library
  pub assigned : Assigning

-- what each instance declared before does with the values of its arguments, by its place
abbrev pub Comps : Type 0
Comps = ℕ → List Val → Does

abbrev mutual
  -- the trace of a component from a state over these elements
  pub tr : Around → Comps → Comp → Does
  tr r comps (Take p) s xs = take_of s xs
  tr r comps (Takes n p) s xs = takes_of n [] s xs
  tr r comps (Emit e p) s xs = with_value (ev r.library e s) xs (λ v s' ys. outputs (v ∷ []) s' ys)
  tr r comps (Emits e p) s xs = with_value (ev r.library e s) xs (λ v s' ys. outputs (parts v) s' ys)
  tr r comps (Return e p) s xs = with_value (ev r.library e s) xs (λ v s' ys. returns v s' ys)
  tr r comps (Do body p) s xs = tick s xs (λ s' ys. with_value (run_body r.library body s') ys (λ v s'' zs. ends (Value v) s'' zs))
  tr r comps (Repeat' _ (more_of-Comp c end_of-Comp) p) s xs = turns s.left always (tr r comps c) s xs
  tr r comps (While' turning e _ (more_of-Comp c end_of-Comp) p) s xs = turns s.left (test_of turning (ev r.library e)) (tr r comps c) s xs
  tr r comps (Times' e _ (more_of-Comp c end_of-Comp) p) s xs =
      with_value (ev r.library e s) xs (λ v s' ys. counted (turns_of (num_of v)) None (pos 0) (tr r comps c) s' ys)
  tr r comps (For' name a n _ (more_of-Comp c end_of-Comp) p) s xs =
      with_value (ev r.library a s) xs (λ v s' ys. with_value (ev r.library n s') ys
      (λ w s'' zs. counted (turns_of (num_of w)) (Some name) (num_of v) (tr r comps c) s'' zs))
  tr r comps (If' e _ (more_of-Comp a end_of-Comp) _ (more_of-Comp b end_of-Comp) p) s xs =
      with_value (ev r.library e s) xs (λ v s' ys. choose (is_one v) (tr r comps a) (tr r comps b) s' ys)
  tr r comps (Map f k p) s xs = turns s.left always (mapped r.library k) s xs
  tr r comps (Filter f k p) s xs = turns s.left always (filtered r.library k) s xs
  tr r comps (Call name k es) s xs = with_values r.library es [] s xs (λ vs s' ys. tick s' ys (λ s'' zs. comps k vs s'' zs))
  tr r comps (Block' _ ms p) s xs = members r comps ms (depth s.store) UnitVal s xs
  tr r comps (Pipe' link _ (more_of-Comp a end_of-Comp) _ (more_of-Comp b end_of-Comp) p) s xs =
      let left = tr r comps a s xs in compose (assigns r.assigned a) s xs left (tr r comps b (fresh s) (values left.outs))

  -- the members of a block, at whose start so many names were in scope, after a member that ended with v
  pub members : {m : _} → Around → Comps → Row_of-Member m → ℕ → Val → Does
  members r comps end_of-Member n v s xs = ends (Value v) (leave n s) xs
  members r comps (more_of-Member (Bind name c) ms) n v s xs =
      then_do (tr r comps c s xs) (λ w s' ys. members r comps ms n w (bind name.id w s') ys)
  members r comps (more_of-Member (Var var) ms) n v s xs =
      with_value (initial_of r.library var.ty var.initial s) xs (λ w s' ys. members r comps ms n UnitVal (bind var.name.id w s') ys)
  members r comps (more_of-Member (Run c) ms) n v s xs = then_do (tr r comps c s xs) (λ w s' ys. members r comps ms n w s' ys)
