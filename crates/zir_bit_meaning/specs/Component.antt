-- The trace of a component over the whole list of its input elements.
use Rattle.std.specs.Prelude.{ℕ, zero, suc, ◌+◌, List, [], ◌∷◌, ◌++◌, Option, take, length}
use Rattle.zir_bit_tree.specs.declared.value.Val.{Val}
use Rattle.zir_bit_tree.specs.declared.value.Val.TheVariants.{Unit as UnitVal}
use Rattle.zir_bit_tree.specs.declared.ends.End.TheVariants.{Value, Starved}
use Rattle.zir_tree.specs.declared.ident.Ident.{Ident}
use Rattle.zir_bit_tree.specs.declared.tree.Comp.{Comp, Take, Emit, Return, Block', Repeat', Pipe', end_of-Comp, more_of-Comp, Row_of-Member, end_of-Member, more_of-Member}
use Rattle.zir_bit_meaning.specs.Store.{bound}
use Rattle.zir_bit_meaning.specs.Trace.{State, point, Trace, spent, ends, gives, then_do, tick}
use Rattle.zir_bit_meaning.specs.Evaluation.{ev, with_value}
use Rattle.zir_bit_meaning.specs.Composition.{compose, fresh, values}

-- one element, which costs a tick; without one the component starves, whatever ticks are left
abbrev pub take_of : State → List Val → Trace
take_of s [] = ends Starved s []
take_of s (x ∷ xs) = tick s xs (λ s' ys. ends (Value x) (record s' { taken = s'.taken + 1 }) ys)

-- a body again and again, each turn after a tick; the ticks left bound the number of turns
abbrev pub turns : ℕ → (State → List Val → Trace) → State → List Val → Trace
turns zero body s xs = spent
turns (suc more) body s xs = tick s xs (λ s' ys. then_do (body s' ys) (λ v s'' zs. turns more body s'' zs))

-- a name comes into scope with a value
abbrev pub bind : Option Ident → Val → State → State
bind name v s = record s { store = bound name v s.store }

-- what came into scope since the store had this length leaves it
abbrev pub leave : ℕ → State → State
leave n s = record s { store = take n s.store }

-- the numbers of the variables that a component assigns
abbrev mutual
  pub assigns : Comp → List ℕ
  assigns (Take p) = []
  assigns (Emit e p) = []
  assigns (Return e p) = []
  assigns (Block' _ ms p) = row_assigns ms
  assigns (Repeat' _ (more_of-Comp c end_of-Comp) p) = assigns c
  assigns (Pipe' _ (more_of-Comp a end_of-Comp) _ (more_of-Comp b end_of-Comp) p) = assigns a ++ assigns b

  pub row_assigns : {m : _} → Row_of-Member m → List ℕ
  row_assigns end_of-Member = []
  row_assigns (more_of-Member name c ms) = assigns c ++ row_assigns ms

abbrev mutual
  -- the trace of a component from a state over these elements
  pub tr : Comp → State → List Val → Trace
  tr (Take p) s xs = take_of s xs
  tr (Emit e p) s xs =
      with_value (ev e s) xs (λ v s' ys. tick s' ys (λ s'' zs. gives (record { value = v; at = point s'' }) (ends (Value UnitVal) s'' zs)))
  tr (Return e p) s xs = with_value (ev e s) xs (λ v s' ys. tick s' ys (λ s'' zs. ends (Value v) s'' zs))
  tr (Block' _ ms p) s xs = members ms (length s.store) UnitVal s xs
  tr (Repeat' _ (more_of-Comp c end_of-Comp) p) s xs = turns s.left (tr c) s xs
  tr (Pipe' _ (more_of-Comp a end_of-Comp) _ (more_of-Comp b end_of-Comp) p) s xs =
      let left = tr a s xs in compose (assigns a) s xs left (tr b (fresh s) (values left.outs))

  -- the members of a block, at whose start the store had length n, after a member that ended with v
  pub members : {m : _} → Row_of-Member m → ℕ → Val → State → List Val → Trace
  members end_of-Member n v s xs = ends (Value v) (leave n s) xs
  members (more_of-Member name c ms) n v s xs = then_do (tr c s xs) (λ w s' ys. members ms n w (bind name w s') ys)
