-- What a run of programs is: their outputs, how it ended, and the elements that it took.
use Rattle.std.specs.Prelude.{ℕ, suc, ◌+◌, Bool, true, false, List, [], ◌∷◌, ◌++◌}
use Rattle.zir_tree.specs.declared.value.Val.{Val, Unit as UnitVal}
use Rattle.zir_tree.specs.declared.ends.Trap.{Trap}
use Rattle.zir_tree.specs.declared.ends.End.{End}
use Rattle.zir_tree.specs.declared.ends.End.TheVariants.{Value, Starved, Trap as Trapped, Spent}
use Rattle.zir_tree.specs.declared.stmt.Var.{Var}
use Rattle.zir_tree.specs.declared.program.Core.{Core}
use Rattle.zir_meaning.specs.Store.{declared, empty}
use Rattle.zir_meaning.specs.Trace.{State, Trace}
use Rattle.zir_meaning.specs.Evaluation.{Eval, Got, Library, then_eval, with_value}
use Rattle.zir_meaning.specs.Statements.{initial_of}
use Rattle.zir_meaning.specs.Functions.{library_of}
use Rattle.zir_meaning.specs.Composition.{values}
use Rattle.zir_meaning.specs.Instances.{means}
use Rattle.zir_meaning.specs.Elements.{Elements, Tail, Ended, Malformed, Open, element_values}

-- a top variable gets its value
abbrev pub declare : ℕ → Val → State → State
declare id v s = record s { store = declared id v s.store }

-- the initial values of top variables, in the order of the text
abbrev pub top_values : Library → List Var → State → Eval
top_values l [] s = Got UnitVal s
top_values l (v ∷ vs) s = then_eval (initial_of l v.ty v.initial s) (λ w s'. top_values l vs (declare v.name.id w s'))

-- the trace of a program: its top variables, and then its main component
abbrev pub program_trace : Core → State → List Val → Trace
program_trace core s xs = with_value (top_values (library_of core.structs core.functions) core.variables s) xs (λ v s' ys. means core core.main s' ys)

-- how a run ended
pub data RunEnd : Type 0 where
  ByValue : (v : Val) → RunEnd
  ByInput : RunEnd
  ByTrap : (t : Trap) → RunEnd
  ByBudget : RunEnd
  ByMalformed : (at : ℕ) → RunEnd
  ByReadFault : RunEnd

-- the outputs of all programs, the end, how many elements were taken, and the number of the last program, from 0
pub record Run : Type 0 where
  pub outs : List Val
  pub end : RunEnd
  pub taken : ℕ
  pub program : ℕ

-- a component that starves ends as its input does
abbrev pub starved_end : Tail → RunEnd
starved_end Ended = ByInput
starved_end (Malformed at) = ByMalformed at
starved_end Open = ByReadFault

-- the end of a run by that of its last program
abbrev pub run_end : Tail → End → RunEnd
run_end tail (Value v) = ByValue v
run_end tail Starved = starved_end tail
run_end tail (Trapped t) = ByTrap t
run_end tail Spent = ByBudget

-- the input has ended
abbrev pub has_ended : Tail → Bool
has_ended Ended = true
has_ended (Malformed at) = false
has_ended Open = false

-- the next program runs after a value and at the end of the input
abbrev pub goes_on : Tail → End → Bool
goes_on tail (Value v) = true
goes_on tail Starved = has_ended tail
goes_on tail (Trapped t) = false
goes_on tail Spent = false

-- where a program begins, with so many ticks
abbrev pub start : ℕ → State
start n = record { taken = 0; ticks = 0; left = n; store = empty }

-- a run that ends with this trace of the program of this number, before which so many elements were taken
abbrev pub last_run : Tail → ℕ → ℕ → Trace → Run
last_run tail number taken t = record { outs = values t.outs; end = run_end tail t.end; taken = taken + t.last.taken; program = number }

-- some outputs, and then a run
abbrev pub outs_then : List Val → Run → Run
outs_then vs r = record r { outs = vs ++ r.outs }

-- a trace, and behind it a run where it goes on
abbrev pub run_if : Bool → Run → List Val → (Trace → Run) → Trace → Run
run_if true here vs next t = outs_then vs (next t)
run_if false here vs next t = here

-- a run that has come to this trace of the program of this number, with more programs behind it: each goes on with the elements that are not taken and
-- the ticks that are left
abbrev pub run_from : Tail → ℕ → ℕ → List Core → Trace → Run
run_from tail number taken [] t = last_run tail number taken t
run_from tail number taken (core ∷ more) t =
    run_if (goes_on tail t.end) (last_run tail number taken t) (values t.outs)
    (λ u. run_from tail (suc number) (taken + t.last.taken) more (program_trace core (start u.last.left) u.rest)) t

-- the run of a program and of more programs behind it over these elements, with so many ticks in all
abbrev pub run_of : Core → List Core → Elements → ℕ → Run
run_of core more es n = run_from es.tail 0 0 more (program_trace core (start n) (element_values es.found))
