-- What a run of a program is: its outputs, how it ended, and the elements that it took.
use Rattle.std.specs.Prelude.{ℕ, List, []}
use Rattle.zir_bit_tree.specs.declared.value.Val.{Val}
use Rattle.zir_tree.specs.declared.ends.Trap.{Trap}
use Rattle.zir_bit_tree.specs.declared.ends.End.{End}
use Rattle.zir_bit_tree.specs.declared.ends.End.TheVariants.{Value, Starved, Trap as Trapped, Spent}
use Rattle.zir_bit_tree.specs.declared.tree.Prog.{Prog}
use Rattle.zir_bit_meaning.specs.Trace.{State, Trace}
use Rattle.zir_bit_meaning.specs.Composition.{values}
use Rattle.zir_bit_meaning.specs.Component.{tr}
use Rattle.zir_bit_meaning.specs.Samples.{Elements, Tail, Ended, Open, element_values}

-- how a run ended
pub data RunEnd : Type 0 where
  ByValue : (v : Val) → RunEnd
  ByInput : RunEnd
  ByTrap : (t : Trap) → RunEnd
  ByBudget : RunEnd
  ByReadFault : RunEnd

-- the outputs, the end, and how many elements were taken
pub record Run : Type 0 where
  pub outs : List Val
  pub end : RunEnd
  pub taken : ℕ

-- a component that starves ends as its input does
abbrev pub starved_end : Tail → RunEnd
starved_end Ended = ByInput
starved_end Open = ByReadFault

abbrev pub run_end : Tail → End → RunEnd
run_end tail (Value v) = ByValue v
run_end tail Starved = starved_end tail
run_end tail (Trapped t) = ByTrap t
run_end tail Spent = ByBudget

-- where a run begins, with so many ticks
abbrev pub start : ℕ → State
start n = record { taken = 0; ticks = 0; left = n; store = [] }

abbrev pub run_as : Tail → Trace → Run
run_as tail t = record { outs = values t.outs; end = run_end tail t.end; taken = t.last.taken }

-- the run of a program over these elements with so many ticks
abbrev pub run_of : Prog → Elements → ℕ → Run
run_of program es n = run_as es.tail (tr program.main (start n) (element_values es.found))
