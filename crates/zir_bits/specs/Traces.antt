-- States and traces over bits as those of the whole language, and that the meanings of a component are one.
use Rattle.std.specs.Prelude.{List, [], ◌≡◌, map}
use Rattle.zir_tree.specs.declared.value.Slot as wide_slots
use Rattle.zir_tree.specs.declared.ends.End as wide_ends
use Rattle.zir_tree.specs.declared.ends.End.TheVariants as wide_end_forms
use Rattle.zir_tree.specs.declared.program.Core.{Core}
use Rattle.zir_meaning.specs.Store as wide_stores
use Rattle.zir_meaning.specs.Trace as wide_traces
use Rattle.zir_meaning.specs.Instances.{means}
use Rattle.zir_bit_tree.specs.declared.value.Val.{Val}
use Rattle.zir_bit_tree.specs.declared.value.Slot.{Slot}
use Rattle.zir_bit_tree.specs.declared.ends.End.{End}
use Rattle.zir_bit_tree.specs.declared.ends.End.TheVariants.{Value, Starved, Trap as Trapped, Spent}
use Rattle.zir_bit_tree.specs.declared.tree.Comp.{Comp}
use Rattle.zir_bit_meaning.specs.Store.{Store}
use Rattle.zir_bit_meaning.specs.Trace.{State, Point, Out, Trace}
use Rattle.zir_bit_meaning.specs.Component.{tr}
use Rattle.zir_bits.specs.Wide.{wide_value, wide_comp}

-- a name with its value
abbrev pub wide_slot : Slot → wide_slots.Slot
wide_slot slot = record { id = slot.id; value = wide_value slot.value }

-- the names in scope; no variable is declared at the top
abbrev pub wide_store : Store → wide_stores.Store
wide_store store = record { tops = []; locals = map wide_slot store }

-- how far a run has come
abbrev pub wide_state : State → wide_traces.State
wide_state s = record { taken = s.taken; ticks = s.ticks; left = s.left; store = wide_store s.store }

-- a place of a trace
abbrev pub wide_point : Point → wide_traces.Point
wide_point p = record { taken = p.taken; ticks = p.ticks; store = wide_store p.store }

-- an output with its point
abbrev pub wide_out : Out → wide_traces.Out
wide_out o = record { value = wide_value o.value; at = wide_point o.at }

-- how a component ends
abbrev pub wide_end : End → wide_ends.End
wide_end (Value v) = wide_end_forms.Value (wide_value v)
wide_end Starved = wide_end_forms.Starved
wide_end (Trapped t) = wide_end_forms.Trap t
wide_end Spent = wide_end_forms.Spent

-- the outputs, the end, where it stands, and the elements that are not taken
abbrev pub wide_trace : Trace → wide_traces.Trace
wide_trace t = record { outs = map wide_out t.outs; end = wide_end t.end; last = wide_state t.last; rest = map wide_value t.rest }

-- in any program the trace of a component over bits is the one that it has among components over bits
abbrev pub SameTraces : Type 0
SameTraces = (core : Core) (c : Comp) (s : State) (xs : List Val) → means core (wide_comp c) (wide_state s) (map wide_value xs) ≡ wide_trace (tr c s xs)
