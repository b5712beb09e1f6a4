-- The laws of flat code: a stage that runs the code of a component plays the component's process.
use Rattle.std.specs.Prelude.{ℕ, ◌+◌, ◌<◌, ◌≤◌, ◌%◌, ◌^◌, List, [], ◌∷◌, ◌++◌, Option, Some, ◌≡◌, length, take}
use Rattle.zir_tree.specs.declared.value.Val.{Val}
use Rattle.zir_tree.specs.declared.types.Ty.{Ty}
use Rattle.zir_tree.specs.declared.comp.Comp.{Comp}
use Rattle.zir_tree.specs.declared.program.Core.{Core}
use Rattle.zir_meaning.specs.Store.{Store}
use Rattle.zir_meaning.specs.Trace.{State}
use Rattle.zir_meaning.specs.Instances.{around}
use Rattle.zir_cells.specs.Cells.{cells_of}
use Rattle.zir_laws.specs.Acts.{acts}
use Rattle.zir_shapes.specs.Shapes.{Shaped}
use Rattle.zir_expr.specs.Memory.{from_base}
use Rattle.zir_code.specs.Scopes.{Scope}
use Rattle.zir_code.specs.Holding.{At, Hold, Holds}
use Rattle.zir_code.specs.Calls.{Calls}
use Rattle.zir_flow.specs.declared.instruction.Instruction.{Instruction}
use Rattle.zir_flow.specs.declared.instruction.Instruction.TheVariants.{Stop}
use Rattle.zir_flow.specs.Threads.{Thread}
use Rattle.zir_flow.specs.Stages.{Stage, Alone, Room, seen, room_of}
use Rattle.zir_flow.specs.Kinds.{Shape, Setting, value_in}
use Rattle.zir_flow.specs.Flowing.{flow_code}
use Rattle.zir_flow.specs.Fitting.{Flows, RoomFits, depth_of, shape_of}
use Rattle.zir_flow.specs.Playing.{Watch, Plays}
use Rattle.zir_flow.specs.Program.{CodeAt, PlacesOf}

-- what the cells of a stage hold of the variables in scope where a component began: their values in a store that may have more names by now, in as many
-- cells as at first, and room for the same compositions
pub record HoldsStore (top base size : ℕ) (g : Scope) (shape : Shape) (st : Stage) (store : Store) : Type 0 where
  pub tops : Hold g.structs (seen st).cells base g.tops store.tops
  pub locals : Hold g.structs (seen st).cells base g.locals (take (length g.locals) store.locals)
  pub size_is : length (seen st).cells ≡ size
  pub room : RoomFits size shape (room_of st)

-- a value of a component stands in the cells from an index on, if it has one of this type
pub record ValueStands (g : Scope) (ty : Option Ty) (at : ℕ) (v : Val) (st : Stage) : Type 0 where
  pub is : Ty
  pub has : ty ≡ Some is
  pub shape : Shaped g.structs is v
  pub cells : At (seen st).cells at (cells_of v)

-- what is watched of a component whose elements have this type and whose outputs have that, and whose cells from d on are free
abbrev pub watching : ℕ → ℕ → ℕ → ℕ → Setting → Scope → Ty → Ty → Comp → Watch
watching top base d size st g input out c = record {
  holds = HoldsStore top base size g (shape_of st c);
  element = Shaped g.structs input;
  output = Shaped g.structs out;
  value = ValueStands g (value_in st g input d c) (from_base base d);
}

-- a thread stands where a component begins, in a state
pub record Starts (top base d n size : ℕ) (st : Setting) (g : Scope) (c : Comp) (th : Thread) (room : Room) (s : State) : Type 0 where
  pub held : Holds top base d n g th.memory s
  pub base_is : th.base ≡ base
  pub taken : th.taken ≡ s.taken % 2 ^ 64
  pub depth : length th.calls + depth_of st c ≤ th.deep
  pub size_is : length th.memory.cells ≡ size
  pub room_fits : RoomFits size (shape_of st c) room

-- in a program whose instances have these entries, the code of a component that is well typed, with a stop behind it, plays what the component does
abbrev pub ComponentsPlay : Type 0
ComponentsPlay =
    (core : Core) (code : List Instruction) (st : Setting) (top base d n size place : ℕ) (g : Scope) (input out : Ty) (c : Comp)
    (th : Thread) (room : Room) (s : State) →
    Calls top (around core).library g.structs g.tops g.funs → PlacesOf core top size g st code → length code < 2 ^ 32 →
    Flows st g n input out d c → CodeAt code place (flow_code st g input d c ++ Stop ∷ []) → th.place ≡ place →
    Starts top base d n size st g c th room s →
    Plays (watching top base d size st g input out c) code (acts core c s) (Alone th room)
