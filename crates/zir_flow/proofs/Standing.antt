-- Where a component begins, what is watched of it, and where it ends.
use Rattle.std.specs.Prelude.{ℕ, ◌+◌, ◌<◌, ◌≤◌, ◌%◌, ◌^◌, max, List, [], ◌∷◌, Option, Some, ◌≡◌, length, slice_index_or, pos}
use Rattle.zir_tree.specs.declared.value.Val.{Val}
use Rattle.zir_tree.specs.declared.value.Slot.{Slot}
use Rattle.zir_tree.specs.declared.types.Ty.{Ty}
use Rattle.zir_tree.specs.declared.types.StructDef.{StructDef}
use Rattle.zir_tree.specs.declared.comp.Comp.{Comp}
use Rattle.zir_tree.specs.declared.program.Core.{Core}
use Rattle.zir_meaning.specs.Store.{Store}
use Rattle.zir_meaning.specs.Trace.{State}
use Rattle.zir_meaning.specs.Instances.{around}
use Rattle.zir_laws.specs.Process.{Procs, proc}
use Rattle.zir_laws.proofs.Components.{ProcsProceed}
use Rattle.zir_cells.specs.Layout.{layout_of}
use Rattle.zir_shapes.specs.Shapes.{Shaped}
use Rattle.zir_expr.specs.Memory.{from_base}
use Rattle.zir_expr.specs.Memory.Frames.{Memory}
use Rattle.zir_code.specs.declared.scope.Holder.{Holder}
use Rattle.zir_code.specs.Scopes.{Scope}
use Rattle.zir_code.specs.Types.{type_or_unit}
use Rattle.zir_code.specs.Holding.{Hold, InOrder, Holds, Spares}
use Rattle.zir_code.specs.Calls.{CellsAre, Calls}
use Rattle.zir_flow.specs.declared.instruction.Caller.{Caller}
use Rattle.zir_flow.specs.declared.instruction.Instruction.{Instruction}
use Rattle.zir_flow.specs.Threads.{Thread}
use Rattle.zir_flow.specs.Stages.{Stage, Alone, Room, seen, room_of}
use Rattle.zir_flow.specs.Kinds.{Shape, Flat, Split, Entry, Setting, value_in}
use Rattle.zir_flow.specs.Flowing.{flow_code}
use Rattle.zir_flow.specs.Fitting.{EmitsFit, Flows, RoomFits, depth_of, shape_of}
use Rattle.zir_flow.specs.Playing.{Watch}
use Rattle.zir_flow.specs.Program.{CodeAt}
use Rattle.zir_flow.specs.Laws.{HoldsStore, ValueStands}
use Rattle.zir_flow.proofs.Playing.{Arrives}

-- where components are: the program, its code and its instances, what these do, the cells of the top variables and of the body that runs among all cells, the
-- shape of the room for compositions, the calls that the body is in, and how many there may be
pub record Ground : Type 0 where
  pub core : Core
  pub code : List Instruction
  pub st : Setting
  pub procs : Procs
  pub top : ℕ
  pub base : ℕ
  pub n : ℕ
  pub size : ℕ
  pub shape : Shape
  pub calls : List Caller
  pub deep : ℕ

-- a shape asks for all that another asks for
abbrev pub Covers : Shape → Shape → Type 0
Covers s Flat = Unit {0}
Covers Flat (Split a b) = ⊥
Covers (Split c d) (Split a b) = Covers c a × Covers d b

-- what holds of a thread where a component begins or has ended
pub record Stands (a : Ground) (g : Scope) (d place : ℕ) (th : Thread) (room : Room) (s : State) : Type 0 where
  pub held : Holds a.top a.base d a.n g th.memory s
  pub place_is : th.place ≡ place
  pub base_is : th.base ≡ a.base
  pub calls_are : th.calls ≡ a.calls
  pub deep_is : th.deep ≡ a.deep
  pub taken : th.taken ≡ s.taken % 2 ^ 64
  pub size_is : length th.memory.cells ≡ a.size
  pub room_fits : RoomFits a.size a.shape room

-- what is seen of a stage where it stands, since this memory: the variables in scope, and all other cells before the free ones as they were
pub record HoldsKept (a : Ground) (g : Scope) (d : ℕ) (m : Memory) (st : Stage) (store : Store) : Type 0 where
  pub held : HoldsStore a.top a.base a.size g a.shape st store
  pub spared : Spares a.top a.base d g m (seen st)

-- what is watched of a component, of whose value nothing is said
abbrev pub watched : Ground → Scope → ℕ → Ty → Ty → Memory → Watch
watched a g d input out m =
    record { holds = HoldsKept a g d m; element = Shaped g.structs input; output = Shaped g.structs out; value = λ v st. Unit {0} }

-- what holds of a thread where a component has ended with a value, since this memory
pub record Arrived (a : Ground) (g : Scope) (d : ℕ) (ty : Option Ty) (place : ℕ) (m : Memory) (v : Val) (s : State) (st : Stage) : Type 0 where
  pub th : Thread
  pub room : Room
  pub alone : st ≡ Alone th room
  pub stands : Stands a g d place th room s
  pub value : ValueStands g ty (from_base a.base d) v st
  pub spared : Spares a.top a.base d g m th.memory

-- where the body of an instance begins, called with these arguments
pub record Enters (a : Ground) (structs : List StructDef) (tops : List Holder) (e : Entry) (vs : List Val) (th : Thread) (room : Room) (s : State) : Type 0 where
  pub tops_held : Hold structs th.memory.cells a.base tops s.store.tops
  pub tops_in : InOrder a.base 0 a.top tops
  pub arguments : CellsAre structs th.memory.cells a.base e.params vs
  pub used : th.memory.used ≡ s.ticks
  pub limit : th.memory.limit ≡ s.ticks + s.left
  pub apart : a.top ≤ a.base
  pub fits : a.base + max (layout_of structs (type_or_unit e.value)) e.needs ≤ length th.memory.cells
  pub small : length th.memory.cells < 2 ^ 63
  pub place_is : th.place ≡ e.place
  pub base_is : th.base ≡ a.base
  pub calls_are : th.calls ≡ a.calls
  pub deep_is : th.deep ≡ a.deep
  pub depth : length a.calls + e.depth ≤ a.deep
  pub taken : th.taken ≡ s.taken % 2 ^ 64
  pub size_is : length th.memory.cells ≡ a.size
  pub room_fits : RoomFits a.size a.shape room

-- cells from top on and before the body's are the same
abbrev pub SameBelow : Ground → Memory → Memory → Type 0
SameBelow a m m' = (i : ℕ) → a.top ≤ i → i < a.base → slice_index_or m'.cells i (pos 0) ≡ slice_index_or m.cells i (pos 0)

-- what is seen of a stage that is in the body of an instance, since this memory: the top variables, and the cells before those of the body as they were;
-- the names in the store are the caller's
pub record HoldsCalled (a : Ground) (structs : List StructDef) (tops : List Holder) (m : Memory) (locals : List Slot) (st : Stage) (store : Store) : Type 0 where
  pub tops_held : Hold structs (seen st).cells a.base tops store.tops
  pub locals_are : store.locals ≡ locals
  pub same : SameBelow a m (seen st)
  pub size_is : length (seen st).cells ≡ a.size
  pub room_fits : RoomFits a.size a.shape (room_of st)

-- what is watched of it
abbrev pub watched_call : Ground → List StructDef → List Holder → Ty → Ty → Memory → List Slot → Watch
watched_call a structs tops input out m locals =
    record { holds = HoldsCalled a structs tops m locals; element = Shaped structs input; output = Shaped structs out; value = λ v st. Unit {0} }

-- where the body of an instance has ended with a value: behind its call
pub record Returned (a : Ground) (structs : List StructDef) (tops : List Holder) (e : Entry) (c : Caller) (calls : List Caller) (m : Memory) (locals : List Slot) (v : Val)
    (s : State) (st : Stage) : Type 0 where
  pub th : Thread
  pub room : Room
  pub alone : st ≡ Alone th room
  pub is : Ty
  pub has : e.value ≡ Some is
  pub value : CellsAre structs th.memory.cells a.base (is ∷ []) (v ∷ [])
  pub tops_held : Hold structs th.memory.cells a.base tops s.store.tops
  pub locals_are : s.store.locals ≡ locals
  pub same : SameBelow a m th.memory
  pub used : th.memory.used ≡ s.ticks
  pub limit : th.memory.limit ≡ s.ticks + s.left
  pub place_is : th.place ≡ c.place
  pub base_is : th.base ≡ c.base
  pub calls_are : th.calls ≡ calls
  pub deep_is : th.deep ≡ a.deep
  pub taken : th.taken ≡ s.taken % 2 ^ 64
  pub size_is : length th.memory.cells ≡ a.size
  pub room_fits : RoomFits a.size a.shape room

-- the code of an instance does from a call on what the instance does; the ground is that of its body
abbrev pub EntryPlays : Ground → List StructDef → List Holder → ℕ → Entry → Type 0
EntryPlays a structs tops k e =
    (c : Caller) (calls : List Caller) (vs : List Val) (out : Ty) (th : Thread) (room : Room) (s : State) →
    a.calls ≡ c ∷ calls → Covers a.shape e.shape → EmitsFit e.emits out → Enters a structs tops e vs th room s →
    Arrives (Returned a structs tops e c calls th.memory s.store.locals) (watched_call a structs tops e.input out th.memory s.store.locals) a.code
    (a.procs k vs s) (Alone th room)

-- the ground of another body, with other calls and another shape of its room
abbrev pub moved_to : Ground → ℕ → ℕ → Shape → List Caller → Ground
moved_to a base n shape calls = record a { base = base; n = n; shape = shape; calls = calls }

-- what is known of the ground: the code of functions does what they mean, that of instances what they do, within the ticks left
pub record Solid (a : Ground) (g : Scope) : Type 0 where
  pub functions : Calls a.top (around a.core).library g.structs g.tops g.funs
  pub assigned : a.st.assigned ≡ (around a.core).assigned
  pub small : length a.code < 2 ^ 32
  pub proceeds : ProcsProceed a.procs
  pub entries : (k : ℕ) (e : Entry) → a.st.entries k ≡ Some e → (base n : ℕ) (shape : Shape) (calls : List Caller) →
      EntryPlays (moved_to a base n shape calls) g.structs g.tops k e

-- a component that is well typed, and whose code stands where a thread does, arrives
abbrev pub ComponentArrives : Ground → Comp → Type 0
ComponentArrives a c =
    (g : Scope) (input out : Ty) (d place : ℕ) (th : Thread) (room : Room) (s : State) → Solid a g → Flows a.st g a.n input out d c →
    CodeAt a.code place (flow_code a.st g input d c) → length a.calls + depth_of a.st c ≤ a.deep → Covers a.shape (shape_of a.st c) →
    Stands a g d place th room s →
    Arrives (Arrived a g d (value_in a.st g input d c) (place + length (flow_code a.st g input d c)) th.memory) (watched a g d input out th.memory) a.code
    (proc (around a.core) a.procs c s) (Alone th room)
