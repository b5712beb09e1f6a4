-- The laws of the flat code of programs: its instances stand in it, and a stage that begins at its main component plays what that does in the program.
use Rattle.std.specs.Prelude.{ℕ, suc, ◌+◌, ◌<◌, ◌≤◌, ◌^◌, List, [], ◌∷◌, ◌≡◌, length, min}
use Rattle.zir_tree.specs.declared.types.Ty.{Ty}
use Rattle.zir_tree.specs.declared.program.Core.{Core}
use Rattle.zir_tree.specs.declared.program.Instance.{Instance}
use Rattle.zir_meaning.specs.Trace.{State}
use Rattle.zir_laws.specs.Acts.{acts}
use Rattle.zir_shapes.specs.Shapes.{Ordered}
use Rattle.zir_expr.specs.Memory.Frames.{Memory}
use Rattle.zir_code.specs.Scopes.{Scope}
use Rattle.zir_code.specs.Holding.{Holds}
use Rattle.zir_code.specs.Bodies.{ParametersKnown, cells_of_all, inside}
use Rattle.zir_compile.specs.Signing.{no_signature, FineAfter}
use Rattle.zir_eval.specs.Opening.{program_scope, top_cells, top_holders}
use Rattle.zir_flow.specs.Kinds.{Setting, output_in}
use Rattle.zir_flow.specs.Flowing.{instance_code}
use Rattle.zir_flow.specs.Fitting.{EmitsFit, Flows, RoomFits}
use Rattle.zir_flow.specs.Stages.{Room, Alone}
use Rattle.zir_flow.specs.Threads.{Thread}
use Rattle.zir_flow.specs.Playing.{Plays}
use Rattle.zir_flow.specs.Program.{PlacesOf}
use Rattle.zir_flow.specs.Laws.{watching}
use Rattle.zir_flat.specs.Needs.{instance_needs}
use Rattle.zir_flat.specs.Programs.{entry_at, one_more_in, first_setting, program_setting, program_code, program_needs, program_depth, program_shape, main_place}

-- the body of an instance is well typed in the cells that it needs
pub record InstanceFlows (st : Setting) (g : Scope) (i : Instance) : Type 0 where
  pub known : ParametersKnown g i.params
  pub flows : (out : Ty) → EmitsFit (output_in st (inside g i.params) i.input (cells_of_all g i.params) i.body) out →
      Flows st (inside g i.params) (instance_needs st g i) i.input out (cells_of_all g i.params) i.body

-- instances behind n others, whose code stands from a place on, are well typed, each over those before it
abbrev pub InstancesFlow : Setting → Scope → ℕ → ℕ → List Instance → Type 0
InstancesFlow st g n place [] = Unit {0}
InstancesFlow st g n place (i ∷ is) =
    InstanceFlows st g i × InstancesFlow (one_more_in st n (entry_at st g place i)) g (suc n) (place + length (instance_code st g i)) is

-- a program is well typed for its code
pub record ProgramFlows (core : Core) : Type 0 where
  pub structs : Ordered core.structs
  pub functions : FineAfter core.structs (top_holders core.structs 0 core.variables) no_signature 0 core.functions
  pub instances : InstancesFlow (first_setting core) (program_scope core) 0 0 core.instances
  pub main : Flows (program_setting core) (program_scope core) (program_needs core) core.input core.output 0 core.main

-- the instances of a program have their entries, and their code stands at their places
abbrev pub InstancesStand : Type 0
InstancesStand =
    (core : Core) (size : ℕ) → InstancesFlow (first_setting core) (program_scope core) 0 0 core.instances →
    PlacesOf core (top_cells core) size (program_scope core) (program_setting core) (program_code core)

-- a thread at the main component of a program, whose cells begin behind those of the top variables
abbrev pub main_thread : Core → ℕ → Memory → Thread
main_thread core deep m = record { place = main_place core; base = top_cells core; calls = []; deep = deep; memory = m; taken = 0 }

-- a stage at the main component of a well typed program plays what that does, where its cells hold the top variables, its calls may go as deep as they do, and
-- it has the memories that the program's compositions ask for, each of as many cells as its own
abbrev pub ProgramsPlay : Type 0
ProgramsPlay =
    (core : Core) (deep : ℕ) (m : Memory) (room : Room) (s : State) → ProgramFlows core → length (program_code core) < 2 ^ 32 →
    Holds (top_cells core) (top_cells core) 0 (program_needs core) (program_scope core) m s → s.taken ≡ 0 →
    program_depth core ≤ deep → RoomFits (length m.cells) (program_shape core) room →
    Plays (watching (top_cells core) (top_cells core) 0 (length m.cells) (program_setting core) (program_scope core) core.input core.output core.main)
    (program_code core) (acts core core.main s) (Alone (main_thread core deep m) room)
