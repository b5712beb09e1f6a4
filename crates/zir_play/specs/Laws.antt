-- The law of performances: a stage that plays the process of a component performs it.
use Rattle.std.specs.Prelude.{ℕ, List}
use Rattle.zir_tree.specs.declared.types.Ty.{Ty}
use Rattle.zir_tree.specs.declared.comp.Comp.{Comp}
use Rattle.zir_laws.specs.Process.{Proc}
use Rattle.zir_expr.specs.Memory.{from_base}
use Rattle.zir_code.specs.Scopes.{Scope}
use Rattle.zir_flow.specs.declared.instruction.Instruction.{Instruction}
use Rattle.zir_flow.specs.Stages.{Stage}
use Rattle.zir_flow.specs.Kinds.{Setting, value_in}
use Rattle.zir_flow.specs.Playing.{Plays}
use Rattle.zir_flow.specs.Laws.{watching}
use Rattle.zir_play.specs.Performing.{Interface, Performs}

-- the types of a component whose elements have this type and whose cells from d on are free, and where its value stands at the end
abbrev pub interface_of : ℕ → ℕ → Setting → Scope → Ty → Comp → Interface
interface_of base d st g input c = record { structs = g.structs; input = input; value = value_in st g input d c; at = from_base base d }

-- whatever is watched of a component, a stage that plays a process performs it
abbrev pub PlaysPerform : Type 0
PlaysPerform =
    (top base d size : ℕ) (st : Setting) (g : Scope) (input out : Ty) (c : Comp) (code : List Instruction) (p : Proc) (s : Stage) →
    Plays (watching top base d size st g input out c) code p s → Performs (interface_of base d st g input c) code p s
