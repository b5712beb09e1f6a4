-- What it is for the code of instances and of a program to be made.
use Rattle.std.specs.Prelude.{ℕ, ◌<◌, ◌^◌, List, Option, None, ◌≡◌, length}
use Rattle.zir_tree.specs.declared.program.Core.{Core}
use Rattle.zir_tree.specs.declared.program.Instance.{Instance}
use Rattle.zir_meaning.specs.Assigned.{Assigning}
use Rattle.zir_code.specs.Scopes.{Scope}
use Rattle.zir_flow.specs.Kinds.{Entry, Setting}
use Rattle.zir_flow.specs.Flowing.{instance_code}
use Rattle.zir_flow.specs.Program.{more_entries}
use Rattle.zir_flat.specs.Programs.{entry_at, entries_from, code_from, program_code, main_place, program_needs, program_depth, program_shape}
use Rattle.zir_stage.specs.Layouts.{shape_by}
use Rattle.zir_flatten.specs.declared.instances.Built.{Built}
use Rattle.zir_flatten.specs.declared.instances.Laid.{Laid}
use Rattle.zir_flatten.specs.declared.program.Program.{Program}
use Rattle.zir_flatten.specs.Callable.{IsEntry, Sets}

-- no instance yet
abbrev pub no_entry : ℕ → Option Entry
no_entry k = None

-- what components are in where no instance may be called yet
abbrev pub none_yet : Assigning → Setting
none_yet r = record { entries = no_entry; assigned = r }

-- what components are in behind all of these instances
abbrev pub all_set : Assigning → Scope → List Instance → Setting
all_set r g is = record { entries = more_entries no_entry 0 (entries_from (none_yet r) g 0 0 is); assigned = r }

-- the code of an instance that stands at a place, and what calls see of it
pub record IsBuilt (st : Setting) (g : Scope) (place : ℕ) (i : Instance) (made : Built) : Type 0 where
  pub code : made.code.items ≡ instance_code st g i
  pub entry : IsEntry made.callee (entry_at st g place i)

-- the code of instances one after the other, and what calls see of them
pub record AreLaid (r : Assigning) (g : Scope) (is : List Instance) (made : Laid) : Type 0 where
  pub code : made.code.items ≡ code_from (none_yet r) g 0 0 is
  pub places : Sets made.places (all_set r g is)

-- the code of a program, with all that is said of it
pub record IsProgram (core : Core) (made : Program) : Type 0 where
  pub code : made.code ≡ program_code core
  pub place : made.place ≡ main_place core
  pub needs : made.needs ≡ program_needs core
  pub depth : made.depth ≡ program_depth core
  pub shape : shape_by made.layout ≡ program_shape core
  pub short : length (program_code core) < 2 ^ 32
