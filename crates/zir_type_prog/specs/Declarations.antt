-- The declarations of a program, as code gathers them.
use Rattle.std.specs.Prelude.{◌≡◌, reverse, Result, Ok, Err}
use Rattle.zir_types.specs.declared.error.TypeError.{TypeError}
use Rattle.zir_types.specs.Walk.{Walk, Fine, Refuses}
use Rattle.zir_types.specs.Programs.{Declared}
use Rattle.zir_type_prog.specs.declared.program.SoFar.{SoFar}

-- The declarations so far; code keeps the `fun comp`s in the order of the text.
abbrev pub declared_in : SoFar → Declared
declared_in d = record { scope = d.scope; variables = d.variables; functions = d.functions; comps = reverse d.comps.items }

-- An answer tells of a walk what is declared behind it, or its refusal.
abbrev pub ToldDeclared : {A : Type 0} → Walk Declared → Result A TypeError → Declared → Type 0
ToldDeclared walk (Ok made) after = walk ≡ Fine after
ToldDeclared walk (Err error) after = Refuses walk error
