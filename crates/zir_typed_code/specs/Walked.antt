-- That the core which the walk of a program makes is well formed.
use Rattle.std.specs.Prelude.{◌≡◌}
use Rattle.zir_tree.specs.declared.program.Prog.{Prog}
use Rattle.zir_tree.specs.declared.program.Core.{Core}
use Rattle.zir_names.specs.declared.program.Named.{Named}
use Rattle.zir_names.specs.Walk.{Fine as Resolved}
use Rattle.zir_names.specs.Programs.{names}
use Rattle.zir_types.specs.Walk.{Fine}
use Rattle.zir_types.specs.Programs.{program}
use Rattle.zir_typed_code.specs.Forming.{WellFormed}

-- Where names are resolved, the core that typing makes is well formed.
abbrev pub TypedAreWellFormed : Type 0
TypedAreWellFormed = (p : Prog) (n : Named) (core : Core) → names p ≡ Resolved n → program n.program ≡ Fine core → WellFormed core
