-- The law of sound cores as flat code.
use Rattle.zir_tree.specs.declared.program.Core.{Core}
use Rattle.zir_sound.specs.Cores.{IsSound}
use Rattle.zir_flat.specs.Laws.{ProgramFlows}
use Rattle.zir_typed_code.specs.Forming.{WellFormed}
use Rattle.zir_typed_code.specs.Programs.{IsSigned}

-- a sound and well formed core whose functions have code is well typed for flat code: its functions and instances, each over those before it, and its main
-- component, each in as many cells as its code uses
abbrev pub CoresFlow : Type 0
CoresFlow = (core : Core) → IsSound core → WellFormed core → IsSigned core → ProgramFlows core
