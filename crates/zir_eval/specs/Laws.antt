-- What holds at the top of a program.
use Rattle.std.specs.Prelude.{ℕ, ◌<◌, ◌^◌, true, ◌≡◌}
use Rattle.zir_tree.specs.declared.program.Core.{Core}
use Rattle.zir_meaning.specs.Functions.{library_of}
use Rattle.zir_shapes.specs.Shapes.{Ordered}
use Rattle.zir_expr.specs.Memory.Frames.{Memory}
use Rattle.zir_code.specs.Holding.{Holds}
use Rattle.zir_code.specs.Calls.{Calls}
use Rattle.zir_compile.specs.Signing.{no_signature, FineAfter}
use Rattle.zir_eval.specs.Opening.{top_holders, top_cells, can_open, program_scope, IsBlank, blank_start, KnowsTypes}

-- a new frame of a program holds the blank value of each top variable, and all cells behind them are free
abbrev pub BlankFramesHold : Type 0
BlankFramesHold =
    (core : Core) (room limit : ℕ) (m : Memory) → KnowsTypes core → room < 2 ^ 32 → can_open core ≡ true →
    IsBlank (program_scope core).tops room limit m →
    Holds (top_cells core) (top_cells core) 0 room (program_scope core) m (blank_start core limit)

-- the functions of a program do what they mean, where each is well typed in the cells of its signature
abbrev pub FunctionsMean : Type 0
FunctionsMean =
    (core : Core) → Ordered core.structs →
    FineAfter core.structs (top_holders core.structs 0 core.variables) no_signature 0 core.functions →
    Calls (top_cells core) (library_of core.structs core.functions) core.structs (program_scope core).tops (program_scope core).funs
