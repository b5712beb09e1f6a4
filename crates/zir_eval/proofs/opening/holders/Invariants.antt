use Rattle.std.proofs.Common.{◌≡◌, ◌+◌, ◌++◌, drop}
use Rattle.zir_eval.specs.Opening.{top_holders, cells_for_vars}
use Rattle.zir_eval.proofs.opening.holders.Given as goal

-- the variables of all are those so far and those from here on
abbrev pub invariant-loop-v : goal.invariant-loop-v
invariant-loop-v l =
    (top_holders l.structs 0 l.variables ≡ l.made ++ top_holders l.structs l.at (drop l.v-index l.variables)) ×
    (cells_for_vars l.structs l.variables ≡ l.at + cells_for_vars l.structs (drop l.v-index l.variables))
