-- Operators that may leave their right side out.
use Rattle.std.specs.Prelude.{ℕ, List, [], ◌∷◌, ◌++◌, Bool, true, false, Option, Some, None}
use Rattle.zir_tree.specs.declared.expr.Operator.{Operator}
use Rattle.zir_tree.specs.declared.expr.Operator.TheVariants.{Or, And}
use Rattle.zir_expr.specs.declared.frame.Spot.{Spot}
use Rattle.zir_expr.specs.declared.frame.Spot.TheVariants.{Local}
use Rattle.zir_expr.specs.declared.steps.Fork.{Fork}
use Rattle.zir_expr.specs.declared.steps.Step.{Step, Copy, Branch}

-- the truth value of the left side at which an operator leaves its right side out
abbrev pub deciding_value : Operator → Option Bool
deciding_value Or = Some true
deciding_value And = Some false
deciding_value _ = None

-- a choice whose one way is empty: the first where the truth value is true
abbrev pub fork_of : Bool → Spot → List Step → Fork
fork_of true test right = record { test = test; first = []; second = right }
fork_of false test right = record { test = test; first = right; second = [] }

-- a left side in x goes to the cell of the answer, and where it does not decide these steps leave the right side in y
abbrev pub left_decides : Bool → Spot → Spot → ℕ → List Step → List Step
left_decides either x y d right =
    Copy (Local d) x ∷ Branch (fork_of either (Local d) (right ++ Copy (Local d) y ∷ [])) ∷ []
