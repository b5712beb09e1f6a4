-- What it is for the code of initial values to be made.
use Rattle.std.specs.Prelude.{ℕ, List, ◌++◌, ◌≡◌}
use Rattle.zir_tree.specs.declared.stmt.Stmt.{Stmt}
use Rattle.zir_expr.specs.declared.steps.Step.{Step}
use Rattle.zir_code.specs.Scopes.{Scope}
use Rattle.zir_code.specs.Needs.{all_peak}
use Rattle.zir_code.specs.Bodies.{all_code}

-- steps have grown by the code of assignments, which uses the cells before this one
pub record Begun (g : Scope) (ss : List Stmt) (old new : List Step) (peak : ℕ) : Type 0 where
  pub code : new ≡ old ++ all_code g 0 ss
  pub peak_is : peak ≡ all_peak g 0 ss
