-- The two sides of an operator.
use Rattle.std.specs.Prelude.{ℕ, ◌+◌, ◌<◌, ◌^◌, List, [], ◌∷◌, true, Option, Some, None, ◌≡◌}
use Rattle.zir_tree.specs.declared.expr.Operator.{Operator}
use Rattle.zir_tree.specs.declared.expr.Operator.TheVariants.{Add, Subtract, Multiply}
use Rattle.zir_expr.specs.declared.frame.Spot.{Spot}
use Rattle.zir_expr.specs.declared.frame.Spot.TheVariants.{Local}
use Rattle.zir_expr.specs.declared.whole.Whole.{Whole}
use Rattle.zir_expr.specs.declared.complex.ComplexOperation.{ComplexOperation}
use Rattle.zir_expr.specs.declared.complex.ComplexOperation.TheVariants.{Add as AddPairs, Subtract as SubtractPairs, Multiply as MultiplyPairs}
use Rattle.zir_expr.specs.declared.steps.Step.{Step, Complex}
use Rattle.zir_code.specs.Scopes.{shifted}
use Rattle.zir_code.specs.Peaks.{counts_pairs}
use Rattle.zir_compile.specs.declared.operations.Seconds.{Seconds}

-- the second cells of two values, and of the answer
abbrev pub seconds_at : Spot → Spot → ℕ → Seconds
seconds_at x y d = record { left = shifted x 1; right = shifted y 1; to = Local (d + 1) }

-- 32 bits hold them
abbrev pub counts_seconds : Spot → Spot → ℕ → Type 0
counts_seconds x y d = (counts_pairs x y ≡ true) × (d + 1 < 2 ^ 32)

-- an operator that makes a complex number of two, if it is one
abbrev pub complex_operation : Operator → Whole → Option ComplexOperation
complex_operation Add w = Some (AddPairs w)
complex_operation Subtract w = Some (SubtractPairs w)
complex_operation Multiply w = Some (MultiplyPairs w)
complex_operation _ w = None

-- its code
abbrev pub complex_code : Option ComplexOperation → Spot → Spot → ℕ → List Step
complex_code None x y d = []
complex_code (Some operation) x y d = Complex operation (Local d) x y ∷ []
