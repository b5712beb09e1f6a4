-- What it is for the code in front of a loop to be made.
use Rattle.std.specs.Prelude.{ℕ, ◌+◌, max, List, ◌++◌, ◌≡◌}
use Rattle.zir_tree.specs.declared.expr.Expr.{Expr}
use Rattle.zir_expr.specs.declared.steps.Step.{Step}
use Rattle.zir_code.specs.Scopes.{Scope}
use Rattle.zir_code.specs.Coding.{stands, code_of, settling}
use Rattle.zir_code.specs.Peaks.{peak_of}
use Rattle.zir_flatten.specs.declared.loops.Range.{Range}

-- a number of turns stands in the cell d
pub record Numbered (g : Scope) (e : Expr) (d : ℕ) (old new : List Step) (peak : ℕ) : Type 0 where
  pub code : new ≡ old ++ (code_of g e d ++ settling (stands g e d) d 1)
  pub end : peak ≡ max (peak_of g e d) (d + 1)

-- the first index of a loop stands in the cell d, and its number of turns in the one behind it
pub record Ranged (g : Scope) (a n : Expr) (d : ℕ) (range : Range) : Type 0 where
  pub code : range.steps.items ≡ code_of g a d ++ (settling (stands g a d) d 1 ++ (code_of g n (d + 1) ++ settling (stands g n (d + 1)) (d + 1) 1))
  pub index : range.index ≡ d + 2
  pub free : range.free ≡ d + 3
  pub peak : range.peak ≡ max (peak_of g a d) (max (peak_of g n (d + 1)) (d + 4))
