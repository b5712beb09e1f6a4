-- Declarations in scope by their numbers, as code finds them.
use Rattle.std.specs.Prelude.{◌≡◌, ℕ, List, map, Some, slice_get}
use Rattle.zir_types.specs.declared.scope.Seen.{Seen}
use Rattle.zir_types.specs.declared.scope.Shape.{Shape}
use Rattle.zir_types.specs.declared.scope.Signature.{Signature}
use Rattle.zir_types.specs.Scope.{function_from, shape_from}

-- The numbers of structs.
abbrev pub shape_ids : List Shape → List ℕ
shape_ids ss = map (λ s. s.id) ss

-- The numbers of functions.
abbrev pub function_ids : List Signature → List ℕ
function_ids fs = map (λ f. f.id) fs

-- The numbers of variables.
abbrev pub variable_ids : List Seen → List ℕ
variable_ids vs = map (λ v. v.id) vs

-- These are the numbers of structs, of functions and of variables.
pub record AreNumbered (ss : List Shape) (fs : List Signature) (vs : List Seen) (shapes functions variables : List ℕ) : Type 0 where
  pub of_shapes : shapes ≡ shape_ids ss
  pub of_functions : functions ≡ function_ids fs
  pub of_variables : variables ≡ variable_ids vs

-- The function of this number stands at this place.
abbrev pub IsFunctionAt : List Signature → ℕ → ℕ → Type 0
IsFunctionAt fs id n = (s : Signature) × (slice_get fs n ≡ Some s) × (function_from 0 fs id ≡ Some (record { place = n; item = s }))

-- The struct of this number stands at this place.
abbrev pub IsShapeAt : List Shape → ℕ → ℕ → Type 0
IsShapeAt ss id n = (s : Shape) × (slice_get ss n ≡ Some s) × (shape_from 0 ss id ≡ Some (record { place = n; item = s }))
