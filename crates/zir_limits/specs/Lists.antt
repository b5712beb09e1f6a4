-- What the definitions of the limits say of rows, said of the lists that the code has.
use Rattle.std.specs.Prelude.{ℕ, List, [], ◌∷◌, ◌++◌, length}
use Rattle.zir_tree.specs.declared.types.Base.TheVariants.{Unit as UnitTy}
use Rattle.zir_tree.specs.declared.types.Ty.{Ty}
use Rattle.zir_tree.specs.declared.expr.Expr.{Expr}
use Rattle.zir_types.specs.Kinds.{scalar, arr}
use Rattle.zir_types.specs.Scope.{Visible}
use Rattle.zir_types.specs.Known.{type_of}

-- The type of the first of some expressions.
abbrev pub first_ty : Visible → List Expr → Ty
first_ty g [] = scalar UnitTy
first_ty g (e ∷ es) = type_of g e

-- The type of an array of these expressions.
abbrev pub array_ty : Visible → List Expr → Ty
array_ty g es = arr (length es) (first_ty g es)

-- A type in arrays of these lengths.
abbrev pub nested : List ℕ → Ty → Ty
nested ns t = record { lengths = ns ++ t.lengths; base = t.base }
