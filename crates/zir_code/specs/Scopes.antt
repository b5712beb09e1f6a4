-- The variables and the functions in scope, and how code finds them.
use Rattle.std.specs.Prelude.{ℕ, ◌+◌, List, [], ◌∷◌, Option, Some, None, if◌then◌else◌, nat_eq}
use Rattle.zir_tree.specs.declared.types.StructDef.{StructDef}
use Rattle.zir_expr.specs.declared.frame.Spot.{Spot}
use Rattle.zir_expr.specs.declared.frame.Spot.TheVariants.{Top, Local}
use Rattle.zir_code.specs.declared.scope.Holder.{Holder}
use Rattle.zir_code.specs.declared.scope.Signature.{Signature}

-- the structs of the program, the top variables, the names in scope inside the body that runs, and the functions that may be called
pub record Scope : Type 0 where
  pub structs : List StructDef
  pub tops : List Holder
  pub locals : List Holder
  pub funs : ℕ → Option Signature

-- the variable of this number among these, or else another answer
abbrev pub found_among : Option Holder → List Holder → ℕ → Option Holder
found_among other [] id = other
found_among other (d ∷ ds) id = if nat_eq d.id id then Some d else found_among other ds id

-- the variable of this number in scope
abbrev pub variable : Scope → ℕ → Option Holder
variable scope id = found_among (found_among None scope.tops id) scope.locals id

-- the spot so many cells behind another
abbrev pub shifted : Spot → ℕ → Spot
shifted (Top o) k = Top (o + k)
shifted (Local o) k = Local (o + k)

-- the number of a spot's cell
abbrev pub number_of : Spot → ℕ
number_of (Top o) = o
number_of (Local o) = o
