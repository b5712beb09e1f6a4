-- The variables and names in scope, and the values that they hold.
use Rattle.std.specs.Prelude.{ℕ, List, [], ◌∷◌, ◌++◌, Option, Some, None, Bool, true, false, if◌then◌else◌, nat_eq}
use Rattle.zir_bit_tree.specs.declared.value.Val.{Val}
use Rattle.zir_bit_tree.specs.declared.value.Val.TheVariants.{Unit as UnitVal}
use Rattle.zir_bit_tree.specs.declared.value.Slot.{Slot}
use Rattle.zir_tree.specs.declared.ident.Ident.{Ident}

-- what is in scope, the outermost first, each by the number of its declaration
abbrev pub Store : Type 0
Store = List Slot

-- the value of the variable of this number, and unit where none is in scope
abbrev pub look_up : Store → ℕ → Val
look_up [] id = UnitVal
look_up (slot ∷ store) id = if nat_eq slot.id id then slot.value else look_up store id

-- the name comes into scope with this value, where there is a name
abbrev pub bound : Option Ident → Val → Store → Store
bound None v store = store
bound (Some name) v store = store ++ record { id = name.id; value = v } ∷ []

-- the number is among these
abbrev pub among : List ℕ → ℕ → Bool
among [] id = false
among (n ∷ ids) id = if nat_eq n id then true else among ids id

-- the variables of these numbers as the left store has them, and all others as the right one has them
abbrev pub merge : List ℕ → Store → Store → Store
merge ids left [] = []
merge ids left (slot ∷ right) = (if among ids slot.id then record slot { value = look_up left slot.id } else slot) ∷ merge ids left right
