-- Sets of variables, and what is added to them.
use Rattle.std.specs.Prelude.{ℕ, List, [], ◌∷◌, Bool, false, ◌||◌, Option, Some, None, ◌≡◌, nat_eq, slice_get}
use Rattle.std.specs.declared.hash.FoldHasher.{FoldHasher}
use Rattle.std.specs.declared.hash.BuildHasherDefault.{BuildHasherDefault}
use Rattle.std.specs.HashSet.{HashSet, contains}
use Rattle.zir_meaning.specs.Functions.{pick}
use Rattle.zir_meaning.specs.Store.{among}
use Rattle.zir_assigned.specs.declared.sets.Hidden.{Hidden}
use Rattle.zir_assigned.specs.declared.sets.Set.{Set}

-- a set of variables
abbrev pub Variables : Type 0
Variables = HashSet ℕ (BuildHasherDefault FoldHasher)

-- whether it has a variable
abbrev pub has : Variables → ℕ → Bool
has ids id = contains nat_eq ids id

-- a set has these variables and no others
abbrev pub Holds : Set → List ℕ → Type 0
Holds set ids = (id : ℕ) → has set.ids id ≡ among ids id

-- the variables of a set and these
abbrev pub Adds : List ℕ → (ℕ → Bool) → (ℕ → Bool) → Type 0
Adds ids old new = (id : ℕ) → new id ≡ (old id || among ids id)

-- a set with a variable where it had it before the variable was declared
abbrev pub restored : Hidden → (ℕ → Bool) → ℕ → Bool
restored hidden set id = pick (nat_eq hidden.id id) hidden.was (set id)

-- the same for variables in the order of their declarations
abbrev pub uncovered : List Hidden → (ℕ → Bool) → ℕ → Bool
uncovered [] set = set
uncovered (h ∷ hs) set = restored h (uncovered hs set)

-- variables that come into scope one after the other
abbrev pub hidden_by : List ℕ → (ℕ → Bool) → List Hidden
hidden_by [] set = []
hidden_by (id ∷ ids) set = record { id = id; was = set id } ∷ hidden_by ids set

-- whether a set has a variable, if there is one
abbrev pub has_in : Option Variables → ℕ → Bool
has_in None id = false
has_in (Some ids) id = has ids id

-- the same of the set at a place
abbrev pub has_at : List Variables → ℕ → ℕ → Bool
has_at sets k id = has_in (slice_get sets k) id
