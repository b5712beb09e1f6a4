-- What it is for something to be made, or not.
use Rattle.std.specs.Prelude.{Result, Ok, Err}
use Rattle.zir_compile.specs.declared.numbers.Unmade.{Unmade}
use Rattle.zir_compile.specs.declared.numbers.Unmade.TheVariants.{Memory, Large}

-- there is nothing since the numbers do not fit, or since memory ran out
abbrev pub Refuses : Type 0 → Unmade → Type 0
Refuses fits (Memory error) = Unit {0}
Refuses fits Large = fits → ⊥

-- what is made is as it should be and its numbers fit, or there is nothing
abbrev pub Makes : {A : Type 0} → Type 0 → (A → Type 0) → Result A Unmade → Type 0
Makes fits good (Ok made) = fits × good made
Makes fits good (Err why) = Refuses fits why
