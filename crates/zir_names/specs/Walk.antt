-- The answer of a walk through a program in the order of its text.
use Rattle.std.specs.Prelude.{◌≡◌, Result, Ok, Err}
use Rattle.zir_names.specs.declared.error.NameError.{NameError}
use Rattle.zir_names.specs.declared.error.NameError.TheVariants.{Unknown, Twice, Recursive, Memory}

-- A walk makes something, or ends at the first refusal.
pub data Walk (A : Type 0) : Type 0 where
  Fine : (made : A) → Walk A
  Broken : (refusal : NameError) → Walk A

-- One walk and then another: the first refusal is the answer.
abbrev pub and_then : {A B : Type 0} → Walk A → (A → Walk B) → Walk B
and_then (Fine made) next = next made
and_then (Broken refusal) next = Broken refusal

-- An error tells of a walk that it ends at this refusal; want of memory tells nothing.
abbrev pub Refuses : {A : Type 0} → Walk A → NameError → Type 0
Refuses walk (Unknown at) = walk ≡ Broken (Unknown at)
Refuses walk (Twice at) = walk ≡ Broken (Twice at)
Refuses walk (Recursive at) = walk ≡ Broken (Recursive at)
Refuses walk Memory = Unit {0}

-- An answer tells what the walk makes, or its refusal.
abbrev pub Told : {A : Type 0} → Walk A → Result A NameError → Type 0
Told walk (Ok made) = walk ≡ Fine made
Told walk (Err error) = Refuses walk error
