-- The answer of a walk through a program: what it makes, or the first refusal.
use Rattle.std.specs.Prelude.{◌≡◌, Bool, true, false, Result, Ok, Err}
use Rattle.zir_types.specs.declared.error.TypeError.{TypeError}
use Rattle.zir_types.specs.declared.error.TypeError.TheVariants.{Mismatch, TwoComputers, NotUnit, NotComputer, NotStreamType, Instances, Memory}

-- A walk makes something, or ends at the first refusal.
pub data Walk (A : Type 0) : Type 0 where
  Fine : (made : A) → Walk A
  Broken : (refusal : TypeError) → Walk A

-- One walk and then another: the first refusal is the answer.
abbrev pub and_then : {A B : Type 0} → Walk A → (A → Walk B) → Walk B
and_then (Fine made) next = next made
and_then (Broken refusal) next = Broken refusal

-- This, where a rule holds, and else its refusal.
abbrev pub check : {A : Type 0} → Bool → TypeError → A → Walk A
check true refusal made = Fine made
check false refusal made = Broken refusal

-- An error tells of a walk that it ends at this refusal; want of memory tells nothing.
abbrev pub Refuses : {A : Type 0} → Walk A → TypeError → Type 0
Refuses walk (Mismatch at) = walk ≡ Broken (Mismatch at)
Refuses walk (TwoComputers at) = walk ≡ Broken (TwoComputers at)
Refuses walk (NotUnit at) = walk ≡ Broken (NotUnit at)
Refuses walk (NotComputer at) = walk ≡ Broken (NotComputer at)
Refuses walk (NotStreamType at) = walk ≡ Broken (NotStreamType at)
Refuses walk (Instances at) = walk ≡ Broken (Instances at)
Refuses walk Memory = Unit {0}

-- An answer tells what the walk makes, or its refusal.
abbrev pub Told : {A : Type 0} → Walk A → Result A TypeError → Type 0
Told walk (Ok made) = walk ≡ Fine made
Told walk (Err error) = Refuses walk error
