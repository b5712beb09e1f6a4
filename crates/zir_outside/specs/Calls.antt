-- The calls of an object in memory, some of which are to fail.
use Rattle.std.specs.Prelude.{ℕ, Bool, ◌≡◌, ◌==◌, List}
use Rattle.std.specs.List.{list_any}
use Rattle.zir_outside.specs.declared.calls.Calls.{Calls}
use Rattle.zir_outside.specs.Causes.{one_more, CountsFault}

-- the next call is one of those listed, which are counted from 1
abbrev pub is_next_listed : Calls → Bool
is_next_listed calls = list_any (λ n. n == one_more calls.made) calls.listed.items

-- no call was made yet, and these are to fail
abbrev pub IsFresh : Calls → List ℕ → Type 0
IsFresh calls failing = (calls.listed.items ≡ failing) × (calls.made ≡ 0) × (calls.faults ≡ 0)

-- one call was made, which was a fault or none
pub record MadeOne (old new : Calls) (fault : Bool) : Type 0 where
  pub listed : new.listed ≡ old.listed
  pub made : new.made ≡ one_more old.made
  pub faults : CountsFault old.faults new.faults fault
