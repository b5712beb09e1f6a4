-- What a read does to the bytes that are still to come.
use Rattle.std.specs.Prelude.{ℕ, ◌≡◌, ◌<◌, ◌≤◌, ◌↔◌, List, [], length, take, drop, Option, Some, None, Result, Ok, Err}
use Rattle.zir_outside.specs.declared.Failed.{Failed}

-- the first n of the bytes went to the front of the buffer, and none only at the end of input
pub record Takes (bytes : List ℕ) (left : Option (List ℕ)) (into : List ℕ) (n : ℕ) : Type 0 where
  pub within : n ≤ length into
  pub front : take n into ≡ take n bytes
  pub rest : left ≡ Some (drop n bytes)
  pub end : 0 < length into → ((n ≡ 0) ↔ (bytes ≡ []))

-- what a read answers and leaves, where the bytes to come are told and where they are not
abbrev pub Reads : Option (List ℕ) → Option (List ℕ) → List ℕ → Result ℕ Failed → Type 0
Reads None left into result = left ≡ None
Reads (Some bytes) left into (Ok n) = Takes bytes left into n
Reads (Some bytes) left into (Err e) = left ≡ Some bytes
