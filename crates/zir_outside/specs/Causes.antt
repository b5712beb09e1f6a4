-- How faults are counted, and when one may be answered.
use Rattle.std.specs.Prelude.{ℕ, Bool, ◌≡◌, if◌then◌else◌, ◌+◌, ◌-◌, ◌^◌, ◌≤◌, min, Result, OnErr}

-- one more, up to the largest number of 64 bits
abbrev pub one_more : ℕ → ℕ
one_more n = min (n + 1) (2 ^ 64 - 1)

-- a count of faults rose, or stands at the largest number of 64 bits
abbrev pub Rose : ℕ → ℕ → Type 0
Rose before now = min (before + 1) (2 ^ 64 - 1) ≤ now

-- the count of faults does not fall, and an error comes only where it rose
pub record HasCause {T E : Type 0} (before now : ℕ) (result : Result T E) : Type 0 where
  pub later : before ≤ now
  pub failed : OnErr result (Rose before now)

-- a count of faults rose by one at a fault, and stayed where there was none
abbrev pub CountsFault : ℕ → ℕ → Bool → Type 0
CountsFault before now fault = now ≡ (if fault then one_more before else before)
