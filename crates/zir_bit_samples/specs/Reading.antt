-- What a reader keeps, and what a call of it gives.
use Rattle.std.specs.Prelude.{ℕ, ◌≡◌, Bool, true, false, if◌then◌else◌, List, [], ◌∷◌, ◌++◌, Option, Some, None, Result, Ok, Err}
use Rattle.zir_bit_meaning.specs.Samples.{bits_of}
use Rattle.zir_outside.specs.declared.Failed.{Failed}

-- the bytes that were read and not given yet, whether the input has ended, and whether a read failed
pub record KeptBytes : Type 0 where
  pub bytes : List ℕ
  pub ended : Bool
  pub failed : Bool

-- the bits that were read and not given yet, whether the input has ended, and whether a read failed
pub record KeptBits : Type 0 where
  pub bits : List Bool
  pub ended : Bool
  pub failed : Bool

-- nothing was read
abbrev pub no_bytes : KeptBytes
no_bytes = record { bytes = []; ended = false; failed = false }

-- nothing was read
abbrev pub no_bits : KeptBits
no_bits = record { bits = []; ended = false; failed = false }

-- the bytes still to be given, where the source has these left
abbrev pub bytes_to_come : KeptBytes → List ℕ → List ℕ
bytes_to_come kept left = kept.bytes ++ (if kept.ended then [] else left)

-- the bits still to be given, where the source has these bytes left
abbrev pub bits_to_come : KeptBits → List ℕ → List Bool
bits_to_come kept left = kept.bits ++ (if kept.ended then [] else bits_of left)

-- the first of what was to come was given, and None exactly where nothing was to come; a failure loses nothing
abbrev pub Gives : {T : Type 0} → List T → List T → Result (Option T) Failed → Type 0
Gives before now (Ok (Some x)) = before ≡ x ∷ now
Gives before now (Ok None) = (before ≡ []) × (now ≡ [])
Gives before now (Err e) = now ≡ before

-- what a call gives, where the source tells what it has left; a source that does not tell goes on so
abbrev pub GivesByte : KeptBytes → Option (List ℕ) → KeptBytes → Option (List ℕ) → Result (Option ℕ) Failed → Type 0
GivesByte old None new left result = left ≡ None
GivesByte old (Some bytes) new left result = (rest : List ℕ) × (left ≡ Some rest) × Gives (bytes_to_come old bytes) (bytes_to_come new rest) result

-- what a call gives, where the source tells what it has left; a source that does not tell goes on so
abbrev pub GivesBit : KeptBits → Option (List ℕ) → KeptBits → Option (List ℕ) → Result (Option Bool) Failed → Type 0
GivesBit old None new left result = left ≡ None
GivesBit old (Some bytes) new left result = (rest : List ℕ) × (left ≡ Some rest) × Gives (bits_to_come old bytes) (bits_to_come new rest) result

-- the answer says that the input has ended
abbrev pub is_end : {T : Type 0} → Result (Option T) Failed → Bool
is_end (Ok (Some x)) = false
is_end (Ok None) = true
is_end (Err e) = false
