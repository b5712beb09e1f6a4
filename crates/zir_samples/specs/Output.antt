-- What an output keeps of its bits, and what a call of it puts.
use Rattle.std.specs.Prelude.{ℕ, ◌%◌, ◌^◌, ◌<◌, ◌≤◌, ◌≡◌, Bool, List, [], ◌++◌, length, All}
use Rattle.zir_meaning.specs.Samples.{bits_of, low_bits}
use Rattle.zir_outside.specs.Sinks.{Grew}

-- the bits of whole bytes, and so many bits of one more
abbrev pub pending : List ℕ → ℕ → ℕ → List Bool
pending piece count byte = bits_of piece ++ low_bits count byte

-- less than a piece of whole bytes, and less than a whole byte behind them, whose other bits are zero
pub record IsWritten (piece : List ℕ) (count byte : ℕ) : Type 0 where
  pub short : length piece ≤ 4095
  pub whole : All (λ b. b < 256) piece
  pub few : count ≤ 7
  pub low : byte < 2 ^ count

-- the front bits went to the sink as pieces of 4,096 bytes, or no bits did and the sink was left alone
pub record Puts {K : Type 0} (stands_for : K → List ℕ → Type 0) (before now : K) (old new : List Bool) : Type 0 where
  pub front : List ℕ
  pub whole : All (λ b. b < 256) front
  pub bits : old ≡ bits_of front ++ new
  pub grew : Grew (stands_for before) (stands_for now) front
  pub pieces : length front % 4096 ≡ 0
  pub left : front ≡ [] → now ≡ before
