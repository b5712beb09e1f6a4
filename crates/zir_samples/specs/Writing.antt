-- What a writer keeps of the numbers that were pushed, and what its calls put.
use Rattle.std.specs.Prelude.{ℕ, ◌%◌, ◌<◌, ◌≡◌, ◌⊎◌, ℤ, Bool, true, false, if◌then◌else◌, List, [], ◌∷◌, ◌++◌, length, All, flat_map, codes}
use Rattle.std.specs.Fmt.{signed_decimal}
use Rattle.zir_tree.specs.declared.format.Format.{Format}
use Rattle.zir_tree.specs.declared.format.Format.TheVariants.{Binary, Text}
use Rattle.zir_tree.specs.declared.types.Base.{Base}
use Rattle.zir_tree.specs.declared.types.Base.TheVariants.{Bit}
use Rattle.zir_meaning.specs.Samples.{bits_at, bits_of}
use Rattle.zir_meaning.specs.Texts.{listed}
use Rattle.zir_meaning.specs.Elements.{spell_numbers}
use Rattle.zir_outside.specs.Sinks.{Grew, GrewPart}

-- a writer: its format, the type of its numbers, the bits that were not put yet, and whether a number was pushed
pub record Kept : Type 0 where
  pub format : Format
  pub base : Base
  pub bits : List Bool
  pub some : Bool

-- nothing was pushed
abbrev pub nothing_kept : Format → Base → Kept
nothing_kept format base = record { format = format; base = base; bits = []; some = false }

-- the bits of numbers before the end of the output
abbrev pub output_bits : Format → Base → List ℤ → List Bool
output_bits Binary base numbers = flat_map (bits_at base) numbers
output_bits Text base numbers = bits_of (listed numbers)

-- there are numbers
abbrev pub has_numbers : List ℤ → Bool
has_numbers [] = false
has_numbers (z ∷ numbers) = true

-- these numbers were pushed, and of their output these bytes were put
pub record Holds (kept : Kept) (numbers : List ℤ) (given : List ℕ) : Type 0 where
  pub whole : All (λ b. b < 256) given
  pub bits : output_bits kept.format kept.base numbers ≡ bits_of given ++ kept.bits
  pub some : kept.some ≡ has_numbers numbers

-- a writer that holds its numbers holds more of them, and put bytes in pieces of 4,096 or left the sink alone
pub record Wrote {K : Type 0} (stands_for : K → List ℕ → Type 0) (before now : K) (old new : Kept) (more : List ℤ) : Type 0 where
  pub front : List ℕ
  pub grew : Grew (stands_for before) (stands_for now) front
  pub pieces : length front % 4096 ≡ 0
  pub left : front ≡ [] → now ≡ before
  pub holds : (numbers : List ℤ) (given : List ℕ) → Holds old numbers given → Holds new (numbers ++ more) (given ++ front)
  pub format : new.format ≡ old.format
  pub base : new.base ≡ old.base

-- the sink grew by what was not put yet of the numbers' output and of more behind them, finished or not
pub record PutsRest {K : Type 0} (stands_for : K → List ℕ → Type 0) (before now : K) (old : Kept) (more : List ℤ) (finished : Bool) : Type 0 where
  pub rest : List ℕ
  pub grew : Grew (stands_for before) (stands_for now) rest
  pub spelled : (numbers : List ℤ) (given : List ℕ) → Holds old numbers given → spell_numbers old.format old.base finished (numbers ++ more) ≡ given ++ rest

-- the sink grew by a front part of what was not put yet of the numbers' output and of more behind them, finished or not
pub record PutsPart {K : Type 0} (stands_for : K → List ℕ → Type 0) (before now : K) (old : Kept) (more : List ℤ) (finished : Bool) : Type 0 where
  pub rest : List ℕ
  pub grew : GrewPart rest (stands_for before) (stands_for now)
  pub spelled : (numbers : List ℤ) (given : List ℕ) → Holds old numbers given → spell_numbers old.format old.base finished (numbers ++ more) ≡ given ++ rest

-- the bits that a number adds to an output
abbrev pub added : Format → Base → Bool → ℤ → List Bool
added Binary base some z = bits_at base z
added Text base some z = bits_of ((if some then codes "," else []) ++ signed_decimal z)

-- the bits that numbers add to an output
abbrev pub all_added : Format → Base → Bool → List ℤ → List Bool
all_added format base some [] = []
all_added format base some (z ∷ numbers) = added format base some z ++ all_added format base true numbers

-- an output has whole bytes unless single bits are written
abbrev pub IsWhole : Format → Base → List Bool → Type 0
IsWhole format base bits = ((format ≡ Binary) × (base ≡ Bit)) ⊎ (length bits % 8 ≡ 0)
