-- What is read at the front of a text.
use Rattle.std.specs.Prelude.{ℕ, ◌-◌, ◌^◌, ◌≤◌, ◌≡◌, ℤ, Bool, if◌then◌else◌, Option, Some, None, min, option_map, List, [], ◌∷◌, length, take, drop, reverse, nat_eq, false, slice_index, ◌<◌}
use Rattle.zir_tree.specs.declared.types.Base.{Base}
use Rattle.zir_tree.specs.declared.types.Base.TheVariants.{Bit}
use Rattle.zir_meaning.specs.Items.{Item, fits, width}
use Rattle.zir_meaning.specs.Texts.{cut_at_commas, cut_items, digits_number, skip_blanks}
use Rattle.zir_samples.specs.declared.text.Front.{Front}
use Rattle.zir_samples.specs.declared.text.Front.TheVariants.{Item as FrontItem, Nothing, Malformed}

-- a number, where its type has it
abbrev pub in_range : Base → Option ℤ → Option ℤ
in_range base None = None
in_range base (Some z) = if fits base z then Some z else None

-- how many numbers from 0 on a type has
abbrev pub limit_of : Base → ℕ
limit_of Bit = 2
limit_of base = 2 ^ (width base - 1)

-- the number that decimal digits write, or the greatest of 64 bits where that is less
abbrev pub magnitude_of : List ℕ → Option ℕ
magnitude_of digits = option_map (λ n. min n (2 ^ 64 - 1)) (digits_number digits)

-- bytes without the white space behind them
abbrev pub without_blanks_behind : List ℕ → List ℕ
without_blanks_behind bytes = reverse (skip_blanks (reverse bytes))

-- the items of a text in order, and None where one is malformed
abbrev pub items_of : Base → Bool → List ℕ → List (Option Item)
items_of base closed bytes = cut_items base closed (cut_at_commas bytes)

-- the first item of a text, or that it has none, or that the first is malformed
abbrev pub Reads : Base → Bool → List ℕ → Front → Type 0
Reads base closed bytes (FrontItem z size) = (size ≤ length bytes) × (size ≤ 64) × (items_of base closed bytes ≡ Some (record { number = z; size = size }) ∷ items_of base closed (drop size bytes))
Reads base closed bytes Nothing = items_of base closed bytes ≡ []
Reads base closed bytes Malformed = (more : List (Option Item)) × (items_of base closed bytes ≡ None ∷ more)

-- what stands at the front of a text where an item of so many bytes has this number, or none
abbrev pub front_of : Option ℤ → ℕ → Front
front_of None size = Malformed
front_of (Some z) size = FrontItem z size

-- no byte is a comma
abbrev pub IsUncut : List ℕ → Type 0
IsUncut [] = Unit {0}
IsUncut (b ∷ bytes) = (nat_eq b 44 ≡ false) × IsUncut bytes

-- the place of the first comma, or none
abbrev pub IsFirstComma : List ℕ → Option ℕ → Type 0
IsFirstComma bytes None = IsUncut bytes
IsFirstComma bytes (Some at) = (at < length bytes) × (slice_index bytes at ≡ 44) × IsUncut (take at bytes)
