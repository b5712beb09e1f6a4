-- Numbers that are read one after the other: what a reader of them holds, and what its calls give.
use Rattle.std.specs.Prelude.{ℕ, ◌+◌, ◌*◌, ◌/◌, ◌%◌, ◌<◌, ◌≤◌, ◌≡◌, Bool, true, false, if◌then◌else◌, List, [], ◌∷◌, ◌++◌, length, map, take, drop, Option, Some, None}
use Rattle.zir_tree.specs.declared.format.Format.{Format}
use Rattle.zir_tree.specs.declared.format.Format.TheVariants.{Binary, Text}
use Rattle.zir_tree.specs.declared.types.Base.{Base}
use Rattle.zir_meaning.specs.Items.{Item, width}
use Rattle.zir_meaning.specs.Samples.{bit_items, bits_of, number_at}
use Rattle.zir_samples.specs.Reading.{items_of}
use Rattle.zir_samples.specs.declared.text.Front.{Front}
use Rattle.zir_samples.specs.declared.text.Front.TheVariants.{Item as FrontItem, Nothing, Malformed as FrontMalformed}
use Rattle.zir_reader.specs.declared.numbers.Given.{Given}
use Rattle.zir_reader.specs.declared.numbers.Given.TheVariants.{Number, End, Malformed, Failed}

-- the bytes that were read and not given yet, the first of them from a bit on, and whether the input has ended
pub record Held : Type 0 where
  pub format : Format
  pub base : Base
  pub bytes : List ℕ
  pub bit : ℕ
  pub ended : Bool

-- nothing was read
abbrev pub nothing_held : Format → Base → Held
nothing_held format base = record { format = format; base = base; bytes = []; bit = 0; ended = false }

-- the items of bytes from a bit on, of which a text has none, and None where one is malformed
abbrev pub items_from : Format → Base → ℕ → List ℕ → List (Option Item)
items_from Binary base bit bytes = map (λ (item : Item). Some item) (bit_items base (drop bit (bits_of bytes)))
items_from Text base bit bytes = items_of base true bytes

-- the bytes still to be given, where the source has these left
abbrev pub bytes_to_come : Held → List ℕ → List ℕ
bytes_to_come held left = held.bytes ++ (if held.ended then [] else left)

-- the items still to be given, where the source has these bytes left
abbrev pub items_to_come : Held → List ℕ → List (Option Item)
items_to_come held left = items_from held.format held.base held.bit (bytes_to_come held left)

-- how many whole bytes a number of this size takes from a bit of the first byte on
abbrev pub bytes_taken : Format → ℕ → ℕ → ℕ
bytes_taken Binary bit size = (bit + size) / 8
bytes_taken Text bit size = size

-- the bit of the next byte that stands behind it
abbrev pub bit_behind : Format → ℕ → ℕ → ℕ
bit_behind Binary bit size = (bit + size) % 8
bit_behind Text bit size = bit

-- what is held behind a number of this size
abbrev pub after : Held → ℕ → Held
after held size = record held { bytes = drop (bytes_taken held.format held.bit size) held.bytes; bit = bit_behind held.format held.bit size }

-- what the bytes held begin with, where the source has these left
abbrev pub BeginsWith : Held → List ℕ → Front → Type 0
BeginsWith held left (FrontItem z size) =
    (size ≤ 64) × (bytes_taken held.format held.bit size ≤ length held.bytes) ×
    (items_to_come held left ≡ Some (record { number = z; size = size }) ∷ items_to_come (after held size) left)
BeginsWith held left Nothing = (length held.bytes ≤ 64) × (held.ended ≡ true → items_to_come held left ≡ [])
BeginsWith held left FrontMalformed = (more : List (Option Item)) × (items_to_come held left ≡ None ∷ more)

-- the same whatever the source has left
abbrev pub Decides : Held → Front → Type 0
Decides held front = (left : List ℕ) → BeginsWith held left front

-- a number stands in bits from one on, or they are too few for it
abbrev pub DecidesBits : Base → List ℕ → ℕ → Front → Type 0
DecidesBits base bytes bit (FrontItem z size) =
    (size ≡ width base) × (bit + size ≤ 8 * length bytes) × (z ≡ number_at base (take (width base) (drop bit (bits_of bytes))))
DecidesBits base bytes bit Nothing = 8 * length bytes < bit + width base
DecidesBits base bytes bit FrontMalformed = ⊥

-- the format, the type and the place stay, and what is to come, where the source tells what it has left
abbrev pub FillsOf : Held → List ℕ → Held → List ℕ → Type 0
FillsOf old left new rest = (new.format ≡ old.format) × (new.base ≡ old.base) × (new.bit ≡ old.bit) × (bytes_to_come new rest ≡ bytes_to_come old left)

-- what a read leaves to come; a source that does not tell what it has left goes on so
abbrev pub Fills : Held → Option (List ℕ) → Held → Option (List ℕ) → Type 0
Fills old None new left = left ≡ None
Fills old (Some bytes) new left = (rest : List ℕ) × (left ≡ Some rest) × FillsOf old bytes new rest

-- the first of what was to come was given, or what was answered stands there; a failure loses nothing
abbrev pub Gives : List (Option Item) → List (Option Item) → Given → Type 0
Gives before now (Number z size) = before ≡ Some (record { number = z; size = size }) ∷ now
Gives before now End = (before ≡ []) × (now ≡ before)
Gives before now Malformed = (more : List (Option Item)) × (before ≡ None ∷ more) × (now ≡ before)
Gives before now Failed = now ≡ before

-- the same where the source tells what it has left, and where it does not
abbrev pub GivesNext : Held → Option (List ℕ) → Held → Option (List ℕ) → Given → Type 0
GivesNext old None new left given = left ≡ None
GivesNext old (Some bytes) new left given = (rest : List ℕ) × (left ≡ Some rest) × Gives (items_to_come old bytes) (items_to_come new rest) given

-- nothing of what was to come was lost
abbrev pub Keeps : Held → Option (List ℕ) → Held → Option (List ℕ) → Type 0
Keeps old None new left = left ≡ None
Keeps old (Some bytes) new left = (rest : List ℕ) × (left ≡ Some rest) × (items_to_come new rest ≡ items_to_come old bytes)
