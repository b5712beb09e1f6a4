-- What bytes spell in a format as elements of a type, and how elements are spelled.
use Rattle.std.specs.Prelude.{ℕ, zero, suc, ◌+◌, ◌-◌, ◌/◌, ◌^◌, min, nat_eq, ℤ, pos, negsuc, Bool, true, false, if◌then◌else◌, List, [], ◌∷◌, length, map, drop, sum_by, flat_map}
use Rattle.zir_tree.specs.declared.format.Format.{Format}
use Rattle.zir_tree.specs.declared.format.Format.TheVariants.{Binary, Text}
use Rattle.zir_tree.specs.declared.types.Base.{Base}
use Rattle.zir_tree.specs.declared.types.Base.TheVariants.{Bit, Complex16, Complex32}
use Rattle.zir_tree.specs.declared.types.Ty.{Ty}
use Rattle.zir_tree.specs.declared.value.Val.{Val, Unit as UnitVal, Bit as BitVal, Num, Pair, List as ListVal}
use Rattle.zir_cells.specs.Cells.{cells_of}
use Rattle.zir_cells.specs.Layout.{cells_in}
use Rattle.zir_meaning.specs.Items.{Item, pieces}
use Rattle.zir_meaning.specs.Samples.{bits_of, bit_items, spell_binary, spell_bits}
use Rattle.zir_meaning.specs.Texts.{text_items, is_malformed, spell_text}

-- an element, and the place after it: in bits in the binary format, in bytes in a text
pub record Element : Type 0 where
  pub value : Val
  pub place : ℕ

-- what follows the elements: the end of the input, malformed input behind the byte at this place, or bytes that are not known yet
pub data Tail : Type 0 where
  Ended : Tail
  Malformed : (at : ℕ) → Tail
  Open : Tail

-- the elements that bytes spell, and what follows them
pub record Elements : Type 0 where
  pub found : List Element
  pub tail : Tail

-- a number is one
abbrev pub is_one : ℤ → Bool
is_one (pos n) = nat_eq n 1
is_one (negsuc n) = false

-- the value of a type that is no array from its number, or from its real and its imaginary part
abbrev pub value_of : Base → List ℤ → Val
value_of Bit (z ∷ zs) = BitVal (is_one z)
value_of Complex16 (re ∷ im ∷ zs) = Pair re im
value_of Complex32 (re ∷ im ∷ zs) = Pair re im
value_of base (z ∷ zs) = Num z
value_of base [] = UnitVal

-- the value of arrays of these lengths, the outermost first, from its numbers in order
abbrev pub array_of : List ℕ → Base → List ℤ → Val
array_of [] base numbers = value_of base numbers
array_of (n ∷ lengths) base numbers = ListVal (map (array_of lengths base) (pieces n (length numbers / n) numbers))

-- how many numbers an element of a stream type has
abbrev pub numbers_in : Ty → ℕ
numbers_in ty = cells_in [] ty

-- the elements whose items these are, the first of them behind this place
abbrev pub placed : Ty → ℕ → List (List Item) → List Element
placed ty at [] = []
placed ty at (items ∷ more) =
    let after = at + sum_by (λ item. item.size) items in
    record { value = array_of ty.lengths ty.base (map (λ item. item.number) items); place = after } ∷ placed ty after more

-- items as elements, without the last where they are too few for one
abbrev pub gathered : Ty → List Item → List Element
gathered ty items = placed ty 0 (pieces (length items / numbers_in ty) (numbers_in ty) items)

-- the place after so many elements, the first of them behind this place
abbrev pub place_after : ℕ → List Element → ℕ → ℕ
place_after at es zero = at
place_after at [] (suc k) = at
place_after at (e ∷ es) (suc k) = place_after e.place es k

-- the place at which malformed input is told: behind the last element, or the last place of 64 bits
abbrev pub told_place : List Element → ℕ
told_place es = min (place_after 0 es (length es)) (2 ^ 64 - 1)

-- what follows sound input
abbrev pub sound_tail : Bool → Tail
sound_tail closed = if closed then Ended else Open

-- the elements of bits, which are all of the input where it is closed
abbrev pub bit_elements : Ty → List Bool → Bool → Elements
bit_elements ty bits closed = record { found = gathered ty (bit_items ty.base bits); tail = sound_tail closed }

-- the elements of a text, with what follows them
abbrev pub with_tail : List Element → Bool → Bool → Elements
with_tail es malformed closed = record { found = es; tail = if malformed then Malformed (told_place es) else sound_tail closed }

-- the elements of a text, which is all of the input where it is closed, or else those that it decides whatever follows it
abbrev pub text_elements : Ty → List ℕ → Bool → Elements
text_elements ty bytes closed = with_tail (gathered ty (text_items ty.base closed bytes)) (is_malformed ty.base closed bytes) closed

-- the elements of bytes, which are all of the input where it is closed, or else those that they decide whatever follows them
abbrev pub elements : Format → Ty → List ℕ → Bool → Elements
elements Binary ty bytes closed = bit_elements ty (bits_of bytes) closed
elements Text ty bytes closed = text_elements ty bytes closed

-- the values of elements
abbrev pub element_values : List Element → List Val
element_values es = map (λ e. e.value) es

-- the unread input from a place on, its bits packed anew
abbrev pub rest_from : Format → List ℕ → ℕ → List ℕ
rest_from Binary bytes place = spell_bits true (drop place (bits_of bytes))
rest_from Text bytes place = drop place bytes

-- the unread input after so many elements
abbrev pub rest_of : Format → Ty → List ℕ → ℕ → List ℕ
rest_of format ty bytes k = rest_from format bytes (place_after 0 (elements format ty bytes true).found k)

-- the bytes of numbers of a type
abbrev pub spell_numbers : Format → Base → Bool → List ℤ → List ℕ
spell_numbers Binary base finished numbers = spell_binary base finished numbers
spell_numbers Text base finished numbers = spell_text finished numbers

-- the bytes of values: finished with what ends an output, or only as far as no more values change them
abbrev pub spell : Format → Ty → List Val → Bool → List ℕ
spell format ty values finished = spell_numbers format ty.base finished (flat_map cells_of values)
