-- What is found at the front of bytes.
use Rattle.std.specs.Prelude.{ℕ, ◌≡◌, ◌<◌, ◌≤◌, ◌*◌, ℤ, Bool, if◌then◌else◌, List, [], ◌∷◌, length, map, drop}
use Rattle.zir_tree.specs.declared.format.Format.{Format}
use Rattle.zir_tree.specs.declared.format.Format.TheVariants.{Binary, Text}
use Rattle.zir_tree.specs.declared.types.Base.{Base}
use Rattle.zir_tree.specs.declared.types.Ty.{Ty}
use Rattle.zir_cells.specs.Cells.{cells_of}
use Rattle.zir_meaning.specs.Items.{pieces, width}
use Rattle.zir_meaning.specs.Samples.{bits_of, number_at}
use Rattle.zir_meaning.specs.Elements.{Element, Elements, Tail, Ended, Malformed, Open, numbers_in, bit_elements, text_elements}
use Rattle.zir_samples.specs.declared.finding.Found.{Found}
use Rattle.zir_samples.specs.declared.finding.Found.TheVariants.{Element as FoundElement, More, End, Malformed as FoundMalformed}

-- a stream may be of this type: it holds numbers, and not more of them than a type may have cells
pub record IsStreamType (ty : Ty) : Type 0 where
  pub numbers : 0 < width ty.base
  pub some : 0 < numbers_in ty
  pub most : numbers_in ty ≤ 65536

-- the elements of bytes from a bit of the first byte on, which is 0 in a text
abbrev pub elements_from : Format → Ty → List ℕ → ℕ → Bool → Elements
elements_from Binary ty bytes bit closed = bit_elements ty (drop bit (bits_of bytes)) closed
elements_from Text ty bytes bit closed = text_elements ty bytes closed

-- a place in bits
abbrev pub in_bits : Format → ℕ → ℕ
in_bits Binary place = place
in_bits Text place = 8 * place

-- what is answered where there is no whole element, by what follows
abbrev pub answer_at : Tail → Found
answer_at Ended = End
answer_at (Malformed at) = FoundMalformed
answer_at Open = More

-- the answer on the first of these elements, with the cells of its value, or on what follows where there is none
abbrev pub FindsFirst : Format → List Element → Tail → Found → List ℤ → Type 0
FindsFirst format [] tail found cells = found ≡ answer_at tail
FindsFirst format (e ∷ es) tail found cells = (found ≡ FoundElement (in_bits format e.place)) × (cells ≡ cells_of e.value)

-- the answer on the first of these elements
abbrev pub Finds : Format → Elements → Found → List ℤ → Type 0
Finds format es found cells = FindsFirst format es.found es.tail found cells

-- what is answered where bits are too few
abbrev pub short_answer : Bool → Found
short_answer ended = if ended then End else More

-- so many numbers stand at the front of bits, or the bits are too few for them
pub record FindsBits (base : Base) (bits : List Bool) (ended : Bool) (count : ℕ) (found : Found) (cells : List ℤ) : Type 0 where
  pub enough : count * width base ≤ length bits → (found ≡ FoundElement (count * width base)) × (cells ≡ map (number_at base) (pieces count (width base) bits))
  pub short : length bits < count * width base → found ≡ short_answer ended
