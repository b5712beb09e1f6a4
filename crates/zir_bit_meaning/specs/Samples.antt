-- What bytes spell in the binary format of bits, and how bits are spelled.
use Rattle.std.specs.Prelude.{ℕ, zero, suc, ◌+◌, ◌*◌, ◌/◌, ◌%◌, Bool, true, false, List, [], ◌∷◌, ◌++◌, map, drop, if◌then◌else◌, nat_eq}
use Rattle.zir_bit_tree.specs.declared.value.Val.{Val}
use Rattle.zir_bit_tree.specs.declared.value.Val.TheVariants.{Bit as BitVal}
use Rattle.zir_bit_meaning.specs.Evaluation.{is_one}

-- the lowest bits of a number, so many of them, the least significant first
abbrev pub low_bits : ℕ → ℕ → List Bool
low_bits zero n = []
low_bits (suc k) n = nat_eq (n % 2) 1 ∷ low_bits k (n / 2)

-- the bits of bytes, without gaps
abbrev pub bits_of : List ℕ → List Bool
bits_of [] = []
bits_of (byte ∷ bytes) = low_bits 8 byte ++ bits_of bytes

-- an element, and the place in bits after it
pub record Element : Type 0 where
  pub value : Val
  pub place : ℕ

-- what follows the elements: the end of the input, or bytes that are not known yet
pub data Tail : Type 0 where
  Ended : Tail
  Open : Tail

-- the elements that bytes spell, and what follows them
pub record Elements : Type 0 where
  pub found : List Element
  pub tail : Tail

-- bits as elements, the first of them behind this place
abbrev pub numbered : ℕ → List Bool → List Element
numbered k [] = []
numbered k (bit ∷ bits) = record { value = BitVal bit; place = k + 1 } ∷ numbered (k + 1) bits

-- the elements of these bytes, which are all of the input where it is closed
abbrev pub elements : List ℕ → Bool → Elements
elements bytes closed = record { found = numbered 0 (bits_of bytes); tail = if closed then Ended else Open }

abbrev pub element_values : List Element → List Val
element_values es = map (λ e. e.value) es

-- the number whose bits these are, the least significant first
abbrev pub number_of : List Bool → ℕ
number_of [] = 0
number_of (bit ∷ bits) = (if bit then 1 else 0) + 2 * number_of bits

-- fewer than eight bits: padded with zero bits where the output is finished, and no byte yet where it is not
abbrev pub last_byte : Bool → List Bool → List ℕ
last_byte true bits = number_of bits ∷ []
last_byte false bits = []

-- bits as bytes, eight to a byte, the first the least significant
abbrev pub spell_bits : Bool → List Bool → List ℕ
spell_bits finished [] = []
spell_bits finished (a ∷ b ∷ c ∷ d ∷ e ∷ f ∷ g ∷ h ∷ bits) = number_of (a ∷ b ∷ c ∷ d ∷ e ∷ f ∷ g ∷ h ∷ []) ∷ spell_bits finished bits
spell_bits finished bits = last_byte finished bits

-- the bytes of output values
abbrev pub spell : Bool → List Val → List ℕ
spell finished vs = spell_bits finished (map is_one vs)

-- the unread input after so many elements, its bits packed anew
abbrev pub rest_of : List ℕ → ℕ → List ℕ
rest_of bytes k = spell_bits true (drop k (bits_of bytes))
