-- Numbers, of which the elements of a stream are made in both formats.
use Rattle.std.specs.Prelude.{ℕ, zero, suc, ◌-◌, ◌^◌, nat_lt, ℤ, pos, negsuc, Bool, false, List, [], ◌∷◌, take, drop}
use Rattle.zir_tree.specs.declared.types.Base.{Base}
use Rattle.zir_tree.specs.declared.types.Base.TheVariants.{Unit, Bit, Bool as BoolTy, Int8, Int16, Int32, Int64, Complex16, Complex32, Struct}

-- a number of the input, and how many bits of the binary format or bytes of a text it takes
pub record Item : Type 0 where
  pub number : ℤ
  pub size : ℕ

-- the bits of a number of a type, a complex type having two of them; a stream has no other types
abbrev pub width : Base → ℕ
width Bit = 1
width Int8 = 8
width Int16 = 16
width Int32 = 32
width Int64 = 64
width Complex16 = 16
width Complex32 = 32
width Unit = 0
width BoolTy = 0
width (Struct k) = 0

-- a number has so many bits in two's complement
abbrev pub fits_bits : ℕ → ℤ → Bool
fits_bits k (pos n) = nat_lt n (2 ^ (k - 1))
fits_bits k (negsuc n) = nat_lt n (2 ^ (k - 1))

-- a number is 0 or 1
abbrev pub is_bit : ℤ → Bool
is_bit (pos n) = nat_lt n 2
is_bit (negsuc n) = false

-- a number is in the range of its type
abbrev pub fits : Base → ℤ → Bool
fits Bit z = is_bit z
fits base z = fits_bits (width base) z

-- so many pieces of one length, one after the other
abbrev pub pieces : {T : Type 0} → ℕ → ℕ → List T → List (List T)
pieces zero size xs = []
pieces (suc count) size xs = take size xs ∷ pieces count size (drop size xs)
