-- Worked rows of the sample formats: small inputs whose elements, rests and spellings are known, computed from the definitions.
use Rattle.std.specs.Prelude.{ℕ, ◌-◌, ◌^◌, ◌≡◌, refl, ℤ, pos, negsuc, nat_lt, Bool, true, false, List, [], ◌∷◌, ◌++◌, map, codes, replicate}
use Rattle.std.specs.Fmt.{digits}
use denote.Hole.Carrier.{hidden}
use Rattle.zir_tree.specs.declared.format.Format.TheVariants.{Binary, Text}
use Rattle.zir_tree.specs.declared.types.Base.{Base}
use Rattle.zir_tree.specs.declared.types.Base.TheVariants.{Bit, Int8, Int16, Int32, Int64, Complex16, Complex32}
use Rattle.zir_tree.specs.declared.types.Ty.{Ty}
use Rattle.zir_tree.specs.declared.value.Val.{Val, Bit as BitVal, Num, Pair, List as ListVal}
use Rattle.zir_tree.specs.declared.value.Val.TheBlock.{shape-the_row-Val-0, hidden-the_row-Val-0}
use Rattle.zir_meaning.specs.Elements.{Element, Elements, Ended, Malformed, Open, elements, element_values, rest_of, spell, told_place}

-- a type that is no array
abbrev single : Base → Ty
single base = record { lengths = []; base = base }

-- arrays of a length
abbrev array : ℕ → Base → Ty
array n base = record { lengths = n ∷ []; base = base }

-- an element of this value
abbrev found : Val → ℕ → Element
found v place = record { value = v; place = place }

-- an element of a whole number
abbrev number : ℤ → ℕ → Element
number z place = found (Num z) place

-- these elements and then the end of the input
abbrev ended : List Element → Elements
ended es = record { found = es; tail = Ended }

-- these elements and then malformed input
abbrev malformed : ℕ → List Element → Elements
malformed at es = record { found = es; tail = Malformed at }

-- these elements and then bytes that are not known yet
abbrev undecided : List Element → Elements
undecided es = record { found = es; tail = Open }

-- an array of bits
abbrev bits : List Bool → Val
bits bs = ListVal (map (λ b. BitVal b) bs)

-- an array of whole numbers
abbrev numbers : List ℤ → Val
numbers zs = ListVal (map (λ z. Num z) zs)

-- three bits 0
abbrev zeros : Val
zeros = bits (false ∷ false ∷ false ∷ [])

-- so many spaces
abbrev blanks : ℕ → List ℕ
blanks n = replicate n 32

-- whole bytes are numbers, with the place after each in bits
pub small_numbers : elements Binary (single Int8) (5 ∷ 2 ∷ 0 ∷ []) true ≡ ended (number (pos 5) 8 ∷ number (pos 2) 16 ∷ number (pos 0) 24 ∷ [])
small_numbers = refl

-- the least number of eight bits
pub least_of_8_bits : elements Binary (single Int8) (128 ∷ 127 ∷ []) true ≡ ended (number (negsuc 127) 8 ∷ number (pos 127) 16 ∷ [])
least_of_8_bits = refl

-- two bytes are a number, the less significant first
pub least_of_16_bits : elements Binary (single Int16) (0 ∷ 128 ∷ 255 ∷ 127 ∷ []) true ≡ ended (number (negsuc 32767) 16 ∷ number (pos 32767) 32 ∷ [])
least_of_16_bits = refl

-- a last piece that is too short for an element is none
pub least_of_32_bits : elements Binary (single Int32) (0 ∷ 0 ∷ 0 ∷ 128 ∷ 255 ∷ 255 ∷ 255 ∷ 127 ∷ 2 ∷ []) true ≡
    ended (number (negsuc 2147483647) 32 ∷ number (pos 2147483647) 64 ∷ [])
least_of_32_bits = refl

-- eight bytes are a number
pub minus_one_of_64_bits : elements Binary (single Int64) (255 ∷ 255 ∷ 255 ∷ 255 ∷ 255 ∷ 255 ∷ 255 ∷ 255 ∷ []) true ≡
    ended (number (negsuc 0) 64 ∷ [])
minus_one_of_64_bits = refl

-- a complex number is its real part, then its imaginary part
pub complex_of_16_bits : elements Binary (single Complex16) (1 ∷ 0 ∷ 2 ∷ 0 ∷ 3 ∷ 0 ∷ []) true ≡ ended (found (Pair (pos 1) (pos 2)) 32 ∷ [])
complex_of_16_bits = refl

-- a complex number of two parts of 32 bits
pub complex_of_32_bits : elements Binary (single Complex32) (1 ∷ 0 ∷ 0 ∷ 0 ∷ 255 ∷ 255 ∷ 255 ∷ 255 ∷ []) true ≡
    ended (found (Pair (pos 1) (negsuc 0)) 64 ∷ [])
complex_of_32_bits = refl

-- bits stand eight to a byte, the least significant first
pub single_bits : elements Binary (single Bit) (3 ∷ []) true ≡ ended (map (λ k. found (BitVal (nat_lt k 3)) k) (1 ∷ 2 ∷ 3 ∷ 4 ∷ 5 ∷ 6 ∷ 7 ∷ 8 ∷ []))
single_bits = refl

-- elements of three bits stand without gaps, over the ends of bytes too
pub threes_of_bits : elements Binary (array 3 Bit) (165 ∷ 1 ∷ []) true ≡
    ended (
    found (bits (true ∷ false ∷ true ∷ [])) 3 ∷ found (bits (false ∷ false ∷ true ∷ [])) 6 ∷ found (bits (false ∷ true ∷ true ∷ [])) 9
    ∷ found zeros 12 ∷ found zeros 15 ∷ []
    )
threes_of_bits = refl

-- an array of arrays is its elements in order
pub arrays_of_arrays : elements Binary (record { lengths = 2 ∷ 3 ∷ []; base = Int8 }) (1 ∷ 2 ∷ 3 ∷ 4 ∷ 5 ∷ 6 ∷ 7 ∷ []) true ≡
    ended (found (ListVal (numbers (pos 1 ∷ pos 2 ∷ pos 3 ∷ []) ∷ numbers (pos 4 ∷ pos 5 ∷ pos 6 ∷ []) ∷ [])) 48 ∷ [])
arrays_of_arrays = refl

-- an array of complex numbers
pub pairs_of_complex : elements Binary (array 2 Complex16) (1 ∷ 0 ∷ 2 ∷ 0 ∷ 3 ∷ 0 ∷ 4 ∷ 0 ∷ []) true ≡
    ended (found (ListVal (Pair (pos 1) (pos 2) ∷ Pair (pos 3) (pos 4) ∷ [])) 64 ∷ [])
pairs_of_complex = refl

-- more bytes may follow bytes that are not all of the input
pub open_binary : elements Binary (single Int16) (1 ∷ 0 ∷ 2 ∷ []) false ≡ undecided (number (pos 1) 16 ∷ [])
open_binary = refl

-- numbers stand between white space, with commas between them and the place after each in bytes
pub white_space_around : elements Text (single Int16) (codes " 5,-3 ,\n7") true ≡
    ended (number (pos 5) 3 ∷ number (negsuc 2) 7 ∷ number (pos 7) 9 ∷ [])
white_space_around = refl

-- tab and carriage return are white space
pub tabs_and_returns : elements Text (single Int8) (codes "\t5\r,\r6\t") true ≡ ended (number (pos 5) 4 ∷ number (pos 6) 7 ∷ [])
tabs_and_returns = refl

-- no other byte is white space
pub vertical_tab : elements Text (single Int8) (11 ∷ 53 ∷ []) true ≡ malformed 0 []
vertical_tab = refl

-- white space may end the input behind a comma
pub white_space_at_the_end : elements Text (single Int8) (codes "5, \n") true ≡ ended (number (pos 5) 2 ∷ [])
white_space_at_the_end = refl

-- a comma may end the input
pub comma_at_the_end : elements Text (single Int8) (codes "5,") true ≡ ended (number (pos 5) 2 ∷ [])
comma_at_the_end = refl

-- the empty text has no elements
pub empty_text : elements Text (single Int8) [] true ≡ ended []
empty_text = refl

-- malformed input stands behind the last element
pub letter_behind_a_number : elements Text (single Int16) (codes "5,x") true ≡ malformed 2 (number (pos 5) 2 ∷ [])
letter_behind_a_number = refl

-- behind malformed input stands no element
pub number_behind_a_letter : elements Text (single Int16) (codes "5,x,6") true ≡ malformed 2 (number (pos 5) 2 ∷ [])
number_behind_a_letter = refl

-- a number above the range of its type is malformed
pub above_16_bits : elements Text (single Int16) (codes "40000") true ≡ malformed 0 []
above_16_bits = refl

-- the same number is in the range of a wider type
pub within_32_bits : elements Text (single Int32) (codes "40000") true ≡ ended (number (pos 40000) 5 ∷ [])
within_32_bits = refl

-- the ends of a range are in it
pub ends_of_8_bits : elements Text (single Int8) (codes "-128,127") true ≡ ended (number (negsuc 127) 5 ∷ number (pos 127) 8 ∷ [])
ends_of_8_bits = refl

-- the number below a range is malformed
pub below_8_bits : elements Text (single Int8) (codes "-129") true ≡ malformed 0 []
below_8_bits = refl

-- the number above a range is malformed
pub above_8_bits : elements Text (single Int8) (codes "128") true ≡ malformed 0 []
above_8_bits = refl

-- a bit may have spare zeros and a minus before zero
pub spelled_bits : elements Text (single Bit) (codes "01,-0,1") true ≡
    ended (found (BitVal true) 3 ∷ found (BitVal false) 6 ∷ found (BitVal true) 7 ∷ [])
spelled_bits = refl

-- two is no bit
pub two_as_a_bit : elements Text (single Bit) (codes "2") true ≡ malformed 0 []
two_as_a_bit = refl

-- minus one is no bit
pub minus_one_as_a_bit : elements Text (single Bit) (codes "-1") true ≡ malformed 0 []
minus_one_as_a_bit = refl

-- two numbers in one item are malformed
pub two_numbers : elements Text (single Int8) (codes "1 2") true ≡ malformed 0 []
two_numbers = refl

-- a comma without a number before it is malformed
pub lone_comma : elements Text (single Int8) (codes ",") true ≡ malformed 0 []
lone_comma = refl

-- a minus without digits is malformed
pub lone_minus : elements Text (single Int8) (codes "-") true ≡ malformed 0 []
lone_minus = refl

-- the bytes beside the digits are none
pub beside_the_digits : elements Text (single Int8) (codes "/") true ≡ malformed 0 []
beside_the_digits = refl

-- the bytes beside the digits are none
pub behind_the_digits : elements Text (single Int8) (codes ":") true ≡ malformed 0 []
behind_the_digits = refl

-- all ten digits
pub all_digits : elements Text (single Int64) (codes "1234567890") true ≡ ended (number (pos 1234567890) 10 ∷ [])
all_digits = refl

-- sound items that are too few for an element are unread input
pub half_a_complex_number : elements Text (single Complex16) (codes "1,") true ≡ ended []
half_a_complex_number = refl

-- a complex number is two items, and malformed input stands behind the last whole element
pub complex_and_a_letter : elements Text (single Complex32) (codes "1,-2,3,x") true ≡ malformed 5 (found (Pair (pos 1) (negsuc 1)) 5 ∷ [])
complex_and_a_letter = refl

-- an array is all items of its elements
pub array_of_text : elements Text (array 2 Int8) (codes "1,2,3,4") true ≡
    ended (found (ListVal (Num (pos 1) ∷ Num (pos 2) ∷ [])) 4 ∷ found (ListVal (Num (pos 3) ∷ Num (pos 4) ∷ [])) 7 ∷ [])
array_of_text = refl

-- an item with its white space and its comma has at most 64 bytes
pub longest_item : elements Text (single Int8) (blanks 62 ++ codes "5,6") true ≡ ended (number (pos 5) 64 ∷ number (pos 6) 65 ∷ [])
longest_item = refl

-- an item of 65 bytes with its comma is malformed
pub too_long_item : elements Text (single Int8) (blanks 63 ++ codes "5,6") true ≡ malformed 0 []
too_long_item = refl

-- an item at the end of the input has at most 64 bytes
pub longest_last_item : elements Text (single Int8) (blanks 63 ++ codes "5") true ≡ ended (number (pos 5) 64 ∷ [])
longest_last_item = refl

-- an item of 65 bytes at the end of the input is malformed
pub too_long_last_item : elements Text (single Int8) (blanks 64 ++ codes "5") true ≡ malformed 0 []
too_long_last_item = refl

-- white space at the end has at most 64 bytes
pub longest_end : elements Text (single Int8) (codes "5," ++ blanks 64) true ≡ ended (number (pos 5) 2 ∷ [])
longest_end = refl

-- 65 bytes of white space at the end are malformed
pub too_long_end : elements Text (single Int8) (codes "5," ++ blanks 65) true ≡ malformed 2 (number (pos 5) 2 ∷ [])
too_long_end = refl

-- a number is decided by the comma behind it
pub open_digit : elements Text (single Int8) (codes "5,6") false ≡ undecided (number (pos 5) 2 ∷ [])
open_digit = refl

-- a digit may follow a minus
pub open_minus : elements Text (single Int8) (codes "-") false ≡ undecided []
open_minus = refl

-- no bytes behind a letter mend it
pub open_letter : elements Text (single Int8) (codes "5,x") false ≡ malformed 2 (number (pos 5) 2 ∷ [])
open_letter = refl

-- no digits behind a number that is too large mend it
pub open_large_number : elements Text (single Int8) (codes "200") false ≡ malformed 0 []
open_large_number = refl

-- the input may end in white space, or a number follow it
pub open_white_space : elements Text (single Int8) (blanks 64) false ≡ undecided []
open_white_space = refl

-- nothing mends 65 bytes of white space
pub open_long_white_space : elements Text (single Int8) (blanks 65) false ≡ malformed 0 []
open_long_white_space = refl

-- a minus leaves room for a digit
pub open_late_minus : elements Text (single Int8) (blanks 62 ++ codes "-") false ≡ undecided []
open_late_minus = refl

-- a minus leaves no room for a digit
pub open_too_late_minus : elements Text (single Int8) (blanks 63 ++ codes "-") false ≡ malformed 0 []
open_too_late_minus = refl

-- the input may end behind a number of 64 bytes
pub open_late_digit : elements Text (single Int8) (blanks 63 ++ codes "5") false ≡ undecided []
open_late_digit = refl

-- a malformed item before a comma is not mended
pub open_comma : elements Text (single Int8) (codes "5x,") false ≡ malformed 0 []
open_comma = refl

-- items of a part of an element stand open
pub open_half : elements Text (single Complex16) (codes "1,2,3,") false ≡ undecided (found (Pair (pos 1) (pos 2)) 4 ∷ [])
open_half = refl

-- no place above 64 bits is told
pub last_place : told_place (number (pos 1) (2 ^ 64) ∷ []) ≡ 2 ^ 64 - 1
last_place = refl

-- a place of 64 bits is told as it is
pub told_below : told_place (number (pos 1) 7 ∷ []) ≡ 7
told_below = refl

-- the values of elements in order
pub values_in_order : element_values (number (pos 1) 8 ∷ number (pos 2) 16 ∷ []) ≡ Num (pos 1) ∷ Num (pos 2) ∷ []
values_in_order = refl

-- the unread bits are packed anew and padded
pub rest_of_bits : rest_of Binary (single Bit) (0 ∷ 240 ∷ []) 2 ≡ 0 ∷ 60 ∷ []
rest_of_bits = refl

-- a last piece that is no element is unread
pub rest_of_complex : rest_of Binary (single Complex16) (1 ∷ 0 ∷ 2 ∷ 0 ∷ 3 ∷ 0 ∷ []) 1 ≡ 3 ∷ 0 ∷ []
rest_of_complex = refl

-- before the first element all is unread
pub rest_of_none_taken : rest_of Binary (single Int16) (1 ∷ 2 ∷ 3 ∷ []) 0 ≡ 1 ∷ 2 ∷ 3 ∷ []
rest_of_none_taken = refl

-- the unread bytes of a text begin behind a comma
pub rest_of_text : rest_of Text (single Int8) (codes " 5 , 6,x") 1 ≡ codes " 6,x"
rest_of_text = refl

-- two elements of a text are read
pub rest_of_two : rest_of Text (single Int8) (codes " 5 , 6,x") 2 ≡ codes "x"
rest_of_two = refl

-- there is no element to read behind the last
pub rest_of_too_many : rest_of Text (single Int8) (codes "5,x") 4 ≡ codes "x"
rest_of_too_many = refl

-- thirteen bits 1 are a byte and a padded byte
pub padded_bits : spell Binary (single Bit) (replicate 13 (BitVal true)) true ≡ 255 ∷ 31 ∷ []
padded_bits = refl

-- before the end of the output only whole bytes are put
pub unpadded_bits : spell Binary (single Bit) (replicate 13 (BitVal true)) false ≡ 255 ∷ []
unpadded_bits = refl

-- the first bit is the least significant
pub first_bit : spell Binary (single Bit) (BitVal true ∷ BitVal false ∷ []) true ≡ 1 ∷ []
first_bit = refl

-- eight bits are one whole byte
pub eight_bits : spell Binary (single Bit) (replicate 8 (BitVal true)) true ≡ 255 ∷ []
eight_bits = refl

-- a number of eight bits
pub spelled_8_bits : spell Binary (single Int8) (Num (negsuc 127) ∷ Num (pos 127) ∷ []) true ≡ 128 ∷ 127 ∷ []
spelled_8_bits = refl

-- the less significant byte stands first
pub spelled_16_bits : spell Binary (single Int16) (Num (negsuc 32767) ∷ Num (pos 258) ∷ []) false ≡ 0 ∷ 128 ∷ 2 ∷ 1 ∷ []
spelled_16_bits = refl

-- a number of 32 bits
pub spelled_32_bits : spell Binary (single Int32) (Num (negsuc 1) ∷ []) true ≡ 254 ∷ 255 ∷ 255 ∷ 255 ∷ []
spelled_32_bits = refl

-- a number of 64 bits
pub spelled_64_bits : spell Binary (single Int64) (Num (pos 5) ∷ []) true ≡ 5 ∷ 0 ∷ 0 ∷ 0 ∷ 0 ∷ 0 ∷ 0 ∷ 0 ∷ []
spelled_64_bits = refl

-- the real part stands first
pub spelled_complex : spell Binary (single Complex16) (Pair (pos 1) (negsuc 0) ∷ []) true ≡ 1 ∷ 0 ∷ 255 ∷ 255 ∷ []
spelled_complex = refl

-- the parts of a wider complex number
pub spelled_wide_complex : spell Binary (single Complex32) (Pair (pos 1) (pos 2) ∷ []) true ≡ 1 ∷ 0 ∷ 0 ∷ 0 ∷ 2 ∷ 0 ∷ 0 ∷ 0 ∷ []
spelled_wide_complex = refl

-- the elements of an array follow each other without gaps
pub spelled_arrays : spell Binary (array 2 Bit) (replicate 3 (bits (true ∷ false ∷ []))) true ≡ 21 ∷ []
unfolding digits shape-the_row-Val-0 hidden-the_row-Val-0 hidden
spelled_arrays = refl

-- numbers in decimal with commas between them, and a newline at the end
pub spelled_text : spell Text (single Int16) (Num (pos 5) ∷ Num (negsuc 2) ∷ Num (pos 0) ∷ []) true ≡ codes "5,-3,0\n"
unfolding digits shape-the_row-Val-0 hidden-the_row-Val-0 hidden
spelled_text = refl

-- before the end of the output no newline is put
pub unfinished_text : spell Text (single Int16) (Num (pos 5) ∷ Num (negsuc 2) ∷ []) false ≡ codes "5,-3"
unfolding digits shape-the_row-Val-0 hidden-the_row-Val-0 hidden
unfinished_text = refl

-- an output without a number is empty
pub spelled_nothing : spell Text (single Int16) ([]) true ≡ []
spelled_nothing = refl

-- the items of an array and of a complex number are numbers like others
pub spelled_pairs : spell Text (array 2 Complex16) (ListVal (Pair (pos 1) (pos 2) ∷ Pair (negsuc 32767) (pos 4) ∷ []) ∷ []) true ≡
    codes "1,2,-32768,4\n"
unfolding digits shape-the_row-Val-0 hidden-the_row-Val-0 hidden
spelled_pairs = refl

-- bits as text
pub spelled_text_of_bits : spell Text (single Bit) (BitVal true ∷ BitVal false ∷ []) true ≡ codes "1,0\n"
unfolding digits shape-the_row-Val-0 hidden-the_row-Val-0 hidden
spelled_text_of_bits = refl
