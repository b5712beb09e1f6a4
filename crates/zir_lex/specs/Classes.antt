-- The classes of bytes that tokens are made of.
use Rattle.std.specs.Prelude.{ℕ, ◌+◌, ◌*◌, ◌^◌, Bool, false, not, ◌&&◌, ◌||◌, List, [], ◌∷◌, length, ◌==◌, nat_le}
use Rattle.std.specs.Char.{is_ascii_alphabetic, is_ascii_digit, digit_value}

-- a space, a tab, a carriage return or a newline
abbrev pub is_white : ℕ → Bool
is_white b = ((b == 32) || (b == 9)) || ((b == 13) || (b == 10))

-- a letter of ASCII or `_`
abbrev pub is_letter : ℕ → Bool
is_letter b = is_ascii_alphabetic b || (b == 95)

-- a letter, a digit or `_`
abbrev pub is_word_byte : ℕ → Bool
is_word_byte b = is_letter b || is_ascii_digit b

-- a byte from 32 to 126 other than `"`
abbrev pub is_string_byte : ℕ → Bool
is_string_byte b = (nat_le 32 b && nat_le b 126) && not (b == 34)

-- a byte within a line
abbrev pub is_line_byte : ℕ → Bool
is_line_byte b = not (b == 10)

-- the number that digits spell in a base, the first digit counting most
abbrev pub number_of : ℕ → List ℕ → ℕ
number_of base [] = 0
number_of base (d ∷ ds) = digit_value d * base ^ length ds + number_of base ds

-- the first byte, where there is one, is a letter, a digit or `_`
abbrev pub begins_word : List ℕ → Bool
begins_word [] = false
begins_word (b ∷ bs) = is_word_byte b
