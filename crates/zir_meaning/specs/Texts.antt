-- The text format: numbers in decimal with commas between them and white space around them.
use Rattle.std.specs.Prelude.{ℕ, ◌+◌, ◌-◌, ◌*◌, nat_eq, nat_le, ℤ, pos, neg_ℤ, Bool, true, false, not, ◌&&◌, ◌||◌, if◌then◌else◌, Option, Some, None, is_none, option_map, List, [], ◌∷◌, ◌++◌, length, map, reverse, fold, codes}
use Rattle.std.specs.Fmt.{signed_decimal}
use Rattle.std.specs.List.{join_by, list_all, list_any}
use Rattle.zir_tree.specs.declared.types.Base.{Base}
use Rattle.zir_meaning.specs.Items.{Item, fits}

-- white space is space, tab, newline and carriage return
abbrev pub is_blank : ℕ → Bool
is_blank b = list_any (nat_eq b) (codes " \t\n\r")

-- a decimal digit
abbrev pub is_digit : ℕ → Bool
is_digit b = nat_le 48 b && nat_le b 57

-- bytes without the white space in front of them
abbrev pub skip_blanks : List ℕ → List ℕ
skip_blanks [] = []
skip_blanks (b ∷ bytes) = if is_blank b then skip_blanks bytes else b ∷ bytes

-- bytes without the white space on both sides of them
abbrev pub trimmed : List ℕ → List ℕ
trimmed bytes = reverse (skip_blanks (reverse (skip_blanks bytes)))

-- the number that one or more decimal digits write
abbrev pub digits_number : List ℕ → Option ℕ
digits_number [] = None
digits_number (b ∷ bytes) = if list_all is_digit (b ∷ bytes) then Some (fold (λ n digit. 10 * n + (digit - 48)) 0 (b ∷ bytes)) else None

-- the number that decimal digits write, with a minus in front of them or without
abbrev pub written_number : List ℕ → Option ℤ
written_number [] = None
written_number (b ∷ bytes) = if nat_eq b 45 then option_map (λ n. neg_ℤ (pos n)) (digits_number bytes) else option_map (λ n. pos n) (digits_number (b ∷ bytes))

-- a number in the range of its type, as an item of so many bytes, which are at most 64
abbrev pub item_of : Base → ℕ → Option ℤ → Option Item
item_of base size None = None
item_of base size (Some z) = if fits base z && nat_le size 64 then Some (record { number = z; size = size }) else None

-- the item that stands in these bytes between white space, with a comma behind them
abbrev pub item_before_comma : Base → List ℕ → Option Item
item_before_comma base bytes = item_of base (length bytes + 1) (written_number (trimmed bytes))

-- the item that stands in these bytes between white space, with the end of the input behind them
abbrev pub item_before_end : Base → List ℕ → Option Item
item_before_end base bytes = item_of base (length bytes) (written_number (trimmed bytes))

-- at most 64 bytes of white space, with which the input may end
abbrev pub is_end : List ℕ → Bool
is_end bytes = list_all is_blank bytes && nat_le (length bytes) 64

-- more bytes may make an item of these, or the end of the input: if any can, a digit can, or none
abbrev pub may_go_on : Base → List ℕ → Bool
may_go_on base bytes = is_end bytes || not (is_none (item_before_end base bytes)) || not (is_none (item_before_end base (bytes ++ 48 ∷ [])))

-- a text cut at its commas: what stands before each of them, and what stands behind the last
pub record Cut : Type 0 where
  pub before_commas : List (List ℕ)
  pub behind : List ℕ

-- a cut text with a byte in front of it
abbrev pub with_byte : ℕ → List (List ℕ) → List ℕ → Cut
with_byte b [] behind = record { before_commas = []; behind = b ∷ behind }
with_byte b (part ∷ parts) behind = record { before_commas = (b ∷ part) ∷ parts; behind = behind }

-- a cut text with this byte in front of it, which cuts it once more where it is a comma
abbrev pub cut_more : ℕ → Cut → Cut
cut_more b cut = if nat_eq b 44 then record { before_commas = [] ∷ cut.before_commas; behind = cut.behind } else with_byte b cut.before_commas cut.behind

-- a text cut at its commas
abbrev pub cut_at_commas : List ℕ → Cut
cut_at_commas [] = record { before_commas = []; behind = [] }
cut_at_commas (b ∷ bytes) = cut_more b (cut_at_commas bytes)

-- what the bytes behind the last comma are: in a closed text an item or the end of the input, and else nothing yet unless
-- no bytes behind them can mend them
abbrev pub last_items : Base → Bool → List ℕ → List (Option Item)
last_items base true bytes = if is_end bytes then [] else item_before_end base bytes ∷ []
last_items base false bytes = if may_go_on base bytes then [] else None ∷ []

-- the items of a cut text in order, and None where one is malformed
abbrev pub cut_items : Base → Bool → Cut → List (Option Item)
cut_items base closed cut = map (item_before_comma base) cut.before_commas ++ last_items base closed cut.behind

-- the items before the first that is malformed
abbrev pub sound_items : List (Option Item) → List Item
sound_items [] = []
sound_items (None ∷ items) = []
sound_items (Some item ∷ items) = item ∷ sound_items items

-- the items of a text before the first that is malformed
abbrev pub text_items : Base → Bool → List ℕ → List Item
text_items base closed bytes = sound_items (cut_items base closed (cut_at_commas bytes))

-- one of the items of a text is malformed
abbrev pub is_malformed : Base → Bool → List ℕ → Bool
is_malformed base closed bytes = list_any is_none (cut_items base closed (cut_at_commas bytes))

-- numbers in decimal without spare zeros, with a comma between each two
abbrev pub listed : List ℤ → List ℕ
listed numbers = join_by signed_decimal (codes ",") numbers

-- a newline where the output is finished and there was a number
abbrev pub last_newline : Bool → List ℤ → List ℕ
last_newline true (z ∷ numbers) = codes "\n"
last_newline finished numbers = []

-- the text of numbers
abbrev pub spell_text : Bool → List ℤ → List ℕ
spell_text finished numbers = listed numbers ++ last_newline finished numbers
