-- Which numbers a list of words stands for, and where a number was met last in a list.
use Rattle.std.specs.Prelude.{ℕ, zero, suc, ◌*◌, ◌/◌, ◌%◌, Bool, List, [], ◌∷◌, length, nat_eq, if◌then◌else◌, slice_index}
use Rattle.std.specs.Int.{bit_at}

-- The word at a place; there are only noughts behind the last.
abbrev pub word_at : List ℕ → ℕ → ℕ
word_at words k = slice_index words k

-- Whether the bit of a number is set: a word has 64 bits, the lowest first.
abbrev pub holds : List ℕ → ℕ → Bool
holds words n = nat_eq (bit_at (word_at words (n / 64)) (n % 64)) 1

-- Of so many numbers from k on, those that pass a test.
abbrev pub chosen : (ℕ → Bool) → ℕ → ℕ → List ℕ
chosen test zero k = []
chosen test (suc count) k = if test k then k ∷ chosen test count (suc k) else chosen test count (suc k)

-- The numbers whose bits are set.
abbrev pub members : List ℕ → List ℕ
members words = chosen (holds words) (64 * length words) 0
