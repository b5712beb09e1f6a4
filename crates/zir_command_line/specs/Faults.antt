-- Where words that ask for nothing go wrong.
use Rattle.std.specs.Prelude.{◌≡◌, ℕ, List, [], ◌∷◌, ◌++◌, length, Result, Ok, Err}
use Rattle.zir_command_line.specs.Words.{Ask, Asked}

-- the words ask for nothing
abbrev pub AreBad : List (List ℕ) → Type 0
AreBad words = (asked : Asked) → Ask words asked → ⊥

-- some words that ask for something begin with these
pub record Begins (front : List (List ℕ)) : Type 0 where
  pub more : List (List ℕ)
  pub asked : Asked
  pub asks : Ask (front ++ more) asked

-- no words that ask for something go on so: none begins so up to the next word, or the words end here and ask for nothing
abbrev pub NoneGoesOn : List (List ℕ) → List (List ℕ) → Type 0
NoneGoesOn front [] = AreBad front
NoneGoesOn front (bad ∷ back) = Begins (front ++ bad ∷ []) → ⊥

-- the first word with which no words that ask for something go on, by the number of those before it; that is the number of all words
-- where one is missing behind the last
pub record FirstFault (words : List (List ℕ)) (place : ℕ) : Type 0 where
  pub front : List (List ℕ)
  pub back : List (List ℕ)
  pub split : words ≡ front ++ back
  pub count : length front ≡ place
  pub begins : Begins front
  pub wrong : NoneGoesOn front back

-- what is answered to words: what they ask for, or the place of their first fault
abbrev pub Answers : List (List ℕ) → Result Asked ℕ → Type 0
Answers words (Ok asked) = Ask words asked
Answers words (Err place) = FirstFault words place

-- there is one answer to words
abbrev pub HasOneAnswer : Type 0
HasOneAnswer = (words : List (List ℕ)) (a b : Result Asked ℕ) → Answers words a → Answers words b → a ≡ b
