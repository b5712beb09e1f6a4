-- The words of a command line, each as its bytes, and what they ask for.
use Rattle.std.specs.Prelude.{◌≡◌, ◌≢◌, ◌≤◌, ◌<◌, ◌^◌, ℕ, List, [], ◌∷◌, length, slice_index, codes, decimal}
use Rattle.zir_words.specs.declared.Job.{Job}
use Rattle.zir_words.specs.declared.Job.TheVariants.{Run, Check, Show}

-- a number of ticks that a run may be given
pub record IsBudget (n : ℕ) : Type 0 where
  pub least : 1 ≤ n
  pub most : n ≤ 2 ^ 48

-- a name has a byte, and its first is not the dash (45) of an option
pub record IsProgramName (name : List ℕ) : Type 0 where
  pub some : 0 < length name
  pub no_option : slice_index name 0 ≢ 45

-- the words are `run --ticks N NAME`, where N is the number in decimal, without leading zeros
pub record IsRun (words : List (List ℕ)) (ticks : ℕ) (name : List ℕ) : Type 0 where
  pub form : words ≡ codes "run" ∷ codes "--ticks" ∷ decimal ticks ∷ name ∷ []
  pub budget : IsBudget ticks
  pub program : IsProgramName name

-- the words are `check NAME`
pub record IsCheck (words : List (List ℕ)) (name : List ℕ) : Type 0 where
  pub form : words ≡ codes "check" ∷ name ∷ []
  pub program : IsProgramName name

-- the words are `show NAME`
pub record IsShow (words : List (List ℕ)) (name : List ℕ) : Type 0 where
  pub form : words ≡ codes "show" ∷ name ∷ []
  pub program : IsProgramName name

-- what words may ask for, with the name of a program: its run with so many ticks, the report on it, or its canonical text
pub data Asked : Type 0 where
  ForRun : (ticks : ℕ) → (name : List ℕ) → Asked
  ForCheck : (name : List ℕ) → Asked
  ForShow : (name : List ℕ) → Asked

-- the words ask for this
abbrev pub Ask : List (List ℕ) → Asked → Type 0
Ask words (ForRun ticks name) = IsRun words ticks name
Ask words (ForCheck name) = IsCheck words name
Ask words (ForShow name) = IsShow words name

-- what a job is
abbrev pub asked_of : Job → Asked
asked_of (Run run) = ForRun run.ticks run.name.now
asked_of (Check name) = ForCheck name.now
asked_of (Show name) = ForShow name.now

-- the name of the program that is asked for
abbrev pub name_of : Asked → List ℕ
name_of (ForRun ticks name) = name
name_of (ForCheck name) = name
name_of (ForShow name) = name

-- the words are of no form
abbrev pub AreBad : List (List ℕ) → Type 0
AreBad words = (asked : Asked) → Ask words asked → ⊥

-- the words ask for one thing at most
abbrev pub AskOnce : Type 0
AskOnce = (words : List (List ℕ)) (a b : Asked) → Ask words a → Ask words b → a ≡ b
