-- How the code reads the words behind a command, one after the other; what the words ask for does not rest on it.
use Rattle.std.specs.Prelude.{◌≡◌, ◌⊎◌, ◌^◌, ◌+◌, ℕ, Bool, true, false, not, ◌&&◌, ◌||◌, if◌then◌else◌, nat_le, ◌==◌, List, [], ◌∷◌, ◌++◌, Option, Some, None, is_some, is_none, unwrap_or, option_map, option_and_then, length, bytes_eq, codes, decimal}
use Rattle.std.specs.Str.Parse.{digits_value}
use Rattle.zir_tree.specs.declared.format.Format.TheVariants.{Binary, Text}
use Rattle.zir_command_line.specs.declared.reading.Kind.{Kind}
use Rattle.zir_command_line.specs.declared.reading.Kind.TheVariants as kind
use Rattle.zir_command_line.specs.declared.reading.Next.{Next}
use Rattle.zir_command_line.specs.declared.reading.Next.TheVariants as next
use Rattle.zir_command_line.specs.declared.reading.Line.{Line}
use Rattle.zir_command_line.specs.Words.{AskedRun}

-- what the words have given so far
pub record State : Type 0 where
  pub ticks : Option ℕ
  pub workers : Option ℕ
  pub auto : Bool
  pub text : Bool
  pub program : Option (List ℕ)
  pub takes_options : Bool
  pub next : Next

-- what a line has given so far
abbrev pub state_of : Line → State
state_of line = record {
  ticks = line.ticks;
  workers = line.workers;
  auto = line.auto;
  text = line.text;
  program = option_map (λ name. name.now) line.program;
  takes_options = line.takes_options;
  next = line.next;
}

-- where no word was read
abbrev pub start : Bool → State
start takes_options = record {
  ticks = None;
  workers = None;
  auto = false;
  text = false;
  program = None;
  takes_options = takes_options;
  next = next.Any;
}

-- what a word is that begins with a dash
unfoldable pub dashed : List ℕ → Kind
dashed word =
    if bytes_eq word (codes "--ticks") then kind.Ticks
    else if bytes_eq word (codes "--workers") then kind.Workers
    else if bytes_eq word (codes "--split") then kind.Split
    else if bytes_eq word (codes "--text") then kind.Text
    else if bytes_eq word (codes "--") then kind.Separator
    else kind.Bad

-- what a word is
unfoldable pub kind_of : List ℕ → Kind
kind_of [] = kind.Bad
kind_of (byte ∷ bytes) = if byte == 45 then dashed (byte ∷ bytes) else kind.Name

-- the number that a word spells
unfoldable pub number_of : ℕ → List ℕ → Option ℕ
number_of most word =
    let n = digits_value 10 word in
    if bytes_eq word (decimal n) && (nat_le 1 n && nat_le n most) then Some n else None

-- after one more name
abbrev pub after_name : State → List ℕ → Option State
after_name s word = if length word == 0 || is_some s.program then None else Some (record s { program = Some word })

-- after the word of an option
abbrev pub after_option : Kind → State → Option State
after_option kind.Ticks s = if s.takes_options && is_none s.ticks then Some (record s { next = next.Ticks }) else None
after_option kind.Workers s = if s.takes_options && is_none s.workers then Some (record s { next = next.Workers }) else None
after_option kind.Split s = if s.takes_options && not s.auto then Some (record s { next = next.Split }) else None
after_option kind.Text s = if s.takes_options && not s.text then Some (record s { text = true }) else None
after_option other s = None

-- after a word of a kind
abbrev pub after_kind : Kind → State → List ℕ → Option State
after_kind kind.Name s word = after_name s word
after_kind kind.Separator s word = Some (record s { next = next.Name })
after_kind other s word = after_option other s

-- after the value of `--ticks`
abbrev pub after_ticks : State → Option ℕ → Option State
after_ticks s = option_map (λ n. record s { ticks = Some n; next = next.Any })

-- after the value of `--workers`
abbrev pub after_workers : State → Option ℕ → Option State
after_workers s = option_map (λ n. record s { workers = Some n; next = next.Any })

-- after the value of `--split`
abbrev pub after_split : State → List ℕ → Option State
after_split s word = if bytes_eq word (codes "auto") then Some (record s { auto = true; next = next.Any }) else None

-- after one more word, by what it has to be
abbrev pub after : Next → State → List ℕ → Option State
after next.Any s word = after_kind (kind_of word) s word
after next.Ticks s word = after_ticks s (number_of (2 ^ 48) word)
after next.Workers s word = after_workers s (number_of 16 word)
after next.Split s word = after_split s word
after next.Name s word = after_name s word

-- after one more word
unfoldable pub step : State → List ℕ → Option State
step s word = after s.next s word

-- after more words
abbrev pub walk : State → List (List ℕ) → Option State
walk s [] = Some s
walk s (word ∷ words) = option_and_then (λ t. walk t words) (step s word)

-- the words do not end behind an option that wants a value
abbrev pub ends : Next → Bool
ends next.Any = true
ends next.Name = true
ends other = false

-- the name of the program, where the words may end
abbrev pub finish : State → Option (List ℕ)
finish s = if ends s.next then s.program else None

-- the walk stops at the word of this place, where the first one has this index
pub record Stops (s : State) (words : List (List ℕ)) (index place : ℕ) : Type 0 where
  pub front : List (List ℕ)
  pub bad : List ℕ
  pub back : List (List ℕ)
  pub split : words ≡ front ++ bad ∷ back
  pub count : index + length front ≡ place
  pub before : State
  pub walks : walk s front ≡ Some before
  pub stops : step before bad ≡ None

-- the run that a line asks for
abbrev pub run_of : State → List ℕ → AskedRun
run_of s name = record {
  ticks = unwrap_or s.ticks 1_000_000_000_000;
  workers = unwrap_or s.workers 1;
  auto = s.auto;
  format = if s.text then Text else Binary;
  program = name;
}

-- the commands that take the name of a program and no options
abbrev pub TakesName : List ℕ → Type 0
TakesName command = (command ≡ codes "check") ⊎ (command ≡ codes "show")
