-- The words of a command line, each as its bytes, and what they ask for.
use Rattle.std.specs.Prelude.{◌≡◌, ◌≢◌, ◌≤◌, ◌<◌, ◌^◌, ℕ, Bool, true, false, List, [], ◌∷◌, Option, Some, None, All, length, slice_index, codes, decimal, filter_map}
use Rattle.zir_tree.specs.declared.format.Format.{Format}
use Rattle.zir_tree.specs.declared.format.Format.TheVariants.{Binary, Text}
use Rattle.zir_command_line.specs.declared.RunJob.{RunJob}
use Rattle.zir_command_line.specs.declared.Job.{Job}
use Rattle.zir_command_line.specs.declared.Job.TheVariants as job

-- ---- options and names

-- an option with its value
pub data Choice : Type 0 where
  Ticks : (number : ℕ) → Choice
  Workers : (number : ℕ) → Choice
  Split : Choice
  AsText : Choice

-- the number of an option: 1 at least, and this at most
pub record IsWithin (most number : ℕ) : Type 0 where
  pub low : 1 ≤ number
  pub high : number ≤ most

-- a name has a byte
abbrev pub IsName : List ℕ → Type 0
IsName name = 0 < length name

-- a name whose first byte is not the dash (45) of an option
pub record IsPlainName (name : List ℕ) : Type 0 where
  pub is_name : IsName name
  pub no_dash : slice_index name 0 ≢ 45

-- the words behind a command give these options and these names, each in the order of the words. An option is its word, with its
-- value in the next one; a number is in decimal, without leading zeros; any word behind a `--` is a name
pub data IsLine : List (List ℕ) → List Choice → List (List ℕ) → Type 0 where
  no_words : IsLine [] [] []
  ticks : {n : ℕ} {words : List (List ℕ)} {options : List Choice} {names : List (List ℕ)}
      → IsWithin (2 ^ 48) n → IsLine words options names → IsLine (codes "--ticks" ∷ decimal n ∷ words) (Ticks n ∷ options) names
  workers : {n : ℕ} {words : List (List ℕ)} {options : List Choice} {names : List (List ℕ)}
      → IsWithin 16 n → IsLine words options names → IsLine (codes "--workers" ∷ decimal n ∷ words) (Workers n ∷ options) names
  split : {words : List (List ℕ)} {options : List Choice} {names : List (List ℕ)}
      → IsLine words options names → IsLine (codes "--split" ∷ codes "auto" ∷ words) (Split ∷ options) names
  text : {words : List (List ℕ)} {options : List Choice} {names : List (List ℕ)}
      → IsLine words options names → IsLine (codes "--text" ∷ words) (AsText ∷ options) names
  plain_name : {name : List ℕ} {words : List (List ℕ)} {options : List Choice} {names : List (List ℕ)}
      → IsPlainName name → IsLine words options names → IsLine (name ∷ words) options (name ∷ names)
  separator : {names : List (List ℕ)} → All IsName names → IsLine (codes "--" ∷ names) [] names

-- ---- what is asked for

-- an option's value where it is given once, and its default where it is not given
abbrev pub IsGiven : {X : Type 0} → X → List X → X → Type 0
IsGiven default [] value = value ≡ default
IsGiven default (given ∷ []) value = value ≡ given
IsGiven default (given ∷ again ∷ more) value = ⊥

-- the value of `--ticks`
abbrev pub ticks_of : Choice → Option ℕ
ticks_of (Ticks n) = Some n
ticks_of other = None

-- the value of `--workers`
abbrev pub workers_of : Choice → Option ℕ
workers_of (Workers n) = Some n
workers_of other = None

-- that pipelines are split, by `--split auto`
abbrev pub auto_of : Choice → Option Bool
auto_of Split = Some true
auto_of other = None

-- the format that `--text` asks for
abbrev pub format_of : Choice → Option Format
format_of AsText = Some Text
format_of other = None

-- the run of a program
pub record AskedRun : Type 0 where
  pub ticks : ℕ
  pub workers : ℕ
  pub auto : Bool
  pub format : Format
  pub program : List ℕ

-- what words may ask for: a run, the report on a program, its canonical text, the help, or the version
pub data Asked : Type 0 where
  ForRun : (run : AskedRun) → Asked
  ForCheck : (name : List ℕ) → Asked
  ForShow : (name : List ℕ) → Asked
  ForHelp : Asked
  ForVersion : Asked

-- the words behind `run` ask for this run
pub record IsRun (words : List (List ℕ)) (run : AskedRun) : Type 0 where
  pub options : List Choice
  pub line : IsLine words options (run.program ∷ [])
  pub ticks : IsGiven 1_000_000_000_000 (filter_map ticks_of options) run.ticks
  pub workers : IsGiven 1 (filter_map workers_of options) run.workers
  pub auto : IsGiven false (filter_map auto_of options) run.auto
  pub format : IsGiven Binary (filter_map format_of options) run.format

-- the words ask for this
abbrev pub Ask : List (List ℕ) → Asked → Type 0
Ask [] asked = ⊥
Ask (command ∷ words) (ForRun run) = (command ≡ codes "run") × IsRun words run
Ask (command ∷ words) (ForCheck name) = (command ≡ codes "check") × IsLine words [] (name ∷ [])
Ask (command ∷ words) (ForShow name) = (command ≡ codes "show") × IsLine words [] (name ∷ [])
Ask (command ∷ words) ForHelp = (command ≡ codes "--help") × (words ≡ [])
Ask (command ∷ words) ForVersion = (command ≡ codes "--version") × (words ≡ [])

-- the words ask for one thing at most
abbrev pub AskOnce : Type 0
AskOnce = (words : List (List ℕ)) (a b : Asked) → Ask words a → Ask words b → a ≡ b

-- ---- jobs

-- what a run's job is
abbrev pub asked_run : RunJob → AskedRun
asked_run run = record {
  ticks = run.ticks;
  workers = run.workers;
  auto = run.auto;
  format = run.format;
  program = run.program.now;
}

-- what a job is
abbrev pub asked_of : Job → Asked
asked_of (job.Run run) = ForRun (asked_run run)
asked_of (job.Check name) = ForCheck name.now
asked_of (job.Show name) = ForShow name.now
asked_of job.Help = ForHelp
asked_of job.Version = ForVersion
