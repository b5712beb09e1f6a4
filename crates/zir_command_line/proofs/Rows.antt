-- Worked rows: command lines, and what they ask for or where they go wrong.
use Rattle.std.proofs.Common.{ℕ, true, false, List, [], ◌∷◌, Some, refl, subst, codes, inl, arith}
use Rattle.std.specs.Prelude.{All}
use Rattle.std.proofs.lemmas.Fmt.{decimal_digit}
use Rattle.std.proofs.lemmas.List.Elements.{All-cons, All-nil}
use Rattle.zir_tree.specs.declared.format.Format.TheVariants.{Binary, Text}
use Rattle.zir_command_line.specs.Words.{IsName, IsPlainName, IsLine, no_words, ticks, workers, split, text, plain_name, separator, Ticks, Workers, Split, AsText, ForRun, ForCheck, ForShow, ForHelp, Ask}
use Rattle.zir_command_line.specs.declared.reading.Next.TheVariants as next
use Rattle.zir_command_line.specs.Faults.{FirstFault}
use Rattle.zir_command_line.specs.Walk.{start, kind_of, dashed, step}
use Rattle.zir_command_line.proofs.Faulty.{end_fault, name_walks, run_walks, stop_fault}

-- the name p begins with no dash
p_is_plain : IsPlainName (codes "p")
p_is_plain = record { is_name = omega arith; no_dash = λ e. omega (arith, e) }

-- one name behind a `--`
one_name : (name : List ℕ) → IsName name → All IsName (name ∷ [])
one_name name is = All-cons IsName name [] is (All-nil IsName)

-- run p
pub defaults_row : Ask (codes "run" ∷ codes "p" ∷ []) (ForRun (record { ticks = 1_000_000_000_000; workers = 1; auto = false; format = Binary; program = codes "p" }))
defaults_row = (refl, record { options = []; line = plain_name p_is_plain no_words; ticks = refl; workers = refl; auto = refl; format = refl })

-- run p --
pub empty_rest_row : Ask (codes "run" ∷ codes "p" ∷ codes "--" ∷ []) (ForRun (record { ticks = 1_000_000_000_000; workers = 1; auto = false; format = Binary; program = codes "p" }))
empty_rest_row = (refl, record { options = []; line = plain_name p_is_plain (separator (All-nil IsName)); ticks = refl; workers = refl; auto = refl; format = refl })

-- run --split auto --text --workers 9 --ticks 7 -- -p
pub options_row : Ask
    (codes "run" ∷ codes "--split" ∷ codes "auto" ∷ codes "--text" ∷ codes "--workers" ∷ codes "9" ∷ codes "--ticks" ∷ codes "7" ∷ codes "--" ∷ codes "-p" ∷ [])
    (ForRun (record { ticks = 7; workers = 9; auto = true; format = Text; program = codes "-p" }))
options_row =
    let behind : IsLine (codes "--" ∷ codes "-p" ∷ []) [] (codes "-p" ∷ []) = separator (one_name (codes "-p") (omega arith)) in
    let with_ticks = ticks {n = 7} (record { low = omega arith; high = omega arith }) behind in
    let seven = subst (λ w. IsLine (codes "--ticks" ∷ w ∷ codes "--" ∷ codes "-p" ∷ []) (Ticks 7 ∷ []) (codes "-p" ∷ [])) (decimal_digit 7 (omega arith)) with_ticks in
    let with_workers = workers {n = 9} (record { low = omega arith; high = omega arith }) seven in
    let nine = subst (λ w. IsLine (codes "--workers" ∷ w ∷ codes "--ticks" ∷ codes "7" ∷ codes "--" ∷ codes "-p" ∷ []) (Workers 9 ∷ Ticks 7 ∷ []) (codes "-p" ∷ [])) (decimal_digit 9 (omega arith)) with_workers in
    (refl, record { options = Split ∷ AsText ∷ Workers 9 ∷ Ticks 7 ∷ []; line = split (text nine); ticks = refl; workers = refl; auto = refl; format = refl })

-- run -- --
pub dashes_row : Ask (codes "run" ∷ codes "--" ∷ codes "--" ∷ []) (ForRun (record { ticks = 1_000_000_000_000; workers = 1; auto = false; format = Binary; program = codes "--" }))
dashes_row = (refl, record { options = []; line = separator (one_name (codes "--") (omega arith)); ticks = refl; workers = refl; auto = refl; format = refl })

-- check p
pub check_row : Ask (codes "check" ∷ codes "p" ∷ []) (ForCheck (codes "p"))
check_row = (refl, plain_name p_is_plain no_words)

-- show -- p
pub show_row : Ask (codes "show" ∷ codes "--" ∷ codes "p" ∷ []) (ForShow (codes "p"))
show_row = (refl, separator (one_name (codes "p") (omega arith)))

-- --help
pub help_row : Ask (codes "--help" ∷ []) ForHelp
help_row = (refl, refl)

-- run --text --text p: the second --text
pub twice_row : FirstFault (codes "run" ∷ codes "--text" ∷ codes "--text" ∷ codes "p" ∷ []) 2
unfolding step kind_of dashed
twice_row = stop_fault (codes "run") true run_walks (codes "--text" ∷ codes "--text" ∷ codes "p" ∷ []) 2 (record {
  front = codes "--text" ∷ [];
  bad = codes "--text";
  back = codes "p" ∷ [];
  split = refl;
  count = refl;
  before = record (start true) { text = true };
  walks = refl;
  stops = refl;
})

-- run p q: the second name
pub second_name_row : FirstFault (codes "run" ∷ codes "p" ∷ codes "q" ∷ []) 2
unfolding step kind_of dashed
second_name_row = stop_fault (codes "run") true run_walks (codes "p" ∷ codes "q" ∷ []) 2 (record {
  front = codes "p" ∷ [];
  bad = codes "q";
  back = [];
  split = refl;
  count = refl;
  before = record (start true) { program = Some (codes "p") };
  walks = refl;
  stops = refl;
})

-- run --split --text p: the value of --split
pub value_row : FirstFault (codes "run" ∷ codes "--split" ∷ codes "--text" ∷ codes "p" ∷ []) 2
unfolding step kind_of dashed
value_row = stop_fault (codes "run") true run_walks (codes "--split" ∷ codes "--text" ∷ codes "p" ∷ []) 2 (record {
  front = codes "--split" ∷ [];
  bad = codes "--text";
  back = codes "p" ∷ [];
  split = refl;
  count = refl;
  before = record (start true) { next = next.Split };
  walks = refl;
  stops = refl;
})

-- check --text p: an option of another command
pub option_row : FirstFault (codes "check" ∷ codes "--text" ∷ codes "p" ∷ []) 1
unfolding step kind_of dashed
option_row = stop_fault (codes "check") false (name_walks (codes "check") (inl refl)) (codes "--text" ∷ codes "p" ∷ []) 1 (record {
  front = [];
  bad = codes "--text";
  back = codes "p" ∷ [];
  split = refl;
  count = refl;
  before = start false;
  walks = refl;
  stops = refl;
})

-- run --ticks=1 p: no such form
pub equals_row : FirstFault (codes "run" ∷ codes "--ticks=1" ∷ codes "p" ∷ []) 1
unfolding step kind_of dashed
equals_row = stop_fault (codes "run") true run_walks (codes "--ticks=1" ∷ codes "p" ∷ []) 1 (record {
  front = [];
  bad = codes "--ticks=1";
  back = codes "p" ∷ [];
  split = refl;
  count = refl;
  before = start true;
  walks = refl;
  stops = refl;
})

-- run: a name is missing
pub missing_row : FirstFault (codes "run" ∷ []) 1
missing_row = end_fault (codes "run") true run_walks [] (start true) 1 refl refl refl
