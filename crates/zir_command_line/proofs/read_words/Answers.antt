use Rattle.std.proofs.Common.{◌≡◌, ◌≢◌, ◌≤◌, [], ◌∷◌, ◌-◌, ℕ, List, length, get_or, map, take, drop, codes, string_bytes, refl, sym, ap, ◌∙◌, subst, inl, inr, arith}
use Rattle.std.specs.Prelude.{String}
use Rattle.zir_command_line.specs.Faults.{AreBad, FirstFault}
use Rattle.zir_command_line.proofs.Lists.{first_in_front, err_is, if_err}
use Rattle.zir_command_line.proofs.Faulty.{no_words_fault, command_fault, help_fault, version_fault, fault_is_bad}
use Rattle.zir_command_line.proofs.read_words.Goals as goal

-- no words
none : {Z : Type 0} (xs : List (String Z)) → length xs ≤ 0 → FirstFault (map string_bytes xs) 0
none [] h = no_words_fault
none (x ∷ xs) h = absurd (omega arith)

-- the words behind the first, which is this
abbrev behind : {Z : Type 0} → List (String Z) → List (List ℕ)
behind xs = map string_bytes (take (length xs - 1) (drop 1 xs))

-- a fault behind a command is one of the words
in_front : {Z : Type 0} (xs : List (String Z)) (x : String Z) (t c : List ℕ) (place : ℕ) → 1 ≤ length xs → x ≡ get_or xs 0 x → t ≡ string_bytes x → t ≡ c
    → FirstFault (c ∷ behind xs) place → FirstFault (map string_bytes xs) place
in_front xs x t c place low first value is f =
    subst (λ ws. FirstFault ws place) (ap (λ c. c ∷ behind xs) (sym is ∙ value) ∙ sym (first_in_front string_bytes xs x low first)) f

pub returns-in_default-clause-err : goal.returns-in_default-clause-err
returns-in_default-clause-err c = none c.args.words.now (omega arith)

pub returns-in_err-read_name-in-check-clause-bad : goal.returns-in_err-read_name-in-check-clause-bad
returns-in_err-read_name-in-check-clause-bad c =
    let words = c.args.words.now in
    let e = c.in_err-read_name-in-check.field-0.0 in
    let f = c.in_err-read_name-in-check.ensures.err (codes "check") (inl refl) in
    err_is c.from_residual.result e (λ e. AreBad (map string_bytes words)) c.from_residual.ensures.1
    (fault_is_bad (map string_bytes words) e.word (in_front words c.command-item.result c.as_str.result.now (codes "check") e.word c.in-len1-up.len_at_least c.command-item.is c.as_str.ensures.value c.in-check.is f))

pub returns-in_err-read_name-in-show-clause-bad : goal.returns-in_err-read_name-in-show-clause-bad
returns-in_err-read_name-in-show-clause-bad c =
    let words = c.args.words.now in
    let e = c.in_err-read_name-in-show.field-0.0 in
    let f = c.in_err-read_name-in-show.ensures.err (codes "show") (inr refl) in
    err_is c.from_residual-in_err-read_name-in-show.result e (λ e. AreBad (map string_bytes words)) c.from_residual-in_err-read_name-in-show.ensures.1
    (fault_is_bad (map string_bytes words) e.word (in_front words c.command-item.result c.as_str.result.now (codes "show") e.word c.in-len1-up.len_at_least c.command-item.is c.as_str.ensures.value c.in-show.is f))

pub returns-in-run-clause-bad : goal.returns-in-run-clause-bad
returns-in-run-clause-bad c =
    let words = c.args.words.now in
    if_err (λ e. FirstFault (codes "run" ∷ behind words) e.word) (λ e. AreBad (map string_bytes words)) c.read_run.result
    (λ e f. fault_is_bad (map string_bytes words) e.word (in_front words c.command-item.result c.as_str.result.now (codes "run") e.word c.in-len1-up.len_at_least c.command-item.is c.as_str.ensures.value c.in-run.is f))
    c.read_run.ensures.err

-- a list that is not none, in other spelling
some : {Z : Type 0} (xs : List (String Z)) → xs ≢ [] → map string_bytes xs ≢ []
some [] n e = n refl
some (x ∷ xs) n e = cc

pub returns-in-text-clause-err : goal.returns-in-text-clause-err
returns-in-text-clause-err c =
    let words = c.args.words.now in
    if_err _ (λ e. FirstFault (map string_bytes words) e.word) c.read_alone.result
    (λ e h. subst (λ place. FirstFault (map string_bytes words) place) (sym h.0)
    (in_front words c.command-item.result c.as_str.result.now (codes "--help") 1 c.in-len1-up.len_at_least c.command-item.is c.as_str.ensures.value c.in-text.is
    (help_fault (codes "--help") (behind words) refl (some (take (length words - 1) (drop 1 words)) h.1))))
    c.read_alone.ensures.err

pub returns-in-text-2-clause-err : goal.returns-in-text-2-clause-err
returns-in-text-2-clause-err c =
    let words = c.args.words.now in
    if_err _ (λ e. FirstFault (map string_bytes words) e.word) c.read_alone-in-text-2.result
    (λ e h. subst (λ place. FirstFault (map string_bytes words) place) (sym h.0)
    (in_front words c.command-item.result c.as_str.result.now (codes "--version") 1 c.in-len1-up.len_at_least c.command-item.is c.as_str.ensures.value c.in-text-2.is
    (version_fault (codes "--version") (behind words) refl (some (take (length words - 1) (drop 1 words)) h.1))))
    c.read_alone-in-text-2.ensures.err

pub returns-in_default-as_str-clause-err : goal.returns-in_default-as_str-clause-err
returns-in_default-as_str-clause-err c =
    let words = c.args.words.now in
    let no = c.in_default-as_str in
    in_front words c.command-item.result c.as_str.result.now c.as_str.result.now 0 c.in-len1-up.len_at_least c.command-item.is c.as_str.ensures.value refl
    (command_fault c.as_str.result.now (behind words) no.not-run no.not-check no.not-show no.not-text no.not-text-2)
