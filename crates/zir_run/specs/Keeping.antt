-- How what a part did keeps to an answer of the definition.
use Rattle.std.specs.Prelude.{ℕ, ◌≡◌, ◌≤◌, ◌^◌, ◌⊎◌, List, Result, Err}
use Rattle.zir_tree.specs.declared.refusal.Refusal.{Refusal}
use Rattle.zir_meaning.specs.Answer.{Answer}
use Rattle.zir_outside.specs.Causes.{Rose}
use Rattle.zir_outside.specs.Sinks.{Grew, GrewPart}
use Rattle.zir_accept.specs.declared.passes.Accepted.{Accepted}
use Rattle.zir_read.specs.Reading.{IsTold as IsVerdict}
use Rattle.zir_words.specs.Words.{Asked, ForRun, ForCheck, ForShow}
use Rattle.zir_run.specs.Claim.{EndsAs, IsTold, IsSettled, IsBroken}

-- the status, what became of the output with its count of faults, and of the notes, keep to the answer
pub record Keeps (status : ℕ) (a : Answer) (old new : List ℕ → Type 0) (faults_old faults_new : ℕ) (notes_old notes_new : List ℕ → Type 0) : Type 0 where
  pub ended : IsSettled status → EndsAs status a old new notes_old notes_new
  pub prefix : IsBroken status → GrewPart a.out old new
  pub whole : status ≡ 8 → Rose faults_old faults_new ⊎ Grew old new a.out
  pub note_prefix : status ≡ 8 → GrewPart a.notes notes_old notes_new
  pub told : IsTold status a

-- a program is refused, and not for want of memory
pub record HasFault (verdict : Result Accepted Refusal) : Type 0 where
  pub why : Refusal
  pub judges : verdict ≡ Err why
  pub is_verdict : IsVerdict (Err why)

-- what is asked for has a budget that a machine can count
abbrev pub HasBudget : Asked → Type 0
HasBudget (ForRun ticks name) = ticks ≤ 2 ^ 48
HasBudget (ForCheck name) = Unit {0}
HasBudget (ForShow name) = Unit {0}
