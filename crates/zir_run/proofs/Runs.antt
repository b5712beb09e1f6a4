-- From what a run came to, to what the definition answers.
use Rattle.std.specs.Prelude.{ℕ, ◌≡◌, ◌⊎◌, refl, List, [], Option, Some}
use Rattle.std.proofs.Common.{ap, sym, subst, arith, inl, inr}
use Rattle.std.proofs.lemmas.List.{append-nil, length-map}
use Rattle.zir_bit_tree.specs.declared.tree.Comp.{Comp}
use Rattle.zir_bit_tree.specs.declared.tree.Prog.{Prog}
use Rattle.zir_bit_meaning.specs.Trace.{Trace}
use Rattle.zir_bit_meaning.specs.Samples.{Ended}
use Rattle.zir_bit_meaning.specs.Run.{run_end}
use Rattle.zir_bits.specs.Answers.{bits_answer}
use Rattle.zir_bit_meaning.specs.Notes.{note_of}
use Rattle.zir_outside.specs.Sinks.{Grew, GrewPart}
use Rattle.zir_steps.specs.History.{History}
use Rattle.zir_machine.specs.MachineStands.{beginning}
use Rattle.zir_drive.specs.declared.Outcome.{Outcome}
use Rattle.zir_drive.specs.Runs.{Ran, OwnValue, history, trace_of}
use Rattle.zir_run.specs.Claim.{EndsAs, IsTold, IsEnded}
use Rattle.zir_run.specs.Reports.{TellsRun, status_over, note_over}

-- a sink that was left alone grew by a front part
pub untouched_part : (bytes : List ℕ) (old : List ℕ → Type 0) → GrewPart bytes old old
untouched_part bytes old = ([], bytes, refl, λ h x. subst old (sym (append-nil h)) x)

-- a whole piece is a front part of it
pub whole_part : (bytes : List ℕ) (old new : List ℕ → Type 0) → Grew old new bytes → GrewPart bytes old new
whole_part bytes old new g = (bytes, [], sym (append-nil bytes), g)

-- what is promised of the trace of a worker's component, at its beginning, holds of the trace of the component that it was made for
pub prepared : (c main : Comp) (stands : History → Type 0) (left : Option (List ℕ)) (ticks : ℕ) (bytes : List ℕ) (P : Trace → Type 0) →
    c ≡ main → stands (beginning main 0 ticks) → left ≡ Some bytes →
    ((n : ℕ) (b : List ℕ) → stands (history c n [] []) → left ≡ Some b → P (trace_of c n b)) → P (trace_of main ticks bytes)
prepared c main stands left ticks bytes P same begins told f =
    subst (λ d. (n : ℕ) (b : List ℕ) → stands (history d n [] []) → left ≡ Some b → P (trace_of d n b)) same f ticks bytes begins told

-- what came of the run of a worker, which was at the beginning of a component, tells of the trace of that component
pub ran_tells : (c main : Comp) (stands now : History → Type 0) (left : Option (List ℕ)) (ticks : ℕ) (bytes : List ℕ) (outcome : Outcome) (old new : List ℕ → Type 0) →
    c ≡ main → stands (beginning main 0 ticks) → left ≡ Some bytes →
    ((n : ℕ) (b : List ℕ) → stands (history c n [] []) → left ≡ Some b → Ran outcome (trace_of c n b) old new) →
    ((n : ℕ) (b : List ℕ) → stands (history c n [] []) → left ≡ Some b → OwnValue now (trace_of c n b)) →
    Ran outcome (trace_of main ticks bytes) old new × TellsRun now outcome (trace_of main ticks bytes)
ran_tells c main stands now left ticks bytes outcome old new same begins told done value =
    let ran : Ran outcome (trace_of main ticks bytes) old new = prepared c main stands left ticks bytes (λ t. Ran outcome t old new) same begins told done in
    (ran, record { end = ran.end; taken = ran.taken; written = ran.written; value = prepared c main stands left ticks bytes (OwnValue now) same begins told value })

-- the note on the trace of a program is that of its answer
pub note_same : (ticks : ℕ) (p : Prog) (bytes : List ℕ) → note_over ticks (trace_of p.main ticks bytes) ≡ (bits_answer ticks p bytes).notes
note_same ticks p bytes =
    let t : Trace = trace_of p.main ticks bytes in
    ap (λ n. note_of (run_end Ended t.end) ticks t.last.taken n) (sym (length-map t.outs (λ o. o.value)))

-- the status of a run that ended is that of its trace
ended_status : (k s : ℕ) → IsEnded k → (k ≡ s) ⊎ (k ≡ 8) → s ≡ k
ended_status k s ended (inl e) = sym e
ended_status k s (inl z) (inr e) = absurd (omega arith)
ended_status k s (inr (inl z)) (inr e) = absurd (omega arith)
ended_status k s (inr (inr z)) (inr e) = absurd (omega arith)

-- a run that ended
pub ran_ends : (k ticks : ℕ) (p : Prog) (bytes : List ℕ) (old new notes_old notes_new : List ℕ → Type 0) → IsEnded k →
    (k ≡ status_over (trace_of p.main ticks bytes)) ⊎ (k ≡ 8) → Grew old new (bits_answer ticks p bytes).out → Grew notes_old notes_new (note_over ticks (trace_of p.main ticks bytes)) →
    EndsAs k (bits_answer ticks p bytes) old new notes_old notes_new
ran_ends k ticks p bytes old new notes_old notes_new ended told out notes = record {
  status_is = ended_status k (status_over (trace_of p.main ticks bytes)) ended told;
  out = out;
  notes = subst (Grew notes_old notes_new) (note_same ticks p bytes) notes;
}

-- the status of a run is that of its trace, or tells of a failed put
pub ran_told : (k ticks : ℕ) (p : Prog) (bytes : List ℕ) → (k ≡ status_over (trace_of p.main ticks bytes)) ⊎ (k ≡ 8) → IsTold k (bits_answer ticks p bytes)
ran_told k ticks p bytes (inl e) = inl e
ran_told k ticks p bytes (inr e) = inr (inr (inr (inl e)))
