-- How what a part did keeps to an answer.
use Rattle.std.specs.Prelude.{ℕ, ◌≡◌, ◌⊎◌, ◌++◌, refl, List, []}
use Rattle.std.proofs.Common.{ap, ◌∙◌, sym, subst, inl, inr, arith}
use Rattle.std.proofs.lemmas.List.{append-nil}
use Rattle.zir_meaning.specs.Answer.{Answer}
use Rattle.zir_outside.specs.Causes.{Rose}
use Rattle.zir_outside.specs.Sinks.{Grew, GrewPart}
use Rattle.zir_run.specs.Claim.{EndsAs, IsTold, IsEnded, IsSettled, IsBroken, text_answer}
use Rattle.zir_run.specs.Keeping.{Keeps}
use Rattle.zir_run.proofs.Runs.{untouched_part}

-- a sink that was left alone grew by nothing
pub grew_nothing : (bytes : List ℕ) (old : List ℕ → Type 0) → bytes ≡ [] → Grew old old bytes
grew_nothing bytes old e h x = subst old (sym (ap (λ b. h ++ b) e ∙ append-nil h)) x

-- nothing was settled at 3 and 9
never_settled : (k : ℕ) → (k ≡ 3) ⊎ (k ≡ 9) → IsSettled k → ⊥
never_settled k (inl e) (inl two) = omega arith
never_settled k (inl e) (inr (inl z)) = omega arith
never_settled k (inl e) (inr (inr (inl z))) = omega arith
never_settled k (inl e) (inr (inr (inr z))) = omega arith
never_settled k (inr e) (inl two) = omega arith
never_settled k (inr e) (inr (inl z)) = omega arith
never_settled k (inr e) (inr (inr (inl z))) = omega arith
never_settled k (inr e) (inr (inr (inr z))) = omega arith

not_eight : (k : ℕ) → (k ≡ 3) ⊎ (k ≡ 9) → k ≡ 8 → ⊥
not_eight k (inl e) h = omega arith
not_eight k (inr e) h = omega arith

told_nothing : (k : ℕ) (a : Answer) → (k ≡ 3) ⊎ (k ≡ 9) → IsTold k a
told_nothing k a (inl e) = inr (inl e)
told_nothing k a (inr e) = inr (inr (inr (inr e)))

-- nothing was done
pub keeps_nothing : (k : ℕ) (a : Answer) (old notes : List ℕ → Type 0) (f : ℕ) → (k ≡ 3) ⊎ (k ≡ 9) → Keeps k a old old f f notes notes
keeps_nothing k a old notes f is = record {
  ended = λ s. absurd (never_settled k is s);
  prefix = λ b. untouched_part a.out old;
  whole = λ e. absurd (not_eight k is e);
  note_prefix = λ e. absurd (not_eight k is e);
  told = told_nothing k a is;
}

-- a status that is settled, and 2 or 8, is 2
settled_two : (k : ℕ) → (k ≡ 2) ⊎ (k ≡ 8) → IsSettled k → k ≡ 2
settled_two k (inl e) s = e
settled_two k (inr e) (inl two) = two
settled_two k (inr e) (inr (inl z)) = absurd (omega arith)
settled_two k (inr e) (inr (inr (inl z))) = absurd (omega arith)
settled_two k (inr e) (inr (inr (inr z))) = absurd (omega arith)

told_two : (k : ℕ) (a : Answer) → a.status ≡ 2 → (k ≡ 2) ⊎ (k ≡ 8) → IsTold k a
told_two k a s (inl e) = inl (e ∙ sym s)
told_two k a s (inr e) = inr (inr (inr (inl e)))

-- a note was put, or a front part of it
pub keeps_refusal : (k : ℕ) (a : Answer) (old notes_old notes_new : List ℕ → Type 0) (f : ℕ) → a.status ≡ 2 → a.out ≡ [] → (k ≡ 2) ⊎ (k ≡ 8) →
    (k ≡ 2 → Grew notes_old notes_new a.notes) → (k ≡ 8 → GrewPart a.notes notes_old notes_new) → Keeps k a old old f f notes_old notes_new
keeps_refusal k a old notes_old notes_new f status out is noted failed = record {
  ended = λ s. let two = settled_two k is s in record { status_is = status ∙ sym two; out = grew_nothing a.out old out; notes = noted two };
  prefix = λ b. untouched_part a.out old;
  whole = λ e. inr (grew_nothing a.out old out);
  note_prefix = failed;
  told = told_two k a status is;
}

-- a settled status of 0, 8 or 9 is 0
settled_done : (k : ℕ) → (k ≡ 0) ⊎ (k ≡ 8) → IsSettled k → k ≡ 0
settled_done k (inl e) s = e
settled_done k (inr e) (inl two) = absurd (omega arith)
settled_done k (inr e) (inr (inl z)) = z
settled_done k (inr e) (inr (inr (inl z))) = absurd (omega arith)
settled_done k (inr e) (inr (inr (inr z))) = absurd (omega arith)

broken_eight : (k : ℕ) → (k ≡ 0) ⊎ (k ≡ 8) → IsBroken k → k ≡ 8
broken_eight k (inr e) b = e
broken_eight k (inl e) (inl z) = absurd (omega arith)
broken_eight k (inl e) (inr (inl z)) = z
broken_eight k (inl e) (inr (inr z)) = absurd (omega arith)

told_done : (k : ℕ) (a : Answer) → a.status ≡ 0 → (k ≡ 0) ⊎ (k ≡ 8) → IsTold k a
told_done k a s (inl e) = inl (e ∙ sym s)
told_done k a s (inr e) = inr (inr (inr (inl e)))

-- a text was put out, or a front part of it
pub keeps_text : (k : ℕ) (a : Answer) (old new notes : List ℕ → Type 0) (f g : ℕ) → a.status ≡ 0 → a.notes ≡ [] → (k ≡ 0) ⊎ (k ≡ 8) →
    (k ≡ 0 → Grew old new a.out) → (k ≡ 8 → GrewPart a.out old new) → (k ≡ 8 → Rose f g) → Keeps k a old new f g notes notes
keeps_text k a old new notes f g status none is written failed fault = record {
  ended = λ s. let done = settled_done k is s in record { status_is = status ∙ sym done; out = written done; notes = grew_nothing a.notes notes none };
  prefix = λ b. failed (broken_eight k is b);
  whole = λ e. inl (fault e);
  note_prefix = λ e. untouched_part a.notes notes;
  told = told_done k a status is;
}

-- a run is not refused
pub not_two : (k : ℕ) → IsEnded k ⊎ IsBroken k → k ≡ 2 → ⊥
not_two k (inl (inl e)) two = omega arith
not_two k (inl (inr (inl e))) two = omega arith
not_two k (inl (inr (inr e))) two = omega arith
not_two k (inr (inl e)) two = omega arith
not_two k (inr (inr (inl e))) two = omega arith
not_two k (inr (inr (inr e))) two = omega arith

settled_end : (k : ℕ) → IsEnded k ⊎ IsBroken k → IsSettled k → IsEnded k
settled_end k is (inl two) = absurd (not_two k is two)
settled_end k is (inr ended) = ended

-- a program was run
pub keeps_run : (k : ℕ) (a : Answer) (old new notes_old notes_new : List ℕ → Type 0) (f g : ℕ) → IsEnded k ⊎ IsBroken k →
    (IsEnded k → EndsAs k a old new notes_old notes_new) → (IsBroken k → GrewPart a.out old new) → (k ≡ 8 → Rose f g ⊎ Grew old new a.out) →
    (k ≡ 8 → GrewPart a.notes notes_old notes_new) → IsTold k a → Keeps k a old new f g notes_old notes_new
keeps_run k a old new notes_old notes_new f g is ended prefix whole note_prefix told = record {
  ended = λ s. ended (settled_end k is s);
  prefix = prefix;
  whole = whole;
  note_prefix = note_prefix;
  told = told;
}

-- a status of a run is one of a settled or a broken one
pub run_status : (k : ℕ) → IsEnded k ⊎ IsBroken k → IsSettled k ⊎ IsBroken k
run_status k (inl e) = inl (inr e)
run_status k (inr b) = inr b

-- the status of a note, or of want of memory
pub note_status : (k : ℕ) → (k ≡ 2) ⊎ (k ≡ 8) ⊎ (k ≡ 9) → IsSettled k ⊎ IsBroken k
note_status k (inl two) = inl (inl two)
note_status k (inr (inl eight)) = inr (inr (inl eight))
note_status k (inr (inr nine)) = inr (inr (inr nine))

-- a text was put out, or a front part of it, or there was no memory and nothing was done
pub keeps_shown : {O : Type 0} (stands : O → List ℕ → Type 0) (faults : O → ℕ) (k : ℕ) (a : Answer) (text : List ℕ) (old new : O) (notes : List ℕ → Type 0) → a ≡ text_answer text →
    (k ≡ 0) ⊎ (k ≡ 8) ⊎ (k ≡ 9) → (k ≡ 0 → Grew (stands old) (stands new) text) → (k ≡ 8 → GrewPart text (stands old) (stands new)) → (k ≡ 8 → Rose (faults old) (faults new)) → (k ≡ 9 → new ≡ old) →
    Keeps k a (stands old) (stands new) (faults old) (faults new) notes notes
keeps_shown stands faults k a text old new notes is (inl z) written failed fault same =
    subst (λ b. Keeps k b (stands old) (stands new) (faults old) (faults new) notes notes) (sym is) (keeps_text k (text_answer text) (stands old) (stands new) notes (faults old) (faults new) refl refl (inl z) written failed fault)
keeps_shown stands faults k a text old new notes is (inr (inl e)) written failed fault same =
    subst (λ b. Keeps k b (stands old) (stands new) (faults old) (faults new) notes notes) (sym is) (keeps_text k (text_answer text) (stands old) (stands new) notes (faults old) (faults new) refl refl (inr e) written failed fault)
keeps_shown stands faults k a text old new notes is (inr (inr n)) written failed fault same =
    subst (λ o. Keeps k a (stands old) (stands o) (faults old) (faults o) notes notes) (sym (same n)) (keeps_nothing k a (stands old) notes (faults old) (inr n))

-- a note was put, or a front part of it, or there was no memory and nothing was done
pub keeps_noted : {O : Type 0} (stands : O → List ℕ → Type 0) (k : ℕ) (a : Answer) (out : List ℕ → Type 0) (f : ℕ) (old new : O) → a.status ≡ 2 → a.out ≡ [] →
    (k ≡ 2) ⊎ (k ≡ 8) ⊎ (k ≡ 9) → (k ≡ 2 → Grew (stands old) (stands new) a.notes) → (k ≡ 8 → GrewPart a.notes (stands old) (stands new)) → (k ≡ 9 → new ≡ old) →
    Keeps k a out out f f (stands old) (stands new)
keeps_noted stands k a out f old new status none (inl two) noted failed same = keeps_refusal k a out (stands old) (stands new) f status none (inl two) noted failed
keeps_noted stands k a out f old new status none (inr (inl e)) noted failed same = keeps_refusal k a out (stands old) (stands new) f status none (inr e) noted failed
keeps_noted stands k a out f old new status none (inr (inr n)) noted failed same =
    subst (λ o. Keeps k a out out f f (stands old) (stands o)) (sym (same n)) (keeps_nothing k a out (stands old) f (inr n))
