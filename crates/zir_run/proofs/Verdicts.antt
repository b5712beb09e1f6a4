-- What the verdicts on a text say of what is answered.
use Rattle.std.specs.Prelude.{ℕ, ◌≡◌, ◌≤◌, ◌<◌, ◌⊎◌, refl, List, [], length, Option, Some, Result, Ok, Err}
use Rattle.std.proofs.Common.{ap, ◌∙◌, sym, subst, inl, inr, arith}
use Rattle.zir_tree.specs.declared.place.Place.{Place}
use Rattle.zir_tree.specs.declared.program.Prog as wide
use Rattle.zir_tree.specs.declared.refusal.Refusal.{Refusal}
use Rattle.zir_tree.specs.declared.refusal.Refusal.TheVariants as refused
use Rattle.zir_bit_tree.specs.declared.tree.Prog.{Prog}
use Rattle.zir_meaning.specs.Answer.{Answer}
use Rattle.zir_lex.specs.declared.lexer.LexError.TheVariants as lex
use Rattle.zir_outside.specs.Loads.{Texts, IsAbsent}
use Rattle.zir_words.specs.Words.{Asked, ForRun, Ask, AskOnce, name_of}
use Rattle.zir_read.specs.Reading.{IsReadAs, unlexed, IsTold as IsVerdict, HasOneVerdict}
use Rattle.zir_bits.specs.Answers.{bits_answer, SameAnswers}
use Rattle.zir_accept.specs.declared.passes.Accepted.{Accepted}
use Rattle.zir_accept.specs.Accepting.{Tells}
use Rattle.zir_narrow.specs.Narrow.{Narrow, Fine, Stuck, narrow}
use Rattle.zir_narrow.specs.Laws.{NarrowIsOver}
use Rattle.zir_notes.specs.Refusals.{refusal_note}
use Rattle.zir_run.specs.Loading.{Has}
use Rattle.zir_run.specs.Claim.{LacksText, Names, Means, MeansOf, IsRefused, IsRunOf, Follows, after_judging, built, for_asked, refused_answer, verdict_on}
use Rattle.zir_outside.specs.Sinks.{Grew, GrewPart}
use Rattle.zir_run.specs.Keeping.{Keeps, HasFault}
use Rattle.zir_run.proofs.Keep.{keeps_nothing, keeps_noted}

-- the refusal of a verdict, and its program
refusal_of : Result wide.Prog Refusal → Refusal
refusal_of (Ok p) = refused.TooLong
refusal_of (Err e) = e

program_of : wide.Prog → Result wide.Prog Refusal → wide.Prog
program_of p (Ok q) = q
program_of p (Err e) = p

abbrev IsProgramVerdict : Result wide.Prog Refusal → Type 0
IsProgramVerdict (Ok p) = Unit {0}
IsProgramVerdict (Err e) = ⊥

-- two verdicts on a text are one
same_refusal : HasOneVerdict → (text : List ℕ) (e f : Refusal) → IsVerdict (Err e) → IsVerdict (Err f) → IsReadAs text (Err e) → IsReadAs text (Err f) → e ≡ f
unfolding refusal_of
same_refusal one text e f told_e told_f h k = ap refusal_of (one text (Err e) (Err f) told_e told_f h k)

never_both : HasOneVerdict → (text : List ℕ) (p : wide.Prog) (e : Refusal) → IsVerdict (Err e) → IsReadAs text (Ok p) → IsReadAs text (Err e) → ⊥
never_both one text p e told h k = subst IsProgramVerdict (one text (Ok p) (Err e) tt told h k) tt

same_program : HasOneVerdict → (text : List ℕ) (p q : wide.Prog) → IsReadAs text (Ok p) → IsReadAs text (Ok q) → p ≡ q
unfolding program_of
same_program one text p q h k = ap (program_of p) (one text (Ok p) (Ok q) tt tt h k)

-- what is answered to a text that is a program follows from the verdict on the program
pub text_means : HasOneVerdict → (asked : Asked) (text : List ℕ) (left : Option (List ℕ)) (a : Answer) (p : wide.Prog) → IsReadAs text (Ok p) → MeansOf asked text left a → Follows asked p (verdict_on asked p) left a
text_means one asked text left a p reads (inl m) = subst (λ (q : wide.Prog). Follows asked q (verdict_on asked q) left a) (same_program one text m.program p m.reads reads) m.follows
text_means one asked text left a p reads (inr m) = absurd (never_both one text p m.why m.is_verdict reads m.reads)

-- and so does why it is refused
pub text_fault : (asked : Asked) (text : List ℕ) (p : wide.Prog) → IsReadAs text (Ok p) → HasFault (verdict_on asked p) → IsRefused asked text
text_fault asked text p reads h = record { why = h.why; refuses = inr (record { program = p; reads = reads; judges = h.judges }); is_verdict = h.is_verdict }

-- what is answered to a text that is no program
pub text_note : HasOneVerdict → (asked : Asked) (text : List ℕ) (left : Option (List ℕ)) (a : Answer) (why : Refusal) → IsVerdict (Err why) → IsReadAs text (Err why) → MeansOf asked text left a →
    a ≡ refused_answer (name_of asked) why
text_note one asked text left a why told reads (inl m) = absurd (never_both one text m.program why told m.reads reads)
text_note one asked text left a why told reads (inr m) = m.is ∙ ap (refused_answer (name_of asked)) (same_refusal one text m.why why m.is_verdict told m.reads reads)

-- a verdict that was told, but want of memory, is the verdict
pub told_fault : (v : Result Accepted Refusal) (why : Refusal) → IsVerdict (Err why) → Tells v (Err why) → v ≡ Err why
told_fault v refused.Memory told tells = absurd told
told_fault v why told tells = tells

-- what is answered for a program that is accepted, and for one that is refused
pub accepted_means : (asked : Asked) (p : wide.Prog) (v : Result Accepted Refusal) (left : Option (List ℕ)) (a : Answer) (accepted : Accepted) → v ≡ Ok accepted →
    Follows asked p (after_judging asked p v) left a → Follows asked p (for_asked asked p accepted) left a
accepted_means asked p v left a accepted is m = subst (λ w. Follows asked p (after_judging asked p w) left a) is m

pub accepted_fault : (asked : Asked) (p : wide.Prog) (v : Result Accepted Refusal) (accepted : Accepted) → v ≡ Ok accepted → HasFault (for_asked asked p accepted) → HasFault (after_judging asked p v)
accepted_fault asked p v accepted is h = subst (λ w. HasFault (after_judging asked p w)) (sym is) h

pub refused_means : (asked : Asked) (p : wide.Prog) (v : Result Accepted Refusal) (left : Option (List ℕ)) (a : Answer) (why : Refusal) → v ≡ Err why →
    Follows asked p (after_judging asked p v) left a → a ≡ refused_answer (name_of asked) why
refused_means asked p v left a why is m = let f : Follows asked p (Err why) left a = subst (λ w. Follows asked p (after_judging asked p w) left a) is m in f.1

pub refused_fault : (asked : Asked) (p : wide.Prog) (v : Result Accepted Refusal) (why : Refusal) → IsVerdict (Err why) → v ≡ Err why → HasFault (after_judging asked p v)
refused_fault asked p v why told is = subst (λ w. HasFault (after_judging asked p w)) (sym is) (record { why = why; judges = refl; is_verdict = told })

-- what holds of the answer of the program over bits that an accepted one is holds of what is answered to its run
pub run_means : SameAnswers → NarrowIsOver → (ticks : ℕ) (name : List ℕ) (p : wide.Prog) (accepted : Accepted) (left : Option (List ℕ)) (a : Answer) (n : Prog) (P : Answer → Type 0) → narrow p accepted.core ≡ Fine n →
    Follows (ForRun ticks name) p (built (narrow p accepted.core) accepted) left a → ((input : List ℕ) → left ≡ Some input → P (bits_answer ticks n input)) → P a
run_means same over ticks name p accepted left a n P is follows holds =
    let m : IsRunOf ticks name accepted.core left a = subst (λ v. Follows (ForRun ticks name) p (built v accepted) left a) is follows in
    let bits = over p accepted.core n is in
    subst P (sym (same ticks name accepted.core n m.input bits.0 bits.1) ∙ sym m.is) (holds m.input m.has)

-- what is answered to a run of a program with a form that nothing runs yet
pub unbuilt_means : (ticks : ℕ) (name : List ℕ) (p : wide.Prog) (accepted : Accepted) (left : Option (List ℕ)) (a : Answer) (v : Narrow Prog) (at : Place) → v ≡ Stuck at →
    Follows (ForRun ticks name) p (built v accepted) left a → a ≡ refused_answer name (refused.Unbuilt at)
unbuilt_means ticks name p accepted left a v at is follows = let f : Follows (ForRun ticks name) p (built (Stuck at) accepted) left a = subst (λ w. Follows (ForRun ticks name) p (built w accepted) left a) is follows in f.1

pub unbuilt_fault : (accepted : Accepted) (v : Narrow Prog) (at : Place) → v ≡ Stuck at → HasFault (built v accepted)
unbuilt_fault accepted v at is = subst (λ w. HasFault (built w accepted)) (sym is) (record { why = refused.Unbuilt at; judges = refl; is_verdict = tt })

-- a text that is too long is no program
pub too_long : (text : List ℕ) → 65536 < length text → IsReadAs text (Err refused.TooLong)
too_long text long = unlexed (record { error = lex.TooLong; refuses = long; is = refl })

-- a refusal was told where its note was put
pub told_two : (k : ℕ) (why : Refusal) → (k ≡ 9) ⊎ IsVerdict (Err why) → (k ≡ 2) ⊎ (k ≡ 8) → IsVerdict (Err why)
told_two k why (inr told) is = told
told_two k why (inl nine) (inl two) = absurd (omega arith)
told_two k why (inl nine) (inr eight) = absurd (omega arith)

-- what is asked of a text by the words is what is done with it
pub named : AskOnce → (words : List (List ℕ)) (told : Texts) (left : Option (List ℕ)) (a : Answer) (asked : Asked) → Ask words asked → (m : Means words told left a) →
    Has told (name_of asked) m.text × MeansOf asked m.text left a
named once words told left a asked asks m =
    let same : m.asked ≡ asked = once words m.asked asked m.names.asks asks in
    ((m.names.texts, m.names.tells, subst (λ b. m.names.texts (name_of b) ≡ Some m.text) same m.names.has), subst (λ b. MeansOf b m.text left a) same m.is)

pub has_text : AskOnce → (words : List (List ℕ)) (told : Texts) (asked other : Asked) (text : List ℕ) → Ask words asked → Names words told other text → Has told (name_of asked) text
has_text once words told asked other text asks n =
    (n.texts, n.tells, subst (λ b. n.texts (name_of b) ≡ Some text) (once words other asked n.asks asks) n.has)

pub refused_as : AskOnce → (words : List (List ℕ)) (told : Texts) (asked other : Asked) (text : List ℕ) → Ask words asked → Names words told other text → IsRefused asked text → IsRefused other text
refused_as once words told asked other text asks n r = subst (λ b. IsRefused b text) (once words asked other asks n.asks) r

pub lacks : AskOnce → (words : List (List ℕ)) (told : Texts) (asked : Asked) → Ask words asked → LacksText words told → IsAbsent told (name_of asked)
lacks once words told asked asks l = subst (λ b. IsAbsent told (name_of b)) (once words l.0 asked l.1 asks) l.2

-- a note was put on what is refused, or there was no memory and nothing was done
pub refusal_noted : {O : Type 0} (stands : O → List ℕ → Type 0) (k : ℕ) (name : List ℕ) (a : Answer) (why : Refusal) (out : List ℕ → Type 0) (f : ℕ) (old new : O) →
    (IsVerdict (Err why) → a ≡ refused_answer name why) → (k ≡ 9) ⊎ IsVerdict (Err why) → (k ≡ 2) ⊎ (k ≡ 8) ⊎ (k ≡ 9) →
    (k ≡ 2 → Grew (stands old) (stands new) (refusal_note name why)) → (k ≡ 8 → GrewPart (refusal_note name why) (stands old) (stands new)) → (k ≡ 9 → new ≡ old) →
    Keeps k a out out f f (stands old) (stands new)
refusal_noted stands k name a why out f old new answers (inl nine) status noted failed same =
    subst (λ o. Keeps k a out out f f (stands old) (stands o)) (sym (same nine)) (keeps_nothing k a out (stands old) f (inr nine))
refusal_noted stands k name a why out f old new answers (inr told) status noted failed same =
    let is : a ≡ refused_answer name why = answers told in
    let notes : a.notes ≡ refusal_note name why = ap (λ (b : Answer). b.notes) is in
    keeps_noted stands k a out f old new (ap (λ (b : Answer). b.status) is) (ap (λ (b : Answer). b.out) is) status
    (λ e. subst (Grew (stands old) (stands new)) (sym notes) (noted e)) (λ e. subst (λ n. GrewPart n (stands old) (stands new)) (sym notes) (failed e)) same
