-- What the top call claims: its status, and what became of the output and the notes, by the words, the texts and the input.
use Rattle.std.specs.Prelude.{ℕ, ◌≡◌, ◌⊎◌, List, [], Option, Some, Result, Ok, Err}
use Rattle.zir_tree.specs.declared.format.Format.TheVariants.{Binary}
use Rattle.zir_tree.specs.declared.program.Prog.{Prog}
use Rattle.zir_tree.specs.declared.program.Core.{Core}
use Rattle.zir_tree.specs.declared.refusal.Refusal.{Refusal}
use Rattle.zir_tree.specs.declared.refusal.Refusal.TheVariants.{Unbuilt}
use Rattle.zir_meaning.specs.Answer.{Answer, answer_of}
use Rattle.zir_bit_tree.specs.declared.tree.Prog as bits
use Rattle.zir_accept.specs.declared.passes.Accepted.{Accepted}
use Rattle.zir_accept.specs.Accepting.{judged}
use Rattle.zir_narrow.specs.Narrow.{Narrow, Fine, Stuck, narrow}
use Rattle.zir_outside.specs.Loads.{Texts, IsAbsent}
use Rattle.zir_outside.specs.Sinks.{Grew}
use Rattle.zir_words.specs.Words.{Asked, ForRun, ForCheck, ForShow, Ask, name_of}
use Rattle.zir_read.specs.Reading.{IsReadAs, IsTold as IsVerdict}
use Rattle.zir_print.specs.Text.{canonical_text}
use Rattle.zir_notes.specs.Refusals.{refusal_note}
use Rattle.zir_notes.specs.Reports.{report_text}

-- the words name a text that the shelf, which tells its texts, has not
abbrev pub LacksText : List (List ℕ) → Texts → Type 0
LacksText words told = (asked : Asked) × Ask words asked × IsAbsent told (name_of asked)

-- the words ask for this of a program whose text the shelf tells
pub record Names (words : List (List ℕ)) (told : Texts) (asked : Asked) (text : List ℕ) : Type 0 where
  pub asks : Ask words asked
  pub texts : List ℕ → Option (List ℕ)
  pub tells : told ≡ Some texts
  pub has : texts (name_of asked) ≡ Some text

-- an accepted program runs today where it is one over bits, and else it is refused at the first form that nothing runs yet
abbrev pub built : Narrow bits.Prog → Accepted → Result Accepted Refusal
built (Fine narrowed) accepted = Ok accepted
built (Stuck at) accepted = Err (Unbuilt at)

-- what comes of an accepted program for what is asked: it is run, checked or shown, or refused
abbrev pub for_asked : Asked → Prog → Accepted → Result Accepted Refusal
for_asked (ForRun ticks name) program accepted = built (narrow program accepted.core) accepted
for_asked (ForCheck name) program accepted = Ok accepted
for_asked (ForShow name) program accepted = Ok accepted

-- what comes of a program for what is asked, after names, types, sharing and limits
abbrev pub after_judging : Asked → Prog → Result Accepted Refusal → Result Accepted Refusal
after_judging asked program (Ok accepted) = for_asked asked program accepted
after_judging asked program (Err why) = Err why

-- the verdict on a program for what is asked
abbrev pub verdict_on : Asked → Prog → Result Accepted Refusal
verdict_on asked program = after_judging asked program (judged program)

-- a text is refused: nothing is put out, and a note says why and where
abbrev pub refused_answer : List ℕ → Refusal → Answer
refused_answer name why = record { status = 2; out = []; notes = refusal_note name why }

-- a text is put out
abbrev pub text_answer : List ℕ → Answer
text_answer text = record { status = 0; out = text; notes = [] }

-- the run of a typed program with so many ticks over all bytes that the input has left, in the binary format
pub record IsRunOf (ticks : ℕ) (name : List ℕ) (core : Core) (left : Option (List ℕ)) (a : Answer) : Type 0 where
  pub input : List ℕ
  pub has : left ≡ Some input
  pub is : a ≡ answer_of Binary ticks (record { name = name; core = core }) [] input

-- what is answered for an accepted program: its run, the report on it, or its canonical text
abbrev pub IsDone : Asked → Prog → Accepted → Option (List ℕ) → Answer → Type 0
IsDone (ForRun ticks name) program accepted left a = IsRunOf ticks name accepted.core left a
IsDone (ForCheck name) program accepted left a = a ≡ text_answer (report_text accepted.core)
IsDone (ForShow name) program accepted left a = a ≡ text_answer (canonical_text program)

-- what is answered for a program, by the verdict on it
abbrev pub Follows : Asked → Prog → Result Accepted Refusal → Option (List ℕ) → Answer → Type 0
Follows asked program (Ok accepted) left a = IsDone asked program accepted left a
Follows asked program (Err why) left a = IsVerdict (Err why) × (a ≡ refused_answer (name_of asked) why)

-- the text is a program, and this is answered for it
pub record IsRead (asked : Asked) (text : List ℕ) (left : Option (List ℕ)) (a : Answer) : Type 0 where
  pub program : Prog
  pub reads : IsReadAs text (Ok program)
  pub follows : Follows asked program (verdict_on asked program) left a

-- the text is no program, and this is answered to it
pub record IsUnread (name text : List ℕ) (a : Answer) : Type 0 where
  pub why : Refusal
  pub reads : IsReadAs text (Err why)
  pub is_verdict : IsVerdict (Err why)
  pub is : a ≡ refused_answer name why

-- the definition answers so to what is asked of a text
abbrev pub MeansOf : Asked → List ℕ → Option (List ℕ) → Answer → Type 0
MeansOf asked text left a = IsRead asked text left a ⊎ IsUnread (name_of asked) text a

-- the text is a program that is refused for what is asked
pub record IsJudged (asked : Asked) (text : List ℕ) (why : Refusal) : Type 0 where
  pub program : Prog
  pub reads : IsReadAs text (Ok program)
  pub judges : verdict_on asked program ≡ Err why

-- the text is refused for what is asked, and not for want of memory: it is no program, or one that is refused
pub record IsRefused (asked : Asked) (text : List ℕ) : Type 0 where
  pub why : Refusal
  pub refuses : IsReadAs text (Err why) ⊎ IsJudged asked text why
  pub is_verdict : IsVerdict (Err why)

-- the words ask for no run
abbrev pub AsksNoRun : Asked → Type 0
AsksNoRun (ForRun ticks name) = ⊥
AsksNoRun (ForCheck name) = Unit {0}
AsksNoRun (ForShow name) = Unit {0}

-- the definition answers so to the words, where the shelf tells its texts
pub record Means (words : List (List ℕ)) (told : Texts) (left : Option (List ℕ)) (a : Answer) : Type 0 where
  pub asked : Asked
  pub text : List ℕ
  pub names : Names words told asked text
  pub is : MeansOf asked text left a

-- an answer of this status: it is the definition's, and the output and the notes grew by exactly the definition's bytes
pub record EndsAs (status : ℕ) (a : Answer) (old new notes_old notes_new : List ℕ → Type 0) : Type 0 where
  pub status_is : a.status ≡ status
  pub out : Grew old new a.out
  pub notes : Grew notes_old notes_new a.notes

-- the status is the definition's, or tells of a failed load, read or put, or of want of memory
abbrev pub IsTold : ℕ → Answer → Type 0
IsTold status a = (status ≡ a.status) ⊎ (status ≡ 3) ⊎ (status ≡ 7) ⊎ (status ≡ 8) ⊎ (status ≡ 9)

-- a run came to its end, its value or the end of its input, a trap, or a spent budget; or a text was put out
abbrev pub IsEnded : ℕ → Type 0
IsEnded status = (status ≡ 0) ⊎ (status ≡ 4) ⊎ (status ≡ 5)

-- the definition was followed to its end, a refusal included
abbrev pub IsSettled : ℕ → Type 0
IsSettled status = (status ≡ 2) ⊎ IsEnded status

-- it broke off: at a failed read, at a failed put, or for want of memory
abbrev pub IsBroken : ℕ → Type 0
IsBroken status = (status ≡ 7) ⊎ (status ≡ 8) ⊎ (status ≡ 9)

-- nothing was run: bad words, a refused text, or none
abbrev pub IsUnrun : ℕ → Type 0
IsUnrun status = (status ≡ 1) ⊎ (status ≡ 2) ⊎ (status ≡ 3)

-- the statuses of a run without a note
abbrev pub IsQuietRun : ℕ → Type 0
IsQuietRun status = (status ≡ 4) ⊎ (status ≡ 7) ⊎ (status ≡ 9)

-- the statuses without a note
abbrev pub IsQuiet : ℕ → Type 0
IsQuiet status = (status ≡ 1) ⊎ (status ≡ 3) ⊎ IsQuietRun status
