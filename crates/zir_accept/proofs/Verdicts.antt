-- A text has one verdict.
use Rattle.std.proofs.Common.{◌≡◌, ℕ, List, Result, Ok, Err, ap, sym, ◌∙◌, subst, refl}
use Rattle.zir_tree.specs.declared.program.Prog.{Prog}
use Rattle.zir_tree.specs.declared.refusal.Refusal.{Refusal}
use Rattle.zir_tree.specs.declared.refusal.Refusal.TheVariants as refused
use Rattle.zir_read.specs.Reading.{IsReadAs, IsTold as IsReadTold, HasOneVerdict as HasOneReading}
use Rattle.zir_accept.specs.declared.passes.Accepted.{Accepted}
use Rattle.zir_accept.specs.Accepting.{judged, Tells, IsJudged, IsUnread, IsAcceptedAs, read, unread, IsTold, HasOneVerdict}

-- what is told is the verdict
told_is : (verdict answer : Result Accepted Refusal) → IsTold answer → Tells verdict answer → verdict ≡ answer
told_is verdict (Ok accepted) told h = h
told_is verdict (Err refused.Memory) told h = absurd told
told_is verdict (Err other) told h = h

-- what is told of a text that is no program was told when it was read
read_told : (why : Refusal) → IsTold (Err why) → IsReadTold (Err why)
read_told refused.Memory told = told
read_told other told = tt

-- a program is not refused
not_both : (p : Prog) (why : Refusal) → Ok p ≡ Err why → ⊥
not_both p why h = cc

pub one : HasOneReading → HasOneVerdict
one reading text a b told_a told_b (read h) (read k) =
    let same : Ok h.program ≡ Ok k.program = reading text (Ok h.program) (Ok k.program) tt tt h.reads k.reads in
    let program : h.program ≡ k.program = cc same in
    sym (told_is (judged h.program) a told_a h.tells) ∙ ap judged program ∙ told_is (judged k.program) b told_b k.tells
one reading text a b told_a told_b (read h) (unread k) =
    absurd (not_both h.program k.why (reading text (Ok h.program) (Err k.why) tt (read_told k.why (subst IsTold k.is told_b)) h.reads k.refuses))
one reading text a b told_a told_b (unread h) (read k) =
    absurd (not_both k.program h.why (sym (reading text (Err h.why) (Ok k.program) (read_told h.why (subst IsTold h.is told_a)) tt h.refuses k.reads)))
one reading text a b told_a told_b (unread h) (unread k) =
    let same : h.why ≡ k.why =
    cc (reading text (Err h.why) (Err k.why) (read_told h.why (subst IsTold h.is told_a)) (read_told k.why (subst IsTold k.is told_b)) h.refuses k.refuses) in
    h.is ∙ ap Err same ∙ sym k.is
