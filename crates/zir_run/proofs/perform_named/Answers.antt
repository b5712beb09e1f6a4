use Rattle.std.specs.Prelude.{refl}
use Rattle.std.proofs.Common.{◌≡◌, ◌∙◌, inl, inr, ap, sym, subst}
use Rattle.zir_tree.specs.declared.refusal.Refusal.TheVariants.{TooLong}
use Rattle.zir_meaning.specs.Answer.{Answer}
use Rattle.zir_outside.specs.Sinks.{Grew, GrewPart}
use Rattle.zir_words.specs.Words.{asked_of}
use Rattle.zir_run.specs.Claim.{IsRefused, MeansOf, refused_answer}
use Rattle.zir_run.specs.Loading.{Has}
use Rattle.zir_run.proofs.Keep.{keeps_refusal}
use Rattle.zir_run.proofs.Verdicts.{too_long, text_note}
use Rattle.zir_run.proofs.perform_named.Goals as goal

pub returns-in-Ok-clause-refused : goal.returns-in-Ok-clause-refused
returns-in-Ok-clause-refused g c text two has =
    let loaded = c.in-Ok.ensures.loads text (subst (λ name. Has (g.H.Shelf.texts c.args.shelf.now) name text) (sym c.name-name.ensures) has) in
    subst (IsRefused (asked_of c.args.job)) (c.as_slice.ensures.value ∙ loaded) (c.perform_text.ensures.refused two)

pub returns-in-Ok-clause-keeps : goal.returns-in-Ok-clause-keeps
returns-in-Ok-clause-keeps g c text a has m =
    let loaded = c.in-Ok.ensures.loads text (subst (λ name. Has (g.H.Shelf.texts c.args.shelf.now) name text) (sym c.name-name.ensures) has) in
    c.perform_text.ensures.keeps a
    (subst (λ t. MeansOf (asked_of c.args.job) t (g.S.Source.left c.args.input.now) a) (sym (c.as_slice.ensures.value ∙ loaded)) m)

pub returns-in-Err-TooLong-clause-refused : goal.returns-in-Err-TooLong-clause-refused
returns-in-Err-TooLong-clause-refused g c text two has =
    let e = rw c.in-Err-TooLong.field-0-is at c.in-Err-TooLong.ensures in
    let long = e.loads text (subst (λ name. Has (g.H.Shelf.texts c.args.shelf.now) name text) (sym c.name-name.ensures) has) in
    record { why = TooLong; refuses = inl (too_long text long); is_verdict = tt }

pub returns-in-Err-TooLong-clause-keeps : goal.returns-in-Err-TooLong-clause-keeps
returns-in-Err-TooLong-clause-keeps g c text a has m =
    let e = rw c.in-Err-TooLong.field-0-is at c.in-Err-TooLong.ensures in
    let long = e.loads text (subst (λ name. Has (g.H.Shelf.texts c.args.shelf.now) name text) (sym c.name-name.ensures) has) in
    let is = text_note c.one_verdict.ensures (asked_of c.args.job) text (g.S.Source.left c.args.input.now) a TooLong tt (too_long text long) m
    ∙ ap (λ name. refused_answer name TooLong) (sym c.name-name.ensures) in
    let notes = ap (λ (b : Answer). b.notes) is in
    keeps_refusal c.refuse.result a (g.K.Sink.stands_for c.args.out.now) (g.N.Sink.stands_for c.args.notes.now) (g.N.Sink.stands_for c.refuse.new.notes)
    (g.K.Sink.faults c.args.out.now) (ap (λ (b : Answer). b.status) is) (ap (λ (b : Answer). b.out) is) c.refuse.ensures.status
    (λ two. subst (Grew (g.N.Sink.stands_for c.args.notes.now) (g.N.Sink.stands_for c.refuse.new.notes)) (sym notes) (c.refuse.ensures.noted two))
    (λ eight. subst (λ note. GrewPart note (g.N.Sink.stands_for c.args.notes.now) (g.N.Sink.stands_for c.refuse.new.notes)) (sym notes)
    (c.refuse.ensures.failed eight))
