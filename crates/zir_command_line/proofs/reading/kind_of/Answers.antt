use Rattle.std.proofs.Common.{get_or, refl, sym, ap, ◌∙◌, arith}
use Rattle.zir_command_line.specs.Walk.{kind_of, dashed}
use Rattle.zir_command_line.proofs.FirstBytes.{empty_is_bad, other_is_name, dash_is_dashed, none_is_bad}
use Rattle.zir_command_line.proofs.reading.kind_of.Goals as goal

pub returns-in_default : goal.returns-in_default
returns-in_default c = empty_is_bad c.args.word.now (omega arith)

pub returns-then-first-ne45 : goal.returns-then-first-ne45
returns-then-first-ne45 c =
    other_is_name c.args.word.now (omega arith) (λ e. c.if-first-ne45.true (ap (λ w. get_or w 0 0) c.as_bytes.ensures.value ∙ e))

pub returns-in-text : goal.returns-in-text
unfolding kind_of dashed
returns-in-text c = rw c.in-text.is refl

pub returns-in-text-2 : goal.returns-in-text-2
unfolding kind_of dashed
returns-in-text-2 c = rw c.in-text-2.is refl

pub returns-in-text-3 : goal.returns-in-text-3
unfolding kind_of dashed
returns-in-text-3 c = rw c.in-text-3.is refl

pub returns-in-text-4 : goal.returns-in-text-4
unfolding kind_of dashed
returns-in-text-4 c = rw c.in-text-4.is refl

pub returns-in-text-5 : goal.returns-in-text-5
unfolding kind_of dashed
returns-in-text-5 c = rw c.in-text-5.is refl

pub returns-in_default-word : goal.returns-in_default-word
returns-in_default-word c =
    let none = c.in_default-word in
    none_is_bad c.args.word.now none.not-text none.not-text-2 none.not-text-3 none.not-text-4 none.not-text-5
    ∙ sym (dash_is_dashed c.args.word.now (omega arith) (ap (λ w. get_or w 0 0) (sym c.as_bytes.ensures.value) ∙ c.if-first-ne45.false))
