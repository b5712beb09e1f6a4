use Rattle.std.proofs.Common.{◌++◌, ap, sym, append_assoc}
use Rattle.std.specs.Prelude.{codes}
use Rattle.zir_notes.proofs.refused.words_of.Goals as goal

pub returns-in-OuterAssign-clause-words : goal.returns-in-OuterAssign-clause-words
returns-in-OuterAssign-clause-words c =
    rw (c.in-OuterAssign.is, c.as_slice-in-OuterAssign.ensures)
    (ap (λ l. codes "outer variable " ++ l) (sym (append_assoc c.in-OuterAssign.x (codes " assigned before the last stage") (codes "\n"))))
