use Rattle.std.proofs.Common.{refl}
use Rattle.zir_grammar.specs.Grammar.{bit}
use Rattle.zir_print.specs.Marks.{nowhere}
use Rattle.zir_show.proofs.Adding.{one}
use Rattle.zir_show.proofs.text.Text.bit.Goals as goal

pub returns-then-bit : goal.returns-then-bit
returns-then-bit c = one _ _ _ _ (bit c.args.bit nowhere) c.word.ensures (rw c.if-bit.true refl)

pub returns-else-bit : goal.returns-else-bit
returns-else-bit c = one _ _ _ _ (bit c.args.bit nowhere) c.word-else-bit.ensures (rw c.if-bit.false refl)
