use Rattle.std.proofs.Common.{rules}
use Rattle.zir_grammar.specs.Grammar.{int}
use Rattle.zir_print.specs.Marks.{nowhere}
use Rattle.zir_show.proofs.Adding.{one}
use Rattle.zir_show.proofs.text.Text.number.Goals as goal

pub returns : goal.returns
returns c = one _ _ _ _ (int c.args.number nowhere) c.word.ensures (search rules)
