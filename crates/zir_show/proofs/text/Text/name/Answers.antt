use Rattle.std.proofs.Common.{rules}
use Rattle.zir_grammar.specs.Grammar.{name}
use Rattle.zir_print.specs.Marks.{nowhere}
use Rattle.zir_show.proofs.Adding.{one}
use Rattle.zir_show.proofs.text.Text.name.Goals as goal

pub returns : goal.returns
returns c = one _ _ _ _ (name c.args.name.now nowhere) c.word.ensures (search rules)
