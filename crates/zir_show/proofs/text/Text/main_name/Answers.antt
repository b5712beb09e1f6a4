use Rattle.std.proofs.Common.{rules}
use Rattle.zir_grammar.specs.Grammar.{name, main_bytes}
use Rattle.zir_print.specs.Marks.{nowhere}
use Rattle.zir_show.proofs.Adding.{one}
use Rattle.zir_show.proofs.text.Text.main_name.Goals as goal

pub returns : goal.returns
returns c = one _ _ _ _ (name main_bytes nowhere) c.word.ensures (search rules)
