use Rattle.std.proofs.Common.{rules}
use Rattle.zir_print.specs.Marks.{mark}
use Rattle.zir_show.proofs.Adding.{one}
use Rattle.zir_show.proofs.text.Text.symbol.Goals as goal

pub returns : goal.returns
returns c = one _ _ _ _ (mark c.args.symbol) c.word.ensures (search rules)
