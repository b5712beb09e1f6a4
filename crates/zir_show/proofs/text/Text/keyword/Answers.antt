use Rattle.std.proofs.Common.{rules}
use Rattle.zir_print.specs.Marks.{link_word}
use Rattle.zir_show.proofs.Adding.{one}
use Rattle.zir_show.proofs.text.Text.keyword.Goals as goal

pub returns : goal.returns
returns c = one _ _ _ _ (link_word c.args.keyword) c.word.ensures (search rules)
