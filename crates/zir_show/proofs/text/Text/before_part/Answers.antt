use Rattle.zir_print.specs.Marks.{mark}
use Rattle.zir_show.proofs.Adding.{adds_none, some_before}
use Rattle.zir_show.proofs.text.Text.before_part.Goals as goal

pub returns-then-index-eq0 : goal.returns-then-index-eq0
returns-then-index-eq0 c = rw c.if-index-eq0.true (adds_none _)

pub returns-else-index-eq0 : goal.returns-else-index-eq0
returns-else-index-eq0 c = rw (some_before c.args.index (mark c.args.between) c.if-index-eq0.false) c.symbol.ensures
