use Rattle.std.proofs.Common.{refl}
use Rattle.zir_show.proofs.Adding.{last}
use Rattle.zir_show.proofs.statements.put_var.Goals as goal

pub returns : goal.returns
returns c = last _ _ _ _ c.in_ok-keyword.ensures c.put_declared.ensures refl
