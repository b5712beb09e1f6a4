use Rattle.std.proofs.Common.{refl}
use Rattle.zir_show.proofs.Adding.{◌▸◌, last}
use Rattle.zir_show.proofs.statements.put_declared.Goals as goal

pub returns : goal.returns
returns c = last _ _ _ _ (c.in_ok-name.ensures ▸ c.in_ok-symbol.ensures ▸ c.in_ok-put_type.ensures) c.put_initial.ensures refl
