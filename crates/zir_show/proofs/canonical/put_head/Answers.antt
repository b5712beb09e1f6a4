use Rattle.std.proofs.Common.{refl}
use Rattle.zir_show.proofs.Adding.{◌▸◌, last}
use Rattle.zir_show.proofs.canonical.put_head.Goals as goal

pub returns : goal.returns
returns c = last _ _ _ _ (c.in_ok-name.ensures ▸ c.in_ok-symbol.ensures ▸ c.in_ok-put_fields.ensures) c.symbol-2.ensures refl
