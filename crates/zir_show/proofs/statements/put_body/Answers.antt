use Rattle.std.proofs.Common.{refl}
use Rattle.zir_show.proofs.Adding.{◌▸◌, last}
use Rattle.zir_show.proofs.statements.put_body.Goals as goal

pub returns : goal.returns
returns c = last _ _ _ _ (c.in_ok-symbol.ensures ▸ (rw c.as_slice.ensures at c.in_ok-put_parts.ensures)) c.symbol-2.ensures refl
