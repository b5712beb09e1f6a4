use Rattle.zir_typed_code.proofs.KnownComponents.{components_known}
use Rattle.zir_typed_code.proofs.components_are_known.Goals as goal

pub returns : goal.returns
returns c = components_known
