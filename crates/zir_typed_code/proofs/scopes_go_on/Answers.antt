use Rattle.zir_typed_code.proofs.Statements.{scopes_go_on}
use Rattle.zir_typed_code.proofs.scopes_go_on.Goals as goal

pub returns : goal.returns
returns c = scopes_go_on
