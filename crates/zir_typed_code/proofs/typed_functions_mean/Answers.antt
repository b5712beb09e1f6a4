use Rattle.zir_eval.proofs.Starting.{calls_mean}
use Rattle.zir_typed_code.proofs.Functions.{functions_fit}
use Rattle.zir_typed_code.proofs.typed_functions_mean.Goals as goal

pub returns : goal.returns
returns c core sound formed signed = calls_mean core formed.structs (functions_fit core sound formed signed)
