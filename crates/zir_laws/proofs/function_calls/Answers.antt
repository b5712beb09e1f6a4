use Rattle.zir_laws.proofs.FunctionCalls.{function_calls}
use Rattle.zir_laws.proofs.function_calls.Goals as goal

pub returns : goal.returns
returns c = function_calls
