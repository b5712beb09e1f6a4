use Rattle.zir_bit_laws.proofs.Budget.{budgets}
use Rattle.zir_bit_laws.proofs.budgets.Goals as goal

pub returns : goal.returns
returns c = budgets
