use Rattle.zir_beginning.proofs.Keeping.{numbers_own}
use Rattle.zir_beginning.proofs.numbers_own.Goals as goal

pub returns : goal.returns
returns c = numbers_own
