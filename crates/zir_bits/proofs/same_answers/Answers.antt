use Rattle.zir_bits.proofs.Answers.{answers-same}
use Rattle.zir_bits.proofs.same_answers.Goals as goal

pub returns : goal.returns
returns c = answers-same
