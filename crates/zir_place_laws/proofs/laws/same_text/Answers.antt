use Rattle.zir_place_laws.proofs.Words.{text_same}
use Rattle.zir_place_laws.proofs.laws.same_text.Goals as goal

pub returns : goal.returns
returns c = λ p q same. text_same p q same
