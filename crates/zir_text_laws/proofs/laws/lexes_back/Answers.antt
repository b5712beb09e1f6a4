use Rattle.zir_text_laws.proofs.Texts.{text_read}
use Rattle.zir_text_laws.proofs.laws.lexes_back.Goals as goal

pub returns : goal.returns
returns c = λ most text tokens p lexed low. text_read most text tokens p lexed low
