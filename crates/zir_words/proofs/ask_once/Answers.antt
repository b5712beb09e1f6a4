use Rattle.zir_words.proofs.Spelling.{asked_once}
use Rattle.zir_words.proofs.ask_once.Goals as goal

pub returns : goal.returns
returns c = asked_once
