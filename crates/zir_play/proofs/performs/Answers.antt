use Rattle.zir_play.proofs.Watching.{performs_it}
use Rattle.zir_play.proofs.performs.Goals as goal

pub returns : goal.returns
returns c top base d size st g input out comp code p s h = performs_it top base d size st g input out comp code p s h
