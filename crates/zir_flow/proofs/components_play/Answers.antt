use Rattle.zir_code.proofs.Bodies.{lists_spare}
use Rattle.zir_flow.proofs.Straight.{expressions_agree}
use Rattle.zir_flow.proofs.Doing.{do_arrives}
use Rattle.zir_flow.proofs.Assembling.{components_play}
use Rattle.zir_flow.proofs.components_play.Goals as goal

pub returns : goal.returns
returns c = components_play (do_arrives (lists_spare expressions_agree))
