use Rattle.zir_eval.proofs.Starting.{holds_blanks}
use Rattle.zir_eval.proofs.opening.blank_frames_hold.Goals as goal

pub returns : goal.returns
returns c = holds_blanks
