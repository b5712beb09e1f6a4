use Rattle.std.proofs.Common.{refl}
use Rattle.zir_parse.proofs.loops.loop_of.Goals as goal

pub returns-in-Repeat : goal.returns-in-Repeat
returns-in-Repeat c = rw (c.in_ok-body.ensures, c.in-Repeat.is) refl

pub returns-in-Turn : goal.returns-in-Turn
returns-in-Turn c = rw (c.in_ok-body.ensures, c.in-Turn.is) refl

pub returns-in-Times : goal.returns-in-Times
returns-in-Times c = rw (c.in_ok-body.ensures, c.in-Times.is) refl

pub returns-in-For : goal.returns-in-For
returns-in-For c = rw (c.in_ok-body.ensures, c.in-For.is) refl
