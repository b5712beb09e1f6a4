use Rattle.std.proofs.Common.{refl}
use Rattle.zir_accept.specs.Accepting.{read, unread}
use Rattle.zir_accept.proofs.passes.accept.Goals as goal

pub returns-in-Ok-clause-tells : goal.returns-in-Ok-clause-tells
returns-in-Ok-clause-tells c = read (record { program = c.in-Ok.program; reads = c.in-Ok.ensures; tells = c.judge.ensures.tells })

pub returns-in-Err-clause-tells : goal.returns-in-Err-clause-tells
returns-in-Err-clause-tells c = unread (record { why = c.in-Err.why; refuses = c.in-Err.ensures; is = refl })
