use Rattle.std.proofs.Common.{ap}
use Rattle.zir_accept.specs.Accepting.{broken_rule, unless_broken}
use Rattle.zir_accept.proofs.Told.{rules_told}
use Rattle.zir_accept.proofs.passes.judge_typed.Goals as goal

pub returns-in-Ok : goal.returns-in-Ok
returns-in-Ok c = ap (λ o. unless_broken o (record { program = c.args.program; core = c.args.core })) c.in-Ok.ensures

pub returns-in-Err : goal.returns-in-Err
returns-in-Err c = rules_told (Unit {0}) (broken_rule c.args.program c.args.core) (record { program = c.args.program; core = c.args.core }) c.in-Err.why c.in-Err.ensures
