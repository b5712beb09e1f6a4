use Rattle.std.proofs.Common.{sym, subst}
use Rattle.zir_names.specs.Programs.{names}
use Rattle.zir_accept.specs.Accepting.{after_names, Tells}
use Rattle.zir_accept.proofs.Told.{names_told}
use Rattle.zir_accept.proofs.passes.judge_read.Goals as goal

pub returns-in-Ok : goal.returns-in-Ok
returns-in-Ok c = subst (λ w. Tells (after_names w) c.judge_named.result) (sym c.in-Ok.ensures) c.judge_named.ensures

pub returns-in-Err : goal.returns-in-Err
returns-in-Err c = names_told (names c.args.program.now) c.in-Err.error c.name_fault.result c.name_fault.ensures c.in-Err.ensures
