use Rattle.std.proofs.Common.{sym, subst}
use Rattle.zir_types.specs.Programs.{program}
use Rattle.zir_accept.specs.Accepting.{after_types, Tells}
use Rattle.zir_accept.proofs.Told.{types_told}
use Rattle.zir_accept.proofs.passes.judge_named.Goals as goal

pub returns-in-Ok : goal.returns-in-Ok
returns-in-Ok c = subst (λ w. Tells (after_types w c.args.program) c.judge_typed.result) (sym c.in-Ok.ensures) c.judge_typed.ensures

pub returns-in-Err : goal.returns-in-Err
returns-in-Err c = types_told (program c.args.program.program) c.args.program c.in-Err.error c.type_fault.result c.type_fault.ensures c.in-Err.ensures
