use Rattle.std.proofs.Common.{[], true, refl}
use Rattle.std.proofs.lemmas.Result.{err_from_is_err_and}
use Rattle.zir_bit_meaning.specs.Composition.{values}
use Rattle.zir_bit_meaning.specs.Samples.{spell}
use Rattle.zir_drive.specs.Runs.{trace_of}
use Rattle.zir_drive.proofs.Giving.{grew_none}
use Rattle.zir_drive.proofs.drive.Goals as goal

pub returns-in_err-driver-clause-failed : goal.returns-in_err-driver-clause-failed
returns-in_err-driver-clause-failed g c n bytes s told =
    let p = err_from_is_err_and c.from_residual.result c.from_residual.ensures.1 in rw p.1
    ([], spell true (values (trace_of (g.W.Worker.component c.args.worker.now) n bytes).outs), refl, grew_none (g.K.Sink.stands_for c.args.out.now))
