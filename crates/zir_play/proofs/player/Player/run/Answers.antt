use Rattle.zir_stage.specs.Standing.{given, stage_of}
use Rattle.zir_play.proofs.Closing.{ran, ran_in_part, broken_off}
use Rattle.zir_play.proofs.player.Player.run.Goals as goal

pub returns-in-Ok-finish-clause-closes : goal.returns-in-Ok-finish-clause-closes
returns-in-Ok-finish-clause-closes g c format base i p xs tail fresh performs told shaped =
    ran g.K.Sink.stands_for c.args.sink.now c.play.new.sink c.finish.new.sink format base c.args.writer c.play.new.writer fresh i c.args.code.now p xs tail
    (g.E.ElementSource.left c.play.new.elements) (given (stage_of c.args.code.now c.play.new.stage)) c.in-Ok.outcome
    (c.in-Ok.ensures.comes i p xs tail performs told shaped) c.in-Ok-finish.ensures.ok

pub returns-in-Ok-clause-closes : goal.returns-in-Ok-clause-closes
returns-in-Ok-clause-closes g c format base i p xs tail fresh performs told shaped =
    ran_in_part g.K.Sink.stands_for c.args.sink.now c.play.new.sink c.finish.new.sink format base c.args.writer c.play.new.writer fresh i c.args.code.now p xs tail
    (g.E.ElementSource.left c.play.new.elements) (given (stage_of c.args.code.now c.play.new.stage)) c.in-Ok.outcome
    (c.in-Ok.ensures.comes i p xs tail performs told shaped) c.in-Err-finish.ensures.failed

pub returns-clause-closes : goal.returns-clause-closes
returns-clause-closes g c format base i p xs tail fresh performs told shaped =
    broken_off g.K.Sink.stands_for c.args.sink.now c.play.new.sink c.break_off.new.sink format base c.args.writer c.play.new.writer fresh i c.args.code.now p xs tail
    (g.E.ElementSource.left c.play.new.elements) c.in-Err.why c.break_off.result
    (c.in-Err.ensures.comes i p xs tail performs told shaped) c.break_off.ensures.flushed
