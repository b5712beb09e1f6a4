use Rattle.std.proofs.Common.{◌≡◌, ◌+◌, ◌-◌, suc, ◌∷◌, ◌∙◌, arith, rules, w64, to_z, of_z, FitsSigned}
use Rattle.std.proofs.lemmas.Int.{to_z-of_z}
use Rattle.zir_expr.specs.Memory.{after}
use Rattle.zir_flow.specs.Threads.{cells_from}
use Rattle.zir_samples.proofs.Putting.{on_err_any}
use Rattle.zir_play.proofs.Output.{cells_first, put_more, put_part}
use Rattle.zir_play.proofs.player.put.Goals as goal
use Rattle.zir_play.proofs.player.put.Goals.{After-push}

-- the cell that comes next is the first of those to come
next_cell : (g : _) (c : After-push g) → cells_from (c.args.offer.cells - c.loop-past._past) c.loop-past.at c.args.frame.now
    ≡ to_z w64 (of_z w64 c.cell-cell.result) ∷ cells_from (c.args.offer.cells - (c.loop-past._past + 1)) (after c.loop-past.at) c.args.frame.now
next_cell g c =
    let more : c.args.offer.cells - c.loop-past._past ≡ suc (c.args.offer.cells - (c.loop-past._past + 1)) = omega arith in
    let known : FitsSigned w64 c.cell-cell.result = search rules in
    let same : to_z w64 (of_z w64 c.cell-cell.result) ≡ c.cell-cell.result = to_z-of_z w64 c.cell-cell.result known in
    cells_first _ _ c.loop-past.at c.args.frame.now (to_z w64 (of_z w64 c.cell-cell.result)) more (same ∙ c.cell-cell.ensures)

pub returns-in_err-push-clause-failed : goal.returns-in_err-push-clause-failed
returns-in_err-push-clause-failed g c =
    on_err_any c.from_residual.result
    (put_part g.K.Sink.stands_for c.args.sink.now c.loop-past.sink c.push.new.sink c.args.writer.now c.loop-past.writer _ _ _ _ c.loop-past.invariant.putting
    (next_cell g ((goal.at.returns-in_err-push-clause-failed g c).After-push)) c.in_err-push.ensures.failed)

pub loop-past-preserved : goal.loop-past-preserved
loop-past-preserved g c = record {
  putting = put_more g.K.Sink.stands_for c.args.sink.now c.loop-past.sink c.push.new.sink c.args.writer.now c.loop-past.writer c.push.new.self _ _ _ _
      c.loop-past.invariant.putting (next_cell g ((goal.at.loop-past-preserved g c).After-push)) c.in_ok-push.ensures.ok;
  untold = λ told. c.loop-past.invariant.untold (c.push.ensures.untold told);
  later = omega (arith, c.loop-past.invariant.later, c.push.ensures.cause.later);
}
