use Rattle.std.proofs.Common.{true, ap, subst, sym, ◌∙◌}
use Rattle.zir_expr.specs.Memory.Frames.{Memory}
use Rattle.zir_compile.specs.Names.{scope_of}
use Rattle.zir_eval.specs.Cells.{put_all}
use Rattle.zir_eval.specs.Ends.{Writes}
use Rattle.zir_eval.proofs.Single.{writes_cells}
use Rattle.zir_eval.proofs.variables.write.Goals as goal

pub returns-in-Some : goal.returns-in-Some
returns-in-Some c =
    subst (λ (m : Memory). Writes (scope_of c.args.names.now) c.args.id c.args.base c.args.from.now c.args.frame.now true m)
    (sym (c.copy_in.ensures ∙ ap (λ i. put_all i c.args.from.now c.args.frame.now) c.index.ensures))
    (writes_cells (scope_of c.args.names.now) c.args.id c.args.base c.args.from.now c.args.frame.now c.in-Some.spot c.in-Some.ensures)
