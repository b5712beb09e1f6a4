use Rattle.std.proofs.Common.{subst}
use Rattle.zir_compile.specs.Names.{scope_of}
use Rattle.zir_eval.specs.Cells.{AreAt}
use Rattle.zir_eval.proofs.Single.{reads_cells}
use Rattle.zir_eval.proofs.variables.read.Goals as goal

pub returns-in-Some : goal.returns-in-Some
returns-in-Some c =
    reads_cells (scope_of c.args.names.now) c.args.id c.args.base c.args.frame.now c.args.into.now c.copy_out.new.into c.in-Some.spot c.in-Some.ensures
    c.copy_out.ensures.length (subst (λ i. AreAt c.args.frame.now i c.copy_out.new.into) c.index.ensures c.copy_out.ensures.cells)
