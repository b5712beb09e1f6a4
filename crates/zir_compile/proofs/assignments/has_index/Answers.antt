use Rattle.std.proofs.Common.{sym, ◌∙◌}
use Rattle.zir_compile.proofs.Along.{index_here}
use Rattle.zir_compile.proofs.assignments.has_index.Goals as goal

pub returns-then-is_index : goal.returns-then-is_index
returns-then-is_index c =
    sym (index_here c.args.path.now c.loop-access.access-index c.access-item.result c.loop-access-test.true c.access-item.is (sym c.is_index.ensures ∙ c.if-is_index.true) c.loop-access.invariant)
