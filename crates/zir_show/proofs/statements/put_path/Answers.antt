use Rattle.std.proofs.Common.{arith, refl}
use Rattle.zir_print.specs.Statements.{path_words}
use Rattle.zir_show.proofs.Adding.{left_all, part_more, parts_end}
use Rattle.zir_show.proofs.statements.put_path.Goals as goal

pub loop-access-init : goal.loop-access-init
loop-access-init c = left_all _ _

pub loop-access-preserved : goal.loop-access-preserved
loop-access-preserved c = part_more path_words c.args.path.now c.loop-access.access-index _ (omega arith) c.access-item.is (λ more. refl) c.loop-access.invariant c.in_ok-put_access.ensures

pub returns : goal.returns
returns c = parts_end path_words c.args.path.now c.loop-access.access-index (omega arith) refl c.loop-access.invariant
