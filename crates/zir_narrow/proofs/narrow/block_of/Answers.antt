use Rattle.std.proofs.Common.{[], refl}
use Rattle.zir_narrow.proofs.Told.{told_err}
use Rattle.zir_narrow.proofs.Lists.{each, block_more, block_stops, block_end}
use Rattle.zir_narrow.proofs.ComponentEquations.{component-Block}
use Rattle.zir_narrow.proofs.narrow.block_of.Goals as goal

pub returns-in_err-narrowed : goal.returns-in_err-narrowed
returns-in_err-narrowed c =
    rw component-Block
    (told_err (each [] c.args.ms.now) _ _ _ c.from_residual.ensures.1
    (block_stops c.loop-index.bound.items c.args.ms.now c.loop-index.made c.loop-index.index c.index-ms-index.result _ _
    c.loop-index-test.true c.index-ms-index.is c.loop-index.invariant (rw c.as_slice.ensures.value at c.in_err-narrowed.ensures)))

pub loop-index-preserved : goal.loop-index-preserved
loop-index-preserved c =
    rw (c.in_ok-push.ensures.ok, c.in_ok-enter.ensures)
    (block_more c.loop-index.bound.items c.args.ms.now c.loop-index.made c.loop-index.index c.index-ms-index.result _ _
    c.loop-index-test.true c.index-ms-index.is c.loop-index.invariant (rw c.as_slice.ensures.value at c.in_ok-narrowed.ensures))

pub returns : goal.returns
returns c =
    let made = block_end c.loop-index.bound.items c.args.ms.now c.loop-index.made c.loop-index.index _ c.loop-index-test.false c.loop-index.invariant in
    rw (component-Block, made) refl
