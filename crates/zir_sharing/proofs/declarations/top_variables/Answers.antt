use Rattle.std.proofs.Common.{◌∙◌, ◌+◌, ap, sym, arith, drop}
use Rattle.zir_names.specs.Numbers.{union}
use Rattle.zir_names.specs.Touched.{tops}
use Rattle.zir_sharing.proofs.Sets.{union_none}
use Rattle.zir_sharing.proofs.Ascents.{ascends-tops, tops-then}
use Rattle.zir_sharing.proofs.Touching.{drop_item}
use Rattle.zir_sharing.proofs.declarations.top_variables.Goals as goal

pub loop-d-init : goal.loop-d-init
loop-d-init c = rw c.new-top.ensures (union_none 0 (tops c.args.ds.now) (ascends-tops c.args.ds.now))

pub loop-d-preserved : goal.loop-d-preserved
loop-d-preserved c =
    let ds = c.args.ds.now in
    let i = c.loop-d.d-index in
    ap (union (tops (drop (i + 1) ds))) c.in_ok-add_top.ensures
    ∙ tops-then c.d-item.result (drop (i + 1) ds) c.loop-d.top
    ∙ ap (λ xs. union (tops xs) c.loop-d.top) (sym (drop_item ds i c.d-item.result (omega arith) c.d-item.is))
    ∙ c.loop-d.invariant
