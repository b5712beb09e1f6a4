use Rattle.std.proofs.Common.{sym, arith, subst}
use Rattle.std.proofs.lemmas.List.{drop_all}
use Rattle.zir_meaning.specs.Assigned.{path_assigns}
use Rattle.zir_assigned.specs.Sets.{Adds, has}
use Rattle.zir_assigned.specs.Assigned.{access_assigns}
use Rattle.zir_assigned.proofs.Covering.{adds_none, adds_item}
use Rattle.zir_assigned.proofs.Forms.{path-list}
use Rattle.zir_assigned.proofs.assigned.Assigned.path.Goals as goal

pub loop-access-preserved : goal.loop-access-preserved
loop-access-preserved c = λ r agrees set h.
    c.loop-access.invariant r agrees set (adds_item (access_assigns r) (path_assigns r) (path-list r) c.args.path.now c.loop-access.access-index c.access-item.result (omega arith) c.access-item.is
    (has c.loop-access.ids) (has c.access.new.ids) set (c.in_ok-access.ensures r agrees) h)

pub returns : goal.returns
returns c = λ r agrees.
    c.loop-access.invariant r agrees (has c.loop-access.ids)
    (subst (λ path. Adds (path_assigns r path) (has c.loop-access.ids) (has c.loop-access.ids)) (sym (drop_all c.loop-access.access-index c.args.path.now (omega arith))) (adds_none (has c.loop-access.ids)))
