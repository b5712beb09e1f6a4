use Rattle.std.proofs.Common.{◌∙◌, ap, sym}
use Rattle.zir_assigned.specs.Sets.{has, restored, uncovered}
use Rattle.zir_assigned.proofs.Covering.{uncovered-push, uncovered_same}
use Rattle.zir_assigned.proofs.sets.uncover.Goals as goal

pub loop-last-preserved : goal.loop-last-preserved
loop-last-preserved c = λ k.
    uncovered_same c.pop.new.self.items (has c.restore.new.ids) (restored c.in-Some.last (has c.loop-last.ids)) c.in_ok-restore.ensures k
    ∙ sym (uncovered-push c.pop.new.self.items c.in-Some.last (has c.loop-last.ids) k)
    ∙ ap (λ hs. uncovered hs (has c.loop-last.ids) k) (sym c.in-Some.ensures.items) ∙ c.loop-last.invariant k
