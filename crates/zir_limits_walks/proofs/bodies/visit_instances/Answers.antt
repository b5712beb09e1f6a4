use Rattle.std.proofs.Common.{◌+◌, sym, subst, List, drop}
use Rattle.zir_tree.specs.declared.program.Instance.{Instance}
use Rattle.zir_types.specs.declared.scope.Seen.{Seen}
use Rattle.zir_limits.specs.declared.notes.Call.{Call}
use Rattle.zir_limits.specs.declared.notes.Notes.{Notes}
use Rattle.zir_limits.specs.Facts.{CoreFacts, told}
use Rattle.zir_limits.proofs.Rows.{at_place}
use Rattle.zir_limits_walks.proofs.Visiting.{InstancesSoFar, next_instance}
use Rattle.zir_limits_walks.proofs.bodies.visit_instances.Goals as goal

pub loop-i-preserved : goal.loop-i-preserved
loop-i-preserved c =
    let f0 : CoreFacts = told c.args.facts.now in
    let vs0 : List Seen = c.args.scope.now in
    let n0 : Notes = c.args.notes.now in
    let xs : List Instance = c.args.instances.now in
    let i = c.loop-i.i-index in
    let rest : List Instance = drop (i + 1) xs in
    let here = at_place xs i c.i-item.result c.loop-i-test.true c.i-item.is in
    subst (λ (cs : List (List Call)). InstancesSoFar f0 vs0 n0 xs (told c.know_instance.new.self) c.visit_instance.new.scope c.visit_instance.new.notes cs rest) (sym c.in_ok-push.ensures.ok)
    (next_instance f0 vs0 n0 xs (told c.loop-i.facts) (told c.know_instance.new.self) c.loop-i.scope c.visit_instance.new.scope c.loop-i.notes c.visit_instance.new.notes c.loop-i.calls
    c.i-item.result rest c.in_ok-visited.visited
    (subst (λ (l : List Instance). InstancesSoFar f0 vs0 n0 xs (told c.loop-i.facts) c.loop-i.scope c.loop-i.notes c.loop-i.calls l) here c.loop-i.invariant)
    c.in_ok-visited.ensures.0 c.in_ok-visited.ensures.1 c.in_ok-visited.ensures.2 c.in_ok-know_instance.ensures)
