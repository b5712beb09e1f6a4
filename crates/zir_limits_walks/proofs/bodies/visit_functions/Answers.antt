use Rattle.std.proofs.Common.{◌+◌, sym, subst, List, drop}
use Rattle.zir_tree.specs.declared.program.Function.{Function}
use Rattle.zir_types.specs.declared.scope.Seen.{Seen}
use Rattle.zir_limits.specs.declared.notes.Call.{Call}
use Rattle.zir_limits.specs.declared.notes.Notes.{Notes}
use Rattle.zir_limits.specs.Facts.{CoreFacts, told}
use Rattle.zir_limits.proofs.Rows.{at_place}
use Rattle.zir_limits_walks.proofs.Visiting.{FunctionsSoFar, next_function}
use Rattle.zir_limits_walks.proofs.bodies.visit_functions.Goals as goal

pub loop-f-preserved : goal.loop-f-preserved
loop-f-preserved c =
    let f0 : CoreFacts = told c.args.facts.now in
    let vs0 : List Seen = c.args.scope.now in
    let n0 : Notes = c.args.notes.now in
    let xs : List Function = c.args.functions.now in
    let i = c.loop-f.f-index in
    let rest : List Function = drop (i + 1) xs in
    let here = at_place xs i c.f-item.result c.loop-f-test.true c.f-item.is in
    subst (λ (cs : List (List Call)). FunctionsSoFar f0 vs0 n0 xs (told c.know_function.new.self) c.visit_function.new.scope c.visit_function.new.notes cs rest) (sym c.in_ok-push.ensures.ok)
    (next_function f0 vs0 n0 xs (told c.loop-f.facts) (told c.know_function.new.self) c.loop-f.scope c.visit_function.new.scope c.loop-f.notes c.visit_function.new.notes c.loop-f.calls
    c.f-item.result rest c.in_ok-visited.visited
    (subst (λ (l : List Function). FunctionsSoFar f0 vs0 n0 xs (told c.loop-f.facts) c.loop-f.scope c.loop-f.notes c.loop-f.calls l) here c.loop-f.invariant)
    c.in_ok-visited.ensures.0 c.in_ok-visited.ensures.1 c.in_ok-visited.ensures.2 c.in_ok-know_function.ensures)
