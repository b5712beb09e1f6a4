use Rattle.std.proofs.Common.{◌∙◌, sym}
use Rattle.zir_sharing.specs.Members.{holds}
use Rattle.zir_sharing.proofs.Held.{chosen_found, chosen_passed}
use Rattle.zir_sharing.proofs.words.list.Goals as goal
use Rattle.zir_sharing.proofs.words.list.Goals.{then-has+in_ok-push, else-has}

pub loop-n-preserved : goal.loop-n-preserved
loop-n-preserved c = elim c.if-has.branch [
  | then-has+in_ok-push w ↦ (let e = chosen_found (holds c.args.words.now) c.loop-n.n (sym c.has.ensures ∙ w.if-has.true) in let p = w.in_ok-push.ensures.items in let f = w.found-is in let i = c.loop-n.invariant in cc)
  | else-has w ↦ (let e = chosen_passed (holds c.args.words.now) c.loop-n.n (sym c.has.ensures ∙ w.if-has.false) in let f = w.found-is in let i = c.loop-n.invariant in cc)
]
