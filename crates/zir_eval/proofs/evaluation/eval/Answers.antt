use Rattle.std.proofs.Common.{Ok, Err, sym, subst}
use Rattle.zir_tree.specs.declared.ends.Trap.{Trap}
use Rattle.zir_eval.specs.declared.evaluation.Stop.TheVariants.{Trap as ByTrap}
use Rattle.zir_eval.specs.Ends.{Evaluates}
use Rattle.zir_eval.proofs.Ending.{evaluates_done, evaluates_trapped, evaluates_spent}
use Rattle.zir_eval.proofs.evaluation.eval.Goals as goal

pub returns-in-Ok : goal.returns-in-Ok
returns-in-Ok c =
    let ran = rw c.as_slice.ensures at c.in-Ok.ensures in
    subst (λ x. Evaluates c.args.made.now c.args.base c.args.frame.now (Ok x) c.run.new.frame) (sym c.index.ensures)
    (evaluates_done c.args.made.now c.args.base c.args.frame.now c.run.new.frame ran)

pub returns-in-Err-Trap : goal.returns-in-Err-Trap
returns-in-Err-Trap c =
    let ran = rw (c.as_slice.ensures, c.in-Err-Trap.field-0-is) at c.in-Err-Trap.ensures in
    subst (λ (w : Trap). Evaluates c.args.made.now c.args.base c.args.frame.now (Err (ByTrap w)) c.run.new.frame) (sym c.trap.ensures)
    (evaluates_trapped c.args.made.now c.args.base c.args.frame.now c.run.new.frame c.run.new.frame.trap ran)

pub returns-in-Err-Spent : goal.returns-in-Err-Spent
returns-in-Err-Spent c =
    let ran = rw (c.as_slice.ensures, c.in-Err-Spent.field-0-is) at c.in-Err-Spent.ensures in
    evaluates_spent c.args.made.now c.args.base c.args.frame.now c.run.new.frame ran
