use Rattle.std.proofs.Common.{◌∙◌, ap, subst}
use Rattle.zir_tree.specs.declared.program.Prog.{Prog}
use Rattle.zir_tree.specs.declared.program.Core.{Core}
use Rattle.zir_limits_walks.specs.declared.found.Measured.{Measured}
use Rattle.zir_limits_walks.specs.Answers.{Answers, in_order}
use Rattle.zir_limits_walks.specs.Depths.{deep_in}
use Rattle.zir_limits_walks.proofs.Whole.{limits_found}
use Rattle.zir_limits_walks.proofs.program.limits.Goals as goal

pub returns : goal.returns
returns c =
    let p : Prog = c.args.program.now in
    let core : Core = c.args.core.now in
    let m : Measured = c.in_ok-measured.measured in
    subst (λ o. Answers o c.answer.result)
    (c.first_passed-first.ensures ∙ ap (λ d. in_order m.notes d m.need core.at) c.in_ok-deep.ensures
    ∙ ap (λ (k : Measured). in_order k.notes (deep_in k) k.need core.at) c.in_ok-measured.ensures ∙ limits_found p core) c.answer.ensures
