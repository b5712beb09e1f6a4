use Rattle.std.proofs.Common.{◌∙◌, ap, List, [], ◌∷◌, ◌+◌, drop}
use Rattle.zir_tree.specs.declared.stmt.Access.{Access}
use Rattle.zir_types.specs.Scope.{Visible}
use Rattle.zir_types.specs.Measures.{in_path}
use Rattle.zir_limits.specs.Facts.{told, sight}
use Rattle.zir_limits.specs.Notes.{noted}
use Rattle.zir_limits.proofs.Noted.{noted_next}
use Rattle.zir_limits.proofs.Rows.{at_place, in_path-more}
use Rattle.zir_limits.proofs.expression.note_path.Goals as goal

pub loop-step-preserved : goal.loop-step-preserved
loop-step-preserved c =
    let g : Visible = sight (told c.args.facts.now) c.args.scope.now in
    let ss : List Access = c.args.steps.now in
    let rest : List Access = drop (c.loop-step.step-index + 1) ss in
    c.loop-step.invariant
    ∙ ap (λ l. noted (in_path g l) c.loop-step.notes) (at_place ss c.loop-step.step-index c.step-item.result c.loop-step-test.true c.step-item.is)
    ∙ ap (λ ms. noted ms c.loop-step.notes) (in_path-more g c.step-item.result rest)
    ∙ noted_next (in_path g (c.step-item.result ∷ [])) (in_path g rest) c.loop-step.notes c.note_access.new.notes c.in_ok-note_access.ensures
