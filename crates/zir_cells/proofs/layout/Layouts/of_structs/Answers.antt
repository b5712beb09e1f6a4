use Rattle.std.proofs.Common.{ap, ◌∙◌, ◌≡◌, [], ◌∷◌, ◌++◌, sum_by}
use Rattle.zir_cells.specs.Layout.{capped, cells_in}
use Rattle.zir_cells.proofs.Capping.{next_struct, all_structs}
use Rattle.zir_cells.proofs.layout.Layouts.of_structs.Goals as goal

pub loop-definition-preserved : goal.loop-definition-preserved
loop-definition-preserved c =
    let before = c.loop-definition.layouts in
    let pushed : c.push.new.self.items ≡ before ++ c.fields-cells.result ∷ [] =
    c.in_ok-push.ensures.items ∙ ap (λ xs. xs ++ c.fields-cells.result ∷ []) c.layouts.view_is in
    next_struct before _ c.args.structs.now c.loop-definition.definition-index c.fields-cells.result c.definition-item.result c.loop-definition-test.true
    c.definition-item.is (c.fields-cells.ensures ∙ ap (λ fs. capped (sum_by (λ f. cells_in before f.ty) fs)) c.as_slice.ensures) pushed
    ∙ c.loop-definition.invariant

pub returns : goal.returns
returns c = all_structs c.loop-definition.layouts c.args.structs.now c.loop-definition.definition-index c.loop-definition-test.false c.loop-definition.invariant
