use Rattle.std.proofs.Common.{◌∙◌, ap, take, sum_by}
use Rattle.std.proofs.lemmas.List.{take_min}
use Rattle.zir_tree.specs.declared.types.FieldDef.{FieldDef}
use Rattle.zir_cells.specs.Layout.{capped, cells_in, layout_of}
use Rattle.zir_shapes.specs.Offsets.{fields_of}
use Rattle.zir_compile.proofs.Sizes.{sums_capped}
use Rattle.zir_compile.proofs.structs.Structs.offset_in.Goals as goal

pub returns : goal.returns
returns c =
    let ds = c.args.self.now in
    let fs = fields_of ds c.args.j in
    c.cells_of_fields.ensures
    ∙ sums_capped (λ (f : FieldDef). cells_in c.self.inside.layouts f.ty) (λ (f : FieldDef). layout_of ds f.ty) (take c.min-n.result c.fields-fields.result.now)
    (λ f. c.self.invariant f.ty ∙ ap (λ es. capped (layout_of es f.ty)) c.self.view_is)
    ∙ ap (λ xs. capped (sum_by (λ (f : FieldDef). layout_of ds f.ty) xs))
    (ap (λ n. take n c.fields-fields.result.now) c.min-n.ensures ∙ take_min c.args.k c.fields-fields.result.now ∙ ap (take c.args.k) c.fields-fields.ensures)
