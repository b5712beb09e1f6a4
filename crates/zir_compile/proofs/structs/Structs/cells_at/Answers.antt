use Rattle.std.proofs.Common.{◌∙◌, [], sym, ap}
use Rattle.zir_cells.specs.Layout.{capped, struct_cells, layout_of}
use Rattle.zir_compile.proofs.Sizes.{cells_reversed}
use Rattle.zir_compile.proofs.structs.Structs.cells_at.Goals as goal

pub returns : goal.returns
returns c =
    c.cells.ensures ∙ c.self.invariant c.args.ty.now.inside_out ∙ ap (λ ds. capped (layout_of ds c.args.ty.now.inside_out)) c.self.view_is
    ∙ ap capped (sym (cells_reversed (struct_cells [] c.args.self.now) c.args.ty.now.inside_out))
