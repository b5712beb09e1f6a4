use Rattle.std.proofs.Common.{◌∙◌, ap, refl, ◌+◌, max}
use Rattle.std.specs.Prelude.{Some}
use Rattle.zir_types.specs.Known.{ty_of}
use Rattle.zir_types.specs.Needs.{counted}
use Rattle.zir_limits.proofs.Rows.{cells_same}
use Rattle.zir_limits_walks.proofs.ComponentEquations.{known}
use Rattle.zir_limits_walks.proofs.component.walk_var.Goals as goal

pub returns : goal.returns
returns c =
    let held = cells_same _ _ _ (ty_of c.args.v.now.ty) _ c.written_cells.ensures c.shapes.ensures refl in
    let cells = c.counted.ensures ∙ ap (λ k. counted (c.args.so_far.cells + k)) held in
    let most = c.greater.ensures ∙ ap (λ k. max c.args.so_far.most k) c.initial_need.ensures in
    λ a. (λ j. known c.args.so_far.emits (Some (c.scalar.ensures j)) (cells j) (most j), c.in_ok-note_var.ensures, c.in_ok-declare_var.ensures)
