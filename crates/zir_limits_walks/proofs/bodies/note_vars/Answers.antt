use Rattle.std.proofs.Common.{◌∙◌, ◌+◌, ap, List, drop}
use Rattle.zir_tree.specs.declared.stmt.Var.{Var}
use Rattle.zir_types.specs.Scope.{Visible}
use Rattle.zir_types.specs.Measures.{in_var}
use Rattle.zir_types.specs.Limits.{in_vars}
use Rattle.zir_limits.specs.Facts.{told, sight}
use Rattle.zir_limits.specs.Notes.{noted}
use Rattle.zir_limits.proofs.Noted.{noted_next}
use Rattle.zir_limits.proofs.Rows.{at_place}
use Rattle.zir_limits_walks.proofs.bodies.note_vars.Goals as goal

pub loop-v-preserved : goal.loop-v-preserved
loop-v-preserved c =
    let g : Visible = sight (told c.args.facts.now) c.args.scope.now in
    let xs : List Var = c.args.vars.now in
    let i = c.loop-v.v-index in
    c.loop-v.invariant
    ∙ ap (λ l. noted (in_vars g l) c.loop-v.notes) (at_place xs i c.v-item.result c.loop-v-test.true c.v-item.is)
    ∙ noted_next (in_var g c.v-item.result) (in_vars g (drop (i + 1) xs)) c.loop-v.notes c.note_var.new.notes c.in_ok-note_var.ensures
