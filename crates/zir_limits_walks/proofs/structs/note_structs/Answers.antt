use Rattle.std.proofs.Common.{◌∙◌, ◌+◌, ◌≤◌, ap, sym, arith, List, drop, length}
use Rattle.zir_tree.specs.declared.program.Decl.{Decl}
use Rattle.zir_types.specs.Limits.{in_structs}
use Rattle.zir_limits.specs.Notes.{noted}
use Rattle.zir_limits.proofs.Noted.{noted-none}
use Rattle.zir_limits.proofs.Rows.{at_place}
use Rattle.zir_limits_walks.proofs.Steps.{drop_past}
use Rattle.zir_limits_walks.proofs.structs.note_structs.Goals as goal

pub loop-d-preserved : goal.loop-d-preserved
loop-d-preserved c = λ g.
    let ds : List Decl = c.args.ds.now in
    let i = c.loop-d.d-index in
    c.loop-d.invariant g
    ∙ ap (λ l. noted (in_structs g l (drop c.loop-d.place c.args.shapes.now)) c.loop-d.notes) (at_place ds i c.d-item.result c.loop-d-test.true c.d-item.is)
    ∙ c.note_declaration-place.ensures g (drop (i + 1) ds)

pub returns : goal.returns
returns c = λ g.
    let ds : List Decl = c.args.ds.now in
    let past : length ds ≤ c.loop-d.d-index = omega arith in
    sym (c.loop-d.invariant g ∙ ap (λ l. noted (in_structs g l (drop c.loop-d.place c.args.shapes.now)) c.loop-d.notes) (drop_past ds c.loop-d.d-index past) ∙ noted-none c.loop-d.notes)
