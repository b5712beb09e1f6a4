use Rattle.std.proofs.Common.{◌≡◌, ◌∙◌, ap, List, [], ◌∷◌}
use Rattle.zir_tree.specs.declared.program.Prog.{Prog}
use Rattle.zir_tree.specs.declared.program.Core.{Core}
use Rattle.zir_types.specs.declared.scope.Seen.{Seen}
use Rattle.zir_types.specs.Scope.{Visible, cells_in}
use Rattle.zir_types.specs.Measures.{Measure, Sends, in_type, in_comp}
use Rattle.zir_limits.specs.declared.notes.Notes.{Notes}
use Rattle.zir_limits.specs.Facts.{CoreFacts, told, sight}
use Rattle.zir_limits.specs.Notes.{noted}
use Rattle.zir_limits.proofs.Noted.{noted_two, noted_three}
use Rattle.zir_limits_walks.specs.declared.found.Walked.{Walked}
use Rattle.zir_limits_walks.specs.Bodies.{main_measures}
use Rattle.zir_limits_walks.proofs.Visiting.{visiting, hushed}
use Rattle.zir_limits_walks.proofs.bodies.visit_main.Goals as goal

pub returns : goal.returns
returns c =
    let f : CoreFacts = told c.args.facts.now in
    let vs : List Seen = c.args.scope.now in
    let g : Visible = sight f vs in
    let p : Prog = c.args.program.now in
    let core : Core = c.args.core.now in
    let n : Notes = c.args.notes.now in
    let m1 : Notes = c.note_type.new.notes in
    let m2 : Notes = c.sends.new.self in
    let m3 : Notes = c.walk_comp.new.notes in
    let sent : Measure = Sends (cells_in g.shapes core.input) p.input.at in
    let width : c.cells.result ≡ cells_in g.shapes core.input = c.cells.ensures ∙ ap (λ ss. cells_in ss core.input) c.shapes.ensures in
    let emitted : m2 ≡ noted (sent ∷ []) m1 = c.sends.ensures ∙ ap (λ k. noted (Sends k p.input.at ∷ []) m1) width in
    let main : m3 ≡ noted (sent ∷ in_comp f.instances g core.input core.main) m1 =
    noted_two (sent ∷ []) (in_comp f.instances g core.input core.main) m1 m2 m3 emitted c.in_ok-walked.ensures.1 in
    let whole : c.note_type-2.new.notes ≡ noted (main_measures f vs p core) n =
    noted_three (in_type g p.input) (sent ∷ in_comp f.instances g core.input core.main) (in_type g p.output) n m1 m3 c.note_type-2.new.notes
    c.note_type.ensures main c.note_type-2.ensures in (
      (λ j. visiting ((c.take_calls-calls.ensures.calls ∙ ap (λ (m : Notes). m.calls) whole) j) (ap (λ (w : Walked). w.need) c.in_ok-walked.ensures.0 j)),
      c.take_calls-calls.ensures.rest ∙ ap hushed whole,
      c.in_ok-walked.ensures.2,
    )
