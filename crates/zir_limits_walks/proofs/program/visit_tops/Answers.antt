use Rattle.std.proofs.Common.{◌≡◌, ◌∙◌, ap, ◌++◌}
use Rattle.zir_tree.specs.declared.program.Prog.{Prog}
use Rattle.zir_tree.specs.declared.program.Core.{Core}
use Rattle.zir_types.specs.Scope.{Visible}
use Rattle.zir_types.specs.Known.{seen_vars}
use Rattle.zir_types.specs.Limits.{in_structs, in_vars}
use Rattle.zir_limits.specs.declared.notes.Notes.{Notes}
use Rattle.zir_limits.specs.Facts.{CoreFacts, sight}
use Rattle.zir_limits.specs.Notes.{noted, unnoted, calls_in}
use Rattle.zir_limits_walks.specs.Bodies.{facts_of}
use Rattle.zir_limits_walks.proofs.Firsts.{calls-structs}
use Rattle.zir_limits_walks.proofs.Visiting.{hushed}
use Rattle.zir_limits_walks.proofs.Whole.{topping}
use Rattle.zir_limits_walks.proofs.program.visit_tops.Goals as goal

pub returns : goal.returns
returns c =
    let p : Prog = c.args.program.now in
    let core : Core = c.args.core.now in
    let f : CoreFacts = facts_of core in
    let g : Visible = sight f (seen_vars core.variables) in
    let structs : c.note_structs.new.notes ≡ noted (in_structs g p.declarations f.shapes) unnoted =
    c.note_structs.ensures g
    ∙ (λ j. noted (in_structs g (c.as_slice.ensures j) ((c.shapes.ensures ∙ ap (λ (k : CoreFacts). k.shapes) c.requires.facts_in) j)) (c.new-notes.ensures j)) in
    let vars : c.note_vars.new.notes ≡ noted (in_vars g core.variables) c.note_structs.new.notes =
    c.in_ok-note_vars.ensures ∙ (λ j. noted (in_vars (sight (c.requires.facts_in j) (c.requires.all_seen j)) (c.as_slice-2.ensures j)) c.note_structs.new.notes) in
    let whole = vars ∙ ap (noted (in_vars g core.variables)) structs in
    λ j. topping ((c.take_calls-calls.ensures.rest ∙ ap hushed whole) j)
    ((c.take_calls-calls.ensures.calls ∙ ap (λ (m : Notes). m.calls) whole ∙ ap (λ cs. cs ++ calls_in (in_vars g core.variables)) (calls-structs g p.declarations f.shapes)) j)
