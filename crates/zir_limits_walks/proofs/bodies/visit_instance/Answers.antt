use Rattle.std.proofs.Common.{◌≡◌, ◌∙◌, ap, List, ◌++◌, take}
use Rattle.zir_tree.specs.declared.program.Instance.{Instance}
use Rattle.zir_types.specs.declared.scope.Seen.{Seen}
use Rattle.zir_types.specs.Scope.{Visible}
use Rattle.zir_types.specs.Known.{seen_fields}
use Rattle.zir_types.specs.Measures.{in_comp}
use Rattle.zir_types.specs.Needs.{with_call, comp_need}
use Rattle.zir_types.specs.Limits.{in_fields, in_instance}
use Rattle.zir_limits.specs.declared.notes.Notes.{Notes}
use Rattle.zir_limits.specs.Facts.{CoreFacts, told, sight, needs_in}
use Rattle.zir_limits.specs.Notes.{noted}
use Rattle.zir_limits.proofs.Noted.{noted_two}
use Rattle.zir_limits_walks.specs.declared.found.Walked.{Walked}
use Rattle.zir_limits_walks.specs.Bodies.{instance_measures}
use Rattle.zir_limits_walks.proofs.Steps.{take_front}
use Rattle.zir_limits_walks.proofs.Visiting.{visiting, hushed}
use Rattle.zir_limits_walks.proofs.bodies.visit_instance.Goals as goal

pub returns : goal.returns
returns c =
    let f : CoreFacts = told c.args.facts.now in
    let vs : List Seen = c.args.scope.now in
    let g : Visible = sight f vs in
    let x : Instance = c.args.i.now in
    let n : Notes = c.args.notes.now in
    let declared : c.declare_fields.new.scope ≡ vs ++ seen_fields x.params = c.in_ok-declare_fields.ensures ∙ ap (λ ps. vs ++ seen_fields ps) c.as_slice-2.ensures in
    let whole : c.walk_comp.new.notes ≡ noted (instance_measures f.instances g x) n =
    noted_two (in_fields g x.params) (in_instance f.instances g x) n c.note_fields.new.notes c.walk_comp.new.notes
    (c.note_fields.ensures vs ∙ ap (λ ps. noted (in_fields g ps) n) c.as_slice.ensures)
    (c.in_ok-walked.ensures.1 ∙ ap (λ s. noted (in_comp f.instances (sight f s) x.input x.body) c.note_fields.new.notes) declared) in
    let inner : c.in_ok-walked.walked.need ≡ comp_need f.instances (needs_in f) (sight f (vs ++ seen_fields x.params)) x.input x.body =
    ap (λ (w : Walked). w.need) c.in_ok-walked.ensures.0 ∙ ap (λ s. comp_need f.instances (needs_in f) (sight f s) x.input x.body) declared in
    let need = c.with_call-need.ensures ∙ ap (λ ps. with_call f.shapes ps c.in_ok-walked.walked.need) c.as_slice-3.ensures ∙ ap (with_call f.shapes x.params) inner in (
      (λ j. visiting ((c.take_calls-calls.ensures.calls ∙ ap (λ (m : Notes). m.calls) whole) j) (need j)),
      c.take_calls-calls.ensures.rest ∙ ap hushed whole,
      c.leave.ensures ∙ ap (take c.len-before.result) (c.in_ok-walked.ensures.2 ∙ declared)
          ∙ ap (λ k. take k (vs ++ seen_fields x.params)) c.len-before.ensures ∙ take_front vs (seen_fields x.params),
    )
