use Rattle.std.proofs.Common.{◌≡◌, ◌∙◌, ap, List, ◌++◌, take}
use Rattle.zir_tree.specs.declared.program.Function.{Function}
use Rattle.zir_types.specs.declared.scope.Seen.{Seen}
use Rattle.zir_types.specs.Scope.{Visible}
use Rattle.zir_types.specs.Known.{seen_fields}
use Rattle.zir_types.specs.Measures.{in_body}
use Rattle.zir_types.specs.Needs.{with_call}
use Rattle.zir_types.specs.Limits.{in_fields, in_result, in_function}
use Rattle.zir_limits.specs.declared.notes.Notes.{Notes}
use Rattle.zir_limits.specs.Facts.{CoreFacts, told, sight}
use Rattle.zir_limits.specs.Notes.{noted}
use Rattle.zir_limits.proofs.Noted.{noted_three}
use Rattle.zir_limits_walks.specs.Bodies.{function_measures}
use Rattle.zir_limits_walks.proofs.Steps.{take_front}
use Rattle.zir_limits_walks.proofs.Visiting.{visiting, hushed}
use Rattle.zir_limits_walks.proofs.bodies.visit_function.Goals as goal

pub returns : goal.returns
returns c =
    let f : CoreFacts = told c.args.facts.now in
    let vs : List Seen = c.args.scope.now in
    let g : Visible = sight f vs in
    let x : Function = c.args.f.now in
    let n : Notes = c.args.notes.now in
    let declared : c.declare_fields.new.scope ≡ vs ++ seen_fields x.params = c.in_ok-declare_fields.ensures ∙ ap (λ ps. vs ++ seen_fields ps) c.as_slice-2.ensures in
    let whole : c.note_body.new.notes ≡ noted (function_measures g x) n =
    noted_three (in_fields g x.params) (in_result g x.result) (in_function g x) n c.note_fields.new.notes c.note_result.new.notes c.note_body.new.notes
    (c.note_fields.ensures vs ∙ ap (λ ps. noted (in_fields g ps) n) c.as_slice.ensures) (c.note_result.ensures vs)
    (c.in_ok-note_body.ensures.noted ∙ ap (λ s. noted (in_body (sight f s) x.body) c.note_result.new.notes) declared) in
    let need = c.with_call-need.ensures ∙ ap (λ ps. with_call f.shapes ps c.body_need.result) c.as_slice-3.ensures ∙ ap (with_call f.shapes x.params) c.body_need.ensures in (
      (λ j. visiting ((c.take_calls-calls.ensures.calls ∙ ap (λ (m : Notes). m.calls) whole) j) (need j)),
      c.take_calls-calls.ensures.rest ∙ ap hushed whole,
      c.leave.ensures ∙ ap (take c.len-before.result) (c.in_ok-note_body.ensures.left ∙ declared)
          ∙ ap (λ k. take k (vs ++ seen_fields x.params)) c.len-before.ensures ∙ take_front vs (seen_fields x.params),
    )
