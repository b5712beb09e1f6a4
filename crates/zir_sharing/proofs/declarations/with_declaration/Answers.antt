use Rattle.std.proofs.Common.{◌≡◌, ◌∙◌, ◌∷◌, [], ap, sym, subst}
use Rattle.std.specs.Prelude.{IfOk}
use Rattle.zir_names.specs.Touched.{Touched, both, in_body, in_comp, seen_outside, functions_from}
use Rattle.zir_sharing.proofs.Ascents.{both_none, ascends-body, ascends-comp}
use Rattle.zir_sharing.proofs.declarations.with_declaration.Goals as goal

pub returns-in_ok-touch_body-in-Function : goal.returns-in_ok-touch_body-in-Function
returns-in_ok-touch_body-in-Function c =
    subst (λ v. IfOk c.with.result (λ more. more ≡ v))
    (ap (λ (t : Touched). record { id = c.in-Function.f.name.id; touched = t } ∷ c.args.functions)
    (c.seen_outside.ensures ∙ ap (seen_outside c.args.top.now) (c.in_ok-touch_body-in-Function.ensures ∙ ap (both (in_body c.args.functions c.in-Function.f.body)) c.new-touched.ensures ∙ both_none (in_body c.args.functions c.in-Function.f.body) (ascends-body c.args.functions c.requires c.in-Function.f.body)))
    ∙ ap (λ d. functions_from c.args.top.now c.args.functions (d ∷ [])) (sym c.in-Function.is))
    c.with.ensures

pub returns-in_ok-touch_comp-in-Comp : goal.returns-in_ok-touch_comp-in-Comp
returns-in_ok-touch_comp-in-Comp c =
    subst (λ v. IfOk c.with-in-Comp.result (λ more. more ≡ v))
    (ap (λ (t : Touched). record { id = c.in-Comp.f.name.id; touched = t } ∷ c.args.functions)
    (c.seen_outside-in-Comp.ensures ∙ ap (seen_outside c.args.top.now) (c.in_ok-touch_comp-in-Comp.ensures ∙ ap (both (in_comp c.args.functions c.in-Comp.f.body)) c.new-touched-in-Comp.ensures ∙ both_none (in_comp c.args.functions c.in-Comp.f.body) (ascends-comp c.args.functions c.requires c.in-Comp.f.body)))
    ∙ ap (λ d. functions_from c.args.top.now c.args.functions (d ∷ [])) (sym c.in-Comp.is))
    c.with-in-Comp.ensures
