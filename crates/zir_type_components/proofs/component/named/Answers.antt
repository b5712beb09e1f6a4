use Rattle.std.proofs.Common.{◌∙◌, ap, sym, [], ◌∷◌}
use Rattle.zir_types.specs.Walk.{Walk, Fine}
use Rattle.zir_types.specs.Scope.{Visible, declare, variable}
use Rattle.zir_type_components.specs.Blocks.{name_in}
use Rattle.zir_type_components.proofs.component.named.Goals as goal

pub returns-in-None : goal.returns-in-None
returns-in-None c = ap (λ v. name_in v c.args.scope.now c.args.x.now c.args.at) c.in-None.is

pub returns-in_ok-x-in-Some : goal.returns-in_ok-x-in-Some
returns-in_ok-x-in-Some c = (
  ap (λ v. name_in v c.args.scope.now c.args.x.now c.args.at) c.in-Some.is
      ∙ ap (λ g. let w : Walk Visible = Fine g in w) (sym (c.in_ok-declare-in-Some.ensures ∙ ap (λ t. declare (variable c.args.x.now.id t ∷ [])
      c.args.scope.now) c.in_ok-ty-in-Some.ensures)),
  c.in_ok-x-in-Some.ensures,
)
