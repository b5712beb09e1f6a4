use Rattle.std.proofs.Common.{◌∙◌, ap, sym}
use Rattle.zir_types.specs.Scope.{type_in}
use Rattle.zir_types.proofs.Numbered.{variable_none, variable_some}
use Rattle.zir_types.proofs.scope.Scope.variable.Goals as goal

pub returns-in-None : goal.returns-in-None
returns-in-None c =
    sym (variable_none c.self.inside.variables.items c.self.inside.variable_numbers c.args.id c.self.invariant.of_variables c.in-None.ensures)
    ∙ ap (λ g. type_in g.variables c.args.id) c.self.view_is

pub returns-in-None-at : goal.returns-in-None-at
returns-in-None-at c =
    variable_some c.self.inside.variables.items c.self.inside.variable_numbers c.args.id c.in-Some.place _ _ c.self.invariant.of_variables c.in-Some.ensures
    c.as_slice.ensures.value c.in-None-at.ensures
    ∙ ap (λ g. type_in g.variables c.args.id) c.self.view_is

pub returns-in-Some-at : goal.returns-in-Some-at
returns-in-Some-at c =
    variable_some c.self.inside.variables.items c.self.inside.variable_numbers c.args.id c.in-Some.place _ _ c.self.invariant.of_variables c.in-Some.ensures
    c.as_slice.ensures.value c.in-Some-at.ensures
    ∙ ap (λ g. type_in g.variables c.args.id) c.self.view_is
