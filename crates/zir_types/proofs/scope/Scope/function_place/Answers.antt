use Rattle.std.proofs.Common.{◌≡◌, subst}
use Rattle.std.specs.Prelude.{None, MatchOption}
use Rattle.zir_types.specs.Scope.{function_from}
use Rattle.zir_types.specs.Numbered.{IsFunctionAt}
use Rattle.zir_types.proofs.Numbered.{function_by}
use Rattle.zir_types.proofs.scope.Scope.function_place.Goals as goal

pub returns : goal.returns
returns c =
    subst (λ g. MatchOption c.find.result (function_from 0 g.functions c.args.id ≡ None) (IsFunctionAt g.functions c.args.id)) c.self.view_is
    (function_by c.self.inside.functions.items c.self.inside.function_numbers c.args.id c.find.result c.self.invariant.of_functions c.find.ensures)
