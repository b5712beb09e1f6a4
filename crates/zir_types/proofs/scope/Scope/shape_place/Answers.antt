use Rattle.std.proofs.Common.{◌≡◌, subst}
use Rattle.std.specs.Prelude.{None, MatchOption}
use Rattle.zir_types.specs.Scope.{shape_from}
use Rattle.zir_types.specs.Numbered.{IsShapeAt}
use Rattle.zir_types.proofs.Numbered.{shape_by}
use Rattle.zir_types.proofs.scope.Scope.shape_place.Goals as goal

pub returns : goal.returns
returns c =
    subst (λ g. MatchOption c.find.result (shape_from 0 g.shapes c.args.id ≡ None) (IsShapeAt g.shapes c.args.id)) c.self.view_is
    (shape_by c.self.inside.shapes.items c.self.inside.shape_numbers c.args.id c.find.result c.self.invariant.of_shapes c.find.ensures)
