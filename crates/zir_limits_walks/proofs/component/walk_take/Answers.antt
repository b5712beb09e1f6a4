use Rattle.std.proofs.Common.{ap, sym, refl}
use Rattle.std.specs.Prelude.{Some, None}
use Rattle.zir_limits.proofs.Noted.{noted-none}
use Rattle.zir_limits_walks.proofs.ComponentEquations.{found}
use Rattle.zir_limits_walks.proofs.component.walk_take.Goals as goal

pub returns : goal.returns
returns c = λ f vs n at. (ap (λ t. found None (Some t) 1) c.in_ok-ty.ensures, sym (noted-none n), refl)
