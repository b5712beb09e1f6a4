use Rattle.std.proofs.Common.{refl}
use Rattle.zir_type_components.specs.Blocks.{gathered_at}
use Rattle.zir_type_components.proofs.Forms.{reached_at, run_fine}
use Rattle.zir_type_components.proofs.Scopes.{up_to-all}
use Rattle.zir_type_components.proofs.component.ran.Goals as goal

pub returns-then-stands : goal.returns-then-stands
returns-then-stands c = λ g js is. (
  run_fine g c.args.last c.may_stand-stands.result c.args.at (gathered_at c.args.before js) _ (reached_at c.args.r is) c.may_stand-stands.ensures
      c.if-stands.true (c.in_ok-made.ensures (reached_at c.args.r is) refl refl js),
  up_to-all g,
)
