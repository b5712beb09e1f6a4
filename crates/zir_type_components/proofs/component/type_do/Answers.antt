use Rattle.zir_types.specs.Statements.{do_body}
use Rattle.zir_types.specs.Components.{do_of}
use Rattle.zir_type_components.proofs.Reaching.{reach_err, in_scope}
use Rattle.zir_type_components.proofs.Parts.{reach_ok}
use Rattle.zir_type_components.proofs.component.type_do.Goals as goal

pub returns-in_err-body : goal.returns-in_err-body
returns-in_err-body c = λ is. reach_err (do_body c.args.scope.now c.args.body.now) (do_of c.args.at is) _ _ is _ _ c.from_residual.ensures.1
    c.in_err-body.ensures.told

pub returns : goal.returns
returns c = λ is. reach_ok (do_body c.args.scope.now c.args.body.now) (do_of c.args.at is) c.in_ok-body.body _ is _ _ c.in_ok-body.ensures.told
    (in_scope (do_of c.args.at is c.in_ok-body.body) _ is _ _ (c.done.ensures is) c.in_ok-body.ensures.seen)
