use Rattle.zir_types.specs.Components.{return_of}
use Rattle.zir_type_components.proofs.Parts.{leaf_refused, leaf_typed}
use Rattle.zir_type_components.proofs.component.type_return.Goals as goal

pub returns-in_err-t : goal.returns-in_err-t
returns-in_err-t c = λ is. leaf_refused c.args.scope.now _ c.args.e.now (return_of c.args.at is) _ _ is c.unasked.ensures c.from_residual.ensures.1
    c.in_err-t.ensures

pub returns : goal.returns
returns c = λ is. leaf_typed c.args.scope.now _ c.args.e.now (return_of c.args.at is) _ _ is c.unasked.ensures c.in_ok-t.ensures (c.returned.ensures is)
