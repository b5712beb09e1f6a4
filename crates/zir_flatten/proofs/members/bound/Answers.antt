use Rattle.std.proofs.Common.{◌∙◌, ap, sym, Some, subst}
use Rattle.zir_code.specs.Statements.{with_local}
use Rattle.zir_compile.specs.Names.{scope_of}
use Rattle.zir_flatten.specs.Members.{Joins}
use Rattle.zir_flatten.proofs.Joining.{follows-Bind}
use Rattle.zir_flatten.proofs.members.bound.Goals as goal

pub returns-clause-code : goal.returns-clause-code
returns-clause-code c =
    λ st input x k same f begin.
    let g = scope_of c.args.names.now in
    let u = c.in_ok-ty.ty in
    let j = subst (λ t. Joins c.args.row c.args.flow c.in_ok-free.free (Some t) 0 c.in_ok-made.made) c.in_ok-value.ensures c.in_ok-made.ensures in
    follows-Bind st g (scope_of c.declare.new.names) input x k c.args.row c.in_ok-made.made c.args.flow u c.in_ok-free.free begin f j c.in_ok-ty.ensures c.in_ok-free.ensures.free
    (c.in_ok-free.ensures.scope ∙ ap (λ id. with_local g c.args.row.free id u) (sym same))
