use Rattle.std.proofs.Common.{◌+◌, ◌∙◌, ap, subst}
use Rattle.zir_compile.specs.Names.{scope_of}
use Rattle.zir_flatten.specs.Members.{Joins}
use Rattle.zir_flatten.proofs.Joining.{follows-Run}
use Rattle.zir_flatten.proofs.members.followed.Goals as goal

pub returns : goal.returns
returns c =
    λ st input k f begin.
    let j = subst (λ t. Joins c.args.row c.args.flow c.args.row.free t c.in_ok-end.end c.in_ok-made.made) c.in_ok-value.ensures c.in_ok-made.ensures in
    follows-Run st (scope_of c.args.names.now) input k c.args.row c.in_ok-made.made c.args.flow c.in_ok-end.end begin f j (c.in_ok-end.ensures.1 ∙ ap (λ n. c.args.row.free + n) (c.from.ensures ∙ c.in_ok-cells.ensures))
