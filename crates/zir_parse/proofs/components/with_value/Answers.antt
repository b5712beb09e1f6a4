use Rattle.std.proofs.Common.{◌≡◌, ◌+◌, suc, arith}
use Rattle.std.proofs.lemmas.Result.{err_from_is_err_and}
use Rattle.zir_parse.specs.Heads.{giving_of}
use Rattle.zir_parse.proofs.Steps.{inside}
use Rattle.zir_parse.proofs.components.with_value.Goals as goal

pub returns-in_err-value-clause-read : goal.returns-in_err-value-clause-read
returns-in_err-value-clause-read c most k has =
    let p = err_from_is_err_and c.from_residual.result c.from_residual.ensures.1 in
    rw (p.1, p.2) (c.in_err-value.ensures.read most (λ e h. k (giving_of c.args.giving e c.args.at) (suc h))
    (inside most 1 c.args.room 1 k (λ e. giving_of c.args.giving e c.args.at) has (omega (arith, c.requires)) (omega arith)))

pub returns-clause-read : goal.returns-clause-read
returns-clause-read c most k has =
    let up : c.in_ok-value.height + 1 ≡ suc c.in_ok-value.height = omega arith in
    rw (c.giving_of.ensures, up) (c.in_ok-value.ensures.read most (λ e h. k (giving_of c.args.giving e c.args.at) (suc h))
    (inside most 1 c.args.room 1 k (λ e. giving_of c.args.giving e c.args.at) has (omega (arith, c.requires)) (omega arith)))
