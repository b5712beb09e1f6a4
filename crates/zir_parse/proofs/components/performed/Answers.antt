use Rattle.std.proofs.Common.{◌≡◌, ◌+◌, suc, arith}
use Rattle.std.proofs.lemmas.Result.{err_from_is_err_and}
use Rattle.zir_tree.specs.declared.comp.Comp as comp
use Rattle.zir_parse.proofs.Steps.{inside}
use Rattle.zir_parse.proofs.components.performed.Goals as goal

pub returns-in_err-body-clause-read : goal.returns-in_err-body-clause-read
returns-in_err-body-clause-read c most k has =
    let p = err_from_is_err_and c.from_residual.result c.from_residual.ensures.1 in
    rw (p.1, p.2) (c.in_err-body.ensures.read most (λ b h. k (comp.Do b c.args.at) (suc h))
    (inside most 1 c.args.room 1 k (λ b. comp.Do b c.args.at) has (omega (arith, c.requires)) (omega arith)))

pub returns-clause-read : goal.returns-clause-read
returns-clause-read c most k has =
    let up : c.in_ok-body.height + 1 ≡ suc c.in_ok-body.height = omega arith in
    rw up (c.in_ok-body.ensures.read most (λ b h. k (comp.Do b c.args.at) (suc h))
    (inside most 1 c.args.room 1 k (λ b. comp.Do b c.args.at) has (omega (arith, c.requires)) (omega arith)))
