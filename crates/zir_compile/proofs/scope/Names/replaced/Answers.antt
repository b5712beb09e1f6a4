use Rattle.std.proofs.Common.{◌∙◌, ◌<◌, ◌^◌, ap, arith, subst}
use Rattle.zir_code.specs.Peaks.{behind}
use Rattle.zir_compile.specs.Names.{scope_of}
use Rattle.zir_compile.proofs.Making.{makes_err}
use Rattle.zir_compile.proofs.Storing.{plain_fits, replaced}
use Rattle.zir_compile.proofs.scope.Names.replaced.Goals as goal

pub returns-in_err-path : goal.returns-in_err-path
returns-in_err-path c =
    λ no_index. makes_err _ _ _ _ _ c.from_residual-in_err-path.ensures.1 (c.in_err-path.ensures (let lt = c.in_ok-peak.ensures in omega arith) (omega arith))
    (λ whole. plain_fits (scope_of c.args.self.now) c.args.holder.now c.args.path.now c.args.d c.args.n _ no_index c.in_ok-ty.ensures whole)

pub returns : goal.returns
returns c =
    λ no_index. replaced (scope_of c.args.self.now) c.args.holder.now c.args.path.now c.args.d c.args.n c.args.from c.in_ok-to.to _ c.in_ok-peak.peak c.from-2.result c.args.steps.now.items c.along.new.steps.items
    c.moving.new.steps.items c.in_ok-path.path no_index c.in_ok-ty.ensures (subst (λ n. behind c.args.d n < 2 ^ 32) c.from.ensures c.in_ok-peak.ensures.0) (c.in_ok-peak.ensures.1 ∙ ap (behind c.args.d) c.from.ensures) (c.in_ok-path.ensures (let lt = c.in_ok-peak.ensures in omega arith) (omega arith))
    c.in_ok-to.ensures.0 (c.from-2.ensures ∙ c.number_of.ensures) c.in_ok-to.ensures.1 c.in_ok-moving.ensures
