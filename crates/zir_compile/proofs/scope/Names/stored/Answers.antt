use Rattle.std.proofs.Common.{◌∙◌, arith}
use Rattle.zir_compile.specs.Names.{scope_of}
use Rattle.zir_compile.proofs.Along.{offset_least}
use Rattle.zir_compile.proofs.Making.{makes_err}
use Rattle.zir_compile.proofs.Storing.{stored}
use Rattle.zir_compile.proofs.scope.Names.stored.Goals as goal

pub returns-in_err-base : goal.returns-in_err-base
returns-in_err-base c =
    makes_err _ _ _ _ _ c.from_residual-in_err-base.ensures.1 c.in_err-base.ensures
    (λ whole. let least = offset_least (scope_of c.args.self.now) c.args.holder.now.ty c.args.o c.args.path.now in let cells = whole.cells in omega arith)

pub returns : goal.returns
returns c =
    stored (scope_of c.args.self.now) c.args.holder.now c.args.path.now c.args.o c.args.n c.args.from c.in_ok-to.to _ c.from.result c.args.steps.now.items c.starting.new.steps.items c.along.new.steps.items
    c.push.new.self.items c.in_ok-base.base c.in_ok-path.path c.in_ok-ty.ensures c.in_ok-base.ensures.0 c.in_ok-base.ensures.1 c.in_ok-path.ensures c.in_ok-to.ensures.0 (c.from.ensures ∙ c.number_of.ensures) c.in_ok-to.ensures.1 c.in_ok-push.ensures.items
