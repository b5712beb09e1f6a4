use Rattle.zir_compile.specs.Names.{scope_of}
use Rattle.zir_compile.proofs.Along.{along_init, here_access, along_on, along_end}
use Rattle.zir_compile.proofs.Making.{makes_err}
use Rattle.zir_compile.proofs.scope.Names.along.Goals as goal

pub loop-access-init : goal.loop-access-init
loop-access-init c = along_init (scope_of c.args.self.now) c.args.base c.args.path.now c.args.steps.now.items

pub loop-access-preserved : goal.loop-access-preserved
loop-access-preserved c =
    along_on (scope_of c.args.self.now) c.args.base c.args.path.now c.args.steps.now.items c.loop-access.access-index c.access-item.result c.loop-access.here c.in_ok-here.here c.loop-access.steps.items c.access.new.steps.items
    c.loop-access-test.true c.access-item.is c.loop-access.invariant c.in_ok-here.ensures.0 c.in_ok-here.ensures.1

pub returns-in_err-here : goal.returns-in_err-here
returns-in_err-here c =
    λ p q. makes_err _ _ _ _ _ c.from_residual.ensures.1 c.in_err-here.ensures
    (here_access (scope_of c.args.self.now) c.args.base c.args.path.now c.args.steps.now.items c.loop-access.access-index c.access-item.result c.loop-access.here c.loop-access.steps.items c.loop-access-test.true c.access-item.is
    c.loop-access.invariant)

pub returns : goal.returns
returns c =
    along_end (scope_of c.args.self.now) c.args.base c.args.path.now c.args.steps.now.items c.loop-access.access-index c.loop-access.here c.loop-access.steps.items c.loop-access-test.false c.loop-access.invariant
