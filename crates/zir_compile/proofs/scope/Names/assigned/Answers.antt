use Rattle.std.proofs.Common.{◌≡◌, ◌-◌, arith, subst}
use Rattle.zir_code.specs.Types.{size_in}
use Rattle.zir_code.specs.Scopes.{variable}
use Rattle.zir_compile.specs.Names.{scope_of}
use Rattle.zir_compile.specs.Stated.{StoreFits}
use Rattle.zir_compile.proofs.Making.{makes_err}
use Rattle.zir_compile.proofs.Storing.{assign_fits, assigned}
use Rattle.zir_compile.proofs.scope.Names.assigned.Goals as goal

pub returns-in_err-n : goal.returns-in_err-n
returns-in_err-n c =
    makes_err _ _ _ _ _ c.from_residual-in_err-n.ensures.1 c.in_err-n.ensures
    (λ whole. let lt = (assign_fits (scope_of c.args.self.now) c.args.name.now c.args.path.now c.args.e.now c.args.d whole).2 in let size = c.in_ok-x.ensures.1.cells in omega arith)

pub returns-in_err-peak : goal.returns-in_err-peak
returns-in_err-peak c =
    makes_err _ _ _ _ _ c.from_residual-in_err-peak.ensures.1 c.in_err-peak.ensures
    (λ whole. let size = c.in_ok-x.ensures.1.cells in let end = c.in_ok-n.ensures in
    let same : size_in (scope_of c.args.self.now) c.args.e.now ≡ c.in_ok-n.field-0 - c.args.d = omega arith in
    subst (λ n. StoreFits (scope_of c.args.self.now) (variable (scope_of c.args.self.now) c.args.name.now.id) c.args.path.now c.args.d n) same (assign_fits (scope_of c.args.self.now) c.args.name.now c.args.path.now c.args.e.now c.args.d whole).1)

pub returns : goal.returns
returns c =
    assigned (scope_of c.args.self.now) c.args.name.now c.args.path.now c.args.e.now c.args.d _ c.in_ok-peak.peak c.max.result c.in_ok-from.from c.args.steps.now.items c.expression.new.steps.items c.keeping.new.steps.items
    c.storing_at.new.steps.items c.in_ok-x.x c.in_ok-x.ensures.0 c.in_ok-x.ensures.1 c.in_ok-n.ensures.0 (let end = c.in_ok-n.ensures in omega arith) c.in_ok-from.ensures.spot c.in_ok-from.ensures.code c.in_ok-peak.ensures.0 c.in_ok-peak.ensures.1
    c.max.ensures
