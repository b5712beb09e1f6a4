use Rattle.std.proofs.Common.{◌∙◌}
use Rattle.zir_type_prog.proofs.Programs.{declared_more, declared_refused}
use Rattle.zir_type_prog.proofs.program.type_declarations.Goals as goal

pub loop-x-preserved : goal.loop-x-preserved
loop-x-preserved c =
    c.loop-x.invariant ∙ declared_more _ _ c.args.xs.now _ _ c.loop-x-test.true c.x-item.is c.in_ok-type_declaration.ensures

pub returns-in_err-type_declaration : goal.returns-in_err-type_declaration
returns-in_err-type_declaration c =
    declared_refused _ _ c.args.xs.now _ _ _ _ c.loop-x.invariant c.loop-x-test.true c.x-item.is c.from_residual.ensures.1 c.in_err-type_declaration.ensures
