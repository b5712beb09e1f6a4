use Rattle.std.proofs.Common.{ap, ◌∙◌}
use Rattle.zir_types.specs.Programs.{defs_of}
use Rattle.zir_type_expressions.proofs.Steps.{told_ok}
use Rattle.zir_type_prog.specs.Declarations.{declared_in}
use Rattle.zir_type_prog.proofs.Programs.{stream_refused, core_made}
use Rattle.zir_types.proofs.Told.{told_err}
use Rattle.zir_type_prog.proofs.program.finish.Goals as goal

pub returns-in_err-input : goal.returns-in_err-input
returns-in_err-input c = told_err _ _ _ _ c.from_residual.ensures.1 c.in_err-input.ensures

pub returns-in_err-main : goal.returns-in_err-main
returns-in_err-main c =
    told_ok _ _ _ _ c.in_ok-input.ensures (told_err _ _ _ _ c.from_residual-in_err-main.ensures.1 (rw c.new-instances.ensures at c.in_err-main.ensures))

pub returns-in_err-output : goal.returns-in_err-output
returns-in_err-output c =
    told_ok _ _ _ _ c.in_ok-input.ensures (told_ok _ _ _ _ (rw c.new-instances.ensures at c.in_ok-main.ensures.0)
    (told_err _ _ _ _ c.from_residual-in_err-output.ensures.1 (stream_refused _ _ _ _ c.in_ok-main.ensures.1 c.in_err-output.ensures)))

pub returns : goal.returns
returns c =
    core_made c.args.p.now (declared_in c.args.d) c.in_ok-input.input c.in_ok-output.output c.in_ok-main.main c.type_main.new.instances
    c.type_main.new.scope c.in_ok-structs.structs c.emits_only.result c.if-not-emits_only.false c.emits_only.ensures c.in_ok-main.ensures.1
    (c.in_ok-structs.ensures ∙ ap defs_of c.shapes.ensures) c.in_ok-input.ensures (rw c.new-instances.ensures at c.in_ok-main.ensures.0)
    c.in_ok-output.ensures
