use Rattle.std.proofs.Common.{List, [], Some, ap, subst, ◌∙◌}
use Rattle.zir_expr.specs.declared.steps.Step.{Step}
use Rattle.zir_tree.specs.declared.stmt.Var.{Var}
use Rattle.zir_compile.specs.declared.made.Written.{Written}
use Rattle.zir_compile.specs.Made.{written}
use Rattle.zir_compile.specs.Names.{scope_of}
use Rattle.zir_eval.specs.Opening.{initial_assignments}
use Rattle.zir_eval.specs.Initials.{Begun}
use Rattle.zir_eval.proofs.Beginning.{begun_written}
use Rattle.zir_eval.proofs.initials.initials_of.Goals as goal

pub returns-in-Ok : goal.returns-in-Ok
returns-in-Ok c =
    let g = scope_of c.args.names.now in
    let vs = c.as_slice.result.now in
    let begun : Begun g (initial_assignments vs) [] c.initials.new.steps.items c.in-Ok.peak =
    subst (λ (xs : List Step). Begun g (initial_assignments vs) xs c.initials.new.steps.items c.in-Ok.peak) c.new-steps.ensures.items c.in-Ok.ensures.1 in
    ap (λ (x : List Step). Some (let w : Written = record { steps = x; free = 0; peak = c.in-Ok.peak } in w)) c.from_vec.ensures
    ∙ begun_written g vs c.initials.new.steps.items c.in-Ok.peak c.in-Ok.ensures.0 begun
    ∙ ap (λ (vs : List Var). written g (initial_assignments vs) 0) c.as_slice.ensures
