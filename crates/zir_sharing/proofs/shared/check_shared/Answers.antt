use Rattle.std.proofs.Common.{◌∙◌, ◌+◌, ◌++◌, ap, sym, subst, arith, drop}
use Rattle.std.specs.List.{flat_map}
use Rattle.zir_names.specs.Sharing.{joints, first_shared, throughout, or_then}
use Rattle.zir_sharing.specs.Blocks.{of_decl}
use Rattle.zir_sharing.specs.Answers.{Answers}
use Rattle.zir_sharing.proofs.Conflicts.{answers_err, shared_rest, throughout-list}
use Rattle.zir_sharing.proofs.shared.check_shared.Goals as goal

pub loop-d-init : goal.loop-d-init
loop-d-init c =
    ap (first_shared c.args.functions.now) (throughout-list joints c.as_slice-ds.result.now c.args.p.now.main)

pub returns-in_err-check_decl : goal.returns-in_err-check_decl
returns-in_err-check_decl c =
    subst (λ o. Answers o c.from_residual.result)
    (sym (ap (λ ds. first_shared c.args.functions.now (throughout joints ds c.args.p.now.main)) (sym c.as_slice-ds.ensures)
    ∙ c.loop-d.invariant ∙ shared_rest c.args.functions.now (of_decl joints) c.as_slice-ds.result.now (joints c.args.p.now.main) c.loop-d.d-index c.d-item.result (omega arith) c.d-item.is))
    (answers_err _ _ _ _ c.from_residual.ensures.1 c.in_err-check_decl.ensures)

pub loop-d-preserved : goal.loop-d-preserved
loop-d-preserved c =
    c.loop-d.invariant ∙ shared_rest c.args.functions.now (of_decl joints) c.as_slice-ds.result.now (joints c.args.p.now.main) c.loop-d.d-index c.d-item.result (omega arith) c.d-item.is
    ∙ ap (λ o. or_then o (first_shared c.args.functions.now (flat_map (of_decl joints) (drop (c.loop-d.d-index + 1) c.as_slice-ds.result.now) ++ joints c.args.p.now.main))) c.in_ok-check_decl.ensures
