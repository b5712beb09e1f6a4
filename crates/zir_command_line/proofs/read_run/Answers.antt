use Rattle.std.proofs.Common.{◌≡◌, ◌∷◌, ◌+◌, length, map, codes, string_bytes, true, Some, refl, sym, ap, ◌∙◌, subst, arith}
use Rattle.std.proofs.lemmas.List.{length-map}
use Rattle.zir_command_line.specs.Words.{IsRun}
use Rattle.zir_command_line.specs.Faults.{FirstFault}
use Rattle.zir_command_line.specs.Walk.{Stops, state_of, start, walk, finish}
use Rattle.zir_command_line.proofs.Commands.{run_found}
use Rattle.zir_command_line.proofs.Lists.{err_is, name_is, name_lacks}
use Rattle.zir_command_line.proofs.Faulty.{stop_fault, end_fault, run_walks}
use Rattle.zir_command_line.proofs.read_run.Goals as goal

pub returns-in_err-line-clause-err : goal.returns-in_err-line-clause-err
returns-in_err-line-clause-err c =
    let ws = map string_bytes c.args.behind.now in
    let place = c.in_err-line.field-0.0.word in
    let stops : Stops (start true) ws 1 place = subst (λ s. Stops s ws 1 place) c.start.ensures c.in_err-line.ensures.err in
    err_is c.from_residual.result c.in_err-line.field-0.0 (λ e. FirstFault (codes "run" ∷ ws) e.word) c.from_residual.ensures.1
    (stop_fault (codes "run") true run_walks ws place stops)

pub returns-in_err-program-clause-err : goal.returns-in_err-program-clause-err
returns-in_err-program-clause-err c =
    let ws = map string_bytes c.args.behind.now in
    let t = state_of c.in_ok-line.line in
    let walks : walk (start true) ws ≡ Some t = ap (λ s. walk s ws) (sym c.start.ensures) ∙ c.in_ok-line.ensures.ok in
    let lacks = name_lacks (λ name. name.now) c.end.result (finish t) _ c.in_err-program.field-0.0 c.in_err-program.ensures.value c.end.ensures in
    let place : length c.args.behind.now + 1 ≡ c.in_err-program.field-0.0.word = ap (λ e. e.word) lacks.1 in
    err_is c.from_residual-in_err-program.result c.in_err-program.field-0.0 (λ e. FirstFault (codes "run" ∷ ws) e.word) c.from_residual-in_err-program.ensures.1
    (end_fault (codes "run") true run_walks ws t _ walks lacks.0 (omega (arith, length-map c.args.behind.now string_bytes)))

pub returns-clause-ok : goal.returns-clause-ok
returns-clause-ok c =
    let ws = map string_bytes c.args.behind.now in
    let t = state_of c.in_ok-line.line in
    let walks : walk (start true) ws ≡ Some t = ap (λ s. walk s ws) (sym c.start.ensures) ∙ c.in_ok-line.ensures.ok in
    let is = name_is (λ name. name.now) c.end.result (finish t) _ c.in_ok-program.program c.in_ok-program.ensures.value c.end.ensures in
    (refl, subst (λ run. IsRun ws run) (sym c.run_job.ensures) (run_found ws t c.in_ok-program.program.now walks is))
