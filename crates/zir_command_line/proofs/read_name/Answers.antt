use Rattle.std.proofs.Common.{◌≡◌, [], ◌∷◌, ℕ, List, map, string_bytes, false, Some, sym, ap, ◌∙◌, subst, arith}
use Rattle.std.proofs.lemmas.List.{length-map}
use Rattle.zir_command_line.specs.Faults.{FirstFault}
use Rattle.zir_command_line.specs.Walk.{Stops, TakesName, state_of, start, walk, finish}
use Rattle.zir_command_line.specs.Words.{IsLine}
use Rattle.zir_command_line.proofs.Commands.{name_found}
use Rattle.zir_command_line.proofs.Lists.{err_is, if_name, if_no_name}
use Rattle.zir_command_line.proofs.Faulty.{stop_fault, end_fault, name_walks}
use Rattle.zir_command_line.proofs.read_name.Goals as goal

pub returns-in_err-line-clause-err : goal.returns-in_err-line-clause-err
returns-in_err-line-clause-err c =
    let ws = map string_bytes c.args.behind.now in
    let place = c.in_err-line.field-0.0.word in
    let stops : Stops (start false) ws 1 place = subst (λ s. Stops s ws 1 place) c.start.ensures c.in_err-line.ensures.err in
    err_is c.from_residual.result c.in_err-line.field-0.0 (λ e. (command : List ℕ) → TakesName command → FirstFault (command ∷ ws) e.word) c.from_residual.ensures.1
    (λ command is. stop_fault command false (name_walks command is) ws place stops)

pub returns-clause-ok : goal.returns-clause-ok
returns-clause-ok c =
    let ws = map string_bytes c.args.behind.now in
    let t = state_of c.in_ok-line.line in
    let walks : walk (start false) ws ≡ Some t = ap (λ s. walk s ws) (sym c.start.ensures) ∙ c.in_ok-line.ensures.ok in
    if_name (λ name. name.now) c.end.result (finish t) _ c.ok_or.result (λ name. IsLine ws [] (name ∷ [])) c.ok_or.ensures.value c.end.ensures
    (λ name e. name_found ws t name walks e)

pub returns-clause-err : goal.returns-clause-err
returns-clause-err c =
    let ws = map string_bytes c.args.behind.now in
    let t = state_of c.in_ok-line.line in
    let walks : walk (start false) ws ≡ Some t = ap (λ s. walk s ws) (sym c.start.ensures) ∙ c.in_ok-line.ensures.ok in
    if_no_name (λ name. name.now) c.end.result (finish t) _ c.ok_or.result (λ e. (command : List ℕ) → TakesName command → FirstFault (command ∷ ws) e.word) c.ok_or.ensures.value c.end.ensures
    (λ none command is. end_fault command false (name_walks command is) ws t _ walks none (omega (arith, length-map c.args.behind.now string_bytes)))
