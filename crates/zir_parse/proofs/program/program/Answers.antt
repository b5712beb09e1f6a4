use Rattle.std.proofs.Common.{max, ◌∙◌, arith}
use Rattle.std.proofs.lemmas.Result.{err_from_is_err_and}
use Rattle.zir_lex.specs.declared.token.Keyword.TheVariants as keyword
use Rattle.zir_grammar.specs.Wants.{a_word, the_main}
use Rattle.zir_grammar.specs.Parts.{wants, wants_word}
use Rattle.zir_grammar.proofs.Descent.{stop_leads, wanted, unwanted}
use Rattle.zir_parse.proofs.ProgramSteps.{ended, main_part, input_then, behind_read, behind_name, behind_let, let_room, main_room, main_fits, whole_fits}
use Rattle.zir_parse.proofs.program.program.Goals as goal

pub returns-in_err-declarations : goal.returns-in_err-declarations
returns-in_err-declarations c =
    let p = err_from_is_err_and c.from_residual.result c.from_residual.ensures.1 in
    rw (p.1, p.2) (c.in_err-declarations.ensures.read 64 (λ ds low. wants (a_word keyword.Let) (λ at. behind_let ds low at)) (let_room 64 (omega arith)))

pub returns-in_default : goal.returns-in_default
returns-in_default c =
    c.in_ok-declarations.ensures.read 64 (λ ds low. wants (a_word keyword.Let) (λ at. behind_let ds low at)) (let_room 64 (omega arith))
    ∙ unwanted 64 (a_word keyword.Let) (λ at. behind_let c.in_ok-declarations.declarations c.in_ok-declarations._low at) c.in_ok-declarations.rest.now c.in_default.ensures.found

pub returns-in_err-rest : goal.returns-in_err-rest
returns-in_err-rest c =
    let p = err_from_is_err_and c.from_residual-in_err-rest.result c.from_residual-in_err-rest.ensures.1 in
    rw (p.1, p.2) (stop_leads c.in_err-rest.field-0.0 _ _
    (c.in_ok-declarations.ensures.read 64 (λ ds low. wants (a_word keyword.Let) (λ at. behind_let ds low at)) (let_room 64 (omega arith))
    ∙ wanted 64 (a_word keyword.Let) (λ at. behind_let c.in_ok-declarations.declarations c.in_ok-declarations._low at) c.in_ok-declarations.rest.now c.in-Some.at c.in-Some.rest.now c.in-Some.ensures.found (main_fits 64 c.in_ok-declarations._low c.in_ok-declarations.ensures.high (omega arith)))
    (c.in_err-rest.ensures.read 64 (wants the_main (λ here. behind_name c.in_ok-declarations.declarations c.in_ok-declarations._low c.in-Some.at)) (main_fits 64 c.in_ok-declarations._low c.in_ok-declarations.ensures.high (omega arith))))

pub returns-in_err-rest-2 : goal.returns-in_err-rest-2
returns-in_err-rest-2 c =
    let p = err_from_is_err_and c.from_residual-in_err-rest-2.result c.from_residual-in_err-rest-2.ensures.1 in
    rw (p.1, p.2) (stop_leads c.in_err-rest-2.field-0.0 _ _
    (c.in_ok-declarations.ensures.read 64 (λ ds low. wants (a_word keyword.Let) (λ at. behind_let ds low at)) (let_room 64 (omega arith))
    ∙ wanted 64 (a_word keyword.Let) (λ at. behind_let c.in_ok-declarations.declarations c.in_ok-declarations._low at) c.in_ok-declarations.rest.now c.in-Some.at c.in-Some.rest.now c.in-Some.ensures.found (main_fits 64 c.in_ok-declarations._low c.in_ok-declarations.ensures.high (omega arith))
    ∙ c.in_ok-rest.ensures.read 64 (wants the_main (λ here. behind_name c.in_ok-declarations.declarations c.in_ok-declarations._low c.in-Some.at)) (main_fits 64 c.in_ok-declarations._low c.in_ok-declarations.ensures.high (omega arith)))
    (c.in_err-rest-2.ensures 64 (behind_name c.in_ok-declarations.declarations c.in_ok-declarations._low c.in-Some.at) (main_fits 64 c.in_ok-declarations._low c.in_ok-declarations.ensures.high (omega arith))))

pub returns-in_err-rest-3 : goal.returns-in_err-rest-3
returns-in_err-rest-3 c =
    let p = err_from_is_err_and c.from_residual-in_err-rest-3.result c.from_residual-in_err-rest-3.ensures.1 in
    rw (p.1, p.2) (stop_leads c.in_err-rest-3.field-0.0 _ _
    (c.in_ok-declarations.ensures.read 64 (λ ds low. wants (a_word keyword.Let) (λ at. behind_let ds low at)) (let_room 64 (omega arith))
    ∙ wanted 64 (a_word keyword.Let) (λ at. behind_let c.in_ok-declarations.declarations c.in_ok-declarations._low at) c.in_ok-declarations.rest.now c.in-Some.at c.in-Some.rest.now c.in-Some.ensures.found (main_fits 64 c.in_ok-declarations._low c.in_ok-declarations.ensures.high (omega arith))
    ∙ c.in_ok-rest.ensures.read 64 (wants the_main (λ here. behind_name c.in_ok-declarations.declarations c.in_ok-declarations._low c.in-Some.at)) (main_fits 64 c.in_ok-declarations._low c.in_ok-declarations.ensures.high (omega arith))
    ∙ c.in_ok-rest-2.ensures 64 (behind_name c.in_ok-declarations.declarations c.in_ok-declarations._low c.in-Some.at) (main_fits 64 c.in_ok-declarations._low c.in_ok-declarations.ensures.high (omega arith)))
    (c.in_err-rest-3.ensures.read 64 (wants_word keyword.Read (behind_read c.in_ok-declarations.declarations c.in_ok-declarations._low c.in-Some.at)) (main_fits 64 c.in_ok-declarations._low c.in_ok-declarations.ensures.high (omega arith))))

pub returns-in_err-rest-4 : goal.returns-in_err-rest-4
returns-in_err-rest-4 c =
    let p = err_from_is_err_and c.from_residual-in_err-rest-4.result c.from_residual-in_err-rest-4.ensures.1 in
    rw (p.1, p.2) (stop_leads c.in_err-rest-4.field-0.0 _ _
    (c.in_ok-declarations.ensures.read 64 (λ ds low. wants (a_word keyword.Let) (λ at. behind_let ds low at)) (let_room 64 (omega arith))
    ∙ wanted 64 (a_word keyword.Let) (λ at. behind_let c.in_ok-declarations.declarations c.in_ok-declarations._low at) c.in_ok-declarations.rest.now c.in-Some.at c.in-Some.rest.now c.in-Some.ensures.found (main_fits 64 c.in_ok-declarations._low c.in_ok-declarations.ensures.high (omega arith))
    ∙ c.in_ok-rest.ensures.read 64 (wants the_main (λ here. behind_name c.in_ok-declarations.declarations c.in_ok-declarations._low c.in-Some.at)) (main_fits 64 c.in_ok-declarations._low c.in_ok-declarations.ensures.high (omega arith))
    ∙ c.in_ok-rest-2.ensures 64 (behind_name c.in_ok-declarations.declarations c.in_ok-declarations._low c.in-Some.at) (main_fits 64 c.in_ok-declarations._low c.in_ok-declarations.ensures.high (omega arith))
    ∙ c.in_ok-rest-3.ensures.read 64 (wants_word keyword.Read (behind_read c.in_ok-declarations.declarations c.in_ok-declarations._low c.in-Some.at)) (main_fits 64 c.in_ok-declarations._low c.in_ok-declarations.ensures.high (omega arith)))
    (c.in_err-rest-4.ensures.read 64 (behind_read c.in_ok-declarations.declarations c.in_ok-declarations._low c.in-Some.at) (main_fits 64 c.in_ok-declarations._low c.in_ok-declarations.ensures.high (omega arith))))

pub returns-in_err-input : goal.returns-in_err-input
returns-in_err-input c =
    let p = err_from_is_err_and c.from_residual-in_err-input.result c.from_residual-in_err-input.ensures.1 in
    rw (p.1, p.2) (stop_leads c.in_err-input.field-0.0 _ _
    (c.in_ok-declarations.ensures.read 64 (λ ds low. wants (a_word keyword.Let) (λ at. behind_let ds low at)) (let_room 64 (omega arith))
    ∙ wanted 64 (a_word keyword.Let) (λ at. behind_let c.in_ok-declarations.declarations c.in_ok-declarations._low at) c.in_ok-declarations.rest.now c.in-Some.at c.in-Some.rest.now c.in-Some.ensures.found (main_fits 64 c.in_ok-declarations._low c.in_ok-declarations.ensures.high (omega arith))
    ∙ c.in_ok-rest.ensures.read 64 (wants the_main (λ here. behind_name c.in_ok-declarations.declarations c.in_ok-declarations._low c.in-Some.at)) (main_fits 64 c.in_ok-declarations._low c.in_ok-declarations.ensures.high (omega arith))
    ∙ c.in_ok-rest-2.ensures 64 (behind_name c.in_ok-declarations.declarations c.in_ok-declarations._low c.in-Some.at) (main_fits 64 c.in_ok-declarations._low c.in_ok-declarations.ensures.high (omega arith))
    ∙ c.in_ok-rest-3.ensures.read 64 (wants_word keyword.Read (behind_read c.in_ok-declarations.declarations c.in_ok-declarations._low c.in-Some.at)) (main_fits 64 c.in_ok-declarations._low c.in_ok-declarations.ensures.high (omega arith))
    ∙ c.in_ok-rest-4.ensures.read 64 (behind_read c.in_ok-declarations.declarations c.in_ok-declarations._low c.in-Some.at) (main_fits 64 c.in_ok-declarations._low c.in_ok-declarations.ensures.high (omega arith)))
    (c.in_err-input.ensures 64 (input_then c.in_ok-declarations.declarations c.in_ok-declarations._low c.in-Some.at) (λ t. main_fits 64 c.in_ok-declarations._low c.in_ok-declarations.ensures.high (omega arith))))

pub returns-in_err-rest-5 : goal.returns-in_err-rest-5
returns-in_err-rest-5 c =
    let p = err_from_is_err_and c.from_residual-in_err-rest-5.result c.from_residual-in_err-rest-5.ensures.1 in
    rw (p.1, p.2) (stop_leads c.in_err-rest-5.field-0.0 _ _
    (c.in_ok-declarations.ensures.read 64 (λ ds low. wants (a_word keyword.Let) (λ at. behind_let ds low at)) (let_room 64 (omega arith))
    ∙ wanted 64 (a_word keyword.Let) (λ at. behind_let c.in_ok-declarations.declarations c.in_ok-declarations._low at) c.in_ok-declarations.rest.now c.in-Some.at c.in-Some.rest.now c.in-Some.ensures.found (main_fits 64 c.in_ok-declarations._low c.in_ok-declarations.ensures.high (omega arith))
    ∙ c.in_ok-rest.ensures.read 64 (wants the_main (λ here. behind_name c.in_ok-declarations.declarations c.in_ok-declarations._low c.in-Some.at)) (main_fits 64 c.in_ok-declarations._low c.in_ok-declarations.ensures.high (omega arith))
    ∙ c.in_ok-rest-2.ensures 64 (behind_name c.in_ok-declarations.declarations c.in_ok-declarations._low c.in-Some.at) (main_fits 64 c.in_ok-declarations._low c.in_ok-declarations.ensures.high (omega arith))
    ∙ c.in_ok-rest-3.ensures.read 64 (wants_word keyword.Read (behind_read c.in_ok-declarations.declarations c.in_ok-declarations._low c.in-Some.at)) (main_fits 64 c.in_ok-declarations._low c.in_ok-declarations.ensures.high (omega arith))
    ∙ c.in_ok-rest-4.ensures.read 64 (behind_read c.in_ok-declarations.declarations c.in_ok-declarations._low c.in-Some.at) (main_fits 64 c.in_ok-declarations._low c.in_ok-declarations.ensures.high (omega arith))
    ∙ c.in_ok-input.ensures 64 (input_then c.in_ok-declarations.declarations c.in_ok-declarations._low c.in-Some.at) (λ t. main_fits 64 c.in_ok-declarations._low c.in_ok-declarations.ensures.high (omega arith)))
    (c.in_err-rest-5.ensures.read 64 (main_part c.in_ok-declarations.declarations c.in_ok-declarations._low c.in-Some.at c.in_ok-input.input) (main_fits 64 c.in_ok-declarations._low c.in_ok-declarations.ensures.high (omega arith))))

pub returns-in_err-main : goal.returns-in_err-main
returns-in_err-main c =
    let p = err_from_is_err_and c.from_residual-in_err-main.result c.from_residual-in_err-main.ensures.1 in
    rw (p.1, p.2) (stop_leads c.in_err-main.field-0.0 _ _
    (c.in_ok-declarations.ensures.read 64 (λ ds low. wants (a_word keyword.Let) (λ at. behind_let ds low at)) (let_room 64 (omega arith))
    ∙ wanted 64 (a_word keyword.Let) (λ at. behind_let c.in_ok-declarations.declarations c.in_ok-declarations._low at) c.in_ok-declarations.rest.now c.in-Some.at c.in-Some.rest.now c.in-Some.ensures.found (main_fits 64 c.in_ok-declarations._low c.in_ok-declarations.ensures.high (omega arith))
    ∙ c.in_ok-rest.ensures.read 64 (wants the_main (λ here. behind_name c.in_ok-declarations.declarations c.in_ok-declarations._low c.in-Some.at)) (main_fits 64 c.in_ok-declarations._low c.in_ok-declarations.ensures.high (omega arith))
    ∙ c.in_ok-rest-2.ensures 64 (behind_name c.in_ok-declarations.declarations c.in_ok-declarations._low c.in-Some.at) (main_fits 64 c.in_ok-declarations._low c.in_ok-declarations.ensures.high (omega arith))
    ∙ c.in_ok-rest-3.ensures.read 64 (wants_word keyword.Read (behind_read c.in_ok-declarations.declarations c.in_ok-declarations._low c.in-Some.at)) (main_fits 64 c.in_ok-declarations._low c.in_ok-declarations.ensures.high (omega arith))
    ∙ c.in_ok-rest-4.ensures.read 64 (behind_read c.in_ok-declarations.declarations c.in_ok-declarations._low c.in-Some.at) (main_fits 64 c.in_ok-declarations._low c.in_ok-declarations.ensures.high (omega arith))
    ∙ c.in_ok-input.ensures 64 (input_then c.in_ok-declarations.declarations c.in_ok-declarations._low c.in-Some.at) (λ t. main_fits 64 c.in_ok-declarations._low c.in_ok-declarations.ensures.high (omega arith))
    ∙ c.in_ok-rest-5.ensures.read 64 (main_part c.in_ok-declarations.declarations c.in_ok-declarations._low c.in-Some.at c.in_ok-input.input) (main_fits 64 c.in_ok-declarations._low c.in_ok-declarations.ensures.high (omega arith)))
    (c.in_err-main.ensures.read 64 (ended c.in_ok-declarations.declarations c.in_ok-declarations._low c.in-Some.at c.in_ok-input.input) (main_room 64 c.in_ok-declarations.declarations c.in_ok-declarations._low c.in-Some.at c.in_ok-input.input c.in_ok-declarations.ensures.high)))

pub returns-in-Err : goal.returns-in-Err
returns-in-Err c =
    stop_leads c.in-Err.stop _ _
    (c.in_ok-declarations.ensures.read 64 (λ ds low. wants (a_word keyword.Let) (λ at. behind_let ds low at)) (let_room 64 (omega arith))
    ∙ wanted 64 (a_word keyword.Let) (λ at. behind_let c.in_ok-declarations.declarations c.in_ok-declarations._low at) c.in_ok-declarations.rest.now c.in-Some.at c.in-Some.rest.now c.in-Some.ensures.found (main_fits 64 c.in_ok-declarations._low c.in_ok-declarations.ensures.high (omega arith))
    ∙ c.in_ok-rest.ensures.read 64 (wants the_main (λ here. behind_name c.in_ok-declarations.declarations c.in_ok-declarations._low c.in-Some.at)) (main_fits 64 c.in_ok-declarations._low c.in_ok-declarations.ensures.high (omega arith))
    ∙ c.in_ok-rest-2.ensures 64 (behind_name c.in_ok-declarations.declarations c.in_ok-declarations._low c.in-Some.at) (main_fits 64 c.in_ok-declarations._low c.in_ok-declarations.ensures.high (omega arith))
    ∙ c.in_ok-rest-3.ensures.read 64 (wants_word keyword.Read (behind_read c.in_ok-declarations.declarations c.in_ok-declarations._low c.in-Some.at)) (main_fits 64 c.in_ok-declarations._low c.in_ok-declarations.ensures.high (omega arith))
    ∙ c.in_ok-rest-4.ensures.read 64 (behind_read c.in_ok-declarations.declarations c.in_ok-declarations._low c.in-Some.at) (main_fits 64 c.in_ok-declarations._low c.in_ok-declarations.ensures.high (omega arith))
    ∙ c.in_ok-input.ensures 64 (input_then c.in_ok-declarations.declarations c.in_ok-declarations._low c.in-Some.at) (λ t. main_fits 64 c.in_ok-declarations._low c.in_ok-declarations.ensures.high (omega arith))
    ∙ c.in_ok-rest-5.ensures.read 64 (main_part c.in_ok-declarations.declarations c.in_ok-declarations._low c.in-Some.at c.in_ok-input.input) (main_fits 64 c.in_ok-declarations._low c.in_ok-declarations.ensures.high (omega arith))
    ∙ c.in_ok-main.ensures.read 64 (ended c.in_ok-declarations.declarations c.in_ok-declarations._low c.in-Some.at c.in_ok-input.input) (main_room 64 c.in_ok-declarations.declarations c.in_ok-declarations._low c.in-Some.at c.in_ok-input.input c.in_ok-declarations.ensures.high))
    (c.in-Err.ensures 64 (λ t. record { declarations = c.in_ok-declarations.declarations; input = c.in_ok-input.input; main = c.in_ok-main.main; output = t; at = c.in-Some.at }) (max c.in_ok-declarations._low c.in_ok-main._height) (whole_fits 64 c.in_ok-declarations._low c.in_ok-main._height c.in_ok-declarations.ensures.high c.in_ok-main.ensures.high))

pub returns-in-Ok : goal.returns-in-Ok
returns-in-Ok c =
    c.in_ok-declarations.ensures.read 64 (λ ds low. wants (a_word keyword.Let) (λ at. behind_let ds low at)) (let_room 64 (omega arith))
    ∙ wanted 64 (a_word keyword.Let) (λ at. behind_let c.in_ok-declarations.declarations c.in_ok-declarations._low at) c.in_ok-declarations.rest.now c.in-Some.at c.in-Some.rest.now c.in-Some.ensures.found (main_fits 64 c.in_ok-declarations._low c.in_ok-declarations.ensures.high (omega arith))
    ∙ c.in_ok-rest.ensures.read 64 (wants the_main (λ here. behind_name c.in_ok-declarations.declarations c.in_ok-declarations._low c.in-Some.at)) (main_fits 64 c.in_ok-declarations._low c.in_ok-declarations.ensures.high (omega arith))
    ∙ c.in_ok-rest-2.ensures 64 (behind_name c.in_ok-declarations.declarations c.in_ok-declarations._low c.in-Some.at) (main_fits 64 c.in_ok-declarations._low c.in_ok-declarations.ensures.high (omega arith))
    ∙ c.in_ok-rest-3.ensures.read 64 (wants_word keyword.Read (behind_read c.in_ok-declarations.declarations c.in_ok-declarations._low c.in-Some.at)) (main_fits 64 c.in_ok-declarations._low c.in_ok-declarations.ensures.high (omega arith))
    ∙ c.in_ok-rest-4.ensures.read 64 (behind_read c.in_ok-declarations.declarations c.in_ok-declarations._low c.in-Some.at) (main_fits 64 c.in_ok-declarations._low c.in_ok-declarations.ensures.high (omega arith))
    ∙ c.in_ok-input.ensures 64 (input_then c.in_ok-declarations.declarations c.in_ok-declarations._low c.in-Some.at) (λ t. main_fits 64 c.in_ok-declarations._low c.in_ok-declarations.ensures.high (omega arith))
    ∙ c.in_ok-rest-5.ensures.read 64 (main_part c.in_ok-declarations.declarations c.in_ok-declarations._low c.in-Some.at c.in_ok-input.input) (main_fits 64 c.in_ok-declarations._low c.in_ok-declarations.ensures.high (omega arith))
    ∙ c.in_ok-main.ensures.read 64 (ended c.in_ok-declarations.declarations c.in_ok-declarations._low c.in-Some.at c.in_ok-input.input) (main_room 64 c.in_ok-declarations.declarations c.in_ok-declarations._low c.in-Some.at c.in_ok-input.input c.in_ok-declarations.ensures.high)
    ∙ c.in-Ok.ensures 64 (λ t. record { declarations = c.in_ok-declarations.declarations; input = c.in_ok-input.input; main = c.in_ok-main.main; output = t; at = c.in-Some.at }) (max c.in_ok-declarations._low c.in_ok-main._height) (whole_fits 64 c.in_ok-declarations._low c.in_ok-main._height c.in_ok-declarations.ensures.high c.in_ok-main.ensures.high)
