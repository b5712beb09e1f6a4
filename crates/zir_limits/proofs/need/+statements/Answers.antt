use Rattle.std.proofs.Common.{◌≡◌, ◌∙◌, ap, sym, ◌+◌, List}
use Rattle.std.specs.Prelude.{None}
use Rattle.zir_types.specs.declared.scope.Shape.{Shape}
use Rattle.zir_types.specs.Needs.{Needs, stmt_need, list_sums, sums_need, counted}
use Rattle.zir_limits.specs.Facts.{told, needs_in}
use Rattle.zir_limits.proofs.StatementEquations.{need-If, need-IfElse, need-While, need-For}
use Rattle.zir_limits.proofs.Rows.{of_greater}
use Rattle.zir_limits.proofs.need.+statements.Goals as goal

pub stmt_need-returns-in-If : goal.stmt_need-returns-in-If
stmt_need-returns-in-If t c =
    let n : Needs = needs_in (told c.args.facts.now) in
    let ss : List Shape = (told c.args.facts.now).shapes in
    of_greater c.greater-in-If.ensures c.expr_need-in-If.ensures (c.block_need-body.ensures ∙ ap (λ us. sums_need (list_sums ss n us None)) c.as_slice-in-If.ensures)
    ∙ sym (need-If ss n c.in-If.e c.in-If.ss c.in-If.field-2) ∙ ap (stmt_need ss n) (sym c.in-If.is)

pub stmt_need-returns-in-IfElse : goal.stmt_need-returns-in-IfElse
stmt_need-returns-in-IfElse t c =
    let n : Needs = needs_in (told c.args.facts.now) in
    let ss : List Shape = (told c.args.facts.now).shapes in
    of_greater c.greater-in-IfElse-2.ensures c.expr_need-in-IfElse.ensures
    (of_greater c.greater-in-IfElse.ensures (c.block_need-body-in-IfElse.ensures ∙ ap (λ us. sums_need (list_sums ss n us None)) c.as_slice-in-IfElse.ensures)
    (c.block_need-other.ensures ∙ ap (λ us. sums_need (list_sums ss n us None)) c.as_slice-in-IfElse-2.ensures))
    ∙ sym (need-IfElse ss n c.in-IfElse.e c.in-IfElse.ss c.in-IfElse.us c.in-IfElse.field-3) ∙ ap (stmt_need ss n) (sym c.in-IfElse.is)

pub stmt_need-returns-in-While : goal.stmt_need-returns-in-While
stmt_need-returns-in-While t c =
    let n : Needs = needs_in (told c.args.facts.now) in
    let ss : List Shape = (told c.args.facts.now).shapes in
    of_greater c.greater-in-While.ensures c.expr_need-in-While.ensures (c.block_need-body-in-While.ensures ∙ ap (λ us. sums_need (list_sums ss n us None)) c.as_slice-in-While.ensures)
    ∙ sym (need-While ss n c.in-While.e c.in-While.ss c.in-While.field-2) ∙ ap (stmt_need ss n) (sym c.in-While.is)

pub stmt_need-returns-in-For : goal.stmt_need-returns-in-For
stmt_need-returns-in-For t c =
    let n : Needs = needs_in (told c.args.facts.now) in
    let ss : List Shape = (told c.args.facts.now).shapes in
    c.counted-in-For.ensures ∙ ap (λ x. counted (1 + x)) (of_greater c.greater-in-For.ensures c.expr_need-in-For-2.ensures
    (of_greater c.greater-turns.ensures c.expr_need-in-For.ensures (c.block_need-body-in-For.ensures ∙ ap (λ us. sums_need (list_sums ss n us None)) c.as_slice-in-For.ensures)))
    ∙ sym (need-For ss n c.in-For.field-0 c.in-For.a c.in-For.n c.in-For.ss c.in-For.field-4) ∙ ap (stmt_need ss n) (sym c.in-For.is)
