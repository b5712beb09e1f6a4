use Rattle.std.proofs.Common.{arith, refl, ap, [], ◌∷◌, append_assoc}
use Rattle.std.specs.Prelude.{map}
use Rattle.zir_lex.specs.declared.token.Keyword.TheVariants as keyword
use Rattle.zir_lex.specs.declared.token.Symbol.TheVariants as symbol
use Rattle.zir_print.specs.Marks.{mark, link_word}
use Rattle.zir_print.specs.Types.{ident_word}
use Rattle.zir_print.specs.Expressions.{expr_words}
use Rattle.zir_print.specs.Statements.{stmt_words, path_words, list_words}
use Rattle.zir_print.specs.Text.{spaced}
use Rattle.zir_print.proofs.StmtLaw.{words_if, words_if_else, words_while, words_for}
use Rattle.zir_show.proofs.Adding.{◌▸◌, last, left_all, joined_more, joined_end}
use Rattle.zir_show.proofs.Places.{five}
use Rattle.zir_show.proofs.statements.+statements.Goals as goal

pub put_list-returns : goal.put_list-returns
put_list-returns t c = last _ _ _ _ (c.in_ok-symbol.ensures ▸ c.in_ok-put_stmts.ensures) c.symbol-2.ensures refl

pub put_stmt-returns-in_ok-symbol-in-Assign : goal.put_stmt-returns-in_ok-symbol-in-Assign
put_stmt-returns-in_ok-symbol-in-Assign t c =
    rw c.in-Assign.is
    (last _ _ _ _ (c.in_ok-name-in-Assign.ensures ▸ (rw c.as_slice.ensures at c.in_ok-put_path-in-Assign.ensures) ▸ c.in_ok-symbol-in-Assign.ensures) c.put_expr.ensures
    (ap (λ w. spaced (ident_word c.in-Assign.name ∷ w)) (append_assoc (path_words c.in-Assign.path) (mark symbol.Assign ∷ []) (expr_words c.in-Assign.e))))

pub put_stmt-returns-in_ok-keyword-in-If-2 : goal.put_stmt-returns-in_ok-keyword-in-If-2
put_stmt-returns-in_ok-keyword-in-If-2 t c =
    rw (c.in-If.is, words_if)
    (last _ _ _ _ (c.in_ok-keyword-in-If.ensures ▸ c.in_ok-put_expr-in-If.ensures ▸ c.in_ok-keyword-in-If-2.ensures) (rw c.as_slice-in-If.ensures at c.put_list.ensures)
    (ap (λ w. spaced (link_word keyword.If ∷ w)) (append_assoc (expr_words c.in-If.e) (link_word keyword.Then ∷ []) (list_words (map stmt_words c.in-If.stmts)))))

pub put_stmt-returns-in_ok-keyword-in-IfElse-3 : goal.put_stmt-returns-in_ok-keyword-in-IfElse-3
put_stmt-returns-in_ok-keyword-in-IfElse-3 t c =
    rw (c.in-IfElse.is, words_if_else)
    (last _ _ _ _
    (c.in_ok-keyword-in-IfElse.ensures
    ▸ c.in_ok-put_expr-in-IfElse.ensures
    ▸ c.in_ok-keyword-in-IfElse-2.ensures
    ▸ (rw c.as_slice-in-IfElse.ensures at c.in_ok-put_list-in-IfElse.ensures)
    ▸ c.in_ok-keyword-in-IfElse-3.ensures)
    (rw c.as_slice-in-IfElse-2.ensures at c.put_list-in-IfElse-2.ensures)
    (ap spaced
    (five (link_word keyword.If ∷ expr_words c.in-IfElse.e) (list_words (map stmt_words c.in-IfElse.stmts)) (list_words (map stmt_words c.in-IfElse.others)) (link_word keyword.Then) (link_word keyword.Else))))

pub put_stmt-returns-in_ok-put_enclosed-in-While : goal.put_stmt-returns-in_ok-put_enclosed-in-While
put_stmt-returns-in_ok-put_enclosed-in-While t c =
    rw (c.in-While.is, words_while) (last _ _ _ _ (c.in_ok-keyword-in-While.ensures ▸ c.in_ok-put_enclosed-in-While.ensures) (rw c.as_slice-in-While.ensures at c.put_list-in-While.ensures) refl)

pub put_stmt-returns-in_ok-put_bounds-in-For : goal.put_stmt-returns-in_ok-put_bounds-in-For
put_stmt-returns-in_ok-put_bounds-in-For t c =
    rw (c.in-For.is, words_for) (last _ _ _ _ (c.in_ok-keyword-in-For.ensures ▸ c.in_ok-put_bounds-in-For.ensures) (rw c.as_slice-in-For.ensures at c.put_list-in-For.ensures) refl)

pub put_stmts-loop-index-init : goal.put_stmts-loop-index-init
put_stmts-loop-index-init t c = left_all _ _

pub put_stmts-loop-index-preserved : goal.put_stmts-loop-index-preserved
put_stmts-loop-index-preserved t c =
    joined_more stmt_words (mark symbol.Semicolon) c.args.stmts.now c.loop-index.index _ (omega arith) c.index-stmts-index.is c.loop-index.invariant c.in_ok-before_part.ensures c.in_ok-put_stmt.ensures

pub put_stmts-returns : goal.put_stmts-returns
put_stmts-returns t c = joined_end stmt_words (mark symbol.Semicolon) c.args.stmts.now c.loop-index.index (omega arith) c.loop-index.invariant
