use Rattle.std.proofs.Common.{suc, arith, refl, [], ◌∷◌, Some, None}
use Rattle.zir_lex.specs.declared.token.Symbol.TheVariants.{Comma, Dot}
use Rattle.zir_grammar.specs.Grammar.{name, rank, symbol_of}
use Rattle.zir_print.specs.Marks.{mark, nowhere, enclosed, held}
use Rattle.zir_print.specs.Types.{keyword_of}
use Rattle.zir_print.specs.Expressions.{expr_words, kind, bracket_words}
use Rattle.zir_print.proofs.ExprLaw.{words_unary, words_binary, words_index, words_slice, words_part, words_call, words_array, words_convert, words_complex}
use Rattle.zir_show.proofs.Adding.{◌▸◌, last, only, at_limit, at_limit_last, left_all, joined_more, joined_end}
use Rattle.zir_show.proofs.Places.{behind, infix_spaced, prefix_spaced, word_if_spaced, complex_spaced}
use Rattle.zir_show.proofs.expressions.+expressions.Goals as goal

pub put_bracket-returns : goal.put_bracket-returns
put_bracket-returns t c = last _ _ _ _ (c.in_ok-symbol.ensures ▸ c.in_ok-put_expr.ensures) c.put_bracket_end.ensures refl

pub put_call-returns : goal.put_call-returns
put_call-returns t c = last _ _ _ _ (c.in_ok-name.ensures ▸ c.in_ok-symbol.ensures ▸ c.in_ok-put_exprs.ensures) c.symbol-2.ensures refl

pub put_enclosed-returns : goal.put_enclosed-returns
put_enclosed-returns t c = last _ _ _ _ (c.in_ok-symbol.ensures ▸ c.in_ok-put_expr.ensures) c.symbol-2.ensures refl

pub put_expr-returns-in_ok-put_prefix-in-Unary : goal.put_expr-returns-in_ok-put_prefix-in-Unary
put_expr-returns-in_ok-put_prefix-in-Unary t c =
    rw (c.in-Unary.is, words_unary) (last _ _ _ _ c.in_ok-put_prefix-in-Unary.ensures (rw c.get.ensures at c.put_held.ensures) (prefix_spaced c.in-Unary.prefix nowhere c.in-Unary.field-3 (held 1 (kind c.in-Unary.operand) (expr_words c.in-Unary.operand))))

pub put_expr-returns-in_ok-symbol-in-Binary : goal.put_expr-returns-in_ok-symbol-in-Binary
put_expr-returns-in_ok-symbol-in-Binary t c =
    rw (c.in-Binary.is, words_binary)
    (last _ _ _ _
    (at_limit _ (suc (suc (rank c.in-Binary.operator))) _ _ (omega (arith, c.operator_rank-rank.ensures)) (rw c.get-in-Binary.ensures at c.in_ok-put_held-in-Binary.ensures)
    ▸ (rw c.operator_symbol.ensures at c.in_ok-symbol-in-Binary.ensures))
    (at_limit_last _ _ _ _ (suc (rank c.in-Binary.operator)) _ _ (omega (arith, c.operator_rank-rank.ensures)) (rw c.get-in-Binary-2.ensures at c.put_held-in-Binary-2.ensures))
    (infix_spaced
    (held (suc (suc (rank c.in-Binary.operator))) (kind c.in-Binary.left) (expr_words c.in-Binary.left))
    (held (suc (rank c.in-Binary.operator)) (kind c.in-Binary.right) (expr_words c.in-Binary.right)) (symbol_of c.in-Binary.operator) c.in-Binary.field-4))

pub put_expr-returns-in_ok-put_held-in-Index : goal.put_expr-returns-in_ok-put_held-in-Index
put_expr-returns-in_ok-put_held-in-Index t c =
    rw (c.in-Index.is, words_index) (last _ _ _ _ (rw c.get-in-Index.ensures at c.in_ok-put_held-in-Index.ensures) (rw c.get-in-Index-2.ensures at c.put_bracket.ensures)
    (behind (held 0 (kind c.in-Index.base) (expr_words c.in-Index.base)) (bracket_words nowhere (expr_words c.in-Index.index) None) (bracket_words c.in-Index.field-2 (expr_words c.in-Index.index) None) refl))

pub put_expr-returns-in_ok-put_held-in-Slice : goal.put_expr-returns-in_ok-put_held-in-Slice
put_expr-returns-in_ok-put_held-in-Slice t c =
    rw (c.in-Slice.is, words_slice) (last _ _ _ _ (rw c.get-in-Slice.ensures at c.in_ok-put_held-in-Slice.ensures) (rw c.get-in-Slice-2.ensures at c.put_bracket-in-Slice.ensures)
    (behind (held 0 (kind c.in-Slice.base) (expr_words c.in-Slice.base)) (bracket_words nowhere (expr_words c.in-Slice.index) (Some c.in-Slice.length)) (bracket_words c.in-Slice.field-3 (expr_words c.in-Slice.index) (Some c.in-Slice.length)) refl))

pub put_expr-returns-in_ok-symbol-in-Part : goal.put_expr-returns-in_ok-symbol-in-Part
put_expr-returns-in_ok-symbol-in-Part t c =
    rw (c.in-Part.is, words_part) (last _ _ _ _ ((rw c.get-in-Part.ensures at c.in_ok-put_held-in-Part.ensures) ▸ c.in_ok-symbol-in-Part.ensures) c.name-in-Part.ensures (infix_spaced (held 0 (kind c.in-Part.base) (expr_words c.in-Part.base)) (name c.in-Part.name nowhere ∷ []) Dot c.in-Part.field-3))

pub put_expr-returns-in-Call : goal.put_expr-returns-in-Call
put_expr-returns-in-Call t c = rw (c.in-Call.is, words_call) (only _ _ _ _ _ (rw c.as_slice.ensures at c.put_call.ensures) refl)

pub put_expr-returns-in_ok-put_exprs-in-Array : goal.put_expr-returns-in_ok-put_exprs-in-Array
put_expr-returns-in_ok-put_exprs-in-Array t c =
    rw (c.in-Array.is, words_array) (last _ _ _ _ (c.in_ok-symbol-in-Array.ensures ▸ (rw c.as_slice-in-Array.ensures at c.in_ok-put_exprs-in-Array.ensures)) c.symbol-in-Array-2.ensures refl)

pub put_expr-returns-in_ok-put_base-in-Convert : goal.put_expr-returns-in_ok-put_base-in-Convert
put_expr-returns-in_ok-put_base-in-Convert t c =
    rw (c.in-Convert.is, words_convert) (last _ _ _ _ c.in_ok-put_base-in-Convert.ensures (rw c.get-in-Convert.ensures at c.put_enclosed.ensures) (word_if_spaced (keyword_of c.in-Convert.base) nowhere c.in-Convert.field-2 (enclosed (expr_words c.in-Convert.operand))))

pub put_expr-returns-in_ok-put_expr-in-Complex-2 : goal.put_expr-returns-in_ok-put_expr-in-Complex-2
put_expr-returns-in_ok-put_expr-in-Complex-2 t c =
    rw (c.in-Complex.is, words_complex)
    (last _ _ _ _
    (c.in_ok-put_base-in-Complex.ensures
    ▸ c.in_ok-symbol-in-Complex.ensures
    ▸ (rw c.get-in-Complex.ensures at c.in_ok-put_expr-in-Complex.ensures)
    ▸ c.in_ok-symbol-in-Complex-2.ensures
    ▸ (rw c.get-in-Complex-2.ensures at c.in_ok-put_expr-in-Complex-2.ensures))
    c.symbol-in-Complex-3.ensures (complex_spaced (keyword_of c.in-Complex.base) c.in-Complex.field-3 (expr_words c.in-Complex.real) (expr_words c.in-Complex.imaginary)))

pub put_exprs-loop-index-init : goal.put_exprs-loop-index-init
put_exprs-loop-index-init t c = left_all _ _

pub put_exprs-loop-index-preserved : goal.put_exprs-loop-index-preserved
put_exprs-loop-index-preserved t c =
    joined_more expr_words (mark Comma) c.args.es.now c.loop-index.index _ (omega arith) c.index-es-index.is c.loop-index.invariant c.in_ok-before_part.ensures c.in_ok-put_expr.ensures

pub put_exprs-returns : goal.put_exprs-returns
put_exprs-returns t c = joined_end expr_words (mark Comma) c.args.es.now c.loop-index.index (omega arith) c.loop-index.invariant
