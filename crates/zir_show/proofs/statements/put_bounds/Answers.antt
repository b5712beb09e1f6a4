use Rattle.std.proofs.Common.{[], ◌∷◌, ap}
use Rattle.zir_lex.specs.declared.token.Keyword.TheVariants as keyword
use Rattle.zir_lex.specs.declared.token.Symbol.TheVariants as symbol
use Rattle.zir_print.specs.Marks.{mark, link_word}
use Rattle.zir_print.specs.Types.{ident_word}
use Rattle.zir_print.specs.Expressions.{expr_words}
use Rattle.zir_print.specs.Text.{spaced}
use Rattle.zir_show.proofs.Adding.{◌▸◌, last}
use Rattle.zir_show.proofs.Places.{three}
use Rattle.zir_show.proofs.statements.put_bounds.Goals as goal

pub returns : goal.returns
returns c =
    last _ _ _ _ (c.in_ok-name.ensures ▸ c.in_ok-keyword.ensures ▸ c.in_ok-symbol.ensures ▸ c.in_ok-put_expr.ensures ▸ c.in_ok-symbol-2.ensures ▸ c.in_ok-put_expr-2.ensures) c.symbol-3.ensures
    (ap spaced
    (three (ident_word c.args.name.now ∷ link_word keyword.In ∷ mark symbol.LeftBracket ∷ expr_words c.args.from.now) (expr_words c.args.count.now) (mark symbol.RightBracket ∷ []) (mark symbol.Comma)))
