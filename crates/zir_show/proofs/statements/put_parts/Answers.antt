use Rattle.std.proofs.Common.{ap, sym, refl, ◌∙◌, append-nil, length, List, ◌∷◌, ◌++◌}
use Rattle.std.specs.Prelude.{map}
use Rattle.zir_lex.specs.declared.token.Keyword.TheVariants as keyword
use Rattle.zir_lex.specs.declared.token.Symbol.TheVariants as symbol
use Rattle.zir_grammar.specs.Grammar.{word}
use Rattle.zir_print.specs.Marks.{mark, link_word, parted}
use Rattle.zir_print.specs.Expressions.{expr_words}
use Rattle.zir_print.specs.Statements.{stmt_words}
use Rattle.zir_print.specs.Text.{spaced}
use Rattle.zir_lex.specs.declared.token.Token.{Token}
use Rattle.zir_show.specs.Growth.{sign_before}
use Rattle.zir_show.proofs.Adding.{◌▸◌, last, adds_as, parted_snoc}
use Rattle.zir_show.proofs.Places.{behind}
use Rattle.zir_show.proofs.statements.put_parts.Goals as goal

pub returns-in-None : goal.returns-in-None
returns-in-None c = rw c.in-None.is (adds_as _ c.in_ok-put_stmts.ensures (ap (λ w. spaced (parted (mark symbol.Semicolon) w)) (sym (append-nil (map stmt_words c.args.stmts.now)))))

pub returns-in_ok-before_part-in-Some : goal.returns-in_ok-before_part-in-Some
returns-in_ok-before_part-in-Some c =
    let stmts = c.args.stmts.now in
    let value : List Token = expr_words c.in-Some.returned.value in
    let front : List Token = parted (mark symbol.Semicolon) (map stmt_words stmts) ++ sign_before (length stmts) (mark symbol.Semicolon) in
    rw c.in-Some.is
    (last _ _ _ _ (c.in_ok-put_stmts.ensures ▸ c.in_ok-before_part-in-Some.ensures) c.put_return.ensures
    (behind front (link_word keyword.Return ∷ value) (word keyword.Return c.in-Some.returned.at ∷ value) refl
    ∙ ap spaced (sym (parted_snoc stmt_words (mark symbol.Semicolon) stmts (length stmts) (word keyword.Return c.in-Some.returned.at ∷ value) refl))))
