use Rattle.std.proofs.Common.{ap, ◌∷◌, ◌++◌, append_assoc}
use Rattle.zir_lex.specs.declared.token.Keyword.TheVariants as keyword
use Rattle.zir_print.specs.Types.{ident_word}
use Rattle.zir_print.specs.Statements.{body_words}
use Rattle.zir_print.specs.Canonical.{params_words, gives_words}
use Rattle.zir_print.specs.Text.{spaced}
use Rattle.zir_show.proofs.Adding.{◌▸◌, line_of}
use Rattle.zir_show.proofs.canonical.put_function.Goals as goal

pub returns : goal.returns
returns c =
    let f = c.args.function.now in
    line_of _ _ _ keyword.Fun (ident_word f.name ∷ (params_words f.params ++ (gives_words f.result ++ body_words f.body))) c.in_ok-begin_line.ensures
    ((rw c.as_slice.ensures at c.in_ok-put_head.ensures) ▸ c.in_ok-put_given.ensures ▸ c.in_ok-put_body.ensures) c.end_line.ensures
    (ap spaced (append_assoc (ident_word f.name ∷ params_words f.params) (gives_words f.result) (body_words f.body)))
