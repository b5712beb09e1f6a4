use Rattle.std.proofs.Common.{refl, ◌∷◌}
use Rattle.std.specs.Prelude.{map}
use Rattle.zir_lex.specs.declared.token.Keyword.TheVariants as keyword
use Rattle.zir_lex.specs.declared.token.Symbol.TheVariants as symbol
use Rattle.zir_print.specs.Marks.{mark}
use Rattle.zir_print.specs.Types.{ident_word, field_words}
use Rattle.zir_print.specs.Statements.{list_words}
use Rattle.zir_show.proofs.Adding.{◌▸◌, line_of}
use Rattle.zir_show.proofs.canonical.put_struct.Goals as goal

pub returns : goal.returns
returns c =
    let declared = c.args.declared.now in
    line_of _ _ _ keyword.Struct (ident_word declared.name ∷ mark symbol.Equal ∷ list_words (map field_words declared.fields)) c.in_ok-begin_line.ensures
    (c.in_ok-name.ensures ▸ c.in_ok-symbol.ensures ▸ c.in_ok-symbol-2.ensures ▸ (rw c.as_slice.ensures at c.in_ok-put_fields.ensures) ▸ c.in_ok-symbol-3.ensures) c.end_line.ensures refl
