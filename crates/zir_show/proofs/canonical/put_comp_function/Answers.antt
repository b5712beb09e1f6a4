use Rattle.std.proofs.Common.{refl, ◌∷◌, ◌++◌}
use Rattle.zir_lex.specs.declared.token.Keyword.TheVariants as keyword
use Rattle.zir_print.specs.Marks.{link_word}
use Rattle.zir_print.specs.Types.{ident_word}
use Rattle.zir_print.specs.Components.{comp_words}
use Rattle.zir_print.specs.Canonical.{params_words}
use Rattle.zir_show.proofs.Adding.{◌▸◌, line_of}
use Rattle.zir_show.proofs.canonical.put_comp_function.Goals as goal

pub returns : goal.returns
returns c =
    let f = c.args.function.now in
    line_of _ _ _ keyword.Fun (link_word keyword.Comp ∷ ident_word f.name ∷ (params_words f.params ++ comp_words f.body)) c.in_ok-begin_line.ensures
    (c.in_ok-keyword.ensures ▸ (rw c.as_slice.ensures at c.in_ok-put_head.ensures) ▸ c.in_ok-put_comp.ensures) c.end_line.ensures refl
