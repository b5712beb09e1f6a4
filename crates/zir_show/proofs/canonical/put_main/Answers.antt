use Rattle.std.proofs.Common.{ap, ◌∷◌, ◌++◌}
use Rattle.zir_lex.specs.declared.token.Keyword.TheVariants as keyword
use Rattle.zir_lex.specs.declared.token.Symbol.TheVariants as symbol
use Rattle.zir_grammar.specs.Grammar.{name, main_bytes}
use Rattle.zir_print.specs.Marks.{nowhere, mark, link_word}
use Rattle.zir_print.specs.Components.{comp_words}
use Rattle.zir_print.specs.Canonical.{stream_words}
use Rattle.zir_print.specs.Text.{spaced}
use Rattle.zir_show.proofs.Adding.{◌▸◌, line_of}
use Rattle.zir_show.proofs.Places.{five}
use Rattle.zir_show.proofs.canonical.put_main.Goals as goal

pub returns : goal.returns
returns c =
    let p = c.args.p.now in
    line_of _ _ _ keyword.Let
    (link_word keyword.Comp ∷ name main_bytes nowhere ∷ mark symbol.Equal ∷ (stream_words keyword.Read p.input ++ mark symbol.Pipe ∷ (comp_words p.main ++ mark symbol.Pipe ∷ stream_words keyword.Write p.output)))
    c.in_ok-begin_line.ensures
    (c.in_ok-keyword.ensures
    ▸ c.in_ok-main_name.ensures
    ▸ c.in_ok-symbol.ensures
    ▸ c.in_ok-put_stream.ensures
    ▸ c.in_ok-symbol-2.ensures
    ▸ c.in_ok-put_comp.ensures
    ▸ c.in_ok-symbol-3.ensures
    ▸ c.in_ok-put_stream-2.ensures)
    c.end_line.ensures
    (ap spaced
    (five (link_word keyword.Comp ∷ name main_bytes nowhere ∷ mark symbol.Equal ∷ stream_words keyword.Read p.input) (comp_words p.main) (stream_words keyword.Write p.output) (mark symbol.Pipe) (mark symbol.Pipe)))
