-- A string ends at the first byte that it cannot hold, which is its quote.
use Rattle.std.proofs.Common.{refl, sym}
use Rattle.zir_lex.proofs.Readers.{string_behind, no_string_behind}
use Rattle.zir_lex.proofs.signs.read_string.Goals as goal

pub returns-then-not-has_quote : goal.returns-then-not-has_quote
returns-then-not-has_quote c = no_string_behind c.args.text.now c.string_len-len.result c.requires.some c.requires.quote c.string_len-len.ensures.value (c.has_quote.ensures.none c.if-not-has_quote.true)

pub returns : goal.returns
returns c =
    let quote = c.has_quote.ensures.yes c.if-not-has_quote.false in
    string_behind c.args.text.now c.in_ok-string.string c.string_len-len.result 34 c.requires.some c.requires.quote c.string_len-len.ensures.value quote.0 (sym quote.1) refl c.in_ok-string.ensures
