-- The signs round and between the items of a list.
use Rattle.zir_lex.specs.declared.token.Symbol.{Symbol}
use Rattle.zir_lex.specs.declared.token.Symbol.TheVariants as symbol
use Rattle.zir_grammar.specs.declared.enclosure.Enclosure.{Enclosure}
use Rattle.zir_grammar.specs.declared.enclosure.Enclosure.TheVariants.{Parentheses, Braces}

-- the sign at the end of a list
abbrev pub closing_of : Enclosure → Symbol
closing_of Parentheses = symbol.RightParenthesis
closing_of Braces = symbol.RightBrace

-- the sign between two fields: `,` between parameters and `;` in a struct
abbrev pub between_of : Enclosure → Symbol
between_of Parentheses = symbol.Comma
between_of Braces = symbol.Semicolon
