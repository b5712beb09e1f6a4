-- Tokens whose place a tree does not keep, and lists of tokens with a token between.
use Rattle.std.specs.Prelude.{ℕ, nat_le, List, [], ◌∷◌, ◌++◌, if◌then◌else◌}
use Rattle.zir_tree.specs.declared.place.Place.{Place}
use Rattle.zir_lex.specs.declared.token.Token.{Token}
use Rattle.zir_lex.specs.declared.token.Keyword.{Keyword}
use Rattle.zir_lex.specs.declared.token.Symbol.{Symbol}
use Rattle.zir_lex.specs.declared.token.Symbol.TheVariants.{LeftParenthesis, RightParenthesis, LeftBrace, RightBrace}
use Rattle.zir_grammar.specs.Grammar.{word, sign}

-- the place of a token that a tree keeps no place of
abbrev pub nowhere : Place
nowhere = record { line = 0; col = 0 }

-- a sign that a tree keeps no place of
abbrev pub mark : Symbol → Token
mark s = sign s nowhere

-- a keyword that a tree keeps no place of
abbrev pub link_word : Keyword → Token
link_word w = word w nowhere

-- lists of tokens, each behind a token
abbrev pub behind_each : Token → List (List Token) → List Token
behind_each between [] = []
behind_each between (ws ∷ more) = between ∷ (ws ++ behind_each between more)

-- lists of tokens with a token between each two
abbrev pub parted : Token → List (List Token) → List Token
parted between [] = []
parted between (ws ∷ more) = ws ++ behind_each between more

-- tokens between parentheses
abbrev pub enclosed : List Token → List Token
enclosed ws = mark LeftParenthesis ∷ (ws ++ mark RightParenthesis ∷ [])

-- tokens between braces, the first at this place
abbrev pub braced : Place → List Token → List Token
braced p ws = sign LeftBrace p ∷ (ws ++ mark RightBrace ∷ [])

-- the tokens of a form, in parentheses where it binds looser than the limit
abbrev pub held : ℕ → ℕ → List Token → List Token
held limit binds ws = if nat_le binds limit then ws else enclosed ws
