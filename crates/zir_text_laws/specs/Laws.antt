-- What holds of the canonical text.
use Rattle.std.specs.Prelude.{◌≡◌, ℕ, List, map}
use Rattle.zir_tree.specs.declared.program.Prog.{Prog}
use Rattle.zir_lex.specs.Tokens.{Lexes}
use Rattle.zir_lex.specs.declared.token.Lexeme.{Lexeme}
use Rattle.zir_lex.specs.declared.token.Token.{Token}
use Rattle.zir_grammar.specs.Claim.{IsLowProg}
use Rattle.zir_print.specs.Canonical.{canonical}
use Rattle.zir_print.specs.Text.{canonical_text}

-- the lexemes of some tokens
abbrev pub lexemes : List Token → List Lexeme
lexemes tokens = map (λ token. token.lexeme) tokens

-- the text has tokens with these lexemes
abbrev pub HasLexemes : List ℕ → List Lexeme → Type 0
HasLexemes text ls = (tokens : List Token) × Lexes text tokens × (lexemes tokens ≡ ls)

-- whatever text spells a program, the canonical text has tokens, and their lexemes are the canonical ones
abbrev pub LexesBack : Type 0
LexesBack = (most : ℕ) (text : List ℕ) (tokens : List Token) (p : Prog) → Lexes text tokens → IsLowProg most tokens p → HasLexemes (canonical_text p) (lexemes (canonical p))
