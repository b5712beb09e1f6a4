-- What holds of programs whatever their places are.
use Rattle.std.specs.Prelude.{◌≡◌, ℕ, List}
use Rattle.zir_tree.specs.declared.program.Prog.{Prog}
use Rattle.zir_lex.specs.Tokens.{Lexes}
use Rattle.zir_lex.specs.declared.token.Token.{Token}
use Rattle.zir_grammar.specs.Grammar.{IsProg}
use Rattle.zir_grammar.specs.Claim.{IsLowProg}
use Rattle.zir_print.specs.Text.{canonical_text}
use Rattle.zir_text_laws.specs.Laws.{lexemes}
use Rattle.zir_place_laws.specs.Bare.{bare}

-- tokens with the same lexemes spell the same program up to places, at the same height
abbrev pub PlacesAlone : Type 0
PlacesAlone = (ts us : List Token) (p : Prog) (h : ℕ) → lexemes us ≡ lexemes ts → IsProg ts p h → (q : Prog) × IsProg us q h × (bare q ≡ bare p)

-- the canonical text does not tell the places of a program
abbrev pub SameText : Type 0
SameText = (p q : Prog) → bare q ≡ bare p → canonical_text q ≡ canonical_text p

-- the canonical text spells the program again, up to places and not above the limit, and nothing else; its canonical text is that text
pub record ReadsAgain (most : ℕ) (p : Prog) : Type 0 where
  pub again : List Token
  pub program : Prog
  pub lexed : Lexes (canonical_text p) again
  pub is : IsLowProg most again program
  pub same : bare program ≡ bare p
  pub text : canonical_text program ≡ canonical_text p
  pub only : (tokens : List Token) (q : Prog) (h : ℕ) → Lexes (canonical_text p) tokens → IsProg tokens q h → q ≡ program

-- whatever text spells a program, the canonical text spells it again, up to places and no higher
abbrev pub ShowsAgain : Type 0
ShowsAgain = (most : ℕ) (text : List ℕ) (tokens : List Token) (p : Prog) → Lexes text tokens → IsLowProg most tokens p → ReadsAgain most p
