-- What a text is read as: a program, or why it is none and where.
use Rattle.std.specs.Prelude.{◌≡◌, ℕ, zero, suc, ◌≤◌, List, [], ◌∷◌, Result, Ok, Err, length}
use Rattle.zir_tree.specs.declared.place.Place.{Place}
use Rattle.zir_tree.specs.declared.program.Prog.{Prog}
use Rattle.zir_tree.specs.declared.refusal.Refusal.{Refusal}
use Rattle.zir_tree.specs.declared.refusal.Refusal.TheVariants as refused
use Rattle.zir_lex.specs.declared.token.Token.{Token}
use Rattle.zir_lex.specs.declared.lexer.LexError.{LexError}
use Rattle.zir_lex.specs.declared.lexer.LexError.TheVariants as lex
use Rattle.zir_lex.specs.Tokens.{Lexes, EndsAt, IsRefusal}
use Rattle.zir_lex.specs.Places.{place_of}
use Rattle.zir_grammar.specs.declared.error.ParseError.{ParseError}
use Rattle.zir_grammar.specs.declared.error.ParseError.TheVariants as parse
use Rattle.zir_grammar.specs.Claim.{Answers}

-- the place of the token of this number, from 0, and where the last one ends if there are no more
abbrev pub token_place : List Token → Place → ℕ → Place
token_place [] end number = end
token_place (t ∷ ts) end zero = t.at
token_place (t ∷ ts) end (suc number) = token_place ts end number

-- the refusal of a text that has no tokens
abbrev pub lex_refusal : List ℕ → LexError → Refusal
lex_refusal text lex.TooLong = refused.TooLong
lex_refusal text (lex.BadByte at) = refused.BadByte (place_of text at)
lex_refusal text (lex.BadNumber at) = refused.BadNumber (place_of text at)
lex_refusal text lex.Memory = refused.Memory

-- the refusal of tokens, the last of which ends at a place, that are no program
abbrev pub parse_refusal : List Token → Place → ParseError → Refusal
parse_refusal tokens end (parse.Syntax number) = refused.Syntax (token_place tokens end number)
parse_refusal tokens end (parse.TooDeep number) = refused.TooDeep (token_place tokens end number)
parse_refusal tokens end parse.Memory = refused.Memory

-- what tokens that are no program, or the program that they are, say of their text
abbrev pub verdict_of : List Token → Place → Result Prog ParseError → Result Prog Refusal
verdict_of tokens end (Ok p) = Ok p
verdict_of tokens end (Err error) = Err (parse_refusal tokens end error)

-- the text is short and has these tokens, and what a parser answers to them, for trees of at most 64 levels, is this verdict on the text
pub record IsParsed (text : List ℕ) (verdict : Result Prog Refusal) : Type 0 where
  pub short : length text ≤ 65536
  pub tokens : List Token
  pub lexes : Lexes text tokens
  pub end : Place
  pub ends : EndsAt text end
  pub answer : Result Prog ParseError
  pub answers : Answers 64 tokens answer
  pub is : verdict ≡ verdict_of tokens end answer

-- the text has no tokens, and this is why
pub record IsUnlexed (text : List ℕ) (verdict : Result Prog Refusal) : Type 0 where
  pub error : LexError
  pub refuses : IsRefusal error text
  pub is : verdict ≡ Err (lex_refusal text error)

-- the text is read so: it has tokens that are a program or none, or it has no tokens; want of memory may be answered at any time
pub data IsReadAs (text : List ℕ) (verdict : Result Prog Refusal) : Type 0 where
  parsed : IsParsed text verdict → IsReadAs text verdict
  unlexed : IsUnlexed text verdict → IsReadAs text verdict

-- memory did not run out
abbrev pub IsTold : Result Prog Refusal → Type 0
IsTold (Ok p) = Unit {0}
IsTold (Err refused.Memory) = ⊥
IsTold (Err other) = Unit {0}

-- a text has one verdict, want of memory apart
abbrev pub HasOneVerdict : Type 0
HasOneVerdict = (text : List ℕ) (a b : Result Prog Refusal) → IsTold a → IsTold b → IsReadAs text a → IsReadAs text b → a ≡ b
