-- What a reader may want as the next token, and what it makes of it.
use Rattle.std.specs.Prelude.{◌≡◌, ℕ, nat_eq, Bool, true, List, [], Option, Some, None, if◌then◌else◌}
use Rattle.std.specs.Str.{bytes_eq}
use denote.Enum.Bare.{sameb}
use Rattle.zir_lex.specs.contracts.token.Keyword.{the_type as the_keyword}
use Rattle.zir_lex.specs.contracts.token.Symbol.{the_type as the_symbol}
use Rattle.zir_tree.specs.declared.place.Place.{Place}
use Rattle.zir_tree.specs.declared.types.Base.{Base}
use Rattle.zir_tree.specs.declared.expr.Prefix.{Prefix}
use Rattle.zir_tree.specs.declared.expr.Prefix.TheVariants as prefix
use Rattle.zir_tree.specs.declared.expr.Operator.{Operator}
use Rattle.zir_tree.specs.declared.expr.Operator.TheVariants as operator
use Rattle.zir_tree.specs.declared.comp.Link.{Link}
use Rattle.zir_tree.specs.declared.comp.Link.TheVariants as link
use Rattle.zir_lex.specs.declared.token.Token.{Token}
use Rattle.zir_lex.specs.declared.token.Lexeme.{Lexeme}
use Rattle.zir_lex.specs.declared.token.Lexeme.TheVariants as lexeme
use Rattle.zir_lex.specs.declared.token.Keyword.{Keyword}
use Rattle.zir_lex.specs.declared.token.Keyword.TheVariants as keyword
use Rattle.zir_lex.specs.declared.token.Symbol.{Symbol}
use Rattle.zir_lex.specs.declared.token.Symbol.TheVariants as symbol
use Rattle.zir_grammar.specs.Grammar.{word, sign, name, int, bit, text, main_bytes, base_of, conversion_of, symbol_of, rank, prefix_token, link_symbol, link_rank}

-- kinds of tokens
pub data Want : Type 0 where
  a_word : Keyword → Want
  a_sign : Symbol → Want
  the_main : Want
  a_name : Want
  a_number : Want
  a_bit : Want
  a_text : Want
  -- a word that names a type, or that converts to one
  a_type : Want
  a_conversion : Want
  -- an operator before its operand; one between two sides, and a sign between two components, of a rank
  a_prefix : Want
  an_operator : ℕ → Want
  a_link : ℕ → Want

-- what a token of that kind tells
abbrev pub Payload : Want → Type 0
Payload (a_word w) = Place
Payload (a_sign s) = Place
Payload the_main = Place
Payload a_name = List ℕ × Place
Payload a_number = ℕ × Place
Payload a_bit = Bool × Place
Payload a_text = List ℕ × Place
Payload a_type = Keyword × Place
Payload a_conversion = Keyword × Place
Payload a_prefix = Prefix × Place
Payload (an_operator n) = Operator × Place
Payload (a_link n) = Link × Place

-- the token of that kind that tells this
abbrev pub token_of : (w : Want) → Payload w → Token
token_of (a_word w) at = word w at
token_of (a_sign s) at = sign s at
token_of the_main at = name main_bytes at
token_of a_name p = name p.0 p.1
token_of a_number p = int p.0 p.1
token_of a_bit p = bit p.0 p.1
token_of a_text p = text p.0 p.1
token_of a_type p = word p.0 p.1
token_of a_conversion p = word p.0 p.1
token_of a_prefix p = prefix_token p.0 p.1
token_of (an_operator n) p = sign (symbol_of p.0) p.1
token_of (a_link n) p = sign (link_symbol p.0) p.1

-- a token of that kind can tell this
abbrev pub Fits : (w : Want) → Payload w → Type 0
Fits a_type p = (b : Base) × (base_of p.0 ≡ Some b)
Fits a_conversion p = (b : Base) × (conversion_of p.0 ≡ Some b)
Fits (an_operator n) p = rank p.0 ≡ n
Fits (a_link n) p = link_rank p.0 ≡ n
Fits w p = Unit {0}

-- what is done with what is there, or else
abbrev pub if_found : {A B : Type 0} → Option A → (A → B) → B → B
if_found (Some x) f other = f x
if_found None f other = other

-- a sign as an operator between two sides
abbrev pub operator_of : Symbol → Option Operator
operator_of symbol.OrOr = Some operator.Or
operator_of symbol.AndAnd = Some operator.And
operator_of symbol.Bar = Some operator.BitOr
operator_of symbol.Caret = Some operator.BitXor
operator_of symbol.Ampersand = Some operator.BitAnd
operator_of symbol.EqualEqual = Some operator.Equal
operator_of symbol.NotEqual = Some operator.NotEqual
operator_of symbol.Less = Some operator.Less
operator_of symbol.LessEqual = Some operator.LessEqual
operator_of symbol.Greater = Some operator.Greater
operator_of symbol.GreaterEqual = Some operator.GreaterEqual
operator_of symbol.ShiftLeft = Some operator.ShiftLeft
operator_of symbol.ShiftRight = Some operator.ShiftRight
operator_of symbol.Plus = Some operator.Add
operator_of symbol.Minus = Some operator.Subtract
operator_of symbol.Star = Some operator.Multiply
operator_of symbol.Slash = Some operator.Divide
operator_of symbol.Percent = Some operator.Remainder
operator_of other = None

-- a sign between components
abbrev pub link_of : Symbol → Option Link
link_of symbol.Pipe = Some link.Serial
link_of symbol.ParallelPipe = Some link.Parallel
link_of other = None

-- a lexeme as an operator before its operand
abbrev pub prefix_of : Lexeme → Option Prefix
prefix_of (lexeme.Symbol symbol.Minus) = Some prefix.Minus
prefix_of (lexeme.Symbol symbol.Tilde) = Some prefix.Complement
prefix_of (lexeme.Keyword keyword.Not) = Some prefix.Not
prefix_of other = None

-- what a lexeme of that kind tells, at its place
abbrev pub told_by : (w : Want) → Lexeme → Place → Option (Payload w)
told_by (a_word w) (lexeme.Keyword found) at = if sameb the_keyword found w then Some at else None
told_by (a_sign s) (lexeme.Symbol found) at = if sameb the_symbol found s then Some at else None
told_by the_main (lexeme.Name x) at = if bytes_eq x main_bytes then Some at else None
told_by a_name (lexeme.Name x) at = Some (x, at)
told_by a_number (lexeme.Int n) at = Some (n, at)
told_by a_bit (lexeme.Bit b) at = Some (b, at)
told_by a_text (lexeme.Text s) at = Some (s, at)
told_by a_type (lexeme.Keyword w) at = if_found (base_of w) (λ b. Some (w, at)) None
told_by a_conversion (lexeme.Keyword w) at = if_found (conversion_of w) (λ b. Some (w, at)) None
told_by a_prefix l at = if_found (prefix_of l) (λ op. Some (op, at)) None
told_by (an_operator n) (lexeme.Symbol s) at = if_found (operator_of s) (λ op. if nat_eq (rank op) n then Some (op, at) else None) None
told_by (a_link n) (lexeme.Symbol s) at = if_found (link_of s) (λ l. if nat_eq (link_rank l) n then Some (l, at) else None) None
told_by w l at = None

-- what a token of that kind tells
abbrev pub told : (w : Want) → Token → Option (Payload w)
told w t = told_by w t.lexeme t.at

-- some place, for tokens that nobody wrote
abbrev pub somewhere : Place
somewhere = record { line = 1; col = 1 }

-- something that a token of that kind tells
abbrev pub some_payload : (w : Want) → Payload w
some_payload (a_word w) = somewhere
some_payload (a_sign s) = somewhere
some_payload the_main = somewhere
some_payload a_name = (main_bytes, somewhere)
some_payload a_number = (0, somewhere)
some_payload a_bit = (true, somewhere)
some_payload a_text = ([], somewhere)
some_payload a_type = (keyword.Bit, somewhere)
some_payload a_conversion = (keyword.Bit, somewhere)
some_payload a_prefix = (prefix.Not, somewhere)
some_payload (an_operator n) = (operator.Or, somewhere)
some_payload (a_link n) = (link.Serial, somewhere)
