-- What keeps the reading of a part in step with the grammar: heights that rise, and tokens that no one takes behind a part that might take them itself.
use Rattle.std.proofs.Common.{◌≡◌, ◌≤◌, ℕ, suc, nat_lt, Bool, true, false, List, None}
use Rattle.zir_lex.specs.declared.token.Token.{Token}
use Rattle.zir_lex.specs.declared.token.Lexeme.{Lexeme}
use Rattle.zir_lex.specs.declared.token.Lexeme.TheVariants as lexeme
use Rattle.zir_lex.specs.declared.token.Keyword.TheVariants as keyword
use Rattle.zir_lex.specs.declared.token.Symbol.{Symbol}
use Rattle.zir_lex.specs.declared.token.Symbol.TheVariants as symbol
use Rattle.zir_grammar.specs.Grammar.{rank, link_rank}
use Rattle.zir_grammar.specs.Wants.{Payload, Fits, token_of, told, some_payload, if_found, operator_of, link_of}
use Rattle.zir_grammar.specs.Parts.{
  Part,
  a_binary,
  operands_of,
  posts_of,
  behind_name,
  a_var,
  initial_of,
  a_stmt,
  stmt_named,
  else_of,
  a_chain,
  links_of,
  behind_repeat,
  a_decl,
  a_result,
  more_decls,
  Tree,
  Rest,
  gives,
  wants,
  either,
  reads,
  Entry,
  entries,
  may_be_empty,
}
use Rattle.zir_grammar.specs.Machine.{lowest_tree, lowest, least}
use Rattle.zir_grammar.proofs.Meaning.{AllEntries}

-- ---- tokens that no one takes behind a part

-- tokens, told by a test
abbrev pub Tokens : Type 0
Tokens = Token → Bool

abbrev pub nothing : Tokens
nothing t = false

abbrev pub everything : Tokens
everything t = true

-- `[`, `.` and `(`, which join on to a name or a primary
abbrev pub joins_on : Symbol → Bool
joins_on symbol.LeftBracket = true
joins_on symbol.Dot = true
joins_on symbol.LeftParenthesis = true
joins_on s = false

-- an operator of a rank below the number, or what joins on to a primary
abbrev pub below_rank : ℕ → Lexeme → Bool
below_rank n (lexeme.Symbol s) = if_found (operator_of s) (λ op. nat_lt (rank op) n) (joins_on s)
below_rank n l = false

abbrev pub behind_binary : ℕ → Tokens
behind_binary n t = below_rank n t.lexeme

abbrev pub is_post : Lexeme → Bool
is_post (lexeme.Symbol symbol.LeftBracket) = true
is_post (lexeme.Symbol symbol.Dot) = true
is_post l = false

abbrev pub is_call : Lexeme → Bool
is_call (lexeme.Symbol symbol.LeftParenthesis) = true
is_call l = false

-- what joins on to an expression, and `:=`
abbrev pub joins_var : Lexeme → Bool
joins_var (lexeme.Symbol symbol.Assign) = true
joins_var l = below_rank 10 l

-- what joins on to a variable, and `else`
abbrev pub joins_stmt : Lexeme → Bool
joins_stmt (lexeme.Keyword keyword.Else) = true
joins_stmt l = joins_var l

-- what joins on to an expression, and signs between components of ranks below the number
abbrev pub joins_chain : ℕ → Lexeme → Bool
joins_chain n (lexeme.Symbol s) = if_found (link_of s) (λ l. nat_lt (link_rank l) n) (below_rank 10 (lexeme.Symbol s))
joins_chain n l = false

abbrev pub behind_chain : ℕ → Tokens
behind_chain n t = joins_chain n t.lexeme

abbrev pub is_colon : Lexeme → Bool
is_colon (lexeme.Symbol symbol.Colon) = true
is_colon l = false

abbrev pub begins_decl : Lexeme → Bool
begins_decl (lexeme.Keyword keyword.Var) = true
begins_decl (lexeme.Keyword keyword.Struct) = true
begins_decl (lexeme.Keyword keyword.Fun) = true
begins_decl l = false

-- what is never taken behind a part, since the part might go on with it
abbrev pub follows : Part → Tokens
follows (a_binary n) = behind_binary n
follows (operands_of n left low) = behind_binary (suc n)
follows (posts_of of low) = λ t. is_post t.lexeme
follows (behind_name x at) = λ t. is_call t.lexeme
follows a_var = λ t. joins_var t.lexeme
follows (initial_of f at) = λ t. joins_var t.lexeme
follows a_stmt = λ t. joins_stmt t.lexeme
follows (stmt_named x at) = λ t. joins_stmt t.lexeme
follows (else_of e ss low at) = λ t. joins_stmt t.lexeme
follows (a_chain n) = behind_chain n
follows (links_of n left low) = behind_chain (suc n)
follows (behind_repeat at) = behind_chain 0
follows a_decl = nothing
follows a_result = λ t. is_colon t.lexeme
follows (more_decls done low) = λ t. begins_decl t.lexeme
follows part = nothing

-- each of the one is one of the other
abbrev pub Within : Tokens → Tokens → Type 0
Within bad all = (t : Token) → bad t ≡ true → all t ≡ true

-- no entry takes a bad token
abbrev pub EntriesAvoid : {A : Type 0} → Tokens → List (Entry A) → Type 0
EntriesAvoid bad es = AllEntries (λ e. (p : Payload e.want) → Fits e.want p → bad (token_of e.want p) ≡ false) es

-- no bad token is taken first, where none of `after` is taken behind
abbrev pub Avoids : {A : Type 0} → Tokens → Tokens → Rest A → Type 0
Avoids after bad (gives a h) = Within bad after
Avoids after bad (wants w f) = (p : Payload w) → Fits w p → bad (token_of w p) ≡ false
Avoids after bad (either w f v g) = ((p : Payload w) → Fits w p → bad (token_of w p) ≡ false) × ((p : Payload v) → Fits v p → bad (token_of v p) ≡ false)
Avoids after bad (reads part f) = EntriesAvoid bad (entries part) × (may_be_empty part ≡ true → Avoids after bad (f (lowest_tree part) (lowest part)))

-- a higher part makes nothing lower, whatever its tree
abbrev pub Rises : {A B : Type 0} → (A → ℕ → Rest B) → Type 0
Rises f = (a b : _) (h g : ℕ) → h ≤ g → least (f a h) ≤ least (f b g)

-- what is expected is in step with the grammar, where none of `after` is taken behind
abbrev pub Sound : {A : Type 0} → Tokens → Rest A → Type 0
Sound after (gives a h) = Unit {0}
Sound after (wants w f) = Fits w (some_payload w) × ((p : Payload w) → Sound after (f p)) × ((p : Payload w) → least (f (some_payload w)) ≤ least (f p))
Sound after (either w f v g) =
    Fits w (some_payload w) × ((p : Payload w) → Sound after (f p)) × ((p : Payload w) → least (f (some_payload w)) ≤ least (f p))
    × ((p : Payload v) → Sound after (g p)) × ((p : Payload v) → least (f (some_payload w)) ≤ least (g p)) × ((p : Payload v) → Fits v p
    → told w (token_of v p) ≡ None)
Sound after (reads part f) = ((a : Tree part) (h : ℕ) → Sound after (f a h)) × Rises f × ((a : Tree part) (h : ℕ) → Avoids after (follows part) (f a h))
