-- What it is to read a part, and what is still expected, by the grammar.
use Rattle.std.proofs.Common.{◌≡◌, ℕ, suc, max, List, [], ◌∷◌, ◌⊎◌}
use Rattle.zir_tree.specs.declared.place.Place.{Place}
use Rattle.zir_tree.specs.declared.types.TypeExpr.{TypeExpr}
use Rattle.zir_tree.specs.declared.types.Field.{Field}
use Rattle.zir_tree.specs.declared.expr.Expr.{Expr}
use Rattle.zir_tree.specs.declared.stmt.Var.{Var}
use Rattle.zir_tree.specs.declared.stmt.Stmt.{Stmt}
use Rattle.zir_tree.specs.declared.stmt.Stmt as stmt
use Rattle.zir_tree.specs.declared.comp.Comp.{Comp}
use Rattle.zir_tree.specs.declared.comp.Member.{Member}
use Rattle.zir_lex.specs.declared.token.Token.{Token}
use Rattle.zir_lex.specs.declared.token.Keyword.TheVariants as keyword
use Rattle.zir_lex.specs.declared.token.Symbol.TheVariants as symbol
use Rattle.zir_grammar.specs.Grammar.{
  word,
  sign,
  name,
  plain_var,
  set_var,
  IsType,
  IsField,
  IsMoreFields,
  IsParams,
  IsBinary,
  IsOperands,
  IsPosts,
  IsPrimary,
  IsArgs,
  IsMoreExprs,
  IsExpr,
  IsVar,
  IsBounds,
  IsTarget,
  IsStmt,
  IsStmts,
  IsMoreStmts,
  IsBody,
  IsMoreBody,
  IsAtom,
  IsChain,
  IsLinks,
  IsBlock,
  IsMembers,
  IsResult,
  IsDecl,
  IsDecls,
}
use Rattle.zir_grammar.specs.Wants.{Want, Payload, Fits, token_of}
use Rattle.zir_grammar.specs.Enclosures.{closing_of, between_of}
use Rattle.zir_grammar.specs.Parts.{
  Left,
  Part,
  a_type_part,
  a_field,
  more_fields,
  some_params,
  a_binary,
  operands_of,
  posts_of,
  behind_parenthesis,
  behind_name,
  some_args,
  more_exprs,
  a_var,
  initial_of,
  some_bounds,
  a_stmt,
  stmt_named,
  target_of,
  else_of,
  some_stmts,
  more_stmts,
  a_body,
  more_body,
  a_chain,
  links_of,
  behind_repeat,
  a_block,
  more_members,
  behind_semicolon,
  a_decl,
  a_result,
  more_decls,
  behind_main,
  behind_pipe,
  Tree,
  Rest,
  gives,
  wants,
  either,
  reads,
  Entry,
  joined,
  joined_height,
}

-- the rest of a variable behind its type
pub data IsInitial (f : Field) (at : Place) : Var → ℕ → List Token → List Token → Type 0 where
  no_initial : {ts : List Token} → IsInitial f at (plain_var f at) 1 ts ts
  initial : {e : Expr} {h : ℕ} {here : Place} {ts rest : List Token} → IsExpr e h ts rest
      → IsInitial f at (set_var f e at) (suc h) (sign symbol.Assign here ∷ ts) rest

-- the rest of an `if` behind its first branch
pub data IsElse (e : Expr) (ss : List Stmt) (low : ℕ) (at : Place) : Stmt → ℕ → List Token → List Token → Type 0 where
  no_else : {ts : List Token} → IsElse e ss low at (stmt.If e ss at) (suc low) ts ts
  other : {os : List Stmt} {h : ℕ} {here : Place} {ts rest : List Token} → IsStmts os h ts rest
      → IsElse e ss low at (stmt.IfElse e ss os at) (suc (max low h)) (word keyword.Else here ∷ ts) rest

-- the end of a block behind a `;`, or more members
pub data IsStopped (done : List Member) (low : ℕ) : List Member → ℕ → List Token → List Token → Type 0 where
  stopped : {at : Place} {rest : List Token} → IsStopped done low done low (sign symbol.RightBrace at ∷ rest) rest
  further : {ms : List Member} {h : ℕ} {ts rest : List Token} → IsMembers done low ms h ts rest → IsStopped done low ms h ts rest

-- what stands behind a component of the main chain: the rest of the chain, `>>> write` and a type in brackets
pub record IsBehindMain (left : Left) (c : Comp) (h : ℕ) (whole : Comp × TypeExpr) (high : ℕ) (ts rest : List Token) : Type 0 where
  pub right : Comp
  pub low : ℕ
  pub mid : List Token
  pub ws : List Token
  pub last : Place
  pub here : Place
  pub opens : Place
  pub closes : Place
  pub serial : IsLinks 0 c h right low ts mid
  pub parallel : IsLinks 1 (joined left right) (joined_height left low) (whole.0) high mid (sign symbol.Pipe last ∷ word keyword.Write here
      ∷ sign symbol.LeftBracket opens ∷ ws)
  pub type : IsType (whole.1) ws (sign symbol.RightBracket closes ∷ rest)

-- the tokens up to the rest are this part
abbrev pub IsPart : (part : Part) → Tree part → ℕ → List Token → List Token → Type 0
IsPart a_type_part t h ts rest = (h ≡ 0) × IsType t ts rest
IsPart a_field f h ts rest = (h ≡ 0) × IsField f ts rest
IsPart (more_fields kind done) fs h ts rest = (h ≡ 0) × IsMoreFields (between_of kind) (closing_of kind) done fs ts rest
IsPart some_params fs h ts rest = (h ≡ 0) × IsParams fs ts rest
IsPart (a_binary n) e h ts rest = IsBinary n e h ts rest
IsPart (operands_of n left low) e h ts rest = IsOperands n left low e h ts rest
IsPart (posts_of of low) e h ts rest = IsPosts of low e h ts rest
IsPart (behind_parenthesis at) e h ts rest = IsPrimary e h (sign symbol.LeftParenthesis at ∷ ts) rest
IsPart (behind_name x at) e h ts rest = IsPrimary e h (name x at ∷ ts) rest
IsPart some_args es h ts rest = IsArgs es h ts rest
IsPart (more_exprs kind done low) es h ts rest = IsMoreExprs (closing_of kind) done low es h ts rest
IsPart a_var v h ts rest = IsVar v h ts rest
IsPart (initial_of f at) v h ts rest = IsInitial f at v h ts rest
IsPart some_bounds b h ts rest = IsBounds (b.0) (b.1) (b.2) h ts rest
IsPart a_stmt s h ts rest = IsStmt s h ts rest
IsPart (stmt_named x at) s h ts rest = IsStmt s h (name x at ∷ ts) rest
IsPart (target_of done low) path h ts rest = IsTarget done low path h ts rest
IsPart (else_of e ss low at) s h ts rest = IsElse e ss low at s h ts rest
IsPart some_stmts ss h ts rest = IsStmts ss h ts rest
IsPart (more_stmts done low) ss h ts rest = IsMoreStmts done low ss h ts rest
IsPart a_body b h ts rest = IsBody b h ts rest
IsPart (more_body done low) b h ts rest = IsMoreBody done low b h ts rest
IsPart (a_chain n) c h ts rest = IsChain n c h ts rest
IsPart (links_of n left low) c h ts rest = IsLinks n left low c h ts rest
IsPart (behind_repeat at) c h ts rest = IsAtom c h (word keyword.Repeat at ∷ ts) rest
IsPart a_block c h ts rest = IsBlock c h ts rest
IsPart (more_members done low) ms h ts rest = IsMembers done low ms h ts rest
IsPart (behind_semicolon done low) ms h ts rest = IsStopped done low ms h ts rest
IsPart a_decl d h ts rest = IsDecl d h ts rest
IsPart a_result t h ts rest = (h ≡ 0) × IsResult t ts rest
IsPart (more_decls done low) ds h ts rest = IsDecls done low ds h ts rest
IsPart (behind_main left c low) whole h ts rest = IsBehindMain left c low whole h ts rest
IsPart (behind_pipe left c low at) whole h ts rest = IsBehindMain left c low whole h (sign symbol.Pipe at ∷ ts) rest

-- the tokens begin with one of that kind, and then with what is expected behind it
abbrev pub Wanted : (w : Want) → (Payload w → List Token → Type 0) → List Token → Type 0
Wanted w P ts = (p : Payload w) × (mid : List Token) × Fits w p × (ts ≡ token_of w p ∷ mid) × P p mid

-- the tokens up to the rest are what was expected for this tree of this height
abbrev pub Reads : {A : Type 0} → Rest A → A → ℕ → List Token → List Token → Type 0
Reads (gives b g) a h ts rest = (a ≡ b) × (h ≡ g) × (ts ≡ rest)
Reads (wants w f) a h ts rest = Wanted w (λ p mid. Reads (f p) a h mid rest) ts
Reads (either w f v g) a h ts rest = Wanted w (λ p mid. Reads (f p) a h mid rest) ts ⊎ Wanted v (λ p mid. Reads (g p) a h mid rest) ts
Reads (reads part f) a h ts rest = (b : Tree part) × (g : ℕ) × (mid : List Token) × IsPart part b g ts mid × Reads (f b g) a h mid rest

-- each entry has this
abbrev pub AllEntries : {A : Type 0} → (Entry A → Type 0) → List (Entry A) → Type 0
AllEntries P [] = Unit {0}
AllEntries P (e ∷ es) = P e × AllEntries P es
