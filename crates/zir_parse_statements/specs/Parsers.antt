-- What the functions that read expressions and statements say.
use Rattle.std.specs.Prelude.{◌≡◌, ℕ, suc, max, pos, Bool, true, false, List, [], ◌∷◌, Option, Some, None, Result}
use Rattle.zir_tree.specs.declared.place.Place.{Place}
use Rattle.zir_tree.specs.declared.types.Base.{Base}
use Rattle.zir_tree.specs.declared.types.Base.TheVariants as base
use Rattle.zir_tree.specs.declared.expr.Expr.{Expr}
use Rattle.zir_tree.specs.declared.expr.Expr as expr
use Rattle.zir_tree.specs.declared.stmt.Var.{Var}
use Rattle.zir_tree.specs.declared.stmt.Access.{Access}
use Rattle.zir_tree.specs.declared.stmt.Access.TheVariants as access
use Rattle.zir_tree.specs.declared.stmt.Stmt.{Stmt}
use Rattle.zir_tree.specs.declared.stmt.Stmt as stmt
use Rattle.zir_tree.specs.declared.program.Prog.{Prog}
use Rattle.zir_lex.specs.declared.token.Token.{Token}
use Rattle.zir_lex.specs.declared.token.Keyword.TheVariants as keyword
use Rattle.zir_lex.specs.declared.token.Symbol.{Symbol}
use Rattle.zir_lex.specs.declared.token.Symbol.TheVariants as symbol
use Rattle.zir_grammar.specs.declared.enclosure.Enclosure.{Enclosure}
use Rattle.zir_grammar.specs.declared.stop.Stop.{Stop}
use Rattle.zir_grammar.specs.Grammar.{ranks}
use Rattle.zir_grammar.specs.Wants.{a_word, a_sign, a_number, a_bit, a_text}
use Rattle.zir_grammar.specs.Parts.{Rest, wants, either, reads, a_binary, posts_of, more_exprs, a_field, initial_of, some_bounds, some_stmts, else_of, wants_sign, wants_word}
use Rattle.zir_grammar.specs.Machine.{run}
use Rattle.zir_grammar.specs.Reading.{at_front, Leads, HasRoom}

-- A function reads a whole before whatever is expected behind it: from its tokens the machine gets to where it is behind
-- the tree, of its height, at what follows, which the view takes from what the function returned; or it stops as the function
-- did. The least height of the whole is `low`, and `room` is the greatest that it may have.
abbrev pub Parses : {X A : Type 0} → ((A → ℕ → Rest Prog) → Rest Prog) → ℕ → ℕ → List Token → (X → A × ℕ × List Token) → Result X Stop → Type 0
Parses {A = A} whole low room tokens view result =
    (most : ℕ) (k : A → ℕ → Rest Prog) → HasRoom most k low room
    → Leads (λ x. run most (k (view x).0 (view x).1) (view x).2) result (run most (whole k) tokens)

-- ---- expressions

-- an expression
abbrev pub an_expr : {A : Type 0} → (Expr → ℕ → Rest A) → Rest A
an_expr k = reads (a_binary ranks) k

-- an expression and a sign
abbrev pub expr_before : {A : Type 0} → Symbol → (Expr → ℕ → Rest A) → Rest A
expr_before s k = an_expr (λ e h. wants_sign s (k e h))

-- an expression in parentheses
abbrev pub expr_inside : {A : Type 0} → (Expr → ℕ → Rest A) → Rest A
expr_inside k = wants_sign symbol.LeftParenthesis (expr_before symbol.RightParenthesis k)

-- expressions behind the sign that opens a list, of which there is one at least
abbrev pub some_exprs : {A : Type 0} → Enclosure → (List Expr → ℕ → Rest A) → Rest A
some_exprs kind k = an_expr (λ e h. reads (more_exprs kind (e ∷ []) h) k)

-- an index behind its bracket, or a slice with its length
abbrev pub an_index : {A : Type 0} → (Expr × Option ℕ → ℕ → Rest A) → Rest A
an_index k =
    an_expr (λ i h. either (a_sign symbol.RightBracket) (λ closes. k (i, None) h) (a_sign symbol.Comma)
    (λ comma. wants a_number (λ n. wants_sign symbol.RightBracket (k (i, Some n.0) h))))

-- an index or a slice of a base
abbrev pub indexed_by : Expr → Expr → Option ℕ → Place → Expr
indexed_by of i None at = expr.Index of i at
indexed_by of i (Some n) at = expr.Slice of i n at

-- a step of a path by an index or a slice
abbrev pub step_by : Expr → Option ℕ → Place → Access
step_by i None at = access.Index i at
step_by i (Some n) at = access.Slice i n at

-- a conversion to that type, behind its word
abbrev pub a_conversion_to : {A : Type 0} → Base → Place → (Expr → ℕ → Rest A) → Rest A
a_conversion_to b at k =
    wants_sign symbol.LeftParenthesis (an_expr (λ e h. either (a_sign symbol.RightParenthesis) (λ closes. k (expr.Convert b e at) (suc h))
    (a_sign symbol.Comma) (λ comma. expr_before symbol.RightParenthesis (λ f g. k (expr.Complex b e f at) (suc (max h g))))))

-- A function reads a primary: the machine gets to where indexes, slices and fields may join on to it.
abbrev pub BeforePosts : {X : Type 0} → ℕ → List Token → (X → Expr × ℕ × List Token) → Result X Stop → Type 0
BeforePosts room tokens view result =
    (most : ℕ) (k : Expr → ℕ → Rest Prog) → HasRoom most k 1 room
    → Leads (λ x. run most (reads (posts_of (view x).0 (view x).1) k) (view x).2) result (run most (reads (a_binary 0) k) tokens)

-- a literal at the front, and what follows it
pub data IsLiteral : Expr → List Token → List Token → Type 0 where
  a_number_first : {n : ℕ} {at : Place} {ts rest : List Token} → at_front a_number ts ≡ Some ((n, at), rest) → IsLiteral (expr.Int (pos n) base.Unit at) ts rest
  a_bit_first : {b : Bool} {at : Place} {ts rest : List Token} → at_front a_bit ts ≡ Some ((b, at), rest) → IsLiteral (expr.Bit b at) ts rest
  true_first : {at : Place} {ts rest : List Token} → at_front (a_word keyword.True) ts ≡ Some (at, rest) → IsLiteral (expr.Bool true at) ts rest
  false_first : {at : Place} {ts rest : List Token} → at_front (a_word keyword.False) ts ≡ Some (at, rest) → IsLiteral (expr.Bool false at) ts rest

-- no literal is at the front
pub record NoLiteral (ts : List Token) : Type 0 where
  pub no_number : at_front a_number ts ≡ None
  pub no_bit : at_front a_bit ts ≡ None
  pub no_true : at_front (a_word keyword.True) ts ≡ None
  pub no_false : at_front (a_word keyword.False) ts ≡ None

-- ---- variables and statements

-- a variable behind its `var`
abbrev pub a_var_behind : {A : Type 0} → Place → (Var → ℕ → Rest A) → Rest A
a_var_behind at k = reads a_field (λ f h. reads (initial_of f at) k)

-- the value behind `return`, up to the end of the body
abbrev pub a_result_end : {A : Type 0} → (Expr → ℕ → Rest A) → Rest A
a_result_end k =
    an_expr (λ e h. either (a_sign symbol.RightBrace) (λ closes. k e h) (a_sign symbol.Semicolon) (λ stop. wants_sign symbol.RightBrace (k e h)))

-- two expressions with `,` between them and `]` behind
abbrev pub two_exprs : {A : Type 0} → (Expr × Expr → ℕ → Rest A) → Rest A
two_exprs k = expr_before symbol.Comma (λ e h. expr_before symbol.RightBracket (λ f g. k (e, f) (max h g)))

-- `error` behind its word
abbrev pub an_error_behind : {A : Type 0} → Place → (Stmt → ℕ → Rest A) → Rest A
an_error_behind at k = wants a_text (λ s. k (stmt.Error s.0 at) 1)

-- `while` behind its word
abbrev pub a_while_behind : {A : Type 0} → Place → (Stmt → ℕ → Rest A) → Rest A
a_while_behind at k = expr_inside (λ e h. reads some_stmts (λ ss g. k (stmt.While e ss at) (suc (max h g))))

-- `for` behind its word
abbrev pub a_count_behind : {A : Type 0} → Place → (Stmt → ℕ → Rest A) → Rest A
a_count_behind at k = reads some_bounds (λ b h. reads some_stmts (λ ss g. k (stmt.For b.0 b.1 b.2 ss at) (suc (max h g))))

-- `if` behind its word
abbrev pub a_test_behind : {A : Type 0} → Place → (Stmt → ℕ → Rest A) → Rest A
a_test_behind at k = an_expr (λ e h. wants_word keyword.Then (reads some_stmts (λ ss g. reads (else_of e ss (max h g) at) k)))
