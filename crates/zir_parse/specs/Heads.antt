-- What components and declarations begin with, and what is expected behind that.
use Rattle.std.specs.Prelude.{ℕ, suc, max, List, [], ◌∷◌, Option, Some, None}
use Rattle.zir_tree.specs.declared.place.Place.{Place}
use Rattle.zir_tree.specs.declared.expr.Expr.{Expr}
use Rattle.zir_tree.specs.declared.comp.Turning.TheVariants as turning
use Rattle.zir_tree.specs.declared.comp.Comp as comp
use Rattle.zir_tree.specs.declared.comp.Comp.{Comp}
use Rattle.zir_tree.specs.declared.program.Decl.{Decl}
use Rattle.zir_tree.specs.declared.program.Decl.TheVariants as decl
use Rattle.zir_lex.specs.declared.token.Token.{Token}
use Rattle.zir_lex.specs.declared.token.Lexeme.{Lexeme}
use Rattle.zir_lex.specs.declared.token.Lexeme.TheVariants as lexeme
use Rattle.zir_lex.specs.declared.token.Keyword.TheVariants as keyword
use Rattle.zir_lex.specs.declared.token.Symbol.TheVariants as symbol
use Rattle.zir_grammar.specs.Grammar.{ident, ranks}
use Rattle.zir_grammar.specs.Wants.{a_word, a_name, a_number, if_found}
use Rattle.zir_grammar.specs.Parts.{
  a_field,
  a_binary,
  initial_of,
  some_bounds,
  a_body,
  a_chain,
  behind_repeat,
  more_members,
  Rest,
  gives,
  wants,
  either,
  reads,
  follow,
  some_args,
  done_with,
  wants_sign,
  wants_word,
  loop_on,
  function_rest,
  comp_rest,
  struct_rest,
}
use Rattle.zir_parse.specs.declared.heads.Loop.{Loop}
use Rattle.zir_parse.specs.declared.heads.Loop.TheVariants.{Repeat, Turn, Times, For}
use Rattle.zir_parse.specs.declared.heads.Giving.{Giving}
use Rattle.zir_parse.specs.declared.heads.Giving.TheVariants as giving
use Rattle.zir_parse.specs.declared.heads.Single.{Single}
use Rattle.zir_parse.specs.declared.heads.Single.TheVariants as single
use Rattle.zir_parse.specs.declared.heads.Form.{Form}
use Rattle.zir_parse.specs.declared.heads.Form.TheVariants as form
use Rattle.zir_parse.specs.declared.heads.Head.{Head}
use Rattle.zir_parse.specs.declared.heads.Head.TheVariants as head
use Rattle.zir_parse.specs.declared.heads.Declares.{Declares}
use Rattle.zir_parse.specs.declared.heads.Declares.TheVariants as declares

-- ---- components

-- the form that a lexeme begins
abbrev pub form_of : Lexeme → Option Form
form_of (lexeme.Keyword keyword.Emit) = Some (form.Giving giving.Emit)
form_of (lexeme.Keyword keyword.Emits) = Some (form.Giving giving.Emits)
form_of (lexeme.Keyword keyword.Return) = Some (form.Giving giving.Return)
form_of (lexeme.Keyword keyword.Do) = Some form.Do
form_of (lexeme.Keyword keyword.Repeat) = Some (form.Loop Repeat)
form_of (lexeme.Keyword keyword.While) = Some (form.Loop (Turn turning.While))
form_of (lexeme.Keyword keyword.Until) = Some (form.Loop (Turn turning.Until))
form_of (lexeme.Keyword keyword.Times) = Some (form.Loop Times)
form_of (lexeme.Keyword keyword.For) = Some (form.Loop For)
form_of (lexeme.Keyword keyword.If) = Some form.If
form_of (lexeme.Symbol symbol.LeftBrace) = Some form.Block
form_of (lexeme.Symbol symbol.LeftParenthesis) = Some form.Enclosed
form_of other = None

-- what a lexeme begins a component as
abbrev pub head_of : Lexeme → Option Head
head_of (lexeme.Keyword keyword.Take) = Some (head.Single single.Take)
head_of (lexeme.Keyword keyword.Takes) = Some (head.Single single.Takes)
head_of (lexeme.Keyword keyword.Map) = Some (head.Single single.Map)
head_of (lexeme.Keyword keyword.Filter) = Some (head.Single single.Filter)
head_of other = if_found (form_of other) (λ f. Some (head.Form f)) None

-- what a component begins with at the front, its place, and what follows it
abbrev pub head_front : List Token → Option (Head × Place × List Token)
head_front [] = None
head_front (t ∷ ts) = if_found (head_of t.lexeme) (λ h. Some (h, t.at, ts)) None

-- the least height of a component that begins so
abbrev pub least_height : Head → ℕ
least_height (head.Single s) = 1
least_height (head.Form f) = 2

-- what is expected behind the word of a loop
abbrev pub behind_loop : Loop → Place → Rest Comp
behind_loop Repeat at = reads (behind_repeat at) done_with
behind_loop (Turn how) at = loop_on (λ e c. comp.While how e c at)
behind_loop Times at = loop_on (λ e c. comp.Times e c at)
behind_loop For at =
    reads some_bounds (λ b h. reads (a_chain 0) (λ c g. gives (comp.For b.0 b.1 b.2 c at) (suc (max h g))))

-- a component that gives a value
abbrev pub giving_of : Giving → Expr → Place → Comp
giving_of giving.Emit e at = comp.Emit e at
giving_of giving.Emits e at = comp.Emits e at
giving_of giving.Return e at = comp.Return e at

-- what is expected behind the first token of a form
abbrev pub behind_form : Form → Place → Rest Comp
behind_form (form.Giving g) at = reads (a_binary ranks) (λ e h. gives (giving_of g e at) (suc h))
behind_form form.Do at = reads a_body (λ b h. gives (comp.Do b at) (suc h))
behind_form (form.Loop l) at = behind_loop l at
behind_form form.If at =
    reads (a_binary ranks) (λ e h. wants_word keyword.Then (reads (a_chain 0) (λ c g.
    wants_word keyword.Else (reads (a_chain 0) (λ d f. gives (comp.If e c d at) (suc (max (max h g) f)))))))
behind_form form.Block at = reads (more_members [] 0) (λ ms h. gives (comp.Block ms at) (suc h))
behind_form form.Enclosed at = reads (a_chain 2) (λ c h. wants_sign symbol.RightParenthesis (gives c (suc h)))

-- what is expected behind the word of a component without parts
abbrev pub behind_single : Single → Place → Rest Comp
behind_single single.Take at = gives (comp.Take at) 1
behind_single single.Takes at = wants a_number (λ n. gives (comp.Takes n.0 at) 1)
behind_single single.Map at = wants a_name (λ x. gives (comp.Map (ident x.0 x.1) 0 at) 1)
behind_single single.Filter at = wants a_name (λ x. gives (comp.Filter (ident x.0 x.1) 0 at) 1)

-- what is expected behind the first token of a component
abbrev pub behind_head : Head → Place → Rest Comp
behind_head (head.Single s) at = behind_single s at
behind_head (head.Form f) at = behind_form f at

-- a call behind its name
abbrev pub a_call_behind : {A : Type 0} → List ℕ → Place → (Comp → ℕ → Rest A) → Rest A
a_call_behind x at k =
    wants_sign symbol.LeftParenthesis (reads some_args (λ es h. k (comp.Call (ident x at) 0 es) (suc h)))

-- a component without parts behind its word
abbrev pub a_single_behind : {A : Type 0} → Single → Place → (Comp → ℕ → Rest A) → Rest A
a_single_behind s at k = follow (behind_single s at) k

-- a component with parts behind its first token
abbrev pub a_form_behind : {A : Type 0} → Form → Place → (Comp → ℕ → Rest A) → Rest A
a_form_behind f at k = follow (behind_form f at) k

-- ---- declarations

-- what a lexeme begins a declaration as
abbrev pub declares_of : Lexeme → Option Declares
declares_of (lexeme.Keyword keyword.Struct) = Some declares.Struct
declares_of (lexeme.Keyword keyword.Fun) = Some declares.Function
declares_of (lexeme.Keyword keyword.Var) = Some declares.Var
declares_of other = None

-- what a declaration begins with at the front, its place, and what follows it
abbrev pub declares_front : List Token → Option (Declares × Place × List Token)
declares_front [] = None
declares_front (t ∷ ts) = if_found (declares_of t.lexeme) (λ d. Some (d, t.at, ts)) None

-- what is expected behind the first word of a declaration
abbrev pub behind_word : Declares → Place → Rest Decl
behind_word declares.Struct at = struct_rest at
behind_word declares.Function at = either a_name (function_rest at) (a_word keyword.Comp) (λ here. comp_rest at)
behind_word declares.Var at =
    reads a_field (λ f h. reads (initial_of f at) (λ v g. wants_sign symbol.Semicolon (gives (decl.Var v) g)))

-- a declaration behind its first word
abbrev pub a_decl_behind : {A : Type 0} → Declares → Place → (Decl → ℕ → Rest A) → Rest A
a_decl_behind d at k = follow (behind_word d at) k

-- a struct behind its word
abbrev pub a_struct_behind : {A : Type 0} → Place → (Decl → ℕ → Rest A) → Rest A
a_struct_behind at k = follow (struct_rest at) k

-- a function behind `fun`
abbrev pub a_function_behind : {A : Type 0} → Place → (Decl → ℕ → Rest A) → Rest A
a_function_behind at k = wants a_name (λ x. follow (function_rest at x) k)

-- a function of components behind its words
abbrev pub a_comp_behind : {A : Type 0} → Place → (Decl → ℕ → Rest A) → Rest A
a_comp_behind at k = follow (comp_rest at) k
