-- The parts of a program, and what may stand in each, as a table.
use Rattle.std.specs.Prelude.{ℕ, zero, suc, max, pos, Bool, true, false, List, [], ◌∷◌, ◌++◌, Option, Some, None}
use Rattle.zir_tree.specs.declared.place.Place.{Place}
use Rattle.zir_tree.specs.declared.ident.Ident.{Ident}
use Rattle.zir_tree.specs.declared.types.Base.{Base}
use Rattle.zir_tree.specs.declared.types.Base.TheVariants as base
use Rattle.zir_tree.specs.declared.types.TypeExpr.{TypeExpr}
use Rattle.zir_tree.specs.declared.types.Field.{Field}
use Rattle.zir_tree.specs.declared.expr.Callee.TheVariants as callee
use Rattle.zir_tree.specs.declared.expr.Expr.{Expr}
use Rattle.zir_tree.specs.declared.expr.Expr as expr
use Rattle.zir_tree.specs.declared.stmt.Var.{Var}
use Rattle.zir_tree.specs.declared.stmt.Access.{Access}
use Rattle.zir_tree.specs.declared.stmt.Access.TheVariants as access
use Rattle.zir_tree.specs.declared.stmt.Stmt.{Stmt}
use Rattle.zir_tree.specs.declared.stmt.Stmt as stmt
use Rattle.zir_tree.specs.declared.stmt.Body.{Body}
use Rattle.zir_tree.specs.declared.comp.Turning.TheVariants as turning
use Rattle.zir_tree.specs.declared.comp.Link.TheVariants as link
use Rattle.zir_tree.specs.declared.comp.Comp.{Comp}
use Rattle.zir_tree.specs.declared.comp.Comp as comp
use Rattle.zir_tree.specs.declared.comp.Member.{Member}
use Rattle.zir_tree.specs.declared.comp.Member as member
use Rattle.zir_tree.specs.declared.program.Decl.{Decl}
use Rattle.zir_tree.specs.declared.program.Decl.TheVariants as decl
use Rattle.zir_tree.specs.declared.program.Prog.{Prog}
use Rattle.zir_lex.specs.declared.token.Keyword.{Keyword}
use Rattle.zir_lex.specs.declared.token.Keyword.TheVariants as keyword
use Rattle.zir_lex.specs.declared.token.Symbol.{Symbol}
use Rattle.zir_lex.specs.declared.token.Symbol.TheVariants as symbol
use Rattle.zir_grammar.specs.Grammar.{ident, base_of, conversion_of, plain_type, struct_type, array_type, field, ranks, set_var, plain_body, result_body}
use Rattle.zir_grammar.specs.declared.enclosure.Enclosure.{Enclosure}
use Rattle.zir_grammar.specs.declared.enclosure.Enclosure.TheVariants.{Parentheses as parentheses, Braces as braces}
use Rattle.zir_grammar.specs.Enclosures.{closing_of, between_of}
use Rattle.zir_grammar.specs.Wants.{Want, a_word, a_sign, the_main, a_name, a_number, a_bit, a_text, a_type, a_conversion, a_prefix, an_operator, a_link, Payload}

-- what stands to the left of a component of the main chain: a component with its height, and the place of the `|>>>|` behind it
abbrev pub Left : Type 0
Left = Option (Comp × ℕ × Place)

-- what a reader may be reading; what was read of a part before stands in it
pub data Part : Type 0 where
  a_type_part : Part
  a_field : Part
  more_fields : Enclosure → List Field → Part
  some_params : Part
  -- an expression of operators below a rank; what joins on to it at a rank
  a_binary : ℕ → Part
  operands_of : ℕ → Expr → ℕ → Part
  posts_of : Expr → ℕ → Part
  -- behind a `(`, and behind a name
  behind_parenthesis : Place → Part
  behind_name : List ℕ → Place → Part
  some_args : Part
  more_exprs : Enclosure → List Expr → ℕ → Part
  a_var : Part
  initial_of : Field → Place → Part
  some_bounds : Part
  a_stmt : Part
  stmt_named : List ℕ → Place → Part
  target_of : List Access → ℕ → Part
  else_of : Expr → List Stmt → ℕ → Place → Part
  some_stmts : Part
  more_stmts : List Stmt → ℕ → Part
  a_body : Part
  more_body : List Stmt → ℕ → Part
  -- a component of signs below a rank; what joins on to it at a rank
  a_chain : ℕ → Part
  links_of : ℕ → Comp → ℕ → Part
  behind_repeat : Place → Part
  a_block : Part
  more_members : List Member → ℕ → Part
  -- more members, or the end of the block
  behind_semicolon : List Member → ℕ → Part
  a_decl : Part
  a_result : Part
  more_decls : List Decl → ℕ → Part
  -- behind a component of the main chain, and behind a `>>>` there
  behind_main : Left → Comp → ℕ → Part
  behind_pipe : Left → Comp → ℕ → Place → Part

-- the tree of a part
abbrev pub Tree : Part → Type 0
Tree a_type_part = TypeExpr
Tree a_field = Field
Tree (more_fields kind done) = List Field
Tree some_params = List Field
Tree (a_binary n) = Expr
Tree (operands_of n left low) = Expr
Tree (posts_of of low) = Expr
Tree (behind_parenthesis at) = Expr
Tree (behind_name x at) = Expr
Tree some_args = List Expr
Tree (more_exprs kind done low) = List Expr
Tree a_var = Var
Tree (initial_of f at) = Var
Tree some_bounds = Ident × Expr × Expr
Tree a_stmt = Stmt
Tree (stmt_named x at) = Stmt
Tree (target_of done low) = List Access
Tree (else_of e ss low at) = Stmt
Tree some_stmts = List Stmt
Tree (more_stmts done low) = List Stmt
Tree a_body = Body
Tree (more_body done low) = Body
Tree (a_chain n) = Comp
Tree (links_of n left low) = Comp
Tree (behind_repeat at) = Comp
Tree a_block = Comp
Tree (more_members done low) = List Member
Tree (behind_semicolon done low) = List Member
Tree a_decl = Decl
Tree a_result = Option TypeExpr
Tree (more_decls done low) = List Decl
Tree (behind_main left c h) = Comp × TypeExpr
Tree (behind_pipe left c h at) = Comp × TypeExpr

-- what is still expected for a tree and its height
pub data Rest (A : Type 0) : Type 0 where
  -- nothing
  gives : A → ℕ → Rest A
  -- a token
  wants : (w : Want) → (Payload w → Rest A) → Rest A
  -- a token of one of two kinds
  either : (w : Want) → (Payload w → Rest A) → (v : Want) → (Payload v → Rest A) → Rest A
  -- a part
  reads : (part : Part) → (Tree part → ℕ → Rest A) → Rest A

-- first the one, and then what is made of its tree and its height
abbrev pub follow : {A B : Type 0} → Rest A → (A → ℕ → Rest B) → Rest B
follow (gives a h) k = k a h
follow (wants w f) k = wants w (λ p. follow (f p) k)
follow (either w f v g) k = either w (λ p. follow (f p) k) v (λ p. follow (g p) k)
follow (reads part f) k = reads part (λ a h. follow (f a h) k)

-- a token that a part may begin with, and what is expected behind it
pub record Entry (A : Type 0) : Type 0 where
  pub want : Want
  pub next : Payload want → Rest A

-- the entries of a part that goes on behind another
abbrev pub lead : {A B : Type 0} → List (Entry A) → (A → ℕ → Rest B) → List (Entry B)
lead [] k = []
lead (e ∷ es) k = record { want = e.want; next = λ p. follow (e.next p) k } ∷ lead es k

-- one entry
abbrev pub on : {A : Type 0} (w : Want) → (Payload w → Rest A) → Entry A
on w f = record { want = w; next = f }

-- nothing more than what there is
abbrev pub done_with : {A : Type 0} → A → ℕ → Rest A
done_with a h = gives a h

-- a sign whose place is not kept
abbrev pub wants_sign : {A : Type 0} → Symbol → Rest A → Rest A
wants_sign s r = wants (a_sign s) (λ at. r)

-- a word whose place is not kept
abbrev pub wants_word : {A : Type 0} → Keyword → Rest A → Rest A
wants_word w r = wants (a_word w) (λ at. r)

-- ---- types and fields

-- the type of a keyword, where it has one
abbrev pub known : Option Base → Base
known (Some b) = b
known None = base.Unit

-- what a type begins with
abbrev pub type_entries : List (Entry TypeExpr)
type_entries =
    on a_type (λ p. gives (plain_type (known (base_of p.0)) p.1) 0)
    ∷ on a_name (λ p. gives (struct_type p.0 p.1) 0)
    ∷ on (a_word keyword.Arr) (λ at. wants_sign symbol.LeftBracket (wants a_number (λ n. wants_sign symbol.RightBracket
    (reads a_type_part (λ t h. gives (array_type n.0 at t) h)))))
    ∷ []

-- what a field begins with
abbrev pub field_entries : List (Entry Field)
field_entries = on a_name (λ p. wants_sign symbol.Colon (reads a_type_part (λ t h. gives (field p.0 p.1 t) 0))) ∷ []

-- ---- expressions

-- behind the first expression of a conversion
abbrev pub conversion_end : Keyword → Place → Expr → ℕ → Rest Expr
conversion_end w at e h =
    either (a_sign symbol.RightParenthesis) (λ closes. gives (expr.Convert (known (conversion_of w)) e at) (suc h))
    (a_sign symbol.Comma) (λ comma. reads (a_binary ranks)
    (λ f g. wants_sign symbol.RightParenthesis (gives (expr.Complex (known (conversion_of w)) e f at) (suc (max h g)))))

-- behind the word of a conversion
abbrev pub conversion_rest : Keyword → Place → Rest Expr
conversion_rest w at = wants_sign symbol.LeftParenthesis (reads (a_binary ranks) (conversion_end w at))

-- what a primary begins with
abbrev pub primary_entries : List (Entry Expr)
primary_entries =
    on a_number (λ p. gives (expr.Int (pos p.0) base.Unit p.1) 1)
    ∷ on a_bit (λ p. gives (expr.Bit p.0 p.1) 1)
    ∷ on a_conversion (λ p. conversion_rest p.0 p.1)
    ∷ on (a_word keyword.True) (λ at. gives (expr.Bool true at) 1)
    ∷ on (a_word keyword.False) (λ at. gives (expr.Bool false at) 1)
    ∷ on (a_sign symbol.LeftParenthesis) (λ at. reads (behind_parenthesis at) done_with)
    ∷ on a_name (λ p. reads (behind_name p.0 p.1) done_with)
    ∷ on (a_sign symbol.LeftBrace) (λ at. reads (a_binary ranks) (λ e h. reads (more_exprs braces (e ∷ []) h) (λ es g. gives (expr.Array es at) (suc g))))
    ∷ []

-- an operator before its operand
abbrev pub prefix_entry : Entry Expr
prefix_entry = on a_prefix (λ p. reads (a_binary 0) (λ e h. gives (expr.Unary p.0 base.Unit e p.1) (suc h)))

-- what an expression of operators below a rank begins with
abbrev pub binary_entries : ℕ → List (Entry Expr)
binary_entries zero = lead primary_entries (λ e h. reads (posts_of e h) done_with) ++ prefix_entry ∷ []
binary_entries (suc n) = lead (binary_entries n) (λ e h. reads (operands_of n e h) done_with)

-- an operator of a rank, and its right side
abbrev pub operand_entries : ℕ → Expr → ℕ → List (Entry Expr)
operand_entries n left low =
    on (an_operator n) (λ p. reads (a_binary n) (λ right h. reads (operands_of n (expr.Binary p.0 base.Unit left right p.1) (suc (max low h))) done_with)) ∷ []

-- behind the first expression in brackets
abbrev pub post_end : Expr → ℕ → Place → Expr → ℕ → Rest Expr
post_end of low at i h =
    either (a_sign symbol.RightBracket) (λ closes. reads (posts_of (expr.Index of i at) (suc (max low h))) done_with)
    (a_sign symbol.Comma) (λ comma. wants a_number (λ n. wants_sign symbol.RightBracket
    (reads (posts_of (expr.Slice of i n.0 at) (suc (max low h))) done_with)))

-- an index, a slice or a field
abbrev pub post_entries : Expr → ℕ → List (Entry Expr)
post_entries of low =
    on (a_sign symbol.LeftBracket) (λ at. reads (a_binary ranks) (post_end of low at))
    ∷ on (a_sign symbol.Dot) (λ at. wants a_name (λ x. reads (posts_of (expr.Part of x.0 0 at) (suc low)) done_with))
    ∷ []

-- what stands behind a `(` in an expression
abbrev pub parenthesis_entries : Place → List (Entry Expr)
parenthesis_entries at =
    on (a_sign symbol.RightParenthesis) (λ closes. gives (expr.Unit at) 1)
    ∷ lead (binary_entries ranks) (λ e h. wants_sign symbol.RightParenthesis (gives e (suc h)))

-- the arguments of a call in an expression
abbrev pub call_entries : List ℕ → Place → List (Entry Expr)
call_entries x at = on (a_sign symbol.LeftParenthesis) (λ opens. reads some_args (λ es h. gives (expr.Call (ident x at) (callee.Function 0) es) (suc h))) ∷ []

-- arguments
abbrev pub args_entries : List (Entry (List Expr))
args_entries =
    on (a_sign symbol.RightParenthesis) (λ at. gives [] 0)
    ∷ lead (binary_entries ranks) (λ e h. reads (more_exprs parentheses (e ∷ []) h) done_with)

-- ---- statements

-- a variable
abbrev pub var_entries : List (Entry Var)
var_entries = on (a_word keyword.Var) (λ at. reads a_field (λ f h. reads (initial_of f at) done_with)) ∷ []

-- the initial value of a variable
abbrev pub initial_entries : Field → Place → List (Entry Var)
initial_entries f at = on (a_sign symbol.Assign) (λ here. reads (a_binary ranks) (λ e h. gives (set_var f e at) (suc h))) ∷ []

-- the name of a loop and its bounds
abbrev pub bounds_entries : List (Entry (Ident × Expr × Expr))
bounds_entries =
    on a_name (λ p. wants_word keyword.In (wants_sign symbol.LeftBracket (reads (a_binary ranks) (λ from h.
    wants_sign symbol.Comma (reads (a_binary ranks) (λ count g. wants_sign symbol.RightBracket (gives (ident p.0 p.1, from, count) (max h g))))))))
    ∷ []

-- what a statement begins with
abbrev pub stmt_entries : List (Entry Stmt)
stmt_entries =
    on a_name (λ p. reads (stmt_named p.0 p.1) done_with)
    ∷ on (a_word keyword.Error) (λ at. wants a_text (λ s. gives (stmt.Error s.0 at) 1))
    ∷ on (a_word keyword.If) (λ at. reads (a_binary ranks) (λ e h. wants_word keyword.Then
    (reads some_stmts (λ ss g. reads (else_of e ss (max h g) at) done_with))))
    ∷ on (a_word keyword.While) (λ at. wants_sign symbol.LeftParenthesis (reads (a_binary ranks) (λ e h.
    wants_sign symbol.RightParenthesis (reads some_stmts (λ ss g. gives (stmt.While e ss at) (suc (max h g)))))))
    ∷ on (a_word keyword.For) (λ at. reads some_bounds (λ b h. reads some_stmts (λ ss g. gives (stmt.For b.0 b.1 b.2 ss at) (suc (max h g)))))
    ∷ lead var_entries (λ v h. gives (stmt.Var v) h)

-- behind the first expression in brackets of a path
abbrev pub target_end : List Access → ℕ → Place → Expr → ℕ → Rest (List Access)
target_end done low at i h =
    either (a_sign symbol.RightBracket) (λ closes. reads (target_of (done ++ access.Index i at ∷ []) (suc (max low h))) done_with)
    (a_sign symbol.Comma) (λ comma. wants a_number (λ n. wants_sign symbol.RightBracket
    (reads (target_of (done ++ access.Slice i n.0 at ∷ []) (suc (max low h))) done_with)))

-- the path behind an assigned name, and `:=`
abbrev pub target_entries : List Access → ℕ → List (Entry (List Access))
target_entries done low =
    on (a_sign symbol.Assign) (λ at. gives done low)
    ∷ on (a_sign symbol.LeftBracket) (λ at. reads (a_binary ranks) (target_end done low at))
    ∷ on (a_sign symbol.Dot) (λ at. wants a_name (λ x. reads (target_of (done ++ access.Part x.0 0 at ∷ []) (suc low)) done_with))
    ∷ []

-- what stands behind the name that begins a statement
abbrev pub named_entries : List ℕ → Place → List (Entry Stmt)
named_entries x at =
    on (a_sign symbol.LeftParenthesis) (λ opens. reads some_args (λ es h. gives (stmt.Call (ident x at) 0 es) (suc h)))
    ∷ lead (target_entries [] 1) (λ path low. reads (a_binary ranks) (λ e h. gives (stmt.Assign (ident x at) path e) (suc (max low h))))

-- the second branch of a statement
abbrev pub else_entries : Expr → List Stmt → ℕ → Place → List (Entry Stmt)
else_entries e ss low at = on (a_word keyword.Else) (λ here. reads some_stmts (λ os h. gives (stmt.IfElse e ss os at) (suc (max low h)))) ∷ []

-- behind a statement in braces
abbrev pub stmt_end : List Stmt → ℕ → Stmt → ℕ → Rest (List Stmt)
stmt_end done low s h =
    either (a_sign symbol.RightBrace) (λ at. gives (done ++ s ∷ []) (max low h))
    (a_sign symbol.Semicolon) (λ at. reads (more_stmts (done ++ s ∷ []) (max low h)) done_with)

-- statements up to `}`
abbrev pub stmts_entries : List Stmt → ℕ → List (Entry (List Stmt))
stmts_entries done low = on (a_sign symbol.RightBrace) (λ at. gives done low) ∷ lead stmt_entries (stmt_end done low)

-- behind a statement of a body
abbrev pub body_end : List Stmt → ℕ → Stmt → ℕ → Rest Body
body_end done low s h =
    either (a_sign symbol.RightBrace) (λ at. gives (plain_body (done ++ s ∷ [])) (max low h))
    (a_sign symbol.Semicolon) (λ at. reads (more_body (done ++ s ∷ []) (max low h)) done_with)

-- behind the result of a body
abbrev pub return_end : List Stmt → ℕ → Place → Expr → ℕ → Rest Body
return_end done low at e h =
    either (a_sign symbol.RightBrace) (λ closes. gives (result_body done e at) (max low (suc h)))
    (a_sign symbol.Semicolon) (λ stop. wants_sign symbol.RightBrace (gives (result_body done e at) (max low (suc h))))

-- the statements of a body up to `}`
abbrev pub body_entries : List Stmt → ℕ → List (Entry Body)
body_entries done low =
    on (a_sign symbol.RightBrace) (λ at. gives (plain_body done) low)
    ∷ on (a_word keyword.Return) (λ at. reads (a_binary ranks) (return_end done low at))
    ∷ lead stmt_entries (body_end done low)

-- ---- components

-- a loop with a condition in parentheses
abbrev pub loop_on : (Expr → Comp → Comp) → Rest Comp
loop_on make =
    wants_sign symbol.LeftParenthesis (reads (a_binary ranks) (λ e h. wants_sign symbol.RightParenthesis
    (reads (a_chain 0) (λ c g. gives (make e c) (suc (max h g))))))

-- a block
abbrev pub block_entries : List (Entry Comp)
block_entries = on (a_sign symbol.LeftBrace) (λ at. reads (more_members [] 0) (λ ms h. gives (comp.Block ms at) (suc h))) ∷ []

-- what an atom other than a block begins with
abbrev pub atom_entries : List (Entry Comp)
atom_entries =
    on (a_word keyword.Take) (λ at. gives (comp.Take at) 1)
    ∷ on (a_word keyword.Takes) (λ at. wants a_number (λ n. gives (comp.Takes n.0 at) 1))
    ∷ on (a_word keyword.Emit) (λ at. reads (a_binary ranks) (λ e h. gives (comp.Emit e at) (suc h)))
    ∷ on (a_word keyword.Emits) (λ at. reads (a_binary ranks) (λ e h. gives (comp.Emits e at) (suc h)))
    ∷ on (a_word keyword.Return) (λ at. reads (a_binary ranks) (λ e h. gives (comp.Return e at) (suc h)))
    ∷ on (a_word keyword.Do) (λ at. reads a_body (λ b h. gives (comp.Do b at) (suc h)))
    ∷ on (a_word keyword.Repeat) (λ at. reads (behind_repeat at) done_with)
    ∷ on (a_word keyword.While) (λ at. loop_on (λ e c. comp.While turning.While e c at))
    ∷ on (a_word keyword.Until) (λ at. loop_on (λ e c. comp.While turning.Until e c at))
    ∷ on (a_word keyword.Times) (λ at. loop_on (λ e c. comp.Times e c at))
    ∷ on (a_word keyword.For) (λ at. reads some_bounds (λ b h. reads (a_chain 0) (λ c g. gives (comp.For b.0 b.1 b.2 c at) (suc (max h g)))))
    ∷ on (a_word keyword.If) (λ at. reads (a_binary ranks) (λ e h. wants_word keyword.Then (reads (a_chain 0) (λ c g.
    wants_word keyword.Else (reads (a_chain 0) (λ d f. gives (comp.If e c d at) (suc (max (max h g) f))))))))
    ∷ on (a_word keyword.Map) (λ at. wants a_name (λ x. gives (comp.Map (ident x.0 x.1) 0 at) 1))
    ∷ on (a_word keyword.Filter) (λ at. wants a_name (λ x. gives (comp.Filter (ident x.0 x.1) 0 at) 1))
    ∷ on a_name (λ p. wants_sign symbol.LeftParenthesis (reads some_args (λ es h. gives (comp.Call (ident p.0 p.1) 0 es) (suc h))))
    ∷ on (a_sign symbol.LeftParenthesis) (λ at. reads (a_chain 2) (λ c h. wants_sign symbol.RightParenthesis (gives c (suc h))))
    ∷ block_entries

-- what a component of signs below a rank begins with
abbrev pub chain_entries : ℕ → List (Entry Comp)
chain_entries zero = atom_entries
chain_entries (suc n) = lead (chain_entries n) (λ c h. reads (links_of n c h) done_with)

-- a sign of a rank, and the component to its right
abbrev pub link_entries : ℕ → Comp → ℕ → List (Entry Comp)
link_entries n left low =
    on (a_link n) (λ p. reads (a_chain n) (λ right h. reads (links_of n (comp.Pipe p.0 left right p.1) (suc (max low h))) done_with)) ∷ []

-- what stands behind `repeat`
abbrev pub repeat_entries : Place → List (Entry Comp)
repeat_entries at =
    on (a_sign symbol.LeftBracket) (λ opens. wants a_number (λ n. wants_sign symbol.Comma (wants a_number (λ m. wants_sign symbol.RightBracket
    (reads (a_chain 0) (λ c h.
    gives (comp.Repeat c at) (suc h)))))))
    ∷ lead atom_entries (λ c h. gives (comp.Repeat c at) (suc h))

-- behind a component that is a member and binds no name
abbrev pub member_end : List Member → ℕ → Comp → ℕ → Rest (List Member)
member_end done low c h =
    either (a_sign symbol.RightBrace) (λ at. gives (done ++ member.Run c ∷ []) (max low h))
    (a_sign symbol.Semicolon) (λ at. reads (behind_semicolon (done ++ member.Run c ∷ []) (max low h)) done_with)

-- behind the name that begins a member: a call, or a component that the name is bound to
abbrev pub member_named : List Member → ℕ → List ℕ → Place → Rest (List Member)
member_named done low x at =
    either (a_sign symbol.LeftParenthesis) (λ opens. reads some_args (λ es h.
    reads (links_of 0 (comp.Call (ident x at) 0 es) (suc h)) (λ c g. reads (links_of 1 c g) (λ d f. member_end done low d f))))
    (a_sign symbol.LeftArrow) (λ arrow. reads (a_chain 2) (λ c h.
    wants_sign symbol.Semicolon (reads (more_members (done ++ member.Bind (ident x at) c ∷ []) (max low (suc h))) done_with)))

-- members up to `}`; a name is looked at before the components, which may begin with one too
abbrev pub member_entries : List Member → ℕ → List (Entry (List Member))
member_entries done low =
    on a_name (λ p. member_named done low p.0 p.1)
    ∷ lead var_entries (λ v h. wants_sign symbol.Semicolon (reads (more_members (done ++ member.Var v ∷ []) (max low h)) done_with))
    ++ lead (chain_entries 2) (member_end done low)

-- ---- declarations and programs

-- a function behind its name
abbrev pub function_rest : Place → List ℕ × Place → Rest Decl
function_rest at x =
    wants_sign symbol.LeftParenthesis (reads some_params (λ fs f. reads a_result (λ t g. reads a_body (λ b h.
    gives (decl.Function (record { name = ident x.0 x.1; params = fs; result = t; body = b; at = at })) h))))

-- a `fun comp` behind its words
abbrev pub comp_rest : Place → Rest Decl
comp_rest at =
    wants a_name (λ x. wants_sign symbol.LeftParenthesis (reads some_params (λ fs f. reads a_block (λ c h.
    gives (decl.Comp (record { name = ident x.0 x.1; params = fs; body = c; at = at })) h))))

-- a struct behind its word
abbrev pub struct_rest : Place → Rest Decl
struct_rest at =
    wants a_name (λ x. wants_sign symbol.Equal (wants_sign symbol.LeftBrace (reads a_field (λ f h. reads (more_fields braces (f ∷ [])) (λ fs g.
    gives (decl.Struct (record { name = ident x.0 x.1; fields = fs; at = at })) 0)))))

-- what a declaration begins with
abbrev pub decl_entries : List (Entry Decl)
decl_entries =
    on (a_word keyword.Struct) struct_rest
    ∷ on (a_word keyword.Fun) (λ at. either a_name (function_rest at) (a_word keyword.Comp) (λ here. comp_rest at))
    ∷ lead var_entries (λ v h. wants_sign symbol.Semicolon (gives (decl.Var v) h))

-- the component of a chain up to its last component
abbrev pub joined : Left → Comp → Comp
joined None c = c
joined (Some left) c = comp.Pipe link.Parallel left.0 c left.2

-- its height
abbrev pub joined_height : Left → ℕ → ℕ
joined_height None h = h
joined_height (Some left) h = suc (max left.1 h)

-- what stands behind a component of the main chain
abbrev pub main_entries : Left → Comp → ℕ → List (Entry (Comp × TypeExpr))
main_entries left c h =
    on (a_sign symbol.Pipe) (λ at. reads (behind_pipe left c h at) done_with)
    ∷ on (a_sign symbol.ParallelPipe) (λ at. reads (a_chain 0) (λ d g. reads (behind_main (Some (joined left c, joined_height left h, at)) d g) done_with))
    ∷ []

-- what stands behind a `>>>` of the main chain
abbrev pub pipe_entries : Left → Comp → ℕ → Place → List (Entry (Comp × TypeExpr))
pipe_entries left c h at =
    on (a_word keyword.Write) (λ here. wants_sign symbol.LeftBracket
    (reads a_type_part (λ t g. wants_sign symbol.RightBracket (gives (joined left c, t) (joined_height left h)))))
    ∷ lead atom_entries (λ d g. reads (behind_main left (comp.Pipe link.Serial c d at) (suc (max h g))) done_with)

-- what a part may begin with
abbrev pub entries : (part : Part) → List (Entry (Tree part))
entries a_type_part = type_entries
entries a_field = field_entries
entries (more_fields kind done) =
    on (a_sign (closing_of kind)) (λ at. gives done 0) ∷ on (a_sign (between_of kind)) (λ at. reads a_field
    (λ f h. reads (more_fields kind (done ++ f ∷ [])) done_with)) ∷ []
entries some_params =
    on (a_sign symbol.RightParenthesis) (λ at. gives [] 0)
    ∷ lead field_entries (λ f h. reads (more_fields parentheses (f ∷ [])) done_with)
entries (a_binary n) = binary_entries n
entries (operands_of n left low) = operand_entries n left low
entries (posts_of of low) = post_entries of low
entries (behind_parenthesis at) = parenthesis_entries at
entries (behind_name x at) = call_entries x at
entries some_args = args_entries
entries (more_exprs kind done low) =
    on (a_sign (closing_of kind)) (λ at. gives done low)
    ∷ on (a_sign symbol.Comma) (λ at. reads (a_binary ranks) (λ e h. reads (more_exprs kind (done ++ e ∷ []) (max low h)) done_with)) ∷ []
entries a_var = var_entries
entries (initial_of f at) = initial_entries f at
entries some_bounds = bounds_entries
entries a_stmt = stmt_entries
entries (stmt_named x at) = named_entries x at
entries (target_of done low) = target_entries done low
entries (else_of e ss low at) = else_entries e ss low at
entries some_stmts = on (a_sign symbol.LeftBrace) (λ at. reads (more_stmts [] 0) (λ ss h. gives ss (suc h))) ∷ []
entries (more_stmts done low) = stmts_entries done low
entries a_body = on (a_sign symbol.LeftBrace) (λ at. reads (more_body [] 0) (λ b h. gives b (suc h))) ∷ []
entries (more_body done low) = body_entries done low
entries (a_chain n) = chain_entries n
entries (links_of n left low) = link_entries n left low
entries (behind_repeat at) = repeat_entries at
entries a_block = block_entries
entries (more_members done low) = member_entries done low
entries (behind_semicolon done low) = on (a_sign symbol.RightBrace) (λ at. gives done low) ∷ member_entries done low
entries a_decl = decl_entries
entries a_result = on (a_sign symbol.Colon) (λ at. reads a_type_part (λ t h. gives (Some t) 0)) ∷ []
entries (more_decls done low) = lead decl_entries (λ d h. reads (more_decls (done ++ d ∷ []) (max low h)) done_with)
entries (behind_main left c h) = main_entries left c h
entries (behind_pipe left c h at) = pipe_entries left c h at

-- a part that may be empty
abbrev pub may_be_empty : Part → Bool
may_be_empty (operands_of n left low) = true
may_be_empty (posts_of of low) = true
may_be_empty (behind_name x at) = true
may_be_empty (initial_of f at) = true
may_be_empty (else_of e ss low at) = true
may_be_empty (links_of n left low) = true
may_be_empty a_result = true
may_be_empty (more_decls done low) = true
may_be_empty part = false

-- a program
abbrev pub start : Rest Prog
start =
    reads (more_decls [] 0) (λ ds low. wants (a_word keyword.Let) (λ at. wants_word keyword.Comp (wants the_main
    (λ here. wants_sign symbol.Equal (wants_word keyword.Read
    (wants_sign symbol.LeftBracket (reads a_type_part (λ from f. wants_sign symbol.RightBracket (wants_sign symbol.Pipe (reads (a_chain 0) (λ c g.
    reads (behind_main None c g)
    (λ whole h. gives (record { declarations = ds; input = from; main = whole.0; output = whole.1; at = at }) (max low h)))))))))))))
