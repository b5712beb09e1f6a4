-- The grammar: each form with its tree and its height, between the tokens from its first on and the tokens after it.
use Rattle.std.specs.Prelude.{◌≡◌, ℕ, zero, suc, max, pos, Bool, true, false, List, [], ◌∷◌, ◌++◌, Option, Some, None}
use Rattle.zir_tree.specs.declared.place.Place.{Place}
use Rattle.zir_tree.specs.declared.ident.Ident.{Ident}
use Rattle.zir_tree.specs.declared.types.Base.{Base}
use Rattle.zir_tree.specs.declared.types.Base.TheVariants as base
use Rattle.zir_tree.specs.declared.types.TypeExpr.{TypeExpr}
use Rattle.zir_tree.specs.declared.types.Field.{Field}
use Rattle.zir_tree.specs.declared.expr.Prefix.{Prefix}
use Rattle.zir_tree.specs.declared.expr.Prefix.TheVariants as prefix
use Rattle.zir_tree.specs.declared.expr.Operator.{Operator}
use Rattle.zir_tree.specs.declared.expr.Operator.TheVariants as operator
use Rattle.zir_tree.specs.declared.expr.Callee.TheVariants as callee
use Rattle.zir_tree.specs.declared.expr.Expr.{Expr}
use Rattle.zir_tree.specs.declared.expr.Expr as expr
use Rattle.zir_tree.specs.declared.stmt.Var.{Var}
use Rattle.zir_tree.specs.declared.stmt.Access.{Access}
use Rattle.zir_tree.specs.declared.stmt.Access.TheVariants as access
use Rattle.zir_tree.specs.declared.stmt.Stmt.{Stmt}
use Rattle.zir_tree.specs.declared.stmt.Stmt as stmt
use Rattle.zir_tree.specs.declared.stmt.Body.{Body}
use Rattle.zir_tree.specs.declared.comp.Turning.TheVariants as turning
use Rattle.zir_tree.specs.declared.comp.Link.{Link}
use Rattle.zir_tree.specs.declared.comp.Link.TheVariants as link
use Rattle.zir_tree.specs.declared.comp.Comp.{Comp}
use Rattle.zir_tree.specs.declared.comp.Comp as comp
use Rattle.zir_tree.specs.declared.comp.Member.{Member}
use Rattle.zir_tree.specs.declared.comp.Member as member
use Rattle.zir_tree.specs.declared.program.Decl.{Decl}
use Rattle.zir_tree.specs.declared.program.Decl.TheVariants as decl
use Rattle.zir_tree.specs.declared.program.Prog.{Prog}
use Rattle.zir_lex.specs.declared.token.Token.{Token}
use Rattle.zir_lex.specs.declared.token.Lexeme.TheVariants as lexeme
use Rattle.zir_lex.specs.declared.token.Keyword.{Keyword}
use Rattle.zir_lex.specs.declared.token.Keyword.TheVariants as keyword
use Rattle.zir_lex.specs.declared.token.Symbol.{Symbol}
use Rattle.zir_lex.specs.declared.token.Symbol.TheVariants as symbol

-- ---- tokens and names

-- a keyword at a place
abbrev pub word : Keyword → Place → Token
word w at = record { lexeme = lexeme.Keyword w; at = at }

-- a sign at a place
abbrev pub sign : Symbol → Place → Token
sign s at = record { lexeme = lexeme.Symbol s; at = at }

-- a name at a place
abbrev pub name : List ℕ → Place → Token
name x at = record { lexeme = lexeme.Name x; at = at }

-- a whole number at a place
abbrev pub int : ℕ → Place → Token
int n at = record { lexeme = lexeme.Int n; at = at }

-- `'0` or `'1` at a place
abbrev pub bit : Bool → Place → Token
bit b at = record { lexeme = lexeme.Bit b; at = at }

-- a text between quotes at a place
abbrev pub text : List ℕ → Place → Token
text s at = record { lexeme = lexeme.Text s; at = at }

-- a name in the tree, which is not resolved yet
abbrev pub ident : List ℕ → Place → Ident
ident x at = record { name = x; id = 0; at = at }

-- the bytes of the word `main`, which is a name
abbrev pub main_bytes : List ℕ
main_bytes = 109 ∷ 97 ∷ 105 ∷ 110 ∷ []

-- ---- types

-- the type that a keyword names; `int` is `int32`
abbrev pub base_of : Keyword → Option Base
base_of keyword.Bit = Some base.Bit
base_of keyword.Bool = Some base.Bool
base_of keyword.Int8 = Some base.Int8
base_of keyword.Int16 = Some base.Int16
base_of keyword.Int32 = Some base.Int32
base_of keyword.Int = Some base.Int32
base_of keyword.Int64 = Some base.Int64
base_of keyword.Complex16 = Some base.Complex16
base_of keyword.Complex32 = Some base.Complex32
base_of other = None

-- a type that a keyword names
abbrev pub plain_type : Base → Place → TypeExpr
plain_type b at = record { dimensions = []; base = b; name = None; at = at }

-- the type of a struct, by its name
abbrev pub struct_type : List ℕ → Place → TypeExpr
struct_type x at = record { dimensions = []; base = base.Struct 0; name = Some (ident x at); at = at }

-- arrays of a type, with the length of the outermost dimension and the place of its `arr`
abbrev pub array_type : ℕ → Place → TypeExpr → TypeExpr
array_type n at t = record { dimensions = record { length = n; at = at } ∷ t.dimensions; base = t.base; name = t.name; at = at }

-- the tokens are a type; types have no height
pub data IsType : TypeExpr → List Token → List Token → Type 0 where
  type_word : {w : Keyword} {b : Base} {at : Place} {rest : List Token} → base_of w ≡ Some b → IsType (plain_type b at) (word w at ∷ rest) rest
  type_name : {x : List ℕ} {at : Place} {rest : List Token} → IsType (struct_type x at) (name x at ∷ rest) rest
  type_array : {n : ℕ} {at opens within closes : Place} {t : TypeExpr} {ts rest : List Token} → IsType t ts rest
      → IsType (array_type n at t) (word keyword.Arr at ∷ sign symbol.LeftBracket opens ∷ int n within ∷ sign symbol.RightBracket closes ∷ ts) rest

-- a name with its type
abbrev pub field : List ℕ → Place → TypeExpr → Field
field x at t = record { name = ident x at; ty = t }

-- the tokens are a name, `:` and a type
pub data IsField : Field → List Token → List Token → Type 0 where
  typed_name : {x : List ℕ} {at colon : Place} {t : TypeExpr} {ts rest : List Token} → IsType t ts rest
      → IsField (field x at t) (name x at ∷ sign symbol.Colon colon ∷ ts) rest

-- after some fields the tokens carry on, with a sign between each two fields and another behind the last
pub data IsMoreFields (between closing : Symbol) : List Field → List Field → List Token → List Token → Type 0 where
  last_field : {fs : List Field} {at : Place} {rest : List Token} → IsMoreFields between closing fs fs (sign closing at ∷ rest) rest
  more_fields : {done fs : List Field} {f : Field} {at : Place} {ts mid rest : List Token} → IsField f ts mid
      → IsMoreFields between closing (done ++ f ∷ []) fs mid rest → IsMoreFields between closing done fs (sign between at ∷ ts) rest

-- parameters behind `(`, up to `)`
pub data IsParams : List Field → List Token → List Token → Type 0 where
  no_params : {at : Place} {rest : List Token} → IsParams [] (sign symbol.RightParenthesis at ∷ rest) rest
  params : {f : Field} {fs : List Field} {ts mid rest : List Token} → IsField f ts mid
      → IsMoreFields symbol.Comma symbol.RightParenthesis (f ∷ []) fs mid rest → IsParams fs ts rest

-- ---- expressions

-- the sign of an operator between two sides
abbrev pub symbol_of : Operator → Symbol
symbol_of operator.Or = symbol.OrOr
symbol_of operator.And = symbol.AndAnd
symbol_of operator.BitOr = symbol.Bar
symbol_of operator.BitXor = symbol.Caret
symbol_of operator.BitAnd = symbol.Ampersand
symbol_of operator.Equal = symbol.EqualEqual
symbol_of operator.NotEqual = symbol.NotEqual
symbol_of operator.Less = symbol.Less
symbol_of operator.LessEqual = symbol.LessEqual
symbol_of operator.Greater = symbol.Greater
symbol_of operator.GreaterEqual = symbol.GreaterEqual
symbol_of operator.ShiftLeft = symbol.ShiftLeft
symbol_of operator.ShiftRight = symbol.ShiftRight
symbol_of operator.Add = symbol.Plus
symbol_of operator.Subtract = symbol.Minus
symbol_of operator.Multiply = symbol.Star
symbol_of operator.Divide = symbol.Slash
symbol_of operator.Remainder = symbol.Percent

-- how loosely an operator binds: the tightest have 0
abbrev pub rank : Operator → ℕ
rank operator.Multiply = 0
rank operator.Divide = 0
rank operator.Remainder = 0
rank operator.Add = 1
rank operator.Subtract = 1
rank operator.ShiftLeft = 2
rank operator.ShiftRight = 2
rank operator.Less = 3
rank operator.LessEqual = 3
rank operator.Greater = 3
rank operator.GreaterEqual = 3
rank operator.Equal = 4
rank operator.NotEqual = 4
rank operator.BitAnd = 5
rank operator.BitXor = 6
rank operator.BitOr = 7
rank operator.And = 8
rank operator.Or = 9

-- the number of ranks of operators
abbrev pub ranks : ℕ
ranks = 10

-- the token of an operator before its operand
abbrev pub prefix_token : Prefix → Place → Token
prefix_token prefix.Minus at = sign symbol.Minus at
prefix_token prefix.Complement at = sign symbol.Tilde at
prefix_token prefix.Not at = word keyword.Not at

-- the type that a keyword converts to
abbrev pub conversion_of : Keyword → Option Base
conversion_of keyword.Bit = Some base.Bit
conversion_of keyword.Int8 = Some base.Int8
conversion_of keyword.Int16 = Some base.Int16
conversion_of keyword.Int32 = Some base.Int32
conversion_of keyword.Int = Some base.Int32
conversion_of keyword.Int64 = Some base.Int64
conversion_of keyword.Complex16 = Some base.Complex16
conversion_of keyword.Complex32 = Some base.Complex32
conversion_of other = None

mutual
  -- an expression whose operators have ranks below a number
  pub data IsBinary : ℕ → Expr → ℕ → List Token → List Token → Type 0 where
    unary : {e : Expr} {h : ℕ} {ts rest : List Token} → IsUnary e h ts rest → IsBinary zero e h ts rest
    operands : {n low high : ℕ} {first e : Expr} {ts mid rest : List Token} → IsBinary n first low ts mid
        → IsOperands n first low e high mid rest → IsBinary (suc n) e high ts rest

  -- operators of one rank join further operands to what stands on the left
  pub data IsOperands : ℕ → Expr → ℕ → Expr → ℕ → List Token → List Token → Type 0 where
    no_operand : {n h : ℕ} {e : Expr} {ts : List Token} → IsOperands n e h e h ts ts
    operand : {n low h high : ℕ} {left right e : Expr} {at : Place} {ts mid rest : List Token} (op : Operator) → rank op ≡ n → IsBinary n right h ts mid
        → IsOperands n (expr.Binary op base.Unit left right at) (suc (max low h)) e high mid rest
        → IsOperands n left low e high (sign (symbol_of op) at ∷ ts) rest

  -- an operator before its operand, or a primary with what follows it
  pub data IsUnary : Expr → ℕ → List Token → List Token → Type 0 where
    prefixed : {e : Expr} {h : ℕ} {at : Place} {ts rest : List Token} (op : Prefix) → IsUnary e h ts rest
        → IsUnary (expr.Unary op base.Unit e at) (suc h) (prefix_token op at ∷ ts) rest
    primary : {low high : ℕ} {first e : Expr} {ts mid rest : List Token} → IsPrimary first low ts mid → IsPosts first low e high mid rest
        → IsUnary e high ts rest

  -- indexes, slices and fields behind a base
  pub data IsPosts : Expr → ℕ → Expr → ℕ → List Token → List Token → Type 0 where
    no_post : {h : ℕ} {e : Expr} {ts : List Token} → IsPosts e h e h ts ts
    index : {low h high : ℕ} {of i e : Expr} {at closes : Place} {ts mid rest : List Token} → IsBinary ranks i h ts (sign symbol.RightBracket closes ∷ mid)
        → IsPosts (expr.Index of i at) (suc (max low h)) e high mid rest → IsPosts of low e high (sign symbol.LeftBracket at ∷ ts) rest
    slice : {low h high n : ℕ} {of i e : Expr} {at comma within closes : Place} {ts mid rest : List Token}
        → IsBinary ranks i h ts (sign symbol.Comma comma ∷ int n within ∷ sign symbol.RightBracket closes ∷ mid)
        → IsPosts (expr.Slice of i n at) (suc (max low h)) e high mid rest → IsPosts of low e high (sign symbol.LeftBracket at ∷ ts) rest
    part : {low high : ℕ} {of e : Expr} {x : List ℕ} {at here : Place} {mid rest : List Token}
        → IsPosts (expr.Part of x 0 at) (suc low) e high mid rest → IsPosts of low e high (sign symbol.Dot at ∷ name x here ∷ mid) rest

  -- a literal, a name, a call, an expression in parentheses, an array or a conversion
  pub data IsPrimary : Expr → ℕ → List Token → List Token → Type 0 where
    number : {n : ℕ} {at : Place} {rest : List Token} → IsPrimary (expr.Int (pos n) base.Unit at) 1 (int n at ∷ rest) rest
    bit_value : {b : Bool} {at : Place} {rest : List Token} → IsPrimary (expr.Bit b at) 1 (bit b at ∷ rest) rest
    true_value : {at : Place} {rest : List Token} → IsPrimary (expr.Bool true at) 1 (word keyword.True at ∷ rest) rest
    false_value : {at : Place} {rest : List Token} → IsPrimary (expr.Bool false at) 1 (word keyword.False at ∷ rest) rest
    unit_value : {at closes : Place} {rest : List Token}
        → IsPrimary (expr.Unit at) 1 (sign symbol.LeftParenthesis at ∷ sign symbol.RightParenthesis closes ∷ rest) rest
    variable : {x : List ℕ} {at : Place} {rest : List Token} → IsPrimary (expr.Variable (ident x at)) 1 (name x at ∷ rest) rest
    call : {x : List ℕ} {h : ℕ} {es : List Expr} {at opens : Place} {ts rest : List Token} → IsArgs es h ts rest
        → IsPrimary (expr.Call (ident x at) (callee.Function 0) es) (suc h) (name x at ∷ sign symbol.LeftParenthesis opens ∷ ts) rest
    enclosed : {e : Expr} {h : ℕ} {at closes : Place} {ts rest : List Token} → IsBinary ranks e h ts (sign symbol.RightParenthesis closes ∷ rest)
        → IsPrimary e (suc h) (sign symbol.LeftParenthesis at ∷ ts) rest
    array : {e : Expr} {es : List Expr} {h high : ℕ} {at : Place} {ts mid rest : List Token} → IsBinary ranks e h ts mid
        → IsMoreExprs symbol.RightBrace (e ∷ []) h es high mid rest → IsPrimary (expr.Array es at) (suc high) (sign symbol.LeftBrace at ∷ ts) rest
    convert : {w : Keyword} {b : Base} {e : Expr} {h : ℕ} {at opens closes : Place} {ts rest : List Token} → conversion_of w ≡ Some b
        → IsBinary ranks e h ts (sign symbol.RightParenthesis closes ∷ rest)
        → IsPrimary (expr.Convert b e at) (suc h) (word w at ∷ sign symbol.LeftParenthesis opens ∷ ts) rest
    complex : {w : Keyword} {b : Base} {re im : Expr} {low h : ℕ} {at opens comma closes : Place} {ts mid rest : List Token} → conversion_of w ≡ Some b
        → IsBinary ranks re low ts (sign symbol.Comma comma ∷ mid) → IsBinary ranks im h mid (sign symbol.RightParenthesis closes ∷ rest)
        → IsPrimary (expr.Complex b re im at) (suc (max low h)) (word w at ∷ sign symbol.LeftParenthesis opens ∷ ts) rest

  -- arguments behind `(`, up to `)`, with the greatest of their heights
  pub data IsArgs : List Expr → ℕ → List Token → List Token → Type 0 where
    no_args : {at : Place} {rest : List Token} → IsArgs [] 0 (sign symbol.RightParenthesis at ∷ rest) rest
    args : {e : Expr} {es : List Expr} {h high : ℕ} {ts mid rest : List Token} → IsBinary ranks e h ts mid
        → IsMoreExprs symbol.RightParenthesis (e ∷ []) h es high mid rest → IsArgs es high ts rest

  -- after some expressions the tokens carry on, with `,` before each further one, up to a closing sign
  pub data IsMoreExprs : Symbol → List Expr → ℕ → List Expr → ℕ → List Token → List Token → Type 0 where
    last_expr : {closing : Symbol} {es : List Expr} {h : ℕ} {at : Place} {rest : List Token} → IsMoreExprs closing es h es h (sign closing at ∷ rest) rest
    more_exprs : {closing : Symbol} {done es : List Expr} {e : Expr} {low h high : ℕ} {at : Place} {ts mid rest : List Token} → IsBinary ranks e h ts mid
        → IsMoreExprs closing (done ++ e ∷ []) (max low h) es high mid rest → IsMoreExprs closing done low es high (sign symbol.Comma at ∷ ts) rest

-- an expression
abbrev pub IsExpr : Expr → ℕ → List Token → List Token → Type 0
IsExpr = IsBinary ranks

-- ---- variables

-- a variable without an initial value, at the place of `var`
abbrev pub plain_var : Field → Place → Var
plain_var f at = record { name = f.name; ty = f.ty; initial = None; at = at }

-- a variable with an initial value, at the place of `var`
abbrev pub set_var : Field → Expr → Place → Var
set_var f e at = record { name = f.name; ty = f.ty; initial = Some e; at = at }

-- the tokens are `var` and what is declared
pub data IsVar : Var → ℕ → List Token → List Token → Type 0 where
  var_alone : {f : Field} {at : Place} {ts rest : List Token} → IsField f ts rest → IsVar (plain_var f at) 1 (word keyword.Var at ∷ ts) rest
  var_set : {f : Field} {e : Expr} {h : ℕ} {at assign : Place} {ts mid rest : List Token} → IsField f ts (sign symbol.Assign assign ∷ mid) → IsExpr e h mid rest
      → IsVar (set_var f e at) (suc h) (word keyword.Var at ∷ ts) rest

-- ---- the head of a counted loop

-- the tokens are a name, `in`, and two expressions in brackets; the height is that of the higher one
pub data IsBounds : Ident → Expr → Expr → ℕ → List Token → List Token → Type 0 where
  bounds : {x : List ℕ} {from count : Expr} {low h : ℕ} {at within opens comma closes : Place} {ts mid rest : List Token}
      → IsExpr from low ts (sign symbol.Comma comma ∷ mid) → IsExpr count h mid (sign symbol.RightBracket closes ∷ rest)
      → IsBounds (ident x at) from count (max low h) (name x at ∷ word keyword.In within ∷ sign symbol.LeftBracket opens ∷ ts) rest

-- ---- statements

-- after the name of what is assigned, and the steps to its part so far, the tokens carry on up to `:=`; the height is that of the whole path
pub data IsTarget : List Access → ℕ → List Access → ℕ → List Token → List Token → Type 0 where
  target : {path : List Access} {h : ℕ} {at : Place} {rest : List Token} → IsTarget path h path h (sign symbol.Assign at ∷ rest) rest
  target_index : {done path : List Access} {i : Expr} {low h high : ℕ} {at closes : Place} {ts mid rest : List Token}
      → IsExpr i h ts (sign symbol.RightBracket closes ∷ mid)
      → IsTarget (done ++ access.Index i at ∷ []) (suc (max low h)) path high mid rest → IsTarget done low path high (sign symbol.LeftBracket at ∷ ts) rest
  target_slice : {done path : List Access} {i : Expr} {n low h high : ℕ} {at comma within closes : Place} {ts mid rest : List Token}
      → IsExpr i h ts (sign symbol.Comma comma ∷ int n within ∷ sign symbol.RightBracket closes ∷ mid)
      → IsTarget (done ++ access.Slice i n at ∷ []) (suc (max low h)) path high mid rest → IsTarget done low path high (sign symbol.LeftBracket at ∷ ts) rest
  target_part : {done path : List Access} {x : List ℕ} {low high : ℕ} {at here : Place} {mid rest : List Token}
      → IsTarget (done ++ access.Part x 0 at ∷ []) (suc low) path high mid rest → IsTarget done low path high (sign symbol.Dot at ∷ name x here ∷ mid) rest

mutual
  -- the tokens are a statement
  pub data IsStmt : Stmt → ℕ → List Token → List Token → Type 0 where
    declares : {v : Var} {h : ℕ} {ts rest : List Token} → IsVar v h ts rest → IsStmt (stmt.Var v) h ts rest
    assigns : {x : List ℕ} {path : List Access} {e : Expr} {low h : ℕ} {at : Place} {ts mid rest : List Token} → IsTarget [] 1 path low ts mid
        → IsExpr e h mid rest
        → IsStmt (stmt.Assign (ident x at) path e) (suc (max low h)) (name x at ∷ ts) rest
    calls : {x : List ℕ} {es : List Expr} {h : ℕ} {at opens : Place} {ts rest : List Token} → IsArgs es h ts rest
        → IsStmt (stmt.Call (ident x at) 0 es) (suc h) (name x at ∷ sign symbol.LeftParenthesis opens ∷ ts) rest
    errors : {s : List ℕ} {at here : Place} {rest : List Token} → IsStmt (stmt.Error s at) 1 (word keyword.Error at ∷ text s here ∷ rest) rest
    tests : {e : Expr} {ss : List Stmt} {low h : ℕ} {at then : Place} {ts mid rest : List Token} → IsExpr e low ts (word keyword.Then then ∷ mid)
        → IsStmts ss h mid rest → IsStmt (stmt.If e ss at) (suc (max low h)) (word keyword.If at ∷ ts) rest
    chooses : {e : Expr} {ss os : List Stmt} {low h high : ℕ} {at then other : Place} {ts mid more rest : List Token}
        → IsExpr e low ts (word keyword.Then then ∷ mid)
        → IsStmts ss h mid (word keyword.Else other ∷ more) → IsStmts os high more rest
        → IsStmt (stmt.IfElse e ss os at) (suc (max (max low h) high)) (word keyword.If at ∷ ts) rest
    turns : {e : Expr} {ss : List Stmt} {low h : ℕ} {at opens closes : Place} {ts mid rest : List Token}
        → IsExpr e low ts (sign symbol.RightParenthesis closes ∷ mid)
        → IsStmts ss h mid rest → IsStmt (stmt.While e ss at) (suc (max low h)) (word keyword.While at ∷ sign symbol.LeftParenthesis opens ∷ ts) rest
    counts : {x : Ident} {from count : Expr} {ss : List Stmt} {low h : ℕ} {at : Place} {ts mid rest : List Token} → IsBounds x from count low ts mid
        → IsStmts ss h mid rest → IsStmt (stmt.For x from count ss at) (suc (max low h)) (word keyword.For at ∷ ts) rest

  -- the tokens are statements in braces
  pub data IsStmts : List Stmt → ℕ → List Token → List Token → Type 0 where
    stmts : {ss : List Stmt} {h : ℕ} {at : Place} {ts rest : List Token} → IsMoreStmts [] 0 ss h ts rest
        → IsStmts ss (suc h) (sign symbol.LeftBrace at ∷ ts) rest

  -- after some statements with `;` behind each the tokens carry on, up to `}`
  pub data IsMoreStmts : List Stmt → ℕ → List Stmt → ℕ → List Token → List Token → Type 0 where
    no_stmt : {ss : List Stmt} {h : ℕ} {at : Place} {rest : List Token} → IsMoreStmts ss h ss h (sign symbol.RightBrace at ∷ rest) rest
    last_stmt : {done : List Stmt} {s : Stmt} {low h : ℕ} {at : Place} {ts rest : List Token} → IsStmt s h ts (sign symbol.RightBrace at ∷ rest)
        → IsMoreStmts done low (done ++ s ∷ []) (max low h) ts rest
    more_stmts : {done ss : List Stmt} {s : Stmt} {low h high : ℕ} {at : Place} {ts mid rest : List Token} → IsStmt s h ts (sign symbol.Semicolon at ∷ mid)
        → IsMoreStmts (done ++ s ∷ []) (max low h) ss high mid rest → IsMoreStmts done low ss high ts rest

-- statements without a value
abbrev pub plain_body : List Stmt → Body
plain_body ss = record { statements = ss; result = None }

-- statements and the value behind `return`
abbrev pub result_body : List Stmt → Expr → Place → Body
result_body ss e at = record { statements = ss; result = Some (record { value = e; at = at }) }

-- after some statements of a body with `;` behind each the tokens carry on, up to `}`
pub data IsMoreBody : List Stmt → ℕ → Body → ℕ → List Token → List Token → Type 0 where
  no_more : {done : List Stmt} {h : ℕ} {at : Place} {rest : List Token} → IsMoreBody done h (plain_body done) h (sign symbol.RightBrace at ∷ rest) rest
  ends : {done : List Stmt} {s : Stmt} {low h : ℕ} {at : Place} {ts rest : List Token} → IsStmt s h ts (sign symbol.RightBrace at ∷ rest)
      → IsMoreBody done low (plain_body (done ++ s ∷ [])) (max low h) ts rest
  goes_on : {done : List Stmt} {b : Body} {s : Stmt} {low h high : ℕ} {at : Place} {ts mid rest : List Token} → IsStmt s h ts (sign symbol.Semicolon at ∷ mid)
      → IsMoreBody (done ++ s ∷ []) (max low h) b high mid rest → IsMoreBody done low b high ts rest
  returns : {done : List Stmt} {e : Expr} {low h : ℕ} {at closes : Place} {ts rest : List Token} → IsExpr e h ts (sign symbol.RightBrace closes ∷ rest)
      → IsMoreBody done low (result_body done e at) (max low (suc h)) (word keyword.Return at ∷ ts) rest
  returns_stopped : {done : List Stmt} {e : Expr} {low h : ℕ} {at stop closes : Place} {ts rest : List Token}
      → IsExpr e h ts (sign symbol.Semicolon stop ∷ sign symbol.RightBrace closes ∷ rest)
      → IsMoreBody done low (result_body done e at) (max low (suc h)) (word keyword.Return at ∷ ts) rest

-- the tokens are the statements of a function or of `do` in braces
pub data IsBody : Body → ℕ → List Token → List Token → Type 0 where
  body : {b : Body} {h : ℕ} {at : Place} {ts rest : List Token} → IsMoreBody [] 0 b h ts rest → IsBody b (suc h) (sign symbol.LeftBrace at ∷ ts) rest

-- ---- components

-- the sign that joins two components
abbrev pub link_symbol : Link → Symbol
link_symbol link.Serial = symbol.Pipe
link_symbol link.Parallel = symbol.ParallelPipe

-- how loosely a sign between components binds: `>>>` has 0
abbrev pub link_rank : Link → ℕ
link_rank link.Serial = 0
link_rank link.Parallel = 1

mutual
  -- a component without a `>>>` or `|>>>|` outside of its parts
  pub data IsAtom : Comp → ℕ → List Token → List Token → Type 0 where
    take_atom : {at : Place} {rest : List Token} → IsAtom (comp.Take at) 1 (word keyword.Take at ∷ rest) rest
    takes_atom : {n : ℕ} {at here : Place} {rest : List Token} → IsAtom (comp.Takes n at) 1 (word keyword.Takes at ∷ int n here ∷ rest) rest
    emit_atom : {e : Expr} {h : ℕ} {at : Place} {ts rest : List Token} → IsExpr e h ts rest → IsAtom (comp.Emit e at) (suc h) (word keyword.Emit at ∷ ts) rest
    emits_atom : {e : Expr} {h : ℕ} {at : Place} {ts rest : List Token} → IsExpr e h ts rest
        → IsAtom (comp.Emits e at) (suc h) (word keyword.Emits at ∷ ts) rest
    return_atom : {e : Expr} {h : ℕ} {at : Place} {ts rest : List Token} → IsExpr e h ts rest
        → IsAtom (comp.Return e at) (suc h) (word keyword.Return at ∷ ts) rest
    do_atom : {b : Body} {h : ℕ} {at : Place} {ts rest : List Token} → IsBody b h ts rest → IsAtom (comp.Do b at) (suc h) (word keyword.Do at ∷ ts) rest
    repeat_atom : {c : Comp} {h : ℕ} {at : Place} {ts rest : List Token} → IsAtom c h ts rest
        → IsAtom (comp.Repeat c at) (suc h) (word keyword.Repeat at ∷ ts) rest
    -- the hint behind `repeat` leaves nothing
    hinted_atom : {c : Comp} {h n m : ℕ} {at opens first comma second closes : Place} {ts rest : List Token} → IsAtom c h ts rest
        → IsAtom (comp.Repeat c at) (suc h)
        (word keyword.Repeat at ∷ sign symbol.LeftBracket opens ∷ int n first ∷ sign symbol.Comma comma ∷ int m second
        ∷ sign symbol.RightBracket closes ∷ ts) rest
    while_atom : {e : Expr} {c : Comp} {low h : ℕ} {at opens closes : Place} {ts mid rest : List Token}
        → IsExpr e low ts (sign symbol.RightParenthesis closes ∷ mid)
        → IsAtom c h mid rest → IsAtom (comp.While turning.While e c at) (suc (max low h)) (word keyword.While at ∷ sign symbol.LeftParenthesis opens ∷ ts) rest
    until_atom : {e : Expr} {c : Comp} {low h : ℕ} {at opens closes : Place} {ts mid rest : List Token}
        → IsExpr e low ts (sign symbol.RightParenthesis closes ∷ mid)
        → IsAtom c h mid rest → IsAtom (comp.While turning.Until e c at) (suc (max low h)) (word keyword.Until at ∷ sign symbol.LeftParenthesis opens ∷ ts) rest
    times_atom : {e : Expr} {c : Comp} {low h : ℕ} {at opens closes : Place} {ts mid rest : List Token}
        → IsExpr e low ts (sign symbol.RightParenthesis closes ∷ mid)
        → IsAtom c h mid rest → IsAtom (comp.Times e c at) (suc (max low h)) (word keyword.Times at ∷ sign symbol.LeftParenthesis opens ∷ ts) rest
    for_atom : {x : Ident} {from count : Expr} {c : Comp} {low h : ℕ} {at : Place} {ts mid rest : List Token} → IsBounds x from count low ts mid
        → IsAtom c h mid rest → IsAtom (comp.For x from count c at) (suc (max low h)) (word keyword.For at ∷ ts) rest
    if_atom : {e : Expr} {c d : Comp} {low h high : ℕ} {at then other : Place} {ts mid more rest : List Token} → IsExpr e low ts (word keyword.Then then ∷ mid)
        → IsAtom c h mid (word keyword.Else other ∷ more) → IsAtom d high more rest
        → IsAtom (comp.If e c d at) (suc (max (max low h) high)) (word keyword.If at ∷ ts) rest
    map_atom : {x : List ℕ} {at here : Place} {rest : List Token} → IsAtom (comp.Map (ident x here) 0 at) 1 (word keyword.Map at ∷ name x here ∷ rest) rest
    filter_atom : {x : List ℕ} {at here : Place} {rest : List Token}
        → IsAtom (comp.Filter (ident x here) 0 at) 1 (word keyword.Filter at ∷ name x here ∷ rest) rest
    call_atom : {x : List ℕ} {es : List Expr} {h : ℕ} {at opens : Place} {ts rest : List Token} → IsArgs es h ts rest
        → IsAtom (comp.Call (ident x at) 0 es) (suc h) (name x at ∷ sign symbol.LeftParenthesis opens ∷ ts) rest
    block_atom : {c : Comp} {h : ℕ} {ts rest : List Token} → IsBlock c h ts rest → IsAtom c h ts rest
    enclosed_atom : {c : Comp} {h : ℕ} {at closes : Place} {ts rest : List Token} → IsChain 2 c h ts (sign symbol.RightParenthesis closes ∷ rest)
        → IsAtom c (suc h) (sign symbol.LeftParenthesis at ∷ ts) rest

  -- components joined by signs of ranks below a number
  pub data IsChain : ℕ → Comp → ℕ → List Token → List Token → Type 0 where
    atom : {c : Comp} {h : ℕ} {ts rest : List Token} → IsAtom c h ts rest → IsChain zero c h ts rest
    links : {n low high : ℕ} {first c : Comp} {ts mid rest : List Token} → IsChain n first low ts mid → IsLinks n first low c high mid rest
        → IsChain (suc n) c high ts rest

  -- signs of one rank join further components to what stands on the left
  pub data IsLinks : ℕ → Comp → ℕ → Comp → ℕ → List Token → List Token → Type 0 where
    no_link : {n h : ℕ} {c : Comp} {ts : List Token} → IsLinks n c h c h ts ts
    join : {n low h high : ℕ} {left right c : Comp} {at : Place} {ts mid rest : List Token} (l : Link) → link_rank l ≡ n → IsChain n right h ts mid
        → IsLinks n (comp.Pipe l left right at) (suc (max low h)) c high mid rest → IsLinks n left low c high (sign (link_symbol l) at ∷ ts) rest

  -- the tokens are a block
  pub data IsBlock : Comp → ℕ → List Token → List Token → Type 0 where
    block : {ms : List Member} {h : ℕ} {at : Place} {ts rest : List Token} → IsMembers [] 0 ms h ts rest
        → IsBlock (comp.Block ms at) (suc h) (sign symbol.LeftBrace at ∷ ts) rest

  -- after some members of a block with `;` behind each the tokens carry on, up to `}`
  pub data IsMembers : List Member → ℕ → List Member → ℕ → List Token → List Token → Type 0 where
    binds : {done ms : List Member} {x : List ℕ} {c : Comp} {low h high : ℕ} {at arrow stop : Place} {ts mid rest : List Token}
        → IsChain 2 c h ts (sign symbol.Semicolon stop ∷ mid) → IsMembers (done ++ member.Bind (ident x at) c ∷ []) (max low (suc h)) ms high mid rest
        → IsMembers done low ms high (name x at ∷ sign symbol.LeftArrow arrow ∷ ts) rest
    member_var : {done ms : List Member} {v : Var} {low h high : ℕ} {stop : Place} {ts mid rest : List Token} → IsVar v h ts (sign symbol.Semicolon stop ∷ mid)
        → IsMembers (done ++ member.Var v ∷ []) (max low h) ms high mid rest → IsMembers done low ms high ts rest
    member_runs : {done ms : List Member} {c : Comp} {low h high : ℕ} {stop : Place} {ts mid rest : List Token}
        → IsChain 2 c h ts (sign symbol.Semicolon stop ∷ mid)
        → IsMembers (done ++ member.Run c ∷ []) (max low h) ms high mid rest → IsMembers done low ms high ts rest
    last_member : {done : List Member} {c : Comp} {low h : ℕ} {closes : Place} {ts rest : List Token} → IsChain 2 c h ts (sign symbol.RightBrace closes ∷ rest)
        → IsMembers done low (done ++ member.Run c ∷ []) (max low h) ts rest
    last_stopped : {done : List Member} {c : Comp} {low h : ℕ} {stop closes : Place} {ts rest : List Token}
        → IsChain 2 c h ts (sign symbol.Semicolon stop ∷ sign symbol.RightBrace closes ∷ rest)
        → IsMembers done low (done ++ member.Run c ∷ []) (max low h) ts rest

-- a component
abbrev pub IsComp : Comp → ℕ → List Token → List Token → Type 0
IsComp = IsChain 2

-- ---- declarations and programs

-- the type behind `:` that a function gives, if one is written
pub data IsResult : Option TypeExpr → List Token → List Token → Type 0 where
  no_result : {ts : List Token} → IsResult None ts ts
  result : {t : TypeExpr} {at : Place} {ts rest : List Token} → IsType t ts rest → IsResult (Some t) (sign symbol.Colon at ∷ ts) rest

-- the tokens are a declaration; the height is that of its body, and a struct has none
pub data IsDecl : Decl → ℕ → List Token → List Token → Type 0 where
  declares_var : {v : Var} {h : ℕ} {stop : Place} {ts rest : List Token} → IsVar v h ts (sign symbol.Semicolon stop ∷ rest) → IsDecl (decl.Var v) h ts rest
  declares_struct : {x : List ℕ} {f : Field} {fs : List Field} {at here equal opens : Place} {ts mid rest : List Token} → IsField f ts mid
      → IsMoreFields symbol.Semicolon symbol.RightBrace (f ∷ []) fs mid rest
      → IsDecl (decl.Struct (record { name = ident x here; fields = fs; at = at })) 0
      (word keyword.Struct at ∷ name x here ∷ sign symbol.Equal equal ∷ sign symbol.LeftBrace opens ∷ ts) rest
  declares_function : {x : List ℕ} {fs : List Field} {t : Option TypeExpr} {b : Body} {h : ℕ} {at here opens : Place} {ts mid more rest : List Token}
      → IsParams fs ts mid
      → IsResult t mid more → IsBody b h more rest
      → IsDecl (decl.Function (record { name = ident x here; params = fs; result = t; body = b; at = at })) h
      (word keyword.Fun at ∷ name x here ∷ sign symbol.LeftParenthesis opens ∷ ts) rest
  declares_comp : {x : List ℕ} {fs : List Field} {c : Comp} {h : ℕ} {at within here opens : Place} {ts mid rest : List Token} → IsParams fs ts mid
      → IsBlock c h mid rest
      → IsDecl (decl.Comp (record { name = ident x here; params = fs; body = c; at = at })) h
      (word keyword.Fun at ∷ word keyword.Comp within ∷ name x here ∷ sign symbol.LeftParenthesis opens ∷ ts) rest

-- further declarations behind some
pub data IsDecls : List Decl → ℕ → List Decl → ℕ → List Token → List Token → Type 0 where
  no_decl : {ds : List Decl} {h : ℕ} {ts : List Token} → IsDecls ds h ds h ts ts
  more_decls : {done ds : List Decl} {d : Decl} {low h high : ℕ} {ts mid rest : List Token} → IsDecl d h ts mid
      → IsDecls (done ++ d ∷ []) (max low h) ds high mid rest → IsDecls done low ds high ts rest

-- the tokens are a program, whose height is that of its highest declaration or of its main component
pub data IsProg : List Token → Prog → ℕ → Type 0 where
  program : {ds : List Decl} {from to : TypeExpr} {c : Comp} {low h : ℕ} {at one two three four opens closes first last here opened close : Place} {ts us vs ws : List Token}
      → IsDecls [] 0 ds low ts
      (word keyword.Let at ∷ word keyword.Comp one ∷ name main_bytes two ∷ sign symbol.Equal three ∷ word keyword.Read four
      ∷ sign symbol.LeftBracket opens ∷ us)
      → IsType from us (sign symbol.RightBracket closes ∷ sign symbol.Pipe first ∷ vs)
      → IsComp c h vs (sign symbol.Pipe last ∷ word keyword.Write here ∷ sign symbol.LeftBracket opened ∷ ws)
      → IsType to ws (sign symbol.RightBracket close ∷ [])
      → IsProg ts (record { declarations = ds; input = from; main = c; output = to; at = at }) (max low h)
