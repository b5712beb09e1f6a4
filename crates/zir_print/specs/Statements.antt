-- The canonical tokens of variables, statements and bodies.
use Rattle.std.specs.Prelude.{List, [], ◌∷◌, ◌++◌, map, Option, Some, None}
use Rattle.zir_tree.specs.declared.ident.Ident.{Ident}
use Rattle.zir_tree.specs.declared.expr.Expr.{Expr}
use Rattle.zir_tree.specs.declared.stmt.Var.{Var}
use Rattle.zir_tree.specs.declared.stmt.Access.{Access}
use Rattle.zir_tree.specs.declared.stmt.Access.TheVariants as access
use Rattle.zir_tree.specs.declared.stmt.Stmt.{Stmt, Var as Declares, Assign, Call, Error, If', IfElse', While', For', Row_of-Stmt, end_of-Stmt, more_of-Stmt}
use Rattle.zir_tree.specs.declared.stmt.Return.{Return}
use Rattle.zir_tree.specs.declared.stmt.Body.{Body}
use Rattle.zir_lex.specs.declared.token.Token.{Token}
use Rattle.zir_lex.specs.declared.token.Keyword.TheVariants as keyword
use Rattle.zir_lex.specs.declared.token.Symbol.TheVariants as symbol
use Rattle.zir_grammar.specs.Grammar.{word, sign, name, text}
use Rattle.zir_print.specs.Marks.{nowhere, mark, link_word, parted, enclosed, braced}
use Rattle.zir_print.specs.Types.{ident_word, type_words}
use Rattle.zir_print.specs.Expressions.{bracket_words, expr_words, called_words}

-- `:=` and an initial value, if there is one
abbrev pub initial_words : Option Expr → List Token
initial_words None = []
initial_words (Some e) = mark symbol.Assign ∷ expr_words e

-- what is declared behind `var`: a name with its type and its initial value
abbrev pub declared_words : Var → List Token
declared_words v = ident_word v.name ∷ mark symbol.Colon ∷ (type_words v.ty ++ initial_words v.initial)

-- a variable
abbrev pub var_words : Var → List Token
var_words v = word keyword.Var v.at ∷ declared_words v

-- a step of the path to what is assigned
abbrev pub access_words : Access → List Token
access_words (access.Index i p) = bracket_words p (expr_words i) None
access_words (access.Slice i k p) = bracket_words p (expr_words i) (Some k)
access_words (access.Part x k p) = sign symbol.Dot p ∷ name x nowhere ∷ []

-- the path to what is assigned
abbrev pub path_words : List Access → List Token
path_words [] = []
path_words (a ∷ path) = access_words a ++ path_words path

-- the name and the bounds of a counted loop
abbrev pub bounds_words : Ident → Expr → Expr → List Token
bounds_words x from count = ident_word x ∷ link_word keyword.In ∷ mark symbol.LeftBracket ∷
    (expr_words from ++ mark symbol.Comma ∷ (expr_words count ++ mark symbol.RightBracket ∷ []))

-- parts in braces with `;` between each two
abbrev pub list_words : List (List Token) → List Token
list_words parts = braced nowhere (parted (mark symbol.Semicolon) parts)

abbrev mutual
  -- a statement
  pub stmt_words : Stmt → List Token
  stmt_words (Declares v) = var_words v
  stmt_words (Assign x path e) = ident_word x ∷ (path_words path ++ mark symbol.Assign ∷ expr_words e)
  stmt_words (Call x k es) = called_words x es
  stmt_words (Error s p) = word keyword.Error p ∷ text s nowhere ∷ []
  stmt_words (If' e _ a p) = word keyword.If p ∷ (expr_words e ++ link_word keyword.Then ∷ list_words (each_stmt a))
  stmt_words (IfElse' e _ a _ b p) =
      word keyword.If p ∷ (expr_words e ++ link_word keyword.Then ∷ (list_words (each_stmt a) ++ link_word keyword.Else ∷ list_words (each_stmt b)))
  stmt_words (While' e _ a p) = word keyword.While p ∷ (enclosed (expr_words e) ++ list_words (each_stmt a))
  stmt_words (For' x from count _ a p) = word keyword.For p ∷ (bounds_words x from count ++ list_words (each_stmt a))

  -- each of some statements
  pub each_stmt : {m : _} → Row_of-Stmt m → List (List Token)
  each_stmt end_of-Stmt = []
  each_stmt (more_of-Stmt s ss) = stmt_words s ∷ each_stmt ss

-- `return` and the value of a body, if there is one
abbrev pub result_words : Option Return → List (List Token)
result_words None = []
result_words (Some r) = (word keyword.Return r.at ∷ expr_words r.value) ∷ []

-- a body
abbrev pub body_words : Body → List Token
body_words b = list_words (map stmt_words b.statements ++ result_words b.result)
