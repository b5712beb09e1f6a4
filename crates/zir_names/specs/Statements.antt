-- The names of statements.
use Rattle.std.specs.Prelude.{List, [], ◌∷◌}
use Rattle.zir_tree.specs.declared.ident.Ident.{Ident}
use Rattle.zir_tree.specs.declared.stmt.Var.{Var as Variable}
use Rattle.zir_tree.specs.declared.stmt.Access.{Access}
use Rattle.zir_tree.specs.declared.stmt.Access.TheVariants as access
use Rattle.zir_tree.specs.declared.stmt.Return.{Return}
use Rattle.zir_tree.specs.declared.stmt.Body.{Body}
use Rattle.zir_tree.specs.declared.stmt.Stmt.{Stmt, Var, Assign, Call, Error, If, If', IfElse, IfElse', While, While', For, For', Row_of-Stmt, end_of-Stmt}
use Rattle.zir_tree.specs.declared.stmt.Stmt.{more_of-Stmt}
use Rattle.zir_names.specs.declared.scope.Kind.TheVariants as kind
use Rattle.zir_names.specs.declared.scope.Need.TheVariants as need
use Rattle.zir_names.specs.Walk.{Walk, Fine, and_then}
use Rattle.zir_names.specs.Scope.{Seen, resolved, numbered, counted, opened, Done, done, closed}
use Rattle.zir_names.specs.Expressions.{each, maybe, type_of, expr}

-- Each of a list in turn, where each sees what those before it declare.
abbrev pub in_turn : {A B : Type 0} → (Seen → A → Walk (Done B)) → Seen → List A → Walk (Done (List B))
in_turn walk seen [] = done [] seen
in_turn walk seen (x ∷ xs) = and_then (walk seen x) (λ y. and_then (in_turn walk y.seen xs) (λ ys. done (y.made ∷ ys.made) ys.seen))

-- A variable is seen behind its declaration.
abbrev pub variable : Seen → Variable → Walk (Done Variable)
variable seen v =
    and_then (type_of seen v.ty) (λ ty. and_then (maybe (expr seen) v.initial) (λ initial.
    done (record { name = numbered seen v.name; ty = ty; initial = initial; at = v.at }) (opened kind.Variable (numbered seen v.name) (counted seen))))

-- A step of a path names what its index names.
abbrev pub access_of : Seen → Access → Walk Access
access_of seen (access.Index i at) = and_then (expr seen i) (λ i'. Fine (access.Index i' at))
access_of seen (access.Slice i n at) = and_then (expr seen i) (λ i'. Fine (access.Slice i' n at))
access_of seen (access.Part name n at) = Fine (access.Part name n at)

-- An index is seen in the body of its loop.
abbrev pub indexed : Seen → Ident → Seen
indexed seen x = opened kind.Fixed (numbered seen x) (counted seen)

abbrev mutual
  -- A statement: names and parts in the order of the text.
  pub stmt : Seen → Stmt → Walk (Done Stmt)
  stmt seen (Var v) = and_then (variable seen v) (λ v'. done (Var v'.made) v'.seen)
  stmt seen (Assign x path e) =
      and_then (resolved need.Target seen x) (λ x'. and_then (each (access_of seen) path) (λ path'. and_then (expr seen e) (λ e'.
      done (Assign x' path' e') seen)))
  stmt seen (Call f n es) = and_then (resolved need.Statement seen f) (λ f'. and_then (each (expr seen) es) (λ es'. done (Call f' n es') seen))
  stmt seen (Error text at) = done (Error text at) seen
  stmt seen (If' e _ ss at) = and_then (expr seen e) (λ e'. and_then (closed seen (stmts seen ss)) (λ ss'. done (If e' ss'.made at) ss'.seen))
  stmt seen (IfElse' e _ ss _ ts at) =
      and_then (expr seen e) (λ e'. and_then (closed seen (stmts seen ss)) (λ ss'. and_then (closed ss'.seen (stmts ss'.seen ts)) (λ ts'.
      done (IfElse e' ss'.made ts'.made at) ts'.seen)))
  stmt seen (While' e _ ss at) = and_then (expr seen e) (λ e'. and_then (closed seen (stmts seen ss)) (λ ss'. done (While e' ss'.made at) ss'.seen))
  stmt seen (For' x a n _ ss at) =
      and_then (expr seen a) (λ a'. and_then (expr seen n) (λ n'. and_then (closed seen (stmts (indexed seen x) ss)) (λ ss'.
      done (For (numbered seen x) a' n' ss'.made at) ss'.seen)))

  -- Statements, each of which sees what those before it declare.
  pub stmts : Seen → {m : _} → Row_of-Stmt m → Walk (Done (List Stmt))
  stmts seen end_of-Stmt = done [] seen
  stmts seen (more_of-Stmt s ss) = and_then (stmt seen s) (λ s'. and_then (stmts s'.seen ss) (λ ss'. done (s'.made ∷ ss'.made) ss'.seen))

-- A `return` sees what the statements before it declare.
abbrev pub returned : Seen → Return → Walk Return
returned seen r = and_then (expr seen r.value) (λ value. Fine (record { value = value; at = r.at }))

-- The statements of a body, and what it returns.
abbrev pub body_of : Seen → Body → Walk (Done Body)
body_of seen b =
    closed seen (and_then (in_turn stmt seen b.statements) (λ ss. and_then (maybe (returned ss.seen) b.result) (λ result.
    done (record { statements = ss.made; result = result }) ss.seen)))
