-- The names of expressions and types, which declare nothing.
use Rattle.std.specs.Prelude.{List, [], ◌∷◌, Option, Some, None}
use Rattle.zir_tree.specs.declared.types.TypeExpr.{TypeExpr}
use Rattle.zir_tree.specs.declared.expr.Expr.{Expr, Unit, Bit, Bool as Truth, Int, Variable, Unary, Unary', Binary, Binary', Index, Index', Slice, Slice'}
use Rattle.zir_tree.specs.declared.expr.Expr.{Part, Part', Call, Call', Array, Array', Convert, Convert', Complex, Complex', Row_of-Expr, end_of-Expr}
use Rattle.zir_tree.specs.declared.expr.Expr.{more_of-Expr}
use Rattle.zir_names.specs.declared.scope.Need.TheVariants as need
use Rattle.zir_names.specs.Walk.{Walk, Fine, and_then}
use Rattle.zir_names.specs.Scope.{Seen, resolved}

-- Each of a list in turn.
abbrev pub each : {A B : Type 0} → (A → Walk B) → List A → Walk (List B)
each walk [] = Fine []
each walk (x ∷ xs) = and_then (walk x) (λ y. and_then (each walk xs) (λ ys. Fine (y ∷ ys)))

-- What may be there, where it is.
abbrev pub maybe : {A B : Type 0} → (A → Walk B) → Option A → Walk (Option B)
maybe walk None = Fine None
maybe walk (Some x) = and_then (walk x) (λ y. Fine (Some y))

-- A type names at most one struct.
abbrev pub type_of : Seen → TypeExpr → Walk TypeExpr
type_of seen t = and_then (maybe (resolved need.Type seen) t.name) (λ name. Fine (record t { name = name }))

abbrev mutual
  -- An expression: its own name, and then its parts from left to right.
  pub expr : Seen → Expr → Walk Expr
  expr seen (Unit at) = Fine (Unit at)
  expr seen (Bit bit at) = Fine (Bit bit at)
  expr seen (Truth truth at) = Fine (Truth truth at)
  expr seen (Int n base at) = Fine (Int n base at)
  expr seen (Variable x) = and_then (resolved need.Value seen x) (λ y. Fine (Variable y))
  expr seen (Unary' op base _ (more_of-Expr e end_of-Expr) at) = and_then (expr seen e) (λ e'. Fine (Unary op base e' at))
  expr seen (Binary' op base _ (more_of-Expr a end_of-Expr) _ (more_of-Expr b end_of-Expr) at) =
      and_then (expr seen a) (λ a'. and_then (expr seen b) (λ b'. Fine (Binary op base a' b' at)))
  expr seen (Index' _ (more_of-Expr a end_of-Expr) _ (more_of-Expr i end_of-Expr) at) =
      and_then (expr seen a) (λ a'. and_then (expr seen i) (λ i'. Fine (Index a' i' at)))
  expr seen (Slice' _ (more_of-Expr a end_of-Expr) _ (more_of-Expr i end_of-Expr) n at) =
      and_then (expr seen a) (λ a'. and_then (expr seen i) (λ i'. Fine (Slice a' i' n at)))
  expr seen (Part' _ (more_of-Expr e end_of-Expr) name n at) = and_then (expr seen e) (λ e'. Fine (Part e' name n at))
  expr seen (Call' f callee _ es) = and_then (resolved need.Call seen f) (λ f'. and_then (exprs seen es) (λ es'. Fine (Call f' callee es')))
  expr seen (Array' _ es at) = and_then (exprs seen es) (λ es'. Fine (Array es' at))
  expr seen (Convert' base _ (more_of-Expr e end_of-Expr) at) = and_then (expr seen e) (λ e'. Fine (Convert base e' at))
  expr seen (Complex' base _ (more_of-Expr a end_of-Expr) _ (more_of-Expr b end_of-Expr) at) =
      and_then (expr seen a) (λ a'. and_then (expr seen b) (λ b'. Fine (Complex base a' b' at)))

  -- The parts of a call or an array.
  pub exprs : Seen → {m : _} → Row_of-Expr m → Walk (List Expr)
  exprs seen end_of-Expr = Fine []
  exprs seen (more_of-Expr e es) = and_then (expr seen e) (λ e'. and_then (exprs seen es) (λ es'. Fine (e' ∷ es')))
