-- The walk of statements, of what is declared, and of bodies.
use Rattle.std.specs.Prelude.{ℕ, List, [], ◌∷◌, ◌++◌, Bool, ◌&&◌, Option, Some, None}
use Rattle.zir_tree.specs.declared.place.Place.{Place}
use Rattle.zir_tree.specs.declared.ident.Ident.{Ident}
use Rattle.zir_tree.specs.declared.types.Base.{Base}
use Rattle.zir_tree.specs.declared.types.Base.TheVariants.{Unit as UnitTy, Bool as BoolTy, Int32}
use Rattle.zir_tree.specs.declared.types.Ty.{Ty}
use Rattle.zir_tree.specs.declared.types.Field.{Field}
use Rattle.zir_tree.specs.declared.expr.Expr.{Expr}
use Rattle.zir_tree.specs.declared.stmt.Var.{Var}
use Rattle.zir_tree.specs.declared.stmt.Access.{Access}
use Rattle.zir_tree.specs.declared.stmt.Access.TheVariants.{Index, Slice, Part}
use Rattle.zir_tree.specs.declared.stmt.Stmt.{Stmt, Var as VarStmt, Assign, Call as CallStmt, Error, If, If', IfElse, IfElse', While, While', For}
use Rattle.zir_tree.specs.declared.stmt.Stmt.{For', Row_of-Stmt, end_of-Stmt, more_of-Stmt}
use Rattle.zir_tree.specs.declared.stmt.Return.{Return}
use Rattle.zir_tree.specs.declared.stmt.Body.{Body}
use Rattle.zir_types.specs.declared.scope.Seen.{Seen}
use Rattle.zir_types.specs.declared.scope.Shape.{Shape}
use Rattle.zir_types.specs.declared.scope.Signature.{Signature}
use Rattle.zir_types.specs.declared.typed.Typed.{Typed}
use Rattle.zir_types.specs.declared.typed.Args.{Args}
use Rattle.zir_types.specs.declared.typed.Selected.{Selected}
use Rattle.zir_types.specs.declared.typed.Written.{Written}
use Rattle.zir_types.specs.declared.typed.TypedVar.{TypedVar}
use Rattle.zir_types.specs.declared.typed.Path.{Path}
use Rattle.zir_types.specs.declared.typed.Step.{Step}
use Rattle.zir_types.specs.declared.typed.TypedBody.{TypedBody}
use Rattle.zir_types.specs.declared.typed.Heading.{Heading}
use Rattle.zir_types.specs.declared.error.TypeError.TheVariants.{Mismatch}
use Rattle.zir_types.specs.Walk.{Walk, Fine, Broken, and_then, check}
use Rattle.zir_types.specs.Kinds.{scalar, is_whole, scalar_of, same_ty}
use Rattle.zir_types.specs.Scope.{Visible, Placed, declare, variable, type_in, function_from, part_in, written}
use Rattle.zir_types.specs.Expressions.{expr, unasked, wanted, Asks, InTurn, no_args, args_of, agree}

-- An initial value must have the type of its variable.
abbrev pub of_type : Ty → Place → Typed → Walk (Option Expr)
of_type t p x = check (same_ty t x.ty) (Mismatch p) (Some x.what)

-- An initial value, where there is one.
abbrev pub initial : Visible → Ty → Place → Option Expr → Walk (Option Expr)
initial g t p None = Fine None
initial g t p (Some e) = and_then (expr g (wanted t) e) (of_type t p)

-- A variable with its type and its initial value.
abbrev pub var_of : Var → Written → Option Expr → Walk TypedVar
var_of v t e = Fine (record { what = record { name = v.name; ty = t.what; initial = e; at = v.at }; ty = t.ty })

-- The declaration of a variable.
abbrev pub var : Visible → Var → Walk TypedVar
var g v = and_then (written g.shapes v.ty) (λ t. and_then (initial g t.ty v.at v.initial) (var_of v t))

-- What a variable brings into scope.
abbrev pub seen_var : TypedVar → List Seen
seen_var v = variable v.what.name.id v.ty ∷ []

-- A path with one more step, to what has this type.
abbrev pub longer : Path → Access → Ty → Path
longer done step t = record { steps = done.steps ++ step ∷ []; ty = t }

-- A step to an element of an array of these lengths, by a whole index.
abbrev pub index_step_if : List ℕ → Base → Bool → Place → Path → Typed → Walk Path
index_step_if [] b whole p done t = Broken (Mismatch p)
index_step_if (n ∷ ns) b whole p done t = check whole (Mismatch p) (longer done (Index t.what p) (record { lengths = ns; base = b }))

-- A step to an element.
abbrev pub index_step : Place → Path → Typed → Walk Path
index_step p done t = index_step_if done.ty.lengths done.ty.base (is_whole (scalar_of t.ty)) p done t

-- A step to a slice of an array of these lengths, by a whole index.
abbrev pub slice_step_if : List ℕ → Base → Bool → ℕ → Place → Path → Typed → Walk Path
slice_step_if [] b whole k p done t = Broken (Mismatch p)
slice_step_if (n ∷ ns) b whole k p done t = check whole (Mismatch p) (longer done (Slice t.what k p) (record { lengths = k ∷ ns; base = b }))

-- A step to a slice.
abbrev pub slice_step : ℕ → Place → Path → Typed → Walk Path
slice_step k p done t = slice_step_if done.ty.lengths done.ty.base (is_whole (scalar_of t.ty)) k p done t

-- A step to a part, with its place.
abbrev pub part_step : Option Selected → List ℕ → Place → Path → Walk Path
part_step None x p done = Broken (Mismatch p)
part_step (Some f) x p done = Fine (longer done (Part x f.place p) f.ty)

-- The steps of a path from some place on, behind those before them.
abbrev pub path : Visible → Path → List Access → Walk Path
path g done [] = Fine done
path g done (Index e p ∷ steps) = and_then (expr g unasked e) (λ t. and_then (index_step p done t) (λ next. path g next steps))
path g done (Slice e k p ∷ steps) = and_then (expr g unasked e) (λ t. and_then (slice_step k p done t) (λ next. path g next steps))
path g done (Part x k p ∷ steps) = and_then (part_step (part_in g.shapes done.ty x) x p done) (λ next. path g next steps)

-- The variable where a path begins.
abbrev pub root : Option Ty → Ident → Walk Path
root None x = Broken (Mismatch x.at)
root (Some t) x = Fine (record { steps = []; ty = t })

-- A statement that brings nothing into scope.
abbrev pub plain_step : Stmt → Step
plain_step s = record { what = s; declares = [] }

-- What is assigned must have the type of what the path leads to.
abbrev pub assigned : Ident → Path → Typed → Walk Step
assigned x to t = check (same_ty to.ty t.ty) (Mismatch x.at) (plain_step (Assign x to.steps t.what))

-- A statement that declares a variable.
abbrev pub declared : TypedVar → Walk Step
declared v = Fine (record { what = VarStmt v.what; declares = seen_var v })

-- The rule of a call statement: its arguments agree, and the function has no value.
abbrev pub call_step : Ident → Placed Signature → Args → Walk Step
call_step f s as_ = check (agree s.item.params as_.types && same_ty s.item.result (scalar UnitTy)) (Mismatch f.at) (plain_step (CallStmt f s.place as_.whats))

-- A call statement of what its name means, over the walk of its arguments.
abbrev pub call_of : Option (Placed Signature) → Ident → (Asks → Walk Args) → Walk Step
call_of None f walk = Broken (Mismatch f.at)
call_of (Some s) f walk = and_then (walk (InTurn s.item.params)) (call_step f s)

-- Whether an expression is a truth value.
abbrev pub is_condition : Typed → Bool
is_condition t = same_ty t.ty (scalar BoolTy)

-- Whether an expression is an int32, as a bound and a count are.
abbrev pub is_count : Typed → Bool
is_count t = same_ty t.ty (scalar Int32)

-- The rule of `if` without `else`.
abbrev pub if_step : Place → Typed → List Stmt → Walk Step
if_step p t ss = check (is_condition t) (Mismatch p) (plain_step (If t.what ss p))

-- The rule of `if` with `else`.
abbrev pub if_else_step : Place → Typed → List Stmt → List Stmt → Walk Step
if_else_step p t ss us = check (is_condition t) (Mismatch p) (plain_step (IfElse t.what ss us p))

-- The rule of `while`.
abbrev pub while_step : Place → Typed → List Stmt → Walk Step
while_step p t ss = check (is_condition t) (Mismatch p) (plain_step (While t.what ss p))

-- The rule of `for`.
abbrev pub for_step : Ident → Place → Typed → Typed → List Stmt → Walk Step
for_step x p a n ss = check (is_count a && is_count n) (Mismatch p) (plain_step (For x a.what n.what ss p))

-- The index of a loop comes into scope.
abbrev pub with_index : Ident → Visible → Visible
with_index x g = declare (variable x.id (scalar Int32) ∷ []) g

abbrev mutual
  -- A statement: its parts in order, and then its rule.
  pub stmt : Visible → Stmt → Walk Step
  stmt g (VarStmt v) = and_then (var g v) declared
  stmt g (Assign x steps e) =
      and_then (root (type_in g.variables x.id) x) (λ start. and_then (path g start steps) (λ to. and_then (expr g (wanted to.ty) e) (assigned x to)))
  stmt g (CallStmt f k es) = call_of (function_from 0 g.functions f.id) f (λ asks. args_of g asks no_args es)
  stmt g (Error text p) = Fine (plain_step (Error text p))
  stmt g (If' e _ ss p) = and_then (expr g unasked e) (λ t. and_then (stmts g [] ss) (if_step p t))
  stmt g (IfElse' e _ ss _ us p) = and_then (expr g unasked e) (λ t. and_then (stmts g [] ss) (λ thens. and_then (stmts g [] us) (if_else_step p t thens)))
  stmt g (While' e _ ss p) = and_then (expr g unasked e) (λ t. and_then (stmts g [] ss) (while_step p t))
  stmt g (For' x a n _ ss p) =
      and_then (expr g unasked a) (λ first. and_then (expr g unasked n) (λ turns. and_then (stmts (with_index x g) [] ss) (for_step x p first turns)))

  -- Statements from some place on, behind those before them.
  pub stmts : Visible → List Stmt → {m : _} → Row_of-Stmt m → Walk (List Stmt)
  stmts g done end_of-Stmt = Fine done
  stmts g done (more_of-Stmt s ss) = and_then (stmt g s) (λ step. stmts (declare step.declares g) (done ++ step.what ∷ []) ss)

-- Statements of a body, and what is in scope behind them.
pub record Stmts : Type 0 where
  pub done : List Stmt
  pub scope : Visible

-- The statements of a body from some place on, behind those before them.
abbrev pub stmts_of : Visible → List Stmt → List Stmt → Walk Stmts
stmts_of g done [] = Fine (record { done = done; scope = g })
stmts_of g done (s ∷ ss) = and_then (stmt g s) (λ step. stmts_of (declare step.declares g) (done ++ step.what ∷ []) ss)

-- A body without `return` has the value unit.
abbrev pub body_of : List Stmt → Option Return → Ty → TypedBody
body_of ss r t = record { what = record { statements = ss; result = r }; ty = t }

-- A body that returns this expression.
abbrev pub returning : List Stmt → Place → Typed → Walk TypedBody
returning ss p t = Fine (body_of ss (Some (record { value = t.what; at = p })) t.ty)

-- The end of a `do`: its value is that of its `return`, or unit.
abbrev pub do_end : Stmts → Option Return → Walk TypedBody
do_end s None = Fine (body_of s.done None (scalar UnitTy))
do_end s (Some r) = and_then (expr s.scope unasked r.value) (returning s.done r.at)

-- The body of a `do`.
abbrev pub do_body : Visible → Body → Walk TypedBody
do_body g b = and_then (stmts_of g [] b.statements) (λ s. do_end s b.result)

-- What a function returns must have its type.
abbrev pub returned : List Stmt → Ty → Place → Typed → Walk TypedBody
returned ss t p x = and_then (check (same_ty t x.ty) (Mismatch p) x) (returning ss p)

-- The result of a function without a type.
abbrev pub no_result : Stmts → Place → Option Return → Walk TypedBody
no_result s p None = Fine (body_of s.done None (scalar UnitTy))
no_result s p (Some r) = and_then (expr s.scope unasked r.value) (λ x. Broken (Mismatch p))

-- The result of a function of this type.
abbrev pub some_result : Stmts → Ty → Place → Option Return → Walk TypedBody
some_result s t p None = Broken (Mismatch p)
some_result s t p (Some r) = and_then (expr s.scope (wanted t) r.value) (returned s.done t r.at)

-- The end of a function's body: a function with a type returns a value of it, and one without a type returns nothing.
abbrev pub fun_end : Option Ty → Place → Option Return → Stmts → Walk TypedBody
fun_end None p r s = no_result s p r
fun_end (Some t) p r s = some_result s t p r

-- The body of a function of this result that stands at this place.
abbrev pub fun_body : Visible → Option Ty → Place → Body → Walk TypedBody
fun_body g t p b = and_then (stmts_of g [] b.statements) (fun_end t p b.result)

-- No parameters.
abbrev pub no_heading : Heading
no_heading = record { fields = []; types = []; seen = [] }

-- One more parameter behind these.
abbrev pub one_more_param : Heading → Ident → Written → Heading
one_more_param done x t = record {
  fields = done.fields ++ record { name = x; ty = t.what } ∷ [];
  types = done.types ++ t.ty ∷ [];
  seen = done.seen ++ variable x.id t.ty ∷ [];
}

-- Parameters, or the fields of a struct, from some place on, behind those before them.
abbrev pub heading : List Shape → Heading → List Field → Walk Heading
heading ss done [] = Fine done
heading ss done (f ∷ fs) = and_then (written ss f.ty) (λ t. heading ss (one_more_param done f.name t) fs)
