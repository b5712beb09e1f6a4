-- Each form of a statement, from what the code has shown of its parts.
use Rattle.std.specs.Prelude.{◌≡◌, List, Result}
use Rattle.std.proofs.Common.{IsErrAnd}
use Rattle.zir_tree.specs.declared.ident.Ident.{Ident}
use Rattle.zir_tree.specs.declared.place.Place.{Place}
use Rattle.zir_tree.specs.declared.types.Ty.{Ty}
use Rattle.zir_tree.specs.declared.expr.Expr.{Expr}
use Rattle.zir_tree.specs.declared.stmt.Access.{Access}
use Rattle.zir_tree.specs.declared.stmt.Stmt.{Stmt, Assign, If, IfElse, While, For}
use Rattle.zir_types.specs.declared.error.TypeError.{TypeError}
use Rattle.zir_types.specs.declared.typed.Typed.{Typed}
use Rattle.zir_types.specs.declared.typed.Path.{Path}
use Rattle.zir_types.specs.declared.typed.Step.{Step}
use Rattle.zir_types.specs.Walk.{Fine, and_then, Refuses, Told}
use Rattle.zir_types.specs.Scope.{Visible, type_in}
use Rattle.zir_types.specs.Expressions.{expr, unasked, wanted}
use Rattle.zir_types.specs.Statements.{stmt, root, path, assigned, if_step, if_else_step, while_step, for_step, with_index}
use Rattle.zir_type_expressions.proofs.Steps.{expr_err, expr_ok, told_as, told_ok}
use Rattle.zir_type_bodies.specs.Sequences.{block}
use Rattle.zir_type_bodies.proofs.Sequences.{stmt-If, stmt-IfElse, stmt-While, stmt-For}

-- The condition of an `if` is refused.
pub if_refused : (g : Visible) (e : Expr) (ss : List Stmt) (p : Place) (v : Ty) (x : TypeError) (r : Result Step TypeError) → v ≡ unasked →
    IsErrAnd r (λ y. y ≡ x) → Refuses (expr g v e) x → Told (stmt g (If e ss p)) r
if_refused g e ss p v x r hv is rf =
    told_as (stmt g (If e ss p)) (and_then (expr g unasked e) (λ t. and_then (block g ss) (if_step p t))) r (stmt-If g e ss p)
    (expr_err g v unasked e (λ t. and_then (block g ss) (if_step p t)) x r hv is rf)

-- The condition of an `if` is typed.
pub if_typed : (g : Visible) (e : Expr) (ss : List Stmt) (p : Place) (v : Ty) (t : Typed) (r : Result Step TypeError) → v ≡ unasked →
    expr g v e ≡ Fine t → Told (and_then (block g ss) (if_step p t)) r → Told (stmt g (If e ss p)) r
if_typed g e ss p v t r hv q told =
    told_as (stmt g (If e ss p)) (and_then (expr g unasked e) (λ t. and_then (block g ss) (if_step p t))) r (stmt-If g e ss p)
    (expr_ok g v unasked e (λ t. and_then (block g ss) (if_step p t)) t r hv q told)

-- The condition of a `while` is refused.
pub while_refused : (g : Visible) (e : Expr) (ss : List Stmt) (p : Place) (v : Ty) (x : TypeError) (r : Result Step TypeError) → v ≡ unasked →
    IsErrAnd r (λ y. y ≡ x) → Refuses (expr g v e) x → Told (stmt g (While e ss p)) r
while_refused g e ss p v x r hv is rf =
    told_as (stmt g (While e ss p)) (and_then (expr g unasked e) (λ t. and_then (block g ss) (while_step p t))) r (stmt-While g e ss p)
    (expr_err g v unasked e (λ t. and_then (block g ss) (while_step p t)) x r hv is rf)

-- The condition of a `while` is typed.
pub while_typed : (g : Visible) (e : Expr) (ss : List Stmt) (p : Place) (v : Ty) (t : Typed) (r : Result Step TypeError) → v ≡ unasked →
    expr g v e ≡ Fine t → Told (and_then (block g ss) (while_step p t)) r → Told (stmt g (While e ss p)) r
while_typed g e ss p v t r hv q told =
    told_as (stmt g (While e ss p)) (and_then (expr g unasked e) (λ t. and_then (block g ss) (while_step p t))) r (stmt-While g e ss p)
    (expr_ok g v unasked e (λ t. and_then (block g ss) (while_step p t)) t r hv q told)

-- The condition of an `if` with `else` is refused.
pub if_else_refused : (g : Visible) (e : Expr) (ss us : List Stmt) (p : Place) (v : Ty) (x : TypeError) (r : Result Step TypeError) → v ≡ unasked →
    IsErrAnd r (λ y. y ≡ x) → Refuses (expr g v e) x → Told (stmt g (IfElse e ss us p)) r
if_else_refused g e ss us p v x r hv is rf =
    told_as (stmt g (IfElse e ss us p)) (and_then (expr g unasked e) (λ t. and_then (block g ss) (λ thens. and_then (block g us) (if_else_step p t thens)))) r
    (stmt-IfElse g e ss us p)
    (expr_err g v unasked e (λ t. and_then (block g ss) (λ thens. and_then (block g us) (if_else_step p t thens))) x r hv is rf)

-- The condition of an `if` with `else` is typed.
pub if_else_typed : (g : Visible) (e : Expr) (ss us : List Stmt) (p : Place) (v : Ty) (t : Typed) (r : Result Step TypeError) → v ≡ unasked →
    expr g v e ≡ Fine t → Told (and_then (block g ss) (λ thens. and_then (block g us) (if_else_step p t thens))) r → Told (stmt g (IfElse e ss us p)) r
if_else_typed g e ss us p v t r hv q told =
    told_as (stmt g (IfElse e ss us p)) (and_then (expr g unasked e) (λ t. and_then (block g ss) (λ thens. and_then (block g us) (if_else_step p t thens)))) r
    (stmt-IfElse g e ss us p)
    (expr_ok g v unasked e (λ t. and_then (block g ss) (λ thens. and_then (block g us) (if_else_step p t thens))) t r hv q told)

-- The start of a `for` is refused.
pub for_refused : (g : Visible) (x : Ident) (a n : Expr) (ss : List Stmt) (p : Place) (v : Ty) (y : TypeError) (r : Result Step TypeError) → v ≡ unasked →
    IsErrAnd r (λ z. z ≡ y) → Refuses (expr g v a) y → Told (stmt g (For x a n ss p)) r
for_refused g x a n ss p v y r hv is rf =
    told_as (stmt g (For x a n ss p))
    (and_then (expr g unasked a) (λ first. and_then (expr g unasked n) (λ turns. and_then (block (with_index x g) ss) (for_step x p first turns)))) r
    (stmt-For g x a n ss p)
    (expr_err g v unasked a (λ first. and_then (expr g unasked n) (λ turns. and_then (block (with_index x g) ss) (for_step x p first turns))) y r hv is rf)

-- The start of a `for` is typed.
pub for_typed : (g : Visible) (x : Ident) (a n : Expr) (ss : List Stmt) (p : Place) (v : Ty) (first : Typed) (r : Result Step TypeError) → v ≡ unasked →
    expr g v a ≡ Fine first → Told (and_then (expr g unasked n) (λ turns. and_then (block (with_index x g) ss) (for_step x p first turns))) r →
    Told (stmt g (For x a n ss p)) r
for_typed g x a n ss p v first r hv q told =
    told_as (stmt g (For x a n ss p))
    (and_then (expr g unasked a) (λ first. and_then (expr g unasked n) (λ turns. and_then (block (with_index x g) ss) (for_step x p first turns)))) r
    (stmt-For g x a n ss p)
    (expr_ok g v unasked a (λ first. and_then (expr g unasked n) (λ turns. and_then (block (with_index x g) ss) (for_step x p first turns))) first r hv q told)

-- The count of a `for` is refused.
pub for_count_refused : (g : Visible) (x : Ident) (a n : Expr) (ss : List Stmt) (p : Place) (v w : Ty) (first : Typed) (y : TypeError) (r : Result Step TypeError) →
    v ≡ unasked → expr g v a ≡ Fine first → w ≡ unasked → IsErrAnd r (λ z. z ≡ y) → Refuses (expr g w n) y → Told (stmt g (For x a n ss p)) r
for_count_refused g x a n ss p v w first y r hv q hw is rf =
    for_typed g x a n ss p v first r hv q (expr_err g w unasked n (λ turns. and_then (block (with_index x g) ss) (for_step x p first turns)) y r hw is rf)

-- The count of a `for` is typed.
pub for_count_typed : (g : Visible) (x : Ident) (a n : Expr) (ss : List Stmt) (p : Place) (v w : Ty) (first turns : Typed) (r : Result Step TypeError) →
    v ≡ unasked → expr g v a ≡ Fine first → w ≡ unasked → expr g w n ≡ Fine turns → Told (and_then (block (with_index x g) ss) (for_step x p first turns)) r →
    Told (stmt g (For x a n ss p)) r
for_count_typed g x a n ss p v w first turns r hv q hw k told =
    for_typed g x a n ss p v first r hv q (expr_ok g w unasked n (λ turns. and_then (block (with_index x g) ss) (for_step x p first turns)) turns r hw k told)

-- An assignment whose path is typed.
pub assign_typed : (g : Visible) (x : Ident) (steps : List Access) (e : Expr) (start to : Path) (r : Result Step TypeError) →
    root (type_in g.variables x.id) x ≡ Fine start → path g start steps ≡ Fine to → Told (and_then (expr g (wanted to.ty) e) (assigned x to)) r →
    Told (stmt g (Assign x steps e)) r
assign_typed g x steps e start to r hs ht told =
    told_ok (root (type_in g.variables x.id) x) (λ start. and_then (path g start steps) (λ to. and_then (expr g (wanted to.ty) e) (assigned x to))) start r hs
    (told_ok (path g start steps) (λ to. and_then (expr g (wanted to.ty) e) (assigned x to)) to r ht told)
