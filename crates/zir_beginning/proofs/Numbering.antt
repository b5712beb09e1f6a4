-- Names are resolved to numbers that go on, so that no two declarations have one.
use Rattle.std.specs.Prelude.{ℕ, suc, ◌≤◌, ◌<◌, List, [], ◌∷◌, ◌≡◌, refl, length}
use Rattle.std.proofs.Common.{ap, subst, arith}
use Rattle.std.proofs.lemmas.Bool.{ne_eqb}
use denote.Hole.Carrier.{hidden}
use Rattle.zir_tree.specs.declared.ident.Ident.{Ident}
use Rattle.zir_tree.specs.declared.place.Place.{Place}
use Rattle.zir_tree.specs.declared.types.Field.{Field}
use Rattle.zir_tree.specs.declared.expr.Expr.{Expr}
use Rattle.zir_tree.specs.declared.stmt.Var.{Var as Variable}
use Rattle.zir_tree.specs.declared.stmt.Body.{Body}
use Rattle.zir_tree.specs.declared.stmt.Stmt.{Stmt, Row_of-Stmt, end_of-Stmt, more_of-Stmt}
use Rattle.zir_tree.specs.declared.stmt.Stmt as stmt
use Rattle.zir_tree.specs.declared.stmt.Stmt.TheBlock.{shape-the_row-Stmt-0, hidden-the_row-Stmt-0}
use Rattle.zir_tree.specs.declared.program.Function.{Function}
use Rattle.zir_tree.specs.declared.program.Decl.{Decl}
use Rattle.zir_tree.specs.declared.program.Decl.TheVariants as decl
use Rattle.zir_tree.specs.declared.program.Prog.{Prog}
use Rattle.zir_names.specs.declared.program.Named.{Named}
use Rattle.zir_names.specs.declared.scope.Kind.TheVariants as kind
use Rattle.zir_names.specs.declared.scope.Need.TheVariants as need
use Rattle.zir_names.specs.declared.scope.Entry.{Entry}
use Rattle.zir_names.specs.Walk.{Walk, Fine, Broken, and_then}
use Rattle.zir_names.specs.Scope.{Seen, nothing_seen, numbered, counted, opened, left, Done, done, closed, resolved}
use Rattle.zir_names.specs.Expressions.{each, maybe, type_of, expr}
use Rattle.zir_names.specs.Statements as statements
use Rattle.zir_names.specs.Components as components
use Rattle.zir_names.specs.Programs as programs
use Rattle.zir_sound.proofs.Numbers.{entered_next, decl_fresh}
use Rattle.zir_beginning.specs.Order.{Apart, HaveOwnNumbers, StmtDeclares, BlockDeclares, AllDeclare, ParametersDeclare, FunctionsDeclare}
use Rattle.zir_beginning.proofs.Parts.{VarsAre, vars-wider, all-wider, parameters-wider, functions-wider}

-- of a walk that went on, the first part is fine
first : {A B : Type 0} (w : Walk A) (next : A → Walk B) (y : B) → and_then w next ≡ Fine y → (x : A) × (w ≡ Fine x) × (next x ≡ Fine y)
first {A} {B} (Fine x) next y h = (x, refl, h)
first {A} {B} (Broken r) next y h = absurd cc

-- a walk makes one thing
same : {A : Type 0} (x y : A) → let u : Walk A = Fine x in let v : Walk A = Fine y in u ≡ v → x ≡ y
same {A} x y h = ap (λ w. elim w [ Fine z ↦ z | Broken r ↦ x ]) h

-- what a part declares has numbers from one on and below another
pub record Numbers (a b : ℕ) (D : (ℕ → Type 0) → Type 0) : Type 1 where
  pub later : a ≤ b
  pub declares : (P : ℕ → Type 0) → ((id : ℕ) → a ≤ id → id < b → P id) → D P

no-number : (n : ℕ) → Numbers n n (λ P. Unit {0})
no-number n = record { later = omega arith; declares = λ P h. tt }

one-number : (n : ℕ) → Numbers n (suc n) (λ P. P n)
one-number n = record { later = omega arith; declares = λ P h. h n (omega arith) (omega arith) }

-- the same as another part
numbers-as : (a b : ℕ) (D E : (ℕ → Type 0) → Type 0) → ((P : ℕ → Type 0) → D P → E P) → Numbers a b D → Numbers a b E
numbers-as a b D E give h = record { later = h.later; declares = λ P k. give P (h.declares P k) }

-- one part and then another
numbers-then : (a b c : ℕ) (D E : (ℕ → Type 0) → Type 0) → Numbers a b D → Numbers b c E → Numbers a c (λ P. D P × E P)
numbers-then a b c D E h k =
    let le : a ≤ b = h.later in
    let le' : b ≤ c = k.later in
    record {
      later = omega (arith, le, le');
      declares = λ P all. (
        h.declares P (λ id low high. all id low (omega (arith, high, le'))),
        k.declares P (λ id low high. all id (omega (arith, low, le)) high),
      );
    }

-- a walk that ends here
numbers-done : {A : Type 0} (D : A → (ℕ → Type 0) → Type 0) (n : ℕ) (made : A) (s : Seen) (x : Done A) → done made s ≡ Fine x →
    Numbers n s.next (D made) → Numbers n x.seen.next (D x.made)
numbers-done {A} D n made s x h k = subst (λ (y : Done A). Numbers n y.seen.next (D y.made)) (same (record { made = made; seen = s }) x h) k

-- a part that is closed
numbers-closed : {A : Type 0} (D : A → (ℕ → Type 0) → Type 0) (n : ℕ) (before : Seen) (w : Walk (Done A)) (x : Done A) →
    ((y : Done A) → w ≡ Fine y → Numbers n y.seen.next (D y.made)) → closed before w ≡ Fine x → Numbers n x.seen.next (D x.made)
numbers-closed {A} D n before w x k h =
    let y = first w (λ part. done part.made (left before part.seen)) x h in
    numbers-done D n y.0.made (left before y.0.seen) x y.2 (k y.0 y.1)

-- statements of a list as a row of statements
pub block-list : (P : ℕ → Type 0) (ss : List Stmt) → AllDeclare P ss → BlockDeclares P (hidden-the_row-Stmt-0 ss)
unfolding shape-the_row-Stmt-0 hidden-the_row-Stmt-0 hidden
block-list P [] h = tt
block-list P (s ∷ ss) h = (h.0, block-list P ss h.1)

pub declares-If : (P : ℕ → Type 0) (e : Expr) (ss : List Stmt) (p : Place) → AllDeclare P ss → StmtDeclares P (stmt.If e ss p)
declares-If P e ss p h = block-list P ss h

pub declares-IfElse : (P : ℕ → Type 0) (e : Expr) (ss us : List Stmt) (p : Place) → AllDeclare P ss × AllDeclare P us →
    StmtDeclares P (stmt.IfElse e ss us p)
declares-IfElse P e ss us p h = (block-list P ss h.0, block-list P us h.1)

pub declares-While : (P : ℕ → Type 0) (e : Expr) (ss : List Stmt) (p : Place) → AllDeclare P ss → StmtDeclares P (stmt.While e ss p)
declares-While P e ss p h = block-list P ss h

pub declares-For : (P : ℕ → Type 0) (x : Ident) (a n : Expr) (ss : List Stmt) (p : Place) → P x.id × AllDeclare P ss → StmtDeclares P (stmt.For x a n ss p)
declares-For P x a n ss p h = (h.0, block-list P ss h.1)

var-numbers : (a : Seen) (v : Variable) (x : Done Variable) → statements.variable a v ≡ Fine x → Numbers a.next x.seen.next (λ P. P x.made.name.id)
var-numbers a v x h =
    let t = first (type_of a v.ty) _ x h in
    let i = first (maybe (expr a) v.initial) _ x t.2 in
    numbers-done (λ (w : Variable) P. P w.name.id) a.next (record { name = numbered a v.name; ty = t.0; initial = i.0; at = v.at })
    (opened kind.Variable (numbered a v.name) (counted a)) x i.2 (one-number a.next)

mutual
  stmt-numbers : (a : Seen) (s : Stmt) (x : Done Stmt) → statements.stmt a s ≡ Fine x → Numbers a.next x.seen.next (λ P. StmtDeclares P x.made)
  stmt-numbers a (stmt.Var v) x h =
      let y = first (statements.variable a v) (λ v'. done (stmt.Var v'.made) v'.seen) x h in
      numbers-done (λ (s : Stmt) P. StmtDeclares P s) a.next (stmt.Var y.0.made) y.0.seen x y.2 (var-numbers a v y.0 y.1)
  stmt-numbers a (stmt.Assign y path e) x h =
      let y' = first (resolved need.Target a y) _ x h in
      let path' = first (each (statements.access_of a) path) _ x y'.2 in
      let e' = first (expr a e) _ x path'.2 in
      numbers-done (λ (s : Stmt) P. StmtDeclares P s) a.next (stmt.Assign y'.0 path'.0 e'.0) a x e'.2 (no-number a.next)
  stmt-numbers a (stmt.Call f n es) x h =
      let f' = first (resolved need.Statement a f) _ x h in
      let es' = first (each (expr a) es) _ x f'.2 in
      numbers-done (λ (s : Stmt) P. StmtDeclares P s) a.next (stmt.Call f'.0 n es'.0) a x es'.2 (no-number a.next)
  stmt-numbers a (stmt.Error text at) x h =
      numbers-done (λ (s : Stmt) P. StmtDeclares P s) a.next (stmt.Error text at) a x h (no-number a.next)
  stmt-numbers a (stmt.If' e _ ss at) x h =
      let e' = first (expr a e) _ x h in
      let ss' = first (closed a (statements.stmts a ss)) _ x e'.2 in
      let k = numbers-closed (λ (us : List Stmt) P. AllDeclare P us) a.next a (statements.stmts a ss) ss'.0 (stmts-numbers a ss) ss'.1 in
      numbers-done (λ (s : Stmt) P. StmtDeclares P s) a.next (stmt.If e'.0 ss'.0.made at) ss'.0.seen x ss'.2
      (numbers-as a.next ss'.0.seen.next (λ P. AllDeclare P ss'.0.made) (λ P. StmtDeclares P (stmt.If e'.0 ss'.0.made at))
      (λ P. declares-If P e'.0 ss'.0.made at) k)
  stmt-numbers a (stmt.IfElse' e _ ss _ ts at) x h =
      let e' = first (expr a e) _ x h in
      let ss' = first (closed a (statements.stmts a ss)) _ x e'.2 in
      let k = numbers-closed (λ (us : List Stmt) P. AllDeclare P us) a.next a (statements.stmts a ss) ss'.0 (stmts-numbers a ss) ss'.1 in
      let b = ss'.0.seen in
      let ts' = first (closed b (statements.stmts b ts)) _ x ss'.2 in
      let l = numbers-closed (λ (us : List Stmt) P. AllDeclare P us) b.next b (statements.stmts b ts) ts'.0 (stmts-numbers b ts) ts'.1 in
      numbers-done (λ (s : Stmt) P. StmtDeclares P s) a.next (stmt.IfElse e'.0 ss'.0.made ts'.0.made at) ts'.0.seen x ts'.2
      (numbers-as a.next ts'.0.seen.next (λ P. AllDeclare P ss'.0.made × AllDeclare P ts'.0.made)
      (λ P. StmtDeclares P (stmt.IfElse e'.0 ss'.0.made ts'.0.made at)) (λ P. declares-IfElse P e'.0 ss'.0.made ts'.0.made at)
      (numbers-then a.next b.next ts'.0.seen.next (λ P. AllDeclare P ss'.0.made) (λ P. AllDeclare P ts'.0.made) k l))
  stmt-numbers a (stmt.While' e _ ss at) x h =
      let e' = first (expr a e) _ x h in
      let ss' = first (closed a (statements.stmts a ss)) _ x e'.2 in
      let k = numbers-closed (λ (us : List Stmt) P. AllDeclare P us) a.next a (statements.stmts a ss) ss'.0 (stmts-numbers a ss) ss'.1 in
      numbers-done (λ (s : Stmt) P. StmtDeclares P s) a.next (stmt.While e'.0 ss'.0.made at) ss'.0.seen x ss'.2
      (numbers-as a.next ss'.0.seen.next (λ P. AllDeclare P ss'.0.made) (λ P. StmtDeclares P (stmt.While e'.0 ss'.0.made at))
      (λ P. declares-While P e'.0 ss'.0.made at) k)
  stmt-numbers a (stmt.For' i b n _ ss at) x h =
      let b' = first (expr a b) _ x h in
      let n' = first (expr a n) _ x b'.2 in
      let c = statements.indexed a i in
      let ss' = first (closed a (statements.stmts c ss)) _ x n'.2 in
      let k = numbers-closed (λ (us : List Stmt) P. AllDeclare P us) c.next a (statements.stmts c ss) ss'.0 (stmts-numbers c ss) ss'.1 in
      numbers-done (λ (s : Stmt) P. StmtDeclares P s) a.next (stmt.For (numbered a i) b'.0 n'.0 ss'.0.made at) ss'.0.seen x ss'.2
      (numbers-as a.next ss'.0.seen.next (λ P. P a.next × AllDeclare P ss'.0.made)
      (λ P. StmtDeclares P (stmt.For (numbered a i) b'.0 n'.0 ss'.0.made at)) (λ P. declares-For P (numbered a i) b'.0 n'.0 ss'.0.made at)
      (numbers-then a.next c.next ss'.0.seen.next (λ P. P a.next) (λ P. AllDeclare P ss'.0.made) (one-number a.next) k))

  stmts-numbers : (a : Seen) {m : _} (ss : Row_of-Stmt m) (z : Done (List Stmt)) → statements.stmts a ss ≡ Fine z →
      Numbers a.next z.seen.next (λ P. AllDeclare P z.made)
  stmts-numbers a end_of-Stmt z h = numbers-done (λ (us : List Stmt) P. AllDeclare P us) a.next [] a z h (no-number a.next)
  stmts-numbers a (more_of-Stmt s ss) z h =
      let y = first (statements.stmt a s) _ z h in
      let ys = first (statements.stmts y.0.seen ss) _ z y.2 in
      numbers-done (λ (us : List Stmt) P. AllDeclare P us) a.next (y.0.made ∷ ys.0.made) ys.0.seen z ys.2
      (numbers-then a.next y.0.seen.next ys.0.seen.next (λ P. StmtDeclares P y.0.made) (λ P. AllDeclare P ys.0.made)
      (stmt-numbers a s y.0 y.1) (stmts-numbers y.0.seen ss ys.0 ys.1))

-- the statements of a body
turn-numbers : (a : Seen) (ss : List Stmt) (z : Done (List Stmt)) → statements.in_turn statements.stmt a ss ≡ Fine z →
    Numbers a.next z.seen.next (λ P. AllDeclare P z.made)
turn-numbers a [] z h = numbers-done (λ (us : List Stmt) P. AllDeclare P us) a.next [] a z h (no-number a.next)
turn-numbers a (s ∷ ss) z h =
    let y = first (statements.stmt a s) _ z h in
    let ys = first (statements.in_turn statements.stmt y.0.seen ss) _ z y.2 in
    numbers-done (λ (us : List Stmt) P. AllDeclare P us) a.next (y.0.made ∷ ys.0.made) ys.0.seen z ys.2
    (numbers-then a.next y.0.seen.next ys.0.seen.next (λ P. StmtDeclares P y.0.made) (λ P. AllDeclare P ys.0.made)
    (stmt-numbers a s y.0 y.1) (turn-numbers y.0.seen ss ys.0 ys.1))

body-numbers : (a : Seen) (b : Body) (x : Done Body) → statements.body_of a b ≡ Fine x → Numbers a.next x.seen.next (λ P. AllDeclare P x.made.statements)
body-numbers a b x h =
    numbers-closed (λ (c : Body) P. AllDeclare P c.statements) a.next a _ x
    (λ y k.
    let ss = first (statements.in_turn statements.stmt a b.statements) _ y k in
    let r = first (maybe (statements.returned ss.0.seen) b.result) _ y ss.2 in
    numbers-done (λ (c : Body) P. AllDeclare P c.statements) a.next (record { statements = ss.0.made; result = r.0 }) ss.0.seen y r.2
    (turn-numbers a b.statements ss.0 ss.1)) h

params-numbers : (a : Seen) (before : List Entry) (fs : List Field) (z : Done (List Field)) → programs.params a before fs ≡ Fine z →
    Numbers a.next z.seen.next (λ P. ParametersDeclare P z.made)
params-numbers a before [] z h = numbers-done (λ (ps : List Field) P. ParametersDeclare P ps) a.next [] a z h (no-number a.next)
params-numbers a before (f ∷ fs) z h =
    let n = first (programs.new_name before f.name) _ z h in
    let t = first (type_of a f.ty) _ z n.2 in
    let fs' = first (programs.params (counted a) (programs.and_name before f.name) fs) _ z t.2 in
    numbers-done (λ (ps : List Field) P. ParametersDeclare P ps) a.next (record { name = numbered a f.name; ty = t.0 } ∷ fs'.0.made) fs'.0.seen z fs'.2
    (numbers-then a.next (suc a.next) fs'.0.seen.next (λ P. P a.next) (λ P. ParametersDeclare P fs'.0.made) (one-number a.next)
    (params-numbers (counted a) (programs.and_name before f.name) fs fs'.0 fs'.1))

-- from one number on and below another
abbrev pub InRange : ℕ → ℕ → ℕ → Type 0
InRange n m id = (n ≤ id) × (id < m)

-- a declaration, its parameters and what its body declares have such numbers
abbrev Ranges : ℕ → ℕ → Decl → Type 0
Ranges n m (decl.Var v) = InRange n m v.name.id
Ranges n m (decl.Struct s) = Unit {0}
Ranges n m (decl.Function f) = ParametersDeclare (InRange n m) f.params × AllDeclare (InRange n m) f.body.statements
Ranges n m (decl.Comp c) = Unit {0}

ranges-done : (n : ℕ) (d : Decl) (s : Seen) (x : Done Decl) → done d s ≡ Fine x → Ranges n s.next d → Ranges n x.seen.next x.made
ranges-done n d s x h k = subst (λ (y : Done Decl). Ranges n y.seen.next y.made) (same (record { made = d; seen = s }) x h) k

function-ranges : (a : Seen) (f : Function) (x : Done Decl) → programs.function_of a f ≡ Fine x → Ranges a.next x.seen.next x.made
function-ranges a f x h =
    let own = numbered a f.name in
    let n = first (programs.new_name a.open_ f.name) _ x h in
    let ps = first (programs.params (counted a) [] f.params) _ x n.2 in
    let r = first (maybe (type_of ps.0.seen) f.result) _ x ps.2 in
    let in_body : Seen = programs.entered ps.0.made (programs.inside own ps.0.seen) in
    let b = first (statements.body_of in_body f.body) _ x r.2 in
    let m = b.0.seen.next in
    let k = params-numbers (counted a) [] f.params ps.0 ps.1 in
    let l : Numbers ps.0.seen.next m (λ P. AllDeclare P b.0.made.statements) =
    subst (λ n. Numbers n m (λ P. AllDeclare P b.0.made.statements)) (entered_next ps.0.made (programs.inside own ps.0.seen))
    (body-numbers in_body f.body b.0 b.1) in
    let both = numbers-then (suc a.next) ps.0.seen.next m (λ P. ParametersDeclare P ps.0.made) (λ P. AllDeclare P b.0.made.statements) k l in
    ranges-done a.next (decl.Function (record { name = own; params = ps.0.made; result = r.0; body = b.0.made; at = f.at }))
    (programs.behind (kind.Function (length f.params)) own a b.0.seen) x b.2
    (both.declares (InRange a.next m) (λ id low high. (omega (arith, low), high)))

decl-ranges : (a : Seen) (d : Decl) (x : Done Decl) → programs.decl_of a d ≡ Fine x → Ranges a.next x.seen.next x.made
decl-ranges a (decl.Var v) x h =
    let n = first (programs.new_name a.open_ v.name) _ x h in
    let y = first (statements.variable a v) _ x n.2 in
    ranges-done a.next (decl.Var y.0.made) y.0.seen x y.2
    ((var-numbers a v y.0 y.1).declares (InRange a.next y.0.seen.next) (λ id low high. (low, high)))
decl-ranges a (decl.Struct s) x h =
    let in_ : Seen = programs.inside (numbered a s.name) (counted a) in
    let n = first (programs.new_name a.open_ s.name) _ x h in
    let f = first (programs.fields in_ [] s.fields) _ x n.2 in
    ranges-done a.next (decl.Struct (record { name = numbered a s.name; fields = f.0; at = s.at }))
    (programs.behind kind.Structure (numbered a s.name) a in_) x f.2 tt
decl-ranges a (decl.Function f) x h = function-ranges a f x h
decl-ranges a (decl.Comp f) x h =
    let own = numbered a f.name in
    let n = first (programs.new_name a.open_ f.name) _ x h in
    let ps = first (programs.params (counted a) [] f.params) _ x n.2 in
    let c = first (components.comp (programs.entered ps.0.made (programs.inside own ps.0.seen)) f.body) _ x ps.2 in
    ranges-done a.next (decl.Comp (record { name = own; params = ps.0.made; body = c.0.made; at = f.at }))
    (programs.behind kind.Component own a c.0.seen) x c.2 tt

-- the top variables among declarations
abbrev pub vars_of : List Decl → List Variable
vars_of [] = []
vars_of (decl.Var v ∷ ds) = v ∷ vars_of ds
vars_of (decl.Struct s ∷ ds) = vars_of ds
vars_of (decl.Function f ∷ ds) = vars_of ds
vars_of (decl.Comp c ∷ ds) = vars_of ds

-- the functions among declarations
abbrev pub functions_of : List Decl → List Function
functions_of [] = []
functions_of (decl.Var v ∷ ds) = functions_of ds
functions_of (decl.Struct s ∷ ds) = functions_of ds
functions_of (decl.Function f ∷ ds) = f ∷ functions_of ds
functions_of (decl.Comp c ∷ ds) = functions_of ds

-- the numbers of the top variables are their own, and all numbers are in a range
pub record Ranged (n m : ℕ) (ds : List Decl) : Type 0 where
  pub later : n ≤ m
  pub vars : VarsAre (InRange n m) (vars_of ds)
  pub own : HaveOwnNumbers (vars_of ds)
  pub functions : FunctionsDeclare (λ id. InRange n m id × Apart (vars_of ds) id) (functions_of ds)

-- a number below a range
apart-above : (k m : ℕ) (vs : List Variable) (id : ℕ) → VarsAre (InRange k m) vs → id < k → Apart vs id
apart-above k m [] id h lt = tt
apart-above k m (v ∷ vs) id h lt =
    let low : k ≤ v.name.id = h.0.0 in
    (ne_eqb v.name.id id (λ e. let q : v.name.id ≡ id = e in omega (arith, q, low, lt)), apart-above k m vs id h.1 lt)

range-wider : (n k m id : ℕ) → n ≤ k → InRange k m id → InRange n m id
range-wider n k m id le h = let low : k ≤ id = h.0 in (omega (arith, low, le), h.1)

-- a declaration that is no variable
ranged-same : (n k m : ℕ) (ds : List Decl) → n ≤ k → Ranged k m ds → Ranged n m ds
ranged-same n k m ds le r =
    let le' : k ≤ m = r.later in
    record {
      later = omega (arith, le, le');
      vars = vars-wider (InRange k m) (InRange n m) (λ j. range-wider n k m j le) (vars_of ds) r.vars;
      own = r.own;
      functions = functions-wider (λ j. InRange k m j × Apart (vars_of ds) j) (λ j. InRange n m j × Apart (vars_of ds) j)
          (λ j a. (range-wider n k m j le a.0, a.1)) (functions_of ds) r.functions;
    }

-- one more declaration
ranged-more : (n k m : ℕ) (d : Decl) (ds : List Decl) → n ≤ k → Ranges n k d → Ranged k m ds → Ranged n m (d ∷ ds)
ranged-more n k m (decl.Var v) ds le h r =
    let id = v.name.id in
    let low : n ≤ id = h.0 in
    let high : id < k = h.1 in
    let le' : k ≤ m = r.later in
    record {
      later = omega (arith, le, le');
      vars = ((low, omega (arith, high, le')), vars-wider (InRange k m) (InRange n m) (λ j. range-wider n k m j le) (vars_of ds) r.vars);
      own = (apart-above k m (vars_of ds) id r.vars high, r.own);
      functions = functions-wider (λ j. InRange k m j × Apart (vars_of ds) j) (λ j. InRange n m j × Apart (v ∷ vars_of ds) j)
          (λ j a. let from : k ≤ j = a.0.0 in
          (range-wider n k m j le a.0, (ne_eqb id j (λ e. let q : id ≡ j = e in omega (arith, q, from, high)), a.1))) (functions_of ds) r.functions;
    }
ranged-more n k m (decl.Struct s) ds le h r =
    let more = ranged-same n k m ds le r in record { later = more.later; vars = more.vars; own = more.own; functions = more.functions }
ranged-more n k m (decl.Function f) ds le h r =
    let le' : k ≤ m = r.later in
    let wider : (j : ℕ) → InRange n k j → InRange n m j × Apart (vars_of ds) j =
    λ j a. let high : j < k = a.1 in ((a.0, omega (arith, high, le')), apart-above k m (vars_of ds) j r.vars high) in
    let more = ranged-same n k m ds le r in
    record {
      later = more.later;
      vars = more.vars;
      own = more.own;
      functions = (
        parameters-wider (InRange n k) (λ j. InRange n m j × Apart (vars_of ds) j) wider f.params h.0,
        all-wider (InRange n k) (λ j. InRange n m j × Apart (vars_of ds) j) wider f.body.statements h.1,
        more.functions,
      );
    }
ranged-more n k m (decl.Comp c) ds le h r =
    let more = ranged-same n k m ds le r in record { later = more.later; vars = more.vars; own = more.own; functions = more.functions }

-- all declarations
pub ranged-all : (a : Seen) (ds : List Decl) (z : Done (List Decl)) → statements.in_turn programs.decl_of a ds ≡ Fine z → Ranged a.next z.seen.next z.made
ranged-all a [] z h =
    subst (λ (y : Done (List Decl)). Ranged a.next y.seen.next y.made) (same (record { made = []; seen = a }) z h)
    (record { later = omega arith; vars = tt; own = tt; functions = tt })
ranged-all a (d ∷ ds) z h =
    let y = first (programs.decl_of a d) _ z h in
    let ys = first (statements.in_turn programs.decl_of y.0.seen ds) _ z y.2 in
    subst (λ (w : Done (List Decl)). Ranged a.next w.seen.next w.made) (same (record { made = y.0.made ∷ ys.0.made; seen = ys.0.seen }) z ys.2)
    (ranged-more a.next y.0.seen.next ys.0.seen.next y.0.made ys.0.made (decl_fresh a d y.0 y.1).later (decl-ranges a d y.0 y.1)
    (ranged-all y.0.seen ds ys.0 ys.1))

-- a program
pub named-first : (p : Prog) (n : Named) → programs.names p ≡ Fine n → (m : ℕ) × Ranged 1 m n.program.declarations
named-first p n h =
    let ds = first (statements.in_turn programs.decl_of nothing_seen p.declarations) _ n h in
    let input = first (type_of ds.0.seen p.input) _ n ds.2 in
    let main = first (components.comp ds.0.seen p.main) _ n input.2 in
    let output = first (type_of main.0.seen p.output) _ n main.2 in
    let made : Named = record {
      program = record { declarations = ds.0.made; input = input.0; main = main.0.made; output = output.0; at = p.at };
    } in (
      ds.0.seen.next,
      subst (λ (m : Named). Ranged 1 ds.0.seen.next m.program.declarations) (same made n output.2)
          (ranged-all nothing_seen p.declarations ds.0 ds.1),
    )
