-- Typing keeps the numbers that a program declares.
use Rattle.std.specs.Prelude.{ℕ, List, [], ◌∷◌, ◌++◌, Option, Some, None, ◌≡◌, ◌&&◌, nat_eq, false}
use Rattle.std.proofs.Common.{ap, sym, subst, ◌∙◌}
use Rattle.std.proofs.lemmas.List.{append-nil, append_assoc}
use Rattle.zir_tree.specs.declared.ident.Ident.{Ident}
use Rattle.zir_tree.specs.declared.place.Place.{Place}
use Rattle.zir_tree.specs.declared.types.Ty.{Ty}
use Rattle.zir_tree.specs.declared.types.Base.TheVariants.{Unit as UnitTy}
use Rattle.zir_tree.specs.declared.types.Field.{Field}
use Rattle.zir_tree.specs.declared.stmt.Var.{Var}
use Rattle.zir_tree.specs.declared.stmt.Body.{Body}
use Rattle.zir_tree.specs.declared.stmt.Return.{Return}
use Rattle.zir_tree.specs.declared.stmt.Stmt.{Stmt, Var as VarStmt, Assign, Call as CallStmt, Error, If, If', IfElse, IfElse', While, While', For, For', Row_of-Stmt, end_of-Stmt, more_of-Stmt}
use Rattle.zir_tree.specs.declared.program.Function.{Function}
use Rattle.zir_tree.specs.declared.program.Decl.{Decl}
use Rattle.zir_tree.specs.declared.program.Decl.TheVariants.{Var as VarDecl, Struct as StructDecl, Function as FunctionDecl, Comp as CompDecl}
use Rattle.zir_types.specs.declared.scope.Shape.{Shape}
use Rattle.zir_types.specs.declared.scope.Signature.{Signature}
use Rattle.zir_types.specs.declared.typed.Heading.{Heading}
use Rattle.zir_types.specs.declared.typed.Written.{Written}
use Rattle.zir_types.specs.declared.typed.Args.{Args}
use Rattle.zir_types.specs.declared.typed.Step.{Step}
use Rattle.zir_types.specs.declared.typed.TypedVar.{TypedVar}
use Rattle.zir_types.specs.declared.typed.TypedBody.{TypedBody}
use Rattle.zir_types.specs.declared.error.TypeError.TheVariants.{Mismatch}
use Rattle.zir_types.specs.Walk.{Walk, Fine, Broken, and_then}
use Rattle.zir_types.specs.Kinds.{scalar, same_ty}
use Rattle.zir_types.specs.Scope.{Visible, Placed, declare, type_in, function_from, written}
use Rattle.zir_types.specs.Expressions.{expr, unasked, wanted, Asks, InTurn, no_args, args_of, agree}
use Rattle.zir_types.specs.Statements
use Rattle.zir_types.specs.Programs
use Rattle.zir_types.proofs.Fine.{first_fine, held, same_fine}
use Rattle.zir_beginning.specs.Order.{Apart, HaveOwnNumbers, StmtDeclares, BlockDeclares, AllDeclare, ParametersDeclare, FunctionsDeclare}
use Rattle.zir_beginning.specs.Laws.{NumbersAreOwn}
use Rattle.zir_beginning.proofs.Parts.{functions-wider}
use Rattle.zir_beginning.proofs.Walking.{main-taken}
use Rattle.zir_beginning.proofs.Numbering.{declares-If, declares-IfElse, declares-While, declares-For, named-first, vars_of, functions_of, InRange}

all-more : (P : ℕ → Type 0) (xs : List Stmt) (x : Stmt) → AllDeclare P xs → StmtDeclares P x → AllDeclare P (xs ++ x ∷ [])
all-more P [] x h k = (k, tt)
all-more P (y ∷ xs) x h k = (h.0, all-more P xs x h.1 k)

parameters-more : (P : ℕ → Type 0) (xs : List Field) (x : Field) → ParametersDeclare P xs → P x.name.id → ParametersDeclare P (xs ++ x ∷ [])
parameters-more P [] x h k = (k, tt)
parameters-more P (y ∷ xs) x h k = (h.0, parameters-more P xs x h.1 k)

-- a typed variable has its number
var-keeps : (g : Visible) (v : Var) (x : TypedVar) → Statements.var g v ≡ Fine x → v.name.id ≡ x.what.name.id
var-keeps g v x h =
    let w = first_fine (written g.shapes v.ty) (λ t. and_then (Statements.initial g t.ty v.at v.initial) (Statements.var_of v t)) x h in
    let i = first_fine (Statements.initial g w.0.ty v.at v.initial) (Statements.var_of v w.0) x w.2 in
    ap (λ (y : TypedVar). y.what.name.id)
    (same_fine (record { what = record { name = v.name; ty = w.0.what; initial = i.0; at = v.at }; ty = w.0.ty }) x i.2)

-- a call declares nothing
call-keeps : (P : ℕ → Type 0) (o : Option (Placed Signature)) (f : Ident) (walk : Asks → Walk Args) (step : Step) →
    Statements.call_of o f walk ≡ Fine step → StmtDeclares P step.what
call-keeps P None f walk step h = absurd (cc)
call-keeps P (Some s) f walk step h =
    let z = first_fine (walk (InTurn s.item.params)) (Statements.call_step f s) step h in
    let made : Step = Statements.plain_step (CallStmt f s.place z.0.whats) in
    let c = held (agree s.item.params z.0.types && same_ty s.item.result (scalar UnitTy)) (Mismatch f.at) made step z.2 in
    subst (λ (step : Step). StmtDeclares P step.what) c.1 tt

mutual
  -- each statement
  stmt-keeps : (P : ℕ → Type 0) (g : Visible) (s : Stmt) (step : Step) → Statements.stmt g s ≡ Fine step → StmtDeclares P s → StmtDeclares P step.what
  stmt-keeps P g (VarStmt v) step h d =
      let x = first_fine (Statements.var g v) Statements.declared step h in
      subst (λ (step : Step). StmtDeclares P step.what) (same_fine (record { what = VarStmt x.0.what; declares = Statements.seen_var x.0 }) step x.2)
      (subst P (var-keeps g v x.0 x.1) d)
  stmt-keeps P g (Assign x steps e) step h d =
      let start = first_fine (Statements.root (type_in g.variables x.id) x) (λ start. and_then (Statements.path g start steps) (λ to. and_then
      (expr g (wanted to.ty) e) (Statements.assigned x to))) step h in
      let to = first_fine (Statements.path g start.0 steps) (λ to. and_then (expr g (wanted to.ty) e) (Statements.assigned x to)) step start.2 in
      let t = first_fine (expr g (wanted to.0.ty) e) (Statements.assigned x to.0) step to.2 in
      let made : Step = Statements.plain_step (Assign x to.0.steps t.0.what) in
      let c = held (same_ty to.0.ty t.0.ty) (Mismatch x.at) made step t.2 in
      subst (λ (step : Step). StmtDeclares P step.what) c.1 tt
  stmt-keeps P g (CallStmt f k es) step h d = call-keeps P (function_from 0 g.functions f.id) f (λ asks. args_of g asks no_args es) step h
  stmt-keeps P g (Error text p) step h d =
      subst (λ (step : Step). StmtDeclares P step.what) (same_fine (Statements.plain_step (Error text p)) step h) tt
  stmt-keeps P g (If' e _ ss p) step h d =
      let t = first_fine (expr g unasked e) (λ t. and_then (Statements.stmts g [] ss) (Statements.if_step p t)) step h in
      let us = first_fine (Statements.stmts g [] ss) (Statements.if_step p t.0) step t.2 in
      let c = held (Statements.is_condition t.0) (Mismatch p) (Statements.plain_step (If t.0.what us.0 p)) step us.2 in
      subst (λ (step : Step). StmtDeclares P step.what) c.1 (declares-If P t.0.what us.0 p (block-keeps P g [] ss us.0 us.1 tt d))
  stmt-keeps P g (IfElse' e _ ss _ ts p) step h d =
      let t = first_fine (expr g unasked e) (λ t. and_then (Statements.stmts g [] ss) (λ thens. and_then (Statements.stmts g [] ts)
      (Statements.if_else_step p t thens))) step h in
      let us = first_fine (Statements.stmts g [] ss) (λ thens. and_then (Statements.stmts g [] ts) (Statements.if_else_step p t.0 thens)) step t.2 in
      let vs = first_fine (Statements.stmts g [] ts) (Statements.if_else_step p t.0 us.0) step us.2 in
      let c = held (Statements.is_condition t.0) (Mismatch p) (Statements.plain_step (IfElse t.0.what us.0 vs.0 p)) step vs.2 in
      subst (λ (step : Step). StmtDeclares P step.what) c.1
      (declares-IfElse P t.0.what us.0 vs.0 p (block-keeps P g [] ss us.0 us.1 tt d.0, block-keeps P g [] ts vs.0 vs.1 tt d.1))
  stmt-keeps P g (While' e _ ss p) step h d =
      let t = first_fine (expr g unasked e) (λ t. and_then (Statements.stmts g [] ss) (Statements.while_step p t)) step h in
      let us = first_fine (Statements.stmts g [] ss) (Statements.while_step p t.0) step t.2 in
      let c = held (Statements.is_condition t.0) (Mismatch p) (Statements.plain_step (While t.0.what us.0 p)) step us.2 in
      subst (λ (step : Step). StmtDeclares P step.what) c.1 (declares-While P t.0.what us.0 p (block-keeps P g [] ss us.0 us.1 tt d))
  stmt-keeps P g (For' x a n _ ss p) step h d =
      let t = first_fine (expr g unasked a) (λ first. and_then (expr g unasked n) (λ turns. and_then (Statements.stmts (Statements.with_index x g) [] ss)
      (Statements.for_step x p first turns))) step h in
      let u = first_fine (expr g unasked n) (λ turns. and_then (Statements.stmts (Statements.with_index x g) [] ss)
      (Statements.for_step x p t.0 turns)) step t.2 in
      let us = first_fine (Statements.stmts (Statements.with_index x g) [] ss) (Statements.for_step x p t.0 u.0) step u.2 in
      let c = held (Statements.is_count t.0 && Statements.is_count u.0) (Mismatch p) (Statements.plain_step (For x t.0.what u.0.what us.0 p)) step us.2 in
      subst (λ (step : Step). StmtDeclares P step.what) c.1
      (declares-For P x t.0.what u.0.what us.0 p (d.0, block-keeps P (Statements.with_index x g) [] ss us.0 us.1 tt d.1))

  -- statements in a row
  block-keeps : {m : _} (P : ℕ → Type 0) (g : Visible) (done : List Stmt) (row : Row_of-Stmt m) (z : List Stmt) →
      Statements.stmts g done row ≡ Fine z → AllDeclare P done → BlockDeclares P row → AllDeclare P z
  block-keeps P g done end_of-Stmt z h a d = subst (AllDeclare P) (same_fine done z h) a
  block-keeps P g done (more_of-Stmt s row) z h a d =
      let x = first_fine (Statements.stmt g s) (λ step. Statements.stmts (declare step.declares g) (done ++ step.what ∷ []) row) z h in
      block-keeps P (declare x.0.declares g) (done ++ x.0.what ∷ []) row z x.2 (all-more P done x.0.what a (stmt-keeps P g s x.0 x.1 d.0)) d.1

-- statements of a body
all-keeps : (P : ℕ → Type 0) (g : Visible) (done ss : List Stmt) (z : Statements.Stmts) → Statements.stmts_of g done ss ≡ Fine z →
    AllDeclare P done → AllDeclare P ss → AllDeclare P z.done
all-keeps P g done [] z h a d =
    subst (λ (z : Statements.Stmts). AllDeclare P z.done) (same_fine (record { done = done; scope = g }) z h) a
all-keeps P g done (s ∷ ss) z h a d =
    let x = first_fine (Statements.stmt g s) (λ step. Statements.stmts_of (declare step.declares g) (done ++ step.what ∷ []) ss) z h in
    all-keeps P (declare x.0.declares g) (done ++ x.0.what ∷ []) ss z x.2 (all-more P done x.0.what a (stmt-keeps P g s x.0 x.1 d.0)) d.1

-- the end of a body adds no statement
end-keeps : (t : Option Ty) (p : Place) (r : Option Return) (s : Statements.Stmts) (x : TypedBody) → Statements.fun_end t p r s ≡ Fine x →
    s.done ≡ x.what.statements
end-keeps None p None s x h = ap (λ (b : TypedBody). b.what.statements) (same_fine (Statements.body_of s.done None (scalar UnitTy)) x h)
end-keeps None p (Some r) s x h =
    let e = first_fine (expr s.scope unasked r.value) (λ e. Broken (Mismatch p)) x h in absurd (let q = e.2 in cc)
end-keeps (Some t) p None s x h = absurd (cc)
end-keeps (Some t) p (Some r) s x h =
    let e = first_fine (expr s.scope (wanted t) r.value) (Statements.returned s.done t r.at) x h in
    let k = first_fine _ (Statements.returning s.done r.at) x e.2 in
    ap (λ (b : TypedBody). b.what.statements)
    (same_fine (Statements.body_of s.done (Some (record { value = k.0.what; at = r.at })) k.0.ty) x k.2)

body-keeps : (P : ℕ → Type 0) (g : Visible) (t : Option Ty) (p : Place) (b : Body) (x : TypedBody) → Statements.fun_body g t p b ≡ Fine x →
    AllDeclare P b.statements → AllDeclare P x.what.statements
body-keeps P g t p b x h d =
    let s = first_fine (Statements.stmts_of g [] b.statements) (Statements.fun_end t p b.result) x h in
    subst (AllDeclare P) (end-keeps t p b.result s.0 x s.2) (all-keeps P g [] b.statements s.0 s.1 tt d)

-- parameters
heading-keeps : (P : ℕ → Type 0) (ss : List Shape) (done : Heading) (fs : List Field) (h : Heading) → Statements.heading ss done fs ≡ Fine h →
    ParametersDeclare P done.fields → ParametersDeclare P fs → ParametersDeclare P h.fields
heading-keeps P ss done [] h e a d = subst (λ (h : Heading). ParametersDeclare P h.fields) (same_fine done h e) a
heading-keeps P ss done (f ∷ fs) h e a d =
    let t = first_fine (written ss f.ty) (λ t. Statements.heading ss (Statements.one_more_param done f.name t) fs) h e in
    heading-keeps P ss (Statements.one_more_param done f.name t.0) fs h t.2
    (parameters-more P done.fields (record { name = f.name; ty = t.0.what }) a d.0) d.1

-- these variables have the same numbers
abbrev SameNumbers : List Var → List Var → Type 0
SameNumbers [] [] = Unit {0}
SameNumbers [] (w ∷ ws) = ⊥
SameNumbers (v ∷ vs) [] = ⊥
SameNumbers (v ∷ vs) (w ∷ ws) = (v.name.id ≡ w.name.id) × SameNumbers vs ws

same-apart : (vs ws : List Var) (id : ℕ) → SameNumbers vs ws → Apart vs id → Apart ws id
same-apart [] [] id h a = tt
same-apart [] (w ∷ ws) id h a = absurd h
same-apart (v ∷ vs) [] id h a = absurd h
same-apart (v ∷ vs) (w ∷ ws) id h a = (subst (λ n. nat_eq n id ≡ false) h.0 a.0, same-apart vs ws id h.1 a.1)

same-own : (vs ws : List Var) → SameNumbers vs ws → HaveOwnNumbers vs → HaveOwnNumbers ws
same-own [] [] h o = tt
same-own [] (w ∷ ws) h o = absurd h
same-own (v ∷ vs) [] h o = absurd h
same-own (v ∷ vs) (w ∷ ws) h o = (subst (Apart ws) h.0 (same-apart vs ws v.name.id h.1 o.0), same-own vs ws h.1 o.1)

-- what has come to the declarations so far, up to the end, declares the numbers of these declarations
record Keeps (d z : Programs.Declared) (xs : List Decl) : Type 1 where
  more : List Var
  others : List Function
  variables_are : z.variables ≡ d.variables ++ more
  functions_are : z.functions ≡ d.functions ++ others
  same : SameNumbers (vars_of xs) more
  inner : (P : ℕ → Type 0) → FunctionsDeclare P (functions_of xs) → FunctionsDeclare P others

-- one item behind some, and others behind it
one-front : {A : Type 0} (xs ys : List A) (x : A) (zs : List A) → zs ≡ (xs ++ x ∷ []) ++ ys → zs ≡ xs ++ x ∷ ys
one-front {A} xs ys x zs e = e ∙ append_assoc xs (x ∷ []) ys

-- a declaration
one-keeps : (d e z : Programs.Declared) (x : Decl) (xs : List Decl) → Programs.declaration d x ≡ Fine e → Keeps e z xs → Keeps d z (x ∷ xs)
one-keeps d e z (VarDecl v) xs h =
    let t = first_fine (Statements.var d.scope v) (Programs.with_top d) e h in
    let made : Programs.Declared = record d { scope = declare (Statements.seen_var t.0) d.scope; variables = d.variables ++ t.0.what ∷ [] } in
    subst (λ e. Keeps e z xs → Keeps d z (VarDecl v ∷ xs)) {x = made} (same_fine made e t.2) (λ k. record {
      more = t.0.what ∷ k.more;
      others = k.others;
      variables_are = one-front d.variables k.more t.0.what z.variables k.variables_are;
      functions_are = k.functions_are;
      same = (var-keeps d.scope v t.0 t.1, k.same);
      inner = k.inner;
    })
one-keeps d e z (StructDecl s) xs h =
    let t = first_fine (Statements.heading d.scope.shapes Statements.no_heading s.fields) (Programs.with_struct d s) e h in
    let made : Programs.Declared = record d {
      scope = record d.scope { shapes = d.scope.shapes ++ Programs.shape_of d.scope.shapes s t.0 ∷ [] };
    } in
    subst (λ e. Keeps e z xs → Keeps d z (StructDecl s ∷ xs)) {x = made} (same_fine made e t.2) (λ k. record {
      more = k.more;
      others = k.others;
      variables_are = k.variables_are;
      functions_are = k.functions_are;
      same = k.same;
      inner = k.inner;
    })
one-keeps d e z (FunctionDecl f) xs h =
    let body : Heading → Option Written → Walk TypedBody =
    λ hd r. Statements.fun_body (declare hd.seen d.scope) (Programs.written_ty r) f.at f.body in
    let t = first_fine (Statements.heading d.scope.shapes Statements.no_heading f.params) (λ hd. and_then (Programs.result_of d.scope.shapes f.result)
    (λ r. and_then (body hd r) (Programs.with_function d f hd r))) e h in
    let r = first_fine (Programs.result_of d.scope.shapes f.result) (λ r. and_then (body t.0 r) (Programs.with_function d f t.0 r)) e t.2 in
    let b = first_fine (body t.0 r.0) (Programs.with_function d f t.0 r.0) e r.2 in
    let one : Function = record { name = f.name; params = t.0.fields; result = Programs.written_what r.0; body = b.0.what; at = f.at } in
    let sig : Signature = record { id = f.name.id; params = t.0.types; result = Programs.result_ty (Programs.written_ty r.0) } in
    let made : Programs.Declared = record d {
      scope = record d.scope { functions = d.scope.functions ++ sig ∷ [] };
      functions = d.functions ++ one ∷ [];
    } in
    subst (λ e. Keeps e z xs → Keeps d z (FunctionDecl f ∷ xs)) {x = made} (same_fine made e b.2) (λ k. record {
      more = k.more;
      others = one ∷ k.others;
      variables_are = k.variables_are;
      functions_are = one-front d.functions k.others one z.functions k.functions_are;
      same = k.same;
      inner = λ P q. (
        heading-keeps P d.scope.shapes Statements.no_heading f.params t.0 t.1 tt q.0,
        body-keeps P (declare t.0.seen d.scope) (Programs.written_ty r.0) f.at f.body b.0 b.1 q.1,
        k.inner P q.2,
      );
    })
one-keeps d e z (CompDecl c) xs h =
    let t = first_fine (Statements.heading d.scope.shapes Statements.no_heading c.params) (Programs.with_comp d c) e h in
    let made : Programs.Declared = record d { comps = record { id = c.name.id; head = t.0; body = c.body } ∷ d.comps } in
    subst (λ e. Keeps e z xs → Keeps d z (CompDecl c ∷ xs)) {x = made} (same_fine made e t.2) (λ k. record {
      more = k.more;
      others = k.others;
      variables_are = k.variables_are;
      functions_are = k.functions_are;
      same = k.same;
      inner = k.inner;
    })

-- all declarations
list-keeps : (d z : Programs.Declared) (xs : List Decl) → Programs.declarations d xs ≡ Fine z → Keeps d z xs
list-keeps d z [] h =
    let is = same_fine d z h in
    record {
      more = [];
      others = [];
      variables_are = ap (λ (c : Programs.Declared). c.variables) (sym is) ∙ sym (append-nil d.variables);
      functions_are = ap (λ (c : Programs.Declared). c.functions) (sym is) ∙ sym (append-nil d.functions);
      same = tt;
      inner = λ P q. tt;
    }
list-keeps d z (x ∷ xs) h =
    let e = first_fine (Programs.declaration d x) (λ e. Programs.declarations e xs) z h in
    one-keeps d e.0 z x xs e.1 (list-keeps e.0 z xs e.2)

-- the law
pub numbers_own : NumbersAreOwn
numbers_own p n core named h =
    let ds = named-first p n named in
    let d = first_fine (Programs.declarations Programs.none_declared n.program.declarations) (Programs.main_of n.program) core h in
    let t = main-taken n.program d.0 core d.2 in
    let k = list-keeps Programs.none_declared d.0 n.program.declarations d.1 in
    let vars : List Var = vars_of n.program.declarations in
    let same : SameNumbers vars core.variables = subst (SameNumbers vars) (sym k.variables_are ∙ t.variables) k.same in
    let wider : (id : ℕ) → InRange 1 ds.0 id × Apart vars id → Apart core.variables id = λ id a. same-apart vars core.variables id same a.1 in
    record {
      own = same-own vars core.variables same ds.1.own;
      inner = subst (FunctionsDeclare (Apart core.variables)) (sym k.functions_are ∙ t.functions)
          (k.inner (Apart core.variables) (functions-wider (λ id. InRange 1 ds.0 id × Apart vars id) (Apart core.variables) wider
          (functions_of n.program.declarations) ds.1.functions));
    }
