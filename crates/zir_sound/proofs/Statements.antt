-- What the walks of statements and bodies accept keeps the rules.
use Rattle.std.specs.Prelude.{◌≡◌, refl, ℕ, List, [], ◌∷◌, ◌++◌, true, ◌&&◌, Option, Some, None}
use Rattle.std.proofs.Common.{ap, ◌∙◌, sym, subst}
use Rattle.zir_tree.specs.declared.place.Place.{Place}
use Rattle.zir_tree.specs.declared.ident.Ident.{Ident}
use Rattle.zir_tree.specs.declared.types.Base.{Base}
use Rattle.zir_tree.specs.declared.types.Base.TheVariants.{Unit as UnitTy, Bool as BoolTy, Int32}
use Rattle.zir_tree.specs.declared.types.Ty.{Ty}
use Rattle.zir_tree.specs.declared.expr.Expr.{Expr}
use Rattle.zir_tree.specs.declared.stmt.Access.{Access}
use Rattle.zir_tree.specs.declared.stmt.Access.TheVariants.{Index, Slice, Part}
use Rattle.zir_tree.specs.declared.stmt.Stmt.{Stmt, Var as VarStmt, Assign, Call as CallStmt, Error, If, If', IfElse, IfElse', While, While', For}
use Rattle.zir_tree.specs.declared.stmt.Stmt.{For', Row_of-Stmt, end_of-Stmt, more_of-Stmt}
use Rattle.zir_tree.specs.declared.stmt.Return.{Return}
use Rattle.zir_tree.specs.declared.stmt.Body.{Body}
use Rattle.zir_types.specs.declared.typed.Typed.{Typed}
use Rattle.zir_types.specs.declared.typed.Selected.{Selected}
use Rattle.zir_types.specs.declared.typed.Path.{Path}
use Rattle.zir_types.specs.declared.typed.Step.{Step}
use Rattle.zir_types.specs.declared.typed.TypedBody.{TypedBody}
use Rattle.zir_types.specs.declared.scope.Signature.{Signature}
use Rattle.zir_types.specs.declared.error.TypeError.TheVariants.{Mismatch}
use Rattle.zir_types.specs.Walk.{Walk, Fine, Broken, and_then, check}
use Rattle.zir_types.specs.Kinds.{scalar, arr, is_whole, scalar_of, same_ty}
use Rattle.zir_types.specs.Scope.{Visible, Placed, declare, variable, type_in, function_from, part_in}
use Rattle.zir_types.specs.Expressions.{expr, unasked, wanted, InTurn, no_args, args_of, agree}
use Rattle.zir_types.specs.Statements
use Rattle.zir_types.specs.Typing.{Has}
use Rattle.zir_types.proofs.Fine.{first_fine, held, same_fine, both}
use Rattle.zir_types.proofs.Agreement.{same_ty_is, whole_is, agree_is}
use Rattle.zir_types.proofs.Sound.{sound}
use Rattle.zir_sound.specs.Statements.{AreStmtsOf, Each, IsBody, IsStmt, Leads, behind, brought}
use Rattle.zir_sound.proofs.Found.{args_sound, function_place, has_same, var_sound}
use Rattle.zir_sound.proofs.Rows.{is-If, is-IfElse, is-While, is-For}

-- A type by its parts.
pub ty_eq : (t : Ty) (ls : List ℕ) (b : Base) → t.lengths ≡ ls → t.base ≡ b → t ≡ record { lengths = ls; base = b }
ty_eq t ls b e f = ap (λ l. let v : Ty = record { lengths = l; base = t.base } in v) e ∙ ap (λ c. let v : Ty = record { lengths = ls; base = c } in v) f

-- A path that leads on, and then one step more.
leads_more : (g : Visible) (t u v : Ty) (steps : List Access) (step : Access) → Leads g t steps u → Leads g u (step ∷ []) v → Leads g t (steps ++ step ∷ []) v
leads_more g t u v [] step h k = subst (λ s. Leads g s (step ∷ []) v) (sym h) k
leads_more g t u v (Index e p ∷ steps) step (n, s, w, is, whole, has, more) k = (n, s, w, is, whole, has, leads_more g s u v steps step more k)
leads_more g t u v (Slice e c p ∷ steps) step (n, s, w, is, whole, has, more) k = (n, s, w, is, whole, has, leads_more g (arr c s) u v steps step more k)
leads_more g t u v (Part x c p ∷ steps) step (s, is, more) k = (s, is, leads_more g s u v steps step more k)

-- The steps so far lead from the variable to here.
abbrev Here : Visible → Ty → Path → Type 0
Here g t done = Leads g t done.steps done.ty

index_step_sound : (g : Visible) (from : Ty) (done next : Path) (t : Typed) (p : Place) (ls : List ℕ) (b : Base) → done.ty.lengths ≡ ls →
    done.ty.base ≡ b → Has g t.ty t.what →
    Here g from done → Statements.index_step_if ls b (is_whole (scalar_of t.ty)) p done t ≡ Fine next → Here g from next
index_step_sound g from done next t p [] b e f has here h = absurd cc
index_step_sound g from done next t p (n ∷ ns) b e f has here h =
    let u : Ty = record { lengths = ns; base = b } in
    let r = held (is_whole (scalar_of t.ty)) (Mismatch p) (Statements.longer done (Index t.what p) u) next h in
    subst (Here g from) r.1
    (leads_more g from done.ty u done.steps (Index t.what p) here (
      n,
      u,
      scalar_of t.ty,
      ty_eq done.ty (n ∷ ns) b e f,
      r.0,
      subst (λ v. Has g v t.what) (whole_is t.ty r.0) has,
      refl,
    ))

slice_step_sound : (g : Visible) (from : Ty) (done next : Path) (t : Typed) (k : ℕ) (p : Place) (ls : List ℕ) (b : Base) → done.ty.lengths ≡ ls →
    done.ty.base ≡ b → Has g t.ty t.what →
    Here g from done → Statements.slice_step_if ls b (is_whole (scalar_of t.ty)) k p done t ≡ Fine next → Here g from next
slice_step_sound g from done next t k p [] b e f has here h = absurd cc
slice_step_sound g from done next t k p (n ∷ ns) b e f has here h =
    let u : Ty = record { lengths = ns; base = b } in
    let r = held (is_whole (scalar_of t.ty)) (Mismatch p) (Statements.longer done (Slice t.what k p) (arr k u)) next h in
    subst (Here g from) r.1
    (leads_more g from done.ty (arr k u) done.steps (Slice t.what k p) here (
      n,
      u,
      scalar_of t.ty,
      ty_eq done.ty (n ∷ ns) b e f,
      r.0,
      subst (λ v. Has g v t.what) (whole_is t.ty r.0) has,
      refl,
    ))

part_step_sound : (g : Visible) (from : Ty) (done next : Path) (x : List ℕ) (p : Place) (o : Option Selected) → part_in g.shapes done.ty x ≡ o →
    Here g from done → Statements.part_step o x p done ≡ Fine next → Here g from next
part_step_sound g from done next x p None e here h = absurd cc
part_step_sound g from done next x p (Some f) e here h =
    subst (Here g from) (same_fine (Statements.longer done (Part x f.place p) f.ty) next h)
    (leads_more g from done.ty f.ty done.steps (Part x f.place p) here (f.ty, e, refl))

path_sound : (g : Visible) (from : Ty) (done : Path) (steps : List Access) (to : Path) → Here g from done → Statements.path g done steps ≡ Fine to →
    Here g from to
path_sound g from done [] to here h = subst (Here g from) (same_fine done to h) here
path_sound g from done (Index e p ∷ steps) to here h =
    let t = first_fine (expr g unasked e) (λ t. and_then (Statements.index_step p done t) (λ next. Statements.path g next steps)) to h in
    let n = first_fine (Statements.index_step p done t.0) (λ next. Statements.path g next steps) to t.2 in
    path_sound g from n.0 steps to (index_step_sound g from done n.0 t.0 p done.ty.lengths done.ty.base refl refl (sound g unasked e t.0 t.1) here n.1) n.2
path_sound g from done (Slice e k p ∷ steps) to here h =
    let t = first_fine (expr g unasked e) (λ t. and_then (Statements.slice_step k p done t) (λ next. Statements.path g next steps)) to h in
    let n = first_fine (Statements.slice_step k p done t.0) (λ next. Statements.path g next steps) to t.2 in
    path_sound g from n.0 steps to (slice_step_sound g from done n.0 t.0 k p done.ty.lengths done.ty.base refl refl (sound g unasked e t.0 t.1) here n.1) n.2
path_sound g from done (Part x k p ∷ steps) to here h =
    let n = first_fine (Statements.part_step (part_in g.shapes done.ty x) x p done) (λ next. Statements.path g next steps) to h in
    path_sound g from n.0 steps to (part_step_sound g from done n.0 x p (part_in g.shapes done.ty x) refl here n.1) n.2

-- A statement that was typed keeps its rule, and brings into scope what it declares.
abbrev Kept : Visible → Step → Type 0
Kept g s = IsStmt g s.what × (s.declares ≡ brought s.what)

plain_kept : (g : Visible) (s : Stmt) (step : Step) → IsStmt g s → [] ≡ brought s → Statements.plain_step s ≡ step → Kept g step
plain_kept g s step is none e = subst (Kept g) e (is, none)

assign_sound : (g : Visible) (x : Ident) (steps : List Access) (e : Expr) (o : Option Ty) (step : Step) → type_in g.variables x.id ≡ o →
    and_then (Statements.root o x) (λ start. and_then (Statements.path g start steps) (λ to. and_then (expr g (wanted to.ty) e)
    (Statements.assigned x to))) ≡ Fine step → Kept g step
assign_sound g x steps e None step found h = absurd cc
assign_sound g x steps e (Some t) step found h =
    let start : Path = record { steps = []; ty = t } in
    let to = first_fine (Statements.path g start steps) (λ to. and_then (expr g (wanted to.ty) e) (Statements.assigned x to)) step h in
    let v = first_fine (expr g (wanted to.0.ty) e) (Statements.assigned x to.0) step to.2 in
    let r = held (same_ty to.0.ty v.0.ty) (Mismatch x.at) (Statements.plain_step (Assign x to.0.steps v.0.what)) step v.2 in
    plain_kept g (Assign x to.0.steps v.0.what) step
    (t, to.0.ty, found, path_sound g t start steps to.0 refl to.1, has_same g to.0.ty v.0.ty v.0.what r.0 (sound g (wanted to.0.ty) e v.0 v.1)) refl r.1

call_sound : (g : Visible) (f : Ident) (es : List Expr) (o : Option (Placed Signature)) (step : Step) → function_from 0 g.functions f.id ≡ o →
    Statements.call_of o f (λ asks. args_of g asks no_args es) ≡ Fine step → Kept g step
call_sound g f es None step found h = absurd cc
call_sound g f es (Some s) step found h =
    let z = first_fine (args_of g (InTurn s.item.params) no_args es) (Statements.call_step f s) step h in
    let r = held (agree s.item.params z.0.types && same_ty s.item.result (scalar UnitTy)) (Mismatch f.at) (Statements.plain_step
    (CallStmt f s.place z.0.whats)) step z.2 in
    let c = both (agree s.item.params z.0.types) (same_ty s.item.result (scalar UnitTy)) r.0 in
    plain_kept g (CallStmt f s.place z.0.whats) step (
      s.item,
      function_place g.functions f.id s found,
      same_ty_is s.item.result (scalar UnitTy) c.1,
      subst (λ ts. Each g ts z.0.whats) (sym (agree_is s.item.params z.0.types c.0)) (args_sound g (InTurn s.item.params) no_args es z.0 tt z.1),
    ) refl r.1

-- Statements so far, and one more.
behind_more : (g : Visible) (ss : List Stmt) (s : Stmt) → behind g (ss ++ s ∷ []) ≡ declare (brought s) (behind g ss)
behind_more g [] s = refl
behind_more g (u ∷ ss) s = behind_more (declare (brought u) g) ss s

are_more : (g : Visible) (ss : List Stmt) (s : Stmt) → AreStmtsOf g ss → IsStmt (behind g ss) s → AreStmtsOf g (ss ++ s ∷ [])
are_more g [] s h k = (k, tt)
are_more g (u ∷ ss) s h k = (h.0, are_more (declare (brought u) g) ss s h.1 k)

-- The scope behind one more statement.
scope_more : (g : Visible) (done : List Stmt) (step : Step) → step.declares ≡ brought step.what →
    declare step.declares (behind g done) ≡ behind g (done ++ step.what ∷ [])
scope_more g done step e = ap (λ ds. declare ds (behind g done)) e ∙ sym (behind_more g done step.what)

pub condition_has : (g : Visible) (e : Expr) (t : Typed) → expr g unasked e ≡ Fine t → Statements.is_condition t ≡ true → Has g (scalar BoolTy) t.what
condition_has g e t h is = subst (λ v. Has g v t.what) (same_ty_is t.ty (scalar BoolTy) is) (sound g unasked e t h)

pub count_has : (g : Visible) (e : Expr) (t : Typed) → expr g unasked e ≡ Fine t → Statements.is_count t ≡ true → Has g (scalar Int32) t.what
count_has g e t h is = subst (λ v. Has g v t.what) (same_ty_is t.ty (scalar Int32) is) (sound g unasked e t h)

mutual
  pub stmt_sound : (g : Visible) (s : Stmt) (step : Step) → Statements.stmt g s ≡ Fine step → Kept g step
  stmt_sound g (VarStmt v) step h =
      let x = first_fine (Statements.var g v) Statements.declared step h in
      let k = var_sound g v x.0 x.1 in
      subst (Kept g) (same_fine (record { what = VarStmt x.0.what; declares = Statements.seen_var x.0 }) step x.2)
      (k.0, ap (λ t. variable x.0.what.name.id t ∷ []) (sym k.1))
  stmt_sound g (Assign x steps e) step h = assign_sound g x steps e (type_in g.variables x.id) step refl h
  stmt_sound g (CallStmt f k es) step h = call_sound g f es (function_from 0 g.functions f.id) step refl h
  stmt_sound g (Error text p) step h = plain_kept g (Error text p) step tt refl (same_fine (Statements.plain_step (Error text p)) step h)
  stmt_sound g (If' e _ ss p) step h =
      let t = first_fine (expr g unasked e) (λ t. and_then (Statements.stmts g [] ss) (Statements.if_step p t)) step h in
      let z = first_fine (Statements.stmts g [] ss) (Statements.if_step p t.0) step t.2 in
      let r = held (Statements.is_condition t.0) (Mismatch p) (Statements.plain_step (If t.0.what z.0 p)) step z.2 in
      plain_kept g (If t.0.what z.0 p) step (is-If g t.0.what z.0 p (condition_has g e t.0 t.1 r.0) (stmts_sound g [] ss z.0 tt z.1)) refl r.1
  stmt_sound g (IfElse' e _ ss _ us p) step h =
      let t = first_fine (expr g unasked e) (λ t. and_then (Statements.stmts g [] ss) (λ thens. and_then (Statements.stmts g [] us)
      (Statements.if_else_step p t thens))) step h in
      let z = first_fine (Statements.stmts g [] ss) (λ thens. and_then (Statements.stmts g [] us) (Statements.if_else_step p t.0 thens)) step t.2 in
      let y = first_fine (Statements.stmts g [] us) (Statements.if_else_step p t.0 z.0) step z.2 in
      let r = held (Statements.is_condition t.0) (Mismatch p) (Statements.plain_step (IfElse t.0.what z.0 y.0 p)) step y.2 in
      plain_kept g (IfElse t.0.what z.0 y.0 p) step
      (is-IfElse g t.0.what z.0 y.0 p (condition_has g e t.0 t.1 r.0) (stmts_sound g [] ss z.0 tt z.1) (stmts_sound g [] us y.0 tt y.1)) refl r.1
  stmt_sound g (While' e _ ss p) step h =
      let t = first_fine (expr g unasked e) (λ t. and_then (Statements.stmts g [] ss) (Statements.while_step p t)) step h in
      let z = first_fine (Statements.stmts g [] ss) (Statements.while_step p t.0) step t.2 in
      let r = held (Statements.is_condition t.0) (Mismatch p) (Statements.plain_step (While t.0.what z.0 p)) step z.2 in
      plain_kept g (While t.0.what z.0 p) step (is-While g t.0.what z.0 p (condition_has g e t.0 t.1 r.0) (stmts_sound g [] ss z.0 tt z.1)) refl r.1
  stmt_sound g (For' x a n _ ss p) step h =
      let s = Statements.with_index x g in
      let t = first_fine (expr g unasked a) (λ first. and_then (expr g unasked n) (λ turns. and_then (Statements.stmts s [] ss)
      (Statements.for_step x p first turns))) step h in
      let u = first_fine (expr g unasked n) (λ turns. and_then (Statements.stmts s [] ss) (Statements.for_step x p t.0 turns)) step t.2 in
      let z = first_fine (Statements.stmts s [] ss) (Statements.for_step x p t.0 u.0) step u.2 in
      let r = held (Statements.is_count t.0 && Statements.is_count u.0) (Mismatch p) (Statements.plain_step (For x t.0.what u.0.what z.0 p)) step z.2 in
      let c = both (Statements.is_count t.0) (Statements.is_count u.0) r.0 in
      plain_kept g (For x t.0.what u.0.what z.0 p) step
      (is-For g x t.0.what u.0.what z.0 p (count_has g a t.0 t.1 c.0) (count_has g n u.0 u.1 c.1) (stmts_sound s [] ss z.0 tt z.1)) refl r.1

  stmts_sound : (g : Visible) (done : List Stmt) {m : _} (ss : Row_of-Stmt m) (z : List Stmt) → AreStmtsOf g done →
      Statements.stmts (behind g done) done ss ≡ Fine z → AreStmtsOf g z
  stmts_sound g done end_of-Stmt z k h = subst (AreStmtsOf g) (same_fine done z h) k
  stmts_sound g done (more_of-Stmt s ss) z k h =
      let f = first_fine (Statements.stmt (behind g done) s) (λ step. Statements.stmts (declare step.declares (behind g done))
      (done ++ step.what ∷ []) ss) z h in
      let is = stmt_sound (behind g done) s f.0 f.1 in
      stmts_sound g (done ++ f.0.what ∷ []) ss z (are_more g done f.0.what k is.0)
      (subst (λ v. Statements.stmts v (done ++ f.0.what ∷ []) ss ≡ Fine z) (scope_more g done f.0 is.1) f.2)

-- The statements of a body keep their rules, and what is in scope behind them is what they bring.
pub body_stmts : (g : Visible) (done ss : List Stmt) (z : Statements.Stmts) → AreStmtsOf g done → Statements.stmts_of (behind g done) done ss ≡ Fine z →
    AreStmtsOf g z.done × (z.scope ≡ behind g z.done)
body_stmts g done [] z k h = subst (λ (y : Statements.Stmts). AreStmtsOf g y.done × (y.scope ≡ behind g y.done)) (same_fine (record {
  done = done;
  scope =
      behind g done;
}) z h) (k, refl)
body_stmts g done (s ∷ ss) z k h =
    let f = first_fine (Statements.stmt (behind g done) s) (λ step. Statements.stmts_of (declare step.declares (behind g done))
    (done ++ step.what ∷ []) ss) z h in
    let is = stmt_sound (behind g done) s f.0 f.1 in
    body_stmts g (done ++ f.0.what ∷ []) ss z (are_more g done f.0.what k is.0)
    (subst (λ v. Statements.stmts_of v (done ++ f.0.what ∷ []) ss ≡ Fine z) (scope_more g done f.0 is.1) f.2)

-- A body without a value, and one that returns a typed expression.
quiet_body : (g : Visible) (s : Statements.Stmts) (x : TypedBody) → AreStmtsOf g s.done → Statements.body_of s.done None (scalar UnitTy) ≡ x →
    IsBody g x.ty x.what
quiet_body g s x k e = subst (λ (y : TypedBody). IsBody g y.ty y.what) e (record { statements = k; result = refl })

returning_body : (g : Visible) (s : Statements.Stmts) (p : Place) (t : Typed) (x : TypedBody) → AreStmtsOf g s.done → s.scope ≡ behind g s.done →
    Has s.scope t.ty t.what →
    Statements.returning s.done p t ≡ Fine x → IsBody g x.ty x.what
returning_body g s p t x k e has h =
    subst (λ (y : TypedBody). IsBody g y.ty y.what) (same_fine (Statements.body_of s.done (Some (record { value = t.what; at = p })) t.ty) x h)
    (record { statements = k; result = subst (λ v. Has v t.ty t.what) e has })

do_end_sound : (g : Visible) (s : Statements.Stmts) (r : Option Return) (x : TypedBody) → AreStmtsOf g s.done → s.scope ≡ behind g s.done →
    Statements.do_end s r ≡ Fine x → IsBody g x.ty x.what
do_end_sound g s None x k e h = quiet_body g s x k (same_fine (Statements.body_of s.done None (scalar UnitTy)) x h)
do_end_sound g s (Some r) x k e h =
    let t = first_fine (expr s.scope unasked r.value) (Statements.returning s.done r.at) x h in
    returning_body g s r.at t.0 x k e (sound s.scope unasked r.value t.0 t.1) t.2

pub do_body_sound : (g : Visible) (b : Body) (x : TypedBody) → Statements.do_body g b ≡ Fine x → IsBody g x.ty x.what
do_body_sound g b x h =
    let s = first_fine (Statements.stmts_of g [] b.statements) (λ s. Statements.do_end s b.result) x h in
    let k = body_stmts g [] b.statements s.0 tt s.1 in
    do_end_sound g s.0 b.result x k.0 k.1 s.2

-- What a function without a type returns is unit, and else a value of its type.
abbrev pub result_if : Option Ty → Ty
result_if None = scalar UnitTy
result_if (Some t) = t

fun_end_sound : (g : Visible) (t : Option Ty) (p : Place) (r : Option Return) (s : Statements.Stmts) (x : TypedBody) → AreStmtsOf g s.done →
    s.scope ≡ behind g s.done →
    Statements.fun_end t p r s ≡ Fine x → IsBody g (result_if t) x.what
fun_end_sound g None p None s x k e h =
    subst (λ (y : TypedBody). IsBody g (scalar UnitTy) y.what) (same_fine (Statements.body_of s.done None (scalar UnitTy)) x h) (record {
      statements =
          k;
      result = refl;
    })
fun_end_sound g None p (Some r) s x k e h =
    let t = first_fine (expr s.scope unasked r.value) (λ y. Broken (Mismatch p)) x h in absurd (never p x t.2)
  where
    never : (p : Place) (x : TypedBody) → let w : Walk TypedBody = Broken (Mismatch p) in let v : Walk TypedBody = Fine x in w ≡ v → ⊥
    never p x h = absurd cc
fun_end_sound g (Some t) p None s x k e h = absurd cc
fun_end_sound g (Some t) p (Some r) s x k e h =
    let v = first_fine (expr s.scope (wanted t) r.value) (Statements.returned s.done t r.at) x h in
    let c = first_fine (check (same_ty t v.0.ty) (Mismatch r.at) v.0) (Statements.returning s.done r.at) x v.2 in
    let same = held (same_ty t v.0.ty) (Mismatch r.at) v.0 c.0 c.1 in
    let has : Has s.scope c.0.ty c.0.what = subst (λ (y : Typed). Has s.scope y.ty y.what) same.1 (sound s.scope (wanted t) r.value v.0 v.1) in
    let b : IsBody g x.ty x.what = returning_body g s r.at c.0 x k e has c.2 in
    let is : x.ty ≡ t = ap (λ (y : TypedBody). y.ty) (sym (same_fine (Statements.body_of s.done (Some (record { value = c.0.what; at = r.at })) c.0.ty) x c.2))
    ∙ ap (λ (y : Typed). y.ty) (sym same.1) ∙ sym (same_ty_is t v.0.ty same.0) in
    subst (λ u. IsBody g u x.what) is b

pub fun_body_sound : (g : Visible) (t : Option Ty) (p : Place) (b : Body) (x : TypedBody) → Statements.fun_body g t p b ≡ Fine x → IsBody g (result_if t) x.what
fun_body_sound g t p b x h =
    let s = first_fine (Statements.stmts_of g [] b.statements) (Statements.fun_end t p b.result) x h in
    let k = body_stmts g [] b.statements s.0 tt s.1 in
    fun_end_sound g t p b.result s.0 x k.0 k.1 s.2
