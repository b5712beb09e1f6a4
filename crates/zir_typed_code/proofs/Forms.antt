-- What the walks of statements and bodies make is well formed.
use Rattle.std.specs.Prelude.{◌≡◌, refl, ◌≤◌, ℕ, List, [], ◌∷◌, ◌++◌, length, Bool, false, ◌&&◌, Option, Some, None}
use Rattle.std.proofs.Common.{ap, ◌∙◌, sym, subst, arith}
use denote.Hole.Carrier.{hidden}
use Rattle.zir_tree.specs.declared.place.Place.{Place}
use Rattle.zir_tree.specs.declared.ident.Ident.{Ident}
use Rattle.zir_tree.specs.declared.types.Base.{Base}
use Rattle.zir_tree.specs.declared.types.Base.TheVariants.{Unit as UnitTy}
use Rattle.zir_tree.specs.declared.types.Ty.{Ty}
use Rattle.zir_tree.specs.declared.expr.Expr.{Expr}
use Rattle.zir_tree.specs.declared.stmt.Access.{Access}
use Rattle.zir_tree.specs.declared.stmt.Access.TheVariants.{Index, Slice, Part}
use Rattle.zir_tree.specs.declared.stmt.Stmt.{Stmt, Var as VarStmt, Assign, Call as CallStmt, Error, If, If', IfElse, IfElse', While, While', For}
use Rattle.zir_tree.specs.declared.stmt.Stmt.{For', Row_of-Stmt, end_of-Stmt, more_of-Stmt}
use Rattle.zir_tree.specs.declared.stmt.Stmt.TheBlock.{shape-the_row-Stmt-0, hidden-the_row-Stmt-0}
use Rattle.zir_tree.specs.declared.stmt.Return.{Return}
use Rattle.zir_tree.specs.declared.stmt.Body.{Body}
use Rattle.zir_types.specs.declared.typed.Typed.{Typed}
use Rattle.zir_types.specs.declared.typed.Selected.{Selected}
use Rattle.zir_types.specs.declared.typed.Path.{Path}
use Rattle.zir_types.specs.declared.typed.Step.{Step}
use Rattle.zir_types.specs.declared.typed.TypedBody.{TypedBody}
use Rattle.zir_types.specs.declared.scope.Signature.{Signature}
use Rattle.zir_types.specs.declared.error.TypeError.TheVariants.{Mismatch}
use Rattle.zir_types.specs.Walk.{Walk, Fine, Broken, and_then, check}
use Rattle.zir_types.specs.Kinds.{scalar, is_whole, scalar_of, same_ty}
use Rattle.zir_types.specs.Scope.{Visible, Placed, declare, type_in, function_from, part_in}
use Rattle.zir_types.specs.Expressions.{expr, unasked, wanted, InTurn, no_args, args_of, agree}
use Rattle.zir_types.specs.Statements
use Rattle.zir_types.proofs.Fine.{first_fine, held, same_fine}
use Rattle.zir_sound.specs.Laws.{is_in}
use Rattle.zir_typed_code.specs.Forming.{IsFilled, FilledPath, FilledReturn, FormedStmt, FormedRow, FormedAll, FormedBody, numbers_after, numbers_behind}
use Rattle.zir_typed_code.proofs.Rising.{RisesStmt, RisesRow, RisesAll, Clear, clear_part, clear_more}
use Rattle.zir_typed_code.proofs.Filled.{expr_fills, list_fills}
use Rattle.zir_typed_code.proofs.Writing.{VarForms, var_forms}

-- The trees of statements with others inside.
formed-row : (m : ℕ) (xs : List ℕ) (ss : List Stmt) → FormedAll m xs ss → FormedRow m xs (hidden-the_row-Stmt-0 ss)
unfolding shape-the_row-Stmt-0 hidden-the_row-Stmt-0 hidden
formed-row m xs [] h = tt
formed-row m xs (s ∷ ss) h = (h.0, formed-row m (numbers_after xs s) ss h.1)

formed-If : (m : ℕ) (xs : List ℕ) (e : Expr) (ss : List Stmt) (p : Place) → IsFilled e → FormedAll m xs ss → FormedStmt m xs (If e ss p)
formed-If m xs e ss p h k = (h, formed-row m xs ss k)

formed-IfElse : (m : ℕ) (xs : List ℕ) (e : Expr) (ss us : List Stmt) (p : Place) → IsFilled e → FormedAll m xs ss → FormedAll m xs us →
    FormedStmt m xs (IfElse e ss us p)
formed-IfElse m xs e ss us p h k l = (h, formed-row m xs ss k, formed-row m xs us l)

formed-While : (m : ℕ) (xs : List ℕ) (e : Expr) (ss : List Stmt) (p : Place) → IsFilled e → FormedAll m xs ss → FormedStmt m xs (While e ss p)
formed-While m xs e ss p h k = (h, formed-row m xs ss k)

formed-For : (m : ℕ) (xs : List ℕ) (x : Ident) (a n : Expr) (ss : List Stmt) (p : Place) → is_in xs x.id ≡ false → IsFilled a → IsFilled n →
    FormedAll m (x.id ∷ xs) ss → FormedStmt m xs (For x a n ss p)
formed-For m xs x a n ss p new h k l = (new, h, k, formed-row m (x.id ∷ xs) ss l)

-- The steps of a path so far, and one more.
path_more : (steps : List Access) (step : Access) → FilledPath steps → FilledPath (step ∷ []) → FilledPath (steps ++ step ∷ [])
path_more [] step h k = k
path_more (Index e p ∷ steps) step h k = (h.0, path_more steps step h.1 k)
path_more (Slice e c p ∷ steps) step h k = (h.0, path_more steps step h.1 k)
path_more (Part x c p ∷ steps) step h k = path_more steps step h k

abbrev Filled : Path → Type 0
Filled done = FilledPath done.steps

index_filled : (ls : List ℕ) (b : Base) (whole : Bool) (p : Place) (done next : Path) (t : Typed) → Filled done → IsFilled t.what →
    Statements.index_step_if ls b whole p done t ≡ Fine next → Filled next
index_filled [] b whole p done next t is has h = absurd cc
index_filled (n ∷ ns) b whole p done next t is has h =
    let r = held whole (Mismatch p) (Statements.longer done (Index t.what p) (record { lengths = ns; base = b })) next h in
    subst Filled r.1 (path_more done.steps (Index t.what p) is (has, tt))

slice_filled : (ls : List ℕ) (b : Base) (whole : Bool) (k : ℕ) (p : Place) (done next : Path) (t : Typed) → Filled done → IsFilled t.what →
    Statements.slice_step_if ls b whole k p done t ≡ Fine next → Filled next
slice_filled [] b whole k p done next t is has h = absurd cc
slice_filled (n ∷ ns) b whole k p done next t is has h =
    let r = held whole (Mismatch p) (Statements.longer done (Slice t.what k p) (record { lengths = k ∷ ns; base = b })) next h in
    subst Filled r.1 (path_more done.steps (Slice t.what k p) is (has, tt))

part_filled : (o : Option Selected) (x : List ℕ) (p : Place) (done next : Path) → Filled done → Statements.part_step o x p done ≡ Fine next → Filled next
part_filled None x p done next is h = absurd cc
part_filled (Some f) x p done next is h =
    subst Filled (same_fine (Statements.longer done (Part x f.place p) f.ty) next h) (path_more done.steps (Part x f.place p) is tt)

path_filled : (g : Visible) (done : Path) (steps : List Access) (to : Path) → Filled done → Statements.path g done steps ≡ Fine to → Filled to
path_filled g done [] to is h = subst Filled (same_fine done to h) is
path_filled g done (Index e p ∷ steps) to is h =
    let t = first_fine (expr g unasked e) (λ t. and_then (Statements.index_step p done t) (λ next. Statements.path g next steps)) to h in
    let n = first_fine (Statements.index_step p done t.0) (λ next. Statements.path g next steps) to t.2 in
    path_filled g n.0 steps to (index_filled done.ty.lengths done.ty.base (is_whole (scalar_of t.0.ty)) p done n.0 t.0 is (expr_fills g unasked e t.0 t.1) n.1) n.2
path_filled g done (Slice e k p ∷ steps) to is h =
    let t = first_fine (expr g unasked e) (λ t. and_then (Statements.slice_step k p done t) (λ next. Statements.path g next steps)) to h in
    let n = first_fine (Statements.slice_step k p done t.0) (λ next. Statements.path g next steps) to t.2 in
    path_filled g n.0 steps to (slice_filled done.ty.lengths done.ty.base (is_whole (scalar_of t.0.ty)) k p done n.0 t.0 is (expr_fills g unasked e t.0 t.1) n.1)
    n.2
path_filled g done (Part x k p ∷ steps) to is h =
    let n = first_fine (Statements.part_step (part_in g.shapes done.ty x) x p done) (λ next. Statements.path g next steps) to h in
    path_filled g n.0 steps to (part_filled (part_in g.shapes done.ty x) x p done n.0 is n.1) n.2

-- A statement that was typed is well formed, and brings the same numbers into scope.
pub record StmtForms (m : ℕ) (xs : List ℕ) (s : Stmt) (step : Step) : Type 0 where
  pub formed : FormedStmt m xs step.what
  pub numbers : numbers_after xs s ≡ numbers_after xs step.what

plain_forms : (m : ℕ) (xs : List ℕ) (s made : Stmt) (step : Step) → FormedStmt m xs made → numbers_after xs s ≡ numbers_after xs made →
    Statements.plain_step made ≡ step → StmtForms m xs s step
plain_forms m xs s made step is e h = subst (StmtForms m xs s) h (record { formed = is; numbers = e })

assign_forms : (m : ℕ) (xs : List ℕ) (g : Visible) (x : Ident) (steps : List Access) (e : Expr) (o : Option Ty) (step : Step) →
    and_then (Statements.root o x) (λ start. and_then (Statements.path g start steps) (λ to. and_then (expr g (wanted to.ty) e)
    (Statements.assigned x to))) ≡ Fine step → StmtForms m xs (Assign x steps e) step
assign_forms m xs g x steps e None step h = absurd cc
assign_forms m xs g x steps e (Some t) step h =
    let start : Path = record { steps = []; ty = t } in
    let to = first_fine (Statements.path g start steps) (λ to. and_then (expr g (wanted to.ty) e) (Statements.assigned x to)) step h in
    let v = first_fine (expr g (wanted to.0.ty) e) (Statements.assigned x to.0) step to.2 in
    let r = held (same_ty to.0.ty v.0.ty) (Mismatch x.at) (Statements.plain_step (Assign x to.0.steps v.0.what)) step v.2 in
    plain_forms m xs (Assign x steps e) (Assign x to.0.steps v.0.what) step
    (path_filled g start steps to.0 tt to.1, expr_fills g (wanted to.0.ty) e v.0 v.1) refl r.1

call_forms : (m : ℕ) (xs : List ℕ) (g : Visible) (f : Ident) (k : ℕ) (es : List Expr) (o : Option (Placed Signature)) (step : Step) →
    Statements.call_of o f (λ asks. args_of g asks no_args es) ≡ Fine step → StmtForms m xs (CallStmt f k es) step
call_forms m xs g f k es None step h = absurd cc
call_forms m xs g f k es (Some s) step h =
    let z = first_fine (args_of g (InTurn s.item.params) no_args es) (Statements.call_step f s) step h in
    let r = held (agree s.item.params z.0.types && same_ty s.item.result (scalar UnitTy)) (Mismatch f.at) (Statements.plain_step
    (CallStmt f s.place z.0.whats)) step z.2 in
    plain_forms m xs (CallStmt f k es) (CallStmt f s.place z.0.whats) step (list_fills g (InTurn s.item.params) no_args es z.0 tt z.1) refl r.1

-- Numbers behind a statement leave those clear that are still to come.
after_clear : (xs : List ℕ) (s : Stmt) (a c b : ℕ) → RisesStmt a s c → Clear xs c b → Clear (numbers_after xs s) c b
after_clear xs (VarStmt v) a c b r h = clear_more xs v.name.id c b r.1 h
after_clear xs (Assign x steps e) a c b r h = h
after_clear xs (CallStmt f k es) a c b r h = h
after_clear xs (Error text p) a c b r h = h
after_clear xs (If' e _ ss p) a c b r h = h
after_clear xs (IfElse' e _ ss _ us p) a c b r h = h
after_clear xs (While' e _ ss p) a c b r h = h
after_clear xs (For' x e n _ ss p) a c b r h = h

-- Statements so far, and one more.
formed_more : (m : ℕ) (xs : List ℕ) (ss : List Stmt) (s : Stmt) → FormedAll m xs ss → FormedStmt m (numbers_behind xs ss) s → FormedAll m xs (ss ++ s ∷ [])
formed_more m xs [] s h k = (k, tt)
formed_more m xs (u ∷ ss) s h k = (h.0, formed_more m (numbers_after xs u) ss s h.1 k)

behind_more : (xs : List ℕ) (ss : List Stmt) (s : Stmt) → numbers_after (numbers_behind xs ss) s ≡ numbers_behind xs (ss ++ s ∷ [])
behind_more xs [] s = refl
behind_more xs (u ∷ ss) s = behind_more (numbers_after xs u) ss s

step_clear : (m : ℕ) (xs : List ℕ) (done : List Stmt) (s : Stmt) (step : Step) (a c b : ℕ) → a ≤ c → RisesStmt a s c → Clear (numbers_behind xs done) a b →
    StmtForms m (numbers_behind xs done) s step → Clear (numbers_behind xs (done ++ step.what ∷ [])) c b
step_clear m xs done s step a c b le r h is =
    let ys = numbers_behind xs done in
    subst (λ zs. Clear zs c b) (is.numbers ∙ behind_more xs done step.what) (after_clear ys s a c b r (clear_part ys a b c b le (omega arith) h))

mutual
  pub stmt_forms : (m : ℕ) (xs : List ℕ) (g : Visible) (a b : ℕ) (s : Stmt) (step : Step) → length g.shapes ≤ m → Clear xs a b → RisesStmt a s b →
      Statements.stmt g s ≡ Fine step → StmtForms m xs s step
  stmt_forms m xs g a b (VarStmt v) step le clear r h =
      let x = first_fine (Statements.var g v) Statements.declared step h in
      let k : VarForms m xs v x.0 = var_forms m xs g v x.0 le (clear v.name.id r.0 r.1) x.1 in
      subst (StmtForms m xs (VarStmt v)) (same_fine (record { what = VarStmt x.0.what; declares = Statements.seen_var x.0 }) step x.2)
      (record { formed = k.formed; numbers = ap (λ (n : Ident). n.id ∷ xs) (sym k.named) })
  stmt_forms m xs g a b (Assign x steps e) step le clear r h = assign_forms m xs g x steps e (type_in g.variables x.id) step h
  stmt_forms m xs g a b (CallStmt f k es) step le clear r h = call_forms m xs g f k es (function_from 0 g.functions f.id) step h
  stmt_forms m xs g a b (Error text p) step le clear r h =
      plain_forms m xs (Error text p) (Error text p) step tt refl (same_fine (Statements.plain_step (Error text p)) step h)
  stmt_forms m xs g a b (If' e n ss p) step le clear r h =
      let t = first_fine (expr g unasked e) (λ t. and_then (Statements.stmts g [] ss) (Statements.if_step p t)) step h in
      let z = first_fine (Statements.stmts g [] ss) (Statements.if_step p t.0) step t.2 in
      let k = held (Statements.is_condition t.0) (Mismatch p) (Statements.plain_step (If t.0.what z.0 p)) step z.2 in
      plain_forms m xs (If' e n ss p) (If t.0.what z.0 p) step
      (formed-If m xs t.0.what z.0 p (expr_fills g unasked e t.0 t.1) (stmts_form m xs g a b [] ss z.0 le tt clear r z.1)) refl k.1
  stmt_forms m xs g a b (IfElse' e n ss l us p) step le clear (c, low, high, r, q) h =
      let t = first_fine (expr g unasked e) (λ t. and_then (Statements.stmts g [] ss) (λ thens. and_then (Statements.stmts g [] us)
      (Statements.if_else_step p t thens))) step h in
      let z = first_fine (Statements.stmts g [] ss) (λ thens. and_then (Statements.stmts g [] us) (Statements.if_else_step p t.0 thens)) step t.2 in
      let y = first_fine (Statements.stmts g [] us) (Statements.if_else_step p t.0 z.0) step z.2 in
      let k = held (Statements.is_condition t.0) (Mismatch p) (Statements.plain_step (IfElse t.0.what z.0 y.0 p)) step y.2 in
      plain_forms m xs (IfElse' e n ss l us p) (IfElse t.0.what z.0 y.0 p) step
      (formed-IfElse m xs t.0.what z.0 y.0 p (expr_fills g unasked e t.0 t.1)
      (stmts_form m xs g a c [] ss z.0 le tt (clear_part xs a b a c (omega arith) high clear) r z.1)
      (stmts_form m xs g c b [] us y.0 le tt (clear_part xs a b c b low (omega arith) clear) q y.1)) refl k.1
  stmt_forms m xs g a b (While' e n ss p) step le clear r h =
      let t = first_fine (expr g unasked e) (λ t. and_then (Statements.stmts g [] ss) (Statements.while_step p t)) step h in
      let z = first_fine (Statements.stmts g [] ss) (Statements.while_step p t.0) step t.2 in
      let k = held (Statements.is_condition t.0) (Mismatch p) (Statements.plain_step (While t.0.what z.0 p)) step z.2 in
      plain_forms m xs (While' e n ss p) (While t.0.what z.0 p) step
      (formed-While m xs t.0.what z.0 p (expr_fills g unasked e t.0 t.1) (stmts_form m xs g a b [] ss z.0 le tt clear r z.1)) refl k.1
  stmt_forms m xs g a b (For' x e n l ss p) step le clear (c, at_least, less, most, r) h =
      let s = Statements.with_index x g in
      let t = first_fine (expr g unasked e) (λ first. and_then (expr g unasked n) (λ turns. and_then (Statements.stmts s [] ss)
      (Statements.for_step x p first turns))) step h in
      let u = first_fine (expr g unasked n) (λ turns. and_then (Statements.stmts s [] ss) (Statements.for_step x p t.0 turns)) step t.2 in
      let z = first_fine (Statements.stmts s [] ss) (Statements.for_step x p t.0 u.0) step u.2 in
      let k = held (Statements.is_count t.0 && Statements.is_count u.0) (Mismatch p) (Statements.plain_step (For x t.0.what u.0.what z.0 p)) step z.2 in
      let inner : Clear (x.id ∷ xs) c b = clear_more xs x.id c b less (clear_part xs a b c b (omega arith) (omega arith) clear) in
      plain_forms m xs (For' x e n l ss p) (For x t.0.what u.0.what z.0 p) step
      (formed-For m xs x t.0.what u.0.what z.0 p (clear x.id at_least (omega arith)) (expr_fills g unasked e t.0 t.1) (expr_fills g unasked n u.0 u.1)
      (stmts_form m (x.id ∷ xs) s c b [] ss z.0 le tt inner r z.1)) refl k.1

  stmts_form : (m : ℕ) (xs : List ℕ) (g : Visible) (a b : ℕ) (done : List Stmt) {k : _} (ss : Row_of-Stmt k) (z : List Stmt) → length g.shapes ≤ m →
      FormedAll m xs done → Clear (numbers_behind xs done) a b → RisesRow a ss b → Statements.stmts g done ss ≡ Fine z → FormedAll m xs z
  stmts_form m xs g a b done end_of-Stmt z le is clear r h = subst (FormedAll m xs) (same_fine done z h) is
  stmts_form m xs g a b done (more_of-Stmt s ss) z le is clear (c, low, high, r, q) h =
      let f = first_fine (Statements.stmt g s) (λ step. Statements.stmts (declare step.declares g) (done ++ step.what ∷ []) ss) z h in
      let k : StmtForms m (numbers_behind xs done) s f.0 = stmt_forms m (numbers_behind xs done) g a c s f.0 le
      (clear_part (numbers_behind xs done) a b a c (omega arith) high clear) r f.1 in
      stmts_form m xs (declare f.0.declares g) c b (done ++ f.0.what ∷ []) ss z le (formed_more m xs done f.0.what is k.formed)
      (step_clear m xs done s f.0 a c b low r clear k) q f.2

-- The statements of a body.
list_forms : (m : ℕ) (xs : List ℕ) (g : Visible) (a b : ℕ) (done ss : List Stmt) (z : Statements.Stmts) → length g.shapes ≤ m → FormedAll m xs done →
    Clear (numbers_behind xs done) a b → RisesAll a ss b → Statements.stmts_of g done ss ≡ Fine z → FormedAll m xs z.done
list_forms m xs g a b done [] z le is clear r h =
    subst (λ (y : Statements.Stmts). FormedAll m xs y.done) (same_fine (record { done = done; scope = g }) z h) is
list_forms m xs g a b done (s ∷ ss) z le is clear (c, low, high, r, q) h =
    let f = first_fine (Statements.stmt g s) (λ step. Statements.stmts_of (declare step.declares g) (done ++ step.what ∷ []) ss) z h in
    let k : StmtForms m (numbers_behind xs done) s f.0 = stmt_forms m (numbers_behind xs done) g a c s f.0 le
    (clear_part (numbers_behind xs done) a b a c (omega arith) high clear) r f.1 in
    list_forms m xs (declare f.0.declares g) c b (done ++ f.0.what ∷ []) ss z le (formed_more m xs done f.0.what is k.formed)
    (step_clear m xs done s f.0 a c b low r clear k) q f.2

-- A body with this value.
body_made : (m : ℕ) (xs : List ℕ) (ss : List Stmt) (r : Option Return) (t : Ty) (x : TypedBody) → FormedAll m xs ss → FilledReturn r →
    Statements.body_of ss r t ≡ x → FormedBody m xs x.what
body_made m xs ss r t x h k e = subst (λ (y : TypedBody). FormedBody m xs y.what) e (h, k)

returning_forms : (m : ℕ) (xs : List ℕ) (ss : List Stmt) (p : Place) (t : Typed) (x : TypedBody) → FormedAll m xs ss → IsFilled t.what →
    Statements.returning ss p t ≡ Fine x → FormedBody m xs x.what
returning_forms m xs ss p t x h k e =
    body_made m xs ss (Some (record { value = t.what; at = p })) t.ty x h k
    (same_fine (Statements.body_of ss (Some (record { value = t.what; at = p })) t.ty) x e)

do_end_forms : (m : ℕ) (xs : List ℕ) (s : Statements.Stmts) (r : Option Return) (x : TypedBody) → FormedAll m xs s.done → Statements.do_end s r ≡ Fine x →
    FormedBody m xs x.what
do_end_forms m xs s None x k h = body_made m xs s.done None (scalar UnitTy) x k tt (same_fine (Statements.body_of s.done None (scalar UnitTy)) x h)
do_end_forms m xs s (Some r) x k h =
    let t = first_fine (expr s.scope unasked r.value) (Statements.returning s.done r.at) x h in
    returning_forms m xs s.done r.at t.0 x k (expr_fills s.scope unasked r.value t.0 t.1) t.2

pub do_body_forms : (m : ℕ) (xs : List ℕ) (g : Visible) (a c : ℕ) (b : Body) (x : TypedBody) → length g.shapes ≤ m → Clear xs a c → RisesAll a b.statements c →
    Statements.do_body g b ≡ Fine x → FormedBody m xs x.what
do_body_forms m xs g a c b x le clear r h =
    let s = first_fine (Statements.stmts_of g [] b.statements) (λ s. Statements.do_end s b.result) x h in
    do_end_forms m xs s.0 b.result x (list_forms m xs g a c [] b.statements s.0 le tt clear r s.1) s.2

fun_end_forms : (m : ℕ) (xs : List ℕ) (t : Option Ty) (p : Place) (r : Option Return) (s : Statements.Stmts) (x : TypedBody) → FormedAll m xs s.done →
    Statements.fun_end t p r s ≡ Fine x → FormedBody m xs x.what
fun_end_forms m xs None p None s x k h =
    body_made m xs s.done None (scalar UnitTy) x k tt (same_fine (Statements.body_of s.done None (scalar UnitTy)) x h)
fun_end_forms m xs None p (Some r) s x k h =
    let t = first_fine (expr s.scope unasked r.value) (λ y. Broken (Mismatch p)) x h in absurd (never p x t.2)
  where
    never : (p : Place) (x : TypedBody) → let w : Walk TypedBody = Broken (Mismatch p) in let v : Walk TypedBody = Fine x in w ≡ v → ⊥
    never p x h = absurd cc
fun_end_forms m xs (Some t) p None s x k h = absurd cc
fun_end_forms m xs (Some t) p (Some r) s x k h =
    let v = first_fine (expr s.scope (wanted t) r.value) (Statements.returned s.done t r.at) x h in
    let c = first_fine (check (same_ty t v.0.ty) (Mismatch r.at) v.0) (Statements.returning s.done r.at) x v.2 in
    let same = held (same_ty t v.0.ty) (Mismatch r.at) v.0 c.0 c.1 in
    returning_forms m xs s.done r.at c.0 x k (subst (λ (y : Typed). IsFilled y.what) same.1 (expr_fills s.scope (wanted t) r.value v.0 v.1)) c.2

pub fun_body_forms : (m : ℕ) (xs : List ℕ) (g : Visible) (a c : ℕ) (t : Option Ty) (p : Place) (b : Body) (x : TypedBody) → length g.shapes ≤ m →
    Clear xs a c → RisesAll a b.statements c → Statements.fun_body g t p b ≡ Fine x → FormedBody m xs x.what
fun_body_forms m xs g a c t p b x le clear r h =
    let s = first_fine (Statements.stmts_of g [] b.statements) (Statements.fun_end t p b.result) x h in
    fun_end_forms m xs t p b.result s.0 x (list_forms m xs g a c [] b.statements s.0 le tt clear r s.1) s.2
