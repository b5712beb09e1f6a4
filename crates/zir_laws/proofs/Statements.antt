-- Each statement and each body evaluates, where the functions do.
use Rattle.std.specs.Prelude.{ℕ, zero, suc, ◌+◌, ◌≤◌, ℤ, List, [], ◌∷◌, Option, Some, None, Bool, true, false, ◌≡◌, refl}
use Rattle.std.proofs.Common.{sym, arith, subst}
use Rattle.zir_tree.specs.declared.value.Val.{Val, Unit as UnitVal, Num}
use Rattle.zir_tree.specs.declared.expr.Expr.{Expr}
use Rattle.zir_tree.specs.declared.types.TypeExpr.{TypeExpr}
use Rattle.zir_tree.specs.declared.stmt.Access.{Access}
use Rattle.zir_tree.specs.declared.stmt.Access.TheVariants.{Index, Slice, Part}
use Rattle.zir_tree.specs.declared.stmt.Stmt.{Stmt, Var as VarStmt, Assign, Call, Error, If', IfElse', While', For', Row_of-Stmt, end_of-Stmt, more_of-Stmt}
use Rattle.zir_tree.specs.declared.stmt.Return.{Return}
use Rattle.zir_tree.specs.declared.stmt.Body.{Body}
use Rattle.zir_meaning.specs.Values.{parts, is_one, num_of, blank, type_of}
use Rattle.zir_meaning.specs.Operators.{part_of}
use Rattle.zir_meaning.specs.Store.{look_up, put_in, bound}
use Rattle.zir_meaning.specs.Trace.{State}
use Rattle.zir_meaning.specs.Evaluation.{Eval, Got, RunsOut, Library, then_eval, tick_eval, choose_eval, element, range, found, ev}
use Rattle.zir_meaning.specs.Statements.{Step, ToElement, ToRange, ToPart, position, replaced, along, bind, assign, scope, done, while_eval, turns_of, next_index, counted_eval, initial_of, does, does_row, does_all, result_of, run_body}
use Rattle.zir_meaning.specs.Composition.{limit}
use Rattle.zir_laws.specs.Budgets.{richer}
use Rattle.zir_laws.proofs.Evaluating.{EvalKeeps, EvalFunded, Evaluates, FunsEvaluate, keeps-then, keeps-tick, past-tick, funded-then, funded-tick, evaluates-then, evaluates-stores, evaluates-got, evaluates-trap, evaluates-reads, evaluates-moved, evaluates-choose, evaluates-found, evaluates-tick, evaluates-scope}
use Rattle.zir_laws.proofs.Expressions.{evaluates-ev, evaluates-list}

-- the indexes of a path, and what follows them
evaluates-along : (l : Library) → FunsEvaluate l.funs → (path : List Access) (old : Val) (next : List Step → State → Eval) →
    ((steps : List Step) → Evaluates (next steps)) → Evaluates (λ s. along l path old s next)
evaluates-along l k [] old next h = h []
evaluates-along l k (Index e p ∷ path) old next h =
    evaluates-then (ev l e)
    (λ w s'. found 2 p (element (parts old) (num_of w)) s' (λ v s''. along l path v s'' (λ steps t. next (ToElement (position (num_of w)) ∷ steps) t)))
    (evaluates-ev l k e)
    (λ w. evaluates-found 2 p (element (parts old) (num_of w)) (λ v s''. along l path v s'' (λ steps t. next (ToElement (position (num_of w)) ∷ steps) t))
    (λ v. evaluates-along l k path v (λ steps t. next (ToElement (position (num_of w)) ∷ steps) t) (λ steps. h (ToElement (position (num_of w)) ∷ steps))))
evaluates-along l k (Slice e n p ∷ path) old next h =
    evaluates-then (ev l e)
    (λ w s'. found 3 p (range (parts old) (num_of w) n) s' (λ v s''. along l path v s'' (λ steps t. next (ToRange (position (num_of w)) n ∷ steps) t)))
    (evaluates-ev l k e)
    (λ w. evaluates-found 3 p (range (parts old) (num_of w) n) (λ v s''. along l path v s'' (λ steps t. next (ToRange (position (num_of w)) n ∷ steps) t))
    (λ v. evaluates-along l k path v (λ steps t. next (ToRange (position (num_of w)) n ∷ steps) t) (λ steps. h (ToRange (position (num_of w)) n ∷ steps))))
evaluates-along l k (Part name n p ∷ path) old next h =
    evaluates-along l k path (part_of n old) (λ steps t. next (ToPart n ∷ steps) t) (λ steps. h (ToPart n ∷ steps))

-- one of two evaluations
keeps-choose : (b : Bool) (f g : State → Eval) (s : State) → EvalKeeps s (f s) → EvalKeeps s (g s) → EvalKeeps s (choose_eval b f g s)
keeps-choose true f g s h k = h
keeps-choose false f g s h k = k

funded-choose : (b : Bool) (f g f' g' : State → Eval) (s s' : State) (n m : ℕ) → EvalFunded n m (f s) (f' s') → EvalFunded n m (g s) (g' s') →
    EvalFunded n m (choose_eval b f g s) (choose_eval b f' g' s')
funded-choose true f g f' g' s s' n m h k = h
funded-choose false f g f' g' s s' n m h k = k

-- no turn follows
keeps-done : (s : State) → EvalKeeps s (done s)
keeps-done s = (refl, omega arith, refl)

-- turns of a loop
keeps-while : (most : ℕ) (test body : State → Eval) → Evaluates test → Evaluates body → (s : State) → EvalKeeps s (while_eval most test body s)
keeps-while zero test body h g s =
    keeps-then (test s) (λ v s'. choose_eval (is_one v) (λ s''. RunsOut) done s') s (h.keeps s)
    (λ v s'. keeps-choose (is_one v) (λ s''. RunsOut) done s' tt (keeps-done s'))
keeps-while (suc most) test body h g s =
    keeps-then (test s) _ s (h.keeps s)
    (λ v s'. keeps-choose (is_one v) (λ s1. tick_eval s1 (λ s2. then_eval (body s2) (λ w s3. while_eval most test body s3))) done s'
    (keeps-tick s'.left s' (λ s2. then_eval (body s2) (λ w s3. while_eval most test body s3)) refl
    (λ s2. keeps-then (body s2) _ s2 (g.keeps s2) (λ w s3. keeps-while most test body h g s3)))
    (keeps-done s'))

-- a turn, and more of them
keeps-turn : (most : ℕ) (test body : State → Eval) → Evaluates test → Evaluates body → (s : State) →
    EvalKeeps s (then_eval (body s) (λ w s'. while_eval most test body s'))
keeps-turn most test body h g s = keeps-then (body s) _ s (g.keeps s) (λ w s'. keeps-while most test body h g s')

-- two budgets of turns of a loop, no fewer than the ticks left
funded-while : (most m : ℕ) (test body : State → Eval) → Evaluates test → Evaluates body → (s : State) → s.left ≤ most →
    EvalFunded (limit s) m (while_eval most test body s) (while_eval (most + m) test body (richer m s))
funded-while zero zero test body h g s le =
    funded-then (test s) (test (richer 0 s)) s (limit s) 0 _ _ (h.keeps s) (h.funded 0 s)
    (λ v s' l. funded-choose (is_one v) (λ s''. RunsOut) done (λ s''. RunsOut) done s' (richer 0 s') (limit s) 0 tt refl)
    (λ v s'. keeps-choose (is_one v) (λ s''. RunsOut) done s' tt (keeps-done s'))
funded-while zero (suc m) test body h g s le =
    let z : 0 + suc m ≡ suc m = omega arith in
    let turn : State → Eval = λ s2. then_eval (body s2) (λ w s3. while_eval m test body s3) in
    subst (λ f. EvalFunded (limit s) (suc m) (while_eval 0 test body s) (while_eval f test body (richer (suc m) s))) (sym z)
    (funded-then (test s) (test (richer (suc m) s)) s (limit s) (suc m) _ _ (h.keeps s) (h.funded (suc m) s)
    (λ v s' l. funded-choose (is_one v) (λ s''. RunsOut) done (λ s1. tick_eval s1 turn) done s' (richer (suc m) s') (limit s) (suc m)
    (past-tick (s'.left + suc m) (limit s) (richer (suc m) s') turn (omega (arith, l.1)) (keeps-turn m test body h g)) refl)
    (λ v s'. keeps-choose (is_one v) (λ s1. tick_eval s1 turn) done s' (keeps-tick s'.left s' turn refl (keeps-turn m test body h g)) (keeps-done s')))
funded-while (suc most) m test body h g s le =
    let z : suc most + m ≡ suc (most + m) = omega arith in
    let turn : State → Eval = λ s2. then_eval (body s2) (λ w s3. while_eval most test body s3) in
    let longer : State → Eval = λ s2. then_eval (body s2) (λ w s3. while_eval (most + m) test body s3) in
    subst (λ f. EvalFunded (limit s) m (while_eval (suc most) test body s) (while_eval f test body (richer m s))) (sym z)
    (funded-then (test s) (test (richer m s)) s (limit s) m _ _ (h.keeps s) (h.funded m s)
    (λ v s' l. funded-choose (is_one v) (λ s1. tick_eval s1 turn) done (λ s1. tick_eval s1 longer) done s' (richer m s') (limit s) m
    (funded-tick (limit s) m s' turn longer l.2 (λ s2 lt e. subst (λ n. EvalFunded n m (turn s2) (longer (richer m s2))) e
    (funded-then (body s2) (body (richer m s2)) s2 (limit s2) m _ _ (g.keeps s2) (g.funded m s2)
    (λ w s3 l3. subst (λ n. EvalFunded n m (while_eval most test body s3) (while_eval (most + m) test body (richer m s3))) l3.2
    (funded-while most m test body h g s3 (omega (arith, le, l.1, l.2, lt, e, l3.1, l3.2))))
    (λ w s3. keeps-while (most + m) test body h g s3)))
    (keeps-turn (most + m) test body h g)) refl)
    (λ v s'. keeps-choose (is_one v) (λ s1. tick_eval s1 longer) done s' (keeps-tick s'.left s' longer refl (keeps-turn (most + m) test body h g))
    (keeps-done s')))

-- a loop
evaluates-while : (test body : State → Eval) → Evaluates test → Evaluates body → Evaluates (λ s. while_eval s.left test body s)
evaluates-while test body h g = record {
  keeps = λ s. keeps-while s.left test body h g s;
  funded = λ m s. funded-while s.left m test body h g s (omega arith);
}

-- a loop of so many turns
evaluates-counted : (most id : ℕ) (i : ℤ) (body : State → Eval) → Evaluates body → Evaluates (λ s. counted_eval most id i body s)
evaluates-counted zero id i body h = evaluates-got UnitVal
evaluates-counted (suc most) id i body h =
    evaluates-tick (λ s1. then_eval (scope (λ s2. body (bind id (Num i) s2)) s1) (λ w s3. counted_eval most id (next_index i) body s3))
    (evaluates-then (scope (λ s2. body (bind id (Num i) s2))) (λ w s3. counted_eval most id (next_index i) body s3)
    (evaluates-scope (λ s2. body (bind id (Num i) s2)) (evaluates-moved (λ store. bound id (Num i) store) body h))
    (λ w. evaluates-counted most id (next_index i) body h))

-- the value of a declaration
pub evaluates-initial : (l : Library) → FunsEvaluate l.funs → (t : TypeExpr) (e : Option Expr) → Evaluates (λ s. initial_of l t e s)
evaluates-initial l k t None = evaluates-got (blank l.blanks (type_of t))
evaluates-initial l k t (Some e) = evaluates-ev l k e

mutual
  -- each statement
  evaluates-does : (l : Library) → FunsEvaluate l.funs → (a : Stmt) → Evaluates (λ s. does l a s)
  evaluates-does l k (VarStmt v) =
      evaluates-then (initial_of l v.ty v.initial) (λ w s'. Got UnitVal (bind v.name.id w s')) (evaluates-initial l k v.ty v.initial)
      (λ w. evaluates-stores (λ store. UnitVal) (λ store. bound v.name.id w store))
  evaluates-does l k (Assign name path e) =
      evaluates-then (ev l e)
      (λ v s'. along l path (look_up s'.store name.id) s' (λ steps s''. Got UnitVal (assign name.id (replaced steps v (look_up s''.store name.id)) s'')))
      (evaluates-ev l k e)
      (λ v. evaluates-reads (λ store. look_up store name.id)
      (λ old s'. along l path old s' (λ steps s''. Got UnitVal (assign name.id (replaced steps v (look_up s''.store name.id)) s'')))
      (λ old. evaluates-along l k path old (λ steps s''. Got UnitVal (assign name.id (replaced steps v (look_up s''.store name.id)) s''))
      (λ steps. evaluates-stores (λ store. UnitVal) (λ store. put_in name.id (replaced steps v (look_up store name.id)) store))))
  evaluates-does l k (Call name n es) =
      evaluates-list l k es [] (λ vs s'. tick_eval s' (l.funs n vs)) (λ vs. evaluates-tick (l.funs n vs) (k n vs))
  evaluates-does l k (Error text p) = evaluates-trap 5 p
  evaluates-does l k (If' e _ a p) =
      evaluates-then (ev l e) (λ v s'. choose_eval (is_one v) (scope (does_row l a)) done s') (evaluates-ev l k e)
      (λ v. evaluates-choose (is_one v) (scope (does_row l a)) done (evaluates-scope (does_row l a) (evaluates-row l k a)) (evaluates-got UnitVal))
  evaluates-does l k (IfElse' e _ a _ b p) =
      evaluates-then (ev l e) (λ v s'. choose_eval (is_one v) (scope (does_row l a)) (scope (does_row l b)) s') (evaluates-ev l k e)
      (λ v. evaluates-choose (is_one v) (scope (does_row l a)) (scope (does_row l b)) (evaluates-scope (does_row l a) (evaluates-row l k a))
      (evaluates-scope (does_row l b) (evaluates-row l k b)))
  evaluates-does l k (While' e _ a p) =
      evaluates-while (ev l e) (scope (does_row l a)) (evaluates-ev l k e) (evaluates-scope (does_row l a) (evaluates-row l k a))
  evaluates-does l k (For' name a n _ b p) =
      evaluates-then (ev l a) (λ v s'. then_eval (ev l n s') (λ w s''. counted_eval (turns_of (num_of w)) name.id (num_of v) (does_row l b) s''))
      (evaluates-ev l k a)
      (λ v. evaluates-then (ev l n) (λ w s''. counted_eval (turns_of (num_of w)) name.id (num_of v) (does_row l b) s'') (evaluates-ev l k n)
      (λ w. evaluates-counted (turns_of (num_of w)) name.id (num_of v) (does_row l b) (evaluates-row l k b)))

  -- statements one after the other
  evaluates-row : {m : _} (l : Library) → FunsEvaluate l.funs → (row : Row_of-Stmt m) → Evaluates (λ s. does_row l row s)
  evaluates-row l k end_of-Stmt = evaluates-got UnitVal
  evaluates-row l k (more_of-Stmt a row) =
      evaluates-then (does l a) (λ v s'. does_row l row s') (evaluates-does l k a) (λ v. evaluates-row l k row)

-- a list of statements
evaluates-statements : (l : Library) → FunsEvaluate l.funs → (row : List Stmt) → Evaluates (λ s. does_all l row s)
evaluates-statements l k [] = evaluates-got UnitVal
evaluates-statements l k (a ∷ row) =
    evaluates-then (does l a) (λ v s'. does_all l row s') (evaluates-does l k a) (λ v. evaluates-statements l k row)

-- the value of a body
evaluates-result : (l : Library) → FunsEvaluate l.funs → (r : Option Return) → Evaluates (λ s. result_of l r s)
evaluates-result l k None = evaluates-got UnitVal
evaluates-result l k (Some r) = evaluates-ev l k r.value

-- each body
pub evaluates-body : (l : Library) → FunsEvaluate l.funs → (body : Body) → Evaluates (λ s. run_body l body s)
evaluates-body l k body =
    evaluates-scope (λ s'. then_eval (does_all l body.statements s') (λ v s''. result_of l body.result s''))
    (evaluates-then (does_all l body.statements) (λ v s''. result_of l body.result s'') (evaluates-statements l k body.statements)
    (λ v. evaluates-result l k body.result))
