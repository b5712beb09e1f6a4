-- What calls only functions below a place does the same over functions that do the same below it.
use Rattle.std.specs.Prelude.{ℕ, ◌<◌, List, [], ◌∷◌, ◌++◌, Option, Some, None, ◌≡◌, refl}
use Rattle.std.proofs.Common.{ap, ◌∙◌}
use Rattle.zir_tree.specs.declared.place.Place.{Place}
use Rattle.zir_tree.specs.declared.value.Val.{Val, Unit as UnitVal, Pair, List as Vals}
use Rattle.zir_tree.specs.declared.expr.Callee.{Callee}
use Rattle.zir_tree.specs.declared.expr.Callee.TheVariants.{Function, Struct}
use Rattle.zir_tree.specs.declared.expr.Expr.{Expr, Unit, Bit, Bool as BoolLiteral, Int, Variable, Unary', Binary', Index', Slice', Part', Call', Array', Convert', Complex', Row_of-Expr, end_of-Expr, more_of-Expr}
use Rattle.zir_tree.specs.declared.types.TypeExpr.{TypeExpr}
use Rattle.zir_tree.specs.declared.stmt.Access.{Access}
use Rattle.zir_tree.specs.declared.stmt.Access.TheVariants.{Index, Slice, Part}
use Rattle.zir_tree.specs.declared.stmt.Stmt.{Stmt, Var as VarStmt, Assign, Call as CallStmt, Error, If', IfElse', While', For', Row_of-Stmt, end_of-Stmt, more_of-Stmt}
use Rattle.zir_tree.specs.declared.stmt.Return.{Return}
use Rattle.zir_tree.specs.declared.stmt.Body.{Body}
use Rattle.zir_meaning.specs.Values.{parts, is_one, num_of}
use Rattle.zir_meaning.specs.Operators.{prefixed, converted, part_of}
use Rattle.zir_meaning.specs.Store.{look_up}
use Rattle.zir_meaning.specs.Trace.{State}
use Rattle.zir_meaning.specs.Evaluation.{Eval, Got, Library, then_eval, tick_eval, choose_eval, two_sided, element, range, found, called_by, ev, ev_all, ev_list}
use Rattle.zir_meaning.specs.Statements.{Step, ToElement, ToRange, ToPart, position, replaced, along, bind, assign, scope, done, while_eval, turns_of, counted_eval, initial_of, does, does_row, does_all, result_of, run_body}
use Rattle.zir_laws.specs.Functions.{CalleeBelow, ExprBelow, ExprsBelow, ArgumentsBelow, PathBelow, InitialBelow, StmtBelow, StmtsBelow, ListBelow, ResultBelow, BodyBelow}
use Rattle.zir_laws.proofs.Equations.{funext}

-- functions that do the same below a place, over the same structs
pub record Alike (n : ℕ) (l l' : Library) : Type 0 where
  pub blanks : l.blanks ≡ l'.blanks
  pub funs : (k : ℕ) (vs : List Val) (s : State) → k < n → l.funs k vs s ≡ l'.funs k vs s

-- an evaluation and what follows it
same-then : (a b : Eval) (f g : Val → State → Eval) → a ≡ b → ((v : Val) (s : State) → f v s ≡ g v s) → then_eval a f ≡ then_eval b g
same-then a b f g e h = ap (λ a. then_eval a f) e ∙ ap (then_eval b) (funext f g (λ v. funext (f v) (g v) (h v)))

-- a call of a function or a struct
same-called : (n : ℕ) (l l' : Library) → Alike n l l' → (callee : Callee) → CalleeBelow n callee → (vs : List Val) (s : State) →
    called_by l callee vs s ≡ called_by l' callee vs s
same-called n l l' h (Function k) w vs s = ap (tick_eval s) (funext (l.funs k vs) (l'.funs k vs) (λ s. h.funs k vs s w))
same-called n l l' h (Struct k) w vs s = refl

mutual
  -- each expression
  same-ev : (n : ℕ) (l l' : Library) → Alike n l l' → (e : Expr) → ExprBelow n e → (s : State) → ev l e s ≡ ev l' e s
  same-ev n l l' h (Unit p) w s = refl
  same-ev n l l' h (Bit b p) w s = refl
  same-ev n l l' h (BoolLiteral b p) w s = refl
  same-ev n l l' h (Int i t p) w s = refl
  same-ev n l l' h (Variable name) w s = refl
  same-ev n l l' h (Unary' o t _ (more_of-Expr a end_of-Expr) p) w s =
      ap (λ x. then_eval x (λ v s'. Got (prefixed o t v) s')) (same-ev n l l' h a w s)
  same-ev n l l' h (Binary' o t _ (more_of-Expr a end_of-Expr) _ (more_of-Expr b end_of-Expr) p) w s =
      ap (λ x. two_sided o t p x (ev l b)) (same-ev n l l' h a w.0 s)
      ∙ ap (two_sided o t p (ev l' a s)) (funext (ev l b) (ev l' b) (same-ev n l l' h b w.1))
  same-ev n l l' h (Index' _ (more_of-Expr a end_of-Expr) _ (more_of-Expr i end_of-Expr) p) w s =
      same-then (ev l a s) (ev l' a s) _ _ (same-ev n l l' h a w.0 s)
      (λ v s'. ap (λ x. then_eval x (λ u s''. found 2 p (element (parts v) (num_of u)) s'' Got)) (same-ev n l l' h i w.1 s'))
  same-ev n l l' h (Slice' _ (more_of-Expr a end_of-Expr) _ (more_of-Expr i end_of-Expr) k p) w s =
      same-then (ev l a s) (ev l' a s) _ _ (same-ev n l l' h a w.0 s)
      (λ v s'. ap (λ x. then_eval x (λ u s''. found 3 p (range (parts v) (num_of u) k) s'' Got)) (same-ev n l l' h i w.1 s'))
  same-ev n l l' h (Part' _ (more_of-Expr a end_of-Expr) name k p) w s =
      ap (λ x. then_eval x (λ v s'. Got (part_of k v) s')) (same-ev n l l' h a w s)
  same-ev n l l' h (Call' name callee _ es) w s =
      same-all n l l' h es w.0 [] s (called_by l callee) (called_by l' callee) (same-called n l l' h callee w.1)
  same-ev n l l' h (Array' _ es p) w s = same-all n l l' h es w [] s (λ vs s'. Got (Vals vs) s') (λ vs s'. Got (Vals vs) s') (λ vs s'. refl)
  same-ev n l l' h (Convert' t _ (more_of-Expr a end_of-Expr) p) w s =
      ap (λ x. then_eval x (λ v s'. Got (converted t v) s')) (same-ev n l l' h a w s)
  same-ev n l l' h (Complex' t _ (more_of-Expr a end_of-Expr) _ (more_of-Expr b end_of-Expr) p) w s =
      same-then (ev l a s) (ev l' a s) _ _ (same-ev n l l' h a w.0 s)
      (λ v s'. ap (λ x. then_eval x (λ u s''. Got (Pair (num_of v) (num_of u)) s'')) (same-ev n l l' h b w.1 s'))

  -- more expressions, and what follows them
  same-all : {m : _} (n : ℕ) (l l' : Library) → Alike n l l' → (es : Row_of-Expr m) → ExprsBelow n es → (vs : List Val) (s : State)
      (f g : List Val → State → Eval) → ((vs : List Val) (s : State) → f vs s ≡ g vs s) → ev_all l es vs s f ≡ ev_all l' es vs s g
  same-all n l l' h end_of-Expr w vs s f g k = k vs s
  same-all n l l' h (more_of-Expr e es) w vs s f g k =
      same-then (ev l e s) (ev l' e s) _ _ (same-ev n l l' h e w.0 s) (λ v s'. same-all n l l' h es w.1 (vs ++ v ∷ []) s' f g k)

-- a list of expressions, and what follows them
same-list : (n : ℕ) (l l' : Library) → Alike n l l' → (es : List Expr) → ArgumentsBelow n es → (vs : List Val) (s : State)
    (f g : List Val → State → Eval) → ((vs : List Val) (s : State) → f vs s ≡ g vs s) → ev_list l es vs s f ≡ ev_list l' es vs s g
same-list n l l' h [] w vs s f g k = k vs s
same-list n l l' h (e ∷ es) w vs s f g k =
    same-then (ev l e s) (ev l' e s) _ _ (same-ev n l l' h e w.0 s) (λ v s'. same-list n l l' h es w.1 (vs ++ v ∷ []) s' f g k)

-- what was found, and what follows
same-found : (code : ℕ) (p : Place) (o : Option Val) (s : State) (f g : Val → State → Eval) → ((v : Val) (s : State) → f v s ≡ g v s) →
    found code p o s f ≡ found code p o s g
same-found code p None s f g h = refl
same-found code p (Some v) s f g h = h v s

-- the indexes of a path, and what follows them
same-along : (n : ℕ) (l l' : Library) → Alike n l l' → (path : List Access) → PathBelow n path → (old : Val) (s : State)
    (next : List Step → State → Eval) → along l path old s next ≡ along l' path old s next
same-along n l l' h [] w old s next = refl
same-along n l l' h (Index e p ∷ path) w old s next =
    same-then (ev l e s) (ev l' e s) _ _ (same-ev n l l' h e w.0 s)
    (λ u s'. same-found 2 p (element (parts old) (num_of u)) s' _ _
    (λ v s''. same-along n l l' h path w.1 v s'' (λ steps t. next (ToElement (position (num_of u)) ∷ steps) t)))
same-along n l l' h (Slice e k p ∷ path) w old s next =
    same-then (ev l e s) (ev l' e s) _ _ (same-ev n l l' h e w.0 s)
    (λ u s'. same-found 3 p (range (parts old) (num_of u) k) s' _ _
    (λ v s''. same-along n l l' h path w.1 v s'' (λ steps t. next (ToRange (position (num_of u)) k ∷ steps) t)))
same-along n l l' h (Part name k p ∷ path) w old s next =
    same-along n l l' h path w (part_of k old) s (λ steps t. next (ToPart k ∷ steps) t)

-- the value of a declaration
same-initial : (n : ℕ) (l l' : Library) → Alike n l l' → (t : TypeExpr) (e : Option Expr) → InitialBelow n e → (s : State) →
    initial_of l t e s ≡ initial_of l' t e s
same-initial n l l' h t None w s = ap (λ blanks. initial_of (record { blanks = blanks; funs = l.funs }) t None s) h.blanks
same-initial n l l' h t (Some e) w s = same-ev n l l' h e w s

mutual
  -- each statement
  same-does : (n : ℕ) (l l' : Library) → Alike n l l' → (a : Stmt) → StmtBelow n a → (s : State) → does l a s ≡ does l' a s
  same-does n l l' h (VarStmt v) w s =
      ap (λ x. then_eval x (λ u s'. Got UnitVal (bind v.name.id u s'))) (same-initial n l l' h v.ty v.initial w s)
  same-does n l l' h (Assign name path e) w s =
      same-then (ev l e s) (ev l' e s) _ _ (same-ev n l l' h e w.0 s)
      (λ v s'. same-along n l l' h path w.1 (look_up s'.store name.id) s'
      (λ steps s''. Got UnitVal (assign name.id (replaced steps v (look_up s''.store name.id)) s'')))
  same-does n l l' h (CallStmt name k es) w s =
      same-list n l l' h es w.0 [] s (λ vs s'. tick_eval s' (l.funs k vs)) (λ vs s'. tick_eval s' (l'.funs k vs))
      (λ vs s'. ap (tick_eval s') (funext (l.funs k vs) (l'.funs k vs) (λ s. h.funs k vs s w.1)))
  same-does n l l' h (Error text p) w s = refl
  same-does n l l' h (If' e _ a p) w s =
      same-then (ev l e s) (ev l' e s) _ _ (same-ev n l l' h e w.0 s)
      (λ v s'. ap (λ f. choose_eval (is_one v) (scope f) done s') (funext (does_row l a) (does_row l' a) (same-row n l l' h a w.1)))
  same-does n l l' h (IfElse' e _ a _ b p) w s =
      same-then (ev l e s) (ev l' e s) _ _ (same-ev n l l' h e w.0 s)
      (λ v s'. ap (λ f. choose_eval (is_one v) (scope f) (scope (does_row l b)) s') (funext (does_row l a) (does_row l' a) (same-row n l l' h a w.1))
      ∙ ap (λ f. choose_eval (is_one v) (scope (does_row l' a)) (scope f) s') (funext (does_row l b) (does_row l' b) (same-row n l l' h b w.2)))
  same-does n l l' h (While' e _ a p) w s =
      ap (λ test. while_eval s.left test (scope (does_row l a)) s) (funext (ev l e) (ev l' e) (same-ev n l l' h e w.0))
      ∙ ap (λ f. while_eval s.left (ev l' e) (scope f) s) (funext (does_row l a) (does_row l' a) (same-row n l l' h a w.1))
  same-does n l l' h (For' name a m _ b p) w s =
      same-then (ev l a s) (ev l' a s) _ _ (same-ev n l l' h a w.0 s)
      (λ v s'. same-then (ev l m s') (ev l' m s') _ _ (same-ev n l l' h m w.1 s')
      (λ u s''. ap (λ f. counted_eval (turns_of (num_of u)) name.id (num_of v) f s'') (funext (does_row l b) (does_row l' b) (same-row n l l' h b w.2))))

  -- statements one after the other
  same-row : {m : _} (n : ℕ) (l l' : Library) → Alike n l l' → (row : Row_of-Stmt m) → StmtsBelow n row → (s : State) →
      does_row l row s ≡ does_row l' row s
  same-row n l l' h end_of-Stmt w s = refl
  same-row n l l' h (more_of-Stmt a row) w s =
      same-then (does l a s) (does l' a s) _ _ (same-does n l l' h a w.0 s) (λ v s'. same-row n l l' h row w.1 s')

-- a list of statements
same-statements : (n : ℕ) (l l' : Library) → Alike n l l' → (row : List Stmt) → ListBelow n row → (s : State) → does_all l row s ≡ does_all l' row s
same-statements n l l' h [] w s = refl
same-statements n l l' h (a ∷ row) w s =
    same-then (does l a s) (does l' a s) _ _ (same-does n l l' h a w.0 s) (λ v s'. same-statements n l l' h row w.1 s')

-- the value of a body
same-result : (n : ℕ) (l l' : Library) → Alike n l l' → (r : Option Return) → ResultBelow n r → (s : State) → result_of l r s ≡ result_of l' r s
same-result n l l' h None w s = refl
same-result n l l' h (Some r) w s = same-ev n l l' h r.value w s

-- each body
pub same-body : (n : ℕ) (l l' : Library) → Alike n l l' → (body : Body) → BodyBelow n body → (s : State) → run_body l body s ≡ run_body l' body s
same-body n l l' h body w s =
    ap (λ f. scope f s)
    (funext _ _ (λ s'. same-then (does_all l body.statements s') (does_all l' body.statements s') _ _ (same-statements n l l' h body.statements w.0 s')
    (λ v s''. same-result n l l' h body.result w.1 s'')))
