-- Each expression evaluates, where the functions do.
use Rattle.std.specs.Prelude.{List, [], ◌∷◌, ◌++◌}
use Rattle.zir_tree.specs.declared.place.Place.{Place}
use Rattle.zir_tree.specs.declared.value.Val.{Val, Unit as UnitVal, Bit as BitVal, Bool as BoolVal, Num, Pair, List as Vals}
use Rattle.zir_tree.specs.declared.types.Base.{Base}
use Rattle.zir_tree.specs.declared.expr.Operator.{Operator}
use Rattle.zir_tree.specs.declared.expr.Operator.TheVariants.{Or, And, BitOr, BitXor, BitAnd, Equal, NotEqual, Less, LessEqual, Greater, GreaterEqual, ShiftLeft, ShiftRight, Add, Subtract, Multiply, Divide, Remainder}
use Rattle.zir_tree.specs.declared.expr.Callee.{Callee}
use Rattle.zir_tree.specs.declared.expr.Callee.TheVariants.{Function, Struct}
use Rattle.zir_tree.specs.declared.expr.Expr.{Expr, Unit, Bit, Bool as BoolLiteral, Int, Variable, Unary', Binary', Index', Slice', Part', Call', Array', Convert', Complex', Row_of-Expr, end_of-Expr, more_of-Expr}
use Rattle.zir_meaning.specs.Values.{parts, is_one, num_of, wrap}
use Rattle.zir_meaning.specs.Operators.{Computed, Gives, Fails, computed, prefixed, converted, part_of}
use Rattle.zir_meaning.specs.Store.{look_up}
use Rattle.zir_meaning.specs.Trace.{State}
use Rattle.zir_meaning.specs.Evaluation.{Eval, Got, Library, then_eval, choose_eval, computed_at, both_sides, two_sided, element, range, found, called_by, ev, ev_all, ev_list}
use Rattle.zir_laws.proofs.Evaluating.{Evaluates, FunsEvaluate, evaluates-then, evaluates-stores, evaluates-got, evaluates-trap, evaluates-choose, evaluates-found, evaluates-tick}

-- what an operator computes
evaluates-computed : (c : Computed) (p : Place) → Evaluates (λ s. computed_at c p s)
evaluates-computed (Gives v) p = evaluates-got v
evaluates-computed (Fails code) p = evaluates-trap code p

-- both sides
evaluates-both : (o : Operator) (t : Base) (p : Place) (f g : State → Eval) → Evaluates f → Evaluates g → Evaluates (λ s. both_sides o t p (f s) g)
evaluates-both o t p f g h k =
    evaluates-then f (λ v s. then_eval (g s) (λ w s'. computed_at (computed o t v w) p s')) h
    (λ v. evaluates-then g (λ w s'. computed_at (computed o t v w) p s') k (λ w. evaluates-computed (computed o t v w) p))

-- an operator with its sides
evaluates-sides : (o : Operator) (t : Base) (p : Place) (f g : State → Eval) → Evaluates f → Evaluates g → Evaluates (λ s. two_sided o t p (f s) g)
evaluates-sides Or t p f g h k =
    evaluates-then f (λ v s. choose_eval (is_one v) (λ s'. Got v s') g s) h (λ v. evaluates-choose (is_one v) (λ s'. Got v s') g (evaluates-got v) k)
evaluates-sides And t p f g h k =
    evaluates-then f (λ v s. choose_eval (is_one v) g (λ s'. Got v s') s) h (λ v. evaluates-choose (is_one v) g (λ s'. Got v s') k (evaluates-got v))
evaluates-sides BitOr t p f g h k = evaluates-both BitOr t p f g h k
evaluates-sides BitXor t p f g h k = evaluates-both BitXor t p f g h k
evaluates-sides BitAnd t p f g h k = evaluates-both BitAnd t p f g h k
evaluates-sides Equal t p f g h k = evaluates-both Equal t p f g h k
evaluates-sides NotEqual t p f g h k = evaluates-both NotEqual t p f g h k
evaluates-sides Less t p f g h k = evaluates-both Less t p f g h k
evaluates-sides LessEqual t p f g h k = evaluates-both LessEqual t p f g h k
evaluates-sides Greater t p f g h k = evaluates-both Greater t p f g h k
evaluates-sides GreaterEqual t p f g h k = evaluates-both GreaterEqual t p f g h k
evaluates-sides ShiftLeft t p f g h k = evaluates-both ShiftLeft t p f g h k
evaluates-sides ShiftRight t p f g h k = evaluates-both ShiftRight t p f g h k
evaluates-sides Add t p f g h k = evaluates-both Add t p f g h k
evaluates-sides Subtract t p f g h k = evaluates-both Subtract t p f g h k
evaluates-sides Multiply t p f g h k = evaluates-both Multiply t p f g h k
evaluates-sides Divide t p f g h k = evaluates-both Divide t p f g h k
evaluates-sides Remainder t p f g h k = evaluates-both Remainder t p f g h k

-- a call with the values of its arguments
pub evaluates-called : (l : Library) → FunsEvaluate l.funs → (callee : Callee) (vs : List Val) → Evaluates (λ s. called_by l callee vs s)
evaluates-called l k (Function n) vs = evaluates-tick (l.funs n vs) (k n vs)
evaluates-called l k (Struct n) vs = evaluates-got (Vals vs)

mutual
  -- each expression
  pub evaluates-ev : (l : Library) → FunsEvaluate l.funs → (e : Expr) → Evaluates (λ s. ev l e s)
  evaluates-ev l k (Unit p) = evaluates-got UnitVal
  evaluates-ev l k (Bit b p) = evaluates-got (BitVal b)
  evaluates-ev l k (BoolLiteral b p) = evaluates-got (BoolVal b)
  evaluates-ev l k (Int n t p) = evaluates-got (Num (wrap t n))
  evaluates-ev l k (Variable name) = evaluates-stores (λ store. look_up store name.id) (λ store. store)
  evaluates-ev l k (Unary' o t _ (more_of-Expr a end_of-Expr) p) =
      evaluates-then (ev l a) (λ v s'. Got (prefixed o t v) s') (evaluates-ev l k a) (λ v. evaluates-got (prefixed o t v))
  evaluates-ev l k (Binary' o t _ (more_of-Expr a end_of-Expr) _ (more_of-Expr b end_of-Expr) p) =
      evaluates-sides o t p (ev l a) (ev l b) (evaluates-ev l k a) (evaluates-ev l k b)
  evaluates-ev l k (Index' _ (more_of-Expr a end_of-Expr) _ (more_of-Expr i end_of-Expr) p) =
      evaluates-then (ev l a) (λ v s'. then_eval (ev l i s') (λ w s''. found 2 p (element (parts v) (num_of w)) s'' Got)) (evaluates-ev l k a)
      (λ v. evaluates-then (ev l i) (λ w s''. found 2 p (element (parts v) (num_of w)) s'' Got) (evaluates-ev l k i)
      (λ w. evaluates-found 2 p (element (parts v) (num_of w)) Got evaluates-got))
  evaluates-ev l k (Slice' _ (more_of-Expr a end_of-Expr) _ (more_of-Expr i end_of-Expr) n p) =
      evaluates-then (ev l a) (λ v s'. then_eval (ev l i s') (λ w s''. found 3 p (range (parts v) (num_of w) n) s'' Got)) (evaluates-ev l k a)
      (λ v. evaluates-then (ev l i) (λ w s''. found 3 p (range (parts v) (num_of w) n) s'' Got) (evaluates-ev l k i)
      (λ w. evaluates-found 3 p (range (parts v) (num_of w) n) Got evaluates-got))
  evaluates-ev l k (Part' _ (more_of-Expr a end_of-Expr) name n p) =
      evaluates-then (ev l a) (λ v s'. Got (part_of n v) s') (evaluates-ev l k a) (λ v. evaluates-got (part_of n v))
  evaluates-ev l k (Call' name callee _ es) = evaluates-all l k es [] (called_by l callee) (evaluates-called l k callee)
  evaluates-ev l k (Array' _ es p) = evaluates-all l k es [] (λ vs s'. Got (Vals vs) s') (λ vs. evaluates-got (Vals vs))
  evaluates-ev l k (Convert' t _ (more_of-Expr a end_of-Expr) p) =
      evaluates-then (ev l a) (λ v s'. Got (converted t v) s') (evaluates-ev l k a) (λ v. evaluates-got (converted t v))
  evaluates-ev l k (Complex' t _ (more_of-Expr a end_of-Expr) _ (more_of-Expr b end_of-Expr) p) =
      evaluates-then (ev l a) (λ v s'. then_eval (ev l b s') (λ w s''. Got (Pair (num_of v) (num_of w)) s'')) (evaluates-ev l k a)
      (λ v. evaluates-then (ev l b) (λ w s''. Got (Pair (num_of v) (num_of w)) s'') (evaluates-ev l k b) (λ w. evaluates-got (Pair (num_of v) (num_of w))))

  -- more expressions, and what follows them
  pub evaluates-all : {m : _} (l : Library) → FunsEvaluate l.funs → (es : Row_of-Expr m) (vs : List Val) (next : List Val → State → Eval) →
      ((vs : List Val) → Evaluates (next vs)) → Evaluates (λ s. ev_all l es vs s next)
  evaluates-all l k end_of-Expr vs next h = h vs
  evaluates-all l k (more_of-Expr e es) vs next h =
      evaluates-then (ev l e) (λ v s'. ev_all l es (vs ++ v ∷ []) s' next) (evaluates-ev l k e) (λ v. evaluates-all l k es (vs ++ v ∷ []) next h)

-- a list of expressions, and what follows them
pub evaluates-list : (l : Library) → FunsEvaluate l.funs → (es : List Expr) (vs : List Val) (next : List Val → State → Eval) →
    ((vs : List Val) → Evaluates (next vs)) → Evaluates (λ s. ev_list l es vs s next)
evaluates-list l k [] vs next h = h vs
evaluates-list l k (e ∷ es) vs next h =
    evaluates-then (ev l e) (λ v s'. ev_list l es (vs ++ v ∷ []) s' next) (evaluates-ev l k e) (λ v. evaluates-list l k es (vs ++ v ∷ []) next h)
