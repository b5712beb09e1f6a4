-- An expression leaves the names in scope as they are.
use Rattle.std.specs.Prelude.{ℕ, zero, suc, ◌+◌, List, [], ◌∷◌, ◌++◌, Option, Some, None, Bool, true, false, ◌≡◌, refl, nat_eq}
use Rattle.std.proofs.Common.{sym, subst}
use Rattle.zir_tree.specs.declared.place.Place.{Place}
use Rattle.zir_tree.specs.declared.value.Val.{Val, Pair, List as Vals}
use Rattle.zir_tree.specs.declared.value.Slot.{Slot}
use Rattle.zir_tree.specs.declared.types.Base.{Base}
use Rattle.zir_tree.specs.declared.types.Field.{Field}
use Rattle.zir_tree.specs.declared.types.StructDef.{StructDef}
use Rattle.zir_tree.specs.declared.program.Function.{Function}
use Rattle.zir_tree.specs.declared.expr.Operator.{Operator}
use Rattle.zir_tree.specs.declared.expr.Operator.TheVariants.{Or, And, BitOr, BitXor, BitAnd, Equal, NotEqual, Less, LessEqual, Greater, GreaterEqual, ShiftLeft, ShiftRight, Add, Subtract, Multiply, Divide, Remainder}
use Rattle.zir_tree.specs.declared.expr.Callee.{Callee}
use Rattle.zir_tree.specs.declared.expr.Callee.TheVariants.{Function as FunctionCallee, Struct as StructCallee}
use Rattle.zir_tree.specs.declared.expr.Expr.{Expr, Unit as UnitExpr, Bit, Bool as BoolLiteral, Int, Variable, Unary', Binary', Index', Slice', Part', Call', Array', Convert', Complex', Row_of-Expr, end_of-Expr, more_of-Expr}
use Rattle.zir_meaning.specs.Values.{parts, is_one, num_of, blanks_of}
use Rattle.zir_meaning.specs.Operators.{Computed, Gives, Fails, computed, prefixed, converted, part_of}
use Rattle.zir_meaning.specs.Trace.{State}
use Rattle.zir_meaning.specs.Evaluation.{Eval, Got, Traps, RunsOut, Funs, Library, then_eval, tick_eval_of, choose_eval, computed_at, both_sides, two_sided, element, range, found, called_by, ev, ev_all}
use Rattle.zir_meaning.specs.Statements.{run_body}
use Rattle.zir_meaning.specs.Functions.{entered, returned, called_fun, pick, no_funs, one_more_fun, more_funs, library_of}

-- a value comes with these names in scope
abbrev pub Within : List Slot → Eval → Type 0
Within locals (Got v s) = s.store.locals ≡ locals
Within locals (Traps t s) = Unit {0}
Within locals RunsOut = Unit {0}

-- an evaluation leaves the names in scope as they are
abbrev pub Leaves : (State → Eval) → Type 0
Leaves f = (locals : List Slot) (s : State) → s.store.locals ≡ locals → Within locals (f s)

within-then : (locals : List Slot) (r : Eval) (g : Val → State → Eval) → Within locals r → ((v : Val) → Leaves (g v)) → Within locals (then_eval r g)
within-then locals (Got v s) g h k = k v locals s h
within-then locals (Traps t s) g h k = tt
within-then locals RunsOut g h k = tt

leaves-then : (f : State → Eval) (g : Val → State → Eval) → Leaves f → ((v : Val) → Leaves (g v)) → Leaves (λ s. then_eval (f s) g)
leaves-then f g h k = λ locals s e. within-then locals (f s) g (h locals s e) k

leaves-got : (v : Val) → Leaves (λ s. Got v s)
leaves-got v = λ locals s e. e

leaves-choose : (b : Bool) (f g : State → Eval) → Leaves f → Leaves g → Leaves (λ s. choose_eval b f g s)
leaves-choose true f g h k = h
leaves-choose false f g h k = k

leaves-found : (code : ℕ) (p : Place) (o : Option Val) → Leaves (λ s. found code p o s Got)
leaves-found code p None = λ locals s e. tt
leaves-found code p (Some v) = leaves-got v

within-tick : (l : ℕ) (f : State → Eval) → Leaves f → Leaves (λ s. tick_eval_of l s f)
within-tick zero f h = λ locals s e. tt
within-tick (suc l) f h = λ locals s e. h locals (record s { ticks = s.ticks + 1; left = l }) e

leaves-computed : (x : Computed) (p : Place) → Leaves (λ s. computed_at x p s)
leaves-computed (Gives v) p = leaves-got v
leaves-computed (Fails code) p = λ locals s e. tt

leaves-both : (o : Operator) (t : Base) (p : Place) (f g : State → Eval) → Leaves f → Leaves g → Leaves (λ s. both_sides o t p (f s) g)
leaves-both o t p f g h k =
    leaves-then f (λ v s. then_eval (g s) (λ w s'. computed_at (computed o t v w) p s')) h
    (λ v. leaves-then g (λ w s'. computed_at (computed o t v w) p s') k (λ w. leaves-computed (computed o t v w) p))

leaves-sides : (o : Operator) (t : Base) (p : Place) (f g : State → Eval) → Leaves f → Leaves g → Leaves (λ s. two_sided o t p (f s) g)
leaves-sides Or t p f g h k =
    leaves-then f (λ v s. choose_eval (is_one v) (λ s'. Got v s') g s) h (λ v. leaves-choose (is_one v) (λ s'. Got v s') g (leaves-got v) k)
leaves-sides And t p f g h k =
    leaves-then f (λ v s. choose_eval (is_one v) g (λ s'. Got v s') s) h (λ v. leaves-choose (is_one v) g (λ s'. Got v s') k (leaves-got v))
leaves-sides BitOr t p f g h k = leaves-both BitOr t p f g h k
leaves-sides BitXor t p f g h k = leaves-both BitXor t p f g h k
leaves-sides BitAnd t p f g h k = leaves-both BitAnd t p f g h k
leaves-sides Equal t p f g h k = leaves-both Equal t p f g h k
leaves-sides NotEqual t p f g h k = leaves-both NotEqual t p f g h k
leaves-sides Less t p f g h k = leaves-both Less t p f g h k
leaves-sides LessEqual t p f g h k = leaves-both LessEqual t p f g h k
leaves-sides Greater t p f g h k = leaves-both Greater t p f g h k
leaves-sides GreaterEqual t p f g h k = leaves-both GreaterEqual t p f g h k
leaves-sides ShiftLeft t p f g h k = leaves-both ShiftLeft t p f g h k
leaves-sides ShiftRight t p f g h k = leaves-both ShiftRight t p f g h k
leaves-sides Add t p f g h k = leaves-both Add t p f g h k
leaves-sides Subtract t p f g h k = leaves-both Subtract t p f g h k
leaves-sides Multiply t p f g h k = leaves-both Multiply t p f g h k
leaves-sides Divide t p f g h k = leaves-both Divide t p f g h k
leaves-sides Remainder t p f g h k = leaves-both Remainder t p f g h k

-- each of these functions leaves the names in scope as they are
abbrev pub FunsLeave : Funs → Type 0
FunsLeave funs = (k : ℕ) (vs : List Val) → Leaves (funs k vs)

leaves-called : (l : Library) → FunsLeave l.funs → (callee : Callee) (vs : List Val) → Leaves (λ s. called_by l callee vs s)
leaves-called l k (FunctionCallee n) vs = λ locals s e. within-tick s.left (l.funs n vs) (k n vs) locals s e
leaves-called l k (StructCallee n) vs = leaves-got (Vals vs)

mutual
  -- each expression
  pub leaves-ev : (l : Library) → FunsLeave l.funs → (e : Expr) → Leaves (λ s. ev l e s)
  leaves-ev l k (UnitExpr p) = λ locals s e. e
  leaves-ev l k (Bit b p) = λ locals s e. e
  leaves-ev l k (BoolLiteral b p) = λ locals s e. e
  leaves-ev l k (Int n t p) = λ locals s e. e
  leaves-ev l k (Variable name) = λ locals s e. e
  leaves-ev l k (Unary' o t _ (more_of-Expr a end_of-Expr) p) =
      leaves-then (ev l a) (λ v s'. Got (prefixed o t v) s') (leaves-ev l k a) (λ v. leaves-got (prefixed o t v))
  leaves-ev l k (Binary' o t _ (more_of-Expr a end_of-Expr) _ (more_of-Expr b end_of-Expr) p) =
      leaves-sides o t p (ev l a) (ev l b) (leaves-ev l k a) (leaves-ev l k b)
  leaves-ev l k (Index' _ (more_of-Expr a end_of-Expr) _ (more_of-Expr i end_of-Expr) p) =
      leaves-then (ev l a) (λ v s'. then_eval (ev l i s') (λ w s''. found 2 p (element (parts v) (num_of w)) s'' Got)) (leaves-ev l k a)
      (λ v. leaves-then (ev l i) (λ w s''. found 2 p (element (parts v) (num_of w)) s'' Got) (leaves-ev l k i)
      (λ w. leaves-found 2 p (element (parts v) (num_of w))))
  leaves-ev l k (Slice' _ (more_of-Expr a end_of-Expr) _ (more_of-Expr i end_of-Expr) n p) =
      leaves-then (ev l a) (λ v s'. then_eval (ev l i s') (λ w s''. found 3 p (range (parts v) (num_of w) n) s'' Got)) (leaves-ev l k a)
      (λ v. leaves-then (ev l i) (λ w s''. found 3 p (range (parts v) (num_of w) n) s'' Got) (leaves-ev l k i)
      (λ w. leaves-found 3 p (range (parts v) (num_of w) n)))
  leaves-ev l k (Part' _ (more_of-Expr a end_of-Expr) name n p) =
      leaves-then (ev l a) (λ v s'. Got (part_of n v) s') (leaves-ev l k a) (λ v. leaves-got (part_of n v))
  leaves-ev l k (Call' name callee _ es) = leaves-all l k es [] (called_by l callee) (leaves-called l k callee)
  leaves-ev l k (Array' _ es p) = leaves-all l k es [] (λ vs s'. Got (Vals vs) s') (λ vs. leaves-got (Vals vs))
  leaves-ev l k (Convert' t _ (more_of-Expr a end_of-Expr) p) =
      leaves-then (ev l a) (λ v s'. Got (converted t v) s') (leaves-ev l k a) (λ v. leaves-got (converted t v))
  leaves-ev l k (Complex' t _ (more_of-Expr a end_of-Expr) _ (more_of-Expr b end_of-Expr) p) =
      leaves-then (ev l a) (λ v s'. then_eval (ev l b s') (λ w s''. Got (Pair (num_of v) (num_of w)) s'')) (leaves-ev l k a)
      (λ v. leaves-then (ev l b) (λ w s''. Got (Pair (num_of v) (num_of w)) s'') (leaves-ev l k b) (λ w. leaves-got (Pair (num_of v) (num_of w))))

  -- more expressions, and what follows them
  leaves-all : {m : _} (l : Library) → FunsLeave l.funs → (es : Row_of-Expr m) (vs : List Val) (next : List Val → State → Eval) →
      ((vs : List Val) → Leaves (next vs)) → Leaves (λ s. ev_all l es vs s next)
  leaves-all l k end_of-Expr vs next h = h vs
  leaves-all l k (more_of-Expr e es) vs next h =
      leaves-then (ev l e) (λ v s'. ev_all l es (vs ++ v ∷ []) s' next) (leaves-ev l k e) (λ v. leaves-all l k es (vs ++ v ∷ []) next h)

within-returned : (locals : List Slot) (r : Eval) → Within locals (returned locals r)
within-returned locals (Got v s) = refl
within-returned locals (Traps t s) = tt
within-returned locals RunsOut = tt

-- a call of a body
leaves-call : (ps : List Field) (body : State → Eval) (vs : List Val) → Leaves (λ s. called_fun ps body vs s)
leaves-call ps body vs = λ locals s e.
    subst (λ xs. Within locals (returned xs (body (entered ps vs s)))) (sym e) (within-returned locals (body (entered ps vs s)))

leaves-pick : (b : Bool) (f g : List Val → State → Eval) (vs : List Val) → Leaves (f vs) → Leaves (g vs) → Leaves (pick b f g vs)
leaves-pick true f g vs h k = h
leaves-pick false f g vs h k = k

leaves-more : (blanks : List Val) (funs : Funs) (n : ℕ) (fs : List Function) → FunsLeave funs → FunsLeave (more_funs blanks funs n fs)
leaves-more blanks funs n [] h = h
leaves-more blanks funs n (f ∷ fs) h =
    let body : State → Eval = run_body (record { blanks = blanks; funs = funs }) f.body in
    leaves-more blanks (one_more_fun blanks funs n f) (suc n) fs
    (λ k vs. leaves-pick (nat_eq k n) (called_fun f.params body) (funs k) vs (leaves-call f.params body vs) (h k vs))

-- all functions of a program
pub leaves-library : (ds : List StructDef) (fs : List Function) → FunsLeave (library_of ds fs).funs
leaves-library ds fs = leaves-more (blanks_of ds) no_funs 0 fs (λ k vs locals s e. tt)
