-- An evaluation that uses no variable of some numbers does the same where those have changed or are added.
use Rattle.std.specs.Prelude.{ℕ, zero, suc, ◌+◌, ℤ, List, [], ◌∷◌, ◌++◌, Option, Some, None, Bool, true, false, ◌≡◌, refl}
use Rattle.std.proofs.Common.{ap, ◌∙◌}
use Rattle.zir_tree.specs.declared.place.Place.{Place}
use Rattle.zir_tree.specs.declared.value.Val.{Val, Unit as UnitVal, Bit as BitVal, Bool as BoolVal, Num, Pair, List as Vals}
use Rattle.zir_tree.specs.declared.value.Slot.{Slot}
use Rattle.zir_tree.specs.declared.types.Base.{Base}
use Rattle.zir_tree.specs.declared.types.Field.{Field}
use Rattle.zir_tree.specs.declared.types.TypeExpr.{TypeExpr}
use Rattle.zir_tree.specs.declared.expr.Operator.{Operator}
use Rattle.zir_tree.specs.declared.expr.Operator.TheVariants.{Or, And, BitOr, BitXor, BitAnd, Equal, NotEqual, Less, LessEqual, Greater, GreaterEqual, ShiftLeft, ShiftRight, Add, Subtract, Multiply, Divide, Remainder}
use Rattle.zir_tree.specs.declared.expr.Callee.{Callee}
use Rattle.zir_tree.specs.declared.expr.Callee.TheVariants.{Function, Struct}
use Rattle.zir_tree.specs.declared.expr.Expr.{Expr, Unit, Bit, Bool as BoolLiteral, Int, Variable, Unary', Binary', Index', Slice', Part', Call', Array', Convert', Complex', Row_of-Expr, end_of-Expr, more_of-Expr}
use Rattle.zir_tree.specs.declared.stmt.Access.{Access}
use Rattle.zir_tree.specs.declared.stmt.Access.TheVariants.{Index, Slice, Part}
use Rattle.zir_tree.specs.declared.stmt.Stmt.{Stmt, Var as VarStmt, Assign, Call as CallStmt, Error, If', IfElse', While', For', Row_of-Stmt, end_of-Stmt, more_of-Stmt}
use Rattle.zir_tree.specs.declared.stmt.Return.{Return}
use Rattle.zir_tree.specs.declared.stmt.Body.{Body}
use Rattle.zir_meaning.specs.Values.{parts, is_one, num_of, wrap, blank, type_of}
use Rattle.zir_meaning.specs.Operators.{Computed, Gives, Fails, computed, prefixed, converted, part_of}
use Rattle.zir_meaning.specs.Store.{found_or, look_up, put, depth}
use Rattle.zir_meaning.specs.Trace.{State}
use Rattle.zir_meaning.specs.Evaluation.{Eval, Got, Traps, RunsOut, Library, then_eval, tick_eval, tick_eval_of, trap, choose_eval, computed_at, both_sides, two_sided, element, range, found, called_by, ev, ev_all, ev_list}
use Rattle.zir_meaning.specs.Statements.{Step, ToElement, ToRange, ToPart, position, replaced, along, bind, assign, left_by, scope, done, while_eval, turns_of, next_index, counted_eval, initial_of, does, does_row, does_all, result_of, run_body}
use Rattle.zir_meaning.specs.Functions.{entered, returned, called_fun}
use Rattle.zir_beginning.specs.Uses.{CalleeWithin, ExprWithin, RowWithin, ArgumentsWithin, PathWithin, InitialWithin, StmtWithin, BlockWithin, AllWithin, ResultWithin, BodyWithin}

-- other top variables
abbrev pub OtherTops : Type 0
OtherTops = List Slot → List Slot

-- a state with other top variables
abbrev pub changed : OtherTops → State → State
changed c s = record s { store = record s.store { tops = c s.store.tops } }

-- an end with other top variables
abbrev pub changed_end : OtherTops → Eval → Eval
changed_end c (Got v s) = Got v (changed c s)
changed_end c (Traps t s) = Traps t (changed c s)
changed_end c RunsOut = RunsOut

-- a change spares the variables of these numbers
pub record SparesAll (c : OtherTops) (P : ℕ → Type 0) : Type 0 where
  pub found : (tops : List Slot) (id : ℕ) → P id → found_or UnitVal (c tops) id ≡ found_or UnitVal tops id
  pub puts : (tops : List Slot) (id : ℕ) (v : Val) → P id → put id v (c tops) ≡ c (put id v tops)

-- an evaluation does the same before a change and behind it
abbrev pub Commutes : OtherTops → (State → Eval) → Type 0
Commutes c f = (s : State) → f (changed c s) ≡ changed_end c (f s)

-- an end, and what follows it
then-end : (c : OtherTops) (r : Eval) (g : Val → State → Eval) → ((v : Val) → Commutes c (g v)) →
    then_eval (changed_end c r) g ≡ changed_end c (then_eval r g)
then-end c (Got v s) g h = h v s
then-end c (Traps t s) g h = refl
then-end c RunsOut g h = refl

-- an evaluation, and where it has a value what follows
commutes-then : (c : OtherTops) (f : State → Eval) (g : Val → State → Eval) → Commutes c f → ((v : Val) → Commutes c (g v)) →
    Commutes c (λ s. then_eval (f s) g)
commutes-then c f g h k = λ s. ap (λ r. then_eval r g) (h s) ∙ then-end c (f s) g k

-- a value
commutes-got : (c : OtherTops) (v : Val) → Commutes c (λ s. Got v s)
commutes-got c v = λ s. refl

-- a trap
commutes-trap : (c : OtherTops) (code : ℕ) (p : Place) → Commutes c (λ s. trap code p s)
commutes-trap c code p = λ s. refl

-- an evaluation that begins with a value that it reads
commutes-reads : (c : OtherTops) (read : State → Val) (f : Val → State → Eval) → ((s : State) → read (changed c s) ≡ read s) →
    ((v : Val) → Commutes c (f v)) → Commutes c (λ s. f (read s) s)
commutes-reads c read f e h = λ s. ap (λ v. f v (changed c s)) (e s) ∙ h (read s) s

-- one of two
commutes-choose : (c : OtherTops) (b : Bool) (f g : State → Eval) → Commutes c f → Commutes c g → Commutes c (λ s. choose_eval b f g s)
commutes-choose c true f g h k = h
commutes-choose c false f g h k = k

-- what was found, or a trap
commutes-found : (c : OtherTops) (code : ℕ) (p : Place) (o : Option Val) (next : Val → State → Eval) → ((v : Val) → Commutes c (next v)) →
    Commutes c (λ s. found code p o s next)
commutes-found c code p None next h = commutes-trap c code p
commutes-found c code p (Some v) next h = h v

-- one of these ticks, and then an evaluation
commutes-tick_of : (c : OtherTops) (l : ℕ) (f : State → Eval) → Commutes c f → Commutes c (λ s. tick_eval_of l s f)
commutes-tick_of c zero f h = λ s. refl
commutes-tick_of c (suc l) f h = λ s. h (record s { ticks = s.ticks + 1; left = l })

-- one tick, and then an evaluation
commutes-tick : (c : OtherTops) (f : State → Eval) → Commutes c f → Commutes c (λ s. tick_eval s f)
commutes-tick c f h = λ s. commutes-tick_of c s.left f h s

-- names leave the scope
left_by-end : (c : OtherTops) (n : ℕ) (r : Eval) → left_by n (changed_end c r) ≡ changed_end c (left_by n r)
left_by-end c n (Got v s) = refl
left_by-end c n (Traps t s) = refl
left_by-end c n RunsOut = refl

-- a scope
commutes-scope : (c : OtherTops) (f : State → Eval) → Commutes c f → Commutes c (λ s. scope f s)
commutes-scope c f h = λ s. ap (left_by (depth s.store)) (h s) ∙ left_by-end c (depth s.store) (f s)

-- the names of a caller are in scope again
returned-end : (c : OtherTops) (locals : List Slot) (r : Eval) → returned locals (changed_end c r) ≡ changed_end c (returned locals r)
returned-end c locals (Got v s) = refl
returned-end c locals (Traps t s) = refl
returned-end c locals RunsOut = refl

-- a call of a body
pub commutes-call : (c : OtherTops) (ps : List Field) (body : State → Eval) (vs : List Val) → Commutes c body → Commutes c (λ s. called_fun ps body vs s)
commutes-call c ps body vs h = λ s.
    ap (returned s.store.locals) (h (entered ps vs s)) ∙ returned-end c s.store.locals (body (entered ps vs s))

-- what an operator computes
commutes-computed : (c : OtherTops) (x : Computed) (p : Place) → Commutes c (λ s. computed_at x p s)
commutes-computed c (Gives v) p = commutes-got c v
commutes-computed c (Fails code) p = commutes-trap c code p

-- both sides
commutes-both : (c : OtherTops) (o : Operator) (t : Base) (p : Place) (f g : State → Eval) → Commutes c f → Commutes c g →
    Commutes c (λ s. both_sides o t p (f s) g)
commutes-both c o t p f g h k =
    commutes-then c f (λ v s. then_eval (g s) (λ w s'. computed_at (computed o t v w) p s')) h
    (λ v. commutes-then c g (λ w s'. computed_at (computed o t v w) p s') k (λ w. commutes-computed c (computed o t v w) p))

-- an operator with its sides
commutes-sides : (c : OtherTops) (o : Operator) (t : Base) (p : Place) (f g : State → Eval) → Commutes c f → Commutes c g →
    Commutes c (λ s. two_sided o t p (f s) g)
commutes-sides c Or t p f g h k =
    commutes-then c f (λ v s. choose_eval (is_one v) (λ s'. Got v s') g s) h
    (λ v. commutes-choose c (is_one v) (λ s'. Got v s') g (commutes-got c v) k)
commutes-sides c And t p f g h k =
    commutes-then c f (λ v s. choose_eval (is_one v) g (λ s'. Got v s') s) h
    (λ v. commutes-choose c (is_one v) g (λ s'. Got v s') k (commutes-got c v))
commutes-sides c BitOr t p f g h k = commutes-both c BitOr t p f g h k
commutes-sides c BitXor t p f g h k = commutes-both c BitXor t p f g h k
commutes-sides c BitAnd t p f g h k = commutes-both c BitAnd t p f g h k
commutes-sides c Equal t p f g h k = commutes-both c Equal t p f g h k
commutes-sides c NotEqual t p f g h k = commutes-both c NotEqual t p f g h k
commutes-sides c Less t p f g h k = commutes-both c Less t p f g h k
commutes-sides c LessEqual t p f g h k = commutes-both c LessEqual t p f g h k
commutes-sides c Greater t p f g h k = commutes-both c Greater t p f g h k
commutes-sides c GreaterEqual t p f g h k = commutes-both c GreaterEqual t p f g h k
commutes-sides c ShiftLeft t p f g h k = commutes-both c ShiftLeft t p f g h k
commutes-sides c ShiftRight t p f g h k = commutes-both c ShiftRight t p f g h k
commutes-sides c Add t p f g h k = commutes-both c Add t p f g h k
commutes-sides c Subtract t p f g h k = commutes-both c Subtract t p f g h k
commutes-sides c Multiply t p f g h k = commutes-both c Multiply t p f g h k
commutes-sides c Divide t p f g h k = commutes-both c Divide t p f g h k
commutes-sides c Remainder t p f g h k = commutes-both c Remainder t p f g h k

-- a change spares the variables of these numbers, and each of these functions does the same before it and behind it
pub record Spared (c : OtherTops) (l : Library) (P Q : ℕ → Type 0) : Type 0 where
  pub variables : SparesAll c P
  pub functions : (k : ℕ) → Q k → (vs : List Val) → Commutes c (l.funs k vs)

-- the value of a variable
same-look_up : (c : OtherTops) (l : Library) (P Q : ℕ → Type 0) → Spared c l P Q → (id : ℕ) → P id → (s : State) →
    look_up (changed c s).store id ≡ look_up s.store id
same-look_up c l P Q h id u s = ap (λ v. found_or v s.store.locals id) (h.variables.found s.store.tops id u)

-- a call with the values of its arguments
commutes-called : (c : OtherTops) (l : Library) (P Q : ℕ → Type 0) → Spared c l P Q → (callee : Callee) → CalleeWithin Q callee → (vs : List Val) →
    Commutes c (λ s. called_by l callee vs s)
commutes-called c l P Q h (Function k) u vs = commutes-tick c (l.funs k vs) (h.functions k u vs)
commutes-called c l P Q h (Struct k) u vs = commutes-got c (Vals vs)

mutual
  -- each expression
  pub commutes-ev : (c : OtherTops) (l : Library) (P Q : ℕ → Type 0) → Spared c l P Q → (e : Expr) → ExprWithin P Q e → Commutes c (λ s. ev l e s)
  commutes-ev c l P Q h (Unit p) u = commutes-got c UnitVal
  commutes-ev c l P Q h (Bit b p) u = commutes-got c (BitVal b)
  commutes-ev c l P Q h (BoolLiteral b p) u = commutes-got c (BoolVal b)
  commutes-ev c l P Q h (Int n t p) u = commutes-got c (Num (wrap t n))
  commutes-ev c l P Q h (Variable name) u =
      commutes-reads c (λ s. look_up s.store name.id) Got (same-look_up c l P Q h name.id u) (commutes-got c)
  commutes-ev c l P Q h (Unary' o t _ (more_of-Expr a end_of-Expr) p) u =
      commutes-then c (ev l a) (λ v s'. Got (prefixed o t v) s') (commutes-ev c l P Q h a u) (λ v. commutes-got c (prefixed o t v))
  commutes-ev c l P Q h (Binary' o t _ (more_of-Expr a end_of-Expr) _ (more_of-Expr b end_of-Expr) p) u =
      commutes-sides c o t p (ev l a) (ev l b) (commutes-ev c l P Q h a u.0) (commutes-ev c l P Q h b u.1)
  commutes-ev c l P Q h (Index' _ (more_of-Expr a end_of-Expr) _ (more_of-Expr i end_of-Expr) p) u =
      commutes-then c (ev l a) (λ v s'. then_eval (ev l i s') (λ w s''. found 2 p (element (parts v) (num_of w)) s'' Got))
      (commutes-ev c l P Q h a u.0)
      (λ v. commutes-then c (ev l i) (λ w s''. found 2 p (element (parts v) (num_of w)) s'' Got) (commutes-ev c l P Q h i u.1)
      (λ w. commutes-found c 2 p (element (parts v) (num_of w)) Got (commutes-got c)))
  commutes-ev c l P Q h (Slice' _ (more_of-Expr a end_of-Expr) _ (more_of-Expr i end_of-Expr) n p) u =
      commutes-then c (ev l a) (λ v s'. then_eval (ev l i s') (λ w s''. found 3 p (range (parts v) (num_of w) n) s'' Got))
      (commutes-ev c l P Q h a u.0)
      (λ v. commutes-then c (ev l i) (λ w s''. found 3 p (range (parts v) (num_of w) n) s'' Got) (commutes-ev c l P Q h i u.1)
      (λ w. commutes-found c 3 p (range (parts v) (num_of w) n) Got (commutes-got c)))
  commutes-ev c l P Q h (Part' _ (more_of-Expr a end_of-Expr) name n p) u =
      commutes-then c (ev l a) (λ v s'. Got (part_of n v) s') (commutes-ev c l P Q h a u) (λ v. commutes-got c (part_of n v))
  commutes-ev c l P Q h (Call' name callee _ es) u = commutes-all c l P Q h es u.0 [] (called_by l callee) (commutes-called c l P Q h callee u.1)
  commutes-ev c l P Q h (Array' _ es p) u = commutes-all c l P Q h es u [] (λ vs s'. Got (Vals vs) s') (λ vs. commutes-got c (Vals vs))
  commutes-ev c l P Q h (Convert' t _ (more_of-Expr a end_of-Expr) p) u =
      commutes-then c (ev l a) (λ v s'. Got (converted t v) s') (commutes-ev c l P Q h a u) (λ v. commutes-got c (converted t v))
  commutes-ev c l P Q h (Complex' t _ (more_of-Expr a end_of-Expr) _ (more_of-Expr b end_of-Expr) p) u =
      commutes-then c (ev l a) (λ v s'. then_eval (ev l b s') (λ w s''. Got (Pair (num_of v) (num_of w)) s'')) (commutes-ev c l P Q h a u.0)
      (λ v. commutes-then c (ev l b) (λ w s''. Got (Pair (num_of v) (num_of w)) s'') (commutes-ev c l P Q h b u.1)
      (λ w. commutes-got c (Pair (num_of v) (num_of w))))

  -- more expressions, and what follows them
  commutes-all : {m : _} (c : OtherTops) (l : Library) (P Q : ℕ → Type 0) → Spared c l P Q → (es : Row_of-Expr m) → RowWithin P Q es → (vs : List Val)
      (next : List Val → State → Eval) → ((vs : List Val) → Commutes c (next vs)) → Commutes c (λ s. ev_all l es vs s next)
  commutes-all c l P Q h end_of-Expr u vs next k = k vs
  commutes-all c l P Q h (more_of-Expr e es) u vs next k =
      commutes-then c (ev l e) (λ v s'. ev_all l es (vs ++ v ∷ []) s' next) (commutes-ev c l P Q h e u.0)
      (λ v. commutes-all c l P Q h es u.1 (vs ++ v ∷ []) next k)

-- a list of expressions, and what follows them
commutes-list : (c : OtherTops) (l : Library) (P Q : ℕ → Type 0) → Spared c l P Q → (es : List Expr) → ArgumentsWithin P Q es → (vs : List Val)
    (next : List Val → State → Eval) → ((vs : List Val) → Commutes c (next vs)) → Commutes c (λ s. ev_list l es vs s next)
commutes-list c l P Q h [] u vs next k = k vs
commutes-list c l P Q h (e ∷ es) u vs next k =
    commutes-then c (ev l e) (λ v s'. ev_list l es (vs ++ v ∷ []) s' next) (commutes-ev c l P Q h e u.0)
    (λ v. commutes-list c l P Q h es u.1 (vs ++ v ∷ []) next k)

-- the indexes of a path, and what follows them
commutes-along : (c : OtherTops) (l : Library) (P Q : ℕ → Type 0) → Spared c l P Q → (path : List Access) → PathWithin P Q path → (old : Val)
    (next : List Step → State → Eval) → ((steps : List Step) → Commutes c (next steps)) → Commutes c (λ s. along l path old s next)
commutes-along c l P Q h [] u old next k = k []
commutes-along c l P Q h (Index e p ∷ path) u old next k =
    commutes-then c (ev l e)
    (λ w s'. found 2 p (element (parts old) (num_of w)) s' (λ v s''. along l path v s'' (λ steps t. next (ToElement (position (num_of w)) ∷ steps) t)))
    (commutes-ev c l P Q h e u.0)
    (λ w. commutes-found c 2 p (element (parts old) (num_of w)) (λ v s''. along l path v s'' (λ steps t. next (ToElement (position (num_of w)) ∷ steps) t))
    (λ v. commutes-along c l P Q h path u.1 v (λ steps t. next (ToElement (position (num_of w)) ∷ steps) t)
    (λ steps. k (ToElement (position (num_of w)) ∷ steps))))
commutes-along c l P Q h (Slice e n p ∷ path) u old next k =
    commutes-then c (ev l e)
    (λ w s'. found 3 p (range (parts old) (num_of w) n) s' (λ v s''. along l path v s'' (λ steps t. next (ToRange (position (num_of w)) n ∷ steps) t)))
    (commutes-ev c l P Q h e u.0)
    (λ w. commutes-found c 3 p (range (parts old) (num_of w) n) (λ v s''. along l path v s'' (λ steps t. next (ToRange (position (num_of w)) n ∷ steps) t))
    (λ v. commutes-along c l P Q h path u.1 v (λ steps t. next (ToRange (position (num_of w)) n ∷ steps) t)
    (λ steps. k (ToRange (position (num_of w)) n ∷ steps))))
commutes-along c l P Q h (Part name n p ∷ path) u old next k =
    commutes-along c l P Q h path u (part_of n old) (λ steps t. next (ToPart n ∷ steps) t) (λ steps. k (ToPart n ∷ steps))

-- the value of a declaration
pub commutes-initial : (c : OtherTops) (l : Library) (P Q : ℕ → Type 0) → Spared c l P Q → (t : TypeExpr) (e : Option Expr) → InitialWithin P Q e →
    Commutes c (λ s. initial_of l t e s)
commutes-initial c l P Q h t None u = commutes-got c (blank l.blanks (type_of t))
commutes-initial c l P Q h t (Some e) u = commutes-ev c l P Q h e u

-- an assignment
commutes-assign : (c : OtherTops) (l : Library) (P Q : ℕ → Type 0) → Spared c l P Q → (id : ℕ) → P id → (v : Val) →
    Commutes c (λ s. Got UnitVal (assign id v s))
commutes-assign c l P Q h id u v = λ s.
    ap (λ tops. Got UnitVal (record s { store = record { tops = tops; locals = put id v s.store.locals } })) (h.variables.puts s.store.tops id v u)

-- a loop
commutes-while : (c : OtherTops) (most : ℕ) (test body : State → Eval) → Commutes c test → Commutes c body → Commutes c (λ s. while_eval most test body s)
commutes-while c zero test body h k =
    commutes-then c test (λ v s'. choose_eval (is_one v) (λ s''. RunsOut) done s') h
    (λ v. commutes-choose c (is_one v) (λ s''. RunsOut) done (λ s. refl) (commutes-got c UnitVal))
commutes-while c (suc most) test body h k =
    let turn : State → Eval = λ s2. then_eval (body s2) (λ w s3. while_eval most test body s3) in
    commutes-then c test (λ v s'. choose_eval (is_one v) (λ s1. tick_eval s1 turn) done s') h
    (λ v. commutes-choose c (is_one v) (λ s1. tick_eval s1 turn) done
    (commutes-tick c turn (commutes-then c body (λ w s3. while_eval most test body s3) k (λ w. commutes-while c most test body h k)))
    (commutes-got c UnitVal))

-- a loop of so many turns
commutes-counted : (c : OtherTops) (most id : ℕ) (i : ℤ) (body : State → Eval) → Commutes c body → Commutes c (λ s. counted_eval most id i body s)
commutes-counted c zero id i body h = commutes-got c UnitVal
commutes-counted c (suc most) id i body h =
    commutes-tick c (λ s1. then_eval (scope (λ s2. body (bind id (Num i) s2)) s1) (λ w s3. counted_eval most id (next_index i) body s3))
    (commutes-then c (scope (λ s2. body (bind id (Num i) s2))) (λ w s3. counted_eval most id (next_index i) body s3)
    (commutes-scope c (λ s2. body (bind id (Num i) s2)) (λ s. h (bind id (Num i) s)))
    (λ w. commutes-counted c most id (next_index i) body h))

mutual
  -- each statement
  commutes-does : (c : OtherTops) (l : Library) (P Q : ℕ → Type 0) → Spared c l P Q → (a : Stmt) → StmtWithin P Q a → Commutes c (λ s. does l a s)
  commutes-does c l P Q h (VarStmt v) u =
      commutes-then c (initial_of l v.ty v.initial) (λ w s'. Got UnitVal (bind v.name.id w s')) (commutes-initial c l P Q h v.ty v.initial u)
      (λ w s. refl)
  commutes-does c l P Q h (Assign name path e) u =
      commutes-then c (ev l e)
      (λ v s'. along l path (look_up s'.store name.id) s' (λ steps s''. Got UnitVal (assign name.id (replaced steps v (look_up s''.store name.id)) s'')))
      (commutes-ev c l P Q h e u.1)
      (λ v. commutes-reads c (λ s. look_up s.store name.id)
      (λ old s'. along l path old s' (λ steps s''. Got UnitVal (assign name.id (replaced steps v (look_up s''.store name.id)) s'')))
      (same-look_up c l P Q h name.id u.0)
      (λ old. commutes-along c l P Q h path u.2 old (λ steps s''. Got UnitVal (assign name.id (replaced steps v (look_up s''.store name.id)) s''))
      (λ steps. commutes-reads c (λ s. look_up s.store name.id) (λ o s''. Got UnitVal (assign name.id (replaced steps v o) s''))
      (same-look_up c l P Q h name.id u.0) (λ o. commutes-assign c l P Q h name.id u.0 (replaced steps v o)))))
  commutes-does c l P Q h (CallStmt name k es) u =
      commutes-list c l P Q h es u.0 [] (λ vs s'. tick_eval s' (l.funs k vs)) (λ vs. commutes-tick c (l.funs k vs) (h.functions k u.1 vs))
  commutes-does c l P Q h (Error text p) u = commutes-trap c 5 p
  commutes-does c l P Q h (If' e _ a p) u =
      commutes-then c (ev l e) (λ v s'. choose_eval (is_one v) (scope (does_row l a)) done s') (commutes-ev c l P Q h e u.0)
      (λ v. commutes-choose c (is_one v) (scope (does_row l a)) done (commutes-scope c (does_row l a) (commutes-row c l P Q h a u.1))
      (commutes-got c UnitVal))
  commutes-does c l P Q h (IfElse' e _ a _ b p) u =
      commutes-then c (ev l e) (λ v s'. choose_eval (is_one v) (scope (does_row l a)) (scope (does_row l b)) s') (commutes-ev c l P Q h e u.0)
      (λ v. commutes-choose c (is_one v) (scope (does_row l a)) (scope (does_row l b))
      (commutes-scope c (does_row l a) (commutes-row c l P Q h a u.1)) (commutes-scope c (does_row l b) (commutes-row c l P Q h b u.2)))
  commutes-does c l P Q h (While' e _ a p) u = λ s.
      commutes-while c s.left (ev l e) (scope (does_row l a)) (commutes-ev c l P Q h e u.0)
      (commutes-scope c (does_row l a) (commutes-row c l P Q h a u.1)) s
  commutes-does c l P Q h (For' name a n _ b p) u =
      commutes-then c (ev l a) (λ v s'. then_eval (ev l n s') (λ w s''. counted_eval (turns_of (num_of w)) name.id (num_of v) (does_row l b) s''))
      (commutes-ev c l P Q h a u.0)
      (λ v. commutes-then c (ev l n) (λ w s''. counted_eval (turns_of (num_of w)) name.id (num_of v) (does_row l b) s'') (commutes-ev c l P Q h n u.1)
      (λ w. commutes-counted c (turns_of (num_of w)) name.id (num_of v) (does_row l b) (commutes-row c l P Q h b u.2)))

  -- statements one after the other
  commutes-row : {m : _} (c : OtherTops) (l : Library) (P Q : ℕ → Type 0) → Spared c l P Q → (row : Row_of-Stmt m) → BlockWithin P Q row →
      Commutes c (λ s. does_row l row s)
  commutes-row c l P Q h end_of-Stmt u = commutes-got c UnitVal
  commutes-row c l P Q h (more_of-Stmt a row) u =
      commutes-then c (does l a) (λ v s'. does_row l row s') (commutes-does c l P Q h a u.0) (λ v. commutes-row c l P Q h row u.1)

-- a list of statements
commutes-statements : (c : OtherTops) (l : Library) (P Q : ℕ → Type 0) → Spared c l P Q → (row : List Stmt) → AllWithin P Q row →
    Commutes c (λ s. does_all l row s)
commutes-statements c l P Q h [] u = commutes-got c UnitVal
commutes-statements c l P Q h (a ∷ row) u =
    commutes-then c (does l a) (λ v s'. does_all l row s') (commutes-does c l P Q h a u.0) (λ v. commutes-statements c l P Q h row u.1)

-- the value of a body
commutes-result : (c : OtherTops) (l : Library) (P Q : ℕ → Type 0) → Spared c l P Q → (r : Option Return) → ResultWithin P Q r →
    Commutes c (λ s. result_of l r s)
commutes-result c l P Q h None u = commutes-got c UnitVal
commutes-result c l P Q h (Some r) u = commutes-ev c l P Q h r.value u

-- each body
pub commutes-body : (c : OtherTops) (l : Library) (P Q : ℕ → Type 0) → Spared c l P Q → (body : Body) → BodyWithin P Q body →
    Commutes c (λ s. run_body l body s)
commutes-body c l P Q h body u =
    commutes-scope c (λ s'. then_eval (does_all l body.statements s') (λ v s''. result_of l body.result s''))
    (commutes-then c (does_all l body.statements) (λ v s''. result_of l body.result s'') (commutes-statements c l P Q h body.statements u.0)
    (λ v. commutes-result c l P Q h body.result u.1))
