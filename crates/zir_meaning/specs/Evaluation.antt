-- What an expression means, from what is in scope and with the ticks that are left.
use Rattle.std.specs.Prelude.{ℕ, zero, suc, ◌+◌, ℤ, pos, negsuc, Bool, true, false, List, [], ◌∷◌, ◌++◌, Option, Some, None, nat_le, length, take, drop, slice_get}
use Rattle.zir_tree.specs.declared.place.Place.{Place}
use Rattle.zir_tree.specs.declared.value.Val.{Val, Unit as UnitVal, Bit as BitVal, Bool as BoolVal, Num, Pair, List as Vals}
use Rattle.zir_tree.specs.declared.ends.Trap.{Trap}
use Rattle.zir_tree.specs.declared.ends.End.TheVariants.{Trap as Trapped}
use Rattle.zir_tree.specs.declared.types.Base.{Base}
use Rattle.zir_tree.specs.declared.expr.Operator.{Operator}
use Rattle.zir_tree.specs.declared.expr.Operator.TheVariants.{Or, And, BitOr, BitXor, BitAnd, Equal, NotEqual, Less, LessEqual, Greater, GreaterEqual, ShiftLeft, ShiftRight, Add, Subtract, Multiply, Divide, Remainder}
use Rattle.zir_tree.specs.declared.expr.Callee.{Callee}
use Rattle.zir_tree.specs.declared.expr.Callee.TheVariants.{Function, Struct}
use Rattle.zir_tree.specs.declared.expr.Expr.{Expr, Unit, Bit, Bool as BoolLiteral, Int, Variable, Unary', Binary', Index', Slice', Part', Call', Array', Convert', Complex', Row_of-Expr, end_of-Expr, more_of-Expr}
use Rattle.zir_meaning.specs.Values.{parts, is_one, num_of, wrap}
use Rattle.zir_meaning.specs.Operators.{Computed, Gives, Fails, computed, prefixed, converted, part_of}
use Rattle.zir_meaning.specs.Store.{look_up}
use Rattle.zir_meaning.specs.Trace.{State, Trace, spent, ends, Next}

-- a value, a trap, or a budget that is spent
pub data Eval : Type 0 where
  Got : (v : Val) (s : State) → Eval
  Traps : (t : Trap) (s : State) → Eval
  RunsOut : Eval

-- what each function does with the values of its arguments, by its place among all functions
abbrev pub Funs : Type 0
Funs = ℕ → List Val → State → Eval

-- what expressions and statements rest on: the blank values of the structs, and the functions declared before
pub record Library : Type 0 where
  pub blanks : List Val
  pub funs : Funs

-- an evaluation, and where it has a value what follows
abbrev pub then_eval : Eval → (Val → State → Eval) → Eval
then_eval (Got v s) next = next v s
then_eval (Traps t s) next = Traps t s
then_eval RunsOut next = RunsOut

-- one of these ticks, and then an evaluation
abbrev pub tick_eval_of : ℕ → State → (State → Eval) → Eval
tick_eval_of zero s next = RunsOut
tick_eval_of (suc left) s next = next (record s { ticks = s.ticks + 1; left = left })

-- one tick, and then an evaluation
abbrev pub tick_eval : State → (State → Eval) → Eval
tick_eval s next = tick_eval_of s.left s next

-- a trap of this number at this place
abbrev pub trap : ℕ → Place → State → Eval
trap code p s = Traps (record { code = code; at = p }) s

-- a value, or a trap at this place
abbrev pub computed_at : Computed → Place → State → Eval
computed_at (Gives v) p s = Got v s
computed_at (Fails code) p s = trap code p s

-- one of two evaluations
abbrev pub choose_eval : Bool → (State → Eval) → (State → Eval) → State → Eval
choose_eval true a b s = a s
choose_eval false a b s = b s

-- both sides, and then the operator
abbrev pub both_sides : Operator → Base → Place → Eval → (State → Eval) → Eval
both_sides o t p left right = then_eval left (λ v s. then_eval (right s) (λ w s'. computed_at (computed o t v w) p s'))

-- an operator with its sides from left to right; `&&` and `||` leave the right side out where the left one decides
abbrev pub two_sided : Operator → Base → Place → Eval → (State → Eval) → Eval
two_sided Or t p left right = then_eval left (λ v s. choose_eval (is_one v) (λ s'. Got v s') right s)
two_sided And t p left right = then_eval left (λ v s. choose_eval (is_one v) right (λ s'. Got v s') s)
two_sided BitOr t p left right = both_sides BitOr t p left right
two_sided BitXor t p left right = both_sides BitXor t p left right
two_sided BitAnd t p left right = both_sides BitAnd t p left right
two_sided Equal t p left right = both_sides Equal t p left right
two_sided NotEqual t p left right = both_sides NotEqual t p left right
two_sided Less t p left right = both_sides Less t p left right
two_sided LessEqual t p left right = both_sides LessEqual t p left right
two_sided Greater t p left right = both_sides Greater t p left right
two_sided GreaterEqual t p left right = both_sides GreaterEqual t p left right
two_sided ShiftLeft t p left right = both_sides ShiftLeft t p left right
two_sided ShiftRight t p left right = both_sides ShiftRight t p left right
two_sided Add t p left right = both_sides Add t p left right
two_sided Subtract t p left right = both_sides Subtract t p left right
two_sided Multiply t p left right = both_sides Multiply t p left right
two_sided Divide t p left right = both_sides Divide t p left right
two_sided Remainder t p left right = both_sides Remainder t p left right

-- the element at this index, if there is one
abbrev pub element : List Val → ℤ → Option Val
element vs (pos i) = slice_get vs i
element vs (negsuc i) = None

-- so many of these values from a place on, where they are there
abbrev pub range_if : Bool → ℕ → ℕ → List Val → Option Val
range_if true i k vs = Some (Vals (take k (drop i vs)))
range_if false i k vs = None

-- the array of so many elements from this index on, if they are there
abbrev pub range : List Val → ℤ → ℕ → Option Val
range vs (pos i) k = range_if (nat_le (i + k) (length vs)) i k vs
range vs (negsuc i) k = None

-- what was found and what follows, or this trap
abbrev pub found : ℕ → Place → Option Val → State → (Val → State → Eval) → Eval
found code p (Some v) s next = next v s
found code p None s next = trap code p s

-- a call with these arguments: a tick and then the function, or a struct of them
abbrev pub called_by : Library → Callee → List Val → State → Eval
called_by l (Function k) vs s = tick_eval s (l.funs k vs)
called_by l (Struct k) vs s = Got (Vals vs) s

abbrev mutual
  -- the parts from left to right, and then the form itself
  pub ev : Library → Expr → State → Eval
  ev l (Unit p) s = Got UnitVal s
  ev l (Bit b p) s = Got (BitVal b) s
  ev l (BoolLiteral b p) s = Got (BoolVal b) s
  ev l (Int n t p) s = Got (Num (wrap t n)) s
  ev l (Variable name) s = Got (look_up s.store name.id) s
  ev l (Unary' o t _ (more_of-Expr a end_of-Expr) p) s = then_eval (ev l a s) (λ v s'. Got (prefixed o t v) s')
  ev l (Binary' o t _ (more_of-Expr a end_of-Expr) _ (more_of-Expr b end_of-Expr) p) s = two_sided o t p (ev l a s) (ev l b)
  ev l (Index' _ (more_of-Expr a end_of-Expr) _ (more_of-Expr i end_of-Expr) p) s =
      then_eval (ev l a s) (λ v s'. then_eval (ev l i s') (λ w s''. found 2 p (element (parts v) (num_of w)) s'' Got))
  ev l (Slice' _ (more_of-Expr a end_of-Expr) _ (more_of-Expr i end_of-Expr) k p) s =
      then_eval (ev l a s) (λ v s'. then_eval (ev l i s') (λ w s''. found 3 p (range (parts v) (num_of w) k) s'' Got))
  ev l (Part' _ (more_of-Expr a end_of-Expr) name k p) s = then_eval (ev l a s) (λ v s'. Got (part_of k v) s')
  ev l (Call' name callee _ es) s = ev_all l es [] s (called_by l callee)
  ev l (Array' _ es p) s = ev_all l es [] s (λ vs s'. Got (Vals vs) s')
  ev l (Convert' t _ (more_of-Expr a end_of-Expr) p) s = then_eval (ev l a s) (λ v s'. Got (converted t v) s')
  ev l (Complex' t _ (more_of-Expr a end_of-Expr) _ (more_of-Expr b end_of-Expr) p) s =
      then_eval (ev l a s) (λ v s'. then_eval (ev l b s') (λ w s''. Got (Pair (num_of v) (num_of w)) s''))

  -- more expressions behind these values, and then what follows
  pub ev_all : {m : _} → Library → Row_of-Expr m → List Val → State → (List Val → State → Eval) → Eval
  ev_all l end_of-Expr vs s next = next vs s
  ev_all l (more_of-Expr e es) vs s next = then_eval (ev l e s) (λ v s'. ev_all l es (vs ++ v ∷ []) s' next)

-- a list of expressions behind these values, and then what follows
abbrev pub ev_list : Library → List Expr → List Val → State → (List Val → State → Eval) → Eval
ev_list l [] vs s next = next vs s
ev_list l (e ∷ es) vs s next = then_eval (ev l e s) (λ v s'. ev_list l es (vs ++ v ∷ []) s' next)

-- a component that evaluates first, and goes on with the value
abbrev pub with_value : Eval → List Val → Next → Trace
with_value (Got v s) xs next = next v s xs
with_value (Traps t s) xs next = ends (Trapped t) s xs
with_value RunsOut xs next = spent

-- a component that evaluates its arguments first, and goes on with the values
abbrev pub with_values : Library → List Expr → List Val → State → List Val → (List Val → State → List Val → Trace) → Trace
with_values l [] vs s xs next = next vs s xs
with_values l (e ∷ es) vs s xs next = with_value (ev l e s) xs (λ v s' ys. with_values l es (vs ++ v ∷ []) s' ys next)
