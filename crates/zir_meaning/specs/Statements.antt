-- What statements and bodies do, from what is in scope and with the ticks that are left.
use Rattle.std.specs.Prelude.{ℕ, zero, suc, ◌+◌, ℤ, pos, negsuc, ◌+ℤ◌, List, [], ◌∷◌, ◌++◌, Option, Some, None, take, drop, slice_set, slice_index_or, length}
use Rattle.std.specs.Int.{int_wrap}
use mir.Syntax.{w32}
use Rattle.zir_tree.specs.declared.value.Val.{Val, Unit as UnitVal, Num, List as Vals}
use Rattle.zir_tree.specs.declared.expr.Expr.{Expr}
use Rattle.zir_tree.specs.declared.types.TypeExpr.{TypeExpr}
use Rattle.zir_tree.specs.declared.stmt.Access.{Access}
use Rattle.zir_tree.specs.declared.stmt.Access.TheVariants.{Index, Slice, Part}
use Rattle.zir_tree.specs.declared.stmt.Stmt.{Stmt, Var as VarStmt, Assign, Call, Error, If', IfElse', While', For', Row_of-Stmt, end_of-Stmt, more_of-Stmt}
use Rattle.zir_tree.specs.declared.stmt.Return.{Return}
use Rattle.zir_tree.specs.declared.stmt.Body.{Body}
use Rattle.zir_meaning.specs.Values.{parts, is_one, num_of, blank, type_of}
use Rattle.zir_meaning.specs.Operators.{part_of, with_part}
use Rattle.zir_meaning.specs.Store.{look_up, put_in, bound, depth, narrowed}
use Rattle.zir_meaning.specs.Trace.{State}
use Rattle.zir_meaning.specs.Evaluation.{Eval, Got, Traps, RunsOut, Library, then_eval, tick_eval, trap, choose_eval, element, range, found, ev, ev_list}

-- a step of a path into a value: an element, so many elements from one on, or a part
pub data Step : Type 0 where
  ToElement : (i : ℕ) → Step
  ToRange : (i : ℕ) (k : ℕ) → Step
  ToPart : (k : ℕ) → Step

-- an index that was found inside an array
abbrev pub position : ℤ → ℕ
position (pos i) = i
position (negsuc i) = 0

-- these values with others from a place on
abbrev pub overwritten : ℕ → List Val → List Val → List Val
overwritten i new vs = take i vs ++ new ++ drop (i + length new) vs

-- a value with another value at a path into it
abbrev pub replaced : List Step → Val → Val → Val
replaced [] new old = new
replaced (ToElement i ∷ path) new old = Vals (slice_set (parts old) i (replaced path new (slice_index_or (parts old) i UnitVal)))
replaced (ToRange i k ∷ path) new old = Vals (overwritten i (parts (replaced path new (Vals (take k (drop i (parts old)))))) (parts old))
replaced (ToPart k ∷ path) new old = with_part k (replaced path new (part_of k old)) old

-- the indexes of a path into a value, each tested before the next one is evaluated, and what follows with them
abbrev pub along : Library → List Access → Val → State → (List Step → State → Eval) → Eval
along l [] old s next = next [] s
along l (Index e p ∷ path) old s next =
    then_eval (ev l e s) (λ w s'. found 2 p (element (parts old) (num_of w)) s'
    (λ v s''. along l path v s'' (λ steps t. next (ToElement (position (num_of w)) ∷ steps) t)))
along l (Slice e k p ∷ path) old s next =
    then_eval (ev l e s) (λ w s'. found 3 p (range (parts old) (num_of w) k) s'
    (λ v s''. along l path v s'' (λ steps t. next (ToRange (position (num_of w)) k ∷ steps) t)))
along l (Part name k p ∷ path) old s next = along l path (part_of k old) s (λ steps t. next (ToPart k ∷ steps) t)

-- a name comes into scope with a value
abbrev pub bind : ℕ → Val → State → State
bind id v s = record s { store = bound id v s.store }

-- a variable gets another value
abbrev pub assign : ℕ → Val → State → State
assign id v s = record s { store = put_in id v s.store }

-- only the first so many names stay in scope
abbrev pub leave : ℕ → State → State
leave n s = record s { store = narrowed n s.store }

-- what came into scope since there were so many names leaves it
abbrev pub left_by : ℕ → Eval → Eval
left_by n (Got v s) = Got v (leave n s)
left_by n (Traps t s) = Traps t (leave n s)
left_by n RunsOut = RunsOut

-- a scope, whose names leave it at its end
abbrev pub scope : (State → Eval) → State → Eval
scope body s = left_by (depth s.store) (body s)

-- statements that end with unit
abbrev pub done : State → Eval
done s = Got UnitVal s

-- a test, and while it holds a tick and a turn
abbrev pub while_eval : ℕ → (State → Eval) → (State → Eval) → State → Eval
while_eval zero test body s = then_eval (test s) (λ v s'. choose_eval (is_one v) (λ s''. RunsOut) done s')
while_eval (suc more) test body s =
    then_eval (test s) (λ v s'. choose_eval (is_one v) (λ s1. tick_eval s1 (λ s2. then_eval (body s2) (λ w s3. while_eval more test body s3))) done s')

-- so many turns, none below 1
abbrev pub turns_of : ℤ → ℕ
turns_of (pos n) = n
turns_of (negsuc n) = 0

-- the next index of a loop, which wraps
abbrev pub next_index : ℤ → ℤ
next_index i = int_wrap w32 (i +ℤ pos 1)

-- so many turns, each after a tick and with the next index
abbrev pub counted_eval : ℕ → ℕ → ℤ → (State → Eval) → State → Eval
counted_eval zero id i body s = done s
counted_eval (suc more) id i body s =
    tick_eval s (λ s1. then_eval (scope (λ s2. body (bind id (Num i) s2)) s1) (λ w s3. counted_eval more id (next_index i) body s3))

-- the value of a variable's declaration: its initial value, or the blank value of its type
abbrev pub initial_of : Library → TypeExpr → Option Expr → State → Eval
initial_of l t None s = Got (blank l.blanks (type_of t)) s
initial_of l t (Some e) s = ev l e s

abbrev mutual
  -- what a statement does
  pub does : Library → Stmt → State → Eval
  does l (VarStmt v) s = then_eval (initial_of l v.ty v.initial s) (λ w s'. Got UnitVal (bind v.name.id w s'))
  does l (Assign name path e) s =
      then_eval (ev l e s) (λ v s'. along l path (look_up s'.store name.id) s'
      (λ steps s''. Got UnitVal (assign name.id (replaced steps v (look_up s''.store name.id)) s'')))
  does l (Call name k es) s = ev_list l es [] s (λ vs s'. tick_eval s' (l.funs k vs))
  does l (Error text p) s = trap 5 p s
  does l (If' e _ a p) s = then_eval (ev l e s) (λ v s'. choose_eval (is_one v) (scope (does_row l a)) done s')
  does l (IfElse' e _ a _ b p) s = then_eval (ev l e s) (λ v s'. choose_eval (is_one v) (scope (does_row l a)) (scope (does_row l b)) s')
  does l (While' e _ a p) s = while_eval s.left (ev l e) (scope (does_row l a)) s
  does l (For' name a n _ b p) s =
      then_eval (ev l a s) (λ v s'. then_eval (ev l n s') (λ w s''. counted_eval (turns_of (num_of w)) name.id (num_of v) (does_row l b) s''))

  -- statements one after the other
  pub does_row : {m : _} → Library → Row_of-Stmt m → State → Eval
  does_row l end_of-Stmt s = Got UnitVal s
  does_row l (more_of-Stmt a row) s = then_eval (does l a s) (λ v s'. does_row l row s')

-- the same for a list of statements
abbrev pub does_all : Library → List Stmt → State → Eval
does_all l [] s = Got UnitVal s
does_all l (a ∷ more) s = then_eval (does l a s) (λ v s'. does_all l more s')

-- the value that a body returns, and unit where it returns none
abbrev pub result_of : Library → Option Return → State → Eval
result_of l None s = Got UnitVal s
result_of l (Some r) s = ev l r.value s

-- the statements of a body, and then its value; its names leave the scope
abbrev pub run_body : Library → Body → State → Eval
run_body l body s = scope (λ s'. then_eval (does_all l body.statements s') (λ v s''. result_of l body.result s'')) s
