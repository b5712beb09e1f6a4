-- How runs of code end, against what the code means.
use Rattle.std.specs.Prelude.{ℕ, ◌≤◌, List, Bool, true, false, ◌&&◌, Some, None, Ok, Err, ◌≡◌}
use Rattle.std.proofs.Common.{ap, sym, subst, ◌∙◌, arith}
use Rattle.zir_tree.specs.declared.types.Ty.{Ty}
use Rattle.zir_tree.specs.declared.ends.Trap.{Trap}
use Rattle.zir_tree.specs.declared.expr.Expr.{Expr}
use Rattle.zir_tree.specs.declared.stmt.Stmt.{Stmt}
use Rattle.zir_meaning.specs.Trace.{State}
use Rattle.zir_meaning.specs.Evaluation.{Eval, Got, Traps, RunsOut, Library, ev}
use Rattle.zir_meaning.specs.Statements.{does_all}
use Rattle.zir_expr.specs.declared.frame.Spot.{Spot}
use Rattle.zir_expr.specs.declared.steps.Step.{Step}
use Rattle.zir_expr.specs.Memory.{Ran, Done, Trapped, Out, place_of}
use Rattle.zir_expr.specs.Memory.Frames.{Memory}
use Rattle.zir_expr.specs.Running.{go_all}
use Rattle.zir_code.specs.Scopes.{Scope}
use Rattle.zir_code.specs.Coding.{stands, code_of}
use Rattle.zir_code.specs.Peaks.{peak_of, is_coded, small}
use Rattle.zir_code.specs.Needs.{all_peak}
use Rattle.zir_code.specs.Typing.{Has}
use Rattle.zir_code.specs.Holding.{Holds, Agrees}
use Rattle.zir_code.specs.Fine.{AgreesStmt}
use Rattle.zir_code.specs.Bodies.{all_code, scope_after_all, free_after_all, FineAll}
use Rattle.zir_code.specs.Calls.{Calls}
use Rattle.zir_code.proofs.Kept.{kept_holds}
use Rattle.zir_compile.specs.declared.made.Made.{Made}
use Rattle.zir_compile.specs.declared.made.Written.{Written}
use Rattle.zir_compile.specs.Made.{made_if, code_if, written_if, written, are_written}
use Rattle.zir_eval.specs.declared.evaluation.Stop.TheVariants.{Trap as ByTrap, Spent}
use Rattle.zir_eval.specs.Ends.{ValuedAs, StoppedAs, Evaluates, CameTo, HaltedAs, Executes}
use Rattle.zir_eval.proofs.Laws.{expressions_agree, statements_agree}

-- what code was made
made_when : (b : Bool) (g : Scope) (e : Expr) (d : ℕ) (made : Made) → Some made ≡ made_if b g e d →
    made ≡ record { steps = code_of g e d; at = stands g e d; peak = peak_of g e d }
made_when true g e d made q = cc
made_when false g e d made q = absurd (nothing q) where
  nothing : Some made ≡ None → ⊥
  nothing e = cc

made_is : (g : Scope) (e : Expr) (d : ℕ) (made : Made) → Some made ≡ code_if g e d →
    made ≡ record { steps = code_of g e d; at = stands g e d; peak = peak_of g e d }
made_is g e d made q = made_when (small (peak_of g e d) && is_coded g e d) g e d made q

written_when : (b : Bool) (g : Scope) (ss : List Stmt) (d : ℕ) (made : Written) → Some made ≡ written_if b g ss d →
    made ≡ record { steps = all_code g d ss; free = free_after_all g d ss; peak = all_peak g d ss }
written_when true g ss d made q = cc
written_when false g ss d made q = absurd (nothing q) where
  nothing : Some made ≡ None → ⊥
  nothing e = cc

written_is : (g : Scope) (ss : List Stmt) (d : ℕ) (made : Written) → Some made ≡ written g ss d →
    made ≡ record { steps = all_code g d ss; free = free_after_all g d ss; peak = all_peak g d ss }
written_is g ss d made q = written_when (are_written g ss d) g ss d made q

-- the code of an expression, as the run that was seen
seen : (top base d n : ℕ) (l : Library) (g : Scope) (t : Ty) (e : Expr) (made : Made) (m : Memory) (s : State) (q : Ran) →
    Calls top l g.structs g.tops g.funs → Has g n t e → peak_of g e d ≤ n → Holds top base d n g m s → Some made ≡ code_if g e d →
    go_all made.steps base m ≡ q → Agrees top base d g t made.at m s (ev l e s) q
seen top base d n l g t e made m s q calls has room holds is ran =
    let same = made_is g e d made is in
    let steps : made.steps ≡ code_of g e d = ap (λ (x : Made). x.steps) same in
    let at : made.at ≡ stands g e d = ap (λ (x : Made). x.at) same in
    let a : Agrees top base d g t (stands g e d) m s (ev l e s) (go_all (code_of g e d) base m) =
    expressions_agree top base d n l g calls t e m s has room holds in
    let b : Agrees top base d g t made.at m s (ev l e s) (go_all (code_of g e d) base m) =
    subst (λ (x : Spot). Agrees top base d g t x m s (ev l e s) (go_all (code_of g e d) base m)) (sym at) a in
    subst (λ (x : Ran). Agrees top base d g t made.at m s (ev l e s) x) (ap (λ (ss : List Step). go_all ss base m) (sym steps) ∙ ran) b

valued : (top base d n : ℕ) (g : Scope) (t : Ty) (x : Spot) (m m' : Memory) (s : State) (r : Eval) → Holds top base d n g m s →
    Agrees top base d g t x m s r (Done m') → ValuedAs top base d n g t m s r (place_of base x) m'
valued top base d n g t x m m' s (Got v s') h a =
    (a.0, record { kept = a.1; holds = kept_holds top base d d n g m m' s s' (omega arith) h a.1 })
valued top base d n g t x m m' s (Traps u s') h a = absurd a
valued top base d n g t x m m' s RunsOut h a = absurd a

trapped_as : (top base d n : ℕ) (g : Scope) (t : Ty) (x : Spot) (w : Trap) (m m' : Memory) (s : State) (r : Eval) → Holds top base d n g m s →
    Agrees top base d g t x m s r (Trapped w m') → StoppedAs top base d n g m s r (ByTrap w) m'
trapped_as top base d n g t x w m m' s (Got v s') h a = absurd a
trapped_as top base d n g t x w m m' s (Traps u s') h a =
    (a.0, record { kept = a.1; holds = kept_holds top base d d n g m m' s s' (omega arith) h a.1 })
trapped_as top base d n g t x w m m' s RunsOut h a = absurd a

spent_as : (top base d n : ℕ) (g : Scope) (t : Ty) (x : Spot) (m m' : Memory) (s : State) (r : Eval) → Agrees top base d g t x m s r Out →
    StoppedAs top base d n g m s r Spent m'
spent_as top base d n g t x m m' s (Got v s') a = absurd a
spent_as top base d n g t x m m' s (Traps u s') a = absurd a
spent_as top base d n g t x m m' s RunsOut a = tt

-- a run that came to its end, that stopped by a trap, and that spent its budget
pub evaluates_done : (made : Made) (base : ℕ) (m m' : Memory) → go_all made.steps base m ≡ Done m' →
    Evaluates made base m (Ok (place_of base made.at)) m'
evaluates_done made base m m' ran = λ top d n l g t e s calls has room holds is.
    valued top base d n g t made.at m m' s (ev l e s) holds (seen top base d n l g t e made m s (Done m') calls has room holds is ran)

pub evaluates_trapped : (made : Made) (base : ℕ) (m m' : Memory) (w : Trap) → go_all made.steps base m ≡ Trapped w m' →
    Evaluates made base m (Err (ByTrap w)) m'
evaluates_trapped made base m m' w ran = λ top d n l g t e s calls has room holds is.
    trapped_as top base d n g t made.at w m m' s (ev l e s) holds (seen top base d n l g t e made m s (Trapped w m') calls has room holds is ran)

pub evaluates_spent : (made : Made) (base : ℕ) (m m' : Memory) → go_all made.steps base m ≡ Out → Evaluates made base m (Err Spent) m'
evaluates_spent made base m m' ran = λ top d n l g t e s calls has room holds is.
    spent_as top base d n g t made.at m m' s (ev l e s) (seen top base d n l g t e made m s Out calls has room holds is ran)

-- the same of statements
went_through : (top base d n : ℕ) (l : Library) (g : Scope) (ss : List Stmt) (made : Written) (m : Memory) (s : State) (q : Ran) →
    Calls top l g.structs g.tops g.funs → FineAll g d n ss → Holds top base d n g m s → Some made ≡ written g ss d → go_all made.steps base m ≡ q →
    AgreesStmt top base (free_after_all g d ss) n (scope_after_all g d ss) m (does_all l ss s) q
went_through top base d n l g ss made m s q calls fine holds is ran =
    let steps : made.steps ≡ all_code g d ss = ap (λ (x : Written). x.steps) (written_is g ss d made is) in
    subst (λ (x : Ran). AgreesStmt top base (free_after_all g d ss) n (scope_after_all g d ss) m (does_all l ss s) x)
    (ap (λ (ss : List Step). go_all ss base m) (sym steps) ∙ ran) (statements_agree top base d n l g calls ss m s fine holds)

came_to : (top base d n : ℕ) (g : Scope) (m m' : Memory) (r : Eval) → AgreesStmt top base d n g m r (Done m') → CameTo top base d n g m r m'
came_to top base d n g m m' (Got v s') a = a
came_to top base d n g m m' (Traps u s') a = absurd a
came_to top base d n g m m' RunsOut a = absurd a

halted_by : (top base d n : ℕ) (g : Scope) (w : Trap) (m m' : Memory) (r : Eval) → AgreesStmt top base d n g m r (Trapped w m') →
    HaltedAs top base g m r (ByTrap w) m'
halted_by top base d n g w m m' (Got v s') a = absurd a
halted_by top base d n g w m m' (Traps u s') a = a
halted_by top base d n g w m m' RunsOut a = absurd a

halted_spent : (top base d n : ℕ) (g : Scope) (m m' : Memory) (r : Eval) → AgreesStmt top base d n g m r Out → HaltedAs top base g m r Spent m'
halted_spent top base d n g m m' (Got v s') a = absurd a
halted_spent top base d n g m m' (Traps u s') a = absurd a
halted_spent top base d n g m m' RunsOut a = tt

pub executes_done : (made : Written) (base : ℕ) (m m' : Memory) → go_all made.steps base m ≡ Done m' → Executes made base m (Ok tt) m'
executes_done made base m m' ran = λ top d n l g ss s calls fine holds is.
    came_to top base (free_after_all g d ss) n (scope_after_all g d ss) m m' (does_all l ss s)
    (went_through top base d n l g ss made m s (Done m') calls fine holds is ran)

pub executes_trapped : (made : Written) (base : ℕ) (m m' : Memory) (w : Trap) → go_all made.steps base m ≡ Trapped w m' →
    Executes made base m (Err (ByTrap w)) m'
executes_trapped made base m m' w ran = λ top d n l g ss s calls fine holds is.
    halted_by top base (free_after_all g d ss) n (scope_after_all g d ss) w m m' (does_all l ss s)
    (went_through top base d n l g ss made m s (Trapped w m') calls fine holds is ran)

pub executes_spent : (made : Written) (base : ℕ) (m m' : Memory) → go_all made.steps base m ≡ Out → Executes made base m (Err Spent) m'
executes_spent made base m m' ran = λ top d n l g ss s calls fine holds is.
    halted_spent top base (free_after_all g d ss) n (scope_after_all g d ss) m m' (does_all l ss s)
    (went_through top base d n l g ss made m s Out calls fine holds is ran)
