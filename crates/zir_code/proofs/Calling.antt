-- The code of a call does what it means.
use Rattle.std.specs.Prelude.{ℕ, ◌+◌, ◌≤◌, max, List, [], ◌∷◌, ◌++◌, Some, ◌≡◌}
use Rattle.std.proofs.Common.{ap, sym, subst, arith, append_assoc, append-nil}
use Rattle.zir_tree.specs.declared.value.Val.{Val}
use Rattle.zir_tree.specs.declared.types.Ty.{Ty}
use Rattle.zir_tree.specs.declared.expr.Expr.{Expr}
use Rattle.zir_meaning.specs.Trace.{State}
use Rattle.zir_meaning.specs.Evaluation.{Eval, Library, then_eval, tick_eval, ev, ev_list}
use Rattle.zir_cells.specs.Layout.{layout_of}
use Rattle.zir_expr.specs.declared.frame.Spot.TheVariants.{Local}
use Rattle.zir_expr.specs.declared.steps.Step.{Call}
use Rattle.zir_expr.specs.Memory.{Ran, then_run, place_of}
use Rattle.zir_expr.specs.Memory.Frames.{Memory}
use Rattle.zir_expr.specs.Running.{go_all}
use Rattle.zir_code.specs.declared.scope.Signature.{Signature}
use Rattle.zir_code.specs.Scopes.{Scope}
use Rattle.zir_code.specs.Types.{cells_for, size_in}
use Rattle.zir_code.specs.Coding.{stands, code_of, settling, call_code, code_of_all}
use Rattle.zir_code.specs.Peaks.{peak_of_all}
use Rattle.zir_code.specs.Typing.{AllFit}
use Rattle.zir_code.specs.Holding.{StandsAt, Holds, Kept, Ends, Agrees}
use Rattle.zir_code.specs.Calls.{CellsAre, Calls}
use Rattle.zir_code.specs.Laws.{ExpressionsAgree}
use Rattle.zir_code.proofs.Agreeing.{go_all-append}
use Rattle.zir_code.proofs.Kept.{holds_kept}
use Rattle.zir_code.proofs.TypesFound.{types_found}
use Rattle.zir_code.proofs.Rows.{width_of_all, width_more}
use Rattle.zir_code.proofs.Calls.{calls_agree}
use Rattle.zir_code.proofs.Reading.{argument_agrees}

-- the code of a list of arguments puts their values into cells of their own, behind those of others, and what follows agrees
pub arguments_agree : (es : List Expr) (P : Val → State → Memory → Type 0) (Q : State → Memory → Type 0) (top base d n : ℕ) (l : Library) (g : Scope)
    (p : ℕ) (before ts : List Ty) (vs : List Val) (m m1 : Memory) (s s1 : State)
    (next : List Val → State → Eval) (next' : Memory → Ran) → ExpressionsAgree → Calls top l g.structs g.tops g.funs →
    p ≡ d + width_of_all g.structs before → peak_of_all g es p ≤ n → AllFit g n ts es →
    Holds top base d n g m s → Kept top base d g m m1 s s1 → CellsAre g.structs m1.cells (base + d) before vs →
    ((s' : State) (m' : Memory) → Kept top base d g m m' s s' → Q s' m') →
    ((vs' : List Val) (s' : State) (m' : Memory) → Kept top base d g m m' s s' → CellsAre g.structs m'.cells (base + d) (before ++ ts) vs' →
    Ends P Q (next vs' s') (next' m')) →
    Ends P Q (ev_list l es vs s1 next) (then_run (go_all (code_of_all g es p) base m1) next')
arguments_agree [] P Q top base d n l g p before [] vs m m1 s s1 next next' agree calls e r c h k a stop f =
    f vs s1 m1 k (subst (λ ts. CellsAre g.structs m1.cells (base + d) ts vs) (sym (append-nil before)) a)
arguments_agree [] P Q top base d n l g p before (u ∷ ts) vs m m1 s s1 next next' agree calls e r c h k a stop f = absurd c
arguments_agree (x ∷ es) P Q top base d n l g p before [] vs m m1 s s1 next next' agree calls e r c h k a stop f = absurd c
arguments_agree (x ∷ es) P Q top base d n l g p before (u ∷ ts) vs m m1 s s1 next next' agree calls e r c h k a stop f =
    let size : size_in g x ≡ layout_of g.structs u = ap (layout_of g.structs) (types_found g n u x c.0) in
    let more = width_more g.structs before u in
    let p' : ℕ = p + layout_of g.structs u in
    let peaks : peak_of_all g es p' ≤ n = subst (λ k. peak_of_all g es (p + k) ≤ n) size (omega arith) in
    subst (λ k. Ends P Q (then_eval (ev l x s1) (λ v s2. ev_list l es (vs ++ v ∷ []) s2 next))
    (then_run (go_all (code_of g x p ++ (settling (stands g x p) p k ++ code_of_all g es (p + k))) base m1) next')) (sym size)
    (argument_agrees P Q top base d n l g u x p before vs m m1 s s1 (code_of_all g es p') (λ v s2. ev_list l es (vs ++ v ∷ []) s2 next) next' e c.0
    (omega arith) h k a stop (λ h1. agree top base p n l g calls u x m1 s1 c.0 (omega arith) h1)
    (λ v s2 m2 k2 a2. arguments_agree es P Q top base d n l g p' (before ++ u ∷ []) ts (vs ++ v ∷ []) m m2 s s2 next next' agree calls
    (omega arith) peaks c.1 h k2 a2
    stop (λ vs' s' m' kk cc. f vs' s' m' kk (subst (λ us. CellsAre g.structs m'.cells (base + d) us vs') (append_assoc before (u ∷ []) ts) cc))))

-- the code of a call
pub call_agrees : (top base d n : ℕ) (l : Library) (g : Scope) (k : ℕ) (es : List Expr) (m : Memory) (s : State) (f : Signature) → ExpressionsAgree →
    Calls top l g.structs g.tops g.funs → g.funs k ≡ Some f → AllFit g n f.params es →
    max (peak_of_all g es d) (d + max (cells_for g f.result) f.needs) ≤ n → Holds top base d n g m s →
    Agrees top base d g f.result (Local d) m s (ev_list l es [] s (λ vs s'. tick_eval s' (l.funs k vs)))
    (go_all (code_of_all g es d ++ call_code (g.funs k) d) base m)
call_agrees top base d n l g k es m s f agree calls q c r h =
    let meant : Eval = ev_list l es [] s (λ vs s'. tick_eval s' (l.funs k vs)) in
    subst (λ o. Agrees top base d g f.result (Local d) m s meant (go_all (code_of_all g es d ++ call_code o d) base m)) (sym q)
    (subst (λ z. Agrees top base d g f.result (Local d) m s meant z) (sym (go_all-append (code_of_all g es d) (Call f.code d ∷ []) base m))
    (arguments_agree es (λ v s' m'. StandsAt g.structs f.result v m' (place_of base (Local d)) × Kept top base d g m m' s s')
    (λ s' m'. Kept top base d g m m' s s')
    top base d n l g d [] f.params [] m m s s (λ vs s'. tick_eval s' (l.funs k vs)) (go_all (Call f.code d ∷ []) base) agree calls (omega arith)
    (omega arith) c h (holds_kept top base d d n g m s h) tt
    (λ s' m' kept. kept)
    (λ vs s1 m1 kept args. calls_agree top base d n l g k f vs m m1 s s1 calls q (omega arith) h kept args)))
