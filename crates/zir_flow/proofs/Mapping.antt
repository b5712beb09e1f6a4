-- Components that give the function of each element, or the elements where a function holds.
use Rattle.std.proofs.Common.{◌≡◌, ℕ, zero, suc, ◌+◌, ◌-◌, ◌%◌, ◌^◌, ◌<◌, ◌≤◌, max, Bool, true, false, List, [], ◌∷◌, ◌++◌, None, length, slice_get, ap, sym, subst, refl, ◌∙◌, arith, inr}
use Rattle.zir_tree.specs.declared.value.Val.{Val, Unit as UnitVal, Bool as BoolVal}
use Rattle.zir_tree.specs.declared.place.Place.{Place}
use Rattle.zir_tree.specs.declared.ident.Ident.{Ident}
use Rattle.zir_tree.specs.declared.types.Base.TheVariants.{Bool as BoolTy}
use Rattle.zir_tree.specs.declared.types.Ty.{Ty}
use Rattle.zir_tree.specs.declared.ends.End.TheVariants.{Value}
use Rattle.zir_tree.specs.declared.expr.Callee.TheVariants.{Function}
use Rattle.zir_tree.specs.declared.comp.Comp.{Map, Filter}
use Rattle.zir_meaning.specs.Values.{is_one}
use Rattle.zir_meaning.specs.Trace.{State}
use Rattle.zir_meaning.specs.Evaluation.{Eval, Got, Traps, RunsOut, called_by}
use Rattle.zir_meaning.specs.Instances.{around}
use Rattle.zir_meaning.specs.Component.{always}
use Rattle.zir_cells.specs.Cells.{cells_of}
use Rattle.zir_laws.specs.Process.{Proc, Ends, NextProc, spent_proc, then_proc, tick_proc_of, with_proc, take_proc, outputs_proc, returns_proc, choose_proc, turns_proc, mapped_proc, filtered_proc}
use Rattle.zir_laws.proofs.Evaluating.{EvalKeeps}
use Rattle.zir_laws.proofs.Expressions.{evaluates-called}
use Rattle.zir_laws.proofs.Functions.{evaluates-library}
use Rattle.zir_shapes.specs.Shapes.{Shaped}
use Rattle.zir_shapes.specs.Offsets.{plain_type as plain}
use Rattle.zir_shapes.proofs.Fitting.{sizes-fit}
use Rattle.zir_expr.specs.Answers.{is_set}
use Rattle.zir_expr.specs.declared.frame.Spot.TheVariants.{Local}
use Rattle.zir_expr.specs.declared.steps.Step.{Step, Call}
use Rattle.zir_expr.specs.Memory.{Done, cell_at, moved, after, from_base, then_run}
use Rattle.zir_expr.specs.Memory.Frames.{Memory}
use Rattle.zir_expr.specs.Running.{go_all}
use Rattle.zir_code.specs.declared.scope.Signature.{Signature}
use Rattle.zir_code.specs.Scopes.{Scope}
use Rattle.zir_code.specs.Types.{result_type, cells_for}
use Rattle.zir_code.specs.Coding.{moving, call_code}
use Rattle.zir_code.specs.Holding.{At, Holds, Spares, Kept, StandsAt, Agrees}
use Rattle.zir_code.specs.Calls.{CellsAre}
use Rattle.zir_code.proofs.Agreeing.{go_all-append, OnGot, ends_with, ends_less}
use Rattle.zir_code.proofs.Calls.{calls_agree}
use Rattle.zir_code.proofs.Cells.{at_same}
use Rattle.zir_code.proofs.Kept.{low_place, kept_changed, holds_kept}
use Rattle.zir_code.proofs.Moves.{Moved, moves, moved_at, moving_goes}
use Rattle.zir_code.proofs.Operating.{is_set_cell}
use Rattle.zir_flow.specs.declared.instruction.Instruction.{Instruction}
use Rattle.zir_flow.specs.declared.instruction.Instruction.TheVariants.{Run, Tick, Take, Give, Again, Branch}
use Rattle.zir_flow.specs.Threads.{Thread, Goes, onward, backward, next_with, either_move, goes_if}
use Rattle.zir_flow.specs.Stages.{Stage, Alone, Room}
use Rattle.zir_flow.specs.Fitting.{StepFits}
use Rattle.zir_flow.specs.Flowing.{map_code}
use Rattle.zir_flow.specs.Playing.{Watch}
use Rattle.zir_flow.specs.Program.{CodeAt}
use Rattle.zir_flow.proofs.Playing.{Arriving, Arrives, arrives_on, arrives_then}
use Rattle.zir_flow.proofs.Standing.{Ground, Stands, watched, Arrived, Solid, ComponentArrives}
use Rattle.zir_flow.proofs.Straight.{code_here, code_next, code_back, code_ends, next_place, onward_place, backward_place, goes_to, spares_none, spares_then, spares_less, spares_kept, place_fits, stands_moved, stands_more, stands_fewer, straight_arrives, ticked_state, ticked_thread, tick_arrives}
use Rattle.zir_flow.proofs.Giving.{output_arrives}
use Rattle.zir_flow.proofs.Taking.{TakenAt, take_on}

-- TURNS

-- where a turn that began in a state has ended: at the place where all begin, with fewer ticks left
record Round (a : Ground) (g : Scope) (d place : ℕ) (m : Memory) (room : Room) (s0 : State) (v : Val) (s : State) (st : Stage) : Type 0 where
  pub th : Thread
  pub alone : st ≡ Alone th room
  pub stands : Stands a g d place th room s
  pub spared : Spares a.top a.base d g m th.memory
  pub fewer : s.left ≤ s0.left

-- turns of a body without an end, where there are no fewer than the ticks left
endless : (k : ℕ) (A : Arriving) (w : Watch) (a : Ground) (g : Scope) (d place : ℕ) (rest : List Instruction) (m : Memory) (room : Room) (body : State → Proc)
    (th : Thread) (s : State) → length a.code < 2 ^ 32 → CodeAt a.code place (Tick ∷ rest) →
    ((th : Thread) (s : State) → Stands a g d (place + 1) th room s → Spares a.top a.base d g m th.memory →
    Arrives (Round a g d place m room s) w a.code (body s) (Alone th room)) →
    s.left ≤ k → Stands a g d place th room s → Spares a.top a.base d g m th.memory → Arrives A w a.code (turns_proc k always body s) (Alone th room)
endless zero A w a g d place rest m room body th s lt c f le h p =
    let none : s.left ≡ 0 = omega arith in
    subst (λ q. Arrives A w a.code q (Alone th room)) (ap (λ k. tick_proc_of k s (λ s'. spent_proc)) none)
    (tick_arrives A w a g d place rest th room s (λ s'. spent_proc) lt c h (λ l e k. absurd (omega arith)))
endless (suc k) A w a g d place rest m room body th s lt c f le h p =
    let next : State → Proc = λ s'. then_proc (body s') (λ v s''. turns_proc k always body s'') in
    tick_arrives A w a g d place rest th room s next lt c h
    (λ l e h1.
    let s1 : State = ticked_state s l in
    arrives_then (Round a g d place m room s1) A w a.code (body s1) (Alone (ticked_thread th) room) (λ v s''. turns_proc k always body s'')
    (f (ticked_thread th) s1 h1 p)
    (λ v s2 st r. subst (Arrives A w a.code (turns_proc k always body s2)) (sym r.alone)
    (let less = r.fewer in endless k A w a g d place rest m room body r.th s2 lt c f (omega arith) r.stands r.spared)))

-- A FUNCTION OF A VALUE

later_on : (s : State) (r : Eval) → EvalKeeps s r → OnGot (λ v s'. s'.left ≤ s.left) r
later_on s (Got v s') h = omega (arith, h.1, h.2)
later_on s (Traps t s') h = tt
later_on s RunsOut h = tt

-- the code of a call of a function with a value that stands in the first free cells
called_agrees : (a : Ground) (g : Scope) (d k : ℕ) (from to : Ty) (x : Val) (m m1 : Memory) (s : State) → Solid a g → StepFits g d a.n k from to →
    Holds a.top a.base d a.n g m s → Kept a.top a.base d g m m1 s s → Shaped g.structs from x → At m1.cells (a.base + d) (cells_of x) →
    Agrees a.top a.base d g to (Local d) m s (called_by (around a.core).library (Function k) (x ∷ []) s) (go_all (call_code (g.funs k) d) a.base m1)
called_agrees a g d k from to x m m1 s solid f h kept shape at =
    let sig : Signature = f.0 in
    let params : CellsAre g.structs m1.cells (a.base + d) sig.params (x ∷ []) =
    subst (λ ts. CellsAre g.structs m1.cells (a.base + d) ts (x ∷ [])) (sym f.2) (shape, at, tt) in
    let needs : d + max (cells_for g sig.result) sig.needs ≤ a.n =
    subst (λ t. d + max (cells_for g t) sig.needs ≤ a.n) (sym f.3) (let fit : d + max (cells_for g from) (max (cells_for g to) sig.needs) ≤ a.n = f.4 in omega arith) in
    subst (λ o. Agrees a.top a.base d g to (Local d) m s (called_by (around a.core).library (Function k) (x ∷ []) s) (go_all (call_code o d) a.base m1)) (sym f.1)
    (subst (λ t. Agrees a.top a.base d g t (Local d) m s (called_by (around a.core).library (Function k) (x ∷ []) s) (go_all (Call sig.code d ∷ []) a.base m1)) f.3
    (calls_agree a.top a.base d a.n (around a.core).library g k sig (x ∷ []) m m1 s s solid.functions f.1 needs h kept params))

-- a call of a function, and what follows
called_arrives : (A : Arriving) (w : Watch) (a : Ground) (g : Scope) (d place k : ℕ) (to : Ty) (x : Val) (steps : List Step) (rest : List Instruction)
    (th : Thread) (room : Room) (s : State) (next : NextProc) → Solid a g → CodeAt a.code place (Run steps ∷ rest) → Stands a g d place th room s →
    Agrees a.top a.base d g to (Local d) th.memory s (called_by (around a.core).library (Function k) (x ∷ []) s) (go_all steps a.base th.memory) →
    ((v : Val) (s' : State) (m : Memory) → s'.left ≤ s.left → StandsAt g.structs to v m (from_base a.base d) → Kept a.top a.base d g th.memory m s s' →
    Stands a g d (place + 1) (next_with th m) room s' → Arrives A w a.code (next v s') (Alone (next_with th m) room)) →
    Arrives A w a.code (with_proc (called_by (around a.core).library (Function k) (x ∷ []) s) next) (Alone th room)
called_arrives A w a g d place k to x steps rest th room s next solid c h agrees f =
    let r : Eval = called_by (around a.core).library (Function k) (x ∷ []) s in
    let keeps : EvalKeeps s r =
    (evaluates-called (around a.core).library (evaluates-library a.core.structs a.core.functions) (Function k) (x ∷ [])).keeps s in
    let kept : State → Memory → Type 0 = λ s' m. Kept a.top a.base d g th.memory m s s' in
    straight_arrives (λ v s' m. (s'.left ≤ s.left) × StandsAt g.structs to v m (from_base a.base d)) A w a g d place steps rest th room s r next solid.small c h
    keeps
    (ends_less (λ v s' m. (s'.left ≤ s.left) × (StandsAt g.structs to v m (from_base a.base d) × kept s' m)) kept
    (λ v s' m. ((s'.left ≤ s.left) × StandsAt g.structs to v m (from_base a.base d)) × kept s' m) kept r (go_all steps a.base th.memory)
    (λ v s' m z. ((z.0, z.1.0), z.1.1)) (λ s' m z. z)
    (ends_with (λ v s' m. StandsAt g.structs to v m (from_base a.base d) × kept s' m) kept (λ v s'. s'.left ≤ s.left) r (go_all steps a.base th.memory)
    (later_on s r keeps) agrees))
    (λ v s' m z k h'. f v s' m z.0 z.1 k h')

-- a turn that ends with a jump back to where it began
round_ends : (a : Ground) (g : Scope) (d place here k : ℕ) (rest : List Instruction) (m : Memory) (room : Room) (s0 : State) (w : Watch) (v : Val) (th : Thread)
    (s : State) → length a.code < 2 ^ 32 → CodeAt a.code here (Again k ∷ rest) → place + k ≡ here → Stands a g d here th room s →
    Spares a.top a.base d g m th.memory → s.left ≤ s0.left →
    Arrives (Round a g d place m room s0) w a.code (Ends (Value v) s) (Alone th room)
round_ends a g d place here k rest m room s0 w v th s lt c e h p less =
    let code : here + suc (length rest) ≤ length a.code = code_ends a.code here (Again k ∷ rest) c in (
      Alone (backward k th) room,
      goes_to a.code (Again k) th (backward k th) room (ap (slice_get a.code) h.place_is ∙ code_here a.code here (Again k) rest c) refl,
      record {
        th = backward k th;
        alone = refl;
        stands = stands_moved a g d here place _ th room s h
            (ap (λ q. (q + (2 ^ 64 - k)) % 2 ^ 64) h.place_is ∙ backward_place here k place e (omega arith));
        spared = p;
        fewer = less;
      },
    )

-- `map`
pub map_arrives : (a : Ground) (f : Ident) (k : ℕ) (p : Place) → ComponentArrives a (Map f k p)
map_arrives a name k p g input out d place th room s solid f c deep covers h =
    let w : Watch = watched a g d input out th.memory in
    let lt : length a.code < 2 ^ 32 = solid.small in
    let m : Memory = th.memory in
    let n : ℕ = cells_for g out in
    let call : List Step = call_code (g.funs k) d in
    let result : result_type (g.funs k) ≡ out = ap result_type f.1 ∙ f.3 in
    let code : CodeAt a.code place (map_code call d n) = subst (λ t. CodeAt a.code place (map_code call d (cells_for g t))) result c in
    let c1 : CodeAt a.code (place + 1) (Take d ∷ Tick ∷ Run call ∷ Tick ∷ Give (Local d) n ∷ Again 6 ∷ []) = code_next a.code place Tick _ code in
    let c3 : CodeAt a.code (place + 1 + 2) (Run call ∷ Tick ∷ Give (Local d) n ∷ Again 6 ∷ []) = code_back a.code (place + 1) (Take d ∷ Tick ∷ []) _ c1 in
    let c4 : CodeAt a.code (place + 1 + 2 + 1) (Tick ∷ Give (Local d) n ∷ Again 6 ∷ []) = code_next a.code (place + 1 + 2) (Run call) _ c3 in
    let c6 : CodeAt a.code (place + 1 + 2 + 1 + 2) (Again 6 ∷ []) = code_back a.code (place + 1 + 2 + 1) (Tick ∷ Give (Local d) n ∷ []) _ c4 in
    let fit : d + max (cells_for g input) (max n f.0.needs) ≤ a.n = f.4 in
    let wide : a.base + a.n ≤ length m.cells = h.held.room in
    let small : length m.cells < 2 ^ 63 = h.held.small in
    let library = (around a.core).library in
    endless s.left (Arrived a g d None (place + 7) m) w a g d place (Take d ∷ Tick ∷ Run call ∷ Tick ∷ Give (Local d) n ∷ Again 6 ∷ []) m room
    (mapped_proc library k) th s lt code
    (λ th0 s0 h0 p0.
    let R : Arriving = Round a g d place m room s0 in
    arrives_then (TakenAt a g d (place + 1 + 2) d input th0.memory room s0) R w a.code (take_proc s0) (Alone th0 room)
    (λ x s'. with_proc (called_by library (Function k) (x ∷ []) s') (λ v s''. outputs_proc (v ∷ []) s''))
    (take_on a g input out d d (place + 1) d (Run call ∷ Tick ∷ Give (Local d) n ∷ Again 6 ∷ []) m th0 room s0 lt c1 (omega arith) (omega arith) h0 p0)
    (λ x s1 st t.
    let fewer : s0.left ≡ suc s1.left = t.fewer in
    let held : Holds a.top a.base d a.n g t.th.memory s1 = t.stands.held in
    let p1 : Spares a.top a.base d g m t.th.memory =
    spares_then a.top a.base d g m th0.memory t.th.memory p0 (λ i b e o. t.others i (omega arith)) in
    subst (Arrives R w a.code (with_proc (called_by library (Function k) (x ∷ []) s1) (λ v s''. outputs_proc (v ∷ []) s''))) (sym t.alone)
    (called_arrives R w a g d (place + 1 + 2) k out x call (Tick ∷ Give (Local d) n ∷ Again 6 ∷ []) t.th room s1 (λ v s''. outputs_proc (v ∷ []) s'') solid c3
    t.stands
    (called_agrees a g d k input out x t.th.memory t.th.memory s1 solid f held (holds_kept a.top a.base d d a.n g t.th.memory s1 held) t.shape t.cells)
    (λ v s2 m2 less at kept h2.
    let p2 : Spares a.top a.base d g m m2 =
    spares_then a.top a.base d g m t.th.memory m2 p1 (spares_kept a.top a.base d g t.th.memory m2 s1 s2 kept) in
    output_arrives R a g input out d d (place + 1 + 2 + 1) (Local d) (Again 6 ∷ []) m (next_with t.th m2) room s2 v (λ s'. Ends (Value UnitVal) s') lt c4 h2 at p2
    (λ l e h3. round_ends a g d place (place + 1 + 2 + 1 + 2) 6 [] m room s0 w UnitVal (onward 0 (ticked_thread (next_with t.th m2))) (ticked_state s2 l) lt c6
    (omega arith) h3 p2 (omega arith))))))
    (omega arith) h (spares_none a.top a.base d g m)

-- the code of a call with a copy of a value that stands in the first free cells; the call's are those behind it
copied_agrees : (a : Ground) (g : Scope) (d k : ℕ) (from to : Ty) (x : Val) (m : Memory) (s : State) → Solid a g →
    StepFits g (d + cells_for g from) a.n k from to → Holds a.top a.base (d + cells_for g from) a.n g m s → Shaped g.structs from x →
    At m.cells (a.base + d) (cells_of x) →
    Agrees a.top a.base (d + cells_for g from) g to (Local (d + cells_for g from)) m s (called_by (around a.core).library (Function k) (x ∷ []) s)
    (go_all (moving (Local (d + cells_for g from)) (Local d) (cells_for g from) ++ call_code (g.funs k) (d + cells_for g from)) a.base m)
copied_agrees a g d k from to x m s solid f h shape at =
    let n : ℕ = cells_for g from in
    let fit : d + n + max n (max (cells_for g to) f.0.needs) ≤ a.n = f.4 in
    let wide : a.base + a.n ≤ length m.cells = h.room in
    let small : length m.cells < 2 ^ 63 = h.small in
    let apart : a.top ≤ a.base = h.apart in
    let size : length (cells_of x) ≡ n = sizes-fit g.structs from x shape in
    let call : List Step = call_code (g.funs k) (d + n) in
    let m1 : Memory = moved n (a.base + (d + n)) (a.base + d) m in
    let r : Moved n (a.base + (d + n)) (a.base + d) m m1 = moves n (a.base + (d + n)) (a.base + d) m (inr (omega arith)) (omega arith) (omega arith) small in
    let goes : go_all (moving (Local (d + n)) (Local d) n) a.base m ≡ Done m1 =
    moving_goes (Local (d + n)) (Local d) n a.base m
    ∙ ap (λ i. Done (moved n i (from_base a.base d) m)) (low_place a.base (d + n) (omega arith))
    ∙ ap (λ i. Done (moved n (a.base + (d + n)) i m)) (low_place a.base d (omega arith)) in
    subst (Agrees a.top a.base (d + n) g to (Local (d + n)) m s (called_by (around a.core).library (Function k) (x ∷ []) s))
    (sym (go_all-append (moving (Local (d + n)) (Local d) n) call a.base m ∙ ap (λ q. then_run q (go_all call a.base)) goes))
    (called_agrees a g (d + n) k from to x m m1 s solid f h
    (kept_changed a.top a.base (d + n) (a.base + (d + n)) (a.base + (d + n) + n) g m m m1 s s apart (omega arith)
    (holds_kept a.top a.base (d + n) (d + n) a.n g m s h) r.changed) shape
    (moved_at n (a.base + (d + n)) (a.base + d) m m1 (cells_of x) size (omega arith) r at))

-- the element is given where its function held, and dropped after a tick where it did not
filter_ends : (b : Bool) (a : Ground) (g : Scope) (input out : Ty) (d place here n : ℕ) (cell' : ℕ) (m : Memory) (th : Thread) (room : Room) (s0 s : State)
    (x : Val) → length a.code < 2 ^ 32 →
    CodeAt a.code here (Branch (Local cell') false 3 ∷ Tick ∷ Give (Local d) n ∷ Again 7 ∷ Tick ∷ Again 9 ∷ []) → n ≡ cells_for g out → place + 4 ≡ here →
    is_set (cell_at (from_base a.base cell') th.memory) ≡ b → Stands a g d here th room s → Spares a.top a.base d g m th.memory → s.left ≤ s0.left →
    StandsAt g.structs out x th.memory (from_base a.base d) →
    Arrives (Round a g d place m room s0) (watched a g d input out m) a.code (choose_proc b (outputs_proc (x ∷ [])) (returns_proc UnitVal) s) (Alone th room)
filter_ends true a g input out d place here n cell' m th room s0 s x lt c size at set h p less stands =
    let w : Watch = watched a g d input out m in
    let R : Arriving = Round a g d place m room s0 in
    let c' = subst (λ n. CodeAt a.code here (Branch (Local cell') false 3 ∷ Tick ∷ Give (Local d) n ∷ Again 7 ∷ Tick ∷ Again 9 ∷ [])) size c in
    let c1 : CodeAt a.code (here + 1) (Tick ∷ Give (Local d) (cells_for g out) ∷ Again 7 ∷ Tick ∷ Again 9 ∷ []) =
    code_next a.code here (Branch (Local cell') false 3) _ c' in
    let c3 : CodeAt a.code (here + 1 + 2) (Again 7 ∷ Tick ∷ Again 9 ∷ []) = code_back a.code (here + 1) (Tick ∷ Give (Local d) (cells_for g out) ∷ []) _ c1 in
    let th1 : Thread = onward 0 th in
    let h1 : Stands a g d (here + 1) th1 room s =
    stands_moved a g d here (here + 1) _ th room s h
    (ap (λ q. from_base (after q) 0) h.place_is ∙ next_place here (place_fits a.code here (Branch (Local cell') false 3) _ lt c')) in
    arrives_on R w a.code (outputs_proc (x ∷ []) s) (Alone th room) (Alone th1 room)
    (goes_to a.code (Branch (Local cell') false 3) th th1 room
    (ap (slice_get a.code) h.place_is ∙ code_here a.code here (Branch (Local cell') false 3) _ c')
    (ap (λ b. either_move (goes_if (is_set (cell_at (from_base b cell') th.memory)) false) (Goes (onward 3 th)) (Goes (onward 0 th))) h.base_is
    ∙ ap (λ b. either_move (goes_if b false) (Goes (onward 3 th)) (Goes (onward 0 th))) set))
    (output_arrives R a g input out d d (here + 1) (Local d) (Again 7 ∷ Tick ∷ Again 9 ∷ []) m th1 room s x (λ s'. Ends (Value UnitVal) s') lt c1 h1 stands p
    (λ l e h3. round_ends a g d place (here + 1 + 2) 7 (Tick ∷ Again 9 ∷ []) m room s0 w UnitVal (onward 0 (ticked_thread th1)) (ticked_state s l) lt c3
    (omega arith) h3 p (omega arith)))
filter_ends false a g input out d place here n cell' m th room s0 s x lt c size at set h p less stands =
    let w : Watch = watched a g d input out m in
    let R : Arriving = Round a g d place m room s0 in
    let c4 : CodeAt a.code (here + 4) (Tick ∷ Again 9 ∷ []) =
    code_back a.code here (Branch (Local cell') false 3 ∷ Tick ∷ Give (Local d) n ∷ Again 7 ∷ []) _ c in
    let c5 : CodeAt a.code (here + 4 + 1) (Again 9 ∷ []) = code_next a.code (here + 4) Tick _ c4 in
    let ends : here + 4 + 2 ≤ length a.code = code_ends a.code (here + 4) (Tick ∷ Again 9 ∷ []) c4 in
    let four : here + 1 + 3 ≡ here + 4 = omega arith in
    let th1 : Thread = onward 3 th in
    let h1 : Stands a g d (here + 4) th1 room s =
    stands_moved a g d here (here + 4) _ th room s h
    (ap (λ q. from_base (after q) 3) h.place_is ∙ onward_place here 3 (omega arith) ∙ four) in
    arrives_on R w a.code (returns_proc UnitVal s) (Alone th room) (Alone th1 room)
    (goes_to a.code (Branch (Local cell') false 3) th th1 room
    (ap (slice_get a.code) h.place_is ∙ code_here a.code here (Branch (Local cell') false 3) _ c)
    (ap (λ b. either_move (goes_if (is_set (cell_at (from_base b cell') th.memory)) false) (Goes (onward 3 th)) (Goes (onward 0 th))) h.base_is
    ∙ ap (λ b. either_move (goes_if b false) (Goes (onward 3 th)) (Goes (onward 0 th))) set))
    (tick_arrives R w a g d (here + 4) (Again 9 ∷ []) th1 room s (λ s'. Ends (Value UnitVal) s') lt c4 h1
    (λ l e h2. round_ends a g d place (here + 4 + 1) 9 [] m room s0 w UnitVal (ticked_thread th1) (ticked_state s l) lt c5 (omega arith) h2 p (omega arith)))

-- `filter`
pub filter_arrives : (a : Ground) (f : Ident) (k : ℕ) (p : Place) → ComponentArrives a (Filter f k p)
filter_arrives a name k p g input out d place th room s solid f code deep covers h =
    let w : Watch = watched a g d input out th.memory in
    let lt : length a.code < 2 ^ 32 = solid.small in
    let m : Memory = th.memory in
    let n : ℕ = cells_for g input in
    let same : input ≡ out = f.0 in
    let call : List Step = moving (Local (d + n)) (Local d) n ++ call_code (g.funs k) (d + n) in
    let rest : List Instruction = Branch (Local (d + n)) false 3 ∷ Tick ∷ Give (Local d) n ∷ Again 7 ∷ Tick ∷ Again 9 ∷ [] in
    let c1 : CodeAt a.code (place + 1) (Take d ∷ Tick ∷ Run call ∷ rest) = code_next a.code place Tick _ code in
    let c3 : CodeAt a.code (place + 1 + 2) (Run call ∷ rest) = code_back a.code (place + 1) (Take d ∷ Tick ∷ []) _ c1 in
    let c4 : CodeAt a.code (place + 1 + 2 + 1) rest = code_next a.code (place + 1 + 2) (Run call) _ c3 in
    let fit : d + n + max n (max (cells_for g (plain BoolTy)) f.2.0.needs) ≤ a.n = f.2.4 in
    let wide : a.base + a.n ≤ length m.cells = h.held.room in
    let small : length m.cells < 2 ^ 63 = h.held.small in
    let library = (around a.core).library in
    let next : Val → NextProc = λ x v s''. choose_proc (is_one v) (outputs_proc (x ∷ [])) (returns_proc UnitVal) s'' in
    endless s.left (Arrived a g d None (place + 10) m) w a g d place (Take d ∷ Tick ∷ Run call ∷ rest) m room (filtered_proc library k) th s lt code
    (λ th0 s0 h0 p0.
    let R : Arriving = Round a g d place m room s0 in
    arrives_then (TakenAt a g d (place + 1 + 2) d input th0.memory room s0) R w a.code (take_proc s0) (Alone th0 room)
    (λ x s'. with_proc (called_by library (Function k) (x ∷ []) s') (next x))
    (take_on a g input out d d (place + 1) d (Run call ∷ rest) m th0 room s0 lt c1 (omega arith) (omega arith) h0 p0)
    (λ x s1 st t.
    let fewer : s0.left ≡ suc s1.left = t.fewer in
    let apart : a.top ≤ a.base = t.stands.held.apart in
    let wide1 : a.base + a.n ≤ length t.th.memory.cells = t.stands.held.room in
    let small1 : length t.th.memory.cells < 2 ^ 63 = t.stands.held.small in
    let more : Stands a g (d + n) (place + 1 + 2) t.th room s1 = stands_more a g d (d + n) (place + 1 + 2) t.th room s1 (omega arith) t.stands in
    let p1 : Spares a.top a.base d g m t.th.memory =
    spares_then a.top a.base d g m th0.memory t.th.memory p0 (λ i b e o. t.others i (omega arith)) in
    let size : length (cells_of x) ≡ n = sizes-fit g.structs input x t.shape in
    let here : from_base a.base d ≡ a.base + d = low_place a.base d (omega arith) in
    subst (Arrives R w a.code (with_proc (called_by library (Function k) (x ∷ []) s1) (next x))) (sym t.alone)
    (called_arrives R w a g (d + n) (place + 1 + 2) k (plain BoolTy) x call rest t.th room s1 (next x) solid c3 more
    (copied_agrees a g d k input (plain BoolTy) x t.th.memory s1 solid f.2 more.held t.shape t.cells)
    (λ v s2 m2 less at kept h2.
    let p2 : Spares a.top a.base d g m m2 =
    spares_then a.top a.base d g m t.th.memory m2 p1
    (spares_less a.top a.base d (d + n) g t.th.memory m2 (omega arith) (spares_kept a.top a.base (d + n) g t.th.memory m2 s1 s2 kept)) in
    let x2 : At m2.cells (a.base + d) (cells_of x) =
    at_same t.th.memory.cells m2.cells (a.base + d) (a.base + (d + n)) (a.base + d) (cells_of x) kept.size (λ i b e. kept.same i (omega arith) e) (omega arith)
    (omega arith) t.cells in
    let b : Bool = at.shape.0 in
    let is : v ≡ BoolVal b = at.shape.1 in
    let set = subst (λ v. At m2.cells (from_base a.base (d + n)) (cells_of v)) is at.cells in
    subst (λ b. Arrives R w a.code (choose_proc b (outputs_proc (x ∷ [])) (returns_proc UnitVal) s2) (Alone (next_with t.th m2) room)) (sym (ap is_one is))
    (filter_ends b a g input out d place (place + 1 + 2 + 1) n (d + n) m (next_with t.th m2) room s0 s2 x lt c4 (ap (cells_for g) same) (omega arith)
    (ap is_set set.1 ∙ is_set_cell b) (stands_fewer a g d (d + n) (place + 1 + 2 + 1) (next_with t.th m2) room s2 h.held.locals_in h2) p2 (omega arith)
    (record { shape = subst (λ t. Shaped g.structs t x) same t.shape; cells = subst (λ i. At m2.cells i (cells_of x)) (sym here) x2 }))))))
    (omega arith) h (spares_none a.top a.base d g m)
