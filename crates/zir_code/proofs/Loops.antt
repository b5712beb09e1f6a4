-- The code of choices and loops does what they mean.
use Rattle.std.specs.Prelude.{ℕ, zero, suc, ℤ, pos, negsuc, ◌+◌, ◌-◌, ◌<◌, ◌≤◌, ◌^◌, ◌+ℤ◌, List, [], ◌∷◌, ◌++◌, Bool, true, false, ◌≡◌, refl, length}
use Rattle.std.proofs.Common.{ap, ◌∙◌, sym, subst, arith, inl, inr}
use Rattle.std.specs.Int.{int_wrap}
use mir.Syntax.{w32}
use Rattle.zir_tree.specs.declared.value.Val.{Val, Num}
use Rattle.zir_tree.specs.declared.types.Base.TheVariants.{Bool as BoolTy, Int32}
use Rattle.zir_tree.specs.declared.expr.Expr.{Expr}
use Rattle.zir_meaning.specs.Values.{is_one, num_of}
use Rattle.zir_meaning.specs.Trace.{State}
use Rattle.zir_meaning.specs.Evaluation.{Eval, RunsOut, Library, then_eval, tick_eval, choose_eval, ev}
use Rattle.zir_meaning.specs.Statements.{bind, scope, done, while_eval, turns_of, next_index, counted_eval}
use Rattle.zir_shapes.specs.Offsets.{plain_type as plain}
use Rattle.zir_expr.specs.declared.frame.Spot.{Spot}
use Rattle.zir_expr.specs.declared.frame.Spot.TheVariants.{Local}
use Rattle.zir_expr.specs.declared.steps.Step.{Step, Branch, While, Count}
use Rattle.zir_expr.specs.declared.steps.Fork.{Fork}
use Rattle.zir_expr.specs.declared.steps.Turn.{Turn}
use Rattle.zir_expr.specs.declared.steps.Counting.{Counting}
use Rattle.zir_expr.specs.Answers.{is_set}
use Rattle.zir_expr.specs.Memory.{Ran, Done, Out, then_run, ticked, cell_at, put_cell, from_base, place_of}
use Rattle.zir_expr.specs.Memory.Frames.{Memory}
use Rattle.zir_expr.specs.Running.{go, go_all, go_turns, go_counted, turns_in, branch}
use Rattle.zir_expr.proofs.Going.{go-Branch, go-While, go-Count}
use Rattle.zir_code.specs.Scopes.{Scope}
use Rattle.zir_code.specs.Coding.{stands, code_of, settling}
use Rattle.zir_code.specs.Holding.{Holds, StandsAt}
use Rattle.zir_code.specs.Statements.{with_index}
use Rattle.zir_code.specs.Fine.{Fits}
use Rattle.zir_code.specs.Calls.{Calls}
use Rattle.zir_code.specs.Laws.{ExpressionsAgree}
use Rattle.zir_code.proofs.Sparing.{AgreesSparing as AgreesStmt, Grows, fewer, grows_local, grows_both, narrows}
use Rattle.zir_code.proofs.Cells.{cell}
use Rattle.zir_code.proofs.Kept.{low_place, kept_holds, kept_less, holds_more, Changed, changed_cell, cell_written}
use Rattle.zir_code.proofs.Agreeing.{go_all-append, then-done}
use Rattle.zir_code.proofs.Stores.{hold_length}
use Rattle.zir_code.proofs.Operating.{IsCell, is_set_cell, cell_from}
use Rattle.zir_code.proofs.Alike.{alike_went, from_alike, same_tops, after_expression, after_statements, idle, Adds, adds_both}
use Rattle.zir_code.proofs.Scopes.{leaves, declared, ticks_on}
use Rattle.zir_code.proofs.Assigning.{after_settled}

-- a truth value in its cell
truth_from : (g : Scope) (m : Memory) (i : ℕ) (v : Val) → StandsAt g.structs (plain BoolTy) v m i → IsCell BoolTy v (cell_at i m)
truth_from g m i v st = cell_from g.structs m.cells i BoolTy v (inr (inl refl)) st.shape st.cells

-- a number in its cell
number_from : (g : Scope) (m : Memory) (i : ℕ) (v : Val) → StandsAt g.structs (plain Int32) v m i → v ≡ Num (cell_at i m)
number_from g m i v st = cell_from g.structs m.cells i Int32 v (inr (inr tt)) st.shape st.cells

-- a choice by a truth value in a cell
chosen_turn : (top base d n : ℕ) (g : Scope) (m m1 : Memory) (c : Spot) (v : Val) (r : Bool → Eval) (first second : Memory → Ran) →
    IsCell BoolTy v (cell_at (place_of base c) m1) →
    ((b : Bool) → AgreesStmt top base d n g m (r b) (branch b first second m1)) →
    AgreesStmt top base d n g m (r (is_one v)) (branch (is_set (cell_at (place_of base c) m1)) first second m1)
chosen_turn top base d n g m m1 c v r first second i k =
    subst (λ b. AgreesStmt top base d n g m (r (is_one v)) (branch b first second m1)) (sym (ap is_set i.2 ∙ is_set_cell i.0))
    (subst (λ b. AgreesStmt top base d n g m (r b) (branch i.0 first second m1)) (sym (ap is_one i.1)) (k i.0))

-- the same where the choice is a step
chosen_way : (top base d n : ℕ) (g : Scope) (m m1 : Memory) (f : Fork) (v : Val) (r : Bool → Eval) →
    IsCell BoolTy v (cell_at (place_of base f.test) m1) →
    ((b : Bool) → AgreesStmt top base d n g m (r b) (branch b (go_all f.first base) (go_all f.second base) m1)) →
    AgreesStmt top base d n g m (r (is_one v)) (go_all (Branch f ∷ []) base m1)
chosen_way top base d n g m m1 f v r i k =
    subst (λ q. AgreesStmt top base d n g m (r (is_one v)) q) (sym (then-done (go (Branch f) base m1) base ∙ go-Branch f base m1))
    (chosen_turn top base d n g m m1 f.test v r (go_all f.first base) (go_all f.second base) i k)

-- the code of a choice
pub if_agrees : (top base d n : ℕ) (l : Library) (g : Scope) (e : Expr) (first second : State → Eval) (a b : List Step) (m : Memory) (s : State) →
    ExpressionsAgree → Calls top l g.structs g.tops g.funs → Fits g d n (plain BoolTy) e →
    ((m1 : Memory) (s1 : State) → Holds top base d n g m1 s1 → AgreesStmt top base d n g m1 (first s1) (go_all a base m1)) →
    ((m1 : Memory) (s1 : State) → Holds top base d n g m1 s1 → AgreesStmt top base d n g m1 (second s1) (go_all b base m1)) →
    Holds top base d n g m s → AgreesStmt top base d n g m (then_eval (ev l e s) (λ v s1. choose_eval (is_one v) first second s1))
    (go_all (code_of g e d ++ Branch (record { test = stands g e d; first = a; second = b }) ∷ []) base m)
if_agrees top base d n l g e first second a b m s agree calls f p q h =
    let fork : Fork = record { test = stands g e d; first = a; second = b } in
    subst (λ z. AgreesStmt top base d n g m (then_eval (ev l e s) (λ v s1. choose_eval (is_one v) first second s1)) z)
    (sym (go_all-append (code_of g e d) (Branch fork ∷ []) base m))
    (after_expression top base d d n g g (plain BoolTy) (stands g e d) m s (ev l e s) (go_all (code_of g e d) base m) _
    (go_all (Branch fork ∷ []) base) (same_tops g) (fewer base d d g (omega arith)) (agree top base d n l g calls (plain BoolTy) e m s f.0 f.1 h)
    (λ v s1 m1 st k. chosen_way top base d n g m1 m1 fork v (λ c. choose_eval c first second s1) (truth_from g m1 (place_of base (stands g e d)) v st)
    (λ c. one_way c s1 m1 (kept_holds top base d d n g m m1 s s1 (omega arith) h k)))) where
      one_way : (c : Bool) (s1 : State) (m1 : Memory) → Holds top base d n g m1 s1 →
          AgreesStmt top base d n g m1 (choose_eval c first second s1) (branch c (go_all a base) (go_all b base) m1)
      one_way true s1 m1 h1 = p m1 s1 h1
      one_way false s1 m1 h1 = q m1 s1 h1

-- a loop with a test
turns_agree : (k : ℕ) (top base d n : ℕ) (g : Scope) (l : Library) (e : Expr) (body : State → Eval) (code : Memory → Ran) (m : Memory) (s : State) →
    ExpressionsAgree → Calls top l g.structs g.tops g.funs → Fits g d n (plain BoolTy) e →
    ((m1 : Memory) (s1 : State) → Holds top base d n g m1 s1 → AgreesStmt top base d n g m1 (body s1) (code m1)) → Holds top base d n g m s →
    AgreesStmt top base d n g m (while_eval k (ev l e) body s) (go_turns k (go_all (code_of g e d) base) (stands g e d) base code m)
turns_agree zero top base d n g l e body code m s agree calls f b h =
    after_expression top base d d n g g (plain BoolTy) (stands g e d) m s (ev l e s) (go_all (code_of g e d) base m) _ _ (same_tops g)
    (fewer base d d g (omega arith))
    (agree top base d n l g calls (plain BoolTy) e m s f.0 f.1 h)
    (λ v s1 m1 st k. chosen_turn top base d n g m1 m1 (stands g e d) v (λ b. choose_eval b (λ s2. RunsOut) done s1) (λ m2. Out) Done
    (truth_from g m1 (place_of base (stands g e d)) v st)
    (λ b. ends b s1 m1 (kept_holds top base d d n g m m1 s s1 (omega arith) h k))) where
      ends : (b : Bool) (s1 : State) (m1 : Memory) → Holds top base d n g m1 s1 →
          AgreesStmt top base d n g m1 (choose_eval b (λ s2. RunsOut) done s1) (branch b (λ m2. Out) Done m1)
      ends true s1 m1 h = tt
      ends false s1 m1 h = idle top base d n g m1 s1 h
turns_agree (suc k) top base d n g l e body code m s agree calls f b h =
    after_expression top base d d n g g (plain BoolTy) (stands g e d) m s (ev l e s) (go_all (code_of g e d) base m) _ _ (same_tops g)
    (fewer base d d g (omega arith))
    (agree top base d n l g calls (plain BoolTy) e m s f.0 f.1 h)
    (λ v s1 m1 st q. chosen_turn top base d n g m1 m1 (stands g e d) v
    (λ b. choose_eval b (λ s1. tick_eval s1 (λ s2. then_eval (body s2) (λ w s3. while_eval k (ev l e) body s3))) done s1)
    (λ m2. then_run (ticked m2) (λ m3. then_run (code m3) (λ m4. go_turns k (go_all (code_of g e d) base) (stands g e d) base code m4))) Done
    (truth_from g m1 (place_of base (stands g e d)) v st)
    (λ c. goes c s1 m1 (kept_holds top base d d n g m m1 s s1 (omega arith) h q)
    (λ m4 s3 h4. turns_agree k top base d n g l e body code m4 s3 agree calls f b h4))) where
      goes : (c : Bool) (s1 : State) (m1 : Memory) → Holds top base d n g m1 s1 →
          ((m4 : Memory) (s3 : State) → Holds top base d n g m4 s3 →
          AgreesStmt top base d n g m4 (while_eval k (ev l e) body s3) (go_turns k (go_all (code_of g e d) base) (stands g e d) base code m4)) →
          AgreesStmt top base d n g m1 (choose_eval c (λ s1. tick_eval s1 (λ s2. then_eval (body s2) (λ w s3. while_eval k (ev l e) body s3))) done
          s1)
          (branch c (λ m2. then_run (ticked m2) (λ m3. then_run (code m3)
          (λ m4. go_turns k (go_all (code_of g e d) base) (stands g e d) base code m4))) Done m1)
      goes true s1 m1 h1 rest =
          ticks_on top base d n g m1 s1 (λ s2. then_eval (body s2) (λ w s3. while_eval k (ev l e) body s3))
          (λ m3. then_run (code m3) (λ m4. go_turns k (go_all (code_of g e d) base) (stands g e d) base code m4)) h1
          (λ m3 s2 a3 h3. from_alike top base d n g m1 m3 _ _ a3
          (after_statements top base d d n g g m3 (body s2) (code m3) _ _ (same_tops g) (fewer base d d g (omega arith)) (b m3 s2 h3)
          (λ w s3 m4 went. rest m4 s3 went.holds)))
      goes false s1 m1 h1 rest = idle top base d n g m1 s1 h1

-- the code of a loop with a test
pub while_agrees : (top base d n : ℕ) (l : Library) (g : Scope) (e : Expr) (body : State → Eval) (steps : List Step) (m : Memory) (s : State) →
    ExpressionsAgree → Calls top l g.structs g.tops g.funs → Fits g d n (plain BoolTy) e →
    ((m1 : Memory) (s1 : State) → Holds top base d n g m1 s1 → AgreesStmt top base d n g m1 (body s1) (go_all steps base m1)) →
    Holds top base d n g m s →
    AgreesStmt top base d n g m (while_eval s.left (ev l e) body s) (go_all
    (While (record { test = code_of g e d; cell = stands g e d; body = steps }) ∷ []) base m)
while_agrees top base d n l g e body steps m s agree calls f b h =
    let w : Turn = record { test = code_of g e d; cell = stands g e d; body = steps } in
    let u : m.used ≡ s.ticks = h.used in
    let v : m.limit ≡ s.ticks + s.left = h.limit in
    let left : m.limit - m.used ≡ s.left = omega arith in
    subst (λ q. AgreesStmt top base d n g m (while_eval s.left (ev l e) body s) q)
    (sym (then-done (go (While w) base m) base ∙ go-While w base m ∙ ap
    (λ k. go_turns k (go_all (code_of g e d) base) (stands g e d) base (go_all steps base) m) left))
    (turns_agree s.left top base d n g l e body (go_all steps base) m s agree calls f b h)

-- what a turn of a loop that counts does, once its index stands in its cell
abbrev pub Turns : ℕ → ℕ → ℕ → ℕ → Scope → ℕ → (State → Eval) → (Memory → Ran) → Type 0
Turns top base d n g id body code =
    (j : ℤ) (m : Memory) (s : State) → Holds top base d n g m s → AgreesStmt top base d n g m (scope (λ s1. body (bind id (Num j) s1)) s)
    (code (put_cell (from_base base d) j m))

-- a loop that counts
counted_agree : (k : ℕ) (i : ℤ) (top base d n : ℕ) (g : Scope) (id : ℕ) (body : State → Eval) (code : Memory → Ran) (m : Memory) (s : State) →
    Turns top base d n g id body code → Holds top base d n g m s →
    AgreesStmt top base d n g m (counted_eval k id i body s) (go_counted k i (Local d) base code m)
counted_agree zero i top base d n g id body code m s b h = idle top base d n g m s h
counted_agree (suc k) i top base d n g id body code m s b h =
    ticks_on top base d n g m s (λ s1. then_eval (scope (λ s2. body (bind id (Num i) s2)) s1) (λ w s3. counted_eval k id (next_index i) body s3))
    (λ m1. then_run (code (put_cell (from_base base d) i m1)) (go_counted k (int_wrap w32 (i +ℤ pos 1)) (Local d) base code)) h
    (λ m1 s1 a h1. from_alike top base d n g m m1 _ _ a
    (after_statements top base d d n g g m1 (scope (λ s2. body (bind id (Num i) s2)) s1) (code (put_cell (from_base base d) i m1)) _ _ (same_tops g)
    (fewer base d d g (omega arith))
    (b i m1 s1 h1)
    (λ w s3 m2 went. counted_agree k (next_index i) top base d n g id body code m2 s3 b went.holds)))

turns_same : (n : ℤ) → turns_of n ≡ turns_in n
turns_same (pos n) = refl
turns_same (negsuc n) = refl

-- a turn: its index comes into scope, and all names leave it
pub turn_agrees : (top base d d' n : ℕ) (g g' : Scope) (id : ℕ) (body : State → Eval) (code : Memory → Ran) → d + 1 ≤ n →
    Adds (with_index g d id) g' → Grows base (d + 1) d' (with_index g d id) g' →
    ((m1 : Memory) (s1 : State) → Holds top base (d + 1) n (with_index g d id) m1 s1 → AgreesStmt top base d' n g' m1 (body s1) (code m1)) →
    Turns top base d n g id body code
turn_agrees top base d d' n g g' id body code le adds grows b j m s h =
    let room : base + n ≤ length m.cells = h.room in
    let small : length m.cells < 2 ^ 63 = h.small in
    let q : from_base base d ≡ base + d = low_place base d (omega arith) in
    let m1 : Memory = put_cell (from_base base d) j m in
    let c : Changed (base + d) (base + d + 1) m m1 = subst (λ i. Changed i (i + 1) m m1) q (changed_cell (from_base base d) j m) in
    let here : cell m1.cells (base + d) ≡ j = subst (λ i. cell m1.cells i ≡ j) q (cell_written (from_base base d) j m (omega arith)) in
    let size = c.size in
    let x = adds_both g (with_index g d id) g' (record { names = _; locals = refl; structs = refl; tops = refl; funs = refl }) adds in
    let bound = declared top base d n g m m1 s id (plain Int32) (Num j) le (record { shape = (j, refl); cells = (omega arith, here, tt) }) c h in
    leaves top base d d' n (length s.store.locals) g g' m (body (bind id (Num j) s)) (code m1)
    (hold_length g.structs m.cells base g.locals s.store.locals h.locals) x
    (grows_both base d (d + 1) d' g (with_index g d id) g' (grows_local base d n g id (plain Int32) le (omega arith)) grows) h.tops_in h.locals_in
    (from_alike top base d' n g' m m1 _ _ (alike_went top base (d + 1) d' n (with_index g d id) g' m m1 _
    (narrows base (d + 1) d' (with_index g d id) g' grows) bound) (b m1 (bind id (Num j) s) bound.holds))

-- the code of a loop that counts, once its bounds stand in their cells
counts : (top base d n : ℕ) (g : Scope) (id : ℕ) (body : State → Eval) (steps : List Step) (x y : ℤ) (m : Memory) (s : State) →
    Turns top base d n g id body (go_all steps base) → Holds top base d n g m s →
    cell_at (from_base base d) m ≡ x → cell_at (from_base base (d + 1)) m ≡ y →
    AgreesStmt top base d n g m (counted_eval (turns_of y) id x body s)
    (go_all (Count (record { turns = Local (d + 1); index = Local d; body = steps }) ∷ []) base m)
counts top base d n g id body steps x y m s b h e f =
    let c : Counting = record { turns = Local (d + 1); index = Local d; body = steps } in
    subst (λ q. AgreesStmt top base d n g m (counted_eval (turns_of y) id x body s) q)
    (sym (then-done (go (Count c) base m) base ∙ go-Count c base m ∙ ap
    (λ k. go_counted (turns_in k) (cell_at (from_base base d) m) (Local d) base (go_all steps base) m) f
    ∙ ap (λ i. go_counted (turns_in y) i (Local d) base (go_all steps base) m) e
    ∙ ap (λ k. go_counted k x (Local d) base (go_all steps base) m) (sym (turns_same y))))
    (counted_agree (turns_of y) x top base d n g id body (go_all steps base) m s b h)

-- the code of a loop that counts
pub for_agrees : (top base d n : ℕ) (l : Library) (g : Scope) (id : ℕ) (a e : Expr) (body : State → Eval) (steps : List Step) (m : Memory)
    (s : State) → ExpressionsAgree → Calls top l g.structs g.tops g.funs →
    Fits g d n (plain Int32) a → Fits g (d + 1) n (plain Int32) e → d + 2 ≤ n → Turns top base d n g id body (go_all steps base) →
    Holds top base d n g m s →
    AgreesStmt top base d n g m (then_eval (ev l a s) (λ v s1. then_eval (ev l e s1)
    (λ w s2. counted_eval (turns_of (num_of w)) id (num_of v) body s2)))
    (go_all (code_of g a d ++ (settling (stands g a d) d 1 ++ (code_of g e (d + 1) ++
    (settling (stands g e (d + 1)) (d + 1) 1 ++ Count (record { turns = Local (d + 1); index = Local d; body = steps }) ∷ [])))) base m)
for_agrees top base d n l g id a e body steps m s agree calls f f' le b h =
    let last : List Step = Count (record { turns = Local (d + 1); index = Local d; body = steps }) ∷ [] in
    let room : base + n ≤ length m.cells = h.room in
    let small : length m.cells < 2 ^ 63 = h.small in
    let apart : top ≤ base = h.apart in
    let here : from_base base d ≡ base + d = low_place base d (omega arith) in
    let next : from_base base (d + 1) ≡ base + (d + 1) = low_place base (d + 1) (omega arith) in
    after_settled top base d d n 1 l g g (plain Int32) a m s (λ v s1. then_eval (ev l e s1)
    (λ w s2. counted_eval (turns_of (num_of w)) id (num_of v) body s2)) _ (same_tops g) (fewer base d d g (omega arith)) agree calls f refl h
    (λ v s1 m1 st k.
    let h1 = kept_holds top base d d n g m m1 s s1 (omega arith) h k in
    after_settled top base (d + 1) d n 1 l g g (plain Int32) e m1 s1 (λ w s2. counted_eval (turns_of (num_of w)) id (num_of v) body s2) last
    (same_tops g) (fewer base (d + 1) d g (omega arith)) agree calls f' refl (holds_more top base d (d + 1) n g m1 s1 (omega arith) h1)
    (λ w s2 m2 st' k'.
    let x : ℤ = cell m1.cells (base + d) in
    let y : ℤ = cell m2.cells (base + (d + 1)) in
    let first : cell_at (from_base base d) m2 ≡ x = ap (cell m2.cells) here ∙ k'.same (base + d) (omega arith) (omega arith) in
    let turns : cell_at (from_base base (d + 1)) m2 ≡ y = ap (cell m2.cells) next in
    subst (λ v. AgreesStmt top base d n g m2 (counted_eval (turns_of (num_of w)) id (num_of v) body s2) (go_all last base m2))
    (sym (number_from g m1 (base + d) v st))
    (subst (λ w. AgreesStmt top base d n g m2 (counted_eval (turns_of (num_of w)) id x body s2) (go_all last base m2))
    (sym (number_from g m2 (base + (d + 1)) w st'))
    (counts top base d n g id body steps x y m2 s2 b (kept_holds top base d d n g m1 m2 s1 s2 (omega arith) h1
    (kept_less top base d (d + 1) g m1 m2 s1 s2 (omega arith) k')) first turns))))
