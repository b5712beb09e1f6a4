-- The runs of a component's process are its traces.
use Rattle.std.specs.Prelude.{ℕ, zero, suc, ◌+◌, ℤ, pos, List, [], ◌∷◌, ◌++◌, Bool, true, false, Option, Some, None, ◌≡◌, refl}
use Rattle.std.proofs.Common.{ap, ◌∙◌}
use Rattle.zir_tree.specs.declared.value.Val.{Val, Unit as UnitVal}
use Rattle.zir_tree.specs.declared.value.Slot.{Slot}
use Rattle.zir_tree.specs.declared.ident.Ident.{Ident}
use Rattle.zir_tree.specs.declared.types.Field.{Field}
use Rattle.zir_tree.specs.declared.ends.End.{End}
use Rattle.zir_tree.specs.declared.ends.End.TheVariants.{Value, Starved, Trap as Trapped, Spent}
use Rattle.zir_tree.specs.declared.expr.Expr.{Expr}
use Rattle.zir_tree.specs.declared.expr.Callee.TheVariants.{Function}
use Rattle.zir_tree.specs.declared.comp.Comp.{Comp, Take, Takes, Emit, Emits, Return, Do, Repeat', While', Times', For', If', Map, Filter, Call, Block', Pipe', end_of-Comp, more_of-Comp, Row_of-Member, end_of-Member, more_of-Member}
use Rattle.zir_tree.specs.declared.comp.Member.{Bind, Var, Run}
use Rattle.zir_meaning.specs.Values.{parts, is_one, num_of}
use Rattle.zir_meaning.specs.Store.{depth}
use Rattle.zir_meaning.specs.Trace.{State, point, Out, Trace, ends, gives, after, Next, then_end, then_do, tick, tick_of}
use Rattle.zir_meaning.specs.Evaluation.{Eval, Got, Traps, RunsOut, Library, ev, called_by, with_value, with_values}
use Rattle.zir_meaning.specs.Statements.{bind, leave, turns_of, next_index, initial_of, run_body}
use Rattle.zir_meaning.specs.Functions.{entered}
use Rattle.zir_meaning.specs.Assigned.{assigns}
use Rattle.zir_meaning.specs.Composition.{compose, fresh, values}
use Rattle.zir_meaning.specs.Component.{Does, take_of, takes_of, outputs, returns, choose, turn_if, turns, always, test_of, bind_index, counted, mapped, filtered, Around, Comps, tr, members}
use Rattle.zir_meaning.specs.Instances.{out_seen, seen_from, called}
use Rattle.zir_laws.specs.Process.{Proc, Gives, Ends, Needs, run, NextProc, then_proc, tick_proc, tick_proc_of, with_proc, arguments_proc, take_proc, takes_proc, outputs_proc, returns_proc, choose_proc, turn_if_proc, turns_proc, counted_proc, mapped_proc, filtered_proc, Procs, proc, members_proc}
use Rattle.zir_laws.specs.Acts.{seen_proc, called_proc}
use Rattle.zir_laws.proofs.Evaluating.{FunsEvaluate}
use Rattle.zir_laws.proofs.Components.{ProcsProceed, proceeds-proc}
use Rattle.zir_laws.proofs.Joins.{piped-run}

-- an output before an end and what follows it
gives-end : (e : End) (o : Out) (os : List Out) (s : State) (xs : List Val) (next : Next) → gives o (then_end e os s xs next) ≡ then_end e (o ∷ os) s xs next
gives-end (Value v) o os s xs next = refl
gives-end Starved o os s xs next = refl
gives-end (Trapped c) o os s xs next = refl
gives-end Spent o os s xs next = refl

-- a run of a process and what follows it
pub run-then : (p : Proc) (k : NextProc) (xs : List Val) → run (then_proc p k) xs ≡ then_do (run p xs) (λ v s ys. run (k v s) ys)
run-then (Gives o p) k xs =
    ap (gives o) (run-then p k xs) ∙ gives-end (run p xs).end o (run p xs).outs (run p xs).last (run p xs).rest (λ v s ys. run (k v s) ys)
run-then (Ends (Value v) s) k xs = refl
run-then (Ends Starved s) k xs = refl
run-then (Ends (Trapped c) s) k xs = refl
run-then (Ends Spent s) k xs = refl
run-then (Needs s f) k [] = refl
run-then (Needs s f) k (x ∷ xs) = run-then (f x) k xs

-- an end and what follows it, where the same follows
then_end-same : (e : End) (os : List Out) (s : State) (xs : List Val) (f g : Next) →
    ((v : Val) (s : State) (ys : List Val) → f v s ys ≡ g v s ys) → then_end e os s xs f ≡ then_end e os s xs g
then_end-same (Value v) os s xs f g h = ap (after os) (h v s xs)
then_end-same Starved os s xs f g h = refl
then_end-same (Trapped c) os s xs f g h = refl
then_end-same Spent os s xs f g h = refl

-- a trace and what follows it, where the same follows
then_do-same : (t : Trace) (f g : Next) → ((v : Val) (s : State) (ys : List Val) → f v s ys ≡ g v s ys) → then_do t f ≡ then_do t g
then_do-same t f g h = then_end-same t.end t.outs t.last t.rest f g h

-- one of these ticks, and then what follows
tick_of-run : (n : ℕ) (s : State) (xs : List Val) (p : State → Proc) (next : State → List Val → Trace) →
    ((s' : State) → run (p s') xs ≡ next s' xs) → run (tick_proc_of n s p) xs ≡ tick_of n s xs next
tick_of-run zero s xs p next h = refl
tick_of-run (suc n) s xs p next h = h (record s { ticks = s.ticks + 1; left = n })

-- one tick, and then what follows
tick-run : (s : State) (xs : List Val) (p : State → Proc) (next : State → List Val → Trace) → ((s' : State) → run (p s') xs ≡ next s' xs) →
    run (tick_proc s p) xs ≡ tick s xs next
tick-run s xs p next h = tick_of-run s.left s xs p next h

-- an evaluation and what follows it
with-run : (e : Eval) (xs : List Val) (k : NextProc) (next : Next) → ((v : Val) (s : State) → run (k v s) xs ≡ next v s xs) →
    run (with_proc e k) xs ≡ with_value e xs next
with-run (Got v s) xs k next h = h v s
with-run (Traps c s) xs k next h = refl
with-run RunsOut xs k next h = refl

-- a process and what follows it
then-run : (p : Proc) (t : Trace) (k : NextProc) (next : Next) (xs : List Val) → run p xs ≡ t →
    ((v : Val) (s : State) (ys : List Val) → run (k v s) ys ≡ next v s ys) → run (then_proc p k) xs ≡ then_do t next
then-run p t k next xs e h =
    run-then p k xs ∙ ap (λ t. then_do t (λ v s ys. run (k v s) ys)) e ∙ then_do-same t (λ v s ys. run (k v s) ys) next h

-- one element
take-run : (s : State) (xs : List Val) → run (take_proc s) xs ≡ take_of s xs
take-run s [] = refl
take-run s (x ∷ xs) =
    tick-run s xs (λ s'. Ends (Value x) (record s' { taken = s'.taken + 1 })) (λ s' ys. ends (Value x) (record s' { taken = s'.taken + 1 }) ys) (λ s'. refl)

-- so many elements
takes-run : (n : ℕ) (vs : List Val) (s : State) (xs : List Val) → run (takes_proc n vs s) xs ≡ takes_of n vs s xs
takes-run zero vs s xs = refl
takes-run (suc n) vs s xs = then-run (take_proc s) (take_of s xs) _ _ xs (take-run s xs) (λ v s' ys. takes-run n (vs ++ v ∷ []) s' ys)

-- outputs
outputs-run : (vs : List Val) (s : State) (xs : List Val) → run (outputs_proc vs s) xs ≡ outputs vs s xs
outputs-run [] s xs = refl
outputs-run (v ∷ vs) s xs =
    tick-run s xs _ (λ s' ys. gives (record { value = v; at = point s' }) (outputs vs s' ys))
    (λ s'. ap (gives (record { value = v; at = point s' })) (outputs-run vs s' xs))

-- an end with a value after a tick
returns-run : (v : Val) (s : State) (xs : List Val) → run (returns_proc v s) xs ≡ returns v s xs
returns-run v s xs = tick-run s xs _ _ (λ s'. refl)

-- arguments, and what follows them
arguments_proc-run : (l : Library) (es : List Expr) (vs : List Val) (s : State) (xs : List Val) (k : List Val → State → Proc)
    (next : List Val → State → List Val → Trace) → ((vs : List Val) (s : State) → run (k vs s) xs ≡ next vs s xs) →
    run (arguments_proc l es vs s k) xs ≡ with_values l es vs s xs next
arguments_proc-run l [] vs s xs k next h = h vs s
arguments_proc-run l (e ∷ es) vs s xs k next h = with-run (ev l e s) xs _ _ (λ v s'. arguments_proc-run l es (vs ++ v ∷ []) s' xs k next h)

-- one of two
choose-run : (b : Bool) (p q : State → Proc) (f g : Does) (s : State) (xs : List Val) → run (p s) xs ≡ f s xs → run (q s) xs ≡ g s xs →
    run (choose_proc b p q s) xs ≡ choose b f g s xs
choose-run true p q f g s xs h k = h
choose-run false p q f g s xs h k = k

-- a turn, if the test holds
turn_if-run : (e : Eval) (xs : List Val) (p : State → Proc) (turn : Does) → ((s : State) → run (p s) xs ≡ turn s xs) →
    run (turn_if_proc e p) xs ≡ turn_if e turn xs
turn_if-run e xs p turn h = with-run e xs _ _ (λ v s. choose-run (is_one v) p _ turn _ s xs (h s) refl)

-- a process from each state gives this trace
abbrev pub RunsAs : (State → Proc) → Does → Type 0
RunsAs p body = (s : State) (xs : List Val) → run (p s) xs ≡ body s xs

-- turns of a body
turns-run : (most : ℕ) (test : State → Eval) (p : State → Proc) (body : Does) → RunsAs p body → RunsAs (turns_proc most test p) (turns most test body)
turns-run zero test p body h s xs = turn_if-run (test s) xs _ _ (λ s'. refl)
turns-run (suc most) test p body h s xs =
    turn_if-run (test s) xs _ _
    (λ s1. tick-run s1 xs _ _
    (λ s'. then-run (p s') (body s' xs) (λ v s''. turns_proc most test p s'') (λ v s'' zs. turns most test body s'' zs) xs (h s' xs)
    (λ v s'' ys. turns-run most test p body h s'' ys)))

-- a number of turns of a body
counted-run : (most : ℕ) (name : Option Ident) (i : ℤ) (p : State → Proc) (body : Does) → RunsAs p body →
    RunsAs (counted_proc most name i p) (counted most name i body)
counted-run zero name i p body h s xs = refl
counted-run (suc most) name i p body h s xs =
    tick-run s xs _ _
    (λ s'. then-run (p (bind_index name i s')) (body (bind_index name i s') xs) _ _ xs (h (bind_index name i s') xs)
    (λ v s'' ys. counted-run most name (next_index i) p body h (leave (depth s.store) s'') ys))

-- one element and the function of it
mapped-run : (l : Library) (k : ℕ) → RunsAs (mapped_proc l k) (mapped l k)
mapped-run l k s xs =
    then-run (take_proc s) (take_of s xs) _ _ xs (take-run s xs)
    (λ x s' ys. with-run (called_by l (Function k) (x ∷ []) s') ys _ _ (λ v s''. outputs-run (v ∷ []) s'' ys))

-- one element where the function of it is true
filtered-run : (l : Library) (k : ℕ) → RunsAs (filtered_proc l k) (filtered l k)
filtered-run l k s xs =
    then-run (take_proc s) (take_of s xs) _ _ xs (take-run s xs)
    (λ x s' ys. with-run (called_by l (Function k) (x ∷ []) s') ys _ _
    (λ v s''. choose-run (is_one v) (outputs_proc (x ∷ [])) (returns_proc UnitVal) (outputs (x ∷ [])) (returns UnitVal) s'' ys
    (outputs-run (x ∷ []) s'' ys) (returns-run UnitVal s'' ys)))

-- a called body, as its caller sees it
seen-run : (locals : List Slot) (p : Proc) (xs : List Val) → run (seen_proc locals p) xs ≡ seen_from locals (run p xs)
seen-run locals (Gives o p) xs = ap (gives (out_seen locals o)) (seen-run locals p xs)
seen-run locals (Ends (Value v) s) xs = refl
seen-run locals (Ends Starved s) xs = refl
seen-run locals (Ends (Trapped t) s) xs = refl
seen-run locals (Ends Spent s) xs = refl
seen-run locals (Needs s f) [] = refl
seen-run locals (Needs s f) (x ∷ xs) = seen-run locals (f x) xs

-- a call of a body
pub called-run : (ps : List Field) (p : State → Proc) (body : Does) → RunsAs p body → (vs : List Val) → RunsAs (called_proc ps p vs) (called ps body vs)
called-run ps p body h vs s xs =
    seen-run s.store.locals (p (entered ps vs s)) xs ∙ ap (seen_from s.store.locals) (h (entered ps vs s) xs)

-- each instance as a process gives its trace
abbrev pub ProcsRun : Comps → Procs → Type 0
ProcsRun comps procs = (k : ℕ) (vs : List Val) → RunsAs (procs k vs) (comps k vs)

-- a program's functions evaluate, its instances proceed, and their runs are their traces
pub record Sound (r : Around) (comps : Comps) (procs : Procs) : Type 0 where
  pub evaluate : FunsEvaluate r.library.funs
  pub proceed : ProcsProceed procs
  pub runs : ProcsRun comps procs

mutual
  -- a run of a component's process is the component's trace
  pub run-proc : (r : Around) (comps : Comps) (procs : Procs) → Sound r comps procs → (c : Comp) (s : State) (xs : List Val) →
      run (proc r procs c s) xs ≡ tr r comps c s xs
  run-proc r comps procs h (Take p) s xs = take-run s xs
  run-proc r comps procs h (Takes n p) s xs = takes-run n [] s xs
  run-proc r comps procs h (Emit e p) s xs = with-run (ev r.library e s) xs _ _ (λ v s'. outputs-run (v ∷ []) s' xs)
  run-proc r comps procs h (Emits e p) s xs = with-run (ev r.library e s) xs _ _ (λ v s'. outputs-run (parts v) s' xs)
  run-proc r comps procs h (Return e p) s xs = with-run (ev r.library e s) xs _ _ (λ v s'. returns-run v s' xs)
  run-proc r comps procs h (Do body p) s xs = tick-run s xs _ _ (λ s'. with-run (run_body r.library body s') xs _ _ (λ v s''. refl))
  run-proc r comps procs h (Repeat' _ (more_of-Comp c end_of-Comp) p) s xs =
      turns-run s.left always (proc r procs c) (tr r comps c) (run-proc r comps procs h c) s xs
  run-proc r comps procs h (While' turning e _ (more_of-Comp c end_of-Comp) p) s xs =
      turns-run s.left (test_of turning (ev r.library e)) (proc r procs c) (tr r comps c) (run-proc r comps procs h c) s xs
  run-proc r comps procs h (Times' e _ (more_of-Comp c end_of-Comp) p) s xs =
      with-run (ev r.library e s) xs _ _
      (λ v s'. counted-run (turns_of (num_of v)) None (pos 0) (proc r procs c) (tr r comps c) (run-proc r comps procs h c) s' xs)
  run-proc r comps procs h (For' name a n _ (more_of-Comp c end_of-Comp) p) s xs =
      with-run (ev r.library a s) xs _ _
      (λ v s'. with-run (ev r.library n s') xs _ _
      (λ w s''. counted-run (turns_of (num_of w)) (Some name) (num_of v) (proc r procs c) (tr r comps c) (run-proc r comps procs h c) s'' xs))
  run-proc r comps procs h (If' e _ (more_of-Comp a end_of-Comp) _ (more_of-Comp b end_of-Comp) p) s xs =
      with-run (ev r.library e s) xs _ _
      (λ v s'. choose-run (is_one v) (proc r procs a) (proc r procs b) (tr r comps a) (tr r comps b) s' xs (run-proc r comps procs h a s' xs)
      (run-proc r comps procs h b s' xs))
  run-proc r comps procs h (Map f k p) s xs =
      turns-run s.left always (mapped_proc r.library k) (mapped r.library k) (mapped-run r.library k) s xs
  run-proc r comps procs h (Filter f k p) s xs =
      turns-run s.left always (filtered_proc r.library k) (filtered r.library k) (filtered-run r.library k) s xs
  run-proc r comps procs h (Call name k es) s xs =
      arguments_proc-run r.library es [] s xs _ _ (λ vs s'. tick-run s' xs _ _ (λ s''. h.runs k vs s'' xs))
  run-proc r comps procs h (Block' _ ms p) s xs = run-members r comps procs h ms (depth s.store) UnitVal s xs
  run-proc r comps procs h (Pipe' link _ (more_of-Comp a end_of-Comp) _ (more_of-Comp b end_of-Comp) p) s xs =
      piped-run (assigns r.assigned a) s (proc r procs b (fresh s)) (proc r procs a s) ((proceeds-proc r procs h.evaluate h.proceed b).counts (fresh s))
      ((proceeds-proc r procs h.evaluate h.proceed a).counts s) xs
      ∙ ap (λ t. compose (assigns r.assigned a) s xs t (run (proc r procs b (fresh s)) (values t.outs))) (run-proc r comps procs h a s xs)
      ∙ ap (λ t. compose (assigns r.assigned a) s xs (tr r comps a s xs) t) (run-proc r comps procs h b (fresh s) (values (tr r comps a s xs).outs))

  -- and a run of the members of a block
  run-members : {m : _} (r : Around) (comps : Comps) (procs : Procs) → Sound r comps procs → (ms : Row_of-Member m) (n : ℕ) (v : Val) (s : State)
      (xs : List Val) → run (members_proc r procs ms n v s) xs ≡ members r comps ms n v s xs
  run-members r comps procs h end_of-Member n v s xs = refl
  run-members r comps procs h (more_of-Member (Bind name c) ms) n v s xs =
      then-run (proc r procs c s) (tr r comps c s xs) _ _ xs (run-proc r comps procs h c s xs)
      (λ w s' ys. run-members r comps procs h ms n w (bind name.id w s') ys)
  run-members r comps procs h (more_of-Member (Var var) ms) n v s xs =
      with-run (initial_of r.library var.ty var.initial s) xs _ _ (λ w s'. run-members r comps procs h ms n UnitVal (bind var.name.id w s') xs)
  run-members r comps procs h (more_of-Member (Run c) ms) n v s xs =
      then-run (proc r procs c s) (tr r comps c s xs) _ _ xs (run-proc r comps procs h c s xs) (λ w s' ys. run-members r comps procs h ms n w s' ys)
