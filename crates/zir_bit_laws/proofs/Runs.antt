-- The runs of a component's process are its traces.
use Rattle.std.specs.Prelude.{ℕ, zero, suc, ◌+◌, List, [], ◌∷◌, ◌≡◌, refl, length}
use Rattle.std.proofs.Common.{ap, ◌∙◌}
use Rattle.zir_bit_tree.specs.declared.value.Val.{Val}
use Rattle.zir_bit_tree.specs.declared.value.Val.TheVariants.{Unit as UnitVal}
use Rattle.zir_bit_tree.specs.declared.ends.End.{End}
use Rattle.zir_bit_tree.specs.declared.ends.End.TheVariants.{Value, Starved, Trap as Trapped, Spent}
use Rattle.zir_bit_tree.specs.declared.tree.Comp.{Comp, Take, Emit, Return, Block', Repeat', Pipe', end_of-Comp, more_of-Comp, Row_of-Member, end_of-Member, more_of-Member}
use Rattle.zir_bit_meaning.specs.Trace.{State, Out, Trace, ends, gives, after, Next, then_end, then_do, tick, tick_of}
use Rattle.zir_bit_meaning.specs.Evaluation.{Eval, Got, Traps, RunsOut, ev, with_value}
use Rattle.zir_bit_meaning.specs.Composition.{compose, fresh, values}
use Rattle.zir_bit_meaning.specs.Component.{take_of, turns, bind, assigns, tr, members}
use Rattle.zir_bit_laws.specs.Process.{Proc, Gives, Ends, Needs, run, NextProc, then_proc, tick_proc, tick_proc_of, with_proc, turns_proc, proc, members_proc}
use Rattle.zir_bit_laws.proofs.Counts.{counts-proc}
use Rattle.zir_bit_laws.proofs.Joins.{piped-run}

-- an output before an end and what follows it
gives-end : (e : End) (o : Out) (os : List Out) (s : State) (xs : List Val) (next : Next) → gives o (then_end e os s xs next) ≡ then_end e (o ∷ os) s xs next
gives-end (Value v) o os s xs next = refl
gives-end Starved o os s xs next = refl
gives-end (Trapped c) o os s xs next = refl
gives-end Spent o os s xs next = refl

-- a run of a process and what follows it
pub run-then : (p : Proc) (k : NextProc) (xs : List Val) → run (then_proc p k) xs ≡ then_do (run p xs) (λ v s ys. run (k v s) ys)
run-then (Gives o p) k xs =
    ap (gives o) (run-then p k xs) ∙ gives-end (run p xs).end o (run p xs).outs (run p xs).last (run p xs).rest (λ v s ys. run (k v s) ys)
run-then (Ends (Value v) s) k xs = refl
run-then (Ends Starved s) k xs = refl
run-then (Ends (Trapped c) s) k xs = refl
run-then (Ends Spent s) k xs = refl
run-then (Needs s f) k [] = refl
run-then (Needs s f) k (x ∷ xs) = run-then (f x) k xs

-- an end and what follows it, where the same follows
then_end-same : (e : End) (os : List Out) (s : State) (xs : List Val) (f g : Next) → ((v : Val) (s : State) (ys : List Val) → f v s ys ≡ g v s ys) → then_end e os s xs f ≡ then_end e os s xs g
then_end-same (Value v) os s xs f g h = ap (after os) (h v s xs)
then_end-same Starved os s xs f g h = refl
then_end-same (Trapped c) os s xs f g h = refl
then_end-same Spent os s xs f g h = refl

-- a trace and what follows it, where the same follows
then_do-same : (t : Trace) (f g : Next) → ((v : Val) (s : State) (ys : List Val) → f v s ys ≡ g v s ys) → then_do t f ≡ then_do t g
then_do-same t f g h = then_end-same t.end t.outs t.last t.rest f g h

-- one of these ticks, and then what follows
tick_of-run : (n : ℕ) (s : State) (xs : List Val) (p : State → Proc) (next : State → List Val → Trace) → ((s' : State) → run (p s') xs ≡ next s' xs) → run (tick_proc_of n s p) xs ≡ tick_of n s xs next
tick_of-run zero s xs p next h = refl
tick_of-run (suc n) s xs p next h = h (record s { ticks = s.ticks + 1; left = n })

-- one tick, and then what follows
tick-run : (s : State) (xs : List Val) (p : State → Proc) (next : State → List Val → Trace) → ((s' : State) → run (p s') xs ≡ next s' xs) → run (tick_proc s p) xs ≡ tick s xs next
tick-run s xs p next h = tick_of-run s.left s xs p next h

-- an evaluation and what follows it
with-run : (e : Eval) (xs : List Val) (k : NextProc) (next : Next) → ((v : Val) (s : State) → run (k v s) xs ≡ next v s xs) → run (with_proc e k) xs ≡ with_value e xs next
with-run (Got v s) xs k next h = h v s
with-run (Traps c s) xs k next h = refl
with-run RunsOut xs k next h = refl

-- one element
take-run : (s : State) (xs : List Val) → run (Needs s (λ x. tick_proc s (λ s'. Ends (Value x) (record s' { taken = s'.taken + 1 })))) xs ≡ take_of s xs
take-run s [] = refl
take-run s (x ∷ xs) =
    tick-run s xs (λ s'. Ends (Value x) (record s' { taken = s'.taken + 1 })) (λ s' ys. ends (Value x) (record s' { taken = s'.taken + 1 }) ys) (λ s'. refl)

-- a process and what follows it
then-run : (p : Proc) (t : Trace) (k : NextProc) (next : Next) (xs : List Val) → run p xs ≡ t → ((v : Val) (s : State) (ys : List Val) → run (k v s) ys ≡ next v s ys) → run (then_proc p k) xs ≡ then_do t next
then-run p t k next xs e h = run-then p k xs ∙ ap (λ t. then_do t (λ v s ys. run (k v s) ys)) e ∙ then_do-same t (λ v s ys. run (k v s) ys) next h

-- turns of a body
turns-run : (most : ℕ) (p : State → Proc) (body : State → List Val → Trace) → ((s : State) (xs : List Val) → run (p s) xs ≡ body s xs) → (s : State) (xs : List Val) → run (turns_proc most p s) xs ≡ turns most body s xs
turns-run zero p body h s xs = refl
turns-run (suc most) p body h s xs =
    tick-run s xs (λ s'. then_proc (p s') (λ v s''. turns_proc most p s'')) (λ s' ys. then_do (body s' ys) (λ v s'' zs. turns most body s'' zs))
    (λ s'. then-run (p s') (body s' xs) (λ v s''. turns_proc most p s'') (λ v s'' zs. turns most body s'' zs) xs (h s' xs) (λ v s'' ys. turns-run most p body h s'' ys))

mutual
  -- a run of a component's process is the component's trace
  pub run-proc : (c : Comp) (s : State) (xs : List Val) → run (proc c s) xs ≡ tr c s xs
  run-proc (Take p) s xs = take-run s xs
  run-proc (Emit e p) s xs = with-run (ev e s) xs _ _ (λ v s'. tick-run s' xs _ _ (λ s''. refl))
  run-proc (Return e p) s xs = with-run (ev e s) xs _ _ (λ v s'. tick-run s' xs _ _ (λ s''. refl))
  run-proc (Block' _ ms p) s xs = run-members ms (length s.store) UnitVal s xs
  run-proc (Repeat' _ (more_of-Comp c end_of-Comp) p) s xs = turns-run s.left (proc c) (tr c) (run-proc c) s xs
  run-proc (Pipe' _ (more_of-Comp a end_of-Comp) _ (more_of-Comp b end_of-Comp) p) s xs =
      piped-run (assigns a) s (proc b (fresh s)) (proc a s) (counts-proc b (fresh s)) (counts-proc a s) xs
      ∙ ap (λ t. compose (assigns a) s xs t (run (proc b (fresh s)) (values t.outs))) (run-proc a s xs)
      ∙ ap (λ t. compose (assigns a) s xs (tr a s xs) t) (run-proc b (fresh s) (values (tr a s xs).outs))

  -- and a run of the members of a block
  pub run-members : {m : _} (ms : Row_of-Member m) (n : ℕ) (v : Val) (s : State) (xs : List Val) → run (members_proc ms n v s) xs ≡ members ms n v s xs
  run-members end_of-Member n v s xs = refl
  run-members (more_of-Member name c ms) n v s xs =
      then-run (proc c s) (tr c s xs) _ _ xs (run-proc c s xs) (λ w s' ys. run-members ms n w (bind name w s') ys)
