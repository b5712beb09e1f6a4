-- The law of budgets, by the process.
use Rattle.std.specs.Prelude.{ℕ, ◌+◌, List, [], ◌∷◌, refl}
use Rattle.std.proofs.Common.{sym, ap, subst}
use Rattle.zir_tree.specs.declared.value.Val.{Val}
use Rattle.zir_tree.specs.declared.ends.End.{End}
use Rattle.zir_tree.specs.declared.ends.End.TheVariants.{Value, Starved, Trap as Trapped, Spent}
use Rattle.zir_meaning.specs.Trace.{Out, Trace, gives}
use Rattle.zir_meaning.specs.Composition.{limit}
use Rattle.zir_meaning.specs.Instances.{means}
use Rattle.zir_laws.specs.Budgets.{richer, Funds, Budgets}
use Rattle.zir_laws.specs.Process.{Proc, Gives, Ends, Needs, run}
use Rattle.zir_laws.specs.Acts.{acts}
use Rattle.zir_laws.proofs.Late.{late-outs, late-end}
use Rattle.zir_laws.proofs.Funded.{Funded}
use Rattle.zir_laws.proofs.Programs.{proceeds-acts, run-acts}

-- an output before both traces
gives-funds : (e : End) (n m : ℕ) (o : Out) (t t' : Trace) → Funds e n m t t' → Funds e n m (gives o t) (gives o t')
gives-funds (Value v) n m o t t' h = ap (gives o) h
gives-funds Starved n m o t t' h = ap (gives o) h
gives-funds (Trapped c) n m o t t' h = ap (gives o) h
gives-funds Spent n m o t t' h = record { more = h.more; outs = ap (λ os. o ∷ os) h.outs; later = h.later; end_later = h.end_later }

-- the runs of the processes of two budgets
run-funds : (p q : Proc) (n m : ℕ) → Funded n m p q → (xs : List Val) → Funds (run p xs).end n m (run p xs) (run q xs)
run-funds (Gives o p) (Gives o' q) n m h xs =
    subst (λ o'. Funds (run p xs).end n m (gives o (run p xs)) (gives o' (run q xs))) (sym h.0)
    (gives-funds (run p xs).end n m o (run p xs) (run q xs) (run-funds p q n m h.1 xs))
run-funds (Gives o p) (Ends e s) n m h xs = absurd h
run-funds (Gives o p) (Needs s f) n m h xs = absurd h
run-funds (Ends (Value v) s) q n m h xs = ap (λ q. run q xs) h.0
run-funds (Ends Starved s) q n m h xs = absurd h
run-funds (Ends (Trapped c) s) q n m h xs = ap (λ q. run q xs) h
run-funds (Ends Spent s) q n m h xs =
    record { more = (run q xs).outs; outs = refl; later = late-outs q h.0 (n + 1) h.1 xs; end_later = late-end q h.0 (n + 1) h.1 xs }
run-funds (Needs s f) (Needs s' g) n m h [] = ap (λ s. run (Needs s g) []) h.0
run-funds (Needs s f) (Needs s' g) n m h (x ∷ xs) = run-funds (f x) (g x) n m (h.1 x) xs
run-funds (Needs s f) (Gives o q) n m h xs = absurd h
run-funds (Needs s f) (Ends e s') n m h xs = absurd h

-- the law of budgets
pub budgets : Budgets
budgets core c m s xs =
    subst (λ t. Funds t.end (limit s) m t (means core c (richer m s) xs)) (run-acts core c s xs)
    (subst (λ t. Funds (run (acts core c s) xs).end (limit s) m (run (acts core c s) xs) t) (run-acts core c (richer m s) xs)
    (run-funds (acts core c s) (acts core c (richer m s)) (limit s) m ((proceeds-acts core c).funded m s) xs))
