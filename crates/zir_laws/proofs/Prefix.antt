-- The law of prefixes, by the process.
use Rattle.std.specs.Prelude.{ℕ, suc, ◌+◌, List, [], ◌∷◌, ◌++◌, ◌≡◌, refl, length}
use Rattle.std.proofs.Common.{ap, arith, subst}
use Rattle.zir_tree.specs.declared.value.Val.{Val}
use Rattle.zir_tree.specs.declared.ends.End.{End}
use Rattle.zir_tree.specs.declared.ends.End.TheVariants.{Value, Starved, Trap as Trapped, Spent}
use Rattle.zir_meaning.specs.Trace.{Out, Trace, gives}
use Rattle.zir_meaning.specs.Instances.{means}
use Rattle.zir_laws.specs.Prefixes.{Extends, Prefixes}
use Rattle.zir_laws.specs.Process.{Proc, Gives, Ends, Needs, run}
use Rattle.zir_laws.proofs.Counts.{Counts}
use Rattle.zir_laws.proofs.Late.{late-outs, late-end}
use Rattle.zir_laws.specs.Acts.{acts}
use Rattle.zir_laws.proofs.Programs.{proceeds-acts, run-acts}

-- an output before both traces
gives-extends : (e : End) (n : ℕ) (ys : List Val) (o : Out) (t t' : Trace) → Extends e n ys t t' → Extends e n ys (gives o t) (gives o t')
gives-extends (Value v) n ys o t t' h = ap (gives o) h
gives-extends Starved n ys o t t' h = record { all = h.all; more = h.more; outs = ap (λ os. o ∷ os) h.outs; later = h.later; end_later = h.end_later }
gives-extends (Trapped c) n ys o t t' h = ap (gives o) h
gives-extends Spent n ys o t t' h = ap (gives o) h

-- a process over elements and over more of them
pub run-extends : (p : Proc) (k t : ℕ) → Counts k t p → (xs ys : List Val) → Extends (run p xs).end (k + length xs) ys (run p xs) (run p (xs ++ ys))
run-extends (Gives o p) k t h xs ys = gives-extends (run p xs).end (k + length xs) ys o (run p xs) (run p (xs ++ ys)) (run-extends p k o.at.ticks h.2 xs ys)
run-extends (Ends (Value v) s) k t h xs ys = refl
run-extends (Ends Starved s) k t h xs ys = absurd h
run-extends (Ends (Trapped c) s) k t h xs ys = refl
run-extends (Ends Spent s) k t h xs ys = refl
run-extends (Needs s f) k t h [] [] = record { all = omega (arith, h.0); more = []; outs = refl; later = tt; end_later = omega arith }
run-extends (Needs s f) k t h [] (y ∷ ys) =
    record {
      all = omega (arith, h.0);
      more = (run (f y) ys).outs;
      outs = refl;
      later = late-outs (f y) (k + 1) s.ticks (h.2 y) ys;
      end_later = late-end (f y) (k + 1) s.ticks (h.2 y) ys;
    }
run-extends (Needs s f) k t h (x ∷ xs) ys =
    let e : k + 1 + length xs ≡ k + suc (length xs) = omega arith in
    subst (λ n. Extends (run (f x) xs).end n ys (run (f x) xs) (run (f x) (xs ++ ys))) e (run-extends (f x) (k + 1) s.ticks (h.2 x) xs ys)

-- the law of prefixes
pub prefixes : Prefixes
prefixes core c s xs ys =
    subst (λ t. Extends t.end (s.taken + length xs) ys t (means core c s (xs ++ ys))) (run-acts core c s xs)
    (subst (λ t. Extends (run (acts core c s) xs).end (s.taken + length xs) ys (run (acts core c s) xs) t) (run-acts core c s (xs ++ ys))
    (run-extends (acts core c s) s.taken s.ticks ((proceeds-acts core c).counts s) xs ys))
