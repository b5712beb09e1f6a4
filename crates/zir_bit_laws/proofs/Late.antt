-- What comes after a place of a process stands at no fewer ticks, and what is past the limit is spent.
use Rattle.std.specs.Prelude.{ℕ, zero, suc, ◌+◌, ◌≤◌, ◌<◌, List, [], ◌∷◌, ◌≡◌, refl, Bool, true, false, nat_le}
use Rattle.std.proofs.Common.{arith}
use Rattle.std.proofs.lemmas.Bool.{lt-leb}
use Rattle.zir_bit_tree.specs.declared.value.Val.{Val}
use Rattle.zir_bit_tree.specs.declared.ends.End.{End}
use Rattle.zir_bit_tree.specs.declared.ends.End.TheVariants.{Value, Starved, Trap as Trapped, Spent}
use Rattle.zir_bit_meaning.specs.Trace.{State, Point, Out, Trace, spent}
use Rattle.zir_bit_meaning.specs.Composition.{point_at, within}
use Rattle.zir_bit_laws.specs.Prefixes.{OutsFrom, EndFrom}
use Rattle.zir_bit_laws.specs.Process.{Proc, Gives, Ends, Needs, run, holds}
use Rattle.zir_bit_laws.proofs.Counts.{Counts}

-- a spent trace is the same within any limit
pub within-spent : (b : Bool) → within b spent ≡ spent
within-spent true = refl
within-spent false = refl

-- past the limit nothing stands
pub past-limit : (limit n : ℕ) (t : Trace) → limit < n → within (nat_le n limit) t ≡ spent
past-limit limit n t h = rw (lt-leb n limit h) refl

-- a test on a process is the same test on its trace
pub run-holds : (b : Bool) (p : Proc) (xs : List Val) → run (holds b p) xs ≡ within b (run p xs)
run-holds true p xs = refl
run-holds false p xs = refl

-- outputs from some ticks on are from fewer ticks on
pub outs-earlier : (t u : ℕ) (os : List Out) → u ≤ t → OutsFrom t os → OutsFrom u os
outs-earlier t u [] le h = tt
outs-earlier t u (o ∷ os) le h = (omega arith, outs-earlier t u os le h.1)

-- an end from some ticks on is from fewer ticks on
pub end-earlier : (t u : ℕ) (e : End) (s : State) → u ≤ t → EndFrom t e s → EndFrom u e s
end-earlier t u (Value v) s le h = omega arith
end-earlier t u Starved s le h = omega arith
end-earlier t u (Trapped c) s le h = omega arith
end-earlier t u Spent s le h = tt

-- the outputs of a process that counts from so many ticks
pub late-outs : (p : Proc) (k t : ℕ) → Counts k t p → (xs : List Val) → OutsFrom t (run p xs).outs
late-outs (Gives o p) k t h xs = (h.1, outs-earlier o.at.ticks t (run p xs).outs h.1 (late-outs p k o.at.ticks h.2 xs))
late-outs (Ends (Value v) s) k t h xs = tt
late-outs (Ends Starved s) k t h xs = tt
late-outs (Ends (Trapped c) s) k t h xs = tt
late-outs (Ends Spent s) k t h xs = tt
late-outs (Needs s f) k t h [] = tt
late-outs (Needs s f) k t h (x ∷ xs) = outs-earlier s.ticks t (run (f x) xs).outs h.1 (late-outs (f x) (k + 1) s.ticks (h.2 x) xs)

-- the end of a process that counts from so many ticks
pub late-end : (p : Proc) (k t : ℕ) → Counts k t p → (xs : List Val) → EndFrom t (run p xs).end (run p xs).last
late-end (Gives o p) k t h xs = end-earlier o.at.ticks t (run p xs).end (run p xs).last h.1 (late-end p k o.at.ticks h.2 xs)
late-end (Ends (Value v) s) k t h xs = h.1
late-end (Ends Starved s) k t h xs = absurd h
late-end (Ends (Trapped c) s) k t h xs = h.1
late-end (Ends Spent s) k t h xs = tt
late-end (Needs s f) k t h [] = h.1
late-end (Needs s f) k t h (x ∷ xs) = end-earlier s.ticks t (run (f x) xs).end (run (f x) xs).last h.1 (late-end (f x) (k + 1) s.ticks (h.2 x) xs)

-- the points of outputs from so many ticks on
pub late-point : (t : ℕ) (p : Point) (os : List Out) (i : ℕ) → t ≤ p.ticks → OutsFrom t os → t ≤ (point_at p os i).ticks
late-point t p os zero h hs = h
late-point t p [] (suc i) h hs = h
late-point t p (o ∷ os) (suc i) h hs = late-point t o.at os i hs.0 hs.1
