-- The law of costs, by the process.
use Rattle.std.specs.Prelude.{ℕ, ◌+◌, ◌-◌, ◌≤◌, List, [], ◌∷◌, ◌≡◌, length}
use Rattle.std.proofs.Common.{arith, subst}
use Rattle.zir_tree.specs.declared.value.Val.{Val}
use Rattle.zir_tree.specs.declared.ends.End.TheVariants.{Value, Starved, Trap as Trapped, Spent}
use Rattle.zir_meaning.specs.Composition.{limit}
use Rattle.zir_laws.specs.Costs.{CostsTicks, Costs}
use Rattle.zir_laws.specs.Process.{Proc, Gives, Ends, Needs, run}
use Rattle.zir_laws.proofs.Bounded.{Bounded}
use Rattle.zir_laws.specs.Acts.{acts}
use Rattle.zir_laws.proofs.Programs.{proceeds-acts, run-acts}

-- a process that is bounded by n ticks from t of them on: how many outputs it gives, and over how many elements it starves
costs-run : (p : Proc) (n t : ℕ) → Bounded n t p → (xs : List Val) → (length (run p xs).outs ≤ n - t) × ((run p xs).end ≡ Starved → length xs + t ≤ n)
costs-run (Gives o p) n t h xs = let r = costs-run p n o.at.ticks h.2 xs in (omega arith, λ e. omega (arith, r.1 e))
costs-run (Ends (Value v) s) n t h xs = (omega arith, λ e. absurd (cc))
costs-run (Ends Starved s) n t h xs = absurd h
costs-run (Ends (Trapped c) s) n t h xs = (omega arith, λ e. absurd (cc))
costs-run (Ends Spent s) n t h xs = (omega arith, λ e. absurd (cc))
costs-run (Needs s f) n t h [] = (omega arith, λ e. omega arith)
costs-run (Needs s f) n t h (x ∷ xs) = let r = costs-run (f x) n (s.ticks + 1) (h.2 x) xs in (omega arith, λ e. omega (arith, r.1 e))

-- the law of costs
pub costs : Costs
costs core c s xs =
    let r = costs-run (acts core c s) (limit s) s.ticks ((proceeds-acts core c).bounded s) xs in
    subst (CostsTicks s.left xs) (run-acts core c s xs) (record { outs = omega arith; taken = λ e. omega (arith, r.1 e) })
