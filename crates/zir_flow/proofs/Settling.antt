-- Values that go back to the first free cells.
use Rattle.std.specs.Prelude.{ℕ, ℤ, ◌+◌, ◌<◌, ◌≤◌, ◌^◌, List, [], ◌∷◌, Bool, true, false, ◌≡◌, ◌⊎◌, refl, length, nat_eq, slice_get}
use Rattle.std.proofs.Common.{ap, ◌∙◌, sym, subst, arith, inl, inr}
use Rattle.std.proofs.lemmas.Bool.{eqb-true}
use Rattle.zir_meaning.specs.Functions.{pick}
use Rattle.zir_expr.specs.declared.frame.Spot.TheVariants.{Local}
use Rattle.zir_expr.specs.declared.steps.Step.{Step}
use Rattle.zir_expr.specs.Memory.{Done, after, moved, from_base}
use Rattle.zir_expr.specs.Memory.Frames.{Memory}
use Rattle.zir_expr.specs.Running.{go_all}
use Rattle.zir_code.specs.Coding.{moving, settling}
use Rattle.zir_code.specs.Holding.{At}
use Rattle.zir_code.proofs.Kept.{low_place, Changed}
use Rattle.zir_code.proofs.Blank.{no_change}
use Rattle.zir_code.proofs.Moves.{Moved, moves, moved_at, moving_goes, Goes as Ending}
use Rattle.zir_flow.specs.declared.instruction.Instruction.{Instruction}
use Rattle.zir_flow.specs.declared.instruction.Instruction.TheVariants.{Run}
use Rattle.zir_flow.specs.Threads.{Thread, Goes, after_steps, next_with}
use Rattle.zir_flow.specs.Stages.{Alone, Room}
use Rattle.zir_flow.specs.Flowing.{run_some}
use Rattle.zir_flow.specs.Program.{CodeAt}
use Rattle.zir_flow.proofs.Reaching.{Reaches, stays}
use Rattle.zir_flow.proofs.Straight.{code_here, next_place, goes_to}

-- cells stand from a cell of the body on, and no others have changed but so many from there
pub record Settled (base to size : ℕ) (xs : List ℤ) (m m' : Memory) : Type 0 where
  pub cells : At m'.cells (from_base base to) xs
  pub changed : Changed (base + to) (base + to + size) m m'

none_stand : (cells : List ℤ) (i : ℕ) (xs : List ℤ) → length xs ≡ 0 → At cells i xs
none_stand cells i [] e = tt
none_stand cells i (x ∷ xs) e = absurd (cc)

-- nothing is moved where there is nothing
settles_none : (b : Bool) (base at to : ℕ) (xs : List ℤ) (m : Memory) → length xs ≡ 0 →
    Ending (Settled base to 0 xs m) (go_all (pick b [] (moving (Local to) (Local at) 0)) base m)
settles_none true base at to xs m e =
    record { memory = m; is = refl; so = record { cells = none_stand m.cells (from_base base to) xs e; changed = no_change (base + to) (base + to + 0) m } }
settles_none false base at to xs m e =
    record { memory = m; is = refl; so = record { cells = none_stand m.cells (from_base base to) xs e; changed = no_change (base + to) (base + to + 0) m } }

-- cells move to those further down, or stand there
settles_some : (b : Bool) (base at to n size : ℕ) (xs : List ℤ) (m : Memory) → nat_eq at to ≡ b → to ≤ at → at + size ≤ n → base + n ≤ length m.cells →
    length m.cells < 2 ^ 63 → length xs ≡ size → At m.cells (from_base base at) xs →
    Ending (Settled base to size xs m) (go_all (pick b [] (moving (Local to) (Local at) size)) base m)
settles_some true base at to n size xs m e low fit room small l h = record {
  memory = m;
  is = refl;
  so = record {
    cells = subst (λ k. At m.cells (from_base base k) xs) (eqb-true at to e) h;
    changed = no_change (base + to) (base + to + size) m;
  };
}
settles_some false base at to n size xs m e low fit room small l h =
    let p : from_base base at ≡ base + at = low_place base at (omega arith) in
    let q : from_base base to ≡ base + to = low_place base to (omega arith) in
    let m' : Memory = moved size (from_base base to) (from_base base at) m in
    let r : Moved size (from_base base to) (from_base base at) m m' =
    moves size (from_base base to) (from_base base at) m (inl (omega arith)) (omega arith) (omega arith) small in
    record {
      memory = m';
      is = moving_goes (Local to) (Local at) size base m;
      so = record {
        cells = moved_at size (from_base base to) (from_base base at) m m' xs l (omega arith) r h;
        changed = subst (λ i. Changed i (i + size) m m') q r.changed;
      };
    }

-- the code that settles a value at cells further down
pub settles_down : (base at to n size : ℕ) (xs : List ℤ) (m : Memory) → to ≤ at → (at + size ≤ n) ⊎ (size ≡ 0) → base + n ≤ length m.cells →
    length m.cells < 2 ^ 63 → length xs ≡ size → At m.cells (from_base base at) xs →
    Ending (Settled base to size xs m) (go_all (settling (Local at) to size) base m)
settles_down base at to n size xs m low fit room small l h = elim fit [
  | inl le ↦ settles_some (nat_eq at to) base at to n size xs m refl low le room small l h
  | inr z ↦ subst (λ k. Ending (Settled base to k xs m) (go_all (settling (Local at) to k) base m)) (sym z)
      (settles_none (nat_eq at to) base at to xs m (l ∙ z))
]

-- a thread behind straight code, if there is any
pub record Ran (code : List Instruction) (place : ℕ) (th : Thread) (room : Room) (m : Memory) : Type 0 where
  pub at : ℕ
  pub is : at ≡ place
  pub reaches : Reaches code (Alone th room) (Alone (record th { place = at; memory = m }) room)

pub some_run : (code : List Instruction) (place : ℕ) (steps : List Step) (th : Thread) (room : Room) (m : Memory) →
    CodeAt code place (run_some steps) → th.place ≡ place → place + 1 < 2 ^ 64 → go_all steps th.base th.memory ≡ Done m →
    Ran code (place + length (run_some steps)) th room m
some_run code place [] th room m c e lt r =
    let same : th.memory ≡ m = cc in
    record {
      at = th.place;
      is = e ∙ (let z : place ≡ place + 0 = omega arith in z);
      reaches = subst (λ m'. Reaches code (Alone th room) (Alone (record th { memory = m' }) room)) same (stays code (Alone th room));
    }
some_run code place (s ∷ steps) th room m c e lt r = record {
  at = from_base (after th.place) 0;
  is = ap (λ p. from_base (after p) 0) e ∙ next_place place lt;
  reaches = goes_to code (Run (s ∷ steps)) th (next_with th m) room (ap (slice_get code) e ∙ code_here code place (Run (s ∷ steps)) [] c)
      (ap (λ q. after_steps q (λ m'. Goes (next_with th m')) th) r);
}
