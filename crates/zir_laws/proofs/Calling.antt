-- The law of calls.
use Rattle.std.specs.Prelude.{ℕ, zero, suc, ◌+◌, ◌<◌, List, [], ◌∷◌, Some, ◌≡◌, refl, slice_get, take}
use Rattle.std.proofs.Common.{sym, ap, ◌∙◌, arith, subst}
use Rattle.std.proofs.lemmas.Bool.{eq-eqb, ne_eqb}
use Rattle.zir_tree.specs.declared.program.Instance.{Instance}
use Rattle.zir_tree.specs.declared.program.Core.{Core}
use Rattle.zir_meaning.specs.Functions.{pick}
use Rattle.zir_meaning.specs.Component.{Around}
use Rattle.zir_meaning.specs.Instances.{around, means}
use Rattle.zir_laws.specs.Process.{run, Procs, proc}
use Rattle.zir_laws.specs.Acts.{called_proc, no_procs, one_more_proc, more_procs, procs_of, calls_of, acts}
use Rattle.zir_laws.specs.Calls.{CallsBelow, OrderedFrom, Ordered, Calls}
use Rattle.zir_laws.proofs.Equations.{funext}
use Rattle.zir_laws.proofs.Agreeing.{agree-proc}
use Rattle.zir_laws.proofs.Running.{called-run}
use Rattle.zir_laws.proofs.Programs.{sound-of, run-acts}

-- a call of an instance at another place
one-other : (r : Around) (procs : Procs) (n : ℕ) (i : Instance) (k : ℕ) → k < n → one_more_proc r procs n i k ≡ procs k
one-other r procs n i k lt =
    ap (λ b. pick b (called_proc i.params (proc r procs i.body)) (procs k)) (ne_eqb k n (λ e. absurd (omega arith)))

-- a call of the instance at its place
one-here : (r : Around) (procs : Procs) (n : ℕ) (i : Instance) → one_more_proc r procs n i n ≡ called_proc i.params (proc r procs i.body)
one-here r procs n i = ap (λ b. pick b (called_proc i.params (proc r procs i.body)) (procs n)) (eq-eqb n n refl)

-- a call of an instance before all of these
more-before : (r : Around) (procs : Procs) (n : ℕ) (is : List Instance) (k : ℕ) → k < n → more_procs r procs n is k ≡ procs k
more-before r procs n [] k lt = refl
more-before r procs n (i ∷ is) k lt = more-before r (one_more_proc r procs n i) (suc n) is k (omega arith) ∙ one-other r procs n i k lt

-- a call of one of these is its body over those before it
more-at : (r : Around) (procs : Procs) (n : ℕ) (is : List Instance) (k : ℕ) (i : Instance) → slice_get is k ≡ Some i →
    more_procs r procs n is (n + k) ≡ called_proc i.params (proc r (more_procs r procs n (take k is)) i.body)
more-at r procs n [] k i e = absurd (cc)
more-at r procs n (j ∷ is) zero i e =
    let z : n + 0 ≡ n = omega arith in
    let q : j ≡ i = cc in
    ap (more_procs r procs n (j ∷ is)) z
    ∙ more-before r (one_more_proc r procs n j) (suc n) is n (omega arith)
    ∙ one-here r procs n j
    ∙ ap (λ i. called_proc i.params (proc r procs i.body)) q
more-at r procs n (j ∷ is) (suc k) i e =
    let z : n + suc k ≡ suc n + k = omega arith in
    ap (more_procs r (one_more_proc r procs n j) (suc n) is) z ∙ more-at r (one_more_proc r procs n j) (suc n) is k i e

-- below a place the instances from there on do not matter
more-take : (r : Around) (procs : Procs) (n : ℕ) (is : List Instance) (k j : ℕ) → j < n + k →
    more_procs r procs n (take k is) j ≡ more_procs r procs n is j
more-take r procs n [] zero j lt = refl
more-take r procs n [] (suc k) j lt = refl
more-take r procs n (i ∷ is) zero j lt = sym (more-before r procs n (i ∷ is) j (omega arith))
more-take r procs n (i ∷ is) (suc k) j lt = more-take r (one_more_proc r procs n i) (suc n) is k j (omega arith)

-- one of these calls instances before it alone
ordered-at : (n : ℕ) (is : List Instance) → OrderedFrom n is → (k : ℕ) (i : Instance) → slice_get is k ≡ Some i → CallsBelow (n + k) i.body
ordered-at n [] h k i e = absurd (cc)
ordered-at n (j ∷ is) h zero i e =
    let z : n ≡ n + 0 = omega arith in
    let q : j ≡ i = cc in
    subst (λ i. CallsBelow (n + 0) i.body) q (subst (λ m. CallsBelow m j.body) z h.0)
ordered-at n (j ∷ is) h (suc k) i e =
    let z : suc n + k ≡ n + suc k = omega arith in
    subst (λ m. CallsBelow m i.body) z (ordered-at (suc n) is h.1 k i e)

-- an instance is its body over those before it
calls-before : (core : Core) (k : ℕ) (i : Instance) → slice_get core.instances k ≡ Some i →
    calls_of core k ≡ called_proc i.params (proc (around core) (procs_of (around core) (take k core.instances)) i.body)
calls-before core k i e =
    let z : k ≡ 0 + k = omega arith in
    ap (calls_of core) z ∙ more-at (around core) no_procs 0 core.instances k i e

-- and where the instances are ordered over all of them
calls-ordered : (core : Core) (k : ℕ) (i : Instance) → slice_get core.instances k ≡ Some i → Ordered core →
    calls_of core k ≡ called_proc i.params (acts core i.body)
calls-ordered core k i e h =
    let r : Around = around core in
    let z : 0 + k ≡ k = omega arith in
    calls-before core k i e
    ∙ ap (called_proc i.params)
    (funext _ _ (agree-proc r k (procs_of r (take k core.instances)) (calls_of core)
    (λ j vs s lt. ap (λ p. p vs s) (more-take r no_procs 0 core.instances k j (omega arith))) i.body
    (subst (λ m. CallsBelow m i.body) z (ordered-at 0 core.instances h k i e))))

-- the law of calls
pub calls : Calls
calls core k i e = record {
  before = λ vs s. ap (λ p. p vs s) (calls-before core k i e);
  in_program = λ h vs s. ap (λ p. p vs s) (calls-ordered core k i e h);
  as_trace = λ h vs s xs.
      sym ((sound-of core).runs k vs s xs)
      ∙ ap (λ p. run (p vs s) xs) (calls-ordered core k i e h)
      ∙ called-run i.params (acts core i.body) (means core i.body) (run-acts core i.body) vs s xs;
}
