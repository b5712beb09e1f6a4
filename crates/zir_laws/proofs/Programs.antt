-- The instances of a program proceed, and their runs are their traces; so do the components of a program.
use Rattle.std.specs.Prelude.{ℕ, suc, List, [], ◌∷◌, ◌≡◌, refl, Bool, true, false, nat_eq}
use Rattle.zir_tree.specs.declared.value.Val.{Val}
use Rattle.zir_tree.specs.declared.comp.Comp.{Comp}
use Rattle.zir_tree.specs.declared.program.Instance.{Instance}
use Rattle.zir_tree.specs.declared.program.Core.{Core}
use Rattle.zir_meaning.specs.Trace.{State}
use Rattle.zir_meaning.specs.Functions.{pick}
use Rattle.zir_meaning.specs.Component.{Does, Around, Comps, tr}
use Rattle.zir_meaning.specs.Instances.{called, no_comps, one_more, more_comps, comps_of, around, means}
use Rattle.zir_laws.specs.Process.{Proc, run, Procs, proc}
use Rattle.zir_laws.specs.Acts.{AsProcess, called_proc, no_procs, one_more_proc, more_procs, calls_of, acts}
use Rattle.zir_laws.proofs.Evaluating.{FunsEvaluate}
use Rattle.zir_laws.proofs.Functions.{evaluates-library}
use Rattle.zir_laws.proofs.Proceeding.{Proceeds, proceeds-spent, proceeds-called}
use Rattle.zir_laws.proofs.Components.{proceeds-proc}
use Rattle.zir_laws.proofs.Running.{RunsAs, Sound, called-run, run-proc}

-- one of two calls
proceeds-pick : (b : Bool) (p q : List Val → State → Proc) (vs : List Val) → Proceeds (p vs) → Proceeds (q vs) → Proceeds (pick b p q vs)
proceeds-pick true p q vs h g = h
proceeds-pick false p q vs h g = g

run-pick : (b : Bool) (p q : List Val → State → Proc) (f g : List Val → Does) (vs : List Val) → RunsAs (p vs) (f vs) → RunsAs (q vs) (g vs) →
    RunsAs (pick b p q vs) (pick b f g vs)
run-pick true p q f g vs h k = h
run-pick false p q f g vs h k = k

-- no instance
sound-none : (r : Around) → FunsEvaluate r.library.funs → Sound r no_comps no_procs
sound-none r h = record { evaluate = h; proceed = λ k vs. proceeds-spent; runs = λ k vs s xs. refl }

-- one more instance
sound-one : (r : Around) (comps : Comps) (procs : Procs) (n : ℕ) (i : Instance) → Sound r comps procs →
    Sound r (one_more r comps n i) (one_more_proc r procs n i)
sound-one r comps procs n i h = record {
  evaluate = h.evaluate;
  proceed = λ k vs. proceeds-pick (nat_eq k n) (called_proc i.params (proc r procs i.body)) (procs k) vs
      (proceeds-called i.params (proc r procs i.body) vs (proceeds-proc r procs h.evaluate h.proceed i.body)) (h.proceed k vs);
  runs = λ k vs. run-pick (nat_eq k n) (called_proc i.params (proc r procs i.body)) (procs k) (called i.params (tr r comps i.body)) (comps k) vs
      (called-run i.params (proc r procs i.body) (tr r comps i.body) (run-proc r comps procs h i.body) vs) (h.runs k vs);
}

-- instances behind others
sound-more : (r : Around) (comps : Comps) (procs : Procs) (n : ℕ) (is : List Instance) → Sound r comps procs →
    Sound r (more_comps r comps n is) (more_procs r procs n is)
sound-more r comps procs n [] h = h
sound-more r comps procs n (i ∷ is) h = sound-more r (one_more r comps n i) (one_more_proc r procs n i) (suc n) is (sound-one r comps procs n i h)

-- the functions and the instances of a program
pub sound-of : (core : Core) → Sound (around core) (comps_of (around core) core.instances) (calls_of core)
sound-of core =
    sound-more (around core) no_comps no_procs 0 core.instances (sound-none (around core) (evaluates-library core.structs core.functions))

-- each component of a program
pub proceeds-acts : (core : Core) (c : Comp) → Proceeds (λ s. acts core c s)
proceeds-acts core c = let h = sound-of core in proceeds-proc (around core) (calls_of core) h.evaluate h.proceed c

-- and its runs
pub run-acts : (core : Core) (c : Comp) (s : State) (xs : List Val) → run (acts core c s) xs ≡ means core c s xs
run-acts core c s xs = run-proc (around core) (comps_of (around core) core.instances) (calls_of core) (sound-of core) c s xs

-- the law of processes
pub as_process : AsProcess
as_process = run-acts
