-- The processes of the instances of a program, each over those before it, and the process of a component in a program.
use Rattle.std.specs.Prelude.{ℕ, suc, List, [], ◌∷◌, ◌≡◌, nat_eq}
use Rattle.zir_tree.specs.declared.value.Val.{Val}
use Rattle.zir_tree.specs.declared.value.Slot.{Slot}
use Rattle.zir_tree.specs.declared.types.Field.{Field}
use Rattle.zir_tree.specs.declared.comp.Comp.{Comp}
use Rattle.zir_tree.specs.declared.program.Instance.{Instance}
use Rattle.zir_tree.specs.declared.program.Core.{Core}
use Rattle.zir_meaning.specs.Trace.{State}
use Rattle.zir_meaning.specs.Functions.{entered, back, pick}
use Rattle.zir_meaning.specs.Component.{Around}
use Rattle.zir_meaning.specs.Instances.{out_seen, last_seen, around, means}
use Rattle.zir_laws.specs.Process.{Proc, Gives, Ends, Needs, spent_proc, run, Procs, proc}

-- the process of a called body as its caller sees it: at each point the names of the caller are in scope
abbrev pub seen_proc : List Slot → Proc → Proc
seen_proc locals (Gives o p) = Gives (out_seen locals o) (seen_proc locals p)
seen_proc locals (Ends e s) = Ends e (last_seen locals e s)
seen_proc locals (Needs s f) = Needs (back locals s) (λ x. seen_proc locals (f x))

-- a call of a body with these arguments
abbrev pub called_proc : List Field → (State → Proc) → List Val → State → Proc
called_proc ps body vs s = seen_proc s.store.locals (body (entered ps vs s))

-- no instance is declared yet
abbrev pub no_procs : Procs
no_procs k vs s = spent_proc

-- one more instance, at this place
abbrev pub one_more_proc : Around → Procs → ℕ → Instance → Procs
one_more_proc r procs n i k = pick (nat_eq k n) (called_proc i.params (proc r procs i.body)) (procs k)

-- these instances behind n others
abbrev pub more_procs : Around → Procs → ℕ → List Instance → Procs
more_procs r procs n [] = procs
more_procs r procs n (i ∷ is) = more_procs r (one_more_proc r procs n i) (suc n) is

-- all instances, from front to back
abbrev pub procs_of : Around → List Instance → Procs
procs_of r is = more_procs r no_procs 0 is

-- what a call of an instance of a program does as a process, by the instance's place
abbrev pub calls_of : Core → Procs
calls_of core = procs_of (around core) core.instances

-- what a component does in a program as a process
abbrev pub acts : Core → Comp → State → Proc
acts core c = proc (around core) (calls_of core) c

-- a component as a process gives its trace
abbrev pub AsProcess : Type 0
AsProcess = (core : Core) (c : Comp) (s : State) (xs : List Val) → run (acts core c s) xs ≡ means core c s xs
