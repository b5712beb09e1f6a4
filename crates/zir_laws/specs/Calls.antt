-- The law of calls: what an instance does is what its body does.
use Rattle.std.specs.Prelude.{ℕ, suc, ◌<◌, List, [], ◌∷◌, Some, ◌≡◌, slice_get, take}
use Rattle.zir_tree.specs.declared.value.Val.{Val}
use Rattle.zir_tree.specs.declared.comp.Comp.{Comp, Take, Takes, Emit, Emits, Return, Do, Repeat', While', Times', For', If', Map, Filter, Call, Block', Pipe', end_of-Comp, more_of-Comp, Row_of-Member, end_of-Member, more_of-Member}
use Rattle.zir_tree.specs.declared.comp.Member.{Bind, Var, Run}
use Rattle.zir_tree.specs.declared.program.Instance.{Instance}
use Rattle.zir_tree.specs.declared.program.Core.{Core}
use Rattle.zir_meaning.specs.Trace.{State}
use Rattle.zir_meaning.specs.Instances.{called, around, comps_of, means}
use Rattle.zir_laws.specs.Process.{proc}
use Rattle.zir_laws.specs.Acts.{called_proc, procs_of, calls_of, acts}

abbrev mutual
  -- each instance that a component calls has a place below n
  pub CallsBelow : ℕ → Comp → Type 0
  CallsBelow n (Take p) = Unit {0}
  CallsBelow n (Takes k p) = Unit {0}
  CallsBelow n (Emit e p) = Unit {0}
  CallsBelow n (Emits e p) = Unit {0}
  CallsBelow n (Return e p) = Unit {0}
  CallsBelow n (Do body p) = Unit {0}
  CallsBelow n (Repeat' _ (more_of-Comp c end_of-Comp) p) = CallsBelow n c
  CallsBelow n (While' turning e _ (more_of-Comp c end_of-Comp) p) = CallsBelow n c
  CallsBelow n (Times' e _ (more_of-Comp c end_of-Comp) p) = CallsBelow n c
  CallsBelow n (For' name a m _ (more_of-Comp c end_of-Comp) p) = CallsBelow n c
  CallsBelow n (If' e _ (more_of-Comp a end_of-Comp) _ (more_of-Comp b end_of-Comp) p) = CallsBelow n a × CallsBelow n b
  CallsBelow n (Map f k p) = Unit {0}
  CallsBelow n (Filter f k p) = Unit {0}
  CallsBelow n (Call name k es) = k < n
  CallsBelow n (Block' _ ms p) = MembersCallBelow n ms
  CallsBelow n (Pipe' link _ (more_of-Comp a end_of-Comp) _ (more_of-Comp b end_of-Comp) p) = CallsBelow n a × CallsBelow n b

  -- each instance that the members of a block call has a place below n
  pub MembersCallBelow : {m : _} → ℕ → Row_of-Member m → Type 0
  MembersCallBelow n end_of-Member = Unit {0}
  MembersCallBelow n (more_of-Member (Bind name c) ms) = CallsBelow n c × MembersCallBelow n ms
  MembersCallBelow n (more_of-Member (Var var) ms) = MembersCallBelow n ms
  MembersCallBelow n (more_of-Member (Run c) ms) = CallsBelow n c × MembersCallBelow n ms

-- each of these instances, which stand behind n others, calls only instances before it
abbrev pub OrderedFrom : ℕ → List Instance → Type 0
OrderedFrom n [] = Unit {0}
OrderedFrom n (i ∷ is) = CallsBelow n i.body × OrderedFrom (suc n) is

-- each instance of a program calls only instances before it
abbrev pub Ordered : Core → Type 0
Ordered core = OrderedFrom 0 core.instances

-- what an instance of a program does
pub record CallsBody (core : Core) (k : ℕ) (i : Instance) : Type 0 where
  -- its body over the instances before it; a call of another is spent there
  pub before : (vs : List Val) (s : State) →
      calls_of core k vs s ≡ called_proc i.params (proc (around core) (procs_of (around core) (take k core.instances)) i.body) vs s
  -- where the instances are ordered, its body in the program
  pub in_program : Ordered core → (vs : List Val) (s : State) → calls_of core k vs s ≡ called_proc i.params (acts core i.body) vs s
  -- and as a trace that of its body, as the caller sees it
  pub as_trace : Ordered core → (vs : List Val) (s : State) (xs : List Val) →
      comps_of (around core) core.instances k vs s xs ≡ called i.params (means core i.body) vs s xs

-- an instance of a program does what its body does
abbrev pub Calls : Type 0
Calls = (core : Core) (k : ℕ) (i : Instance) → slice_get core.instances k ≡ Some i → CallsBody core k i
