-- A component as a process: what it gives, what it needs and how it ends, one event after the other.
use Rattle.std.specs.Prelude.{ℕ, zero, suc, ◌+◌, List, [], ◌∷◌, Bool, true, false, nat_le, length}
use Rattle.zir_bit_tree.specs.declared.value.Val.{Val}
use Rattle.zir_bit_tree.specs.declared.value.Val.TheVariants.{Unit as UnitVal}
use Rattle.zir_bit_tree.specs.declared.ends.End.{End}
use Rattle.zir_bit_tree.specs.declared.ends.End.TheVariants.{Value, Starved, Trap as Trapped, Spent}
use Rattle.zir_bit_tree.specs.declared.tree.Comp.{Comp, Take, Emit, Return, Block', Repeat', Pipe', end_of-Comp, more_of-Comp, Row_of-Member, end_of-Member, more_of-Member}
use Rattle.zir_bit_tree.specs.declared.tree.Member.{Member}
use Rattle.zir_bit_meaning.specs.Trace.{State, Point, point, Out, Trace, nowhere, ends, gives}
use Rattle.zir_bit_meaning.specs.Evaluation.{Eval, Got, Traps, RunsOut, ev}
use Rattle.zir_bit_meaning.specs.Composition.{limit, over, at_point, waiting, fresh}
use Rattle.zir_bit_meaning.specs.Component.{bind, leave, assigns}

-- an output and what follows, an end, or what follows each element
pub data Proc : Type 0 where
  Gives : (o : Out) (p : Proc) → Proc
  Ends : (e : End) (s : State) → Proc
  Needs : (s : State) (f : Val → Proc) → Proc

-- every spent process is this one
abbrev pub spent_proc : Proc
spent_proc = Ends Spent nowhere

-- the trace of a process over these elements
abbrev pub run : Proc → List Val → Trace
run (Gives o p) xs = gives o (run p xs)
run (Ends e s) xs = ends e s xs
run (Needs s f) [] = ends Starved s []
run (Needs s f) (x ∷ xs) = run (f x) xs

-- what follows a control value
abbrev pub NextProc : Type 0
NextProc = Val → State → Proc

-- an end, and where that is a value what follows it
abbrev pub goes_on : End → State → NextProc → Proc
goes_on (Value v) s next = next v s
goes_on Starved s next = Ends Starved s
goes_on (Trapped t) s next = Ends (Trapped t) s
goes_on Spent s next = spent_proc

-- a process, and where it ends with a value what follows it
abbrev pub then_proc : Proc → NextProc → Proc
then_proc (Gives o p) next = Gives o (then_proc p next)
then_proc (Ends e s) next = goes_on e s next
then_proc (Needs s f) next = Needs s (λ x. then_proc (f x) next)

-- one of these ticks, and then what follows
abbrev pub tick_proc_of : ℕ → State → (State → Proc) → Proc
tick_proc_of zero s next = spent_proc
tick_proc_of (suc left) s next = next (record s { ticks = s.ticks + 1; left = left })

abbrev pub tick_proc : State → (State → Proc) → Proc
tick_proc s next = tick_proc_of s.left s next

-- an evaluation, and where it has a value what follows
abbrev pub with_proc : Eval → NextProc → Proc
with_proc (Got v s) next = next v s
with_proc (Traps t s) next = Ends (Trapped t) s
with_proc RunsOut next = spent_proc

-- a body again and again, each turn after a tick
abbrev pub turns_proc : ℕ → (State → Proc) → State → Proc
turns_proc zero body s = spent_proc
turns_proc (suc more) body s = tick_proc s (λ s'. then_proc (body s') (λ v s''. turns_proc more body s''))

-- an end, a spent one at no place
abbrev pub end_proc : End → State → Proc
end_proc (Value v) s = Ends (Value v) s
end_proc Starved s = Ends Starved s
end_proc (Trapped t) s = Ends (Trapped t) s
end_proc Spent s = spent_proc

-- a process where the test holds
abbrev pub holds : Bool → Proc → Proc
holds true p = p
holds false p = spent_proc

-- what follows at a point of a run that began at s, if the point is within its limit
abbrev pub inside : State → Point → Proc → Proc
inside s p next = holds (nat_le p.ticks (limit s)) next

-- the left side runs up to its next output, while the right side waits at s2; so many names were in scope before both
abbrev pub pull : List ℕ → ℕ → State → (Val → Point → Proc → Proc) → State → Proc → Proc
pull ids d s next s2 (Gives o left) = next o.value o.at left
pull ids d s next s2 (Ends e s1) = let p = over ids (point s1) (waiting d e (point s2)) in inside s p (end_proc e (at_point s p))
pull ids d s next s2 (Needs s1 g) =
    let p = over ids (point s1) (point s2) in inside s p (Needs (at_point s p) (λ x. pull ids d s next s2 (g x)))

-- the right side is asked first; the left side stands at base since its last output, and runs where the right side needs an element
abbrev pub piped : List ℕ → ℕ → State → Proc → Point → Proc → Proc
piped ids d s (Gives o right) base left =
    let p = over ids base o.at in inside s p (Gives (record { value = o.value; at = p }) (piped ids d s right base left))
piped ids d s (Ends e s2) base left = let p = over ids base (point s2) in inside s p (end_proc e (at_point s p))
piped ids d s (Needs s2 f) base left = pull ids d s (λ v p left'. piped ids d s (f v) p left') s2 left

abbrev mutual
  -- the process of a component from a state
  pub proc : Comp → State → Proc
  proc (Take p) s = Needs s (λ x. tick_proc s (λ s'. Ends (Value x) (record s' { taken = s'.taken + 1 })))
  proc (Emit e p) s =
      with_proc (ev e s) (λ v s'. tick_proc s' (λ s''. Gives (record { value = v; at = point s'' }) (Ends (Value UnitVal) s'')))
  proc (Return e p) s = with_proc (ev e s) (λ v s'. tick_proc s' (λ s''. Ends (Value v) s''))
  proc (Block' _ ms p) s = members_proc ms (length s.store) UnitVal s
  proc (Repeat' _ (more_of-Comp c end_of-Comp) p) s = turns_proc s.left (proc c) s
  proc (Pipe' _ (more_of-Comp a end_of-Comp) _ (more_of-Comp b end_of-Comp) p) s =
      piped (assigns a) (length s.store) s (proc b (fresh s)) (point s) (proc a s)

  -- the members of a block, at whose start the store had length n
  pub members_proc : {m : _} → Row_of-Member m → ℕ → Val → State → Proc
  members_proc end_of-Member n v s = Ends (Value v) (leave n s)
  members_proc (more_of-Member name c ms) n v s = then_proc (proc c s) (λ w s'. members_proc ms n w (bind name w s'))

-- the same for members in a list
abbrev pub list_proc : List Member → ℕ → Val → State → Proc
list_proc [] n v s = Ends (Value v) (leave n s)
list_proc (m ∷ ms) n v s = then_proc (proc m.what s) (λ w s'. list_proc ms n w (bind m.bound w s'))
