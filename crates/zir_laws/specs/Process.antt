-- A component as a process: what it gives, what it needs and how it ends, one event after the other.
use Rattle.std.specs.Prelude.{ℕ, zero, suc, ◌+◌, ℤ, pos, List, [], ◌∷◌, ◌++◌, Bool, true, false, Option, Some, None, nat_le}
use Rattle.zir_tree.specs.declared.value.Val.{Val, Unit as UnitVal, List as Vals}
use Rattle.zir_tree.specs.declared.ident.Ident.{Ident}
use Rattle.zir_tree.specs.declared.ends.End.{End}
use Rattle.zir_tree.specs.declared.ends.End.TheVariants.{Value, Starved, Trap as Trapped, Spent}
use Rattle.zir_tree.specs.declared.expr.Expr.{Expr}
use Rattle.zir_tree.specs.declared.expr.Callee.TheVariants.{Function}
use Rattle.zir_tree.specs.declared.comp.Comp.{Comp, Take, Takes, Emit, Emits, Return, Do, Repeat', While', Times', For', If', Map, Filter, Call, Block', Pipe', end_of-Comp, more_of-Comp, Row_of-Member, end_of-Member, more_of-Member}
use Rattle.zir_tree.specs.declared.comp.Member.{Member, Bind, Var, Run}
use Rattle.zir_meaning.specs.Values.{parts, is_one, num_of}
use Rattle.zir_meaning.specs.Store.{depth}
use Rattle.zir_meaning.specs.Trace.{State, Point, point, Out, Trace, nowhere, ends, gives}
use Rattle.zir_meaning.specs.Evaluation.{Eval, Got, Traps, RunsOut, Library, ev, called_by}
use Rattle.zir_meaning.specs.Statements.{bind, leave, turns_of, next_index, initial_of, run_body}
use Rattle.zir_meaning.specs.Assigned.{assigns}
use Rattle.zir_meaning.specs.Composition.{limit, over, at_point, waiting, fresh}
use Rattle.zir_meaning.specs.Component.{always, test_of, bind_index, Around}

-- an output and what follows, an end, or what follows each element
pub data Proc : Type 0 where
  Gives : (o : Out) (p : Proc) → Proc
  Ends : (e : End) (s : State) → Proc
  Needs : (s : State) (f : Val → Proc) → Proc

-- every spent process is this one
abbrev pub spent_proc : Proc
spent_proc = Ends Spent nowhere

-- the trace of a process over these elements
abbrev pub run : Proc → List Val → Trace
run (Gives o p) xs = gives o (run p xs)
run (Ends e s) xs = ends e s xs
run (Needs s f) [] = ends Starved s []
run (Needs s f) (x ∷ xs) = run (f x) xs

-- what follows a control value
abbrev pub NextProc : Type 0
NextProc = Val → State → Proc

-- an end, and where that is a value what follows it
abbrev pub goes_on : End → State → NextProc → Proc
goes_on (Value v) s next = next v s
goes_on Starved s next = Ends Starved s
goes_on (Trapped t) s next = Ends (Trapped t) s
goes_on Spent s next = spent_proc

-- a process, and where it ends with a value what follows it
abbrev pub then_proc : Proc → NextProc → Proc
then_proc (Gives o p) next = Gives o (then_proc p next)
then_proc (Ends e s) next = goes_on e s next
then_proc (Needs s f) next = Needs s (λ x. then_proc (f x) next)

-- one of these ticks, and then what follows
abbrev pub tick_proc_of : ℕ → State → (State → Proc) → Proc
tick_proc_of zero s next = spent_proc
tick_proc_of (suc left) s next = next (record s { ticks = s.ticks + 1; left = left })

-- one tick, and then what follows
abbrev pub tick_proc : State → (State → Proc) → Proc
tick_proc s next = tick_proc_of s.left s next

-- an evaluation, and where it has a value what follows
abbrev pub with_proc : Eval → NextProc → Proc
with_proc (Got v s) next = next v s
with_proc (Traps t s) next = Ends (Trapped t) s
with_proc RunsOut next = spent_proc

-- an evaluation of arguments behind these values, and what follows with all of them
abbrev pub arguments_proc : Library → List Expr → List Val → State → (List Val → State → Proc) → Proc
arguments_proc l [] vs s next = next vs s
arguments_proc l (e ∷ es) vs s next = with_proc (ev l e s) (λ v s'. arguments_proc l es (vs ++ v ∷ []) s' next)

-- one element, which costs a tick
abbrev pub take_proc : State → Proc
take_proc s = Needs s (λ x. tick_proc s (λ s'. Ends (Value x) (record s' { taken = s'.taken + 1 })))

-- so many more elements behind these, one after the other, as an array
abbrev pub takes_proc : ℕ → List Val → State → Proc
takes_proc zero vs s = Ends (Value (Vals vs)) s
takes_proc (suc n) vs s = then_proc (take_proc s) (λ v s'. takes_proc n (vs ++ v ∷ []) s')

-- these values as outputs, each after a tick
abbrev pub outputs_proc : List Val → State → Proc
outputs_proc [] s = Ends (Value UnitVal) s
outputs_proc (v ∷ vs) s = tick_proc s (λ s'. Gives (record { value = v; at = point s' }) (outputs_proc vs s'))

-- an end with this value after a tick
abbrev pub returns_proc : Val → State → Proc
returns_proc v s = tick_proc s (λ s'. Ends (Value v) s')

-- one of two components
abbrev pub choose_proc : Bool → (State → Proc) → (State → Proc) → State → Proc
choose_proc true p q s = p s
choose_proc false p q s = q s

-- a turn where the test holds, and else an end with unit
abbrev pub turn_if_proc : Eval → (State → Proc) → Proc
turn_if_proc e turn = with_proc e (λ v s. choose_proc (is_one v) turn (λ s'. Ends (Value UnitVal) s') s)

-- a body again and again while the test holds, each turn after a tick; the ticks left bound the number of turns
abbrev pub turns_proc : ℕ → (State → Eval) → (State → Proc) → State → Proc
turns_proc zero test body s = turn_if_proc (test s) (λ s'. spent_proc)
turns_proc (suc more) test body s =
    turn_if_proc (test s) (λ s'. tick_proc s' (λ s''. then_proc (body s'') (λ v s3. turns_proc more test body s3)))

-- so many turns, each after a tick and with the next index for the name
abbrev pub counted_proc : ℕ → Option Ident → ℤ → (State → Proc) → State → Proc
counted_proc zero name i body s = Ends (Value UnitVal) s
counted_proc (suc more) name i body s =
    tick_proc s (λ s'. then_proc (body (bind_index name i s')) (λ v s''. counted_proc more name (next_index i) body (leave (depth s.store) s'')))

-- one element, and the function of it as an output
abbrev pub mapped_proc : Library → ℕ → State → Proc
mapped_proc l k s = then_proc (take_proc s) (λ x s'. with_proc (called_by l (Function k) (x ∷ []) s') (λ v s''. outputs_proc (v ∷ []) s''))

-- one element, as an output where the function of it is true, and else nothing after a tick
abbrev pub filtered_proc : Library → ℕ → State → Proc
filtered_proc l k s =
    then_proc (take_proc s) (λ x s'. with_proc (called_by l (Function k) (x ∷ []) s')
    (λ v s''. choose_proc (is_one v) (outputs_proc (x ∷ [])) (returns_proc UnitVal) s''))

-- an end, a spent one at no place
abbrev pub end_proc : End → State → Proc
end_proc (Value v) s = Ends (Value v) s
end_proc Starved s = Ends Starved s
end_proc (Trapped t) s = Ends (Trapped t) s
end_proc Spent s = spent_proc

-- a process where the test holds
abbrev pub holds : Bool → Proc → Proc
holds true p = p
holds false p = spent_proc

-- what follows at a point of a run that began at s, if the point is within its limit
abbrev pub inside : State → Point → Proc → Proc
inside s p next = holds (nat_le p.ticks (limit s)) next

-- the left side runs up to its next output, while the right side waits at s2; so many names were in scope before both
abbrev pub pull : List ℕ → ℕ → State → (Val → Point → Proc → Proc) → State → Proc → Proc
pull ids d s next s2 (Gives o left) = next o.value o.at left
pull ids d s next s2 (Ends e s1) = let p = over ids (point s1) (waiting d e (point s2)) in inside s p (end_proc e (at_point s p))
pull ids d s next s2 (Needs s1 g) =
    let p = over ids (point s1) (point s2) in inside s p (Needs (at_point s p) (λ x. pull ids d s next s2 (g x)))

-- the right side is asked first; the left side stands at base since its last output, and runs where the right side needs an element
abbrev pub piped : List ℕ → ℕ → State → Proc → Point → Proc → Proc
piped ids d s (Gives o right) base left =
    let p = over ids base o.at in inside s p (Gives (record { value = o.value; at = p }) (piped ids d s right base left))
piped ids d s (Ends e s2) base left = let p = over ids base (point s2) in inside s p (end_proc e (at_point s p))
piped ids d s (Needs s2 f) base left = pull ids d s (λ v p left'. piped ids d s (f v) p left') s2 left

-- what each instance declared before does with the values of its arguments as a process, by its place
abbrev pub Procs : Type 0
Procs = ℕ → List Val → State → Proc

abbrev mutual
  -- the process of a component from a state
  pub proc : Around → Procs → Comp → State → Proc
  proc r procs (Take p) s = take_proc s
  proc r procs (Takes n p) s = takes_proc n [] s
  proc r procs (Emit e p) s = with_proc (ev r.library e s) (λ v s'. outputs_proc (v ∷ []) s')
  proc r procs (Emits e p) s = with_proc (ev r.library e s) (λ v s'. outputs_proc (parts v) s')
  proc r procs (Return e p) s = with_proc (ev r.library e s) (λ v s'. returns_proc v s')
  proc r procs (Do body p) s = tick_proc s (λ s'. with_proc (run_body r.library body s') (λ v s''. Ends (Value v) s''))
  proc r procs (Repeat' _ (more_of-Comp c end_of-Comp) p) s = turns_proc s.left always (proc r procs c) s
  proc r procs (While' turning e _ (more_of-Comp c end_of-Comp) p) s = turns_proc s.left (test_of turning (ev r.library e)) (proc r procs c) s
  proc r procs (Times' e _ (more_of-Comp c end_of-Comp) p) s =
      with_proc (ev r.library e s) (λ v s'. counted_proc (turns_of (num_of v)) None (pos 0) (proc r procs c) s')
  proc r procs (For' name a n _ (more_of-Comp c end_of-Comp) p) s =
      with_proc (ev r.library a s) (λ v s'. with_proc (ev r.library n s')
      (λ w s''. counted_proc (turns_of (num_of w)) (Some name) (num_of v) (proc r procs c) s''))
  proc r procs (If' e _ (more_of-Comp a end_of-Comp) _ (more_of-Comp b end_of-Comp) p) s =
      with_proc (ev r.library e s) (λ v s'. choose_proc (is_one v) (proc r procs a) (proc r procs b) s')
  proc r procs (Map f k p) s = turns_proc s.left always (mapped_proc r.library k) s
  proc r procs (Filter f k p) s = turns_proc s.left always (filtered_proc r.library k) s
  proc r procs (Call name k es) s = arguments_proc r.library es [] s (λ vs s'. tick_proc s' (λ s''. procs k vs s''))
  proc r procs (Block' _ ms p) s = members_proc r procs ms (depth s.store) UnitVal s
  proc r procs (Pipe' link _ (more_of-Comp a end_of-Comp) _ (more_of-Comp b end_of-Comp) p) s =
      piped (assigns r.assigned a) (depth s.store) s (proc r procs b (fresh s)) (point s) (proc r procs a s)

  -- the members of a block, at whose start so many names were in scope, after a member that ended with v
  pub members_proc : {m : _} → Around → Procs → Row_of-Member m → ℕ → Val → State → Proc
  members_proc r procs end_of-Member n v s = Ends (Value v) (leave n s)
  members_proc r procs (more_of-Member (Bind name c) ms) n v s =
      then_proc (proc r procs c s) (λ w s'. members_proc r procs ms n w (bind name.id w s'))
  members_proc r procs (more_of-Member (Var var) ms) n v s =
      with_proc (initial_of r.library var.ty var.initial s) (λ w s'. members_proc r procs ms n UnitVal (bind var.name.id w s'))
  members_proc r procs (more_of-Member (Run c) ms) n v s = then_proc (proc r procs c s) (λ w s'. members_proc r procs ms n w s')

-- the same for members in a list
abbrev pub list_proc : Around → Procs → List Member → ℕ → Val → State → Proc
list_proc r procs [] n v s = Ends (Value v) (leave n s)
list_proc r procs (Bind name c ∷ ms) n v s = then_proc (proc r procs c s) (λ w s'. list_proc r procs ms n w (bind name.id w s'))
list_proc r procs (Var var ∷ ms) n v s =
    with_proc (initial_of r.library var.ty var.initial s) (λ w s'. list_proc r procs ms n UnitVal (bind var.name.id w s'))
list_proc r procs (Run c ∷ ms) n v s = then_proc (proc r procs c s) (λ w s'. list_proc r procs ms n w s')
