-- A stage that plays a process up to its end with a value, and what then follows.
use Rattle.std.proofs.Common.{List}
use Rattle.zir_tree.specs.declared.value.Val.{Val}
use Rattle.zir_tree.specs.declared.ends.End.{End}
use Rattle.zir_tree.specs.declared.ends.Trap.{Trap}
use Rattle.zir_tree.specs.declared.ends.End.TheVariants.{Value, Starved, Trap as Trapped, Spent}
use Rattle.zir_meaning.specs.Store.{Store}
use Rattle.zir_meaning.specs.Trace.{State, Point, point}
use Rattle.zir_cells.specs.Cells.{cells_of}
use Rattle.zir_laws.specs.Process.{Proc, Gives, Ends, Needs, NextProc, goes_on, then_proc}
use Rattle.zir_flow.specs.declared.instruction.Instruction.{Instruction}
use Rattle.zir_flow.specs.Stages.{Stage, Gone, handed}
use Rattle.zir_flow.specs.Playing.{Watch, Comes, GivesAt, NeedsAt, EndsAt, TrapsAt, PlaysEnd, Plays}
use Rattle.zir_flow.proofs.Reaching.{Reaches, reaches_on, comes_on}

-- what holds where a component has ended with a value in a state
abbrev pub Arriving : Type 1
Arriving = Val → State → Stage → Type 0

-- a stage ends so: with a value it goes on to where this holds
abbrev pub ArrivesEnd : Arriving → List Instruction → End → State → Stage → Type 0
ArrivesEnd A code (Value v) s st = (st' : Stage) × Reaches code st st' × A v s st'
ArrivesEnd A code Starved s st = ⊥
ArrivesEnd A code (Trapped t) s st = TrapsAt code st t (point s)
ArrivesEnd A code Spent s st = Comes code st Gone

-- a stage comes to each event of a process, and goes on from its value
abbrev pub Arrives : Arriving → Watch → List Instruction → Proc → Stage → Type 0
Arrives A w code (Gives o p) st = (st' : Stage) × GivesAt w code st o.value o.at st' × Arrives A w code p st'
Arrives A w code (Ends e s) st = ArrivesEnd A code e s st
Arrives A w code (Needs s f) st =
    (st' : Stage) × NeedsAt w code st (point s) st' × ((x : Val) → w.element x → Arrives A w code (f x) (handed code (cells_of x) st'))

gives_on : (w : Watch) (code : List Instruction) (st st' st'' : Stage) (v : Val) (p : Point) → Reaches code st st' → GivesAt w code st' v p st'' →
    GivesAt w code st v p st''
gives_on w code st st' st'' v p r g = record { taken = g.taken; ticks = g.ticks; comes = comes_on code st st' _ r g.comes; at = g.at; holds = g.holds; output = g.output }

needs_on : (w : Watch) (code : List Instruction) (st st' st'' : Stage) (p : Point) → Reaches code st st' → NeedsAt w code st' p st'' → NeedsAt w code st p st''
needs_on w code st st' st'' p r g = record { taken = g.taken; ticks = g.ticks; comes = comes_on code st st' _ r g.comes; at = g.at; holds = g.holds }

traps_on : (code : List Instruction) (st st' : Stage) (t : Trap) (p : Point) → Reaches code st st' → TrapsAt code st' t p → TrapsAt code st t p
traps_on code st st' t p r g = record { taken = g.taken; ticks = g.ticks; last = g.last; comes = comes_on code st st' _ r g.comes; at = g.at }

end_on : (A : Arriving) (code : List Instruction) (e : End) (s : State) (st st' : Stage) → Reaches code st st' → ArrivesEnd A code e s st' → ArrivesEnd A code e s st
end_on A code (Value v) s st st' r h = (h.0, reaches_on code st st' h.0 r h.1, h.2)
end_on A code Starved s st st' r h = absurd h
end_on A code (Trapped t) s st st' r h = traps_on code st st' t (point s) r h
end_on A code Spent s st st' r h = comes_on code st st' Gone r h

-- a way to a stage that plays a process
pub arrives_on : (A : Arriving) (w : Watch) (code : List Instruction) (p : Proc) (st st' : Stage) → Reaches code st st' → Arrives A w code p st' → Arrives A w code p st
arrives_on A w code (Gives o p) st st' r h = (h.0, gives_on w code st st' h.0 o.value o.at r h.1, h.2)
arrives_on A w code (Ends e s) st st' r h = end_on A code e s st st' r h
arrives_on A w code (Needs s f) st st' r h = (h.0, needs_on w code st st' h.0 (point s) r h.1, h.2)

end_then : (A B : Arriving) (w : Watch) (code : List Instruction) (e : End) (s : State) (st : Stage) (next : NextProc) → ArrivesEnd A code e s st →
    ((v : Val) (s' : State) (st' : Stage) → A v s' st' → Arrives B w code (next v s') st') → Arrives B w code (goes_on e s next) st
end_then A B w code (Value v) s st next h f = arrives_on B w code (next v s) st h.0 h.1 (f v s h.0 h.2)
end_then A B w code Starved s st next h f = absurd h
end_then A B w code (Trapped t) s st next h f = h
end_then A B w code Spent s st next h f = h

-- a process and what follows its value
pub arrives_then : (A B : Arriving) (w : Watch) (code : List Instruction) (p : Proc) (st : Stage) (next : NextProc) → Arrives A w code p st →
    ((v : Val) (s' : State) (st' : Stage) → A v s' st' → Arrives B w code (next v s') st') → Arrives B w code (then_proc p next) st
arrives_then A B w code (Gives o p) st next h f = (h.0, h.1, arrives_then A B w code p h.0 next h.2 f)
arrives_then A B w code (Ends e s) st next h f = end_then A B w code e s st next h f
arrives_then A B w code (Needs s g) st next h f =
    (h.0, h.1, λ x fits. arrives_then A B w code (g x) (handed code (cells_of x) h.0) next (h.2 x fits) f)

end_holds : (A B : Arriving) (code : List Instruction) (e : End) (s : State) (st : Stage) → ((v : Val) (s' : State) (st' : Stage) → A v s' st' → B v s' st') →
    ArrivesEnd A code e s st → ArrivesEnd B code e s st
end_holds A B code (Value v) s st f h = (h.0, h.1, f v s h.0 h.2)
end_holds A B code Starved s st f h = absurd h
end_holds A B code (Trapped t) s st f h = h
end_holds A B code Spent s st f h = h

-- what is watched may say less, and elements may be fewer
pub arrives_holds : (A B : Arriving) (w w' : Watch) (code : List Instruction) (p : Proc) (st : Stage) →
    ((v : Val) (s' : State) (st' : Stage) → A v s' st' → B v s' st') → ((st' : Stage) (store : Store) → w.holds st' store → w'.holds st' store) →
    ((x : Val) → w'.element x → w.element x) → ((x : Val) → w.output x → w'.output x) → Arrives A w code p st → Arrives B w' code p st
arrives_holds A B w w' code (Gives o p) st f g e u h =
    let at = h.1 in (
      h.0,
      record { taken = at.taken; ticks = at.ticks; comes = at.comes; at = at.at; holds = g h.0 o.at.store at.holds; output = u o.value at.output },
      arrives_holds A B w w' code p h.0 f g e u h.2,
    )
arrives_holds A B w w' code (Ends x s) st f g e u h = end_holds A B code x s st f h
arrives_holds A B w w' code (Needs s k) st f g e u h =
    let at = h.1 in (
      h.0,
      record { taken = at.taken; ticks = at.ticks; comes = at.comes; at = at.at; holds = g h.0 s.store at.holds },
      λ x fits. arrives_holds A B w w' code (k x) (handed code (cells_of x) h.0) f g e u (h.2 x (e x fits)),
    )

end_plays : (A : Arriving) (w : Watch) (code : List Instruction) (e : End) (s : State) (st : Stage) → ArrivesEnd A code e s st →
    ((v : Val) (s' : State) (st' : Stage) → A v s' st' → EndsAt w code st' v (point s')) → PlaysEnd w code e s st
end_plays A w code (Value v) s st h f =
    let at = f v s h.0 h.2 in
    record { taken = at.taken; ticks = at.ticks; last = at.last; comes = comes_on code st h.0 _ h.1 at.comes; at = at.at; holds = at.holds; value = at.value }
end_plays A w code Starved s st h f = absurd h
end_plays A w code (Trapped t) s st h f = h
end_plays A w code Spent s st h f = h

-- a stage that ends where it arrives plays the process
pub arrives_plays : (A : Arriving) (w : Watch) (code : List Instruction) (p : Proc) (st : Stage) → Arrives A w code p st →
    ((v : Val) (s' : State) (st' : Stage) → A v s' st' → EndsAt w code st' v (point s')) → Plays w code p st
arrives_plays A w code (Gives o p) st h f = (h.0, h.1, arrives_plays A w code p h.0 h.2 f)
arrives_plays A w code (Ends e s) st h f = end_plays A w code e s st h f
arrives_plays A w code (Needs s g) st h f = (h.0, h.1, λ x fits. arrives_plays A w code (g x) (handed code (cells_of x) h.0) (h.2 x fits) f)
