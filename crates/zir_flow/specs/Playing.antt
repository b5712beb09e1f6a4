-- A stage that plays a process: it comes to each of its events, one after the other.
use Rattle.std.specs.Prelude.{ℕ, ◌%◌, ◌^◌, List, ◌≡◌}
use Rattle.zir_tree.specs.declared.value.Val.{Val}
use Rattle.zir_tree.specs.declared.ends.End.{End}
use Rattle.zir_tree.specs.declared.ends.Trap.{Trap}
use Rattle.zir_tree.specs.declared.ends.End.TheVariants.{Value, Starved, Trap as Trapped, Spent}
use Rattle.zir_meaning.specs.Store.{Store}
use Rattle.zir_meaning.specs.Trace.{State, Point, point}
use Rattle.zir_cells.specs.Cells.{cells_of}
use Rattle.zir_laws.specs.Process.{Proc, Gives, Ends, Needs}
use Rattle.zir_flow.specs.declared.instruction.Instruction.{Instruction}
use Rattle.zir_flow.specs.Stages.{Stage, Turned, Giving, Needing, Ended, Failed, Gone, turned_on, handed}

-- what is watched of a stage: what holds of it and the store where it stands, which values its elements and its outputs may have, and where a value stands at
-- its end
pub record Watch : Type 1 where
  pub holds : Stage → Store → Type 0
  pub element : Val → Type 0
  pub output : Val → Type 0
  pub value : Val → Stage → Type 0

-- the elements taken and the ticks of a point; 64 bits count the elements
pub record PointIs (p : Point) (taken ticks : ℕ) : Type 0 where
  pub elements : p.taken % 2 ^ 64 ≡ taken
  pub used : p.ticks ≡ ticks

-- within some turns a stage comes to this event
pub record Comes (code : List Instruction) (s : Stage) (event : Turned) : Type 0 where
  pub turns : ℕ
  pub is : turned_on turns code s ≡ event

-- it gives a value at a point
pub record GivesAt (w : Watch) (code : List Instruction) (s : Stage) (v : Val) (p : Point) (s' : Stage) : Type 0 where
  pub taken : ℕ
  pub ticks : ℕ
  pub comes : Comes code s (Giving (cells_of v) taken ticks s')
  pub at : PointIs p taken ticks
  pub holds : w.holds s' p.store
  pub output : w.output v

-- it needs an element at a point
pub record NeedsAt (w : Watch) (code : List Instruction) (s : Stage) (p : Point) (s' : Stage) : Type 0 where
  pub taken : ℕ
  pub ticks : ℕ
  pub comes : Comes code s (Needing taken ticks s')
  pub at : PointIs p taken ticks
  pub holds : w.holds s' p.store

-- it ends with a value at a point
pub record EndsAt (w : Watch) (code : List Instruction) (s : Stage) (v : Val) (p : Point) : Type 0 where
  pub taken : ℕ
  pub ticks : ℕ
  pub last : Stage
  pub comes : Comes code s (Ended taken ticks last)
  pub at : PointIs p taken ticks
  pub holds : w.holds last p.store
  pub value : w.value v last

-- it traps at a point; of what it holds then nothing is said
pub record TrapsAt (code : List Instruction) (s : Stage) (t : Trap) (p : Point) : Type 0 where
  pub taken : ℕ
  pub ticks : ℕ
  pub last : Stage
  pub comes : Comes code s (Failed t taken ticks last)
  pub at : PointIs p taken ticks

-- it ends so
abbrev pub PlaysEnd : Watch → List Instruction → End → State → Stage → Type 0
PlaysEnd w code (Value v) s st = EndsAt w code st v (point s)
PlaysEnd w code Starved s st = ⊥
PlaysEnd w code (Trapped t) s st = TrapsAt code st t (point s)
PlaysEnd w code Spent s st = Comes code st Gone

-- it comes to each event of a process, whatever elements it has
abbrev pub Plays : Watch → List Instruction → Proc → Stage → Type 0
Plays w code (Gives o p) st = (st' : Stage) × GivesAt w code st o.value o.at st' × Plays w code p st'
Plays w code (Ends e s) st = PlaysEnd w code e s st
Plays w code (Needs s f) st =
    (st' : Stage) × NeedsAt w code st (point s) st' × ((x : Val) → w.element x → Plays w code (f x) (handed code (cells_of x) st'))
