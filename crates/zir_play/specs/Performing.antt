-- A stage that performs a process: it comes to each of its events, one after the other, with the cells of its values.
use Rattle.std.specs.Prelude.{ℕ, List, Option, Some, ◌≡◌}
use Rattle.zir_tree.specs.declared.value.Val.{Val}
use Rattle.zir_tree.specs.declared.types.Ty.{Ty}
use Rattle.zir_tree.specs.declared.types.StructDef.{StructDef}
use Rattle.zir_tree.specs.declared.ends.End.{End}
use Rattle.zir_tree.specs.declared.ends.End.TheVariants.{Value, Starved, Trap as Trapped, Spent}
use Rattle.zir_meaning.specs.Trace.{State, Point, point}
use Rattle.zir_cells.specs.Cells.{cells_of}
use Rattle.zir_laws.specs.Process.{Proc, Gives, Ends, Needs}
use Rattle.zir_shapes.specs.Shapes.{Shaped}
use Rattle.zir_expr.specs.Memory.Frames.{Memory}
use Rattle.zir_code.specs.Holding.{At}
use Rattle.zir_flow.specs.declared.instruction.Instruction.{Instruction}
use Rattle.zir_flow.specs.Stages.{Stage, Giving, Needing, Ended, Gone, handed}
use Rattle.zir_flow.specs.Playing.{PointIs, Comes, TrapsAt}
use Rattle.zir_stage.specs.Standing.{given}

-- the structs, the types of the elements and of the value at the end, if there is one, and the index from which on that value stands
pub record Interface : Type 0 where
  pub structs : List StructDef
  pub input : Ty
  pub value : Option Ty
  pub at : ℕ

-- a value of the right type stands in a memory where the value at the end does
pub record Stands (i : Interface) (v : Val) (m : Memory) : Type 0 where
  pub is : Ty
  pub has : i.value ≡ Some is
  pub shape : Shaped i.structs is v
  pub cells : At m.cells i.at (cells_of v)

-- a stage gives the cells of a value at a point
pub record GivesCells (code : List Instruction) (s : Stage) (v : Val) (p : Point) (s' : Stage) : Type 0 where
  pub taken : ℕ
  pub ticks : ℕ
  pub comes : Comes code s (Giving (cells_of v) taken ticks s')
  pub at : PointIs p taken ticks

-- it needs the cells of an element at a point
pub record NeedsCells (code : List Instruction) (s : Stage) (p : Point) (s' : Stage) : Type 0 where
  pub taken : ℕ
  pub ticks : ℕ
  pub comes : Comes code s (Needing taken ticks s')
  pub at : PointIs p taken ticks

-- it ends with a value at a point
pub record EndsWith (i : Interface) (code : List Instruction) (s : Stage) (v : Val) (p : Point) : Type 0 where
  pub taken : ℕ
  pub ticks : ℕ
  pub last : Stage
  pub comes : Comes code s (Ended taken ticks last)
  pub at : PointIs p taken ticks
  pub stands : Stands i v (given last)

-- it ends so
abbrev pub PerformsEnd : Interface → List Instruction → End → State → Stage → Type 0
PerformsEnd i code (Value v) s st = EndsWith i code st v (point s)
PerformsEnd i code Starved s st = ⊥
PerformsEnd i code (Trapped t) s st = TrapsAt code st t (point s)
PerformsEnd i code Spent s st = Comes code st Gone

-- it comes to each event of a process, whatever elements of the right type it has
abbrev pub Performs : Interface → List Instruction → Proc → Stage → Type 0
Performs i code (Gives o p) st = (st' : Stage) × GivesCells code st o.value o.at st' × Performs i code p st'
Performs i code (Ends e s) st = PerformsEnd i code e s st
Performs i code (Needs s f) st =
    (st' : Stage) × NeedsCells code st (point s) st' × ((x : Val) → Shaped i.structs i.input x → Performs i code (f x) (handed code (cells_of x) st'))
