-- The code of components.
use Rattle.std.specs.Prelude.{ℕ, pos, ◌+◌, ◌*◌, List, [], ◌∷◌, ◌++◌, Bool, true, false, Option, Some, None, length}
use Rattle.zir_tree.specs.declared.place.Place.{Place}
use Rattle.zir_tree.specs.declared.types.Base.TheVariants.{Unit as UnitTy}
use Rattle.zir_tree.specs.declared.types.Ty.{Ty}
use Rattle.zir_tree.specs.declared.expr.Operator.TheVariants.{Add}
use Rattle.zir_tree.specs.declared.stmt.Body.{Body}
use Rattle.zir_tree.specs.declared.stmt.Return.{Return}
use Rattle.zir_tree.specs.declared.comp.Turning.{Turning}
use Rattle.zir_tree.specs.declared.comp.Turning.TheVariants.{While as WhileTurns, Until as UntilTurns}
use Rattle.zir_tree.specs.declared.comp.Comp.{Comp, Take as TakeComp, Takes as TakesComp, Emit, Emits, Return as ReturnComp, Do, Repeat', While', Times', For', If', Map, Filter, Call, Block', Pipe', end_of-Comp, more_of-Comp, Row_of-Member, end_of-Member, more_of-Member}
use Rattle.zir_tree.specs.declared.comp.Member.{Bind, Var, Run as RunMember}
use Rattle.zir_tree.specs.declared.program.Instance.{Instance}
use Rattle.zir_meaning.specs.Values.{type_of}
use Rattle.zir_meaning.specs.Store.{among}
use Rattle.zir_meaning.specs.Assigned.{assigns}
use Rattle.zir_shapes.specs.Offsets.{plain_type as plain}
use Rattle.zir_expr.specs.declared.frame.Spot.TheVariants.{Local}
use Rattle.zir_expr.specs.declared.whole.Whole.TheVariants.{ThirtyTwo}
use Rattle.zir_expr.specs.declared.scalar.Operation.TheVariants.{Whole as AtWhole}
use Rattle.zir_expr.specs.declared.steps.Step.{Step, Number, Copy, Operate}
use Rattle.zir_code.specs.declared.scope.Holder.{Holder}
use Rattle.zir_code.specs.Scopes.{Scope}
use Rattle.zir_code.specs.Types.{type_in, first_length, element_type, type_or_unit, result_type, cells_for, size_in}
use Rattle.zir_code.specs.Coding.{stands, code_of, code_of_all, moving, settling, call_code}
use Rattle.zir_code.specs.Statements.{with_local, with_index, initial_code}
use Rattle.zir_code.specs.Bodies.{all_code, scope_after_all, free_after_all, cells_of_all, inside}
use Rattle.zir_flow.specs.declared.instruction.Back.{Back}
use Rattle.zir_flow.specs.declared.instruction.Instruction.{Instruction}
use Rattle.zir_flow.specs.declared.instruction.Instruction.TheVariants.{Run, Tick, Take, Takes, Give, Gives, Ahead, Again, Branch, Turn, Enter, Leave, Pipe, Stop}
use Rattle.zir_flow.specs.Kinds.{Entry, Setting, type_between, value_in, output_in}

-- straight code, if there is any
abbrev pub run_some : List Step → List Instruction
run_some [] = []
run_some (s ∷ steps) = Run (s ∷ steps) ∷ []

-- the code of the value of a body, which goes to the cells from d on
abbrev pub returned_code : Scope → ℕ → ℕ → Option Return → List Step
returned_code g d free None = []
returned_code g d free (Some r) = code_of g r.value free ++ settling (stands g r.value free) d (size_in g r.value)

-- the code of a body whose cells from d on are free, and whose value goes there
abbrev pub do_code : Scope → ℕ → Body → List Step
do_code g d body =
    all_code g d body.statements ++ returned_code (scope_after_all g d body.statements) d (free_after_all g d body.statements) body.result

-- whether a loop ends where its test holds
abbrev pub ends_where_set : Turning → Bool
ends_where_set WhileTurns = false
ends_where_set UntilTurns = true

-- a call of an instance, whose arguments stand from a cell on
abbrev pub enter_code : Option Entry → ℕ → List Instruction
enter_code None d = []
enter_code (Some e) d = Enter e.place d ∷ []

-- the cells of a variable, if they are brought back
abbrev pub back_if : Bool → Holder → List Back
back_if true d = record { at = d.spot; cells = d.cells } ∷ []
back_if false d = []

-- the cells of those of these variables that have one of these numbers
abbrev pub back_among : List ℕ → List Holder → List Back
back_among ids [] = []
back_among ids (d ∷ ds) = back_if (among ids d.id) d ++ back_among ids ds

-- the cells of all variables in scope that have one of these numbers
abbrev pub back_of : List ℕ → Scope → List Back
back_of ids g = back_among ids g.tops ++ back_among ids g.locals

-- the index of a loop goes to its name, and on
abbrev pub index_code : ℕ → Place → List Step
index_code d p =
    Copy (Local (d + 2)) (Local d) ∷ Number (Local (d + 3)) (pos 1)
    ∷ Operate (AtWhole Add ThirtyTwo) (Local d) (Local d) (Local (d + 3)) p ∷ []

-- the code of `map` at a function with a value of so many cells
abbrev pub map_code : List Step → ℕ → ℕ → List Instruction
map_code call d n = Tick ∷ Take d ∷ Tick ∷ Run call ∷ Tick ∷ Give (Local d) n ∷ Again 6 ∷ []

-- the code of `filter` at elements of so many cells
abbrev pub filter_code : List Step → ℕ → ℕ → List Instruction
filter_code call d n =
    Tick ∷ Take d ∷ Tick ∷ Run (moving (Local (d + n)) (Local d) n ++ call) ∷ Branch (Local (d + n)) false 3
    ∷ Tick ∷ Give (Local d) n ∷ Again 7 ∷ Tick ∷ Again 9 ∷ []

-- the code of `takes` of so many elements of so many cells
abbrev pub takes_code : ℕ → ℕ → ℕ → List Instruction
takes_code n size d =
    let counter = d + n * size in
    Run (Number (Local counter) (pos 0) ∷ []) ∷ Takes (record { counter = counter; from = Local d; size = size; count = n }) 2 ∷ Tick ∷ Again 2 ∷ []

-- the code of two sides that are joined, from the code of each
abbrev pub pipe_code : ℕ → ℕ → List Back → List Instruction → List Instruction → List Instruction
pipe_code d value back left right =
    Pipe (record { right = length left + 1; behind = length left + length right + 2; scope = d; value = value; back = back })
    ∷ (left ++ (Stop ∷ (right ++ Stop ∷ [])))

abbrev mutual
  -- the code of a component where its elements have this type and the cells from d on are free; its value then stands from d on
  pub flow_code : Setting → Scope → Ty → ℕ → Comp → List Instruction
  flow_code st g input d (TakeComp p) = Take d ∷ Tick ∷ []
  flow_code st g input d (TakesComp n p) = takes_code n (cells_for g input) d
  flow_code st g input d (Emit e p) = Run (code_of g e d) ∷ Tick ∷ Give (stands g e d) (size_in g e) ∷ []
  flow_code st g input d (Emits e p) =
      let counter = d + size_in g e in
      Run (code_of g e d ++ Number (Local counter) (pos 0) ∷ [])
      ∷ Gives (record { counter = counter; from = stands g e d; size = cells_for g (element_type (type_in g e)); count = first_length (type_in g e).lengths }) ∷ []
  flow_code st g input d (ReturnComp e p) = Run (code_of g e d ++ settling (stands g e d) d (size_in g e)) ∷ Tick ∷ []
  flow_code st g input d (Do body p) = Tick ∷ Run (do_code g d body) ∷ []
  flow_code st g input d (Repeat' _ (more_of-Comp c end_of-Comp) p) =
      let body = flow_code st g input d c in Tick ∷ (body ++ Again (length body + 1) ∷ [])
  flow_code st g input d (While' turning e _ (more_of-Comp c end_of-Comp) p) =
      let body = flow_code st g input d c in
      Run (code_of g e d) ∷ Branch (stands g e d) (ends_where_set turning) (length body + 2) ∷ Tick ∷ (body ++ Again (length body + 3) ∷ [])
  flow_code st g input d (Times' e _ (more_of-Comp c end_of-Comp) p) =
      let body = flow_code st g input (d + 1) c in
      Run (code_of g e d ++ settling (stands g e d) d 1) ∷ Turn d (length body + 2) ∷ Tick ∷ (body ++ Again (length body + 2) ∷ [])
  flow_code st g input d (For' name a n _ (more_of-Comp c end_of-Comp) p) =
      let body = flow_code st (with_index g (d + 2) name.id) input (d + 3) c in
      Run (code_of g a d ++ (settling (stands g a d) d 1 ++ (code_of g n (d + 1) ++ settling (stands g n (d + 1)) (d + 1) 1)))
      ∷ Turn (d + 1) (length body + 3) ∷ Tick ∷ Run (index_code d p) ∷ (body ++ Again (length body + 3) ∷ [])
  flow_code st g input d (If' e _ (more_of-Comp a end_of-Comp) _ (more_of-Comp b end_of-Comp) p) =
      let first = flow_code st g input d a in
      let second = flow_code st g input d b in
      Run (code_of g e d) ∷ Branch (stands g e d) false (length first + 1) ∷ (first ++ (Ahead (length second) ∷ second))
  flow_code st g input d (Map f k p) = map_code (call_code (g.funs k) d) d (cells_for g (result_type (g.funs k)))
  flow_code st g input d (Filter f k p) = filter_code (call_code (g.funs k) (d + cells_for g input)) d (cells_for g input)
  flow_code st g input d (Call name k es) = Run (code_of_all g es d) ∷ Tick ∷ enter_code (st.entries k) d
  flow_code st g input d (Block' _ ms p) = members_code st g input d d d (plain UnitTy) ms
  flow_code st g input d (Pipe' link _ (more_of-Comp a end_of-Comp) _ (more_of-Comp b end_of-Comp) p) =
      let between = type_between (output_in st g input d a) in
      pipe_code d (cells_for g (type_or_unit (value_in st g input d a))) (back_of (assigns st.assigned a) g)
      (flow_code st g input d a) (flow_code st g between d b)

  -- the code of the members of a block which began with the cells from begin on free, where the value of the last one before them stands from a cell on and
  -- has this type
  pub members_code : {k : _} → Setting → Scope → Ty → ℕ → ℕ → ℕ → Ty → Row_of-Member k → List Instruction
  members_code st g input begin d at ty end_of-Member = run_some (settling (Local at) begin (cells_for g ty))
  members_code st g input begin d at ty (more_of-Member (Bind name c) ms) =
      let u = type_or_unit (value_in st g input d c) in
      flow_code st g input d c ++ members_code st (with_local g d name.id u) input begin (d + cells_for g u) d u ms
  members_code st g input begin d at ty (more_of-Member (Var v) ms) =
      let u = type_of v.ty in
      Run (initial_code g d (cells_for g u) v.initial) ∷ members_code st (with_local g d v.name.id u) input begin (d + cells_for g u) begin (plain UnitTy) ms
  members_code st g input begin d at ty (more_of-Member (RunMember c) ms) =
      flow_code st g input d c ++ members_code st g input begin d d (type_or_unit (value_in st g input d c)) ms

-- the code of an instance, whose value goes to its first cells
abbrev pub instance_code : Setting → Scope → Instance → List Instruction
instance_code st g i =
    let d = cells_of_all g i.params in
    flow_code st (inside g i.params) i.input d i.body
    ++ (run_some (settling (Local d) 0 (cells_for g (type_or_unit (value_in st (inside g i.params) i.input d i.body)))) ++ Leave ∷ [])
