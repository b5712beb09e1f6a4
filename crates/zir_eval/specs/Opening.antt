-- What is in scope at the top of a program, and what its cells hold at the beginning.
use Rattle.std.specs.Prelude.{ℕ, pos, ◌+◌, ◌<◌, ◌^◌, List, [], ◌∷◌, ◌++◌, Bool, true, false, Option, Some, None, ◌≡◌, length, map, sum_by}
use Rattle.zir_tree.specs.declared.ident.Ident.{Ident}
use Rattle.zir_tree.specs.declared.types.StructDef.{StructDef}
use Rattle.zir_tree.specs.declared.expr.Expr.{Expr}
use Rattle.zir_tree.specs.declared.stmt.Stmt.{Stmt, Assign}
use Rattle.zir_tree.specs.declared.stmt.Var.{Var}
use Rattle.zir_tree.specs.declared.value.Slot.{Slot}
use Rattle.zir_tree.specs.declared.value.Val.{Val}
use Rattle.zir_tree.specs.declared.program.Core.{Core}
use Rattle.zir_meaning.specs.Values.{type_of, blank, blanks_of}
use Rattle.zir_meaning.specs.Store.{Store}
use Rattle.zir_meaning.specs.Trace.{State}
use Rattle.zir_cells.specs.Layout.{layout_of}
use Rattle.zir_shapes.specs.Shapes.{StructsBefore, Ordered}
use Rattle.zir_expr.specs.declared.frame.Spot.TheVariants.{Top}
use Rattle.zir_expr.specs.Memory.{cell_at}
use Rattle.zir_expr.specs.Memory.Frames.{Memory}
use Rattle.zir_code.specs.declared.scope.Holder.{Holder}
use Rattle.zir_code.specs.Scopes.{Scope}
use Rattle.zir_code.specs.Peaks.{small}
use Rattle.zir_code.specs.Program.{at_top, more_signatures}
use Rattle.zir_compile.specs.declared.scope.Names.{Names}
use Rattle.zir_compile.specs.Names.{scope_of}
use Rattle.zir_compile.specs.Signing.{no_signature, signatures_of}

-- the cells of a variable
abbrev pub cells_for_var : List StructDef → Var → ℕ
cells_for_var structs v = layout_of structs (type_of v.ty)

-- the cells of variables
abbrev pub cells_for_vars : List StructDef → List Var → ℕ
cells_for_vars structs vs = sum_by (cells_for_var structs) vs

-- a top variable from a cell on
abbrev pub top_holder : List StructDef → ℕ → Var → Holder
top_holder structs i v = record { id = v.name.id; spot = Top i; cells = cells_for_var structs v; ty = type_of v.ty }

-- top variables, one behind the other from a cell on
abbrev pub top_holders : List StructDef → ℕ → List Var → List Holder
top_holders structs i [] = []
top_holders structs i (v ∷ vs) = top_holder structs i v ∷ top_holders structs (i + cells_for_var structs v) vs

-- the cells of all of these
abbrev pub held_cells : List Holder → ℕ
held_cells ds = sum_by (λ d. d.cells) ds

-- the cells of the top variables of a program
abbrev pub top_cells : Core → ℕ
top_cells core = cells_for_vars core.structs core.variables

-- whether 32 bits count them
abbrev pub can_open : Core → Bool
can_open core = small (top_cells core)

-- what is in scope at the top of a program, with all its functions
abbrev pub program_scope : Core → Scope
program_scope core =
    let tops = top_holders core.structs 0 core.variables in
    at_top core.structs tops (more_signatures no_signature 0 (signatures_of core.structs tops core.functions))

-- these names are in scope at the top of a program, or it cannot be opened
abbrev pub NamedAs : Core → Option Names → Type 0
NamedAs core None = can_open core ≡ false
NamedAs core (Some names) = (can_open core ≡ true) × (scope_of names ≡ program_scope core)

-- a new frame of these top variables, with so much room for a body and so many ticks
pub record IsBlank (tops : List Holder) (room limit : ℕ) (m : Memory) : Type 0 where
  pub size : held_cells tops < 2 ^ 32 → length m.cells ≡ held_cells tops + room
  pub zero : (i : ℕ) → cell_at i m ≡ pos 0
  pub used : m.used ≡ 0
  pub limit_is : m.limit ≡ limit

-- top variables with their blank values
abbrev pub blank_slots : List Val → List Var → List Slot
blank_slots blanks vs = map (λ v. let s : Slot = record { id = v.name.id; value = blank blanks (type_of v.ty) } in s) vs

-- the state of a program whose top variables have their blank values, with so many ticks
abbrev pub blank_start : Core → ℕ → State
blank_start core limit =
    let store : Store = record { tops = blank_slots (blanks_of core.structs) core.variables; locals = [] } in
    record { taken = 0; ticks = 0; left = limit; store = store }

-- a variable is assigned its initial value, if it has one
abbrev pub initially : Ident → Option Expr → List Stmt
initially name None = []
initially name (Some e) = Assign name [] e ∷ []

-- variables are assigned their initial values, in the order of the text
abbrev pub initial_assignments : List Var → List Stmt
initial_assignments [] = []
initial_assignments (v ∷ vs) = initially v.name v.initial ++ initial_assignments vs

-- these variables are of known types
abbrev pub VarsKnown : ℕ → List Var → Type 0
VarsKnown n [] = Unit {0}
VarsKnown n (v ∷ vs) = StructsBefore n (type_of v.ty).base × VarsKnown n vs

-- the structs of a program name those before them alone, and its top variables those of the program
pub record KnowsTypes (core : Core) : Type 0 where
  pub structs : Ordered core.structs
  pub variables : VarsKnown (length core.structs) core.variables
