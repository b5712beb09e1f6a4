-- That a program begins as its initial values say.
use Rattle.std.specs.Prelude.{ℕ, List, ◌++◌, ◌≡◌}
use Rattle.zir_tree.specs.declared.value.Val.{Unit as UnitVal}
use Rattle.zir_tree.specs.declared.value.Slot.{Slot}
use Rattle.zir_tree.specs.declared.program.Core.{Core}
use Rattle.zir_tree.specs.declared.program.Prog.{Prog}
use Rattle.zir_names.specs.declared.program.Named.{Named}
use Rattle.zir_names.specs.Walk.{Fine as Resolved}
use Rattle.zir_names.specs.Programs.{names}
use Rattle.zir_types.specs.Walk.{Fine}
use Rattle.zir_types.specs.Programs.{program}
use Rattle.zir_meaning.specs.Trace.{State}
use Rattle.zir_meaning.specs.Evaluation.{Eval, Got, Traps, RunsOut}
use Rattle.zir_meaning.specs.Statements.{does_all}
use Rattle.zir_meaning.specs.Functions.{library_of}
use Rattle.zir_meaning.specs.Run.{top_values, start}
use Rattle.zir_eval.specs.Opening.{initial_assignments, blank_start}
use Rattle.zir_beginning.specs.Order.{BeginsInOrder, OwnsNumbers}

-- more top variables stand behind the others
abbrev pub with_more : List Slot → State → State
with_more slots s = record s { store = record s.store { tops = s.store.tops ++ slots } }

-- assignments end as the declarations of the same variables: in the same state, or by the same trap, where the variables that are not declared yet
-- stand behind those that are, or with the budget spent
abbrev pub EndsAs : Eval → Eval → Type 0
EndsAs (Got v s) r = r ≡ Got UnitVal s
EndsAs (Traps t s) r = (later : List Slot) × (r ≡ Traps t (with_more later s))
EndsAs RunsOut r = r ≡ RunsOut

-- where each initial value uses only what stands before it, assigning them all to blank variables ends as declaring one variable after the other
abbrev pub InitialsBegin : Type 0
InitialsBegin =
    (core : Core) (n : ℕ) → BeginsInOrder core →
    let l = library_of core.structs core.functions in
    EndsAs (top_values l core.variables (start n)) (does_all l (initial_assignments core.variables) (blank_start core n))

-- in the core of a typed program each initial value uses only what stands before it, where the top variables have numbers of their own
abbrev pub TypedBegin : Type 0
TypedBegin = (p : Prog) (core : Core) → program p ≡ Fine core → OwnsNumbers core → BeginsInOrder core

-- in the core of a program with its names resolved the top variables have numbers of their own, which no function declares
abbrev pub NumbersAreOwn : Type 0
NumbersAreOwn = (p : Prog) (n : Named) (core : Core) → names p ≡ Resolved n → program n.program ≡ Fine core → OwnsNumbers core
