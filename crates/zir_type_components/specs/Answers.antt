-- What an answer tells of the walk of a component.
use Rattle.std.specs.Prelude.{◌≡◌, ℕ, List, take, Bool, Option, Result, Ok, Err}
use Rattle.zir_tree.specs.declared.place.Place.{Place}
use Rattle.zir_tree.specs.declared.types.Ty.{Ty}
use Rattle.zir_tree.specs.declared.program.Instance.{Instance}
use Rattle.zir_types.specs.declared.error.TypeError.{TypeError}
use Rattle.zir_types.specs.declared.error.TypeError.TheVariants.{Mismatch, NotUnit}
use Rattle.zir_types.specs.declared.typed.TypedComp.{TypedComp}
use Rattle.zir_types.specs.Walk.{Walk, Fine, and_then, check, Refuses}
use Rattle.zir_types.specs.Scope.{Visible}
use Rattle.zir_types.specs.Components.{Reached, same_option, unit_value}

-- An answer tells which component a walk makes, behind these instances, or its refusal.
abbrev pub ToldOf : Walk Reached → Result TypedComp TypeError → List Instance → Type 0
ToldOf walk (Ok made) is = walk ≡ Fine (record { what = made; instances = is })
ToldOf walk (Err error) is = Refuses walk error

-- The same of a walk behind which this is in scope, as before it.
abbrev pub ToldIn : Walk Reached → Result TypedComp TypeError → List Instance → Visible → Visible → Type 0
ToldIn walk (Ok made) is before after = (walk ≡ Fine (record { what = made; instances = is })) × (after ≡ before)
ToldIn walk (Err error) is before after = Refuses walk error

-- What is in scope without the variables behind the first so many.
abbrev pub up_to : ℕ → Visible → Visible
up_to depth g = record g { variables = take depth g.variables }

-- The rule of a loop alone: its condition or bounds have their type, and its body is a computer of unit.
abbrev pub loop_check : Bool → Place → Option Ty → Walk (Unit {0})
loop_check right p value = and_then (check right (Mismatch p) (tt {0})) (λ _. check (same_option value unit_value) (NotUnit p) (tt {0}))
