-- Components in memory of their own, as parts of others.
use Rattle.std.specs.Prelude.{◌≡◌, List, Bool, true, false, Option, Some, None, Result, Ok, Err}
use Rattle.zir_tree.specs.declared.types.Ty.{Ty}
use Rattle.zir_tree.specs.declared.program.Instance.{Instance}
use Rattle.zir_types.specs.declared.error.TypeError.{TypeError}
use Rattle.zir_types.specs.declared.typed.TypedComp.{TypedComp}
use Rattle.zir_types.specs.Walk.{Walk, Fine, Refuses}
use Rattle.zir_types.specs.Scope.{Visible}
use Rattle.zir_types.specs.Components.{Reached}
use Rattle.zir_type_components.specs.declared.rules.Part.{Part}

-- The component that a part is.
abbrev pub typed_of : Part → TypedComp
typed_of part = record { what = part.what; emits = part.emits; value = part.value }

-- The same behind these instances.
abbrev pub part_at : Part → List Instance → Reached
part_at part is = record { what = typed_of part; instances = is }

-- An answer tells which part a walk makes, behind these instances and in the scope as before it, or its refusal.
abbrev pub ToldPart : Walk Reached → Result Part TypeError → List Instance → Visible → Visible → Type 0
ToldPart walk (Ok part) is before after = (walk ≡ Fine (part_at part is)) × (after ≡ before)
ToldPart walk (Err error) is before after = Refuses walk error

-- Whether both sides of a link have a value.
abbrev pub both_have : Option Ty → Option Ty → Bool
both_have None v = false
both_have (Some t) None = false
both_have (Some t) (Some u) = true
