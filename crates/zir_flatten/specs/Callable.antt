-- What the instances that may be called are to the definitions of code.
use Rattle.std.specs.Prelude.{ℕ, Option, Some, None, ◌≡◌, slice_get}
use Rattle.zir_assigned.specs.Assigned.{Agrees}
use Rattle.zir_flow.specs.Kinds.{Entry, Setting}
use Rattle.zir_stage.specs.Layouts.{shape_by}
use Rattle.zir_flatten.specs.declared.places.Callee.{Callee}
use Rattle.zir_flatten.specs.declared.places.Places.{Places}

-- an instance has this entry
pub record IsEntry (made : Callee) (e : Entry) : Type 0 where
  pub place : e.place ≡ made.place
  pub emits : e.emits ≡ made.emits
  pub value : e.value ≡ made.value
  pub needs : e.needs ≡ made.needs
  pub depth : e.depth ≡ made.depth
  pub shape : e.shape ≡ shape_by made.layout

-- there is an instance where there is an entry, and it has that
abbrev pub HasEntry : Option Callee → Option Entry → Type 0
HasEntry None None = Unit {0}
HasEntry None (Some e) = ⊥
HasEntry (Some made) None = ⊥
HasEntry (Some made) (Some e) = IsEntry made e

-- these are the instances that may be called in a setting, and what functions and instances assign there
pub record Sets (places : Places) (st : Setting) : Type 0 where
  pub entries : (k : ℕ) → HasEntry (slice_get places.callees.items k) (st.entries k)
  pub assigned : Agrees places.assigned st.assigned
