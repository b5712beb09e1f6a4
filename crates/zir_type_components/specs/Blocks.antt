-- The members of a block one after the other, as code takes them.
use Rattle.std.specs.Prelude.{◌≡◌, ℕ, List, [], ◌∷◌, length, Bool, true, false, Option, Some, None, Result, Ok, Err}
use Rattle.zir_tree.specs.declared.place.Place.{Place}
use Rattle.zir_tree.specs.declared.ident.Ident.{Ident}
use Rattle.zir_tree.specs.declared.types.Ty.{Ty}
use Rattle.zir_tree.specs.declared.comp.Member.{Member, Bind, Var, Run}
use Rattle.zir_tree.specs.declared.program.Instance.{Instance}
use Rattle.zir_types.specs.declared.typed.TypedVar.{TypedVar}
use Rattle.zir_types.specs.declared.error.TypeError.{TypeError}
use Rattle.zir_types.specs.declared.error.TypeError.TheVariants.{NotComputer}
use Rattle.zir_types.specs.Walk.{Walk, Fine, Broken, and_then, check, Refuses}
use Rattle.zir_types.specs.Scope.{Visible, declare, variable}
use Rattle.zir_types.specs.Statements.{var, seen_var}
use Rattle.zir_types.specs.Components.{Makers, Members, Reached, comp, place_of, with_var, with_comp, may_stand}
use Rattle.zir_type_components.specs.declared.rules.Gathered.{Gathered}
use Rattle.zir_type_components.specs.Answers.{up_to}

-- The members so far, and what is in scope behind them.
pub record Stepped : Type 0 where
  pub members : Members
  pub scope : Visible

-- What code gathers of the members so far, behind these instances.
abbrev pub gathered_at : Gathered → List Instance → Members
gathered_at done is = record { what = done.what; emits = done.emits; value = done.value; instances = is }

-- An answer tells of a walk which members it makes, behind these instances, and what is in scope behind them, which begins with what was in
-- scope before; or its refusal.
abbrev pub ToldStep : Walk Stepped → Result Gathered TypeError → List Instance → Visible → Visible → Type 0
ToldStep walk (Ok done) is before after =
    (walk ≡ Fine (record { members = gathered_at done is; scope = after })) × (up_to (length before.variables) after ≡ before)
ToldStep walk (Err error) is before after = Refuses walk error

-- The same of all members of a block.
abbrev pub ToldMembers : Walk Members → Result Gathered TypeError → List Instance → Visible → Visible → Type 0
ToldMembers walk (Ok done) is before after = (walk ≡ Fine (gathered_at done is)) × (up_to (length before.variables) after ≡ before)
ToldMembers walk (Err error) is before after = Refuses walk error

-- A name of a component with this value is in scope behind it; the component is a computer.
abbrev pub name_in : Option Ty → Visible → Ident → Place → Walk Visible
name_in None g x p = Broken (NotComputer p)
name_in (Some t) g x p = Fine (declare (variable x.id t ∷ []) g)

-- An answer tells of this, with the name, what is in scope behind it, or its refusal.
abbrev pub ToldName : Walk Visible → Ident → Result Ident TypeError → Visible → Type 0
ToldName walk x (Ok made) after = (walk ≡ Fine after) × (made ≡ x)
ToldName walk x (Err error) after = Refuses walk error

-- The rule of a bound name.
abbrev pub bind_of : Visible → Ident → Place → Members → Reached → Walk Stepped
bind_of g x p done r =
    and_then (name_in r.what.value g x p) (λ h. Fine (record { members = with_comp done (Bind x r.what.what) r; scope = h }))

-- The rule of a component, which is a computer before the last member.
abbrev pub run_of : Visible → Bool → Place → Members → Reached → Walk Stepped
run_of g last p done r =
    and_then (check (may_stand last r.what.value) (NotComputer p) r) (λ r. Fine (record { members = with_comp done (Run r.what.what) r; scope = g }))

-- A variable is in scope behind its declaration.
abbrev pub var_of : Visible → Members → TypedVar → Walk Stepped
var_of g done t = Fine (record { members = with_var done t; scope = declare (seen_var t) g })

-- A member behind those before it.
abbrev pub member : Makers → Visible → ℕ → Ty → Bool → Members → Member → Walk Stepped
member mk g n a last done (Bind x c) = and_then (comp mk g n a c done.instances) (bind_of g x (place_of c) done)
member mk g n a last done (Var v) = and_then (var g v) (var_of g done)
member mk g n a last done (Run c) = and_then (comp mk g n a c done.instances) (run_of g last (place_of c) done)

-- Whether no member is left.
abbrev pub is_end : List Member → Bool
is_end [] = true
is_end (m ∷ ms) = false

-- Members from some place on, behind those before them.
abbrev pub members_of : Makers → Visible → ℕ → Ty → Members → List Member → Walk Members
members_of mk g n a done [] = Fine done
members_of mk g n a done (m ∷ ms) = and_then (member mk g n a (is_end ms) done m) (λ s. members_of mk s.scope n a s.members ms)
