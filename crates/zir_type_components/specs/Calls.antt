-- The `fun comp`s that a component may call, as code looks them up.
use Rattle.std.specs.Prelude.{ℕ, List, drop, Bool, ◌&&◌, nat_eq}
use Rattle.zir_tree.specs.declared.program.Instance.{Instance}
use Rattle.zir_tree.specs.declared.types.Ty.{Ty}
use Rattle.zir_tree.specs.declared.comp.Comp.{Comp}
use Rattle.zir_types.specs.Walk.{Walk}
use Rattle.zir_types.specs.Kinds.{same_ty}
use Rattle.zir_types.specs.Scope.{Visible, Placed}
use Rattle.zir_types.specs.Components.{Makers, Reached, comp}
use Rattle.zir_types.specs.Programs.{Prepared, makers}
use Rattle.zir_type_components.specs.declared.comps.Found.{Found}
use Rattle.zir_type_components.specs.declared.comps.Site.{Site}
use Rattle.zir_type_components.specs.declared.instances.FoundInstance.{FoundInstance}
use Rattle.zir_type_components.specs.Answers.{up_to}
use Rattle.zir_type_components.specs.Numbers.{Split}

-- What is found among these, with those before it.
abbrev pub split_in : List Prepared → Found → Split
split_in ds f = record { item = f.comp.now; before = drop f.next ds }

-- The instance that is found, with its place.
abbrev pub placed_instance : FoundInstance → Placed Instance
placed_instance f = record { place = f.place; item = f.instance.now }

-- Whether an instance is that of this declaration at this input type.
abbrev pub is_instance_of : Instance → ℕ → Ty → Bool
is_instance_of i id a = nat_eq i.declaration id && same_ty i.input a

-- The `fun comp`s that a component at a site may call.
abbrev pub makers_at : Site → Visible → Makers
makers_at s g = makers (up_to s.depth g) (drop s.from s.comps.now)

-- The walk of a component at a site.
abbrev pub walk_at : Site → Visible → Ty → Comp → List Instance → Walk Reached
walk_at s g a c is = comp (makers_at s g) g s.around a c is
