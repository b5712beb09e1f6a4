-- What a walk through a component finds, and what it leaves.
use Rattle.std.specs.Prelude.{◌≡◌, ◌+◌, max, List, [], ◌∷◌, ◌++◌, Some, Result, Ok, Err}
use Rattle.std.specs.declared.alloc.AllocError.{AllocError}
use Rattle.zir_tree.specs.declared.types.Base.TheVariants.{Unit as UnitTy}
use Rattle.zir_tree.specs.declared.types.Ty.{Ty}
use Rattle.zir_tree.specs.declared.expr.Expr.{Expr}
use Rattle.zir_tree.specs.declared.comp.Comp.{Comp}
use Rattle.zir_tree.specs.declared.comp.Member.{Member, Bind, Var as VarMember, Run}
use Rattle.zir_types.specs.declared.scope.Seen.{Seen}
use Rattle.zir_types.specs.Kinds.{scalar}
use Rattle.zir_types.specs.Scope.{variable, cells_in}
use Rattle.zir_types.specs.Known.{or_unit, first_some, seen_in, kind_of}
use Rattle.zir_types.specs.Measures.{Measure, in_comp, in_var}
use Rattle.zir_types.specs.Needs.{counted, expr_need, comp_need, initial_need, var_cells}
use Rattle.zir_limits_walks.specs.declared.found.Walked.{Walked}
use Rattle.zir_limits_walks.specs.declared.found.Members.{Members}
use Rattle.zir_limits.specs.Facts.{CoreFacts, sight, needs_in}
use Rattle.zir_limits.specs.declared.notes.Notes.{Notes}
use Rattle.zir_limits.specs.Notes.{noted}

-- The types and the need of a component.
abbrev pub walked : CoreFacts → List Seen → Ty → Comp → Walked
walked f vs a c = let k = kind_of f.instances (sight f vs) a c in record {
  emits = k.emits;
  value = k.value;
  need = comp_need f.instances (needs_in f) (sight f vs) a c;
}

-- A walk through a component gives its types and its need, notes its measures, and leaves the scope as it was.
abbrev pub Walks : CoreFacts → List Seen → Ty → Comp → Notes → Notes → List Seen → Result Walked AllocError → Type 0
Walks f vs a c before after now (Ok w) = (w ≡ walked f vs a c) × (after ≡ noted (in_comp f.instances (sight f vs) a c) before) × (now ≡ vs)
Walks f vs a c before after now (Err e) = Unit {0}

-- A walk through the first of two components, behind these measures.
abbrev pub Leads : CoreFacts → List Seen → Ty → List Measure → Comp → Notes → Notes → List Seen → Result Walked AllocError → Type 0
Leads f vs a ms c before after now (Ok w) = (w ≡ walked f vs a c) × (after ≡ noted (ms ++ in_comp f.instances (sight f vs) a c) before) × (now ≡ vs)
Leads f vs a ms c before after now (Err e) = Unit {0}

-- A walk through the second of two components, which gives this for both.
abbrev pub Joins : Walked → CoreFacts → List Seen → Ty → Comp → Notes → Notes → List Seen → Result Walked AllocError → Type 0
Joins both f vs a c before after now (Ok w) = (w ≡ both) × (after ≡ noted (in_comp f.instances (sight f vs) a c) before) × (now ≡ vs)
Joins both f vs a c before after now (Err e) = Unit {0}

-- The two parts of an `if` with this condition.
abbrev pub either : CoreFacts → Expr → Walked → Walked → Walked
either f e first other = record {
  emits = first_some first.emits other.emits;
  value = first.value;
  need = max (expr_need (needs_in f) e) (max first.need other.need);
}

-- The two sides of a link.
abbrev pub piped : Walked → Walked → Walked
piped left right = record {
  emits = right.emits;
  value = first_some left.value right.value;
  need = counted (left.need + right.need + 2);
}

-- What is known of members, with one more.
abbrev pub member_next : CoreFacts → List Seen → Ty → Members → Member → Members
member_next f vs a so_far (Bind x c) = let k = kind_of f.instances (sight f vs) a c in record {
  emits = first_some so_far.emits k.emits;
  value = k.value;
  cells = counted (so_far.cells + cells_in f.shapes (or_unit k.value));
  most = max so_far.most (comp_need f.instances (needs_in f) (sight f vs) a c);
}
member_next f vs a so_far (VarMember v) = record {
  emits = so_far.emits;
  value = Some (scalar UnitTy);
  cells = counted (so_far.cells + var_cells f.shapes v);
  most = max so_far.most (initial_need (needs_in f) v.initial);
}
member_next f vs a so_far (Run c) = let k = kind_of f.instances (sight f vs) a c in record {
  emits = first_some so_far.emits k.emits;
  value = k.value;
  cells = so_far.cells;
  most = max so_far.most (comp_need f.instances (needs_in f) (sight f vs) a c);
}

-- What a member brings into scope behind it.
abbrev pub member_seen : CoreFacts → List Seen → Ty → Member → List Seen
member_seen f vs a (Bind x c) = variable x.id (or_unit (kind_of f.instances (sight f vs) a c).value) ∷ []
member_seen f vs a (VarMember v) = seen_in v
member_seen f vs a (Run c) = []

-- What the limits look at in a member.
abbrev pub member_measures : CoreFacts → List Seen → Ty → Member → List Measure
member_measures f vs a (Bind x c) = in_comp f.instances (sight f vs) a c
member_measures f vs a (VarMember v) = in_var (sight f vs) v
member_measures f vs a (Run c) = in_comp f.instances (sight f vs) a c

-- A walk through a member: what is known with it, what is noted, and what is in scope behind it.
abbrev pub Steps : CoreFacts → List Seen → Ty → Members → Member → Notes → Notes → List Seen → Result Members AllocError → Type 0
Steps f vs a so_far m before after now (Ok next) =
    (next ≡ member_next f vs a so_far m) × (after ≡ noted (member_measures f vs a m) before) × (now ≡ vs ++ member_seen f vs a m)
Steps f vs a so_far m before after now (Err e) = Unit {0}

-- What is known of members, with these.
abbrev pub members_next : CoreFacts → List Seen → Ty → Members → List Member → Members
members_next f vs a so_far [] = so_far
members_next f vs a so_far (m ∷ ms) = members_next f (vs ++ member_seen f vs a m) a (member_next f vs a so_far m) ms

-- What the limits look at in members.
abbrev pub members_measures : CoreFacts → List Seen → Ty → List Member → List Measure
members_measures f vs a [] = []
members_measures f vs a (m ∷ ms) = member_measures f vs a m ++ members_measures f (vs ++ member_seen f vs a m) a ms
