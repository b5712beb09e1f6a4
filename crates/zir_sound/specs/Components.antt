-- The rules of typed components without an order, over the instances that they call.
use Rattle.std.specs.Prelude.{◌≡◌, ℕ, List, [], ◌∷◌, ◌++◌, true, false, Option, Some, None, slice_get}
use Rattle.zir_tree.specs.declared.types.Base.TheVariants.{Unit as UnitTy, Bool as BoolTy, Int32}
use Rattle.zir_tree.specs.declared.types.Ty.{Ty}
use Rattle.zir_tree.specs.declared.comp.Comp.{Comp, Take, Takes, Emit, Emits, Return, Do, Repeat', While', Times', For', If', Map, Filter, Call}
use Rattle.zir_tree.specs.declared.comp.Comp.{Block', Pipe', end_of-Comp, more_of-Comp, Row_of-Member, end_of-Member, more_of-Member}
use Rattle.zir_tree.specs.declared.comp.Member.{Member, Bind, Var, Run}
use Rattle.zir_tree.specs.declared.program.Instance.{Instance}
use Rattle.zir_types.specs.declared.scope.Signature.{Signature}
use Rattle.zir_types.specs.Kinds.{scalar, arr, same_ty}
use Rattle.zir_types.specs.Scope.{Visible, declare, variable, has_cells}
use Rattle.zir_types.specs.Statements.{with_index}
use Rattle.zir_types.specs.Components.{emitted, first_of, agreed, unit_value, link_type}
use Rattle.zir_types.specs.Typing.{Has}
use Rattle.zir_sound.specs.Statements.{Each, IsBody, IsVar, param_types, seen_of}

-- One side of a link at most is a computer, and its value is that of the link.
abbrev pub IsValueOf : Option Ty → Option Ty → Option Ty → Type 0
IsValueOf None b v = v ≡ b
IsValueOf (Some t) None v = v ≡ Some t
IsValueOf (Some t) (Some u) v = ⊥

-- A member that is no computer is the last.
abbrev pub MayStand : {m : _} → Row_of-Member m → Option Ty → Type 0
MayStand end_of-Member u = Unit {0}
MayStand (more_of-Member m ms) None = ⊥
MayStand (more_of-Member m ms) (Some t) = Unit {0}

abbrev mutual
  -- A typed component over these instances reads the first type, emits the second, if anything, and has a value of the third, if it is a
  -- computer: every expression has its type, a function or an instance stands at the place that a use of it carries, the bodies of loops are
  -- computers of unit, the branches of an `if` agree, and the right side of a link reads what the left side emits.
  pub IsComp : Visible → List Instance → Ty → Comp → Option Ty → Option Ty → Type 0
  IsComp g is a (Take p) out v = (out ≡ None) × (v ≡ Some a)
  IsComp g is a (Takes k p) out v = (out ≡ None) × (v ≡ Some (arr k a))
  IsComp g is a (Emit e p) out v = (t : Ty) × (out ≡ Some t) × (v ≡ unit_value) × (has_cells g.shapes t ≡ true) × Has g t e
  IsComp g is a (Emits e p) out v = (t : Ty) × (n : ℕ) × (out ≡ Some t) × (v ≡ unit_value) × (has_cells g.shapes t ≡ true) × Has g (arr n t) e
  IsComp g is a (Return e p) out v = (t : Ty) × (out ≡ None) × (v ≡ Some t) × Has g t e
  IsComp g is a (Do b p) out v = (t : Ty) × (out ≡ None) × (v ≡ Some t) × IsBody g t b
  IsComp g is a (Repeat' _ (more_of-Comp c end_of-Comp) p) out v = (v ≡ None) × IsComp g is a c out unit_value
  IsComp g is a (While' turning e _ (more_of-Comp c end_of-Comp) p) out v = (v ≡ unit_value) × Has g (scalar BoolTy) e × IsComp g is a c out unit_value
  IsComp g is a (Times' e _ (more_of-Comp c end_of-Comp) p) out v = (v ≡ unit_value) × Has g (scalar Int32) e × IsComp g is a c out unit_value
  IsComp g is a (For' x e f _ (more_of-Comp c end_of-Comp) p) out v =
      (v ≡ unit_value) × Has g (scalar Int32) e × Has g (scalar Int32) f × IsComp (with_index x g) is a c out unit_value
  IsComp g is a (If' e _ (more_of-Comp c end_of-Comp) _ (more_of-Comp d end_of-Comp) p) out v =
      (r : Option Ty) × (s : Option Ty) × (agreed (emitted r ++ emitted s) ≡ true) × (out ≡ first_of (emitted r ++ emitted s))
      × Has g (scalar BoolTy) e × IsComp g is a c r v × IsComp g is a d s v
  IsComp g is a (Map f k p) out v =
      (s : Signature) × (slice_get g.functions k ≡ Some s) × (s.params ≡ a ∷ []) × (same_ty s.result (scalar UnitTy) ≡ false) × (out ≡ Some s.result) ×
      (v ≡ None)
  IsComp g is a (Filter f k p) out v =
      (s : Signature) × (slice_get g.functions k ≡ Some s) × (s.params ≡ a ∷ []) × (s.result ≡ scalar BoolTy) × (out ≡ Some a) × (v ≡ None)
  IsComp g is a (Call f k es) out v =
      (i : Instance) × (slice_get is k ≡ Some i) × (i.input ≡ a) × (out ≡ i.emits) × (v ≡ i.value) × Each g (param_types i.params) es
  IsComp g is a (Block' _ ms p) out v = (outs : List Ty) × (agreed outs ≡ true) × (out ≡ first_of outs) × AreMembers g is a unit_value ms outs v
  IsComp g is a (Pipe' link _ (more_of-Comp c end_of-Comp) _ (more_of-Comp d end_of-Comp) p) out v =
      (mid : Option Ty) × (r : Option Ty) × (s : Option Ty) × IsValueOf r s v × IsComp g is a c mid r × IsComp g is (link_type mid) d out s

  -- Members in a row emit values of these types in turn, and the last one, or what stands before them, has this value; each but the last is a
  -- computer, and is typed over what those before it bring into scope.
  pub AreMembers : Visible → List Instance → Ty → Option Ty → {m : _} → Row_of-Member m → List Ty → Option Ty → Type 0
  AreMembers g is a last end_of-Member outs v = (outs ≡ []) × (v ≡ last)
  AreMembers g is a last (more_of-Member (Bind x c) ms) outs v =
      (t : Ty) × (o : Option Ty) × (more : List Ty) × (outs ≡ emitted o ++ more) × IsComp g is a c o (Some t)
      × AreMembers (declare (variable x.id t ∷ []) g) is a (Some t) ms more v
  AreMembers g is a last (more_of-Member (Var d) ms) outs v = IsVar g d × AreMembers (declare (seen_of d ∷ []) g) is a unit_value ms outs v
  AreMembers g is a last (more_of-Member (Run c) ms) outs v =
      (o : Option Ty) × (u : Option Ty) × (more : List Ty) × (outs ≡ emitted o ++ more) × IsComp g is a c o u × MayStand ms u × AreMembers g is a u ms more v

-- The same for plain lists of members.
abbrev pub MayStandOf : List Member → Option Ty → Type 0
MayStandOf [] u = Unit {0}
MayStandOf (m ∷ ms) None = ⊥
MayStandOf (m ∷ ms) (Some t) = Unit {0}

abbrev pub AreMembersOf : Visible → List Instance → Ty → Option Ty → List Member → List Ty → Option Ty → Type 0
AreMembersOf g is a last [] outs v = (outs ≡ []) × (v ≡ last)
AreMembersOf g is a last (Bind x c ∷ ms) outs v =
    (t : Ty) × (o : Option Ty) × (more : List Ty) × (outs ≡ emitted o ++ more) × IsComp g is a c o (Some t)
    × AreMembersOf (declare (variable x.id t ∷ []) g) is a (Some t) ms more v
AreMembersOf g is a last (Var d ∷ ms) outs v = IsVar g d × AreMembersOf (declare (seen_of d ∷ []) g) is a unit_value ms outs v
AreMembersOf g is a last (Run c ∷ ms) outs v =
    (o : Option Ty) × (u : Option Ty) × (more : List Ty) × (outs ≡ emitted o ++ more) × IsComp g is a c o u × MayStandOf ms u × AreMembersOf g is a u ms more v
