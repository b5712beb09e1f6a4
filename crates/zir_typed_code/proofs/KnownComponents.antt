-- What typed components emit, and their values, are of known types.
use Rattle.std.specs.Prelude.{◌≡◌, ℕ, zero, suc, List, [], ◌∷◌, ◌++◌, Option, Some, None, slice_get, length}
use Rattle.std.proofs.Common.{sym, subst}
use Rattle.zir_tree.specs.declared.types.Base.TheVariants.{Int32}
use Rattle.zir_tree.specs.declared.types.Ty.{Ty}
use Rattle.zir_tree.specs.declared.comp.Comp.{Comp, Take, Takes, Emit, Emits, Return, Do, Repeat', While', Times', For', If', Map, Filter, Call}
use Rattle.zir_tree.specs.declared.comp.Comp.{Block', Pipe', end_of-Comp, more_of-Comp, Row_of-Member, end_of-Member, more_of-Member}
use Rattle.zir_tree.specs.declared.comp.Member.{Bind, Var, Run}
use Rattle.zir_tree.specs.declared.program.Instance.{Instance}
use Rattle.zir_types.specs.Kinds.{scalar, arr}
use Rattle.zir_types.specs.Scope.{Visible, declare, variable}
use Rattle.zir_types.specs.Statements.{with_index}
use Rattle.zir_types.specs.Components.{emitted, first_of, unit_value, link_type}
use Rattle.zir_shapes.specs.Shapes.{StructsBefore}
use Rattle.zir_code.specs.Scopes.{Scope}
use Rattle.zir_sound.specs.Statements.{seen_of}
use Rattle.zir_sound.specs.Components.{IsComp, AreMembers, IsValueOf}
use Rattle.zir_typed_code.specs.Forming.{KnownType, FormedComp, FormedMembers, FormedInstance, FormedInstances}
use Rattle.zir_typed_code.specs.Scopes.{SameScope}
use Rattle.zir_typed_code.proofs.Known.{Knows, has_known, scope_known}
use Rattle.zir_typed_code.proofs.KnownBodies.{knows_one, body_known}
use Rattle.zir_typed_code.proofs.Writing.{AllTypes, types_more}
use Rattle.zir_typed_code.proofs.FormsOfComponents.{emitted_known, first_known, link_known}

-- What is emitted and the value, by what they are.
known_as : (m : ℕ) (o p : Option Ty) → o ≡ p → KnownType m p → KnownType m o
known_as m o p e h = subst (KnownType m) (sym e) h

instance_at : (m : ℕ) (tops : List ℕ) (is : List Instance) (k : ℕ) (i : Instance) → FormedInstances m tops is → slice_get is k ≡ Some i → FormedInstance m tops i
instance_at m tops [] k i f h = absurd cc
instance_at m tops (j ∷ is) zero i f h = let e : j ≡ i = cc in subst (FormedInstance m tops) e f.0
instance_at m tops (j ∷ is) (suc k) i f h = instance_at m tops is k i f.1 h

value_known : (m : ℕ) (r s v : Option Ty) → IsValueOf r s v → KnownType m r → KnownType m s → KnownType m v
value_known m None s v h k l = known_as m v s h l
value_known m (Some t) None v h k l = known_as m v (Some t) h k
value_known m (Some t) (Some u) v h k l = absurd h

mutual
  comp_known : (m : ℕ) (tops xs : List ℕ) (v : Visible) (is : List Instance) (a : Ty) (c : Comp) (out val : Option Ty) → Knows m v → FormedInstances m tops is →
      StructsBefore m a.base → FormedComp m xs c → IsComp v is a c out val → KnownType m out × KnownType m val
  comp_known m tops xs v is a (Take p) out val w i known f h = (known_as m out None h.0 tt, known_as m val (Some a) h.1 known)
  comp_known m tops xs v is a (Takes k p) out val w i known f h = (known_as m out None h.0 tt, known_as m val (Some (arr k a)) h.1 known)
  comp_known m tops xs v is a (Emit e p) out val w i known f (t, is_out, is_val, cells, has) =
      (known_as m out (Some t) is_out (has_known m v w t e f has), known_as m val unit_value is_val tt)
  comp_known m tops xs v is a (Emits e p) out val w i known f (t, n, is_out, is_val, cells, has) =
      (known_as m out (Some t) is_out (has_known m v w (arr n t) e f has), known_as m val unit_value is_val tt)
  comp_known m tops xs v is a (Return e p) out val w i known f (t, is_out, is_val, has) =
      (known_as m out None is_out tt, known_as m val (Some t) is_val (has_known m v w t e f has))
  comp_known m tops xs v is a (Do b p) out val w i known f (t, is_out, is_val, body) =
      (known_as m out None is_out tt, known_as m val (Some t) is_val (body_known m xs v t b w f body))
  comp_known m tops xs v is a (Repeat' _ (more_of-Comp c end_of-Comp) p) out val w i known f h =
      ((comp_known m tops xs v is a c out unit_value w i known f h.1).0, known_as m val None h.0 tt)
  comp_known m tops xs v is a (While' turning e _ (more_of-Comp c end_of-Comp) p) out val w i known f h =
      ((comp_known m tops xs v is a c out unit_value w i known f.1 h.2).0, known_as m val unit_value h.0 tt)
  comp_known m tops xs v is a (Times' e _ (more_of-Comp c end_of-Comp) p) out val w i known f h =
      ((comp_known m tops xs v is a c out unit_value w i known f.1 h.2).0, known_as m val unit_value h.0 tt)
  comp_known m tops xs v is a (For' x e l _ (more_of-Comp c end_of-Comp) p) out val w i known f h = (
    (comp_known m tops (x.id ∷ xs) (with_index x v) is a c out unit_value (knows_one m v (variable x.id (scalar Int32)) w tt) i known f.3 h.3).0,
    known_as m val unit_value h.0 tt,
  )
  comp_known m tops xs v is a (If' e _ (more_of-Comp c end_of-Comp) _ (more_of-Comp d end_of-Comp) p) out val w i known f (r, s, agree, is_out, cond, hc, hd) =
      let k = comp_known m tops xs v is a c r val w i known f.1 hc in
      let l = comp_known m tops xs v is a d s val w i known f.2 hd in (
        known_as m out (first_of (emitted r ++ emitted s)) is_out
            (first_known m (emitted r ++ emitted s) (types_more m (emitted r) (emitted s) (emitted_known m r k.0) (emitted_known m s l.0))),
        k.1,
      )
  comp_known m tops xs v is a (Map g k p) out val w i known f (s, at, params, unit, is_out, is_val) =
      (known_as m out (Some s.result) is_out (w.functions k s at), known_as m val None is_val tt)
  comp_known m tops xs v is a (Filter g k p) out val w i known f (s, at, params, result, is_out, is_val) =
      (known_as m out (Some a) is_out known, known_as m val None is_val tt)
  comp_known m tops xs v is a (Call g k es) out val w i known f (j, at, input, is_out, is_val, each) =
      let q : FormedInstance m tops j = instance_at m tops is k j i at in
      (known_as m out j.emits is_out q.emits, known_as m val j.value is_val q.value)
  comp_known m tops xs v is a (Block' _ ms p) out val w i known f (outs, agree, is_out, are) =
      let q = members_known m tops xs v is a unit_value ms outs val w i known f tt are in
      (known_as m out (first_of outs) is_out (first_known m outs q.0), q.1)
  comp_known m tops xs v is a (Pipe' link _ (more_of-Comp c end_of-Comp) _ (more_of-Comp d end_of-Comp) p) out val w i known f (mid, r, s, value, hc, hd) =
      let k = comp_known m tops xs v is a c mid r w i known f.0 hc in
      let l = comp_known m tops xs v is (link_type mid) d out s w i (link_known m mid k.0) f.1 hd in
      (l.0, value_known m r s val value k.1 l.1)

  members_known : (m : ℕ) (tops xs : List ℕ) (v : Visible) (is : List Instance) (a : Ty) (last : Option Ty) {k : _} (ms : Row_of-Member k) (outs : List Ty)
      (val : Option Ty) → Knows m v → FormedInstances m tops is → StructsBefore m a.base → FormedMembers m xs ms → KnownType m last →
      AreMembers v is a last ms outs val → AllTypes m outs × KnownType m val
  members_known m tops xs v is a last end_of-Member outs val w i known f l h = (subst (AllTypes m) (sym h.0) tt, known_as m val last h.1 l)
  members_known m tops xs v is a last (more_of-Member (Bind x c) ms) outs val w i known f l (t, o, more, are, hc, hm) =
      let k = comp_known m tops xs v is a c o (Some t) w i known f.1 hc in
      let q = members_known m tops (x.id ∷ xs) (declare (variable x.id t ∷ []) v) is a (Some t) ms more val (knows_one m v (variable x.id t) w k.1) i known f.2
      k.1 hm in
      (subst (AllTypes m) (sym are) (types_more m (emitted o) more (emitted_known m o k.0) q.0), q.1)
  members_known m tops xs v is a last (more_of-Member (Var d) ms) outs val w i known f l h =
      members_known m tops (d.name.id ∷ xs) (declare (seen_of d ∷ []) v) is a unit_value ms outs val (knows_one m v (seen_of d) w f.0.1) i known f.1 tt h.1
  members_known m tops xs v is a last (more_of-Member (Run c) ms) outs val w i known f l (o, u, more, are, hc, stands, hm) =
      let k = comp_known m tops xs v is a c o u w i known f.0 hc in
      let q = members_known m tops xs v is a u ms more val w i known f.1 k.1 hm in
      (subst (AllTypes m) (sym are) (types_more m (emitted o) more (emitted_known m o k.0) q.0), q.1)

pub components_known : (xs tops : List ℕ) (v : Visible) (g : Scope) (n : ℕ) → SameScope xs v g n → (is : List Instance) →
    FormedInstances (length g.structs) tops is → (a : Ty) (c : Comp) (out val : Option Ty) → StructsBefore (length g.structs) a.base →
    FormedComp (length g.structs) xs c → IsComp v is a c out val → KnownType (length g.structs) out × KnownType (length g.structs) val
components_known xs tops v g n w is i a c out val known f h =
    comp_known (length g.structs) tops xs v is a c out val (scope_known xs v g n w) i known f h
