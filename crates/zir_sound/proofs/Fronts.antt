-- Lists that begin others, and components over more instances.
use Rattle.std.specs.Prelude.{◌≡◌, refl, ℕ, zero, suc, List, [], ◌∷◌, ◌++◌, Option, Some, slice_get}
use Rattle.std.proofs.Common.{ap, ◌∙◌, sym}
use Rattle.std.proofs.lemmas.List.{append-nil, append_assoc}
use Rattle.zir_tree.specs.declared.types.Ty.{Ty}
use Rattle.zir_tree.specs.declared.comp.Comp.{Comp, Take, Takes, Emit, Emits, Return, Do, Repeat', While', Times', For', If', Map, Filter, Call}
use Rattle.zir_tree.specs.declared.comp.Comp.{Block', Pipe', end_of-Comp, more_of-Comp, Row_of-Member, end_of-Member, more_of-Member}
use Rattle.zir_tree.specs.declared.comp.Member.{Bind, Var, Run}
use Rattle.zir_tree.specs.declared.program.Instance.{Instance}
use Rattle.zir_types.specs.Scope.{Visible, declare, variable}
use Rattle.zir_types.specs.Statements.{with_index}
use Rattle.zir_types.specs.Components.{unit_value, link_type}
use Rattle.zir_sound.specs.Statements.{seen_of}
use Rattle.zir_sound.specs.Components.{AreMembers, IsComp}
use Rattle.zir_sound.specs.Cores.{Begins}

pub begins_self : {A : Type 0} (xs : List A) → Begins xs xs
begins_self {A} xs = ([], sym (append-nil xs))

pub begins_more : {A : Type 0} (xs ys : List A) → Begins xs (xs ++ ys)
begins_more {A} xs ys = (ys, refl)

pub begins_trans : {A : Type 0} (xs ys zs : List A) → Begins xs ys → Begins ys zs → Begins xs zs
begins_trans {A} xs ys zs h k = (h.0 ++ k.0, k.1 ∙ ap (λ v. v ++ k.0) h.1 ∙ append_assoc xs h.0 k.0)

-- What stands at a place of a list stands there in one that it begins.
get_more : {A : Type 0} (xs ys : List A) (k : ℕ) (x : A) → slice_get xs k ≡ Some x → slice_get (xs ++ ys) k ≡ Some x
get_more {A} [] ys k x h = absurd cc
get_more {A} (y ∷ xs) ys zero x h = h
get_more {A} (y ∷ xs) ys (suc k) x h = get_more xs ys k x h

pub get_begins : {A : Type 0} (xs ys : List A) (k : ℕ) (x : A) → Begins xs ys → slice_get xs k ≡ Some x → slice_get ys k ≡ Some x
get_begins {A} xs ys k x b h = ap (λ v. slice_get v k) b.1 ∙ get_more xs b.0 k x h

mutual
  -- A component keeps its rules over more instances.
  pub comp_grows : (g : Visible) (is js : List Instance) (a : Ty) (c : Comp) (out v : Option Ty) → Begins is js → IsComp g is a c out v → IsComp g js a c out v
  comp_grows g is js a (Take p) out v b h = h
  comp_grows g is js a (Takes k p) out v b h = h
  comp_grows g is js a (Emit e p) out v b h = h
  comp_grows g is js a (Emits e p) out v b h = h
  comp_grows g is js a (Return e p) out v b h = h
  comp_grows g is js a (Do d p) out v b h = h
  comp_grows g is js a (Repeat' _ (more_of-Comp c end_of-Comp) p) out v b h = (h.0, comp_grows g is js a c out unit_value b h.1)
  comp_grows g is js a (While' turning e _ (more_of-Comp c end_of-Comp) p) out v b (is_v, has, hc) = (is_v, has, comp_grows g is js a c out unit_value b hc)
  comp_grows g is js a (Times' e _ (more_of-Comp c end_of-Comp) p) out v b (is_v, has, hc) = (is_v, has, comp_grows g is js a c out unit_value b hc)
  comp_grows g is js a (For' x e f _ (more_of-Comp c end_of-Comp) p) out v b (is_v, first, turns, hc) = (
    is_v,
    first,
    turns,
    comp_grows (with_index x g) is js a c out unit_value b hc,
  )
  comp_grows g is js a (If' e _ (more_of-Comp c end_of-Comp) _ (more_of-Comp d end_of-Comp) p) out v b (r, s, agree, is_out, cond, hc, hd) =
      (r, s, agree, is_out, cond, comp_grows g is js a c r v b hc, comp_grows g is js a d s v b hd)
  comp_grows g is js a (Map f k p) out v b h = h
  comp_grows g is js a (Filter f k p) out v b h = h
  comp_grows g is js a (Call f k es) out v b (i, here, input, is_out, is_v, each) = (i, get_begins is js k i b here, input, is_out, is_v, each)
  comp_grows g is js a (Block' _ ms p) out v b (outs, agree, is_out, hm) = (outs, agree, is_out, members_grow g is js a unit_value ms outs v b hm)
  comp_grows g is js a (Pipe' link _ (more_of-Comp c end_of-Comp) _ (more_of-Comp d end_of-Comp) p) out v b (mid, r, s, value, hc, hd) =
      (mid, r, s, value, comp_grows g is js a c mid r b hc, comp_grows g is js (link_type mid) d out s b hd)

  members_grow : (g : Visible) (is js : List Instance) (a : Ty) (last : Option Ty) {m : _} (ms : Row_of-Member m) (outs : List Ty) (v : Option Ty) →
      Begins is js →
      AreMembers g is a last ms outs v → AreMembers g js a last ms outs v
  members_grow g is js a last end_of-Member outs v b h = h
  members_grow g is js a last (more_of-Member (Bind x c) ms) outs v b (t, o, more, is_outs, hc, hm) =
      (t, o, more, is_outs, comp_grows g is js a c o (Some t) b hc, members_grow (declare (variable x.id t ∷ []) g) is js a (Some t) ms more v b hm)
  members_grow g is js a last (more_of-Member (Var d) ms) outs v b h = (h.0, members_grow (declare (seen_of d ∷ []) g) is js a unit_value ms outs v b h.1)
  members_grow g is js a last (more_of-Member (Run c) ms) outs v b (o, u, more, is_outs, hc, stands, hm) =
      (o, u, more, is_outs, comp_grows g is js a c o u b hc, stands, members_grow g is js a u ms more v b hm)
