-- The types that code finds for the values and outputs of components are their own.
use Rattle.std.specs.Prelude.{ℕ, ◌+◌, List, [], ◌∷◌, ◌++◌, Option, Some, None, ◌≡◌}
use Rattle.std.proofs.Common.{ap, ◌∙◌, sym, subst, refl, arith}
use Rattle.zir_tree.specs.declared.types.Base.TheVariants.{Int32}
use Rattle.zir_tree.specs.declared.types.Ty.{Ty}
use Rattle.zir_tree.specs.declared.comp.Comp.{Comp, Take, Takes, Emit, Emits, Return, Do, Repeat', While', Times', For', If', Map, Filter, Call, Block', Pipe', end_of-Comp, more_of-Comp, Row_of-Member, end_of-Member, more_of-Member}
use Rattle.zir_tree.specs.declared.comp.Member.{Bind, Var, Run}
use Rattle.zir_meaning.specs.Values.{type_of}
use Rattle.zir_shapes.specs.Offsets.{plain_type as plain}
use Rattle.zir_types.specs.Scope.{Visible, declare, variable}
use Rattle.zir_types.specs.Kinds.{arr}
use Rattle.zir_types.specs.Statements.{with_index}
use Rattle.zir_types.specs.Components.{unit_value, emitted, first_of, link_type}
use Rattle.zir_code.specs.Scopes.{Scope}
use Rattle.zir_code.specs.Types.{type_or_unit, element_type, result_type, cells_for}
use Rattle.zir_code.specs.Statements.{with_local, with_index as with_code_index}
use Rattle.zir_code.proofs.TypesFound.{types_found}
use Rattle.zir_sound.specs.Statements.{seen_of}
use Rattle.zir_sound.specs.Components.{IsComp, AreMembers, IsValueOf}
use Rattle.zir_flow.specs.Kinds.{first_of as first_there, type_between, valued, emitted as outputs_of, value_in, output_in, members_value, members_output}
use Rattle.zir_typed_code.specs.Forming.{FormedComp, FormedMembers}
use Rattle.zir_typed_parts.proofs.Grounds.{Known, KnownIfAny, Ground}

-- what code finds for a component is its value and its outputs, and both are of known types
pub record Found (n : ℕ) (value output v out : Option Ty) : Type 0 where
  pub value_is : value ≡ v
  pub output_is : output ≡ out
  pub value_known : KnownIfAny n v
  pub output_known : KnownIfAny n out

-- the first type of two parts that emit
pub first_more : (o : Option Ty) (more : List Ty) → first_there o (first_of more) ≡ first_of (emitted o ++ more)
first_more None more = refl
first_more (Some t) more = refl

first_single : (o : Option Ty) → first_of (emitted o) ≡ o
first_single None = refl
first_single (Some t) = refl

first_known : (n : ℕ) (o : Option Ty) (more : List Ty) → KnownIfAny n o → KnownIfAny n (first_of more) → KnownIfAny n (first_of (emitted o ++ more))
first_known n None more k l = l
first_known n (Some t) more k l = k

-- the right side reads what the left side gives
pub between_is : (o : Option Ty) → type_between o ≡ link_type o
between_is None = refl
between_is (Some t) = refl

pub link_known : (n : ℕ) (o : Option Ty) → KnownIfAny n o → Known n (link_type o)
link_known n None k = tt
link_known n (Some t) k = k

-- the value of a link is that of the side that has one
value_of_link : (r s v : Option Ty) → IsValueOf r s v → first_there r s ≡ v
value_of_link None s v h = sym h
value_of_link (Some t) None v h = sym h
value_of_link (Some t) (Some u) v h = absurd h

link_value_known : (n : ℕ) (r s v : Option Ty) → IsValueOf r s v → KnownIfAny n r → KnownIfAny n s → KnownIfAny n v
link_value_known n None s v h k l = subst (KnownIfAny n) (sym h) l
link_value_known n (Some t) None v h k l = subst (KnownIfAny n) (sym h) k
link_value_known n (Some t) (Some u) v h k l = absurd h

mutual
  pub found : {n : ℕ} {R : List ℕ → Visible → Scope → ℕ → Type 0} (ground : Ground n R) (ids : List ℕ)
      (g : Visible) (sc : Scope) (a : Ty) (d : ℕ) (c : Comp) (out v : Option Ty) → R ids g sc d → Known n a → FormedComp n ids c →
      IsComp g ground.instances a c out v →
      Found n (value_in ground.st sc a d c) (output_in ground.st sc a d c) v out
  found {n} ground ids g sc a d (Take p) out v r known own h = record {
    value_is = sym h.1;
    output_is = sym h.0;
    value_known = subst (KnownIfAny n) (sym h.1) known;
    output_known = subst (KnownIfAny n) (sym h.0) tt;
  }
  found {n} ground ids g sc a d (Takes k p) out v r known own h = record {
    value_is = sym h.1;
    output_is = sym h.0;
    value_known = subst (KnownIfAny n) (sym h.1) known;
    output_known = subst (KnownIfAny n) (sym h.0) tt;
  }
  found {n} ground ids g sc a d (Emit e p) out v r known own h =
      let x = ground.relates.expression ids g sc d h.0 e r own h.4 in record {
        value_is = sym h.2;
        output_is = ap Some (types_found sc d h.0 e x.0) ∙ sym h.1;
        value_known = subst (KnownIfAny n) (sym h.2) tt;
        output_known = subst (KnownIfAny n) (sym h.1) x.1;
      }
  found {n} ground ids g sc a d (Emits e p) out v r known own h =
      let x = ground.relates.expression ids g sc d (arr h.1 h.0) e r own h.5 in record {
        value_is = sym h.3;
        output_is = ap (λ t. Some (element_type t)) (types_found sc d (arr h.1 h.0) e x.0) ∙ sym h.2;
        value_known = subst (KnownIfAny n) (sym h.3) tt;
        output_known = subst (KnownIfAny n) (sym h.2) x.1;
      }
  found {n} ground ids g sc a d (Return e p) out v r known own h =
      let x = ground.relates.expression ids g sc d h.0 e r own h.3 in record {
        value_is = ap Some (types_found sc d h.0 e x.0) ∙ sym h.2;
        output_is = sym h.1;
        value_known = subst (KnownIfAny n) (sym h.2) x.1;
        output_known = subst (KnownIfAny n) (sym h.1) tt;
      }
  found {n} ground ids g sc a d (Do b p) out v r known own h =
      let x = ground.relates.body ids g sc d h.0 b r own h.3 in record {
        value_is = ap Some x.0 ∙ sym h.2;
        output_is = sym h.1;
        value_known = subst (KnownIfAny n) (sym h.2) x.1;
        output_known = subst (KnownIfAny n) (sym h.1) tt;
      }
  found {n} ground ids g sc a d (Repeat' _ (more_of-Comp c end_of-Comp) p) out v r known own h =
      let x = found ground ids g sc a d c out unit_value r known own h.1 in record {
        value_is = sym h.0;
        output_is = x.output_is;
        value_known = subst (KnownIfAny n) (sym h.0) tt;
        output_known = x.output_known;
      }
  found {n} ground ids g sc a d (While' turning e _ (more_of-Comp c end_of-Comp) p) out v r known own h =
      let x = found ground ids g sc a d c out unit_value r known own.1 h.2 in record {
        value_is = sym h.0;
        output_is = x.output_is;
        value_known = subst (KnownIfAny n) (sym h.0) tt;
        output_known = x.output_known;
      }
  found {n} ground ids g sc a d (Times' e _ (more_of-Comp c end_of-Comp) p) out v r known own h =
      let x = found ground ids g sc a (d + 1) c out unit_value (ground.relates.later ids g sc d (d + 1) (omega arith) r) known own.1 h.2 in record {
        value_is = sym h.0;
        output_is = x.output_is;
        value_known = subst (KnownIfAny n) (sym h.0) tt;
        output_known = x.output_known;
      }
  found {n} ground ids g sc a d (For' x e f _ (more_of-Comp c end_of-Comp) p) out v r known own h =
      let r1 = ground.relates.local ids g sc (d + 2) x.id (plain Int32) (ground.relates.later ids g sc d (d + 2) (omega arith) r) tt own.0 in
      let r2 = ground.relates.later (x.id ∷ ids) (with_index x g) (with_code_index sc (d + 2) x.id) (d + 2 + 1) (d + 3) (omega arith) r1 in
      let y = found ground (x.id ∷ ids) (with_index x g) (with_code_index sc (d + 2) x.id) a (d + 3) c out unit_value r2 known own.3 h.3 in record {
        value_is = sym h.0;
        output_is = y.output_is;
        value_known = subst (KnownIfAny n) (sym h.0) tt;
        output_known = y.output_known;
      }
  found {n} ground ids g sc a d (If' e _ (more_of-Comp b end_of-Comp) _ (more_of-Comp c end_of-Comp) p) out v r known own h =
      let x = found ground ids g sc a d b h.0 v r known own.1 h.5 in
      let y = found ground ids g sc a d c h.1 v r known own.2 h.6 in record {
        value_is = x.value_is;
        output_is = ap (λ o. first_there o (output_in ground.st sc a d c)) x.output_is
            ∙ (ap (first_there h.0) (y.output_is ∙ sym (first_single h.1)) ∙ (first_more h.0 (emitted h.1) ∙ sym h.3));
        value_known = x.value_known;
        output_known = subst (KnownIfAny n) (sym h.3) (first_known n h.0 (emitted h.1) x.output_known
            (subst (KnownIfAny n) (sym (first_single h.1)) y.output_known));
      }
  found {n} ground ids g sc a d (Map f k p) out v r known own h =
      let x = ground.relates.function ids g sc d k h.0 r h.1 in record {
        value_is = sym h.5;
        output_is = ap (λ o. Some (result_type o)) x.found ∙ (ap Some x.result ∙ sym h.4);
        value_known = subst (KnownIfAny n) (sym h.5) tt;
        output_known = subst (KnownIfAny n) (sym h.4) x.known;
      }
  found {n} ground ids g sc a d (Filter f k p) out v r known own h = record {
    value_is = sym h.5;
    output_is = sym h.4;
    value_known = subst (KnownIfAny n) (sym h.5) tt;
    output_known = subst (KnownIfAny n) (sym h.4) known;
  }
  found {n} ground ids g sc a d (Call f k es) out v r known own h =
      let x = ground.entries k h.0 h.1 in record {
        value_is = ap valued x.found ∙ (x.value ∙ sym h.4);
        output_is = ap outputs_of x.found ∙ (x.emits ∙ sym h.3);
        value_known = subst (KnownIfAny n) (sym h.4) x.value_known;
        output_known = subst (KnownIfAny n) (sym h.3) x.emits_known;
      }
  found {n} ground ids g sc a d (Block' _ ms p) out v r known own h =
      let x = members_found ground ids g sc a d ms unit_value h.0 v r known own tt h.3 in record {
        value_is = x.value_is;
        output_is = x.output_is ∙ sym h.2;
        value_known = x.value_known;
        output_known = subst (KnownIfAny n) (sym h.2) x.output_known;
      }
  found {n} ground ids g sc a d (Pipe' link _ (more_of-Comp b end_of-Comp) _ (more_of-Comp c end_of-Comp) p) out v r known own h =
      let x = found ground ids g sc a d b h.0 h.1 r known own.0 h.4 in
      let between : Ty = type_between (output_in ground.st sc a d b) in
      let same : between ≡ link_type h.0 = ap type_between x.output_is ∙ between_is h.0 in
      let y = found ground ids g sc between d c out h.2 r (subst (Known n) (sym same) (link_known n h.0 x.output_known)) own.1
      (subst (λ t. IsComp g ground.instances t c out h.2) (sym same) h.5) in record {
        value_is = ap (λ o. first_there o (value_in ground.st sc between d c)) x.value_is
            ∙ (ap (first_there h.1) y.value_is ∙ value_of_link h.1 h.2 v h.3);
        output_is = y.output_is;
        value_known = link_value_known n h.1 h.2 v h.3 x.value_known y.value_known;
        output_known = y.output_known;
      }

  pub members_found : {m : _} {n : ℕ} {R : List ℕ → Visible → Scope → ℕ → Type 0} (ground : Ground n R)
      (ids : List ℕ) (g : Visible) (sc : Scope) (a : Ty) (d : ℕ) (ms : Row_of-Member m) (last : Option Ty) (outs : List Ty) (v : Option Ty) →
      R ids g sc d → Known n a → FormedMembers n ids ms → KnownIfAny n last → AreMembers g ground.instances a last ms outs v →
      Found n (members_value ground.st sc a d last ms) (members_output ground.st sc a d ms) v (first_of outs)
  members_found {m} {n} ground ids g sc a d end_of-Member last outs v r known own l h = record {
    value_is = sym h.1;
    output_is = ap first_of (sym h.0);
    value_known = subst (KnownIfAny n) (sym h.1) l;
    output_known = subst (λ outs. KnownIfAny n (first_of outs)) (sym h.0) tt;
  }
  members_found {m} {n} ground ids g sc a d (more_of-Member (Bind x c) ms) last outs v r known own l h =
      let y = found ground ids g sc a d c h.1 (Some h.0) r known own.1 h.4 in
      let ty : Ty = type_or_unit (value_in ground.st sc a d c) in
      let same : ty ≡ h.0 = ap type_or_unit y.value_is in
      let ty_known : Known n ty = subst (Known n) (sym same) y.value_known in
      let z = members_found ground (x.id ∷ ids) (declare (variable x.id ty ∷ []) g) (with_local sc d x.id ty) a (d + cells_for sc ty) ms (Some ty) h.2 v
      (ground.relates.local ids g sc d x.id ty r ty_known own.0) known own.2 ty_known
      (subst (λ t. AreMembers (declare (variable x.id t ∷ []) g) ground.instances a (Some t) ms h.2 v) (sym same) h.5) in record {
        value_is = z.value_is;
        output_is = ap (λ o. first_there o (members_output ground.st (with_local sc d x.id ty) a (d + cells_for sc ty) ms)) y.output_is
            ∙ (ap (first_there h.1) z.output_is ∙ (first_more h.1 h.2 ∙ ap first_of (sym h.3)));
        value_known = z.value_known;
        output_known = subst (λ outs. KnownIfAny n (first_of outs)) (sym h.3) (first_known n h.1 h.2 y.output_known z.output_known);
      }
  members_found {m} {n} ground ids g sc a d (more_of-Member (Var w) ms) last outs v r known own l h =
      let ty : Ty = type_of w.ty in
      members_found ground (w.name.id ∷ ids) (declare (seen_of w ∷ []) g) (with_local sc d w.name.id ty) a (d + cells_for sc ty) ms unit_value outs v
      (ground.relates.local ids g sc d w.name.id ty r own.0.1 own.0.0) known own.1 tt h.1
  members_found {m} {n} ground ids g sc a d (more_of-Member (Run c) ms) last outs v r known own l h =
      let y = found ground ids g sc a d c h.0 h.1 r known own.0 h.4 in
      let z = members_found ground ids g sc a d ms h.1 h.2 v r known own.1 y.value_known h.6 in record {
        value_is = ap (λ last. members_value ground.st sc a d last ms) y.value_is ∙ z.value_is;
        output_is = ap (λ o. first_there o (members_output ground.st sc a d ms)) y.output_is
            ∙ (ap (first_there h.0) z.output_is ∙ (first_more h.0 h.2 ∙ ap first_of (sym h.3)));
        value_known = z.value_known;
        output_known = subst (λ outs. KnownIfAny n (first_of outs)) (sym h.3) (first_known n h.0 h.2 y.output_known z.output_known);
      }
