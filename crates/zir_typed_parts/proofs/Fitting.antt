-- Components that keep the rules are well typed for flat code, in as many cells as their code uses.
use Rattle.std.specs.Prelude.{ℕ, ◌+◌, ◌≤◌, max, List, [], ◌∷◌, ◌++◌, Option, Some, None, true, ◌≡◌, slice_get}
use Rattle.std.proofs.Common.{ap, ◌∙◌, sym, subst, refl, arith, inl, inr}
use Rattle.zir_tree.specs.declared.types.Base.TheVariants.{Bool as BoolTy, Int32}
use Rattle.zir_tree.specs.declared.types.Ty.{Ty}
use Rattle.zir_tree.specs.declared.expr.Expr.{Expr}
use Rattle.zir_tree.specs.declared.comp.Comp.{Comp, Take, Takes, Emit, Emits, Return, Do, Repeat', While', Times', For', If', Map, Filter, Call, Block', Pipe', end_of-Comp, more_of-Comp, Row_of-Member, end_of-Member, more_of-Member}
use Rattle.zir_tree.specs.declared.comp.Member.{Bind, Var, Run}
use Rattle.zir_meaning.specs.Values.{type_of}
use Rattle.zir_shapes.specs.Shapes.{StructsBefore}
use Rattle.zir_shapes.specs.Offsets.{plain_type as plain}
use Rattle.zir_types.specs.declared.scope.Signature.{Signature}
use Rattle.zir_types.specs.Scope.{Visible, declare, variable}
use Rattle.zir_types.specs.Kinds.{arr, same_ty}
use Rattle.zir_types.specs.Expressions.{all_same}
use Rattle.zir_types.specs.Statements.{with_index}
use Rattle.zir_types.specs.Components.{unit_value, emitted, first_of, agreed, link_type}
use Rattle.zir_types.specs.Typing.{Has}
use Rattle.zir_types.proofs.Fine.{both}
use Rattle.zir_types.proofs.Agreement.{same_ty_is}
use Rattle.zir_code.specs.Scopes.{Scope}
use Rattle.zir_code.specs.Types.{type_or_unit, result_type, cells_for, size_in}
use Rattle.zir_code.specs.Peaks.{needs_of, peak_of}
use Rattle.zir_code.specs.Needs.{initial_peak}
use Rattle.zir_code.specs.Typing.{AllFit}
use Rattle.zir_code.specs.Fine.{Fits, InitialFits}
use Rattle.zir_code.specs.Statements.{with_local, with_index as with_code_index}
use Rattle.zir_code.proofs.TypesFound.{types_found}
use Rattle.zir_sound.specs.Statements.{Each, HasIfAny, seen_of}
use Rattle.zir_sound.specs.Components.{IsComp, AreMembers, IsValueOf}
use Rattle.zir_flow.specs.Kinds.{Setting, type_between, valued, value_in, output_in}
use Rattle.zir_flow.specs.Fitting.{OneEnds, StepFits, EmitsFit, Flows, MembersFlow}
use Rattle.zir_flat.specs.Needs.{entry_needs, step_peak, flow_peak, members_peak}
use Rattle.zir_typed_code.specs.Forming.{IsFilled, AllFilled, FilledIfAny, FormedComp, FormedMembers}
use Rattle.zir_typed_parts.proofs.Grounds.{Known, Ground}
use Rattle.zir_typed_parts.proofs.Found.{between_is, link_known, found}

-- each of these types is that one
abbrev pub AllAre : List Ty → Ty → Type 0
AllAre [] o = Unit {0}
AllAre (t ∷ ts) o = (t ≡ o) × AllAre ts o

pub all_same_are : (t : Ty) (ts : List Ty) → all_same t ts ≡ true → AllAre ts t
all_same_are t [] h = tt
all_same_are t (s ∷ ss) h = let b = both (same_ty t s) (all_same t ss) h in (sym (same_ty_is t s b.0), all_same_are t ss b.1)

-- types that agree are what the first of them is
pub agreed_are : (ts : List Ty) (o : Ty) → agreed ts ≡ true → EmitsFit (first_of ts) o → AllAre ts o
agreed_are [] o h e = tt
agreed_are (t ∷ ts) o h e = (e, subst (AllAre ts) e (all_same_are t ts h))

-- what one part of those that agree emits, and what the others do
pub emits_first : (o : Option Ty) (more : List Ty) (t : Ty) → AllAre (emitted o ++ more) t → EmitsFit o t × AllAre more t
emits_first None more t h = (tt, h)
emits_first (Some s) more t h = (h.0, h.1)

pub emits_single : (o : Option Ty) (t : Ty) → AllAre (emitted o) t → EmitsFit o t
emits_single None t h = tt
emits_single (Some s) t h = h.0

-- the left side of a link emits what is between both
pub emits_between : (o : Option Ty) → EmitsFit o (type_between o)
emits_between None = tt
emits_between (Some t) = refl

one_ends : (r s v : Option Ty) → IsValueOf r s v → OneEnds r s
one_ends None s v h = inl refl
one_ends (Some t) None v h = inr refl
one_ends (Some t) (Some u) v h = absurd h

-- a member of a block leaves the first free cell where it was or behind it
members_low : {m : _} (st : Setting) (sc : Scope) (a : Ty) (d : ℕ) (ms : Row_of-Member m) → d ≤ members_peak st sc a d ms
members_low st sc a d end_of-Member = omega arith
members_low st sc a d (more_of-Member (Bind x c) ms) =
    let ty : Ty = type_or_unit (value_in st sc a d c) in
    let low = members_low st (with_local sc d x.id ty) a (d + cells_for sc ty) ms in omega arith
members_low st sc a d (more_of-Member (Var v) ms) =
    let ty : Ty = type_of v.ty in
    let low = members_low st (with_local sc d v.name.id ty) a (d + cells_for sc ty) ms in omega arith
members_low st sc a d (more_of-Member (Run c) ms) = let low = members_low st sc a d ms in omega arith

initial_low : (sc : Scope) (d n : ℕ) (e : Option Expr) → d + n ≤ initial_peak sc d n e
initial_low sc d n None = omega arith
initial_low sc d n (Some e) = omega arith

fits : {n : ℕ} {R : List ℕ → Visible → Scope → ℕ → Type 0} (ground : Ground n R) (ids : List ℕ)
    (g : Visible) (sc : Scope) (d k : ℕ) (t : Ty) (e : Expr) → R ids g sc d → IsFilled e → d ≤ k → peak_of sc e d ≤ k → Has g t e → Fits sc d k t e
fits ground ids g sc d k t e r filled le peak h =
    ((ground.relates.expression ids g sc k t e (ground.relates.later ids g sc d k le r) filled h).0, peak)

all_fit : {n : ℕ} {R : List ℕ → Visible → Scope → ℕ → Type 0} (ground : Ground n R) (ids : List ℕ)
    (g : Visible) (sc : Scope) (k : ℕ) (ts : List Ty) (es : List Expr) → R ids g sc k → AllFilled es → Each g ts es → AllFit sc k ts es
all_fit ground ids g sc k [] [] r filled h = tt
all_fit ground ids g sc k [] (e ∷ es) r filled h = absurd h
all_fit ground ids g sc k (t ∷ ts) [] r filled h = absurd h
all_fit ground ids g sc k (t ∷ ts) (e ∷ es) r filled h =
    ((ground.relates.expression ids g sc k t e r filled.0 h.0).0, all_fit ground ids g sc k ts es r filled.1 h.1)

initial_fits : {n : ℕ} {R : List ℕ → Visible → Scope → ℕ → Type 0} (ground : Ground n R) (ids : List ℕ)
    (g : Visible) (sc : Scope) (d k : ℕ) (t : Ty) (e : Option Expr) → R ids g sc d → FilledIfAny e → d ≤ k → initial_peak sc d (cells_for sc t) e ≤ k →
    HasIfAny g t e → InitialFits sc d k t e
initial_fits ground ids g sc d k t None r filled le peak h = tt
initial_fits ground ids g sc d k t (Some e) r filled le peak h = fits ground ids g sc d k t e r filled le (omega arith) h

-- a function that elements go through
step_fits : {n : ℕ} {R : List ℕ → Visible → Scope → ℕ → Type 0} (ground : Ground n R) (ids : List ℕ)
    (g : Visible) (sc : Scope) (d d' k f : ℕ) (from to : Ty) (s : Signature) → R ids g sc d → slice_get g.functions f ≡ Some s → s.params ≡ from ∷ [] →
    s.result ≡ to → step_peak sc d' f from ≤ k → StepFits sc d' k f from to
step_fits ground ids g sc d d' k f from to s r get params result peak =
    let x = ground.relates.function ids g sc d f s r get in
    let to_is : result_type (sc.funs f) ≡ to = ap result_type x.found ∙ (x.result ∙ result) in
    let needs : needs_of (sc.funs f) ≡ x.is.needs = ap needs_of x.found in (
      x.is,
      x.found,
      x.params ∙ params,
      x.result ∙ result,
      subst (λ needs. d' + max (cells_for sc from) (max (cells_for sc to) needs) ≤ k) needs
          (subst (λ t. d' + max (cells_for sc from) (max (cells_for sc t) (needs_of (sc.funs f))) ≤ k) to_is peak),
    )

mutual
  pub flows : {n : ℕ} {R : List ℕ → Visible → Scope → ℕ → Type 0} (ground : Ground n R) (ids : List ℕ)
      (g : Visible) (sc : Scope) (a : Ty) (d : ℕ) (c : Comp) (out v : Option Ty) (k : ℕ) (o : Ty) → R ids g sc d → Known n a → FormedComp n ids c →
      IsComp g ground.instances a c out v → EmitsFit out o → d ≤ k → flow_peak ground.st sc a d c ≤ k → Flows ground.st sc k a o d c
  flows {n} ground ids g sc a d (Take p) out v k o r known own h emits le peak =
      (subst (λ n. StructsBefore n a.base) (ground.relates.structs ids g sc d r) known, peak)
  flows {n} ground ids g sc a d (Takes j p) out v k o r known own h emits le peak =
      (subst (λ n. StructsBefore n a.base) (ground.relates.structs ids g sc d r) known, peak)
  flows {n} ground ids g sc a d (Emit e p) out v k o r known own h emits le peak =
      let same : h.0 ≡ o = subst (λ out. EmitsFit out o) h.1 emits in
      fits ground ids g sc d k o e r own le peak (subst (λ t. Has g t e) same h.4)
  flows {n} ground ids g sc a d (Emits e p) out v k o r known own h emits le peak =
      let same : h.0 ≡ o = subst (λ out. EmitsFit out o) h.2 emits in
      let has : Has g (arr h.1 o) e = subst (λ t. Has g (arr h.1 t) e) same h.5 in
      let size : size_in sc e ≡ cells_for sc (arr h.1 o) =
      ap (cells_for sc) (types_found sc d (arr h.1 o) e (ground.relates.expression ids g sc d (arr h.1 o) e r own has).0) in
      (h.1, fits ground ids g sc d k (arr h.1 o) e r own le (omega arith) has, omega arith)
  flows {n} ground ids g sc a d (Return e p) out v k o r known own h emits le peak =
      let size : size_in sc e ≡ cells_for sc h.0 = ap (cells_for sc) (types_found sc d h.0 e (ground.relates.expression ids g sc d h.0 e r own h.3).0) in
      (h.0, fits ground ids g sc d k h.0 e r own le (omega arith) h.3, omega arith)
  flows {n} ground ids g sc a d (Do b p) out v k o r known own h emits le peak =
      ground.relates.body_fits ids g sc d k h.0 b r own h.3 le peak
  flows {n} ground ids g sc a d (Repeat' _ (more_of-Comp c end_of-Comp) p) out v k o r known own h emits le peak =
      flows ground ids g sc a d c out unit_value k o r known own h.1 emits le peak
  flows {n} ground ids g sc a d (While' turning e _ (more_of-Comp c end_of-Comp) p) out v k o r known own h emits le peak = (
    fits ground ids g sc d k (plain BoolTy) e r own.0 le (omega arith) h.1,
    flows ground ids g sc a d c out unit_value k o r known own.1 h.2 emits le (omega arith),
  )
  flows {n} ground ids g sc a d (Times' e _ (more_of-Comp c end_of-Comp) p) out v k o r known own h emits le peak = (
    fits ground ids g sc d k (plain Int32) e r own.0 le (omega arith) h.1,
    omega arith,
    flows ground ids g sc a (d + 1) c out unit_value k o (ground.relates.later ids g sc d (d + 1) (omega arith) r) known own.1 h.2 emits (omega arith)
        (omega arith),
  )
  flows {n} ground ids g sc a d (For' x e f _ (more_of-Comp c end_of-Comp) p) out v k o r known own h emits le peak =
      let r1 = ground.relates.local ids g sc (d + 2) x.id (plain Int32) (ground.relates.later ids g sc d (d + 2) (omega arith) r) tt own.0 in
      let sc' : Scope = with_code_index sc (d + 2) x.id in
      let r2 = ground.relates.later (x.id ∷ ids) (with_index x g) sc' (d + 2 + 1) (d + 3) (omega arith) r1 in (
        fits ground ids g sc d k (plain Int32) e r own.1 le (omega arith) h.1,
        fits ground ids g sc (d + 1) k (plain Int32) f (ground.relates.later ids g sc d (d + 1) (omega arith) r) own.2 (omega arith) (omega arith) h.2,
        omega arith,
        flows ground (x.id ∷ ids) (with_index x g) sc' a (d + 3) c out unit_value k o r2 known own.3 h.3 emits (omega arith) (omega arith),
      )
  flows {n} ground ids g sc a d (If' e _ (more_of-Comp b end_of-Comp) _ (more_of-Comp c end_of-Comp) p) out v k o r known own h emits le peak =
      let x = found ground ids g sc a d b h.0 v r known own.1 h.5 in
      let y = found ground ids g sc a d c h.1 v r known own.2 h.6 in
      let all : AllAre (emitted h.0 ++ emitted h.1) o =
      agreed_are (emitted h.0 ++ emitted h.1) o h.2 (subst (λ out. EmitsFit out o) h.3 emits) in
      let parts = emits_first h.0 (emitted h.1) o all in (
        fits ground ids g sc d k (plain BoolTy) e r own.0 le (omega arith) h.4,
        x.value_is ∙ sym y.value_is,
        flows ground ids g sc a d b h.0 v k o r known own.1 h.5 parts.0 le (omega arith),
        flows ground ids g sc a d c h.1 v k o r known own.2 h.6 (emits_single h.1 o parts.1) le (omega arith),
      )
  flows {n} ground ids g sc a d (Map f j p) out v k o r known own h emits le peak =
      step_fits ground ids g sc d d k j a o h.0 r h.1 h.2 (subst (λ out. EmitsFit out o) h.4 emits) peak
  flows {n} ground ids g sc a d (Filter f j p) out v k o r known own h emits le peak =
      let low : d + cells_for sc a ≤ step_peak sc (d + cells_for sc a) j a = omega arith in (
        subst (λ out. EmitsFit out o) h.4 emits,
        omega arith,
        step_fits ground ids g sc d (d + cells_for sc a) k j a (plain BoolTy) h.0 r h.1 h.2 h.3 peak,
      )
  flows {n} ground ids g sc a d (Call f j es) out v k o r known own h emits le peak =
      let x = ground.entries j h.0 h.1 in
      let value : valued (ground.st.entries j) ≡ x.is.value = ap valued x.found in
      let needs : entry_needs (ground.st.entries j) ≡ x.is.needs = ap entry_needs x.found in
      let room : d + max (cells_for sc (type_or_unit x.is.value)) x.is.needs ≤ k =
      subst (λ needs. d + max (cells_for sc (type_or_unit x.is.value)) needs ≤ k) needs
      (subst (λ t. d + max (cells_for sc (type_or_unit t)) (entry_needs (ground.st.entries j)) ≤ k) value (omega arith)) in (
        x.is,
        x.found,
        x.input ∙ h.2,
        subst (λ out. EmitsFit out o) (h.3 ∙ sym x.emits) emits,
        subst (λ ts. AllFit sc k ts es) (sym x.params)
            (all_fit ground ids g sc k _ es (ground.relates.later ids g sc d k le r) own h.5),
        omega arith,
        room,
      )
  flows {n} ground ids g sc a d (Block' _ ms p) out v k o r known own h emits le peak =
      members_flow ground ids g sc a d ms unit_value h.0 v k o r known own h.3 (agreed_are h.0 o h.1 (subst (λ out. EmitsFit out o) h.2 emits)) le peak
  flows {n} ground ids g sc a d (Pipe' link _ (more_of-Comp b end_of-Comp) _ (more_of-Comp c end_of-Comp) p) out v k o r known own h emits le peak =
      let x = found ground ids g sc a d b h.0 h.1 r known own.0 h.4 in
      let between : Ty = type_between (output_in ground.st sc a d b) in
      let same : between ≡ link_type h.0 = ap type_between x.output_is ∙ between_is h.0 in
      let between_known : Known n between = subst (Known n) (sym same) (link_known n h.0 x.output_known) in
      let right : IsComp g ground.instances between c out h.2 = subst (λ t. IsComp g ground.instances t c out h.2) (sym same) h.5 in
      let y = found ground ids g sc between d c out h.2 r between_known own.1 right in
      let left_emits : EmitsFit h.0 between = subst (λ o. EmitsFit o between) x.output_is (emits_between (output_in ground.st sc a d b)) in
      let distinct = ground.relates.distinct ids g sc d r in (
        subst (λ p. OneEnds p (value_in ground.st sc between d c)) (sym x.value_is)
            (subst (OneEnds h.1) (sym y.value_is) (one_ends h.1 h.2 v h.3)),
        distinct.0,
        distinct.1,
        distinct.2,
        omega arith,
        flows ground ids g sc a d b h.0 h.1 k between r known own.0 h.4 left_emits le (omega arith),
        flows ground ids g sc between d c out h.2 k o r between_known own.1 right emits le (omega arith),
      )

  pub members_flow : {m : _} {n : ℕ} {R : List ℕ → Visible → Scope → ℕ → Type 0} (ground : Ground n R)
      (ids : List ℕ) (g : Visible) (sc : Scope) (a : Ty) (d : ℕ) (ms : Row_of-Member m) (last : Option Ty) (outs : List Ty) (v : Option Ty) (k : ℕ)
      (o : Ty) → R ids g sc d → Known n a → FormedMembers n ids ms → AreMembers g ground.instances a last ms outs v → AllAre outs o → d ≤ k →
      members_peak ground.st sc a d ms ≤ k → MembersFlow ground.st sc k a o d ms
  members_flow {m} {n} ground ids g sc a d end_of-Member last outs v k o r known own h all le peak = tt
  members_flow {m} {n} ground ids g sc a d (more_of-Member (Bind x c) ms) last outs v k o r known own h all le peak =
      let y = found ground ids g sc a d c h.1 (Some h.0) r known own.1 h.4 in
      let ty : Ty = type_or_unit (value_in ground.st sc a d c) in
      let same : ty ≡ h.0 = ap type_or_unit y.value_is in
      let ty_known : Known n ty = subst (Known n) (sym same) y.value_known in
      let parts = emits_first h.1 h.2 o (subst (λ outs. AllAre outs o) h.3 all) in
      let low = members_low ground.st (with_local sc d x.id ty) a (d + cells_for sc ty) ms in (
        flows ground ids g sc a d c h.1 (Some h.0) k o r known own.1 h.4 parts.0 le (omega arith),
        omega arith,
        members_flow ground (x.id ∷ ids) (declare (variable x.id ty ∷ []) g) (with_local sc d x.id ty) a (d + cells_for sc ty) ms (Some ty) h.2 v k o
            (ground.relates.local ids g sc d x.id ty r ty_known own.0) known own.2
            (subst (λ t. AreMembers (declare (variable x.id t ∷ []) g) ground.instances a (Some t) ms h.2 v) (sym same) h.5) parts.1 (omega arith)
            (omega arith),
      )
  members_flow {m} {n} ground ids g sc a d (more_of-Member (Var w) ms) last outs v k o r known own h all le peak =
      let ty : Ty = type_of w.ty in
      let low = initial_low sc d (cells_for sc ty) w.initial in (
        subst (λ n. StructsBefore n ty.base) (ground.relates.structs ids g sc d r) own.0.1,
        omega arith,
        initial_fits ground ids g sc d k ty w.initial r own.0.2 le (omega arith) h.0,
        members_flow ground (w.name.id ∷ ids) (declare (seen_of w ∷ []) g) (with_local sc d w.name.id ty) a (d + cells_for sc ty) ms unit_value outs v k o
            (ground.relates.local ids g sc d w.name.id ty r own.0.1 own.0.0) known own.1 h.1 all (omega arith) (omega arith),
      )
  members_flow {m} {n} ground ids g sc a d (more_of-Member (Run c) ms) last outs v k o r known own h all le peak =
      let parts = emits_first h.0 h.2 o (subst (λ outs. AllAre outs o) h.3 all) in (
        flows ground ids g sc a d c h.0 h.1 k o r known own.0 h.4 parts.0 le (omega arith),
        omega arith,
        members_flow ground ids g sc a d ms h.1 h.2 v k o r known own.1 h.6 parts.1 le (omega arith),
      )
