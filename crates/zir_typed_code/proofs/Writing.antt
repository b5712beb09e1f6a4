-- What the walks of written types, variables and parameters make is well formed.
use Rattle.std.specs.Prelude.{◌≡◌, refl, ◌≤◌, ◌<◌, ◌+◌, ℕ, suc, List, [], ◌∷◌, ◌++◌, length, Bool, true, false, nat_eq, if◌then◌else◌, Option, Some, None}
use Rattle.std.specs.Prelude.{slice_get}
use Rattle.std.specs.Prelude.{zero}
use Rattle.std.proofs.Common.{ap, subst, arith}
use Rattle.zir_tree.specs.declared.ident.Ident.{Ident}
use Rattle.zir_tree.specs.declared.place.Place.{Place}
use Rattle.zir_tree.specs.declared.types.Base.{Base}
use Rattle.zir_tree.specs.declared.types.Base.TheVariants.{Unit as UnitTy, Bit as BitTy, Bool as BoolTy, Int8, Int16, Int32, Int64, Complex16}
use Rattle.zir_tree.specs.declared.types.Base.TheVariants.{Complex32, Struct as StructTy}
use Rattle.zir_tree.specs.declared.types.Ty.{Ty}
use Rattle.zir_tree.specs.declared.types.TypeExpr.{TypeExpr}
use Rattle.zir_tree.specs.declared.types.Field.{Field}
use Rattle.zir_tree.specs.declared.expr.Expr.{Expr}
use Rattle.zir_tree.specs.declared.stmt.Var.{Var}
use Rattle.zir_types.specs.declared.scope.Seen.{Seen}
use Rattle.zir_types.specs.declared.scope.Shape.{Shape}
use Rattle.zir_types.specs.declared.scope.Signature.{Signature}
use Rattle.zir_types.specs.declared.typed.Typed.{Typed}
use Rattle.zir_types.specs.declared.typed.TypedVar.{TypedVar}
use Rattle.zir_types.specs.declared.typed.Written.{Written}
use Rattle.zir_types.specs.declared.typed.Heading.{Heading}
use Rattle.zir_types.specs.declared.error.TypeError.TheVariants.{Mismatch}
use Rattle.zir_types.specs.Walk.{Fine, and_then}
use Rattle.zir_types.specs.Kinds.{same_ty}
use Rattle.zir_types.specs.Scope.{Visible, Placed, declare, variable, type_in, shape_from, plain, struct_base, base_in, lengths_of, written, written_if}
use Rattle.zir_types.specs.Expressions.{expr, wanted}
use Rattle.zir_types.specs.Statements.{initial, of_type, var, var_of, heading, one_more_param}
use Rattle.zir_types.specs.Programs.{defs_of}
use Rattle.zir_types.proofs.Fine.{first_fine, held, same_fine}
use Rattle.zir_types.proofs.Sound.{sound}
use Rattle.zir_shapes.specs.Shapes.{StructsBefore, Ordered}
use Rattle.zir_sound.specs.Laws.{is_in}
use Rattle.zir_sound.proofs.Fronts.{begins_self}
use Rattle.zir_typed_code.specs.Forming.{IsKnown, FilledIfAny, FormedVar, FormedParams, with_params}
use Rattle.zir_typed_code.proofs.Known.{Knows, has_known}
use Rattle.zir_typed_code.proofs.Rising.{RisesParams, Clear, clear_part, clear_more}
use Rattle.zir_typed_code.proofs.Filled.{expr_fills}

-- A struct by its number is one of those that are there.
shape_within : (n : ℕ) (ss : List Shape) (id : ℕ) (s : Placed Shape) → shape_from n ss id ≡ Some s → s.place < n + length ss
shape_within n [] id s h = absurd cc
shape_within n (r ∷ ss) id s h = here (nat_eq r.id id) h (shape_within (suc n) ss id s)
  where
    here : (b : Bool) → (if b then Some (record { place = n; item = r }) else shape_from (suc n) ss id) ≡ Some s →
        (shape_from (suc n) ss id ≡ Some s → s.place < suc n + length ss) → s.place < n + length (r ∷ ss)
    here true h next = let e : (let p : Placed Shape = record { place = n; item = r } in p) ≡ s = cc in
        let q : n ≡ s.place = ap (λ (p : Placed Shape). p.place) e in omega arith
    here false h next = let lt = next h in omega arith

plain_known : (m : ℕ) (b c : Base) → plain b ≡ Some c → StructsBefore m c
plain_known m UnitTy c h = let e : UnitTy ≡ c = cc in subst (StructsBefore m) e tt
plain_known m BitTy c h = let e : BitTy ≡ c = cc in subst (StructsBefore m) e tt
plain_known m BoolTy c h = let e : BoolTy ≡ c = cc in subst (StructsBefore m) e tt
plain_known m Int8 c h = let e : Int8 ≡ c = cc in subst (StructsBefore m) e tt
plain_known m Int16 c h = let e : Int16 ≡ c = cc in subst (StructsBefore m) e tt
plain_known m Int32 c h = let e : Int32 ≡ c = cc in subst (StructsBefore m) e tt
plain_known m Int64 c h = let e : Int64 ≡ c = cc in subst (StructsBefore m) e tt
plain_known m Complex16 c h = let e : Complex16 ≡ c = cc in subst (StructsBefore m) e tt
plain_known m Complex32 c h = let e : Complex32 ≡ c = cc in subst (StructsBefore m) e tt
plain_known m (StructTy k) c h = absurd cc

struct_known : (m : ℕ) (o : Option (Placed Shape)) (c : Base) → ((s : Placed Shape) → o ≡ Some s → s.place < m) → struct_base o ≡ Some c → StructsBefore m c
struct_known m None c k h = absurd cc
struct_known m (Some s) c k h = let e : StructTy s.place ≡ c = cc in subst (StructsBefore m) e (k s refl)

base_known : (m : ℕ) (ss : List Shape) (name : Option Ident) (b c : Base) → length ss ≤ m → base_in ss name b ≡ Some c → StructsBefore m c
base_known m ss None b c le h = plain_known m b c h
base_known m ss (Some x) b c le h =
    struct_known m (shape_from 0 ss x.id) c (λ s e. (let lt = shape_within 0 ss x.id s e in omega arith)) h

-- A written type that was found names a struct that is there, if any.
pub record WrittenKnown (m : ℕ) (w : Written) : Type 0 where
  pub what : IsKnown m w.what
  pub ty : StructsBefore m w.ty.base

written_if_known : (m : ℕ) (o : Option Base) (t : TypeExpr) (w : Written) → ((c : Base) → o ≡ Some c → StructsBefore m c) → written_if o t ≡ Fine w →
    WrittenKnown m w
written_if_known m None t w k h = absurd cc
written_if_known m (Some b) t w k h =
    let made : Written = record {
      what = record { dimensions = t.dimensions; base = b; name = t.name; at = t.at };
      ty = record { lengths = lengths_of t.dimensions; base = b };
    } in
    subst (WrittenKnown m) (same_fine made w h) (record { what = k b refl; ty = k b refl })

pub written_known : (m : ℕ) (ss : List Shape) (t : TypeExpr) (w : Written) → length ss ≤ m → written ss t ≡ Fine w → WrittenKnown m w
written_known m ss t w le h = written_if_known m (base_in ss t.name t.base) t w (λ c e. base_known m ss t.name t.base c le e) h

-- These variables, results and types are known.
abbrev pub AllSeen : ℕ → List Seen → Type 0
AllSeen m [] = Unit {0}
AllSeen m (v ∷ vs) = StructsBefore m v.ty.base × AllSeen m vs

abbrev pub AllResults : ℕ → List Signature → Type 0
AllResults m [] = Unit {0}
AllResults m (s ∷ ss) = StructsBefore m s.result.base × AllResults m ss

abbrev pub AllTypes : ℕ → List Ty → Type 0
AllTypes m [] = Unit {0}
AllTypes m (t ∷ ts) = StructsBefore m t.base × AllTypes m ts

pub seen_more : (m : ℕ) (vs us : List Seen) → AllSeen m vs → AllSeen m us → AllSeen m (vs ++ us)
seen_more m [] us h k = k
seen_more m (v ∷ vs) us h k = (h.0, seen_more m vs us h.1 k)

pub results_more : (m : ℕ) (ss : List Signature) (s : Signature) → AllResults m ss → StructsBefore m s.result.base → AllResults m (ss ++ s ∷ [])
results_more m [] s h k = (k, tt)
results_more m (r ∷ ss) s h k = (h.0, results_more m ss s h.1 k)

pub types_more : (m : ℕ) (ts us : List Ty) → AllTypes m ts → AllTypes m us → AllTypes m (ts ++ us)
types_more m [] us h k = k
types_more m (t ∷ ts) us h k = (h.0, types_more m ts us h.1 k)

-- What a part of the walk sees: structs in order, and known types alone.
pub record Sees (m : ℕ) (v : Visible) : Type 0 where
  pub ordered : Ordered (defs_of v.shapes)
  pub fit : length v.shapes ≤ m
  pub variables : AllSeen m v.variables
  pub functions : AllResults m v.functions

pub defs_length : (ss : List Shape) → length (defs_of ss) ≡ length ss
defs_length [] = refl
defs_length (s ∷ ss) = ap suc (defs_length ss)

seen_known : (m : ℕ) (vs : List Seen) (id : ℕ) (t : Ty) → AllSeen m vs → type_in vs id ≡ Some t → StructsBefore m t.base
seen_known m [] id t a h = absurd cc
seen_known m (v ∷ vs) id t a h = here (nat_eq v.id id) h (seen_known m vs id t a.1)
  where
    here : (b : Bool) → (if b then Some v.ty else type_in vs id) ≡ Some t → (type_in vs id ≡ Some t → StructsBefore m t.base) → StructsBefore m t.base
    here true h next = let e : v.ty ≡ t = cc in subst (λ (u : Ty). StructsBefore m u.base) e a.0
    here false h next = next h

pub results_known : (m : ℕ) (ss : List Signature) (k : ℕ) (s : Signature) → AllResults m ss → slice_get ss k ≡ Some s → StructsBefore m s.result.base
results_known m [] k s a h = absurd cc
results_known m (r ∷ ss) zero s a h = let e : r ≡ s = cc in subst (λ (q : Signature). StructsBefore m q.result.base) e a.0
results_known m (r ∷ ss) (suc k) s a h = results_known m ss k s a.1 h

pub knows : (m : ℕ) (v : Visible) → Sees m v → Knows m v
knows m v w = record {
  structs = defs_of v.shapes;
  begin = begins_self (defs_of v.shapes);
  ordered = w.ordered;
  fit = (let e = defs_length v.shapes in
      let le : length v.shapes ≤ m = w.fit in
      omega (arith, e, le));
  variables = λ id t h. seen_known m v.variables id t w.variables h;
  functions = λ k s h. results_known m v.functions k s w.functions h;
}

-- The type of what the walk of an expression makes.
pub typed_known : (m : ℕ) (g : Visible) (w : Ty) (e : Expr) (x : Typed) → Sees m g → expr g w e ≡ Fine x → StructsBefore m x.ty.base
typed_known m g w e x s h = has_known m g (knows m g s) x.ty x.what (expr_fills g w e x h) (sound g w e x h)

-- One more variable is seen.
pub sees_more : (m : ℕ) (v : Visible) (vs : List Seen) → Sees m v → AllSeen m vs → Sees m (declare vs v)
sees_more m v vs w a = record { ordered = w.ordered; fit = w.fit; variables = seen_more m v.variables vs w.variables a; functions = w.functions }

initial_filled : (g : Visible) (t : Ty) (p : Place) (i o : Option Expr) → initial g t p i ≡ Fine o → FilledIfAny o
initial_filled g t p None o h = subst FilledIfAny (same_fine None o h) tt
initial_filled g t p (Some i) o h =
    let x = first_fine (expr g (wanted t) i) (of_type t p) o h in
    let r = held (same_ty t x.0.ty) (Mismatch p) (Some x.0.what) o x.2 in
    subst FilledIfAny r.1 (expr_fills g (wanted t) i x.0 x.1)

-- What the walk of a variable makes.
pub record VarForms (m : ℕ) (xs : List ℕ) (v : Var) (x : TypedVar) : Type 0 where
  pub formed : FormedVar m xs x.what
  pub named : x.what.name ≡ v.name
  pub known : StructsBefore m x.ty.base

pub var_forms : (m : ℕ) (xs : List ℕ) (g : Visible) (v : Var) (x : TypedVar) → length g.shapes ≤ m → is_in xs v.name.id ≡ false → var g v ≡ Fine x →
    VarForms m xs v x
var_forms m xs g v x le new h =
    let w = first_fine (written g.shapes v.ty) (λ t. and_then (initial g t.ty v.at v.initial) (var_of v t)) x h in
    let i = first_fine (initial g w.0.ty v.at v.initial) (var_of v w.0) x w.2 in
    let k : WrittenKnown m w.0 = written_known m g.shapes v.ty w.0 le w.1 in
    let made : TypedVar = record { what = record { name = v.name; ty = w.0.what; initial = i.0; at = v.at }; ty = w.0.ty } in
    subst (VarForms m xs v) (same_fine made x i.2)
    (record { formed = (new, k.what, initial_filled g w.0.ty v.at v.initial i.0 i.1); named = refl; known = k.ty })

-- Parameters so far, and one more.
params_more : (m : ℕ) (xs : List ℕ) (ps : List Field) (p : Field) → FormedParams m xs ps → is_in (with_params xs ps) p.name.id ≡ false → IsKnown m p.ty →
    FormedParams m xs (ps ++ p ∷ [])
params_more m xs [] p h new known = (new, known, tt)
params_more m xs (q ∷ ps) p h new known = (h.0, h.1, params_more m (q.name.id ∷ xs) ps p h.2 new known)

numbers_more : (xs : List ℕ) (ps : List Field) (p : Field) → p.name.id ∷ with_params xs ps ≡ with_params xs (ps ++ p ∷ [])
numbers_more xs [] p = refl
numbers_more xs (q ∷ ps) p = numbers_more (q.name.id ∷ xs) ps p

-- What the walk of parameters makes, where numbers from b on and before d are still to come.
pub record HeadForms (m : ℕ) (xs : List ℕ) (b d : ℕ) (h : Heading) : Type 0 where
  pub formed : FormedParams m xs h.fields
  pub clear : Clear (with_params xs h.fields) b d

pub heading_forms : (m : ℕ) (xs : List ℕ) (ss : List Shape) (a b d : ℕ) (done : Heading) (fs : List Field) (h : Heading) → length ss ≤ m → a ≤ b → b ≤ d →
    HeadForms m xs a d done → RisesParams a fs b → heading ss done fs ≡ Fine h → HeadForms m xs b d h
heading_forms m xs ss a b d done [] h le low high is r e =
    subst (HeadForms m xs b d) (same_fine done h e)
    (record { formed = is.formed; clear = clear_part (with_params xs done.fields) a d b d low (omega arith) is.clear })
heading_forms m xs ss a b d done (f ∷ fs) h le low high is (c, at_least, less, most, more) e =
    let t = first_fine (written ss f.ty) (λ t. heading ss (one_more_param done f.name t) fs) h e in
    let k : WrittenKnown m t.0 = written_known m ss f.ty t.0 le t.1 in
    let one : Field = record { name = f.name; ty = t.0.what } in
    let new : is_in (with_params xs done.fields) f.name.id ≡ false = is.clear f.name.id at_least (omega arith) in
    let rest : Clear (with_params xs done.fields) c d = clear_part (with_params xs done.fields) a d c d (omega arith) (omega arith) is.clear in
    heading_forms m xs ss c b d (one_more_param done f.name t.0) fs h le most high
    (record {
      formed = params_more m xs done.fields one is.formed new k.what;
      clear = subst (λ ys. Clear ys c d) (numbers_more xs done.fields one) (clear_more (with_params xs done.fields) f.name.id c d less rest);
    }) more t.2

-- What parameters and fields are seen as.
pub record HeadKnown (m : ℕ) (h : Heading) : Type 0 where
  pub seen : AllSeen m h.seen
  pub types : AllTypes m h.types

pub heading_known : (m : ℕ) (ss : List Shape) (done : Heading) (fs : List Field) (h : Heading) → length ss ≤ m → HeadKnown m done →
    heading ss done fs ≡ Fine h → HeadKnown m h
heading_known m ss done [] h le is e = subst (HeadKnown m) (same_fine done h e) is
heading_known m ss done (f ∷ fs) h le is e =
    let t = first_fine (written ss f.ty) (λ t. heading ss (one_more_param done f.name t) fs) h e in
    let k : WrittenKnown m t.0 = written_known m ss f.ty t.0 le t.1 in
    heading_known m ss (one_more_param done f.name t.0) fs h le
    (record { seen = seen_more m done.seen (variable f.name.id t.0.ty ∷ []) is.seen (k.ty, tt); types = types_more m done.types (t.0.ty ∷ []) is.types (k.ty, tt) })
    t.2
