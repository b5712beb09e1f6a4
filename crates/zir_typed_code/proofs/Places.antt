-- What stands at a place for typing stands there for code.
use Rattle.std.specs.Prelude.{◌≡◌, refl, ℕ, zero, suc, ◌+◌, List, [], ◌∷◌, Bool, true, false, if◌then◌else◌, Option, Some, None, slice_get}
use Rattle.std.specs.Str.{bytes_eq}
use Rattle.std.proofs.Common.{ap, ◌∙◌, sym, arith}
use Rattle.zir_tree.specs.declared.types.Base.{Base}
use Rattle.zir_tree.specs.declared.types.Base.TheVariants.{Unit as UnitTy, Bit as BitTy, Bool as BoolTy, Int8, Int16, Int32, Int64, Complex16}
use Rattle.zir_tree.specs.declared.types.Base.TheVariants.{Complex32, Struct as StructTy}
use Rattle.zir_tree.specs.declared.types.Ty.{Ty}
use Rattle.zir_tree.specs.declared.types.FieldDef.{FieldDef}
use Rattle.zir_tree.specs.declared.types.StructDef.{StructDef}
use Rattle.zir_types.specs.declared.scope.Shape.{Shape}
use Rattle.zir_types.specs.declared.typed.Selected.{Selected}
use Rattle.zir_types.specs.Kinds.{scalar}
use Rattle.zir_types.specs.Scope.{field_from, field_of, half_part, part_of_base, part_if, part_in}
use Rattle.zir_types.specs.Programs.{defs_of}
use Rattle.zir_shapes.specs.Offsets.{fields_in, fields_of, type_in, field_type}
use Rattle.zir_code.specs.Typing.{BasePartFits, PartFits}
use Rattle.zir_sound.specs.Cores.{Begins}
use Rattle.zir_sound.proofs.Fronts.{get_begins}

-- The definition of a struct that is seen.
abbrev def_if : Option Shape → Option StructDef
def_if None = None
def_if (Some s) = Some s.def

def_at : (ss : List Shape) (k : ℕ) (s : Shape) → slice_get ss k ≡ Some s → slice_get (defs_of ss) k ≡ Some s.def
def_at [] k s h = absurd cc
def_at (r ∷ ss) zero s h = ap def_if h
def_at (r ∷ ss) (suc k) s h = def_at ss k s h

pub struct_here : (ss : List Shape) (structs : List StructDef) (k : ℕ) (s : Shape) → Begins (defs_of ss) structs → slice_get ss k ≡ Some s →
    slice_get structs k ≡ Some s.def
struct_here ss structs k s b h = get_begins (defs_of ss) structs k s.def b (def_at ss k s h)

-- A selected field stands where its place says.
abbrev FieldAt : ℕ → List FieldDef → Selected → Type 0
FieldAt n fs f = (k : ℕ) × (f.place ≡ n + k) × (type_in (slice_get fs k) ≡ Some f.ty)

field_first : (b : Bool) (n : ℕ) (d : FieldDef) (fs : List FieldDef) (name : List ℕ) (f : Selected) →
    (field_from (suc n) fs name ≡ Some f → FieldAt (suc n) fs f) →
    (if b then Some (record { place = n; ty = d.ty }) else field_from (suc n) fs name) ≡ Some f → FieldAt n (d ∷ fs) f
field_first true n d fs name f k h =
    let e : (let s : Selected = record { place = n; ty = d.ty } in s) ≡ f = cc in
    (0, ap (λ (s : Selected). s.place) (sym e) ∙ omega arith, ap (λ (s : Selected). Some s.ty) e)
field_first false n d fs name f k h = let r = k h in (suc r.0, r.1 ∙ omega arith, r.2)

field_at : (n : ℕ) (fs : List FieldDef) (name : List ℕ) (f : Selected) → field_from n fs name ≡ Some f → FieldAt n fs f
field_at n [] name f h = absurd cc
field_at n (d ∷ fs) name f h = field_first (bytes_eq d.name name) n d fs name f (λ k. field_at (suc n) fs name f k) h

half_fits : (half : Base) (name : List ℕ) (f : Selected) → half_part (Some half) name ≡ Some f → f.ty ≡ scalar half
half_fits half name f h = halves (bytes_eq name (114 ∷ 101 ∷ [])) (bytes_eq name (105 ∷ 109 ∷ [])) half f h
  where
    second : (b : Bool) (half : Base) (f : Selected) → (if b then Some (record { place = 1; ty = scalar half }) else None) ≡ Some f → f.ty ≡ scalar half
    second true half f h = let e : (let s : Selected = record { place = 1; ty = scalar half } in s) ≡ f = cc in ap (λ (s : Selected). s.ty) (sym e)
    second false half f h = absurd cc

    halves : (a b : Bool) (half : Base) (f : Selected) →
        (if a then Some (record { place = 0; ty = scalar half }) else if b then Some (record { place = 1; ty = scalar half }) else None) ≡ Some f →
        f.ty ≡ scalar half
    halves true b half f h = let e : (let s : Selected = record { place = 0; ty = scalar half } in s) ≡ f = cc in ap (λ (s : Selected). s.ty) (sym e)
    halves false b half f h = second b half f h

struct_part : (ss : List Shape) (structs : List StructDef) (j : ℕ) (o : Option Shape) (name : List ℕ) (f : Selected) → Begins (defs_of ss) structs →
    slice_get ss j ≡ o → field_of o name ≡ Some f → field_type structs j f.place ≡ Some f.ty
struct_part ss structs j None name f b e h = absurd cc
struct_part ss structs j (Some s) name f b e h =
    let r = field_at 0 s.def.fields name f h in
    let k : f.place ≡ r.0 = r.1 ∙ omega arith in
    ap (λ i. type_in (slice_get (fields_of structs j) i)) k
    ∙ (ap (λ o. type_in (slice_get (fields_in o) r.0)) (struct_here ss structs j s b e) ∙ r.2)

base_part : (ss : List Shape) (structs : List StructDef) (b : Base) (name : List ℕ) (f : Selected) → Begins (defs_of ss) structs →
    part_of_base ss b name ≡ Some f → BasePartFits structs b f.place f.ty
base_part ss structs UnitTy name f b h = absurd cc
base_part ss structs BitTy name f b h = absurd cc
base_part ss structs BoolTy name f b h = absurd cc
base_part ss structs Int8 name f b h = absurd cc
base_part ss structs Int16 name f b h = absurd cc
base_part ss structs Int32 name f b h = absurd cc
base_part ss structs Int64 name f b h = absurd cc
base_part ss structs Complex16 name f b h = half_fits Int16 name f h
base_part ss structs Complex32 name f b h = half_fits Int32 name f h
base_part ss structs (StructTy j) name f b h = struct_part ss structs j (slice_get ss j) name f b refl h

part_by : (ss : List Shape) (structs : List StructDef) (ls : List ℕ) (c : Base) (name : List ℕ) (f : Selected) → Begins (defs_of ss) structs →
    part_if ss ls c name ≡ Some f → (ls ≡ []) × BasePartFits structs c f.place f.ty
part_by ss structs [] c name f b h = (refl, base_part ss structs c name f b h)
part_by ss structs (n ∷ ls) c name f b h = absurd cc

-- A part of a type is found at its place.
pub part_fits : (ss : List Shape) (structs : List StructDef) (u : Ty) (name : List ℕ) (k : ℕ) (t : Ty) → Begins (defs_of ss) structs →
    part_in ss u name ≡ Some (record { place = k; ty = t }) → PartFits structs u k t
part_fits ss structs u name k t b h = part_by ss structs u.lengths u.base name (record { place = k; ty = t }) b h
