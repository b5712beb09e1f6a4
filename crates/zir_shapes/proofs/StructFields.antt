-- Fields of structs.
use Rattle.std.specs.Prelude.{ℕ, zero, suc, ◌+◌, ◌<◌, List, [], ◌∷◌, ◌++◌, ◌≡◌, refl, take, drop, length, Option, Some, None, slice_get, slice_set, slice_index_or, sum_by}
use Rattle.std.proofs.Common.{sym, ap, ◌∙◌, arith, subst, append_assoc}
use Rattle.std.proofs.lemmas.List.{length-append}
use Rattle.std.proofs.lemmas.List.Sums.{sum_by-cons}
use Rattle.zir_tree.specs.declared.value.Val.{Val, Unit as UnitVal, List as Vals}
use Rattle.zir_tree.specs.declared.types.Ty.{Ty}
use Rattle.zir_tree.specs.declared.types.FieldDef.{FieldDef}
use Rattle.zir_tree.specs.declared.types.StructDef.{StructDef}
use Rattle.zir_cells.specs.Cells.{cells_of}
use Rattle.zir_cells.specs.Layout.{layout_of}
use Rattle.zir_meaning.specs.Values.{Kinds}
use Rattle.zir_meaning.specs.Operators.{part_of, with_part}
use Rattle.zir_shapes.specs.Shapes.{FieldsShape, LengthsShape, StructShape, shapes_of, Shaped, ShapedFields, FieldsBefore}
use Rattle.zir_shapes.specs.Offsets.{struct_type, fields_in, type_in, field_type, field_offset, list_cells}
use Rattle.zir_shapes.specs.Laws.{FieldsStand, StructsHave, FieldsReplaced}
use Rattle.zir_shapes.proofs.Overlaying.{overlaid-at}
use Rattle.zir_shapes.proofs.PartCells.{cells-list, part-list, with-part-list}
use Rattle.zir_shapes.proofs.Fitting.{sizes-fit}
use Rattle.zir_shapes.proofs.Slicing.{cells-set}
use Rattle.zir_shapes.proofs.Growing.{earlier, struct-at, struct-from, earlier-grows, earlier-likewise, fields-grow, lengths-likewise, fields-earlier, ordered-at}

-- a struct whose field has a type is one of these
found-struct : (o : Option StructDef) (k : ℕ) (t : Ty) → type_in (slice_get (fields_in o) k) ≡ Some t → (d : StructDef) × (o ≡ Some d)
found-struct None k t e = absurd (cc)
found-struct (Some d) k t e = (d, refl)

-- the field at a place has its shape, and its cells stand between those of the others
record FieldAt (ds : List StructDef) (fs : List FieldDef) (vs : List Val) (k : ℕ) (t : Ty) : Type 0 where
  pub within : k < length vs
  pub shape : Shaped ds t (slice_index_or vs k UnitVal)
  pub split : list_cells vs ≡ list_cells (take k vs) ++ (cells_of (slice_index_or vs k UnitVal) ++ list_cells (drop (suc k) vs))
  pub place : length (list_cells (take k vs)) ≡ sum_by (λ f. layout_of ds f.ty) (take k fs)

field-at : (ds : List StructDef) (fs : List FieldDef) (vs : List Val) (k : ℕ) (t : Ty) → ShapedFields ds fs vs → type_in (slice_get fs k) ≡ Some t →
    FieldAt ds fs vs k t
field-at ds [] vs k t h e = absurd (cc)
field-at ds (f ∷ fs) [] k t h e = absurd h
field-at ds (f ∷ fs) (v ∷ vs) zero t h e =
    let q : f.ty ≡ t = cc in
    record { within = omega arith; shape = subst (λ t. Shaped ds t v) q h.0; split = refl; place = refl }
field-at ds (f ∷ fs) (v ∷ vs) (suc k) t h e =
    let a : FieldAt ds fs vs k t = field-at ds fs vs k t h.1 e in
    record {
      within = omega (arith, a.within);
      shape = a.shape;
      split =
          ap (λ zs. cells_of v ++ zs) a.split
          ∙ sym (append_assoc (cells_of v) (list_cells (take k vs)) (cells_of (slice_index_or vs k UnitVal) ++ list_cells (drop (suc k) vs)));
      place =
          length-append (cells_of v) (list_cells (take k vs))
          ∙ ap (λ a. a + length (list_cells (take k vs))) (sizes-fit ds f.ty v h.0)
          ∙ ap (λ a. layout_of ds f.ty + a) a.place
          ∙ sym (sum_by-cons (λ f. layout_of ds f.ty) f (take k fs));
    }

-- a struct is a list of values with its fields' shapes over the structs before it
record StructAt (ds : List StructDef) (j k : ℕ) (t : Ty) (v : Val) : Type 0 where
  pub definition : StructDef
  pub is : slice_get ds j ≡ Some definition
  pub shape : StructShape (earlier ds j) definition.fields v
  pub ty : type_in (slice_get definition.fields k) ≡ Some t
  pub field : FieldAt ds definition.fields shape.0 k t

struct-of : (ds : List StructDef) (j k : ℕ) (t : Ty) (v : Val) → Shaped ds (struct_type j) v → field_type ds j k ≡ Some t → StructAt ds j k t v
struct-of ds j k t v h e =
    let d = found-struct (slice_get ds j) k t e in
    let s : StructShape (earlier ds j) d.0.fields v = struct-at ds j d.0 v d.1 h in
    let ty : type_in (slice_get d.0.fields k) ≡ Some t = ap (λ o. type_in (slice_get (fields_in o) k)) (sym d.1) ∙ e in
    record {
      definition = d.0;
      is = d.1;
      shape = s;
      ty = ty;
      field = field-at ds d.0.fields s.0 k t (fields-grow (earlier ds j) (shapes_of ds) (earlier-grows ds j) d.0.fields s.0 s.2) ty;
    }

-- where the cells of a field stand
field-place : (ds : List StructDef) (j k : ℕ) (t : Ty) (v : Val) (s : StructAt ds j k t v) →
    length (list_cells (take k s.shape.0)) ≡ field_offset ds j k
field-place ds j k t v s = s.field.place ∙ ap (λ o. sum_by (λ f. layout_of ds f.ty) (take k (fields_in o))) (sym s.is)

pub fields-stand : FieldsStand
fields-stand ds j k t v h e =
    let s : StructAt ds j k t v = struct-of ds j k t v h e in
    let vs : List Val = s.shape.0 in
    let part : part_of k v ≡ slice_index_or vs k UnitVal = ap (part_of k) s.shape.1 ∙ part-list k vs in
    record {
      shape = subst (λ w. Shaped ds t w) (sym part) s.field.shape;
      before = list_cells (take k vs);
      after = list_cells (drop (suc k) vs);
      split =
          ap cells_of s.shape.1 ∙ cells-list vs ∙ s.field.split
          ∙ ap (λ w. list_cells (take k vs) ++ (cells_of w ++ list_cells (drop (suc k) vs))) (sym part);
      place = field-place ds j k t v s;
    }

pub structs-have : StructsHave
structs-have ds j d vs o e h =
    let z : 0 + j ≡ j = omega arith in
    struct-from ds j d (Vals vs) e (vs, refl, fields-earlier ds j d.fields vs (subst (λ m. FieldsBefore m d.fields) z (ordered-at 0 ds o j d e)) h)

-- fields with another one of its shape
fields-set : (kinds more : Kinds) → ((k : ℕ) (w v : Val) → kinds k w → more k v → kinds k v) → (fs : List FieldDef) (vs : List Val) (k : ℕ) (t : Ty) (new : Val) →
    FieldsShape kinds fs vs → type_in (slice_get fs k) ≡ Some t → LengthsShape more t.lengths t.base new → FieldsShape kinds fs (slice_set vs k new)
fields-set kinds more likewise [] vs k t new h e g = absurd (cc)
fields-set kinds more likewise (f ∷ fs) [] k t new h e g = absurd h
fields-set kinds more likewise (f ∷ fs) (v ∷ vs) zero t new h e g =
    let q : t ≡ f.ty = cc in
    let new-shape : LengthsShape more f.ty.lengths f.ty.base new = subst (λ u. LengthsShape more u.lengths u.base new) q g in
    (lengths-likewise kinds more likewise f.ty.lengths f.ty.base v new h.0 new-shape, h.1)
fields-set kinds more likewise (f ∷ fs) (v ∷ vs) (suc k) t new h e g = (h.0, fields-set kinds more likewise fs vs k t new h.1 e g)

pub fields-replaced : FieldsReplaced
fields-replaced ds j k t old new h e g =
    let s : StructAt ds j k t old = struct-of ds j k t old h e in
    let vs : List Val = s.shape.0 in
    let old-field : Val = slice_index_or vs k UnitVal in
    let whole : with_part k new old ≡ Vals (slice_set vs k new) = ap (with_part k new) s.shape.1 ∙ with-part-list k new vs in
    record {
      shape = struct-from ds j s.definition (with_part k new old) s.is (
        slice_set vs k new,
        whole,
        fields-set (earlier ds j) (shapes_of ds) (earlier-likewise ds j) s.definition.fields vs k t new s.shape.2 s.ty g,
      );
      cells =
          ap cells_of whole
          ∙ cells-list (slice_set vs k new)
          ∙ cells-set vs k new s.field.within
          ∙ overlaid-at (cells_of old) (list_cells (take k vs)) (cells_of old-field) (list_cells (drop (suc k) vs)) (cells_of new)
          (field_offset ds j k) (ap cells_of s.shape.1 ∙ cells-list vs ∙ s.field.split) (field-place ds j k t old s)
          (sizes-fit ds t new g ∙ sym (sizes-fit ds t old-field s.field.shape));
    }
