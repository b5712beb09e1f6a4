-- Values of variables without initial values.
use Rattle.std.specs.Prelude.{ℕ, zero, suc, ◌+◌, ◌*◌, ◌<◌, pos, Bool, true, false, List, [], ◌∷◌, ◌++◌, ◌≡◌, refl, length, map, nat_eq, slice_index, slice_index_or, sum_by}
use Rattle.std.proofs.Common.{sym, ap, ◌∙◌, arith, subst}
use Rattle.std.proofs.lemmas.Bool.{eqb-true, eqb-false}
use Rattle.std.proofs.lemmas.List.{length-append, get_or_append_left}
use Rattle.std.proofs.lemmas.List.Sums.{sum_by-cons}
use lib.ListN.{replicate-append-replicate}
use Rattle.zir_tree.specs.declared.value.Val.{Val, Unit as UnitVal, List as Vals}
use Rattle.zir_tree.specs.declared.types.Base.{Base}
use Rattle.zir_tree.specs.declared.types.Base.TheVariants.{Unit as UnitTy, Bit as BitTy, Bool as BoolTy, Int8, Int16, Int32, Int64, Complex16, Complex32, Struct as StructTy}
use Rattle.zir_tree.specs.declared.types.FieldDef.{FieldDef}
use Rattle.zir_tree.specs.declared.types.StructDef.{StructDef}
use Rattle.zir_cells.specs.Cells.{cells_of}
use Rattle.zir_cells.specs.Layout.{parts_in, base_cells, cells_in, struct_cells}
use Rattle.zir_meaning.specs.Values.{Kinds, Each, copies, filled, blank_base, blank, more_blanks, no_kinds, either_holds}
use Rattle.zir_shapes.specs.Shapes.{BaseShape, LengthsShape, FieldsShape, StructShape, one_more_shape, more_shapes, StructsBefore, FieldsBefore, OrderedFrom}
use Rattle.zir_shapes.specs.Offsets.{zeros, list_cells}
use Rattle.zir_shapes.specs.Laws.{BlanksHave}
use Rattle.zir_shapes.proofs.PartCells.{cells-list}
use Rattle.zir_shapes.proofs.Fitting.{index-last}

-- cells of 0 behind others
zeros-append : (m n : ℕ) → zeros m ++ zeros n ≡ zeros (m + n)
zeros-append m n = replicate-append-replicate m n (pos 0)

-- each of the first n structs has its blank value, in cells of 0
record Ready (kinds : Kinds) (n : ℕ) (sizes : List ℕ) (blanks : List Val) : Type 0 where
  pub shape : (k : ℕ) → k < n → kinds k (slice_index_or blanks k UnitVal)
  pub cells : (k : ℕ) → k < n → cells_of (slice_index_or blanks k UnitVal) ≡ zeros (slice_index sizes k)
  pub all_sizes : length sizes ≡ n
  pub all_blanks : length blanks ≡ n

base-shape : (kinds : Kinds) (n : ℕ) (sizes : List ℕ) (blanks : List Val) → Ready kinds n sizes blanks → (b : Base) → StructsBefore n b →
    BaseShape kinds b (blank_base blanks b)
base-shape kinds n sizes blanks r UnitTy lt = refl
base-shape kinds n sizes blanks r BitTy lt = (false, refl)
base-shape kinds n sizes blanks r BoolTy lt = (false, refl)
base-shape kinds n sizes blanks r Int8 lt = (pos 0, refl)
base-shape kinds n sizes blanks r Int16 lt = (pos 0, refl)
base-shape kinds n sizes blanks r Int32 lt = (pos 0, refl)
base-shape kinds n sizes blanks r Int64 lt = (pos 0, refl)
base-shape kinds n sizes blanks r Complex16 lt = (pos 0, pos 0, refl)
base-shape kinds n sizes blanks r Complex32 lt = (pos 0, pos 0, refl)
base-shape kinds n sizes blanks r (StructTy k) lt = r.shape k lt

base-zeros : (kinds : Kinds) (n : ℕ) (sizes : List ℕ) (blanks : List Val) → Ready kinds n sizes blanks → (b : Base) → StructsBefore n b →
    cells_of (blank_base blanks b) ≡ zeros (base_cells sizes b)
base-zeros kinds n sizes blanks r UnitTy lt = refl
base-zeros kinds n sizes blanks r BitTy lt = refl
base-zeros kinds n sizes blanks r BoolTy lt = refl
base-zeros kinds n sizes blanks r Int8 lt = refl
base-zeros kinds n sizes blanks r Int16 lt = refl
base-zeros kinds n sizes blanks r Int32 lt = refl
base-zeros kinds n sizes blanks r Int64 lt = refl
base-zeros kinds n sizes blanks r Complex16 lt = refl
base-zeros kinds n sizes blanks r Complex32 lt = refl
base-zeros kinds n sizes blanks r (StructTy k) lt = r.cells k lt

-- copies of a value
length-copies : (m : ℕ) (v : Val) → length (copies m v) ≡ m
length-copies zero v = refl
length-copies (suc m) v = ap suc (length-copies m v)

each-copy : (P : Val → Type 0) (m : ℕ) (v : Val) → P v → Each P (copies m v)
each-copy P zero v h = tt
each-copy P (suc m) v h = (h, each-copy P m v h)

zeros-copies : (m size : ℕ) (v : Val) → cells_of v ≡ zeros size → list_cells (copies m v) ≡ zeros (m * size)
zeros-copies zero size v e = ap zeros (let z : 0 ≡ 0 * size = omega arith in z)
zeros-copies (suc m) size v e =
    ap (λ zs. zs ++ list_cells (copies m v)) e
    ∙ ap (λ zs. zeros size ++ zs) (zeros-copies m size v e)
    ∙ zeros-append size (m * size)
    ∙ ap zeros (let z : size + m * size ≡ suc m * size = grind arith in z)

-- arrays of blank values
lengths-shape : (kinds : Kinds) (n : ℕ) (sizes : List ℕ) (blanks : List Val) → Ready kinds n sizes blanks → (ns : List ℕ) (b : Base) →
    StructsBefore n b → LengthsShape kinds ns b (filled ns (blank_base blanks b))
lengths-shape kinds n sizes blanks r [] b lt = base-shape kinds n sizes blanks r b lt
lengths-shape kinds n sizes blanks r (m ∷ ns) b lt =
    let v : Val = filled ns (blank_base blanks b) in
    (copies m v, refl, length-copies m v, each-copy (LengthsShape kinds ns b) m v (lengths-shape kinds n sizes blanks r ns b lt))

lengths-zeros : (kinds : Kinds) (n : ℕ) (sizes : List ℕ) (blanks : List Val) → Ready kinds n sizes blanks → (ns : List ℕ) (b : Base) →
    StructsBefore n b → cells_of (filled ns (blank_base blanks b)) ≡ zeros (parts_in ns * base_cells sizes b)
lengths-zeros kinds n sizes blanks r [] b lt =
    base-zeros kinds n sizes blanks r b lt ∙ ap zeros (let z : base_cells sizes b ≡ 1 * base_cells sizes b = omega arith in z)
lengths-zeros kinds n sizes blanks r (m ∷ ns) b lt =
    let v : Val = filled ns (blank_base blanks b) in
    cells-list (copies m v)
    ∙ zeros-copies m (parts_in ns * base_cells sizes b) v (lengths-zeros kinds n sizes blanks r ns b lt)
    ∙ ap zeros (let z : m * (parts_in ns * base_cells sizes b) ≡ m * parts_in ns * base_cells sizes b = grind arith in z)

-- blank fields
fields-shape : (kinds : Kinds) (n : ℕ) (sizes : List ℕ) (blanks : List Val) → Ready kinds n sizes blanks → (fs : List FieldDef) →
    FieldsBefore n fs → FieldsShape kinds fs (map (λ f. blank blanks f.ty) fs)
fields-shape kinds n sizes blanks r [] lt = tt
fields-shape kinds n sizes blanks r (f ∷ fs) lt =
    (lengths-shape kinds n sizes blanks r f.ty.lengths f.ty.base lt.0, fields-shape kinds n sizes blanks r fs lt.1)

fields-zeros : (kinds : Kinds) (n : ℕ) (sizes : List ℕ) (blanks : List Val) → Ready kinds n sizes blanks → (fs : List FieldDef) →
    FieldsBefore n fs → list_cells (map (λ f. blank blanks f.ty) fs) ≡ zeros (sum_by (λ f. cells_in sizes f.ty) fs)
fields-zeros kinds n sizes blanks r [] lt = refl
fields-zeros kinds n sizes blanks r (f ∷ fs) lt =
    ap (λ zs. zs ++ list_cells (map (λ f. blank blanks f.ty) fs)) (lengths-zeros kinds n sizes blanks r f.ty.lengths f.ty.base lt.0)
    ∙ ap (λ zs. zeros (cells_in sizes f.ty) ++ zs) (fields-zeros kinds n sizes blanks r fs lt.1)
    ∙ zeros-append (cells_in sizes f.ty) (sum_by (λ f. cells_in sizes f.ty) fs)
    ∙ ap zeros (sym (sum_by-cons (λ f. cells_in sizes f.ty) f fs))

-- the value behind others
value-last : (vs : List Val) (n k : ℕ) (v : Val) → length vs ≡ n → k ≡ n → slice_index_or (vs ++ v ∷ []) k UnitVal ≡ v
value-last [] n zero v e f = refl
value-last [] n (suc k) v e f = absurd (omega (arith, e, f))
value-last (w ∷ vs) n zero v e f = absurd (omega (arith, e, f))
value-last (w ∷ vs) n (suc k) v e f = value-last vs (length vs) k v refl (omega (arith, e, f))

-- the blank value of a struct over those before it
abbrev struct-blank : List Val → StructDef → Val
struct-blank blanks d = Vals (map (λ f. blank blanks f.ty) d.fields)

one-more-shaped : (kinds : Kinds) (n : ℕ) (sizes : List ℕ) (blanks : List Val) → Ready kinds n sizes blanks → (d : StructDef) → FieldsBefore n d.fields →
    (k : ℕ) → k < suc n → (b : Bool) → nat_eq k n ≡ b → (v : Val) → v ≡ slice_index_or (blanks ++ struct-blank blanks d ∷ []) k UnitVal →
    either_holds b (StructShape kinds d.fields v) (kinds k v)
one-more-shaped kinds n sizes blanks r d before k lt true e v is = (
  map (λ f. blank blanks f.ty) d.fields,
  is ∙ value-last blanks n k (struct-blank blanks d) r.all_blanks (eqb-true k n e),
  fields-shape kinds n sizes blanks r d.fields before,
)
one-more-shaped kinds n sizes blanks r d before k lt false e v is =
    let within : k < n = below (eqb-false k n e) in
    let same : slice_index_or blanks k UnitVal ≡ v =
    sym (is ∙ get_or_append_left blanks (struct-blank blanks d ∷ []) UnitVal k (omega (arith, within, r.all_blanks))) in
    subst (λ w. kinds k w) same (r.shape k within)
  where
    below : (k ≡ n → ⊥) → k < n
    below other = omega (arith, lt, other)

one-more-zeros : (kinds : Kinds) (n : ℕ) (sizes : List ℕ) (blanks : List Val) → Ready kinds n sizes blanks → (d : StructDef) → FieldsBefore n d.fields →
    (k : ℕ) → k < suc n → (b : Bool) → nat_eq k n ≡ b →
    cells_of (slice_index_or (blanks ++ struct-blank blanks d ∷ []) k UnitVal) ≡
    zeros (slice_index (sizes ++ sum_by (λ f. cells_in sizes f.ty) d.fields ∷ []) k)
one-more-zeros kinds n sizes blanks r d before k lt true e =
    let at : k ≡ n = eqb-true k n e in
    ap cells_of (value-last blanks n k (struct-blank blanks d) r.all_blanks at)
    ∙ cells-list (map (λ f. blank blanks f.ty) d.fields)
    ∙ fields-zeros kinds n sizes blanks r d.fields before
    ∙ ap zeros (sym (index-last sizes n (sum_by (λ f. cells_in sizes f.ty) d.fields) k r.all_sizes at))
one-more-zeros kinds n sizes blanks r d before k lt false e =
    let within : k < n = below (eqb-false k n e) in
    ap cells_of (get_or_append_left blanks (struct-blank blanks d ∷ []) UnitVal k (omega (arith, within, r.all_blanks)))
    ∙ r.cells k within
    ∙ ap zeros (sym (get_or_append_left sizes (sum_by (λ f. cells_in sizes f.ty) d.fields ∷ []) 0 k (omega (arith, within, r.all_sizes))))
  where
    below : (k ≡ n → ⊥) → k < n
    below other = omega (arith, lt, other)

one-more-ready : (kinds : Kinds) (n : ℕ) (sizes : List ℕ) (blanks : List Val) → Ready kinds n sizes blanks → (d : StructDef) → FieldsBefore n d.fields →
    Ready (one_more_shape kinds n d) (suc n) (sizes ++ sum_by (λ f. cells_in sizes f.ty) d.fields ∷ []) (blanks ++ struct-blank blanks d ∷ [])
one-more-ready kinds n sizes blanks r d before = record {
  shape = λ k lt. one-more-shaped kinds n sizes blanks r d before k lt (nat_eq k n) refl (slice_index_or (blanks ++ struct-blank blanks d ∷ []) k UnitVal) refl;
  cells = λ k lt. one-more-zeros kinds n sizes blanks r d before k lt (nat_eq k n) refl;
  all_sizes = omega (arith, length-append sizes (sum_by (λ f. cells_in sizes f.ty) d.fields ∷ []), r.all_sizes);
  all_blanks = omega (arith, length-append blanks (struct-blank blanks d ∷ []), r.all_blanks);
}

-- all structs
structs-ready : (ds : List StructDef) (kinds : Kinds) (n : ℕ) (sizes : List ℕ) (blanks : List Val) → OrderedFrom n ds → Ready kinds n sizes blanks →
    Ready (more_shapes kinds n ds) (n + length ds) (struct_cells sizes ds) (more_blanks blanks ds)
structs-ready [] kinds n sizes blanks o r =
    let e : n ≡ n + 0 = omega arith in subst (λ m. Ready kinds m sizes blanks) e r
structs-ready (d ∷ ds) kinds n sizes blanks o r =
    let e : suc n + length ds ≡ n + suc (length ds) = omega arith in
    subst (λ m. Ready (more_shapes kinds n (d ∷ ds)) m (struct_cells sizes (d ∷ ds)) (more_blanks blanks (d ∷ ds))) e
    (structs-ready ds (one_more_shape kinds n d) (suc n) (sizes ++ sum_by (λ f. cells_in sizes f.ty) d.fields ∷ []) (blanks ++ struct-blank blanks d ∷ [])
    o.1 (one-more-ready kinds n sizes blanks r d o.0))

none-ready : Ready no_kinds 0 [] []
none-ready = record { shape = λ k lt. absurd (omega (arith, lt)); cells = λ k lt. absurd (omega (arith, lt)); all_sizes = refl; all_blanks = refl }

pub blanks-have : BlanksHave
blanks-have ds t o before =
    let z : 0 + length ds ≡ length ds = omega arith in
    let r : Ready (more_shapes no_kinds 0 ds) (length ds) (struct_cells [] ds) (more_blanks [] ds) =
    subst (λ m. Ready (more_shapes no_kinds 0 ds) m (struct_cells [] ds) (more_blanks [] ds)) z (structs-ready ds no_kinds 0 [] [] o none-ready) in
    record {
      shape = lengths-shape (more_shapes no_kinds 0 ds) (length ds) (struct_cells [] ds) (more_blanks [] ds) r t.lengths t.base before;
      cells = lengths-zeros (more_shapes no_kinds 0 ds) (length ds) (struct_cells [] ds) (more_blanks [] ds) r t.lengths t.base before;
    }
