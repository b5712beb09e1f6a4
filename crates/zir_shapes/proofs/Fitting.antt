-- Values have as many cells as their types.
use Rattle.std.specs.Prelude.{ℕ, zero, suc, ◌+◌, ◌-◌, ◌*◌, ◌<◌, Bool, true, false, List, [], ◌∷◌, ◌++◌, ◌≡◌, refl, length, nat_eq, slice_index, sum_by}
use Rattle.std.proofs.Common.{sym, ap, ◌∙◌, arith, subst}
use Rattle.std.proofs.lemmas.Bool.{eqb-true}
use Rattle.std.proofs.lemmas.List.{length-append, get_or_append_left}
use Rattle.std.proofs.lemmas.List.Sums.{sum_by-cons}
use Rattle.zir_tree.specs.declared.value.Val.{Val}
use Rattle.zir_tree.specs.declared.types.Base.{Base}
use Rattle.zir_tree.specs.declared.types.Base.TheVariants.{Unit as UnitTy, Bit as BitTy, Bool as BoolTy, Int8, Int16, Int32, Int64, Complex16, Complex32, Struct as StructTy}
use Rattle.zir_tree.specs.declared.types.FieldDef.{FieldDef}
use Rattle.zir_tree.specs.declared.types.StructDef.{StructDef}
use Rattle.zir_cells.specs.Cells.{cells_of}
use Rattle.zir_cells.specs.Layout.{parts_in, base_cells, cells_in, struct_cells}
use Rattle.zir_meaning.specs.Values.{Kinds, Each, no_kinds, either_holds}
use Rattle.zir_shapes.specs.Shapes.{IsNumber, IsPair, BaseShape, LengthsShape, FieldsShape, StructShape, one_more_shape, more_shapes}
use Rattle.zir_shapes.specs.Offsets.{list_cells}
use Rattle.zir_shapes.specs.Laws.{SizesFit}
use Rattle.zir_shapes.proofs.PartCells.{cells-list}

-- of the first n structs alone there are values, and they have so many cells
pub record Fits (kinds : Kinds) (n : ℕ) (sizes : List ℕ) : Type 0 where
  pub each : (k : ℕ) (v : Val) → kinds k v → length (cells_of v) ≡ slice_index sizes k
  pub within : (k : ℕ) (v : Val) → kinds k v → k < n
  pub all : length sizes ≡ n

number-fits : (v : Val) → IsNumber v → length (cells_of v) ≡ 1
number-fits v h = ap (λ w. length (cells_of w)) h.1

pair-fits : (v : Val) → IsPair v → length (cells_of v) ≡ 2
pair-fits v h = ap (λ w. length (cells_of w)) h.2

-- a value that is no array
base-fits : (kinds : Kinds) (n : ℕ) (sizes : List ℕ) → Fits kinds n sizes → (b : Base) (v : Val) → BaseShape kinds b v →
    length (cells_of v) ≡ base_cells sizes b
base-fits kinds n sizes fits UnitTy v h = ap (λ w. length (cells_of w)) h
base-fits kinds n sizes fits BitTy v h = ap (λ w. length (cells_of w)) h.1
base-fits kinds n sizes fits BoolTy v h = ap (λ w. length (cells_of w)) h.1
base-fits kinds n sizes fits Int8 v h = number-fits v h
base-fits kinds n sizes fits Int16 v h = number-fits v h
base-fits kinds n sizes fits Int32 v h = number-fits v h
base-fits kinds n sizes fits Int64 v h = number-fits v h
base-fits kinds n sizes fits Complex16 v h = pair-fits v h
base-fits kinds n sizes fits Complex32 v h = pair-fits v h
base-fits kinds n sizes fits (StructTy k) v h = fits.each k v h

-- values that have so many cells each
pub each-size : (P : Val → Type 0) (size : ℕ) → ((v : Val) → P v → length (cells_of v) ≡ size) → (vs : List Val) → Each P vs →
    length (list_cells vs) ≡ length vs * size
each-size P size one [] h = let e : 0 ≡ 0 * size = omega arith in e
each-size P size one (v ∷ vs) h =
    length-append (cells_of v) (list_cells vs)
    ∙ ap (λ a. a + length (list_cells vs)) (one v h.0)
    ∙ ap (λ a. size + a) (each-size P size one vs h.1)
    ∙ (let e : size + length vs * size ≡ suc (length vs) * size = grind arith in e)

-- arrays of values
pub lengths-fit : (kinds : Kinds) (n : ℕ) (sizes : List ℕ) → Fits kinds n sizes → (ns : List ℕ) (b : Base) (v : Val) →
    LengthsShape kinds ns b v → length (cells_of v) ≡ parts_in ns * base_cells sizes b
lengths-fit kinds n sizes fits [] b v h =
    base-fits kinds n sizes fits b v h ∙ (let e : base_cells sizes b ≡ 1 * base_cells sizes b = omega arith in e)
lengths-fit kinds n sizes fits (m ∷ ns) b v h =
    let size : ℕ = parts_in ns * base_cells sizes b in
    ap (λ w. length (cells_of w)) h.1
    ∙ ap length (cells-list h.0)
    ∙ each-size (LengthsShape kinds ns b) size (lengths-fit kinds n sizes fits ns b) h.0 h.3
    ∙ ap (λ a. a * size) h.2
    ∙ (let e : m * (parts_in ns * base_cells sizes b) ≡ m * parts_in ns * base_cells sizes b = grind arith in e)

-- the fields of a struct
pub fields-fit : (kinds : Kinds) (n : ℕ) (sizes : List ℕ) → Fits kinds n sizes → (fs : List FieldDef) (vs : List Val) →
    FieldsShape kinds fs vs → length (list_cells vs) ≡ sum_by (λ f. cells_in sizes f.ty) fs
fields-fit kinds n sizes fits [] [] h = refl
fields-fit kinds n sizes fits [] (v ∷ vs) h = absurd h
fields-fit kinds n sizes fits (f ∷ fs) [] h = absurd h
fields-fit kinds n sizes fits (f ∷ fs) (v ∷ vs) h =
    length-append (cells_of v) (list_cells vs)
    ∙ ap (λ a. a + length (list_cells vs)) (lengths-fit kinds n sizes fits f.ty.lengths f.ty.base v h.0)
    ∙ ap (λ a. cells_in sizes f.ty + a) (fields-fit kinds n sizes fits fs vs h.1)
    ∙ sym (sum_by-cons (λ f. cells_in sizes f.ty) f fs)

-- a number is found behind others, or among them
pub index-last : (xs : List ℕ) (n y k : ℕ) → length xs ≡ n → k ≡ n → slice_index (xs ++ y ∷ []) k ≡ y
index-last [] n y zero e f = refl
index-last [] n y (suc k) e f = absurd (omega (arith, e, f))
index-last (x ∷ xs) n y zero e f = absurd (omega (arith, e, f))
index-last (x ∷ xs) n y (suc k) e f = index-last xs (n - 1) y k (omega (arith, e)) (omega (arith, e, f))

-- one more struct
one-more-each : (kinds : Kinds) (n : ℕ) (sizes : List ℕ) → Fits kinds n sizes → (d : StructDef) (k : ℕ) (v : Val) (b : Bool) → nat_eq k n ≡ b →
    either_holds b (StructShape kinds d.fields v) (kinds k v) →
    length (cells_of v) ≡ slice_index (sizes ++ sum_by (λ f. cells_in sizes f.ty) d.fields ∷ []) k
one-more-each kinds n sizes fits d k v true e h =
    ap (λ w. length (cells_of w)) h.1
    ∙ ap length (cells-list h.0)
    ∙ fields-fit kinds n sizes fits d.fields h.0 h.2
    ∙ sym (index-last sizes n (sum_by (λ f. cells_in sizes f.ty) d.fields) k fits.all (eqb-true k n e))
one-more-each kinds n sizes fits d k v false e h =
    fits.each k v h
    ∙ sym (get_or_append_left sizes (sum_by (λ f. cells_in sizes f.ty) d.fields ∷ []) 0 k (omega (arith, fits.within k v h, fits.all)))

-- and of no struct behind it
one-more-within : (kinds : Kinds) (n : ℕ) → ((k : ℕ) (v : Val) → kinds k v → k < n) → (P : Type 0) (k : ℕ) (v : Val) (b : Bool) → nat_eq k n ≡ b →
    either_holds b P (kinds k v) → k < suc n
one-more-within kinds n within P k v true e h = omega (arith, eqb-true k n e)
one-more-within kinds n within P k v false e h = omega (arith, within k v h)

-- one more struct keeps it
one-more-fits : (kinds : Kinds) (n : ℕ) (sizes : List ℕ) → Fits kinds n sizes → (d : StructDef) →
    Fits (one_more_shape kinds n d) (suc n) (sizes ++ sum_by (λ f. cells_in sizes f.ty) d.fields ∷ [])
one-more-fits kinds n sizes fits d = record {
  each = λ k v h. one-more-each kinds n sizes fits d k v (nat_eq k n) refl h;
  within = λ k v h. one-more-within kinds n fits.within (StructShape kinds d.fields v) k v (nat_eq k n) refl h;
  all = omega (arith, length-append sizes (sum_by (λ f. cells_in sizes f.ty) d.fields ∷ []), fits.all);
}

-- all structs
pub structs-fit : (ds : List StructDef) (kinds : Kinds) (n : ℕ) (sizes : List ℕ) → Fits kinds n sizes →
    Fits (more_shapes kinds n ds) (n + length ds) (struct_cells sizes ds)
structs-fit [] kinds n sizes fits = record { each = fits.each; within = λ k v h. omega (arith, fits.within k v h); all = omega (arith, fits.all) }
structs-fit (d ∷ ds) kinds n sizes fits =
    let e : suc n + length ds ≡ n + suc (length ds) = omega arith in
    subst (λ m. Fits (more_shapes kinds n (d ∷ ds)) m (struct_cells sizes (d ∷ ds))) e
    (structs-fit ds (one_more_shape kinds n d) (suc n) (sizes ++ sum_by (λ f. cells_in sizes f.ty) d.fields ∷ []) (one-more-fits kinds n sizes fits d))

-- there are no values of no structs
pub none-fit : Fits no_kinds 0 []
none-fit = record { each = λ k v h. absurd h; within = λ k v h. absurd h; all = refl }

-- a value has as many cells as its type
pub sizes-fit : SizesFit
sizes-fit ds t v h = lengths-fit _ (0 + length ds) (struct_cells [] ds) (structs-fit ds no_kinds 0 [] none-fit) t.lengths t.base v h
