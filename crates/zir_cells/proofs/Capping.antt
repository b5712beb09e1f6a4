-- Counts that 64 bits hold, or their greatest number, add and multiply as the counts themselves do.
use Rattle.std.specs.Prelude.{ℕ, zero, suc, ◌+◌, ◌-◌, ◌*◌, ◌^◌, ◌<◌, ◌≤◌, min, ◌≡◌, List, [], ◌∷◌, ◌++◌, take, slice_index, fold, sum_by, map, ◌⊎◌, refl}
use Rattle.std.proofs.Common.{ap, ◌∙◌, sym, arith, length, get_or, drop, drop-cons, add-one}
use Rattle.std.proofs.Common.{inl, inr}
use Rattle.std.proofs.lemmas.List.{map-append, drop_all, take_more}
use Rattle.std.proofs.lemmas.Bool.{cases_lt}
use Rattle.std.proofs.Math.Nat.{mul_comm}
use Rattle.zir_tree.specs.declared.types.Base.{Base}
use Rattle.zir_tree.specs.declared.types.Base.TheVariants.{Unit, Bit, Bool, Int8, Int16, Int32, Int64, Complex16, Complex32, Struct}
use Rattle.zir_tree.specs.declared.types.Ty.{Ty}
use Rattle.zir_tree.specs.declared.types.FieldDef.{FieldDef}
use Rattle.zir_tree.specs.declared.types.StructDef.{StructDef}
use Rattle.zir_cells.specs.Layout.{capped, parts_in, base_cells, cells_in, struct_cells}

capped_sum : (a b c d : ℕ) → capped a ≡ capped b → capped c ≡ capped d → capped (a + c) ≡ capped (b + d)
capped_sum a b c d e f = omega arith

-- a product with a number above the cap is above it
above : (p a : ℕ) → 2 ^ 64 - 1 ≤ a → 2 ^ 64 - 1 ≤ suc p * a
above p a h = grind arith

pub capped_product : (p a b : ℕ) → capped a ≡ capped b → capped (p * a) ≡ capped (p * b)
capped_product zero a b e = grind arith
capped_product (suc p) a b e = by_cases (cases_lt a (2 ^ 64 - 1)) where
  by_cases : ((a < 2 ^ 64 - 1) ⊎ (2 ^ 64 - 1 ≤ a)) → capped (suc p * a) ≡ capped (suc p * b)
  by_cases (inl l) = ap (λ n. capped (suc p * n)) (let same : a ≡ b = omega arith in same)
  by_cases (inr l) = let x = above p a l in let y = above p b (omega arith) in omega arith

-- a product whose sides are capped first
pub product_of_capped : (a b : ℕ) → min (capped a * capped b) (2 ^ 64 - 1) ≡ capped (a * b)
product_of_capped a b =
    capped_product (capped a) (capped b) b (omega arith)
    ∙ ap capped (mul_comm (capped a) b) ∙ capped_product b (capped a) a (omega arith) ∙ ap capped (mul_comm b a)

index_capped : (xs : List ℕ) (k : ℕ) → capped (slice_index xs k) ≡ slice_index (map capped xs) k
index_capped [] k = grind arith
index_capped (x ∷ xs) zero = refl
index_capped (x ∷ xs) (suc k) = index_capped xs k

base_same : (xs ys : List ℕ) (b : Base) → map capped xs ≡ map capped ys → capped (base_cells xs b) ≡ capped (base_cells ys b)
base_same xs ys Unit e = refl
base_same xs ys Bit e = refl
base_same xs ys Bool e = refl
base_same xs ys Int8 e = refl
base_same xs ys Int16 e = refl
base_same xs ys Int32 e = refl
base_same xs ys Int64 e = refl
base_same xs ys Complex16 e = refl
base_same xs ys Complex32 e = refl
base_same xs ys (Struct k) e = index_capped xs k ∙ ap (λ zs. slice_index zs k) e ∙ sym (index_capped ys k)

-- the cells of a type depend on the capped cells of the structs alone
pub cells_same : (xs ys : List ℕ) (t : Ty) → map capped xs ≡ map capped ys → capped (cells_in xs t) ≡ capped (cells_in ys t)
cells_same xs ys t e = capped_product (parts_in t.lengths) (base_cells xs t.base) (base_cells ys t.base) (base_same xs ys t.base e)

fields_same : (xs ys : List ℕ) (fs : List FieldDef) (a b : ℕ) → map capped xs ≡ map capped ys → capped a ≡ capped b → capped (fold (λ n f. n + cells_in xs f.ty) a fs) ≡ capped (fold (λ n f. n + cells_in ys f.ty) b fs)
fields_same xs ys [] a b e h = h
fields_same xs ys (f ∷ fs) a b e h = fields_same xs ys fs (a + cells_in xs f.ty) (b + cells_in ys f.ty) e (capped_sum a b (cells_in xs f.ty) (cells_in ys f.ty) h (cells_same xs ys f.ty e))

capped_more : (xs ys : List ℕ) (a b : ℕ) → map capped xs ≡ map capped ys → capped a ≡ capped b → map capped (xs ++ a ∷ []) ≡ map capped (ys ++ b ∷ [])
capped_more xs ys a b e h = map-append capped xs (a ∷ []) ∙ ap (λ zs. zs ++ capped a ∷ []) e ∙ ap (λ n. map capped ys ++ n ∷ []) h ∙ sym (map-append capped ys (b ∷ []))

-- and so do the cells of the structs behind them
pub structs_same : (ds : List StructDef) (xs ys : List ℕ) → map capped xs ≡ map capped ys → map capped (struct_cells xs ds) ≡ map capped (struct_cells ys ds)
structs_same [] xs ys e = e
structs_same (d ∷ ds) xs ys e = structs_same ds _ _ (capped_more xs ys _ _ e (fields_same xs ys d.fields 0 0 e refl))

-- one more struct, whose cells are counted capped
pub one_more_struct : (xs : List ℕ) (d : StructDef) (ds : List StructDef) (n : ℕ) → n ≡ capped (sum_by (λ f. cells_in xs f.ty) d.fields) → map capped (struct_cells (xs ++ n ∷ []) ds) ≡ map capped (struct_cells xs (d ∷ ds))
one_more_struct xs d ds n e = structs_same ds _ _ (capped_more xs xs n (sum_by (λ f. cells_in xs f.ty) d.fields) refl (omega arith))

-- the same where the structs are those behind i others
pub next_struct : (xs ys : List ℕ) (ds : List StructDef) (i n : ℕ) (d : StructDef) → i < length ds → d ≡ get_or ds i d → n ≡ capped (sum_by (λ f. cells_in xs f.ty) d.fields) → ys ≡ xs ++ n ∷ [] → map capped (struct_cells ys (drop (i + 1) ds)) ≡ map capped (struct_cells xs (drop i ds))
next_struct xs ys ds i n d l e f g =
    rw (g, add-one) (one_more_struct xs d (drop (suc i) ds) n f ∙ ap (λ rest. map capped (struct_cells xs rest)) (ap (λ x. x ∷ drop (suc i) ds) e ∙ sym (drop-cons ds i d l)))

-- the types of a program, counted over the structs behind which there are none
pub all_structs : (xs : List ℕ) (ds : List StructDef) (i : ℕ) → length ds ≤ i → map capped (struct_cells xs (drop i ds)) ≡ map capped (struct_cells [] ds) → (t : Ty) → capped (cells_in xs t) ≡ capped (cells_in (struct_cells [] ds) t)
all_structs xs ds i l e t = cells_same xs (struct_cells [] ds) t (ap (λ rest. map capped (struct_cells xs rest)) (sym (drop_all i ds l)) ∙ e)

-- a length behind the others multiplies their parts
parts_behind : (ns : List ℕ) (n : ℕ) → parts_in (ns ++ n ∷ []) ≡ n * parts_in ns
parts_behind [] n = refl
parts_behind (m ∷ ns) n = ap (λ k. m * k) (parts_behind ns n) ∙ swapped m n (parts_in ns) where
  swapped : (a b c : ℕ) → a * (b * c) ≡ b * (a * c)
  swapped a b c = grind arith

-- the parts of one more length
pub next_parts : (ns : List ℕ) (i all n : ℕ) → i < length ns → n ≡ get_or ns i 0 → all ≡ capped (parts_in (take i ns)) → min (n * all) (2 ^ 64 - 1) ≡ capped (parts_in (take (i + 1) ns))
next_parts ns i all n l e h =
    ap (λ a. capped (n * a)) h ∙ capped_product n (capped (parts_in (take i ns))) (parts_in (take i ns)) (omega arith)
    ∙ ap capped (sym (parts_behind (take i ns) n) ∙ ap (λ k. parts_in (take i ns ++ k ∷ [])) e ∙ ap parts_in (sym (take_more ns i 0 l)))
