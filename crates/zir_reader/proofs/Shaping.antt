-- The elements of bytes have the shape of their type.
use Rattle.std.proofs.Common.{ℕ, zero, suc, ◌+◌, ◌*◌, ◌/◌, ◌<◌, ◌≤◌, ◌≡◌, ℤ, List, [], ◌∷◌, length, length-drop, take, drop, refl, ap, sym, ◌∙◌, arith}
use Rattle.std.proofs.Math.Nat.{div-mul-le_self, mul_assoc, mul-div_cancel_left}
use Rattle.std.proofs.lemmas.List.{length-map, length-take-le}
use Rattle.std.specs.Prelude.{map, sum_by}
use Rattle.zir_tree.specs.declared.format.Format.TheVariants.{Binary, Text}
use Rattle.zir_tree.specs.declared.types.Base.{Base}
use Rattle.zir_tree.specs.declared.types.Base.TheVariants.{Unit as UnitTy, Bit, Bool as BoolTy, Int8, Int16, Int32, Int64, Complex16, Complex32, Struct}
use Rattle.zir_tree.specs.declared.types.Ty.{Ty}
use Rattle.zir_tree.specs.declared.types.StructDef.{StructDef}
use Rattle.zir_tree.specs.declared.value.Val.{Val}
use Rattle.zir_cells.specs.Layout.{base_cells, parts_in}
use Rattle.zir_meaning.specs.Items.{Item, pieces, width}
use Rattle.zir_meaning.specs.Elements.{array_of, element_values, gathered, is_one, numbers_in, placed, value_of}
use Rattle.zir_meaning.specs.Samples.{bit_items, bits_of}
use Rattle.zir_meaning.specs.Texts.{text_items}
use Rattle.zir_meaning.specs.Values.{Each, Kinds}
use Rattle.zir_samples.specs.Finding.{IsStreamType}
use Rattle.zir_samples.proofs.Elements.{length-pieces}
use Rattle.zir_shapes.specs.Shapes.{BaseShape, LengthsShape, Shaped, shapes_of}
use Rattle.zir_reader.specs.Laws.{ElementsHaveTheirType}

-- numbers make a value that is no array
base-shape : (kinds : Kinds) (base : Base) (zs : List ℤ) → 0 < width base → length zs ≡ base_cells [] base → BaseShape kinds base (value_of base zs)
base-shape kinds UnitTy zs h size = absurd (omega arith)
base-shape kinds BoolTy zs h size = absurd (omega arith)
base-shape kinds (Struct k) zs h size = absurd (omega arith)
base-shape kinds Bit [] h size = absurd (omega (arith, size))
base-shape kinds Int8 [] h size = absurd (omega (arith, size))
base-shape kinds Int16 [] h size = absurd (omega (arith, size))
base-shape kinds Int32 [] h size = absurd (omega (arith, size))
base-shape kinds Int64 [] h size = absurd (omega (arith, size))
base-shape kinds Complex16 [] h size = absurd (omega (arith, size))
base-shape kinds Complex32 [] h size = absurd (omega (arith, size))
base-shape kinds Bit (z ∷ zs) h size = (is_one z, refl)
base-shape kinds Int8 (z ∷ zs) h size = (z, refl)
base-shape kinds Int16 (z ∷ zs) h size = (z, refl)
base-shape kinds Int32 (z ∷ zs) h size = (z, refl)
base-shape kinds Int64 (z ∷ zs) h size = (z, refl)
base-shape kinds Complex16 (z ∷ []) h size = absurd (omega (arith, size))
base-shape kinds Complex32 (z ∷ []) h size = absurd (omega (arith, size))
base-shape kinds Complex16 (re ∷ im ∷ zs) h size = (re, im, refl)
base-shape kinds Complex32 (re ∷ im ∷ zs) h size = (re, im, refl)

-- what holds of the value of each piece holds of all
each-piece : (P : Val → Type 0) (f : List ℤ → Val) (n m : ℕ) (zs : List ℤ) → ((ps : List ℤ) → length ps ≡ m → P (f ps)) → length zs ≡ n * m → Each P (map f (pieces n m zs))
each-piece P f zero m zs each size = tt
each-piece P f (suc n) m zs each size = (each (take m zs) (length-take-le m zs (omega (arith, size))), each-piece P f n m (drop m zs) each (omega (arith, length-drop m zs, size)))

-- numbers make an array of their arrays
lengths-shape : (kinds : Kinds) (lengths : List ℕ) (base : Base) (zs : List ℤ) → 0 < width base → length zs ≡ parts_in lengths * base_cells [] base → LengthsShape kinds lengths base (array_of lengths base zs)
lengths-shape kinds [] base zs h size = base-shape kinds base zs h (omega (arith, size))
lengths-shape kinds (zero ∷ lengths) base zs h size = (map (array_of lengths base) (pieces zero (length zs / zero) zs), refl, refl, tt)
lengths-shape kinds (suc n ∷ lengths) base zs h size =
    let part = parts_in lengths * base_cells [] base in
    let whole : length zs ≡ suc n * part = size ∙ mul_assoc (suc n) (parts_in lengths) (base_cells [] base) in
    let each : length zs / suc n ≡ part = ap (λ k. k / suc n) whole ∙ mul-div_cancel_left part (omega arith) in
    let cut = pieces (suc n) (length zs / suc n) zs in (
      map (array_of lengths base) cut,
      refl,
      length-map cut (array_of lengths base) ∙ length-pieces (suc n) (length zs / suc n) zs,
      each-piece (LengthsShape kinds lengths base) (array_of lengths base) (suc n) (length zs / suc n) zs (λ ps fit. lengths-shape kinds lengths base ps h (fit ∙ each)) (whole ∙ ap (λ k. suc n * k) (sym each)),
    )

-- enough items make elements of their type
each-placed : (ds : List StructDef) (ty : Ty) (count at : ℕ) (items : List Item) → IsStreamType ty → count * numbers_in ty ≤ length items → Each (Shaped ds ty) (element_values (placed ty at (pieces count (numbers_in ty) items)))
each-placed ds ty zero at items ok h = tt
each-placed ds ty (suc count) at items ok h =
    let size = numbers_in ty in
    let front = take size items in
    let long = length-map front (λ (i : Item). i.number) ∙ length-take-le size items (omega (arith, h)) in (
      lengths-shape (shapes_of ds) ty.lengths ty.base (map (λ item. item.number) front) ok.numbers long,
      each-placed ds ty count (at + sum_by (λ item. item.size) front) (drop size items) ok (omega (arith, h, length-drop size items)),
    )

-- gathered items are elements of their type
each-gathered : (ds : List StructDef) (ty : Ty) (items : List Item) → IsStreamType ty → Each (Shaped ds ty) (element_values (gathered ty items))
each-gathered ds ty items ok = each-placed ds ty (length items / numbers_in ty) 0 items ok (div-mul-le_self (length items) (numbers_in ty))

-- so are those of bytes in both formats
pub elements-have-their-type : ElementsHaveTheirType
elements-have-their-type ds Binary ty bytes closed ok = each-gathered ds ty (bit_items ty.base (bits_of bytes)) ok
elements-have-their-type ds Text ty bytes closed ok = each-gathered ds ty (text_items ty.base closed bytes) ok
