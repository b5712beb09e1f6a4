-- The parts of complex numbers.
use Rattle.std.specs.Prelude.{ℕ, zero, suc, true, [], ◌∷◌, ◌++◌, ◌≡◌, refl}
use Rattle.std.proofs.Common.{ap, ◌∙◌, true≢false, sym}
use Rattle.zir_tree.specs.declared.value.Val.{Val, Num, Pair}
use Rattle.zir_tree.specs.declared.types.Base.{Base}
use Rattle.zir_tree.specs.declared.types.Base.TheVariants.{Unit as UnitTy, Bit as BitTy, Bool as BoolTy, Int8, Int16, Int32, Int64, Complex16, Complex32, Struct as StructTy}
use Rattle.zir_cells.specs.Cells.{cells_of}
use Rattle.zir_meaning.specs.Values.{Kinds}
use Rattle.zir_meaning.specs.Operators.{complex_part, part_of, with_part}
use Rattle.zir_shapes.specs.Shapes.{IsNumber, IsPair, BaseShape, shapes_of}
use Rattle.zir_shapes.specs.Offsets.{is_whole, overlaid}
use Rattle.zir_shapes.specs.Laws.{ComplexPartsStand, ComplexPartsReplaced}

-- a number has the shape of every type of whole numbers
whole-shape : (kinds : Kinds) (b : Base) (v : Val) → is_whole b ≡ true → IsNumber v → BaseShape kinds b v
whole-shape kinds UnitTy v e h = absurd (true≢false (sym e))
whole-shape kinds BitTy v e h = absurd (true≢false (sym e))
whole-shape kinds BoolTy v e h = absurd (true≢false (sym e))
whole-shape kinds Int8 v e h = h
whole-shape kinds Int16 v e h = h
whole-shape kinds Int32 v e h = h
whole-shape kinds Int64 v e h = h
whole-shape kinds Complex16 v e h = absurd (true≢false (sym e))
whole-shape kinds Complex32 v e h = absurd (true≢false (sym e))
whole-shape kinds (StructTy k) v e h = absurd (true≢false (sym e))

part-number : (k : ℕ) (v : Val) (h : IsPair v) → part_of k v ≡ Num (complex_part k h.0 h.1)
part-number k v h = ap (part_of k) h.2

pub complex-parts-stand : ComplexPartsStand
complex-parts-stand ds b zero v e h = record {
  shape = whole-shape (shapes_of ds) b (part_of 0 v) e (h.0, part-number 0 v h);
  before = [];
  after = h.1 ∷ [];
  split = ap cells_of h.2 ∙ ap (λ w. cells_of w ++ h.1 ∷ []) (sym (part-number 0 v h));
  place = refl;
}
complex-parts-stand ds b (suc k) v e h = record {
  shape = whole-shape (shapes_of ds) b (part_of (suc k) v) e (h.1, part-number (suc k) v h);
  before = h.0 ∷ [];
  after = [];
  split = ap cells_of h.2 ∙ ap (λ w. h.0 ∷ (cells_of w ++ [])) (sym (part-number (suc k) v h));
  place = refl;
}

pub complex-parts-replaced : ComplexPartsReplaced
complex-parts-replaced zero old new h g =
    let e : with_part 0 new old ≡ Pair g.0 h.1 = ap (with_part 0 new) h.2 ∙ ap (λ w. with_part 0 w (Pair h.0 h.1)) g.1 in
    ((g.0, h.1, e), ap cells_of e ∙ ap (λ zs. overlaid zs 0 (g.0 ∷ [])) (sym (ap cells_of h.2)) ∙ ap (λ w. overlaid (cells_of old) 0 (cells_of w)) (sym g.1))
complex-parts-replaced (suc k) old new h g =
    let e : with_part (suc k) new old ≡ Pair h.0 g.0 =
    ap (with_part (suc k) new) h.2 ∙ ap (λ w. with_part (suc k) w (Pair h.0 h.1)) g.1 in
    ((h.0, g.0, e), ap cells_of e ∙ ap (λ zs. overlaid zs 1 (g.0 ∷ [])) (sym (ap cells_of h.2)) ∙ ap (λ w. overlaid (cells_of old) 1 (cells_of w)) (sym g.1))
