-- Cells of types, whichever way their lengths stand.
use Rattle.std.specs.Prelude.{ℕ, ◌+◌, ◌*◌, List, [], ◌∷◌, ◌++◌, fold, sum_by, reverse, ◌≡◌, refl}
use Rattle.std.proofs.Common.{ap, ◌∙◌, arith}
use Rattle.std.proofs.lemmas.Grind.{reverse_onto}
use Rattle.zir_tree.specs.declared.types.FieldDef.{FieldDef}
use Rattle.zir_tree.specs.declared.types.Ty.{Ty}
use Rattle.zir_cells.specs.Layout.{capped, parts_in, base_cells, cells_in}

parts_together : (ns ms : List ℕ) → parts_in (ns ++ ms) ≡ parts_in ns * parts_in ms
parts_together [] ms = grind arith
parts_together (n ∷ ns) ms = ap (λ k. n * k) (parts_together ns ms) ∙ moved n (parts_in ns) (parts_in ms) where
  moved : (a b c : ℕ) → a * (b * c) ≡ a * b * c
  moved a b c = grind arith

-- as many parts the other way round
pub parts_reversed : (ns : List ℕ) → parts_in (reverse ns) ≡ parts_in ns
parts_reversed [] = refl
parts_reversed (n ∷ ns) =
    ap parts_in (reverse_onto ns n []) ∙ parts_together (reverse ns) (n ∷ []) ∙ ap (λ k. k * (n * 1)) (parts_reversed ns) ∙ turned n (parts_in ns) where
      turned : (a b : ℕ) → b * (a * 1) ≡ a * b
      turned a b = grind arith

folded : (f g : FieldDef → ℕ) → ((x : FieldDef) → capped (f x) ≡ capped (g x)) → (fs : List FieldDef) (a b : ℕ) → capped a ≡ capped b →
    capped (fold (λ n x. n + f x) a fs) ≡ capped (fold (λ n x. n + g x) b fs)
folded f g h [] a b e = e
folded f g h (x ∷ fs) a b e = folded f g h fs (a + f x) (b + g x) (let q : capped (f x) ≡ capped (g x) = h x in omega arith)

-- sums of numbers that are the same when capped
pub sums_capped : (f g : FieldDef → ℕ) (fs : List FieldDef) → ((x : FieldDef) → capped (f x) ≡ capped (g x)) → capped (sum_by f fs) ≡ capped (sum_by g fs)
sums_capped f g fs h = folded f g h fs 0 0 refl

-- a type has as many cells the other way round
pub cells_reversed : (cells : List ℕ) (ty : Ty) → cells_in cells (record { lengths = reverse ty.lengths; base = ty.base }) ≡ cells_in cells ty
cells_reversed cells ty = ap (λ n. n * base_cells cells ty.base) (parts_reversed ty.lengths)
