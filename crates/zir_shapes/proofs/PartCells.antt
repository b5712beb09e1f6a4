-- Lists of values, and their cells.
use Rattle.std.specs.Prelude.{ℕ, ◌+◌, List, [], ◌∷◌, ◌++◌, ◌≡◌, refl, take, drop, slice_set, slice_index_or}
use Rattle.std.proofs.Common.{sym, ap, ◌∙◌, append_assoc}
use Rattle.std.proofs.lemmas.List.{take-append-drop, drop-drop}
use denote.Hole.Carrier.{hidden}
use Rattle.zir_tree.specs.declared.value.Val.{Val, Unit as UnitVal, List as Vals}
use Rattle.zir_tree.specs.declared.value.Val.TheBlock.{shape-the_row-Val-0, hidden-the_row-Val-0}
use Rattle.zir_cells.specs.Cells.{cells_of, row_cells}
use Rattle.zir_meaning.specs.Values.{row_values, parts}
use Rattle.zir_meaning.specs.Operators.{part_of, with_part}
use Rattle.zir_shapes.specs.Offsets.{list_cells}
use Rattle.zir_shapes.specs.Laws.{ListsStand}

-- the cells of a row are those of its values
row-cells : (vs : List Val) → row_cells (hidden-the_row-Val-0 vs) ≡ list_cells vs
unfolding shape-the_row-Val-0 hidden-the_row-Val-0 hidden
row-cells [] = refl
row-cells (v ∷ vs) = ap (λ zs. cells_of v ++ zs) (row-cells vs)

-- the values of a row
values-row : (vs : List Val) → row_values (hidden-the_row-Val-0 vs) ≡ vs
unfolding shape-the_row-Val-0 hidden-the_row-Val-0 hidden
values-row [] = refl
values-row (v ∷ vs) = ap (λ ws. v ∷ ws) (values-row vs)

-- the cells of a list of values are theirs
pub cells-list : ListsStand
unfolding shape-the_row-Val-0 hidden-the_row-Val-0 hidden
cells-list vs = row-cells vs

-- the parts of a list of values are they
pub parts-list : (vs : List Val) → parts (Vals vs) ≡ vs
unfolding shape-the_row-Val-0 hidden-the_row-Val-0 hidden
parts-list vs = values-row vs

-- one part of a list of values
pub part-list : (k : ℕ) (vs : List Val) → part_of k (Vals vs) ≡ slice_index_or vs k UnitVal
unfolding shape-the_row-Val-0 hidden-the_row-Val-0 hidden
part-list k vs = ap (λ ws. slice_index_or ws k UnitVal) (values-row vs)

-- a list of values with another part
pub with-part-list : (k : ℕ) (new : Val) (vs : List Val) → with_part k new (Vals vs) ≡ Vals (slice_set vs k new)
unfolding shape-the_row-Val-0 hidden-the_row-Val-0 hidden
with-part-list k new vs = ap (λ ws. Vals (slice_set ws k new)) (values-row vs)

-- the cells of values behind others
pub cells-append : (vs ws : List Val) → list_cells (vs ++ ws) ≡ list_cells vs ++ list_cells ws
cells-append [] ws = refl
cells-append (v ∷ vs) ws = ap (λ zs. cells_of v ++ zs) (cells-append vs ws) ∙ sym (append_assoc (cells_of v) (list_cells vs) (list_cells ws))

-- the cells of values between others
pub cells-between : (us vs ws : List Val) → list_cells (us ++ (vs ++ ws)) ≡ list_cells us ++ (list_cells vs ++ list_cells ws)
cells-between us vs ws = cells-append us (vs ++ ws) ∙ ap (λ zs. list_cells us ++ zs) (cells-append vs ws)

-- values are those before a place, so many from there on, and the others
pub three-parts : (i k : ℕ) (vs : List Val) → vs ≡ take i vs ++ (take k (drop i vs) ++ drop (i + k) vs)
three-parts i k vs =
    sym (take-append-drop i vs)
    ∙ ap (λ ws. take i vs ++ ws) (sym (take-append-drop k (drop i vs)) ∙ ap (λ ws. take k (drop i vs) ++ ws) (drop-drop k i vs))
