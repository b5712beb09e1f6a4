-- Elements and slices of arrays.
use Rattle.std.specs.Prelude.{ℕ, zero, suc, ◌+◌, ◌*◌, ◌<◌, ◌≤◌, pos, List, [], ◌∷◌, ◌++◌, ◌≡◌, refl, take, drop, length, Some, slice_get, slice_set}
use Rattle.std.proofs.Common.{sym, ap, ◌∙◌, arith, append_assoc, le-leb}
use Rattle.std.proofs.lemmas.Bool.{lt-leb}
use Rattle.std.proofs.lemmas.Option.{slice_get_past}
use Rattle.std.proofs.lemmas.List.{length-append, length-take-le, length-drop, length-set}
use Rattle.zir_tree.specs.declared.value.Val.{Val, List as Vals}
use Rattle.zir_tree.specs.declared.types.Ty.{Ty}
use Rattle.zir_tree.specs.declared.types.StructDef.{StructDef}
use Rattle.zir_cells.specs.Cells.{cells_of}
use Rattle.zir_cells.specs.Layout.{layout_of}
use Rattle.zir_meaning.specs.Values.{parts, Each}
use Rattle.zir_meaning.specs.Evaluation.{element, range, range_if}
use Rattle.zir_meaning.specs.Statements.{overwritten}
use Rattle.zir_shapes.specs.Shapes.{Shaped}
use Rattle.zir_shapes.specs.Offsets.{overlaid, list_cells}
use Rattle.zir_shapes.specs.Laws.{ElementsStand, ElementsEnd, RangesStand, RangesEnd, ArraysHave, ElementsReplaced, RangesReplaced}
use Rattle.zir_shapes.proofs.Overlaying.{overlaid-at}
use Rattle.zir_shapes.proofs.PartCells.{cells-list, parts-list, cells-between, three-parts}
use Rattle.zir_shapes.proofs.Fitting.{each-size, sizes-fit}

each-take : (P : Val → Type 0) (i : ℕ) (vs : List Val) → Each P vs → Each P (take i vs)
each-take P zero vs h = tt
each-take P (suc i) [] h = tt
each-take P (suc i) (v ∷ vs) h = (h.0, each-take P i vs h.1)

each-drop : (P : Val → Type 0) (i : ℕ) (vs : List Val) → Each P vs → Each P (drop i vs)
each-drop P zero vs h = h
each-drop P (suc i) [] h = tt
each-drop P (suc i) (v ∷ vs) h = each-drop P i vs h.1

each-append : (P : Val → Type 0) (vs ws : List Val) → Each P vs → Each P ws → Each P (vs ++ ws)
each-append P [] ws h g = g
each-append P (v ∷ vs) ws h g = (h.0, each-append P vs ws h.1 g)

each-set : (P : Val → Type 0) (vs : List Val) (i : ℕ) (new : Val) → Each P vs → P new → Each P (slice_set vs i new)
each-set P [] i new h g = tt
each-set P (v ∷ vs) zero new h g = (g, h.1)
each-set P (v ∷ vs) (suc i) new h g = (h.0, each-set P vs i new h.1 g)

-- the value at a place, and its cells between those of the others
record At (P : Val → Type 0) (vs : List Val) (i : ℕ) : Type 0 where
  pub value : Val
  pub is : slice_get vs i ≡ Some value
  pub holds : P value
  pub split : list_cells vs ≡ list_cells (take i vs) ++ (cells_of value ++ list_cells (drop (suc i) vs))

at : (P : Val → Type 0) (vs : List Val) (i : ℕ) → Each P vs → i < length vs → At P vs i
at P [] i h lt = absurd (omega arith)
at P (v ∷ vs) zero h lt = record { value = v; is = refl; holds = h.0; split = refl }
at P (v ∷ vs) (suc i) h lt =
    let a : At P vs i = at P vs i h.1 (omega arith) in
    record {
      value = a.value;
      is = a.is;
      holds = a.holds;
      split =
          ap (λ zs. cells_of v ++ zs) a.split
          ∙ sym (append_assoc (cells_of v) (list_cells (take i vs)) (cells_of a.value ++ list_cells (drop (suc i) vs)));
    }

-- the cells with another value at a place
pub cells-set : (vs : List Val) (i : ℕ) (new : Val) → i < length vs →
    list_cells (slice_set vs i new) ≡ list_cells (take i vs) ++ (cells_of new ++ list_cells (drop (suc i) vs))
cells-set [] i new lt = absurd (omega arith)
cells-set (v ∷ vs) zero new lt = refl
cells-set (v ∷ vs) (suc i) new lt =
    ap (λ zs. cells_of v ++ zs) (cells-set vs i new (omega arith))
    ∙ sym (append_assoc (cells_of v) (list_cells (take i vs)) (cells_of new ++ list_cells (drop (suc i) vs)))

-- the cells of the first elements
front-size : (ds : List StructDef) (t : Ty) (vs : List Val) (i : ℕ) → Each (Shaped ds t) vs → i ≤ length vs →
    length (list_cells (take i vs)) ≡ i * layout_of ds t
front-size ds t vs i h le =
    each-size (Shaped ds t) (layout_of ds t) (sizes-fit ds t) (take i vs) (each-take (Shaped ds t) i vs h)
    ∙ ap (λ m. m * layout_of ds t) (length-take-le i vs le)

pub elements-stand : ElementsStand
elements-stand ds n t v i h lt =
    let a : At (Shaped ds t) h.0 i = at (Shaped ds t) h.0 i h.3 (omega (arith, h.2)) in
    record {
      value = a.value;
      is = ap (λ w. element (parts w) (pos i)) h.1 ∙ ap (λ ws. slice_get ws i) (parts-list h.0) ∙ a.is;
      stands = record {
        shape = a.holds;
        before = list_cells (take i h.0);
        after = list_cells (drop (suc i) h.0);
        split = ap cells_of h.1 ∙ cells-list h.0 ∙ a.split;
        place = front-size ds t h.0 i h.3 (omega (arith, h.2));
      };
    }

pub elements-end : ElementsEnd
elements-end ds n t v i h le =
    ap (λ w. element (parts w) (pos i)) h.1 ∙ ap (λ ws. slice_get ws i) (parts-list h.0) ∙ slice_get_past h.0 i (omega (arith, h.2))

-- as many elements from a place on
length-slice : (i k : ℕ) (vs : List Val) → i + k ≤ length vs → length (take k (drop i vs)) ≡ k
length-slice i k vs le = length-take-le k (drop i vs) (omega (arith, length-drop i vs))

pub ranges-stand : RangesStand
ranges-stand ds n t v i k h le =
    let within : i + k ≤ length h.0 = omega (arith, h.2) in
    let ws : List Val = take k (drop i h.0) in
    record {
      value = Vals ws;
      is =
          ap (λ w. range (parts w) (pos i) k) h.1
          ∙ ap (λ ws. range ws (pos i) k) (parts-list h.0)
          ∙ ap (λ b. range_if b i k h.0) (le-leb (i + k) (length h.0) within);
      stands = record {
        shape = (ws, refl, length-slice i k h.0 within, each-take (Shaped ds t) k (drop i h.0) (each-drop (Shaped ds t) i h.0 h.3));
        before = list_cells (take i h.0);
        after = list_cells (drop (i + k) h.0);
        split =
            ap cells_of h.1 ∙ cells-list h.0 ∙ ap list_cells (three-parts i k h.0)
            ∙ cells-between (take i h.0) ws (drop (i + k) h.0)
            ∙ ap (λ zs. list_cells (take i h.0) ++ (zs ++ list_cells (drop (i + k) h.0))) (sym (cells-list ws));
        place = front-size ds t h.0 i h.3 (omega arith);
      };
    }

pub ranges-end : RangesEnd
ranges-end ds n t v i k h lt =
    ap (λ w. range (parts w) (pos i) k) h.1
    ∙ ap (λ ws. range ws (pos i) k) (parts-list h.0)
    ∙ ap (λ b. range_if b i k h.0) (lt-leb (i + k) (length h.0) (omega (arith, h.2)))

pub arrays-have : ArraysHave
arrays-have ds t vs h = (vs, refl, refl, h)

pub elements-replaced : ElementsReplaced
elements-replaced ds n t old new i h lt g =
    let within : i < length h.0 = omega (arith, h.2) in
    let a : At (Shaped ds t) h.0 i = at (Shaped ds t) h.0 i h.3 within in
    let e : parts old ≡ h.0 = ap parts h.1 ∙ parts-list h.0 in
    record {
      shape = (
        slice_set h.0 i new,
        ap (λ ws. Vals (slice_set ws i new)) e,
        length-set h.0 i new ∙ h.2,
        each-set (Shaped ds t) h.0 i new h.3 g,
      );
      cells =
          ap (λ ws. cells_of (Vals (slice_set ws i new))) e
          ∙ cells-list (slice_set h.0 i new)
          ∙ cells-set h.0 i new within
          ∙ overlaid-at (cells_of old) (list_cells (take i h.0)) (cells_of a.value) (list_cells (drop (suc i) h.0)) (cells_of new)
          (i * layout_of ds t) (ap cells_of h.1 ∙ cells-list h.0 ∙ a.split) (front-size ds t h.0 i h.3 (omega arith))
          (sizes-fit ds t new g ∙ sym (sizes-fit ds t a.value a.holds));
    }

pub ranges-replaced : RangesReplaced
ranges-replaced ds n t old new i k h le g =
    let size : ℕ = layout_of ds t in
    let within : i + k ≤ length h.0 = omega (arith, h.2) in
    let fits : i + length g.0 ≤ length h.0 = omega (arith, h.2, g.2) in
    let mid : List Val = take (length g.0) (drop i h.0) in
    let back : List Val = drop (i + length g.0) h.0 in
    let each-mid : Each (Shaped ds t) mid = each-take (Shaped ds t) (length g.0) (drop i h.0) (each-drop (Shaped ds t) i h.0 h.3) in
    let old-parts : parts old ≡ h.0 = ap parts h.1 ∙ parts-list h.0 in
    let new-parts : parts new ≡ g.0 = ap parts g.1 ∙ parts-list g.0 in
    let new-cells : list_cells g.0 ≡ cells_of new = sym (ap cells_of g.1 ∙ cells-list g.0) in
    let all : List Val = take i h.0 ++ (g.0 ++ back) in
    let e : Vals (overwritten i (parts new) (parts old)) ≡ Vals all =
    ap (λ ws. Vals (overwritten i ws (parts old))) new-parts
    ∙ ap (λ ws. Vals (overwritten i g.0 ws)) old-parts
    ∙ ap Vals (append_assoc (take i h.0) g.0 back) in
    record {
      shape = (
        all,
        e,
        omega (
          arith,
          h.2,
          g.2,
          length-append (take i h.0) (g.0 ++ back),
          length-append g.0 back,
          length-drop (i + length g.0) h.0,
          length-take-le i h.0 (omega arith),
        ),
        each-append (Shaped ds t) (take i h.0) (g.0 ++ back) (each-take (Shaped ds t) i h.0 h.3)
            (each-append (Shaped ds t) g.0 back g.3 (each-drop (Shaped ds t) (i + length g.0) h.0 h.3)),
      );
      cells =
          ap cells_of e
          ∙ cells-list all
          ∙ cells-between (take i h.0) g.0 back
          ∙ overlaid-at (cells_of old) (list_cells (take i h.0)) (list_cells mid) (list_cells back) (list_cells g.0) (i * size)
          (ap cells_of h.1 ∙ cells-list h.0 ∙ ap list_cells (three-parts i (length g.0) h.0) ∙ cells-between (take i h.0) mid back)
          (front-size ds t h.0 i h.3 (omega arith))
          (each-size (Shaped ds t) size (sizes-fit ds t) g.0 g.3
          ∙ ap (λ m. m * size) (sym (length-slice i (length g.0) h.0 fits))
          ∙ sym (each-size (Shaped ds t) size (sizes-fit ds t) mid each-mid))
          ∙ ap (λ zs. overlaid (cells_of old) (i * size) zs) new-cells;
    }
