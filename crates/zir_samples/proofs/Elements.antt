-- What numbers in a row are as elements, and the cells of these.
use Rattle.std.proofs.Common.{ℕ, zero, suc, ◌+◌, ◌-◌, ◌*◌, ◌/◌, ◌<◌, ◌≤◌, ◌≡◌, ℤ, pos, Bool, true, false, List, [], ◌∷◌, ◌++◌, length, get_or, take, drop, refl, ap, sym, subst, ◌∙◌, ⊎_elim, arith}
use Rattle.std.proofs.Math.Nat.{div-eq_of_lt, mul_assoc, mul-div_cancel_left}
use Rattle.std.proofs.lemmas.Bool.{cases_lt}
use Rattle.std.proofs.lemmas.List.{drop-drop, length-drop, length-map, length-take, length-take-le, get_or-map, same_lists, take-append-drop, take-map, nil_from_length}
use Rattle.std.proofs.lemmas.Nat.{div_below, le-div}
use Rattle.std.specs.Prelude.{map, fold, flat_map, sum_by}
use denote.Hole.Carrier.{hidden}
use Rattle.zir_tree.specs.declared.format.Format.{Format}
use Rattle.zir_tree.specs.declared.format.Format.TheVariants.{Binary}
use Rattle.zir_tree.specs.declared.types.Base.{Base}
use Rattle.zir_tree.specs.declared.types.Base.TheVariants.{Unit as UnitTy, Bit, Bool as BoolTy, Int8, Int16, Int32, Int64, Complex16, Complex32, Struct}
use Rattle.zir_tree.specs.declared.types.Ty.{Ty}
use Rattle.zir_tree.specs.declared.value.Val.{Val, List as ListVal}
use Rattle.zir_tree.specs.declared.value.Val.TheBlock.{shape-the_row-Val-0, hidden-the_row-Val-0}
use Rattle.zir_cells.specs.Cells.{cell_of, cells_of, row_cells}
use Rattle.zir_cells.specs.Layout.{base_cells, parts_in}
use Rattle.zir_meaning.specs.Items.{Item, pieces, width}
use Rattle.zir_meaning.specs.Samples.{bit_items, number_at, number_of}
use Rattle.zir_meaning.specs.Elements.{array_of, bit_elements, Element, gathered, is_one, numbers_in, placed, sound_tail, Tail, value_of}
use Rattle.zir_samples.specs.declared.finding.Found.{Found}
use Rattle.zir_samples.specs.declared.finding.Found.TheVariants.{Element as FoundElement}
use Rattle.zir_samples.specs.Finding.{answer_at, Finds, FindsBits, FindsFirst, in_bits, IsStreamType, short_answer}

-- so many pieces
pub length-pieces : {T : Type 0} (n w : ℕ) (xs : List T) → length (pieces n w xs) ≡ n
length-pieces zero w xs = refl
length-pieces (suc n) w xs = ap (λ k. suc k) (length-pieces n w (drop w xs))

-- the piece at a place
pub get_or-pieces : {T : Type 0} (n w i : ℕ) (xs d : List T) → i < n → get_or (pieces n w xs) i d ≡ take w (drop (i * w) xs)
get_or-pieces zero w i xs d h = absurd (omega arith)
get_or-pieces (suc n) w zero xs d h = ap (λ k. take w (drop k xs)) (let e : 0 ≡ 0 * w = omega arith in e)
get_or-pieces (suc n) w (suc i) xs d h =
    get_or-pieces n w i (drop w xs) d (omega arith)
    ∙ ap (take w) (drop-drop (i * w) w xs ∙ ap (λ k. drop k xs) (let e : w + i * w ≡ suc i * w = omega arith in e))

-- numbers that are those of the pieces place by place are those of all pieces
pub map-pieces : {T X : Type 0} (f : List T → X) (n w : ℕ) (xs : List T) (ys : List X) → length ys ≡ n → ((k : ℕ) (d : X) → k < n → get_or ys k d ≡ f (take w (drop (k * w) xs))) → ys ≡ map f (pieces n w xs)
map-pieces f n w xs ys size at =
    same_lists ys (map f (pieces n w xs)) (size ∙ sym (length-map (pieces n w xs) f ∙ length-pieces n w xs))
    (λ k d h.
    let within : k < n = omega (arith, size) in
    let inside : k < length (pieces n w xs) = omega (arith, length-pieces n w xs, within) in
    at k d within ∙ ap f (sym (get_or-pieces n w k xs [] within)) ∙ sym (get_or-map f (pieces n w xs) k [] d inside))

-- the first pieces
take-pieces : {T : Type 0} (n m w : ℕ) (xs : List T) → n ≤ m → take n (pieces m w xs) ≡ pieces n w xs
take-pieces zero m w xs h = refl
take-pieces (suc n) zero w xs h = absurd (omega arith)
take-pieces (suc n) (suc m) w xs h = ap (λ ps. take w xs ∷ ps) (take-pieces n m w (drop w xs) (omega arith))

-- what holds of a number that is a cell of a value of the type: a bit is 0 or 1
abbrev pub IsCell : Base → ℤ → Type 0
IsCell Bit z = cell_of (is_one z) ≡ z
IsCell base z = Unit {0}

-- each of the numbers is a cell of the type
abbrev pub AreCells : Base → List ℤ → Type 0
AreCells base [] = Unit {0}
AreCells base (z ∷ zs) = IsCell base z × AreCells base zs

-- so are the first of them
pub cells-take : (k : ℕ) (base : Base) (zs : List ℤ) → AreCells base zs → AreCells base (take k zs)
cells-take zero base zs h = tt
cells-take (suc k) base [] h = tt
cells-take (suc k) base (z ∷ zs) h = (h.0, cells-take k base zs h.1)

-- and those behind the first
cells-drop : (k : ℕ) (base : Base) (zs : List ℤ) → AreCells base zs → AreCells base (drop k zs)
cells-drop zero base zs h = h
cells-drop (suc k) base [] h = tt
cells-drop (suc k) base (z ∷ zs) h = cells-drop k base zs h.1

-- the cells of a list of values are those of each
list-cells : (vs : List Val) → row_cells (hidden-the_row-Val-0 vs) ≡ flat_map cells_of vs
unfolding shape-the_row-Val-0 hidden-the_row-Val-0 hidden
list-cells [] = refl
list-cells (v ∷ vs) = ap (λ zs. cells_of v ++ zs) (list-cells vs)

-- the cells of an array are those of its elements
array-cells : (vs : List Val) → cells_of (ListVal vs) ≡ flat_map cells_of vs
unfolding shape-the_row-Val-0 hidden-the_row-Val-0 hidden
array-cells vs = list-cells vs

-- where the cells of each piece's value are the piece, those of all are all numbers
pieces-cells : (base : Base) (f : List ℤ → Val) (n m : ℕ) (zs : List ℤ) → ((ps : List ℤ) → length ps ≡ m → AreCells base ps → cells_of (f ps) ≡ ps) → length zs ≡ n * m → AreCells base zs → flat_map cells_of (map f (pieces n m zs)) ≡ zs
pieces-cells base f zero m zs each size all = sym (nil_from_length zs (omega arith))
pieces-cells base f (suc n) m zs each size all =
    let first : length (take m zs) ≡ m = omega (arith, length-take m zs, size) in
    let others : length (drop m zs) ≡ n * m = omega (arith, length-drop m zs, size) in
    ap (λ front. front ++ flat_map cells_of (map f (pieces n m (drop m zs)))) (each (take m zs) first (cells-take m base zs all))
    ∙ ap (λ back. take m zs ++ back) (pieces-cells base f n m (drop m zs) each others (cells-drop m base zs all))
    ∙ take-append-drop m zs

-- a value that is no array has its number as its cell, or both its numbers
value-cells : (base : Base) (zs : List ℤ) → 0 < width base → length zs ≡ base_cells [] base → AreCells base zs → cells_of (value_of base zs) ≡ zs
value-cells UnitTy zs h size all = absurd (omega arith)
value-cells BoolTy zs h size all = absurd (omega arith)
value-cells (Struct k) zs h size all = absurd (omega arith)
value-cells base [] h size all = refl
value-cells Bit (z ∷ []) h size all = ap (λ z. z ∷ []) all.0
value-cells Int8 (z ∷ []) h size all = refl
value-cells Int16 (z ∷ []) h size all = refl
value-cells Int32 (z ∷ []) h size all = refl
value-cells Int64 (z ∷ []) h size all = refl
value-cells Complex16 (re ∷ im ∷ []) h size all = refl
value-cells Complex32 (re ∷ im ∷ []) h size all = refl
value-cells base (z ∷ zs) h size all = absurd (omega (arith, size))

-- the value of an array has its numbers as its cells
pub cells-array : (lengths : List ℕ) (base : Base) (zs : List ℤ) → 0 < width base → length zs ≡ parts_in lengths * base_cells [] base → AreCells base zs → cells_of (array_of lengths base zs) ≡ zs
cells-array [] base zs h size all = value-cells base zs h (omega (arith, size)) all
cells-array (zero ∷ lengths) base zs h size all = array-cells (map (array_of lengths base) (pieces zero (length zs / zero) zs)) ∙ sym (nil_from_length zs (omega (arith, size)))
cells-array (suc n ∷ lengths) base zs h size all =
    let part = parts_in lengths * base_cells [] base in
    let whole : length zs ≡ suc n * part = size ∙ mul_assoc (suc n) (parts_in lengths) (base_cells [] base) in
    let each : length zs / suc n ≡ part = ap (λ k. k / suc n) whole ∙ mul-div_cancel_left part (omega arith) in
    array-cells (map (array_of lengths base) (pieces (suc n) (length zs / suc n) zs))
    ∙ ap (λ m. flat_map cells_of (map (array_of lengths base) (pieces (suc n) m zs))) each
    ∙ pieces-cells base (array_of lengths base) (suc n) part zs (λ ps fit of. cells-array lengths base ps h fit of) whole all

-- the sizes of items of one size
sizes : {T : Type 0} (f : T → ℤ) (w before : ℕ) (xs : List T) → fold (λ n (item : Item). n + item.size) before (map (λ x. record { number = f x; size = w }) xs) ≡ before + length xs * w
sizes f w before [] = omega arith
sizes f w before (x ∷ xs) = sizes f w (before + w) xs ∙ omega arith

-- the numbers of items
pub numbers : {T : Type 0} (f : T → ℤ) (w : ℕ) (xs : List T) → map (λ (item : Item). item.number) (map (λ x. record { number = f x; size = w }) xs) ≡ map f xs
numbers f w [] = refl
numbers f w (x ∷ xs) = ap (λ zs. f x ∷ zs) (numbers f w xs)

-- enough items make a first element
pub gathered-first : (ty : Ty) (items : List Item) → 0 < numbers_in ty → numbers_in ty ≤ length items → (more : List Element) × (gathered ty items ≡ record { value = array_of ty.lengths ty.base (map (λ item. item.number) (take (numbers_in ty) items)); place = sum_by (λ item. item.size) (take (numbers_in ty) items) } ∷ more)
gathered-first ty items some enough =
    let n = numbers_in ty in
    let q = length items / n in
    let one : 1 ≤ q = le-div 1 (length items) n some (omega arith) in
    let step : q ≡ suc (q - 1) = omega arith in
    let front = take n items in
    let size = sum_by (λ (item : Item). item.size) front in (
      placed ty (0 + size) (pieces (q - 1) n (drop n items)),
      ap (λ k. placed ty 0 (pieces k n items)) step
          ∙ ap (λ at. record { value = array_of ty.lengths ty.base (map (λ item. item.number) front); place = at } ∷ placed ty (0 + size) (pieces (q - 1) n (drop n items))) (let e : 0 + size ≡ size = omega arith in e),
    )

-- too few items make no element
pub gathered-none : (ty : Ty) (items : List Item) → length items < numbers_in ty → gathered ty items ≡ []
gathered-none ty items few = ap (λ k. placed ty 0 (pieces k (numbers_in ty) items)) (div-eq_of_lt few)

-- a bit is 0 or 1
one-cell : (bits : List Bool) → cell_of (is_one (pos (number_of (take 1 bits)))) ≡ pos (number_of (take 1 bits))
one-cell [] = refl
one-cell (false ∷ bits) = refl
one-cell (true ∷ bits) = refl

-- the number of the first bits is a cell of its type
bit-cell : (base : Base) (bits : List Bool) → IsCell base (number_at base (take (width base) bits))
bit-cell Bit bits = one-cell bits
bit-cell UnitTy bits = tt
bit-cell BoolTy bits = tt
bit-cell Int8 bits = tt
bit-cell Int16 bits = tt
bit-cell Int32 bits = tt
bit-cell Int64 bits = tt
bit-cell Complex16 bits = tt
bit-cell Complex32 bits = tt
bit-cell (Struct k) bits = tt

-- the numbers of bits are cells of their type
pub bit-cells : (base : Base) (n : ℕ) (bits : List Bool) → AreCells base (map (number_at base) (pieces n (width base) bits))
bit-cells base zero bits = tt
bit-cells base (suc n) bits = (bit-cell base bits, bit-cells base n (drop (width base) bits))

-- enough items are found as the first element
pub finds-items : (format : Format) (ty : Ty) (items : List Item) (tail : Tail) (found : Found) (cells : List ℤ) → IsStreamType ty → numbers_in ty ≤ length items → AreCells ty.base (map (λ item. item.number) (take (numbers_in ty) items)) → found ≡ FoundElement (in_bits format (sum_by (λ item. item.size) (take (numbers_in ty) items))) → cells ≡ map (λ item. item.number) (take (numbers_in ty) items) → FindsFirst format (gathered ty items) tail found cells
finds-items format ty items tail found cells ok enough kept e f =
    let n = numbers_in ty in
    let first = gathered-first ty items ok.some enough in
    let zs = map (λ (item : Item). item.number) (take n items) in
    let size : length zs ≡ n = length-map (take n items) (λ item. item.number) ∙ length-take-le n items enough in
    subst (λ es. FindsFirst format es tail found cells) (sym first.1) (e, f ∙ sym (cells-array ty.lengths ty.base zs ok.numbers size kept))

-- where there are too few items what follows them is answered
pub finds-none : (format : Format) (ty : Ty) (items : List Item) (tail : Tail) (found : Found) (cells : List ℤ) → length items < numbers_in ty → found ≡ answer_at tail → FindsFirst format (gathered ty items) tail found cells
finds-none format ty items tail found cells few e = subst (λ es. FindsFirst format es tail found cells) (sym (gathered-none ty items few)) e

-- the answer at the end of sound bits
pub short-tail : (ended : Bool) → short_answer ended ≡ answer_at (sound_tail ended)
short-tail true = refl
short-tail false = refl

-- what is found in bits is what the first element says
pub finds-bits : (ty : Ty) (bits : List Bool) (ended : Bool) (found : Found) (cells : List ℤ) → IsStreamType ty → FindsBits ty.base bits ended (numbers_in ty) found cells → Finds Binary (bit_elements ty bits ended) found cells
finds-bits ty bits ended found cells ok h =
    let n = numbers_in ty in
    let w = width ty.base in
    let m = length bits / w in
    let items = bit_items ty.base bits in
    let item : List Bool → Item = λ piece. record { number = number_at ty.base piece; size = w } in
    let count : length items ≡ m = length-map (pieces m w bits) item ∙ length-pieces m w bits in
    ⊎_elim
    (λ few. finds-none Binary ty items (sound_tail ended) found cells (rw count (div_below (length bits) w n ok.numbers few)) (h.short few ∙ short-tail ended))
    (λ enough.
    let most : n ≤ m = le-div n (length bits) w ok.numbers enough in
    let front : take n items ≡ map item (pieces n w bits) = take-map item n (pieces m w bits) ∙ ap (map item) (take-pieces n m w bits most) in
    let place : sum_by (λ (i : Item). i.size) (take n items) ≡ n * w = ap (λ is. sum_by (λ (i : Item). i.size) is) front ∙ sizes (number_at ty.base) w 0 (pieces n w bits) ∙ omega (arith, ap (λ k. k * w) (length-pieces n w bits)) in
    let zs : map (λ (i : Item). i.number) (take n items) ≡ map (number_at ty.base) (pieces n w bits) = ap (λ is. map (λ (i : Item). i.number) is) front ∙ numbers (number_at ty.base) w (pieces n w bits) in
    let answer = h.enough enough in
    finds-items Binary ty items (sound_tail ended) found cells ok (rw count most)
    (subst (AreCells ty.base) (sym zs) (bit-cells ty.base n bits))
    (answer.0 ∙ ap (λ k. FoundElement k) (sym place))
    (answer.1 ∙ sym zs))
    (cases_lt (length bits) (n * w))
