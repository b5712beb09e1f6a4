-- The elements of a whole input, by its items one after the other.
use Rattle.std.proofs.Common.{ℕ, zero, suc, ◌+◌, ◌/◌, ◌<◌, ◌≤◌, ◌≡◌, ℤ, Bool, true, false, Option, Some, None, List, [], ◌∷◌, ◌++◌, length, length-append, length-drop, take, drop, refl, ap, sym, subst, ◌∙◌, ⊎_elim, arith, append_assoc}
use Rattle.std.proofs.lemmas.Bool.Decides.{nat_tests}
use Rattle.std.proofs.lemmas.Bool.{cases_lt}
use Rattle.std.proofs.lemmas.List.{drop-map, length-map, length-take-le, take-map}
use Rattle.std.proofs.lemmas.List.Sums.{sum_by-cons}
use Rattle.std.proofs.lemmas.Nat.{le-div}
use Rattle.std.proofs.Math.Nat.{div-eq_of_lt, div-eq-sub-div}
use Rattle.std.specs.List.{list_any}
use Rattle.std.specs.Prelude.{if◌then◌else◌, is_none, map, nat_eq, sum_by}
use Rattle.zir_tree.specs.declared.format.Format.{Format}
use Rattle.zir_tree.specs.declared.format.Format.TheVariants.{Binary, Text}
use Rattle.zir_tree.specs.declared.types.Base.{Base}
use Rattle.zir_tree.specs.declared.types.Ty.{Ty}
use Rattle.zir_cells.specs.Cells.{cells_of}
use Rattle.zir_meaning.specs.Items.{Item, pieces, width}
use Rattle.zir_meaning.specs.Elements.{array_of, Element, element_values, Ended, gathered, Malformed, numbers_in, place_after, placed, Tail}
use Rattle.zir_meaning.specs.Samples.{bit_items, bits_of, number_at}
use Rattle.zir_meaning.specs.Texts.{cut_at_commas, sound_items}
use Rattle.zir_samples.specs.Finding.{IsStreamType}
use Rattle.zir_samples.specs.Reading.{items_of}
use Rattle.zir_samples.proofs.Elements.{AreCells, bit-cells, cells-array, cells-take, numbers}
use Rattle.zir_samples.proofs.Gathering.{items-cells, sound-cells}
use Rattle.zir_reader.specs.Gathering.{input_from, told, with_element}
use Rattle.zir_reader.specs.Inputs.{Input}
use Rattle.zir_reader.specs.Numbers.{items_from}
use Rattle.zir_reader.specs.Reading.{spelled}

-- the numbers of items
abbrev numbers_of : List Item → List ℤ
numbers_of items = map (λ item. item.number) items

-- how many bits or bytes they take
abbrev size_of : List Item → ℕ
size_of items = sum_by (λ item. item.size) items

-- sound items
abbrev somes : List Item → List (Option Item)
somes items = map (λ (item : Item). Some item) items

-- what follows the whole elements, where the last of them ends here
abbrev tail_at : Bool → ℕ → Tail
tail_at bad place = if bad then Malformed place else Ended

-- items too few for an element end the input
too-few : (size : ℕ) (cells : List ℤ) (start here : ℕ) (items : List (Option Item)) → length cells + length (sound_items items) < size → input_from size cells start here items ≡ record { elements = []; tail = tail_at (list_any is_none items) start }
too-few size cells start here [] h = refl
too-few size cells start here (None ∷ items) h = refl
too-few size cells start here (Some item ∷ items) h =
    let all = cells ++ item.number ∷ [] in
    let next = told (here + item.size) in
    let no : nat_eq (length all) size ≡ false = let more = length-append cells (item.number ∷ []) in grind (arith, nat_tests, more, h) in
    ap (λ t. if t then with_element all (input_from size [] next next items) else input_from size all start next items) no
    ∙ too-few size all start next items (omega (arith, h, length-append cells (item.number ∷ [])))

-- places that are told one after the other
told-more : (here a b : ℕ) → told (told (here + a) + b) ≡ told (here + (a + b))
told-more here a b = omega arith

-- one more item in a sum
size-more : (item : Item) (items : List Item) → item.size + size_of items ≡ size_of (item ∷ items)
size-more item items = sym (sum_by-cons (λ (i : Item). i.size) item items)

-- the items that an element lacks make it whole
enough : (size : ℕ) (cells : List ℤ) (start here : ℕ) (item : Item) (items : List Item) (more : List (Option Item)) → length cells + length (item ∷ items) ≡ size →
    input_from size cells start here (somes (item ∷ items) ++ more) ≡ with_element (cells ++ numbers_of (item ∷ items)) (input_from size [] (told (here + size_of (item ∷ items))) (told (here + size_of (item ∷ items))) more)
enough size cells start here item [] more h =
    let all = cells ++ item.number ∷ [] in
    let next = told (here + item.size) in
    let yes : nat_eq (length all) size ≡ true = let long = length-append cells (item.number ∷ []) in grind (arith, nat_tests, long, h) in
    ap (λ t. if t then with_element all (input_from size [] next next more) else input_from size all start next more) yes
    ∙ ap (λ n. with_element all (input_from size [] (told (here + n)) (told (here + n)) more)) (let e : item.size ≡ 0 + item.size = omega arith in e)
enough size cells start here item (second ∷ items) more h =
    let all = cells ++ item.number ∷ [] in
    let next = told (here + item.size) in
    let rest = somes (second ∷ items) ++ more in
    let no : nat_eq (length all) size ≡ false = let long = length-append cells (item.number ∷ []) in grind (arith, nat_tests, long, h) in
    let place : told (next + size_of (second ∷ items)) ≡ told (here + size_of (item ∷ second ∷ items)) = told-more here item.size (size_of (second ∷ items)) ∙ ap (λ n. told (here + n)) (size-more item (second ∷ items)) in
    ap (λ t. if t then with_element all (input_from size [] next next rest) else input_from size all start next rest) no
    ∙ enough size all start next second items more (omega (arith, h, length-append cells (item.number ∷ [])))
    ∙ ap (λ zs. with_element zs (input_from size [] (told (next + size_of (second ∷ items))) (told (next + size_of (second ∷ items))) more)) (append_assoc cells (item.number ∷ []) (numbers_of (second ∷ items)))
    ∙ ap (λ n. with_element (cells ++ numbers_of (item ∷ second ∷ items)) (input_from size [] n n more)) place

-- the same of any items
enough-any : (size : ℕ) (cells : List ℤ) (start here : ℕ) (items : List Item) (more : List (Option Item)) → 0 < length items → length cells + length items ≡ size →
    input_from size cells start here (somes items ++ more) ≡ with_element (cells ++ numbers_of items) (input_from size [] (told (here + size_of items)) (told (here + size_of items)) more)
enough-any size cells start here [] more some h = absurd (omega arith)
enough-any size cells start here (item ∷ items) more some h = enough size cells start here item items more h

-- cells behind the first are cells
cells-drop : (k : ℕ) (base : Base) (zs : List ℤ) → AreCells base zs → AreCells base (drop k zs)
cells-drop zero base zs h = h
cells-drop (suc k) base [] h = tt
cells-drop (suc k) base (z ∷ zs) h = cells-drop k base zs h.1

-- the sound items come first
sound-split : (k : ℕ) (items : List (Option Item)) → k ≤ length (sound_items items) → items ≡ somes (take k (sound_items items)) ++ drop k items
sound-split zero items h = refl
sound-split (suc k) [] h = absurd (omega arith)
sound-split (suc k) (None ∷ items) h = absurd (omega arith)
sound-split (suc k) (Some item ∷ items) h = ap (λ is. Some item ∷ is) (sound-split k items (omega arith))

-- the sound items behind the first
sound-drop : (k : ℕ) (items : List (Option Item)) → k ≤ length (sound_items items) → sound_items (drop k items) ≡ drop k (sound_items items)
sound-drop zero items h = refl
sound-drop (suc k) [] h = refl
sound-drop (suc k) (None ∷ items) h = absurd (omega arith)
sound-drop (suc k) (Some item ∷ items) h = sound-drop k items (omega arith)

-- an item is malformed behind the sound ones
bad-drop : (k : ℕ) (items : List (Option Item)) → k ≤ length (sound_items items) → list_any is_none (drop k items) ≡ list_any is_none items
bad-drop zero items h = refl
bad-drop (suc k) [] h = refl
bad-drop (suc k) (None ∷ items) h = absurd (omega arith)
bad-drop (suc k) (Some item ∷ items) h = bad-drop k items (omega arith)

-- the input of elements from a place on
abbrev input_at : Bool → ℕ → List Element → Input
input_at bad start es = record { elements = map cells_of (element_values es); tail = tail_at bad (told (place_after start es (length es))) }

-- items make the elements of their pieces
by-pieces : (ty : Ty) (count start : ℕ) (items : List (Option Item)) → IsStreamType ty → length (sound_items items) / numbers_in ty ≡ count → AreCells ty.base (numbers_of (sound_items items)) →
    input_from (numbers_in ty) [] (told start) (told start) items ≡ input_at (list_any is_none items) start (placed ty start (pieces count (numbers_in ty) (sound_items items)))
by-pieces ty zero start items ok e kept =
    let size = numbers_in ty in
    let sound = sound_items items in
    let few : length sound < size = ⊎_elim (λ few. few) (λ enough. absurd (omega (arith, le-div 1 (length sound) size ok.some (omega (arith, enough)), e))) (cases_lt (length sound) size) in
    too-few size [] (told start) (told start) items (omega (arith, few))
by-pieces ty (suc count) start items ok e kept =
    let size = numbers_in ty in
    let sound = sound_items items in
    let front = take size sound in
    let zs = numbers_of front in
    let rest = drop size items in
    let place = start + size_of front in
    let bad = list_any is_none items in
    let inside : size ≤ length sound = ⊎_elim (λ few. absurd (omega (arith, div-eq_of_lt few, e))) (λ enough. enough) (cases_lt (length sound) size) in
    let long : length front ≡ size = length-take-le size sound inside in
    let behind : sound_items rest ≡ drop size sound = sound-drop size items inside in
    let all : length zs ≡ size = length-map front (λ (i : Item). i.number) ∙ long in
    let cells : AreCells ty.base zs = subst (AreCells ty.base) (take-map (λ (i : Item). i.number) size sound) (cells-take size ty.base (numbers_of sound) kept) in
    let others : AreCells ty.base (numbers_of (sound_items rest)) = subst (λ is. AreCells ty.base (numbers_of is)) (sym behind) (subst (AreCells ty.base) (drop-map (λ (i : Item). i.number) size sound) (cells-drop size ty.base (numbers_of sound) kept)) in
    let fewer : length (sound_items rest) / size ≡ count =
    ap (λ n. n / size) (ap length behind ∙ length-drop size sound) ∙ omega (arith, div-eq-sub-div ok.some inside, e) in
    let element : cells_of (array_of ty.lengths ty.base zs) ≡ zs = cells-array ty.lengths ty.base zs ok.numbers all cells in
    ap (input_from size [] (told start) (told start)) (sound-split size items inside)
    ∙ enough-any size [] (told start) (told start) front rest (omega (arith, long, ok.some)) (omega (arith, long))
    ∙ ap (λ p. with_element zs (input_from size [] p p rest)) (let p : told (told start + size_of front) ≡ told place = omega arith in p)
    ∙ ap (with_element zs) (by-pieces ty count place rest ok fewer others)
    ∙ ap (λ is. with_element zs (input_at (list_any is_none rest) place (placed ty place (pieces count size is)))) behind
    ∙ ap (λ t. with_element zs (input_at t place (placed ty place (pieces count size (drop size sound))))) (bad-drop size items inside)
    ∙ ap (λ cs. with_element cs (input_at bad place (placed ty place (pieces count size (drop size sound))))) (sym element)

-- items that are all sound are these
sound-somes : (items : List Item) → sound_items (somes items) ≡ items
sound-somes [] = refl
sound-somes (item ∷ items) = ap (λ is. item ∷ is) (sound-somes items)

-- and none of them is malformed
none-bad : (items : List Item) → list_any is_none (somes items) ≡ false
none-bad [] = refl
none-bad (item ∷ items) = none-bad items

-- the numbers of bits are cells
bits-kept : (base : Base) (bits : List Bool) → AreCells base (numbers_of (sound_items (somes (bit_items base bits))))
bits-kept base bits =
    let parts = pieces (length bits / width base) (width base) bits in
    subst (λ is. AreCells base (numbers_of is)) (sym (sound-somes (bit_items base bits)))
    (subst (AreCells base) (sym (numbers (number_at base) (width base) parts)) (bit-cells base (length bits / width base) bits))

-- the items of bytes are what they spell
pub items-spelled : (format : Format) (ty : Ty) (bytes : List ℕ) → IsStreamType ty → input_from (numbers_in ty) [] 0 0 (items_from format ty.base 0 bytes) ≡ spelled format ty bytes
items-spelled Text ty bytes ok =
    let cut = cut_at_commas bytes in
    by-pieces ty (length (sound_items (items_of ty.base true bytes)) / numbers_in ty) 0 (items_of ty.base true bytes) ok refl
    (sound-cells ty.base (items_of ty.base true bytes) (items-cells ty.base true cut.before_commas cut.behind))
items-spelled Binary ty bytes ok =
    let items = bit_items ty.base (bits_of bytes) in
    let size = numbers_in ty in
    by-pieces ty (length (sound_items (somes items)) / size) 0 (somes items) ok refl (bits-kept ty.base (bits_of bytes))
    ∙ ap (λ is. input_at (list_any is_none (somes items)) 0 (placed ty 0 (pieces (length is / size) size is))) (sound-somes items)
    ∙ ap (λ t. input_at t 0 (gathered ty items)) (none-bad items)
