-- Elements in a list of cells.
use Rattle.std.proofs.Common.{◌≡◌, ◌+◌, ◌-◌, ◌/◌, ◌<◌, ◌≤◌, ℕ, suc, ℤ, List, [], ◌∷◌, length, length-drop, take, drop, Some, ap, sym, ◌∙◌, add-one, arith}
use Rattle.std.proofs.lemmas.List.{drop-drop, take_all}
use Rattle.std.proofs.Math.Nat.{div-eq_of_lt, div-eq-sub-div}
use Rattle.zir_meaning.specs.Items.{pieces}
use Rattle.zir_meaning.specs.Elements.{Tail}
use Rattle.zir_reader.specs.declared.memory.MemElements.{MemElements}
use Rattle.zir_reader.specs.Inputs.{Input, TakesFirst, HasOnly}
use Rattle.zir_reader.specs.Memory.{left_in, tail_of}

-- fewer cells than an element has are none
no_pieces : (n size : ℕ) (cells : List ℤ) → n < size → pieces (n / size) size cells ≡ []
no_pieces n size cells few = ap (λ k. pieces k size cells) (div-eq_of_lt few)

-- there are fewer cells than an element has
pub has_only : (old new : MemElements) (tail : Tail) → left_in new ≡ left_in old → length new.cells.items - new.given < new.size → tail_of new.malformed ≡ tail → HasOnly (left_in old) tail (Some (left_in new))
has_only old new tail same few behind = record {
  none = ap (λ i. i.elements) (sym same) ∙ no_pieces (length new.cells.items - new.given) new.size (drop new.given new.cells.items) few;
  tail_is = ap (λ i. i.tail) (sym same) ∙ behind;
  left_is = ap (λ (i : Input). Some i) same;
}

-- the count of elements with one fewer
count_less : (n given size : ℕ) → 1 ≤ size → size ≤ n - given → (n - given) / size ≡ suc ((n - (given + size)) / size)
count_less n given size some enough =
    let rest : n - given - size ≡ n - (given + size) = omega arith in
    let positive : 0 < size = omega arith in
    div-eq-sub-div positive enough ∙ ap (λ k. k / size + 1) rest ∙ add-one ((n - (given + size)) / size)

-- the first element and the others
first_piece : (count more size at : ℕ) (cells : List ℤ) → count ≡ suc more → pieces count size (drop at cells) ≡ take size (drop at cells) ∷ pieces more size (drop (at + size) cells)
first_piece count more size at cells e = ap (λ k. pieces k size (drop at cells)) e ∙ ap (λ zs. take size (drop at cells) ∷ pieces more size zs) (drop-drop size at cells)

-- the first element was given
pub takes_first : (old new : MemElements) (given : ℕ) (left : Input) (into : List ℤ) → left_in new ≡ left_in old → 1 ≤ new.size → new.size ≤ length new.cells.items - new.given →
    into ≡ take new.size (drop new.given new.cells.items) → given ≡ new.given + new.size →
    left ≡ record { elements = pieces ((length new.cells.items - given) / new.size) new.size (drop given new.cells.items); tail = tail_of new.malformed } → TakesFirst (left_in old) (Some left) into
takes_first old new given left into same some enough copied on is =
    let at = new.given + new.size in
    let cells = new.cells.items in
    let more = pieces ((length cells - at) / new.size) new.size (drop at cells) in
    record {
      more = more;
      first = ap (λ i. i.elements) (sym same)
          ∙ first_piece ((length cells - new.given) / new.size) ((length cells - at) / new.size) new.size new.given cells (count_less (length cells) new.given new.size some enough)
          ∙ ap (λ x. x ∷ more) (sym copied);
      left_is = ap (λ (i : Input). Some i) (is ∙ ap (λ k. record { elements = pieces ((length cells - k) / new.size) new.size (drop k cells); tail = tail_of new.malformed }) on
          ∙ ap (λ (t : Tail). record { elements = more; tail = t }) (ap (λ i. i.tail) same));
    }

-- the cells from a place on
pub rest_is : (given : ℕ) (listed cells : List ℤ) → listed ≡ cells → take (length listed - given) (drop given listed) ≡ drop given cells
rest_is given listed cells e =
    let short : length (drop given listed) ≤ length listed - given = omega (arith, length-drop given listed) in
    take_all (length listed - given) (drop given listed) short ∙ ap (drop given) e

-- how many they are
pub rest_length : (given : ℕ) (listed cells : List ℤ) → listed ≡ cells → length (take (length listed - given) (drop given listed)) ≡ length cells - given
rest_length given listed cells e = ap length (rest_is given listed cells e) ∙ length-drop given cells
