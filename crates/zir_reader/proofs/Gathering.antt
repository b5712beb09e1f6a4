-- Numbers that are gathered to elements, and what an element source has left behind them.
use Rattle.std.proofs.Common.{ℕ, ◌+◌, ◌<◌, ◌≡◌, ℤ, true, Option, Some, None, List, [], ◌∷◌, ◌++◌, length, length-append, length-set, set, take, ap, sym, ◌∙◌, arith}
use Rattle.std.proofs.lemmas.Bool.Decides.{nat_tests}
use Rattle.std.proofs.lemmas.List.{length-take-le, take_all, take_more_set}
use Rattle.std.specs.Prelude.{if◌then◌else◌, nat_eq}
use Rattle.zir_meaning.specs.Items.{Item}
use Rattle.zir_reader.specs.declared.gatherer.Gatherer.{Gatherer}
use Rattle.zir_reader.specs.declared.elements.Next.TheVariants.{Element}
use Rattle.zir_reader.specs.declared.numbers.Given.TheVariants.{Number}
use Rattle.zir_reader.specs.declared.reader.Reader.{Reader}
use Rattle.zir_reader.specs.Inputs.{Gets, Input}
use Rattle.zir_reader.specs.Numbers.{GivesNext, Held, items_to_come}
use Rattle.zir_reader.specs.Gathering.{input_ahead, input_from, Pushes, told, with_element}
use Rattle.zir_reader.specs.Reading.{left_with}

-- the last number of an element makes it whole
pub pushes-whole : (cells : List ℤ) (count start here next size : ℕ) (z same : ℤ) (items : List (Option Item)) → same ≡ z → length cells ≡ count + 1 → next ≡ told (here + size) →
    input_from (length cells) (take count cells) start here (Some (record { number = z; size = size }) ∷ items)
    ≡ with_element (set cells count same) (input_from (length (set cells count same)) [] next next items)
pushes-whole cells count start here next size z same items e whole on =
    let all = take count cells ++ z ∷ [] in
    let after = told (here + size) in
    let inside : count < length cells = omega (arith, whole) in
    let long : length all ≡ length cells = omega (arith, length-append (take count cells) (z ∷ []), length-take-le count cells (omega (arith, whole)), whole) in
    let yes : nat_eq (length all) (length cells) ≡ true = grind (arith, nat_tests, long) in
    let is : all ≡ set cells count same =
    ap (λ y. take count cells ++ y ∷ []) (sym e) ∙ sym (take_more_set cells count same inside) ∙ take_all (count + 1) (set cells count same) (omega (arith, length-set cells count same, whole)) in
    ap (λ t. if t then with_element all (input_from (length cells) [] after after items) else input_from (length cells) all start after items) yes
    ∙ ap (λ a. with_element a (input_from (length cells) [] after after items)) is
    ∙ ap (λ n. with_element (set cells count same) (input_from n [] after after items)) (sym (length-set cells count same))
    ∙ ap (λ n. with_element (set cells count same) (input_from (length (set cells count same)) [] n n items)) (sym on)

-- a reader of these
abbrev pub reader_of : Held → Gatherer → Reader
reader_of held g = record { numbers = held; gatherer = g }

-- a whole element is taken
pub gives-element : (held now : Held) (g new : Gatherer) (left rest : Option (List ℕ)) (z : ℤ) (size : ℕ) (into : List ℤ) → GivesNext held left now rest (Number z size) → Pushes g new z size true → into ≡ new.cells.items →
    Gets (left_with (reader_of held g) left) (left_with (reader_of now new) rest) into Element
gives-element held now g new None rest z size into h p e = ap (left_with (reader_of now new)) h
gives-element held now g new (Some bytes) rest z size into h p e =
    let ahead = input_ahead new (items_to_come now h.0) in
    let is : input_ahead g (items_to_come held bytes) ≡ with_element new.cells.items ahead = ap (input_ahead g) h.2 ∙ p (items_to_come now h.0) in
    record {
      more = ahead.elements;
      first = ap (λ (i : Input). i.elements) is ∙ ap (λ cells. cells ∷ ahead.elements) (sym e);
      left_is = ap (left_with (reader_of now new)) h.1 ∙ ap (λ t. Some (record { elements = ahead.elements; tail = t })) (sym (ap (λ (i : Input). i.tail) is));
    }
