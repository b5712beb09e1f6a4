-- Numbers that are gathered to elements.
use Rattle.std.specs.Prelude.{ℕ, ◌+◌, ◌-◌, ◌^◌, ◌≡◌, min, nat_eq, ℤ, Bool, if◌then◌else◌, List, [], ◌∷◌, ◌++◌, length, take, Option, Some, None}
use Rattle.zir_meaning.specs.Items.{Item}
use Rattle.zir_meaning.specs.Elements.{Ended, Malformed}
use Rattle.zir_reader.specs.declared.gatherer.Gatherer.{Gatherer}
use Rattle.zir_reader.specs.Inputs.{Input}

-- a place, or the last place of 64 bits
abbrev pub told : ℕ → ℕ
told place = min place (2 ^ 64 - 1)

-- an input with one more element in front
abbrev pub with_element : List ℤ → Input → Input
with_element cells input = record { elements = cells ∷ input.elements; tail = input.tail }

-- the input of these items in elements of so many cells: of the first element, which begins at one place, these cells
-- were read, and the items stand from another place on
abbrev pub input_from : ℕ → List ℤ → ℕ → ℕ → List (Option Item) → Input
input_from size cells start here [] = record { elements = []; tail = Ended }
input_from size cells start here (None ∷ items) = record { elements = []; tail = Malformed start }
input_from size cells start here (Some item ∷ items) =
    let all = cells ++ item.number ∷ [] in
    let next = told (here + item.size) in
    if nat_eq (length all) size then with_element all (input_from size [] next next items) else input_from size all start next items

-- how many cells an element has that is gathered
abbrev pub gatherer_size : Gatherer → ℕ
gatherer_size gatherer = length gatherer.cells.items

-- how many cells it lacks
abbrev pub missing : Gatherer → ℕ
missing gatherer = length gatherer.cells.items - gatherer.count

-- the input of these items behind those that were gathered
abbrev pub input_ahead : Gatherer → List (Option Item) → Input
input_ahead gatherer items = input_from (gatherer_size gatherer) (take gatherer.count gatherer.cells.items) gatherer.start gatherer.here items

-- a number was gathered, with which the element is whole or not
abbrev pub Pushes : Gatherer → Gatherer → ℤ → ℕ → Bool → Type 0
Pushes old new number size whole = (items : List (Option Item)) →
    input_ahead old (Some (record { number = number; size = size }) ∷ items) ≡ (if whole then with_element new.cells.items (input_ahead new items) else input_ahead new items)
