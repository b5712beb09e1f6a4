-- Places in a text: lines and columns, both from 1.
use Rattle.std.specs.Prelude.{ℕ, ◌+◌, List, fold, take, if◌then◌else◌, ◌==◌}
use Rattle.zir_tree.specs.declared.place.Place.{Place}

-- the place after one byte more: a newline ends its line
abbrev pub next_place : Place → ℕ → Place
next_place place b = if b == 10 then record { line = place.line + 1; col = 1 } else record { line = place.line; col = place.col + 1 }

-- the place after these bytes
abbrev pub place_past : Place → List ℕ → Place
place_past place bytes = fold next_place place bytes

-- the place of a text's first byte
abbrev pub first_place : Place
first_place = record { line = 1; col = 1 }

-- the place of the byte at an offset
abbrev pub place_of : List ℕ → ℕ → Place
place_of text at = place_past first_place (take at text)
