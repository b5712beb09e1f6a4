-- The first places where a split is refused.
use Rattle.std.specs.Prelude.{ℕ, List, [], ◌∷◌, Option, Some, None, length, nat_eq, slice_index_or, if◌then◌else◌}
use Rattle.zir_tree.specs.declared.place.Place.{Place}
use Rattle.zir_sharing.specs.declared.splits.Standing.{Standing}
use Rattle.zir_sharing.specs.declared.splits.Standing.TheVariants.{Spine, Chain, Elsewhere}
use Rattle.zir_sharing.specs.declared.splits.Mark.{Mark}
use Rattle.zir_names.specs.Sharing.{Stand, Splits, first_place, earlier}
use Rattle.zir_names.specs.Sharing as sharing

-- Where a component stands, as the rules say it.
abbrev pub stand_of : Standing → Stand
stand_of Spine = sharing.Spine
stand_of Chain = sharing.Chain
stand_of Elsewhere = sharing.Elsewhere

-- The earlier of two places that may be there.
abbrev pub earliest : Option Place → Option Place → Option Place
earliest None q = q
earliest (Some p) q = Some (earlier p q)

-- A `fun comp` by its number, with the first places where a split is refused.
pub record Marked : Type 0 where
  pub id : ℕ
  pub mark : Mark

-- The first place of each list of splits.
abbrev pub mark_of : Splits → Mark
mark_of s = record { on_spine = first_place s.on_spine; off_spine = first_place s.off_spine }

-- The same for each `fun comp`.
abbrev pub marks_of : List Splits → List Marked
marks_of [] = []
marks_of (s ∷ ss) = record { id = s.id; mark = mark_of s } ∷ marks_of ss

-- `fun comp`s by their numbers, latest first, with their marks in the order in which they came.
abbrev pub marked_of : List ℕ → List Mark → List Marked
marked_of [] ms = []
marked_of (n ∷ ns) ms = record { id = n; mark = slice_index_or ms (length ns) (record { on_spine = None; off_spine = None }) } ∷ marked_of ns ms

-- The mark of a body at a stand.
abbrev pub at_stand : Stand → Mark → Option Place
at_stand sharing.Spine m = m.on_spine
at_stand sharing.Chain m = m.off_spine
at_stand sharing.Elsewhere m = m.off_spine

-- The mark at a place at a stand.
abbrev pub marked_at : List Mark → Stand → ℕ → Option Place
marked_at ms stand at = at_stand stand (slice_index_or ms at (record { on_spine = None; off_spine = None }))

-- The mark of a call.
abbrev pub mark_in : List Marked → ℕ → Stand → Option Place
mark_in [] id stand = None
mark_in (m ∷ ms) id stand = if nat_eq m.id id then at_stand stand m.mark else mark_in ms id stand
