-- How a chunk's flat cells and its stamps make its elements.
use Rattle.std.specs.Prelude.{ℕ, ℤ, ◌-◌, ◌*◌, ◌≤◌, ◌≡◌, List, [], ◌∷◌, length, take, drop, All, AllPairs, IfSome, slice_index_or, vec_capacity}
use Rattle.zir_chunk.specs.Contents.{Contents, Stamped, AtMost, IsSmall, no_stamp}
use Rattle.zir_chunk.specs.declared.Chunk.TheInside.{Inside}
use Rattle.zir_tree.specs.declared.ends.Stamp.{Stamp}

-- cells cut into elements of one size, one for each stamp
abbrev pub elements_of : ℕ → List ℤ → List Stamp → List Stamped
elements_of n cells [] = []
elements_of n cells (stamp ∷ stamps) = record { cells = take n cells; stamp = stamp } ∷ elements_of n (drop n cells) stamps

-- the elements stand in the flat cells, one behind the other
abbrev pub contents_of : Inside → Contents
contents_of c = record { size = c.size; elements = elements_of c.size c.cells.items c.stamps.items; reached = c.reached; end = c.end }

-- the last of these stamps
abbrev pub last_of : List Stamp → Stamp
last_of stamps = slice_index_or stamps (length stamps - 1) no_stamp

-- the cells are those of the elements, all within the room that was taken, and stamps rise
pub record IsKept (c : Inside) : Type 0 where
  pub some : 1 ≤ c.size
  pub fits : c.size ≤ 4096
  pub cells : length c.cells.items ≡ c.size * length c.stamps.items
  pub within : c.size * length c.stamps.items ≤ 4096
  pub count : length c.stamps.items ≤ 256
  pub cell_room : 4096 ≤ vec_capacity c.cells
  pub stamp_room : 256 ≤ vec_capacity c.stamps
  pub small : All IsSmall c.stamps.items
  pub rising : AllPairs AtMost c.stamps.items
  pub reached : IsSmall c.reached
  pub end_small : IfSome c.end (λ mark. IsSmall mark.1)
  pub end_last : IfSome c.end (λ mark. AtMost (last_of c.stamps.items) mark.1)
