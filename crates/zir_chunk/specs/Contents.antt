-- What a chunk holds, and what is true of it.
use Rattle.std.specs.Prelude.{ℕ, ℤ, ◌+◌, ◌-◌, ◌*◌, ◌^◌, ◌<◌, ◌≤◌, ◌≡◌, List, [], length, map, All, AllPairs, Option, None, IfSome, slice_index_or}
use Rattle.zir_tree.specs.declared.ends.Stamp.{Stamp}
use Rattle.zir_tree.specs.declared.ends.EndMark.{EndMark}

-- an element as its cells, with its stamp
pub record Stamped : Type 0 where
  pub cells : List ℤ
  pub stamp : Stamp

-- the cells that an element has, the elements, how far their producer had run, and the end behind them
pub record Contents : Type 0 where
  pub size : ℕ
  pub elements : List Stamped
  pub reached : Stamp
  pub end : Option (EndMark × Stamp)

-- nothing taken, and no tick used
abbrev pub no_stamp : Stamp
no_stamp = record { taken = 0; ticks = 0 }

-- no element of this size, nothing reached, and no end
abbrev pub blank : ℕ → Contents
blank n = record { size = n; elements = []; reached = no_stamp; end = None }

-- the cells of each element
abbrev pub cells_of : Contents → List (List ℤ)
cells_of c = map (λ e. e.cells) c.elements

-- the stamp of each element
abbrev pub stamps_of : Contents → List Stamp
stamps_of c = map (λ e. e.stamp) c.elements

-- the stamp of the last element, or nothing taken and no tick where there is none
abbrev pub last_stamp : Contents → Stamp
last_stamp c = slice_index_or (stamps_of c) (length (stamps_of c) - 1) no_stamp

-- the second stamp is not below the first in either part
pub record AtMost (s t : Stamp) : Type 0 where
  pub taken : s.taken ≤ t.taken
  pub ticks : s.ticks ≤ t.ticks

-- each part of a stamp is at most 2 ^ 49
pub record IsSmall (s : Stamp) : Type 0 where
  pub taken : s.taken ≤ 2 ^ 49
  pub ticks : s.ticks ≤ 2 ^ 49

-- one more element fits, and no end mark stands
pub record HasRoom (c : Contents) : Type 0 where
  pub count : length c.elements < 256
  pub cells : c.size * (length c.elements + 1) ≤ 4096
  pub unmarked : c.end ≡ None

-- what is true of every chunk: its sizes are within the limits, each element has its size, and stamps rise
pub record IsLawful (c : Contents) : Type 0 where
  pub some : 1 ≤ c.size
  pub count : length c.elements ≤ 256
  pub cells : c.size * length c.elements ≤ 4096
  pub sizes : All (λ cells. length cells ≡ c.size) (cells_of c)
  pub small : All IsSmall (stamps_of c)
  pub rising : AllPairs AtMost (stamps_of c)
  pub reached : IsSmall c.reached
  pub end_small : IfSome c.end (λ mark. IsSmall mark.1)
  pub end_last : IfSome c.end (λ mark. AtMost (last_stamp c) mark.1)
