-- Values as the cells of elements, and elements of a chunk as they are received.
use Rattle.std.specs.Prelude.{ℕ, ℤ, pos, negsuc, ◌≡◌, Bool, false, List, [], ◌∷◌, ◌++◌, take, replicate, if◌then◌else◌, nat_eq, Some, slice_get, max}
use Rattle.zir_bit_tree.specs.declared.value.Val.{Val}
use Rattle.zir_bit_tree.specs.declared.value.Val.TheVariants.{Unit as UnitVal, Bit as BitVal}
use Rattle.zir_tree.specs.declared.ends.Stamp.{Stamp}
use Rattle.zir_bit_meaning.specs.Trace.{Out}
use Rattle.zir_chunk.specs.Contents.{Contents, cells_of as chunk_cells, stamps_of}

-- the cells of a value: one for a bit, and none for unit
abbrev pub cells_of : Val → List ℤ
cells_of UnitVal = []
cells_of (BitVal b) = (if b then pos 1 else pos 0) ∷ []

-- a value in an element of so many cells, those that it does not have being 0
abbrev pub element_of : ℕ → Val → List ℤ
element_of n v = take n (cells_of v ++ replicate n (pos 0))

-- whether a cell is 1
abbrev pub is_one_cell : ℤ → Bool
is_one_cell (pos n) = nat_eq n 1
is_one_cell (negsuc n) = false

-- the value of an element: the bit whose cell is 1, and for every other element the bit 0
abbrev pub val_of : List ℤ → Val
val_of [] = BitVal false
val_of (c ∷ []) = BitVal (is_one_cell c)
val_of (c ∷ d ∷ cs) = BitVal false

-- an element as it is received
abbrev pub received_as : List ℤ → Stamp → Out
received_as cells stamp = record { value = val_of cells; at = record { taken = stamp.taken; ticks = stamp.ticks; store = [] } }

-- the chunk has at this place an element that is received so
pub record IsAt (c : Contents) (i : ℕ) (o : Out) : Type 0 where
  pub cells : List ℤ
  pub stamp : Stamp
  pub has_cells : slice_get (chunk_cells c) i ≡ Some cells
  pub has_stamp : slice_get (stamps_of c) i ≡ Some stamp
  pub as_received : o ≡ received_as cells stamp

-- the greater of two stamps in each part
abbrev pub later : Stamp → Stamp → Stamp
later s t = record { taken = max s.taken t.taken; ticks = max s.ticks t.ticks }
