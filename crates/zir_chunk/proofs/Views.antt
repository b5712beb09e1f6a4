-- What the parts of a chunk say of its contents.
use Rattle.std.proofs.Common.{ℕ, ◌+◌, ◌<◌, ◌≤◌, ◌≡◌, length, None, subst, sym, ap, ◌∙◌, arith}
use Rattle.zir_chunk.specs.Contents.{Contents, HasRoom, IsLawful, last_stamp}
use Rattle.zir_chunk.specs.Parts.{contents_of, last_of, IsKept}
use Rattle.zir_chunk.specs.declared.Chunk.TheInside.{Inside}
use Rattle.zir_chunk.proofs.Cuts.{length-elements_of, stamps-elements_of, sizes-elements_of}

-- the last stamp of the elements is the last of the stamps
pub last_stamp-is : (c : Inside) → last_stamp (contents_of c) ≡ last_of c.stamps.items
last_stamp-is c = ap last_of (stamps-elements_of c.size c.cells.items c.stamps.items)

-- what is kept of the parts is what is true of the contents
pub lawful : (c : Inside) → IsKept c → IsLawful (contents_of c)
lawful c h = record {
  some = h.some;
  count = rw length-elements_of h.count;
  cells = rw length-elements_of h.within;
  sizes = sizes-elements_of c.size c.cells.items c.stamps.items h.cells;
  small = rw stamps-elements_of h.small;
  rising = rw stamps-elements_of h.rising;
  reached = h.reached;
  end_small = h.end_small;
  end_last = rw (last_stamp-is c) h.end_last;
}

-- room in the contents is room in the parts
pub room_within : (c : Inside) → IsKept c → HasRoom (contents_of c) → (length c.stamps.items < 256) × (length c.cells.items + c.size ≤ 4096) × (c.end ≡ None)
room_within c h r = (rw length-elements_of at r.count, grind (arith, length-elements_of c.size c.cells.items c.stamps.items, h.cells, r.cells), r.unmarked)

-- room in the parts is room in the contents
pub has_room : (c : Inside) → IsKept c → length c.stamps.items < 256 → length c.cells.items + c.size ≤ 4096 → c.end ≡ None → HasRoom (contents_of c)
has_room c h count cells unmarked = record { count = rw length-elements_of count; cells = grind (arith, length-elements_of c.size c.cells.items c.stamps.items, h.cells); unmarked = unmarked }

-- a place among the elements is a place among the stamps
pub count_within : (c : Inside) (i : ℕ) (v : Contents) → contents_of c ≡ v → i < length v.elements → i < length c.stamps.items
count_within c i v e h = subst (λ (n : ℕ). i < n) (ap (λ v. length v.elements) (sym e) ∙ length-elements_of c.size c.cells.items c.stamps.items) h
