use Rattle.zir_compile.proofs.Forms.{rooted-Index, rooted-Slice, rooted-Part}
use Rattle.zir_compile.proofs.calm.+rooted.Goals as goal

pub returns-in-Index : goal.returns-in-Index
returns-in-Index t c = rw (c.in-Index.is, rooted-Index) (rw c.get.ensures at c.is_rooted.ensures)

pub returns-in-Slice : goal.returns-in-Slice
returns-in-Slice t c = rw (c.in-Slice.is, rooted-Slice) (rw c.get-in-Slice.ensures at c.is_rooted-in-Slice.ensures)

pub returns-in-Part : goal.returns-in-Part
returns-in-Part t c = rw (c.in-Part.is, rooted-Part) (rw c.get-in-Part.ensures at c.is_rooted-in-Part.ensures)
