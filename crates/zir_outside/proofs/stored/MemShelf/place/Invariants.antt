-- No text before this place has the name.
use Rattle.std.proofs.Common.{◌≡◌, ℕ, ◌<◌, false, get_or}
use Rattle.std.specs.Str.{bytes_eq}
use Rattle.zir_outside.specs.declared.kept.Kept.{Kept}
use Rattle.zir_outside.specs.Memory.{entry}
use Rattle.zir_outside.proofs.stored.MemShelf.place.Given as goal

abbrev pub invariant-loop-place : goal.invariant-loop-place
invariant-loop-place l = (j : ℕ) (d : Kept) → j < l.place → bytes_eq (entry (get_or l.self.texts.items j d)).name l.name ≡ false
