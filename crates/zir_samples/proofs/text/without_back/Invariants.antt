use Rattle.std.proofs.Common.{◌≡◌, length}
use Rattle.zir_samples.specs.Reading.{without_blanks_behind}
use Rattle.zir_samples.proofs.text.without_back.Given as goal

abbrev pub invariant-loop-last : goal.invariant-loop-last
invariant-loop-last l = without_blanks_behind l.rest ≡ without_blanks_behind l.bytes

abbrev pub decreases-loop-last : goal.decreases-loop-last
decreases-loop-last l = length l.rest
