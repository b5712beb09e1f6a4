use Rattle.std.proofs.Common.{◌≡◌, length}
use Rattle.zir_meaning.specs.Texts.{skip_blanks}
use Rattle.zir_samples.proofs.text.without_front.Given as goal

abbrev pub invariant-loop-first : goal.invariant-loop-first
invariant-loop-first l = skip_blanks l.rest ≡ skip_blanks l.bytes

abbrev pub decreases-loop-first : goal.decreases-loop-first
decreases-loop-first l = length l.rest
