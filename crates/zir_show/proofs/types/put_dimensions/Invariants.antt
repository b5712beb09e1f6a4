use Rattle.std.proofs.Common.{drop}
use Rattle.zir_print.specs.Types.{dimension_words}
use Rattle.zir_show.proofs.Adding.{Left}
use Rattle.zir_show.proofs.types.put_dimensions.Given as goal

abbrev pub invariant-loop-dimension : goal.invariant-loop-dimension
invariant-loop-dimension l = Left l.initial.text l.text (dimension_words l.dimensions) (dimension_words (drop l.dimension-index l.dimensions))
