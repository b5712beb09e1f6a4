use Rattle.std.proofs.Common.{drop}
use Rattle.std.specs.Prelude.{map}
use Rattle.zir_print.specs.Marks.{mark, parted}
use Rattle.zir_print.specs.Types.{field_words}
use Rattle.zir_show.proofs.Adding.{Left, joined}
use Rattle.zir_show.proofs.types.put_fields.Given as goal

abbrev pub invariant-loop-index : goal.invariant-loop-index
invariant-loop-index l = Left l.initial.text l.text (parted (mark l.between) (map field_words l.fields)) (joined l.index (mark l.between) (map field_words (drop l.index l.fields)))
