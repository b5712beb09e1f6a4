use Rattle.std.proofs.Common.{arith}
use Rattle.zir_print.specs.Marks.{mark}
use Rattle.zir_print.specs.Types.{field_words}
use Rattle.zir_show.proofs.Adding.{left_all, joined_more, joined_end}
use Rattle.zir_show.proofs.types.put_fields.Goals as goal

pub loop-index-init : goal.loop-index-init
loop-index-init c = left_all _ _

pub loop-index-preserved : goal.loop-index-preserved
loop-index-preserved c =
    joined_more field_words (mark c.args.between) c.args.fields.now c.loop-index.index _ (omega arith) c.index-fields-index.is c.loop-index.invariant c.in_ok-before_part.ensures c.in_ok-put_field.ensures

pub returns : goal.returns
returns c = joined_end field_words (mark c.args.between) c.args.fields.now c.loop-index.index (omega arith) c.loop-index.invariant
