use Rattle.std.proofs.Common.{drop}
use Rattle.std.specs.Prelude.{map}
use Rattle.zir_lex.specs.declared.token.Symbol.TheVariants.{Comma}
use Rattle.zir_print.specs.Marks.{mark, parted}
use Rattle.zir_print.specs.Expressions.{expr_words}
use Rattle.zir_show.proofs.Adding.{Left, joined}
use Rattle.zir_show.proofs.expressions.+expressions.Given as goal

abbrev pub invariant-put_exprs-loop-index : goal.invariant-put_exprs-loop-index
invariant-put_exprs-loop-index l = Left l.initial.text l.text (parted (mark Comma) (map expr_words l.es)) (joined l.index (mark Comma) (map expr_words (drop l.index l.es)))
