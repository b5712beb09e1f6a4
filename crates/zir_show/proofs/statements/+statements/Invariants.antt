use Rattle.std.proofs.Common.{drop}
use Rattle.std.specs.Prelude.{map}
use Rattle.zir_lex.specs.declared.token.Symbol.TheVariants.{Semicolon}
use Rattle.zir_print.specs.Marks.{mark, parted}
use Rattle.zir_print.specs.Statements.{stmt_words}
use Rattle.zir_show.proofs.Adding.{Left, joined}
use Rattle.zir_show.proofs.statements.+statements.Given as goal

abbrev pub invariant-put_stmts-loop-index : goal.invariant-put_stmts-loop-index
invariant-put_stmts-loop-index l = Left l.initial.text l.text (parted (mark Semicolon) (map stmt_words l.stmts)) (joined l.index (mark Semicolon) (map stmt_words (drop l.index l.stmts)))
