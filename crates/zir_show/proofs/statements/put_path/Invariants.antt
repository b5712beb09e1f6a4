use Rattle.std.proofs.Common.{drop}
use Rattle.zir_print.specs.Statements.{path_words}
use Rattle.zir_show.proofs.Adding.{Left}
use Rattle.zir_show.proofs.statements.put_path.Given as goal

abbrev pub invariant-loop-access : goal.invariant-loop-access
invariant-loop-access l = Left l.initial.text l.text (path_words l.path) (path_words (drop l.access-index l.path))
