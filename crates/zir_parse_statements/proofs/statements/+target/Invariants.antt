use Rattle.std.proofs.Common.{length}
use Rattle.zir_parse_statements.proofs.statements.+target.Given as goal

abbrev pub decreases-target : goal.decreases-target
decreases-target l = length l.tokens.now
