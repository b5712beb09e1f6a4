use Rattle.std.proofs.Common.{length}
use Rattle.zir_command_line.proofs.+read_line.Given as goal

abbrev pub decreases-read_line : goal.decreases-read_line
decreases-read_line l = length l.words.now
