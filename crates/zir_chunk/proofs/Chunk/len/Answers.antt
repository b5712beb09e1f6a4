use Rattle.std.proofs.Common.{rules}
use Rattle.zir_chunk.proofs.Cuts.{length-elements_of}
use Rattle.zir_chunk.proofs.Chunk.len.Goals as goal

pub returns-clause-value : goal.returns-clause-value
returns-clause-value c = rw (← c.self.view_is, length-elements_of) (search rules)
