use Rattle.zir_chunk.proofs.Views.{last_stamp-is}
use Rattle.zir_chunk.proofs.Chunk.end.Goals as goal

pub returns-clause-last : goal.returns-clause-last
returns-clause-last c = rw (← c.self.view_is, last_stamp-is c.self.inside) c.self.invariant.end_last
