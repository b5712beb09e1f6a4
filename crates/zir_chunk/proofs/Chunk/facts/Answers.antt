use Rattle.std.proofs.Common.{subst}
use Rattle.zir_chunk.specs.Contents.{IsLawful}
use Rattle.zir_chunk.proofs.Views.{lawful}
use Rattle.zir_chunk.proofs.Chunk.facts.Goals as goal

pub returns : goal.returns
returns c = subst IsLawful c.self.view_is (lawful c.self.inside c.self.invariant)
