use Rattle.std.proofs.Common.{refl, ◌<◌, length, rules}
use Rattle.std.proofs.lemmas.Option.{slice_get_read}
use Rattle.zir_chunk.proofs.Cuts.{stamps-elements_of}
use Rattle.zir_chunk.proofs.Views.{count_within}
use Rattle.zir_chunk.proofs.Chunk.stamp.Goals as goal

pub index-requires : goal.index-requires
index-requires c =
    let within : c.args.i < length c.self.inside.stamps.items = count_within c.self.inside c.args.i c.args.self.now c.self.view_is c.requires in
    search rules

pub returns-clause-value : goal.returns-clause-value
returns-clause-value c =
    let within : c.args.i < length c.self.inside.stamps.items = count_within c.self.inside c.args.i c.args.self.now c.self.view_is c.requires in
    rw (← c.self.view_is, stamps-elements_of) (slice_get_read c.self.inside.stamps.items (length c.self.inside.stamps.items) c.args.i c.index.result.now refl within c.index.ensures)

pub returns-clause-small : goal.returns-clause-small
returns-clause-small c =
    let within : c.args.i < length c.self.inside.stamps.items = count_within c.self.inside c.args.i c.args.self.now c.self.view_is c.requires in
    rw c.index.ensures (c.self.invariant.small c.args.i c.index.result.now within)
