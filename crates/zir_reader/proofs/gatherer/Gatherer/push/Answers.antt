use Rattle.std.proofs.Common.{w64, ◌≡◌, ◌+◌, length, to_z, of_z, rules}
use Rattle.std.proofs.lemmas.Int.{to_z-of_z}
use Rattle.zir_reader.proofs.Gathering.{pushes-whole}
use Rattle.zir_reader.proofs.gatherer.Gatherer.push.Goals as goal

pub returns-clause-pushes : goal.returns-clause-pushes
returns-clause-pushes c items =
    let g = c.args.self.now in
    let z = c.args.number in
    let whole : length g.cells.items ≡ g.count + 1 = search rules in
    pushes-whole g.cells.items g.count g.start g.here c.saturating_add-self.result c.args.size z (to_z w64 (of_z w64 z)) items (to_z-of_z w64 z c.ranges.number) whole c.saturating_add-self.ensures
