use Rattle.std.proofs.Common.{[]}
use Rattle.zir_reader.proofs.Giving.{gives-malformed}
use Rattle.zir_reader.proofs.numbers.Numbers.next.Goals as goal

pub skip-requires-clause-within : goal.skip-requires-clause-within
skip-requires-clause-within g c = (c.in-Item.ensures []).1

pub skip-requires-clause-small : goal.skip-requires-clause-small
skip-requires-clause-small g c = (c.in-Item.ensures []).0

pub returns-in-Malformed-clause-gives : goal.returns-in-Malformed-clause-gives
returns-in-Malformed-clause-gives g c = gives-malformed c.args.self.now c.loop-number.self (g.S.Source.left c.args.source.now) (g.S.Source.left c.loop-number.source) c.loop-number.invariant.0 c.in-Malformed.ensures

pub fill-requires-clause-room : goal.fill-requires-clause-room
fill-requires-clause-room g c = (c.in-Nothing.ensures []).0
