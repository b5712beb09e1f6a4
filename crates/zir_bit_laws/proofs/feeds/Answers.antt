use Rattle.zir_bit_laws.proofs.Feed.{feeds}
use Rattle.zir_bit_laws.proofs.feeds.Goals as goal

pub returns : goal.returns
returns c = feeds
