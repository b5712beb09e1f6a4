use Rattle.std.proofs.Common.{subst}
use Rattle.std.proofs.lemmas.List.{take_all}
use Rattle.zir_samples.specs.Reading.{IsUncut}
use Rattle.zir_samples.proofs.Items.{reads-long}
use Rattle.zir_samples.proofs.text.behind_commas.Goals as goal

pub returns-then-bytes-gt-LONGEST : goal.returns-then-bytes-gt-LONGEST
returns-then-bytes-gt-LONGEST c = reads-long c.args.base c.args.ended c.args.bytes.now c.requires.uncut c.if-bytes-gt-LONGEST.true

pub last_item-requires : goal.last_item-requires
last_item-requires c = record { stream = c.requires.stream; short = c.if-bytes-gt-LONGEST.false; uncut = subst IsUncut (take_all 64 c.args.bytes.now c.if-bytes-gt-LONGEST.false) c.requires.uncut }
