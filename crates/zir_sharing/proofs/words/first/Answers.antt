use Rattle.std.proofs.Common.{◌<◌, ◌^◌, arith}
use Rattle.zir_sharing.specs.Members.{word_at}
use Rattle.zir_sharing.proofs.Held.{first_held}
use Rattle.zir_sharing.proofs.words.first.Goals as goal

pub returns-then-word-ne0 : goal.returns-then-word-ne0
returns-then-word-ne0 c =
    let some : 0 < word_at c.args.words.now c.loop-i.i = omega arith in
    let below : word_at c.args.words.now c.loop-i.i < 2 ^ 64 = omega (arith, c.type_inv.words c.loop-i.i) in
    first_held c.args.words.now c.loop-i.i c.loop-i.invariant some below
