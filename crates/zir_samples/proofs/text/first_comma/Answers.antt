use Rattle.std.proofs.Common.{◌≡◌, get_or, take, sym, subst, false}
use Rattle.std.proofs.lemmas.Bool.Decides.{nat_tests}
use Rattle.std.proofs.lemmas.List.{take_more}
use Rattle.std.proofs.Common.{arith}
use Rattle.std.specs.Prelude.{nat_eq}
use Rattle.zir_samples.specs.Reading.{IsUncut}
use Rattle.zir_samples.proofs.Items.{uncut-push}
use Rattle.zir_samples.proofs.text.first_comma.Goals as goal

pub loop-i-preserved : goal.loop-i-preserved
loop-i-preserved c =
    let bytes = c.args.bytes.now in
    let i = c.loop-i.i in
    let other : nat_eq (get_or bytes i 0) 44 ≡ false = grind (arith, nat_tests, c.if-byte-eq44.false) in
    subst IsUncut (sym (take_more bytes i 0 c.loop-i-test.true)) (uncut-push (take i bytes) (get_or bytes i 0) c.loop-i.invariant other)
