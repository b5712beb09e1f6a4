use Rattle.std.proofs.Common.{◌<◌, ◌*◌, ◌∙◌, ap, sym, length, take, drop, arith}
use Rattle.std.proofs.lemmas.List.{drop-drop}
use Rattle.zir_meaning.specs.Items.{width as width_of}
use Rattle.zir_meaning.specs.Samples.{bits_of, number_at}
use Rattle.zir_samples.proofs.Elements.{map-pieces}
use Rattle.zir_samples.proofs.bits.read_numbers.Goals as goal

pub returns : goal.returns
returns c =
    let bits = bits_of c.args.bytes.now in
    let w = width_of c.args.base in
    map-pieces (number_at c.args.base) (length c.args.into.now) w (drop c.args.first bits) c.loop-i.into c.loop-i.auto.into
    (λ k d h.
    let before : k < c.loop-i.i = omega (arith, h, c.loop-i-test.false) in
    c.loop-i.invariant k d before ∙ ap (λ bs. number_at c.args.base (take w bs)) (sym (drop-drop (k * w) c.args.first bits)))
