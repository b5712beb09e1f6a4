use Rattle.std.proofs.Common.{◌≡◌, ◌+◌, ◌-◌, ◌*◌, ◌∙◌, arith}
use Rattle.zir_meaning.specs.Samples.{bits_of}
use Rattle.zir_samples.proofs.Numbers.{byte-more, part-below, whole_power}
use Rattle.zir_samples.proofs.bits.whole_number.Goals as goal

pub overflow_mul-number : goal.overflow_mul-number
overflow_mul-number c =
    let below = part-below (c.args.at + 8 * c.loop-i.i) (8 * (c.args.count - c.loop-i.i)) (bits_of c.args.bytes.now) in
    let power = whole_power (c.args.count - c.loop-i.i) (omega (arith, c.requires.most, c.loop-i-test.true)) in
    omega (arith, below, power, c.loop-i.invariant)

pub overflow_add-at : goal.overflow_add-at
overflow_add-at c = omega (arith, c.requires)

pub overflow_add-number : goal.overflow_add-number
overflow_add-number c =
    let below = part-below (c.args.at + 8 * c.loop-i.i) (8 * (c.args.count - c.loop-i.i)) (bits_of c.args.bytes.now) in
    let power = whole_power (c.args.count - c.loop-i.i) (omega (arith, c.requires.most, c.loop-i-test.true)) in
    omega (arith, below, power, c.loop-i.invariant, c.from.ensures, c.byte_from.type_inv)

pub loop-i-preserved : goal.loop-i-preserved
loop-i-preserved c =
    byte-more c.args.at c.args.count c.loop-i.i c.loop-i.number c.from.result (bits_of c.args.bytes.now) c.loop-i-test.true c.loop-i.auto.i c.loop-i.invariant (c.from.ensures ∙ c.byte_from.ensures)

pub returns-clause-most : goal.returns-clause-most
returns-clause-most c =
    let none : c.loop-i.i ≡ 0 = omega (arith, c.loop-i-test.false) in
    let size : 8 * (c.args.count - c.loop-i.i) ≡ 8 * c.args.count = omega arith in
    rw (c.loop-i.invariant, size) (part-below (c.args.at + 8 * c.loop-i.i) (8 * c.args.count) (bits_of c.args.bytes.now))
