use Rattle.std.proofs.Common.{ℕ, ◌≡◌, ◌<◌, ◌≤◌, ◌+◌, ◌-◌, ◌*◌, ◌∙◌, List, ap, sym, length, map, drop, arith}
use Rattle.std.proofs.lemmas.List.{length-drop}
use Rattle.std.proofs.Math.Nat.{mul-pos}
use Rattle.std.specs.Int.{div_ceil}
use Rattle.zir_meaning.specs.Items.{pieces, width as width_of}
use Rattle.zir_meaning.specs.Samples.{bits_of, number_at}
use Rattle.zir_samples.specs.declared.finding.Found.TheVariants.{Element}
use Rattle.zir_samples.specs.Finding.{short_answer}
use Rattle.zir_samples.proofs.Numbers.{length-bits_of}
use Rattle.zir_samples.proofs.bits.find_in_bits.Goals as goal

-- how many bits stand from a bit on
length-behind : (bit : ℕ) (bytes : List ℕ) → length (drop bit (bits_of bytes)) ≡ 8 * length bytes - bit
length-behind bit bytes = length-drop bit (bits_of bytes) ∙ ap (λ n. n - bit) (length-bits_of bytes)

-- fewer bytes than some bits need
too-few : (bits n : ℕ) → n < div_ceil bits 8 → 8 * n < bits
too-few bits n h = omega arith

-- bytes that hold some bits
enough-for : (bits n : ℕ) → div_ceil bits 8 ≤ n → bits ≤ 8 * n
enough-for bits n h = omega arith

-- bytes are too few for numbers from a bit on
short : (n len first bit size : ℕ) (bytes : List ℕ) → n ≡ div_ceil (first + size) 8 → first ≡ bit → len ≡ size → 0 < len → length bytes < n → length (drop bit (bits_of bytes)) < len
short n len first bit size bytes e f g some h =
    let few = too-few (first + size) (length bytes) (rw (← e) h) in
    omega (arith, few, f, g, some, length-behind bit bytes)

-- bytes are enough for numbers from a bit on
whole : (n len first bit size : ℕ) (bytes : List ℕ) → n ≡ div_ceil (first + size) 8 → first ≡ bit → len ≡ size → bit < 8 → n ≤ length bytes → len ≤ length (drop bit (bits_of bytes))
whole n len first bit size bytes e f g near h =
    let fit = enough-for (first + size) (length bytes) (rw (← e) h) in
    omega (arith, fit, f, g, length-behind bit bytes)

pub returns-then-ended : goal.returns-then-ended
returns-then-ended c =
    let size = ap (λ w. length c.args.into.now * w) (sym c.width.ensures.width) in
    let few = short c.div_ceil.result _ c.from-first.result c.args.bit _ c.args.bytes.now c.div_ceil.ensures c.from-first.ensures size (mul-pos c.requires.some c.requires.stream) c.if-bytes-div_ceil.true in
    record { enough = λ h. absurd (omega (arith, h, few)); short = λ h. ap short_answer (sym c.if-ended.true) }

pub returns-else-ended : goal.returns-else-ended
returns-else-ended c =
    let size = ap (λ w. length c.args.into.now * w) (sym c.width.ensures.width) in
    let few = short c.div_ceil.result _ c.from-first.result c.args.bit _ c.args.bytes.now c.div_ceil.ensures c.from-first.ensures size (mul-pos c.requires.some c.requires.stream) c.if-bytes-div_ceil.true in
    record { enough = λ h. absurd (omega (arith, h, few)); short = λ h. ap short_answer (sym c.if-ended.false) }

pub returns : goal.returns
returns c =
    let size = ap (λ w. length c.args.into.now * w) (sym c.width.ensures.width) in
    let enough = whole c.div_ceil.result _ c.from-first.result c.args.bit _ c.args.bytes.now c.div_ceil.ensures c.from-first.ensures size c.requires.within c.if-bytes-div_ceil.false in
    let cells = c.read_numbers.ensures ∙ ap (λ k. map (number_at c.args.base) (pieces (length c.args.into.now) (width_of c.args.base) (drop k (bits_of c.args.bytes.now)))) c.from-first.ensures in
    record { enough = λ h. (ap (λ n. Element n) (sym size), cells); short = λ h. absurd (omega (arith, h, enough)) }
