use Rattle.std.proofs.Common.{sym, subst, drop}
use Rattle.zir_meaning.specs.Samples.{bits_of}
use Rattle.zir_samples.specs.Finding.{elements_from, Finds, FindsBits}
use Rattle.zir_samples.proofs.Elements.{finds-bits}
use Rattle.zir_samples.proofs.finding.find.Goals as goal

pub returns-in-Binary : goal.returns-in-Binary
returns-in-Binary c =
    let ty = c.args.ty.now in
    let bits = drop c.args.bit (bits_of c.args.bytes.now) in
    let found = c.find_in_bits.result in
    let cells = c.find_in_bits.new.into in
    let h = subst (λ n. FindsBits ty.base bits c.args.ended n found cells) c.requires.cells c.find_in_bits.ensures in
    subst (λ f. Finds f (elements_from f ty c.args.bytes.now c.args.bit c.args.ended) found cells) (sym c.in-Binary.is) (finds-bits ty bits c.args.ended found cells c.requires.stream h)

pub returns-in-Text : goal.returns-in-Text
returns-in-Text c =
    subst (λ f. Finds f (elements_from f c.args.ty.now c.args.bytes.now c.args.bit c.args.ended) c.find_in_text.result c.find_in_text.new.into) (sym c.in-Text.is) c.find_in_text.ensures
