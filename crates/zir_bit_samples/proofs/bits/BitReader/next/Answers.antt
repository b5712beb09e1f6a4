use Rattle.std.proofs.Common.{◌≡◌, ◌-◌, ◌/◌, arith}
use Rattle.std.proofs.lemmas.Result.{err_from_is_err_and}
use Rattle.zir_bit_samples.proofs.Giving.{few_bits, gives_failure, gives_first, gives_none}
use Rattle.zir_bit_samples.proofs.bits.BitReader.next.Goals as goal

pub returns-in_err-byte-clause-bits : goal.returns-in_err-byte-clause-bits
returns-in_err-byte-clause-bits g c =
    let none : c.self.inside.count ≡ 0 = omega arith in
    let error = err_from_is_err_and c.from_residual.result c.from_residual.ensures.1 in
    rw (← c.self.view_is, none, error.1) (gives_failure c.self.inside.bytes c.next.new.self (g.S.Source.left c.args.source.now) (g.S.Source.left c.next.new.source) _ c.in_err-byte.ensures.bytes)

pub returns-in_default-clause-bits : goal.returns-in_default-clause-bits
returns-in_default-clause-bits g c =
    let none : c.self.inside.count ≡ 0 = omega arith in
    rw (← c.self.view_is, none) (gives_none c.self.inside.bytes c.next.new.self (g.S.Source.left c.args.source.now) (g.S.Source.left c.next.new.source) (rw c.in_default.is at c.in_ok-byte.ensures.bytes))

pub returns-clause-bits : goal.returns-clause-bits
returns-clause-bits g c =
    let none : c.self.inside.count ≡ 0 = omega arith in
    rw (← c.self.view_is, none) (gives_first c.self.inside.bytes c.next.new.self (g.S.Source.left c.args.source.now) (g.S.Source.left c.next.new.source) c.in-Some.byte (rw c.in-Some.is at c.in_ok-byte.ensures.bytes))

pub returns-then-self-gt0-clause-within : goal.returns-then-self-gt0-clause-within
returns-then-self-gt0-clause-within g c = few_bits (c.self.inside.count - 1) (c.self.inside.byte / 2) c.self.inside.bytes.bytes (omega (arith, c.self.invariant)) c.self.invariant.1

pub returns-in_err-byte-clause-within : goal.returns-in_err-byte-clause-within
returns-in_err-byte-clause-within g c = few_bits c.self.inside.count c.self.inside.byte c.next.new.self.bytes (omega (arith, c.self.invariant)) c.in_err-byte.ensures.within

pub returns-in_default-clause-within : goal.returns-in_default-clause-within
returns-in_default-clause-within g c = few_bits c.self.inside.count c.self.inside.byte c.next.new.self.bytes (omega (arith, c.self.invariant)) c.in_ok-byte.ensures.within

pub returns-clause-within : goal.returns-clause-within
returns-clause-within g c = few_bits 7 (c.in-Some.byte / 2) c.next.new.self.bytes (omega arith) c.in_ok-byte.ensures.within
