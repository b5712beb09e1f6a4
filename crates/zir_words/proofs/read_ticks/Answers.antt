use Rattle.std.proofs.Common.{◌∙◌, sym, ap, arith, ◌≡◌, get_or}
use Rattle.zir_words.proofs.Spelling.{first_digit, has_digit, not_zero, parsed, spelled}
use Rattle.zir_words.proofs.read_ticks.Goals as goal

pub returns-in_default-clause-none : goal.returns-in_default-clause-none
returns-in_default-clause-none c n b e =
    omega (arith, has_digit c.as_bytes.result.now n b (c.as_bytes.ensures.value ∙ e))

pub returns-then-is_sign_or_zero-clause-none : goal.returns-then-is_sign_or_zero-clause-none
returns-then-is_sign_or_zero-clause-none c n b e =
    omega (arith, first_digit c.as_bytes.result.now n b (c.as_bytes.ensures.value ∙ e))

pub returns-in_err-ticks-clause-none : goal.returns-in_err-ticks-clause-none
returns-in_err-ticks-clause-none c =
    rw c.from_residual.ensures (λ n b e.
    let read = parsed c.args.number.now c.parse.result n b e c.parse.ensures.value.0 in cc (c.in_err-ticks.was, c.ok.ensures.value))

pub returns-then-ticks-le-MAX_TICKS-clause-some : goal.returns-then-ticks-le-MAX_TICKS-clause-some
returns-then-ticks-le-MAX_TICKS-clause-some c =
    let first : get_or c.args.number.now 0 0 ≡ get_or c.as_bytes.result.now 0 0 = ap (λ bs. get_or bs 0 0) (sym c.as_bytes.ensures.value) in
    let e = spelled c.args.number.now c.parse.result c.in_ok-ticks.ticks (omega arith) c.parse.ensures.value.0 (cc (c.in_ok-ticks.was, c.ok.ensures.value)) in
    (record { least = not_zero c.args.number.now c.in_ok-ticks.ticks (omega arith) e; most = c.if-ticks-le-MAX_TICKS.true }, e)

pub returns-else-ticks-le-MAX_TICKS-clause-none : goal.returns-else-ticks-le-MAX_TICKS-clause-none
returns-else-ticks-le-MAX_TICKS-clause-none c n b e =
    let read = parsed c.args.number.now c.parse.result n b e c.parse.ensures.value.0 in
    let same : c.in_ok-ticks.ticks ≡ n = cc (c.in_ok-ticks.was, c.ok.ensures.value) in
    omega arith
