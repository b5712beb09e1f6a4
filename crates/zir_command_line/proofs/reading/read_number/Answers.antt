use Rattle.std.proofs.Common.{◌∙◌, sym, ap, arith, ◌≡◌, get_or}
use Rattle.zir_command_line.proofs.Spelling.{first_digit, has_digit, not_zero, parsed, spelled, spells, spells_none}
use Rattle.zir_command_line.proofs.reading.read_number.Goals as goal

pub returns-in_default-clause-value : goal.returns-in_default-clause-value
returns-in_default-clause-value c =
    let most = c.ranges.most.fits in
    sym (spells_none c.args.most c.args.word.now (λ n within e.
    omega (arith, has_digit c.as_bytes.result.now n (omega (arith, within.high)) (c.as_bytes.ensures.value ∙ e))))

pub returns-then-is_sign_or_zero-clause-value : goal.returns-then-is_sign_or_zero-clause-value
returns-then-is_sign_or_zero-clause-value c =
    sym (spells_none c.args.most c.args.word.now (λ n within e.
    omega (arith, first_digit c.as_bytes.result.now n within.low (omega (arith, within.high)) (c.as_bytes.ensures.value ∙ e))))

pub returns-in_err-number-clause-value : goal.returns-in_err-number-clause-value
returns-in_err-number-clause-value c =
    rw c.from_residual.ensures (sym (spells_none c.args.most c.args.word.now (λ n within e.
    let read = parsed c.args.word.now c.parse.result n (omega (arith, within.high)) e c.parse.ensures.value.0 in cc (c.in_err-number.was, c.ok.ensures.value))))

pub returns-then-number-most-clause-value : goal.returns-then-number-most-clause-value
returns-then-number-most-clause-value c =
    let first : get_or c.args.word.now 0 0 ≡ get_or c.as_bytes.result.now 0 0 = ap (λ bs. get_or bs 0 0) (sym c.as_bytes.ensures.value) in
    let e = spelled c.args.word.now c.parse.result c.in_ok-number.number (omega arith) c.parse.ensures.value.0 (cc (c.in_ok-number.was, c.ok.ensures.value)) in
    sym (spells c.args.most c.in_ok-number.number c.args.word.now
    (record { low = not_zero c.args.word.now c.in_ok-number.number (omega arith) e; high = c.if-number-most.true }) (omega arith) e)

pub returns-else-number-most-clause-value : goal.returns-else-number-most-clause-value
returns-else-number-most-clause-value c =
    sym (spells_none c.args.most c.args.word.now (λ n within e.
    let read = parsed c.args.word.now c.parse.result n (omega (arith, within.high)) e c.parse.ensures.value.0 in
    let same : c.in_ok-number.number ≡ n = cc (c.in_ok-number.was, c.ok.ensures.value) in
    omega (arith, within.high)))
