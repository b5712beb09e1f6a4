use Rattle.std.proofs.Common.{refl}
use Rattle.zir_narrow.proofs.Told.{told_err}
use Rattle.zir_narrow.proofs.ExpressionEquations.{expr-Binary, part-of}
use Rattle.zir_narrow.proofs.narrow.+expr_of.Goals as goal

pub returns-in_err-a-in-Binary : goal.returns-in_err-a-in-Binary
returns-in_err-a-in-Binary t c =
    rw (c.in-Binary.is, expr-Binary) (told_err _ _ _ _ c.from_residual.ensures.1 (rw c.get.ensures at c.in_err-a-in-Binary.ensures))

pub returns-in_err-check-in-Binary : goal.returns-in_err-check-in-Binary
returns-in_err-check-in-Binary t c =
    rw (c.in-Binary.is, expr-Binary, (rw c.get.ensures at c.in_ok-a-in-Binary.ensures))
    (told_err _ _ _ _ c.from_residual-in_err-check-in-Binary.ensures.1 (rw c.is_xor_of_bits.ensures at c.in_err-check-in-Binary.ensures))

pub returns-in_err-b-in-Binary : goal.returns-in_err-b-in-Binary
returns-in_err-b-in-Binary t c =
    rw (c.in-Binary.is, expr-Binary, (rw c.get.ensures at c.in_ok-a-in-Binary.ensures), (rw c.is_xor_of_bits.ensures at c.in_ok-check-in-Binary.ensures))
    (told_err _ _ _ _ c.from_residual-in_err-b-in-Binary.ensures.1 (rw c.get-in-Binary.ensures at c.in_err-b-in-Binary.ensures))

pub returns-in_ok-b-in-Binary : goal.returns-in_ok-b-in-Binary
returns-in_ok-b-in-Binary t c =
    rw (
      c.in-Binary.is,
      expr-Binary,
      (rw c.get.ensures at c.in_ok-a-in-Binary.ensures),
      (rw c.is_xor_of_bits.ensures at c.in_ok-check-in-Binary.ensures),
      (rw c.get-in-Binary.ensures at c.in_ok-b-in-Binary.ensures),
    ) c.exclusive_or.ensures

pub returns-in_err-_first-in-Index : goal.returns-in_err-_first-in-Index
returns-in_err-_first-in-Index t c =
    rw (part-of c.args.bound.now c.args.e.now c.in-Index.base c.in-Index.at c.in-Index.is)
    (told_err _ _ _ _ c.from_residual-in_err-_first-in-Index.ensures.1 (rw c.get-in-Index.ensures at c.in_err-_first-in-Index.ensures))

pub returns-in_ok-_first-in-Index : goal.returns-in_ok-_first-in-Index
returns-in_ok-_first-in-Index t c =
    rw (part-of c.args.bound.now c.args.e.now c.in-Index.base c.in-Index.at c.in-Index.is, (rw c.get-in-Index.ensures at c.in_ok-_first-in-Index.ensures)) refl
