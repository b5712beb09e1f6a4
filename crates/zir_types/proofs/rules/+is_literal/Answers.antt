use Rattle.std.proofs.Common.{◌∙◌, ap, sym}
use Rattle.zir_types.proofs.Equations.{literal-Unary, literal-Binary}
use Rattle.zir_types.specs.Expressions.{is_literal}
use Rattle.zir_types.proofs.rules.+is_literal.Goals as goal

pub returns-in-Unary : goal.returns-in-Unary
returns-in-Unary t c =
    let e = c.is_literal-inner.ensures ∙ ap is_literal c.get.ensures in
    c.signed.ensures ∙ rw e (sym (literal-Unary c.in-Unary.op c.in-Unary.field-1 c.in-Unary.inner c.in-Unary.field-3)) ∙ ap is_literal (sym c.in-Unary.is)

pub returns-in-Binary : goal.returns-in-Binary
returns-in-Binary t c =
    let l = c.is_literal-left.ensures ∙ ap is_literal c.get-in-Binary.ensures in
    let r = c.is_literal-right.ensures ∙ ap is_literal c.get-in-Binary-2.ensures in
    c.joined_literals.ensures ∙ rw (l, r) (sym (literal-Binary c.in-Binary.op c.in-Binary.field-1 c.in-Binary.a c.in-Binary.b c.in-Binary.field-4))
    ∙ ap is_literal (sym c.in-Binary.is)
