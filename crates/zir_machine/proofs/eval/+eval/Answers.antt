use Rattle.std.proofs.Common.{subst}
use Rattle.zir_machine.specs.Values.{IsValue}
use Rattle.zir_machine.proofs.Expressions.{xor_value}
use Rattle.zir_machine.proofs.eval.+eval.Goals as goal

pub returns-in-Xor : goal.returns-in-Xor
returns-in-Xor t c =
    rw (c.in-Xor.is, c.xor.ensures)
    (xor_value c.in-Xor.a c.in-Xor.b _ c.args.store.now c.eval-left.result c.eval-right.result
    (subst (λ e. IsValue e c.args.store.now c.eval-left.result) c.get.ensures c.eval-left.ensures)
    (subst (λ e. IsValue e c.args.store.now c.eval-right.result) c.get-in-Xor.ensures c.eval-right.ensures))
