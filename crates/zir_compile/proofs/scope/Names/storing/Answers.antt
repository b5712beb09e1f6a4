use Rattle.std.proofs.Common.{◌∙◌, sym, arith}
use Rattle.zir_compile.specs.Names.{scope_of}
use Rattle.zir_compile.proofs.Making.{makes_err}
use Rattle.zir_compile.proofs.Storing.{indexed_free}
use Rattle.zir_compile.proofs.scope.Names.storing.Goals as goal

pub returns-in_err-o : goal.returns-in_err-o
returns-in_err-o c =
    makes_err _ _ _ _ _ c.from_residual.ensures.1 c.in_err-o.ensures
    (λ whole. let lt = indexed_free (scope_of c.args.self.now) c.args.holder.now c.args.path.now c.args.d c.args.n (sym c.has_index.ensures ∙ c.if-has_index.true) whole in omega arith)
