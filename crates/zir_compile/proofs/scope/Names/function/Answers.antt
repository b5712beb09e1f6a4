use Rattle.std.proofs.Common.{refl}
use Rattle.zir_code.specs.Scopes.{Scope}
use Rattle.zir_code.specs.Program.{at_top}
use Rattle.zir_compile.specs.Names.{signature_at}
use Rattle.zir_compile.proofs.Making.{makes_err}
use Rattle.zir_compile.proofs.Signed.{function_params}
use Rattle.zir_compile.proofs.scope.Names.function.Goals as goal

pub returns-in_err-holders-clause-made : goal.returns-in_err-holders-clause-made
returns-in_err-holders-clause-made c =
    let g : Scope = at_top c.args.self.now.structs c.args.self.now.tops (signature_at c.args.self.now.functions.items) in
    let params = rw c.as_slice.ensures at c.in_err-holders.ensures g refl in
    makes_err _ _ _ _ _ c.from_residual.ensures.1 params (function_params g c.args.f.now)
