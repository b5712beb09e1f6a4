use Rattle.std.proofs.Common.{◌≡◌, drop}
use Rattle.zir_code.specs.Scopes.{Scope}
use Rattle.zir_compile.proofs.Signed.{Params}
use Rattle.zir_compile.proofs.functions.parameters.Given as goal

-- the variables of all are those so far and those from here on
abbrev pub invariant-loop-p : goal.invariant-loop-p
invariant-loop-p l = (g : Scope) → g.structs ≡ l.structs → Params g l.params (drop l.p-index l.params) l.free l.holders.items
