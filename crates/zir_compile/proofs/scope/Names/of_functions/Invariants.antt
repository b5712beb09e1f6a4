use Rattle.std.proofs.Common.{◌≡◌, ◌++◌, length, drop}
use Rattle.zir_compile.specs.Names.{signature_at}
use Rattle.zir_compile.specs.Signing.{signatures_after, signatures_of}
use Rattle.zir_compile.proofs.scope.Names.of_functions.Given as goal

-- the signatures of all are those so far and those from here on
abbrev pub invariant-loop-f : goal.invariant-loop-f
invariant-loop-f l =
    (l.names.structs ≡ l.fn.structs) × (l.names.tops ≡ l.fn.tops) × (length l.names.functions.items ≡ l.f-index) ×
    (signatures_of l.fn.structs l.fn.tops l.functions ≡
    l.names.functions.items ++ signatures_after l.fn.structs l.fn.tops (signature_at l.names.functions.items) l.f-index (drop l.f-index l.functions))
