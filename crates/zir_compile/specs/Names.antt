-- What names mean to the definitions of code.
use Rattle.std.specs.Prelude.{ℕ, List, Option, None, unwrap_or, slice_get}
use Rattle.zir_code.specs.declared.scope.Signature.{Signature}
use Rattle.zir_code.specs.Scopes.{Scope}
use Rattle.zir_compile.specs.declared.scope.Names.{Names}

-- the signature of the function at this place, where there is one
abbrev pub signature_at : List (Option Signature) → ℕ → Option Signature
signature_at functions k = unwrap_or (slice_get functions k) None

-- names in scope, to the definitions
abbrev pub scope_of : Names → Scope
scope_of names =
    record { structs = names.structs; tops = names.tops; locals = names.locals.items; funs = signature_at names.functions.items }
