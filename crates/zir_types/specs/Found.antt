-- What is found in scope, as code hands it on.
use Rattle.zir_types.specs.declared.scope.Signature.{Signature}
use Rattle.zir_types.specs.declared.scope.FoundFunction.{FoundFunction}
use Rattle.zir_types.specs.Scope.{Placed}

-- The function that is found, with its place.
abbrev pub placed_function : FoundFunction → Placed Signature
placed_function f = record { place = f.place; item = f.signature.now }
