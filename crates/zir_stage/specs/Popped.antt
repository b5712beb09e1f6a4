-- What is left of the calls of a thread when the innermost one is over.
use Rattle.std.specs.Prelude.{List, [], ◌∷◌, Option, Some, None, ◌≡◌}
use Rattle.zir_flow.specs.declared.instruction.Caller.{Caller}

-- the innermost call is taken away, if there is one
abbrev pub IsPopped : Option Caller → List Caller → List Caller → Type 0
IsPopped (Some c) calls calls' = calls ≡ c ∷ calls'
IsPopped None calls calls' = (calls ≡ []) × (calls' ≡ [])
