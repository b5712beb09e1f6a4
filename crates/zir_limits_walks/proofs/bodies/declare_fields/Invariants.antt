use Rattle.std.proofs.Common.{◌≡◌, ◌++◌, drop}
use Rattle.zir_types.specs.Known.{seen_fields}
use Rattle.zir_limits_walks.proofs.bodies.declare_fields.Given as goal

-- what is in scope so far, and what the rest adds
abbrev pub invariant-loop-field : goal.invariant-loop-field
invariant-loop-field l = l.initial.scope ++ seen_fields l.fields ≡ l.scope ++ seen_fields (drop l.field-index l.fields)
