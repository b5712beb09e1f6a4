use Rattle.std.proofs.Common.{◌≡◌, drop}
use Rattle.zir_types.specs.Scope.{field_from}
use Rattle.zir_limits.proofs.known.field_type.Given as goal

-- what the whole list says, those from here on say
abbrev pub invariant-loop-place : goal.invariant-loop-place
invariant-loop-place l = field_from 0 l.fields l.name ≡ field_from l.place (drop l.place l.fields) l.name
