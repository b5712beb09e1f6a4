use Rattle.std.proofs.Common.{◌≡◌, drop}
use Rattle.zir_types.specs.Components.{instance_from}
use Rattle.zir_type_components.proofs.instances.find_instance.Given as goal

-- what the whole list says, those from here on say
abbrev pub invariant-loop-place : goal.invariant-loop-place
invariant-loop-place l = instance_from 0 l.instances l.id l.input ≡ instance_from l.place (drop l.place l.instances) l.id l.input
