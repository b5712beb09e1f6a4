use Rattle.std.specs.Prelude.{◌≡◌, map, take}
use Rattle.zir_machine.specs.Understood.{members_of}
use Rattle.zir_machine.specs.Nodes.{held}
use Rattle.zir_machine.proofs.build.+building.Given as goal

-- the parts so far are those of the members so far
abbrev pub invariant-build_parts-loop-member : goal.invariant-build_parts-loop-member
invariant-build_parts-loop-member l = members_of (map held l.parts.items) ≡ take l.member-index l.members
