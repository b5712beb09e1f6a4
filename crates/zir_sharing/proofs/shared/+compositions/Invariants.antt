use Rattle.std.proofs.Common.{◌≡◌, drop}
use Rattle.std.specs.List.{flat_map}
use Rattle.zir_sharing.specs.Blocks.{of_member}
use Rattle.zir_names.specs.Sharing.{first_shared, joints}
use Rattle.zir_sharing.proofs.shared.+compositions.Given as goal

-- nothing is refused before this member
abbrev pub invariant-check_members-loop-m : goal.invariant-check_members-loop-m
invariant-check_members-loop-m l = first_shared l.functions (flat_map (of_member joints) l.ms) ≡ first_shared l.functions (flat_map (of_member joints) (drop l.m-index l.ms))
