use Rattle.std.proofs.Common.{◌≡◌, drop}
use Rattle.std.specs.List.{flat_map}
use Rattle.std.specs.Prelude.{None}
use Rattle.zir_sharing.specs.Blocks.{of_member}
use Rattle.zir_names.specs.Sharing.{first_of, outers}
use Rattle.zir_sharing.proofs.outer.+chains.Given as goal

-- nothing is refused before this member
abbrev pub invariant-check_members-loop-m : goal.invariant-check_members-loop-m
invariant-check_members-loop-m l = first_of (flat_map (of_member (outers l.functions None)) l.ms) ≡ first_of (flat_map (of_member (outers l.functions None)) (drop l.m-index l.ms))
