use Rattle.std.proofs.Common.{◌≡◌, drop}
use Rattle.std.specs.List.{flat_map}
use Rattle.zir_accept.specs.Variables.{first_name}
use Rattle.zir_accept.specs.Finding.{of_member}
use Rattle.zir_accept.proofs.variables.+blocks.Given as goal

-- the first name in all members is the first in those from here on
abbrev pub invariant-find_in_block-loop-m : goal.invariant-find_in_block-loop-m
invariant-find_in_block-loop-m l = first_name l.x (flat_map of_member l.ms) ≡ first_name l.x (flat_map of_member (drop l.m-index l.ms))
