use Rattle.std.proofs.Common.{◌≡◌, take}
use Rattle.std.specs.List.{flat_map}
use Rattle.std.specs.Prelude.{List}
use Rattle.zir_sharing.specs.Blocks.{of_member}
use Rattle.zir_names.specs.Sharing.{Splits, splits, first_place}
use Rattle.zir_sharing.specs.Marks.{stand_of, marks_of}
use Rattle.zir_sharing.proofs.splits.+splits.Given as goal

-- the first place in the members before this one
abbrev pub invariant-first_in_members-loop-m : goal.invariant-first_in_members-loop-m
invariant-first_in_members-loop-m l = (ss : List Splits) → marks_of ss ≡ l.marks → l.found ≡ first_place (flat_map (of_member (splits ss (stand_of l.stand))) (take l.m-index l.ms))
