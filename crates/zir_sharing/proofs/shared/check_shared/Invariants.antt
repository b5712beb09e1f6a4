use Rattle.std.proofs.Common.{◌≡◌, ◌++◌, drop}
use Rattle.std.specs.List.{flat_map}
use Rattle.zir_sharing.specs.Blocks.{of_decl}
use Rattle.zir_names.specs.Sharing.{first_shared, joints, throughout}
use Rattle.zir_sharing.proofs.shared.check_shared.Given as goal

-- nothing is refused before this declaration
abbrev pub invariant-loop-d : goal.invariant-loop-d
invariant-loop-d l = first_shared l.functions (throughout joints l.ds l.p.main) ≡ first_shared l.functions (flat_map (of_decl joints) (drop l.d-index l.ds) ++ joints l.p.main)
