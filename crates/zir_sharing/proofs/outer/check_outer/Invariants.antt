use Rattle.std.proofs.Common.{◌≡◌, ◌++◌, drop}
use Rattle.std.specs.List.{flat_map}
use Rattle.std.specs.Prelude.{None}
use Rattle.zir_sharing.specs.Blocks.{of_decl}
use Rattle.zir_names.specs.Sharing.{first_of, outers, throughout}
use Rattle.zir_sharing.proofs.outer.check_outer.Given as goal

-- nothing is refused before this declaration
abbrev pub invariant-loop-d : goal.invariant-loop-d
invariant-loop-d l = first_of (throughout (outers l.functions None) l.ds l.p.main) ≡ first_of (flat_map (of_decl (outers l.functions None)) (drop l.d-index l.ds) ++ outers l.functions None l.p.main)
