use Rattle.std.proofs.Common.{◌≡◌, drop}
use Rattle.zir_names.specs.Touched.{both, all_of, in_decl, untouched}
use Rattle.zir_sharing.proofs.declarations.variables_of.Given as goal

-- the rest comes to what is touched so far
abbrev pub invariant-loop-d : goal.invariant-loop-d
invariant-loop-d l = both (all_of in_decl l.ds) untouched ≡ both (all_of in_decl (drop l.d-index l.ds)) l.touched
