use Rattle.std.proofs.Common.{◌≡◌, drop}
use Rattle.zir_names.specs.Touched.{both, all_of, in_access}
use Rattle.zir_sharing.proofs.statement.touch_path.Given as goal

-- the rest comes to what is touched so far
abbrev pub invariant-loop-access : goal.invariant-loop-access
invariant-loop-access l = both (all_of (in_access l.functions) l.path) l.initial.touched ≡ both (all_of (in_access l.functions) (drop l.access-index l.path)) l.touched
