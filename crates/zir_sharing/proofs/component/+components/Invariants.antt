use Rattle.std.proofs.Common.{◌≡◌, drop}
use Rattle.zir_names.specs.Touched.{both, all_of}
use Rattle.zir_sharing.specs.Ascending.{in_member}
use Rattle.zir_sharing.proofs.component.+components.Given as goal

-- the rest comes to what is touched so far
abbrev pub invariant-touch_members-loop-m : goal.invariant-touch_members-loop-m
invariant-touch_members-loop-m l = both (all_of (in_member l.functions) l.ms) l.initial.touched ≡ both (all_of (in_member l.functions) (drop l.m-index l.ms)) l.touched
