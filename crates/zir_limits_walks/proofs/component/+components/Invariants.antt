use Rattle.std.proofs.Common.{◌≡◌, ◌++◌, List, drop}
use Rattle.zir_types.specs.declared.scope.Seen.{Seen}
use Rattle.zir_limits.specs.Facts.{told}
use Rattle.zir_limits.specs.Notes.{noted}
use Rattle.zir_limits_walks.specs.Components.{members_next, members_measures}
use Rattle.zir_limits_walks.proofs.component.+components.Given as goal

-- what is known, noted and in scope so far, and what the rest adds
abbrev pub invariant-walk_block-loop-m : goal.invariant-walk_block-loop-m
invariant-walk_block-loop-m l = record {
  known : members_next (told l.facts) l.initial.scope l.a l.initial.so_far l.ms ≡ members_next (told l.facts) l.scope l.a l.so_far (drop l.m-index l.ms);
  noted_ : noted (members_measures (told l.facts) l.initial.scope l.a l.ms) l.initial.notes ≡ noted (members_measures (told l.facts) l.scope l.a (drop l.m-index l.ms)) l.notes;
  seen : (xs : List Seen) × (l.scope ≡ l.initial.scope ++ xs);
}
