use Rattle.std.proofs.Common.{◌≡◌, drop}
use Rattle.zir_names.specs.Statements.{in_turn}
use Rattle.zir_names.specs.Components.{member}
use Rattle.zir_names.proofs.Lists.{gathered_in}
use Rattle.zir_names.proofs.component.+components.Given as goal

-- what is made so far, and what the rest makes
abbrev pub invariant-resolve_members-loop-m : goal.invariant-resolve_members-loop-m
invariant-resolve_members-loop-m l = in_turn member l.initial.scope l.ms ≡ gathered_in l.made (in_turn member l.scope (drop l.m-index l.ms))
