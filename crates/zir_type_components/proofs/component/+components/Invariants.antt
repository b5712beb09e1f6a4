use Rattle.std.proofs.Common.{◌≡◌, ◌+◌, ◌≤◌, length, drop}
use Rattle.zir_types.specs.Components.{no_members}
use Rattle.zir_type_components.specs.Answers.{up_to}
use Rattle.zir_type_components.specs.Calls.{makers_at}
use Rattle.zir_type_components.specs.Blocks.{gathered_at, members_of}
use Rattle.zir_type_components.specs.Sizes.{size_of, size_of_member, size_of_members, heights}
use Rattle.zir_type_components.proofs.component.+components.Given as goal

abbrev pub decreases-type_comp : goal.decreases-type_comp
decreases-type_comp l = size_of (heights (drop l.site.from l.site.comps.now)) l.c.now

abbrev pub decreases-type_part : goal.decreases-type_part
decreases-type_part l = 1 + size_of (heights (drop l.site.from l.site.comps.now)) l.c.now

abbrev pub decreases-type_indexed : goal.decreases-type_indexed
decreases-type_indexed l = 1 + size_of (heights (drop l.site.from l.site.comps.now)) l.inner.now

abbrev pub decreases-type_while : goal.decreases-type_while
decreases-type_while l = 2 + size_of (heights (drop l.site.from l.site.comps.now)) l.inner.now

abbrev pub decreases-type_times : goal.decreases-type_times
decreases-type_times l = 2 + size_of (heights (drop l.site.from l.site.comps.now)) l.inner.now

abbrev pub decreases-type_for : goal.decreases-type_for
decreases-type_for l = 2 + size_of (heights (drop l.site.from l.site.comps.now)) l.inner.now

abbrev pub decreases-type_if : goal.decreases-type_if
decreases-type_if l =
    2 + (size_of (heights (drop l.site.from l.site.comps.now)) l.inner.now + size_of (heights (drop l.site.from l.site.comps.now)) l.other.now)

abbrev pub decreases-type_call : goal.decreases-type_call
decreases-type_call l = 3 + heights (drop l.site.from l.site.comps.now) l.f.now.id

abbrev pub decreases-type_body : goal.decreases-type_body
decreases-type_body l = 2 + size_of (heights (drop l.found.next l.site.comps.now)) l.found.comp.now.body

abbrev pub decreases-type_block : goal.decreases-type_block
decreases-type_block l = 3 + size_of_members (heights (drop l.site.from l.site.comps.now)) l.ms.now

abbrev pub decreases-type_members : goal.decreases-type_members
decreases-type_members l = 2 + size_of_members (heights (drop l.site.from l.site.comps.now)) l.ms.now

abbrev pub decreases-type_member : goal.decreases-type_member
decreases-type_member l = 1 + size_of_member (heights (drop l.site.from l.site.comps.now)) l.m.now

-- What the members so far and those left make is what all make, and what they declare will leave the scope.
abbrev pub invariant-type_members-loop-rest : goal.invariant-type_members-loop-rest
invariant-type_members-loop-rest l =
    (size_of_members (heights (drop l.site.from l.site.comps.now)) l.rest ≤ size_of_members (heights (drop l.site.from l.site.comps.now)) l.ms)
    × (up_to (length l.initial.scope.variables) l.scope ≡ l.initial.scope)
    × (members_of (makers_at l.site l.initial.scope) l.initial.scope l.site.around l.input (no_members l.initial.instances) l.ms
    ≡ members_of (makers_at l.site l.initial.scope) l.scope l.site.around l.input (gathered_at l.members l.instances) l.rest)

abbrev pub decreases-type_members-loop-rest : goal.decreases-type_members-loop-rest
decreases-type_members-loop-rest l = length l.rest
