use Rattle.std.proofs.Common.{ap, ◌∙◌}
use Rattle.std.specs.Prelude.{map}
use Rattle.zir_machine.specs.Understood.{members_of}
use Rattle.zir_machine.specs.Nodes.{held}
use Rattle.zir_machine.proofs.Building.{built_block, built_one}
use Rattle.zir_machine.proofs.build.+building.Goals as goal

pub build-returns-in_ok-parts-in-Block : goal.build-returns-in_ok-parts-in-Block
build-returns-in_ok-parts-in-Block t c =
    built_block c.in_ok-parts-in-Block.parts _ c.in-Block.members c.args.c.now c.in-Block.is (c.in_ok-parts-in-Block.ensures ∙ c.as_slice.ensures)

pub build_parts-loop-member-preserved : goal.build_parts-loop-member-preserved
build_parts-loop-member-preserved t c =
    ap (λ ps. members_of (map held ps)) c.in_ok-push.ensures.items
    ∙ built_one c.loop-member.parts.items c.args.members.now c.loop-member.member-index c.in_ok-part.part c.member-item.result c.member-item.result c.loop-member-test.true c.member-item.is c.loop-member.invariant c.in_ok-part.ensures.bound c.in_ok-part.ensures.what
