use Rattle.std.proofs.Common.{◌∙◌, ap, sym, arith, take}
use Rattle.std.specs.List.{flat_map}
use Rattle.zir_names.specs.Sharing.{splits, first_place}
use Rattle.zir_sharing.specs.Marks.{stand_of, earliest, mark_in}
use Rattle.zir_sharing.specs.Blocks.{of_member}
use Rattle.zir_sharing.proofs.Tables.{mark_is}
use Rattle.zir_sharing.proofs.Conflicts.{first_place-append, flat_map_take, splits-Repeat, splits-While, splits-Times, splits-For, splits-If, splits-Block, splits-Pipe}
use Rattle.zir_sharing.proofs.splits.+splits.Goals as goal

pub first_split-returns-in-Repeat : goal.first_split-returns-in-Repeat
first_split-returns-in-Repeat t c =
    λ ss h. rw (c.in-Repeat.is, splits-Repeat) (rw (c.within.ensures, c.get.ensures) at (c.first_split.ensures ss h))

pub first_split-returns-in-While : goal.first_split-returns-in-While
first_split-returns-in-While t c =
    λ ss h. rw (c.in-While.is, splits-While) (rw (c.within-in-While.ensures, c.get-in-While.ensures) at (c.first_split-in-While.ensures ss h))

pub first_split-returns-in-Times : goal.first_split-returns-in-Times
first_split-returns-in-Times t c =
    λ ss h. rw (c.in-Times.is, splits-Times) (rw (c.within-in-Times.ensures, c.get-in-Times.ensures) at (c.first_split-in-Times.ensures ss h))

pub first_split-returns-in-For : goal.first_split-returns-in-For
first_split-returns-in-For t c =
    λ ss h. rw (c.in-For.is, splits-For) (rw (c.within-in-For.ensures, c.get-in-For.ensures) at (c.first_split-in-For.ensures ss h))

pub first_split-returns-in-If : goal.first_split-returns-in-If
first_split-returns-in-If t c =
    λ ss h. rw (c.in-If.is, splits-If, first_place-append) (rw (c.first_split-inner.ensures ss h, c.first_split-other.ensures ss h, c.within-in-If.ensures, c.within-in-If-2.ensures, c.get-in-If.ensures, c.get-in-If-2.ensures) at c.earliest.ensures)

pub first_split-returns-in-Call : goal.first_split-returns-in-Call
first_split-returns-in-Call t c =
    λ ss h. rw c.in-Call.is (c.find.ensures ∙ ap (λ ms. mark_in ms c.in-Call.f.id (stand_of c.args.stand)) (sym h) ∙ mark_is ss c.in-Call.f.id (stand_of c.args.stand))

pub first_split-returns-in-Block : goal.first_split-returns-in-Block
first_split-returns-in-Block t c =
    λ ss h. rw (c.in-Block.is, splits-Block) (rw (c.within-in-Block.ensures, c.as_slice.ensures) at (c.first_in_members.ensures ss h))

pub first_split-returns-in-Pipe : goal.first_split-returns-in-Pipe
first_split-returns-in-Pipe t c =
    λ ss h. rw (c.in-Pipe.is, splits-Pipe, first_place-append, first_place-append) (rw (c.earliest-in-Pipe.ensures, c.first_split-left.ensures ss h, c.split_at.ensures, c.first_split-right.ensures ss h, c.left_of.ensures, c.get-in-Pipe.ensures, c.get-in-Pipe-2.ensures) at c.earliest-in-Pipe-2.ensures)

pub first_in_members-loop-m-preserved : goal.first_in_members-loop-m-preserved
first_in_members-loop-m-preserved t c =
    λ ss h.
    let look = of_member (splits ss (stand_of c.args.stand)) in
    c.earliest-found.ensures ∙ ap (λ o. earliest o c.first_in_member.result) (c.loop-m.invariant ss h)
    ∙ ap (earliest (first_place (flat_map look (take c.loop-m.m-index c.args.ms.now)))) (c.first_in_member.ensures ss h)
    ∙ sym (first_place-append (flat_map look (take c.loop-m.m-index c.args.ms.now)) (look c.m-item.result))
    ∙ ap first_place (sym (flat_map_take look c.args.ms.now c.loop-m.m-index c.m-item.result (omega arith) c.m-item.is))
