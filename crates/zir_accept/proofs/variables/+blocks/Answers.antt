use Rattle.std.proofs.Common.{◌∙◌, ◌+◌, sym, arith, drop, refl}
use Rattle.std.specs.List.{flat_map}
use Rattle.zir_accept.specs.Variables.{first_name}
use Rattle.zir_accept.specs.Finding.{of_member}
use Rattle.zir_accept.proofs.FirstNames.{name-append, name_first, name_next, name_items}
use Rattle.zir_accept.proofs.FirstNames.{blocks-Repeat, blocks-While, blocks-Times, blocks-For, blocks-If, blocks-Block, blocks-Pipe}
use Rattle.zir_accept.proofs.variables.+blocks.Goals as goal

pub find_in_comp-returns-in-Repeat : goal.find_in_comp-returns-in-Repeat
find_in_comp-returns-in-Repeat t c =
    rw (c.in-Repeat.is, blocks-Repeat) (rw c.get.ensures at c.find_in_comp.ensures)

pub find_in_comp-returns-in-While : goal.find_in_comp-returns-in-While
find_in_comp-returns-in-While t c =
    rw (c.in-While.is, blocks-While) (rw c.get-in-While.ensures at c.find_in_comp-in-While.ensures)

pub find_in_comp-returns-in-Times : goal.find_in_comp-returns-in-Times
find_in_comp-returns-in-Times t c =
    rw (c.in-Times.is, blocks-Times) (rw c.get-in-Times.ensures at c.find_in_comp-in-Times.ensures)

pub find_in_comp-returns-in-For : goal.find_in_comp-returns-in-For
find_in_comp-returns-in-For t c =
    rw (c.in-For.is, blocks-For) (rw c.get-in-For.ensures at c.find_in_comp-in-For.ensures)

pub find_in_comp-returns-in-Some : goal.find_in_comp-returns-in-Some
find_in_comp-returns-in-Some t c =
    rw (c.in-If.is, blocks-If, name-append, sym (rw c.get-in-If.ensures at c.in-Some.ensures)) refl

pub find_in_comp-returns-in-None : goal.find_in_comp-returns-in-None
find_in_comp-returns-in-None t c =
    rw (c.in-If.is, blocks-If, name-append, sym (rw c.get-in-If.ensures at c.in-None.ensures)) (rw c.get-in-None.ensures at c.find_in_comp-in-None.ensures)

pub find_in_comp-returns-in-Block : goal.find_in_comp-returns-in-Block
find_in_comp-returns-in-Block t c =
    rw (c.in-Block.is, blocks-Block) (rw c.as_slice.ensures at c.find_in_block.ensures)

pub find_in_comp-returns-in-Some-find_in_comp : goal.find_in_comp-returns-in-Some-find_in_comp
find_in_comp-returns-in-Some-find_in_comp t c =
    rw (c.in-Pipe.is, blocks-Pipe, name-append, sym (rw c.get-in-Pipe.ensures at c.in-Some-find_in_comp.ensures)) refl

pub find_in_comp-returns-in-None-find_in_comp : goal.find_in_comp-returns-in-None-find_in_comp
find_in_comp-returns-in-None-find_in_comp t c =
    rw (c.in-Pipe.is, blocks-Pipe, name-append, sym (rw c.get-in-Pipe.ensures at c.in-None-find_in_comp.ensures))
    (rw c.get-in-None-find_in_comp.ensures at c.find_in_comp-in-None-find_in_comp.ensures)

pub find_in_block-returns-in-Some : goal.find_in_block-returns-in-Some
find_in_block-returns-in-Some t c =
    sym (c.loop-m.invariant ∙ name_items c.args.x of_member c.args.ms.now c.loop-m.m-index c.m-item.result (omega arith) c.m-item.is
    ∙ name_first (first_name c.args.x (of_member c.m-item.result))
    (first_name c.args.x (flat_map of_member (drop (c.loop-m.m-index + 1) c.args.ms.now))) c.in-Some.name.now (sym c.in-Some.ensures))

pub find_in_block-loop-m-preserved : goal.find_in_block-loop-m-preserved
find_in_block-loop-m-preserved t c =
    c.loop-m.invariant ∙ name_items c.args.x of_member c.args.ms.now c.loop-m.m-index c.m-item.result (omega arith) c.m-item.is
    ∙ name_next (first_name c.args.x (of_member c.m-item.result))
    (first_name c.args.x (flat_map of_member (drop (c.loop-m.m-index + 1) c.args.ms.now))) (sym c.in_default.ensures)
