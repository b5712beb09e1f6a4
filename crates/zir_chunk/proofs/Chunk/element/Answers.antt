use Rattle.std.proofs.Common.{◌≤◌, ◌+◌, ◌*◌, length, arith, rules}
use Rattle.std.proofs.Math.Nat.{add-sub_cancel_left}
use Rattle.zir_chunk.proofs.Cuts.{cells-elements_of, piece_within}
use Rattle.zir_chunk.proofs.Views.{count_within}
use Rattle.zir_chunk.proofs.Chunk.element.Goals as goal

pub overflow_mul-start : goal.overflow_mul-start
overflow_mul-start c = omega (arith, piece_within c.self.inside.size c.args.i (length c.self.inside.stamps.items) (count_within c.self.inside c.args.i c.args.self.now c.self.view_is c.requires), c.self.invariant.within)

pub overflow_add-result : goal.overflow_add-result
overflow_add-result c = omega (arith, piece_within c.self.inside.size c.args.i (length c.self.inside.stamps.items) (count_within c.self.inside c.args.i c.args.self.now c.self.view_is c.requires), c.self.invariant.within)

pub offset_bounds-deref-start : goal.offset_bounds-deref-start
offset_bounds-deref-start c = omega (arith, piece_within c.self.inside.size c.args.i (length c.self.inside.stamps.items) (count_within c.self.inside c.args.i c.args.self.now c.self.view_is c.requires), c.self.invariant.within)

pub slice_bounds-result-end : goal.slice_bounds-result-end
slice_bounds-result-end c =
    let piece : c.args.i * c.self.inside.size + c.self.inside.size ≤ length c.deref.result.now = rw c.deref.ensures.value (omega (arith, piece_within c.self.inside.size c.args.i (length c.self.inside.stamps.items) (count_within c.self.inside c.args.i c.args.self.now c.self.view_is c.requires), c.self.invariant.cells)) in
    search rules

pub returns-clause-value : goal.returns-clause-value
returns-clause-value c = rw (← c.self.view_is, cells-elements_of c.self.inside.size c.self.inside.cells.items c.self.inside.stamps.items c.args.i (count_within c.self.inside c.args.i c.args.self.now c.self.view_is c.requires), c.deref.ensures.value, add-sub_cancel_left (c.args.i * c.self.inside.size) c.self.inside.size)
