use Rattle.std.proofs.Common.{◌≡◌, ap, sym, ◌∙◌, subst}
use Rattle.zir_chunk.specs.Contents.{AtMost, last_stamp}
use Rattle.zir_chunk.specs.Parts.{last_of}
use Rattle.zir_chunk.proofs.Views.{last_stamp-is}
use Rattle.zir_chunk.proofs.Chunk.mark.Goals as goal

pub invariant_of-self : goal.invariant_of-self
invariant_of-self c =
    let same : last_stamp c.args.self.now ≡ last_of c.self.inside.stamps.items = ap last_stamp (sym c.self.view_is) ∙ last_stamp-is c.self.inside in
    record {
      some = c.self.invariant.some;
      fits = c.self.invariant.fits;
      cells = c.self.invariant.cells;
      within = c.self.invariant.within;
      count = c.self.invariant.count;
      cell_room = c.self.invariant.cell_room;
      stamp_room = c.self.invariant.stamp_room;
      small = c.self.invariant.small;
      rising = c.self.invariant.rising;
      reached = c.self.invariant.reached;
      end_small = c.requires.small;
      end_last = subst (λ t. AtMost t c.args.at) same c.requires.rising;
    }
