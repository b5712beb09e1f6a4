use Rattle.std.proofs.Common.{ℕ, ◌≡◌, ◌+◌, ◌*◌, length, ◌++◌, ◌∷◌, [], refl, length-append, arith, sym, ap, ◌∙◌, subst}
use Rattle.std.proofs.lemmas.Grind.{common_steps}
use Rattle.std.proofs.lemmas.List.Elements.{All-push}
use Rattle.std.proofs.lemmas.Slice.{pushed}
use Rattle.zir_chunk.specs.Contents.{HasRoom, AtMost, IsSmall, last_stamp}
use Rattle.zir_chunk.specs.Parts.{last_of}
use Rattle.zir_chunk.specs.declared.Chunk.TheInside.{Inside}
use Rattle.zir_chunk.proofs.Cuts.{elements_of-push, rising-push, last_of-push}
use Rattle.zir_chunk.proofs.Views.{room_within, last_stamp-is}
use Rattle.zir_chunk.proofs.Chunk.push.Goals as goal

-- one more of a size
mul-suc-one : (n k : ℕ) → n * (k + 1) ≡ n * k + n
mul-suc-one n k = omega arith

pub unwrap-requires : goal.unwrap-requires
unwrap-requires c =
    let room = room_within c.self.inside c.self.invariant (subst HasRoom (sym c.self.view_is) c.requires.room) in
    grind (arith, common_steps, c.extend_from_slice.ensures.succeeds, room.1, c.requires.size, ap (λ v. v.size) c.self.view_is, c.self.invariant.cell_room)

pub unwrap-requires-2 : goal.unwrap-requires-2
unwrap-requires-2 c =
    let room = room_within c.self.inside c.self.invariant (subst HasRoom (sym c.self.view_is) c.requires.room) in
    grind (arith, common_steps, c.push.ensures.succeeds, room.0, c.self.invariant.stamp_room)

pub invariant_of-self : goal.invariant_of-self
invariant_of-self c =
    let room = room_within c.self.inside c.self.invariant (subst HasRoom (sym c.self.view_is) c.requires.room) in
    let cells : c.extend_from_slice.new.self.items ≡ c.self.inside.cells.items ++ c.args.element.now = pushed c.args.element.now refl c.unwrap.ensures c.extend_from_slice.ensures.items in
    let stamps : c.push.new.self.items ≡ c.self.inside.stamps.items ++ c.args.stamp ∷ [] = pushed (c.args.stamp ∷ []) refl c.unwrap-2.ensures c.push.ensures.items in
    let size : length c.args.element.now ≡ c.self.inside.size = c.requires.size ∙ ap (λ v. v.size) (sym c.self.view_is) in
    let rising : AtMost (last_of c.self.inside.stamps.items) c.args.stamp = subst (λ t. AtMost t c.args.stamp) (ap last_stamp (sym c.self.view_is) ∙ last_stamp-is c.self.inside) c.requires.rising in
    record {
      some = c.self.invariant.some;
      fits = c.self.invariant.fits;
      cells = rw (cells, stamps, length-append, length-append, c.self.invariant.cells, size) (sym (mul-suc-one c.self.inside.size (length c.self.inside.stamps.items)));
      within = rw (stamps, length-append, mul-suc-one) (omega (arith, room.1, c.self.invariant.cells));
      count = rw (stamps, length-append) (omega arith);
      cell_room = omega (arith, c.extend_from_slice.ensures.capacity, c.self.invariant.cell_room);
      stamp_room = omega (arith, c.push.ensures.capacity, c.self.invariant.stamp_room);
      small = rw stamps (All-push IsSmall c.self.inside.stamps.items c.args.stamp c.self.invariant.small c.requires.small);
      rising = rw stamps (rising-push c.self.inside.stamps.items c.args.stamp c.self.invariant.rising rising);
      reached = c.self.invariant.reached;
      end_small = c.self.invariant.end_small;
      end_last = rw room.2 tt;
    }

pub returns-clause-pushed : goal.returns-clause-pushed
returns-clause-pushed c =
    let cells : c.extend_from_slice.new.self.items ≡ c.self.inside.cells.items ++ c.args.element.now = pushed c.args.element.now refl c.unwrap.ensures c.extend_from_slice.ensures.items in
    let stamps : c.push.new.self.items ≡ c.self.inside.stamps.items ++ c.args.stamp ∷ [] = pushed (c.args.stamp ∷ []) refl c.unwrap-2.ensures c.push.ensures.items in
    let size : length c.args.element.now ≡ c.self.inside.size = c.requires.size ∙ ap (λ v. v.size) (sym c.self.view_is) in
    rw (← c.self.view_is, cells, stamps, elements_of-push c.self.inside.size c.self.inside.cells.items c.self.inside.stamps.items c.args.element.now c.args.stamp c.self.invariant.cells size)

pub returns-clause-last : goal.returns-clause-last
returns-clause-last c =
    let stamps : c.push.new.self.items ≡ c.self.inside.stamps.items ++ c.args.stamp ∷ [] = pushed (c.args.stamp ∷ []) refl c.unwrap-2.ensures c.push.ensures.items in
    let parts : Inside = record { size = c.self.inside.size; cells = c.extend_from_slice.new.self; stamps = c.push.new.self; reached = c.self.inside.reached; end = c.self.inside.end } in
    last_stamp-is parts ∙ ap last_of stamps ∙ last_of-push c.self.inside.stamps.items c.args.stamp
