use Rattle.std.proofs.Common.{◌≡◌, Option, Some, None, false, refl, arith, sym, ap, subst}
use Rattle.std.proofs.lemmas.Bool.Decides.{nat_tests}
use Rattle.std.specs.Prelude.{is_some}
use Rattle.zir_chunk.specs.Contents.{HasRoom}
use Rattle.zir_chunk.proofs.Views.{room_within, has_room}
use Rattle.zir_chunk.proofs.Chunk.room.Goals as goal
use Rattle.zir_chunk.proofs.Chunk.room.Goals.{then-is_none, else-is_none}

-- an option without a value
none_of : {X : Type 0} → (o : Option X) → is_some o ≡ false → o ≡ None
none_of None e = refl
none_of (Some x) e = absurd (cc)

pub returns-then-len-lt-ELEMENTS : goal.returns-then-len-lt-ELEMENTS
returns-then-len-lt-ELEMENTS c =
    elim c.if-is_none.branch [
      | then-is_none w ↦ (
        λ t. subst HasRoom c.self.view_is (has_room c.self.inside c.self.invariant (grind (arith, nat_tests)) (grind (arith, nat_tests, t)) (none_of c.self.inside.end w.if-is_none.ensures)),
        λ r. let room = room_within c.self.inside c.self.invariant (subst HasRoom (sym c.self.view_is) r) in grind (arith, nat_tests, room.1),
      )
      | else-is_none w ↦ absurd (cc)
    ]

pub returns-else-len-lt-ELEMENTS : goal.returns-else-len-lt-ELEMENTS
returns-else-len-lt-ELEMENTS c = (
  λ t. absurd (cc),
  λ r. let room = room_within c.self.inside c.self.invariant (subst HasRoom (sym c.self.view_is) r) in
      elim c.if-is_none.branch [
        | then-is_none w ↦ grind (arith, nat_tests, room.0)
        | else-is_none w ↦ absurd (cc (ap is_some room.2, w.if-is_none.ensures))
      ],
)
