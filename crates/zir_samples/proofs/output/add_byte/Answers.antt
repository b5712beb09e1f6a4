use Rattle.std.proofs.Common.{◌≡◌, ◌∷◌, [], ◌++◌, refl, subst, OnErr}
use Rattle.std.proofs.lemmas.Slice.{pushed}
use Rattle.zir_outside.specs.Sinks.{GrewPart}
use Rattle.zir_samples.proofs.output.add_byte.Goals as goal

pub returns-clause-failed : goal.returns-clause-failed
returns-clause-failed g c =
    let items : c.push.new.self.items ≡ c.args.piece.now.items ++ c.args.byte ∷ [] = pushed (c.args.byte ∷ []) refl c.unwrap.ensures c.push.ensures.items in
    subst (λ bytes. OnErr c.put_piece.result (GrewPart bytes (g.K.Sink.stands_for c.args.sink.now) (g.K.Sink.stands_for c.put_piece.new.sink))) items c.put_piece.ensures.failed
