use Rattle.std.proofs.Common.{◌≡◌, ◌∷◌, [], ◌++◌, ◌⊎◌, inl, inr, false, refl, sym, ap, ◌∙◌, arith}
use Rattle.std.proofs.lemmas.Slice.{pushed}
use Rattle.zir_meaning.specs.Samples.{spell_bits}
use Rattle.zir_samples.specs.Output.{pending}
use Rattle.zir_samples.proofs.Putting.{spell-pending, spell-pending-whole}
use Rattle.zir_samples.proofs.output.Output.put_rest.Goals as goal
use Rattle.zir_samples.proofs.output.Output.put_rest.Goals.{then-padded+then-self-gt0, else-padded, else-padded-via-then-padded+else-self-gt0, else-padded-via-else-padded}

-- the piece that is put is what the pending bits spell
spelled : (g : _) (c : goal.After-put_piece g) → spell_bits c.args.padded c.args.self.now ≡ c.if-padded.self-inside.piece.items
spelled g c =
    elim c.if-padded.branch [
      | then-padded+then-self-gt0 w ↦
          let items : w.push.new.self.items ≡ c.self.inside.piece.items ++ c.self.inside.byte ∷ [] = pushed (c.self.inside.byte ∷ []) refl w.unwrap.ensures w.push.ensures.items in
          ap (spell_bits c.args.padded) (sym c.self.view_is)
          ∙ ap (λ f. spell_bits f (pending c.self.inside.piece.items c.self.inside.count c.self.inside.byte)) w.if-padded.true
          ∙ spell-pending c.self.inside.piece.items c.self.inside.count c.self.inside.byte c.self.invariant.0 w.if-self-gt0.true
          ∙ sym items
          ∙ ap (λ parts. parts.piece.items) (sym w.self-inside-is)
      | else-padded w ↦
          let whole : (c.args.padded ≡ false) ⊎ (c.self.inside.count ≡ 0) =
          elim w.else-padded.branch [
            | else-padded-via-then-padded+else-self-gt0 v ↦ inr (omega (arith, v.if-self-gt0.false))
            | else-padded-via-else-padded v ↦ inl v.if-padded.false
          ] in
          ap (spell_bits c.args.padded) (sym c.self.view_is)
          ∙ spell-pending-whole c.args.padded c.self.inside.piece.items c.self.inside.count c.self.inside.byte c.self.invariant.0 whole
          ∙ ap (λ parts. parts.piece.items) (sym w.self-inside-is)
    ]

pub returns-clause-ok : goal.returns-clause-ok
returns-clause-ok g c = rw (spelled g c) c.put_piece.ensures.ok

pub returns-clause-failed : goal.returns-clause-failed
returns-clause-failed g c = rw (spelled g c) c.put_piece.ensures.failed

pub returns-clause-nothing : goal.returns-clause-nothing
returns-clause-nothing g c = rw (spelled g c) c.put_piece.ensures.nothing
