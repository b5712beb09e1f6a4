-- What goes to a writer, and by it to a sink.
use Rattle.std.specs.Prelude.{ℕ, ◌<◌, ◌≡◌, refl, Bool, true, false, List, [], ◌∷◌, ◌++◌}
use Rattle.std.proofs.Common.{ap, ◌∙◌, sym, subst, arith, append_assoc}
use Rattle.std.proofs.lemmas.List.{append-nil}
use Rattle.std.proofs.lemmas.List.Elements.{All-append}
use Rattle.zir_bit_meaning.specs.Trace.{Out}
use Rattle.zir_bit_meaning.specs.Evaluation.{is_one}
use Rattle.zir_bit_meaning.specs.Composition.{values}
use Rattle.zir_bit_meaning.specs.Samples.{bits_of, spell, spell_bits}
use Rattle.zir_outside.specs.Sinks.{Grew, GrewPart}
use Rattle.zir_bit_samples.specs.Writing.{Puts}
use Rattle.zir_bit_samples.proofs.Spelling.{bits-append, spell-bits_of, spell-front}
use Rattle.zir_drive.specs.Driving.{ones, Gave}

-- a sink grew by two pieces, one after the other
grew_both : (a b c : List ℕ → Type 0) (p q : List ℕ) → Grew a b p → Grew b c q → Grew a c (p ++ q)
grew_both a b c p q f g h x = subst c (append_assoc h p q) (g (h ++ p) (f h x))

-- a sink that was left alone grew by nothing
pub grew_none : (old : List ℕ → Type 0) → Grew old old []
grew_none old h x = subst old (sym (append-nil h)) x

-- the bits of outputs, and of further ones
pub ones-append : (os ps : List Out) → ones (os ++ ps) ≡ ones os ++ ones ps
ones-append [] ps = refl
ones-append (o ∷ os) ps = ap (λ bs. is_one o.value ∷ bs) (ones-append os ps)

-- nothing was given
pub gave_none : {K : Type 0} (stands_for : K → List ℕ → Type 0) (sink : K) (kept : List Bool) → kept ≡ [] → Gave stands_for sink sink kept []
gave_none stands sink kept e = record { put = []; whole = λ k d lt. absurd (omega arith); bits = sym e; grew = grew_none (stands sink) }

-- the bits of outputs with one more
ones-one : (kept : List Bool) (os : List Out) (o : Out) (put : List ℕ) → ones os ≡ bits_of put ++ kept → ones (os ++ o ∷ []) ≡ bits_of put ++ (kept ++ is_one o.value ∷ [])
ones-one kept os o put e = ones-append os (o ∷ []) ∙ ap (λ bs. bs ++ is_one o.value ∷ []) e ∙ append_assoc (bits_of put) kept (is_one o.value ∷ [])

-- one more output was given
pub gave_one : {K : Type 0} (stands_for : K → List ℕ → Type 0) (before mid now : K) (kept new : List Bool) (os : List Out) (o : Out) →
    Gave stands_for before mid kept os → Puts stands_for mid now (kept ++ is_one o.value ∷ []) new → Gave stands_for before now new (os ++ o ∷ [])
gave_one stands before mid now kept new os o g h = record {
  put = g.put ++ h.front;
  whole = All-append (λ b. b < 256) g.put h.front g.whole h.whole;
  bits = ones-one kept os o g.put g.bits ∙ ap (λ bs. bits_of g.put ++ bs) h.bits
      ∙ sym (append_assoc (bits_of g.put) (bits_of h.front) new) ∙ ap (λ bs. bs ++ new) (sym (bits-append g.put h.front));
  grew = grew_both (stands before) (stands mid) (stands now) g.put h.front g.grew h.grew;
}

-- what outputs spell is what went to the sink, and then what is kept spells
spelled : {K : Type 0} (stands_for : K → List ℕ → Type 0) (before now : K) (kept : List Bool) (os : List Out) (finished : Bool) →
    (g : Gave stands_for before now kept os) → spell_bits finished (ones os) ≡ g.put ++ spell_bits finished kept
spelled stands before now kept os finished g = ap (spell_bits finished) g.bits ∙ spell-bits_of finished g.put kept g.whole

-- a piece, and then a front part of another one
part_after : (first piece whole : List ℕ) (a b c : List ℕ → Type 0) → whole ≡ first ++ piece → Grew a b first → GrewPart piece b c → GrewPart whole a c
part_after first piece whole a b c e f g =
    (first ++ g.0, g.1, e ∙ ap (λ bs. first ++ bs) g.2 ∙ sym (append_assoc first g.0 g.1), grew_both a b c first g.0 f g.3)

-- a whole piece is a front part of it
pub part_whole : (piece : List ℕ) (a b : List ℕ → Type 0) → Grew a b piece → GrewPart piece a b
part_whole piece a b g = (piece, [], sym (append-nil piece), g)

-- a put of one more output failed
pub gave_failed : {K : Type 0} (stands_for : K → List ℕ → Type 0) (before mid now : K) (kept : List Bool) (os : List Out) (o : Out) →
    Gave stands_for before mid kept os → GrewPart (spell_bits false (kept ++ is_one o.value ∷ [])) (stands_for mid) (stands_for now) →
    GrewPart (spell_bits false (ones (os ++ o ∷ []))) (stands_for before) (stands_for now)
gave_failed stands before mid now kept os o g h =
    part_after g.put (spell_bits false (kept ++ is_one o.value ∷ [])) (spell_bits false (ones (os ++ o ∷ []))) (stands before) (stands mid) (stands now)
    (ap (spell_bits false) (ones-one kept os o g.put g.bits) ∙ spell-bits_of false g.put (kept ++ is_one o.value ∷ []) g.whole) g.grew h

-- all that is left was written at the end
pub gave_all : {K : Type 0} (stands_for : K → List ℕ → Type 0) (before mid now : K) (kept : List Bool) (os : List Out) →
    Gave stands_for before mid kept os → Grew (stands_for mid) (stands_for now) (spell_bits true kept) → Grew (stands_for before) (stands_for now) (spell true (values os))
gave_all stands before mid now kept os g h =
    subst (Grew (stands before) (stands now)) (sym (spelled stands before mid kept os true g))
    (grew_both (stands before) (stands mid) (stands now) g.put (spell_bits true kept) g.grew h)

-- a front part of what is left was written
pub gave_part : {K : Type 0} (stands_for : K → List ℕ → Type 0) (before mid now : K) (kept : List Bool) (os : List Out) (finished : Bool) →
    Gave stands_for before mid kept os → GrewPart (spell_bits finished kept) (stands_for mid) (stands_for now) → GrewPart (spell_bits finished (ones os)) (stands_for before) (stands_for now)
gave_part stands before mid now kept os finished g h =
    part_after g.put (spell_bits finished kept) (spell_bits finished (ones os)) (stands before) (stands mid) (stands now) (spelled stands before mid kept os finished g) g.grew h

-- a front part of what the first outputs spell without padding is one of what all of them spell
pub part_of_front : (all os more : List Out) (a b : List ℕ → Type 0) → all ≡ os ++ more → GrewPart (spell_bits false (ones os)) a b → GrewPart (spell true (values all)) a b
part_of_front all os more a b e g =
    let s = spell-front true (ones os) (ones more) in
    (g.0, g.1 ++ s.0, ap (spell_bits true) (ap ones e ∙ ones-append os more) ∙ s.1 ∙ ap (λ bs. bs ++ s.0) g.2 ∙ append_assoc g.0 g.1 s.0, g.3)
