-- What a writer has pending after a bit, and what it puts.
use Rattle.std.proofs.Common.{ℕ, suc, ◌+◌, ◌*◌, ◌<◌, ◌≡◌, Bool, true, false, List, [], ◌∷◌, ◌++◌, length, refl, ap, sym, ◌∙◌, subst, inl, inr, ◌⊎◌, arith, append_assoc, length-append}
use Rattle.std.proofs.lemmas.List.{append-nil}
use Rattle.std.specs.Prelude.{All}
use Rattle.zir_bit_meaning.specs.Samples.{bits_of, low_bits, spell_bits}
use Rattle.zir_outside.specs.Sinks.{Grew}
use Rattle.zir_bit_samples.specs.Writing.{IsWritten, pending, Puts}
use Rattle.zir_bit_samples.proofs.Spelling.{bits-append, length-bits_of, length-low_bits, number-low_bits, spell-bits_of, spell-few, spell-few-none}

-- a sink that is left alone grew by nothing
pub grew_by_nothing : (stands : List ℕ → Type 0) → Grew stands stands []
grew_by_nothing stands h held = subst stands (sym (append-nil h)) held

-- no bit is put
pub puts_nothing : {K : Type 0} (stands_for : K → List ℕ → Type 0) (sink : K) (old new : List Bool) → old ≡ new → Puts stands_for sink sink old new
puts_nothing stands_for sink old new e = record { front = []; whole = λ k d h. absurd (omega arith); bits = e; grew = grew_by_nothing (stands_for sink); piece = inl (refl, refl) }

-- one more bit of a byte
pub bit_more : (piece : List ℕ) (count byte more : ℕ) (bit : Bool) → low_bits (suc count) more ≡ low_bits count byte ++ bit ∷ [] → pending piece count byte ++ bit ∷ [] ≡ pending piece (suc count) more
bit_more piece count byte more bit e = append_assoc (bits_of piece) (low_bits count byte) (bit ∷ []) ∙ ap (λ bits. bits_of piece ++ bits) (sym e)

-- the last bit of a byte
pub byte_more : (piece : List ℕ) (count byte more : ℕ) (bit : Bool) → count ≡ 7 → low_bits (suc count) more ≡ low_bits count byte ++ bit ∷ [] → pending piece count byte ++ bit ∷ [] ≡ bits_of (piece ++ more ∷ [])
byte_more piece count byte more bit full e =
    bit_more piece count byte more bit e
    ∙ ap (λ k. pending piece (suc k) more) full
    ∙ ap (λ bits. bits_of piece ++ bits) (sym (append-nil (low_bits 8 more)))
    ∙ sym (bits-append piece (more ∷ []))

-- how many bits are pending
pub length-pending : (piece : List ℕ) (count byte : ℕ) → length (pending piece count byte) ≡ 8 * length piece + count
length-pending piece count byte = length-append (bits_of piece) (low_bits count byte) ∙ omega (arith, length-bits_of piece, length-low_bits count byte)

-- the bits of whole bytes spell them, padded or not
pub spell-whole : (finished : Bool) (piece : List ℕ) → All (λ b. b < 256) piece → spell_bits finished (bits_of piece) ≡ piece
spell-whole f piece whole = ap (spell_bits f) (sym (append-nil (bits_of piece))) ∙ spell-bits_of f piece [] whole ∙ append-nil piece

-- padded, the bits of a last byte spell it
pub spell-pending : (piece : List ℕ) (count byte : ℕ) → IsWritten piece count byte → 0 < count → spell_bits true (pending piece count byte) ≡ piece ++ byte ∷ []
spell-pending piece count byte h some =
    spell-bits_of true piece (low_bits count byte) h.whole
    ∙ ap (λ bytes. piece ++ bytes) (spell-few (low_bits count byte) (rw length-low_bits some) (rw length-low_bits h.few) ∙ ap (λ n. n ∷ []) (number-low_bits count byte h.low))

-- where they are not padded, or there are none, only whole bytes are spelled
pub spell-pending-whole : (padded : Bool) (piece : List ℕ) (count byte : ℕ) → IsWritten piece count byte → (padded ≡ false) ⊎ (count ≡ 0) → spell_bits padded (pending piece count byte) ≡ piece
spell-pending-whole padded piece count byte h (inl e) =
    ap (λ f. spell_bits f (pending piece count byte)) e
    ∙ spell-bits_of false piece (low_bits count byte) h.whole
    ∙ ap (λ bytes. piece ++ bytes) (spell-few-none (low_bits count byte) (rw length-low_bits h.few))
    ∙ append-nil piece
spell-pending-whole padded piece count byte h (inr e) =
    ap (λ k. spell_bits padded (pending piece k byte)) e
    ∙ spell-bits_of padded piece [] h.whole
    ∙ append-nil piece
