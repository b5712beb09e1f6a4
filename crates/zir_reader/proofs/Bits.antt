-- Numbers that stand in bits, from one on.
use Rattle.std.proofs.Common.{ℕ, zero, suc, ◌+◌, ◌-◌, ◌*◌, ◌/◌, ◌%◌, ◌<◌, ◌≤◌, ◌≡◌, Bool, Some, List, [], ◌∷◌, ◌++◌, length, length-append, length-drop, take, drop, refl, ap, sym, ◌∙◌, arith}
use Rattle.std.proofs.lemmas.List.{drop-append-le, drop-drop, take-append-le}
use Rattle.std.proofs.Math.Nat.{div-eq_of_lt, div-eq-sub-div}
use Rattle.std.proofs.Common.{add-one}
use Rattle.std.specs.Prelude.{if◌then◌else◌, map}
use Rattle.zir_tree.specs.declared.format.Format.TheVariants.{Binary}
use Rattle.zir_tree.specs.declared.types.Base.{Base}
use Rattle.zir_tree.specs.declared.types.Base.TheVariants.{Unit as UnitTy, Bit, Bool as BoolTy, Int8, Int16, Int32, Int64, Complex16, Complex32, Struct}
use Rattle.zir_meaning.specs.Items.{Item, pieces, width}
use Rattle.zir_meaning.specs.Samples.{bit_items, bits_of, number_at}
use Rattle.zir_samples.specs.declared.text.Front.{Front}
use Rattle.zir_samples.specs.declared.text.Front.TheVariants.{Item as FrontItem, Nothing, Malformed}
use Rattle.zir_samples.proofs.Spelling.{bits-append, length-bits_of}
use Rattle.zir_reader.specs.Numbers.{Decides, DecidesBits, items_from}

-- no number has more than 64 bits
pub width-most : (base : Base) → width base ≤ 64
width-most UnitTy = omega arith
width-most Bit = omega arith
width-most BoolTy = omega arith
width-most Int8 = omega arith
width-most Int16 = omega arith
width-most Int32 = omega arith
width-most Int64 = omega arith
width-most Complex16 = omega arith
width-most Complex32 = omega arith
width-most (Struct k) = omega arith

-- the bits behind whole bytes
drop-bytes : (k r : ℕ) (bytes : List ℕ) → drop (8 * k + r) (bits_of bytes) ≡ drop r (bits_of (drop k bytes))
drop-bytes zero r bytes = ap (λ n. drop n (bits_of bytes)) (let e : 8 * 0 + r ≡ r = omega arith in e)
drop-bytes (suc k) r [] = nothing (8 * suc k + r) r
  where
    nothing : (n m : ℕ) → drop n (bits_of []) ≡ drop m (bits_of [])
    nothing zero zero = refl
    nothing zero (suc m) = refl
    nothing (suc n) zero = refl
    nothing (suc n) (suc m) = refl
drop-bytes (suc k) r (b ∷ bytes) =
    ap (λ n. drop n (bits_of (b ∷ bytes))) (let e : 8 * suc k + r ≡ 8 + (8 * k + r) = omega arith in e)
    ∙ sym (drop-drop (8 * k + r) 8 (bits_of (b ∷ bytes)))
    ∙ drop-bytes k r bytes

-- a number stands in front of the others
bit_items-first : (base : Base) (bits : List Bool) → 0 < width base → width base ≤ length bits → bit_items base bits ≡ record { number = number_at base (take (width base) bits); size = width base } ∷ bit_items base (drop (width base) bits)
bit_items-first base bits some enough =
    let w = width base in
    let n = length bits in
    let item : List Bool → Item = λ piece. record { number = number_at base piece; size = w } in
    let count : n / w ≡ suc (length (drop w bits) / w) = div-eq-sub-div some enough ∙ ap (λ k. k / w + 1) (sym (length-drop w bits)) ∙ add-one (length (drop w bits) / w) in
    ap (λ k. map item (pieces k w bits)) count

-- bits too few for a number hold none
bit_items-none : (base : Base) (bits : List Bool) → length bits < width base → bit_items base bits ≡ []
bit_items-none base bits few = ap (λ k. map (λ piece. record { number = number_at base piece; size = width base }) (pieces k (width base) bits)) (div-eq_of_lt few)

-- how many bits stand from one on
length-from : (bit : ℕ) (bytes : List ℕ) → length (drop bit (bits_of bytes)) ≡ 8 * length bytes - bit
length-from bit bytes = length-drop bit (bits_of bytes) ∙ ap (λ n. n - bit) (length-bits_of bytes)

-- a number in the first bytes is one in all of them, and the others follow it
items-first : (base : Base) (bit : ℕ) (bytes more : List ℕ) → 0 < width base → bit + width base ≤ 8 * length bytes →
    items_from Binary base bit (bytes ++ more) ≡ Some (record { number = number_at base (take (width base) (drop bit (bits_of bytes))); size = width base })
    ∷ items_from Binary base ((bit + width base) % 8) (drop ((bit + width base) / 8) bytes ++ more)
items-first base bit bytes more some enough =
    let w = width base in
    let k = (bit + w) / 8 in
    let r = (bit + w) % 8 in
    let all = bits_of (bytes ++ more) in
    let own = drop bit (bits_of bytes) in
    let inside : w ≤ length own = omega (arith, length-from bit bytes, enough) in
    let before : bit ≤ length (bits_of bytes) = omega (arith, length-bits_of bytes, enough) in
    let split : drop bit all ≡ own ++ bits_of more = ap (drop bit) (bits-append bytes more) ∙ drop-append-le bit (bits_of bytes) (bits_of more) before in
    let long : w ≤ length (drop bit all) = omega (arith, ap length split, length-append own (bits_of more), inside) in
    let front : take w (drop bit all) ≡ take w own = ap (take w) split ∙ take-append-le w own (bits_of more) inside in
    let place : bit + w ≡ 8 * k + r = omega arith in
    let whole : k ≤ length bytes = omega (arith, enough) in
    let rest : drop w (drop bit all) ≡ drop r (bits_of (drop k bytes ++ more)) =
    drop-drop w bit all ∙ ap (λ n. drop n all) place ∙ drop-bytes k r (bytes ++ more) ∙ ap (λ bs. drop r (bits_of bs)) (drop-append-le k bytes more whole) in
    ap (map (λ (item : Item). Some item)) (bit_items-first base (drop bit all) some long)
    ∙ ap (λ bits. Some (record { number = number_at base bits; size = w }) ∷ map (λ (item : Item). Some item) (bit_items base (drop w (drop bit all)))) front
    ∙ ap (λ bits. Some (record { number = number_at base (take w own); size = w }) ∷ map (λ (item : Item). Some item) (bit_items base bits)) rest

-- what the bytes held decide in the binary format
pub decides-bits : (base : Base) (bytes : List ℕ) (bit : ℕ) (ended : Bool) (front : Front) → 0 < width base → bit < 8 → DecidesBits base bytes bit front → Decides (record { format = Binary; base = base; bytes = bytes; bit = bit; ended = ended }) front
decides-bits base bytes bit ended (FrontItem z size) some near h left =
    let more = if ended then [] else left in
    let inside : bit + width base ≤ 8 * length bytes = omega (arith, h.1, h.0) in
    rw (h.2, h.0) (width-most base, omega (arith, inside), items-first base bit bytes more some inside)
decides-bits base bytes bit ended Nothing some near h left = (omega (arith, h, width-most base, near), λ e. rw e (ap (map (λ (item : Item). Some item)) (bit_items-none base (drop bit (bits_of (bytes ++ []))) (omega (arith, length-from bit (bytes ++ []), length-append bytes [], h, some)))))
decides-bits base bytes bit ended Malformed some near h left = absurd h
