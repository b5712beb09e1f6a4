-- Bits as elements and as bytes, in both meanings.
use Rattle.std.specs.Prelude.{ℕ, zero, suc, ◌+◌, ◌*◌, ◌/◌, ◌%◌, nat_eq, List, [], ◌∷◌, ◌++◌, ◌≡◌, refl, Bool, true, false, if◌then◌else◌, map, length, flat_map, sum_by}
use Rattle.std.proofs.Common.{ap, ◌∙◌}
use Rattle.std.proofs.Math.Nat.{div-one}
use Rattle.zir_tree.specs.declared.types.Base.TheVariants.{Bit as BitTy}
use Rattle.zir_tree.specs.declared.format.Format.TheVariants.{Binary}
use Rattle.zir_cells.specs.Cells.{cells_of}
use Rattle.zir_meaning.specs.Items.{Item, pieces, width}
use Rattle.zir_meaning.specs.Samples as wide
use Rattle.zir_meaning.specs.Elements as wide_elements
use Rattle.zir_bit_tree.specs.declared.value.Val.{Val}
use Rattle.zir_bit_tree.specs.declared.value.Val.TheVariants.{Unit as UnitVal, Bit as BitVal}
use Rattle.zir_bit_meaning.specs.Evaluation.{is_one}
use Rattle.zir_bit_meaning.specs.Samples.{low_bits, bits_of, number_of, spell_bits, numbered, elements, element_values, spell}
use Rattle.zir_bits.specs.Wide.{wide_value, plain}
use Rattle.zir_bits.proofs.Soundness.{EachBit}

-- the lowest bits of a number
low-same : (k n : ℕ) → wide.low_bits k n ≡ low_bits k n
low-same zero n = refl
low-same (suc k) n = ap (λ bits. nat_eq (n % 2) 1 ∷ bits) (low-same k (n / 2))

-- the bits of bytes
bits-same : (bytes : List ℕ) → wide.bits_of bytes ≡ bits_of bytes
bits-same [] = refl
bits-same (byte ∷ bytes) = ap (λ bits. bits ++ wide.bits_of bytes) (low-same 8 byte) ∙ ap (λ bits. low_bits 8 byte ++ bits) (bits-same bytes)

-- the number of a bit, which is one
abbrev item : Bool → Item
item b = record { number = wide.number_at BitTy (b ∷ []); size = width BitTy }

-- pieces of one
pieces-one : {T : Type 0} (xs : List T) → pieces (length xs) 1 xs ≡ map (λ x. x ∷ []) xs
pieces-one [] = refl
pieces-one (x ∷ xs) = ap (λ more. (x ∷ []) ∷ more) (pieces-one xs)

-- and so many of them as there are
pieces-all : {T : Type 0} (xs : List T) → pieces (length xs / 1) 1 xs ≡ map (λ x. x ∷ []) xs
pieces-all xs = ap (λ n. pieces n 1 xs) (div-one (length xs)) ∙ pieces-one xs

-- bits as numbers
items-same : (bits : List Bool) → wide.bit_items BitTy bits ≡ map item bits
items-same bits =
    ap (map (λ piece. record { number = wide.number_at BitTy piece; size = width BitTy })) (pieces-all bits) ∙ items-one bits
  where
    items-one : (bits : List Bool) →
        map (λ piece. record { number = wide.number_at BitTy piece; size = width BitTy }) (map (λ b. b ∷ []) bits) ≡ map item bits
    items-one [] = refl
    items-one (b ∷ bits) = ap (λ more. item b ∷ more) (items-one bits)

-- the value of a bit's number is the bit
item-value : (b : Bool) → wide_elements.array_of [] BitTy ((item b).number ∷ []) ≡ wide_value (BitVal b)
item-value true = refl
item-value false = refl

-- the values of elements that are made of one number each
placed-values : (at : ℕ) (bits : List Bool) →
    wide_elements.element_values (wide_elements.placed (plain BitTy) at (map (λ x. x ∷ []) (map item bits))) ≡ map (λ b. wide_value (BitVal b)) bits
placed-values at [] = refl
placed-values at (b ∷ bits) =
    let after : ℕ = at + sum_by (λ i. i.size) (item b ∷ []) in
    ap (λ v. v ∷ wide_elements.element_values (wide_elements.placed (plain BitTy) after (map (λ x. x ∷ []) (map item bits)))) (item-value b)
    ∙ ap (λ vs. wide_value (BitVal b) ∷ vs) (placed-values after bits)

-- the values of the elements of bits
numbered-values : (k : ℕ) (bits : List Bool) → map (λ b. wide_value (BitVal b)) bits ≡ map wide_value (element_values (numbered k bits))
numbered-values k [] = refl
numbered-values k (b ∷ bits) = ap (λ vs. wide_value (BitVal b) ∷ vs) (numbered-values (k + 1) bits)

-- the elements of bits are bits
pub numbered-bits : (k : ℕ) (bits : List Bool) → EachBit (element_values (numbered k bits))
numbered-bits k [] = tt
numbered-bits k (b ∷ bits) = (tt, numbered-bits (k + 1) bits)

-- the values of the elements of bytes
pub elements-same : (bytes : List ℕ) →
    wide_elements.element_values (wide_elements.elements Binary (plain BitTy) bytes true).found ≡ map wide_value (element_values (elements bytes true).found)
elements-same bytes =
    let of_items = λ (items : List Item). wide_elements.element_values (wide_elements.gathered (plain BitTy) items) in
    let of_pieces = λ (pieces : List (List Item)). wide_elements.element_values (wide_elements.placed (plain BitTy) 0 pieces) in
    ap of_items (items-same (wide.bits_of bytes))
    ∙ ap of_pieces (pieces-all (map item (wide.bits_of bytes)))
    ∙ placed-values 0 (wide.bits_of bytes)
    ∙ ap (map (λ b. wide_value (BitVal b))) (bits-same bytes)
    ∙ numbered-values 0 (bits_of bytes)

-- the bits of values that are bits
spelled-bits : (vs : List Val) → EachBit vs → flat_map (wide.bits_at BitTy) (flat_map cells_of (map wide_value vs)) ≡ map is_one vs
spelled-bits [] f = refl
spelled-bits (UnitVal ∷ vs) f = absurd f.0
spelled-bits (BitVal true ∷ vs) f = ap (λ bits. true ∷ bits) (spelled-bits vs f.1)
spelled-bits (BitVal false ∷ vs) f = ap (λ bits. false ∷ bits) (spelled-bits vs f.1)

-- the number whose bits these are
number-same : (bits : List Bool) → wide.number_of bits ≡ number_of bits
number-same [] = refl
number-same (b ∷ bits) = ap (λ n. (if b then 1 else 0) + 2 * n) (number-same bits)

-- bits as bytes
bytes-same : (bits : List Bool) → wide.spell_bits true bits ≡ spell_bits true bits
bytes-same [] = refl
bytes-same (a ∷ b ∷ c ∷ d ∷ e ∷ f ∷ g ∷ h ∷ bits) =
    ap (λ n. n ∷ wide.spell_bits true bits) (number-same (a ∷ b ∷ c ∷ d ∷ e ∷ f ∷ g ∷ h ∷ []))
    ∙ ap (λ bytes. number_of (a ∷ b ∷ c ∷ d ∷ e ∷ f ∷ g ∷ h ∷ []) ∷ bytes) (bytes-same bits)
bytes-same (a ∷ []) = ap (λ n. n ∷ []) (number-same (a ∷ []))
bytes-same (a ∷ b ∷ []) = ap (λ n. n ∷ []) (number-same (a ∷ b ∷ []))
bytes-same (a ∷ b ∷ c ∷ []) = ap (λ n. n ∷ []) (number-same (a ∷ b ∷ c ∷ []))
bytes-same (a ∷ b ∷ c ∷ d ∷ []) = ap (λ n. n ∷ []) (number-same (a ∷ b ∷ c ∷ d ∷ []))
bytes-same (a ∷ b ∷ c ∷ d ∷ e ∷ []) = ap (λ n. n ∷ []) (number-same (a ∷ b ∷ c ∷ d ∷ e ∷ []))
bytes-same (a ∷ b ∷ c ∷ d ∷ e ∷ f ∷ []) = ap (λ n. n ∷ []) (number-same (a ∷ b ∷ c ∷ d ∷ e ∷ f ∷ []))
bytes-same (a ∷ b ∷ c ∷ d ∷ e ∷ f ∷ g ∷ []) = ap (λ n. n ∷ []) (number-same (a ∷ b ∷ c ∷ d ∷ e ∷ f ∷ g ∷ []))

-- the bytes of values that are bits
pub spell-same : (vs : List Val) → EachBit vs → wide_elements.spell Binary (plain BitTy) (map wide_value vs) true ≡ spell true vs
spell-same vs f = ap (wide.spell_bits true) (spelled-bits vs f) ∙ bytes-same (map is_one vs)
