-- Lists whose elements are changed one by one, and stores over bits as those of the whole language.
use Rattle.std.specs.Prelude.{ℕ, zero, suc, List, [], ◌∷◌, ◌++◌, ◌≡◌, refl, Bool, true, false, if◌then◌else◌, nat_eq, map, take, drop, length}
use Rattle.std.proofs.Common.{ap, ◌∙◌}
use Rattle.zir_tree.specs.declared.value.Val as wide_val
use Rattle.zir_tree.specs.declared.value.Slot as wide_slots
use Rattle.zir_meaning.specs.Store as wide
use Rattle.zir_bit_tree.specs.declared.value.Val.{Val}
use Rattle.zir_bit_tree.specs.declared.value.Slot.{Slot}
use Rattle.zir_bit_meaning.specs.Store.{Store, look_up, merge}
use Rattle.zir_bits.specs.Wide.{wide_value}
use Rattle.zir_bits.specs.Traces.{wide_slot, wide_store}

-- of two lists after one another
pub map-after : {A B : Type 0} (f : A → B) (xs ys : List A) → map f xs ++ map f ys ≡ map f (xs ++ ys)
map-after f [] ys = refl
map-after f (x ∷ xs) ys = ap (λ zs. f x ∷ zs) (map-after f xs ys)

-- of the first so many
pub map-take : {A B : Type 0} (f : A → B) (n : ℕ) (xs : List A) → take n (map f xs) ≡ map f (take n xs)
map-take f zero xs = refl
map-take f (suc n) [] = refl
map-take f (suc n) (x ∷ xs) = ap (λ zs. f x ∷ zs) (map-take f n xs)

-- of those behind the first so many
pub map-drop : {A B : Type 0} (f : A → B) (n : ℕ) (xs : List A) → drop n (map f xs) ≡ map f (drop n xs)
map-drop f zero xs = refl
map-drop f (suc n) [] = refl
map-drop f (suc n) (x ∷ xs) = map-drop f n xs

-- they are as many
pub map-length : {A B : Type 0} (f : A → B) (xs : List A) → length (map f xs) ≡ length xs
map-length f [] = refl
map-length f (x ∷ xs) = ap suc (map-length f xs)

-- one of two values
one-of-two : (b : Bool) (v w : Val) (x : wide_val.Val) → x ≡ wide_value w → (if b then wide_value v else x) ≡ wide_value (if b then v else w)
one-of-two true v w x e = refl
one-of-two false v w x e = e

-- the value of a name
pub found-wide : (store : Store) (id : ℕ) → wide.found_or wide_val.Unit (map wide_slot store) id ≡ wide_value (look_up store id)
found-wide [] id = refl
found-wide (slot ∷ store) id =
    one-of-two (nat_eq slot.id id) slot.value (look_up store id) (wide.found_or wide_val.Unit (map wide_slot store) id) (found-wide store id)

-- where nothing was assigned the merged names are the right ones
slots-none : (left right : List wide_slots.Slot) → wide.merge_slots [] left right ≡ right
slots-none left [] = refl
slots-none left (slot ∷ right) = ap (λ slots. slot ∷ slots) (slots-none left right)

-- and so they are over bits
store-none : (left right : Store) → right ≡ merge [] left right
store-none left [] = refl
store-none left (slot ∷ right) = ap (λ store. slot ∷ store) (store-none left right)

-- stores merged where nothing was assigned
pub merge-wide : (left right : Store) → wide.merge [] (wide_store left) (wide_store right) ≡ wide_store (merge [] left right)
merge-wide left right =
    let slots : wide.merge [] (wide_store left) (wide_store right) ≡ wide_store right =
    ap (λ locals. record { tops = []; locals = locals }) (slots-none (map wide_slot left) (map wide_slot right)) in
    slots ∙ ap wide_store (store-none left right)

-- one more name
pub bound-wide : (id : ℕ) (v : Val) (store : Store) →
    wide.bound id (wide_value v) (wide_store store) ≡ wide_store (store ++ record { id = id; value = v } ∷ [])
bound-wide id v store =
    let one : Slot = record { id = id; value = v } in
    ap (λ locals. record { tops = []; locals = locals }) (map-after wide_slot store (one ∷ []))

-- fewer names
pub narrowed-wide : (n : ℕ) (store : Store) → wide.narrowed n (wide_store store) ≡ wide_store (take n store)
narrowed-wide n store = ap (λ locals. record { tops = []; locals = locals }) (map-take wide_slot n store)
