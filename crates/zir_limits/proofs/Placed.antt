-- The first variable of a number, by its place.
use Rattle.std.specs.Prelude.{◌≡◌, ℕ, zero, suc, ◌+◌, ◌-◌, ◌<◌, ◌≤◌, List, [], ◌∷◌, ◌++◌, Bool, true, false, ◌&&◌, Option, Some, None, length, nat_eq, slice_index, slice_index_or, if◌then◌else◌, refl}
use Rattle.std.proofs.Common.{ap, ◌∙◌, sym, subst, arith, inl, inr}
use Rattle.std.proofs.lemmas.Bool.{cases_Bool, cases_eq, cond-true, cond-false, eq-eqb, eqb-true}
use Rattle.std.proofs.lemmas.Bool.Decides.{nat_tests}
use Rattle.zir_tree.specs.declared.types.Ty.{Ty}
use Rattle.zir_types.specs.declared.scope.Seen.{Seen}
use Rattle.zir_types.specs.Scope.{type_in}
use Rattle.zir_limits.specs.Places.{place_from}

-- no place is past the end
pub place-most : (k : ℕ) (vs : List Seen) (id : ℕ) → place_from k vs id ≤ k + length vs
place-most k [] id = omega arith
place-most k (v ∷ vs) id = elim (nat_eq v.id id) as (λ b. (if b then suc k else place_from (suc k) vs id) ≤ k + suc (length vs)) [
  | true ↦ omega arith
  | false ↦ omega (arith, place-most (suc k) vs id)
]

-- a place is behind those before
place-least : (k : ℕ) (vs : List Seen) (id : ℕ) → 0 < place_from k vs id → k < place_from k vs id
place-least k [] id h = absurd (omega arith)
place-least k (v ∷ vs) id h =
    (elim (nat_eq v.id id) as (λ b. 0 < (if b then suc k else place_from (suc k) vs id) → k < (if b then suc k else place_from (suc k) vs id)) [
      | true ↦ λ l. omega arith
      | false ↦ λ l. omega (arith, place-least (suc k) vs id l)
    ]) h

place-none : (k : ℕ) (vs : List Seen) (id : ℕ) → place_from k vs id ≡ 0 → type_in vs id ≡ None
place-none k [] id h = refl
place-none k (v ∷ vs) id h =
    (elim (nat_eq v.id id) as (λ b. (if b then suc k else place_from (suc k) vs id) ≡ 0 → (if b then Some v.ty else type_in vs id) ≡ None) [
      | true ↦ λ l. absurd (omega arith)
      | false ↦ λ l. place-none (suc k) vs id l
    ]) h

-- the variable at a place behind this one
behind_first : (k : ℕ) (w : Seen) (vs : List Seen) (id j : ℕ) (v : Seen) → place_from (suc k) vs id ≡ suc (k + j) → v ≡ slice_index_or (w ∷ vs) j v →
    ((i : ℕ) → place_from (suc k) vs id ≡ suc (suc k + i) → v ≡ slice_index_or vs i v → type_in vs id ≡ Some v.ty) → type_in vs id ≡ Some v.ty
behind_first k w vs id zero v h is next = absurd (let low = place-least (suc k) vs id (omega arith) in omega arith)
behind_first k w vs id (suc j) v h is next = next j (omega arith) is

place-some : (k : ℕ) (vs : List Seen) (id j : ℕ) (v : Seen) → place_from k vs id ≡ suc (k + j) → v ≡ slice_index_or vs j v → type_in vs id ≡ Some v.ty
place-some k [] id j v h is = absurd (omega arith)
place-some k (w ∷ vs) id j v h is =
    (elim (nat_eq w.id id) as (λ b. (if b then suc k else place_from (suc k) vs id) ≡ suc (k + j) → (if b then Some w.ty else type_in vs id) ≡ Some v.ty) [
      | true ↦ λ l. let none : j ≡ 0 = omega arith in ap (λ (x : Seen). Some x.ty) (sym (is ∙ ap (λ i. slice_index_or (w ∷ vs) i v) none))
      | false ↦ λ l. behind_first k w vs id j v l is (λ i m at. place-some (suc k) vs id i v m at)
    ]) h

-- what a place says of a number's type
pub none_found : (vs : List Seen) (id place : ℕ) → place ≡ place_from 0 vs id → place ≡ 0 → None ≡ type_in vs id
none_found vs id place h z = sym (place-none 0 vs id (sym h ∙ z))

pub one_found : (vs : List Seen) (id place : ℕ) (v : Seen) → place ≡ place_from 0 vs id → 0 < place → v ≡ slice_index_or vs (place - 1) v → Some v.ty ≡ type_in vs id
one_found vs id place v h some is = sym (place-some 0 vs id (place - 1) v (omega arith) is)

-- a number that has its place keeps it
place-kept : (k : ℕ) (vs ws : List Seen) (id : ℕ) → 0 < place_from k vs id → place_from k (vs ++ ws) id ≡ place_from k vs id
place-kept k [] ws id h = absurd (omega arith)
place-kept k (v ∷ vs) ws id h =
    (elim (nat_eq v.id id) as (λ b. 0 < (if b then suc k else place_from (suc k) vs id) → (if b then suc k else place_from (suc k) (vs ++ ws) id) ≡ (if b then suc k else place_from (suc k) vs id)) [
      | true ↦ λ l. refl
      | false ↦ λ l. place-kept (suc k) vs ws id l
    ]) h

-- a number that has none gets it from the last variable
place-new : (k : ℕ) (vs : List Seen) (w : Seen) (id : ℕ) → place_from k vs id ≡ 0 → place_from k (vs ++ w ∷ []) id ≡ (if nat_eq w.id id then suc (k + length vs) else 0)
place-new k [] w id h = ap (λ n. if nat_eq w.id id then suc n else 0) (let e : k ≡ k + 0 = omega arith in e)
place-new k (v ∷ vs) w id h =
    (elim (nat_eq v.id id) as (λ b. (if b then suc k else place_from (suc k) vs id) ≡ 0 →
    (if b then suc k else place_from (suc k) (vs ++ w ∷ []) id) ≡ (if nat_eq w.id id then suc (k + suc (length vs)) else 0)) [
      | true ↦ λ l. absurd (omega arith)
      | false ↦ λ l. place-new (suc k) vs w id l ∙ ap (λ n. if nat_eq w.id id then suc n else 0) (let e : suc k + length vs ≡ k + suc (length vs) = omega arith in e)
    ]) h

new_place : (q id old place n : ℕ) → old ≡ 0 → place ≡ suc n → (if nat_eq q id && nat_eq old 0 then place else old) ≡ (if nat_eq id q then suc (0 + n) else 0)
new_place q id old place n z p = grind (arith, nat_tests)

old_place : (q id old place : ℕ) → (old ≡ 0 → ⊥) → (if nat_eq q id && nat_eq old 0 then place else old) ≡ old
old_place q id old place s = grind (arith, nat_tests)

gone_place : (q id old place n : ℕ) → old ≡ (if nat_eq id q then suc (0 + n) else 0) → place ≡ suc n → (if nat_eq q id && nat_eq old place then 0 else old) ≡ 0
gone_place q id old place n h p = grind (arith, nat_tests)

other_place : (q id old place : ℕ) → (old ≡ place → ⊥) → (if nat_eq q id && nat_eq old place then 0 else old) ≡ old
other_place q id old place s = grind (arith, nat_tests)

-- places with one more variable
pub settled : (vs : List Seen) (w : Seen) (old now q place : ℕ) → old ≡ place_from 0 vs q → place ≡ suc (length vs) →
    now ≡ (if nat_eq q w.id && nat_eq old 0 then place else old) → now ≡ place_from 0 (vs ++ w ∷ []) q
settled vs w old now q place h p e = elim (cases_eq old 0) [
  | inl z ↦ e ∙ new_place q w.id old place (length vs) z p ∙ sym (place-new 0 vs w q (sym h ∙ z))
  | inr s ↦ e ∙ old_place q w.id old place s ∙ h ∙ sym (place-kept 0 vs (w ∷ []) q (omega arith))
]

-- places with the last variable gone
pub forgotten : (vs : List Seen) (w : Seen) (old now q place : ℕ) → old ≡ place_from 0 (vs ++ w ∷ []) q → place ≡ suc (length vs) →
    now ≡ (if nat_eq q w.id && nat_eq old place then 0 else old) → now ≡ place_from 0 vs q
forgotten vs w old now q place h p e = elim (cases_eq (place_from 0 vs q) 0) [
  | inl z ↦ e ∙ gone_place q w.id old place (length vs) (h ∙ place-new 0 vs w q z) p ∙ sym z
  | inr s ↦ e ∙ other_place q w.id old place (let most = place-most 0 vs q in let kept = place-kept 0 vs (w ∷ []) q (omega arith) in omega arith) ∙ h ∙ place-kept 0 vs (w ∷ []) q (omega arith)
]
