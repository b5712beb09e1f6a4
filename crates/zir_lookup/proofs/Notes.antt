-- Notes of first places in a list that grows and is cut.
use Rattle.std.specs.Prelude.{◌≡◌, refl, ℕ, zero, suc, ◌+◌, false, cond, List, [], ◌∷◌, ◌++◌, length, Option, Some, None, nat_eq, slice_get, if◌then◌else◌}
use Rattle.std.proofs.Common.{ap, ◌∙◌, sym, subst, arith, inl, inr}
use Rattle.std.proofs.lemmas.Bool.{cases_Bool, eq-eqb, eqb-true}
use Rattle.zir_lookup.specs.Numbers.{place_from, if_there, noted, AreNoted}

-- what is found stays where it is found
found-append : (n : ℕ) (xs ys : List ℕ) (id p : ℕ) → place_from n xs id ≡ Some p → place_from n (xs ++ ys) id ≡ Some p
found-append n [] ys id p h = absurd cc
found-append n (x ∷ xs) ys id p h = elim (cases_Bool (nat_eq x id)) [
  | inl e ↦ rw e (rw e at h)
  | inr e ↦ rw e (found-append (suc n) xs ys id p (rw e at h))
]

-- what is not found before is found at the end or not at all
missed-push : (n : ℕ) (xs : List ℕ) (x id : ℕ) → place_from n xs id ≡ None → place_from n (xs ++ x ∷ []) id ≡ (if nat_eq x id then Some (n + length xs) else None)
missed-push n [] x id h = ap (λ m. if nat_eq x id then Some m else None) (let e : n ≡ n + 0 = omega arith in e)
missed-push n (y ∷ ys) x id h = elim (cases_Bool (nat_eq y id)) [
  | inl e ↦ let g : Some n ≡ None = rw e at h in absurd cc
  | inr e ↦ rw e (missed-push (suc n) ys x id (rw e at h) ∙ ap (λ m. if nat_eq x id then Some m else None) (let e : suc n + length ys ≡ n + suc (length ys) = omega arith in e))
]

-- what stands in a list stands there in a longer one
get-append : (xs ys : List ℕ) (k x : ℕ) → slice_get xs k ≡ Some x → slice_get (xs ++ ys) k ≡ Some x
get-append [] ys k x h = absurd cc
get-append (y ∷ xs) ys zero x h = h
get-append (y ∷ xs) ys (suc k) x h = get-append xs ys k x h

get-end : (xs : List ℕ) (x : ℕ) → slice_get (xs ++ x ∷ []) (length xs) ≡ Some x
get-end [] x = refl
get-end (y ∷ xs) x = get-end xs x

get-past : (xs : List ℕ) → slice_get xs (length xs) ≡ None
get-past [] = refl
get-past (y ∷ xs) = get-past xs

-- another number at the end is not the one that is looked for
there-other : (xs : List ℕ) (x id k p : ℕ) → nat_eq x id ≡ false → if_there id p (slice_get xs k) ≡ None → if_there id p (slice_get (xs ++ x ∷ []) k) ≡ None
there-other [] x id zero p n h = rw n refl
there-other [] x id (suc k) p n h = refl
there-other (y ∷ xs) x id zero p n h = h
there-other (y ∷ xs) x id (suc k) p n h = there-other xs x id k p n h

there-append : (xs ys : List ℕ) (id k p q : ℕ) → if_there id p (slice_get xs k) ≡ Some q → if_there id p (slice_get (xs ++ ys) k) ≡ Some q
there-append [] ys id k p q h = absurd cc
there-append (y ∷ xs) ys id zero p q h = h
there-append (y ∷ xs) ys id (suc k) p q h = there-append xs ys id k p q h

noted-append : (xs ys : List ℕ) (id q : ℕ) (o : Option ℕ) → noted xs id o ≡ Some q → noted (xs ++ ys) id o ≡ Some q
noted-append xs ys id q None h = absurd cc
noted-append xs ys id q (Some k) h = there-append xs ys id k k q h

noted-other : (xs : List ℕ) (x id : ℕ) (o : Option ℕ) → nat_eq x id ≡ false → noted xs id o ≡ None → noted (xs ++ x ∷ []) id o ≡ None
noted-other xs x id None n h = refl
noted-other xs x id (Some k) n h = there-other xs x id k k n h

-- another number's place stays as it is when one is pushed
pushed-other : (xs : List ℕ) (x id : ℕ) (o : Option ℕ) → nat_eq x id ≡ false → (w : Option ℕ) → place_from 0 xs id ≡ w → noted xs id o ≡ w →
    place_from 0 (xs ++ x ∷ []) id ≡ noted (xs ++ x ∷ []) id o
pushed-other xs x id o n None h k =
    missed-push 0 xs x id h ∙ ap (λ t. if t then Some (0 + length xs) else None) n ∙ sym (noted-other xs x id o n k)
pushed-other xs x id o n (Some p) h k = found-append 0 xs (x ∷ []) id p h ∙ sym (noted-append xs (x ∷ []) id p o k)

-- a number that is there already is pushed again
pub push_known : (xs : List ℕ) (notes : ℕ → Option ℕ) (x p : ℕ) → AreNoted xs notes → place_from 0 xs x ≡ Some p → AreNoted (xs ++ x ∷ []) notes
push_known xs notes x p h found = λ id. elim (cases_Bool (nat_eq x id)) [
  | inl e ↦
      let same : x ≡ id = eqb-true x id e in
      let here : place_from 0 xs id ≡ Some p = ap (place_from 0 xs) (sym same) ∙ found in
      found-append 0 xs (x ∷ []) id p here ∙ sym (noted-append xs (x ∷ []) id p (notes id) (sym (h id) ∙ here))
  | inr e ↦ pushed-other xs x id (notes id) e (place_from 0 xs id) refl (sym (h id))
]

there-end : (xs : List ℕ) (x : ℕ) → noted (xs ++ x ∷ []) x (Some (length xs)) ≡ Some (length xs)
there-end xs x = ap (if_there x (length xs)) (get-end xs x) ∙ ap (λ t. if t then Some (length xs) else None) (eq-eqb x x refl)

noted-past : (xs : List ℕ) (x : ℕ) → noted xs x (Some (length xs)) ≡ None
noted-past xs x = ap (if_there x (length xs)) (get-past xs)

-- a number is pushed where the note says that it will stand
pub push_noted : (xs : List ℕ) (notes : ℕ → Option ℕ) (x : ℕ) → AreNoted xs notes → notes x ≡ Some (length xs) → AreNoted (xs ++ x ∷ []) notes
push_noted xs notes x h note = λ id. elim (cases_Bool (nat_eq x id)) [
  | inl e ↦ subst (λ j. place_from 0 (xs ++ x ∷ []) j ≡ noted (xs ++ x ∷ []) j (notes j)) (eqb-true x id e)
      (let missed : place_from 0 xs x ≡ None = h x ∙ ap (noted xs x) note ∙ noted-past xs x in
      missed-push 0 xs x x missed ∙ ap (λ t. if t then Some (0 + length xs) else None) (eq-eqb x x refl)
      ∙ ap Some (let e : 0 + length xs ≡ length xs = omega arith in e) ∙ sym (ap (noted (xs ++ x ∷ []) x) note ∙ there-end xs x))
  | inr e ↦ pushed-other xs x id (notes id) e (place_from 0 xs id) refl (sym (h id))
]

-- the note of a number that is not there yet
pub note_next : (xs : List ℕ) (notes more : ℕ → Option ℕ) (x : ℕ) → AreNoted xs notes → place_from 0 xs x ≡ None →
    ((id : ℕ) → more id ≡ cond (nat_eq x id) (Some (length xs)) (notes id)) → AreNoted xs more
note_next xs notes more x h missed is = λ id. elim (cases_Bool (nat_eq x id)) [
  | inl e ↦ subst (λ j. place_from 0 xs j ≡ noted xs j (more j)) (eqb-true x id e)
      (missed ∙ sym (ap (noted xs x) (is x ∙ ap (λ t. cond t (Some (length xs)) (notes x)) (eq-eqb x x refl)) ∙ noted-past xs x))
  | inr e ↦ h id ∙ ap (noted xs id) (sym (is id ∙ ap (λ t. cond t (Some (length xs)) (notes id)) e))
]

-- the same notes
pub note_same : (xs : List ℕ) (notes more : ℕ → Option ℕ) → AreNoted xs notes → ((id : ℕ) → more id ≡ notes id) → AreNoted xs more
note_same xs notes more h is = λ id. h id ∙ ap (noted xs id) (sym (is id))

-- what is found stands there
found-there : (n : ℕ) (xs : List ℕ) (id p q : ℕ) → place_from n xs id ≡ Some p → (k : ℕ) × (p ≡ n + k) × (if_there id q (slice_get xs k) ≡ Some q)
found-there n [] id p q h = absurd cc
found-there n (x ∷ xs) id p q h = elim (cases_Bool (nat_eq x id)) [
  | inl e ↦ (zero, let g : Some n ≡ Some p = rw e at h in let m : n ≡ p = cc in omega arith, ap (λ t. if t then Some q else None) e)
  | inr e ↦ let r = found-there (suc n) xs id p q (rw e at h) in (suc r.0, omega (arith, r.1), r.2)
]

-- what is not found stands nowhere
missed-there : (n : ℕ) (xs : List ℕ) (id k p : ℕ) → place_from n xs id ≡ None → if_there id p (slice_get xs k) ≡ None
missed-there n [] id k p h = refl
missed-there n (x ∷ xs) id zero p h = elim (cases_Bool (nat_eq x id)) [
  | inl e ↦ let g : Some n ≡ None = rw e at h in absurd cc
  | inr e ↦ ap (λ t. if t then Some p else None) e
]
missed-there n (x ∷ xs) id (suc k) p h = elim (cases_Bool (nat_eq x id)) [
  | inl e ↦ let g : Some n ≡ None = rw e at h in absurd cc
  | inr e ↦ missed-there (suc n) xs id k p (rw e at h)
]

there-is : (id k p : ℕ) (w : Option ℕ) → if_there id k w ≡ Some p → k ≡ p
there-is id k p None h = absurd cc
there-is id k p (Some x) h = elim (cases_Bool (nat_eq x id)) [
  | inl e ↦ let g : Some k ≡ Some p = rw e at h in cc
  | inr e ↦ let g : None ≡ Some p = rw e at h in absurd cc
]

noted-is : (xs : List ℕ) (id p : ℕ) (o : Option ℕ) → noted xs id o ≡ Some p → o ≡ Some p
noted-is xs id p None h = absurd cc
noted-is xs id p (Some k) h = ap Some (there-is id k p (slice_get xs k) h)

noted-none : (xs : List ℕ) (id : ℕ) (o : Option ℕ) → place_from 0 xs id ≡ None → noted xs id o ≡ None
noted-none xs id None h = refl
noted-none xs id (Some k) h = missed-there 0 xs id k k h

cut-at : (ys zs : List ℕ) (id : ℕ) (o w : Option ℕ) → place_from 0 (ys ++ zs) id ≡ noted (ys ++ zs) id o → place_from 0 ys id ≡ w → w ≡ noted ys id o
cut-at ys zs id o None h k = sym (noted-none ys id o k)
cut-at ys zs id o (Some p) h k =
    let r = found-there 0 ys id p p k in
    let e : r.0 ≡ p = omega (arith, r.1) in
    let n : o ≡ Some p = noted-is (ys ++ zs) id p o (sym h ∙ found-append 0 ys zs id p k) in
    sym (ap (noted ys id) n ∙ ap (λ m. if_there id p (slice_get ys m)) (sym e) ∙ r.2)

-- the list is cut, and the notes stay
pub cut : (ys zs : List ℕ) (notes : ℕ → Option ℕ) → AreNoted (ys ++ zs) notes → AreNoted ys notes
cut ys zs notes h = λ id. cut-at ys zs id (notes id) (place_from 0 ys id) (h id) refl
