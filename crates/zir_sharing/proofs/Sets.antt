-- Sets of numbers as ascending lists without repeats: what is in them, and that sets with the same numbers are equal.
use Rattle.std.specs.Prelude.{◌≡◌, ℕ, suc, ◌<◌, ◌≤◌, Bool, true, false, ◌&&◌, ◌||◌, not, List, [], ◌∷◌, Some, nat_eq, nat_lt, if◌then◌else◌, refl}
use Rattle.std.proofs.Common.{ap, ◌∙◌, sym, subst, inl, inr, arith}
use Rattle.std.proofs.lemmas.Bool.{false≢true, or_left, or_from, eq-eqb, ne_eqb, ltb-true, ltb-false, eqb-true, eqb-false, cases_lt, cases_order, cond_both, cond-true, cond-false, lt-ltb, le-ltb}
use Rattle.zir_names.specs.Numbers.{add, union, among, kept, without, least}
use Rattle.zir_sharing.specs.Ascending.{AscendsFrom}

pub ascends-weaker : (j k : ℕ) (ns : List ℕ) → j ≤ k → AscendsFrom k ns → AscendsFrom j ns
ascends-weaker j k [] h r = tt
ascends-weaker j k (n ∷ ns) h r = (omega (arith, r.0), r.1)

-- what is below the first is not among them
pub among-below : (k : ℕ) (ns : List ℕ) (q : ℕ) → AscendsFrom k ns → q < k → among q ns ≡ false
among-below k [] q r h = refl
among-below k (n ∷ ns) q r h = or_from _ _ (ne_eqb q n (λ e. omega (arith, r.0))) (among-below (suc n) ns q r.1 (omega (arith, r.0)))

pub among-first : (n : ℕ) (ns : List ℕ) → among n (n ∷ ns) ≡ true
among-first n ns = or_left _ _ (eq-eqb n n refl)

-- what two sets have behind a first number that they share
same_behind : (m : ℕ) (ms ns : List ℕ) → AscendsFrom (suc m) ms → AscendsFrom (suc m) ns →
    ((q : ℕ) → among q (m ∷ ms) ≡ among q (m ∷ ns)) → (q : ℕ) → among q ms ≡ among q ns
same_behind m ms ns r s h q = elim (cases_lt m q) [
  | inl above ↦ (let e : nat_eq q m ≡ false = ne_eqb q m (λ e. omega arith) in rw e at (h q))
  | inr low ↦ among-below (suc m) ms q r (omega arith) ∙ sym (among-below (suc m) ns q s (omega arith))
]

-- two sets with the same numbers are equal
pub ascends_same : (k : ℕ) (ms ns : List ℕ) → AscendsFrom k ms → AscendsFrom k ns → ((q : ℕ) → among q ms ≡ among q ns) → ms ≡ ns
ascends_same k [] [] r s h = refl
ascends_same k [] (n ∷ ns) r s h = absurd (false≢true (h n ∙ among-first n ns))
ascends_same k (m ∷ ms) [] r s h = absurd (false≢true (sym (h m) ∙ among-first m ms))
ascends_same k (m ∷ ms) (n ∷ ns) r s h = elim (cases_order m n) [
  | inl e ↦ (let t : AscendsFrom (suc m) ns = subst (λ x. AscendsFrom (suc x) ns) (sym e) s.1 in
      ap (λ x. x ∷ ms) e ∙ ap (λ xs. n ∷ xs) (ascends_same (suc m) ms ns r.1 t
      (same_behind m ms ns r.1 t (λ q. h q ∙ ap (λ x. among q (x ∷ ns)) (sym e)))))
  | inr o ↦ elim o [
    | inl lt ↦ absurd (false≢true (sym (or_from _ _ (ne_eqb m n (λ e. omega arith)) (among-below (suc n) ns m s.1 (omega arith))) ∙ sym (h m) ∙ among-first m ms))
    | inr gt ↦ absurd (false≢true (sym (or_from _ _ (ne_eqb n m (λ e. omega arith)) (among-below (suc m) ms n r.1 (omega arith))) ∙ h n ∙ among-first n ns))
  ]
]

-- where a number is put before a first one
add-cases : (P : List ℕ → Type 0) (n m : ℕ) (ms : List ℕ) → (n < m → P (n ∷ m ∷ ms)) → (n ≡ m → P (m ∷ ms)) → (m < n → P (m ∷ add n ms)) → P (add n (m ∷ ms))
add-cases P n m ms a b c =
    cond_both (nat_lt n m) (n ∷ m ∷ ms) (if nat_eq n m then m ∷ ms else m ∷ add n ms) P
    (λ lt. a (ltb-true n m lt))
    (λ ge. cond_both (nat_eq n m) (m ∷ ms) (m ∷ add n ms) P (λ e. b (eqb-true n m e))
    (λ ne. c (let le : m ≤ n = ltb-false n m ge in let not_same : n ≡ m → ⊥ = eqb-false n m ne in omega arith)))

pub ascends-add : (k n : ℕ) (ms : List ℕ) → k ≤ n → AscendsFrom k ms → AscendsFrom k (add n ms)
ascends-add k n [] h r = (h, tt)
ascends-add k n (m ∷ ms) h r = add-cases (AscendsFrom k) n m ms (λ lt. (h, (lt, r.1))) (λ e. r) (λ gt. (r.0, ascends-add (suc m) n ms gt r.1))

pub ascends-union : (k : ℕ) (ms ns : List ℕ) → AscendsFrom k ms → AscendsFrom k ns → AscendsFrom k (union ms ns)
ascends-union k [] ns r s = s
ascends-union k (m ∷ ms) ns r s = ascends-add k m (union ms ns) r.0 (ascends-union k ms ns (ascends-weaker k (suc m) ms (omega (arith, r.0)) r.1) s)

pub ascends-kept : (k : ℕ) (others ns : List ℕ) → AscendsFrom k ns → AscendsFrom k (kept others ns)
ascends-kept k others [] r = tt
ascends-kept k others (n ∷ ns) r =
    cond_both (among n others) (n ∷ kept others ns) (kept others ns) (AscendsFrom k)
    (λ e. (r.0, ascends-kept (suc n) others ns r.1))
    (λ e. ascends-weaker k (suc n) (kept others ns) (omega (arith, r.0)) (ascends-kept (suc n) others ns r.1))

pub ascends-without : (k : ℕ) (others ns : List ℕ) → AscendsFrom k ns → AscendsFrom k (without others ns)
ascends-without k others [] r = tt
ascends-without k others (n ∷ ns) r =
    cond_both (among n others) (without others ns) (n ∷ without others ns) (AscendsFrom k)
    (λ e. ascends-weaker k (suc n) (without others ns) (omega (arith, r.0)) (ascends-without (suc n) others ns r.1))
    (λ e. (r.0, ascends-without (suc n) others ns r.1))

or_swap : (x y z : Bool) → (x || (y || z)) ≡ (y || (x || z))
or_swap true true z = refl
or_swap true false z = refl
or_swap false true z = refl
or_swap false false z = refl

or_again : (x y : Bool) → (x || y) ≡ (x || (x || y))
or_again true y = refl
or_again false y = refl

or_assoc : (x y z : Bool) → ((x || y) || z) ≡ (x || (y || z))
or_assoc true y z = refl
or_assoc false y z = refl

pub among-add : (q n : ℕ) (ms : List ℕ) → among q (add n ms) ≡ (nat_eq q n || among q ms)
among-add q n [] = refl
among-add q n (m ∷ ms) = add-cases (λ xs. among q xs ≡ (nat_eq q n || among q (m ∷ ms))) n m ms
    (λ lt. refl)
    (λ e. subst (λ x. among q (m ∷ ms) ≡ (nat_eq q x || among q (m ∷ ms))) (sym e) (or_again (nat_eq q m) (among q ms)))
    (λ gt. ap (λ b. nat_eq q m || b) (among-add q n ms) ∙ or_swap (nat_eq q m) (nat_eq q n) (among q ms))

pub among-union : (q : ℕ) (ms ns : List ℕ) → among q (union ms ns) ≡ (among q ms || among q ns)
among-union q [] ns = refl
among-union q (m ∷ ms) ns = among-add q m (union ms ns) ∙ ap (λ b. nat_eq q m || b) (among-union q ms ns) ∙ sym (or_assoc (nat_eq q m) (among q ms) (among q ns))

and_nothing : (x : Bool) → false ≡ (x && false)
and_nothing true = refl
and_nothing false = refl

-- one number that stays or goes, at the number itself and at another
keep_one : (x y z : Bool) → (z ≡ true → x ≡ true) → (z || (x && y)) ≡ (x && (z || y))
keep_one true y true h = refl
keep_one true y false h = refl
keep_one false y true h = absurd (false≢true (h refl))
keep_one false y false h = refl

drop_one : (x y z : Bool) → (z ≡ true → x ≡ false) → (x && y) ≡ (x && (z || y))
drop_one true true true h = refl
drop_one true true false h = refl
drop_one true false true h = absurd (false≢true (sym (h refl)))
drop_one true false false h = refl
drop_one false y z h = refl

pub among-kept : (q : ℕ) (others ns : List ℕ) → among q (kept others ns) ≡ (among q others && among q ns)
among-kept q others [] = and_nothing (among q others)
among-kept q others (n ∷ ns) =
    cond_both (among n others) (n ∷ kept others ns) (kept others ns) (λ xs. among q xs ≡ (among q others && among q (n ∷ ns)))
    (λ e. ap (λ b. nat_eq q n || b) (among-kept q others ns)
    ∙ keep_one (among q others) (among q ns) (nat_eq q n) (λ same. ap (λ x. among x others) (eqb-true q n same) ∙ e))
    (λ e. among-kept q others ns
    ∙ drop_one (among q others) (among q ns) (nat_eq q n) (λ same. ap (λ x. among x others) (eqb-true q n same) ∙ e))

pub among-without : (q : ℕ) (others ns : List ℕ) → among q (without others ns) ≡ (not (among q others) && among q ns)
among-without q others [] = and_nothing (not (among q others))
among-without q others (n ∷ ns) =
    cond_both (among n others) (without others ns) (n ∷ without others ns) (λ xs. among q xs ≡ (not (among q others) && among q (n ∷ ns)))
    (λ e. among-without q others ns
    ∙ drop_one (not (among q others)) (among q ns) (nat_eq q n) (λ same. ap (λ x. not (among x others)) (eqb-true q n same) ∙ ap not e))
    (λ e. ap (λ b. nat_eq q n || b) (among-without q others ns)
    ∙ keep_one (not (among q others)) (among q ns) (nat_eq q n) (λ same. ap (λ x. not (among x others)) (eqb-true q n same) ∙ ap not e))

-- the least of a set
pub least_is : (k : ℕ) (ns : List ℕ) (n : ℕ) → AscendsFrom k ns → among n ns ≡ true → ((q : ℕ) → q < n → among q ns ≡ false) → least ns ≡ Some n
least_is k [] n r h below = absurd (false≢true h)
least_is k (m ∷ ms) n r h below = elim (cases_order m n) [
  | inl e ↦ ap Some e
  | inr o ↦ elim o [
    | inl lt ↦ absurd (false≢true (sym (below m lt) ∙ among-first m ms))
    | inr gt ↦ absurd (false≢true (sym (or_from _ _ (ne_eqb n m (λ e. omega arith)) (among-below (suc m) ms n r.1 (omega arith))) ∙ h))
  ]
]

-- a set that has no number
pub none_among : (ns : List ℕ) → ((q : ℕ) → among q ns ≡ false) → ns ≡ []
none_among [] h = refl
none_among (n ∷ ns) h = absurd (false≢true (sym (h n) ∙ among-first n ns))

-- what is put into any list twice or in either order
add_below : (n m : ℕ) (ms : List ℕ) → n < m → add n (m ∷ ms) ≡ n ∷ m ∷ ms
add_below n m ms h = cond-true (nat_lt n m) _ _ (lt-ltb n m h)

add_at : (n m : ℕ) (ms : List ℕ) → n ≡ m → add n (m ∷ ms) ≡ m ∷ ms
add_at n m ms h = cond-false (nat_lt n m) _ _ (le-ltb n m (omega arith)) ∙ cond-true (nat_eq n m) _ _ (eq-eqb n m h)

add_above : (n m : ℕ) (ms : List ℕ) → m < n → add n (m ∷ ms) ≡ m ∷ add n ms
add_above n m ms h = cond-false (nat_lt n m) _ _ (le-ltb n m (omega arith)) ∙ cond-false (nat_eq n m) _ _ (ne_eqb n m (λ e. omega arith))

pub add_same : (n : ℕ) (ms : List ℕ) → add n (add n ms) ≡ add n ms
add_same n [] = add_at n n [] refl
add_same n (m ∷ ms) = add-cases (λ xs. add n xs ≡ xs) n m ms
    (λ lt. add_at n n (m ∷ ms) refl)
    (λ e. add_at n m ms e)
    (λ gt. add_above n m (add n ms) gt ∙ ap (λ xs. m ∷ xs) (add_same n ms))

-- the same where the first is the smaller one
add_up : (n m : ℕ) (ks : List ℕ) → n < m → add n (add m ks) ≡ add m (add n ks)
add_up n m [] h = add_below n m [] h ∙ sym (add_above m n [] h)
add_up n m (k ∷ ks) h = elim (cases_order n k) [
  | inl e ↦ (rw (add_above m k ks (omega arith), add_at n k ks e, add_above m k ks (omega arith), add_at n k (add m ks) e) refl)
  | inr o ↦ elim o [
    | inl lt ↦ (rw (add_below n k ks lt, add_above m n (k ∷ ks) h)
        (add-cases (λ xs. add n xs ≡ n ∷ xs) m k ks (λ a. add_below n m (k ∷ ks) h) (λ b. add_below n k ks lt) (λ c. add_below n k (add m ks) lt)))
    | inr gt ↦ (rw (add_above m k ks (omega arith), add_above n k ks gt, add_above m k (add n ks) (omega arith), add_above n k (add m ks) gt) (ap (λ xs. k ∷ xs) (add_up n m ks h)))
  ]
]

pub add_swap : (n m : ℕ) (ks : List ℕ) → add n (add m ks) ≡ add m (add n ks)
add_swap n m ks = elim (cases_order n m) [
  | inl e ↦ ap (λ x. add n (add x ks)) (sym e) ∙ ap (λ x. add x (add n ks)) e
  | inr o ↦ elim o [ inl lt ↦ add_up n m ks lt | inr gt ↦ sym (add_up m n ks gt) ]
]

pub union_add : (n : ℕ) (ms ns : List ℕ) → union (add n ms) ns ≡ add n (union ms ns)
union_add n [] ns = refl
union_add n (m ∷ ms) ns = add-cases (λ xs. union xs ns ≡ add n (add m (union ms ns))) n m ms
    (λ lt. refl)
    (λ e. subst (λ x. add m (union ms ns) ≡ add x (add m (union ms ns))) (sym e) (sym (add_same m (union ms ns))))
    (λ gt. ap (add m) (union_add n ms ns) ∙ add_swap m n (union ms ns))

pub add_union : (n : ℕ) (ms ns : List ℕ) → add n (union ms ns) ≡ union ms (add n ns)
add_union n [] ns = refl
add_union n (m ∷ ms) ns = add_swap n m (union ms ns) ∙ ap (add m) (add_union n ms ns)

union_assoc : (ks ms ns : List ℕ) → union (union ks ms) ns ≡ union ks (union ms ns)
union_assoc [] ms ns = refl
union_assoc (k ∷ ks) ms ns = union_add k (union ks ms) ns ∙ ap (add k) (union_assoc ks ms ns)

union_swap : (ks ms ns : List ℕ) → union ms (union ks ns) ≡ union ks (union ms ns)
union_swap ks [] ns = refl
union_swap ks (m ∷ ms) ns = ap (add m) (union_swap ks ms ns) ∙ add_union m ks (union ms ns)

-- one part after another comes in
pub union_then : (ks ms ns : List ℕ) → union ms (union ks ns) ≡ union (union ks ms) ns
union_then ks ms ns = union_swap ks ms ns ∙ sym (union_assoc ks ms ns)

add_first : (n : ℕ) (ns : List ℕ) → AscendsFrom (suc n) ns → add n ns ≡ n ∷ ns
add_first n [] r = refl
add_first n (m ∷ ms) r = add_below n m ms r.0

-- a set, and nothing else
pub union_none : (k : ℕ) (ns : List ℕ) → AscendsFrom k ns → union ns [] ≡ ns
union_none k [] r = refl
union_none k (n ∷ ns) r = ap (add n) (union_none (suc n) ns r.1) ∙ add_first n ns r.1
