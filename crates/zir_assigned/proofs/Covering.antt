-- What sets have when variables are added, and when what was declared is out of scope again.
use Rattle.std.specs.Prelude.{ℕ, ◌+◌, ◌<◌, List, [], ◌∷◌, ◌++◌, length, drop, Bool, true, false, ◌||◌, Result, OnOk, ◌≡◌, nat_eq, slice_index_or, refl}
use Rattle.std.proofs.Common.{ap, sym, ◌∙◌, subst, eqb→eq, T}
use mathlib.Core.Bool.{true≢false}
use Rattle.std.proofs.lemmas.List.{drop_more}
use Rattle.std.proofs.lemmas.Result.{on_ok_weaker}
use Rattle.zir_meaning.specs.Functions.{pick}
use Rattle.zir_meaning.specs.Store.{among}
use Rattle.zir_meaning.specs.Assigned.{without}
use Rattle.zir_assigned.specs.declared.sets.Hidden.{Hidden}
use Rattle.zir_assigned.specs.Sets.{Adds, restored, uncovered, hidden_by}

-- variables behind others
uncovered-append : (hs gs : List Hidden) (m : ℕ → Bool) (k : ℕ) → uncovered (hs ++ gs) m k ≡ uncovered hs (uncovered gs m) k
uncovered-append [] gs m k = refl
uncovered-append (h ∷ hs) gs m k = ap (λ b. pick (nat_eq h.id k) h.was b) (uncovered-append hs gs m k)

pub uncovered-push : (hs : List Hidden) (h : Hidden) (m : ℕ → Bool) (k : ℕ) → uncovered (hs ++ h ∷ []) m k ≡ uncovered hs (restored h m) k
uncovered-push hs h m k = uncovered-append hs (h ∷ []) m k

pub uncovered_same : (hs : List Hidden) (m n : ℕ → Bool) → ((k : ℕ) → m k ≡ n k) → (k : ℕ) → uncovered hs m k ≡ uncovered hs n k
uncovered_same [] m n e k = e k
uncovered_same (h ∷ hs) m n e k = ap (λ b. pick (nat_eq h.id k) h.was b) (uncovered_same hs m n e k)

-- numbers that a test finds equal
same_number : (a b : ℕ) → nat_eq a b ≡ true → a ≡ b
same_number a b e = eqb→eq a b (subst T (sym e) tt)

-- the set after declarations
uncovered-hidden : (ds : List ℕ) (mid set : ℕ → Bool) (k : ℕ) → uncovered (hidden_by ds mid) set k ≡ pick (among ds k) (mid k) (set k)
uncovered-hidden [] mid set k = refl
uncovered-hidden (d ∷ ds) mid set k = step (nat_eq d k) (λ e. ap mid (same_number d k e)) (uncovered-hidden ds mid set k) where
  step : (b : Bool) → (b ≡ true → mid d ≡ mid k) → uncovered (hidden_by ds mid) set k ≡ pick (among ds k) (mid k) (set k) →
      pick b (mid d) (uncovered (hidden_by ds mid) set k) ≡ pick (pick b true (among ds k)) (mid k) (set k)
  step true e h = e refl
  step false e h = h

among-append : (xs ys : List ℕ) (k : ℕ) → among (xs ++ ys) k ≡ (among xs k || among ys k)
among-append [] ys k = refl
among-append (x ∷ xs) ys k = step (nat_eq x k) (among-append xs ys k) where
  step : (b : Bool) → among (xs ++ ys) k ≡ (among xs k || among ys k) → pick b true (among (xs ++ ys) k) ≡ (pick b true (among xs k) || among ys k)
  step true h = refl
  step false h = h

among-without : (ds xs : List ℕ) (k : ℕ) → among (without ds xs) k ≡ pick (among ds k) false (among xs k)
among-without ds [] k = none (among ds k) where
  none : (b : Bool) → false ≡ pick b false false
  none true = refl
  none false = refl
among-without ds (x ∷ xs) k =
    through (among ds x) ∙ step (among ds x) (nat_eq x k) (among ds k) (among xs k) (among (without ds xs) k)
    (λ e. ap (among ds) (same_number x k e)) (among-without ds xs k) where
      through : (b : Bool) → among (pick b (without ds xs) (x ∷ without ds xs)) k ≡ pick b (among (without ds xs) k) (among (x ∷ without ds xs) k)
      through true = refl
      through false = refl

      step : (dx xk dk ak m : Bool) → (xk ≡ true → dx ≡ dk) → m ≡ pick dk false ak → pick dx m (pick xk true m) ≡ pick dk false (pick xk true ak)
      step true true true ak m e h = h
      step true true false ak m e h = absurd (true≢false (e refl))
      step true false dk ak m e h = h
      step false true true ak m e h = absurd (true≢false (sym (e refl)))
      step false true false ak m e h = refl
      step false false dk ak m e h = h

pub without-none : (xs : List ℕ) → without [] xs ≡ xs
without-none [] = refl
without-none (x ∷ xs) = ap (λ ys. x ∷ ys) (without-none xs)

-- sets that have the same
pub adds_same : (ids : List ℕ) (old set new : ℕ → Bool) → Adds ids old set → ((k : ℕ) → new k ≡ set k) → Adds ids old new
adds_same ids old set new h e = λ k. e k ∙ h k

or_false : (b : Bool) → b ≡ (b || false)
or_false true = refl
or_false false = refl

or_assoc : (a b c : Bool) → ((a || b) || c) ≡ (a || (b || c))
or_assoc true b c = refl
or_assoc false b c = refl

pub adds_none : (set : ℕ → Bool) → Adds [] set set
adds_none set k = or_false (set k)

-- one after the other
pub adds_two : (xs ys : List ℕ) (old mid new : ℕ → Bool) → Adds xs old mid → Adds ys mid new → Adds (xs ++ ys) old new
adds_two xs ys old mid new a b =
    λ k. b k ∙ ap (λ c. c || among ys k) (a k) ∙ or_assoc (old k) (among xs k) (among ys k) ∙ ap (λ c. old k || c) (sym (among-append xs ys k))

-- the second among declarations that end behind it
pub adds_within : (ds xs ys : List ℕ) (old mid set : ℕ → Bool) → Adds xs old mid → Adds ys mid set →
    Adds (xs ++ without ds ys) old (uncovered (hidden_by ds mid) set)
adds_within ds xs ys old mid set a b = λ k.
    uncovered-hidden ds mid set k
    ∙ ap (pick (among ds k) (mid k)) (b k)
    ∙ outside (among ds k) (mid k) (among ys k)
    ∙ ap (λ c. mid k || c) (sym (among-without ds ys k))
    ∙ ap (λ c. c || among (without ds ys) k) (a k)
    ∙ or_assoc (old k) (among xs k) (among (without ds ys) k)
    ∙ ap (λ c. old k || c) (sym (among-append xs (without ds ys) k)) where
      outside : (d m y : Bool) → pick d m (m || y) ≡ (m || pick d false y)
      outside true m y = or_false m
      outside false m y = refl

-- wholes of one, two and three parts
pub one_part : {T E : Type 0} (r : Result T E) (whole xs : List ℕ) (old new : ℕ → Bool) → whole ≡ xs → OnOk r (Adds xs old new) →
    OnOk r (Adds whole old new)
one_part r whole xs old new e h = subst (λ ids. OnOk r (Adds ids old new)) (sym e) h

pub two_parts : {T E : Type 0} (r : Result T E) (whole xs ys : List ℕ) (old mid new : ℕ → Bool) → whole ≡ xs ++ ys → Adds xs old mid →
    OnOk r (Adds ys mid new) → OnOk r (Adds whole old new)
two_parts r whole xs ys old mid new e a h = one_part r whole (xs ++ ys) old new e (on_ok_weaker r (adds_two xs ys old mid new a) h)

pub three_parts : {T E : Type 0} (r : Result T E) (whole xs ys zs : List ℕ) (old mid next new : ℕ → Bool) → whole ≡ (xs ++ ys) ++ zs →
    Adds xs old mid → Adds ys mid next → OnOk r (Adds zs next new) → OnOk r (Adds whole old new)
three_parts r whole xs ys zs old mid next new e a b h = two_parts r whole (xs ++ ys) zs old next new e (adds_two xs ys old mid next a b) h

-- what is left of a list begins with the item at its index
pub drop_item : {X : Type 0} (xs : List X) (i : ℕ) (x : X) → i < length xs → x ≡ slice_index_or xs i x → drop i xs ≡ x ∷ drop (i + 1) xs
drop_item xs i x h is = drop_more xs i x h ∙ ap (λ y. y ∷ drop (i + 1) xs) (sym is)

-- one part of a list comes in
pub adds_item : {X : Type 0} (part : X → List ℕ) (all : List X → List ℕ) → ((x : X) (xs : List X) → all (x ∷ xs) ≡ part x ++ all xs) →
    (xs : List X) (i : ℕ) (x : X) → i < length xs → x ≡ slice_index_or xs i x → (old mid new : ℕ → Bool) →
    Adds (part x) old mid → Adds (all (drop (i + 1) xs)) mid new → Adds (all (drop i xs)) old new
adds_item part all more xs i x lt is old mid new a b =
    subst (λ ids. Adds ids old new) (sym (ap all (drop_item xs i x lt is) ∙ more x (drop (i + 1) xs)))
    (adds_two (part x) (all (drop (i + 1) xs)) old mid new a b)

-- the same where it declares what ends behind the rest
pub opens_item : {X : Type 0} (part ds : X → List ℕ) (all : List X → List ℕ) →
    ((x : X) (xs : List X) → all (x ∷ xs) ≡ part x ++ without (ds x) (all xs)) →
    (xs : List X) (i : ℕ) (x : X) → i < length xs → x ≡ slice_index_or xs i x → (hs gs : List Hidden) (ids : List ℕ) (first old mid set : ℕ → Bool) →
    gs ≡ hs ++ hidden_by (ds x) mid → Adds (part x) old mid → Adds (all (drop (i + 1) xs)) mid set →
    ((s : ℕ → Bool) → Adds (all (drop i xs)) old s → Adds ids first (uncovered hs s)) → Adds ids first (uncovered gs set)
opens_item part ds all more xs i x lt is hs gs ids first old mid set e a b before =
    adds_same ids first (uncovered hs (uncovered (hidden_by (ds x) mid) set)) (uncovered gs set)
    (before (uncovered (hidden_by (ds x) mid) set)
    (subst (λ vs. Adds vs old (uncovered (hidden_by (ds x) mid) set)) (sym (ap all (drop_item xs i x lt is) ∙ more x (drop (i + 1) xs)))
    (adds_within (ds x) (part x) (all (drop (i + 1) xs)) old mid set a b)))
    (λ k. ap (λ (l : List Hidden). uncovered l set k) e ∙ uncovered-append hs (hidden_by (ds x) mid) set k)
