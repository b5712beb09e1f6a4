-- The first of some places is the same, in whichever order they come.
use Rattle.std.specs.Prelude.{◌≡◌, ℕ, List, [], ◌∷◌, Bool, true, false, Option, Some, None, nat_eq, nat_lt, if◌then◌else◌, refl}
use Rattle.std.proofs.Common.{ap, ◌∙◌, sym, arith}
use Rattle.std.proofs.lemmas.Bool.{false≢true}
use Rattle.std.proofs.lemmas.Bool.Decides.{nat_tests}
use Rattle.zir_tree.specs.declared.place.Place.{Place}
use Rattle.zir_types.specs.Limits.{earlier, sooner, first_place}
use Rattle.zir_limits.specs.Notes.{first_of}

-- before, in numbers
abbrev before : ℕ → ℕ → ℕ → ℕ → Bool
before l c m d = if nat_eq l m then nat_lt c d else nat_lt l m

before_asym : (l c m d : ℕ) → before l c m d ≡ true → before m d l c ≡ false
before_asym l c m d h = grind (arith, nat_tests)

before_trans : (l c m d n e : ℕ) → before l c m d ≡ true → before m d n e ≡ true → before l c n e ≡ true
before_trans l c m d n e h k = grind (arith, nat_tests)

before_lines : (l c m d : ℕ) → before l c m d ≡ false → before m d l c ≡ false → l ≡ m
before_lines l c m d h k = grind (arith, nat_tests)

before_cols : (l c m d : ℕ) → before l c m d ≡ false → before m d l c ≡ false → c ≡ d
before_cols l c m d h k = grind (arith, nat_tests)

asym : (p q : Place) → earlier p q ≡ true → earlier q p ≡ false
asym p q h = before_asym p.line p.col q.line q.col h

trans : (p q r : Place) → earlier p q ≡ true → earlier q r ≡ true → earlier p r ≡ true
trans p q r h k = before_trans p.line p.col q.line q.col r.line r.col h k

abbrev at_line : ℕ → ℕ → Place
at_line l c = record { line = l; col = c }

total : (p q : Place) → earlier p q ≡ false → earlier q p ≡ false → p ≡ q
total p q h k = λ i. at_line (before_lines p.line p.col q.line q.col h k i) (before_cols p.line p.col q.line q.col h k i)

-- nothing is true and false
never : {A : Type 0} (b : Bool) → b ≡ true → b ≡ false → A
never b h k = absurd (false≢true (sym k ∙ h))

-- one of two places
abbrev pick : Bool → Place → Place → Place
pick true p q = p
pick false p q = q

swap_two : (p q : Place) (qp pq : Bool) → earlier q p ≡ qp → earlier p q ≡ pq → pick (earlier q p) q p ≡ pick (earlier p q) p q
swap_two p q true true h k = never (earlier p q) k (asym q p h)
swap_two p q true false h k = ap (λ b. pick b q p) h ∙ sym (ap (λ b. pick b p q) k)
swap_two p q false true h k = ap (λ b. pick b q p) h ∙ sym (ap (λ b. pick b p q) k)
swap_two p q false false h k = ap (λ b. pick b q p) h ∙ total p q k h ∙ sym (ap (λ b. pick b p q) k)

-- what is not behind one that stands before another stands before it
not_behind : (p q r : Place) (rq qr : Bool) → earlier r q ≡ rq → earlier q r ≡ qr → earlier q p ≡ false → earlier r p ≡ true → earlier r q ≡ true
not_behind p q r true qr h k l m = h
not_behind p q r false true h k l m = never (earlier q p) (trans q r p k m) l
not_behind p q r false false h k l m = never (earlier q p) (ap (λ x. earlier x p) (sym (total r q h k)) ∙ m) l

-- the earlier of a place and another
abbrev less : Place → Place → Place
less p q = pick (earlier q p) q p

less_left : (p q : Place) → earlier q p ≡ true → less p q ≡ q
less_left p q h = ap (λ b. pick b q p) h

less_right : (p q : Place) → earlier q p ≡ false → less p q ≡ p
less_right p q h = ap (λ b. pick b q p) h

swap_picked : (p q r : Place) (qp rp rq : Bool) → earlier q p ≡ qp → earlier r p ≡ rp → earlier r q ≡ rq → less (pick qp q p) r ≡ less q (pick rp r p)
swap_picked p q r true true rq h k l = refl
swap_picked p q r true false true h k l = never (earlier r p) (trans r q p l h) k
swap_picked p q r true false false h k l = less_right q r l ∙ sym (less_right q p (asym q p h))
swap_picked p q r false true rq h k l = less_left p r k ∙ sym (less_left q r (not_behind p q r rq (earlier q r) l refl h k))
swap_picked p q r false false rq h k l = less_right p r k ∙ sym (less_right p q h) ∙ swap_two p q (earlier q p) (earlier p q) refl refl

swap_three : (p q r : Place) → less (less p q) r ≡ less q (less p r)
swap_three p q r =
    swap_picked p q r (earlier q p) (earlier r p) (earlier r q) refl refl refl

sooner_if : (b : Bool) (p q : Place) → (if b then p else q) ≡ pick b p q
sooner_if true p q = refl
sooner_if false p q = refl

sooner-less : (p q : Place) → sooner p (Some q) ≡ less p q
sooner-less p q = sooner_if (earlier q p) q p

swap : (p q : Place) (o : Option Place) → sooner (sooner p (Some q)) o ≡ sooner q (Some (sooner p o))
swap p q None = sooner-less p q ∙ swap_two p q (earlier q p) (earlier p q) refl refl ∙ sym (sooner-less q p)
swap p q (Some r) =
    ap (λ x. sooner x (Some r)) (sooner-less p q) ∙ sooner-less (less p q) r ∙ swap_three p q r
    ∙ sym (sooner-less q (less p r)) ∙ ap (λ x. sooner q (Some x)) (sym (sooner-less p r))

first_of-some : (q : Place) (ps : List Place) → first_of (Some q) ps ≡ Some (sooner q (first_place ps))
first_of-some q [] = refl
first_of-some q (p ∷ ps) = first_of-some (sooner p (Some q)) ps ∙ ap Some (swap p q (first_place ps))

-- what is noted first is the first in the text
pub first_of-none : (ps : List Place) → first_of None ps ≡ first_place ps
first_of-none [] = refl
first_of-none (p ∷ ps) = first_of-some p ps

-- a place that is noted last might as well have been noted first
pub first_of-late : (p : Place) (o : Option Place) (ps : List Place) → Some (sooner p (first_of o ps)) ≡ first_of (Some (sooner p o)) ps
first_of-late p None ps = ap (λ r. Some (sooner p r)) (first_of-none ps) ∙ sym (first_of-some p ps)
first_of-late p (Some q) ps =
    ap (λ r. Some (sooner p r)) (first_of-some q ps) ∙ ap Some (sym (swap q p (first_place ps)))
    ∙ ap (λ x. Some (sooner x (first_place ps))) (swap q p None) ∙ sym (first_of-some (sooner p (Some q)) ps)
