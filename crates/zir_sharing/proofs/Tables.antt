-- Tables by number.
use Rattle.std.specs.Prelude.{◌≡◌, ℕ, suc, ◌<◌, ◌≤◌, ◌-◌, List, [], ◌∷◌, ◌++◌, Option, Some, None, true, false, length, nat_eq, reverse, slice_index_or, slice_set, if◌then◌else◌, refl}
use Rattle.std.proofs.Common.{ap, ◌∙◌, sym, arith, inl, inr}
use Rattle.std.specs.Option.{SomeIff}
use Rattle.std.proofs.lemmas.Bool.{cases_eq, eq-eqb, ne_eqb, cond-true, cond-false}
use Rattle.std.proofs.lemmas.List.{get_or_append_left, get_or_push, get_or-set_same, get_or-set_other, reverse-append, length-reverse}
use Rattle.zir_names.specs.Touched.{Touched, untouched, call_of}
use Rattle.zir_sharing.specs.Places.{last_place, place_code, called_of, touched_at}
use Rattle.zir_sharing.specs.Members.{word_at}
use Rattle.zir_tree.specs.declared.place.Place.{Place}
use Rattle.zir_sharing.specs.declared.splits.Mark.{Mark}
use Rattle.zir_names.specs.Sharing.{Stand, Splits, first_place, body_splits, splits_of}
use Rattle.zir_names.specs.Sharing as sharing
use Rattle.zir_sharing.specs.Marks.{mark_of, marks_of, marked_of, mark_in, marked_at, at_stand}

-- a place that was found
pub place_found : (o : Option ℕ) (p : ℕ) (r : Option ℕ) → p ≡ place_code o → SomeIff r (1 ≤ p) (p - 1) → r ≡ o
place_found None p None e h = refl
place_found None p (Some x) e h = absurd (omega (arith, h.0))
place_found (Some at) p None e h = absurd (h (omega arith))
place_found (Some at) p (Some x) e h = ap Some (let f = h.1 in omega arith)

-- one more number
pub one_more : (ns : List ℕ) (n : ℕ) → reverse (ns ++ n ∷ []) ≡ n ∷ reverse ns
one_more ns n = reverse-append ns (n ∷ [])

pub place_set : (places ns : List ℕ) (n : ℕ) → n < length places → ((q : ℕ) → word_at places q ≡ place_code (last_place (reverse ns) q)) →
    (q : ℕ) → word_at (slice_set places n (suc (length ns))) q ≡ place_code (last_place (reverse (ns ++ n ∷ [])) q)
place_set places ns n inside h q = rw (one_more ns n) (elim (cases_eq q n) [
  | inl e ↦ (ap (word_at (slice_set places n (suc (length ns)))) e ∙ get_or-set_same places n (suc (length ns)) 0 inside
      ∙ sym (ap place_code (cond-true (nat_eq n q) (Some (length (reverse ns))) (last_place (reverse ns) q) (eq-eqb n q (sym e))) ∙ ap suc (length-reverse ns)))
  | inr ne ↦ (get_or-set_other places n q (suc (length ns)) 0 ne ∙ h q
      ∙ sym (ap place_code (cond-false (nat_eq n q) (Some (length (reverse ns))) (last_place (reverse ns) q) (ne_eqb n q (λ e. ne (sym e))))))
])

pub call_at : (ns : List ℕ) (ts : List Touched) (id : ℕ) → call_of (called_of ns ts) id ≡ touched_at ts (last_place ns id)
call_at [] ts id = refl
call_at (n ∷ ns) ts id = elim (nat_eq n id) as (λ b. (if b then slice_index_or ts (length ns) untouched else call_of (called_of ns ts) id) ≡ touched_at ts (if b then Some (length ns) else last_place ns id)) [
  | true ↦ refl
  | false ↦ call_at ns ts id
]

called_same : (ns : List ℕ) (ts : List Touched) (t : Touched) → length ns ≤ length ts → called_of ns (ts ++ t ∷ []) ≡ called_of ns ts
called_same [] ts t h = refl
called_same (n ∷ ns) ts t h =
    ap (λ x. record { id = n; touched = x } ∷ called_of ns (ts ++ t ∷ [])) (get_or_append_left ts (t ∷ []) untouched (length ns) h)
    ∙ ap (λ xs. record { id = n; touched = slice_index_or ts (length ns) untouched } ∷ xs) (called_same ns ts t (omega arith))

pub called_more : (ns : List ℕ) (ts : List Touched) (n : ℕ) (t : Touched) → length ns ≡ length ts →
    called_of (n ∷ ns) (ts ++ t ∷ []) ≡ record { id = n; touched = t } ∷ called_of ns ts
called_more ns ts n t h =
    ap (λ x. record { id = n; touched = x } ∷ called_of ns (ts ++ t ∷ [])) (get_or_push ts t untouched (length ns) (sym h))
    ∙ ap (λ xs. record { id = n; touched = t } ∷ xs) (called_same ns ts t (omega arith))

-- no mark
abbrev pub unmarked : Mark
unmarked = record { on_spine = None; off_spine = None }

-- the mark where a number came last
abbrev pub marked_last : List Mark → Stand → Option ℕ → Option Place
marked_last ms stand None = None
marked_last ms stand (Some at) = marked_at ms stand at

pub mark_at : (ns : List ℕ) (ms : List Mark) (id : ℕ) (stand : Stand) → mark_in (marked_of ns ms) id stand ≡ marked_last ms stand (last_place ns id)
mark_at [] ms id stand = refl
mark_at (n ∷ ns) ms id stand = elim (nat_eq n id) as (λ b. (if b then at_stand stand (slice_index_or ms (length ns) unmarked) else mark_in (marked_of ns ms) id stand) ≡ marked_last ms stand (if b then Some (length ns) else last_place ns id)) [
  | true ↦ refl
  | false ↦ mark_at ns ms id stand
]

marked_same : (ns : List ℕ) (ts : List Mark) (t : Mark) → length ns ≤ length ts → marked_of ns (ts ++ t ∷ []) ≡ marked_of ns ts
marked_same [] ts t h = refl
marked_same (n ∷ ns) ts t h =
    ap (λ x. record { id = n; mark = x } ∷ marked_of ns (ts ++ t ∷ [])) (get_or_append_left ts (t ∷ []) unmarked (length ns) h)
    ∙ ap (λ xs. record { id = n; mark = slice_index_or ts (length ns) unmarked } ∷ xs) (marked_same ns ts t (omega arith))

pub marked_more : (ns : List ℕ) (ts : List Mark) (n : ℕ) (t : Mark) → length ns ≡ length ts →
    marked_of (n ∷ ns) (ts ++ t ∷ []) ≡ record { id = n; mark = t } ∷ marked_of ns ts
marked_more ns ts n t h =
    ap (λ x. record { id = n; mark = x } ∷ marked_of ns (ts ++ t ∷ [])) (get_or_push ts t unmarked (length ns) (sym h))
    ∙ ap (λ xs. record { id = n; mark = t } ∷ xs) (marked_same ns ts t (omega arith))

first_at : (stand : Stand) (s : Splits) → at_stand stand (mark_of s) ≡ first_place (body_splits stand s)
first_at sharing.Spine s = refl
first_at sharing.Chain s = refl
first_at sharing.Elsewhere s = refl

-- a mark is the first of the places that it stands for
pub mark_is : (ss : List Splits) (id : ℕ) (stand : Stand) → mark_in (marks_of ss) id stand ≡ first_place (splits_of ss id stand)
mark_is [] id stand = refl
mark_is (s ∷ ss) id stand = elim (nat_eq s.id id) as (λ b. (if b then at_stand stand (mark_of s) else mark_in (marks_of ss) id stand) ≡ first_place (if b then body_splits stand s else splits_of ss id stand)) [
  | true ↦ first_at stand s
  | false ↦ mark_is ss id stand
]
