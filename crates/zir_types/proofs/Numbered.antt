-- Declarations found by their numbers.
use Rattle.std.specs.Prelude.{◌≡◌, refl, ℕ, zero, suc, ◌+◌, List, [], ◌∷◌, take, Option, Some, None, nat_eq, slice_get, MatchOption}
use Rattle.std.proofs.Common.{ap, ◌∙◌, sym, arith, inl, inr}
use Rattle.std.proofs.lemmas.Bool.{cases_Bool}
use Rattle.std.proofs.lemmas.List.{take-map}
use Rattle.zir_tree.specs.declared.types.Ty.{Ty}
use Rattle.zir_lookup.specs.Numbers.{place_from}
use Rattle.zir_types.specs.declared.scope.Seen.{Seen}
use Rattle.zir_types.specs.declared.scope.Shape.{Shape}
use Rattle.zir_types.specs.declared.scope.Signature.{Signature}
use Rattle.zir_types.specs.Scope.{Placed, type_in, function_from, shape_from}
use Rattle.zir_types.specs.Numbered.{shape_ids, function_ids, variable_ids, AreNumbered, IsFunctionAt, IsShapeAt}

-- a variable whose number is missed
type_missed : (n : ℕ) (vs : List Seen) (id : ℕ) → place_from n (variable_ids vs) id ≡ None → type_in vs id ≡ None
type_missed n [] id h = refl
type_missed n (v ∷ vs) id h = elim (cases_Bool (nat_eq v.id id)) [
  | inl e ↦ let g : Some n ≡ None = rw e at h in absurd cc
  | inr e ↦ rw e (type_missed (suc n) vs id (rw e at h))
]

-- the type of a variable, if there is one
abbrev pub type_of : Option Seen → Option Ty
type_of None = None
type_of (Some v) = Some v.ty

-- a variable whose number is found
type_found : (n : ℕ) (vs : List Seen) (id p : ℕ) → place_from n (variable_ids vs) id ≡ Some p → (k : ℕ) × (p ≡ n + k) × (type_of (slice_get vs k) ≡ type_in vs id)
type_found n [] id p h = absurd cc
type_found n (v ∷ vs) id p h = elim (cases_Bool (nat_eq v.id id)) [
  | inl e ↦ (zero, let g : Some n ≡ Some p = rw e at h in let m : n ≡ p = cc in omega arith, rw e refl)
  | inr e ↦ let r = type_found (suc n) vs id p (rw e at h) in (suc r.0, omega (arith, r.1), rw e r.2)
]

-- the type of a variable by the place of its number
pub variable_none : (vs : List Seen) (ids : List ℕ) (id : ℕ) → ids ≡ variable_ids vs → None ≡ place_from 0 ids id → type_in vs id ≡ None
variable_none vs ids id e h = type_missed 0 vs id (ap (λ l. place_from 0 l id) (sym e) ∙ sym h)

pub variable_some : (vs : List Seen) (ids : List ℕ) (id p : ℕ) (xs : List Seen) (o : Option Seen) → ids ≡ variable_ids vs → Some p ≡ place_from 0 ids id →
    xs ≡ vs → o ≡ slice_get xs p → type_of o ≡ type_in vs id
variable_some vs ids id p xs o e h same get =
    let r = type_found 0 vs id p (ap (λ l. place_from 0 l id) (sym e) ∙ sym h) in
    ap type_of (get ∙ ap (λ l. slice_get l p) same ∙ ap (slice_get vs) (let q : p ≡ r.0 = omega (arith, r.1) in q)) ∙ r.2

function_missed : (n : ℕ) (fs : List Signature) (id : ℕ) → place_from n (function_ids fs) id ≡ None → function_from n fs id ≡ None
function_missed n [] id h = refl
function_missed n (f ∷ fs) id h = elim (cases_Bool (nat_eq f.id id)) [
  | inl e ↦ let g : Some n ≡ None = rw e at h in absurd cc
  | inr e ↦ rw e (function_missed (suc n) fs id (rw e at h))
]

function_found : (n : ℕ) (fs : List Signature) (id p : ℕ) → place_from n (function_ids fs) id ≡ Some p →
    (k : ℕ) × (p ≡ n + k) × (s : Signature) × (slice_get fs k ≡ Some s) × (function_from n fs id ≡ Some (record { place = p; item = s }))
function_found n [] id p h = absurd cc
function_found n (f ∷ fs) id p h = elim (cases_Bool (nat_eq f.id id)) [
  | inl e ↦
      let g : Some n ≡ Some p = rw e at h in
      let m : n ≡ p = cc in
      (zero, omega arith, f, refl, rw e (ap (λ q. Some (let x : Placed Signature = record { place = q; item = f } in x)) m))
  | inr e ↦ let r = function_found (suc n) fs id p (rw e at h) in (suc r.0, omega (arith, r.1), r.2, r.3, rw e r.4)
]

function_place : (fs : List Signature) (id : ℕ) (w : Option ℕ) → w ≡ place_from 0 (function_ids fs) id → MatchOption w (function_from 0 fs id ≡ None) (IsFunctionAt fs id)
function_place fs id None h = function_missed 0 fs id (sym h)
function_place fs id (Some p) h =
    let r = function_found 0 fs id p (sym h) in
    (r.2, ap (slice_get fs) (let q : p ≡ r.0 = omega (arith, r.1) in q) ∙ r.3, r.4)

-- a function by the place of its number
pub function_by : (fs : List Signature) (ids : List ℕ) (id : ℕ) (w : Option ℕ) → ids ≡ function_ids fs → w ≡ place_from 0 ids id →
    MatchOption w (function_from 0 fs id ≡ None) (IsFunctionAt fs id)
function_by fs ids id w e h = function_place fs id w (h ∙ ap (λ l. place_from 0 l id) e)

shape_missed : (n : ℕ) (ss : List Shape) (id : ℕ) → place_from n (shape_ids ss) id ≡ None → shape_from n ss id ≡ None
shape_missed n [] id h = refl
shape_missed n (s ∷ ss) id h = elim (cases_Bool (nat_eq s.id id)) [
  | inl e ↦ let g : Some n ≡ None = rw e at h in absurd cc
  | inr e ↦ rw e (shape_missed (suc n) ss id (rw e at h))
]

shape_found : (n : ℕ) (ss : List Shape) (id p : ℕ) → place_from n (shape_ids ss) id ≡ Some p →
    (k : ℕ) × (p ≡ n + k) × (s : Shape) × (slice_get ss k ≡ Some s) × (shape_from n ss id ≡ Some (record { place = p; item = s }))
shape_found n [] id p h = absurd cc
shape_found n (s ∷ ss) id p h = elim (cases_Bool (nat_eq s.id id)) [
  | inl e ↦
      let g : Some n ≡ Some p = rw e at h in
      let m : n ≡ p = cc in
      (zero, omega arith, s, refl, rw e (ap (λ q. Some (let x : Placed Shape = record { place = q; item = s } in x)) m))
  | inr e ↦ let r = shape_found (suc n) ss id p (rw e at h) in (suc r.0, omega (arith, r.1), r.2, r.3, rw e r.4)
]

shape_place : (ss : List Shape) (id : ℕ) (w : Option ℕ) → w ≡ place_from 0 (shape_ids ss) id → MatchOption w (shape_from 0 ss id ≡ None) (IsShapeAt ss id)
shape_place ss id None h = shape_missed 0 ss id (sym h)
shape_place ss id (Some p) h =
    let r = shape_found 0 ss id p (sym h) in
    (r.2, ap (slice_get ss) (let q : p ≡ r.0 = omega (arith, r.1) in q) ∙ r.3, r.4)

-- a struct by the place of its number
pub shape_by : (ss : List Shape) (ids : List ℕ) (id : ℕ) (w : Option ℕ) → ids ≡ shape_ids ss → w ≡ place_from 0 ids id →
    MatchOption w (shape_from 0 ss id ≡ None) (IsShapeAt ss id)
shape_by ss ids id w e h = shape_place ss id w (h ∙ ap (λ l. place_from 0 l id) e)

-- the first variables have the first numbers
pub numbered-take : (ss : List Shape) (fs : List Signature) (vs us : List Seen) (s f v u : List ℕ) (n : ℕ) → AreNumbered ss fs vs s f v →
    us ≡ take n vs → u ≡ take n v → AreNumbered ss fs us s f u
numbered-take ss fs vs us s f v u n h e k = record {
  of_shapes = h.of_shapes;
  of_functions = h.of_functions;
  of_variables = k ∙ ap (take n) h.of_variables ∙ take-map (λ (x : Seen). x.id) n vs ∙ ap variable_ids (sym e);
}
