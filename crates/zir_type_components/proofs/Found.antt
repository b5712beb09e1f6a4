-- `fun comp`s by their numbers.
use Rattle.std.specs.Prelude.{◌≡◌, ℕ, zero, suc, ◌+◌, ◌<◌, ◌≤◌, List, [], ◌∷◌, drop, length, get_or, Bool, true, false, Option, Some, None, cond}
use Rattle.std.specs.Prelude.{nat_eq, slice_get, if◌then◌else◌, refl}
use Rattle.std.proofs.Common.{ap, ◌∙◌, sym, subst, add-one, arith}
use Rattle.std.proofs.lemmas.Bool.{eq-eqb, ne_eqb, ltb-true}
use Rattle.zir_tree.specs.declared.program.Instance.{Instance}
use Rattle.zir_tree.specs.declared.types.Ty.{Ty}
use Rattle.zir_types.specs.Scope.{Visible, Placed}
use Rattle.zir_types.specs.Components.{Maker, instance_from}
use Rattle.zir_types.specs.Programs.{Prepared, maker, makers}
use Rattle.zir_types.proofs.Fine.{both}
use Rattle.zir_types.proofs.Places.{at_place}
use Rattle.zir_type_components.specs.Numbers.{Split, found, falling, head_below}
use Rattle.zir_type_components.specs.Calls.{is_instance_of}
use Rattle.zir_type_components.specs.Sizes.{size_of, heights}

-- A `fun comp` with those before it.
abbrev pub split_at : Prepared → List Prepared → Split
split_at d ds = record { item = d; before = ds }

-- How the body of what is found is typed.
abbrev pub maker_in : Visible → Option Split → Option Maker
maker_in tops None = None
maker_in tops (Some s) = Some (maker tops (makers tops s.before) s.item)

-- The size of the body of what is found.
abbrev pub height_in : Option Split → ℕ
height_in None = 0
height_in (Some s) = size_of (heights s.before) s.item.body

maker_case : (tops : Visible) (d : Prepared) (ds : List Prepared) (o : Option Split) (m : Option Maker) (b : Bool) → m ≡ maker_in tops o →
    cond b (Some (maker tops (makers tops ds) d)) m ≡ maker_in tops (cond b (Some (split_at d ds)) o)
maker_case tops d ds o m true h = refl
maker_case tops d ds o m false h = h

pub maker-found : (tops : Visible) (ds : List Prepared) (id : ℕ) → makers tops ds id ≡ maker_in tops (found ds id)
maker-found tops [] id = refl
maker-found tops (d ∷ ds) id = maker_case tops d ds (found ds id) (makers tops ds id) (nat_eq d.id id) (maker-found tops ds id)

height_case : (d : Prepared) (ds : List Prepared) (o : Option Split) (m : ℕ) (b : Bool) → m ≡ height_in o →
    cond b (size_of (heights ds) d.body) m ≡ height_in (cond b (Some (split_at d ds)) o)
height_case d ds o m true h = refl
height_case d ds o m false h = h

pub height-found : (ds : List Prepared) (id : ℕ) → heights ds id ≡ height_in (found ds id)
height-found [] id = refl
height-found (d ∷ ds) id = height_case d ds (found ds id) (heights ds id) (nat_eq d.id id) (height-found ds id)

-- What stands here is found.
pub found_here : (ds : List Prepared) (n id : ℕ) (d : Prepared) → n < length ds → d ≡ get_or ds n d → nat_eq d.id id ≡ true →
    found (drop n ds) id ≡ Some (split_at d (drop (n + 1) ds))
found_here ds n id d h e b = ap (λ l. found l id) (at_place ds n d h e)
    ∙ ap (λ t. if t then Some (split_at d (drop (n + 1) ds)) else found (drop (n + 1) ds) id) b

-- What has another number is passed.
pub found_past : (ds : List Prepared) (n id : ℕ) (d : Prepared) → n < length ds → d ≡ get_or ds n d → nat_eq d.id id ≡ false →
    found (drop n ds) id ≡ found (drop (n + 1) ds) id
found_past ds n id d h e b = ap (λ l. found l id) (at_place ds n d h e)
    ∙ ap (λ t. if t then Some (split_at d (drop (n + 1) ds)) else found (drop (n + 1) ds) id) b

-- Each behind the first has a lesser number, where numbers fall.
below : (ds : List Prepared) (d : Prepared) (k n : ℕ) → head_below n ds ≡ true → falling ds ≡ true → slice_get ds k ≡ Some d → d.id < n
below [] d k n h f e = absurd cc
below (e1 ∷ ds) d zero n h f e =
    let s : e1 ≡ d = cc in
    subst (λ (x : Prepared). x.id < n) s (ltb-true e1.id n h)
below (e1 ∷ ds) d (suc k) n h f e =
    let b = both (head_below e1.id ds) (falling ds) f in
    let lt : e1.id < n = ltb-true e1.id n h in
    let l : d.id < e1.id = below ds d k e1.id b.0 b.1 e in omega arith

first_found : (x : Prepared) (ds : List Prepared) (id : ℕ) → nat_eq x.id id ≡ true → found (x ∷ ds) id ≡ Some (split_at x ds)
first_found x ds id b = ap (λ t. if t then Some (split_at x ds) else found ds id) b

first_passed : (x : Prepared) (ds : List Prepared) (id : ℕ) → nat_eq x.id id ≡ false → found (x ∷ ds) id ≡ found ds id
first_passed x ds id b = ap (λ t. if t then Some (split_at x ds) else found ds id) b

-- Where numbers fall, what has this number anywhere behind a place is found from there.
pub found_falling : (ds : List Prepared) (from k : ℕ) (d : Prepared) → falling ds ≡ true → from ≤ k → slice_get ds k ≡ Some d →
    found (drop from ds) d.id ≡ Some (split_at d (drop (suc k) ds))
found_falling [] from k d f h e = absurd cc
found_falling (x ∷ ds) zero zero d f h e =
    let s : x ≡ d = cc in
    let here : found (x ∷ ds) x.id ≡ Some (split_at x ds) = first_found x ds x.id (eq-eqb x.id x.id refl) in
    subst (λ (y : Prepared). found (x ∷ ds) y.id ≡ Some (split_at y ds)) s here
found_falling (x ∷ ds) zero (suc k) d f h e =
    let b = both (head_below x.id ds) (falling ds) f in
    let lt : d.id < x.id = below ds d k x.id b.0 b.1 e in
    first_passed x ds d.id (ne_eqb x.id d.id (λ q. absurd (omega (arith, q)))) ∙ found_falling ds zero k d b.1 (omega arith) e
found_falling (x ∷ ds) (suc from) zero d f h e = absurd (omega arith)
found_falling (x ∷ ds) (suc from) (suc k) d f h e = found_falling ds from k d (both (head_below x.id ds) (falling ds) f).1 (omega arith) e

pub instance_here : (is : List Instance) (n id : ℕ) (a : Ty) (i : Instance) → n < length is → i ≡ get_or is n i → is_instance_of i id a ≡ true →
    instance_from n (drop n is) id a ≡ Some (record { place = n; item = i })
instance_here is n id a i h e b = ap (λ l. instance_from n l id a) (at_place is n i h e)
    ∙ ap (λ t. if t then Some (let p : Placed Instance = record { place = n; item = i } in p) else instance_from (suc n) (drop (n + 1) is) id a) b

pub instance_past : (is : List Instance) (n id : ℕ) (a : Ty) (i : Instance) → n < length is → i ≡ get_or is n i → is_instance_of i id a ≡ false →
    instance_from n (drop n is) id a ≡ instance_from (n + 1) (drop (n + 1) is) id a
instance_past is n id a i h e b = ap (λ l. instance_from n l id a) (at_place is n i h e)
    ∙ ap (λ t. if t then Some (let p : Placed Instance = record { place = n; item = i } in p) else instance_from (suc n) (drop (n + 1) is) id a) b
    ∙ ap (λ m. instance_from m (drop (n + 1) is) id a) (sym (add-one n))

-- A hit where numbers fall.
pub hit_found : (ds : List Prepared) (from k id next : ℕ) (x : Prepared) → falling ds ≡ true → from ≤ k → slice_get ds k ≡ Some x → x.id ≡ id → next ≡ k + 1 →
    Some (split_at x (drop next ds)) ≡ found (drop from ds) id
hit_found ds from k id next x f h e hid hn =
    ap (λ n. Some (split_at x (drop n ds))) (hn ∙ add-one k)
    ∙ sym (found_falling ds from k x f h e) ∙ ap (found (drop from ds)) hid
