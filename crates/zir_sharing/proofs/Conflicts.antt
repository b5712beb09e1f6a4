-- The first conflict along lists, and the equations of the rules at the trees that code has.
use Rattle.std.specs.Prelude.{◌≡◌, ℕ, ◌<◌, ◌≤◌, ◌+◌, ◌⊎◌, true, false, ◌&&◌, List, [], ◌∷◌, ◌++◌, Option, Some, None, Result, length, nat_eq, nat_lt, slice_index_or, take, drop, refl}
use Rattle.std.specs.List.{flat_map}
use Rattle.std.proofs.Common.{ap, ◌∙◌, sym, subst, arith, IsErrAnd, inl, inr}
use Rattle.std.proofs.lemmas.Bool.{false≢true, cases_Bool, ltb-true, ltb-false, eqb-true, eqb-false}
use Rattle.std.proofs.lemmas.List.{append_assoc, take_more, flat_map_more}
use Rattle.zir_sharing.proofs.Touching.{drop_item}
use Rattle.std.proofs.lemmas.Result.{err_from_is_err_and}
use denote.Hole.Carrier.{hidden}
use Rattle.zir_tree.specs.declared.ident.Ident.{Ident}
use Rattle.zir_tree.specs.declared.place.Place.{Place}
use Rattle.zir_tree.specs.declared.expr.Expr.{Expr}
use Rattle.zir_tree.specs.declared.comp.Comp.{Comp}
use Rattle.zir_tree.specs.declared.comp.Comp as comp
use Rattle.zir_tree.specs.declared.comp.Link.{Link}
use Rattle.zir_tree.specs.declared.comp.Link.TheVariants.{Serial, Parallel}
use Rattle.zir_tree.specs.declared.comp.Turning.{Turning}
use Rattle.zir_tree.specs.declared.comp.Comp.TheBlock.{shape-the_row-Comp-0, hidden-the_row-Comp-0, shape-the_row-Member-1, hidden-the_row-Member-1}
use Rattle.zir_tree.specs.declared.comp.Member.{Member, Bind, Var, Run}
use Rattle.zir_tree.specs.declared.program.Decl.{Decl}
use Rattle.zir_tree.specs.declared.program.Decl.TheVariants as decl
use Rattle.zir_sharing.specs.declared.error.ShareError.{ShareError}
use Rattle.zir_sharing.specs.declared.error.ShareError.TheVariants.{Shared, SplitPlace, OuterAssign, Memory}
use Rattle.zir_names.specs.Touched.{Called, in_comp}
use Rattle.zir_names.specs.Sharing.{Conflict, or_then, Joint, joints, joints_of, throughout, shared_at, shared_by, first_shared, earlier, is_before, first_place}
use Rattle.zir_names.specs.Sharing.{Splits, Stand, Spine, Elsewhere, within, left_of, split_at, splits, splits_in, splits_from, outers, outers_in, outer_of, chain_declares, last_operand, first_of}
use Rattle.zir_names.specs.Numbers.{least}
use Rattle.zir_sharing.specs.Marks.{earliest}
use Rattle.zir_sharing.specs.Blocks.{of_member, of_decl}
use Rattle.zir_sharing.specs.Answers.{Refuses, Answers}

-- a refusal of the first rule is that of both
pub refuses_first : (a b : Option Conflict) (error : ShareError) → Refuses a error → Refuses (or_then a b) error
refuses_first a b (Shared x at) h = ap (λ o. or_then o b) h
refuses_first a b (SplitPlace at) h = ap (λ o. or_then o b) h
refuses_first a b (OuterAssign x at) h = ap (λ o. or_then o b) h
refuses_first a b Memory h = tt

-- a refusal where the first refuses nothing
pub answers_next : {A : Type 0} (a b : Option Conflict) (r : Result A ShareError) → a ≡ None → Answers b r → Answers (or_then a b) r
answers_next a b r h k = subst (λ o. Answers (or_then o b) r) (sym h) k

-- the same at a result that is this error
pub answers_err : {A : Type 0} (a b : Option Conflict) (error : ShareError) (r : Result A ShareError) →
    IsErrAnd r (λ e. e ≡ error) → Refuses a error → Answers (or_then a b) r
answers_err a b error r is h =
    let p = err_from_is_err_and r is in
    subst (λ v. Answers (or_then a b) v) (sym p.1) (subst (λ e. Refuses (or_then a b) e) (sym p.2) (refuses_first a b error h))

-- a refusal of the first of three
pub answers_left : {A : Type 0} (a b c : Option Conflict) (error : ShareError) (r : Result A ShareError) →
    IsErrAnd r (λ e. e ≡ error) → Refuses a error → Answers (or_then (or_then a b) c) r
answers_left a b c error r is h =
    let p = err_from_is_err_and r is in
    subst (λ v. Answers (or_then (or_then a b) c) v) (sym p.1)
    (subst (λ e. Refuses (or_then (or_then a b) c) e) (sym p.2) (refuses_first (or_then a b) c error (refuses_first a b error h)))

-- an answer to the other two of three
pub answers_both : {A : Type 0} (a b c : Option Conflict) (r : Result A ShareError) → a ≡ None → Answers (or_then b c) r → Answers (or_then (or_then a b) c) r
answers_both a b c r h k = subst (λ o. Answers (or_then (or_then o b) c) r) (sym h) k

or_then-assoc : (a b c : Option Conflict) → or_then (or_then a b) c ≡ or_then a (or_then b c)
or_then-assoc None b c = refl
or_then-assoc (Some x) b c = refl

or_then-none : (a : Option Conflict) → or_then a None ≡ a
or_then-none None = refl
or_then-none (Some x) = refl

pub shared-append : (fs : List Called) (js ks : List Joint) → first_shared fs (js ++ ks) ≡ or_then (first_shared fs js) (first_shared fs ks)
shared-append fs [] ks = refl
shared-append fs (j ∷ js) ks =
    let first = shared_at (least (shared_by (in_comp fs j.left) (in_comp fs j.right))) j.at in
    ap (or_then first) (shared-append fs js ks) ∙ sym (or_then-assoc first (first_shared fs js) (first_shared fs ks))

pub first_of-append : (xs ys : List Conflict) → first_of (xs ++ ys) ≡ or_then (first_of xs) (first_of ys)
first_of-append [] ys = refl
first_of-append (x ∷ xs) ys = refl

-- places in the order of the text
before_true : (p q : Place) → is_before p q ≡ true → (p.line < q.line) ⊎ ((p.line ≡ q.line) × (p.col < q.col))
before_true p q h = elim (cases_Bool (nat_lt p.line q.line)) [
  | inl hit ↦ inl (ltb-true p.line q.line hit)
  | inr miss ↦ (let k : (nat_eq p.line q.line && nat_lt p.col q.col) ≡ true = rw miss at h in
      elim (cases_Bool (nat_eq p.line q.line)) [
        | inl same ↦ inr (eqb-true p.line q.line same, ltb-true p.col q.col (rw same at k))
        | inr other ↦ absurd (false≢true (rw other at k))
      ])
]

before_false : (p q : Place) → is_before p q ≡ false → (q.line < p.line) ⊎ ((p.line ≡ q.line) × (q.col ≤ p.col))
before_false p q h = elim (cases_Bool (nat_lt p.line q.line)) [
  | inl hit ↦ absurd (false≢true (sym (rw hit at h)))
  | inr miss ↦ (let k : (nat_eq p.line q.line && nat_lt p.col q.col) ≡ false = rw miss at h in
      let le : q.line ≤ p.line = ltb-false p.line q.line miss in
      elim (cases_Bool (nat_eq p.line q.line)) [
        | inl same ↦ inr (eqb-true p.line q.line same, ltb-false p.col q.col (rw same at k))
        | inr other ↦ (let ne : p.line ≡ q.line → ⊥ = eqb-false p.line q.line other in inl (omega arith))
      ])
]

before-from : (p q : Place) → (p.line < q.line) ⊎ ((p.line ≡ q.line) × (p.col < q.col)) → is_before p q ≡ true
before-from p q h = elim (cases_Bool (is_before p q)) [
  | inl hit ↦ hit
  | inr miss ↦ absurd (elim h [
    | inl lt ↦ (elim (before_false p q miss) [ inl gt ↦ omega arith | inr r ↦ omega (arith, r.0) ])
    | inr k ↦ (elim (before_false p q miss) [ inl gt ↦ omega (arith, k.0) | inr r ↦ omega (arith, r.1, k.1) ])
  ])
]

before_through : (p q r : Place) → is_before r q ≡ true → is_before q p ≡ true → is_before r p ≡ true
before_through p q r h k = before-from r p (elim (before_true r q h) [
  | inl a ↦ (elim (before_true q p k) [ inl b ↦ inl (omega arith) | inr b ↦ inl (omega (arith, b.0)) ])
  | inr a ↦ (elim (before_true q p k) [ inl b ↦ inl (omega (arith, a.0)) | inr b ↦ inr (a.0 ∙ b.0, omega (arith, a.1, b.1)) ])
])

not_before_through : (p q r : Place) → is_before r q ≡ false → is_before q p ≡ false → is_before r p ≡ false
not_before_through p q r h k = elim (cases_Bool (is_before r p)) [
  | inr miss ↦ miss
  | inl hit ↦ absurd (elim (before_true r p hit) [
    | inl a ↦ (elim (before_false r q h) [
      | inl b ↦ (elim (before_false q p k) [ inl c ↦ omega arith | inr c ↦ omega (arith, c.0) ])
      | inr b ↦ (elim (before_false q p k) [ inl c ↦ omega (arith, b.0) | inr c ↦ omega (arith, b.0, c.0) ])
    ])
    | inr a ↦ (elim (before_false r q h) [
      | inl b ↦ (elim (before_false q p k) [ inl c ↦ omega (arith, a.0) | inr c ↦ omega (arith, a.0, c.0) ])
      | inr b ↦ (elim (before_false q p k) [ inl c ↦ omega (arith, a.0, b.0) | inr c ↦ omega (arith, a.1, b.1, c.1) ])
    ])
  ])
]

earlier-earliest : (p : Place) (o r : Option Place) → earliest (Some (earlier p o)) r ≡ Some (earlier p (earliest o r))
earlier-earliest p None r = refl
earlier-earliest p (Some q) None = refl
earlier-earliest p (Some q) (Some r) = ap Some (elim (cases_Bool (is_before q p)) [
  | inl qp ↦ (elim (cases_Bool (is_before r q)) [
    | inl rq ↦ (rw (qp, rq, before_through p q r rq qp) refl)
    | inr rq ↦ (rw (qp, rq, qp) refl)
  ])
  | inr qp ↦ (elim (cases_Bool (is_before r q)) [
    | inl rq ↦ (rw (qp, rq) refl)
    | inr rq ↦ (rw (qp, rq, not_before_through p q r rq qp, qp) refl)
  ])
])

pub first_place-append : (ps qs : List Place) → first_place (ps ++ qs) ≡ earliest (first_place ps) (first_place qs)
first_place-append [] qs = refl
first_place-append (p ∷ ps) qs = ap (λ o. Some (earlier p o)) (first_place-append ps qs) ∙ sym (earlier-earliest p (first_place ps) (first_place qs))

-- the first conflict of what is left of a list, and what stands behind it
pub shared_rest : {X : Type 0} (fs : List Called) (f : X → List Joint) (xs : List X) (tail : List Joint) (i : ℕ) (x : X) → i < length xs → x ≡ slice_index_or xs i x →
    first_shared fs (flat_map f (drop i xs) ++ tail) ≡ or_then (first_shared fs (f x)) (first_shared fs (flat_map f (drop (i + 1) xs) ++ tail))
shared_rest fs f xs tail i x lt is =
    ap (λ l. first_shared fs (flat_map f l ++ tail)) (drop_item xs i x lt is)
    ∙ ap (first_shared fs) (append_assoc (f x) (flat_map f (drop (i + 1) xs)) tail)
    ∙ shared-append fs (f x) (flat_map f (drop (i + 1) xs) ++ tail)

-- the same where nothing stands behind it
pub shared_items : {X : Type 0} (fs : List Called) (f : X → List Joint) (xs : List X) (i : ℕ) (x : X) → i < length xs → x ≡ slice_index_or xs i x →
    first_shared fs (flat_map f (drop i xs)) ≡ or_then (first_shared fs (f x)) (first_shared fs (flat_map f (drop (i + 1) xs)))
shared_items fs f xs i x lt is =
    ap (λ l. first_shared fs (flat_map f l)) (drop_item xs i x lt is) ∙ shared-append fs (f x) (flat_map f (drop (i + 1) xs))

-- one more item of a list
pub flat_map_take : {X A : Type 0} (f : X → List A) (xs : List X) (i : ℕ) (x : X) → i < length xs → x ≡ slice_index_or xs i x →
    flat_map f (take (i + 1) xs) ≡ flat_map f (take i xs) ++ f x
flat_map_take f xs i x lt is =
    ap (flat_map f) (take_more xs i x lt ∙ ap (λ y. take i xs ++ y ∷ []) (sym is)) ∙ sym (flat_map_more f [] (take i xs) x)

-- one more declaration
splits_from-append : (ss : List Splits) (ds es : List Decl) → splits_from ss (ds ++ es) ≡ splits_from (splits_from ss ds) es
splits_from-append ss [] es = refl
splits_from-append ss (decl.Var v ∷ ds) es = splits_from-append ss ds es
splits_from-append ss (decl.Struct s ∷ ds) es = splits_from-append ss ds es
splits_from-append ss (decl.Function f ∷ ds) es = splits_from-append ss ds es
splits_from-append ss (decl.Comp f ∷ ds) es = splits_from-append (record { id = f.name.id; on_spine = splits ss Spine f.body; off_spine = splits ss Elsewhere f.body } ∷ ss) ds es

pub splits_from-take : (ds : List Decl) (i : ℕ) (d : Decl) → i < length ds → d ≡ slice_index_or ds i d →
    splits_from [] (take (i + 1) ds) ≡ splits_from (splits_from [] (take i ds)) (d ∷ [])
splits_from-take ds i d lt is =
    ap (splits_from []) (take_more ds i d lt ∙ ap (λ y. take i ds ++ y ∷ []) (sym is)) ∙ splits_from-append [] (take i ds) (d ∷ [])

pub operand-Parallel : (c d : Comp) (at : Place) → last_operand (comp.Pipe Parallel c d at) ≡ d
unfolding shape-the_row-Comp-0 hidden-the_row-Comp-0 hidden
operand-Parallel c d at = refl

-- the members of a block as a list
pub joints-list : (ms : List Member) → joints_of (hidden-the_row-Member-1 ms) ≡ flat_map (of_member joints) ms
unfolding shape-the_row-Member-1 hidden-the_row-Member-1 hidden
joints-list [] = refl
joints-list (Bind x c ∷ ms) = ap (λ js. joints c ++ js) (joints-list ms)
joints-list (Var v ∷ ms) = joints-list ms
joints-list (Run c ∷ ms) = ap (λ js. joints c ++ js) (joints-list ms)

pub splits-list : (ss : List Splits) (stand : Stand) (ms : List Member) → splits_in ss stand (hidden-the_row-Member-1 ms) ≡ flat_map (of_member (splits ss stand)) ms
unfolding shape-the_row-Member-1 hidden-the_row-Member-1 hidden
splits-list ss stand [] = refl
splits-list ss stand (Bind x c ∷ ms) = ap (λ js. splits ss stand c ++ js) (splits-list ss stand ms)
splits-list ss stand (Var v ∷ ms) = splits-list ss stand ms
splits-list ss stand (Run c ∷ ms) = ap (λ js. splits ss stand c ++ js) (splits-list ss stand ms)

pub outers-list : (fs : List Called) (ms : List Member) → outers_in fs (hidden-the_row-Member-1 ms) ≡ flat_map (of_member (outers fs None)) ms
unfolding shape-the_row-Member-1 hidden-the_row-Member-1 hidden
outers-list fs [] = refl
outers-list fs (Bind x c ∷ ms) = ap (λ js. outers fs None c ++ js) (outers-list fs ms)
outers-list fs (Var v ∷ ms) = outers-list fs ms
outers-list fs (Run c ∷ ms) = ap (λ js. outers fs None c ++ js) (outers-list fs ms)

-- the declarations of a program as a list
pub throughout-list : {A : Type 0} (look : Comp → List A) (ds : List Decl) (main : Comp) → throughout look ds main ≡ flat_map (of_decl look) ds ++ look main
throughout-list look [] main = refl
throughout-list look (decl.Var v ∷ ds) main = throughout-list look ds main
throughout-list look (decl.Struct s ∷ ds) main = throughout-list look ds main
throughout-list look (decl.Function f ∷ ds) main = throughout-list look ds main
throughout-list look (decl.Comp f ∷ ds) main = ap (λ xs. look f.body ++ xs) (throughout-list look ds main) ∙ sym (append_assoc (look f.body) (flat_map (of_decl look) ds) (look main))

pub joints-Repeat : (c : Comp) (at : Place) → joints (comp.Repeat c at) ≡ joints c
unfolding shape-the_row-Comp-0 hidden-the_row-Comp-0 hidden
joints-Repeat c at = refl

pub joints-While : (turning : Turning) (e : Expr) (c : Comp) (at : Place) → joints (comp.While turning e c at) ≡ joints c
unfolding shape-the_row-Comp-0 hidden-the_row-Comp-0 hidden
joints-While turning e c at = refl

pub joints-Times : (e : Expr) (c : Comp) (at : Place) → joints (comp.Times e c at) ≡ joints c
unfolding shape-the_row-Comp-0 hidden-the_row-Comp-0 hidden
joints-Times e c at = refl

pub joints-For : (x : Ident) (a n : Expr) (c : Comp) (at : Place) → joints (comp.For x a n c at) ≡ joints c
unfolding shape-the_row-Comp-0 hidden-the_row-Comp-0 hidden
joints-For x a n c at = refl

pub joints-If : (e : Expr) (c d : Comp) (at : Place) → joints (comp.If e c d at) ≡ joints c ++ joints d
unfolding shape-the_row-Comp-0 hidden-the_row-Comp-0 hidden
joints-If e c d at = refl

pub joints-Block : (ms : List Member) (at : Place) → joints (comp.Block ms at) ≡ flat_map (of_member joints) ms
joints-Block ms at = joints-list ms

pub joints-Pipe : (link : Link) (c d : Comp) (at : Place) → joints (comp.Pipe link c d at) ≡ joints c ++ record { left = c; right = d; at = at } ∷ joints d
unfolding shape-the_row-Comp-0 hidden-the_row-Comp-0 hidden
joints-Pipe link c d at = refl

pub splits-Repeat : (ss : List Splits) (stand : Stand) (c : Comp) (at : Place) → splits ss stand (comp.Repeat c at) ≡ splits ss (within stand) c
unfolding shape-the_row-Comp-0 hidden-the_row-Comp-0 hidden
splits-Repeat ss stand c at = refl

pub splits-While : (ss : List Splits) (stand : Stand) (turning : Turning) (e : Expr) (c : Comp) (at : Place) → splits ss stand (comp.While turning e c at) ≡ splits ss (within stand) c
unfolding shape-the_row-Comp-0 hidden-the_row-Comp-0 hidden
splits-While ss stand turning e c at = refl

pub splits-Times : (ss : List Splits) (stand : Stand) (e : Expr) (c : Comp) (at : Place) → splits ss stand (comp.Times e c at) ≡ splits ss (within stand) c
unfolding shape-the_row-Comp-0 hidden-the_row-Comp-0 hidden
splits-Times ss stand e c at = refl

pub splits-For : (ss : List Splits) (stand : Stand) (x : Ident) (a n : Expr) (c : Comp) (at : Place) → splits ss stand (comp.For x a n c at) ≡ splits ss (within stand) c
unfolding shape-the_row-Comp-0 hidden-the_row-Comp-0 hidden
splits-For ss stand x a n c at = refl

pub splits-If : (ss : List Splits) (stand : Stand) (e : Expr) (c d : Comp) (at : Place) → splits ss stand (comp.If e c d at) ≡ splits ss (within stand) c ++ splits ss (within stand) d
unfolding shape-the_row-Comp-0 hidden-the_row-Comp-0 hidden
splits-If ss stand e c d at = refl

pub splits-Block : (ss : List Splits) (stand : Stand) (ms : List Member) (at : Place) → splits ss stand (comp.Block ms at) ≡ flat_map (of_member (splits ss (within stand))) ms
splits-Block ss stand ms at = splits-list ss (within stand) ms

pub splits-Pipe : (ss : List Splits) (stand : Stand) (link : Link) (c d : Comp) (at : Place) →
    splits ss stand (comp.Pipe link c d at) ≡ (splits ss (left_of stand link) c ++ split_at stand link at) ++ splits ss Elsewhere d
unfolding shape-the_row-Comp-0 hidden-the_row-Comp-0 hidden
splits-Pipe ss stand link c d at = refl

pub outers-Repeat : (fs : List Called) (chain : Option (List ℕ)) (c : Comp) (at : Place) → outers fs chain (comp.Repeat c at) ≡ outers fs None c
unfolding shape-the_row-Comp-0 hidden-the_row-Comp-0 hidden
outers-Repeat fs chain c at = refl

pub outers-While : (fs : List Called) (chain : Option (List ℕ)) (turning : Turning) (e : Expr) (c : Comp) (at : Place) → outers fs chain (comp.While turning e c at) ≡ outers fs None c
unfolding shape-the_row-Comp-0 hidden-the_row-Comp-0 hidden
outers-While fs chain turning e c at = refl

pub outers-Times : (fs : List Called) (chain : Option (List ℕ)) (e : Expr) (c : Comp) (at : Place) → outers fs chain (comp.Times e c at) ≡ outers fs None c
unfolding shape-the_row-Comp-0 hidden-the_row-Comp-0 hidden
outers-Times fs chain e c at = refl

pub outers-For : (fs : List Called) (chain : Option (List ℕ)) (x : Ident) (a n : Expr) (c : Comp) (at : Place) → outers fs chain (comp.For x a n c at) ≡ outers fs None c
unfolding shape-the_row-Comp-0 hidden-the_row-Comp-0 hidden
outers-For fs chain x a n c at = refl

pub outers-If : (fs : List Called) (chain : Option (List ℕ)) (e : Expr) (c d : Comp) (at : Place) → outers fs chain (comp.If e c d at) ≡ outers fs None c ++ outers fs None d
unfolding shape-the_row-Comp-0 hidden-the_row-Comp-0 hidden
outers-If fs chain e c d at = refl

pub outers-Block : (fs : List Called) (chain : Option (List ℕ)) (ms : List Member) (at : Place) → outers fs chain (comp.Block ms at) ≡ flat_map (of_member (outers fs None)) ms
outers-Block fs chain ms at = outers-list fs ms

pub outers-Serial : (fs : List Called) (chain : Option (List ℕ)) (c d : Comp) (at : Place) → outers fs chain (comp.Pipe Serial c d at) ≡ outers fs None c ++ outers fs None d
unfolding shape-the_row-Comp-0 hidden-the_row-Comp-0 hidden
outers-Serial fs chain c d at = refl

pub outers-Parallel : (fs : List Called) (chain : Option (List ℕ)) (c d : Comp) (at : Place) →
    outers fs chain (comp.Pipe Parallel c d at) ≡ (outers fs (Some (chain_declares chain (in_comp fs c) (in_comp fs d))) c
    ++ outer_of (chain_declares chain (in_comp fs c) (in_comp fs d)) (in_comp fs (last_operand c)) at) ++ outers fs None d
unfolding shape-the_row-Comp-0 hidden-the_row-Comp-0 hidden
outers-Parallel fs chain c d at = refl
