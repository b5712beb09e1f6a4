-- Names come into scope on both sides.
use Rattle.std.specs.Prelude.{◌≡◌, refl, ◌≤◌, ◌+◌, ◌⊎◌, ℕ, List, [], ◌∷◌, ◌++◌, map, Bool, true, false, ◌||◌, if◌then◌else◌, nat_eq, Option, Some, None, length}
use Rattle.std.proofs.Common.{ap, ◌∙◌, sym, subst, arith, inl, inr}
use Rattle.std.proofs.lemmas.Bool.{eqb-true, eqb-false, ne_eqb}
use Rattle.std.proofs.lemmas.List.{append-nil, append_assoc}
use Rattle.zir_tree.specs.declared.types.Ty.{Ty}
use Rattle.zir_tree.specs.declared.types.Field.{Field}
use Rattle.zir_types.specs.declared.scope.Seen.{Seen}
use Rattle.zir_types.specs.Scope.{Visible, declare, type_in}
use Rattle.zir_types.specs.Scope.{variable as seen}
use Rattle.zir_meaning.specs.Values.{type_of}
use Rattle.zir_shapes.specs.Shapes.{StructsBefore}
use Rattle.zir_expr.specs.declared.frame.Spot.TheVariants.{Local}
use Rattle.zir_code.specs.declared.scope.Holder.{Holder}
use Rattle.zir_code.specs.Scopes.{Scope, found_among}
use Rattle.zir_code.specs.Types.{cells_for}
use Rattle.zir_code.specs.Fine.{Absent, Sole, SoleIn}
use Rattle.zir_code.specs.Statements.{with_local}
use Rattle.zir_code.specs.Bodies.{parameters, cells_of_all, inside, ParametersKnown}
use Rattle.zir_flow.specs.Fitting.{Distinct, Apart}
use Rattle.zir_sound.specs.Statements.{param_of}
use Rattle.zir_sound.specs.Laws.{is_in}
use Rattle.zir_typed_code.specs.Forming.{FormedParams, with_params}
use Rattle.zir_typed_code.specs.Scopes.{Finds, MayCall, IsNew, HaveOwn, SameScope}

-- What is seen with one more variable is one of those before it, or it.
pub type_after : (vs : List Seen) (s : Seen) (id : ℕ) (t : Ty) → type_in (vs ++ s ∷ []) id ≡ Some t →
    (type_in vs id ≡ Some t) ⊎ ((nat_eq s.id id ≡ true) × (s.ty ≡ t))
type_after vs s id t h = walk vs h
  where
    last : (b : Bool) → nat_eq s.id id ≡ b → (if b then Some s.ty else None) ≡ Some t → (nat_eq s.id id ≡ true) × (s.ty ≡ t)
    last true e h = (e, cc)
    last false e h = absurd cc

    step : (b : Bool) (u : Ty) (rest more : Option Ty) → (rest ≡ Some t → (more ≡ Some t) ⊎ ((nat_eq s.id id ≡ true) × (s.ty ≡ t))) →
        (if b then Some u else rest) ≡ Some t → ((if b then Some u else more) ≡ Some t) ⊎ ((nat_eq s.id id ≡ true) × (s.ty ≡ t))
    step true u rest more k h = inl h
    step false u rest more k h = k h

    walk : (vs : List Seen) → type_in (vs ++ s ∷ []) id ≡ Some t → (type_in vs id ≡ Some t) ⊎ ((nat_eq s.id id ≡ true) × (s.ty ≡ t))
    walk [] h = inr (last (nat_eq s.id id) refl h)
    walk (r ∷ vs) h = step (nat_eq r.id id) r.ty (type_in (vs ++ s ∷ []) id) (type_in vs id) (walk vs) h

-- A variable that stands among some is one of them.
sole_absent : (ds : List Holder) (id : ℕ) (v : Holder) → Sole ds id v → Absent ds id → ⊥
sole_absent [] id v s a = s
sole_absent (d ∷ ds) id v (inl s) a = let e : true ≡ false = sym s.0 ∙ a.0 in absurd cc
sole_absent (d ∷ ds) id v (inr s) a = sole_absent ds id v s.1 a.1

sole_new : (g : Scope) (id : ℕ) (v : Holder) → SoleIn g id v → IsNew g id → ⊥
sole_new g id v (inl s) new = sole_absent g.locals id v s.0 new.locals
sole_new g id v (inr s) new = sole_absent g.tops id v s.1 new.tops

-- One more variable of another number behind some.
found_past : (other : Option Holder) (ds : List Holder) (h : Holder) (id : ℕ) → nat_eq h.id id ≡ false →
    found_among other (ds ++ h ∷ []) id ≡ found_among other ds id
found_past other [] h id e = ap (λ b. if b then Some h else other) e
found_past other (d ∷ ds) h id e = ap (λ o. if nat_eq d.id id then Some d else o) (found_past other ds h id e)

absent_past : (ds : List Holder) (h : Holder) (id : ℕ) → Absent ds id → nat_eq h.id id ≡ false → Absent (ds ++ h ∷ []) id
absent_past [] h id a e = (e, tt)
absent_past (d ∷ ds) h id a e = (a.0, absent_past ds h id a.1 e)

sole_past : (ds : List Holder) (h : Holder) (id : ℕ) (v : Holder) → Sole ds id v → nat_eq h.id id ≡ false → Sole (ds ++ h ∷ []) id v
sole_past [] h id v s e = absurd s
sole_past (d ∷ ds) h id v (inl s) e = inl (s.0, s.1, absent_past ds h id s.2 e)
sole_past (d ∷ ds) h id v (inr s) e = inr (s.0, sole_past ds h id v s.1 e)

-- One more variable behind some of other numbers.
found_last : (other : Option Holder) (ds : List Holder) (h : Holder) (id : ℕ) → Absent ds id → nat_eq h.id id ≡ true →
    found_among other (ds ++ h ∷ []) id ≡ Some h
found_last other [] h id a e = ap (λ b. if b then Some h else other) e
found_last other (d ∷ ds) h id a e =
    ap (λ b. if b then Some d else found_among other (ds ++ h ∷ []) id) a.0 ∙ found_last other ds h id a.1 e

sole_last : (ds : List Holder) (h : Holder) (id : ℕ) → Absent ds id → nat_eq h.id id ≡ true → Sole (ds ++ h ∷ []) id h
sole_last [] h id a e = inl (e, refl, tt)
sole_last (d ∷ ds) h id a e = inr (a.0, sole_last ds h id a.1 e)

pub neither : (a b : Bool) → (a || b) ≡ false → (a ≡ false) × (b ≡ false)
neither true b h = absurd cc
neither false b h = (refl, h)

-- Numbers that differ, the other way round.
other_way : (a b : ℕ) → nat_eq a b ≡ false → nat_eq b a ≡ false
other_way a b h = ne_eqb b a (λ e. eqb-false a b h (sym e))

-- One more variable of a new number.
distinct_more : (ds : List Holder) (h : Holder) → Distinct ds → Absent ds h.id → Distinct (ds ++ h ∷ [])
distinct_more [] h o a = (tt, tt)
distinct_more (d ∷ ds) h o a = (absent_past ds h d.id o.0 (other_way d.id h.id a.0), distinct_more ds h o.1 a.1)

apart_more : (ds others : List Holder) (h : Holder) → Apart ds others → Absent others h.id → Apart (ds ++ h ∷ []) others
apart_more [] others h o a = (a, tt)
apart_more (d ∷ ds) others h o a = (o.0, apart_more ds others h o.1 a)

-- A variable that was found is found past one more.
finds_past : (g : Scope) (n d id other : ℕ) (t u : Ty) → nat_eq id other ≡ false → Finds g n other u → Finds (with_local g d id t) n other u
finds_past g n d id other t u e r = record {
  holder = r.holder;
  found = found_past (found_among None g.tops other) g.locals (record { id = id; spot = Local d; cells = cells_for g t; ty = t }) other e ∙ r.found;
  sole = alone r.sole;
  type_is = r.type_is;
  fits = record { cells = r.fits.cells; known = r.fits.known; spot = r.fits.spot };
}
  where
    alone : SoleIn g other r.holder → SoleIn (with_local g d id t) other r.holder
    alone (inl s) = inl (sole_past g.locals (record { id = id; spot = Local d; cells = cells_for g t; ty = t }) other r.holder s.0 e, s.1)
    alone (inr s) = inr (absent_past g.locals (record { id = id; spot = Local d; cells = cells_for g t; ty = t }) other s.0 e, s.1)

finds_last : (g : Scope) (n d id other : ℕ) (t u : Ty) → IsNew g other → nat_eq id other ≡ true → t ≡ u → StructsBefore (length g.structs) t.base →
    d + cells_for g t ≤ n → Finds (with_local g d id t) n other u
finds_last g n d id other t u new e same known le =
    let h : Holder = record { id = id; spot = Local d; cells = cells_for g t; ty = t } in record {
      holder = h;
      found = found_last (found_among None g.tops other) g.locals h other new.locals e;
      sole = inl (sole_last g.locals h other new.locals e, new.tops);
      type_is = same;
      fits = record { cells = refl; known = known; spot = le };
    }

-- A variable comes into scope.
pub local_comes : (xs : List ℕ) (v : Visible) (g : Scope) (n : ℕ) → SameScope xs v g n → (d id : ℕ) (t : Ty) → is_in xs id ≡ false →
    StructsBefore (length g.structs) t.base → d + cells_for g t ≤ n → SameScope (id ∷ xs) (declare (seen id t ∷ []) v) (with_local g d id t) n
local_comes xs v g n w d id t new known le = record {
  structs = w.structs;
  ordered = w.ordered;
  variables = λ other u h. by_place other u (type_after v.variables (seen id t) other u h);
  functions = λ k s h. (let m : MayCall g k s = w.functions k s h in
      record { made = m.made; found = m.found; params = m.params; result = m.result; known = m.known });
  own = (let h : Holder = record { id = id; spot = Local d; cells = cells_for g t; ty = t } in
      let o : HaveOwn g = w.own in
      record { tops = o.tops; locals = distinct_more g.locals h o.locals is_new.locals; between = apart_more g.locals g.tops h o.between is_new.tops });
  numbers = λ other h. (let c = neither (nat_eq id other) (is_in xs other) h in
      let r : IsNew g other = w.numbers other c.1 in
      record {
        locals = absent_past g.locals (record { id = id; spot = Local d; cells = cells_for g t; ty = t }) other r.locals c.0;
        tops = r.tops;
      });
}
  where
    is_new : IsNew g id
    is_new = w.numbers id new

    other_one : (other : ℕ) (u : Ty) → Finds g n other u → nat_eq id other ≡ false
    other_one other u r = ne_eqb id other (λ e. sole_new g id r.holder (subst (λ k. SoleIn g k r.holder) (sym e) r.sole) is_new)

    by_place : (other : ℕ) (u : Ty) → (type_in v.variables other ≡ Some u) ⊎ ((nat_eq id other ≡ true) × (t ≡ u)) → Finds (with_local g d id t) n other u
    by_place other u (inl h) = let r : Finds g n other u = w.variables other u h in finds_past g n d id other t u (other_one other u r) r
    by_place other u (inr h) = finds_last g n d id other t u (subst (IsNew g) (eqb-true id other h.0) is_new) h.0 h.1 known le

-- What is seen with these variables, and code with these names.
abbrev pub seeing : Visible → List Seen → Visible
seeing v vs = record { shapes = v.shapes; functions = v.functions; variables = vs }

abbrev naming : Scope → List Holder → Scope
naming g ds = record g { locals = ds }

-- Parameters come into scope behind other names.
params_come : (ps : List Field) (xs : List ℕ) (v : Visible) (g : Scope) (n : ℕ) (ds : List Holder) (i : ℕ) → SameScope xs v (naming g ds) n →
    FormedParams (length g.structs) xs ps → i + cells_of_all g ps ≤ n →
    SameScope (with_params xs ps) (declare (map param_of ps) v) (naming g (ds ++ parameters g i ps)) n
params_come [] xs v g n ds i w f le =
    subst (λ vs. SameScope xs (seeing v vs) (naming g (ds ++ [])) n) (sym (append-nil v.variables))
    (subst (λ es. SameScope xs v (naming g es) n) (sym (append-nil ds)) w)
params_come (p ∷ ps) xs v g n ds i w f le =
    let t = type_of p.ty in
    let h : Holder = record { id = p.name.id; spot = Local i; cells = cells_for g t; ty = t } in
    let one = local_comes xs v (naming g ds) n w i p.name.id t f.0 f.1 (omega arith) in
    let all = params_come ps (p.name.id ∷ xs) (declare (param_of p ∷ []) v) g n (ds ++ h ∷ []) (i + cells_for g t) one f.2 (omega arith) in
    subst (λ vs. SameScope (with_params (p.name.id ∷ xs) ps) (seeing v vs) (naming g (ds ++ h ∷ parameters g (i + cells_for g t) ps)) n)
    (append_assoc v.variables (param_of p ∷ []) (map param_of ps))
    (subst (λ es. SameScope (with_params (p.name.id ∷ xs) ps) (declare (map param_of ps) (declare (param_of p ∷ []) v)) (naming g es) n)
    (append_assoc ds (h ∷ []) (parameters g (i + cells_for g t) ps)) all)

pub parameters_come : (xs : List ℕ) (v : Visible) (g : Scope) (n : ℕ) → SameScope xs v g n → g.locals ≡ [] → (ps : List Field) →
    FormedParams (length g.structs) xs ps → cells_of_all g ps ≤ n → SameScope (with_params xs ps) (declare (map param_of ps) v) (inside g ps) n
parameters_come xs v g n w e ps f le = params_come ps xs v g n [] 0 (subst (λ ds. SameScope xs v (naming g ds) n) e w) f (omega arith)

-- Well formed parameters are known to code.
pub params_known : (g : Scope) (xs : List ℕ) (ps : List Field) → FormedParams (length g.structs) xs ps → ParametersKnown g ps
params_known g xs [] f = tt
params_known g xs (p ∷ ps) f = (f.1, params_known g (p.name.id ∷ xs) ps f.2)
