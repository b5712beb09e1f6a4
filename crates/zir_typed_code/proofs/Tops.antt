-- Top variables are found by code as they are seen.
use Rattle.std.specs.Prelude.{◌≡◌, refl, ◌+◌, ℕ, List, [], ◌∷◌, ◌++◌, map, Bool, true, false, ◌||◌, if◌then◌else◌, nat_eq, Option, Some, None, slice_get, length}
use Rattle.std.proofs.Common.{ap, ◌∙◌, sym, subst, inl, inr}
use Rattle.std.proofs.lemmas.Bool.{eq-eqb, ne_eqb}
use Rattle.zir_tree.specs.declared.types.Ty.{Ty}
use Rattle.zir_tree.specs.declared.types.StructDef.{StructDef}
use Rattle.zir_tree.specs.declared.stmt.Var.{Var}
use Rattle.zir_types.specs.declared.scope.Seen.{Seen}
use Rattle.zir_types.specs.declared.scope.Shape.{Shape}
use Rattle.zir_types.specs.declared.scope.Signature.{Signature}
use Rattle.zir_types.specs.Scope.{Visible, type_in}
use Rattle.zir_types.specs.Programs.{defs_of}
use Rattle.zir_meaning.specs.Values.{type_of}
use Rattle.zir_cells.specs.Layout.{layout_of}
use Rattle.zir_shapes.specs.Shapes.{StructsBefore, Ordered}
use Rattle.zir_expr.specs.declared.frame.Spot.TheVariants.{Top}
use Rattle.zir_code.specs.declared.scope.Holder.{Holder}
use Rattle.zir_code.specs.declared.scope.Signature as code
use Rattle.zir_code.specs.Scopes.{Scope, found_among}
use Rattle.zir_code.specs.Program.{at_top}
use Rattle.zir_code.specs.Fine.{Absent, Sole}
use Rattle.zir_eval.specs.Opening.{top_holder, top_holders, cells_for_var}
use Rattle.zir_flow.specs.Fitting.{Distinct}
use Rattle.zir_sound.specs.Statements.{seen_of}
use Rattle.zir_sound.specs.Cores.{Begins}
use Rattle.zir_sound.specs.Laws.{is_in}
use Rattle.zir_sound.proofs.Fronts.{begins_trans, get_begins}
use Rattle.zir_typed_code.specs.Forming.{FormedVars, with_vars}
use Rattle.zir_typed_code.specs.Scopes.{Finds, MayCall, SameScope}
use Rattle.zir_typed_code.proofs.Coming.{neither}

-- A number that is in scope is none of those that come behind.
in_more : (x : ℕ) (xs : List ℕ) (id : ℕ) → is_in xs id ≡ true → is_in (x ∷ xs) id ≡ true
in_more x xs id h = either_true (nat_eq x id) (is_in xs id) h
  where
    either_true : (a b : Bool) → b ≡ true → (a || b) ≡ true
    either_true true b h = refl
    either_true false b h = h

other_number : (xs : List ℕ) (x id : ℕ) → is_in xs x ≡ false → is_in xs id ≡ true → nat_eq x id ≡ false
other_number xs x id new h = ne_eqb x id (λ e. let c : true ≡ false = sym h ∙ (ap (is_in xs) (sym e) ∙ new) in never c)
  where
    never : true ≡ false → ⊥
    never c = absurd cc

absent_behind : (m : ℕ) (structs : List StructDef) (xs : List ℕ) (i : ℕ) (vs : List Var) (id : ℕ) → FormedVars m xs vs → is_in xs id ≡ true →
    Absent (top_holders structs i vs) id
absent_behind m structs xs i [] id f h = tt
absent_behind m structs xs i (v ∷ vs) id f h = (
  other_number xs v.name.id id f.0.0 h,
  absent_behind m structs (v.name.id ∷ xs) (i + cells_for_var structs v) vs id f.1 (in_more v.name.id xs id h),
)

-- Each top variable has a number of its own.
own_tops : (m : ℕ) (structs : List StructDef) (xs : List ℕ) (i : ℕ) (vs : List Var) → FormedVars m xs vs → Distinct (top_holders structs i vs)
own_tops m structs xs i [] f = tt
own_tops m structs xs i (v ∷ vs) f =
    let here : is_in (v.name.id ∷ xs) v.name.id ≡ true = ap (λ b. b || is_in xs v.name.id) (eq-eqb v.name.id v.name.id refl) in (
      absent_behind m structs (v.name.id ∷ xs) (i + cells_for_var structs v) vs v.name.id f.1 here,
      own_tops m structs (v.name.id ∷ xs) (i + cells_for_var structs v) vs f.1,
    )

-- A number that is not in scope behind top variables is none of theirs.
out_before : (xs : List ℕ) (vs : List Var) (id : ℕ) → is_in (with_vars xs vs) id ≡ false → is_in xs id ≡ false
out_before xs [] id h = h
out_before xs (v ∷ vs) id h = (neither (nat_eq v.name.id id) (is_in xs id) (out_before (v.name.id ∷ xs) vs id h)).1

pub absent_tops : (structs : List StructDef) (xs : List ℕ) (i : ℕ) (vs : List Var) (id : ℕ) → is_in (with_vars xs vs) id ≡ false →
    Absent (top_holders structs i vs) id
absent_tops structs xs i [] id h = tt
absent_tops structs xs i (v ∷ vs) id h = (
  (neither (nat_eq v.name.id id) (is_in xs id) (out_before (v.name.id ∷ xs) vs id h)).0,
  absent_tops structs (v.name.id ∷ xs) (i + cells_for_var structs v) vs id h,
)

-- A top variable among some, as code has it.
record Topped (structs : List StructDef) (ds : List Holder) (id : ℕ) (t : Ty) : Type 0 where
  holder : Holder
  found : found_among None ds id ≡ Some holder
  sole : Sole ds id holder
  type_is : holder.ty ≡ t
  cells : holder.cells ≡ layout_of structs holder.ty
  known : StructsBefore (length structs) holder.ty.base
  place : ℕ
  at_top : holder.spot ≡ Top place

topped_first : (structs : List StructDef) (d : Holder) (ds : List Holder) (id p : ℕ) → nat_eq d.id id ≡ true → Absent ds id →
    d.cells ≡ layout_of structs d.ty → StructsBefore (length structs) d.ty.base → d.spot ≡ Top p → Topped structs (d ∷ ds) id d.ty
topped_first structs d ds id p e a cells known spot = record {
  holder = d;
  found = ap (λ b. if b then Some d else found_among None ds id) e;
  sole = inl (e, refl, a);
  type_is = refl;
  cells = cells;
  known = known;
  place = p;
  at_top = spot;
}

topped_later : (structs : List StructDef) (d : Holder) (ds : List Holder) (id : ℕ) (t : Ty) → nat_eq d.id id ≡ false → Topped structs ds id t →
    Topped structs (d ∷ ds) id t
topped_later structs d ds id t e r = record {
  holder = r.holder;
  found = ap (λ b. if b then Some d else found_among None ds id) e ∙ r.found;
  sole = inr (e, r.sole);
  type_is = r.type_is;
  cells = r.cells;
  known = r.known;
  place = r.place;
  at_top = r.at_top;
}

-- The first of these variables that has the number is the one.
topped : (structs : List StructDef) (xs : List ℕ) (i : ℕ) (vs : List Var) (id : ℕ) (t : Ty) → FormedVars (length structs) xs vs →
    type_in (map seen_of vs) id ≡ Some t → Topped structs (top_holders structs i vs) id t
topped structs xs i [] id t f h = absurd cc
topped structs xs i (v ∷ vs) id t f h =
    by_number (nat_eq v.name.id id) refl (topped structs (v.name.id ∷ xs) (i + cells_for_var structs v) vs id t f.1) h
  where
    rest : List Holder
    rest = top_holders structs (i + cells_for_var structs v) vs

    by_number : (b : Bool) → nat_eq v.name.id id ≡ b → (type_in (map seen_of vs) id ≡ Some t → Topped structs rest id t) →
        (if b then Some (type_of v.ty) else type_in (map seen_of vs) id) ≡ Some t → Topped structs (top_holder structs i v ∷ rest) id t
    by_number true e k h =
        let same : type_of v.ty ≡ t = cc in
        let here : is_in (v.name.id ∷ xs) id ≡ true = ap (λ b. b || is_in xs id) e in
        subst (Topped structs (top_holder structs i v ∷ rest) id) same
        (topped_first structs (top_holder structs i v) rest id i e
        (absent_behind (length structs) structs (v.name.id ∷ xs) (i + cells_for_var structs v) vs id f.1 here) refl f.0.1 refl)
    by_number false e k h = topped_later structs (top_holder structs i v) rest id t e (k h)

-- These functions may be called.
abbrev pub MayCallAll : Scope → List Signature → Type 0
MayCallAll g ss = (k : ℕ) (s : Signature) → slice_get ss k ≡ Some s → MayCall g k s

top_finds : (structs : List StructDef) (vs : List Var) (funs : ℕ → Option code.Signature) (n id : ℕ) (t : Ty) → Topped structs (top_holders structs 0 vs) id t →
    Finds (at_top structs (top_holders structs 0 vs) funs) n id t
top_finds structs vs funs n id t r = record {
  holder = r.holder;
  found = r.found;
  sole = inr (tt, r.sole);
  type_is = r.type_is;
  fits = record { cells = r.cells; known = r.known; spot = rw r.at_top tt };
}

-- Code has at the top what is seen there.
pub top_same : (structs : List StructDef) (shapes : List Shape) (vs : List Var) (functions : List Signature) (funs : ℕ → Option code.Signature) (n : ℕ) →
    Begins (defs_of shapes) structs → Ordered structs → FormedVars (length structs) [] vs →
    MayCallAll (at_top structs (top_holders structs 0 vs) funs) functions →
    let v : Visible = record { shapes = shapes; functions = functions; variables = map seen_of vs } in
    SameScope (with_vars [] vs) v (at_top structs (top_holders structs 0 vs) funs) n
top_same structs shapes vs functions funs n begins ordered f calls = record {
  structs = begins;
  ordered = ordered;
  variables = λ id t h. top_finds structs vs funs n id t (topped structs [] 0 vs id t f h);
  functions = calls;
  own = record { tops = own_tops (length structs) structs [] 0 vs f; locals = tt; between = tt };
  numbers = λ id h. record { locals = tt; tops = absent_tops structs [] 0 vs id h };
}

-- Less is seen.
defs_append : (a b : List Shape) → defs_of (a ++ b) ≡ defs_of a ++ defs_of b
defs_append [] b = refl
defs_append (s ∷ a) b = ap (λ ds. s.def ∷ ds) (defs_append a b)

defs_begin : (a b : List Shape) → Begins a b → Begins (defs_of a) (defs_of b)
defs_begin a b h = (defs_of h.0, ap defs_of h.1 ∙ defs_append a h.0)

type_front : (vs more : List Seen) (id : ℕ) (t : Ty) → type_in vs id ≡ Some t → type_in (vs ++ more) id ≡ Some t
type_front [] more id t h = absurd cc
type_front (v ∷ vs) more id t h = step (nat_eq v.id id) v.ty (type_in vs id) (type_in (vs ++ more) id) (type_front vs more id t) h
  where
    step : (b : Bool) (u : Ty) (o p : Option Ty) → (o ≡ Some t → p ≡ Some t) → (if b then Some u else o) ≡ Some t → (if b then Some u else p) ≡ Some t
    step true u o p k h = h
    step false u o p k h = k h

-- What sees less has the same in scope.
pub less_seen : (xs : List ℕ) (v u : Visible) (g : Scope) (n : ℕ) → SameScope xs v g n → Begins u.shapes v.shapes → Begins u.functions v.functions →
    Begins u.variables v.variables → SameScope xs u g n
less_seen xs v u g n w shapes functions variables = record {
  structs = begins_trans (defs_of u.shapes) (defs_of v.shapes) g.structs (defs_begin u.shapes v.shapes shapes) w.structs;
  ordered = w.ordered;
  variables = λ id t h. w.variables id t (ap (λ vs. type_in vs id) variables.1 ∙ type_front u.variables variables.0 id t h);
  functions = λ k s h. w.functions k s (get_begins u.functions v.functions k s functions h);
  own = w.own;
  numbers = w.numbers;
}
