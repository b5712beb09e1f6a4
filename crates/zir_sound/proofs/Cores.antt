-- The walk of a program makes a sound core.
use Rattle.std.specs.Prelude.{◌≡◌, refl, ℕ, List, [], ◌∷◌, ◌++◌, map, Bool, true, false, ◌||◌, nat_eq, Option, Some, None, if◌then◌else◌}
use Rattle.std.proofs.Common.{ap, ◌∙◌, sym, subst}
use Rattle.std.proofs.lemmas.List.{append-nil, append_assoc}
use Rattle.std.proofs.lemmas.Bool.{eqb-true, eq-eqb}
use Rattle.zir_tree.specs.declared.types.Ty.{Ty}
use Rattle.zir_tree.specs.declared.types.Field.{Field}
use Rattle.zir_tree.specs.declared.types.TypeExpr.{TypeExpr}
use Rattle.zir_tree.specs.declared.stmt.Var.{Var}
use Rattle.zir_tree.specs.declared.program.Struct.{Struct}
use Rattle.zir_tree.specs.declared.program.Function.{Function}
use Rattle.zir_tree.specs.declared.program.CompFunction.{CompFunction}
use Rattle.zir_tree.specs.declared.program.Decl.{Decl}
use Rattle.zir_tree.specs.declared.program.Decl.TheVariants.{Var as VarDecl, Struct as StructDecl, Function as FunctionDecl, Comp as CompDecl}
use Rattle.zir_tree.specs.declared.program.Prog.{Prog}
use Rattle.zir_tree.specs.declared.program.Core.{Core}
use Rattle.zir_types.specs.declared.scope.Shape.{Shape}
use Rattle.zir_types.specs.declared.scope.Seen.{Seen}
use Rattle.zir_types.specs.declared.scope.Signature.{Signature}
use Rattle.zir_types.specs.declared.typed.Heading.{Heading}
use Rattle.zir_types.specs.declared.typed.Written.{Written}
use Rattle.zir_types.specs.declared.typed.TypedVar.{TypedVar}
use Rattle.zir_types.specs.declared.typed.TypedBody.{TypedBody}
use Rattle.zir_types.specs.declared.error.TypeError.TheVariants.{Mismatch}
use Rattle.zir_types.specs.Walk.{Walk, Fine, and_then}
use Rattle.zir_types.specs.Scope.{Visible, declare, variable, written}
use Rattle.zir_types.specs.Expressions.{all_same}
use Rattle.zir_types.specs.Statements.{var, seen_var, fun_body, no_heading, heading, one_more_param}
use Rattle.zir_types.specs.Components.{Maker, Makers, comp, emitted}
use Rattle.zir_types.specs.Programs
use Rattle.zir_types.proofs.Fine.{first_fine, held, same_fine}
use Rattle.zir_sound.specs.Statements.{IsBody, IsVar, param_of, param_types, seen_of, type_of}
use Rattle.zir_sound.specs.Cores.{AreFunctions, AreTopVars, Begins, IsFunction, IsSound, IsTop, IsTopVar, result_type, signature_of}
use Rattle.zir_sound.specs.Laws.{CoresAreSound, HaveOwnNumbers, is_in}
use Rattle.zir_sound.proofs.Found.{var_sound, written_is}
use Rattle.zir_sound.proofs.Statements.{fun_body_sound, result_if}
use Rattle.zir_sound.proofs.Fronts.{begins_self, begins_more, begins_trans}
use Rattle.zir_sound.proofs.Making.{AllMake, Fits, Makes, head_of}
use Rattle.zir_sound.proofs.Components.{comp_sound}

map_more : {A B : Type 0} (f : A → B) (xs : List A) (x : A) → map f (xs ++ x ∷ []) ≡ map f xs ++ f x ∷ []
map_more {A} {B} f [] x = refl
map_more {A} {B} f (y ∷ xs) x = ap (λ v. f y ∷ v) (map_more f xs x)

-- The types and what is seen of parameters are those of their fields.
pub record IsHeading (h : Heading) : Type 0 where
  pub types : h.types ≡ param_types h.fields
  pub seen : h.seen ≡ map param_of h.fields

heading_sound : (ss : List Shape) (done : Heading) (fs : List Field) (h : Heading) → IsHeading done → heading ss done fs ≡ Fine h → IsHeading h
heading_sound ss done [] h is e = subst IsHeading (same_fine done h e) is
heading_sound ss done (f ∷ fs) h is e =
    let t = first_fine (written ss f.ty) (λ t. heading ss (one_more_param done f.name t) fs) h e in
    let one : Field = record { name = f.name; ty = t.0.what } in
    let ty : type_of t.0.what ≡ t.0.ty = written_is ss f.ty t.0 t.1 in
    heading_sound ss (one_more_param done f.name t.0) fs h
    (record {
      types = ap (λ ts. ts ++ t.0.ty ∷ []) is.types ∙ ap (λ u. param_types done.fields ++ u ∷ []) (sym ty) ∙ sym (map_more
          (λ (g : Field). type_of g.ty) done.fields one);
      seen = ap (λ vs. vs ++ variable f.name.id t.0.ty ∷ []) is.seen ∙ ap (λ u. map param_of done.fields ++ variable f.name.id u ∷ []) (sym ty) ∙ sym
          (map_more param_of done.fields one);
    }) t.2

-- A scope that begins another, kind by kind.
pub record Within (g top : Visible) : Type 0 where
  pub shapes : Begins g.shapes top.shapes
  pub functions : Begins g.functions top.functions
  pub variables : Begins g.variables top.variables

within_self : (g : Visible) → Within g g
within_self g = record { shapes = begins_self g.shapes; functions = begins_self g.functions; variables = begins_self g.variables }

within_trans : (f g h : Visible) → Within f g → Within g h → Within f h
within_trans f g h a b = record {
  shapes = begins_trans f.shapes g.shapes h.shapes a.shapes b.shapes;
  functions = begins_trans f.functions g.functions h.functions a.functions b.functions;
  variables = begins_trans f.variables g.variables h.variables a.variables b.variables;
}

-- What holds over a part of the top holds over more of it.
top_grows : (f top more : Visible) (fs : List Signature) (vs : List Seen) → Within top more → IsTop top f fs vs → IsTop more f fs vs
top_grows f top more fs vs w h = record {
  shapes = begins_trans f.shapes top.shapes more.shapes h.shapes w.shapes;
  functions_are =
      h.functions_are;
  variables_are = h.variables_are;
}

functions_grow : (top more : Visible) (before : List Signature) (fs : List Function) → Within top more → AreFunctions top before fs →
    AreFunctions more before fs
functions_grow top more before [] w h = tt
functions_grow top more before (f ∷ fs) w h =
    let is = h.0 in (
      record {
        seen = is.seen;
        variables = is.variables;
        first = begins_trans is.variables top.variables more.variables is.first w.variables;
        is_top = top_grows is.seen top more before is.variables w is.is_top;
        body = is.body;
      },
      functions_grow top more (before ++ signature_of f ∷ []) fs w h.1,
    )

variables_grow : (top more : Visible) (before : List Seen) (vs : List Var) → Within top more → AreTopVars top before vs → AreTopVars more before vs
variables_grow top more before [] w h = tt
variables_grow top more before (v ∷ vs) w h =
    let is = h.0 in (
      record {
        seen = is.seen;
        functions = is.functions;
        first = begins_trans is.functions top.functions more.functions is.first w.functions;
        is_top = top_grows is.seen top more is.functions before w is.is_top;
        initial = is.initial;
      },
      variables_grow top more (before ++ seen_of v ∷ []) vs w h.1,
    )

functions_more : (top : Visible) (before : List Signature) (fs : List Function) (f : Function) → AreFunctions top before fs →
    IsFunction top (before ++ map signature_of fs) f → AreFunctions top before (fs ++ f ∷ [])
functions_more top before [] f h k = (subst (λ b. IsFunction top b f) (append-nil before) k, tt)
functions_more top before (g ∷ fs) f h k = (
  h.0,
  functions_more top (before ++ signature_of g ∷ []) fs f h.1 (subst (λ b. IsFunction top b f) (sym (append_assoc before (signature_of g ∷ [])
      (map signature_of fs))) k),
)

variables_more : (top : Visible) (before : List Seen) (vs : List Var) (v : Var) → AreTopVars top before vs → IsTopVar top (before ++ map seen_of vs) v →
    AreTopVars top before (vs ++ v ∷ [])
variables_more top before [] v h k = (subst (λ b. IsTopVar top b v) (append-nil before) k, tt)
variables_more top before (w ∷ vs) v h k = (
  h.0,
  variables_more top (before ++ seen_of w ∷ []) vs v h.1 (subst (λ b. IsTopVar top b v) (sym (append_assoc before (seen_of w ∷ [])
      (map seen_of vs))) k),
)

-- The numbers of `fun comp`s.
abbrev numbers : List Programs.Prepared → List ℕ
numbers [] = []
numbers (d ∷ ds) = d.id ∷ numbers ds

-- The `fun comp`s so far, the last one first: each has a number that none before it has, and parameters that are those of its fields.
abbrev AreComps : List Programs.Prepared → Type 0
AreComps [] = Unit {0}
AreComps (d ∷ ds) = (is_in (numbers ds) d.id ≡ false) × IsHeading d.head × AreComps ds

-- What holds of the declarations so far.
pub record Stands (d : Programs.Declared) : Type 0 where
  pub variables_are : d.scope.variables ≡ map seen_of d.variables
  pub functions_are : d.scope.functions ≡ map signature_of d.functions
  pub variables : AreTopVars d.scope [] d.variables
  pub functions : AreFunctions d.scope [] d.functions
  pub comps : AreComps d.comps

nothing_stands : Stands Programs.none_declared
nothing_stands = record { variables_are = refl; functions_are = refl; variables = tt; functions = tt; comps = tt }

top_sound : (d e : Programs.Declared) (v : TypedVar) → Stands d → IsVar d.scope v.what → type_of v.what.ty ≡ v.ty → Programs.with_top d v ≡ Fine e → Stands e
top_sound d e v s is ty h =
    let top = declare (seen_var v) d.scope in
    let w : Within d.scope top = record {
      shapes = begins_self d.scope.shapes;
      functions = begins_self d.scope.functions;
      variables =
          begins_more d.scope.variables (seen_var v);
    } in
    let all : List Var = d.variables ++ v.what ∷ [] in
    let one : IsTopVar top (map seen_of d.variables) v.what = record {
      seen = d.scope;
      functions = d.scope.functions;
      first = begins_self d.scope.functions;
      is_top = record { shapes = begins_self d.scope.shapes; functions_are = refl; variables_are = s.variables_are };
      initial = is;
    } in
    subst Stands (same_fine (record d { scope = top; variables = all }) e h)
    (record {
      variables_are = ap (λ vs. vs ++ seen_var v) s.variables_are ∙ ap (λ t. map seen_of d.variables ++ variable v.what.name.id t ∷ []) (sym ty) ∙ sym
          (map_more seen_of d.variables v.what);
      functions_are = s.functions_are;
      variables = variables_more top [] d.variables v.what (variables_grow d.scope top [] d.variables w s.variables) one;
      functions = functions_grow d.scope top [] d.functions w s.functions;
      comps = s.comps;
    })

struct_sound : (d e : Programs.Declared) (s : Struct) (hd : Heading) → Stands d → Programs.with_struct d s hd ≡ Fine e → Stands e
struct_sound d e s hd st h =
    let one : List Shape = Programs.shape_of d.scope.shapes s hd ∷ [] in
    let top : Visible = record { shapes = d.scope.shapes ++ one; functions = d.scope.functions; variables = d.scope.variables } in
    let w : Within d.scope top = record {
      shapes = begins_more d.scope.shapes one;
      functions = begins_self d.scope.functions;
      variables =
          begins_self d.scope.variables;
    } in
    subst Stands (same_fine (record d { scope = top }) e h)
    (record {
      variables_are = st.variables_are;
      functions_are = st.functions_are;
      variables = variables_grow d.scope top [] d.variables w st.variables;
      functions = functions_grow d.scope top [] d.functions w st.functions;
      comps = st.comps;
    })

-- The written result of a function, and the type that it has.
result_is : (ss : List Shape) (t : Option TypeExpr) (r : Option Written) → Programs.result_of ss t ≡ Fine r →
    result_type (Programs.written_what r) ≡ Programs.result_ty (Programs.written_ty r)
result_is ss None r h = subst (λ (w : Option Written). result_type (Programs.written_what w) ≡ Programs.result_ty (Programs.written_ty w))
    (same_fine None r h) refl
result_is ss (Some t) r h =
    let w = first_fine (written ss t) (λ w. Fine (Some w)) r h in
    subst (λ (v : Option Written). result_type (Programs.written_what v) ≡ Programs.result_ty (Programs.written_ty v)) (same_fine (Some w.0) r w.2)
    (written_is ss t w.0 w.1)

result_same : (t : Option Ty) → result_if t ≡ Programs.result_ty t
result_same None = refl
result_same (Some t) = refl

function_sound : (d e : Programs.Declared) (f : Function) (hd : Heading) (r : Option Written) (b : TypedBody) → Stands d → IsHeading hd →
    result_type (Programs.written_what r) ≡ Programs.result_ty (Programs.written_ty r) → IsBody (declare hd.seen d.scope) (result_if
    (Programs.written_ty r)) b.what →
    Programs.with_function d f hd r b ≡ Fine e → Stands e
function_sound d e f hd r b st head result body h =
    let made : Function = record { name = f.name; params = hd.fields; result = Programs.written_what r; body = b.what; at = f.at } in
    let sig : Signature = record { id = f.name.id; params = hd.types; result = Programs.result_ty (Programs.written_ty r) } in
    let same : signature_of made ≡ sig =
    ap (λ ts. let s : Signature = record { id = f.name.id; params = ts; result = result_type (Programs.written_what r) } in s) (sym head.types)
    ∙ ap (λ t. let s : Signature = record { id = f.name.id; params = hd.types; result = t } in s) result in
    let top : Visible = record { shapes = d.scope.shapes; functions = d.scope.functions ++ sig ∷ []; variables = d.scope.variables } in
    let w : Within d.scope top = record {
      shapes = begins_self d.scope.shapes;
      functions = begins_more d.scope.functions (sig ∷ []);
      variables =
          begins_self d.scope.variables;
    } in
    let typed : IsBody (declare (map param_of hd.fields) d.scope) (result_type made.result) b.what =
    subst (λ vs. IsBody (declare vs d.scope) (result_type made.result) b.what) head.seen
    (subst (λ t. IsBody (declare hd.seen d.scope) t b.what) (result_same (Programs.written_ty r) ∙ sym result) body) in
    let one : IsFunction top (map signature_of d.functions) made = record {
      seen = d.scope;
      variables = d.scope.variables;
      first = begins_self d.scope.variables;
      is_top = record { shapes = begins_self d.scope.shapes; functions_are = st.functions_are; variables_are = refl };
      body = typed;
    } in
    subst Stands (same_fine (record d { scope = top; functions = d.functions ++ made ∷ [] }) e h)
    (record {
      variables_are = st.variables_are;
      functions_are = ap (λ fs. fs ++ sig ∷ []) st.functions_are ∙ ap (λ s. map signature_of d.functions ++ s ∷ []) (sym same) ∙ sym
          (map_more signature_of d.functions made);
      variables = variables_grow d.scope top [] d.variables w st.variables;
      functions = functions_more top [] d.functions made (functions_grow d.scope top [] d.functions w st.functions) one;
      comps = st.comps;
    })

comp_stands : (d e : Programs.Declared) (c : CompFunction) (hd : Heading) → Stands d → IsHeading hd → is_in (numbers d.comps) c.name.id ≡ false →
    Programs.with_comp d c hd ≡ Fine e → Stands e
comp_stands d e c hd st head own h =
    let one : Programs.Prepared = record { id = c.name.id; head = hd; body = c.body } in
    subst Stands (same_fine (record d { comps = one ∷ d.comps }) e h)
    (record {
      variables_are = st.variables_are;
      functions_are = st.functions_are;
      variables = st.variables;
      functions = st.functions;
      comps = (
        own,
        head,
        st.comps,
      );
    })

-- Only a `fun comp` adds to the `fun comp`s.
top_comps : (d e : Programs.Declared) (v : TypedVar) → Programs.with_top d v ≡ Fine e → d.comps ≡ e.comps
top_comps d e v h = ap (λ (c : Programs.Declared). c.comps) (same_fine (record d {
  scope = declare (seen_var v) d.scope;
  variables =
      d.variables ++ v.what ∷ [];
}) e h)

struct_comps : (d e : Programs.Declared) (s : Struct) (hd : Heading) → Programs.with_struct d s hd ≡ Fine e → d.comps ≡ e.comps
struct_comps d e s hd h =
    ap (λ (c : Programs.Declared). c.comps) (same_fine (record d {
      scope = record d.scope {
        shapes =
            d.scope.shapes ++ Programs.shape_of d.scope.shapes s hd ∷ [];
      };
    }) e h)

function_comps : (d e : Programs.Declared) (f : Function) (hd : Heading) (r : Option Written) (b : TypedBody) →
    Programs.with_function d f hd r b ≡ Fine e → d.comps ≡ e.comps
function_comps d e f hd r b h =
    let sig : Signature = record { id = f.name.id; params = hd.types; result = Programs.result_ty (Programs.written_ty r) } in
    let made : Function = record { name = f.name; params = hd.fields; result = Programs.written_what r; body = b.what; at = f.at } in
    ap (λ (c : Programs.Declared). c.comps)
    (same_fine (record d { scope = record d.scope { functions = d.scope.functions ++ sig ∷ [] }; functions = d.functions ++ made ∷ [] }) e h)

heading_of : (ss : List Shape) (fs : List Field) (h : Heading) → heading ss no_heading fs ≡ Fine h → IsHeading h
heading_of ss fs h e = heading_sound ss no_heading fs h (record { types = refl; seen = refl }) e

declarations_sound : (d e : Programs.Declared) (xs : List Decl) → Stands d → HaveOwnNumbers (numbers d.comps) xs → Programs.declarations d xs ≡ Fine e →
    Stands e
declarations_sound d e [] st own h = subst Stands (same_fine d e h) st
declarations_sound d e (VarDecl v ∷ xs) st own h =
    let f = first_fine (Programs.declaration d (VarDecl v)) (λ c. Programs.declarations c xs) e h in
    let t = first_fine (var d.scope v) (Programs.with_top d) f.0 f.1 in
    let k = var_sound d.scope v t.0 t.1 in
    let s = top_sound d f.0 t.0 st k.0 k.1 t.2 in
    let same : d.comps ≡ f.0.comps = top_comps d f.0 t.0 t.2 in
    declarations_sound f.0 e xs s (subst (λ cs. HaveOwnNumbers (numbers cs) xs) same own) f.2
declarations_sound d e (StructDecl s ∷ xs) st own h =
    let f = first_fine (Programs.declaration d (StructDecl s)) (λ c. Programs.declarations c xs) e h in
    let t = first_fine (heading d.scope.shapes no_heading s.fields) (Programs.with_struct d s) f.0 f.1 in
    let same : d.comps ≡ f.0.comps = struct_comps d f.0 s t.0 t.2 in
    declarations_sound f.0 e xs (struct_sound d f.0 s t.0 st t.2) (subst (λ cs. HaveOwnNumbers (numbers cs) xs) same own) f.2
declarations_sound d e (FunctionDecl g ∷ xs) st own h =
    let f = first_fine (Programs.declaration d (FunctionDecl g)) (λ c. Programs.declarations c xs) e h in
    let body : Heading → Option Written → Walk TypedBody = λ hd r. fun_body (declare hd.seen d.scope) (Programs.written_ty r) g.at g.body in
    let t = first_fine (heading d.scope.shapes no_heading g.params) (λ hd. and_then (Programs.result_of d.scope.shapes g.result) (λ r. and_then (body hd r)
    (Programs.with_function d g hd r))) f.0 f.1 in
    let r = first_fine (Programs.result_of d.scope.shapes g.result) (λ r. and_then (body t.0 r) (Programs.with_function d g t.0 r)) f.0 t.2 in
    let b = first_fine (body t.0 r.0) (Programs.with_function d g t.0 r.0) f.0 r.2 in
    let s = function_sound d f.0 g t.0 r.0 b.0 st (heading_of d.scope.shapes g.params t.0 t.1) (result_is d.scope.shapes g.result r.0 r.1)
    (fun_body_sound (declare t.0.seen d.scope) (Programs.written_ty r.0) g.at g.body b.0 b.1) b.2 in
    let same : d.comps ≡ f.0.comps = function_comps d f.0 g t.0 r.0 b.0 b.2 in
    declarations_sound f.0 e xs s (subst (λ cs. HaveOwnNumbers (numbers cs) xs) same own) f.2
declarations_sound d e (CompDecl c ∷ xs) st own h =
    let f = first_fine (Programs.declaration d (CompDecl c)) (λ x. Programs.declarations x xs) e h in
    let t = first_fine (heading d.scope.shapes no_heading c.params) (Programs.with_comp d c) f.0 f.1 in
    let one : List Programs.Prepared = record { id = c.name.id; head = t.0; body = c.body } ∷ d.comps in
    let same : one ≡ f.0.comps = ap (λ (x : Programs.Declared). x.comps) (same_fine (record d { comps = one }) f.0 t.2) in
    declarations_sound f.0 e xs (comp_stands d f.0 c t.0 st (heading_of d.scope.shapes c.params t.0 t.1) own.0 t.2) (subst (λ cs. HaveOwnNumbers
    (numbers cs) xs) same own.1) f.2

same_number : (n : ℕ) → nat_eq n n ≡ true
same_number n = eq-eqb n n refl

-- The number of a `fun comp` finds it behind others with other numbers.
not_there : (ds : List Programs.Prepared) (back : List Programs.Prepared) (d : Programs.Prepared) → is_in (numbers (ds ++ d ∷ back)) d.id ≡ true
not_there [] back d = ap (λ b. b || is_in (numbers back) d.id) (same_number d.id)
not_there (e ∷ ds) back d = ap (λ b. nat_eq e.id d.id || b) (not_there ds back d) ∙ or_true (nat_eq e.id d.id)
  where
    or_true : (b : Bool) → (b || true) ≡ true
    or_true true = refl
    or_true false = refl

finds : (front : List Programs.Prepared) (d : Programs.Prepared) (back : List Programs.Prepared) → AreComps (front ++ d ∷ back) →
    head_of (front ++ d ∷ back) d.id ≡ Some d.head
finds [] d back h = ap (λ b. if b then Some d.head else head_of back d.id) (same_number d.id)
finds (e ∷ front) d back (own, head, more) = passes e front d back (nat_eq e.id d.id) refl own (finds front d back more)
  where
    passes : (e : Programs.Prepared) (front : List Programs.Prepared) (d : Programs.Prepared) (back : List Programs.Prepared) (b : Bool) →
        nat_eq e.id d.id ≡ b →
        is_in (numbers (front ++ d ∷ back)) e.id ≡ false → head_of (front ++ d ∷ back) d.id ≡ Some d.head →
        (if b then Some e.head else head_of (front ++ d ∷ back) d.id) ≡ Some d.head
    passes e front d back true same own next =
        let there : is_in (numbers (front ++ d ∷ back)) e.id ≡ true = ap (is_in (numbers (front ++ d ∷ back)))
        (eqb-true e.id d.id same) ∙ not_there front back d in
        absurd (no (sym there ∙ own))
      where
        no : true ≡ false → ⊥
        no h = absurd cc
    passes e front d back false same own next = next

-- A `fun comp` over those before it makes instances that keep their rules.
make_one : (top : Visible) (cs front : List Programs.Prepared) (d : Programs.Prepared) (ds : List Programs.Prepared) → AreComps cs → IsHeading d.head →
    cs ≡ front ++ d ∷ ds →
    AllMake top cs (Programs.makers top ds) → Makes top cs d.id (Programs.maker top (Programs.makers top ds) d)
make_one top cs front d ds are head e all = record {
  named = refl;
  headed = ap (λ v. head_of v d.id) e ∙ finds front d ds (subst AreComps e are);
  types = head.types;
  makes = λ n a is r well h. subst (λ vs. Fits top (declare vs top) cs a is r) head.seen (comp_sound top cs (Programs.makers top ds)
      (declare d.head.seen top) n a d.body is r all well h);
}

choose : (top : Visible) (cs : List Programs.Prepared) (d : Programs.Prepared) (one : Maker) (rest : Option Maker) (id : ℕ) (m : Maker) (b : Bool) →
    nat_eq d.id id ≡ b →
    (if b then Some one else rest) ≡ Some m → Makes top cs d.id one → (rest ≡ Some m → Makes top cs id m) → Makes top cs id m
choose top cs d one rest id m true same h first next =
    let is : one ≡ m = cc in subst (λ k. Makes top cs k m) (eqb-true d.id id same) (subst (Makes top cs d.id) is first)
choose top cs d one rest id m false same h first next = next h

-- The `fun comp`s from some place on make instances that keep their rules.
all_make : (top : Visible) (cs front ds : List Programs.Prepared) → AreComps cs → AreComps ds → cs ≡ front ++ ds → AllMake top cs (Programs.makers top ds)
all_make top cs front [] are more e id m h = absurd cc
all_make top cs front (d ∷ ds) are (own, head, more) e id m h =
    let before : AllMake top cs (Programs.makers top ds) = all_make top cs (front ++ d ∷ []) ds are more (e ∙ sym (append_assoc front (d ∷ []) ds)) in
    choose top cs d (Programs.maker top (Programs.makers top ds) d) (Programs.makers top ds id) id m (nat_eq d.id id) refl h
    (make_one top cs front d ds are head e before) (before id m)

main_sound : (p : Prog) (d : Programs.Declared) (core : Core) → Stands d → Programs.main_of p d ≡ Fine core → IsSound core
main_sound p d core st h =
    let mk : Makers = Programs.makers d.scope d.comps in
    let a = first_fine (Programs.stream d.scope.shapes p.input) (λ a. and_then (comp mk d.scope 0 a p.main []) (λ r. and_then
    (Programs.stream d.scope.shapes p.output) (Programs.whole p d a r))) core h in
    let r = first_fine (comp mk d.scope 0 a.0 p.main []) (λ r. and_then (Programs.stream d.scope.shapes p.output) (Programs.whole p d a.0 r)) core a.2 in
    let b = first_fine (Programs.stream d.scope.shapes p.output) (Programs.whole p d a.0 r.0) core r.2 in
    let made : Core = record {
      structs = Programs.defs_of d.scope.shapes;
      variables = d.variables;
      functions = d.functions;
      instances = r.0.instances;
      main = r.0.what.what;
      input = a.0;
      output = b.0;
      value = r.0.what.value;
      at = p.at;
    } in
    let c = held (all_same b.0 (emitted r.0.what.emits)) (Mismatch p.output.at) made core b.2 in
    let fits : Fits d.scope d.scope d.comps a.0 [] r.0 =
    comp_sound d.scope d.comps mk d.scope 0 a.0 p.main [] r.0 (all_make d.scope d.comps [] d.comps st.comps st.comps refl) (record {
      rules = tt;
      of =
          tt;
    }) r.1 in
    subst IsSound c.1
    (record {
      top = d.scope;
      structs = refl;
      variables = st.variables_are;
      functions = st.functions_are;
      are_variables = st.variables;
      are_functions = st.functions;
      are_instances = fits.grown.well.rules;
      emits = r.0.what.emits;
      main = fits.typed;
      writes = c.0;
    })

pub cores_sound : CoresAreSound
cores_sound p core own h =
    let d = first_fine (Programs.declarations Programs.none_declared p.declarations) (Programs.main_of p) core h in
    main_sound p d.0 core (declarations_sound Programs.none_declared d.0 p.declarations nothing_stands own d.1) d.2
