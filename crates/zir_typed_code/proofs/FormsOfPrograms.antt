-- The core that the walk of a program makes is well formed.
use Rattle.std.specs.Prelude.{◌≡◌, refl, ◌≤◌, ◌<◌, ◌+◌, ℕ, suc, List, [], ◌∷◌, ◌++◌, length, Bool, true, false, nat_eq, if◌then◌else◌, Option, Some, None}
use Rattle.std.proofs.Common.{ap, ◌∙◌, sym, subst, arith}
use Rattle.zir_tree.specs.declared.ident.Ident.{Ident}
use Rattle.zir_tree.specs.declared.types.Ty.{Ty}
use Rattle.zir_tree.specs.declared.types.Field.{Field}
use Rattle.zir_tree.specs.declared.types.FieldDef.{FieldDef}
use Rattle.zir_tree.specs.declared.types.TypeExpr.{TypeExpr}
use Rattle.zir_tree.specs.declared.stmt.Var.{Var}
use Rattle.zir_tree.specs.declared.program.Struct.{Struct}
use Rattle.zir_tree.specs.declared.program.Function.{Function}
use Rattle.zir_tree.specs.declared.program.CompFunction.{CompFunction}
use Rattle.zir_tree.specs.declared.program.Decl.{Decl}
use Rattle.zir_tree.specs.declared.program.Decl.TheVariants.{Var as VarDecl, Struct as StructDecl, Function as FunctionDecl, Comp as CompDecl}
use Rattle.zir_tree.specs.declared.program.Prog.{Prog}
use Rattle.zir_tree.specs.declared.program.Core.{Core}
use Rattle.zir_types.specs.declared.scope.Shape.{Shape}
use Rattle.zir_types.specs.declared.scope.Signature.{Signature}
use Rattle.zir_types.specs.declared.typed.Heading.{Heading}
use Rattle.zir_types.specs.declared.typed.Written.{Written}
use Rattle.zir_types.specs.declared.typed.TypedVar.{TypedVar}
use Rattle.zir_types.specs.declared.typed.TypedBody.{TypedBody}
use Rattle.zir_types.specs.declared.error.TypeError.TheVariants.{Mismatch, NotStreamType}
use Rattle.zir_types.specs.Walk.{Walk, Fine, and_then}
use Rattle.zir_types.specs.Scope.{Visible, declare, written}
use Rattle.zir_types.specs.Expressions.{all_same}
use Rattle.zir_types.specs.Statements.{var, seen_var, fun_body, no_heading, heading}
use Rattle.zir_types.specs.Components.{Makers, comp, emitted}
use Rattle.zir_types.specs.Programs
use Rattle.zir_types.proofs.Fine.{first_fine, held, same_fine}
use Rattle.zir_shapes.specs.Shapes.{StructsBefore, FieldsBefore, OrderedFrom}
use Rattle.zir_sound.specs.Laws.{is_in}
use Rattle.zir_typed_code.specs.Forming.{KnownIfAny, FormedVar, FormedParams, FormedVars, FormedFunction, FormedFunctions, FormedBody, WellFormed, with_params, with_vars}
use Rattle.zir_typed_code.specs.Walked.{TypedAreWellFormed}
use Rattle.zir_typed_code.proofs.Rising.{RisesAll, RisesComp, RisesParams, RisesDecls, Clear, clear_part, clear_more, clear_ahead}
use Rattle.zir_typed_code.proofs.Numbering.{Numbered, names_rise}
use Rattle.zir_typed_code.proofs.Writing.{AllSeen, AllTypes, Sees, VarForms, HeadForms, HeadKnown, WrittenKnown, defs_length, heading_forms}
use Rattle.zir_typed_code.proofs.Writing.{heading_known, results_more, sees_more, var_forms, written_known}
use Rattle.zir_typed_code.proofs.Forms.{fun_body_forms}
use Rattle.zir_typed_code.proofs.FormsOfComponents.{AllForm, MakesForms, Reaches, comp_forms}

-- Top variables so far, and one more.
vars_more : (m : ℕ) (xs : List ℕ) (vs : List Var) (v : Var) → FormedVars m xs vs → FormedVar m (with_vars xs vs) v → FormedVars m xs (vs ++ v ∷ [])
vars_more m xs [] v h k = (k, tt)
vars_more m xs (u ∷ vs) v h k = (h.0, vars_more m (u.name.id ∷ xs) vs v h.1 k)

numbers_one_more : (xs : List ℕ) (vs : List Var) (v : Var) → v.name.id ∷ with_vars xs vs ≡ with_vars xs (vs ++ v ∷ [])
numbers_one_more xs [] v = refl
numbers_one_more xs (u ∷ vs) v = numbers_one_more (u.name.id ∷ xs) vs v

functions_more : (m : ℕ) (tops : List ℕ) (fs : List Function) (f : Function) → FormedFunctions m tops fs → FormedFunction m tops f →
    FormedFunctions m tops (fs ++ f ∷ [])
functions_more m tops [] f h k = (k, tt)
functions_more m tops (g ∷ fs) f h k = (h.0, functions_more m tops fs f h.1 k)

-- Structs in order, and one more.
ordered_more : (n : ℕ) (ss : List Shape) (s : Shape) → OrderedFrom n (Programs.defs_of ss) → FieldsBefore (n + length ss) s.def.fields →
    OrderedFrom n (Programs.defs_of (ss ++ s ∷ []))
ordered_more n [] s h k = let e : n + 0 ≡ n = omega arith in (subst (λ m. FieldsBefore m s.def.fields) e k, tt)
ordered_more n (r ∷ ss) s h k =
    let e : n + suc (length ss) ≡ suc n + length ss = omega arith in
    (h.0, ordered_more (suc n) ss s h.1 (subst (λ m. FieldsBefore m s.def.fields) e k))

fields_before : (m : ℕ) (fs : List Field) (ts : List Ty) → AllTypes m ts → FieldsBefore m (Programs.field_defs fs ts)
fields_before m [] ts h = tt
fields_before m (f ∷ fs) [] h = tt
fields_before m (f ∷ fs) (t ∷ ts) h = (h.0, fields_before m fs ts h.1)

from_zero : (n : ℕ) (fs : List FieldDef) → FieldsBefore n fs → FieldsBefore (0 + n) fs
from_zero n fs h = let e : n ≡ 0 + n = omega arith in subst (λ k. FieldsBefore k fs) e h

-- A `fun comp` is ready to be made: its parameters are well formed and known, and the numbers of its body are still to come.
record Ready (m : ℕ) (tops : List ℕ) (d : Programs.Prepared) : Type 0 where
  params : FormedParams m tops d.head.fields
  seen : AllSeen m d.head.seen
  low : ℕ
  high : ℕ
  clear : Clear (with_params tops d.head.fields) low high
  rises : RisesComp low d.body high

abbrev AllReady : ℕ → List ℕ → List Programs.Prepared → Type 0
AllReady m tops [] = Unit {0}
AllReady m tops (d ∷ ds) = Ready m tops d × AllReady m tops ds

-- What holds of the declarations so far, where numbers from a on are still to come.
record Stands (m : ℕ) (tops : List ℕ) (a : ℕ) (d : Programs.Declared) : Type 0 where
  sees : Sees m d.scope
  variables : FormedVars m [] d.variables
  ahead : (b : ℕ) → Clear (with_vars [] d.variables) a b
  functions : FormedFunctions m tops d.functions
  comps : AllReady m tops d.comps

-- What a declaration leaves of the structs and the top variables.
record Leaves (d e : Programs.Declared) : Type 0 where
  shapes : length d.scope.shapes ≤ length e.scope.shapes
  variables : d.variables ≡ e.variables

leaves_same : (d made e : Programs.Declared) → length d.scope.shapes ≤ length made.scope.shapes → d.variables ≡ made.variables → made ≡ e → Leaves d e
leaves_same d made e le same h = subst (Leaves d) h (record { shapes = le; variables = same })

longer : {A : Type 0} (xs : List A) (x : A) → length xs ≤ length (xs ++ x ∷ [])
longer {A} [] x = omega arith
longer {A} (y ∷ xs) x = let le = longer xs x in omega arith

struct_leaves : (d e : Programs.Declared) (s : Struct) → Programs.declaration d (StructDecl s) ≡ Fine e → Leaves d e
struct_leaves d e s h =
    let t = first_fine (heading d.scope.shapes no_heading s.fields) (Programs.with_struct d s) e h in
    let one = Programs.shape_of d.scope.shapes s t.0 in
    leaves_same d (record d { scope = record d.scope { shapes = d.scope.shapes ++ one ∷ [] } }) e (longer d.scope.shapes one) refl
    (same_fine (record d { scope = record d.scope { shapes = d.scope.shapes ++ one ∷ [] } }) e t.2)

function_leaves : (d e : Programs.Declared) (f : Function) → Programs.declaration d (FunctionDecl f) ≡ Fine e → Leaves d e
function_leaves d e f h =
    let body : Heading → Option Written → Walk TypedBody = λ hd r. fun_body (declare hd.seen d.scope) (Programs.written_ty r) f.at f.body in
    let t = first_fine (heading d.scope.shapes no_heading f.params) (λ hd. and_then (Programs.result_of d.scope.shapes f.result) (λ r. and_then (body hd r)
    (Programs.with_function d f hd r))) e h in
    let r = first_fine (Programs.result_of d.scope.shapes f.result) (λ r. and_then (body t.0 r) (Programs.with_function d f t.0 r)) e t.2 in
    let b = first_fine (body t.0 r.0) (Programs.with_function d f t.0 r.0) e r.2 in
    let sig : Signature = record { id = f.name.id; params = t.0.types; result = Programs.result_ty (Programs.written_ty r.0) } in
    let made : Function = record { name = f.name; params = t.0.fields; result = Programs.written_what r.0; body = b.0.what; at = f.at } in
    let all : Programs.Declared = record d { scope = record d.scope { functions = d.scope.functions ++ sig ∷ [] }; functions = d.functions ++ made ∷ [] } in
    leaves_same d all e (omega arith) refl (same_fine all e b.2)

comp_leaves : (d e : Programs.Declared) (c : CompFunction) → Programs.declaration d (CompDecl c) ≡ Fine e → Leaves d e
comp_leaves d e c h =
    let t = first_fine (heading d.scope.shapes no_heading c.params) (Programs.with_comp d c) e h in
    let one : List Programs.Prepared = record { id = c.name.id; head = t.0; body = c.body } ∷ d.comps in
    leaves_same d (record d { comps = one }) e (omega arith) refl (same_fine (record d { comps = one }) e t.2)

-- A variable adds itself behind the others.
record AddsVar (d e : Programs.Declared) (v : Var) : Type 0 where
  made : TypedVar
  typed : var d.scope v ≡ Fine made
  is : (let f : Programs.Declared = record d { scope = declare (seen_var made) d.scope; variables = d.variables ++ made.what ∷ [] } in f) ≡ e

var_adds : (d e : Programs.Declared) (v : Var) → Programs.declaration d (VarDecl v) ≡ Fine e → AddsVar d e v
var_adds d e v h =
    let t = first_fine (var d.scope v) (Programs.with_top d) e h in
    record { made = t.0; typed = t.1; is = same_fine (record d { scope = declare (seen_var t.0) d.scope; variables = d.variables ++ t.0.what ∷ [] }) e t.2 }

-- Structs are added, never taken.
shapes_grow : (d e : Programs.Declared) (xs : List Decl) → Programs.declarations d xs ≡ Fine e → length d.scope.shapes ≤ length e.scope.shapes
shapes_grow d e [] h = let k : d ≡ e = same_fine d e h in subst (λ (x : Programs.Declared). length d.scope.shapes ≤ length x.scope.shapes) k (omega arith)
shapes_grow d e (VarDecl v ∷ xs) h =
    let f = first_fine (Programs.declaration d (VarDecl v)) (λ c. Programs.declarations c xs) e h in
    let a : AddsVar d f.0 v = var_adds d f.0 v f.1 in
    let same : d.scope.shapes ≡ f.0.scope.shapes = ap (λ (x : Programs.Declared). x.scope.shapes) a.is in
    subst (λ ss. length ss ≤ length e.scope.shapes) (sym same) (shapes_grow f.0 e xs f.2)
shapes_grow d e (StructDecl s ∷ xs) h =
    let f = first_fine (Programs.declaration d (StructDecl s)) (λ c. Programs.declarations c xs) e h in
    let l : Leaves d f.0 = struct_leaves d f.0 s f.1 in
    let le = l.shapes in
    let more = shapes_grow f.0 e xs f.2 in
    omega arith
shapes_grow d e (FunctionDecl g ∷ xs) h =
    let f = first_fine (Programs.declaration d (FunctionDecl g)) (λ c. Programs.declarations c xs) e h in
    let l : Leaves d f.0 = function_leaves d f.0 g f.1 in
    let le = l.shapes in
    let more = shapes_grow f.0 e xs f.2 in
    omega arith
shapes_grow d e (CompDecl c ∷ xs) h =
    let f = first_fine (Programs.declaration d (CompDecl c)) (λ c. Programs.declarations c xs) e h in
    let l : Leaves d f.0 = comp_leaves d f.0 c f.1 in
    let le = l.shapes in
    let more = shapes_grow f.0 e xs f.2 in
    omega arith

-- The name of a variable is the one that it is declared with.
var_named : (m : ℕ) (g : Visible) (v : Var) (x : TypedVar) → length g.shapes ≤ m → var g v ≡ Fine x → x.what.name ≡ v.name
var_named m g v x le h = let k : VarForms m [] v x = var_forms m [] g v x le refl h in k.named

-- Numbers that are clear of the top variables so far, and before those that come, are clear of all.
tops_clear : (d e : Programs.Declared) (xs : List Decl) (a b low high : ℕ) → RisesDecls a xs b → Programs.declarations d xs ≡ Fine e → high ≤ a →
    Clear (with_vars [] d.variables) low high → Clear (with_vars [] e.variables) low high
tops_clear d e [] a b low high r h le clear =
    let k : d ≡ e = same_fine d e h in subst (λ (x : Programs.Declared). Clear (with_vars [] x.variables) low high) k clear
tops_clear d e (VarDecl v ∷ xs) a b low high (c, to, up, on) h le clear =
    let f = first_fine (Programs.declaration d (VarDecl v)) (λ x. Programs.declarations x xs) e h in
    let q : AddsVar d f.0 v = var_adds d f.0 v f.1 in
    let named = var_named (length d.scope.shapes) d.scope v q.made (omega arith) q.typed in
    let same : v.name.id ≡ q.made.what.name.id = ap (λ (x : Ident). x.id) (sym named) in
    let at_least : a ≤ v.name.id = up.0 in
    let one : Clear (v.name.id ∷ with_vars [] d.variables) low high = clear_ahead (with_vars [] d.variables) v.name.id low high (omega arith) clear in
    let all : Clear (with_vars [] (d.variables ++ q.made.what ∷ [])) low high =
    subst (λ ys. Clear ys low high) (ap (λ id. id ∷ with_vars [] d.variables) same ∙ numbers_one_more [] d.variables q.made.what) one in
    tops_clear f.0 e xs c b low high on f.2 (omega arith) (subst (λ (x : Programs.Declared). Clear (with_vars [] x.variables) low high) q.is all)
tops_clear d e (StructDecl s ∷ xs) a b low high (c, to, up, on) h le clear =
    let f = first_fine (Programs.declaration d (StructDecl s)) (λ x. Programs.declarations x xs) e h in
    let l : Leaves d f.0 = struct_leaves d f.0 s f.1 in
    tops_clear f.0 e xs c b low high on f.2 (omega arith) (subst (λ vs. Clear (with_vars [] vs) low high) l.variables clear)
tops_clear d e (FunctionDecl g ∷ xs) a b low high (c, to, up, on) h le clear =
    let f = first_fine (Programs.declaration d (FunctionDecl g)) (λ x. Programs.declarations x xs) e h in
    let l : Leaves d f.0 = function_leaves d f.0 g f.1 in
    tops_clear f.0 e xs c b low high on f.2 (omega arith) (subst (λ vs. Clear (with_vars [] vs) low high) l.variables clear)
tops_clear d e (CompDecl k ∷ xs) a b low high (c, to, up, on) h le clear =
    let f = first_fine (Programs.declaration d (CompDecl k)) (λ x. Programs.declarations x xs) e h in
    let l : Leaves d f.0 = comp_leaves d f.0 k f.1 in
    tops_clear f.0 e xs c b low high on f.2 (omega arith) (subst (λ vs. Clear (with_vars [] vs) low high) l.variables clear)

-- Numbers are clear ahead of later ones.
ahead_later : (xs : List ℕ) (a c : ℕ) → a ≤ c → ((b : ℕ) → Clear xs a b) → (b : ℕ) → Clear xs c b
ahead_later xs a c le h b = clear_part xs a b c b le (omega arith) (h b)

var_stands : (m : ℕ) (tops : List ℕ) (a c : ℕ) (d e : Programs.Declared) (v : Var) → a ≤ v.name.id → v.name.id < c → Stands m tops a d → AddsVar d e v →
    Stands m tops c e
var_stands m tops a c d e v at_least less st q =
    let new : is_in (with_vars [] d.variables) v.name.id ≡ false = st.ahead c v.name.id at_least less in
    let k : VarForms m (with_vars [] d.variables) v q.made = var_forms m (with_vars [] d.variables) d.scope v q.made st.sees.fit new q.typed in
    let same : v.name.id ≡ q.made.what.name.id = ap (λ (x : Ident). x.id) (sym k.named) in
    let numbers : v.name.id ∷ with_vars [] d.variables ≡ with_vars [] (d.variables ++ q.made.what ∷ []) =
    ap (λ id. id ∷ with_vars [] d.variables) same ∙ numbers_one_more [] d.variables q.made.what in
    subst (Stands m tops c) q.is
    (record {
      sees = sees_more m d.scope (seen_var q.made) st.sees (k.known, tt);
      variables = vars_more m [] d.variables q.made.what st.variables k.formed;
      ahead = λ b. subst (λ ys. Clear ys c b) numbers (clear_more (with_vars [] d.variables) v.name.id c b less
          (ahead_later (with_vars [] d.variables) a c (omega arith) st.ahead b));
      functions = st.functions;
      comps = st.comps;
    })

none_known : (m : ℕ) → HeadKnown m no_heading
none_known m = record { seen = tt; types = tt }

struct_stands : (m : ℕ) (tops : List ℕ) (a c : ℕ) (d e : Programs.Declared) (s : Struct) → a ≤ c → length e.scope.shapes ≤ m → Stands m tops a d →
    Programs.declaration d (StructDecl s) ≡ Fine e → Stands m tops c e
struct_stands m tops a c d e s le fit st h =
    let t = first_fine (heading d.scope.shapes no_heading s.fields) (Programs.with_struct d s) e h in
    let n = length d.scope.shapes in
    let k : HeadKnown n t.0 = heading_known n d.scope.shapes no_heading s.fields t.0 (omega arith) (none_known n) t.1 in
    let one = Programs.shape_of d.scope.shapes s t.0 in
    let made : Programs.Declared = record d { scope = record d.scope { shapes = d.scope.shapes ++ one ∷ [] } } in
    let is : made ≡ e = same_fine made e t.2 in
    subst (Stands m tops c) is
    (record {
      sees = record {
        ordered = ordered_more 0 d.scope.shapes one st.sees.ordered (from_zero n one.def.fields (fields_before n t.0.fields t.0.types k.types));
        fit = subst (λ (x : Programs.Declared). length x.scope.shapes ≤ m) (sym is) fit;
        variables = st.sees.variables;
        functions = st.sees.functions;
      };
      variables = st.variables;
      ahead = ahead_later (with_vars [] d.variables) a c le st.ahead;
      functions = st.functions;
      comps = st.comps;
    })

-- The written result of a function.
record ResultKnown (m : ℕ) (r : Option Written) : Type 0 where
  what : KnownIfAny m (Programs.written_what r)
  ty : StructsBefore m (Programs.result_ty (Programs.written_ty r)).base

result_known : (m : ℕ) (ss : List Shape) (t : Option TypeExpr) (r : Option Written) → length ss ≤ m → Programs.result_of ss t ≡ Fine r → ResultKnown m r
result_known m ss None r le h = subst (ResultKnown m) (same_fine None r h) (record { what = tt; ty = tt })
result_known m ss (Some t) r le h =
    let w = first_fine (written ss t) (λ w. Fine (Some w)) r h in
    let k : WrittenKnown m w.0 = written_known m ss t w.0 le w.1 in
    subst (ResultKnown m) (same_fine (Some w.0) r w.2) (record { what = k.what; ty = k.ty })

no_forms : (m : ℕ) (tops : List ℕ) (a d : ℕ) → Clear tops a d → HeadForms m tops a d no_heading
no_forms m tops a d clear = record { formed = tt; clear = clear }

function_stands : (m : ℕ) (tops : List ℕ) (a k c : ℕ) (d e : Programs.Declared) (f : Function) → a ≤ k → k ≤ c → RisesParams a f.params k →
    RisesAll k f.body.statements c → Clear tops a c → Stands m tops a d → Programs.declaration d (FunctionDecl f) ≡ Fine e → Stands m tops c e
function_stands m tops a k c d e f low high ps ss clear st h =
    let body : Heading → Option Written → Walk TypedBody = λ hd r. fun_body (declare hd.seen d.scope) (Programs.written_ty r) f.at f.body in
    let t = first_fine (heading d.scope.shapes no_heading f.params) (λ hd. and_then (Programs.result_of d.scope.shapes f.result) (λ r. and_then (body hd r)
    (Programs.with_function d f hd r))) e h in
    let r = first_fine (Programs.result_of d.scope.shapes f.result) (λ r. and_then (body t.0 r) (Programs.with_function d f t.0 r)) e t.2 in
    let b = first_fine (body t.0 r.0) (Programs.with_function d f t.0 r.0) e r.2 in
    let sig : Signature = record { id = f.name.id; params = t.0.types; result = Programs.result_ty (Programs.written_ty r.0) } in
    let made : Function = record { name = f.name; params = t.0.fields; result = Programs.written_what r.0; body = b.0.what; at = f.at } in
    let all : Programs.Declared = record d { scope = record d.scope { functions = d.scope.functions ++ sig ∷ [] }; functions = d.functions ++ made ∷ [] } in
    let head : HeadForms m tops k c t.0 = heading_forms m tops d.scope.shapes a k c no_heading f.params t.0 st.sees.fit low high (no_forms m tops a c clear) ps t.1 in
    let res : ResultKnown m r.0 = result_known m d.scope.shapes f.result r.0 st.sees.fit r.1 in
    let formed : FormedBody m (with_params tops t.0.fields) b.0.what =
    fun_body_forms m (with_params tops t.0.fields) (declare t.0.seen d.scope) k c (Programs.written_ty r.0) f.at f.body b.0 st.sees.fit head.clear ss b.1 in
    subst (Stands m tops c) {x = all} (same_fine all e b.2)
    (record {
      sees = record {
        ordered = st.sees.ordered;
        fit = st.sees.fit;
        variables = st.sees.variables;
        functions = results_more m d.scope.functions sig st.sees.functions res.ty;
      };
      variables = st.variables;
      ahead = ahead_later (with_vars [] d.variables) a c (omega arith) st.ahead;
      functions = functions_more m tops d.functions made st.functions (record { params = head.formed; result = res.what; body = formed });
      comps = st.comps;
    })

comp_stands : (m : ℕ) (tops : List ℕ) (a k c : ℕ) (d e : Programs.Declared) (f : CompFunction) → a ≤ k → k ≤ c → RisesParams a f.params k →
    RisesComp k f.body c → Clear tops a c → Stands m tops a d → Programs.declaration d (CompDecl f) ≡ Fine e → Stands m tops c e
comp_stands m tops a k c d e f low high ps up clear st h =
    let t = first_fine (heading d.scope.shapes no_heading f.params) (Programs.with_comp d f) e h in
    let one : Programs.Prepared = record { id = f.name.id; head = t.0; body = f.body } in
    let made : Programs.Declared = record d { comps = one ∷ d.comps } in
    let head : HeadForms m tops k c t.0 = heading_forms m tops d.scope.shapes a k c no_heading f.params t.0 st.sees.fit low high (no_forms m tops a c clear) ps t.1 in
    let known : HeadKnown m t.0 = heading_known m d.scope.shapes no_heading f.params t.0 st.sees.fit (none_known m) t.1 in
    let ready : Ready m tops one = record { params = head.formed; seen = known.seen; low = k; high = c; clear = head.clear; rises = up } in
    subst (Stands m tops c) (same_fine made e t.2)
    (record {
      sees = st.sees;
      variables = st.variables;
      ahead = ahead_later (with_vars [] d.variables) a c (omega arith) st.ahead;
      functions = st.functions;
      comps = (ready, st.comps);
    })

-- The declarations from some place on leave what holds.
declarations_stand : (m : ℕ) (tops : List ℕ) (d e : Programs.Declared) (xs : List Decl) (a b : ℕ) → length e.scope.shapes ≤ m → with_vars [] e.variables ≡ tops →
    RisesDecls a xs b → Programs.declarations d xs ≡ Fine e → Stands m tops a d → Stands m tops b e
declarations_stand m tops d e [] a b fit is r h st =
    subst (Stands m tops b) (same_fine d e h)
    (record {
      sees = st.sees;
      variables = st.variables;
      ahead = ahead_later (with_vars [] d.variables) a b r st.ahead;
      functions = st.functions;
      comps = st.comps;
    })
declarations_stand m tops d e (VarDecl v ∷ xs) a b fit is (c, to, up, on) h st =
    let f = first_fine (Programs.declaration d (VarDecl v)) (λ x. Programs.declarations x xs) e h in
    declarations_stand m tops f.0 e xs c b fit is on f.2 (var_stands m tops a c d f.0 v up.0 up.1 st (var_adds d f.0 v f.1))
declarations_stand m tops d e (StructDecl s ∷ xs) a b fit is (c, to, up, on) h st =
    let f = first_fine (Programs.declaration d (StructDecl s)) (λ x. Programs.declarations x xs) e h in
    let grow = shapes_grow f.0 e xs f.2 in
    declarations_stand m tops f.0 e xs c b fit is on f.2 (struct_stands m tops a c d f.0 s to (omega arith) st f.1)
declarations_stand m tops d e (FunctionDecl g ∷ xs) a b fit is (c, to, (k, low, high, ps, ss), on) h st =
    let f = first_fine (Programs.declaration d (FunctionDecl g)) (λ x. Programs.declarations x xs) e h in
    let l : Leaves d f.0 = function_leaves d f.0 g f.1 in
    let clear : Clear tops a c =
    subst (λ ys. Clear ys a c) is (tops_clear f.0 e xs c b a c on f.2 (omega arith) (subst (λ vs. Clear (with_vars [] vs) a c) l.variables (st.ahead c))) in
    declarations_stand m tops f.0 e xs c b fit is on f.2 (function_stands m tops a k c d f.0 g low high ps ss clear st f.1)
declarations_stand m tops d e (CompDecl g ∷ xs) a b fit is (c, to, (k, low, high, ps, body), on) h st =
    let f = first_fine (Programs.declaration d (CompDecl g)) (λ x. Programs.declarations x xs) e h in
    let l : Leaves d f.0 = comp_leaves d f.0 g f.1 in
    let clear : Clear tops a c =
    subst (λ ys. Clear ys a c) is (tops_clear f.0 e xs c b a c on f.2 (omega arith) (subst (λ vs. Clear (with_vars [] vs) a c) l.variables (st.ahead c))) in
    declarations_stand m tops f.0 e xs c b fit is on f.2 (comp_stands m tops a k c d f.0 g low high ps body clear st f.1)

-- The `fun comp`s make well formed instances, each over those before it.
make_one : (m : ℕ) (tops : List ℕ) (top : Visible) (before : Makers) (d : Programs.Prepared) → Sees m top → Ready m tops d → AllForm m tops before →
    MakesForms m tops (Programs.maker top before d)
make_one m tops top before d w r all = record {
  params = r.params;
  makes = λ n a is q well known h. comp_forms m tops (with_params tops d.head.fields) before (declare d.head.seen top) n a d.body is q r.low r.high all
      (sees_more m top d.head.seen w r.seen) r.clear r.rises known well h;
}

all_make : (m : ℕ) (tops : List ℕ) (top : Visible) (ds : List Programs.Prepared) → Sees m top → AllReady m tops ds → AllForm m tops (Programs.makers top ds)
all_make m tops top [] w r id k h = absurd cc
all_make m tops top (d ∷ ds) w r id k h = choose (nat_eq d.id id) h (make_one m tops top (Programs.makers top ds) d w r.0 (all_make m tops top ds w r.1))
    (all_make m tops top ds w r.1 id k)
  where
    choose : (b : Bool) → (if b then Some (Programs.maker top (Programs.makers top ds) d) else Programs.makers top ds id) ≡ Some k →
        MakesForms m tops (Programs.maker top (Programs.makers top ds) d) → (Programs.makers top ds id ≡ Some k → MakesForms m tops k) → MakesForms m tops k
    choose true h one next = let e : Programs.maker top (Programs.makers top ds) d ≡ k = cc in subst (MakesForms m tops) e one
    choose false h one next = next h

nothing_stands : (m : ℕ) (tops : List ℕ) (a : ℕ) → Stands m tops a Programs.none_declared
nothing_stands m tops a = record {
  sees = record { ordered = tt; fit = omega arith; variables = tt; functions = tt };
  variables = tt;
  ahead = λ b id low high. refl;
  functions = tt;
  comps = tt;
}

stream_known : (m : ℕ) (ss : List Shape) (t : TypeExpr) (a : Ty) → length ss ≤ m → Programs.stream ss t ≡ Fine a → StructsBefore m a.base
stream_known m ss t a le h =
    let w = first_fine (written ss t) _ a h in
    let k : WrittenKnown m w.0 = written_known m ss t w.0 le w.1 in
    let r = held (Programs.streams w.0.ty.base) (NotStreamType t.at) w.0.ty a w.2 in
    subst (λ (u : Ty). StructsBefore m u.base) r.1 k.ty

program_forms : (p : Prog) (core : Core) → Numbered p → Programs.program p ≡ Fine core → WellFormed core
program_forms p core n h =
    let d = first_fine (Programs.declarations Programs.none_declared p.declarations) (Programs.main_of p) core h in
    let mk : Makers = Programs.makers d.0.scope d.0.comps in
    let m = length (Programs.defs_of d.0.scope.shapes) in
    let tops = with_vars [] d.0.variables in
    let many = defs_length d.0.scope.shapes in
    let st : Stands m tops n.top d.0 =
    declarations_stand m tops Programs.none_declared d.0 p.declarations n.low n.top (omega (arith, many)) refl n.declared d.1 (nothing_stands m tops n.low) in
    let a = first_fine (Programs.stream d.0.scope.shapes p.input) (λ a. and_then (comp mk d.0.scope 0 a p.main []) (λ r. and_then
    (Programs.stream d.0.scope.shapes p.output) (Programs.whole p d.0 a r))) core d.2 in
    let r = first_fine (comp mk d.0.scope 0 a.0 p.main []) (λ r. and_then (Programs.stream d.0.scope.shapes p.output) (Programs.whole p d.0 a.0 r)) core a.2 in
    let b = first_fine (Programs.stream d.0.scope.shapes p.output) (Programs.whole p d.0 a.0 r.0) core r.2 in
    let made : Core = record {
      structs = Programs.defs_of d.0.scope.shapes;
      variables = d.0.variables;
      functions = d.0.functions;
      instances = r.0.instances;
      main = r.0.what.what;
      input = a.0;
      output = b.0;
      value = r.0.what.value;
      at = p.at;
    } in
    let c = held (all_same b.0 (emitted r.0.what.emits)) (Mismatch p.output.at) made core b.2 in
    let known : StructsBefore m a.0.base = stream_known m d.0.scope.shapes p.input a.0 st.sees.fit a.1 in
    let q : Reaches m tops tops r.0 =
    comp_forms m tops tops mk d.0.scope 0 a.0 p.main [] r.0 n.top n.high (all_make m tops d.0.scope d.0.comps st.sees st.comps) st.sees (st.ahead n.high) n.main
    known tt r.1 in
    subst WellFormed {x = made} c.1
    (record {
      structs = st.sees.ordered;
      variables = st.variables;
      functions = st.functions;
      instances = q.instances;
      input = known;
      main = q.what;
    })

pub typed_well_formed : TypedAreWellFormed
typed_well_formed p n core resolved h = program_forms n.program core (names_rise p n resolved) h
