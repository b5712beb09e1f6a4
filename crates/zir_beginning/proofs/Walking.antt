-- In a typed program each initial value uses only what stands before it.
use Rattle.std.specs.Prelude.{ℕ, zero, suc, ◌<◌, List, [], ◌∷◌, ◌++◌, Option, Some, ◌≡◌, refl, length, slice_get, take}
use Rattle.std.proofs.Common.{ap, sym, subst, ◌∙◌, arith}
use Rattle.std.proofs.lemmas.List.{append-nil, append_assoc}
use Rattle.zir_tree.specs.declared.types.Field.{Field}
use Rattle.zir_tree.specs.declared.stmt.Var.{Var}
use Rattle.zir_tree.specs.declared.program.Function.{Function}
use Rattle.zir_tree.specs.declared.program.Decl.{Decl}
use Rattle.zir_tree.specs.declared.program.Decl.TheVariants.{Var as VarDecl, Struct as StructDecl, Function as FunctionDecl, Comp as CompDecl}
use Rattle.zir_tree.specs.declared.program.Prog.{Prog}
use Rattle.zir_tree.specs.declared.program.Core.{Core}
use Rattle.zir_types.specs.declared.scope.Shape.{Shape}
use Rattle.zir_types.specs.declared.scope.Signature.{Signature}
use Rattle.zir_types.specs.declared.typed.Heading.{Heading}
use Rattle.zir_types.specs.declared.typed.Written.{Written}
use Rattle.zir_types.specs.declared.typed.TypedVar.{TypedVar}
use Rattle.zir_types.specs.declared.typed.TypedBody.{TypedBody}
use Rattle.zir_types.specs.declared.error.TypeError.TheVariants.{Mismatch}
use Rattle.zir_types.specs.Walk.{Walk, Fine, and_then}
use Rattle.zir_types.specs.Scope.{declare, variable, written}
use Rattle.zir_types.specs.Expressions.{all_same}
use Rattle.zir_types.specs.Statements.{var, seen_var, fun_body, no_heading, heading, one_more_param}
use Rattle.zir_types.specs.Components.{Makers, comp, emitted}
use Rattle.zir_types.specs.Programs
use Rattle.zir_types.proofs.Fine.{first_fine, held, same_fine}
use Rattle.zir_sound.specs.Statements.{IsBody, IsVar, type_of}
use Rattle.zir_sound.proofs.Found.{var_sound}
use Rattle.zir_sound.proofs.Statements.{fun_body_sound, result_if}
use Rattle.zir_beginning.specs.Order.{Apart, HaveOwnNumbers, AreApart, ArePreceding, ParametersDeclare, FunctionsDeclare}
use Rattle.zir_beginning.specs.Laws.{TypedBegin}
use Rattle.zir_beginning.proofs.Parts.{VarsAre, vars-front, vars-back, declare-front, declare-back, leave-append, apart-back, own-front, functions-wider}
use Rattle.zir_beginning.proofs.Typing.{AllSeen, seen-append, Allows, allows-more, within-initial, within-body}

-- what is found has a place before the end
place-below : {A : Type 0} (xs : List A) (k : ℕ) (x : A) → slice_get xs k ≡ Some x → k < length xs
place-below {A} [] k x h = absurd (cc)
place-below {A} (y ∷ xs) zero x h = omega arith
place-below {A} (y ∷ xs) (suc k) x h = let lt : k < length xs = place-below xs k x h in omega (arith, lt)

length-more : {A B : Type 0} (xs : List A) (ys : List B) (x : A) (y : B) → length xs ≡ length ys → length (xs ++ x ∷ []) ≡ length (ys ++ y ∷ [])
length-more {A} {B} [] [] x y e = refl
length-more {A} {B} [] (b ∷ ys) x y e = absurd (cc)
length-more {A} {B} (a ∷ xs) [] x y e = absurd (cc)
length-more {A} {B} (a ∷ xs) (b ∷ ys) x y e = ap suc (length-more xs ys x y (let q : length xs ≡ length ys = omega arith in q))

take-front : {A : Type 0} (xs ys : List A) → take (length xs) (xs ++ ys) ≡ xs
take-front {A} [] [] = refl
take-front {A} [] (y ∷ ys) = refl
take-front {A} (x ∷ xs) ys = ap (λ zs. x ∷ zs) (take-front xs ys)

-- parameters are seen in the body
parameters-front : (P : ℕ → Type 0) (xs ys : List Field) → ParametersDeclare P (xs ++ ys) → ParametersDeclare P xs
parameters-front P [] ys h = tt
parameters-front P (x ∷ xs) ys h = (h.0, parameters-front P xs ys h.1)

parameters-back : (P : ℕ → Type 0) (xs ys : List Field) → ParametersDeclare P (xs ++ ys) → ParametersDeclare P ys
parameters-back P [] ys h = h
parameters-back P (x ∷ xs) ys h = parameters-back P xs ys h.1

parameters-seen : (P : ℕ → Type 0) (ss : List Shape) (done : Heading) (fs : List Field) (h : Heading) →
    (ParametersDeclare P done.fields → AllSeen P done.seen) → heading ss done fs ≡ Fine h → ParametersDeclare P h.fields → AllSeen P h.seen
parameters-seen P ss done [] h is e =
    subst (λ (h : Heading). ParametersDeclare P h.fields → AllSeen P h.seen) (same_fine done h e) is
parameters-seen P ss done (f ∷ fs) h is e =
    let t = first_fine (written ss f.ty) (λ t. heading ss (one_more_param done f.name t) fs) h e in
    let one : Field = record { name = f.name; ty = t.0.what } in
    parameters-seen P ss (one_more_param done f.name t.0) fs h
    (λ d. seen-append P done.seen (variable f.name.id t.0.ty ∷ []) (is (parameters-front P done.fields (one ∷ []) d))
    ((parameters-back P done.fields (one ∷ []) d).0, tt))
    t.2

-- what holds of the declarations so far
record Fits (d : Programs.Declared) : Type 1 where
  variables : (P : ℕ → Type 0) → VarsAre P d.variables → AllSeen P d.scope.variables
  count : length d.scope.functions ≡ length d.functions
  functions : (later : List Var) → VarsAre (Apart later) d.variables → FunctionsDeclare (Apart later) d.functions → AreApart later d.functions

-- what has come to the declarations so far, up to the end
record Grows (d z : Programs.Declared) : Type 0 where
  more : List Var
  others : List Function
  variables_are : z.variables ≡ d.variables ++ more
  functions_are : z.functions ≡ d.functions ++ others
  values : ArePreceding z.functions more

-- a declaration
record Steps (d e z : Programs.Declared) : Type 1 where
  fits : Fits e
  grown : Grows e z → Grows d z

-- a declaration that is neither a variable nor a function
other-step : (d e z : Programs.Declared) → Fits d → d.variables ≡ e.variables → d.functions ≡ e.functions →
    d.scope.variables ≡ e.scope.variables → d.scope.functions ≡ e.scope.functions → Steps d e z
other-step d e z f same-variables same-functions same-seen same-signatures = record {
  fits = record {
    variables = λ P h. subst (AllSeen P) same-seen (f.variables P (subst (VarsAre P) (sym same-variables) h));
    count = ap length (sym same-signatures) ∙ f.count ∙ ap length same-functions;
    functions = λ later h k. subst (AreApart later) same-functions
        (f.functions later (subst (VarsAre (Apart later)) (sym same-variables) h)
        (subst (FunctionsDeclare (Apart later)) (sym same-functions) k));
  };
  grown = λ g. record {
    more = g.more;
    others = g.others;
    variables_are = g.variables_are ∙ ap (λ vs. vs ++ g.more) (sym same-variables);
    functions_are = g.functions_are ∙ ap (λ fs. fs ++ g.others) (sym same-functions);
    values = g.values;
  };
}

-- the top so far may be used
allows-top : (d : Programs.Declared) (P : ℕ → Type 0) → Fits d → VarsAre P d.variables → Allows P (λ k. k < length d.functions) d.scope
allows-top d P f h = record {
  variables = f.variables P h;
  functions = λ k s e. subst (λ n. k < n) f.count (place-below d.scope.functions k s e);
}

-- a function
function-step : (d e z : Programs.Declared) (f : Function) (hd : Heading) (r : Option Written) (b : TypedBody) → Fits d →
    ((P : ℕ → Type 0) → ParametersDeclare P hd.fields → AllSeen P hd.seen) →
    IsBody (declare hd.seen d.scope) (result_if (Programs.written_ty r)) b.what → Programs.with_function d f hd r b ≡ Fine e → Steps d e z
function-step d e z f hd r b fits seen body h =
    let made : Function = record { name = f.name; params = hd.fields; result = Programs.written_what r; body = b.what; at = f.at } in
    let sig : Signature = record { id = f.name.id; params = hd.types; result = Programs.result_ty (Programs.written_ty r) } in
    subst (λ e. Steps d e z)
    (same_fine (record d { scope = record d.scope { functions = d.scope.functions ++ sig ∷ [] }; functions = d.functions ++ made ∷ [] }) e h)
    (record {
      fits = record {
        variables = fits.variables;
        count = length-more d.scope.functions d.functions sig made fits.count;
        functions = λ later v k.
            let own = declare-back (Apart later) d.functions (made ∷ []) k in
            let top : Allows (Apart later) (λ k. Unit {0}) d.scope = record { variables = fits.variables (Apart later) v; functions = λ k s e. tt } in
            leave-append later d.functions (made ∷ []) (fits.functions later v (declare-front (Apart later) d.functions (made ∷ []) k)) (
              within-body (Apart later) (λ k. Unit {0}) (declare hd.seen d.scope) (result_if (Programs.written_ty r)) b.what
                  (allows-more (Apart later) (λ k. Unit {0}) d.scope hd.seen top (seen (Apart later) own.0)) own.1 body,
              tt,
            );
      };
      grown = λ g. record {
        more = g.more;
        others = made ∷ g.others;
        variables_are = g.variables_are;
        functions_are = g.functions_are ∙ append_assoc d.functions (made ∷ []) g.others;
        values = g.values;
      };
    })

-- a variable
variable-step : (d e z : Programs.Declared) (v : TypedVar) → Fits d → IsVar d.scope v.what → HaveOwnNumbers z.variables →
    FunctionsDeclare (Apart z.variables) z.functions → Programs.with_top d v ≡ Fine e → Steps d e z
variable-step d e z v fits is own inner h =
    subst (λ e. Steps d e z)
    (same_fine (record d { scope = declare (seen_var v) d.scope; variables = d.variables ++ v.what ∷ [] }) e h)
    (record {
      fits = record {
        variables = λ P k. seen-append P d.scope.variables (seen_var v) (fits.variables P (vars-front P d.variables (v.what ∷ []) k))
            ((vars-back P d.variables (v.what ∷ []) k).0, tt);
        count = fits.count;
        functions = λ later k. fits.functions later (vars-front (Apart later) d.variables (v.what ∷ []) k);
      };
      grown = λ g.
          let later : List Var = v.what ∷ g.more in
          let variables_are : z.variables ≡ d.variables ++ later = g.variables_are ∙ append_assoc d.variables (v.what ∷ []) g.more in
          let before : VarsAre (Apart later) d.variables = own-front d.variables later (subst HaveOwnNumbers variables_are own) in
          let wider : (id : ℕ) → Apart z.variables id → Apart later id =
          λ id a. apart-back d.variables later id (subst (λ vs. Apart vs id) variables_are a) in
          let declared : FunctionsDeclare (Apart later) d.functions =
          declare-front (Apart later) d.functions g.others
          (subst (FunctionsDeclare (Apart later)) g.functions_are (functions-wider (Apart z.variables) (Apart later) wider z.functions inner)) in
          record {
            more = later;
            others = g.others;
            variables_are = variables_are;
            functions_are = g.functions_are;
            values = (
              record {
                count = length d.functions;
                value = within-initial (Apart later) (λ k. k < length d.functions) d.scope (type_of v.what.ty) v.what.initial
                    (allows-top d (Apart later) fits before) is;
                first = subst (AreApart later) (sym (ap (take (length d.functions)) g.functions_are ∙ take-front d.functions g.others))
                    (fits.functions later before declared);
              },
              g.values,
            );
          };
    })

-- each declaration
step : (d e z : Programs.Declared) (x : Decl) → Fits d → HaveOwnNumbers z.variables → FunctionsDeclare (Apart z.variables) z.functions →
    Programs.declaration d x ≡ Fine e → Steps d e z
step d e z (VarDecl v) fits own inner h =
    let t = first_fine (var d.scope v) (Programs.with_top d) e h in
    variable-step d e z t.0 fits (var_sound d.scope v t.0 t.1).0 own inner t.2
step d e z (StructDecl s) fits own inner h =
    let t = first_fine (heading d.scope.shapes no_heading s.fields) (Programs.with_struct d s) e h in
    let made : Programs.Declared = record d {
      scope = record d.scope { shapes = d.scope.shapes ++ Programs.shape_of d.scope.shapes s t.0 ∷ [] };
    } in
    subst (λ e. Steps d e z) (same_fine made e t.2) (other-step d made z fits refl refl refl refl)
step d e z (FunctionDecl f) fits own inner h =
    let body : Heading → Option Written → Walk TypedBody = λ hd r. fun_body (declare hd.seen d.scope) (Programs.written_ty r) f.at f.body in
    let t = first_fine (heading d.scope.shapes no_heading f.params) (λ hd. and_then (Programs.result_of d.scope.shapes f.result) (λ r. and_then (body hd r)
    (Programs.with_function d f hd r))) e h in
    let r = first_fine (Programs.result_of d.scope.shapes f.result) (λ r. and_then (body t.0 r) (Programs.with_function d f t.0 r)) e t.2 in
    let b = first_fine (body t.0 r.0) (Programs.with_function d f t.0 r.0) e r.2 in
    function-step d e z f t.0 r.0 b.0 fits (λ P. parameters-seen P d.scope.shapes no_heading f.params t.0 (λ k. tt) t.1)
    (fun_body_sound (declare t.0.seen d.scope) (Programs.written_ty r.0) f.at f.body b.0 b.1) b.2
step d e z (CompDecl c) fits own inner h =
    let t = first_fine (heading d.scope.shapes no_heading c.params) (Programs.with_comp d c) e h in
    let made : Programs.Declared = record d { comps = record { id = c.name.id; head = t.0; body = c.body } ∷ d.comps } in
    subst (λ e. Steps d e z) (same_fine made e t.2) (other-step d made z fits refl refl refl refl)

-- declarations one after the other
walk : (d z : Programs.Declared) (xs : List Decl) → Fits d → HaveOwnNumbers z.variables → FunctionsDeclare (Apart z.variables) z.functions →
    Programs.declarations d xs ≡ Fine z → Grows d z
walk d z [] fits own inner h =
    subst (λ z. Grows d z) (same_fine d z h)
    (record { more = []; others = []; variables_are = sym (append-nil d.variables); functions_are = sym (append-nil d.functions); values = tt })
walk d z (x ∷ xs) fits own inner h =
    let e = first_fine (Programs.declaration d x) (λ e. Programs.declarations e xs) z h in
    let s = step d e.0 z x fits own inner e.1 in
    s.grown (walk e.0 z xs s.fits own inner e.2)

nothing-fits : Fits Programs.none_declared
nothing-fits = record { variables = λ P h. tt; count = refl; functions = λ later h k. tt }

-- what the core of a program has of its declarations
pub record Taken (d : Programs.Declared) (core : Core) : Type 0 where
  pub variables : d.variables ≡ core.variables
  pub functions : d.functions ≡ core.functions

pub main-taken : (p : Prog) (d : Programs.Declared) (core : Core) → Programs.main_of p d ≡ Fine core → Taken d core
main-taken p d core h =
    let mk : Makers = Programs.makers d.scope d.comps in
    let a = first_fine (Programs.stream d.scope.shapes p.input) (λ a. and_then (comp mk d.scope 0 a p.main []) (λ r. and_then
    (Programs.stream d.scope.shapes p.output) (Programs.whole p d a r))) core h in
    let r = first_fine (comp mk d.scope 0 a.0 p.main []) (λ r. and_then (Programs.stream d.scope.shapes p.output) (Programs.whole p d a.0 r)) core a.2 in
    let b = first_fine (Programs.stream d.scope.shapes p.output) (Programs.whole p d a.0 r.0) core r.2 in
    let made : Core = record {
      structs = Programs.defs_of d.scope.shapes;
      variables = d.variables;
      functions = d.functions;
      instances = r.0.instances;
      main = r.0.what.what;
      input = a.0;
      output = b.0;
      value = r.0.what.value;
      at = p.at;
    } in
    let c = held (all_same b.0 (emitted r.0.what.emits)) (Mismatch p.output.at) made core b.2 in
    subst (Taken d) {x = made} c.1 (record { variables = refl; functions = refl })

-- all declarations of a program
pub typed_begin : TypedBegin
typed_begin p core h owns =
    let d = first_fine (Programs.declarations Programs.none_declared p.declarations) (Programs.main_of p) core h in
    let t = main-taken p d.0 core d.2 in
    let own : HaveOwnNumbers d.0.variables = subst HaveOwnNumbers (sym t.variables) owns.own in
    let inner : FunctionsDeclare (Apart d.0.variables) d.0.functions =
    subst (λ fs. FunctionsDeclare (Apart d.0.variables) fs) (sym t.functions)
    (subst (λ vs. FunctionsDeclare (Apart vs) core.functions) (sym t.variables) owns.inner) in
    let g = walk Programs.none_declared d.0 p.declarations nothing-fits own inner d.1 in
    record {
      own = owns.own;
      values = subst (λ vs. ArePreceding core.functions vs) (sym g.variables_are ∙ t.variables)
          (subst (λ fs. ArePreceding fs g.more) t.functions g.values);
    }
