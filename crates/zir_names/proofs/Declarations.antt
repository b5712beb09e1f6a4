-- What the code has shown of the parts of a declaration, put together.
use Rattle.std.specs.Prelude.{◌≡◌, ℕ, List, [], Option, Result, take, length}
use Rattle.std.proofs.Common.{ap, ◌∙◌, sym, subst, IsErrAnd}
use Rattle.zir_tree.specs.declared.ident.Ident.{Ident}
use Rattle.zir_tree.specs.declared.comp.Comp.{Comp}
use Rattle.zir_tree.specs.declared.stmt.Body.{Body}
use Rattle.zir_tree.specs.declared.types.Field.{Field}
use Rattle.zir_tree.specs.declared.types.TypeExpr.{TypeExpr}
use Rattle.zir_tree.specs.declared.program.Struct.{Struct}
use Rattle.zir_tree.specs.declared.program.Function.{Function}
use Rattle.zir_tree.specs.declared.program.CompFunction.{CompFunction}
use Rattle.zir_tree.specs.declared.program.Decl.{Decl}
use Rattle.zir_tree.specs.declared.program.Decl.TheVariants as decl
use Rattle.zir_names.specs.declared.scope.Kind.TheVariants as kind
use Rattle.zir_names.specs.Walk.{Fine, Refuses}
use Rattle.zir_names.specs.Scope.{Seen, done, numbered, counted, opened, ToldIn}
use Rattle.zir_names.specs.declared.error.NameError.{NameError}
use Rattle.zir_names.proofs.Told.{told_in_err, done_made, done_seen}
use Rattle.zir_names.specs.Expressions.{maybe, type_of}
use Rattle.zir_names.specs.Statements.{body_of}
use Rattle.zir_names.specs.Components.{comp}
use Rattle.zir_names.specs.Programs.{new_name, fields, params, entered, inside, behind, struct_of, function_of, comp_function_of}

-- so many declarations stay
abbrev pub cut : ℕ → Seen → Seen
cut n s = record { open_ = take n s.open_; next = s.next }

pub struct_made : (seen : Seen) (s : Struct) (name : Ident) (s1 s2 s3 s4 : Seen) (fs : List Field) (n : ℕ) →
    new_name seen.open_ s.name ≡ Fine tt → done (numbered seen s.name) (counted seen) ≡ done name s1 → s2 ≡ opened kind.Own name s1 →
    fields s2 [] s.fields ≡ Fine fs → n ≡ length seen.open_ → s3 ≡ cut n s2 → s4 ≡ opened kind.Structure name s3 →
    struct_of seen s ≡ done (decl.Struct (record { name = name; fields = fs; at = s.at })) s4
struct_made seen s name s1 s2 s3 s4 fs n h0 h1 h2 h3 hn h4 h5 =
    let x = numbered seen s.name in
    let e2 : s2 ≡ inside x (counted seen) = h2 ∙ ap (λ y. opened kind.Own y s1) (sym (done_made x name (counted seen) s1 h1)) ∙ ap (opened kind.Own x) (sym (done_seen x name (counted seen) s1 h1)) in
    let e4 : s4 ≡ behind kind.Structure x seen (inside x (counted seen)) =
    h5 ∙ ap (λ y. opened kind.Structure y s3) (sym (done_made x name (counted seen) s1 h1)) ∙ ap (opened kind.Structure x) (h4 ∙ ap (λ k. cut k s2) hn ∙ ap (cut (length seen.open_)) e2) in
    rw (h0, ap (λ v. fields v [] s.fields) (sym e2) ∙ h3)
    (ap (λ y. done (decl.Struct (record { name = y; fields = fs; at = s.at })) (behind kind.Structure x seen (inside x (counted seen)))) (done_made x name (counted seen) s1 h1)
    ∙ ap (done (decl.Struct (record { name = name; fields = fs; at = s.at }))) (sym e4))

pub function_made : (seen : Seen) (f : Function) (name : Ident) (s1 s2 s3 s4 s5 s6 s7 : Seen) (ps : List Field) (result : Option TypeExpr) (b : Body) (n k : ℕ) →
    new_name seen.open_ f.name ≡ Fine tt → done (numbered seen f.name) (counted seen) ≡ done name s1 → params s1 [] f.params ≡ done ps s2 →
    maybe (type_of s2) f.result ≡ Fine result → s3 ≡ opened kind.Own name s2 → s4 ≡ entered ps s3 → body_of s4 f.body ≡ done b s5 →
    n ≡ length seen.open_ → s6 ≡ cut n s5 → k ≡ length f.params → s7 ≡ opened (kind.Function k) name s6 →
    function_of seen f ≡ done (decl.Function (record { name = name; params = ps; result = result; body = b; at = f.at })) s7
function_made seen f name s1 s2 s3 s4 s5 s6 s7 ps result b n k h0 h1 h2 h3 h4 h5 h6 hn h7 hk h8 =
    let x = numbered seen f.name in
    let en : x ≡ name = done_made x name (counted seen) s1 h1 in
    let es : counted seen ≡ s1 = done_seen x name (counted seen) s1 h1 in
    let ep : params (counted seen) [] f.params ≡ done ps s2 = ap (λ v. params v [] f.params) es ∙ h2 in
    let e4 : entered ps (inside x s2) ≡ s4 = ap (λ y. entered ps (inside y s2)) en ∙ ap (entered ps) (sym h4) ∙ sym h5 in
    let eb : body_of (entered ps (inside x s2)) f.body ≡ done b s5 = ap (λ v. body_of v f.body) e4 ∙ h6 in
    let e7 : behind (kind.Function (length f.params)) x seen s5 ≡ s7 =
    ap (λ y. opened (kind.Function (length f.params)) y (cut (length seen.open_) s5)) en
    ∙ ap (λ m. opened (kind.Function (length f.params)) name (cut m s5)) (sym hn)
    ∙ ap (λ m. opened (kind.Function m) name (cut n s5)) (sym hk)
    ∙ ap (opened (kind.Function k) name) (sym h7) ∙ sym h8 in
    rw (h0, ep, h3, eb)
    (ap (λ y. done (decl.Function (record { name = y; params = ps; result = result; body = b; at = f.at })) (behind (kind.Function (length f.params)) x seen s5)) en
    ∙ ap (done (decl.Function (record { name = name; params = ps; result = result; body = b; at = f.at }))) e7)

pub comp_function_made : (seen : Seen) (f : CompFunction) (name : Ident) (s1 s2 s3 s4 s5 s6 s7 : Seen) (ps : List Field) (c : Comp) (n : ℕ) →
    new_name seen.open_ f.name ≡ Fine tt → done (numbered seen f.name) (counted seen) ≡ done name s1 → params s1 [] f.params ≡ done ps s2 →
    s3 ≡ opened kind.Own name s2 → s4 ≡ entered ps s3 → comp s4 f.body ≡ done c s5 →
    n ≡ length seen.open_ → s6 ≡ cut n s5 → s7 ≡ opened kind.Component name s6 →
    comp_function_of seen f ≡ done (decl.Comp (record { name = name; params = ps; body = c; at = f.at })) s7
comp_function_made seen f name s1 s2 s3 s4 s5 s6 s7 ps c n h0 h1 h2 h4 h5 h6 hn h7 h8 =
    let x = numbered seen f.name in
    let en : x ≡ name = done_made x name (counted seen) s1 h1 in
    let es : counted seen ≡ s1 = done_seen x name (counted seen) s1 h1 in
    let ep : params (counted seen) [] f.params ≡ done ps s2 = ap (λ v. params v [] f.params) es ∙ h2 in
    let e4 : entered ps (inside x s2) ≡ s4 = ap (λ y. entered ps (inside y s2)) en ∙ ap (entered ps) (sym h4) ∙ sym h5 in
    let ec : comp (entered ps (inside x s2)) f.body ≡ done c s5 = ap (λ v. comp v f.body) e4 ∙ h6 in
    let e7 : behind kind.Component x seen s5 ≡ s7 =
    ap (λ y. opened kind.Component y (cut (length seen.open_) s5)) en
    ∙ ap (λ m. opened kind.Component name (cut m s5)) (sym hn)
    ∙ ap (opened kind.Component name) (sym h7) ∙ sym h8 in
    rw (h0, ep, ec)
    (ap (λ y. done (decl.Comp (record { name = y; params = ps; body = c; at = f.at })) (behind kind.Component x seen s5)) en
    ∙ ap (done (decl.Comp (record { name = name; params = ps; body = c; at = f.at }))) e7)

-- a refusal among the fields of a struct
pub struct_err : (seen : Seen) (s : Struct) (name : Ident) (s1 s2 now : Seen) (e : NameError) (r : Result Decl NameError) →
    new_name seen.open_ s.name ≡ Fine tt → done (numbered seen s.name) (counted seen) ≡ done name s1 → s2 ≡ opened kind.Own name s1 →
    IsErrAnd r (λ x. x ≡ e) → Refuses (fields s2 [] s.fields) e → ToldIn (struct_of seen s) r now
struct_err seen s name s1 s2 now e r h0 h1 h2 is h =
    let x = numbered seen s.name in
    let e2 : s2 ≡ inside x (counted seen) = h2 ∙ ap (λ y. opened kind.Own y s1) (sym (done_made x name (counted seen) s1 h1)) ∙ ap (opened kind.Own x) (sym (done_seen x name (counted seen) s1 h1)) in
    rw h0 (told_in_err (fields (inside x (counted seen)) [] s.fields) _ e r now is (subst (λ v. Refuses (fields v [] s.fields) e) e2 h))

-- a refusal among the parameters of a function
pub function_params_err : (seen : Seen) (f : Function) (name : Ident) (s1 now : Seen) (e : NameError) (r : Result Decl NameError) →
    new_name seen.open_ f.name ≡ Fine tt → done (numbered seen f.name) (counted seen) ≡ done name s1 →
    IsErrAnd r (λ x. x ≡ e) → Refuses (params s1 [] f.params) e → ToldIn (function_of seen f) r now
function_params_err seen f name s1 now e r h0 h1 is h =
    rw h0 (told_in_err (params (counted seen) [] f.params) _ e r now is
    (subst (λ v. Refuses (params v [] f.params) e) (sym (done_seen (numbered seen f.name) name (counted seen) s1 h1)) h))

-- a refusal in the type of its result
pub function_result_err : (seen : Seen) (f : Function) (name : Ident) (s1 s2 now : Seen) (ps : List Field) (e : NameError) (r : Result Decl NameError) →
    new_name seen.open_ f.name ≡ Fine tt → done (numbered seen f.name) (counted seen) ≡ done name s1 → params s1 [] f.params ≡ done ps s2 →
    IsErrAnd r (λ x. x ≡ e) → Refuses (maybe (type_of s2) f.result) e → ToldIn (function_of seen f) r now
function_result_err seen f name s1 s2 now ps e r h0 h1 h2 is h =
    let ep : params (counted seen) [] f.params ≡ done ps s2 = ap (λ v. params v [] f.params) (done_seen (numbered seen f.name) name (counted seen) s1 h1) ∙ h2 in
    rw (h0, ep) (told_in_err (maybe (type_of s2) f.result) _ e r now is h)

-- a refusal in its body
pub function_body_err : (seen : Seen) (f : Function) (name : Ident) (s1 s2 s3 s4 now : Seen) (ps : List Field) (result : Option TypeExpr) (e : NameError) (r : Result Decl NameError) →
    new_name seen.open_ f.name ≡ Fine tt → done (numbered seen f.name) (counted seen) ≡ done name s1 → params s1 [] f.params ≡ done ps s2 →
    maybe (type_of s2) f.result ≡ Fine result → s3 ≡ opened kind.Own name s2 → s4 ≡ entered ps s3 →
    IsErrAnd r (λ x. x ≡ e) → Refuses (body_of s4 f.body) e → ToldIn (function_of seen f) r now
function_body_err seen f name s1 s2 s3 s4 now ps result e r h0 h1 h2 h3 h4 h5 is h =
    let x = numbered seen f.name in
    let en : x ≡ name = done_made x name (counted seen) s1 h1 in
    let ep : params (counted seen) [] f.params ≡ done ps s2 = ap (λ v. params v [] f.params) (done_seen x name (counted seen) s1 h1) ∙ h2 in
    let e4 : s4 ≡ entered ps (inside x s2) = h5 ∙ ap (entered ps) h4 ∙ ap (λ y. entered ps (inside y s2)) (sym en) in
    rw (h0, ep, h3) (told_in_err (body_of (entered ps (inside x s2)) f.body) _ e r now is (subst (λ v. Refuses (body_of v f.body) e) e4 h))

-- a refusal among the parameters of a `fun comp`
pub comp_params_err : (seen : Seen) (f : CompFunction) (name : Ident) (s1 now : Seen) (e : NameError) (r : Result Decl NameError) →
    new_name seen.open_ f.name ≡ Fine tt → done (numbered seen f.name) (counted seen) ≡ done name s1 →
    IsErrAnd r (λ x. x ≡ e) → Refuses (params s1 [] f.params) e → ToldIn (comp_function_of seen f) r now
comp_params_err seen f name s1 now e r h0 h1 is h =
    rw h0 (told_in_err (params (counted seen) [] f.params) _ e r now is
    (subst (λ v. Refuses (params v [] f.params) e) (sym (done_seen (numbered seen f.name) name (counted seen) s1 h1)) h))

-- a refusal in its body
pub comp_body_err : (seen : Seen) (f : CompFunction) (name : Ident) (s1 s2 s3 s4 now : Seen) (ps : List Field) (e : NameError) (r : Result Decl NameError) →
    new_name seen.open_ f.name ≡ Fine tt → done (numbered seen f.name) (counted seen) ≡ done name s1 → params s1 [] f.params ≡ done ps s2 →
    s3 ≡ opened kind.Own name s2 → s4 ≡ entered ps s3 →
    IsErrAnd r (λ x. x ≡ e) → Refuses (comp s4 f.body) e → ToldIn (comp_function_of seen f) r now
comp_body_err seen f name s1 s2 s3 s4 now ps e r h0 h1 h2 h4 h5 is h =
    let x = numbered seen f.name in
    let en : x ≡ name = done_made x name (counted seen) s1 h1 in
    let ep : params (counted seen) [] f.params ≡ done ps s2 = ap (λ v. params v [] f.params) (done_seen x name (counted seen) s1 h1) ∙ h2 in
    let e4 : s4 ≡ entered ps (inside x s2) = h5 ∙ ap (entered ps) h4 ∙ ap (λ y. entered ps (inside y s2)) (sym en) in
    rw (h0, ep) (told_in_err (comp (entered ps (inside x s2)) f.body) _ e r now is (subst (λ v. Refuses (comp v f.body) e) e4 h))
