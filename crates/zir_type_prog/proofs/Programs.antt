-- What the code has shown of declarations and of a program, put together.
use Rattle.std.specs.Prelude.{◌≡◌, ℕ, ◌+◌, ◌<◌, List, [], ◌∷◌, ◌++◌, length, drop, get_or, reverse, Bool, true, Result, MatchResult}
use Rattle.std.proofs.Common.{ap, ◌∙◌, sym, subst, IsErrAnd}
use Rattle.std.proofs.lemmas.List.{append_assoc, append-nil, reverse-append}
use Rattle.zir_tree.specs.declared.types.Ty.{Ty}
use Rattle.zir_tree.specs.declared.types.Field.{Field}
use Rattle.zir_tree.specs.declared.types.TypeExpr.{TypeExpr}
use Rattle.zir_tree.specs.declared.types.FieldDef.{FieldDef}
use Rattle.zir_tree.specs.declared.types.StructDef.{StructDef}
use Rattle.zir_tree.specs.declared.comp.Comp.{Comp}
use Rattle.zir_tree.specs.declared.program.Decl.{Decl}
use Rattle.zir_tree.specs.declared.program.Instance.{Instance}
use Rattle.zir_tree.specs.declared.program.Prog.{Prog}
use Rattle.zir_tree.specs.declared.program.Core.{Core}
use Rattle.zir_types.specs.declared.scope.Shape.{Shape}
use Rattle.zir_types.specs.declared.error.TypeError.{TypeError}
use Rattle.zir_types.specs.declared.error.TypeError.TheVariants.{Mismatch}
use Rattle.zir_types.specs.declared.typed.TypedComp.{TypedComp}
use Rattle.zir_types.specs.Walk.{Walk, Fine, and_then, check, Refuses}
use Rattle.zir_types.specs.Scope.{Visible}
use Rattle.zir_types.specs.Components.{Reached, comp, emitted}
use Rattle.zir_types.specs.Expressions.{all_same}
use Rattle.zir_types.specs.Programs.{Declared, Prepared, makers, field_defs, declaration, declarations, defs_of, stream, whole, main_of}
use Rattle.zir_types.proofs.Places.{at_place}
use Rattle.zir_type_prog.specs.declared.program.SoFar.{SoFar}
use Rattle.zir_type_components.specs.Answers.{ToldIn, up_to}
use Rattle.zir_type_prog.specs.Declarations.{declared_in, ToldDeclared}
use Rattle.std.proofs.lemmas.Result.{err_from_is_err_and}
use Rattle.zir_types.proofs.Told.{refuses_first}
use Rattle.zir_type_components.proofs.Scopes.{up_to-all}

-- A refusal of a part is that of the declaration.
pub declared_err : {A B : Type 0} (walk : Walk A) (next : A → Walk Declared) (error : TypeError) (r : Result B TypeError) (after : Declared) →
    IsErrAnd r (λ e. e ≡ error) → Refuses walk error → ToldDeclared (and_then walk next) r after
declared_err walk next error r after err h =
    let p = err_from_is_err_and r err in
    subst (λ v. ToldDeclared (and_then walk next) v after) (sym p.1) (subst (λ e. Refuses (and_then walk next) e) (sym p.2) (refuses_first walk next error h))

-- A part that was typed, and what is declared behind it.
pub declared_ok : {A B : Type 0} (walk : Walk A) (next : A → Walk Declared) (x : A) (r : Result B TypeError) (after : Declared) → walk ≡ Fine x →
    ToldDeclared (next x) r after → ToldDeclared (and_then walk next) r after
declared_ok walk next x r after h t = subst (λ w. ToldDeclared (and_then w next) r after) (sym h) t

-- One declaration more.
pub declared_more : (d e : Declared) (xs : List Decl) (i : ℕ) (x : Decl) → i < length xs → x ≡ get_or xs i x → declaration d x ≡ Fine e →
    declarations d (drop i xs) ≡ declarations e (drop (i + 1) xs)
declared_more d e xs i x h hx q = ap (declarations d) (at_place xs i x h hx) ∙ ap (λ w. and_then w (λ e. declarations e (drop (i + 1) xs))) q

-- A declaration is refused.
pub declared_refused : (all : Walk Declared) (d : Declared) (xs : List Decl) (i : ℕ) (x : Decl) (e : TypeError) (r : Result SoFar TypeError) →
    all ≡ declarations d (drop i xs) → i < length xs → x ≡ get_or xs i x → IsErrAnd r (λ y. y ≡ e) → Refuses (declaration d x) e →
    MatchResult r (λ d. all ≡ Fine (declared_in d)) (Refuses all)
declared_refused all d xs i x e r ha h hx err t =
    let p = err_from_is_err_and r err in
    let w = ha ∙ ap (declarations d) (at_place xs i x h hx) in
    let q = refuses_first (declaration d x) (λ m. declarations m (drop (i + 1) xs)) e t in
    subst (λ v. MatchResult v (λ d. all ≡ Fine (declared_in d)) (Refuses all)) (sym p.1)
    (subst (λ y. Refuses all y) (sym p.2) (subst (λ u. Refuses u e) (sym w) q))

-- One field more.
pub field_more : (fs : List Field) (ts left more : List Ty) (defs : List FieldDef) (i : ℕ) (f : Field) (t : Ty) (def : FieldDef) →
    i < length fs → f ≡ get_or fs i f →
    left ≡ t ∷ more → def ≡ record { name = f.name.name; ty = t } →
    field_defs fs ts ≡ defs ++ field_defs (drop i fs) left → field_defs fs ts ≡ (defs ++ def ∷ []) ++ field_defs (drop (i + 1) fs) more
field_more fs ts left more defs i f t def h hf hl hd q =
    q ∙ ap (λ l. defs ++ field_defs l left) (at_place fs i f h hf) ∙ ap (λ l. defs ++ field_defs (f ∷ drop (i + 1) fs) l) hl
    ∙ ap (λ x. defs ++ x ∷ field_defs (drop (i + 1) fs) more) (sym hd) ∙ sym (append_assoc defs (def ∷ []) (field_defs (drop (i + 1) fs) more))

-- Types are all used.
pub field_end : (fs : List Field) (ts left : List Ty) (defs : List FieldDef) (i : ℕ) (f : Field) → i < length fs → f ≡ get_or fs i f → left ≡ [] →
    field_defs fs ts ≡ defs ++ field_defs (drop i fs) left → defs ≡ field_defs fs ts
field_end fs ts left defs i f h hf hl q =
    sym (q ∙ ap (λ l. defs ++ field_defs l left) (at_place fs i f h hf) ∙ ap (λ l. defs ++ field_defs (f ∷ drop (i + 1) fs) l) hl ∙ append-nil defs)

-- One struct more.
pub def_more : (ss : List Shape) (defs : List StructDef) (i : ℕ) (s : Shape) (def : StructDef) → i < length ss → s ≡ get_or ss i s → def ≡ s.def →
    defs_of ss ≡ defs ++ defs_of (drop i ss) → defs_of ss ≡ (defs ++ def ∷ []) ++ defs_of (drop (i + 1) ss)
def_more ss defs i s def h hs hd q =
    q ∙ ap (λ l. defs ++ defs_of l) (at_place ss i s h hs) ∙ ap (λ x. defs ++ x ∷ defs_of (drop (i + 1) ss)) (sym hd)
    ∙ sym (append_assoc defs (def ∷ []) (defs_of (drop (i + 1) ss)))

-- One `fun comp` more is the first of the list that begins with the last.
pub reverse-push : (ds : List Prepared) (d : Prepared) → reverse (ds ++ d ∷ []) ≡ d ∷ reverse ds
reverse-push ds d = reverse-append ds (d ∷ [])

-- The walk of the main component, which may call every `fun comp`.
pub main_walk : (depth : ℕ) (g h : Visible) (a : Ty) (c : Comp) (is js : List Instance) (r : Result TypedComp TypeError) (ds es : List Prepared) →
    depth ≡ length g.variables → es ≡ ds → ToldIn (comp (makers (up_to depth g) (drop 0 es)) g 0 a c is) r js g h →
    ToldIn (comp (makers g ds) g 0 a c is) r js g h
main_walk depth g h a c is js r ds es hd hc t =
    let et : up_to depth g ≡ g = ap (λ n. up_to n g) hd ∙ up_to-all g in
    let l = subst (λ l. ToldIn (comp (makers (up_to depth g) (drop 0 l)) g 0 a c is) r js g h) hc t in
    subst (λ v. ToldIn (comp (makers v ds) g 0 a c is) r js g h) et l

-- The core of a program whose main component emits what it writes.
whole_made : (p : Prog) (d : Declared) (a b : Ty) (m : TypedComp) (is : List Instance) (g : Visible) (ss : List StructDef) (t : Bool) → t ≡ true →
    t ≡ all_same b (emitted m.emits) → g ≡ d.scope → ss ≡ defs_of g.shapes → whole p d a (record { what = m; instances = is }) b ≡ Fine (record {
      structs = ss;
      variables = d.variables;
      functions = d.functions;
      instances = is;
      main = m.what;
      input = a;
      output = b;
      value = m.value;
      at = p.at;
    })
whole_made p d a b m is g ss t ht hb hg hs =
    let made : List StructDef → Core = λ l. record {
      structs = l;
      variables = d.variables;
      functions = d.functions;
      instances = is;
      main = m.what;
      input = a;
      output = b;
      value = m.value;
      at = p.at;
    } in
    ap (λ u. check u (Mismatch p.output.at) (made (defs_of d.scope.shapes))) (sym hb ∙ ht)
    ∙ ap (λ l. Fine (made l)) (sym (hs ∙ ap (λ v. defs_of v.shapes) hg))

-- A part of another scope that is the same one.
pub stream_same : (g1 g : Visible) (t : TypeExpr) (x : Ty) → g1 ≡ g → stream g1.shapes t ≡ Fine x → stream g.shapes t ≡ Fine x
stream_same g1 g t x h q = ap (λ v. stream v.shapes t) (sym h) ∙ q

pub stream_refused : (g1 g : Visible) (t : TypeExpr) (e : TypeError) → g1 ≡ g → Refuses (stream g1.shapes t) e → Refuses (stream g.shapes t) e
stream_refused g1 g t e h q = subst (λ v. Refuses (stream v.shapes t) e) h q

-- The core of a program, behind its main component and its streams.
pub core_made : (p : Prog) (d : Declared) (a b : Ty) (m : TypedComp) (is : List Instance) (g : Visible) (ss : List StructDef) (t : Bool) → t ≡ true →
    t ≡ all_same b (emitted m.emits) → g ≡ d.scope → ss ≡ defs_of g.shapes → stream d.scope.shapes p.input ≡ Fine a →
    comp (makers d.scope d.comps) d.scope 0 a p.main [] ≡ Fine (record { what = m; instances = is }) → stream g.shapes p.output ≡ Fine b →
    main_of p d ≡ Fine (record {
      structs = ss;
      variables = d.variables;
      functions = d.functions;
      instances = is;
      main = m.what;
      input = a;
      output = b;
      value = m.value;
      at = p.at;
    })
core_made p d a b m is g ss t ht hb hg hs hi hm ho =
    let reached : Reached = record { what = m; instances = is } in
    let behind_main : Ty → Reached → Walk Core = λ a r. and_then (stream d.scope.shapes p.output) (whole p d a r) in
    let behind_input : Ty → Walk Core = λ a. and_then (comp (makers d.scope d.comps) d.scope 0 a p.main []) (behind_main a) in
    ap (λ w. and_then w behind_input) hi
    ∙ ap (λ w. and_then w (behind_main a)) hm
    ∙ ap (λ w. and_then w (whole p d a reached)) (stream_same g d.scope p.output b hg ho)
    ∙ whole_made p d a b m is g ss t ht hb hg hs
