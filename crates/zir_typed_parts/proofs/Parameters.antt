-- What is in scope in the body of an instance.
use Rattle.std.specs.Prelude.{ℕ, ◌+◌, List, [], ◌∷◌, ◌++◌, ◌≡◌, length, map}
use Rattle.std.proofs.Common.{ap, ◌∙◌, sym, subst, refl, arith}
use Rattle.std.proofs.lemmas.List.{append-nil, append_assoc}
use Rattle.zir_tree.specs.declared.types.Ty.{Ty}
use Rattle.zir_tree.specs.declared.types.Field.{Field}
use Rattle.zir_meaning.specs.Values.{type_of}
use Rattle.zir_shapes.specs.Shapes.{StructsBefore}
use Rattle.zir_types.specs.Scope.{Visible, declare}
use Rattle.zir_expr.specs.declared.frame.Spot.TheVariants.{Local}
use Rattle.zir_code.specs.declared.scope.Holder.{Holder}
use Rattle.zir_code.specs.Scopes.{Scope}
use Rattle.zir_code.specs.Types.{cells_for}
use Rattle.zir_code.specs.Statements.{with_local}
use Rattle.zir_code.specs.Bodies.{ParametersKnown, parameters, cells_of_all}
use Rattle.zir_sound.specs.Statements.{param_of}
use Rattle.zir_typed_code.specs.Forming.{with_params, FormedParams}
use Rattle.zir_typed_parts.proofs.Grounds.{Relates}

-- a scope with more names inside
abbrev pub with_names : Scope → List Holder → Scope
with_names sc ds = record sc { locals = sc.locals ++ ds }

-- parameters stand where they do, whatever names are in scope
same_parameters : (sc : Scope) (ds : List Holder) (i : ℕ) (ps : List Field) → parameters (record sc { locals = ds }) i ps ≡ parameters sc i ps
same_parameters sc ds i [] = refl
same_parameters sc ds i (p ∷ ps) =
    let h : Holder = record { id = p.name.id; spot = Local i; cells = cells_for sc (type_of p.ty); ty = type_of p.ty } in
    ap (λ rest. h ∷ rest) (same_parameters sc ds (i + cells_for sc (type_of p.ty)) ps)

same_cells : (sc : Scope) (ds : List Holder) (ps : List Field) → cells_of_all (record sc { locals = ds }) ps ≡ cells_of_all sc ps
same_cells sc ds [] = refl
same_cells sc ds (p ∷ ps) = ap (λ n. cells_for sc (type_of p.ty) + n) (same_cells sc ds ps)

-- the parameters of an instance come into scope
pub params_relate : {n : ℕ} {R : List ℕ → Visible → Scope → ℕ → Type 0} (relates : Relates n R) (ids : List ℕ)
    (g : Visible) (sc : Scope) (d : ℕ) (ps : List Field) → R ids g sc d → FormedParams n ids ps →
    R (with_params ids ps) (declare (map param_of ps) g) (with_names sc (parameters sc d ps)) (d + cells_of_all sc ps)
params_relate {n} {R} relates ids g sc d [] r own =
    subst (λ vs. R ids (record g { variables = vs }) (with_names sc []) (d + 0)) (sym (append-nil g.variables))
    (subst (λ ds. R ids g (record sc { locals = ds }) (d + 0)) (sym (append-nil sc.locals)) (relates.later ids g sc d (d + 0) (omega arith) r))
params_relate {n} {R} relates ids g sc d (p ∷ ps) r own =
    let t : Ty = type_of p.ty in
    let sc' : Scope = with_local sc d p.name.id t in
    let g' : Visible = declare (param_of p ∷ []) g in
    let r' = params_relate relates (p.name.id ∷ ids) g' sc' (d + cells_for sc t) ps (relates.local ids g sc d p.name.id t r own.1 own.0) own.2 in
    let names : sc'.locals ++ parameters sc' (d + cells_for sc t) ps ≡ sc.locals ++ parameters sc d (p ∷ ps) =
    ap (λ ds. sc'.locals ++ ds) (same_parameters sc sc'.locals (d + cells_for sc t) ps) ∙ append_assoc sc.locals _ _ in
    let free : d + cells_for sc t + cells_of_all sc' ps ≡ d + cells_of_all sc (p ∷ ps) =
    ap (λ k. d + cells_for sc t + k) (same_cells sc sc'.locals ps) ∙ (omega arith) in
    subst (λ vs. R (with_params ids (p ∷ ps)) (record g { variables = vs }) (with_names sc (parameters sc d (p ∷ ps))) (d + cells_of_all sc (p ∷ ps)))
    (append_assoc g.variables (param_of p ∷ []) (map param_of ps))
    (subst (λ k. R (with_params ids (p ∷ ps)) (declare (map param_of ps) g') (with_names sc (parameters sc d (p ∷ ps))) k) free
    (subst (λ ds. R (with_params ids (p ∷ ps)) (declare (map param_of ps) g') (record sc { locals = ds }) (d + cells_for sc t + cells_of_all sc' ps)) names r'))

-- their types are known
pub params_known : (n : ℕ) (ids : List ℕ) (sc : Scope) (ps : List Field) → n ≡ length sc.structs → FormedParams n ids ps → ParametersKnown sc ps
params_known n ids sc [] e own = tt
params_known n ids sc (p ∷ ps) e own =
    (subst (λ n. StructsBefore n (type_of p.ty).base) e own.1, params_known n (p.name.id ∷ ids) sc ps e own.2)
