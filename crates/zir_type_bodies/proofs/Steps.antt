-- What the code has shown of a walk, at the walk of the whole.
use Rattle.std.specs.Prelude.{◌≡◌, refl, ℕ, option_map, Option, Some, None, Result, Ok, Err, OnOk, List}
use Rattle.std.proofs.Common.{ap, ◌∙◌, sym, subst, IsErrAnd}
use Rattle.std.proofs.lemmas.Result.{err_from_is_err_and}
use Rattle.zir_tree.specs.declared.types.Ty.{Ty}
use Rattle.zir_tree.specs.declared.expr.Expr.{Expr}
use Rattle.zir_tree.specs.declared.ident.Ident.{Ident}
use Rattle.zir_tree.specs.declared.stmt.Stmt.{Call as CallStmt}
use Rattle.zir_types.specs.declared.typed.Typed.{Typed}
use Rattle.zir_types.specs.declared.error.TypeError.{TypeError}
use Rattle.zir_types.specs.declared.error.TypeError.TheVariants.{Mismatch, Memory}
use Rattle.zir_types.specs.declared.scope.FoundFunction.{FoundFunction}
use Rattle.zir_types.specs.Walk.{Walk, Fine, Broken, and_then, Refuses, Told}
use Rattle.zir_types.specs.Found.{placed_function}
use Rattle.zir_types.specs.Scope.{Visible, function_from}
use Rattle.zir_types.specs.Expressions.{expr, args_of, InTurn, no_args}
use Rattle.zir_types.specs.Statements.{stmt, call_of, call_step}
use Rattle.zir_type_expressions.proofs.Steps.{part_fine}

-- What holds whatever an answer is.
pub on_ok : {A E P : Type 0} (r : Result A E) → P → OnOk r P
on_ok (Ok x) p = p
on_ok (Err e) p = tt

-- The refusal of a walk.
pub told_refused : {A : Type 0} (walk : Walk A) (error : TypeError) (r : Result A TypeError) → IsErrAnd r (λ e. e ≡ error) → Refuses walk error → Told walk r
told_refused walk error r is h =
    let p = err_from_is_err_and r is in
    subst (λ v. Told walk v) (sym p.1) (subst (λ e. Refuses walk e) (sym p.2) h)

-- What a part that was typed makes of the whole.
pub expr_fine : {B : Type 0} (g : Visible) (v1 v : Ty) (e : Expr) (rule : Typed → Walk B) (t : Typed) (made : Walk B) →
    v1 ≡ v → expr g v1 e ≡ Fine t → rule t ≡ made → and_then (expr g v e) rule ≡ made
expr_fine g v1 v e rule t made hv q is = ap (λ u. and_then u rule) (part_fine g v1 v e e t hv refl q) ∙ is

-- What a walk that went on makes of the whole.
pub then_fine : {A B : Type 0} (walk : Walk A) (next : A → Walk B) (x : A) (made : Walk B) → walk ≡ Fine x → next x ≡ made → and_then walk next ≡ made
then_fine walk next x made q is = ap (λ u. and_then u next) q ∙ is

-- Want of memory tells nothing.
pub told_memory : {A : Type 0} (walk : Walk A) (error : TypeError) (r : Result A TypeError) → IsErrAnd r (λ e. e ≡ error) → error ≡ Memory → Told walk r
told_memory walk error r is m = told_refused walk error r is (subst (λ e. Refuses walk e) (sym m) tt)

-- A call statement of the function that was found.
pub stmt-Call : (g : Visible) (f : Ident) (n : ℕ) (es : List Expr) (found : Option FoundFunction) (callee : FoundFunction) →
    option_map placed_function found ≡ function_from 0 g.functions f.id → found ≡ Some callee →
    stmt g (CallStmt f n es) ≡ and_then (args_of g (InTurn callee.signature.now.params) no_args es) (call_step f (placed_function callee))
stmt-Call g f n es found callee h e =
    ap (λ o. call_of o f (λ asks. args_of g asks no_args es)) (sym h ∙ ap (λ q. option_map placed_function q) e)

-- A call statement of no function.
pub stmt-Call-none : (g : Visible) (f : Ident) (n : ℕ) (es : List Expr) (found : Option FoundFunction) →
    option_map placed_function found ≡ function_from 0 g.functions f.id → found ≡ None → stmt g (CallStmt f n es) ≡ Broken (Mismatch f.at)
stmt-Call-none g f n es found h e =
    ap (λ o. call_of o f (λ asks. args_of g asks no_args es)) (sym h ∙ ap (λ q. option_map placed_function q) e)
