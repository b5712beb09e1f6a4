-- Loops along lists, one step at a time.
use Rattle.std.specs.Prelude.{◌≡◌, ℕ, suc, ◌+◌, ◌-◌, ◌<◌, ◌≤◌, max, List, [], ◌∷◌, ◌++◌, length, drop, take, get_or, Result, Ok, Err, IfOk, refl}
use Rattle.std.proofs.Common.{ap, ◌∙◌, sym, add-one, drop-cons, append-nil, append_assoc, arith}
use Rattle.std.proofs.lemmas.List.{take_all}
use Rattle.zir_tree.specs.declared.expr.Expr.{Expr}
use Rattle.zir_tree.specs.declared.stmt.Access.{Access}
use Rattle.zir_tree.specs.declared.stmt.Access.TheVariants.{Index, Slice, Part}
use Rattle.zir_tree.specs.declared.types.Base.{Base}
use Rattle.zir_tree.specs.declared.types.Ty.{Ty}
use Rattle.zir_types.specs.declared.scope.Shape.{Shape}
use Rattle.zir_types.specs.Kinds.{arr}
use Rattle.zir_types.specs.Known.{type_of}
use Rattle.zir_types.specs.Scope.{Visible, cells_in}
use Rattle.zir_types.specs.Needs.{Needs, path_need}
use Rattle.zir_types.specs.Measures.{in_path, in_expr, Spans}
use Rattle.zir_limits.specs.Lists.{first_ty, nested}

-- what stands behind a place begins with what stands there
pub at_place : {A : Type 0} (xs : List A) (n : ℕ) (x : A) → n < length xs → x ≡ get_or xs n x → drop n xs ≡ x ∷ drop (n + 1) xs
at_place xs n x h e = drop-cons xs n x h ∙ rw (add-one) (ap (λ y. y ∷ drop (suc n) xs) (sym e))

-- the greatest of one more
pub max_step : (whole now part rest behind after : ℕ) → whole ≡ max now rest → rest ≡ max part behind → after ≡ max part now → whole ≡ max after behind
max_step whole now part rest behind after h k l = omega arith

-- the needs of a path, one step and those behind it
pub path-more : (n : Needs) (s : Access) (ss : List Access) → path_need n (s ∷ ss) ≡ max (path_need n (s ∷ [])) (path_need n ss)
path-more n (Index e p) ss = omega arith
path-more n (Slice e k p) ss = omega arith
path-more n (Part x k p) ss = omega arith

-- the measures of a path, one step and those behind it
pub in_path-more : (g : Visible) (s : Access) (ss : List Access) → in_path g (s ∷ ss) ≡ in_path g (s ∷ []) ++ in_path g ss
in_path-more g (Index e p) ss = ap (λ r. r ++ in_path g ss) (sym (append-nil (in_expr g e)))
in_path-more g (Slice e k p) ss = ap (λ r. r ++ in_path g ss) (sym (append-nil (Spans k p ∷ in_expr g e)))
in_path-more g (Part x k p) ss = refl

-- the greater of two that are known
pub of_greater : {m l r a b : ℕ} → m ≡ max l r → l ≡ a → r ≡ b → m ≡ max a b
of_greater {r = r} {a = a} h k l = h ∙ ap (λ x. max x r) k ∙ ap (λ x. max a x) l

-- what an answer tells of one value, it tells of the same
pub same_answer : {T E : Type 0} (r : Result T E) (x y : T) → x ≡ y → IfOk r (λ t. t ≡ x) → IfOk r (λ t. t ≡ y)
same_answer (Ok t) x y e h = h ∙ e
same_answer (Err e) x y f h = h

-- cells of the same structs and type
pub cells_same : (r : ℕ) (s u : List Shape) (t v : Ty) → r ≡ cells_in s t → s ≡ u → t ≡ v → r ≡ cells_in u v
cells_same r s u t v h k l = h ∙ ap (λ x. cells_in x t) k ∙ ap (cells_in u) l

-- a list with nothing at its front
pub no_more : {A : Type 0} (xs : List A) → length xs < 1 → xs ≡ []
no_more [] h = refl
no_more (x ∷ xs) h = absurd (omega arith)

-- the type of the first of some expressions
pub first_type : (g : Visible) (es : List Expr) (e : Expr) → 1 ≤ length es → e ≡ get_or es 0 e → type_of g e ≡ first_ty g es
first_type g [] e h is = absurd (omega arith)
first_type g (x ∷ es) e h is = ap (type_of g) is

-- a type of these lengths
abbrev in_lengths : Base → List ℕ → Ty
in_lengths b ns = record { lengths = ns; base = b }

-- a type in an array, in arrays of the outer lengths
pub nested-more : (ns : List ℕ) (n : ℕ) (t : Ty) → nested (ns ++ n ∷ []) t ≡ nested ns (arr n t)
nested-more ns n t = ap (in_lengths t.base) (append_assoc ns (n ∷ []) t.lengths)

-- the first of a list and what stands behind it
pub first-behind : {A : Type 0} (xs : List A) (x : A) → 1 ≤ length xs → x ≡ get_or xs 0 x → x ∷ take (length xs - 1) (drop 1 xs) ≡ xs
first-behind [] x h is = absurd (omega arith)
first-behind (y ∷ ys) x h is = ap (λ z. z ∷ take (suc (length ys) - 1) ys) is ∙ ap (λ l. y ∷ l) (take_all (suc (length ys) - 1) ys (omega arith))
