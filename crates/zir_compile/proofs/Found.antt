-- Values that stand without code.
use Rattle.std.specs.Prelude.{ℕ, ◌+◌, ◌<◌, ◌^◌, List, Bool, true, false, ◌&&◌, Option, Some, None, Result, ◌≡◌, refl}
use Rattle.std.proofs.Common.{ap, sym, ◌∙◌, subst, IsErrAnd}
use Rattle.std.proofs.lemmas.Result.{err_from_is_err_and}
use denote.Hole.Carrier.{hidden}
use Rattle.zir_tree.specs.declared.place.Place.{Place}
use Rattle.zir_tree.specs.declared.expr.Expr.{Expr, Part}
use Rattle.zir_tree.specs.declared.expr.Expr.TheBlock.{shape-the_row-Expr-0, hidden-the_row-Expr-0}
use Rattle.zir_expr.specs.declared.frame.Spot.{Spot}
use Rattle.zir_code.specs.Scopes.{Scope, shifted, number_of}
use Rattle.zir_code.specs.Types.{type_in, part_type, part_offset}
use Rattle.zir_code.specs.Coding.{fixed, shift_if, path_root}
use Rattle.zir_code.specs.Peaks.{is_path_coded, small}
use Rattle.zir_compile.specs.declared.numbers.Unmade.{Unmade}
use Rattle.zir_compile.specs.declared.numbers.Unmade.TheVariants.{Memory, Large}
use Rattle.zir_compile.specs.declared.made.Standing.{Standing}
use Rattle.zir_compile.specs.Coded.{IsFixed, IsBeyond, Finds, IsPartOf}
use Rattle.zir_compile.specs.Extents.{type_at}
use Rattle.zir_compile.specs.Makes.{Refuses}
use Rattle.zir_compile.proofs.Forms.{rooted-Part}
use Rattle.zir_compile.proofs.Making.{small_below, below_small, both_true, first_false, second_false}

-- what the definitions say of a part
pub fixed-Part : (g : Scope) (a : Expr) (name : List ℕ) (k : ℕ) (p : Place) → fixed g (Part a name k p) ≡ shift_if (fixed g a) (part_offset g.structs (type_in g a) k)
unfolding shape-the_row-Expr-0 hidden-the_row-Expr-0 hidden
fixed-Part g a name k p = refl

pub type-Part : (g : Scope) (a : Expr) (name : List ℕ) (k : ℕ) (p : Place) → type_in g (Part a name k p) ≡ part_type g.structs (type_in g a) k
unfolding shape-the_row-Expr-0 hidden-the_row-Expr-0 hidden
type-Part g a name k p = refl

pub path_root-Part : (still : Bool) (g : Scope) (a : Expr) (name : List ℕ) (k : ℕ) (p : Place) (d : ℕ) →
    path_root still g (Part a name k p) d ≡ shifted (path_root still g a d) (part_offset g.structs (type_in g a) k)
unfolding shape-the_row-Expr-0 hidden-the_row-Expr-0 hidden
path_root-Part still g a name k p d = refl

pub path_coded-Part : (still : Bool) (g : Scope) (a : Expr) (name : List ℕ) (k : ℕ) (p : Place) (d : ℕ) →
    is_path_coded still g (Part a name k p) d ≡ (is_path_coded still g a d && small (number_of (path_root still g a d) + part_offset g.structs (type_in g a) k))
unfolding shape-the_row-Expr-0 hidden-the_row-Expr-0 hidden
path_coded-Part still g a name k p d = refl

small_false : (n : ℕ) → (n < 2 ^ 32 → ⊥) → small n ≡ false
small_false n h = by_cases (small n) refl where
  by_cases : (b : Bool) → small n ≡ b → b ≡ false
  by_cases true e = absurd (h (small_below n e))
  by_cases false e = refl

-- a part of what is not found
beyond : (g : Scope) (a : Expr) (name : List ℕ) (k : ℕ) (p : Place) (why : Unmade) → IsBeyond g a why → IsBeyond g (Part a name k p) why
beyond g a name k p (Memory error) h = tt
beyond g a name k p Large h = λ d. (
  rooted-Part a name k p ∙ (h d).0,
  path_coded-Part true g a name k p d ∙ first_false _ _ (h d).1,
)

pub finds_beyond : (g : Scope) (a : Expr) (why : Unmade) (r : Result (Option Standing) Unmade) → IsErrAnd r (λ y. y ≡ why) → IsBeyond g a why →
    (name : List ℕ) (k : ℕ) (p : Place) → Finds g (Part a name k p) r
finds_beyond g a why r is h name k p =
    let q = err_from_is_err_and r is in
    subst (λ v. Finds g (Part a name k p) v) (sym q.1) (subst (λ y. IsBeyond g (Part a name k p) y) (sym q.2) (beyond g a name k p why h))

-- a part whose spot is too large
far : (g : Scope) (a : Expr) (whole : Standing) (k : ℕ) (why : Unmade) → IsFixed g a (Some whole) → Refuses (number_of whole.at + part_offset g.structs (type_at whole.ty) k < 2 ^ 32) why →
    (name : List ℕ) (p : Place) → IsBeyond g (Part a name k p) why
far g a whole k (Memory error) fx h name p = tt
far g a whole k Large fx h name p = λ d. (
  rooted-Part a name k p ∙ fx.2,
  path_coded-Part true g a name k p d ∙ second_false _ _
      (ap (λ x. small (number_of x + part_offset g.structs (type_in g a) k)) (fx.3 d).1 ∙ ap (λ t. small (number_of whole.at + part_offset g.structs t k)) (sym fx.1) ∙ small_false _ h),
)

pub finds_far : (g : Scope) (a : Expr) (whole : Standing) (k : ℕ) (why : Unmade) (r : Result (Option Standing) Unmade) → IsErrAnd r (λ y. y ≡ why) → IsFixed g a (Some whole) →
    Refuses (number_of whole.at + part_offset g.structs (type_at whole.ty) k < 2 ^ 32) why → (name : List ℕ) (p : Place) → Finds g (Part a name k p) r
finds_far g a whole k why r is fx h name p =
    let q = err_from_is_err_and r is in
    subst (λ v. Finds g (Part a name k p) v) (sym q.1) (subst (λ y. IsBeyond g (Part a name k p) y) (sym q.2) (far g a whole k why fx h name p))

-- a part of what has code
pub finds_none : (g : Scope) (a : Expr) → fixed g a ≡ None → (name : List ℕ) (k : ℕ) (p : Place) → fixed g (Part a name k p) ≡ None
finds_none g a h name k p = fixed-Part g a name k p ∙ ap (λ x. shift_if x (part_offset g.structs (type_in g a) k)) h

-- a part of what stands without code
pub finds_part : (g : Scope) (a : Expr) (whole part : Standing) (k : ℕ) → IsFixed g a (Some whole) → number_of whole.at + part_offset g.structs (type_at whole.ty) k < 2 ^ 32 →
    IsPartOf g whole.at (type_at whole.ty) k part → (name : List ℕ) (p : Place) → IsFixed g (Part a name k p) (Some part)
finds_part g a whole part k fx h q name p =
    let at : part.at ≡ shifted whole.at (part_offset g.structs (type_in g a) k) = q.at ∙ ap (λ t. shifted whole.at (part_offset g.structs t k)) fx.1 in (
      fixed-Part g a name k p ∙ ap (λ x. shift_if x (part_offset g.structs (type_in g a) k)) fx.0 ∙ ap (λ (x : Spot). Some x) (sym at),
      q.ty ∙ ap (λ t. part_type g.structs t k) fx.1 ∙ sym (type-Part g a name k p),
      rooted-Part a name k p ∙ fx.2,
      λ d. (
        path_coded-Part true g a name k p d ∙ both_true _ _ (fx.3 d).0
            (ap (λ x. small (number_of x + part_offset g.structs (type_in g a) k)) (fx.3 d).1 ∙ ap (λ t. small (number_of whole.at + part_offset g.structs t k)) (sym fx.1) ∙ below_small _ h),
        path_root-Part true g a name k p d ∙ ap (λ x. shifted x (part_offset g.structs (type_in g a) k)) (fx.3 d).1 ∙ sym at,
      ),
    )
