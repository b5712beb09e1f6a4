-- Scopes that grow, and are left again.
use Rattle.std.specs.Prelude.{◌≡◌, ℕ, zero, suc, ◌≤◌, List, [], ◌∷◌, length, take, drop, refl}
use Rattle.std.proofs.Common.{ap, ◌∙◌, sym, subst, arith}
use Rattle.std.proofs.lemmas.List.{take-append-le, take-append-drop, length-take, length-take-le}
use Rattle.std.proofs.Math.Seq.{take-append_seam, take-length}
use Rattle.zir_types.specs.declared.scope.Seen.{Seen}
use Rattle.zir_types.specs.Scope.{Visible, declare}
use Rattle.zir_type_components.specs.Answers.{up_to}

-- A scope with these variables.
abbrev pub seeing : Visible → List Seen → Visible
seeing g vs = record g { variables = vs }

pub up_to-declare : (n : ℕ) (vs : List Seen) (g : Visible) → n ≤ length g.variables → up_to n (declare vs g) ≡ up_to n g
up_to-declare n vs g h = ap (seeing g) (take-append-le n g.variables vs h)

-- What was declared behind a scope is left again.
pub up_to-seam : (vs : List Seen) (g : Visible) → up_to (length g.variables) (declare vs g) ≡ g
up_to-seam vs g = ap (seeing g) (take-append_seam g.variables vs)

pub up_to-all : (g : Visible) → up_to (length g.variables) g ≡ g
up_to-all g = ap (seeing g) (take-length g.variables)

-- What left the scope comes back.
pub up_to-back : (n : ℕ) (g : Visible) → declare (drop n g.variables) (up_to n g) ≡ g
up_to-back n g = ap (seeing g) (take-append-drop n g.variables)

-- The scope of a body is left again.
pub up_to-body : (n : ℕ) (vs : List Seen) (g : Visible) → n ≤ length g.variables → up_to n (declare vs (up_to n g)) ≡ up_to n g
up_to-body n vs g h =
    let e : length (take n g.variables) ≡ n = length-take-le n g.variables h in
    ap (λ m. up_to m (declare vs (up_to n g))) (sym e) ∙ up_to-seam vs (up_to n g)

-- The first of the first are the first.
take-first : (n m : ℕ) (xs : List Seen) → n ≤ m → take n (take m xs) ≡ take n xs
take-first zero m xs h = refl
take-first (suc n) zero xs h = absurd (omega arith)
take-first (suc n) (suc m) [] h = refl
take-first (suc n) (suc m) (x ∷ xs) h = ap (λ ys. x ∷ ys) (take-first n m xs (omega arith))

-- A scope that others stand behind has their top.
pub same_top : (n : ℕ) (g h : Visible) → up_to (length g.variables) h ≡ g → n ≤ length g.variables → up_to n h ≡ up_to n g
same_top n g h e le =
    let s : up_to n (up_to (length g.variables) h) ≡ up_to n h = ap (seeing h) (take-first n (length g.variables) h.variables le) in sym s ∙ ap (up_to n) e

-- It is at least as long.
pub long_enough : (n : ℕ) (g h : Visible) → up_to (length g.variables) h ≡ g → n ≤ length g.variables → n ≤ length h.variables
long_enough n g h e le =
    let l : length (take (length g.variables) h.variables) ≡ length g.variables = ap (λ v. length v.variables) e in
    omega (arith, l, length-take (length g.variables) h.variables)

-- What is left of a longer scope is left of one behind it.
pub still_left : (g h k : Visible) → up_to (length g.variables) h ≡ g → up_to (length h.variables) k ≡ h → up_to (length g.variables) k ≡ g
still_left g h k e f =
    same_top (length g.variables) h k f (long_enough (length g.variables) g h e (omega arith)) ∙ e

-- The same scope has the same room.
pub room_kept : (n : ℕ) (g1 g : Visible) → g1 ≡ g → n ≤ length g.variables → n ≤ length g1.variables
room_kept n g1 g e h = subst (λ v. n ≤ length v.variables) (sym e) h
