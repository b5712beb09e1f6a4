-- What is made of the parts of an expression.
use Rattle.std.specs.Prelude.{ℕ, ℤ, ◌+◌, ◌<◌, ◌^◌, max, List, [], ◌∷◌, ◌++◌, true, ◌&&◌, Result, ◌≡◌, refl}
use Rattle.std.proofs.Common.{ap, sym, ◌∙◌, subst, arith, IsErrAnd}
use denote.Hole.Carrier.{hidden}
use Rattle.zir_tree.specs.declared.place.Place.{Place}
use Rattle.zir_tree.specs.declared.types.Base.{Base}
use Rattle.zir_tree.specs.declared.types.Base.TheVariants.{Unit as UnitTy, Bit as BitTy, Bool as BoolTy, Int8, Int16, Int32, Int64, Complex16, Complex32, Struct as StructTy}
use Rattle.zir_tree.specs.declared.expr.Prefix.{Prefix}
use Rattle.zir_tree.specs.declared.expr.Operator.{Operator}
use Rattle.zir_tree.specs.declared.expr.Expr.{Expr, Int, Unary, Binary, Convert, Complex}
use Rattle.zir_tree.specs.declared.expr.Expr.TheBlock.{shape-the_row-Expr-0, hidden-the_row-Expr-0}
use Rattle.zir_cells.specs.Layout.{capped}
use Rattle.zir_shapes.specs.Offsets.{plain_type as plain, is_whole}
use Rattle.zir_meaning.specs.Values.{wrap}
use Rattle.zir_expr.specs.declared.frame.Spot.{Spot}
use Rattle.zir_expr.specs.declared.frame.Spot.TheVariants.{Local}
use Rattle.zir_expr.specs.declared.steps.Step.{Step, Number}
use Rattle.zir_code.specs.Scopes.{Scope}
use Rattle.zir_code.specs.Types.{operator_type, cells_for, size_in}
use Rattle.zir_code.specs.Coding.{stands, code_of, settling, operator_code, prefix_code, conversion_code}
use Rattle.zir_code.specs.Peaks.{peak_of, behind, is_coded, counts_pairs}
use Rattle.zir_compile.specs.declared.numbers.Unmade.{Unmade}
use Rattle.zir_compile.specs.declared.made.Placed.{Placed}
use Rattle.zir_compile.specs.Coded.{Fits, Stands, Coded, SidesFit}
use Rattle.zir_compile.specs.Extents.{type_at}
use Rattle.zir_compile.specs.Makes.{Refuses, Makes}
use Rattle.zir_compile.proofs.Making.{makes_err, makes_as, behind_code, and_first, and_second, both_true}

-- a whole number
pub ok-Int : (g : Scope) (n : ℤ) (t : Base) (p : Place) (d : ℕ) (m : ℤ) (old new : List Step) (r : Result Placed Unmade) → (is_whole t ≡ true → m ≡ wrap t n) →
    Makes ((d + 1 < 2 ^ 32) × (is_whole t ≡ true)) (Stands (Number (Local d) m ∷ []) (Local d) (plain t) 1 (d + 1) old new) r →
    Makes (Fits g (Int n t p) d) (Coded g (Int n t p) d old new) r
ok-Int g n t p d m old new r e h =
    makes_as _ (Fits g (Int n t p) d) _ (Coded g (Int n t p) d old new) r h (λ whole. (whole.cells, whole.numbers))
    (λ placed f s. (
      record { cells = f.0; numbers = f.1 },
      record {
        code = s.code ∙ ap (λ k. old ++ Number (Local d) k ∷ []) (e f.1);
        at = s.at;
        ty = s.ty;
        cells = s.cells ∙ ap capped (sym (one_cell g t f.1));
        peak = s.peak;
      },
    )) where
      one_cell : (g : Scope) (t : Base) → is_whole t ≡ true → cells_for g (plain t) ≡ 1
      one_cell g UnitTy h = cc
      one_cell g BitTy h = cc
      one_cell g BoolTy h = cc
      one_cell g Int8 h = refl
      one_cell g Int16 h = refl
      one_cell g Int32 h = refl
      one_cell g Int64 h = refl
      one_cell g Complex16 h = cc
      one_cell g Complex32 h = cc
      one_cell g (StructTy k) h = cc

-- a step behind the code of an expression
one_more : (g : Scope) (a : Expr) (d : ℕ) (old mid new : List Step) (x : Placed) (step : Spot → Step) → Coded g a d old mid x → new ≡ mid ++ step x.at ∷ [] →
    new ≡ old ++ (code_of g a d ++ step (stands g a d) ∷ [])
one_more g a d old mid new x step c e =
    behind_code old mid new _ _ c.code e ∙ ap (λ y. old ++ (code_of g a d ++ step y ∷ [])) c.at

fits-Unary : (g : Scope) (o : Prefix) (t : Base) (a : Expr) (p : Place) (d : ℕ) → Fits g (Unary o t a p) d → Fits g a d × (behind d (cells_for g (plain t)) < 2 ^ 32)
unfolding shape-the_row-Expr-0 hidden-the_row-Expr-0 hidden
fits-Unary g o t a p d h =
    let cells : max (peak_of g a d) (behind d (cells_for g (plain t))) < 2 ^ 32 = h.cells in
    (record { cells = omega arith; numbers = h.numbers }, omega arith)

made-Unary : (g : Scope) (o : Prefix) (t : Base) (a : Expr) (p : Place) (d : ℕ) (old mid new : List Step) (x placed : Placed) → Fits g a d → Coded g a d old mid x → new ≡ mid ++ prefix_code o t x.at d ∷ [] →
    behind d (cells_for g (plain t)) < 2 ^ 32 → Stands [] (Local d) (plain t) (cells_for g (plain t)) (max x.peak (behind d (cells_for g (plain t)))) [] [] placed →
    Fits g (Unary o t a p) d × Coded g (Unary o t a p) d old new placed
unfolding shape-the_row-Expr-0 hidden-the_row-Expr-0 hidden
made-Unary g o t a p d old mid new x placed f c e lt s =
    let cells = f.cells in (
      record { cells = let q : max (peak_of g a d) (behind d (cells_for g (plain t))) < 2 ^ 32 = omega arith in q; numbers = f.numbers },
      record {
        code = one_more g a d old mid new x (λ y. prefix_code o t y d) c e;
        at = s.at;
        ty = s.ty;
        cells = s.cells;
        peak = s.peak ∙ ap (λ n. max n (behind d (cells_for g (plain t)))) c.peak;
      },
    )

pub err-Unary : (g : Scope) (o : Prefix) (t : Base) (a : Expr) (p : Place) (d : ℕ) (Q : Placed → Type 0) (why : Unmade) (r : Result Placed Unmade) → IsErrAnd r (λ y. y ≡ why) → Refuses (Fits g a d) why →
    Makes (Fits g (Unary o t a p) d) Q r
err-Unary g o t a p d Q why r is h = makes_err (Fits g a d) (Fits g (Unary o t a p) d) Q why r is h (λ whole. (fits-Unary g o t a p d whole).0)

pub ok-Unary : (g : Scope) (o : Prefix) (t : Base) (a : Expr) (p : Place) (d : ℕ) (old mid new : List Step) (x : Placed) (r : Result Placed Unmade) → Fits g a d → Coded g a d old mid x →
    new ≡ mid ++ prefix_code o t x.at d ∷ [] →
    Makes (behind d (cells_for g (plain t)) < 2 ^ 32) (Stands [] (Local d) (plain t) (cells_for g (plain t)) (max x.peak (behind d (cells_for g (plain t)))) [] []) r →
    Makes (Fits g (Unary o t a p) d) (Coded g (Unary o t a p) d old new) r
ok-Unary g o t a p d old mid new x r f c e h =
    makes_as _ (Fits g (Unary o t a p) d) _ (Coded g (Unary o t a p) d old new) r h (λ whole. (fits-Unary g o t a p d whole).1) (λ placed. made-Unary g o t a p d old mid new x placed f c e)

fits-Convert : (g : Scope) (t : Base) (a : Expr) (p : Place) (d : ℕ) → Fits g (Convert t a p) d → Fits g a d × (behind d (cells_for g (plain t)) < 2 ^ 32)
unfolding shape-the_row-Expr-0 hidden-the_row-Expr-0 hidden
fits-Convert g t a p d h =
    let cells : max (peak_of g a d) (behind d (cells_for g (plain t))) < 2 ^ 32 = h.cells in
    (record { cells = omega arith; numbers = h.numbers }, omega arith)

made-Convert : (g : Scope) (t : Base) (a : Expr) (p : Place) (d : ℕ) (old mid new : List Step) (x placed : Placed) → Fits g a d → Coded g a d old mid x → new ≡ mid ++ conversion_code t x.at d ∷ [] →
    behind d (cells_for g (plain t)) < 2 ^ 32 → Stands [] (Local d) (plain t) (cells_for g (plain t)) (max x.peak (behind d (cells_for g (plain t)))) [] [] placed →
    Fits g (Convert t a p) d × Coded g (Convert t a p) d old new placed
unfolding shape-the_row-Expr-0 hidden-the_row-Expr-0 hidden
made-Convert g t a p d old mid new x placed f c e lt s =
    let cells = f.cells in (
      record { cells = let q : max (peak_of g a d) (behind d (cells_for g (plain t))) < 2 ^ 32 = omega arith in q; numbers = f.numbers },
      record {
        code = one_more g a d old mid new x (λ y. conversion_code t y d) c e;
        at = s.at;
        ty = s.ty;
        cells = s.cells;
        peak = s.peak ∙ ap (λ n. max n (behind d (cells_for g (plain t)))) c.peak;
      },
    )

pub err-Convert : (g : Scope) (t : Base) (a : Expr) (p : Place) (d : ℕ) (Q : Placed → Type 0) (why : Unmade) (r : Result Placed Unmade) → IsErrAnd r (λ y. y ≡ why) → Refuses (Fits g a d) why →
    Makes (Fits g (Convert t a p) d) Q r
err-Convert g t a p d Q why r is h = makes_err (Fits g a d) (Fits g (Convert t a p) d) Q why r is h (λ whole. (fits-Convert g t a p d whole).0)

pub ok-Convert : (g : Scope) (t : Base) (a : Expr) (p : Place) (d : ℕ) (old mid new : List Step) (x : Placed) (r : Result Placed Unmade) → Fits g a d → Coded g a d old mid x →
    new ≡ mid ++ conversion_code t x.at d ∷ [] →
    Makes (behind d (cells_for g (plain t)) < 2 ^ 32) (Stands [] (Local d) (plain t) (cells_for g (plain t)) (max x.peak (behind d (cells_for g (plain t)))) [] []) r →
    Makes (Fits g (Convert t a p) d) (Coded g (Convert t a p) d old new) r
ok-Convert g t a p d old mid new x r f c e h =
    makes_as _ (Fits g (Convert t a p) d) _ (Coded g (Convert t a p) d old new) r h (λ whole. (fits-Convert g t a p d whole).1) (λ placed. made-Convert g t a p d old mid new x placed f c e)

-- what an operator takes
pub fits-Binary : (g : Scope) (o : Operator) (t : Base) (a b : Expr) (p : Place) (d : ℕ) → Fits g (Binary o t a b p) d →
    Fits g a d × (behind d (size_in g a) < 2 ^ 32) × SidesFit g b (d + size_in g a) (stands g a d) d × (behind d (cells_for g (plain t)) < 2 ^ 32)
unfolding shape-the_row-Expr-0 hidden-the_row-Expr-0 hidden
fits-Binary g o t a b p d h =
    let free : ℕ = d + size_in g a in
    let cells : max (max (peak_of g a d) (behind d (size_in g a))) (max (peak_of g b free) (behind d (cells_for g (plain t)))) < 2 ^ 32 = h.cells in
    let numbers : is_coded g a d && (is_coded g b free && counts_pairs (stands g a d) (stands g b free)) ≡ true = h.numbers in
    let more = and_second (is_coded g a d) _ numbers in (
      record { cells = omega arith; numbers = and_first _ _ numbers },
      omega arith,
      record { right = record { cells = omega arith; numbers = and_first _ _ more }; seconds = (and_second (is_coded g b free) _ more, omega arith) },
      omega arith,
    )

made-Binary : (g : Scope) (o : Operator) (t : Base) (a b : Expr) (p : Place) (d : ℕ) (old new : List Step) (most : ℕ) (placed : Placed) → Fits g a d → behind d (size_in g a) < 2 ^ 32 →
    SidesFit g b (d + size_in g a) (stands g a d) d → new ≡ old ++ operator_code o t p (stands g a d) (stands g b (d + size_in g a)) d (code_of g a d) (code_of g b (d + size_in g a)) →
    most ≡ max (max (peak_of g a d) (behind d (size_in g a))) (peak_of g b (d + size_in g a)) → behind d (cells_for g (plain t)) < 2 ^ 32 →
    Stands [] (Local d) (plain (operator_type o t)) (cells_for g (plain (operator_type o t))) (max most (behind d (cells_for g (plain t)))) [] [] placed →
    Fits g (Binary o t a b p) d × Coded g (Binary o t a b p) d old new placed
unfolding shape-the_row-Expr-0 hidden-the_row-Expr-0 hidden
made-Binary g o t a b p d old new most placed f fl fr e m lt s =
    let free : ℕ = d + size_in g a in
    let left = f.cells in
    let right = fr.right.cells in
    let peak = s.peak in (
      record {
        cells = let q : max (max (peak_of g a d) (behind d (size_in g a))) (max (peak_of g b free) (behind d (cells_for g (plain t)))) < 2 ^ 32 = omega arith in q;
        numbers = both_true _ _ f.numbers (both_true _ _ fr.right.numbers fr.seconds.0);
      },
      record {
        code = e;
        at = s.at;
        ty = s.ty;
        cells = s.cells;
        peak = let q : placed.peak ≡ max (max (peak_of g a d) (behind d (size_in g a))) (max (peak_of g b free) (behind d (cells_for g (plain t)))) = omega arith in q;
      },
    )

-- the right side that the code makes is that of the definition
pub sides_as : (g : Scope) (a b : Expr) (d free size : ℕ) (x : Spot) → size ≡ capped (size_in g a) → d + size < 2 ^ 32 → free ≡ d + size → x ≡ stands g a d →
    SidesFit g b free x d → SidesFit g b (d + size_in g a) (stands g a d) d
sides_as g a b d free size x k lt e s h =
    let q : free ≡ d + size_in g a = omega arith in subst (λ y. SidesFit g b (d + size_in g a) y d) s (subst (λ n. SidesFit g b n x d) q h)

pub sides_back : (g : Scope) (a b : Expr) (d free size : ℕ) (x : Spot) → size ≡ capped (size_in g a) → d + size < 2 ^ 32 → free ≡ d + size → x ≡ stands g a d →
    SidesFit g b (d + size_in g a) (stands g a d) d → SidesFit g b free x d
sides_back g a b d free size x k lt e s h =
    let q : d + size_in g a ≡ free = omega arith in subst (λ y. SidesFit g b free y d) (sym s) (subst (λ n. SidesFit g b n (stands g a d) d) q h)

pub ok-Binary : (g : Scope) (o : Operator) (t : Base) (a b : Expr) (p : Place) (d free end right most : ℕ) (old mid new : List Step) (left : Placed) (r : Result Placed Unmade) →
    Fits g a d → Coded g a d old mid left → d + left.cells < 2 ^ 32 → free ≡ d + left.cells → behind d left.cells < 2 ^ 32 → end ≡ behind d left.cells → SidesFit g b free left.at d →
    right ≡ peak_of g b free → ((before first : List Step) → mid ≡ before ++ first → new ≡ before ++ operator_code o t p left.at (stands g b free) d first (code_of g b free)) →
    most ≡ max (max left.peak end) right →
    Makes (behind d (cells_for g (plain t)) < 2 ^ 32)
    (Stands [] (Local d) (plain (operator_type o t)) (cells_for g (plain (operator_type o t))) (max most (behind d (cells_for g (plain t)))) [] []) r →
    Makes (Fits g (Binary o t a b p) d) (Coded g (Binary o t a b p) d old new) r
ok-Binary g o t a b p d free end right most old mid new left r f c lt e bl eb fs er code m h =
    let size = c.cells in
    let q : free ≡ d + size_in g a = omega arith in
    let peak = c.peak in
    let whole : new ≡ old ++ operator_code o t p (stands g a d) (stands g b (d + size_in g a)) d (code_of g a d) (code_of g b (d + size_in g a)) =
    code old (code_of g a d) c.code
    ∙ ap (λ y. old ++ operator_code o t p y (stands g b free) d (code_of g a d) (code_of g b free)) c.at
    ∙ ap (λ n. old ++ operator_code o t p (stands g a d) (stands g b n) d (code_of g a d) (code_of g b n)) q in
    let right_peak : right ≡ peak_of g b (d + size_in g a) = er ∙ ap (peak_of g b) q in
    let most_is : most ≡ max (max (peak_of g a d) (behind d (size_in g a))) (peak_of g b (d + size_in g a)) = omega arith in
    makes_as _ (Fits g (Binary o t a b p) d) _ (Coded g (Binary o t a b p) d old new) r h (λ all. (fits-Binary g o t a b p d all).3)
    (λ placed. made-Binary g o t a b p d old new most placed f (omega arith) (sides_as g a b d free left.cells left.at size lt e c.at fs) whole most_is)

-- what a complex number takes
fits-Complex : (g : Scope) (t : Base) (a b : Expr) (p : Place) (d : ℕ) → Fits g (Complex t a b p) d → Fits g a d × Fits g b (d + 1) × (d + 2 < 2 ^ 32)
unfolding shape-the_row-Expr-0 hidden-the_row-Expr-0 hidden
fits-Complex g t a b p d h =
    let cells : max (max (peak_of g a d) (peak_of g b (d + 1))) (d + 2) < 2 ^ 32 = h.cells in
    let numbers : is_coded g a d && is_coded g b (d + 1) ≡ true = h.numbers in (
      record { cells = omega arith; numbers = and_first _ _ numbers },
      record { cells = omega arith; numbers = and_second (is_coded g a d) _ numbers },
      omega arith,
    )

pub err-Complex : (g : Scope) (t : Base) (a b : Expr) (p : Place) (d : ℕ) (Q : Placed → Type 0) (why : Unmade) (r : Result Placed Unmade) → IsErrAnd r (λ y. y ≡ why) → Refuses (Fits g a d) why →
    Makes (Fits g (Complex t a b p) d) Q r
err-Complex g t a b p d Q why r is h = makes_err (Fits g a d) (Fits g (Complex t a b p) d) Q why r is h (λ whole. (fits-Complex g t a b p d whole).0)

pub next-Complex : (g : Scope) (t : Base) (a b : Expr) (p : Place) (d : ℕ) (Q : Placed → Type 0) (why : Unmade) (r : Result Placed Unmade) → IsErrAnd r (λ y. y ≡ why) → Refuses (d + 1 < 2 ^ 32) why →
    Makes (Fits g (Complex t a b p) d) Q r
next-Complex g t a b p d Q why r is h = makes_err (d + 1 < 2 ^ 32) (Fits g (Complex t a b p) d) Q why r is h (λ whole. let k = (fits-Complex g t a b p d whole).2 in omega arith)

pub end-Complex : (g : Scope) (t : Base) (a b : Expr) (p : Place) (d : ℕ) (Q : Placed → Type 0) (why : Unmade) (r : Result Placed Unmade) → IsErrAnd r (λ y. y ≡ why) → Refuses (d + 2 < 2 ^ 32) why →
    Makes (Fits g (Complex t a b p) d) Q r
end-Complex g t a b p d Q why r is h = makes_err (d + 2 < 2 ^ 32) (Fits g (Complex t a b p) d) Q why r is h (λ whole. (fits-Complex g t a b p d whole).2)

pub right-Complex : (g : Scope) (t : Base) (a b : Expr) (p : Place) (d next : ℕ) (Q : Placed → Type 0) (why : Unmade) (r : Result Placed Unmade) → IsErrAnd r (λ y. y ≡ why) → next ≡ d + 1 →
    Refuses (Fits g b next) why → Makes (Fits g (Complex t a b p) d) Q r
right-Complex g t a b p d next Q why r is e h =
    makes_err (Fits g b next) (Fits g (Complex t a b p) d) Q why r is h (λ whole. subst (λ n. Fits g b n) (sym e) (fits-Complex g t a b p d whole).1)

pub ok-Complex : (g : Scope) (t : Base) (a b : Expr) (p : Place) (d next end : ℕ) (old mid late more new : List Step) (x y placed : Placed) → next ≡ d + 1 → d + 2 < 2 ^ 32 → end ≡ d + 2 →
    Fits g a d → Coded g a d old mid x → late ≡ mid ++ settling x.at d 1 → Fits g b next → Coded g b next late more y → new ≡ more ++ settling y.at next 1 →
    placed.at ≡ Local d → type_at placed.ty ≡ plain t → placed.cells ≡ capped (cells_for g (plain t)) → placed.peak ≡ max (max x.peak y.peak) end →
    Fits g (Complex t a b p) d × Coded g (Complex t a b p) d old new placed
unfolding shape-the_row-Expr-0 hidden-the_row-Expr-0 hidden
ok-Complex g t a b p d next end old mid late more new x y placed en lt ee fa ca el fb cb ew at ty cells peak =
    let fb' : Fits g b (d + 1) = subst (λ n. Fits g b n) en fb in
    let cb' : Coded g b (d + 1) late more y = subst (λ n. Coded g b n late more y) en cb in
    let left = fa.cells in
    let right = fb'.cells in
    let px = ca.peak in
    let py = cb'.peak in (
      record {
        cells = let q : max (max (peak_of g a d) (peak_of g b (d + 1))) (d + 2) < 2 ^ 32 = omega arith in q;
        numbers = both_true _ _ fa.numbers fb'.numbers;
      },
      record {
        code =
            behind_code old mid new (code_of g a d) _ ca.code
            (behind_code mid late new (settling x.at d 1) _ el
            (behind_code late more new (code_of g b (d + 1)) _ cb'.code (ew ∙ ap (λ n. more ++ settling y.at n 1) en)))
            ∙ ap (λ z. old ++ (code_of g a d ++ (settling z d 1 ++ (code_of g b (d + 1) ++ settling y.at (d + 1) 1)))) ca.at
            ∙ ap (λ z. old ++ (code_of g a d ++ (settling (stands g a d) d 1 ++ (code_of g b (d + 1) ++ settling z (d + 1) 1)))) cb'.at;
        at = at;
        ty = ty;
        cells = cells;
        peak = let q : placed.peak ≡ max (max (peak_of g a d) (peak_of g b (d + 1))) (d + 2) = omega arith in q;
      },
    )
