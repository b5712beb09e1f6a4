-- Choices and loops.
use Rattle.std.specs.Prelude.{ℕ, ◌+◌, ◌<◌, ◌^◌, max, List, [], ◌∷◌, ◌++◌, true, ◌&&◌, Result, ◌≡◌, refl}
use Rattle.std.proofs.Common.{ap, sym, ◌∙◌, subst, append_assoc, arith}
use Rattle.zir_tree.specs.declared.ident.Ident.{Ident}
use Rattle.zir_tree.specs.declared.place.Place.{Place}
use Rattle.zir_tree.specs.declared.expr.Expr.{Expr}
use Rattle.zir_tree.specs.declared.stmt.Stmt.{Stmt, If, IfElse, While, For}
use Rattle.zir_tree.specs.declared.stmt.Stmt.TheBlock.{hidden-the_row-Stmt-0}
use Rattle.zir_expr.specs.declared.frame.Spot.TheVariants.{Local}
use Rattle.zir_expr.specs.declared.steps.Step.{Step, Branch, While as WhileStep, Count}
use Rattle.zir_code.specs.Scopes.{Scope}
use Rattle.zir_code.specs.Coding.{stands, code_of, settling}
use Rattle.zir_code.specs.Peaks.{peak_of, is_coded}
use Rattle.zir_code.specs.Statements.{with_index, row_code}
use Rattle.zir_code.specs.Needs.{row_peak, row_coded}
use Rattle.zir_compile.specs.declared.numbers.Unmade.{Unmade}
use Rattle.zir_compile.specs.declared.made.Placed.{Placed}
use Rattle.zir_compile.specs.declared.made.Reach.{Reach}
use Rattle.zir_compile.specs.declared.made.Block.{Block}
use Rattle.zir_compile.specs.declared.made.Range.{Range}
use Rattle.zir_compile.specs.Coded.{Fits, Coded}
use Rattle.zir_compile.specs.Makes.{Makes}
use Rattle.zir_compile.specs.Stated.{StmtFits, Stated, RowFits, Blocked, RangeFits, Ranged}
use Rattle.zir_compile.proofs.Making.{behind_code, and_first, and_second, both_true}
use Rattle.zir_compile.proofs.Rows.{steps-list, peaks-list, codes-list}

-- a statement that leaves the scope as it was
pub stated_in : (g behind : Scope) (a : Stmt) (d : ℕ) (old new : List Step) (r : Result Reach Unmade) → behind ≡ g → Makes (StmtFits g a d) (Stated g a d old new g) r →
    Makes (StmtFits g a d) (Stated g a d old new behind) r
stated_in g behind a d old new r e h = subst (λ q. Makes (StmtFits g a d) (Stated g a d old new q) r) (sym e) h

-- the same where it was made in a scope that came back
pub back_in : (g g1 behind : Scope) (a : Stmt) (d : ℕ) (old new : List Step) (r : Result Reach Unmade) → g1 ≡ g → behind ≡ g → Makes (StmtFits g1 a d) (Stated g1 a d old new g1) r →
    Makes (StmtFits g a d) (Stated g a d old new behind) r
back_in g g1 behind a d old new r e f h = stated_in g behind a d old new r f (subst (λ q. Makes (StmtFits q a d) (Stated q a d old new q) r) e h)

-- what a choice takes
pub fits-If : (g : Scope) (e : Expr) (a : List Stmt) (p : Place) (d : ℕ) → StmtFits g (If e a p) d → Fits g e d × RowFits g a d
fits-If g e a p d f =
    let cells : max (peak_of g e d) (row_peak g d (hidden-the_row-Stmt-0 a)) < 2 ^ 32 = f.cells in
    let same = peaks-list g d a in (
      record { cells = omega arith; numbers = and_first _ _ f.numbers },
      record { cells = omega arith; numbers = sym (codes-list g d a) ∙ and_second (is_coded g e d) _ f.numbers },
    )

pub made-If : (g : Scope) (e : Expr) (a : List Stmt) (p : Place) (d most : ℕ) (old mid new : List Step) (test : Placed) (first : Block) → Fits g e d → Coded g e d old mid test → RowFits g a d →
    Blocked g a d first → new ≡ mid ++ Branch (record { test = test.at; first = first.steps; second = [] }) ∷ [] → most ≡ max test.peak first.peak →
    StmtFits g (If e a p) d × Stated g (If e a p) d old new g (record { free = d; peak = most })
made-If g e a p d most old mid new test first f c fa b n m =
    let left = f.cells in
    let right = fa.cells in
    let same = peaks-list g d a in
    let up = c.peak in
    let more = b.peak in (
      record {
        cells = let q : max (peak_of g e d) (row_peak g d (hidden-the_row-Stmt-0 a)) < 2 ^ 32 = omega arith in q;
        numbers = both_true _ _ f.numbers (codes-list g d a ∙ fa.numbers);
      },
      record {
        code =
            behind_code old mid new (code_of g e d) _ c.code n
            ∙ ap (λ x. old ++ (code_of g e d ++ Branch (record { test = x; first = first.steps; second = [] }) ∷ [])) c.at
            ∙ ap (λ (steps : List Step). old ++ (code_of g e d ++ Branch (record { test = stands g e d; first = steps; second = [] }) ∷ [])) (b.code ∙ sym (steps-list g d a));
        scope = refl;
        free = refl;
        peak = let q : most ≡ max (peak_of g e d) (row_peak g d (hidden-the_row-Stmt-0 a)) = omega arith in q;
      },
    )

pub fits-IfElse : (g : Scope) (e : Expr) (a b : List Stmt) (p : Place) (d : ℕ) → StmtFits g (IfElse e a b p) d → Fits g e d × RowFits g a d × RowFits g b d
fits-IfElse g e a b p d f =
    let cells : max (peak_of g e d) (max (row_peak g d (hidden-the_row-Stmt-0 a)) (row_peak g d (hidden-the_row-Stmt-0 b))) < 2 ^ 32 = f.cells in
    let one = peaks-list g d a in
    let two = peaks-list g d b in
    let more : row_coded g d (hidden-the_row-Stmt-0 a) && row_coded g d (hidden-the_row-Stmt-0 b) ≡ true = and_second (is_coded g e d) _ f.numbers in (
      record { cells = omega arith; numbers = and_first _ _ f.numbers },
      record { cells = omega arith; numbers = sym (codes-list g d a) ∙ and_first _ _ more },
      record { cells = omega arith; numbers = sym (codes-list g d b) ∙ and_second (row_coded g d (hidden-the_row-Stmt-0 a)) _ more },
    )

pub made-IfElse : (g : Scope) (e : Expr) (a b : List Stmt) (p : Place) (d most : ℕ) (old mid new : List Step) (test : Placed) (first second : Block) → Fits g e d → Coded g e d old mid test →
    RowFits g a d → Blocked g a d first → RowFits g b d → Blocked g b d second → new ≡ mid ++ Branch (record { test = test.at; first = first.steps; second = second.steps }) ∷ [] →
    most ≡ max test.peak (max first.peak second.peak) → StmtFits g (IfElse e a b p) d × Stated g (IfElse e a b p) d old new g (record { free = d; peak = most })
made-IfElse g e a b p d most old mid new test first second f c fa ba fb bb n m =
    let left = f.cells in
    let right = fa.cells in
    let last = fb.cells in
    let one = peaks-list g d a in
    let two = peaks-list g d b in
    let up = c.peak in
    let more = ba.peak in
    let rest = bb.peak in (
      record {
        cells = let q : max (peak_of g e d) (max (row_peak g d (hidden-the_row-Stmt-0 a)) (row_peak g d (hidden-the_row-Stmt-0 b))) < 2 ^ 32 = omega arith in q;
        numbers = both_true _ _ f.numbers (both_true _ _ (codes-list g d a ∙ fa.numbers) (codes-list g d b ∙ fb.numbers));
      },
      record {
        code =
            behind_code old mid new (code_of g e d) _ c.code n
            ∙ ap (λ x. old ++ (code_of g e d ++ Branch (record { test = x; first = first.steps; second = second.steps }) ∷ [])) c.at
            ∙ ap (λ (steps : List Step). old ++ (code_of g e d ++ Branch (record { test = stands g e d; first = steps; second = second.steps }) ∷ [])) (ba.code ∙ sym (steps-list g d a))
            ∙ ap (λ (steps : List Step). old ++ (code_of g e d ++ Branch (record { test = stands g e d; first = row_code g d (hidden-the_row-Stmt-0 a); second = steps }) ∷ []))
            (bb.code ∙ sym (steps-list g d b));
        scope = refl;
        free = refl;
        peak = let q : most ≡ max (peak_of g e d) (max (row_peak g d (hidden-the_row-Stmt-0 a)) (row_peak g d (hidden-the_row-Stmt-0 b))) = omega arith in q;
      },
    )

-- what a loop with a test takes
pub fits-While : (g : Scope) (e : Expr) (a : List Stmt) (p : Place) (d : ℕ) → StmtFits g (While e a p) d → Fits g e d × RowFits g a d
fits-While g e a p d f =
    let cells : max (peak_of g e d) (row_peak g d (hidden-the_row-Stmt-0 a)) < 2 ^ 32 = f.cells in
    let same = peaks-list g d a in (
      record { cells = omega arith; numbers = and_first _ _ f.numbers },
      record { cells = omega arith; numbers = sym (codes-list g d a) ∙ and_second (is_coded g e d) _ f.numbers },
    )

pub made-While : (g : Scope) (e : Expr) (a : List Stmt) (p : Place) (d most : ℕ) (old new test : List Step) (answer : Placed) (body : Block) → Fits g e d → Coded g e d [] test answer → RowFits g a d →
    Blocked g a d body → new ≡ old ++ WhileStep (record { test = test; cell = answer.at; body = body.steps }) ∷ [] → most ≡ max answer.peak body.peak →
    StmtFits g (While e a p) d × Stated g (While e a p) d old new g (record { free = d; peak = most })
made-While g e a p d most old new test answer body f c fa b n m =
    let left = f.cells in
    let right = fa.cells in
    let same = peaks-list g d a in
    let up = c.peak in
    let more = b.peak in (
      record {
        cells = let q : max (peak_of g e d) (row_peak g d (hidden-the_row-Stmt-0 a)) < 2 ^ 32 = omega arith in q;
        numbers = both_true _ _ f.numbers (codes-list g d a ∙ fa.numbers);
      },
      record {
        code =
            n ∙ ap (λ (steps : List Step). old ++ WhileStep (record { test = steps; cell = answer.at; body = body.steps }) ∷ []) c.code
            ∙ ap (λ x. old ++ WhileStep (record { test = code_of g e d; cell = x; body = body.steps }) ∷ []) c.at
            ∙ ap (λ (steps : List Step). old ++ WhileStep (record { test = code_of g e d; cell = stands g e d; body = steps }) ∷ []) (b.code ∙ sym (steps-list g d a));
        scope = refl;
        free = refl;
        peak = let q : most ≡ max (peak_of g e d) (row_peak g d (hidden-the_row-Stmt-0 a)) = omega arith in q;
      },
    )

-- what a loop that counts takes
pub fits-For : (g : Scope) (x : Ident) (a n : Expr) (b : List Stmt) (p : Place) (d : ℕ) → StmtFits g (For x a n b p) d → RangeFits g a n d × RowFits (with_index g d x.id) b (d + 1)
fits-For g x a n b p d f =
    let g' : Scope = with_index g d x.id in
    let cells : max (peak_of g a d) (max (peak_of g n (d + 1)) (max (d + 2) (row_peak g' (d + 1) (hidden-the_row-Stmt-0 b)))) < 2 ^ 32 = f.cells in
    let same = peaks-list g' (d + 1) b in
    let more : is_coded g n (d + 1) && row_coded g' (d + 1) (hidden-the_row-Stmt-0 b) ≡ true = and_second (is_coded g a d) _ f.numbers in (
      record {
        first = record { cells = omega arith; numbers = and_first _ _ f.numbers };
        turns = record { cells = omega arith; numbers = and_first _ _ more };
        cells = omega arith;
      },
      record { cells = omega arith; numbers = sym (codes-list g' (d + 1) b) ∙ and_second (is_coded g n (d + 1)) _ more },
    )

pub made-For : (g : Scope) (x : Ident) (a n : Expr) (b : List Stmt) (p : Place) (d most : ℕ) (old mid new : List Step) (range : Range) (body : Block) → RangeFits g a n d → Ranged g a n d old mid range →
    RowFits (with_index g d x.id) b (d + 1) → Blocked (with_index g d x.id) b (d + 1) body →
    new ≡ mid ++ Count (record { turns = Local range.next; index = Local d; body = body.steps }) ∷ [] → most ≡ max range.peak body.peak →
    StmtFits g (For x a n b p) d × Stated g (For x a n b p) d old new g (record { free = d; peak = most })
made-For g x a n b p d most old mid new range body fr r fb bb e m =
    let g' : Scope = with_index g d x.id in
    let one = fr.first.cells in
    let two = fr.turns.cells in
    let three = fr.cells in
    let four = fb.cells in
    let same = peaks-list g' (d + 1) b in
    let up = r.peak in
    let more = bb.peak in
    let last : List Step = Count (record { turns = Local (d + 1); index = Local d; body = row_code g' (d + 1) (hidden-the_row-Stmt-0 b) }) ∷ [] in
    let count : new ≡ mid ++ last =
    e ∙ ap (λ k. mid ++ Count (record { turns = Local k; index = Local d; body = body.steps }) ∷ []) r.next
    ∙ ap (λ (steps : List Step). mid ++ Count (record { turns = Local (d + 1); index = Local d; body = steps }) ∷ []) (bb.code ∙ sym (steps-list g' (d + 1) b)) in (
      record {
        cells = let q : max (peak_of g a d) (max (peak_of g n (d + 1)) (max (d + 2) (row_peak g' (d + 1) (hidden-the_row-Stmt-0 b)))) < 2 ^ 32 = omega arith in q;
        numbers = both_true _ _ fr.first.numbers (both_true _ _ fr.turns.numbers (codes-list g' (d + 1) b ∙ fb.numbers));
      },
      record {
        code =
            behind_code old mid new _ last r.code count
            ∙ ap (λ (steps : List Step). old ++ steps) (append_assoc (code_of g a d) _ last)
            ∙ ap (λ (steps : List Step). old ++ (code_of g a d ++ steps)) (append_assoc (settling (stands g a d) d 1) _ last)
            ∙ ap (λ (steps : List Step). old ++ (code_of g a d ++ (settling (stands g a d) d 1 ++ steps))) (append_assoc (code_of g n (d + 1)) _ last);
        scope = refl;
        free = refl;
        peak = let q : most ≡ max (peak_of g a d) (max (peak_of g n (d + 1)) (max (d + 2) (row_peak g' (d + 1) (hidden-the_row-Stmt-0 b)))) = omega arith in q;
      },
    )
