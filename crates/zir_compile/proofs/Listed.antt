-- Arguments one behind the other.
use Rattle.std.specs.Prelude.{ℕ, suc, ◌+◌, ◌<◌, ◌≤◌, ◌^◌, max, List, [], ◌∷◌, ◌++◌, length, drop, true, ◌&&◌, Option, None, ◌≡◌, refl}
use Rattle.std.proofs.Common.{ap, sym, ◌∙◌, append_assoc, append-nil, arith, get_or}
use Rattle.std.proofs.lemmas.List.{drop_all}
use denote.Hole.Carrier.{hidden}
use Rattle.zir_tree.specs.declared.expr.Expr.{Expr}
use Rattle.zir_tree.specs.declared.expr.Expr.TheBlock.{shape-the_row-Expr-1, hidden-the_row-Expr-1}
use Rattle.zir_cells.specs.Layout.{capped}
use Rattle.zir_expr.specs.declared.steps.Step.{Step}
use Rattle.zir_code.specs.Scopes.{Scope}
use Rattle.zir_code.specs.Types.{first_type, count_of, size_in}
use Rattle.zir_code.specs.Coding.{stands, code_of, settling, arguments_code, code_of_all}
use Rattle.zir_code.specs.Peaks.{peak_of, arguments_peak, peak_of_all, is_coded, are_coded, all_coded}
use Rattle.zir_compile.specs.declared.extent.Extent.{Extent}
use Rattle.zir_compile.specs.declared.made.Placed.{Placed}
use Rattle.zir_compile.specs.Coded.{Fits, Coded, AllFit, Arranged, first_from}
use Rattle.zir_compile.specs.Extents.{type_at}
use Rattle.zir_compile.proofs.Finding.{at_place}
use Rattle.zir_compile.proofs.Making.{and_first, and_second}

-- rows of arguments as lists
pub code-list : (g : Scope) (d : ℕ) (es : List Expr) → arguments_code g (hidden-the_row-Expr-1 es) d ≡ code_of_all g es d
unfolding shape-the_row-Expr-1 hidden-the_row-Expr-1 hidden
code-list g d [] = refl
code-list g d (e ∷ es) = ap (λ (steps : List Step). code_of g e d ++ (settling (stands g e d) d (size_in g e) ++ steps)) (code-list g (d + size_in g e) es)

pub peak-list : (g : Scope) (d : ℕ) (es : List Expr) → arguments_peak g (hidden-the_row-Expr-1 es) d ≡ peak_of_all g es d
unfolding shape-the_row-Expr-1 hidden-the_row-Expr-1 hidden
peak-list g d [] = refl
peak-list g d (e ∷ es) = ap (λ n. max (peak_of g e d) n) (peak-list g (d + size_in g e) es)

pub coded-list : (g : Scope) (d : ℕ) (es : List Expr) → are_coded g (hidden-the_row-Expr-1 es) d ≡ all_coded g es d
unfolding shape-the_row-Expr-1 hidden-the_row-Expr-1 hidden
coded-list g d [] = refl
coded-list g d (e ∷ es) = ap (λ b. is_coded g e d && b) (coded-list g (d + size_in g e) es)

pub first-list : (g : Scope) (es : List Expr) → first_type g (hidden-the_row-Expr-1 es) ≡ first_from g None es
unfolding shape-the_row-Expr-1 hidden-the_row-Expr-1 hidden
first-list g [] = refl
first-list g (e ∷ es) = refl

pub count-list : (es : List Expr) → count_of (hidden-the_row-Expr-1 es) ≡ length es
unfolding shape-the_row-Expr-1 hidden-the_row-Expr-1 hidden
count-list [] = refl
count-list (e ∷ es) = ap (λ n. suc n) (count-list es)

-- arguments end where they begin, or behind it
pub least_of_all : (g : Scope) (es : List Expr) (d : ℕ) → d ≤ peak_of_all g es d
least_of_all g [] d = omega arith
least_of_all g (e ∷ es) d = let more = least_of_all g es (d + size_in g e) in omega arith

-- so far and from here on
pub record Onward (g : Scope) (es : List Expr) (d : ℕ) (old : List Step) (rest : List Expr) (at peak : ℕ) (known : Option Extent) (steps : List Step) : Type 0 where
  pub most : peak_of_all g es d ≡ max peak (peak_of_all g rest at)
  pub numbers : all_coded g es d ≡ all_coded g rest at
  pub code : old ++ code_of_all g es d ≡ steps ++ code_of_all g rest at
  pub first : first_from g None es ≡ first_from g known rest
  pub peak_small : peak < 2 ^ 32

pub onward_init : (g : Scope) (es : List Expr) (d : ℕ) (steps : List Step) → d < 2 ^ 32 → Onward g es d steps es d d None steps
onward_init g es d steps lt = let least = least_of_all g es d in record { most = omega arith; numbers = refl; code = refl; first = refl; peak_small = lt }

-- an argument from here on
pub here_fits : (g : Scope) (es : List Expr) (d : ℕ) (old : List Step) (n : ℕ) (e : Expr) (at peak : ℕ) (known : Option Extent) (steps : List Step) → n < length es → e ≡ get_or es n e →
    Onward g es d old (drop n es) at peak known steps → AllFit g es d → Fits g e at × AllFit g (drop (n + 1) es) (at + size_in g e)
here_fits g es d old n e at peak known steps lt is o whole =
    let place = at_place es n e lt is in
    let most : peak_of_all g es d ≡ max peak (peak_of_all g (e ∷ drop (n + 1) es) at) = o.most ∙ ap (λ xs. max peak (peak_of_all g xs at)) place in
    let cells = whole.cells in
    let numbers : is_coded g e at && all_coded g (drop (n + 1) es) (at + size_in g e) ≡ true = sym (o.numbers ∙ ap (λ xs. all_coded g xs at) place) ∙ whole.numbers in (
      record { cells = omega arith; numbers = and_first _ _ numbers },
      record { cells = omega arith; numbers = and_second (is_coded g e at) _ numbers },
    )

-- what the cells behind an argument take
pub here_free : (g : Scope) (es : List Expr) (d : ℕ) (old : List Step) (n : ℕ) (e : Expr) (at peak : ℕ) (known : Option Extent) (steps : List Step) (size : ℕ) → n < length es → e ≡ get_or es n e →
    Onward g es d old (drop n es) at peak known steps → size ≡ capped (size_in g e) → AllFit g es d → at + size < 2 ^ 32
here_free g es d old n e at peak known steps size lt is o k whole =
    let more = (here_fits g es d old n e at peak known steps lt is o whole).1.cells in
    let least = least_of_all g (drop (n + 1) es) (at + size_in g e) in
    omega arith

-- one argument more
pub onward_on : (g : Scope) (es : List Expr) (d : ℕ) (old : List Step) (n : ℕ) (e : Expr) (at peak : ℕ) (known next_known : Option Extent) (steps mid next : List Step) (x : Placed) (free most size : ℕ) →
    n < length es → e ≡ get_or es n e → Onward g es d old (drop n es) at peak known steps → Fits g e at → Coded g e at steps mid x → at + x.cells < 2 ^ 32 → free ≡ at + x.cells →
    size ≡ x.cells → next ≡ mid ++ settling x.at at size → first_from g known (e ∷ drop (n + 1) es) ≡ first_from g next_known (drop (n + 1) es) → most ≡ max peak x.peak →
    Onward g es d old (drop (n + 1) es) free most next_known next
onward_on g es d old n e at peak known next_known steps mid next x free most size lt is o fe ce small f s c k m =
    let rest = drop (n + 1) es in
    let place = at_place es n e lt is in
    let cells = ce.cells in
    let whole : x.cells ≡ size_in g e = omega arith in
    let q : free ≡ at + size_in g e = omega arith in
    let peaks : peak_of_all g es d ≡ max peak (max (peak_of g e at) (peak_of_all g rest (at + size_in g e))) = o.most ∙ ap (λ xs. max peak (peak_of_all g xs at)) place in
    let low = fe.cells in
    let up = ce.peak in
    let before = o.peak_small in
    let same : max most (peak_of_all g rest free) ≡ max most (peak_of_all g rest (at + size_in g e)) = ap (λ i. max most (peak_of_all g rest i)) q in
    record {
      most = omega arith;
      numbers = o.numbers ∙ ap (λ xs. all_coded g xs at) place ∙ ap (λ b. b && all_coded g rest (at + size_in g e)) fe.numbers ∙ ap (λ i. all_coded g rest i) (sym q);
      code =
          o.code ∙ ap (λ xs. steps ++ code_of_all g xs at) place ∙ sym (append_assoc steps (code_of g e at) _)
          ∙ ap (λ (ss : List Step). ss ++ (settling (stands g e at) at (size_in g e) ++ code_of_all g rest (at + size_in g e))) (sym ce.code)
          ∙ sym (append_assoc mid (settling (stands g e at) at (size_in g e)) _)
          ∙ ap (λ y. (mid ++ settling y at (size_in g e)) ++ code_of_all g rest (at + size_in g e)) (sym ce.at)
          ∙ ap (λ k. (mid ++ settling x.at at k) ++ code_of_all g rest (at + size_in g e)) (sym (s ∙ whole))
          ∙ ap (λ (ss : List Step). ss ++ code_of_all g rest (at + size_in g e)) (sym c) ∙ ap (λ i. next ++ code_of_all g rest i) (sym q);
      first = o.first ∙ ap (first_from g known) place ∙ k;
      peak_small = omega arith;
    }

-- no argument more
pub onward_end : (g : Scope) (es : List Expr) (d : ℕ) (old : List Step) (n at peak most : ℕ) (known : Option Extent) (steps : List Step) (first : Extent) → length es ≤ n → at < 2 ^ 32 →
    Onward g es d old (drop n es) at peak known steps → type_at first ≡ first_from g known [] → most ≡ max peak at →
    AllFit g es d × Arranged g es d old steps (record { first = first; peak = most })
onward_end g es d old n at peak most known steps first le small o f m =
    let none = drop_all n es le in
    let before = o.peak_small in
    let whole : peak_of_all g es d ≡ max peak at = o.most ∙ ap (λ xs. max peak (peak_of_all g xs at)) none in (
      record { cells = omega arith; numbers = o.numbers ∙ ap (λ xs. all_coded g xs at) none },
      record {
        code = sym (o.code ∙ ap (λ xs. steps ++ code_of_all g xs at) none ∙ append-nil steps);
        first = f ∙ sym (o.first ∙ ap (first_from g known) none);
        peak = m ∙ sym whole;
      },
    )
