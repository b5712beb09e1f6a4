-- The law of calls of functions.
use Rattle.std.specs.Prelude.{ℕ, zero, suc, ◌+◌, ◌<◌, List, [], ◌∷◌, Some, ◌≡◌, refl, slice_get, take}
use Rattle.std.proofs.Common.{sym, ap, ◌∙◌, arith, subst}
use Rattle.std.proofs.lemmas.Bool.{eq-eqb, ne_eqb}
use Rattle.zir_tree.specs.declared.value.Val.{Val}
use Rattle.zir_tree.specs.declared.program.Function.{Function}
use Rattle.zir_tree.specs.declared.program.Core.{Core}
use Rattle.zir_meaning.specs.Values.{blanks_of}
use Rattle.zir_meaning.specs.Evaluation.{Funs, Library}
use Rattle.zir_meaning.specs.Statements.{run_body}
use Rattle.zir_meaning.specs.Functions.{called_fun, pick, no_funs, one_more_fun, more_funs, library_of}
use Rattle.zir_laws.specs.Functions.{BodyBelow, InOrderFrom, InOrder, FunctionCalls}
use Rattle.zir_laws.proofs.Equations.{funext}
use Rattle.zir_laws.proofs.Bodies.{Alike, same-body}

-- these functions, over structs with these blank values
abbrev over_structs : List Val → Funs → Library
over_structs blanks funs = record { blanks = blanks; funs = funs }

-- a call of a function at another place
fun-other : (blanks : List Val) (funs : Funs) (n : ℕ) (f : Function) (k : ℕ) → k < n → one_more_fun blanks funs n f k ≡ funs k
fun-other blanks funs n f k lt =
    ap (λ b. pick b (called_fun f.params (run_body (over_structs blanks funs) f.body)) (funs k)) (ne_eqb k n (λ e. absurd (omega arith)))

-- a call of the function at its place
fun-here : (blanks : List Val) (funs : Funs) (n : ℕ) (f : Function) →
    one_more_fun blanks funs n f n ≡ called_fun f.params (run_body (over_structs blanks funs) f.body)
fun-here blanks funs n f = ap (λ b. pick b (called_fun f.params (run_body (over_structs blanks funs) f.body)) (funs n)) (eq-eqb n n refl)

-- a call of a function before all of these
funs-before : (blanks : List Val) (funs : Funs) (n : ℕ) (fs : List Function) (k : ℕ) → k < n → more_funs blanks funs n fs k ≡ funs k
funs-before blanks funs n [] k lt = refl
funs-before blanks funs n (f ∷ fs) k lt =
    funs-before blanks (one_more_fun blanks funs n f) (suc n) fs k (omega arith) ∙ fun-other blanks funs n f k lt

-- a call of one of these is its body over those before it
funs-at : (blanks : List Val) (funs : Funs) (n : ℕ) (fs : List Function) (k : ℕ) (f : Function) → slice_get fs k ≡ Some f →
    more_funs blanks funs n fs (n + k) ≡ called_fun f.params (run_body (over_structs blanks (more_funs blanks funs n (take k fs))) f.body)
funs-at blanks funs n [] k f e = absurd (cc)
funs-at blanks funs n (g ∷ fs) zero f e =
    let z : n + 0 ≡ n = omega arith in
    let q : g ≡ f = cc in
    ap (more_funs blanks funs n (g ∷ fs)) z
    ∙ funs-before blanks (one_more_fun blanks funs n g) (suc n) fs n (omega arith)
    ∙ fun-here blanks funs n g
    ∙ ap (λ f. called_fun f.params (run_body (over_structs blanks funs) f.body)) q
funs-at blanks funs n (g ∷ fs) (suc k) f e =
    let z : n + suc k ≡ suc n + k = omega arith in
    ap (more_funs blanks (one_more_fun blanks funs n g) (suc n) fs) z ∙ funs-at blanks (one_more_fun blanks funs n g) (suc n) fs k f e

-- below a place the functions from there on do not matter
funs-take : (blanks : List Val) (funs : Funs) (n : ℕ) (fs : List Function) (k j : ℕ) → j < n + k →
    more_funs blanks funs n (take k fs) j ≡ more_funs blanks funs n fs j
funs-take blanks funs n [] zero j lt = refl
funs-take blanks funs n [] (suc k) j lt = refl
funs-take blanks funs n (f ∷ fs) zero j lt = sym (funs-before blanks funs n (f ∷ fs) j (omega arith))
funs-take blanks funs n (f ∷ fs) (suc k) j lt = funs-take blanks (one_more_fun blanks funs n f) (suc n) fs k j (omega arith)

-- one of these calls functions before it alone
in_order-at : (n : ℕ) (fs : List Function) → InOrderFrom n fs → (k : ℕ) (f : Function) → slice_get fs k ≡ Some f → BodyBelow (n + k) f.body
in_order-at n [] h k f e = absurd (cc)
in_order-at n (g ∷ fs) h zero f e =
    let z : n ≡ n + 0 = omega arith in
    let q : g ≡ f = cc in
    subst (λ f. BodyBelow (n + 0) f.body) q (subst (λ m. BodyBelow m g.body) z h.0)
in_order-at n (g ∷ fs) h (suc k) f e =
    let z : suc n + k ≡ n + suc k = omega arith in
    subst (λ m. BodyBelow m f.body) z (in_order-at (suc n) fs h.1 k f e)

-- a function is its body over those before it
function-before : (core : Core) (k : ℕ) (f : Function) → slice_get core.functions k ≡ Some f →
    (library_of core.structs core.functions).funs k ≡ called_fun f.params (run_body (library_of core.structs (take k core.functions)) f.body)
function-before core k f e =
    let z : k ≡ 0 + k = omega arith in
    ap (library_of core.structs core.functions).funs z ∙ funs-at (blanks_of core.structs) no_funs 0 core.functions k f e

-- and where the functions are in order over all of them
function-in_program : (core : Core) (k : ℕ) (f : Function) → slice_get core.functions k ≡ Some f → InOrder core →
    (library_of core.structs core.functions).funs k ≡ called_fun f.params (run_body (library_of core.structs core.functions) f.body)
function-in_program core k f e h =
    let z : 0 + k ≡ k = omega arith in
    let l : Library = library_of core.structs (take k core.functions) in
    let l' : Library = library_of core.structs core.functions in
    let alike : Alike k l l' = record {
      blanks = refl;
      funs = λ j vs s lt. ap (λ p. p vs s) (funs-take (blanks_of core.structs) no_funs 0 core.functions k j (omega arith));
    } in
    function-before core k f e
    ∙ ap (called_fun f.params)
    (funext _ _ (same-body k l l' alike f.body (subst (λ m. BodyBelow m f.body) z (in_order-at 0 core.functions h k f e))))

-- the law of calls of functions
pub function_calls : FunctionCalls
function_calls core k f e = record {
  before = λ vs s. ap (λ p. p vs s) (function-before core k f e);
  in_program = λ h vs s. ap (λ p. p vs s) (function-in_program core k f e h);
}
