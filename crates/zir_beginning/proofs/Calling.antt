-- Functions that use none of some variables do the same where those have changed.
use Rattle.std.specs.Prelude.{ℕ, zero, suc, ◌+◌, ◌<◌, List, [], ◌∷◌, Bool, true, false, ◌≡◌, refl, nat_eq, take}
use Rattle.std.proofs.Common.{ap, sym, subst, ◌∙◌, arith}
use Rattle.std.proofs.lemmas.Bool.{ne_eqb}
use Rattle.zir_tree.specs.declared.value.Val.{Val}
use Rattle.zir_tree.specs.declared.stmt.Var.{Var}
use Rattle.zir_tree.specs.declared.types.StructDef.{StructDef}
use Rattle.zir_tree.specs.declared.program.Function.{Function}
use Rattle.zir_meaning.specs.Values.{blanks_of}
use Rattle.zir_meaning.specs.Trace.{State}
use Rattle.zir_meaning.specs.Evaluation.{Eval, Funs, Library}
use Rattle.zir_meaning.specs.Statements.{run_body}
use Rattle.zir_meaning.specs.Functions.{called_fun, pick, no_funs, one_more_fun, more_funs, library_of}
use Rattle.zir_beginning.specs.Order.{Apart, AreApart}
use Rattle.zir_beginning.proofs.Changing.{OtherTops, SparesAll, Commutes, Spared, commutes-call, commutes-body}

commutes-pick : (c : OtherTops) (b : Bool) (f g : List Val → State → Eval) (vs : List Val) → Commutes c (f vs) → Commutes c (g vs) →
    Commutes c (pick b f g vs)
commutes-pick c true f g vs h k = h
commutes-pick c false f g vs h k = k

-- functions behind others
commutes-more : (c : OtherTops) (later : List Var) → SparesAll c (Apart later) → (blanks : List Val) (funs : Funs) (n : ℕ) (fs : List Function) →
    ((k : ℕ) (vs : List Val) → Commutes c (funs k vs)) → AreApart later fs → (k : ℕ) (vs : List Val) → Commutes c (more_funs blanks funs n fs k vs)
commutes-more c later spares blanks funs n [] h u = h
commutes-more c later spares blanks funs n (f ∷ fs) h u =
    let l : Library = record { blanks = blanks; funs = funs } in
    let spared : Spared c l (Apart later) (λ k. Unit {0}) = record { variables = spares; functions = λ k q vs. h k vs } in
    commutes-more c later spares blanks (one_more_fun blanks funs n f) (suc n) fs
    (λ k vs. commutes-pick c (nat_eq k n) (called_fun f.params (run_body l f.body)) (funs k) vs
    (commutes-call c f.params (run_body l f.body) vs (commutes-body c l (Apart later) (λ k. Unit {0}) spared f.body u.0)) (h k vs)) u.1

-- a call of a function at another place
other-place : (blanks : List Val) (funs : Funs) (n : ℕ) (f : Function) (k : ℕ) → k < n → one_more_fun blanks funs n f k ≡ funs k
other-place blanks funs n f k lt =
    ap (λ b. pick b (called_fun f.params (run_body (record { blanks = blanks; funs = funs }) f.body)) (funs k)) (ne_eqb k n (λ e. absurd (omega arith)))

-- a call of a function before all of these
place-before : (blanks : List Val) (funs : Funs) (n : ℕ) (fs : List Function) (k : ℕ) → k < n → more_funs blanks funs n fs k ≡ funs k
place-before blanks funs n [] k lt = refl
place-before blanks funs n (f ∷ fs) k lt =
    place-before blanks (one_more_fun blanks funs n f) (suc n) fs k (omega arith) ∙ other-place blanks funs n f k lt

-- below a place the functions from there on do not matter
first-alone : (blanks : List Val) (funs : Funs) (n : ℕ) (fs : List Function) (k j : ℕ) → j < n + k →
    more_funs blanks funs n (take k fs) j ≡ more_funs blanks funs n fs j
first-alone blanks funs n [] zero j lt = refl
first-alone blanks funs n [] (suc k) j lt = refl
first-alone blanks funs n (f ∷ fs) zero j lt = sym (place-before blanks funs n (f ∷ fs) j (omega arith))
first-alone blanks funs n (f ∷ fs) (suc k) j lt = first-alone blanks (one_more_fun blanks funs n f) (suc n) fs k j (omega arith)

-- where the first functions of a program use none of some variables
pub spared-first : (c : OtherTops) (later : List Var) (ds : List StructDef) (fs : List Function) (count : ℕ) → SparesAll c (Apart later) →
    AreApart later (take count fs) → Spared c (library_of ds fs) (Apart later) (λ k. k < count)
spared-first c later ds fs count spares u = record {
  variables = spares;
  functions = λ k lt vs. subst (λ p. Commutes c (p vs)) (first-alone (blanks_of ds) no_funs 0 fs count k (omega (arith, lt)))
      (commutes-more c later spares (blanks_of ds) no_funs 0 (take count fs) (λ j vs s. refl) u k vs);
}
