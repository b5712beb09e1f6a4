-- Answers along a walk.
use Rattle.std.specs.Prelude.{◌≡◌, Result}
use Rattle.std.proofs.Common.{ap, sym, subst, IsErrAnd}
use Rattle.std.proofs.lemmas.Result.{err_from_is_err_and}
use Rattle.zir_types.specs.declared.error.TypeError.{TypeError}
use Rattle.zir_types.specs.declared.error.TypeError.TheVariants.{Mismatch, TwoComputers, NotUnit, NotComputer, NotStreamType, Instances, Memory}
use Rattle.zir_types.specs.Walk.{Walk, and_then, Refuses, Told}

-- A refusal of the first part is that of the whole.
pub refuses_first : {A B : Type 0} (walk : Walk A) (next : A → Walk B) (error : TypeError) → Refuses walk error → Refuses (and_then walk next) error
refuses_first walk next (Mismatch at) h = ap (λ w. and_then w next) h
refuses_first walk next (TwoComputers at) h = ap (λ w. and_then w next) h
refuses_first walk next (NotUnit at) h = ap (λ w. and_then w next) h
refuses_first walk next (NotComputer at) h = ap (λ w. and_then w next) h
refuses_first walk next (NotStreamType at) h = ap (λ w. and_then w next) h
refuses_first walk next (Instances at) h = ap (λ w. and_then w next) h
refuses_first walk next Memory h = tt

-- The same at a result that is this error.
pub told_err : {A B : Type 0} (walk : Walk A) (next : A → Walk B) (error : TypeError) (r : Result B TypeError) →
    IsErrAnd r (λ e. e ≡ error) → Refuses walk error → Told (and_then walk next) r
told_err walk next error r is h =
    let p = err_from_is_err_and r is in
    subst (λ v. Told (and_then walk next) v) (sym p.1) (subst (λ e. Refuses (and_then walk next) e) (sym p.2) (refuses_first walk next error h))
