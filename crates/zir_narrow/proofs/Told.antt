-- Answers along a walk.
use Rattle.std.specs.Prelude.{◌≡◌, Result}
use Rattle.std.proofs.Common.{ap, sym, subst, IsErrAnd}
use Rattle.std.proofs.lemmas.Result.{err_from_is_err_and}
use Rattle.zir_narrow.specs.declared.narrow.NarrowError.{NarrowError}
use Rattle.zir_narrow.specs.declared.narrow.NarrowError.TheVariants.{Unbuilt, Memory}
use Rattle.zir_narrow.specs.Narrow.{Narrow, and_then, Stops, Told}

-- what stops the first part stops the whole
pub stops_first : {A B : Type 0} (part : Narrow A) (next : A → Narrow B) (error : NarrowError) → Stops part error → Stops (and_then part next) error
stops_first part next (Unbuilt at) h = ap (λ w. and_then w next) h
stops_first part next Memory h = tt

-- the same at a result that is this error
pub told_err : {A B : Type 0} (part : Narrow A) (next : A → Narrow B) (error : NarrowError) (r : Result B NarrowError) →
    IsErrAnd r (λ e. e ≡ error) → Stops part error → Told (and_then part next) r
told_err part next error r is h =
    let p = err_from_is_err_and r is in
    subst (λ v. Told (and_then part next) v) (sym p.1) (subst (λ e. Stops (and_then part next) e) (sym p.2) (stops_first part next error h))
