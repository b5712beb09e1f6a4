-- Answers along a walk.
use Rattle.std.specs.Prelude.{◌≡◌, Result}
use Rattle.std.proofs.Common.{ap, sym, subst, IsErrAnd}
use Rattle.std.proofs.lemmas.Result.{err_from_is_err_and}
use Rattle.zir_names.specs.declared.error.NameError.{NameError}
use Rattle.zir_names.specs.declared.error.NameError.TheVariants.{Unknown, Twice, Recursive, Memory}
use Rattle.zir_names.specs.Walk.{Walk, Fine, Broken, and_then, Refuses, Told}
use Rattle.zir_names.specs.Scope.{Seen, Done, done, left, closed, ToldIn}

-- a refusal of the first part is that of the whole
pub refuses_first : {A B : Type 0} (walk : Walk A) (next : A → Walk B) (error : NameError) → Refuses walk error → Refuses (and_then walk next) error
refuses_first walk next (Unknown at) h = ap (λ w. and_then w next) h
refuses_first walk next (Twice at) h = ap (λ w. and_then w next) h
refuses_first walk next (Recursive at) h = ap (λ w. and_then w next) h
refuses_first walk next Memory h = tt

-- the same at a result that is this error
pub told_err : {A B : Type 0} (walk : Walk A) (next : A → Walk B) (error : NameError) (r : Result B NameError) →
    IsErrAnd r (λ e. e ≡ error) → Refuses walk error → Told (and_then walk next) r
told_err walk next error r is h =
    let p = err_from_is_err_and r is in
    subst (λ v. Told (and_then walk next) v) (sym p.1) (subst (λ e. Refuses (and_then walk next) e) (sym p.2) (refuses_first walk next error h))

-- the refusal of a part that is closed
pub refuses_closed : {A : Type 0} (before : Seen) (walk : Walk (Done A)) (error : NameError) → Refuses walk error → Refuses (closed before walk) error
refuses_closed before walk error h = refuses_first walk (λ part. done part.made (left before part.seen)) error h

-- the same for a part of a walk that declares names
pub told_in_err : {A B : Type 0} (walk : Walk A) (next : A → Walk (Done B)) (error : NameError) (r : Result B NameError) (seen : Seen) →
    IsErrAnd r (λ e. e ≡ error) → Refuses walk error → ToldIn (and_then walk next) r seen
told_in_err walk next error r seen is h =
    let p = err_from_is_err_and r is in
    subst (λ v. ToldIn (and_then walk next) v seen) (sym p.1) (subst (λ e. Refuses (and_then walk next) e) (sym p.2) (refuses_first walk next error h))

-- what a walk made, or else this
abbrev made_or : {A : Type 0} → A → Walk (Done A) → A
made_or x (Fine d) = d.made
made_or x (Broken r) = x

-- what is seen after a walk, or else this
abbrev seen_or : {A : Type 0} → Seen → Walk (Done A) → Seen
seen_or s (Fine d) = d.seen
seen_or s (Broken r) = s

-- two that are done made the same
pub done_made : {A : Type 0} (x y : A) (s t : Seen) → done x s ≡ done y t → x ≡ y
done_made x y s t h = ap (made_or x) h

-- and see the same
pub done_seen : {A : Type 0} (x y : A) (s t : Seen) → done x s ≡ done y t → s ≡ t
done_seen x y s t h = ap (seen_or s) h
