-- Walks along lists, as loops make them: what is made so far, and what the rest makes.
use Rattle.std.specs.Prelude.{◌≡◌, List, [], ◌∷◌, ◌++◌, refl}
use Rattle.std.proofs.Common.{ap, sym, append_assoc}
use Rattle.zir_names.specs.Walk.{Walk, Fine, Broken, and_then}
use Rattle.zir_names.specs.Scope.{Done, done}

-- these, and then what a walk makes
abbrev pub gathered : {B : Type 0} → List B → Walk (List B) → Walk (List B)
gathered made walk = and_then walk (λ more. Fine (made ++ more))

-- one more is made
pub gathered-more : {B : Type 0} (made : List B) (y : B) (walk : Walk (List B)) →
    gathered made (and_then walk (λ ys. Fine (y ∷ ys))) ≡ gathered (made ++ y ∷ []) walk
gathered-more made y (Fine ys) = ap Fine (sym (append_assoc made (y ∷ []) ys))
gathered-more made y (Broken refusal) = refl

-- nothing is made yet
pub gathered-none : {B : Type 0} (walk : Walk (List B)) → walk ≡ gathered [] walk
gathered-none (Fine ys) = refl
gathered-none (Broken refusal) = refl

-- these, and then what a walk makes that declares names
abbrev pub gathered_in : {B : Type 0} → List B → Walk (Done (List B)) → Walk (Done (List B))
gathered_in made walk = and_then walk (λ more. done (made ++ more.made) more.seen)

-- one more is made
pub gathered_in-more : {B : Type 0} (made : List B) (y : B) (walk : Walk (Done (List B))) →
    gathered_in made (and_then walk (λ ys. done (y ∷ ys.made) ys.seen)) ≡ gathered_in (made ++ y ∷ []) walk
gathered_in-more made y (Fine ys) = ap (λ zs. done zs ys.seen) (sym (append_assoc made (y ∷ []) ys.made))
gathered_in-more made y (Broken refusal) = refl

-- nothing is made yet
pub gathered_in-none : {B : Type 0} (walk : Walk (Done (List B))) → walk ≡ gathered_in [] walk
gathered_in-none (Fine ys) = refl
gathered_in-none (Broken refusal) = refl
