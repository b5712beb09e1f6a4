-- Walks that went on.
use Rattle.std.specs.Prelude.{◌≡◌, refl, Bool, true, false, ◌&&◌, ◌||◌, ◌⊎◌}
use Rattle.std.proofs.Common.{ap, inl, inr}
use Rattle.zir_types.specs.declared.error.TypeError.{TypeError}
use Rattle.zir_types.specs.Walk.{Walk, Fine, Broken, and_then, check}

-- Of a walk that went on, the first part is fine.
pub first_fine : {A B : Type 0} (w : Walk A) (next : A → Walk B) (y : B) → and_then w next ≡ Fine y → (x : A) × (w ≡ Fine x) × (next x ≡ Fine y)
first_fine (Fine x) next y h = (x, refl, h)
first_fine (Broken r) next y h = absurd cc

-- A walk makes one thing.
pub same_fine : {A : Type 0} (x y : A) → let u : Walk A = Fine x in let v : Walk A = Fine y in u ≡ v → x ≡ y
same_fine x y h = ap (λ w. elim w [ Fine z ↦ z | Broken r ↦ x ]) h

-- A rule that held.
pub held : {A : Type 0} (b : Bool) (r : TypeError) (t x : A) → check b r t ≡ Fine x → (b ≡ true) × (t ≡ x)
held true r t x h = (refl, same_fine t x h)
held false r t x h = absurd cc

pub both : (a b : Bool) → (a && b) ≡ true → (a ≡ true) × (b ≡ true)
both true b h = (refl, h)
both false b h = absurd cc

pub either : (a b : Bool) → (a || b) ≡ true → (a ≡ true) ⊎ (b ≡ true)
either true b h = inl refl
either false b h = inr h
