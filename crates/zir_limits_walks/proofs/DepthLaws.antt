-- The depths that the code counts are those of the definition, up to 17.
use Rattle.std.specs.Prelude.{◌≡◌, ℕ, ◌<◌, min, max, List, [], ◌∷◌, ◌++◌, length, Option, Bool, true, false, nat_eq, nat_lt, slice_index, if◌then◌else◌, refl}
use Rattle.std.proofs.Common.{ap, ◌∙◌, subst, arith}
use Rattle.std.proofs.lemmas.Grind.{common_steps}
use Rattle.std.proofs.lemmas.Bool.Decides.{nat_tests}
use Rattle.zir_tree.specs.declared.place.Place.{Place}
use Rattle.zir_types.specs.Measures.{Target, ToFunction, ToInstance, Measure, Spans, Holds, Sends, Calls, Splits}
use Rattle.zir_types.specs.Limits.{Depths, same_target, deepened, deep_calls, wrong_at}
use Rattle.zir_limits.specs.Notes.{calls_in, first_of, marks, target_of}
use Rattle.zir_limits_walks.specs.declared.depth.Levels.{Levels}
use Rattle.zir_limits_walks.specs.Depths.{raised_at, raised_by, entered}

-- the numbers of the code are the depths of the definition, up to 17
pub record Agrees (l : Levels) (d : Depths) : Type 0 where
  pub functions : (k : ℕ) → k < length l.functions → slice_index l.functions k ≡ min (d (ToFunction k)) 17
  pub instances : (k : ℕ) → k < length l.instances → slice_index l.instances k ≡ min (d (ToInstance k)) 17

length_raised : (n k : ℕ) (xs : List ℕ) → length (raised_at n k xs) ≡ length xs
length_raised n k xs = grind (arith, common_steps)

raised_same : (n k : ℕ) (xs : List ℕ) → k < length xs → slice_index (raised_at n k xs) k ≡ max n (slice_index xs k)
raised_same n k xs h = grind (arith, common_steps)

raised_other : (n j k : ℕ) (xs : List ℕ) → nat_eq j k ≡ false → slice_index (raised_at n j xs) k ≡ slice_index xs k
raised_other n j k xs h = grind (arith, common_steps, nat_tests)

capped_max : (n m d v : ℕ) → m ≡ min n 17 → v ≡ min d 17 → max m v ≡ min (max n d) 17
capped_max n m d v h k = omega arith

same_number : (j k : ℕ) → nat_eq j k ≡ true → j ≡ k
same_number j k h = grind (arith, nat_tests)

-- a number that is raised at a place, read at a place
raised_agrees : (n m j k d : ℕ) (xs : List ℕ) (b : Bool) → nat_eq j k ≡ b → m ≡ min n 17 → k < length xs → slice_index xs k ≡ min d 17 →
    slice_index (raised_at m j xs) k ≡ min (if b then max n d else d) 17
raised_agrees n m j k d xs true e h l v =
    let s = same_number j k e in
    ap (λ i. slice_index (raised_at m i xs) k) s ∙ raised_same m k xs l ∙ capped_max n m d (slice_index xs k) h v
raised_agrees n m j k d xs false e h l v = raised_other m j k xs e ∙ v

one_agrees : (n m : ℕ) (t : Target) (p : Place) (l : Levels) (d : Depths) → m ≡ min n 17 → Agrees l d →
    Agrees (raised_by m (target_of t) p l) (λ u. if same_target t u then max n (d u) else d u)
one_agrees n m (ToFunction j) p l d h a = record {
  functions = λ k lt. let in_range : k < length l.functions = subst (λ x. k < x) (length_raised m j l.functions) lt in
      raised_agrees n m j k (d (ToFunction k)) l.functions (nat_eq j k) refl h in_range (a.functions k in_range);
  instances = λ k lt. a.instances k lt;
}
one_agrees n m (ToInstance j) p l d h a = record {
  functions = λ k lt. a.functions k lt;
  instances = λ k lt. let in_range : k < length l.instances = subst (λ x. k < x) (length_raised m j l.instances) lt in
      raised_agrees n m j k (d (ToInstance k)) l.instances (nat_eq j k) refl h in_range (a.instances k in_range);
}

pub entered_agrees : (n m : ℕ) (ms : List Measure) (l : Levels) (d : Depths) → m ≡ min n 17 → Agrees l d → Agrees (entered m (calls_in ms) l) (deepened n ms d)
entered_agrees n m [] l d h a = a
entered_agrees n m (Spans k p ∷ ms) l d h a = entered_agrees n m ms l d h a
entered_agrees n m (Holds k p ∷ ms) l d h a = entered_agrees n m ms l d h a
entered_agrees n m (Sends k p ∷ ms) l d h a = entered_agrees n m ms l d h a
entered_agrees n m (Splits k p ∷ ms) l d h a = entered_agrees n m ms l d h a
entered_agrees n m (Calls t p ∷ ms) l d h a =
    entered_agrees n m ms (raised_by m (target_of t) p l) (λ u. if same_target t u then max n (d u) else d u) h (one_agrees n m t p l d h a)

marks_at : (w : Bool) (p : Place) (o : Option Place) (ps : List Place) → first_of (marks w p o) ps ≡ first_of o (wrong_at w p ++ ps)
marks_at true p o ps = refl
marks_at false p o ps = refl

same_test : (n m : ℕ) → m ≡ min n 17 → nat_lt 16 m ≡ nat_lt 16 n
same_test n m h = grind (arith, nat_tests)

one_deep : (m : ℕ) (t : Target) (p : Place) (l : Levels) → (raised_by m (target_of t) p l).deep ≡ marks (nat_lt 16 m) p l.deep
one_deep m (ToFunction j) p l = refl
one_deep m (ToInstance j) p l = refl

pub entered_deep : (n m : ℕ) (ms : List Measure) (l : Levels) → m ≡ min n 17 → (entered m (calls_in ms) l).deep ≡ first_of l.deep (deep_calls n ms)
entered_deep n m [] l h = refl
entered_deep n m (Spans k p ∷ ms) l h = entered_deep n m ms l h
entered_deep n m (Holds k p ∷ ms) l h = entered_deep n m ms l h
entered_deep n m (Sends k p ∷ ms) l h = entered_deep n m ms l h
entered_deep n m (Splits k p ∷ ms) l h = entered_deep n m ms l h
entered_deep n m (Calls t p ∷ ms) l h =
    entered_deep n m ms (raised_by m (target_of t) p l) h
    ∙ ap (λ o. first_of o (deep_calls n ms)) (one_deep m t p l ∙ ap (λ w. marks w p l.deep) (same_test n m h))
    ∙ marks_at (nat_lt 16 n) p l.deep (deep_calls n ms)
