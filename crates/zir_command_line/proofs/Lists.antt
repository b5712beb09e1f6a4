-- The words of a list, and where a walk over them stops.
use Rattle.std.proofs.Common.{◌≡◌, ◌≤◌, ◌-◌, ◌+◌, ℕ, List, [], ◌∷◌, map, length, get_or, take, drop, Option, Some, None, Result, Ok, Err, IfOk, IfErr, IsErrAnd, refl, sym, ◌∙◌, ap, subst, arith}
use Rattle.std.specs.Prelude.{ok_or, option_map}
use Rattle.std.proofs.lemmas.Grind.{common_steps}
use Rattle.zir_command_line.specs.Walk.{State, Stops, step}
use Rattle.zir_command_line.proofs.Walking.{walk_step}

-- a list with its first item in front
pub first_in_front : {X Y : Type 0} (f : X → Y) (xs : List X) (x : X) → 1 ≤ length xs → x ≡ get_or xs 0 x → map f xs ≡ f x ∷ map f (take (length xs - 1) (drop 1 xs))
first_in_front f [] x h e = absurd (omega arith)
first_in_front f (y ∷ ys) x h e = grind (arith, common_steps)

-- a walk that stops behind the first word
pub stops_later : (s u : State) (w : List ℕ) (ws : List (List ℕ)) (index place : ℕ) → step s w ≡ Some u → Stops u ws (index + 1) place → Stops s (w ∷ ws) index place
stops_later s u w ws index place e h = record {
  front = w ∷ h.front;
  bad = h.bad;
  back = h.back;
  split = ap (λ x. w ∷ x) h.split;
  count = let count = h.count in omega arith;
  before = h.before;
  walks = walk_step s u w h.front e ∙ h.walks;
  stops = h.stops;
}

-- a walk that stops at the first word
pub stops_here : (s : State) (w : List ℕ) (ws : List (List ℕ)) (index : ℕ) → step s w ≡ None → Stops s (w ∷ ws) index index
stops_here s w ws index e = record { front = []; bad = w; back = ws; split = refl; count = omega arith; before = s; walks = refl; stops = e }

-- another fact of an error
pub if_err : {T E : Type 0} (P Q : E → Type 0) (r : Result T E) → ((e : E) → P e → Q e) → IfErr r P → IfErr r Q
if_err P Q (Ok x) f h = tt
if_err P Q (Err e) f h = f e h

-- a fact of the error that an answer is
pub err_is : {T E : Type 0} (r : Result T E) (x : E) (Q : E → Type 0) → IsErrAnd r (λ e. e ≡ x) → Q x → IfErr r Q
err_is (Ok y) x Q h q = tt
err_is (Err e) x Q h q = subst Q (sym h) q

-- ---- the name at the end

-- a name that is there
pub name_is : {B E : Type 0} (now : B → List ℕ) (o : Option B) (f : Option (List ℕ)) (x : E) (b : B) → Ok b ≡ ok_or o x → option_map now o ≡ f → f ≡ Some (now b)
name_is now None f x b e g = cc
name_is now (Some a) f x b e g = let same : a ≡ b = cc in sym g ∙ ap (λ a. Some (now a)) same

-- a name that is not there
pub name_lacks : {B E : Type 0} (now : B → List ℕ) (o : Option B) (f : Option (List ℕ)) (x y : E) → Err y ≡ ok_or o x → option_map now o ≡ f → (f ≡ None) × (x ≡ y)
name_lacks now None f x y e g = (sym g, cc)
name_lacks now (Some a) f x y e g = cc

-- a fact of both answers
pub if_name : {B E : Type 0} (now : B → List ℕ) (o : Option B) (f : Option (List ℕ)) (x : E) (r : Result B E) (P : List ℕ → Type 0) → r ≡ ok_or o x → option_map now o ≡ f
    → ((name : List ℕ) → f ≡ Some name → P name) → IfOk r (λ b. P (now b))
if_name now None f x r P e g h = subst (λ r. IfOk r (λ b. P (now b))) (sym e) tt
if_name now (Some b) f x r P e g h = subst (λ r. IfOk r (λ b. P (now b))) (sym e) (h (now b) (sym g))

pub if_no_name : {B E : Type 0} (now : B → List ℕ) (o : Option B) (f : Option (List ℕ)) (x : E) (r : Result B E) (Q : E → Type 0) → r ≡ ok_or o x → option_map now o ≡ f → (f ≡ None → Q x) → IfErr r Q
if_no_name now None f x r Q e g h = subst (λ r. IfErr r Q) (sym e) (h (sym g))
if_no_name now (Some b) f x r Q e g h = subst (λ r. IfErr r Q) (sym e) tt
