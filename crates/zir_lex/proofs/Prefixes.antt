-- How many bytes of a class a text begins with.
use Rattle.std.proofs.Common.{◌≡◌, ℕ, ◌≤◌, Bool, true, false, List, [], ◌∷◌, ◌++◌, length, take, refl, arith, one-add}
use Rattle.std.specs.List.{prefix_len, list_all}
use Rattle.std.proofs.lemmas.Bool.{and_parts}

-- a list of the class that begins a text is within its longest front of the class
pub front_within : (p : ℕ → Bool) (xs ys : List ℕ) → list_all p xs ≡ true → length xs ≤ prefix_len p (xs ++ ys)
front_within p [] ys all = omega arith
front_within p (x ∷ xs) ys all =
    let parts : (p x ≡ true) × (list_all p xs ≡ true) = and_parts (p x) (list_all p xs) all in
    let rest : length xs ≤ prefix_len p (xs ++ ys) = front_within p xs ys parts.1 in
    rw parts.0 (omega arith)

-- a list of the class before another byte is the longest front
pub front_ends : (p : ℕ → Bool) (xs : List ℕ) (y : ℕ) (ys : List ℕ) → list_all p xs ≡ true → p y ≡ false → prefix_len p (xs ++ (y ∷ ys)) ≡ length xs
front_ends p [] y ys all ends = rw ends refl
front_ends p (x ∷ xs) y ys all ends =
    let parts : (p x ≡ true) × (list_all p xs ≡ true) = and_parts (p x) (list_all p xs) all in
    let rest : prefix_len p (xs ++ (y ∷ ys)) ≡ length xs = front_ends p xs y ys parts.1 ends in
    rw parts.0 (omega arith)

-- the longest front is of the class, at each answer of its first byte
passes : (p : ℕ → Bool) (x : ℕ) (xs : List ℕ) (b : Bool) → p x ≡ b → list_all p (take (prefix_len p xs) xs) ≡ true → list_all p (take (prefix_len p (x ∷ xs)) (x ∷ xs)) ≡ true
passes p x xs true e rest = rw (e, one-add, e) rest
passes p x xs false e rest = rw e refl

-- the longest front is of the class
pub front_passes : (p : ℕ → Bool) (xs : List ℕ) → list_all p (take (prefix_len p xs) xs) ≡ true
front_passes p [] = refl
front_passes p (x ∷ xs) = passes p x xs (p x) refl (front_passes p xs)

-- a list that passes a test passes a weaker one
pub weaker : (p q : ℕ → Bool) → ((b : ℕ) → p b ≡ true → q b ≡ true) → (xs : List ℕ) → list_all p xs ≡ true → list_all q xs ≡ true
weaker p q implies [] all = refl
weaker p q implies (x ∷ xs) all =
    let parts : (p x ≡ true) × (list_all p xs ≡ true) = and_parts (p x) (list_all p xs) all in
    rw (implies x parts.0) (weaker p q implies xs parts.1)

-- what a front and the bytes after it are, the front's length being given
pub same_front : (a b x y : List ℕ) → length a ≡ length b → a ++ x ≡ b ++ y → (a ≡ b) × (x ≡ y)
same_front [] [] x y len e = (refl, e)
same_front [] (d ∷ ds) x y len e = absurd (omega arith)
same_front (c ∷ cs) [] x y len e = absurd (omega arith)
same_front (c ∷ cs) (d ∷ ds) x y len e =
    let heads : c ≡ d = cc in
    let rest : cs ++ x ≡ ds ++ y = cc in
    let both : (cs ≡ ds) × (x ≡ y) = same_front cs ds x y (omega arith) rest in
    (cc, both.1)
