-- Two writes in a row.
use Rattle.std.proofs.Common.{◌≡◌, ℕ, ◌+◌, List, ◌++◌, take, drop, length, length-drop, arith, ◌-◌, Option, Some, None, append_assoc}
use Rattle.std.proofs.lemmas.List.{take_all}
use Rattle.std.proofs.Math.Seq.{take-add}
use Rattle.std.specs.Io.KnownBytes.{Appends}

-- bytes that grew by two lists in turn grew by the first followed by the second
Appends-append : (a b c : Option (List ℕ)) (xs ys : List ℕ) → Appends a b xs → Appends b c ys → Appends a c (xs ++ ys)
Appends-append None b c xs ys one two = tt
Appends-append (Some p) None c xs ys one two = elim one [ ]
Appends-append (Some p) (Some q) None xs ys one two = elim two [ ]
Appends-append (Some p) (Some q) (Some r) xs ys one two = rw two (rw one (append_assoc p xs ys))

-- after the first n bytes, m of the rest: the first n + m
pub Appends-take : (a b c : Option (List ℕ)) (n m : ℕ) (bytes : List ℕ) → Appends a b (take n bytes) → Appends b c (take m (take (length bytes - n) (drop n bytes))) → Appends a c (take (n + m) bytes)
Appends-take a b c n m bytes one two =
    let whole : take (length bytes - n) (drop n bytes) ≡ drop n bytes = take_all (length bytes - n) (drop n bytes) (omega (arith, length-drop n bytes)) in
    rw (take-add n m bytes) (Appends-append a b c (take n bytes) (take m (drop n bytes)) one (rw whole at two))
