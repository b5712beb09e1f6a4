-- How the bytes that a sink stands for grow.
use Rattle.std.specs.Prelude.{ℕ, ◌≡◌, List, ◌++◌}

-- each list that the sink stood for, followed by these bytes, is one that it stands for now
abbrev pub Grew : (List ℕ → Type 0) → (List ℕ → Type 0) → List ℕ → Type 0
Grew old new bytes = (h : List ℕ) → old h → new (h ++ bytes)

-- the sink grew by a front part of the piece
abbrev pub GrewPart : List ℕ → (List ℕ → Type 0) → (List ℕ → Type 0) → Type 0
GrewPart piece old new = (front : List ℕ) × (rest : List ℕ) × (piece ≡ front ++ rest) × Grew old new front

-- the sink tells its bytes: it stands for some list
abbrev pub Tells : (List ℕ → Type 0) → Type 0
Tells stands = (h : List ℕ) × stands h
