-- Parts that are no higher than what they came from.
use Rattle.std.proofs.Common.{◌≡◌, ℕ, max, ◌≤◌, List, [], ◌∷◌, ◌++◌, ap, arith, append_assoc}
use Rattle.zir_lex.specs.declared.token.Token.{Token}
use Rattle.zir_print.specs.Marks.{enclosed, braced, mark}
use Rattle.zir_lex.specs.declared.token.Symbol.TheVariants as symbol
use Rattle.zir_grammar.specs.Grammar.{sign}
use Rattle.zir_tree.specs.declared.place.Place.{Place}

-- what stands before any rest with a height of its own, that is no higher than this
pub record Low {A : Type 0} (Own : A → ℕ → Type 0) (h : ℕ) (x : A) : Type 0 where
  pub height : ℕ
  pub own : Own x height
  pub low : height ≤ h

-- each of a list is no higher than this
abbrev pub AllLow : {A : Type 0} (Own : A → ℕ → Type 0) (h : ℕ) → List A → Type 0
AllLow Own h [] = Unit {0}
AllLow Own h (x ∷ xs) = Low Own h x × AllLow Own h xs

pub low_up : {A : Type 0} {Own : A → ℕ → Type 0} {h k : ℕ} {x : A} → h ≤ k → Low Own h x → Low Own k x
low_up le l = let a = l.low in record { height = l.height; own = l.own; low = omega (arith, a, le) }

pub all_up : {A : Type 0} (Own : A → ℕ → Type 0) (h k : ℕ) (xs : List A) → h ≤ k → AllLow Own h xs → AllLow Own k xs
all_up Own h k [] le all = tt
all_up Own h k (x ∷ xs) le (l, all) = (low_up le l, all_up Own h k xs le all)

all_snoc : {A : Type 0} (Own : A → ℕ → Type 0) (h : ℕ) (xs : List A) (x : A) → AllLow Own h xs → Low Own h x → AllLow Own h (xs ++ x ∷ [])
all_snoc Own h [] x all l = (l, tt)
all_snoc Own h (y ∷ xs) x (m, all) l = (m, all_snoc Own h xs x all l)

pub all_more : {A : Type 0} (Own : A → ℕ → Type 0) (low h : ℕ) (xs : List A) (x : A) → AllLow Own low xs → Low Own h x → AllLow Own (max low h) (xs ++ x ∷ [])
all_more Own low h xs x all l = all_snoc Own (max low h) xs x (all_up Own low (max low h) xs (omega arith) all) (low_up (omega arith) l)

-- the height of a list behind parts of a height
abbrev pub tallest : {A : Type 0} (Own : A → ℕ → Type 0) (h low : ℕ) (xs : List A) → AllLow Own h xs → ℕ
tallest Own h low [] all = low
tallest Own h low (x ∷ xs) (l, all) = tallest Own h (max low l.height) xs all

pub tallest_low : {A : Type 0} (Own : A → ℕ → Type 0) (h low : ℕ) (xs : List A) (all : AllLow Own h xs) → low ≤ h → tallest Own h low xs all ≤ h
tallest_low Own h low [] all le = le
tallest_low Own h low (x ∷ xs) (l, all) le = let a = l.low in tallest_low Own h (max low l.height) xs all (omega (arith, a, le))

-- tokens between parentheses or braces, before a rest
pub enclosed_rest : (ws rest : List Token) → enclosed ws ++ rest ≡ mark symbol.LeftParenthesis ∷ (ws ++ mark symbol.RightParenthesis ∷ rest)
enclosed_rest ws rest = ap (λ l. mark symbol.LeftParenthesis ∷ l) (append_assoc ws (mark symbol.RightParenthesis ∷ []) rest)

pub braced_rest : (p : Place) (ws rest : List Token) → braced p ws ++ rest ≡ sign symbol.LeftBrace p ∷ (ws ++ mark symbol.RightBrace ∷ rest)
braced_rest p ws rest = ap (λ l. sign symbol.LeftBrace p ∷ l) (append_assoc ws (mark symbol.RightBrace ∷ []) rest)
