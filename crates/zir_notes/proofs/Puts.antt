-- What a sink grew by over several puts.
use Rattle.std.proofs.Common.{◌≡◌, ℕ, List, [], ◌++◌, Result, Ok, Err, OnErr, refl, sym, ap, ◌∙◌, subst, append_assoc, append-nil}
use Rattle.zir_outside.specs.Sinks.{Grew, GrewPart}

-- nothing was put
pub grew_nothing : (a : List ℕ → Type 0) → Grew a a []
grew_nothing a h is = subst a (sym (append-nil h)) is

-- first the one and then the other
pub grew_both : (a b c : List ℕ → Type 0) (first second whole : List ℕ) → whole ≡ first ++ second → Grew a b first → Grew b c second → Grew a c whole
grew_both a b c first second whole split one two h is =
    subst c (append_assoc h first second ∙ ap (λ l. h ++ l) (sym split)) (two (h ++ first) (one h is))

-- the first and a front part of the other
pub part_behind : (a b c : List ℕ → Type 0) (first second whole : List ℕ) → whole ≡ first ++ second → Grew a b first → GrewPart second b c → GrewPart whole a c
part_behind a b c first second whole split one part =
    (first ++ part.0, part.1, split ∙ ap (λ l. first ++ l) part.2 ∙ sym (append_assoc first part.0 part.1), grew_both a b c first part.0 (first ++ part.0) refl one part.3)

-- a front part of the first
pub part_before : (a b : List ℕ → Type 0) (first second whole : List ℕ) → whole ≡ first ++ second → GrewPart first a b → GrewPart whole a b
part_before a b first second whole split part =
    (part.0, part.1 ++ second, split ∙ ap (λ l. l ++ second) part.2 ∙ append_assoc part.0 part.1 second, part.3)

-- at an error, where it holds anyway
pub at_error : {T E : Type 0} {P : Type 0} (r : Result T E) → P → OnErr r P
at_error (Ok x) p = tt
at_error (Err e) p = p

-- at an error, where it follows from what is known there
pub from_error : {T E : Type 0} {P Q : Type 0} (r : Result T E) → (P → Q) → OnErr r P → OnErr r Q
from_error (Ok x) f h = tt
from_error (Err e) f h = f h

-- the note in its four pieces
pub four_pieces : (name place before variable behind words end head : List ℕ) → head ≡ place ++ before → before ++ (variable ++ behind) ≡ words ++ end →
    name ++ (place ++ (words ++ end)) ≡ (name ++ head) ++ (variable ++ behind)
four_pieces name place before variable behind words end head head_is words_are =
    ap (λ l. name ++ (place ++ l)) (sym words_are)
    ∙ ap (λ l. name ++ l) (sym (append_assoc place before (variable ++ behind)))
    ∙ ap (λ l. name ++ (l ++ (variable ++ behind))) (sym head_is)
    ∙ sym (append_assoc name head (variable ++ behind))
