-- What a sink grew by over several puts.
use Rattle.std.proofs.Common.{◌≡◌, List, ℕ, zero, suc, [], ◌∷◌, ◌++◌, take, drop, Result, Ok, Err, OnOk, OnErr, refl, sym, ap, ◌∙◌, subst, append_assoc, append-nil}
use Rattle.zir_outside.specs.Sinks.{Grew, GrewPart}
use Rattle.zir_end_notes.specs.Pieces.{Adds, AddsPart}

-- first the one and then the other
pub grew_both : (a b c : List ℕ → Type 0) (first second : List ℕ) → Grew a b first → Grew b c second → Grew a c (first ++ second)
grew_both a b c first second one two h is = subst c (append_assoc h first second) (two (h ++ first) (one h is))

-- the first and a front part of the other
pub part_behind : (a b c : List ℕ → Type 0) (first second : List ℕ) → Grew a b first → GrewPart second b c → GrewPart (first ++ second) a c
part_behind a b c first second one part =
    (first ++ part.0, part.1, ap (λ l. first ++ l) part.2 ∙ sym (append_assoc first part.0 part.1), grew_both a b c first part.0 one part.3)

-- a front part of the first
pub part_before : (a b : List ℕ → Type 0) (first second : List ℕ) → GrewPart first a b → GrewPart (first ++ second) a b
part_before a b first second part = (part.0, part.1 ++ second, ap (λ l. l ++ second) part.2 ∙ append_assoc part.0 part.1 second, part.3)

-- at an answer, where it follows from what is known there
pub from_ok : {T E P Q : Type 0} (r : Result T E) → (P → Q) → OnOk r P → OnOk r Q
from_ok (Ok x) f h = f h
from_ok (Err e) f h = tt

pub from_error : {T E P Q : Type 0} (r : Result T E) → (P → Q) → OnErr r P → OnErr r Q
from_error (Ok x) f h = tt
from_error (Err e) f h = f h

-- at an error, where it holds anyway
pub at_error : {T E P : Type 0} (r : Result T E) → P → OnErr r P
at_error (Ok x) p = tt
at_error (Err e) p = p

-- a list in two parts
pub in_parts : (l : List ℕ) (i : ℕ) → take i l ++ drop i l ≡ l
in_parts [] zero = refl
in_parts [] (suc i) = refl
in_parts (x ∷ l) zero = refl
in_parts (x ∷ l) (suc i) = ap (λ r. x ∷ r) (in_parts l i)

-- ---- texts behind the bytes that are held

-- nothing was put
pub grew_none : (a : List ℕ → Type 0) → Grew a a []
grew_none a h is = subst a (sym (append-nil h)) is

-- all that was held was put, and a byte is held
pub byte_behind : (a b : List ℕ → Type 0) (h : List ℕ) (byte : ℕ) → Grew a b h → Adds a b h (byte ∷ []) (byte ∷ [])
byte_behind a b h byte grew = record { front = h; split = refl; grew = grew }

-- one text behind another
infixl 20 ◌▸◌
pub ◌▸◌ : {a b c : List ℕ → Type 0} {h i j s t : List ℕ} → Adds a b h i s → Adds b c i j t → Adds a c h j (s ++ t)
◌▸◌ {a = a} {b = b} {c = c} {h = h} {i = i} {j = j} {s = s} {t = t} x y = record {
  front = x.front ++ y.front;
  split = sym (append_assoc h s t) ∙ ap (λ l. l ++ t) x.split ∙ append_assoc x.front i t ∙ ap (λ l. x.front ++ l) y.split ∙ sym (append_assoc x.front y.front j);
  grew = grew_both a b c x.front y.front x.grew y.grew;
}

-- the same text
pub adds_as : {a b : List ℕ → Type 0} {h i s : List ℕ} (t : List ℕ) → s ≡ t → Adds a b h i s → Adds a b h i t
adds_as {a = a} {b = b} {h = h} {i = i} t is x = subst (λ l. Adds a b h i l) is x

pub part_as : {a b : List ℕ → Type 0} {h s : List ℕ} (t : List ℕ) → s ≡ t → AddsPart a b h s → AddsPart a b h t
part_as {a = a} {b = b} {h = h} t is x = subst (λ l. AddsPart a b h l) is x

-- a front part of the first text
pub part_first : {a b : List ℕ → Type 0} {h s : List ℕ} (t : List ℕ) → AddsPart a b h s → AddsPart a b h (s ++ t)
part_first {a = a} {b = b} {h = h} {s = s} t x = record { part = subst (λ l. GrewPart l a b) (append_assoc h s t) (part_before a b (h ++ s) t x.part) }

-- a front part of a text behind another
pub part_next : {a b c : List ℕ → Type 0} {h i s t : List ℕ} → Adds a b h i s → AddsPart b c i t → AddsPart a c h (s ++ t)
part_next {a = a} {b = b} {c = c} {h = h} {i = i} {s = s} {t = t} x y = record {
  part = subst (λ l. GrewPart l a c) (sym (append_assoc x.front i t) ∙ ap (λ l. l ++ t) (sym x.split) ∙ append_assoc h s t) (part_behind a b c x.front (i ++ t) x.grew y.part);
}

-- what is held is put at last
pub grew_all : {a b : List ℕ → Type 0} {i s : List ℕ} (c : List ℕ → Type 0) → Adds a b [] i s → Grew b c i → Grew a c s
grew_all {a = a} {b = b} {i = i} c x grew = subst (λ l. Grew a c l) (sym x.split) (grew_both a b c x.front i x.grew grew)

pub part_all : {a b : List ℕ → Type 0} {i s : List ℕ} (c : List ℕ → Type 0) → Adds a b [] i s → GrewPart i b c → GrewPart s a c
part_all {a = a} {b = b} {i = i} c x part = subst (λ l. GrewPart l a c) (sym x.split) (part_behind a b c x.front i x.grew part)

-- nothing was held at first
pub begun : {a b : List ℕ → Type 0} {h i s : List ℕ} → h ≡ [] → Adds a b h i s → Adds a b [] i s
begun {a = a} {b = b} {i = i} {s = s} empty x = subst (λ l. Adds a b l i s) empty x

pub part_begun : {h s : List ℕ} (a b : List ℕ → Type 0) → h ≡ [] → AddsPart a b h s → GrewPart s a b
part_begun {s = s} a b empty x = subst (λ l. GrewPart (l ++ s) a b) empty x.part
