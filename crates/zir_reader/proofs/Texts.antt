-- The first item of a text, and what more bytes behind it change.
use Rattle.std.proofs.Common.{ℕ, zero, suc, ◌+◌, ◌<◌, ◌≤◌, ◌≡◌, Bool, true, false, Option, Some, None, List, [], ◌∷◌, ◌++◌, length, length-append, take, drop, refl, ap, sym, ◌∙◌, ◌⊎◌, inl, inr, ⊎_elim, arith, append_assoc, add-one}
use Rattle.std.proofs.lemmas.Bool.{cases_Bool, cases_lt, false≢true}
use Rattle.std.proofs.lemmas.Bool.Decides.{nat_tests}
use Rattle.std.proofs.lemmas.List.{append-nil}
use Rattle.std.specs.Prelude.{if◌then◌else◌, nat_eq, nat_le, ◌&&◌}
use Rattle.zir_tree.specs.declared.format.Format.TheVariants.{Text}
use Rattle.zir_tree.specs.declared.types.Base.{Base}
use Rattle.zir_meaning.specs.Items.{fits, Item}
use Rattle.zir_meaning.specs.Texts.{cut_items, item_before_comma, item_before_end, item_of, last_items, may_go_on, trimmed, written_number}
use Rattle.zir_samples.specs.declared.text.Front.{Front}
use Rattle.zir_samples.specs.declared.text.Front.TheVariants.{Item as FrontItem, Nothing, Malformed}
use Rattle.zir_samples.specs.Reading.{IsUncut, items_of, Reads}
use Rattle.zir_samples.proofs.Items.{cut-comma, items-uncut, reads-long}
use Rattle.zir_reader.specs.Numbers.{Decides}
use Rattle.zir_reader.proofs.Mending.{no-end, no-mending}

-- a text cut at its first comma
record AtComma (bytes : List ℕ) : Type 0 where
  front : List ℕ
  rest : List ℕ
  split : bytes ≡ front ++ 44 ∷ rest
  uncut : IsUncut front

-- a text has no comma, or a first one
comma-or_none : (bytes : List ℕ) → IsUncut bytes ⊎ AtComma bytes
comma-or_none [] = inl tt
comma-or_none (b ∷ bytes) = ⊎_elim (λ e. inr (here e)) (λ e. later e (comma-or_none bytes)) (cases_Bool (nat_eq b 44))
  where
    here : nat_eq b 44 ≡ true → AtComma (b ∷ bytes)
    here e =
        let is : b ≡ 44 = grind (arith, nat_tests) in
        record { front = []; rest = bytes; split = ap (λ c. c ∷ bytes) is; uncut = tt }

    later : nat_eq b 44 ≡ false → IsUncut bytes ⊎ AtComma bytes → IsUncut (b ∷ bytes) ⊎ AtComma (b ∷ bytes)
    later e (inl uncut) = inl (e, uncut)
    later e (inr at) = inr (record { front = b ∷ at.front; rest = at.rest; split = ap (λ bs. b ∷ bs) at.split; uncut = (e, at.uncut) })

-- two texts without commas
uncut-append : (xs ys : List ℕ) → IsUncut xs → IsUncut ys → IsUncut (xs ++ ys)
uncut-append [] ys h k = k
uncut-append (x ∷ xs) ys h k = (h.0, uncut-append xs ys h.1 k)

-- the front of a text without commas
uncut-take : (n : ℕ) (xs : List ℕ) → IsUncut xs → IsUncut (take n xs)
uncut-take zero xs h = tt
uncut-take (suc n) [] h = tt
uncut-take (suc n) (x ∷ xs) h = (h.0, uncut-take n xs h.1)

-- the item before the first comma comes before those behind it
items-comma : (base : Base) (closed : Bool) (front rest : List ℕ) → IsUncut front → items_of base closed (front ++ 44 ∷ rest) ≡ item_before_comma base front ∷ items_of base closed rest
items-comma base closed front rest uncut = ap (cut_items base closed) (cut-comma front rest uncut)

-- where there is nothing yet, the bytes are few
few-bytes : (base : Base) (closed : Bool) (bytes : List ℕ) → items_of base closed bytes ≡ [] → length bytes ≤ 64
few-bytes base closed bytes h = ⊎_elim (λ long. absurd (too_long long)) (λ short. short) (cases_lt 64 (length bytes))
  where
    too_long : 64 < length bytes → ⊥
    too_long long = either (comma-or_none bytes)
      where
        either : IsUncut bytes ⊎ AtComma bytes → ⊥
        either (inl uncut) =
            let more = reads-long base closed bytes (uncut-take 64 bytes uncut) long in
            let no : None ∷ more.0 ≡ [] = sym more.1 ∙ h in
            cc no
        either (inr at) =
            let no : item_before_comma base at.front ∷ items_of base closed at.rest ≡ [] = sym (items-comma base closed at.front at.rest at.uncut) ∙ ap (items_of base closed) (sym at.split) ∙ h in
            cc no

-- an item has its size
item-size : (base : Base) (size : ℕ) (number : _) (item : Item) → item_of base size number ≡ Some item → item.size ≡ size
item-size base size None item h = cc h
item-size base size (Some z) item h = either (fits base z && nat_le size 64) h
  where
    either : (t : Bool) → (if t then Some (record { number = z; size = size }) else None) ≡ Some item → item.size ≡ size
    either true h = cc h
    either false h = cc h

-- nothing behind the last comma of an open text is an item
open-no_item : (base : Base) (bytes : List ℕ) (item : Item) (more : List (Option Item)) → last_items base false bytes ≡ Some item ∷ more → ⊥
open-no_item base bytes item more h = either (may_go_on base bytes) h
  where
    either : (t : Bool) → (let none : List (Option Item) = None ∷ [] in if t then [] else none) ≡ Some item ∷ more → ⊥
    either true h = cc h
    either false h = cc h

-- an item of an open text is one whatever follows
pub item-more : (base : Base) (bytes left : List ℕ) (item : Item) (more : List (Option Item)) → items_of base false bytes ≡ Some item ∷ more → items_of base true (bytes ++ left) ≡ Some item ∷ items_of base true (drop item.size bytes ++ left)
item-more base bytes left item more h = either (comma-or_none bytes)
  where
    either : IsUncut bytes ⊎ AtComma bytes → items_of base true (bytes ++ left) ≡ Some item ∷ items_of base true (drop item.size bytes ++ left)
    either (inl uncut) = absurd (open-no_item base bytes item more (sym (items-uncut base false bytes uncut) ∙ h))
    either (inr at) =
        let same : item_before_comma base at.front ∷ items_of base false at.rest ≡ Some item ∷ more = sym (items-comma base false at.front at.rest at.uncut) ∙ ap (items_of base false) (sym at.split) ∙ h in
        let first : item_before_comma base at.front ≡ Some item = cc same in
        let size : item.size ≡ length at.front + 1 = item-size base (length at.front + 1) (written_number (trimmed at.front)) item first in
        let behind : drop item.size bytes ≡ at.rest = ap (λ n. drop n bytes) size ∙ ap (drop (length at.front + 1)) at.split ∙ ap (λ n. drop n (at.front ++ 44 ∷ at.rest)) (add-one (length at.front)) ∙ drop-behind at.front at.rest in
        ap (λ bs. items_of base true (bs ++ left)) at.split
        ∙ ap (items_of base true) (append_assoc at.front (44 ∷ at.rest) left)
        ∙ items-comma base true at.front (at.rest ++ left) at.uncut
        ∙ ap (λ i. i ∷ items_of base true (at.rest ++ left)) first
        ∙ ap (λ bs. Some item ∷ items_of base true (bs ++ left)) (sym behind)
      where
        drop-behind : (front rest : List ℕ) → drop (suc (length front)) (front ++ 44 ∷ rest) ≡ rest
        drop-behind [] rest = refl
        drop-behind (b ∷ front) rest = drop-behind front rest

-- what is malformed at the end of an open text is so whatever follows
malformed-last : (base : Base) (bytes left : List ℕ) → IsUncut bytes → may_go_on base bytes ≡ false → (more : List (Option Item)) × (items_of base true (bytes ++ left) ≡ None ∷ more)
malformed-last base bytes left uncut h = either (comma-or_none left)
  where
    either : IsUncut left ⊎ AtComma left → (more : List (Option Item)) × (items_of base true (bytes ++ left) ≡ None ∷ more)
    either (inl none) = (
      [],
      items-uncut base true (bytes ++ left) (uncut-append bytes left uncut none)
          ∙ ap (λ t. if t then [] else item_before_end base (bytes ++ left) ∷ []) (no-end base bytes left h)
          ∙ ap (λ i. i ∷ []) (no-mending base bytes left (length (bytes ++ left)) h (omega (arith, length-append bytes left))),
    )
    either (inr at) = (
      items_of base true at.rest,
      ap (λ bs. items_of base true (bytes ++ bs)) at.split
          ∙ ap (items_of base true) (sym (append_assoc bytes at.front (44 ∷ at.rest)))
          ∙ items-comma base true (bytes ++ at.front) at.rest (uncut-append bytes at.front uncut at.uncut)
          ∙ ap (λ i. i ∷ items_of base true at.rest) (no-mending base bytes at.front (length (bytes ++ at.front) + 1) h (omega (arith, length-append bytes at.front))),
    )

-- what is malformed in an open text is so whatever follows
pub malformed-more : (base : Base) (bytes left : List ℕ) (more : List (Option Item)) → items_of base false bytes ≡ None ∷ more → (others : List (Option Item)) × (items_of base true (bytes ++ left) ≡ None ∷ others)
malformed-more base bytes left more h = either (comma-or_none bytes)
  where
    stuck : (t : Bool) → (let none : List (Option Item) = None ∷ [] in if t then [] else none) ≡ None ∷ more → t ≡ false
    stuck true h = cc h
    stuck false h = refl

    either : IsUncut bytes ⊎ AtComma bytes → (others : List (Option Item)) × (items_of base true (bytes ++ left) ≡ None ∷ others)
    either (inl uncut) = malformed-last base bytes left uncut (stuck (may_go_on base bytes) (sym (items-uncut base false bytes uncut) ∙ h))
    either (inr at) =
        let same : item_before_comma base at.front ∷ items_of base false at.rest ≡ None ∷ more = sym (items-comma base false at.front at.rest at.uncut) ∙ ap (items_of base false) (sym at.split) ∙ h in
        let first : item_before_comma base at.front ≡ None = cc same in (
          items_of base true (at.rest ++ left),
          ap (λ bs. items_of base true (bs ++ left)) at.split
              ∙ ap (items_of base true) (append_assoc at.front (44 ∷ at.rest) left)
              ∙ items-comma base true at.front (at.rest ++ left) at.uncut
              ∙ ap (λ i. i ∷ items_of base true (at.rest ++ left)) first,
        )

-- what the bytes held decide in a text
pub decides-text : (base : Base) (bytes : List ℕ) (bit : ℕ) (ended : Bool) (front : Front) → Reads base ended bytes front → Decides (record { format = Text; base = base; bytes = bytes; bit = bit; ended = ended }) front
decides-text base bytes bit true (FrontItem z size) h left = (
  h.1,
  h.0,
  ap (items_of base true) (append-nil bytes) ∙ h.2 ∙ ap (λ bs. Some (record { number = z; size = size }) ∷ items_of base true bs) (sym (append-nil (drop size bytes))),
)
decides-text base bytes bit true Nothing h left = (few-bytes base true bytes h, λ e. ap (items_of base true) (append-nil bytes) ∙ h)
decides-text base bytes bit true Malformed h left = (h.0, ap (items_of base true) (append-nil bytes) ∙ h.1)
decides-text base bytes bit false (FrontItem z size) h left = (h.1, h.0, item-more base bytes left (record { number = z; size = size }) (items_of base false (drop size bytes)) h.2)
decides-text base bytes bit false Nothing h left = (few-bytes base false bytes h, λ e. absurd (false≢true e))
decides-text base bytes bit false Malformed h left = malformed-more base bytes left h.0 h.1
