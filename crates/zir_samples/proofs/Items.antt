-- Items of a text.
use Rattle.std.proofs.Common.{ℕ, zero, suc, ◌+◌, ◌<◌, ◌≤◌, ◌≡◌, ℤ, Bool, true, false, Option, Some, None, List, [], ◌∷◌, ◌++◌, length, get_or, take, drop, refl, ap, sym, ◌∙◌, subst, arith, drop-cons}
use Rattle.std.proofs.lemmas.Bool.Decides.{nat_tests}
use Rattle.std.proofs.lemmas.List.{take-append-drop, length-take-le, length_push, drop_all}
use Rattle.std.specs.List.{list_all}
use Rattle.std.specs.Prelude.{if◌then◌else◌, nat_eq, nat_le, is_some, is_none, map, not, ◌&&◌, ◌||◌}
use Rattle.zir_tree.specs.declared.types.Base.{Base}
use Rattle.zir_meaning.specs.Items.{fits, Item}
use Rattle.zir_meaning.specs.Texts.{Cut, cut_at_commas, cut_items, cut_more, is_blank, is_end, item_before_comma, item_before_end, item_of, last_items, may_go_on, trimmed, with_byte, written_number}
use Rattle.zir_samples.specs.Reading.{front_of, in_range, items_of, IsUncut, Reads}

-- a number as an item of so many bytes
abbrev pub as_item : ℕ → Option ℤ → Option Item
as_item size None = None
as_item size (Some z) = Some (record { number = z; size = size })

-- an item of at most 64 bytes
pub item-short : (base : Base) (size : ℕ) (number : Option ℤ) → size ≤ 64 → item_of base size number ≡ as_item size (in_range base number)
item-short base size None h = refl
item-short base size (Some z) h =
    let short : nat_le size 64 ≡ true = grind (arith, nat_tests) in
    let found : Option Item = Some (record { number = z; size = size }) in
    ap (λ t. if fits base z && t then found else None) short ∙ either (fits base z)
  where
    either : (b : Bool) → (let found : Option Item = Some (record { number = z; size = size }) in if b && true then found else None) ≡ as_item size (if b then Some z else None)
    either true = refl
    either false = refl

-- no item has more than 64 bytes
pub item-long : (base : Base) (size : ℕ) (number : Option ℤ) → 64 < size → item_of base size number ≡ None
item-long base size None h = refl
item-long base size (Some z) h =
    let long : nat_le size 64 ≡ false = grind (arith, nat_tests) in
    let found : Option Item = Some (record { number = z; size = size }) in
    ap (λ t. if fits base z && t then found else None) long ∙ either found (fits base z)
  where
    either : (found : Option Item) (b : Bool) → (if b && false then found else None) ≡ None
    either found true = refl
    either found false = refl

-- a text without commas is all behind them
pub cut-none : (bytes : List ℕ) → IsUncut bytes → cut_at_commas bytes ≡ record { before_commas = []; behind = bytes }
cut-none [] h = refl
cut-none (b ∷ bytes) h = ap (cut_more b) (cut-none bytes h.1) ∙ ap (λ t. if t then record { before_commas = [] ∷ []; behind = bytes } else record { before_commas = []; behind = b ∷ bytes }) h.0

-- a text cut at its first comma
pub cut-comma : (front rest : List ℕ) → IsUncut front → cut_at_commas (front ++ 44 ∷ rest) ≡ record { before_commas = front ∷ (cut_at_commas rest).before_commas; behind = (cut_at_commas rest).behind }
cut-comma [] rest h = refl
cut-comma (b ∷ front) rest h =
    let cut = cut_at_commas rest in
    ap (cut_more b) (cut-comma front rest h.1)
    ∙ ap (λ t. if t then record { before_commas = [] ∷ front ∷ cut.before_commas; behind = cut.behind } else record { before_commas = (b ∷ front) ∷ cut.before_commas; behind = cut.behind }) h.0

-- a byte that is no comma behind bytes that are none
pub uncut-push : (bytes : List ℕ) (b : ℕ) → IsUncut bytes → nat_eq b 44 ≡ false → IsUncut (bytes ++ b ∷ [])
uncut-push [] b h e = (e, tt)
uncut-push (x ∷ bytes) b h e = (h.0, uncut-push bytes b h.1 e)

-- the items of a text without commas
pub items-uncut : (base : Base) (closed : Bool) (bytes : List ℕ) → IsUncut bytes → items_of base closed bytes ≡ last_items base closed bytes
items-uncut base closed bytes h = ap (cut_items base closed) (cut-none bytes h)

-- what an item in front of others reads as
reads-item : (base : Base) (closed : Bool) (bytes : List ℕ) (size : ℕ) (number : Option ℤ) → size ≤ 64 → size ≤ length bytes → items_of base closed bytes ≡ as_item size number ∷ items_of base closed (drop size bytes) → Reads base closed bytes (front_of number size)
reads-item base closed bytes size None short within e = (items_of base closed (drop size bytes), e)
reads-item base closed bytes size (Some z) short within e = (within, short, e)

-- an item before a comma
pub reads-comma : (base : Base) (closed : Bool) (bytes : List ℕ) (at : ℕ) → at < 64 → at < length bytes → get_or bytes at 0 ≡ 44 → IsUncut (take at bytes) → Reads base closed bytes (front_of (in_range base (written_number (trimmed (take at bytes)))) (at + 1))
reads-comma base closed bytes at short within comma uncut =
    let front = take at bytes in
    let rest = drop (suc at) bytes in
    let number = written_number (trimmed front) in
    let size : length front ≡ at = length-take-le at bytes (omega arith) in
    let split : bytes ≡ front ++ 44 ∷ rest = sym (take-append-drop at bytes) ∙ ap (λ bs. front ++ bs) (drop-cons bytes at 0 within ∙ ap (λ b. b ∷ rest) comma) in
    let next : rest ≡ drop (at + 1) bytes = ap (λ k. drop k bytes) (let e : suc at ≡ at + 1 = omega arith in e) in
    let first : item_before_comma base front ≡ as_item (at + 1) (in_range base number) = ap (λ k. item_of base (k + 1) number) size ∙ item-short base (at + 1) number (omega arith) in
    reads-item base closed bytes (at + 1) (in_range base number) (omega arith) (omega arith)
    (ap (items_of base closed) split
    ∙ ap (cut_items base closed) (cut-comma front rest uncut)
    ∙ ap (λ item. item ∷ items_of base closed rest) first
    ∙ ap (λ bs. as_item (at + 1) (in_range base number) ∷ items_of base closed bs) next)

-- white space at the end is short
blank-end : (bytes : List ℕ) → length bytes ≤ 64 → list_all is_blank bytes ≡ true → is_end bytes ≡ true
blank-end bytes short blank =
    let few : nat_le (length bytes) 64 ≡ true = grind (arith, nat_tests) in
    ap (λ t. t && nat_le (length bytes) 64) blank ∙ few

-- other bytes are no end
other-end : (bytes : List ℕ) → list_all is_blank bytes ≡ false → is_end bytes ≡ false
other-end bytes other = ap (λ t. t && nat_le (length bytes) 64) other

-- white space is nothing yet
pub reads-blank : (base : Base) (closed : Bool) (bytes : List ℕ) → length bytes ≤ 64 → IsUncut bytes → list_all is_blank bytes ≡ true → items_of base closed bytes ≡ []
reads-blank base true bytes short uncut blank =
    items-uncut base true bytes uncut ∙ ap (λ t. if t then [] else item_before_end base bytes ∷ []) (blank-end bytes short blank)
reads-blank base false bytes short uncut blank =
    items-uncut base false bytes uncut
    ∙ ap (λ t. if t || not (is_none (item_before_end base bytes)) || not (is_none (item_before_end base (bytes ++ 48 ∷ []))) then [] else None ∷ []) (blank-end bytes short blank)

-- the last item of a text
pub reads-last : (base : Base) (bytes : List ℕ) → length bytes ≤ 64 → IsUncut bytes → list_all is_blank bytes ≡ false → Reads base true bytes (front_of (in_range base (written_number (trimmed bytes))) (length bytes))
reads-last base bytes short uncut other =
    let number = written_number (trimmed bytes) in
    let none : drop (length bytes) bytes ≡ [] = drop_all (length bytes) bytes (omega arith) in
    reads-item base true bytes (length bytes) (in_range base number) short (omega arith)
    (items-uncut base true bytes uncut
    ∙ ap (λ t. if t then [] else item_before_end base bytes ∷ []) (other-end bytes other)
    ∙ ap (λ item. item ∷ []) (item-short base (length bytes) number short)
    ∙ ap (λ bs. as_item (length bytes) (in_range base number) ∷ items_of base true bs) (sym none))

-- bytes at the end of an open text that more of them may follow
pub reads-open : (base : Base) (bytes : List ℕ) (t : Bool) → IsUncut bytes → t ≡ may_go_on base bytes → items_of base false bytes ≡ (if t then [] else None ∷ [])
reads-open base bytes t uncut e = items-uncut base false bytes uncut ∙ ap (λ t. if t then [] else None ∷ []) (sym e)

-- a text whose first part is longer than so many bytes
abbrev pub LongCut : ℕ → List (List ℕ) → List ℕ → Type 0
LongCut n [] behind = n < length behind
LongCut n (part ∷ parts) behind = n ≤ length part

-- one more byte in front
long-byte : (n b : ℕ) (parts : List (List ℕ)) (behind : List ℕ) → LongCut n parts behind → LongCut (suc n) (with_byte b parts behind).before_commas (with_byte b parts behind).behind
long-byte n b [] behind h = omega (arith, h)
long-byte n b (part ∷ parts) behind h = omega (arith, h)

-- a byte in front is a part or of one
long-one : (b : ℕ) (cut : Cut) → LongCut 0 (cut_more b cut).before_commas (cut_more b cut).behind
long-one b cut = one-of (nat_eq b 44)
  where
    front : (parts : List (List ℕ)) (behind : List ℕ) → LongCut 0 (with_byte b parts behind).before_commas (with_byte b parts behind).behind
    front [] behind = omega arith
    front (part ∷ parts) behind = omega arith

    one-of : (t : Bool) → (let more : Cut = if t then record { before_commas = [] ∷ cut.before_commas; behind = cut.behind } else with_byte b cut.before_commas cut.behind in LongCut 0 more.before_commas more.behind)
    one-of true = omega arith
    one-of false = front cut.before_commas cut.behind

-- a text without an early comma has a long first part
long-cut : (n : ℕ) (bytes : List ℕ) → IsUncut (take n bytes) → n < length bytes → LongCut n (cut_at_commas bytes).before_commas (cut_at_commas bytes).behind
long-cut n [] h some = absurd (omega arith)
long-cut zero (b ∷ bytes) h some = long-one b (cut_at_commas bytes)
long-cut (suc n) (b ∷ bytes) h some =
    let cut = cut_at_commas bytes in
    subst (λ t. let more : Cut = if t then record { before_commas = [] ∷ cut.before_commas; behind = cut.behind } else with_byte b cut.before_commas cut.behind in LongCut (suc n) more.before_commas more.behind) (sym h.0)
    (long-byte n b cut.before_commas cut.behind (long-cut n bytes h.1 (omega arith)))

-- false on the right of an and
and-false : (b : Bool) → (b && false) ≡ false
and-false true = refl
and-false false = refl

-- more than 64 bytes of white space are no end
long-end : (bytes : List ℕ) → 64 < length bytes → is_end bytes ≡ false
long-end bytes long =
    let few : nat_le (length bytes) 64 ≡ false = grind (arith, nat_tests) in
    ap (λ t. list_all is_blank bytes && t) few ∙ and-false (list_all is_blank bytes)

-- one more byte
length-digit : (bytes : List ℕ) → length (bytes ++ 48 ∷ []) ≡ length bytes + 1
length-digit bytes = length_push bytes 48

-- more than 64 bytes behind the last comma are malformed
long-last : (base : Base) (closed : Bool) (bytes : List ℕ) → 64 < length bytes → last_items base closed bytes ≡ None ∷ []
long-last base true bytes long =
    ap (λ t. if t then [] else item_before_end base bytes ∷ []) (long-end bytes long)
    ∙ ap (λ item. item ∷ []) (item-long base (length bytes) (written_number (trimmed bytes)) long)
long-last base false bytes long =
    let longer = bytes ++ 48 ∷ [] in
    let rest = not (is_none (item_before_end base longer)) in
    ap (λ t. if t || not (is_none (item_before_end base bytes)) || rest then [] else None ∷ []) (long-end bytes long)
    ∙ ap (λ item. if not (is_none item) || rest then [] else None ∷ []) (item-long base (length bytes) (written_number (trimmed bytes)) long)
    ∙ ap (λ item. if not (is_none item) then [] else None ∷ []) (item-long base (length longer) (written_number (trimmed longer)) (omega (arith, length-digit bytes, long)))

-- there is an item where there is a number
item-some : (size : ℕ) (number : Option ℤ) → not (is_none (as_item size number)) ≡ is_some number
item-some size None = refl
item-some size (Some z) = refl

-- bytes are a number of at most 64 bytes
short-some : (base : Base) (bytes : List ℕ) → length bytes ≤ 64 → not (is_none (item_before_end base bytes)) ≡ is_some (in_range base (written_number (trimmed bytes)))
short-some base bytes short = ap (λ item. not (is_none item)) (item-short base (length bytes) (written_number (trimmed bytes)) short) ∙ item-some (length bytes) (in_range base (written_number (trimmed bytes)))

-- whether more bytes may follow, where there is no number yet
pub open-more : (base : Base) (bytes : List ℕ) → length bytes ≤ 64 → list_all is_blank bytes ≡ false → may_go_on base bytes ≡ (is_some (in_range base (written_number (trimmed bytes))) || not (is_none (item_before_end base (bytes ++ 48 ∷ []))))
open-more base bytes short other =
    let rest = not (is_none (item_before_end base (bytes ++ 48 ∷ []))) in
    ap (λ t. t || not (is_none (item_before_end base bytes)) || rest) (other-end bytes other)
    ∙ ap (λ t. t || rest) (short-some base bytes short)

-- a digit has room
pub open-digit : (base : Base) (bytes : List ℕ) → length bytes < 64 → not (is_none (item_before_end base (bytes ++ 48 ∷ []))) ≡ is_some (in_range base (written_number (trimmed (bytes ++ 48 ∷ []))))
open-digit base bytes room = short-some base (bytes ++ 48 ∷ []) (omega (arith, length-digit bytes, room))

-- a digit has no room
pub open-full : (base : Base) (bytes : List ℕ) → 64 ≤ length bytes → not (is_none (item_before_end base (bytes ++ 48 ∷ []))) ≡ false
open-full base bytes full = ap (λ item. not (is_none item)) (item-long base (length (bytes ++ 48 ∷ [])) (written_number (trimmed (bytes ++ 48 ∷ []))) (omega (arith, length-digit bytes, full)))

-- a long first part is malformed
long-items : (base : Base) (closed : Bool) (cut : Cut) → LongCut 64 cut.before_commas cut.behind → (more : List (Option Item)) × (cut_items base closed cut ≡ None ∷ more)
long-items base closed cut h = by_parts cut.before_commas h
  where
    by_parts : (parts : List (List ℕ)) → LongCut 64 parts cut.behind → (more : List (Option Item)) × (map (item_before_comma base) parts ++ last_items base closed cut.behind ≡ None ∷ more)
    by_parts [] long = ([], long-last base closed cut.behind long)
    by_parts (part ∷ parts) long = (map (item_before_comma base) parts ++ last_items base closed cut.behind, ap (λ item. item ∷ (map (item_before_comma base) parts ++ last_items base closed cut.behind)) (item-long base (length part + 1) (written_number (trimmed part)) (omega arith)))

-- a text whose first 64 bytes have no comma is malformed where it is longer
pub reads-long : (base : Base) (closed : Bool) (bytes : List ℕ) → IsUncut (take 64 bytes) → 64 < length bytes → (more : List (Option Item)) × (items_of base closed bytes ≡ None ∷ more)
reads-long base closed bytes uncut long = long-items base closed (cut_at_commas bytes) (long-cut 64 bytes uncut long)
