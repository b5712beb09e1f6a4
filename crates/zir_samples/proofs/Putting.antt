-- What an output keeps after more bits, and what it puts.
use Rattle.std.proofs.Common.{ℕ, zero, suc, ◌+◌, ◌-◌, ◌*◌, ◌/◌, ◌%◌, ◌^◌, ◌<◌, ◌≤◌, ◌≡◌, Bool, true, false, List, [], ◌∷◌, ◌++◌, length, refl, ap, sym, ◌∙◌, subst, inl, inr, ◌⊎◌, get_or, take, drop, arith, rules, append_assoc, length-append, drop-cons, zero-add}
use Rattle.std.proofs.lemmas.List.{append-nil, take-append-drop, take_more}
use Rattle.std.proofs.lemmas.List.Elements.{All-append}
use Rattle.std.proofs.lemmas.Nat.{shr-shr}
use Rattle.std.specs.Prelude.{All, nat_eq, OnErr, Result, Ok, Err}
use Rattle.zir_meaning.specs.Samples.{bits_of, low_bits, spell_bits}
use Rattle.zir_outside.specs.Sinks.{Grew, GrewPart}
use Rattle.zir_samples.specs.Output.{IsWritten, pending, Puts}
use Rattle.zir_samples.proofs.Numbers.{half-pow, mod-more}
use Rattle.zir_samples.proofs.Spelling.{bits-append, length-bits_of, length-low_bits, number-low_bits, spell-bits_of, spell-few, spell-few-none, spell-front}

-- a sink that is left alone grew by nothing
pub grew_by_nothing : (stands : List ℕ → Type 0) → Grew stands stands []
grew_by_nothing stands h held = subst stands (sym (append-nil h)) held

-- no bit is put
pub puts_nothing : {K : Type 0} (stands_for : K → List ℕ → Type 0) (sink : K) (old new : List Bool) → old ≡ new → Puts stands_for sink sink old new
puts_nothing stands_for sink old new e = record { front = []; whole = λ k d h. absurd (omega arith); bits = e; grew = grew_by_nothing (stands_for sink); pieces = refl; left = λ e. refl }

-- one more bit of a byte
pub bit_more : (piece : List ℕ) (count byte more : ℕ) (bit : Bool) → low_bits (suc count) more ≡ low_bits count byte ++ bit ∷ [] → pending piece count byte ++ bit ∷ [] ≡ pending piece (suc count) more
bit_more piece count byte more bit e = append_assoc (bits_of piece) (low_bits count byte) (bit ∷ []) ∙ ap (λ bits. bits_of piece ++ bits) (sym e)

-- the last bit of a byte
pub byte_more : (piece : List ℕ) (count byte more : ℕ) (bit : Bool) → count ≡ 7 → low_bits (suc count) more ≡ low_bits count byte ++ bit ∷ [] → pending piece count byte ++ bit ∷ [] ≡ bits_of (piece ++ more ∷ [])
byte_more piece count byte more bit full e =
    bit_more piece count byte more bit e
    ∙ ap (λ k. pending piece (suc k) more) full
    ∙ ap (λ bits. bits_of piece ++ bits) (sym (append-nil (low_bits 8 more)))
    ∙ sym (bits-append piece (more ∷ []))

-- how many bits are pending
pub length-pending : (piece : List ℕ) (count byte : ℕ) → length (pending piece count byte) ≡ 8 * length piece + count
length-pending piece count byte = length-append (bits_of piece) (low_bits count byte) ∙ omega (arith, length-bits_of piece, length-low_bits count byte)

-- the bits of whole bytes spell them, padded or not
pub spell-whole : (finished : Bool) (piece : List ℕ) → All (λ b. b < 256) piece → spell_bits finished (bits_of piece) ≡ piece
spell-whole f piece whole = ap (spell_bits f) (sym (append-nil (bits_of piece))) ∙ spell-bits_of f piece [] whole ∙ append-nil piece

-- padded, the bits of a last byte spell it
pub spell-pending : (piece : List ℕ) (count byte : ℕ) → IsWritten piece count byte → 0 < count → spell_bits true (pending piece count byte) ≡ piece ++ byte ∷ []
spell-pending piece count byte h some =
    spell-bits_of true piece (low_bits count byte) h.whole
    ∙ ap (λ bytes. piece ++ bytes) (spell-few (low_bits count byte) (rw length-low_bits some) (rw length-low_bits h.few) ∙ ap (λ n. n ∷ []) (number-low_bits count byte h.low))

-- where they are not padded, or there are none, only whole bytes are spelled
pub spell-pending-whole : (padded : Bool) (piece : List ℕ) (count byte : ℕ) → IsWritten piece count byte → (padded ≡ false) ⊎ (count ≡ 0) → spell_bits padded (pending piece count byte) ≡ piece
spell-pending-whole padded piece count byte h (inl e) =
    ap (λ f. spell_bits f (pending piece count byte)) e
    ∙ spell-bits_of false piece (low_bits count byte) h.whole
    ∙ ap (λ bytes. piece ++ bytes) (spell-few-none (low_bits count byte) (rw length-low_bits h.few))
    ∙ append-nil piece
spell-pending-whole padded piece count byte h (inr e) =
    ap (λ k. spell_bits padded (pending piece k byte)) e
    ∙ spell-bits_of padded piece [] h.whole
    ∙ append-nil piece

-- a byte behind whole bytes
pub byte_whole : (piece : List ℕ) (count byte more : ℕ) → count ≡ 0 → pending piece count byte ++ low_bits 8 more ≡ bits_of (piece ++ more ∷ [])
byte_whole piece count byte more none =
    ap (λ k. pending piece k byte ++ low_bits 8 more) none
    ∙ ap (λ bits. bits ++ low_bits 8 more) (append-nil (bits_of piece))
    ∙ ap (λ bits. bits_of piece ++ bits) (sym (append-nil (low_bits 8 more)))
    ∙ sym (bits-append piece (more ∷ []))

-- where whole bytes are pending no bit is
pub no_bits : (piece : List ℕ) (count byte : ℕ) → count ≤ 7 → length (pending piece count byte) % 8 ≡ 0 → count ≡ 0
no_bits piece count byte few whole = omega (arith, length-pending piece count byte, whole)

-- whole bytes alone are pending
pub pending-none : (piece : List ℕ) → pending piece 0 0 ≡ bits_of piece
pending-none piece = append-nil (bits_of piece)

-- what is put, by other words for what was and is pending
pub puts_same : {K : Type 0} (stands_for : K → List ℕ → Type 0) (before now : K) (old new was is : List Bool) → was ≡ old → is ≡ new → Puts stands_for before now old new → Puts stands_for before now was is
puts_same stands_for before now old new was is e f p = record {
  front = p.front;
  whole = p.whole;
  bits = e ∙ p.bits ∙ ap (λ bits. bits_of p.front ++ bits) (sym f);
  grew = p.grew;
  pieces = p.pieces;
  left = p.left;
}

-- nothing stands before an empty whole
none_before : (xs ys : List ℕ) → xs ++ ys ≡ [] → xs ≡ []
none_before [] ys e = refl
none_before (x ∷ xs) ys e = absurd (omega (arith, ap length e))

-- nothing stands behind in an empty whole
none_behind : (xs ys : List ℕ) → xs ++ ys ≡ [] → ys ≡ []
none_behind [] ys e = e
none_behind (x ∷ xs) ys e = absurd (omega (arith, ap length e))

-- two pieces of whole bytes are whole bytes
pub all-append : (xs ys : List ℕ) → All (λ b. b < 256) xs → All (λ b. b < 256) ys → All (λ b. b < 256) (xs ++ ys)
all-append xs ys h k = search (rules, All-append)

-- a sink that grew twice grew by both
grew_twice : (a b c : List ℕ → Type 0) (xs ys : List ℕ) → Grew a b xs → Grew b c ys → Grew a c (xs ++ ys)
grew_twice a b c xs ys f g h held = subst c (append_assoc h xs ys) (g (h ++ xs) (f h held))

-- what is put, and then what is put of more bits
pub puts_then : {K : Type 0} (stands_for : K → List ℕ → Type 0) (before mid now : K) (old more kept new : List Bool) → Puts stands_for before mid old kept → Puts stands_for mid now (kept ++ more) new → Puts stands_for before now (old ++ more) new
puts_then stands_for before mid now old more kept new p q = record {
  front = p.front ++ q.front;
  whole = all-append p.front q.front p.whole q.whole;
  bits =
      ap (λ bits. bits ++ more) p.bits
      ∙ append_assoc (bits_of p.front) kept more
      ∙ ap (λ bits. bits_of p.front ++ bits) q.bits
      ∙ sym (append_assoc (bits_of p.front) (bits_of q.front) new)
      ∙ ap (λ bits. bits ++ new) (sym (bits-append p.front q.front));
  grew = grew_twice (stands_for before) (stands_for mid) (stands_for now) p.front q.front p.grew q.grew;
  pieces = omega (arith, length-append p.front q.front, p.pieces, q.pieces);
  left = λ e. q.left (none_behind p.front q.front e) ∙ p.left (none_before p.front q.front e);
}

-- a front part that went to a sink after what was put
pub part_then : {K : Type 0} (stands_for : K → List ℕ → Type 0) (before mid now : K) (old more kept : List Bool) → Puts stands_for before mid old kept → GrewPart (spell_bits false (kept ++ more)) (stands_for mid) (stands_for now) → GrewPart (spell_bits false (old ++ more)) (stands_for before) (stands_for now)
part_then stands_for before mid now old more kept p (front, rest, e, grew) = (
  p.front ++ front,
  rest,
  ap (λ bits. spell_bits false (bits ++ more)) p.bits
      ∙ ap (spell_bits false) (append_assoc (bits_of p.front) kept more)
      ∙ spell-bits_of false p.front (kept ++ more) p.whole
      ∙ ap (λ bytes. p.front ++ bytes) e
      ∙ sym (append_assoc p.front front rest),
  grew_twice (stands_for before) (stands_for mid) (stands_for now) p.front front p.grew grew,
)

-- a front part of what bits spell is one of what more bits spell
pub part_more : (old now : List ℕ → Type 0) (bits more : List Bool) → GrewPart (spell_bits false bits) old now → GrewPart (spell_bits false (bits ++ more)) old now
part_more old now bits more (front, rest, e, grew) =
    let whole = spell-front false bits more in
    (front, rest ++ whole.0, whole.1 ∙ ap (λ bytes. bytes ++ whole.0) e ∙ append_assoc front rest whole.0, grew)

-- the bits of bytes by those of one of them
pub bits-at : (bytes : List ℕ) (i : ℕ) → i < length bytes → bits_of bytes ≡ bits_of (take i bytes) ++ (low_bits 8 (get_or bytes i 0) ++ bits_of (drop (suc i) bytes))
bits-at bytes i h =
    ap bits_of (sym (take-append-drop i bytes) ∙ ap (λ bs. take i bytes ++ bs) (drop-cons bytes i 0 h))
    ∙ bits-append (take i bytes) (get_or bytes i 0 ∷ drop (suc i) bytes)

-- the bits of some bytes and of one more
pub bits-more : (bytes : List ℕ) (i : ℕ) (old : List Bool) → i < length bytes → old ++ bits_of (take (i + 1) bytes) ≡ (old ++ bits_of (take i bytes)) ++ low_bits 8 (get_or bytes i 0)
bits-more bytes i old h =
    ap (λ bs. old ++ bits_of bs) (take_more bytes i 0 h)
    ∙ ap (λ bits. old ++ bits) (bits-append (take i bytes) (get_or bytes i 0 ∷ []) ∙ ap (λ bits. bits_of (take i bytes) ++ bits) (append-nil (low_bits 8 (get_or bytes i 0))))
    ∙ sym (append_assoc old (bits_of (take i bytes)) (low_bits 8 (get_or bytes i 0)))

-- a front part of what some bits spell is one of what all of them spell
pub part_whole : (before now : List ℕ → Type 0) (old front mid back all : List Bool) → all ≡ front ++ (mid ++ back) → GrewPart (spell_bits false ((old ++ front) ++ mid)) before now → GrewPart (spell_bits false (old ++ all)) before now
part_whole before now old front mid back all e part =
    subst (λ bits. GrewPart (spell_bits false bits) before now)
    (append_assoc (old ++ front) mid back ∙ append_assoc old front (mid ++ back) ∙ ap (λ bits. old ++ bits) (sym e))
    (part_more before now ((old ++ front) ++ mid) back part)

-- the lowest bits of a number in two parts
pub low_bits-parts : (j k n : ℕ) → low_bits (j + k) n ≡ low_bits j n ++ low_bits k (n / 2 ^ j)
low_bits-parts zero k n = ap (λ m. low_bits m n) (zero-add k) ∙ ap (low_bits k) (let e : n ≡ n / 2 ^ 0 = omega arith in e)
low_bits-parts (suc j) k n =
    ap (λ m. low_bits m n) (let e : suc j + k ≡ suc (j + k) = omega arith in e)
    ∙ ap (λ bits. nat_eq (n % 2) 1 ∷ bits) (low_bits-parts j k (n / 2) ∙ ap (λ m. low_bits j (n / 2) ++ low_bits k m) (half-pow j n))

-- the lowest bits of a number are those of its rest
pub low_bits-mod : (k n : ℕ) → low_bits k (n % 2 ^ k) ≡ low_bits k n
low_bits-mod zero n = refl
low_bits-mod (suc k) n =
    let q = n / 2 % 2 ^ k in
    let odd : (n % 2 + 2 * q) % 2 ≡ n % 2 = omega arith in
    let half : (n % 2 + 2 * q) / 2 ≡ q = omega arith in
    ap (low_bits (suc k)) (mod-more k n)
    ∙ ap (λ m. nat_eq m 1 ∷ low_bits k ((n % 2 + 2 * q) / 2)) odd
    ∙ ap (λ m. nat_eq (n % 2) 1 ∷ low_bits k m) half
    ∙ ap (λ bits. nat_eq (n % 2) 1 ∷ bits) (low_bits-mod k (n / 2))

-- the lowest bits of a number and those of its next byte
pub byte-behind : (i n left : ℕ) → left ≡ n / 2 ^ (8 * i) → low_bits (8 * (i + 1)) n ≡ low_bits (8 * i) n ++ low_bits 8 (left % 256)
byte-behind i n left e =
    ap (λ k. low_bits k n) (let f : 8 * (i + 1) ≡ 8 * i + 8 = omega arith in f)
    ∙ low_bits-parts (8 * i) 8 n
    ∙ ap (λ m. low_bits (8 * i) n ++ low_bits 8 m) (sym e)
    ∙ ap (λ bits. low_bits (8 * i) n ++ bits) (sym (low_bits-mod 8 left))

-- the bits of a number by those of one of its bytes
pub byte-within : (count i n left : ℕ) → i < count → left ≡ n / 2 ^ (8 * i) → low_bits (8 * count) n ≡ low_bits (8 * i) n ++ (low_bits 8 (left % 256) ++ low_bits (8 * (count - (i + 1))) (n / 2 ^ (8 * (i + 1))))
byte-within count i n left h e =
    ap (λ k. low_bits k n) (let f : 8 * count ≡ 8 * (i + 1) + 8 * (count - (i + 1)) = omega arith in f)
    ∙ low_bits-parts (8 * (i + 1)) (8 * (count - (i + 1))) n
    ∙ ap (λ bits. bits ++ low_bits (8 * (count - (i + 1))) (n / 2 ^ (8 * (i + 1)))) (byte-behind i n left e)
    ∙ append_assoc (low_bits (8 * i) n) (low_bits 8 (left % 256)) (low_bits (8 * (count - (i + 1))) (n / 2 ^ (8 * (i + 1))))

-- what is left of a number behind one more byte
pub left-behind : (i n left : ℕ) → left ≡ n / 2 ^ (8 * i) → left / 256 ≡ n / 2 ^ (8 * (i + 1))
left-behind i n left e = ap (λ m. m / 256) e ∙ shr-shr n (8 * i) 8 ∙ ap (λ k. n / 2 ^ k) (let f : 8 * i + 8 ≡ 8 * (i + 1) = omega arith in f)

-- what holds anyway holds where there is an error
pub on_err_any : {T E P : Type 0} (result : Result T E) → P → OnErr result P
on_err_any (Ok value) p = tt
on_err_any (Err error) p = p

-- what a sink grew by after what was put
pub rest_then : {K : Type 0} (stands_for : K → List ℕ → Type 0) (before mid now : K) (finished : Bool) (old kept : List Bool) → Puts stands_for before mid old kept → Grew (stands_for mid) (stands_for now) (spell_bits finished kept) → Grew (stands_for before) (stands_for now) (spell_bits finished old)
rest_then stands_for before mid now finished old kept p grew =
    subst (Grew (stands_for before) (stands_for now))
    (sym (ap (spell_bits finished) p.bits ∙ spell-bits_of finished p.front kept p.whole))
    (grew_twice (stands_for before) (stands_for mid) (stands_for now) p.front (spell_bits finished kept) p.grew grew)

-- what a sink grew by in part after what was put
pub part_rest : {K : Type 0} (stands_for : K → List ℕ → Type 0) (before mid now : K) (finished : Bool) (old kept : List Bool) → Puts stands_for before mid old kept → GrewPart (spell_bits finished kept) (stands_for mid) (stands_for now) → GrewPart (spell_bits finished old) (stands_for before) (stands_for now)
part_rest stands_for before mid now finished old kept p (front, rest, e, grew) = (
  p.front ++ front,
  rest,
  ap (spell_bits finished) p.bits
      ∙ spell-bits_of finished p.front kept p.whole
      ∙ ap (λ bytes. p.front ++ bytes) e
      ∙ sym (append_assoc p.front front rest),
  grew_twice (stands_for before) (stands_for mid) (stands_for now) p.front front p.grew grew,
)

-- a front part of what bits spell is one of what they spell at the end
pub part_padded : (old now : List ℕ → Type 0) (bits : List Bool) → GrewPart (spell_bits false bits) old now → GrewPart (spell_bits true bits) old now
part_padded old now bits (front, rest, e, grew) =
    let whole = spell-front true bits [] in
    (front, rest ++ whole.0, ap (spell_bits true) (sym (append-nil bits)) ∙ whole.1 ∙ ap (λ bytes. bytes ++ whole.0) e ∙ append_assoc front rest whole.0, grew)

-- the bits of two texts behind others
texts-behind : (old : List Bool) (front back : List ℕ) → (old ++ bits_of front) ++ bits_of back ≡ old ++ bits_of (front ++ back)
texts-behind old front back = append_assoc old (bits_of front) (bits_of back) ∙ ap (λ bits. old ++ bits) (sym (bits-append front back))

-- a text that is put behind another
pub text_then : {K : Type 0} (stands_for : K → List ℕ → Type 0) (before mid now : K) (old kept new : List Bool) (front back text : List ℕ) → text ≡ back → Puts stands_for before mid (old ++ bits_of front) kept → Puts stands_for mid now (kept ++ bits_of text) new → Puts stands_for before now (old ++ bits_of (front ++ back)) new
text_then stands_for before mid now old kept new front back text e p q =
    subst (λ bits. Puts stands_for before now bits new)
    (ap (λ t. (old ++ bits_of front) ++ bits_of t) e ∙ texts-behind old front back)
    (puts_then stands_for before mid now (old ++ bits_of front) (bits_of text) kept new p q)

-- a front part of a text that is put behind another
pub text_part : {K : Type 0} (stands_for : K → List ℕ → Type 0) (before mid now : K) (old kept : List Bool) (front back text : List ℕ) → text ≡ back → Puts stands_for before mid (old ++ bits_of front) kept → GrewPart (spell_bits false (kept ++ bits_of text)) (stands_for mid) (stands_for now) → GrewPart (spell_bits false (old ++ bits_of (front ++ back))) (stands_for before) (stands_for now)
text_part stands_for before mid now old kept front back text e p part =
    subst (λ bits. GrewPart (spell_bits false bits) (stands_for before) (stands_for now))
    (ap (λ t. (old ++ bits_of front) ++ bits_of t) e ∙ texts-behind old front back)
    (part_then stands_for before mid now (old ++ bits_of front) (bits_of text) kept p part)

-- a front part of a text in front of another
pub text_front : (before now : List ℕ → Type 0) (old : List Bool) (front back : List ℕ) → GrewPart (spell_bits false (old ++ bits_of front)) before now → GrewPart (spell_bits false (old ++ bits_of (front ++ back))) before now
text_front before now old front back part =
    subst (λ bits. GrewPart (spell_bits false bits) before now) (texts-behind old front back) (part_more before now (old ++ bits_of front) (bits_of back) part)
