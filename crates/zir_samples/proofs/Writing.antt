-- What numbers add to an output, and what a writer has put by then.
use Rattle.std.proofs.Common.{ℕ, zero, suc, ◌+◌, ◌%◌, ◌/◌, ◌<◌, ◌≡◌, ℤ, pos, negsuc, Bool, true, false, List, [], ◌∷◌, ◌++◌, length, get_or, take, drop, refl, ap, sym, subst, ◌∙◌, arith, append_assoc, drop-cons}
use Rattle.std.proofs.lemmas.List.{append-nil, take-append-drop, take_more}
use Rattle.std.specs.Fmt.{digit_glyph, digits, digits_onto, signed_decimal}
use Rattle.std.specs.Prelude.{All, codes, decimal, flat_map, if◌then◌else◌, nat_lt, ◌==◌}
use Rattle.zir_tree.specs.declared.format.Format.{Format}
use Rattle.zir_tree.specs.declared.format.Format.TheVariants.{Binary, Text}
use Rattle.zir_tree.specs.declared.types.Base.{Base}
use Rattle.zir_meaning.specs.Samples.{bits_at, bits_of, spell_bits}
use Rattle.zir_meaning.specs.Texts.{last_newline, listed}
use Rattle.zir_meaning.specs.Elements.{spell_numbers}
use Rattle.zir_outside.specs.Sinks.{GrewPart}
use Rattle.zir_samples.specs.Output.{Puts}
use Rattle.zir_samples.specs.Writing.{added, all_added, has_numbers, Holds, Kept, output_bits, PutsPart, Wrote}
use Rattle.zir_samples.proofs.Putting.{all-append, part_then, part_whole, puts_then, spell-whole}
use Rattle.zir_samples.proofs.Spelling.{bits-append, spell-bits_of}

-- a byte in front of bytes
bytes-cons : (b : ℕ) (bs : List ℕ) → b < 256 → All (λ b. b < 256) bs → All (λ b. b < 256) (b ∷ bs)
bytes-cons b bs h all zero d lt = h
bytes-cons b bs h all (suc k) d lt = all k d (omega arith)

-- one of two lists of bytes
bytes-if : (t : Bool) (xs ys : List ℕ) → All (λ b. b < 256) xs → All (λ b. b < 256) ys → All (λ b. b < 256) (if t then xs else ys)
bytes-if true xs ys h k = h
bytes-if false xs ys h k = k

-- no byte
bytes-none : All (λ b. b < 256) []
bytes-none k d lt = absurd (omega arith)

-- one of two bytes
byte-if : (t : Bool) (a b : ℕ) → a < 256 → b < 256 → (if t then a else b) < 256
byte-if true a b h k = h
byte-if false a b h k = k

-- a decimal digit is a byte
glyph-byte : (n : ℕ) → digit_glyph false (n % 10) < 256
glyph-byte n = byte-if (nat_lt (n % 10) 10) (48 + n % 10) (87 + n % 10) (omega arith) (omega arith)

-- digits are bytes
digits-bytes : (k n : ℕ) (acc : List ℕ) → All (λ b. b < 256) acc → All (λ b. b < 256) (digits_onto k 10 false n acc)
digits-bytes zero n acc h = h
digits-bytes (suc k) n acc h =
    let more = bytes-cons (digit_glyph false (n % 10)) acc (glyph-byte n) h in
    bytes-if (n / 10 == 0) (digit_glyph false (n % 10) ∷ acc) (digits_onto k 10 false (n / 10) (digit_glyph false (n % 10) ∷ acc)) more (digits-bytes k (n / 10) (digit_glyph false (n % 10) ∷ acc) more)

-- a number in decimal is bytes
decimal-bytes : (z : ℤ) → All (λ b. b < 256) (signed_decimal z)
unfolding digits
decimal-bytes (pos n) = digits-bytes 64 n [] bytes-none
decimal-bytes (negsuc n) = bytes-cons 45 (decimal (suc n)) (omega arith) (digits-bytes 64 (suc n) [] bytes-none)

-- numbers behind commas are bytes
behind-bytes : (zs : List ℤ) → All (λ b. b < 256) (flat_map (λ z. codes "," ++ signed_decimal z) zs)
behind-bytes [] = bytes-none
behind-bytes (z ∷ zs) = bytes-cons 44 _ (omega arith) (all-append (signed_decimal z) (flat_map (λ z. codes "," ++ signed_decimal z) zs) (decimal-bytes z) (behind-bytes zs))

-- numbers with commas between them are bytes
listed-bytes : (zs : List ℤ) → All (λ b. b < 256) (listed zs)
listed-bytes [] = bytes-none
listed-bytes (z ∷ zs) = all-append (signed_decimal z) (flat_map (λ z. codes "," ++ signed_decimal z) zs) (decimal-bytes z) (behind-bytes zs)

-- the images of two lists
flat_map-append : {X A : Type 0} (f : X → List A) (xs ys : List X) → flat_map f (xs ++ ys) ≡ flat_map f xs ++ flat_map f ys
flat_map-append f [] ys = refl
flat_map-append f (x ∷ xs) ys = ap (λ zs. f x ++ zs) (flat_map-append f xs ys) ∙ sym (append_assoc (f x) (flat_map f xs) (flat_map f ys))

-- numbers and one more, with commas between them
listed-push : (numbers : List ℤ) (z : ℤ) → listed (numbers ++ z ∷ []) ≡ listed numbers ++ ((if has_numbers numbers then codes "," else []) ++ signed_decimal z)
listed-push [] z = append-nil (signed_decimal z)
listed-push (x ∷ xs) z =
    let f : ℤ → List ℕ = λ y. codes "," ++ signed_decimal y in
    ap (λ bs. signed_decimal x ++ bs) (flat_map-append f xs (z ∷ []) ∙ ap (λ bs. flat_map f xs ++ bs) (append-nil (f z)))
    ∙ sym (append_assoc (signed_decimal x) (flat_map f xs) (f z))

-- the output of numbers and of one more
output-push : (format : Format) (base : Base) (numbers : List ℤ) (z : ℤ) → output_bits format base (numbers ++ z ∷ []) ≡ output_bits format base numbers ++ added format base (has_numbers numbers) z
output-push Binary base numbers z = flat_map-append (bits_at base) numbers (z ∷ []) ∙ ap (λ bits. flat_map (bits_at base) numbers ++ bits) (append-nil (bits_at base z))
output-push Text base numbers z = ap bits_of (listed-push numbers z) ∙ bits-append (listed numbers) ((if has_numbers numbers then codes "," else []) ++ signed_decimal z)

-- there are numbers where one was added
has-more : (numbers : List ℤ) (z : ℤ) → has_numbers (numbers ++ z ∷ []) ≡ true
has-more [] z = refl
has-more (x ∷ xs) z = refl

-- the output of numbers and of more of them
pub output-more : (format : Format) (base : Base) (numbers more : List ℤ) → output_bits format base (numbers ++ more) ≡ output_bits format base numbers ++ all_added format base (has_numbers numbers) more
output-more format base numbers [] = ap (output_bits format base) (append-nil numbers) ∙ sym (append-nil (output_bits format base numbers))
output-more format base numbers (z ∷ more) =
    ap (output_bits format base) (sym (append_assoc numbers (z ∷ []) more))
    ∙ output-more format base (numbers ++ z ∷ []) more
    ∙ ap (λ some. output_bits format base (numbers ++ z ∷ []) ++ all_added format base some more) (has-more numbers z)
    ∙ ap (λ bits. bits ++ all_added format base true more) (output-push format base numbers z)
    ∙ append_assoc (output_bits format base numbers) (added format base (has_numbers numbers) z) (all_added format base true more)

-- there are numbers, with more of them
abbrev pub some_after : Bool → List ℤ → Bool
some_after some [] = some
some_after some (z ∷ zs) = true

-- there are numbers behind one
after-one : (zs : List ℤ) → some_after true zs ≡ true
after-one [] = refl
after-one (z ∷ zs) = refl

-- there are numbers in two lists
after-none : (zs : List ℤ) → some_after false zs ≡ has_numbers zs
after-none [] = refl
after-none (z ∷ zs) = refl

-- there are numbers in two lists
has-after : (numbers zs : List ℤ) → some_after (has_numbers numbers) zs ≡ has_numbers (numbers ++ zs)
has-after [] zs = after-none zs
has-after (x ∷ xs) zs = after-one zs

-- what two lists of numbers add
all_added-append : (format : Format) (base : Base) (some : Bool) (xs ys : List ℤ) → all_added format base some (xs ++ ys) ≡ all_added format base some xs ++ all_added format base (some_after some xs) ys
all_added-append format base some [] ys = refl
all_added-append format base some (x ∷ xs) ys =
    ap (λ bits. added format base some x ++ bits) (all_added-append format base true xs ys ∙ ap (λ s. all_added format base true xs ++ all_added format base s ys) (after-one xs))
    ∙ sym (append_assoc (added format base some x) (all_added format base true xs) (all_added format base true ys))

-- what numbers add, by one of them
pub all_added-at : (format : Format) (base : Base) (some : Bool) (zs : List ℤ) (i : ℕ) (d : ℤ) → i < length zs → all_added format base some zs ≡ all_added format base some (take i zs) ++ (added format base (some_after some (take i zs)) (get_or zs i d) ++ all_added format base true (drop (suc i) zs))
all_added-at format base some zs i d h =
    ap (all_added format base some) (sym (take-append-drop i zs) ∙ ap (λ ys. take i zs ++ ys) (drop-cons zs i d h))
    ∙ all_added-append format base some (take i zs) (get_or zs i d ∷ drop (suc i) zs)

-- what the first numbers and one more add
pub all_added-more : (format : Format) (base : Base) (some : Bool) (zs : List ℤ) (i : ℕ) (d : ℤ) (old : List Bool) → i < length zs → old ++ all_added format base some (take (i + 1) zs) ≡ (old ++ all_added format base some (take i zs)) ++ added format base (some_after some (take i zs)) (get_or zs i d)
all_added-more format base some zs i d old h =
    let bits = added format base (some_after some (take i zs)) (get_or zs i d) in
    ap (λ ys. old ++ all_added format base some ys) (take_more zs i d h)
    ∙ ap (λ bs. old ++ bs) (all_added-append format base some (take i zs) (get_or zs i d ∷ []) ∙ ap (λ bs. all_added format base some (take i zs) ++ bs) (append-nil bits))
    ∙ sym (append_assoc old (all_added format base some (take i zs)) bits)

-- there are numbers behind some
some-push : (some : Bool) (zs : List ℤ) (z : ℤ) → some_after some (zs ++ z ∷ []) ≡ true
some-push some [] z = refl
some-push some (x ∷ zs) z = refl

-- there are numbers after one of them
pub some-more : (some : Bool) (zs : List ℤ) (i : ℕ) (d : ℤ) → i < length zs → some_after some (take (i + 1) zs) ≡ true
some-more some zs i d h = ap (some_after some) (take_more zs i d h) ∙ some-push some (take i zs) (get_or zs i d)

-- a writer whose bits were put in pieces holds its numbers
pub wrote_from : {K : Type 0} (stands_for : K → List ℕ → Type 0) (before now : K) (old new : Kept) (zs : List ℤ) → new.format ≡ old.format → new.base ≡ old.base → new.some ≡ some_after old.some zs → Puts stands_for before now (old.bits ++ all_added old.format old.base old.some zs) new.bits → Wrote stands_for before now old new zs
wrote_from stands_for before now old new zs e f s p = record {
  format = e;
  base = f;
  front = p.front;
  grew = p.grew;
  pieces = p.pieces;
  left = p.left;
  holds = λ numbers given h. record {
    whole = all-append given p.front h.whole p.whole;
    bits =
        ap (λ format. output_bits format new.base (numbers ++ zs)) e
        ∙ ap (λ base. output_bits old.format base (numbers ++ zs)) f
        ∙ output-more old.format old.base numbers zs
        ∙ ap (λ bits. bits ++ all_added old.format old.base (has_numbers numbers) zs) h.bits
        ∙ ap (λ some. (bits_of given ++ old.bits) ++ all_added old.format old.base some zs) (sym h.some)
        ∙ append_assoc (bits_of given) old.bits (all_added old.format old.base old.some zs)
        ∙ ap (λ bits. bits_of given ++ bits) p.bits
        ∙ sym (append_assoc (bits_of given) (bits_of p.front) new.bits)
        ∙ ap (λ bits. bits ++ new.bits) (sym (bits-append given p.front));
    some = s ∙ ap (λ some. some_after some zs) h.some ∙ has-after numbers zs;
  };
}

-- an output before its end
unfinished : (format : Format) (base : Base) (numbers : List ℤ) → spell_numbers format base false numbers ≡ spell_bits false (output_bits format base numbers)
unfinished Binary base numbers = refl
unfinished Text base numbers = append-nil (listed numbers) ∙ sym (spell-whole false (listed numbers) (listed-bytes numbers))

-- the bits that end an output
abbrev pub ending : Format → Bool → List Bool
ending Binary some = []
ending Text some = bits_of (if some then codes "\n" else [])

-- the newline at the end of a text
newline : (numbers : List ℤ) → last_newline true numbers ≡ (if has_numbers numbers then codes "\n" else [])
newline [] = refl
newline (z ∷ numbers) = refl

-- a finished output
finished : (format : Format) (base : Base) (numbers : List ℤ) → spell_numbers format base true numbers ≡ spell_bits true (output_bits format base numbers ++ ending format (has_numbers numbers))
finished Binary base numbers = ap (spell_bits true) (sym (append-nil (flat_map (bits_at base) numbers)))
finished Text base numbers =
    let last = if has_numbers numbers then codes "\n" else [] in
    ap (λ bytes. listed numbers ++ bytes) (newline numbers)
    ∙ sym (spell-whole true (listed numbers ++ last) (all-append (listed numbers) last (listed-bytes numbers) (bytes-if (has_numbers numbers) (codes "\n") [] (bytes-cons 10 [] (omega arith) bytes-none) bytes-none)))
    ∙ ap (spell_bits true) (bits-append (listed numbers) last)

-- the rest of an output that is not finished, with more numbers
pub unfinished-rest : (kept : Kept) (zs numbers : List ℤ) (given : List ℕ) → Holds kept numbers given → spell_numbers kept.format kept.base false (numbers ++ zs) ≡ given ++ spell_bits false (kept.bits ++ all_added kept.format kept.base kept.some zs)
unfinished-rest kept zs numbers given h =
    let more = all_added kept.format kept.base kept.some zs in
    unfinished kept.format kept.base (numbers ++ zs)
    ∙ ap (spell_bits false) (output-more kept.format kept.base numbers zs ∙ ap (λ some. output_bits kept.format kept.base numbers ++ all_added kept.format kept.base some zs) (sym h.some))
    ∙ ap (λ bits. spell_bits false (bits ++ more)) h.bits
    ∙ ap (spell_bits false) (append_assoc (bits_of given) kept.bits more)
    ∙ spell-bits_of false given (kept.bits ++ more) h.whole

-- the rest of a finished output
pub finished-rest : (kept : Kept) (numbers : List ℤ) (given : List ℕ) → Holds kept numbers given → spell_numbers kept.format kept.base true (numbers ++ []) ≡ given ++ spell_bits true (kept.bits ++ ending kept.format kept.some)
finished-rest kept numbers given h =
    ap (spell_numbers kept.format kept.base true) (append-nil numbers)
    ∙ finished kept.format kept.base numbers
    ∙ ap (λ some. spell_bits true (output_bits kept.format kept.base numbers ++ ending kept.format some)) (sym h.some)
    ∙ ap (λ bits. spell_bits true (bits ++ ending kept.format kept.some)) h.bits
    ∙ ap (spell_bits true) (append_assoc (bits_of given) kept.bits (ending kept.format kept.some))
    ∙ spell-bits_of true given (kept.bits ++ ending kept.format kept.some) h.whole

-- what a number adds behind others
added-same : (init kept : Kept) (some : Bool) (z y : ℤ) → kept.format ≡ init.format → kept.base ≡ init.base → kept.some ≡ some → z ≡ y → added kept.format kept.base kept.some z ≡ added init.format init.base some y
added-same init kept some z y e f s h =
    ap (λ format. added format kept.base kept.some z) e
    ∙ ap (λ base. added init.format base kept.some z) f
    ∙ ap (λ t. added init.format init.base t z) s
    ∙ ap (added init.format init.base some) h

-- one more number that is put
pub push_step : {K : Type 0} (stands_for : K → List ℕ → Type 0) (before mid now : K) (init kept : Kept) (new : List Bool) (zs : List ℤ) (i : ℕ) (d z : ℤ) → i < length zs → z ≡ get_or zs i d → kept.format ≡ init.format → kept.base ≡ init.base → kept.some ≡ some_after init.some (take i zs) → Puts stands_for before mid (init.bits ++ all_added init.format init.base init.some (take i zs)) kept.bits → Puts stands_for mid now (kept.bits ++ added kept.format kept.base kept.some z) new → Puts stands_for before now (init.bits ++ all_added init.format init.base init.some (take (i + 1) zs)) new
push_step stands_for before mid now init kept new zs i d z h same e f s p q =
    let some = some_after init.some (take i zs) in
    let bits = added init.format init.base some (get_or zs i d) in
    let one = subst (λ bs. Puts stands_for mid now (kept.bits ++ bs) new) (added-same init kept some z (get_or zs i d) e f s same) q in
    subst (λ bs. Puts stands_for before now bs new)
    (sym (all_added-more init.format init.base init.some zs i d init.bits h))
    (puts_then stands_for before mid now (init.bits ++ all_added init.format init.base init.some (take i zs)) bits kept.bits new p one)

-- a front part of what numbers add, where one of them is put in part
pub push_part : {K : Type 0} (stands_for : K → List ℕ → Type 0) (before mid now : K) (init kept : Kept) (zs : List ℤ) (i : ℕ) (d z : ℤ) → i < length zs → z ≡ get_or zs i d → kept.format ≡ init.format → kept.base ≡ init.base → kept.some ≡ some_after init.some (take i zs) → Puts stands_for before mid (init.bits ++ all_added init.format init.base init.some (take i zs)) kept.bits → GrewPart (spell_bits false (kept.bits ++ added kept.format kept.base kept.some z)) (stands_for mid) (stands_for now) → PutsPart stands_for before now init zs false
push_part stands_for before mid now init kept zs i d z h same e f s p part =
    let some = some_after init.some (take i zs) in
    let front = all_added init.format init.base init.some (take i zs) in
    let bits = added init.format init.base some (get_or zs i d) in
    let one = subst (λ bs. GrewPart (spell_bits false (kept.bits ++ bs)) (stands_for mid) (stands_for now)) (added-same init kept some z (get_or zs i d) e f s same) part in
    record {
      rest = spell_bits false (init.bits ++ all_added init.format init.base init.some zs);
      grew = part_whole (stands_for before) (stands_for now) init.bits front bits (all_added init.format init.base true (drop (suc i) zs)) (all_added init.format init.base init.some zs) (all_added-at init.format init.base init.some zs i d h) (part_then stands_for before mid now (init.bits ++ front) bits kept.bits p one);
      spelled = unfinished-rest init zs;
    }
