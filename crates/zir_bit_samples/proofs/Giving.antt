-- What a reader of bits gives, by what its reader of bytes gives.
use Rattle.std.proofs.Common.{ℕ, suc, ◌+◌, ◌-◌, ◌/◌, ◌%◌, ◌<◌, ◌≤◌, ◌≡◌, Bool, true, false, List, [], ◌∷◌, ◌++◌, Option, Some, None, Ok, Err, length, get_or, refl, ap, sym, ◌∙◌, arith, append_assoc, drop-cons, add-one, length-append}
use Rattle.std.specs.Prelude.{if◌then◌else◌, nat_eq, slice_range}
use Rattle.zir_bit_meaning.specs.Samples.{bits_of, low_bits}
use Rattle.zir_outside.specs.declared.Failed.{Failed}
use Rattle.zir_bit_samples.specs.Reading.{bits_to_come, bytes_to_come, GivesBit, GivesByte, KeptBits, KeptBytes}
use Rattle.zir_bit_samples.proofs.Spelling.{bits-append, length-bits_of, length-low_bits}

-- the first of a part of a piece
pub part-cons : (piece : List ℕ) (from to : ℕ) → from < to → to ≤ length piece → slice_range piece from to ≡ get_or piece from 0 ∷ slice_range piece (from + 1) to
part-cons piece from to some within =
    let inside : from < length piece = omega arith in
    let count : to - from ≡ suc (to - (from + 1)) = omega arith in
    rw (drop-cons piece from 0 inside, count, add-one)

-- a byte that was kept is given, and the source is left alone
pub gives_kept : (old new : KeptBytes) (left : Option (List ℕ)) (b : ℕ) → old.bytes ≡ b ∷ new.bytes → new.ended ≡ old.ended → GivesByte old left new left (Ok (Some b))
gives_kept old new None b e f = refl
gives_kept old new (Some bytes) b e f = (bytes, refl, rw (e, f))

-- a bit that was kept is given, and the source is left alone
pub gives_bit : (old new : KeptBits) (left : Option (List ℕ)) (b : Bool) → old.bits ≡ b ∷ new.bits → new.ended ≡ old.ended → GivesBit old left new left (Ok (Some b))
gives_bit old new None b e f = refl
gives_bit old new (Some bytes) b e f = (bytes, refl, rw (e, f))

-- the bits of bytes that were kept
abbrev pub bits_from : KeptBytes → KeptBits
bits_from k = record { bits = bits_of k.bytes; ended = k.ended; failed = k.failed }

-- the bits of bytes, and of more of them unless there are no more
bits-unless : (xs ys : List ℕ) (b : Bool) → bits_of xs ++ (if b then [] else bits_of ys) ≡ bits_of (xs ++ (if b then [] else ys))
bits-unless xs ys true = sym (bits-append xs [])
bits-unless xs ys false = sym (bits-append xs ys)

-- the bits to come are those of the bytes to come
bits-to_come : (k : KeptBytes) (left : List ℕ) → bits_to_come (bits_from k) left ≡ bits_of (bytes_to_come k left)
bits-to_come k left = bits-unless k.bytes left k.ended

-- a failure to give a byte is one to give a bit
pub gives_failure : (old new : KeptBytes) (left now : Option (List ℕ)) (e : Failed) → GivesByte old left new now (Err e) → GivesBit (bits_from old) left (bits_from new) now (Err e)
gives_failure old new None now e h = h
gives_failure old new (Some bytes) now e h = (h.0, h.1, bits-to_come new h.0 ∙ ap bits_of h.2 ∙ sym (bits-to_come old bytes))

-- where no byte is left there is no bit
pub gives_none : (old new : KeptBytes) (left now : Option (List ℕ)) → GivesByte old left new now (Ok None) → GivesBit (bits_from old) left (bits_from new) now (Ok None)
gives_none old new None now h = h
gives_none old new (Some bytes) now h = (h.0, h.1, (bits-to_come old bytes ∙ ap bits_of h.2.0, bits-to_come new h.0 ∙ ap bits_of h.2.1))

-- the first bit of a byte is given, and its other bits are kept
pub gives_first : (old new : KeptBytes) (left now : Option (List ℕ)) (b : ℕ) → GivesByte old left new now (Ok (Some b)) → GivesBit (bits_from old) left (record { bits = low_bits 7 (b / 2) ++ bits_of new.bytes; ended = new.ended; failed = new.failed }) now (Ok (Some (nat_eq (b % 2) 1)))
gives_first old new None now b h = h
gives_first old new (Some bytes) now b h = (h.0, h.1, bits-to_come old bytes ∙ ap bits_of h.2 ∙ ap (λ bits. low_bits 8 b ++ bits) (sym (bits-to_come new h.0)) ∙ sym (append_assoc (low_bits 8 b) (bits_of new.bytes) (if new.ended then [] else bits_of h.0)))

-- less than a byte and less than a piece are less than a piece in bits
pub few_bits : (k n : ℕ) (bytes : List ℕ) → k ≤ 7 → length bytes ≤ 4095 → length (low_bits k n ++ bits_of bytes) < 32768
few_bits k n bytes few short = rw length-append (omega (arith, length-low_bits k n, length-bits_of bytes))
