-- Bits of an input as elements that are handed in.
use Rattle.std.specs.Prelude.{ℕ, ℤ, ◌+◌, ◌≡◌, refl, Bool, true, false, List, [], ◌∷◌, ◌++◌, length}
use Rattle.std.proofs.Common.{ap, ◌∙◌, sym, subst, arith}
use Rattle.zir_bit_tree.specs.declared.value.Val.{Val}
use Rattle.zir_bit_tree.specs.declared.value.Val.TheVariants.{Unit as UnitVal, Bit as BitVal}
use Rattle.zir_tree.specs.declared.ends.Stamp.{Stamp}
use Rattle.zir_bit_tree.specs.declared.tree.Comp.{Comp}
use Rattle.zir_bit_meaning.specs.Trace.{Out}
use Rattle.zir_bit_meaning.specs.Evaluation.{is_one}
use Rattle.zir_bit_meaning.specs.Received.{from_input}
use Rattle.zir_chunk.specs.Contents.{Contents, blank}
use Rattle.zir_steps.specs.Elements.{IsAt, element_of, val_of, received_as}
use Rattle.zir_steps.specs.History.{History, RisesFrom, Rises, receive}
use Rattle.zir_drive.specs.Runs.{history}
use Rattle.zir_drive.specs.Driving.{element_in}

-- the points of an input's elements rise
rises-from : (k : ℕ) (xs : List Val) → RisesFrom k 0 (from_input [] k xs)
rises-from k [] = tt
rises-from k (x ∷ xs) = (omega arith, omega arith, rises-from (k + 1) xs)

-- those of a history over an input do
pub history-rises : (c : Comp) (n : ℕ) (xs : List Val) (os : List Out) → Rises (history c n xs os)
history-rises c n xs os = rises-from 0 xs

-- one more element of an input
from-more : (k : ℕ) (xs : List Val) (b : Bool) → from_input [] k xs ++ element_in (k + length xs + 1) b ∷ [] ≡ from_input [] k (xs ++ BitVal b ∷ [])
from-more k [] b = let e : k + 0 + 1 ≡ k + 1 = omega arith in ap (λ n. element_in n b ∷ []) e
from-more k (x ∷ xs) b =
    let e : k + length (x ∷ xs) + 1 ≡ k + 1 + length xs + 1 = omega arith in
    let first : Out = record { value = x; at = record { taken = k + 1; ticks = 0; store = [] } } in
    ap (λ n. first ∷ (from_input [] (k + 1) xs ++ element_in n b ∷ [])) e ∙ ap (λ os. first ∷ os) (from-more (k + 1) xs b)

-- a history that received one more
pub receive-more : (c : Comp) (n k : ℕ) (xs : List Val) (os : List Out) (b : Bool) → k ≡ length xs → receive (history c n xs os) (element_in (k + 1) b) ≡ history c n (xs ++ BitVal b ∷ []) os
receive-more c n k xs os b e =
    let same : k + 1 ≡ 0 + length xs + 1 = omega arith in
    let h : List Out → History = λ received. record { component = c; store = []; start = 0; limit = n; received = received; given = os } in
    ap (λ j. h (from_input [] 0 xs ++ element_in j b ∷ [])) same ∙ ap h (from-more 0 xs b)

-- the bit of an output's element
pub given-bit : (v : Val) → is_one (val_of (element_of 1 v)) ≡ is_one v
given-bit UnitVal = refl
given-bit (BitVal true) = refl
given-bit (BitVal false) = refl

-- a chunk of one bit has it as an element that is received so
pub bit_is_at : (chunk : Contents) (k : ℕ) (b : Bool) (cells : List ℤ) → element_of 1 (BitVal b) ≡ cells →
    chunk ≡ record (blank 1) { elements = record { cells = cells; stamp = record { taken = k; ticks = 0 } } ∷ [] } → IsAt chunk 0 (element_in k b)
bit_is_at chunk k b cells e w =
    let stamp : Stamp = record { taken = k; ticks = 0 } in
    let P : Contents → Type 0 = λ chunk. IsAt chunk 0 (element_in k b) in
    subst P (sym w) (record { cells = cells; stamp = stamp; has_cells = refl; has_stamp = refl; as_received = bit_received b ∙ ap (λ cells. received_as cells stamp) e })
  where
    bit_received : (b : Bool) → element_in k b ≡ received_as (element_of 1 (BitVal b)) (record { taken = k; ticks = 0 })
    bit_received true = refl
    bit_received false = refl
