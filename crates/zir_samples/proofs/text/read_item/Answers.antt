use Rattle.std.proofs.Common.{ℕ, ◌≡◌, ◌<◌, ◌+◌, List, Some, length, min, take, ap, sym, subst, ◌∙◌, arith}
use Rattle.std.proofs.lemmas.List.{get_or-take, length-take, take-take, take_min}
use Rattle.zir_meaning.specs.Texts.{trimmed, written_number}
use Rattle.zir_samples.specs.Reading.{front_of, in_range, IsFirstComma, IsUncut, Reads}
use Rattle.zir_samples.proofs.Items.{reads-comma}
use Rattle.zir_samples.proofs.text.read_item.Goals as goal

-- the first 64 bytes
near : (bytes : List ℕ) (n : ℕ) → n ≡ min (length bytes) 64 → take n bytes ≡ take 64 bytes
near bytes n e = ap (λ k. take k bytes) (let f : n ≡ min 64 (length bytes) = omega (arith, e) in f) ∙ take_min 64 bytes

-- an item before the first comma of the first 64 bytes
before-comma : (base : _) (closed : _) (bytes : List ℕ) (n at : ℕ) → n ≡ min (length bytes) 64 → IsFirstComma (take n bytes) (Some at) → Reads base closed bytes (front_of (in_range base (written_number (trimmed (take at bytes)))) (at + 1))
before-comma base closed bytes n at e h =
    let inside : at < n = omega (arith, h.0, length-take n bytes) in
    let most : at < 64 = omega (arith, inside, e) in
    let within : at < length bytes = omega (arith, inside, e) in
    reads-comma base closed bytes at most within (sym (get_or-take n bytes at 0 inside) ∙ h.1) (subst IsUncut (take-take at n bytes (omega (arith, inside))) h.2)

pub behind_commas-requires-clause-uncut : goal.behind_commas-requires-clause-uncut
behind_commas-requires-clause-uncut c = subst IsUncut (near c.args.bytes.now c.min.result c.min.ensures) c.in-None.ensures

pub returns-in-Some : goal.returns-in-Some
returns-in-Some c =
    let read = before-comma c.args.base c.args.ended c.args.bytes.now c.min.result c.in-Some.comma c.min.ensures c.in-Some.ensures in
    subst (Reads c.args.base c.args.ended c.args.bytes.now) (sym (c.item.ensures ∙ ap (λ n. front_of n (c.in-Some.comma + 1)) c.number_in.ensures)) read
