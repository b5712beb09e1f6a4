-- Outputs that are closed, or broken off.
use Rattle.std.proofs.Common.{◌≡◌, ℕ, ℤ, Bool, true, false, List, [], ◌++◌, ap, sym, subst, refl, ◌∙◌, append_assoc, arith, Option}
use Rattle.std.proofs.lemmas.List.{append-nil}
use Rattle.zir_tree.specs.declared.value.Val.{Val}
use Rattle.zir_tree.specs.declared.format.Format.{Format}
use Rattle.zir_tree.specs.declared.format.Format.TheVariants.{Binary, Text}
use Rattle.zir_tree.specs.declared.types.Base.{Base}
use Rattle.zir_meaning.specs.Trace.{Out, Trace}
use Rattle.zir_meaning.specs.Samples.{spell_bits}
use Rattle.zir_meaning.specs.Elements.{Tail, spell_numbers}
use Rattle.zir_laws.specs.Process.{Proc, run}
use Rattle.zir_expr.specs.Memory.Frames.{Memory}
use Rattle.zir_flow.specs.declared.instruction.Instruction.{Instruction}
use Rattle.zir_outside.specs.Sinks.{Grew, GrewPart}
use Rattle.zir_samples.specs.Writing.{Kept, Holds, Wrote, PutsPart, PutsRest, nothing_kept, output_bits, has_numbers, all_added}
use Rattle.zir_samples.proofs.Spelling.{spell-front}
use Rattle.zir_samples.proofs.Writing.{ending, finished-rest, output-more, unfinished-rest}
use Rattle.zir_play.specs.declared.player.Outcome.{Outcome}
use Rattle.zir_play.specs.declared.player.PlayError.{PlayError}
use Rattle.zir_play.specs.declared.player.PlayError.TheVariants.{Read, Write, Exhausted}
use Rattle.zir_reader.specs.Inputs.{Input}
use Rattle.zir_play.specs.Performing.{Interface}
use Rattle.zir_play.specs.Runs.{numbers_of, Played, IsFront, Broke, Ran, RanPart}
use Rattle.zir_play.specs.Turning.{Flushed}
use Rattle.zir_play.proofs.Traces.{numbers-append}
use Rattle.zir_play.proofs.Output.{part_after, rest_after}

-- a writer that has put nothing of some numbers holds them
holds_all : (format : Format) (base : Base) (numbers : List ℤ) → Holds (record { format = format; base = base; bits = output_bits format base numbers; some = has_numbers numbers }) numbers []
holds_all format base numbers = record { whole = λ k d lt. absurd (omega arith); bits = refl; some = refl }

-- a new writer holds none
holds_none : (format : Format) (base : Base) → Holds (nothing_kept format base) [] []
holds_none Binary base = record { whole = λ k d lt. absurd (omega arith); bits = refl; some = refl }
holds_none Text base = record { whole = λ k d lt. absurd (omega arith); bits = refl; some = refl }

-- what numbers are written as, unless more bytes follow, is the front of what they and more numbers are written as
pub spelled_front : (format : Format) (base : Base) (xs ys : List ℤ) → (rest : List ℕ) × (spell_numbers format base true (xs ++ ys) ≡ spell_numbers format base false xs ++ rest)
spelled_front format base xs ys =
    let more = all_added format base (has_numbers xs) ys ++ ending format (has_numbers (xs ++ ys)) in
    let bits = output_bits format base xs in
    let whole : spell_numbers format base true (xs ++ ys) ≡ spell_bits true (bits ++ more) =
    ap (spell_numbers format base true) (sym (append-nil (xs ++ ys)))
    ∙ finished-rest (record { format = format; base = base; bits = output_bits format base (xs ++ ys); some = has_numbers (xs ++ ys) }) (xs ++ ys) [] (holds_all format base (xs ++ ys))
    ∙ ap (λ bs. spell_bits true (bs ++ ending format (has_numbers (xs ++ ys)))) (output-more format base xs ys)
    ∙ ap (spell_bits true) (append_assoc bits (all_added format base (has_numbers xs) ys) (ending format (has_numbers (xs ++ ys)))) in
    let front : spell_numbers format base false xs ≡ spell_bits false bits =
    ap (spell_numbers format base false) (sym (append-nil xs))
    ∙ unfinished-rest (record { format = format; base = base; bits = bits; some = has_numbers xs }) [] xs [] (holds_all format base xs)
    ∙ ap (spell_bits false) (append-nil bits) in
    let cut = spell-front true bits more in
    (cut.0, whole ∙ cut.1 ∙ ap (λ bs. bs ++ cut.0) (sym front))

-- a new writer and all that it put
put_whole : {K : Type 0} (stands_for : K → List ℕ → Type 0) (before now : K) (format : Format) (base : Base) (xs : List ℤ) (finished : Bool) → PutsRest stands_for before now (nothing_kept format base) xs finished → Grew (stands_for before) (stands_for now) (spell_numbers format base finished xs)
put_whole stands_for before now format base xs finished p = subst (Grew (stands_for before) (stands_for now)) (sym (p.spelled [] [] (holds_none format base))) p.grew

-- a new writer and a front part of what it put
put_in_part : {K : Type 0} (stands_for : K → List ℕ → Type 0) (before now : K) (format : Format) (base : Base) (xs : List ℤ) (finished : Bool) → PutsPart stands_for before now (nothing_kept format base) xs finished → GrewPart (spell_numbers format base finished xs) (stands_for before) (stands_for now)
put_in_part stands_for before now format base xs finished p = subst (λ bytes. GrewPart bytes (stands_for before) (stands_for now)) (sym (p.spelled [] [] (holds_none format base))) p.grew

-- a front part of what some numbers are written as is one of what they and more are
part_front : (old new : List ℕ → Type 0) (format : Format) (base : Base) (all xs ys : List ℤ) → all ≡ xs ++ ys → GrewPart (spell_numbers format base false xs) old new → GrewPart (spell_numbers format base true all) old new
part_front old new format base all xs ys e part =
    let more = spelled_front format base xs ys in
    (part.0, part.1 ++ more.0, ap (spell_numbers format base true) e ∙ more.1 ∙ ap (λ bytes. bytes ++ more.0) part.2 ∙ append_assoc part.0 part.1 more.0, part.3)

-- so is what some numbers are written as
whole_front : (old new : List ℕ → Type 0) (format : Format) (base : Base) (all xs ys : List ℤ) → all ≡ xs ++ ys → Grew old new (spell_numbers format base false xs) → GrewPart (spell_numbers format base true all) old new
whole_front old new format base all xs ys e grew =
    let more = spelled_front format base xs ys in (spell_numbers format base false xs, more.0, ap (spell_numbers format base true) e ∙ more.1, grew)

-- the numbers of a trace by those of its first outputs
numbers_front : (os : List Out) (t : Trace) → (f : IsFront os t) → numbers_of t.outs ≡ numbers_of os ++ numbers_of f.more
numbers_front os t f = ap numbers_of f.outs ∙ numbers-append os f.more

module _ {K : Type 0} (stands_for : K → List ℕ → Type 0) (before mid now : K) (format : Format) (base : Base) (old kept : Kept) (fresh : old ≡ nothing_kept format base) where
  -- what was written, with what is put behind it
  closed : (xs : List ℤ) (finished : Bool) → Wrote stands_for before mid old kept xs → PutsRest stands_for mid now kept [] finished → Grew (stands_for before) (stands_for now) (spell_numbers format base finished xs)
  closed xs finished w p =
      put_whole stands_for before now format base xs finished
      (subst (λ ns. PutsRest stands_for before now (nothing_kept format base) ns finished) (append-nil xs)
      (subst (λ k. PutsRest stands_for before now k (xs ++ []) finished) fresh (rest_after stands_for before mid now old kept xs [] finished w p)))

  -- what was written, with what is put behind it in part
  closed_in_part : (xs : List ℤ) (finished : Bool) → Wrote stands_for before mid old kept xs → PutsPart stands_for mid now kept [] finished → GrewPart (spell_numbers format base finished xs) (stands_for before) (stands_for now)
  closed_in_part xs finished w p =
      put_in_part stands_for before now format base xs finished
      (subst (λ ns. PutsPart stands_for before now (nothing_kept format base) ns finished) (append-nil xs)
      (subst (λ k. PutsPart stands_for before now k (xs ++ []) finished) fresh (part_after stands_for before mid now old kept xs [] finished w p)))

  module _ (i : Interface) (code : List Instruction) (p : Proc) (xs : List Val) (tail : Tail) (left : Option Input) where
    -- a run at its end, whose output was closed
    pub ran : (m : Memory) (o : Outcome) → Played stands_for before mid old kept i (run p xs) xs tail left m o → PutsRest stands_for mid now kept [] true →
        Ran format base (stands_for before) (stands_for now) i (run p xs) xs tail left m o
    ran m o played rest = record {
      tells = played.tells;
      out = closed (numbers_of (run p xs).outs) true played.wrote rest;
      rest = played.rest;
      value = played.value;
    }

    -- a run at its end, whose output was closed in part
    pub ran_in_part : (m : Memory) (o : Outcome) → Played stands_for before mid old kept i (run p xs) xs tail left m o → PutsPart stands_for mid now kept [] true →
        RanPart format base (stands_for before) (stands_for now) i code p xs tail left Write
    ran_in_part m o played part = record { out = closed_in_part (numbers_of (run p xs).outs) true played.wrote part; cause = tt }

    -- a run that broke off, and what was put then
    pub broken_off : (why answer : PlayError) → Broke stands_for before mid old kept i code p xs tail left why → Flushed stands_for mid now kept why answer →
        RanPart format base (stands_for before) (stands_for now) i code p xs tail left answer
    broken_off Read Read b f =
        let grew = closed (numbers_of (run p b.received).outs) false b.wrote f in
        record {
          out = whole_front (stands_for before) (stands_for now) format base (numbers_of (run p xs).outs) (numbers_of (run p b.received).outs) (numbers_of b.front.more)
              (numbers_front (run p b.received).outs (run p xs) b.front) grew;
          cause = record { received = b.received; remains = b.remains; starves = b.starves; out = grew };
        }
    broken_off Read Write b f = record {
      out = part_front (stands_for before) (stands_for now) format base (numbers_of (run p xs).outs) (numbers_of (run p b.received).outs) (numbers_of b.front.more)
          (numbers_front (run p b.received).outs (run p xs) b.front) (closed_in_part (numbers_of (run p b.received).outs) false b.wrote f);
      cause = tt;
    }
    broken_off Read Exhausted b f = absurd f
    broken_off Write Read b f = absurd f
    broken_off Write Write b f =
        let whole : numbers_of (run p xs).outs ≡ b.some ++ (b.more ++ numbers_of b.front.more) =
        numbers_front b.outs (run p xs) b.front ∙ ap (λ ns. ns ++ numbers_of b.front.more) b.numbers ∙ append_assoc b.some b.more (numbers_of b.front.more) in
        let part = put_in_part stands_for before mid format base b.some false (subst (λ k. PutsPart stands_for before mid k b.some false) fresh b.part) in
        record {
          out = part_front (stands_for before) (stands_for now) format base (numbers_of (run p xs).outs) b.some (b.more ++ numbers_of b.front.more) whole
              (subst (λ k. GrewPart (spell_numbers format base false b.some) (stands_for before) (stands_for k)) (sym f) part);
          cause = tt;
        }
    broken_off Write Exhausted b f = absurd f
    broken_off Exhausted Read b f = absurd f
    broken_off Exhausted Write b f = record {
      out = part_front (stands_for before) (stands_for now) format base (numbers_of (run p xs).outs) (numbers_of b.outs) (numbers_of b.front.more)
          (numbers_front b.outs (run p xs) b.front) (closed_in_part (numbers_of b.outs) false b.wrote f);
      cause = tt;
    }
    broken_off Exhausted Exhausted b f = record {
      out = whole_front (stands_for before) (stands_for now) format base (numbers_of (run p xs).outs) (numbers_of b.outs) (numbers_of b.front.more)
          (numbers_front b.outs (run p xs) b.front) (closed (numbers_of b.outs) false b.wrote f);
      cause = (b.received, b.outs, b.long);
    }
