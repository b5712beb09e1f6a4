-- What is written where a run ends or breaks off.
use Rattle.std.specs.Prelude.{ℕ, ◌≡◌, refl, Bool, true, false, List, length, Option, Some, Result, Ok, Err, IfOk}
use Rattle.std.proofs.Common.{ap, ◌∙◌, sym, subst}
use Rattle.zir_bit_tree.specs.declared.value.Val.{Val}
use Rattle.zir_bit_tree.specs.declared.ends.End.{End}
use Rattle.zir_bit_tree.specs.declared.ends.End.TheVariants.{Value}
use Rattle.zir_bit_tree.specs.declared.tree.Comp.{Comp}
use Rattle.zir_bit_meaning.specs.Trace.{Out, Trace}
use Rattle.zir_bit_meaning.specs.Composition.{values}
use Rattle.zir_bit_meaning.specs.Samples.{spell, spell_bits}
use Rattle.zir_outside.specs.Sinks.{Grew, GrewPart}
use Rattle.zir_steps.specs.declared.answer.Answer.{Answer}
use Rattle.zir_steps.specs.declared.answer.Answer.TheVariants.{Yield, Skip, Done, Need, Stopped}
use Rattle.zir_steps.specs.History.{History, trace_of as trace_over}
use Rattle.zir_steps.specs.Says.{Says, AllGiven, IsStop, tells_end}
use Rattle.zir_drive.specs.declared.Ended.{Ended}
use Rattle.zir_drive.specs.declared.Ended.TheVariants as ended
use Rattle.zir_drive.specs.declared.DriveError.{DriveError}
use Rattle.zir_drive.specs.declared.DriveError.TheVariants.{Read, Write, Memory}
use Rattle.zir_drive.specs.declared.driver.Driver.{Driver}
use Rattle.zir_drive.specs.Runs.{history, trace_of, TellsEnd, TellsTaken, Ran, RanPart, OwnValue}
use Rattle.zir_drive.specs.Driving.{ones, Over, Within, Broke, Tells}
use Rattle.zir_drive.proofs.Giving.{gave_all, gave_part, part_of_front}
use Rattle.zir_drive.proofs.Traces.{Same, front-of-all, all-of-it}

-- where the last answer told an end, all outputs were given
all_given : (a : Answer) (h : History) → tells_end (Some a) ≡ true → Says a h → AllGiven h
all_given Yield h e s = absurd (cc)
all_given Skip h e s = absurd (cc)
all_given Done h e s = s.2
all_given Need h e s = s.1
all_given Stopped h e s = s.1

-- an end with a value was told by Done
done_of : (a : Answer) (h : History) (v : Val) → tells_end (Some a) ≡ true → Says a h → (trace_over h).end ≡ Value v → a ≡ Done
done_of Yield h v e s w = absurd (cc)
done_of Skip h v e s w = absurd (cc)
done_of Done h v e s w = refl
done_of Need h v e s w = let z = sym s.0 ∙ w in absurd (cc)
done_of Stopped h v e s w = let P : End → Type 0 = IsStop in absurd (subst P w s.0)

-- the trace of a run that is over is that over all bytes
pub over_same : {K : Type 0} (stands_for : History → Type 0) (sinks : K → List ℕ → Type 0) (before now : K) (told left : Option (List ℕ)) (d : Driver) (c : Comp) (n : ℕ) (last : Option Answer) (bytes : List ℕ) →
    told ≡ Some bytes → (o : Over stands_for sinks before now told left d c n last) → Same (trace_over (history c n o.ends.fed.received o.given)) (trace_of c n bytes)
over_same stands_for sinks before now told left d c n last bytes e o =
    let came = o.ends.fed.came bytes e in all-of-it c n o.ends.fed.received _ o.given bytes came.all (o.ends.final bytes e)

-- all outputs of the trace over all bytes were given
pub over_given : {K : Type 0} (stands_for : History → Type 0) (sinks : K → List ℕ → Type 0) (before now : K) (told left : Option (List ℕ)) (d : Driver) (c : Comp) (n : ℕ) (last : Option Answer) (bytes : List ℕ) →
    told ≡ Some bytes → tells_end last ≡ true → (o : Over stands_for sinks before now told left d c n last) → (trace_of c n bytes).outs ≡ o.given
over_given stands_for sinks before now told left d c n last bytes e ends o =
    (over_same stands_for sinks before now told left d c n last bytes e o).1
    ∙ all_given o.ends.answer (history c n o.ends.fed.received o.given) (ap tells_end (sym o.ends.is) ∙ ends) o.ends.fed.says

-- what tells of a trace tells of the same one
same_told : (end : Ended) (taken : ℕ) (t t' : Trace) → Same t t' → TellsEnd end t.end → TellsTaken end taken t.last.taken → TellsEnd end t'.end × TellsTaken end taken t'.last.taken
same_told ended.Value taken t t' s e k = ((e.0, s.0 ∙ e.1), k ∙ ap (λ s. s.taken) (sym s.2))
same_told ended.Starved taken t t' s e k = (s.0 ∙ e, k ∙ ap (λ s. s.taken) (sym s.2))
same_told (ended.Trap x) taken t t' s e k = (s.0 ∙ e, k ∙ ap (λ s. s.taken) (sym s.2))
same_told ended.Spent taken t t' s e k = (s.0 ∙ e, tt)

-- a run that ended
pub over_ran : {K : Type 0} (stands_for : History → Type 0) (sinks : K → List ℕ → Type 0) (before mid now : K) (told left : Option (List ℕ)) (d : Driver) (c : Comp) (n : ℕ) (last : Option Answer) (bytes : List ℕ) (end : Ended) (taken : ℕ) →
    told ≡ Some bytes → tells_end last ≡ true → (o : Over stands_for sinks before mid told left d c n last) → Tells (end, taken) (trace_over (history c n o.ends.fed.received o.given)) →
    Grew (sinks mid) (sinks now) (spell_bits true d.writer) → Ran (record { end = end; taken = taken; written = d.given }) (trace_of c n bytes) (sinks before) (sinks now)
over_ran stands_for sinks before mid now told left d c n last bytes end taken e ends o tells grew =
    let k = same_told end taken (trace_over (history c n o.ends.fed.received o.given)) (trace_of c n bytes) (over_same stands_for sinks before mid told left d c n last bytes e o) tells.0 tells.1 in
    let given = over_given stands_for sinks before mid told left d c n last bytes e ends o in record {
      end = k.0;
      taken = k.1;
      written = o.ends.fed.kept.given ∙ ap length (sym given);
      out = subst (λ os. Grew (sinks before) (sinks now) (spell true (values os))) (sym given) (gave_all sinks before mid now d.writer o.given o.gave grew);
    }

-- a value is told only by Done
pub over_done : {K : Type 0} (stands_for : History → Type 0) (sinks : K → List ℕ → Type 0) (before now : K) (told left : Option (List ℕ)) (d : Driver) (c : Comp) (n : ℕ) (last : Option Answer) (end : Ended) (taken : ℕ) →
    tells_end last ≡ true → (o : Over stands_for sinks before now told left d c n last) → Tells (end, taken) (trace_over (history c n o.ends.fed.received o.given)) → end ≡ ended.Value → last ≡ Some Done
over_done stands_for sinks before now told left d c n last end taken ends o tells e =
    let h = history c n o.ends.fed.received o.given in
    let t : TellsEnd ended.Value (trace_over h).end = subst (λ x. TellsEnd x (trace_over h).end) e tells.0 in
    o.ends.is ∙ ap Some (done_of o.ends.answer h t.0 (ap tells_end (sym o.ends.is) ∙ ends) o.ends.fed.says t.1)

-- the value of a run that is over is the worker's
pub over_value : {K : Type 0} (stands_for : History → Type 0) (sinks : K → List ℕ → Type 0) (before now : K) (told left : Option (List ℕ)) (d : Driver) (c : Comp) (n : ℕ) (last : Option Answer) (bytes : List ℕ) →
    told ≡ Some bytes → Over stands_for sinks before now told left d c n last → OwnValue stands_for (trace_of c n bytes)
over_value stands_for sinks before now told left d c n last bytes e o v own =
    (over_same stands_for sinks before now told left d c n last bytes e o).0 ∙ own (history c n o.ends.fed.received o.given) o.ends.fed.kept.stands

-- the last put failed
pub over_failed : {K : Type 0} (stands_for : History → Type 0) (sinks : K → List ℕ → Type 0) (before mid now : K) (told left : Option (List ℕ)) (d : Driver) (c : Comp) (n : ℕ) (last : Option Answer) (bytes : List ℕ) →
    told ≡ Some bytes → tells_end last ≡ true → Over stands_for sinks before mid told left d c n last → GrewPart (spell_bits true d.writer) (sinks mid) (sinks now) → RanPart (trace_of c n bytes) (sinks before) (sinks now)
over_failed stands_for sinks before mid now told left d c n last bytes e ends o part =
    let given = over_given stands_for sinks before mid told left d c n last bytes e ends o in
    subst (λ os. GrewPart (spell true (values os)) (sinks before) (sinks now)) (sym given) (gave_part sinks before mid now d.writer o.given true o.gave part)

-- outputs within a trace were written in part
within_part : (told : Option (List ℕ)) (c : Comp) (n : ℕ) (os : List Out) (bytes : List ℕ) (a b : List ℕ → Type 0) → told ≡ Some bytes → Within told c n os → GrewPart (spell_bits false (ones os)) a b → RanPart (trace_of c n bytes) a b
within_part told c n os bytes a b e w g =
    let m = w.within bytes e in
    let f = front-of-all c n w.received m.0 os bytes w.front m.1 in part_of_front (trace_of c n bytes).outs os f.0 a b f.1 g

-- a put had failed
pub broke_write : {K : Type 0} (sinks : K → List ℕ → Type 0) (before now : K) (told : Option (List ℕ)) (writer : List Bool) (c : Comp) (n : ℕ) (bytes : List ℕ) →
    told ≡ Some bytes → Broke sinks before now told writer c n Write → RanPart (trace_of c n bytes) (sinks before) (sinks now)
broke_write sinks before now told writer c n bytes e h = within_part told c n h.0 bytes (sinks before) (sinks now) e h.1 h.2

-- the whole bytes that were left were written, or a front part of them
pub broke_part : {K : Type 0} (sinks : K → List ℕ → Type 0) (before mid now : K) (told : Option (List ℕ)) (writer : List Bool) (c : Comp) (n : ℕ) (bytes : List ℕ) (why : DriveError) →
    (why ≡ Write → ⊥) → told ≡ Some bytes → Broke sinks before mid told writer c n why → GrewPart (spell_bits false writer) (sinks mid) (sinks now) → RanPart (trace_of c n bytes) (sinks before) (sinks now)
broke_part sinks before mid now told writer c n bytes Read not e h g = within_part told c n h.0 bytes (sinks before) (sinks now) e h.1 (gave_part sinks before mid now writer h.0 false h.2 g)
broke_part sinks before mid now told writer c n bytes Write not e h g = absurd (not refl)
broke_part sinks before mid now told writer c n bytes Memory not e h g = within_part told c n h.0 bytes (sinks before) (sinks now) e h.1 (gave_part sinks before mid now writer h.0 false h.2 g)

-- what always holds holds where the call succeeds
pub always_ok : {T E P : Type 0} (r : Result T E) → P → IfOk r (λ x. P)
always_ok (Ok x) p = p
always_ok (Err e) p = tt
