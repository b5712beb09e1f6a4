-- Answers of programs over bits, in both meanings.
use Rattle.std.specs.Prelude.{ℕ, ◌+◌, List, ◌≡◌, refl, true, false, map, length}
use Rattle.std.proofs.Common.{ap, ◌∙◌}
use Rattle.std.proofs.Math.Nat.{zero-add}
use Rattle.zir_tree.specs.declared.types.Base.TheVariants.{Bit as BitTy}
use Rattle.zir_tree.specs.declared.types.Ty.{Ty}
use Rattle.zir_tree.specs.declared.stmt.Var.{Var}
use Rattle.zir_tree.specs.declared.comp.Comp.{Comp}
use Rattle.zir_tree.specs.declared.format.Format.TheVariants.{Binary}
use Rattle.zir_meaning.specs.Trace as wide_traces
use Rattle.zir_meaning.specs.Evaluation.{with_value}
use Rattle.zir_meaning.specs.Functions.{library_of}
use Rattle.zir_meaning.specs.Instances.{means, around, comps_of}
use Rattle.zir_meaning.specs.Composition as wide_joins
use Rattle.zir_meaning.specs.Elements as wide_elements
use Rattle.zir_meaning.specs.Run as wide_runs
use Rattle.zir_meaning.specs.Run.{top_values}
use Rattle.zir_meaning.specs.Answer as wide
use Rattle.zir_bit_tree.specs.declared.value.Val.{Val}
use Rattle.zir_bit_tree.specs.declared.value.Val.TheVariants.{Unit as UnitVal, Bit as BitVal}
use Rattle.zir_bit_tree.specs.declared.ends.End.{End}
use Rattle.zir_bit_tree.specs.declared.ends.End.TheVariants.{Value, Starved, Trap as Trapped, Spent}
use Rattle.zir_bit_meaning.specs.Trace.{State, Trace}
use Rattle.zir_bit_meaning.specs.Composition.{values}
use Rattle.zir_bit_meaning.specs.Component.{tr}
use Rattle.zir_bit_meaning.specs.Samples.{Ended, bits_of, elements, element_values, spell}
use Rattle.zir_bit_meaning.specs.Run.{run_end, start}
use Rattle.zir_bit_meaning.specs.Notes.{note_of}
use Rattle.zir_bit_meaning.specs.Answer.{status_of}
use Rattle.zir_bits.specs.Wide.{wide_value, wide_comp, plain}
use Rattle.zir_bits.specs.Traces.{wide_out, wide_end, wide_trace}
use Rattle.zir_bits.specs.Answers.{SameAnswers}
use Rattle.zir_bits.proofs.Lists.{map-length}
use Rattle.zir_bits.proofs.Compositions.{values-wide}
use Rattle.zir_bits.proofs.Components.{tr-wide}
use Rattle.zir_bits.proofs.Soundness.{Any, EachBit, Sound, IsSoundEnd, values-bits, tr-sound}
use Rattle.zir_bits.proofs.Samples.{elements-same, numbered-bits, spell-same}

-- what is answered of a trace of a program that alone runs
abbrev answer_over : ℕ → wide.Loaded → wide_traces.Trace → wide.Answer
answer_over ticks program t = record {
  status = wide.status_of (wide_runs.run_end wide_elements.Ended t.end);
  out = wide_elements.spell Binary (plain BitTy) (wide_joins.values t.outs) true;
  notes = wide.note_of (wide_runs.run_end wide_elements.Ended t.end) program ticks (0 + t.last.taken) (length (wide_joins.values t.outs));
}

-- the status of an end
status-same : (e : End) → wide.status_of (wide_runs.run_end wide_elements.Ended (wide_end e)) ≡ status_of (run_end Ended e)
status-same (Value v) = refl
status-same Starved = refl
status-same (Trapped t) = refl
status-same Spent = refl

-- the notes on an end that is no trap
notes-same : (e : End) (s : State) (program : wide.Loaded) (ticks taken written : ℕ) → IsSoundEnd Any e s →
    wide.note_of (wide_runs.run_end wide_elements.Ended (wide_end e)) program ticks taken written ≡ note_of (run_end Ended e) ticks taken written
notes-same (Value UnitVal) s program ticks taken written h = refl
notes-same (Value (BitVal false)) s program ticks taken written h = refl
notes-same (Value (BitVal true)) s program ticks taken written h = refl
notes-same Starved s program ticks taken written h = refl
notes-same (Trapped t) s program ticks taken written h = absurd h
notes-same Spent s program ticks taken written h = refl

-- what is answered of the trace of a component over bits
trace-answer : (ticks : ℕ) (program : wide.Loaded) (t : Trace) → Sound Any t →
    answer_over ticks program (wide_trace t) ≡ record {
      status = status_of (run_end Ended t.end);
      out = spell true (values t.outs);
      notes = note_of (run_end Ended t.end) ticks t.last.taken (length (values t.outs));
    }
trace-answer ticks program t sound =
    let bits : EachBit (values t.outs) = values-bits t.outs sound.outs in
    let end = wide_runs.run_end wide_elements.Ended (wide_end t.end) in
    let status : wide.status_of end ≡ status_of (run_end Ended t.end) = status-same t.end in
    let out : wide_elements.spell Binary (plain BitTy) (wide_joins.values (map wide_out t.outs)) true ≡ spell true (values t.outs) =
    ap (λ vs. wide_elements.spell Binary (plain BitTy) vs true) (values-wide t.outs) ∙ spell-same (values t.outs) bits in
    let written : length (wide_joins.values (map wide_out t.outs)) ≡ length (values t.outs) =
    ap length (values-wide t.outs) ∙ map-length wide_value (values t.outs) in
    let notes : wide.note_of end program ticks (0 + t.last.taken) (length (wide_joins.values (map wide_out t.outs)))
    ≡ note_of (run_end Ended t.end) ticks t.last.taken (length (values t.outs)) =
    ap (λ k. wide.note_of end program ticks k (length (wide_joins.values (map wide_out t.outs)))) (zero-add t.last.taken)
    ∙ ap (λ k. wide.note_of end program ticks t.last.taken k) written
    ∙ notes-same t.end t.last program ticks t.last.taken (length (values t.outs)) sound.end in
    λ i. record { status = status i; out = out i; notes = notes i }

-- what is answered where these are the top variables, the component, and the types of the input and of the output
abbrev answer_with : ℕ → wide.Loaded → List Var → Comp → Ty → Ty → List ℕ → wide.Answer
answer_with ticks program variables main input output bytes =
    let es = wide_elements.elements Binary input bytes true in
    let first = top_values (library_of program.core.structs program.core.functions) variables (wide_runs.start ticks) in
    let t = with_value first (wide_elements.element_values es.found) (λ v s xs. means program.core main s xs) in
    let r = wide_runs.last_run es.tail 0 0 t in
    record {
      status = wide.status_of r.end;
      out = wide_elements.spell Binary output r.outs true;
      notes = wide.note_of r.end program ticks r.taken (length r.outs);
    }

-- a typed program that is a program over bits, whose component emits bits alone, has one answer
pub answers-same : SameAnswers
answers-same ticks name core program bytes over bits =
    let loaded : wide.Loaded = record { name = name; core = core } in
    let xs : List Val = element_values (elements bytes true).found in
    (λ i. answer_with ticks loaded (over.variables i) (over.main i) (over.input i) (over.output i) bytes)
    ∙ ap (λ ys. answer_over ticks loaded (means core (wide_comp program.main) (wide_runs.start ticks) ys)) (elements-same bytes)
    ∙ ap (answer_over ticks loaded) (tr-wide (around core) (comps_of (around core) core.instances) program.main (start ticks) xs)
    ∙ trace-answer ticks loaded (tr program.main (start ticks) xs) (tr-sound program.main bits (start ticks) xs tt (numbered-bits 0 (bits_of bytes)))
