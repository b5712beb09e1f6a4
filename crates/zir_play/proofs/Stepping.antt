-- A run from one event of its stage to the next, and to its end.
use Rattle.std.proofs.Common.{◌≡◌, ◌⊎◌, ℕ, suc, ◌+◌, ◌-◌, ◌^◌, ◌≤◌, ℤ, false, List, [], ◌∷◌, ◌++◌, length, length-append, Option, Some, None, Result, Ok, Err, ap, sym, subst, refl, ◌∙◌, append_assoc, arith}
use Rattle.std.proofs.lemmas.List.{append-nil}
use Rattle.std.specs.Prelude.{map}
use Rattle.zir_tree.specs.declared.value.Val.{Val}
use Rattle.zir_tree.specs.declared.ends.End.TheVariants.{Value, Starved, Trap as Trapped, Spent}
use Rattle.zir_tree.specs.declared.ends.Stamp.{Stamp}
use Rattle.zir_tree.specs.declared.ends.Trap.{Trap}
use Rattle.zir_meaning.specs.Trace.{after, ends}
use Rattle.zir_meaning.specs.Values.{Each}
use Rattle.zir_meaning.specs.Elements.{Tail, Ended as EndedTail, Malformed as MalformedTail}
use Rattle.zir_meaning.specs.Run.{starved_end}
use Rattle.zir_cells.specs.Cells.{cells_of}
use Rattle.zir_laws.specs.Process.{Proc, Needs, run}
use Rattle.zir_shapes.specs.Shapes.{Shaped}
use Rattle.zir_expr.specs.Memory.Frames.{Memory}
use Rattle.zir_flow.specs.declared.instruction.Instruction.{Instruction}
use Rattle.zir_flow.specs.Stages.{Stage, Going, Giving, Needing, Ended, Failed, Gone, turned_on, handed}
use Rattle.zir_stage.specs.Standing.{given}
use Rattle.zir_samples.specs.Writing.{Kept, Wrote}
use Rattle.zir_reader.specs.declared.elements.Next.{Next}
use Rattle.zir_reader.specs.declared.elements.Next.TheVariants.{Element, End, Malformed, Failed as NextFailed}
use Rattle.zir_play.specs.declared.player.Finish.{Finish}
use Rattle.zir_play.specs.declared.player.Finish.TheVariants as finishes
use Rattle.zir_play.specs.declared.player.Outcome.{Outcome}
use Rattle.zir_play.specs.declared.player.PlayError.{PlayError}
use Rattle.zir_play.specs.declared.player.PlayError.TheVariants.{Read, Write, Exhausted}
use Rattle.zir_reader.specs.Inputs.{Input, input_of, HasOnly, Gets}
use Rattle.zir_play.specs.Performing.{Interface, Performs}
use Rattle.zir_play.specs.Runs.{numbers_of, TellsEnd, GoesOn, Played, Interrupted, BrokeOff, UsedUp}
use Rattle.zir_play.specs.Turning.{Goes, Turned, PutsFront, Hands, EndsAs}
use Rattle.zir_play.proofs.Events.{GivesFirst, gives_first, NeedsFirst, needs_first, ends_first, traps_first, gone_first, meets}
use Rattle.zir_play.proofs.Traces.{numbers-push, trace_is, front_is, goes_on_from, goes_on_given, goes_on_taken}
use Rattle.zir_play.proofs.Output.{wrote_none, wrote_then, part_after}

-- a run begins
pub goes_from : {K : Type 0} (stands_for : K → List ℕ → Type 0) (sink : K) (kept : Kept) (i : Interface) (code : List Instruction) (p : Proc) (xs : List Val) (tail : Tail) (left : Option Input) (s : Stage) →
    Performs i code p s → left ≡ Some (input_of xs tail) → Each (Shaped i.structs i.input) xs → Goes stands_for sink sink kept kept i code p xs tail left s 0 0
goes_from stands_for sink kept i code p xs tail left s performs told shaped = record {
  next = p;
  received = [];
  outs = [];
  under = record {
    performs = performs;
    goes_on = goes_on_from p;
    remains = record { rest = xs; split = refl; left_is = told };
    shaped = shaped;
    written_is = refl;
    events_are = refl;
  };
  wrote = wrote_none stands_for sink kept;
}

-- what is first among elements, by their cells
record IsFirst (xs : List Val) (into : List ℤ) (more : List (List ℤ)) : Type 0 where
  element : Val
  rest : List Val
  is : xs ≡ element ∷ rest
  into_is : into ≡ cells_of element
  more_is : more ≡ map cells_of rest

is_first : (xs : List Val) (into : List ℤ) (more : List (List ℤ)) → map cells_of xs ≡ into ∷ more → IsFirst xs into more
is_first [] into more e = absurd (cc)
is_first (x ∷ xs) into more e =
    let into_same : into ≡ cells_of x = cc in
    let more_same : more ≡ map cells_of xs = cc in
    record { element = x; rest = xs; is = refl; into_is = into_same; more_is = more_same }

-- no elements
is_none : (xs : List Val) → map cells_of xs ≡ [] → xs ≡ []
is_none [] e = refl
is_none (x ∷ xs) e = absurd (cc)

module _ {K : Type 0} (stands_for : K → List ℕ → Type 0) (before : K) (old : Kept) (i : Interface) (code : List Instruction) (p : Proc) (xs : List Val) (tail : Tail) where
  -- the turns were used up
  pub used_up : (now : K) (new : Kept) (left : Option Input) (s : Stage) (written events : ℕ) (g : Goes stands_for before now old new i code p xs tail left s written events) →
      (2 ^ 64 - 1 ≤ length g.received + length g.outs) ⊎ ((s' : Stage) × (turned_on (2 ^ 64 - 1) code s ≡ Going s')) → UsedUp stands_for before now old new i code p xs
  used_up now new left s written events g h = record {
    received = g.received;
    rest = g.under.remains.rest;
    split = g.under.remains.split;
    outs = g.outs;
    front = front_is p g.next xs g.received g.under.remains.rest g.outs g.under.goes_on g.under.remains.split;
    wrote = g.wrote;
    long = record { next = g.next; goes_on = g.under.goes_on; stage = s; performs = g.under.performs; long = h };
  }

  -- the output that comes next
  next_output : (now : K) (new : Kept) (left : Option Input) (s s' : Stage) (written events n : ℕ) (cells : List ℤ) (taken ticks : ℕ) (g : Goes stands_for before now old new i code p xs tail left s written events) →
      turned_on n code s ≡ Giving cells taken ticks s' → GivesFirst i code g.next cells s'
  next_output now new left s s' written events n cells taken ticks g e =
      gives_first i code g.next cells taken ticks s' (meets i code g.next s n (Giving cells taken ticks s') g.under.performs tt e)

  -- an output was written
  pub given_on : (mid now : K) (kept new : Kept) (left : Option Input) (s s' : Stage) (written more events n : ℕ) (cells : List ℤ) (taken ticks : ℕ) → Goes stands_for before mid old kept i code p xs tail left s written events →
      turned_on n code s ≡ Giving cells taken ticks s' → more ≡ written + 1 → Wrote stands_for mid now kept new cells → Goes stands_for before now old new i code p xs tail left s' more (suc events)
  given_on mid now kept new left s s' written more events n cells taken ticks g e w wrote =
      let f = next_output mid kept left s s' written events n cells taken ticks g e in
      let longer : length (g.outs ++ f.out ∷ []) ≡ length g.outs + 1 = length-append g.outs (f.out ∷ []) in
      record {
        next = f.next;
        received = g.received;
        outs = g.outs ++ f.out ∷ [];
        under = record {
          performs = f.performs;
          goes_on = goes_on_given p f.next f.out g.received g.outs (subst (λ q. GoesOn p q g.received g.outs) f.is g.under.goes_on);
          remains = g.under.remains;
          shaped = g.under.shaped;
          written_is = w ∙ ap (λ k. k + 1) g.under.written_is ∙ sym longer;
          events_are = omega (arith, longer, g.under.events_are);
        };
        wrote = subst (Wrote stands_for before now old new) (sym (numbers-push g.outs f.out ∙ ap (λ ns. numbers_of g.outs ++ ns) (sym f.cells_are)))
            (wrote_then stands_for before mid now old kept new (numbers_of g.outs) cells g.wrote wrote);
      }

  -- an output was put in part
  pub given_off : (mid now : K) (kept : Kept) (left : Option Input) (s s' : Stage) (written events n : ℕ) (cells : List ℤ) (taken ticks : ℕ) → Goes stands_for before mid old kept i code p xs tail left s written events →
      turned_on n code s ≡ Giving cells taken ticks s' → PutsFront stands_for mid now kept cells → BrokeOff stands_for before now old (run p xs)
  given_off mid now kept left s s' written events n cells taken ticks g e part =
      let f = next_output mid kept left s s' written events n cells taken ticks g e in
      record {
        outs = g.outs ++ f.out ∷ [];
        front = front_is p f.next xs g.received g.under.remains.rest (g.outs ++ f.out ∷ [])
            (goes_on_given p f.next f.out g.received g.outs (subst (λ q. GoesOn p q g.received g.outs) f.is g.under.goes_on)) g.under.remains.split;
        some = numbers_of g.outs ++ part.some;
        more = part.more;
        numbers = numbers-push g.outs f.out ∙ ap (λ ns. numbers_of g.outs ++ ns) (sym f.cells_are ∙ part.split) ∙ sym (append_assoc (numbers_of g.outs) part.some part.more);
        part = part_after stands_for before mid now old kept (numbers_of g.outs) part.some false g.wrote part.part;
      }

  module _ (now : K) (new : Kept) (left : Option Input) (s s1 : Stage) (written events n taken ticks : ℕ) (g : Goes stands_for before now old new i code p xs tail left s written events) where
    -- what the process needs next
    next_need : turned_on n code s ≡ Needing taken ticks s1 → NeedsFirst i code g.next taken ticks s1
    next_need e = needs_first i code g.next taken ticks s1 (meets i code g.next s n (Needing taken ticks s1) g.under.performs tt e)

    -- an element was handed in
    pub handed_on : (left' : Option Input) (s2 : Stage) (into : List ℤ) → turned_on n code s ≡ Needing taken ticks s1 → Gets left left' into Element → s2 ≡ handed code into s1 →
        Goes stands_for before now old new i code p xs tail left' s2 written (suc events)
    handed_on left' s2 into e gets same =
        let f = next_need e in
        let took = subst (λ l. Gets l left' into Element) g.under.remains.left_is gets in
        let x = is_first g.under.remains.rest into took.more took.first in
        let shaped = subst (Each (Shaped i.structs i.input)) x.is g.under.shaped in
        let longer : length (g.received ++ x.element ∷ []) ≡ length g.received + 1 = length-append g.received (x.element ∷ []) in
        record {
          next = f.next x.element;
          received = g.received ++ x.element ∷ [];
          outs = g.outs;
          under = record {
            performs = subst (Performs i code (f.next x.element)) (sym (same ∙ ap (λ cells. handed code cells s1) x.into_is)) (f.performs x.element shaped.0);
            goes_on = goes_on_taken p f.state f.next x.element g.received g.outs (subst (λ q. GoesOn p q g.received g.outs) f.is g.under.goes_on);
            remains = record {
              rest = x.rest;
              split = g.under.remains.split ∙ ap (λ ys. g.received ++ ys) x.is ∙ sym (append_assoc g.received (x.element ∷ []) x.rest);
              left_is = took.left_is ∙ ap (λ (cells : List (List ℤ)). Some (record { elements = cells; tail = tail })) x.more_is;
            };
            shaped = shaped.1;
            written_is = g.under.written_is;
            events_are = omega (arith, longer, g.under.events_are);
          };
          wrote = g.wrote;
        }

    -- the input had no element
    played_starved : (left' : Option Input) (other : Tail) (m : Memory) (end : Finish) → turned_on n code s ≡ Needing taken ticks s1 → HasOnly (input_of g.under.remains.rest tail) other left' →
        TellsEnd end (starved_end tail) → Played stands_for before now old new i (run p xs) xs tail left' m (record { end = end; taken = taken; ticks = ticks; written = written })
    played_starved left' other m end e h tells =
        let f = next_need e in
        let none = is_none g.under.remains.rest h.none in
        let trace : run p xs ≡ after g.outs (ends Starved f.state []) =
        trace_is p g.next xs g.received g.under.remains.rest g.outs g.under.goes_on g.under.remains.split
        ∙ ap (λ q. after g.outs (run q g.under.remains.rest)) f.is ∙ ap (λ ys. after g.outs (run (Needs f.state f.next) ys)) none in
        subst (λ t. Played stands_for before now old new i t xs tail left' m (record { end = end; taken = taken; ticks = ticks; written = written })) (sym trace)
        (record {
          tells = record { end = tells; taken = f.at.elements; ticks = f.at.used; written = ap length (append-nil g.outs) ∙ sym g.under.written_is };
          wrote = subst (λ os. Wrote stands_for before now old new (numbers_of os)) (sym (append-nil g.outs)) g.wrote;
          rest = h.left_is ∙ ap (λ ys. Some (input_of ys tail)) none;
          value = tt;
        })

    -- a read failed
    interrupted : (left' : Option Input) → turned_on n code s ≡ Needing taken ticks s1 → left' ≡ Some (input_of g.under.remains.rest tail) → Interrupted stands_for before now old new p xs tail left'
    interrupted left' e told =
        let f = next_need e in
        let trace : run p g.received ≡ after g.outs (ends Starved f.state []) =
        trace_is p g.next g.received g.received [] g.outs g.under.goes_on (sym (append-nil g.received)) ∙ ap (λ q. after g.outs (run q [])) f.is in
        let outs : (run p g.received).outs ≡ g.outs = ap (λ t. t.outs) trace ∙ append-nil g.outs in
        let front = front_is p g.next xs g.received g.under.remains.rest g.outs g.under.goes_on g.under.remains.split in
        record {
          received = g.received;
          remains = record { rest = g.under.remains.rest; split = g.under.remains.split; left_is = told };
          starves = ap (λ t. t.end) trace;
          wrote = subst (λ os. Wrote stands_for before now old new (numbers_of os)) (sym outs) g.wrote;
          front = record { more = front.more; outs = front.outs ∙ ap (λ os. os ++ front.more) (sym outs) };
        }

    -- what was answered where the stage needed an element
    hands_end : (left' : Option Input) (into : List ℤ) (next : Next) (m : Memory) (point : Stamp) (o : Outcome) → turned_on n code s ≡ Needing taken ticks s1 → taken ≡ point.taken → ticks ≡ point.ticks →
        Gets left left' into next → EndsAs next point written o → Played stands_for before now old new i (run p xs) xs tail left' m o
    hands_end left' into Element m point o e a b gets as_end = absurd as_end
    hands_end left' into End m point o e a b gets as_end =
        let h = subst (λ l. Gets l left' into End) g.under.remains.left_is gets in
        subst (Played stands_for before now old new i (run p xs) xs tail left' m)
        (ap (λ k. record { end = finishes.Input; taken = k; ticks = ticks; written = written }) a ∙ ap (λ k. record { end = finishes.Input; taken = point.taken; ticks = k; written = written }) b ∙ sym as_end)
        (played_starved left' EndedTail m finishes.Input e h (ap starved_end h.tail_is))
    hands_end left' into (Malformed at) m point o e a b gets as_end =
        let h = subst (λ l. Gets l left' into (Malformed at)) g.under.remains.left_is gets in
        subst (Played stands_for before now old new i (run p xs) xs tail left' m)
        (ap (λ k. record { end = finishes.Malformed at; taken = k; ticks = ticks; written = written }) a ∙ ap (λ k. record { end = finishes.Malformed at; taken = point.taken; ticks = k; written = written }) b ∙ sym as_end)
        (played_starved left' (MalformedTail at) m (finishes.Malformed at) e h (ap starved_end h.tail_is))
    hands_end left' into NextFailed m point o e a b gets as_end = absurd as_end

    -- what an element that was asked for has come to
    pub hands_turned : (left' : Option Input) (s2 : Stage) (m : Memory) (point : Stamp) (result : Result (Option Outcome) PlayError) → turned_on n code s ≡ Needing taken ticks s1 → taken ≡ point.taken → ticks ≡ point.ticks →
        Hands code left left' s1 s2 point written result → Turned stands_for before now old new i code p xs tail left' s2 m written events result
    hands_turned left' s2 m point (Ok None) e a b h = handed_on left' s2 h.0 e h.1 h.2
    hands_turned left' s2 m point (Ok (Some o)) e a b h = hands_end left' h.0 h.1 m point o e a b h.2 h.4
    hands_turned left' s2 m point (Err Read) e a b h = interrupted left' e (subst (λ l. Gets l left' h.0 NextFailed) g.under.remains.left_is h.1)
    hands_turned left' s2 m point (Err Write) e a b h = absurd h
    hands_turned left' s2 m point (Err Exhausted) e a b h = absurd h

    -- the stage has ended with a value
    pub played_value : turned_on n code s ≡ Ended taken ticks s1 → Played stands_for before now old new i (run p xs) xs tail left (given s1) (record { end = finishes.Value; taken = taken; ticks = ticks; written = written })
    played_value e =
        let f = ends_first i code g.next taken ticks s1 (meets i code g.next s n (Ended taken ticks s1) g.under.performs tt e) in
        let trace : run p xs ≡ after g.outs (ends (Value f.value) f.state g.under.remains.rest) =
        trace_is p g.next xs g.received g.under.remains.rest g.outs g.under.goes_on g.under.remains.split ∙ ap (λ q. after g.outs (run q g.under.remains.rest)) f.is in
        subst (λ t. Played stands_for before now old new i t xs tail left (given s1) (record { end = finishes.Value; taken = taken; ticks = ticks; written = written })) (sym trace)
        (record {
          tells = record { end = (f.value, refl); taken = f.at.elements; ticks = f.at.used; written = ap length (append-nil g.outs) ∙ sym g.under.written_is };
          wrote = subst (λ os. Wrote stands_for before now old new (numbers_of os)) (sym (append-nil g.outs)) g.wrote;
          rest = g.under.remains.left_is;
          value = f.stands;
        })

    -- the stage has trapped
    pub played_trap : (c : Trap) (m : Memory) → turned_on n code s ≡ Failed c taken ticks s1 → Played stands_for before now old new i (run p xs) xs tail left m (record { end = finishes.Trap c; taken = taken; ticks = ticks; written = written })
    played_trap c m e =
        let f = traps_first i code g.next c taken ticks s1 (meets i code g.next s n (Failed c taken ticks s1) g.under.performs tt e) in
        let trace : run p xs ≡ after g.outs (ends (Trapped c) f.state g.under.remains.rest) =
        trace_is p g.next xs g.received g.under.remains.rest g.outs g.under.goes_on g.under.remains.split ∙ ap (λ q. after g.outs (run q g.under.remains.rest)) f.is in
        subst (λ t. Played stands_for before now old new i t xs tail left m (record { end = finishes.Trap c; taken = taken; ticks = ticks; written = written })) (sym trace)
        (record {
          tells = record { end = refl; taken = f.at.elements; ticks = f.at.used; written = ap length (append-nil g.outs) ∙ sym g.under.written_is };
          wrote = subst (λ os. Wrote stands_for before now old new (numbers_of os)) (sym (append-nil g.outs)) g.wrote;
          rest = g.under.remains.left_is;
          value = tt;
        })

  -- no tick was left
  pub played_spent : (now : K) (new : Kept) (left : Option Input) (s : Stage) (written events n : ℕ) (m : Memory) → Goes stands_for before now old new i code p xs tail left s written events → turned_on n code s ≡ Gone →
      Played stands_for before now old new i (run p xs) xs tail left m (record { end = finishes.Spent; taken = 0; ticks = 0; written = written })
  played_spent now new left s written events n m g e =
      let f = gone_first i code g.next (meets i code g.next s n Gone g.under.performs tt e) in
      let trace : run p xs ≡ after g.outs (ends Spent f.0 g.under.remains.rest) =
      trace_is p g.next xs g.received g.under.remains.rest g.outs g.under.goes_on g.under.remains.split ∙ ap (λ q. after g.outs (run q g.under.remains.rest)) f.1 in
      subst (λ t. Played stands_for before now old new i t xs tail left m (record { end = finishes.Spent; taken = 0; ticks = 0; written = written })) (sym trace)
      (record {
        tells = record { end = refl; taken = refl; ticks = refl; written = ap length (append-nil g.outs) ∙ sym g.under.written_is };
        wrote = subst (λ os. Wrote stands_for before now old new (numbers_of os)) (sym (append-nil g.outs)) g.wrote;
        rest = (g.received, g.under.remains);
        value = tt;
      })

-- a turn that came to an end
pub turned_end : {K : Type 0} (stands_for : K → List ℕ → Type 0) (before now : K) (old new : Kept) (i : Interface) (code : List Instruction) (p : Proc) (xs : List Val) (tail : Tail) (left : Option Input) (s : Stage) (m : Memory) (written events : ℕ) (r : Option Outcome) (o : Outcome) → r ≡ Some o →
    Turned stands_for before now old new i code p xs tail left s m written events (Ok r) → Played stands_for before now old new i (run p xs) xs tail left m o
turned_end stands_for before now old new i code p xs tail left s m written events r o e h =
    subst (λ x. Turned stands_for before now old new i code p xs tail left s m written events (Ok x)) e h

-- a turn after which the run goes on
pub turned_on_from : {K : Type 0} (stands_for : K → List ℕ → Type 0) (before now : K) (old new : Kept) (i : Interface) (code : List Instruction) (p : Proc) (xs : List Val) (tail : Tail) (left : Option Input) (s : Stage) (m : Memory) (written events next : ℕ) (r : Option Outcome) → r ≡ None → suc events ≡ next →
    Turned stands_for before now old new i code p xs tail left s m written events (Ok r) → Goes stands_for before now old new i code p xs tail left s written next
turned_on_from stands_for before now old new i code p xs tail left s m written events next r e f h =
    subst (Goes stands_for before now old new i code p xs tail left s written) f
    (subst (λ x. Turned stands_for before now old new i code p xs tail left s m written events (Ok x)) e h)
