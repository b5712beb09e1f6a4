-- Measures that are noted one after the other.
use Rattle.std.specs.Prelude.{◌≡◌, ℕ, Bool, true, false, ◌||◌, nat_eq, nat_lt, List, [], ◌∷◌, ◌++◌, Option, Some, Result, Ok, Err, OnOk, refl}
use Rattle.std.proofs.Common.{ap, ◌∙◌, sym, append_assoc, append-nil}
use Rattle.zir_tree.specs.declared.place.Place.{Place}
use Rattle.zir_types.specs.Measures.{Measure, Spans, Holds, Sends, Calls, Splits}
use Rattle.zir_types.specs.Limits.{sooner, wrong_at, bad_length, too_large, too_wide, too_long, places}
use Rattle.zir_limits.specs.declared.notes.Call.{Call}
use Rattle.zir_limits.specs.declared.notes.Notes.{Notes}
use Rattle.zir_limits.proofs.Order.{first_of-late}
use Rattle.zir_limits.specs.Notes.{first_of, marks, calls_in, noted, target_of, measure_target}
use Rattle.zir_limits.specs.declared.notes.Target.{Target as CallTarget}
use Rattle.zir_limits.specs.declared.notes.Target.TheVariants.{Function, Instance}

pub first_of-more : (o : Option Place) (ps qs : List Place) → first_of o (ps ++ qs) ≡ first_of (first_of o ps) qs
first_of-more o [] qs = refl
first_of-more o (p ∷ ps) qs = first_of-more (Some (sooner p o)) ps qs

pub places-more : (f : Measure → List Place) (xs ys : List Measure) → places f (xs ++ ys) ≡ places f xs ++ places f ys
places-more f [] ys = refl
places-more f (m ∷ ms) ys = ap (λ r. f m ++ r) (places-more f ms ys) ∙ sym (append_assoc (f m) (places f ms) (places f ys))

-- the call of a measure
abbrev one_call : Call → List Call → List Call
one_call c cs = c ∷ cs

pub calls-more : (xs ys : List Measure) → calls_in (xs ++ ys) ≡ calls_in xs ++ calls_in ys
calls-more [] ys = refl
calls-more (Spans n p ∷ ms) ys = calls-more ms ys
calls-more (Holds n p ∷ ms) ys = calls-more ms ys
calls-more (Sends n p ∷ ms) ys = calls-more ms ys
calls-more (Calls t p ∷ ms) ys = ap (one_call (record { target = target_of t; at = p })) (calls-more ms ys)
calls-more (Splits n p ∷ ms) ys = calls-more ms ys

-- the first place of a limit along two lists
first_at : (f : Measure → List Place) (o : Option Place) (xs ys : List Measure) →
    first_of o (places f (xs ++ ys)) ≡ first_of (first_of o (places f xs)) (places f ys)
first_at f o xs ys = ap (first_of o) (places-more f xs ys) ∙ first_of-more o (places f xs) (places f ys)

calls_at : (cs : List Call) (xs ys : List Measure) → cs ++ calls_in (xs ++ ys) ≡ (cs ++ calls_in xs) ++ calls_in ys
calls_at cs xs ys = ap (λ r. cs ++ r) (calls-more xs ys) ∙ sym (append_assoc cs (calls_in xs) (calls_in ys))

-- notes with these parts
abbrev made : Option Place → Option Place → Option Place → Option Place → List Call → Notes
made a b c d e = record { first_length = a; first_cells = b; first_element = c; first_stages = d; calls = e }

-- one list of measures and then another
pub noted-more : (xs ys : List Measure) (n : Notes) → noted (xs ++ ys) n ≡ noted ys (noted xs n)
noted-more xs ys n = λ i. made (first_at bad_length n.first_length xs ys i) (first_at too_large n.first_cells xs ys i) (first_at too_wide n.first_element xs ys i)
    (first_at too_long n.first_stages xs ys i) (calls_at n.calls xs ys i)

-- no measure
pub noted-none : (n : Notes) → noted [] n ≡ n
noted-none n = λ i. made n.first_length n.first_cells n.first_element n.first_stages (append-nil n.calls i)

-- notes of two parts
pub noted_two : (xs ys : List Measure) (n m r : Notes) → m ≡ noted xs n → r ≡ noted ys m → r ≡ noted (xs ++ ys) n
noted_two xs ys n m r h k = k ∙ ap (noted ys) h ∙ sym (noted-more xs ys n)

-- notes of three parts
pub noted_three : (xs ys zs : List Measure) (n m r s : Notes) → m ≡ noted xs n → r ≡ noted ys m → s ≡ noted zs r → s ≡ noted (xs ++ ys ++ zs) n
noted_three xs ys zs n m r s h k l = noted_two (xs ++ ys) zs n r s (noted_two xs ys n m r h k) l

-- notes of one more part in a row
pub noted_next : (xs ys : List Measure) (n m : Notes) → m ≡ noted xs n → noted (xs ++ ys) n ≡ noted ys m
noted_next xs ys n m h = noted-more xs ys n ∙ ap (noted ys) (sym h)

-- what follows from what an answer tells, it tells too
pub on_ok : {T E : Type 0} {P Q : Type 0} (r : Result T E) → (P → Q) → OnOk r P → OnOk r Q
on_ok (Ok x) f h = f h
on_ok (Err e) f h = h

-- notes of the same measures
pub carried : {T E : Type 0} (r : Result T E) (xs ys : List Measure) (n m : Notes) → xs ≡ ys → OnOk r (m ≡ noted ys n) → OnOk r (m ≡ noted xs n)
carried r xs ys n m e h = on_ok r (λ k. k ∙ ap (λ zs. noted zs n) (sym e)) h

-- notes of a part before what an answer tells of
pub carried_two : {T E : Type 0} (r : Result T E) (zs xs ys : List Measure) (n m s : Notes) → zs ≡ xs ++ ys → m ≡ noted xs n →
    OnOk r (s ≡ noted ys m) → OnOk r (s ≡ noted zs n)
carried_two r zs xs ys n m s e h k = on_ok r (λ l. noted_two xs ys n m s h l ∙ ap (λ ws. noted ws n) (sym e)) k

marks_first : (wrong : Bool) (p : Place) (o : Option Place) → marks wrong p o ≡ first_of o (wrong_at wrong p ++ [])
marks_first true p o = refl
marks_first false p o = refl

-- one length
pub spans_noted : (n : Notes) (k : ℕ) (p : Place) (o : Option Place) → o ≡ marks (nat_eq k 0 || nat_lt 4096 k) p n.first_length →
    made o n.first_cells n.first_element n.first_stages n.calls ≡ noted (Spans k p ∷ []) n
spans_noted n k p o h =
    let e = h ∙ marks_first (nat_eq k 0 || nat_lt 4096 k) p n.first_length in
    λ i. made (e i) n.first_cells n.first_element n.first_stages (sym (append-nil n.calls) i)

-- the cells of one type
pub holds_noted : (n : Notes) (k : ℕ) (p : Place) (o : Option Place) → o ≡ marks (nat_lt 65536 k) p n.first_cells →
    made n.first_length o n.first_element n.first_stages n.calls ≡ noted (Holds k p ∷ []) n
holds_noted n k p o h =
    let e = h ∙ marks_first (nat_lt 65536 k) p n.first_cells in
    λ i. made n.first_length (e i) n.first_element n.first_stages (sym (append-nil n.calls) i)

-- the cells of one element
pub sends_noted : (n : Notes) (k : ℕ) (p : Place) (o : Option Place) → o ≡ marks (nat_lt 4096 k) p n.first_element →
    made n.first_length n.first_cells o n.first_stages n.calls ≡ noted (Sends k p ∷ []) n
sends_noted n k p o h =
    let e = h ∙ marks_first (nat_lt 4096 k) p n.first_element in
    λ i. made n.first_length n.first_cells (e i) n.first_stages (sym (append-nil n.calls) i)

-- one link
pub splits_noted : (n : Notes) (k : ℕ) (p : Place) (o : Option Place) → o ≡ marks (nat_eq k 16) p n.first_stages →
    made n.first_length n.first_cells n.first_element o n.calls ≡ noted (Splits k p ∷ []) n
splits_noted n k p o h =
    let e = h ∙ marks_first (nat_eq k 16) p n.first_stages in
    λ i. made n.first_length n.first_cells n.first_element (e i) (sym (append-nil n.calls) i)

same_target : (t : CallTarget) → target_of (measure_target t) ≡ t
same_target (Function k) = refl
same_target (Instance k) = refl

-- where something is wrong, noted last or first
wrong_late : (o : Option Place) (ps : List Place) (wrong : Bool) (p : Place) → first_of (first_of o ps) (wrong_at wrong p ++ []) ≡ first_of o (wrong_at wrong p ++ ps)
wrong_late o ps true p = first_of-late p o ps
wrong_late o ps false p = refl

-- a length and cells, noted last or first
pub noted-late : (ms : List Measure) (k c : ℕ) (p : Place) (n : Notes) →
    noted (Spans k p ∷ Holds c p ∷ []) (noted ms n) ≡ noted (Spans k p ∷ Holds c p ∷ ms) n
noted-late ms k c p n = λ i. made (wrong_late n.first_length (places bad_length ms) (nat_eq k 0 || nat_lt 4096 k) p i)
    (wrong_late n.first_cells (places too_large ms) (nat_lt 65536 c) p i) (first_of n.first_element (places too_wide ms))
    (first_of n.first_stages (places too_long ms)) (append-nil (n.calls ++ calls_in ms) i)

-- a call of this at a place
abbrev call_of : Place → CallTarget → Call
call_of p t = record { target = t; at = p }

-- one call
pub call_noted : (n : Notes) (t : CallTarget) (p : Place) (cs : List Call) → cs ≡ n.calls ++ call_of p t ∷ [] →
    made n.first_length n.first_cells n.first_element n.first_stages cs ≡ noted (Calls (measure_target t) p ∷ []) n
call_noted n t p cs h =
    let e = h ∙ ap (λ u. n.calls ++ call_of p u ∷ []) (sym (same_target t)) in
    λ i. made n.first_length n.first_cells n.first_element n.first_stages (e i)

-- what holds, an answer tells too
pub always : {T E : Type 0} {P : Type 0} (r : Result T E) → P → OnOk r P
always (Ok x) h = h
always (Err e) h = tt
