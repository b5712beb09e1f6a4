-- A run of two composed processes is the composition of their runs.
use Rattle.std.specs.Prelude.{ℕ, zero, suc, ◌+◌, ◌-◌, ◌≤◌, ◌<◌, List, [], ◌∷◌, ◌≡◌, refl, drop, Bool, true, false, nat_le, length}
use Rattle.std.proofs.Common.{sym, ap, ◌∙◌, arith, subst}
use Rattle.std.proofs.lemmas.Bool.{leb-false}
use Rattle.zir_bit_tree.specs.declared.value.Val.{Val}
use Rattle.zir_bit_tree.specs.declared.ends.End.{End}
use Rattle.zir_bit_tree.specs.declared.ends.End.TheVariants.{Value, Starved, Trap as Trapped, Spent}
use Rattle.zir_bit_meaning.specs.Trace.{State, Point, point, Out, Trace, nowhere, spent, ends, gives}
use Rattle.zir_bit_meaning.specs.Composition.{limit, point_at, over, at_point, waiting, within, joined, compose, values}
use Rattle.zir_bit_laws.specs.Prefixes.{OutsFrom, EndFrom}
use Rattle.zir_bit_laws.specs.Process.{Proc, Gives, Ends, Needs, run, holds, pull, piped}
use Rattle.zir_bit_laws.proofs.Counts.{Counts}
use Rattle.zir_bit_laws.proofs.Late.{within-spent, past-limit, run-holds, late-outs, late-end, late-point}

-- a spent process is spent within any limit
spent-both : (b b' : Bool) (s : State) (xs : List Val) → run (holds b (Ends Spent s)) xs ≡ within b' spent
spent-both true true s xs = refl
spent-both true false s xs = refl
spent-both false true s xs = refl
spent-both false false s xs = refl

-- a starved right side whose left side ends past the limit
starved : (ids : List ℕ) (s : State) (input : List Val) (s2 : State) (t : ℕ) (e : End) (last : State) → EndFrom t e last → limit s < t + s2.ticks →
    within (nat_le (last.ticks + s2.ticks) (limit s))
    (ends e (at_point s (over ids (point last) (waiting (length s.store) e (point s2)))) (drop (last.taken - s.taken) input)) ≡ spent
starved ids s input s2 t (Value v) last le lim = past-limit (limit s) _ _ (omega arith)
starved ids s input s2 t Starved last le lim = past-limit (limit s) _ _ (omega arith)
starved ids s input s2 t (Trapped c) last le lim = past-limit (limit s) _ _ (omega arith)
starved ids s input s2 t Spent last le lim = within-spent _

-- a right side each of whose later points is past the limit
beyond : (ids : List ℕ) (r : Proc) (s : State) (input : List Val) (all : List Out) (e1 : End) (last : State) (j t2 t : ℕ) →
    Counts j t2 r → ((k : ℕ) → j ≤ k → t ≤ (point_at (point s) all k).ticks) → EndFrom t e1 last → limit s < t + t2 →
    (vs : List Val) → joined ids s input all e1 last (run r vs) ≡ spent
beyond ids (Gives o r) s input all e1 last j t2 t h lo le lim vs =
    let a = lo o.at.taken (omega arith) in past-limit (limit s) _ _ (omega arith)
beyond ids (Ends (Value v) s2) s input all e1 last j t2 t h lo le lim vs =
    let a = lo s2.taken (omega arith) in past-limit (limit s) _ _ (omega arith)
beyond ids (Ends Starved s2) s input all e1 last j t2 t h lo le lim vs = absurd h
beyond ids (Ends (Trapped c) s2) s input all e1 last j t2 t h lo le lim vs =
    let a = lo s2.taken (omega arith) in past-limit (limit s) _ _ (omega arith)
beyond ids (Ends Spent s2) s input all e1 last j t2 t h lo le lim vs = within-spent _
beyond ids (Needs s2 f) s input all e1 last j t2 t h lo le lim [] = starved ids s input s2 t e1 last le (omega arith)
beyond ids (Needs s2 f) s input all e1 last j t2 t h lo le lim (v ∷ vs) =
    beyond ids (f v) s input all e1 last (j + 1) s2.ticks t (h.2 v) (λ k a. lo k (omega arith)) le (omega arith) vs

-- what is left of a list after one more
drop-step : (n : ℕ) (input : List Val) (x : Val) (xs : List Val) → drop n input ≡ x ∷ xs → drop (suc n) input ≡ xs
drop-step zero [] x xs e = absurd (cc)
drop-step zero (y ∷ input) x xs e = cc
drop-step (suc n) [] x xs e = absurd (cc)
drop-step (suc n) (y ∷ input) x xs e = drop-step n input x xs e

-- what is left of an input after one more element
drop-next : (s : State) (input : List Val) (k : ℕ) (x : Val) (xs : List Val) → s.taken ≤ k → drop (k - s.taken) input ≡ x ∷ xs → drop (k + 1 - s.taken) input ≡ xs
drop-next s input k x xs le e =
    let z : k + 1 - s.taken ≡ suc (k - s.taken) = omega arith in ap (λ n. drop n input) z ∙ drop-step (k - s.taken) input x xs e

-- from the j-th point on all outputs are at the base and then at these outputs
abbrev pub Stands : State → List Out → ℕ → Point → List Out → Type 0
Stands s all j base outs = (i : ℕ) → point_at (point s) all (j + i) ≡ point_at base outs i

-- the j-th point is the base
pub stands-base : (s : State) (all : List Out) (j : ℕ) (base : Point) (outs : List Out) → Stands s all j base outs → (k : ℕ) → k ≡ j → point_at (point s) all k ≡ base
stands-base s all j base outs h k e =
    let z : k ≡ j + 0 = omega arith in ap (λ k. point_at (point s) all k) z ∙ h 0

-- the next output is the next base
pub stands-next : (s : State) (all : List Out) (j : ℕ) (base : Point) (o : Out) (outs : List Out) → Stands s all j base (o ∷ outs) → Stands s all (j + 1) o.at outs
stands-next s all j base o outs h i =
    let z : j + 1 + i ≡ j + suc i = omega arith in ap (λ k. point_at (point s) all k) z ∙ h (suc i)

-- an output over two equal points, and equal traces behind it
pub gives-over : (ids : List ℕ) (s : State) (o : Out) (b b' : Point) (t t' : Trace) → b ≡ b' → t ≡ t' →
    within (nat_le (over ids b o.at).ticks (limit s)) (gives (record { value = o.value; at = over ids b o.at }) t)
    ≡ within (nat_le (over ids b' o.at).ticks (limit s)) (gives (record { value = o.value; at = over ids b' o.at }) t')
gives-over ids s o b b' t t' e f =
    ap (λ b. within (nat_le (over ids b o.at).ticks (limit s)) (gives (record { value = o.value; at = over ids b o.at }) t)) e
    ∙ ap (λ t. within (nat_le (over ids b' o.at).ticks (limit s)) (gives (record { value = o.value; at = over ids b' o.at }) t)) f

-- an end over two equal points
pub ends-over : (ids : List ℕ) (s : State) (input xs : List Val) (e : End) (p b b' : Point) → b ≡ b' → drop (b.taken - s.taken) input ≡ xs →
    within (nat_le (over ids b p).ticks (limit s)) (ends e (at_point s (over ids b p)) xs)
    ≡ within (nat_le (over ids b' p).ticks (limit s)) (ends e (at_point s (over ids b' p)) (drop (b'.taken - s.taken) input))
ends-over ids s input xs e p b b' q d =
    ap (λ xs. within (nat_le (over ids b p).ticks (limit s)) (ends e (at_point s (over ids b p)) xs)) (sym d)
    ∙ ap (λ b. within (nat_le (over ids b p).ticks (limit s)) (ends e (at_point s (over ids b p)) (drop (b.taken - s.taken) input))) q

-- the composition law for a right side that has taken j outputs of the left side
abbrev Joins : List ℕ → State → List Val → List Out → Proc → ℕ → ℕ → Type 0
Joins ids s input all r j t2 =
    Counts j t2 r → (l : Proc) (base : Point) (xs : List Val) → Counts base.taken base.ticks l → s.taken ≤ base.taken → drop (base.taken - s.taken) input ≡ xs →
    Stands s all j base (run l xs).outs →
    run (piped ids (length s.store) s r base l) xs ≡ joined ids s input all (run l xs).end (run l xs).last (run r (values (run l xs).outs))

-- a right side that needs an element, where the left side's next point is past the limit
needs-past : (ids : List ℕ) (s : State) (input : List Val) (all : List Out) (e1 : End) (last : State) (s2 : State) (f : Val → Proc) (j t : ℕ) (base : Point) →
    ((v : Val) → Counts (j + 1) s2.ticks (f v)) → (outs : List Out) → OutsFrom t outs → Stands s all j base outs → EndFrom t e1 last → limit s < t + s2.ticks →
    joined ids s input all e1 last (run (Needs s2 f) (values outs)) ≡ spent
needs-past ids s input all e1 last s2 f j t base hf [] lo st le lim = starved ids s input s2 t e1 last le lim
needs-past ids s input all e1 last s2 f j t base hf (o ∷ os) lo st le lim =
    beyond ids (f o.value) s input all e1 last (j + 1) s2.ticks t (hf o.value)
    (λ k a. let z : k ≡ j + 1 + (k - (j + 1)) = omega arith in
    subst (λ p. t ≤ p.ticks) (sym (ap (λ k. point_at (point s) all k) z ∙ stands-next s all j base o os st (k - (j + 1)))) (late-point t o.at os (k - (j + 1)) lo.0 lo.1))
    le lim (values os)

-- a test on a trace that is spent where the test fails
asks : (s s1 s2 : State) (t t' : Trace) → t ≡ t' → (limit s < s1.ticks + s2.ticks → t' ≡ spent) → (b : Bool) → nat_le (s1.ticks + s2.ticks) (limit s) ≡ b → within b t ≡ t'
asks s s1 s2 t t' e past true h = e
asks s s1 s2 t t' e past false h = sym (past (leb-false (s1.ticks + s2.ticks) (limit s) h))

-- where the right side needs an element and the left side runs
pull-run : (ids : List ℕ) (s : State) (input : List Val) (all : List Out) (s2 : State) (f : Val → Proc) (j : ℕ) →
    ((v : Val) → Joins ids s input all (f v) (j + 1) s2.ticks) → ((v : Val) → Counts (j + 1) s2.ticks (f v)) →
    (l : Proc) (base : Point) (k t1 : ℕ) (xs : List Val) → Counts k t1 l → s.taken ≤ k → drop (k - s.taken) input ≡ xs → Stands s all j base (run l xs).outs →
    run (pull ids (length s.store) s (λ v p l'. piped ids (length s.store) s (f v) p l') s2 l) xs ≡ joined ids s input all (run l xs).end (run l xs).last (run (Needs s2 f) (values (run l xs).outs))
pull-run ids s input all s2 f j ih hf (Gives o l) base k t1 xs h le d st =
    ih o.value (hf o.value) l o.at xs (subst (λ k. Counts k o.at.ticks l) (sym h.0) h.2) (omega arith)
    (subst (λ k. drop (k - s.taken) input ≡ xs) (sym h.0) d) (stands-next s all j base o (run l xs).outs st)
pull-run ids s input all s2 f j ih hf (Ends (Value v) s1) base k t1 xs h le d st =
    run-holds _ _ xs
    ∙ ends-over ids s input xs (Value v) (waiting (length s.store) (Value v) (point s2)) (point s1) (point s1) refl
    (subst (λ k. drop (k - s.taken) input ≡ xs) (sym h.0) d)
pull-run ids s input all s2 f j ih hf (Ends Starved s1) base k t1 xs h le d st = absurd h
pull-run ids s input all s2 f j ih hf (Ends (Trapped c) s1) base k t1 xs h le d st =
    run-holds _ _ xs
    ∙ ends-over ids s input xs (Trapped c) (waiting (length s.store) (Trapped c) (point s2)) (point s1) (point s1) refl
    (subst (λ k. drop (k - s.taken) input ≡ xs) (sym h.0) d)
pull-run ids s input all s2 f j ih hf (Ends Spent s1) base k t1 xs h le d st =
    spent-both (nat_le (s1.ticks + s2.ticks) (limit s)) (nat_le (0 + s2.ticks) (limit s)) nowhere xs
pull-run ids s input all s2 f j ih hf (Needs s1 g) base k t1 [] h le d st =
    run-holds _ _ [] ∙ ends-over ids s input [] Starved (point s2) (point s1) (point s1) refl (subst (λ k. drop (k - s.taken) input ≡ []) (sym h.0) d)
pull-run ids s input all s2 f j ih hf (Needs s1 g) base k t1 (x ∷ xs) h le d st =
    run-holds (nat_le (s1.ticks + s2.ticks) (limit s)) _ (x ∷ xs)
    ∙ asks s s1 s2 (run (pull ids (length s.store) s (λ v p l'. piped ids (length s.store) s (f v) p l') s2 (g x)) xs) (joined ids s input all (run (g x) xs).end (run (g x) xs).last (run (Needs s2 f) (values (run (g x) xs).outs)))
    (pull-run ids s input all s2 f j ih hf (g x) base (k + 1) s1.ticks xs (h.2 x) (omega arith) (drop-next s input k x xs le d) st)
    (λ lim. needs-past ids s input all (run (g x) xs).end (run (g x) xs).last s2 f j s1.ticks base hf (run (g x) xs).outs
    (late-outs (g x) (k + 1) s1.ticks (h.2 x) xs) st (late-end (g x) (k + 1) s1.ticks (h.2 x) xs) lim)
    (nat_le (s1.ticks + s2.ticks) (limit s)) refl

-- the composition law from any place on
joins-run : (ids : List ℕ) (s : State) (input : List Val) (all : List Out) (r : Proc) (j t2 : ℕ) → Joins ids s input all r j t2
joins-run ids s input all (Gives o r) j t2 h l base xs hl le d st =
    run-holds (nat_le (over ids base o.at).ticks (limit s)) _ xs
    ∙ gives-over ids s o base (point_at (point s) all o.at.taken) _ _ (sym (stands-base s all j base (run l xs).outs st o.at.taken h.0))
    (joins-run ids s input all r j o.at.ticks h.2 l base xs hl le d st)
joins-run ids s input all (Ends (Value v) s2) j t2 h l base xs hl le d st =
    run-holds (nat_le (over ids base (point s2)).ticks (limit s)) _ xs
    ∙ ends-over ids s input xs (Value v) (point s2) base (point_at (point s) all s2.taken) (sym (stands-base s all j base (run l xs).outs st s2.taken h.0)) d
joins-run ids s input all (Ends Starved s2) j t2 h l base xs hl le d st = absurd h
joins-run ids s input all (Ends (Trapped c) s2) j t2 h l base xs hl le d st =
    run-holds (nat_le (over ids base (point s2)).ticks (limit s)) _ xs
    ∙ ends-over ids s input xs (Trapped c) (point s2) base (point_at (point s) all s2.taken) (sym (stands-base s all j base (run l xs).outs st s2.taken h.0)) d
joins-run ids s input all (Ends Spent s2) j t2 h l base xs hl le d st =
    spent-both (nat_le (base.ticks + s2.ticks) (limit s)) (nat_le ((point_at (point s) all 0).ticks + 0) (limit s)) nowhere xs
joins-run ids s input all (Needs s2 f) j t2 h l base xs hl le d st =
    pull-run ids s input all s2 f j (λ v. joins-run ids s input all (f v) (j + 1) s2.ticks) h.2 l base base.taken base.ticks xs hl le d st

-- a run of the composed processes is the composition of their traces
pub piped-run : (ids : List ℕ) (s : State) (r l : Proc) → Counts 0 0 r → Counts s.taken s.ticks l → (xs : List Val) →
    run (piped ids (length s.store) s r (point s) l) xs ≡ compose ids s xs (run l xs) (run r (values (run l xs).outs))
piped-run ids s r l hr hl xs =
    let z : s.taken - s.taken ≡ 0 = omega arith in
    joins-run ids s xs (run l xs).outs r 0 0 hr l (point s) xs hl (omega arith) (ap (λ n. drop n xs) z)
    (λ i. let e : 0 + i ≡ i = omega arith in ap (λ i. point_at (point s) (run l xs).outs i) e)
