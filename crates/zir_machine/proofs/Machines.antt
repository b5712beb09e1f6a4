-- The history that a machine stands for after each call, and what its answers say.
use Rattle.std.specs.Prelude.{ℕ, ◌+◌, ◌^◌, ◌≤◌, ◌<◌, ◌≡◌, refl, min, max, true, false, List, [], ◌∷◌, ◌++◌, Option, Some, None, Result, Ok, Err, IfOk, OnOk, IfSome, is_none, slice_get, ℤ}
use Rattle.std.proofs.Common.{ap, sym, subst, ◌∙◌, arith}
use Rattle.std.specs.declared.alloc.AllocError.{AllocError}
use Rattle.std.proofs.lemmas.List.{append-nil, append_assoc}
use Rattle.zir_bit_tree.specs.declared.value.Val.{Val}
use Rattle.zir_bit_tree.specs.declared.value.Slot.{Slot}
use Rattle.zir_tree.specs.declared.ends.Stamp.{Stamp}
use Rattle.zir_tree.specs.declared.ends.EndMark.{EndMark}
use Rattle.zir_tree.specs.declared.ends.EndMark.TheVariants.{Value as ValueMark, Starved as StarvedMark, Spent as SpentMark}
use Rattle.zir_bit_tree.specs.declared.ends.End.TheVariants.{Value, Starved}
use Rattle.zir_bit_meaning.specs.Trace.{State, point, Out, Trace, spent, ends, gives, after}
use Rattle.zir_bit_meaning.specs.Composition.{limit, over, at_point, fresh}
use Rattle.zir_bit_laws.specs.Process.{Proc, Needs, proc}
use Rattle.zir_bit_laws.specs.Feed.{feed}
use Rattle.zir_chunk.specs.Contents.{AtMost, IsSmall, Contents, cells_of as chunk_cells, stamps_of}
use Rattle.zir_steps.specs.declared.answer.Answer.{Answer}
use Rattle.zir_steps.specs.declared.answer.Answer.TheVariants.{Yield, Skip, Done, Need, Stopped}
use Rattle.zir_steps.specs.History.{History, begun, trace_of, RisesFrom, Rises, receive, give}
use Rattle.zir_steps.specs.Elements.{later, IsAt, val_of}
use Rattle.zir_steps.specs.Says.{Says, Works, IsStop, end_of, mark_of, end_stamp}
use Rattle.zir_machine.specs.declared.progress.Focus.{Focus}
use Rattle.zir_machine.specs.declared.progress.Focus.TheVariants.{Begin, Giving, Ended, Given, Spent}
use Rattle.zir_machine.specs.declared.progress.Progress.{Progress}
use Rattle.zir_machine.specs.declared.node.Node.{Node}
use Rattle.zir_machine.specs.declared.machine.Element.{Element}
use Rattle.zir_machine.specs.Steps.{Stepped, Paced}
use Rattle.zir_machine.specs.Standing.{state_of, ended_value, given_value}
use Rattle.zir_machine.specs.MachineKept.{Kept, CanGive}
use Rattle.zir_machine.specs.Nodes.{comp_of, proc_in, is_sound, meant}
use Rattle.zir_machine.specs.MachineStands.{Standing, Stands, Stood, StoodDone, StoodNeed, StoodYield, point_of, out_of, waiting, offer_of, next_after, base_after, state_in, still, here_of}
use Rattle.zir_machine.specs.MachineSays.{stands_trace}
use Rattle.zir_machine.proofs.Feeding.{feed_gives, feed_value, feed_needs, feed_spent, feed_past, feed_moved, rises_moved, base_rises}

-- a step of the component of a machine
pub record Moves (m m' : Standing) (j : Option Val) (a : Answer) : Type 0 where
  pub stepped : Stepped a (offer_of m.next) j (still m) (still m') m'.progress.focus (state_in m')
  pub sound : is_sound m'.node m'.progress.focus (state_in m') ≡ true
  pub rise : m.progress.ticks ≤ m'.progress.ticks
  pub what : comp_of m'.node ≡ comp_of m.node
  pub next : m'.next ≡ next_after m.next j
  pub base : m'.base ≡ base_after m.next j m.base
  pub pushed : m'.pushed ≡ m.pushed
  pub limit : m'.limit ≡ m.limit

-- the points of what is received still rise
rises_now : (m m' : Standing) (h : History) (j : Option Val) (a : Answer) → Stands m h → Moves m m' j a → (more : List Out) → RisesFrom h.start 0 (h.received ++ more) → RisesFrom m'.base.taken m'.base.ticks (waiting m'.next ++ more)
rises_now m m' h j a s w more r =
    let P : Stamp → Type 0 = λ b. RisesFrom b.taken b.ticks (waiting (next_after m.next j) ++ more) in
    let Q : Option Element → Type 0 = λ n. RisesFrom m'.base.taken m'.base.ticks (waiting n ++ more) in
    subst Q (sym w.next) (subst P (sym w.base) (rises_moved m.next j m.base more (s.rises more r)))

-- the component goes on as the trace does
goes_now : (m m' : Standing) (h : History) (j : Option Val) (a : Answer) → Stands m h → Moves m m' j a → (more : List Out) →
    feed (begun h) (proc h.component (fresh (begun h))) (point (begun h)) (h.received ++ more) ≡ after h.given (feed (begun h) (still m') (point_of m'.base) (waiting m'.next ++ more))
goes_now m m' h j a s w more =
    s.goes more
    ∙ ap (after h.given) (feed_moved (begun h) m.next j (still m) (still m') m.base more w.stepped.moved)
    ∙ ap (λ b. after h.given (feed (begun h) (still m') (point_of b) (waiting (next_after m.next j) ++ more))) (sym w.base)
    ∙ ap (λ n. after h.given (feed (begun h) (still m') (point_of m'.base) (waiting n ++ more))) (sym w.next)

-- elements that rise with nothing behind them
rises_alone : (h : History) → Rises h → RisesFrom h.start 0 (h.received ++ [])
rises_alone h r = let P : List Out → Type 0 = λ os. RisesFrom h.start 0 os in subst P (sym (append-nil h.received)) r

-- the element that waits rises from the base
waits_alone : (m : Standing) (h : History) → Stands m h → Rises h → RisesFrom m.base.taken m.base.ticks (waiting m.next)
waits_alone m h s r = let P : List Out → Type 0 = λ os. RisesFrom m.base.taken m.base.ticks os in subst P (append-nil (waiting m.next)) (s.rises [] (rises_alone h r))

-- the last stamp pushed is no later than the next event
pushed_now : (m m' : Standing) (h : History) (j : Option Val) (a : Answer) → Stands m h → Moves m m' j a → Rises h → AtMost m'.pushed (here_of m')
pushed_now m m' h j a s w r =
    let le : (m.base.taken ≤ (base_after m.next j m.base).taken) × (m.base.ticks ≤ (base_after m.next j m.base).ticks) = base_rises m.next j m.base (waits_alone m h s r) in
    let old : AtMost m.pushed (here_of m) = s.pushed r in
    let taken : m'.base.taken ≡ (base_after m.next j m.base).taken = ap (λ b. b.taken) w.base in
    let ticks : m'.base.ticks ≡ (base_after m.next j m.base).ticks = ap (λ b. b.ticks) w.base in
    let pt : m'.pushed.taken ≡ m.pushed.taken = ap (λ b. b.taken) w.pushed in
    let pk : m'.pushed.ticks ≡ m.pushed.ticks = ap (λ b. b.ticks) w.pushed in
    record { taken = omega (arith, le.0, old.taken, taken, pt); ticks = omega (arith, le.1, old.ticks, ticks, pk, w.rise) }

-- after a step that stood within the limit
stood_inside : (m m' : Standing) (h : History) (j : Option Val) (a : Answer) → Stands m h → Moves m m' j a → m'.base.ticks + m'.progress.ticks ≤ m'.limit → Stood (Some a) m' h
stood_inside m m' h j Yield s w le = record { value = w.stepped.stands.0; focus = w.stepped.stands.1; inside = le }
stood_inside m m' h j Skip s w le = tt
stood_inside m m' h j Done s w le = record { value = w.stepped.stands.0; focus = w.stepped.stands.1; ends = w.stepped.stands.2; inside = le }
stood_inside m m' h j Need s w le =
    record { none = w.next ∙ ap (next_after m.next) w.stepped.stands.0; follows = w.stepped.stands.1; needs = w.stepped.stands.2; inside = le }
stood_inside m m' h j Stopped s w le = λ r. ap (λ p. feed (begun h) p (point_of m'.base) (waiting m'.next)) w.stepped.stands ∙ feed_spent (begun h) (point_of m'.base) (waiting m'.next)

-- after a step past the limit
stood_past : (m m' : Standing) (h : History) (j : Option Val) (a : Answer) → Stands m h → Moves m m' j a → m'.limit < m'.base.ticks + m'.progress.ticks → Stood (Some Stopped) m' h
stood_past m m' h j a s w lt = λ r.
    let same : h.limit ≡ m'.limit = s.limit ∙ sym w.limit in
    let P : List Out → Type 0 = λ os. RisesFrom m'.base.taken m'.base.ticks os in
    feed_past (begun h) (still m') m'.progress.ticks (point_of m'.base) (waiting m'.next) ((meant m'.node).late m'.progress.focus (state_in m') w.sound)
    (subst P (append-nil (waiting m'.next)) (rises_now m m' h j a s w [] (rises_alone h r))) (omega (arith, lt, same))

-- a move keeps the history
moves_stands : (m m' : Standing) (h : History) (j : Option Val) (a : Answer) → Stands m h → Moves m m' j a → Stood m'.last m' h → Stands m' h
moves_stands m m' h j a s w t =
    record { component = s.component ∙ sym w.what; store = s.store; limit = s.limit ∙ sym w.limit; goes = goes_now m m' h j a s w; rises = rises_now m m' h j a s w; pushed = pushed_now m m' h j a s w; stood = t }

-- a step within the limit, with its answer
pub inside_stands : (m m' : Standing) (h : History) (j : Option Val) (a : Answer) → Stands m h → Moves m m' j a → m'.base.ticks + m'.progress.ticks ≤ m'.limit → m'.last ≡ Some a → Stands m' h
inside_stands m m' h j a s w le e = moves_stands m m' h j a s w (let P : Option Answer → Type 0 = λ l. Stood l m' h in subst P (sym e) (stood_inside m m' h j a s w le))

-- a step past the limit stops
pub past_stands : (m m' : Standing) (h : History) (j : Option Val) (a : Answer) → Stands m h → Moves m m' j a → m'.limit < m'.base.ticks + m'.progress.ticks → m'.last ≡ Some Stopped → Stands m' h
past_stands m m' h j a s w lt e = moves_stands m m' h j a s w (let P : Option Answer → Type 0 = λ l. Stood l m' h in subst P (sym e) (stood_past m m' h j a s w lt))

-- the outputs of a trace that ends at once behind what was given
all_given : (h : History) (t : Trace) → trace_of h ≡ after h.given t → t.outs ≡ [] → (trace_of h).outs ≡ h.given
all_given h t e z = ap (λ t. t.outs) e ∙ ap (λ os. h.given ++ os) z ∙ append-nil h.given

-- the output that waits
pub gives_of : (m : Standing) (h : History) (os : List Out) → Stands m h → (y : StoodYield m) → feed (begun h) (still m) (point_of m.base) os ≡ gives (record { value = y.value; at = over [] (point_of m.base) (point (state_in m)) }) (feed (begun h) (proc_in m.node Given (state_in m)) (point_of m.base) os)
gives_of m h os s y =
    let same : h.limit ≡ m.limit = s.limit in
    ap (λ f. feed (begun h) (proc_in m.node f (state_in m)) (point_of m.base) os) y.focus
    ∙ ap (λ p. feed (begun h) p (point_of m.base) os) ((meant m.node).giving y.value (state_in m))
    ∙ feed_gives (begun h) (record { value = y.value; at = point (state_in m) }) (proc_in m.node Given (state_in m)) (point_of m.base) os (omega (arith, y.inside, same))

-- an output that waits is the next one of the trace
says_yield : (m : Standing) (h : History) → Stands m h → StoodYield m → Says Yield h
says_yield m h s y = (
  record { value = y.value; at = over [] (point_of m.base) (point (state_in m)) },
  (feed (begun h) (proc_in m.node Given (state_in m)) (point_of m.base) (waiting m.next)).outs,
  ap (λ t. t.outs) (stands_trace m h s ∙ ap (after h.given) (gives_of m h (waiting m.next) s y)),
)

-- the trace of a component that has ended
pub trace_done : (m : Standing) (h : History) → Stands m h → (d : StoodDone m) → trace_of h ≡ after h.given (ends (Value d.value) (at_point (begun h) (over [] (point_of m.base) (point (state_in m)))) [])
trace_done m h s d =
    let same : h.limit ≡ m.limit = s.limit in
    stands_trace m h s ∙ ap (λ p. after h.given (feed (begun h) p (point_of m.base) (waiting m.next))) d.ends
    ∙ ap (after h.given) (feed_value (begun h) d.value (state_in m) (point_of m.base) (waiting m.next) (omega (arith, d.inside, same)))

-- the trace of a component that needs an element
pub trace_need : (m : Standing) (h : History) → Stands m h → StoodNeed m → trace_of h ≡ after h.given (ends Starved (at_point (begun h) (over [] (point_of m.base) (point (state_in m)))) [])
trace_need m h s d =
    let same : h.limit ≡ m.limit = s.limit in
    stands_trace m h s ∙ ap (λ p. after h.given (feed (begun h) p (point_of m.base) (waiting m.next))) d.needs
    ∙ ap (λ n. after h.given (feed (begun h) (Needs (state_in m) d.follows) (point_of m.base) (waiting n))) d.none
    ∙ ap (after h.given) (feed_needs (begun h) (state_in m) d.follows (point_of m.base) (omega (arith, d.inside, same)))

-- the trace of a component that stopped
pub trace_stopped : (m : Standing) (h : History) → Stands m h → Rises h → Stood (Some Stopped) m h → trace_of h ≡ after h.given spent
trace_stopped m h s r d = stands_trace m h s ∙ ap (after h.given) (d r)

-- where the component stands at an answer
pub stood_at : (m : Standing) (h : History) (a : Answer) → Stands m h → m.last ≡ Some a → Stood (Some a) m h
stood_at m h a s e = let P : Option Answer → Type 0 = λ l. Stood l m h in subst P e s.stood

-- what the last answer says
pub says_last : (m : Standing) (h : History) (a : Answer) → Stands m h → Rises h → m.last ≡ Some a → Says a h
says_last m h Yield s r e = says_yield m h s (stood_at m h Yield s e)
says_last m h Skip s r e = tt
says_last m h Done s r e =
    let t = trace_done m h s (stood_at m h Done s e) in
    ((stood_at m h Done s e).value, ap (λ t. t.end) t, all_given h _ t refl)
says_last m h Need s r e =
    let t = trace_need m h s (stood_at m h Need s e) in
    (ap (λ t. t.end) t, all_given h _ t refl)
says_last m h Stopped s r e =
    let t = trace_stopped m h s r (stood_at m h Stopped s e) in
    (ended_spent t, all_given h _ t refl)
  where
    ended_spent : trace_of h ≡ after h.given spent → IsStop (trace_of h).end
    ended_spent t = let P : Trace → Type 0 = λ t. IsStop t.end in subst P (sym t) tt

-- the value that a component ended with
pub value_done : (m : Standing) (h : History) (v : Val) → Stands m h → m.last ≡ Some Done → v ≡ ended_value m.progress.focus → (trace_of h).end ≡ Value v
value_done m h v s e w =
    let d = stood_at m h Done s e in
    ap (λ t. t.end) (trace_done m h s d) ∙ ap Value (sym (w ∙ ap ended_value d.focus))

-- a component that needs an element has no output that waits
need_ready : (n : Node) (f : Focus) (s s' : State) (g : Val → Proc) → proc_in n f s ≡ Needs s' g → is_none (given_value f) ≡ true
need_ready n Begin s s' g e = refl
need_ready n (Ended v) s s' g e = refl
need_ready n (Giving v) s s' g e = let z = sym ((meant n).giving v s) ∙ e in absurd (cc)
need_ready n Given s s' g e = refl
need_ready n Spent s s' g e = refl

-- what is kept after a step within the limit
kept_inside : (a : Answer) (i j : Option Val) (p : Proc) (n : Node) (q : Progress) (store : List Slot) (base : Stamp) (limit : ℕ) → Stepped a i j p (proc_in n q.focus (state_of q store)) q.focus (state_of q store) →
    is_sound n q.focus (state_of q store) ≡ true → base.ticks + q.ticks ≤ limit → Kept (Some a) n q store base limit
kept_inside Yield i j p n q store base limit w sound le =
    record { steps = λ e. absurd (cc); gives = λ e. record { waits = ap (λ f. is_none (given_value f)) w.stands.1; sound = sound; inside = le } }
kept_inside Skip i j p n q store base limit w sound le = record { steps = λ e. record { ready = ap is_none w.stands; sound = sound }; gives = λ e. absurd (cc) }
kept_inside Done i j p n q store base limit w sound le = record { steps = λ e. absurd (cc); gives = λ e. absurd (cc) }
kept_inside Need i j p n q store base limit w sound le =
    record { steps = λ e. record { ready = need_ready n q.focus (state_of q store) (state_of q store) w.stands.1 w.stands.2; sound = sound }; gives = λ e. absurd (cc) }
kept_inside Stopped i j p n q store base limit w sound le = record { steps = λ e. absurd (cc); gives = λ e. absurd (cc) }

-- the calls that may come next can be made
pub kept_now : (a l : Answer) (i j : Option Val) (p : Proc) (n : Node) (q : Progress) (store : List Slot) (base : Stamp) (limit : ℕ) → Stepped a i j p (proc_in n q.focus (state_of q store)) q.focus (state_of q store) →
    is_sound n q.focus (state_of q store) ≡ true → base.ticks + q.ticks ≤ limit → l ≡ a → Kept (Some l) n q store base limit
kept_now a l i j p n q store base limit w sound le e =
    let P : Answer → Type 0 = λ l. Kept (Some l) n q store base limit in subst P (sym e) (kept_inside a i j p n q store base limit w sound le)

-- what is kept where it stops
pub kept_stopped : (l : Answer) (n : Node) (q : Progress) (store : List Slot) (base : Stamp) (limit : ℕ) → l ≡ Stopped → Kept (Some l) n q store base limit
kept_stopped l n q store base limit e =
    let P : Answer → Type 0 = λ l. Kept (Some l) n q store base limit in subst P (sym e) (record { steps = λ e. absurd (cc); gives = λ e. absurd (cc) })

-- the base stays small
pub small_base : (next : Option Element) (j : Option Val) (base : Stamp) → IsSmall base → IfSome next (λ e. IsSmall e.stamp) → IsSmall (base_after next j base)
small_base None None base h k = h
small_base None (Some y) base h k = h
small_base (Some e) None base h k = k
small_base (Some e) (Some y) base h k = h

-- the element that waits stays small
pub small_next : (next : Option Element) (j : Option Val) → IfSome next (λ e. IsSmall e.stamp) → IfSome (next_after next j) (λ e. IsSmall e.stamp)
small_next next None k = tt
small_next next (Some y) k = k

-- what a call says, from what it stands for afterwards
pub call_says : (m m' : Standing) (r : Result Answer AllocError) → OnOk r ((h : History) → Stands m h → Stands m' h) → IfOk r (λ a. m'.last ≡ Some a) → IfOk r (λ a. (h : History) → Stands m h → Rises h → Says a h)
call_says m m' (Ok a) f l = λ h s r. says_last m' h a (f h s) r l
call_says m m' (Err e) f l = tt

-- a front part rises too
front_rises : (taken ticks : ℕ) (xs ys : List Out) → RisesFrom taken ticks (xs ++ ys) → RisesFrom taken ticks xs
front_rises taken ticks [] ys r = tt
front_rises taken ticks (x ∷ xs) ys r = (r.0, r.1, front_rises x.at.taken x.at.ticks xs ys r.2)

-- an element was handed in
pub received_stands : (m m' : Standing) (h : History) (e : Element) → Stands m h → m.last ≡ Some Need → m' ≡ record m { next = Some e; last = None } → Stands m' (receive h (out_of e))
received_stands m m' h e s l w = let P : Standing → Type 0 = λ m. Stands m (receive h (out_of e)) in subst P (sym w) (record {
  component = s.component;
  store = s.store;
  limit = s.limit;
  goes = λ more. ap (λ os. feed (begun h) (proc h.component (fresh (begun h))) (point (begun h)) os) (append_assoc h.received (out_of e ∷ []) more)
      ∙ s.goes (out_of e ∷ more)
      ∙ ap (λ n. after h.given (feed (begun h) (still m) (point_of m.base) (waiting n ++ out_of e ∷ more))) d.none;
  rises = λ more r.
      let P : List Out → Type 0 = λ os. RisesFrom h.start 0 os in
      let Q : Option Element → Type 0 = λ n. RisesFrom m.base.taken m.base.ticks (waiting n ++ out_of e ∷ more) in
      subst Q d.none (s.rises (out_of e ∷ more) (subst P (append_assoc h.received (out_of e ∷ []) more) r));
  pushed = λ r. s.pushed (front_rises h.start 0 h.received (out_of e ∷ []) r);
  stood = tt;
})
  where
    d : StoodNeed m
    d = stood_at m h Need s l

-- a value, or another where there is none
abbrev get : {A : Type 0} → A → Option A → A
get d None = d
get d (Some x) = x

-- what is in two equal options is equal
some_same : {A : Type 0} (a b : A) → Some a ≡ Some b → a ≡ b
some_same a b e = ap (get a) e

-- the element at a place of a chunk is what was handed in
pub received_out : (chunk : Contents) (i : ℕ) (o : Out) (cells : List ℤ) (stamp : Stamp) (v : Val) → IsAt chunk i o → slice_get (chunk_cells chunk) i ≡ Some cells → slice_get (stamps_of chunk) i ≡ Some stamp → v ≡ val_of cells →
    out_of (record { value = v; stamp = stamp }) ≡ o
received_out chunk i o cells stamp v at c s e =
    let cs : cells ≡ at.cells = some_same cells at.cells (sym c ∙ at.has_cells) in
    let ss : stamp ≡ at.stamp = some_same stamp at.stamp (sym s ∙ at.has_stamp) in
    ap (λ v. out_of (record { value = v; stamp = stamp })) (e ∙ ap val_of cs) ∙ ap (λ t. out_of (record { value = val_of at.cells; stamp = t })) ss ∙ sym at.as_received

-- a call stands for the history with the element that it received
pub process_stands : (m m1 m2 : Standing) (r : Result Answer AllocError) (e : Element) (chunk : Contents) (i : ℕ) → m.last ≡ Some Need → m1 ≡ record m { next = Some e; last = None } →
    ((o : Out) → IsAt chunk i o → out_of e ≡ o) → OnOk r ((h : History) → Stands m1 h → Stands m2 h) → OnOk r ((h : History) (o : Out) → IsAt chunk i o → Stands m h → Stands m2 (receive h o))
process_stands m m1 m2 (Ok a) e chunk i l w same f = λ h o at s. f (receive h o) (let P : Out → Type 0 = λ o. Stands m1 (receive h o) in subst P (same o at) (received_stands m m1 h e s l w))
process_stands m m1 m2 (Err x) e chunk i l w same f = tt

-- what a call says of an element that it received
pub process_says : (m m2 : Standing) (r : Result Answer AllocError) (chunk : Contents) (i : ℕ) → OnOk r ((h : History) (o : Out) → IsAt chunk i o → Stands m h → Stands m2 (receive h o)) → IfOk r (λ a. m2.last ≡ Some a) →
    IfOk r (λ a. (h : History) (o : Out) → IsAt chunk i o → Stands m h → Rises (receive h o) → Says a (receive h o))
process_says m m2 (Ok a) chunk i f l = λ h o at s r. says_last m2 (receive h o) a (f h o at s) r l
process_says m m2 (Err x) chunk i f l = tt

-- the output that waits is given
abbrev pub output_of : (m : Standing) → StoodYield m → Out
output_of m y = record { value = y.value; at = over [] (point_of m.base) (point (state_in m)) }

-- a machine whose output was taken out
pub record TakenOut (m m' : Standing) : Type 0 where
  pub node : m'.node ≡ m.node
  pub focus : m'.progress.focus ≡ Given
  pub state : state_in m' ≡ state_in m
  pub base : m'.base ≡ m.base
  pub next : m'.next ≡ m.next
  pub limit : m'.limit ≡ m.limit
  pub pushed : m'.pushed ≡ later m.pushed (here_of m)
  pub last : m'.last ≡ None

-- what is left once the output was taken out
pub still_given : (m m' : Standing) → TakenOut m m' → still m' ≡ proc_in m.node Given (state_in m)
still_given m m' t = ap (λ n. proc_in n m'.progress.focus (state_in m')) t.node ∙ ap (λ f. proc_in m.node f (state_in m')) t.focus ∙ ap (λ s. proc_in m.node Given s) t.state

-- the later of two that rise is the second
later_same : (s t : Stamp) → AtMost s t → later s t ≡ t
later_same s t h =
    let a : max s.taken t.taken ≡ t.taken = omega (arith, h.taken) in
    let b : max s.ticks t.ticks ≡ t.ticks = omega (arith, h.ticks) in
    ap (λ n. record { taken = n; ticks = max s.ticks t.ticks }) a ∙ ap (λ n. record { taken = t.taken; ticks = n }) b

-- the stamp that is pushed is that of the output
pub pushed_here : (m : Standing) (h : History) (p : Stamp) → Stands m h → p ≡ later m.pushed (here_of m) → Rises h → p ≡ here_of m
pushed_here m h p s e r = e ∙ later_same m.pushed (here_of m) (s.pushed r)

-- taking the output out gives it
pub given_stands : (m m' : Standing) (h : History) (y : StoodYield m) → Stands m h → TakenOut m m' → Stands m' (give h (output_of m y))
given_stands m m' h y s t = record {
  component = s.component ∙ sym (ap comp_of t.node);
  store = s.store;
  limit = s.limit ∙ sym t.limit;
  goes = λ more. s.goes more
      ∙ ap (after h.given) (gives_of m h (waiting m.next ++ more) s y)
      ∙ after_one h.given (output_of m y) (feed (begun h) (proc_in m.node Given (state_in m)) (point_of m.base) (waiting m.next ++ more))
      ∙ ap (λ p. after (h.given ++ output_of m y ∷ []) (feed (begun h) p (point_of m.base) (waiting m.next ++ more))) (sym (still_given m m' t))
      ∙ ap (λ b. after (h.given ++ output_of m y ∷ []) (feed (begun h) (still m') (point_of b) (waiting m.next ++ more))) (sym t.base)
      ∙ ap (λ n. after (h.given ++ output_of m y ∷ []) (feed (begun h) (still m') (point_of m'.base) (waiting n ++ more))) (sym t.next);
  rises = λ more r.
      let P : Stamp → Type 0 = λ b. RisesFrom b.taken b.ticks (waiting m'.next ++ more) in
      let Q : Option Element → Type 0 = λ n. RisesFrom m.base.taken m.base.ticks (waiting n ++ more) in
      subst P (sym t.base) (subst Q (sym t.next) (s.rises more r));
  pushed = λ r.
      let e : m'.pushed ≡ here_of m = pushed_here m h m'.pushed s t.pushed r in
      let a : m'.pushed.taken ≡ m.base.taken = ap (λ b. b.taken) e in
      let b : m'.pushed.ticks ≡ m.base.ticks + m.progress.ticks = ap (λ b. b.ticks) e in
      let c : m'.base.taken ≡ m.base.taken = ap (λ b. b.taken) t.base in
      let d : m'.base.ticks ≡ m.base.ticks = ap (λ b. b.ticks) t.base in
      let k : m'.progress.ticks ≡ m.progress.ticks = ap (λ s. s.ticks) t.state in
      record { taken = omega (arith, a, c); ticks = omega (arith, b, d, k) };
  stood = let P : Option Answer → Type 0 = λ l. Stood l m' (give h (output_of m y)) in subst P (sym t.last) tt;
}
  where
    after_one : (os : List Out) (o : Out) (t : Trace) → after os (gives o t) ≡ after (os ++ o ∷ []) t
    after_one os o t = ap (λ os. record t { outs = os }) (sym (append_assoc os (o ∷ []) t.outs))

-- the end of a trace with its stamp
end_at : Trace → Stamp → EndMark × Stamp
end_at t last = (mark_of t.end, end_stamp t.end t.last last)

-- the end that each answer tells
pub end_done : (m : Standing) (h : History) (last : Stamp) → Stands m h → m.last ≡ Some Done → (ValueMark, here_of m) ≡ end_of h last
unfolding end_at
end_done m h last s e = sym (ap (λ t. end_at t last) (trace_done m h s (stood_at m h Done s e)))

-- the end of a trace whose elements are used up
pub end_need : (m : Standing) (h : History) (last : Stamp) → Stands m h → m.last ≡ Some Need → (StarvedMark, here_of m) ≡ end_of h last
unfolding end_at
end_need m h last s e = sym (ap (λ t. end_at t last) (trace_need m h s (stood_at m h Need s e)))

-- the end of a trace whose ticks are spent
pub end_stopped : (m : Standing) (h : History) (last : Stamp) → Stands m h → Rises h → m.last ≡ Some Stopped → (SpentMark, last) ≡ end_of h last
unfolding end_at
end_stopped m h last s r e = sym (ap (λ t. end_at t last) (trace_stopped m h s r (stood_at m h Stopped s e)))

-- an output waits where one can be taken out
giving_focus : (f : Focus) → is_none (given_value f) ≡ false → (v : Val) × (f ≡ Giving v)
giving_focus Begin e = absurd (cc)
giving_focus (Ended v) e = absurd (cc)
giving_focus (Giving v) e = (v, refl)
giving_focus Given e = absurd (cc)
giving_focus Spent e = absurd (cc)

-- what is kept where the output was taken out
pub kept_given : (n : Node) (q q' : Progress) (store : List Slot) (base : Stamp) (limit : ℕ) → CanGive n q store base limit → q'.focus ≡ Given → state_of q' store ≡ state_of q store → Kept None n q' store base limit
kept_given n q q' store base limit g e w = record {
  steps = λ m. record {
    ready = ap (λ f. is_none (given_value f)) e;
    sound = ap (λ f. is_sound n f (state_of q' store)) e ∙ ap (is_sound n Given) w ∙ sym ((meant n).given_sound v.0 (state_of q store)) ∙ sym (ap (λ f. is_sound n f (state_of q store)) v.1) ∙ g.sound;
  };
  gives = λ e. absurd (cc);
}
  where
    v : (v : Val) × (q.focus ≡ Giving v)
    v = giving_focus q.focus g.waits

-- the later stamp is small
pub small_later : (pushed base : Stamp) (k limit : ℕ) → IsSmall pushed → IsSmall base → base.ticks + k ≤ limit → limit ≤ 2 ^ 48 → IsSmall (later pushed (record { taken = base.taken; ticks = base.ticks + k }))
small_later pushed base k limit h g le lt =
    record { taken = omega (arith, h.taken, g.taken); ticks = omega (arith, h.ticks, le, lt) }

-- the value that waits is that of the output
pub value_waits : (m : Standing) (v : Val) (y : StoodYield m) → Some v ≡ given_value m.progress.focus → v ≡ y.value
value_waits m v y e = some_same v y.value (e ∙ ap given_value y.focus)

-- it works within its limit
works_inside : (a : Answer) (fuel' ticks ticks' base limit : ℕ) → Paced a 4096 fuel' ticks ticks' → base + ticks' ≤ limit → Works a (min ticks limit) (min ticks' limit)
works_inside Yield fuel' ticks ticks' base limit p le = tt
works_inside Skip fuel' ticks ticks' base limit p le =
    let z : fuel' ≡ 0 = p.pauses refl in
    let less : fuel' < 4096 = omega arith in
    let lt : ticks < ticks' = p.used (λ e. absurd (cc)) less in
    omega arith
works_inside Done fuel' ticks ticks' base limit p le = tt
works_inside Need fuel' ticks ticks' base limit p le = tt
works_inside Stopped fuel' ticks ticks' base limit p le = tt

-- a pause within the limit has counted ticks
pub works_now : (a l : Answer) (fuel' ticks ticks' base limit : ℕ) → Paced a 4096 fuel' ticks ticks' → base + ticks' ≤ limit → l ≡ a → Works l (min ticks limit) (min ticks' limit)
works_now a l fuel' ticks ticks' base limit p le e =
    let P : Answer → Type 0 = λ l. Works l (min ticks limit) (min ticks' limit) in subst P (sym e) (works_inside a fuel' ticks ticks' base limit p le)

-- a stop need not work
pub works_stopped : (l : Answer) (own own' : ℕ) → l ≡ Stopped → Works l own own'
works_stopped l own own' e = let P : Answer → Type 0 = λ l. Works l own own' in subst P (sym e) tt
