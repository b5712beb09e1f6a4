-- A stage that is joined of two comes to each event of a composition, where its sides come to the events of theirs.
use Rattle.std.proofs.Common.{◌≡◌, ◌∙◌, ◌+◌, ◌≤◌, ℕ, zero, suc, List, Bool, true, false, nat_le, ap, sym, subst, refl}
use Rattle.std.proofs.lemmas.Bool.{leb-true}
use Rattle.zir_tree.specs.declared.value.Val.{Val}
use Rattle.zir_tree.specs.declared.ends.End.{End}
use Rattle.zir_tree.specs.declared.ends.End.TheVariants.{Value, Starved, Trap as Trapped, Spent}
use Rattle.zir_meaning.specs.Store.{Store, merge}
use Rattle.zir_meaning.specs.Trace.{State, Point, point}
use Rattle.zir_meaning.specs.Composition.{limit, over, at_point, waiting}
use Rattle.zir_cells.specs.Cells.{cells_of}
use Rattle.zir_laws.specs.Process.{Proc, Gives, Ends, Needs, spent_proc, holds, end_proc, pull, piped}
use Rattle.zir_flow.specs.declared.instruction.Joint.{Joint}
use Rattle.zir_flow.specs.declared.instruction.Instruction.{Instruction}
use Rattle.zir_flow.specs.Threads.{Thread}
use Rattle.zir_flow.specs.Stages.{Stage, Joined, Turned, Going, Giving, Needing, Ended, Failed, Gone, turn, going_on, turned_on, composed, pulled, either_turned, handed, left_ended, right_ended}
use Rattle.zir_flow.specs.Playing.{Watch, PointIs, Comes}
use Rattle.zir_flow.proofs.Reaching.{Reaches, reaches_on, comes_on, comes_next, one_turn, stays}
use Rattle.zir_flow.proofs.Playing.{Arriving, Arrives, ArrivesEnd, arrives_on}
use Rattle.zir_flow.proofs.Staying.{needs_stay}
use Rattle.zir_flow.proofs.Turning.{right_on, left_on}

-- an event, at which a stage does not only go on
abbrev IsEvent : Turned → Type 0
IsEvent (Going s) = ⊥
IsEvent (Giving cells taken ticks s) = Unit {0}
IsEvent (Needing taken ticks s) = Unit {0}
IsEvent (Ended taken ticks s) = Unit {0}
IsEvent (Failed t taken ticks s) = Unit {0}
IsEvent Gone = Unit {0}

event_rests : (e : Turned) (next : Stage → Turned) → IsEvent e → going_on next e ≡ e
event_rests (Going s) next i = absurd i
event_rests (Giving cells taken ticks s) next i = refl
event_rests (Needing taken ticks s) next i = refl
event_rests (Ended taken ticks s) next i = refl
event_rests (Failed t taken ticks s) next i = refl
event_rests Gone next i = refl

-- turns in which a stage goes on, and one more
record Stops (code : List Instruction) (s : Stage) (e : Turned) : Type 0 where
  pub at : Stage
  pub way : Reaches code s at
  pub is : turn code at ≡ e

stops_from : (t : Turned) (n : ℕ) (code : List Instruction) (s : Stage) (e : Turned) → turn code s ≡ t → going_on (turned_on n code) t ≡ e →
    ((s' : Stage) → turned_on n code s' ≡ e → Stops code s' e) → Stops code s e
stops_from (Going s') n code s e q p on =
    let r = on s' p in record { at = r.at; way = reaches_on code s s' r.at (one_turn code s s' q) r.way; is = r.is }
stops_from (Giving cells taken ticks s') n code s e q p on = record { at = s; way = stays code s; is = q ∙ p }
stops_from (Needing taken ticks s') n code s e q p on = record { at = s; way = stays code s; is = q ∙ p }
stops_from (Ended taken ticks s') n code s e q p on = record { at = s; way = stays code s; is = q ∙ p }
stops_from (Failed t taken ticks s') n code s e q p on = record { at = s; way = stays code s; is = q ∙ p }
stops_from Gone n code s e q p on = record { at = s; way = stays code s; is = q ∙ p }

stops_by : (n : ℕ) (code : List Instruction) (s : Stage) (e : Turned) → IsEvent e → turned_on n code s ≡ e → Stops code s e
stops_by zero code s e i p = absurd (subst IsEvent (sym p) i)
stops_by (suc n) code s e i p = stops_from (turn code s) n code s e refl p (λ s' r. stops_by n code s' e i r)

-- the last turn before an event
stops : (code : List Instruction) (s : Stage) (e : Turned) → IsEvent e → Comes code s e → Stops code s e
stops code s e i c = stops_by c.turns code s e i c.is

comes : (code : List Instruction) (s : Stage) (e : Turned) → IsEvent e → Stops code s e → Comes code s e
comes code s e i c = comes_on code s c.at e c.way (comes_next code c.at e c.is (event_rests e (turned_on 0 code) i))

goes : (code : List Instruction) (s s' : Stage) → Stops code s (Going s') → Reaches code s s'
goes code s s' c = reaches_on code s c.at s' c.way (one_turn code c.at s' c.is)

reaches_stops : (code : List Instruction) (s s' : Stage) (e : Turned) → Reaches code s s' → Stops code s' e → Stops code s e
reaches_stops code s s' e w c = record { at = c.at; way = reaches_on code s s' c.at w c.way; is = c.is }

-- turns of the right side are turns of the composition
right_goes : (code : List Instruction) (th : Thread) (j : Joint) (l r r' : Stage) (t k : ℕ) → Reaches code r r' →
    Reaches code (Joined th j l r t k) (Joined th j l r' t k)
right_goes code th j l r r' t k w = record { turns = w.turns; is = right_on w.turns code th j l r r' t k w.is }

right_stops : (code : List Instruction) (th : Thread) (j : Joint) (l r : Stage) (t k : ℕ) (e : Turned) → (c : Stops code r e) →
    Stops code (Joined th j l r t k) (composed code th j l t k (turn code l) e)
right_stops code th j l r t k e c = record {
  at = Joined th j l c.at t k;
  way = right_goes code th j l r c.at t k c.way;
  is = ap (composed code th j l t k (turn code l)) c.is;
}

-- and where it needs an element those of the left side
left_stops : (code : List Instruction) (th : Thread) (j : Joint) (l r : Stage) (t k a own : ℕ) (e : Turned) → turn code r ≡ Needing a own r → Stops code l e →
    Stops code (Joined th j l r t k) (pulled code th j r t k own e)
left_stops code th j l r t k a own e need c = record {
  at = Joined th j c.at r t k;
  way = record { turns = c.way.turns; is = left_on c.way.turns code th j l c.at r t k a own need c.way.is };
  is = ap (composed code th j c.at t k (turn code c.at)) need ∙ ap (pulled code th j r t k own) c.is;
}

-- a side that needs an element stands where it needs it
needing : (code : List Instruction) (s s' : Stage) (t k : ℕ) → Stops code s (Needing t k s') → Reaches code s s' × (turn code s' ≡ Needing t k s')
needing code s s' t k c =
    let same : s' ≡ c.at = needs_stay code c.at s' t k c.is in
    (subst (Reaches code s) (sym same) c.way, subst (λ x. turn code x ≡ Needing t k s') (sym same) c.is)

-- what holds where a side has ended
pub record Halted (E : Arriving) (code : List Instruction) (v : Val) (s : State) (st : Stage) : Type 0 where
  pub taken : ℕ
  pub ticks : ℕ
  pub last : Stage
  pub comes : Comes code st (Ended taken ticks last)
  pub at : PointIs (point s) taken ticks
  pub is : E v s last

-- the stage that a turn leads to
abbrev pub GoesWhere : Turned → (Stage → Type 0) → Type 0
GoesWhere (Going s) P = P s
GoesWhere (Giving cells taken ticks s) P = ⊥
GoesWhere (Needing taken ticks s) P = ⊥
GoesWhere (Ended taken ticks s) P = ⊥
GoesWhere (Failed t taken ticks s) P = ⊥
GoesWhere Gone P = ⊥

-- what two sides are that are joined where a composition began in a state
pub record Sides (A EL ER : Arriving) (w wl wr : Watch) (code : List Instruction) (ids : List ℕ) (d : ℕ) (s : State) (j : Joint) (th : Thread) : Type 0 where
  pub limit_is : th.memory.limit ≡ limit s
  pub elements : (x : Val) → w.element x → wl.element x
  pub between : (x : Val) → wl.output x → wr.element x
  pub outputs : (x : Val) → wr.output x → w.output x
  pub holds : (l r : Stage) (sl sr : Store) (t k : ℕ) → wl.holds l sl → wr.holds r sr → w.holds (Joined th j l r t k) (merge ids sl sr)
  pub right_over : (v : Val) (l r : Stage) (p : Point) (s2 : State) (t k : ℕ) → wl.holds l p.store → ER v s2 r → PointIs (over ids p (point s2)) t k →
      k ≤ th.memory.limit → GoesWhere (right_ended j th l r t k) (λ st. A v (at_point s (over ids p (point s2))) st)
  pub left_over : (v : Val) (l r : Stage) (s1 s2 : State) (t k : ℕ) → EL v s1 l → wr.holds r s2.store →
      PointIs (over ids (point s1) (waiting d (Value v) (point s2))) t k → k ≤ th.memory.limit →
      GoesWhere (left_ended j th l r t k) (λ st. A v (at_point s (over ids (point s1) (waiting d (Value v) (point s2)))) st)

-- a stage that goes on arrives where it goes
goes_where : (A : Arriving) (code : List Instruction) (v : Val) (s : State) (st : Stage) (e : Turned) → Stops code st e → GoesWhere e (λ x. A v s x) →
    (st' : Stage) × Reaches code st st' × A v s st'
goes_where A code v s st (Going st') c h = (st', goes code st st' c, h)
goes_where A code v s st (Giving cells taken ticks st') c h = absurd h
goes_where A code v s st (Needing taken ticks st') c h = absurd h
goes_where A code v s st (Ended taken ticks st') c h = absurd h
goes_where A code v s st (Failed t taken ticks st') c h = absurd h
goes_where A code v s st Gone c h = absurd h

-- what is within the limit of a composition, and what is not
limited : (A : Arriving) (w : Watch) (code : List Instruction) (b c : Bool) (p : Proc) (st : Stage) (e : Turned) → b ≡ c →
    Stops code st (either_turned c e Gone) → ((c ≡ true) → Stops code st e → Arrives A w code p st) → Arrives A w code (holds b p) st
limited A w code true true p st e q c f = f refl c
limited A w code true false p st e q c f = cc
limited A w code false true p st e q c f = cc
limited A w code false false p st e q c f = comes code st Gone tt c

-- a spent side leaves none of the process
spent_holds : (A : Arriving) (w : Watch) (code : List Instruction) (b : Bool) (st : Stage) → Comes code st Gone → Arrives A w code (holds b spent_proc) st
spent_holds A w code true st c = c
spent_holds A w code false st c = c

point_both : (ids : List ℕ) (p q : Point) (t k a own : ℕ) → PointIs p t k → PointIs q a own → PointIs (over ids p q) t (k + own)
point_both ids p q t k a own x y = record { elements = x.elements; used = ap (λ i. i + q.ticks) x.used ∙ ap (λ i. k + i) y.used }

within_same : (s : State) (th : Thread) (p : Point) (k : ℕ) → th.memory.limit ≡ limit s → p.ticks ≡ k → nat_le p.ticks (limit s) ≡ nat_le k th.memory.limit
within_same s th p k e f = ap (λ i. nat_le i (limit s)) f ∙ ap (nat_le k) (sym e)

-- the left side's end, where the right side needs an element
pull_ends : (A EL ER : Arriving) (w wl wr : Watch) (code : List Instruction) (ids : List ℕ) (d : ℕ) (s : State) (j : Joint) (th : Thread) →
    Sides A EL ER w wl wr code ids d s j th → (e : End) (s1 s2 : State) (l r : Stage) (t k a own : ℕ) → turn code r ≡ Needing a own r →
    PointIs (point s2) a own → wr.holds r s2.store → ArrivesEnd (Halted EL code) code e s1 l →
    Arrives A w code (holds (nat_le (over ids (point s1) (waiting d e (point s2))).ticks (limit s))
    (end_proc e (at_point s (over ids (point s1) (waiting d e (point s2)))))) (Joined th j l r t k)
pull_ends A EL ER w wl wr code ids d s j th x (Value v) s1 s2 l r t k a own need at held h =
    let y = h.2 in
    let way = reaches_stops code l h.0 (Ended y.taken y.ticks y.last) h.1 (stops code h.0 (Ended y.taken y.ticks y.last) tt y.comes) in
    let p : Point = over ids (point s1) (waiting d (Value v) (point s2)) in
    let is : PointIs p y.taken (y.ticks + own) =
    point_both ids (point s1) (waiting d (Value v) (point s2)) y.taken y.ticks a own y.at (record { elements = at.elements; used = at.used }) in
    limited A w code (nat_le p.ticks (limit s)) (nat_le (y.ticks + own) th.memory.limit) (Ends (Value v) (at_point s p)) (Joined th j l r t k)
    (left_ended j th y.last r y.taken (y.ticks + own)) (within_same s th p (y.ticks + own) x.limit_is is.used)
    (left_stops code th j l r t k a own (Ended y.taken y.ticks y.last) need way)
    (λ low c. goes_where A code v (at_point s p) (Joined th j l r t k) (left_ended j th y.last r y.taken (y.ticks + own)) c
    (x.left_over v y.last r s1 s2 y.taken (y.ticks + own) y.is held is (leb-true (y.ticks + own) th.memory.limit low)))
pull_ends A EL ER w wl wr code ids d s j th x Starved s1 s2 l r t k a own need at held h = absurd h
pull_ends A EL ER w wl wr code ids d s j th x (Trapped trap) s1 s2 l r t k a own need at held h =
    let p : Point = over ids (point s1) (waiting d (Trapped trap) (point s2)) in
    let is : PointIs p h.taken (h.ticks + own) = point_both ids (point s1) (point s2) h.taken h.ticks a own h.at at in
    let e : Turned = Failed trap h.taken (h.ticks + own) (Joined th j h.last r t k) in
    limited A w code (nat_le p.ticks (limit s)) (nat_le (h.ticks + own) th.memory.limit) (Ends (Trapped trap) (at_point s p)) (Joined th j l r t k)
    e (within_same s th p (h.ticks + own) x.limit_is is.used)
    (left_stops code th j l r t k a own (Failed trap h.taken h.ticks h.last) need (stops code l (Failed trap h.taken h.ticks h.last) tt h.comes))
    (λ low c. record {
      taken = h.taken;
      ticks = h.ticks + own;
      last = Joined th j h.last r t k;
      comes = comes code (Joined th j l r t k) e tt c;
      at = is;
    })
pull_ends A EL ER w wl wr code ids d s j th x Spent s1 s2 l r t k a own need at held h =
    spent_holds A w code (nat_le (over ids (point s1) (waiting d Spent (point s2))).ticks (limit s)) (Joined th j l r t k)
    (comes code (Joined th j l r t k) Gone tt (left_stops code th j l r t k a own Gone need (stops code l Gone tt h)))

-- the left side runs where the right side needs an element
pull_arrives : (A EL ER : Arriving) (w wl wr : Watch) (code : List Instruction) (ids : List ℕ) (d : ℕ) (s : State) (j : Joint) (th : Thread) →
    Sides A EL ER w wl wr code ids d s j th → (p : Proc) (next : Val → Point → Proc → Proc) (s2 : State) (l r : Stage) (t k a own : ℕ) →
    turn code r ≡ Needing a own r → PointIs (point s2) a own → wr.holds r s2.store →
    ((v : Val) (q : Point) (p' : Proc) (l' : Stage) (t' k' : ℕ) → wl.output v → wl.holds l' q.store → PointIs q t' k' →
    Arrives (Halted EL code) wl code p' l' → Arrives A w code (next v q p') (Joined th j l' (handed code (cells_of v) r) t' k')) →
    Arrives (Halted EL code) wl code p l → Arrives A w code (pull ids d s next s2 p) (Joined th j l r t k)
pull_arrives A EL ER w wl wr code ids d s j th x (Gives o p) next s2 l r t k a own need at held f h =
    let g = h.1 in
    let e : Turned = Giving (cells_of o.value) g.taken g.ticks h.0 in
    arrives_on A w code (next o.value o.at p) (Joined th j l r t k) (Joined th j h.0 (handed code (cells_of o.value) r) g.taken g.ticks)
    (goes code (Joined th j l r t k) (Joined th j h.0 (handed code (cells_of o.value) r) g.taken g.ticks)
    (left_stops code th j l r t k a own e need (stops code l e tt g.comes)))
    (f o.value o.at p h.0 g.taken g.ticks g.output g.holds g.at h.2)
pull_arrives A EL ER w wl wr code ids d s j th x (Ends e s1) next s2 l r t k a own need at held f h =
    pull_ends A EL ER w wl wr code ids d s j th x e s1 s2 l r t k a own need at held h
pull_arrives A EL ER w wl wr code ids d s j th x (Needs s1 u) next s2 l r t k a own need at held f h =
    let g = h.1 in
    let p : Point = over ids (point s1) (point s2) in
    let is : PointIs p g.taken (g.ticks + own) = point_both ids (point s1) (point s2) g.taken g.ticks a own g.at at in
    let e : Turned = Needing g.taken (g.ticks + own) (Joined th j h.0 r t k) in
    limited A w code (nat_le p.ticks (limit s)) (nat_le (g.ticks + own) th.memory.limit) (Needs (at_point s p) (λ v. pull ids d s next s2 (u v)))
    (Joined th j l r t k) e (within_same s th p (g.ticks + own) x.limit_is is.used)
    (left_stops code th j l r t k a own (Needing g.taken g.ticks h.0) need (stops code l (Needing g.taken g.ticks h.0) tt g.comes))
    (λ low c. (
      Joined th j h.0 r t k,
      record {
        taken = g.taken;
        ticks = g.ticks + own;
        comes = comes code (Joined th j l r t k) e tt c;
        at = is;
        holds = x.holds h.0 r s1.store s2.store t k g.holds held;
      },
      λ v fits. pull_arrives A EL ER w wl wr code ids d s j th x (u v) next s2 (handed code (cells_of v) h.0) r t k a own need at held f
          (h.2 v (x.elements v fits)),
    ))

-- the right side's end
right_ends : (A EL ER : Arriving) (w wl wr : Watch) (code : List Instruction) (ids : List ℕ) (d : ℕ) (s : State) (j : Joint) (th : Thread) →
    Sides A EL ER w wl wr code ids d s j th → (e : End) (s2 : State) (base : Point) (l r : Stage) (t k : ℕ) → PointIs base t k → wl.holds l base.store →
    ArrivesEnd (Halted ER code) code e s2 r →
    Arrives A w code (holds (nat_le (over ids base (point s2)).ticks (limit s)) (end_proc e (at_point s (over ids base (point s2))))) (Joined th j l r t k)
right_ends A EL ER w wl wr code ids d s j th x (Value v) s2 base l r t k at held h =
    let y = h.2 in
    let way = reaches_stops code r h.0 (Ended y.taken y.ticks y.last) h.1 (stops code h.0 (Ended y.taken y.ticks y.last) tt y.comes) in
    let p : Point = over ids base (point s2) in
    let is : PointIs p t (k + y.ticks) = point_both ids base (point s2) t k y.taken y.ticks at y.at in
    limited A w code (nat_le p.ticks (limit s)) (nat_le (k + y.ticks) th.memory.limit) (Ends (Value v) (at_point s p)) (Joined th j l r t k)
    (right_ended j th l y.last t (k + y.ticks)) (within_same s th p (k + y.ticks) x.limit_is is.used)
    (right_stops code th j l r t k (Ended y.taken y.ticks y.last) way)
    (λ low c. goes_where A code v (at_point s p) (Joined th j l r t k) (right_ended j th l y.last t (k + y.ticks)) c
    (x.right_over v l y.last base s2 t (k + y.ticks) held y.is is (leb-true (k + y.ticks) th.memory.limit low)))
right_ends A EL ER w wl wr code ids d s j th x Starved s2 base l r t k at held h = absurd h
right_ends A EL ER w wl wr code ids d s j th x (Trapped trap) s2 base l r t k at held h =
    let p : Point = over ids base (point s2) in
    let is : PointIs p t (k + h.ticks) = point_both ids base (point s2) t k h.taken h.ticks at h.at in
    let e : Turned = Failed trap t (k + h.ticks) (Joined th j l h.last t k) in
    limited A w code (nat_le p.ticks (limit s)) (nat_le (k + h.ticks) th.memory.limit) (Ends (Trapped trap) (at_point s p)) (Joined th j l r t k)
    e (within_same s th p (k + h.ticks) x.limit_is is.used)
    (right_stops code th j l r t k (Failed trap h.taken h.ticks h.last) (stops code r (Failed trap h.taken h.ticks h.last) tt h.comes))
    (λ low c. record {
      taken = t;
      ticks = k + h.ticks;
      last = Joined th j l h.last t k;
      comes = comes code (Joined th j l r t k) e tt c;
      at = is;
    })
right_ends A EL ER w wl wr code ids d s j th x Spent s2 base l r t k at held h =
    spent_holds A w code (nat_le (over ids base (point s2)).ticks (limit s)) (Joined th j l r t k)
    (comes code (Joined th j l r t k) Gone tt (right_stops code th j l r t k Gone (stops code r Gone tt h)))

-- a stage that is joined of two that come to the events of their processes comes to those of the composition
pub piped_arrives : (A EL ER : Arriving) (w wl wr : Watch) (code : List Instruction) (ids : List ℕ) (d : ℕ) (s : State) (j : Joint) (th : Thread) →
    Sides A EL ER w wl wr code ids d s j th → (right left : Proc) (base : Point) (l r : Stage) (t k : ℕ) → PointIs base t k → wl.holds l base.store →
    Arrives (Halted EL code) wl code left l → Arrives (Halted ER code) wr code right r →
    Arrives A w code (piped ids d s right base left) (Joined th j l r t k)
piped_arrives A EL ER w wl wr code ids d s j th x (Gives o right) left base l r t k at held hl h =
    let g = h.1 in
    let p : Point = over ids base o.at in
    let is : PointIs p t (k + g.ticks) = point_both ids base o.at t k g.taken g.ticks at g.at in
    let e : Turned = Giving (cells_of o.value) t (k + g.ticks) (Joined th j l h.0 t k) in
    limited A w code (nat_le p.ticks (limit s)) (nat_le (k + g.ticks) th.memory.limit)
    (Gives (record { value = o.value; at = p }) (piped ids d s right base left)) (Joined th j l r t k) e
    (within_same s th p (k + g.ticks) x.limit_is is.used)
    (right_stops code th j l r t k (Giving (cells_of o.value) g.taken g.ticks h.0)
    (stops code r (Giving (cells_of o.value) g.taken g.ticks h.0) tt g.comes))
    (λ low c. (
      Joined th j l h.0 t k,
      record {
        taken = t;
        ticks = k + g.ticks;
        comes = comes code (Joined th j l r t k) e tt c;
        at = is;
        holds = x.holds l h.0 base.store o.at.store t k held g.holds;
        output = x.outputs o.value g.output;
      },
      piped_arrives A EL ER w wl wr code ids d s j th x right left base l h.0 t k at held hl h.2,
    ))
piped_arrives A EL ER w wl wr code ids d s j th x (Ends e s2) left base l r t k at held hl h =
    right_ends A EL ER w wl wr code ids d s j th x e s2 base l r t k at held h
piped_arrives A EL ER w wl wr code ids d s j th x (Needs s2 u) left base l r t k at held hl h =
    let g = h.1 in
    let stand = needing code r h.0 g.taken g.ticks (stops code r (Needing g.taken g.ticks h.0) tt g.comes) in
    arrives_on A w code (piped ids d s (Needs s2 u) base left) (Joined th j l r t k) (Joined th j l h.0 t k) (right_goes code th j l r h.0 t k stand.0)
    (pull_arrives A EL ER w wl wr code ids d s j th x left (λ v q p'. piped ids d s (u v) q p') s2 l h.0 t k g.taken g.ticks stand.1 g.at g.holds
    (λ v q p' l' t' k' out held' at' hl'. piped_arrives A EL ER w wl wr code ids d s j th x (u v) p' q l' (handed code (cells_of v) h.0) t' k' at' held' hl'
    (h.2 v (x.between v out))) hl)
