-- The events of stages: from a stage on one event comes first, and a stage that performs a process comes to the process's.
use Rattle.std.proofs.Common.{◌≡◌, ℕ, zero, suc, ℤ, List, Some, ap, sym, subst, refl, ◌∙◌}
use Rattle.zir_tree.specs.declared.value.Val.{Val}
use Rattle.zir_tree.specs.declared.ends.End.{End}
use Rattle.zir_tree.specs.declared.ends.Trap.{Trap}
use Rattle.zir_tree.specs.declared.ends.End.TheVariants.{Value, Starved, Trap as Trapped, Spent}
use Rattle.zir_meaning.specs.Trace.{State, point, Out}
use Rattle.zir_cells.specs.Cells.{cells_of}
use Rattle.zir_laws.specs.Process.{Proc, Gives, Ends, Needs}
use Rattle.zir_shapes.specs.Shapes.{Shaped}
use Rattle.zir_flow.specs.declared.instruction.Instruction.{Instruction}
use Rattle.zir_flow.specs.Stages.{Stage, Turned, Going, Giving, Needing, Ended, Failed, Gone, turn, going_on, turned_on, handed}
use Rattle.zir_flow.specs.Playing.{PointIs}
use Rattle.zir_stage.specs.Standing.{given}
use Rattle.zir_stage.specs.declared.event.Event.{Event}
use Rattle.zir_stage.specs.Coming.{said, says}
use Rattle.zir_play.specs.Performing.{Interface, Stands, Performs}

-- a stage has come to an event, and does not only go on
abbrev pub IsEvent : Turned → Type 0
IsEvent (Going s) = ⊥
IsEvent (Giving cells taken ticks s) = Unit {0}
IsEvent (Needing taken ticks s) = Unit {0}
IsEvent (Ended taken ticks s) = Unit {0}
IsEvent (Failed t taken ticks s) = Unit {0}
IsEvent Gone = Unit {0}

-- an event that comes at once, or where the stage goes on the same event
one_event : (t : Turned) (n m : ℕ) (code : List Instruction) (a b : Turned) → going_on (turned_on n code) t ≡ a → going_on (turned_on m code) t ≡ b →
    ((s : Stage) → turned_on n code s ≡ a → turned_on m code s ≡ b → a ≡ b) → a ≡ b
one_event (Going s) n m code a b e f on = on s e f
one_event (Giving cells taken ticks s) n m code a b e f on = sym e ∙ f
one_event (Needing taken ticks s) n m code a b e f on = sym e ∙ f
one_event (Ended taken ticks s) n m code a b e f on = sym e ∙ f
one_event (Failed t taken ticks s) n m code a b e f on = sym e ∙ f
one_event Gone n m code a b e f on = sym e ∙ f

-- whatever the number of turns, the same event comes first
pub same_event : (n m : ℕ) (code : List Instruction) (s : Stage) (a b : Turned) → IsEvent a → IsEvent b → turned_on n code s ≡ a → turned_on m code s ≡ b → a ≡ b
same_event zero m code s a b x y e f = absurd (subst IsEvent (sym e) x)
same_event (suc n) zero code s a b x y e f = absurd (subst IsEvent (sym f) y)
same_event (suc n) (suc m) code s a b x y e f = one_event (turn code s) n m code a b e f (λ s'. same_event n m code s' a b x y)

-- what a stage has come to, by another name for the event
pub comes_to : (n : ℕ) (code : List Instruction) (s s' : Stage) (e e' : Event) → e ≡ e' → turned_on n code s ≡ said (Some e) s' → turned_on n code s ≡ says e' s'
comes_to n code s s' e e' same came = came ∙ ap (λ x. says x s') same

-- the event with which a process ends
abbrev pub MeetsEnd : Interface → End → State → Turned → Type 0
MeetsEnd i (Value v) s t = (taken : ℕ) × (ticks : ℕ) × (last : Stage) × (t ≡ Ended taken ticks last) × PointIs (point s) taken ticks × Stands i v (given last)
MeetsEnd i Starved s t = ⊥
MeetsEnd i (Trapped c) s t = (taken : ℕ) × (ticks : ℕ) × (last : Stage) × (t ≡ Failed c taken ticks last) × PointIs (point s) taken ticks
MeetsEnd i Spent s t = t ≡ Gone

-- the first event of a process
abbrev pub Meets : Interface → List Instruction → Proc → Turned → Type 0
Meets i code (Gives o p) t =
    (taken : ℕ) × (ticks : ℕ) × (st : Stage) × (t ≡ Giving (cells_of o.value) taken ticks st) × PointIs o.at taken ticks × Performs i code p st
Meets i code (Ends e s) t = MeetsEnd i e s t
Meets i code (Needs s f) t =
    (taken : ℕ) × (ticks : ℕ) × (st : Stage) × (t ≡ Needing taken ticks st) × PointIs (point s) taken ticks
    × ((x : Val) → Shaped i.structs i.input x → Performs i code (f x) (handed code (cells_of x) st))

-- a stage that performs a process comes to its first event
pub meets : (i : Interface) (code : List Instruction) (q : Proc) (s : Stage) (n : ℕ) (t : Turned) → Performs i code q s → IsEvent t → turned_on n code s ≡ t → Meets i code q t
meets i code (Gives o p) s n t h x e = (h.1.taken, h.1.ticks, h.0, same_event n h.1.comes.turns code s t (Giving (cells_of o.value) h.1.taken h.1.ticks h.0) x tt e h.1.comes.is, h.1.at, h.2)
meets i code (Ends (Value v) st) s n t h x e = (h.taken, h.ticks, h.last, same_event n h.comes.turns code s t (Ended h.taken h.ticks h.last) x tt e h.comes.is, h.at, h.stands)
meets i code (Ends Starved st) s n t h x e = absurd h
meets i code (Ends (Trapped c) st) s n t h x e = (h.taken, h.ticks, h.last, same_event n h.comes.turns code s t (Failed c h.taken h.ticks h.last) x tt e h.comes.is, h.at)
meets i code (Ends Spent st) s n t h x e = same_event n h.turns code s t Gone x tt e h.is
meets i code (Needs st f) s n t h x e = (h.1.taken, h.1.ticks, h.0, same_event n h.1.comes.turns code s t (Needing h.1.taken h.1.ticks h.0) x tt e h.1.comes.is, h.1.at, h.2)

-- an output comes first, and a stage that performs what follows
pub record GivesFirst (i : Interface) (code : List Instruction) (q : Proc) (cells : List ℤ) (s : Stage) : Type 0 where
  pub out : Out
  pub next : Proc
  pub is : q ≡ Gives out next
  pub cells_are : cells ≡ cells_of out.value
  pub performs : Performs i code next s

-- where a stage gives cells, the process gives an output
pub gives_first : (i : Interface) (code : List Instruction) (q : Proc) (cells : List ℤ) (taken ticks : ℕ) (s : Stage) → Meets i code q (Giving cells taken ticks s) → GivesFirst i code q cells s
gives_first i code (Gives o p) cells taken ticks s h =
    let e : Giving cells taken ticks s ≡ Giving (cells_of o.value) h.0 h.1 h.2 = h.3 in
    let same : h.2 ≡ s = cc in
    let cells_same : cells ≡ cells_of o.value = cc in
    record { out = o; next = p; is = refl; cells_are = cells_same; performs = subst (Performs i code p) same h.5 }
gives_first i code (Ends (Value v) st) cells taken ticks s h = let e : Giving cells taken ticks s ≡ Ended h.0 h.1 h.2 = h.3 in absurd (cc)
gives_first i code (Ends Starved st) cells taken ticks s h = absurd h
gives_first i code (Ends (Trapped c) st) cells taken ticks s h = let e : Giving cells taken ticks s ≡ Failed c h.0 h.1 h.2 = h.3 in absurd (cc)
gives_first i code (Ends Spent st) cells taken ticks s h = absurd (cc)
gives_first i code (Needs st f) cells taken ticks s h = let e : Giving cells taken ticks s ≡ Needing h.0 h.1 h.2 = h.3 in absurd (cc)

-- an element is needed first, and a stage that has it performs what follows
pub record NeedsFirst (i : Interface) (code : List Instruction) (q : Proc) (taken ticks : ℕ) (s : Stage) : Type 0 where
  pub state : State
  pub next : Val → Proc
  pub is : q ≡ Needs state next
  pub at : PointIs (point state) taken ticks
  pub performs : (x : Val) → Shaped i.structs i.input x → Performs i code (next x) (handed code (cells_of x) s)

-- where a stage needs an element, so does the process
pub needs_first : (i : Interface) (code : List Instruction) (q : Proc) (taken ticks : ℕ) (s : Stage) → Meets i code q (Needing taken ticks s) → NeedsFirst i code q taken ticks s
needs_first i code (Gives o p) taken ticks s h = let e : Needing taken ticks s ≡ Giving (cells_of o.value) h.0 h.1 h.2 = h.3 in absurd (cc)
needs_first i code (Ends (Value v) st) taken ticks s h = let e : Needing taken ticks s ≡ Ended h.0 h.1 h.2 = h.3 in absurd (cc)
needs_first i code (Ends Starved st) taken ticks s h = absurd h
needs_first i code (Ends (Trapped c) st) taken ticks s h = let e : Needing taken ticks s ≡ Failed c h.0 h.1 h.2 = h.3 in absurd (cc)
needs_first i code (Ends Spent st) taken ticks s h = absurd (cc)
needs_first i code (Needs st f) taken ticks s h =
    let e : Needing taken ticks s ≡ Needing h.0 h.1 h.2 = h.3 in
    let same : h.2 ≡ s = cc in
    let taken_same : h.0 ≡ taken = cc in
    let ticks_same : h.1 ≡ ticks = cc in
    record {
      state = st;
      next = f;
      is = refl;
      at = subst (λ k. PointIs (point st) taken k) ticks_same (subst (λ k. PointIs (point st) k h.1) taken_same h.4);
      performs = λ x shaped. subst (λ s'. Performs i code (f x) (handed code (cells_of x) s')) same (h.5 x shaped);
    }

-- the process ends at a point
pub record EndsFirst (i : Interface) (q : Proc) (taken ticks : ℕ) (s : Stage) : Type 0 where
  pub value : Val
  pub state : State
  pub is : q ≡ Ends (Value value) state
  pub at : PointIs (point state) taken ticks
  pub stands : Stands i value (given s)

-- where a stage has ended, the process ends with a value
pub ends_first : (i : Interface) (code : List Instruction) (q : Proc) (taken ticks : ℕ) (s : Stage) → Meets i code q (Ended taken ticks s) → EndsFirst i q taken ticks s
ends_first i code (Gives o p) taken ticks s h = let e : Ended taken ticks s ≡ Giving (cells_of o.value) h.0 h.1 h.2 = h.3 in absurd (cc)
ends_first i code (Ends (Value v) st) taken ticks s h =
    let e : Ended taken ticks s ≡ Ended h.0 h.1 h.2 = h.3 in
    let same : h.2 ≡ s = cc in
    let taken_same : h.0 ≡ taken = cc in
    let ticks_same : h.1 ≡ ticks = cc in
    record {
      value = v;
      state = st;
      is = refl;
      at = subst (λ k. PointIs (point st) taken k) ticks_same (subst (λ k. PointIs (point st) k h.1) taken_same h.4);
      stands = subst (λ s'. Stands i v (given s')) same h.5;
    }
ends_first i code (Ends Starved st) taken ticks s h = absurd h
ends_first i code (Ends (Trapped c) st) taken ticks s h = let e : Ended taken ticks s ≡ Failed c h.0 h.1 h.2 = h.3 in absurd (cc)
ends_first i code (Ends Spent st) taken ticks s h = absurd (cc)
ends_first i code (Needs st f) taken ticks s h = let e : Ended taken ticks s ≡ Needing h.0 h.1 h.2 = h.3 in absurd (cc)

-- the process traps at a point
pub record TrapsFirst (q : Proc) (c : Trap) (taken ticks : ℕ) : Type 0 where
  pub state : State
  pub is : q ≡ Ends (Trapped c) state
  pub at : PointIs (point state) taken ticks

-- where a stage traps, so does the process
pub traps_first : (i : Interface) (code : List Instruction) (q : Proc) (c : Trap) (taken ticks : ℕ) (s : Stage) → Meets i code q (Failed c taken ticks s) → TrapsFirst q c taken ticks
traps_first i code (Gives o p) c taken ticks s h = let e : Failed c taken ticks s ≡ Giving (cells_of o.value) h.0 h.1 h.2 = h.3 in absurd (cc)
traps_first i code (Ends (Value v) st) c taken ticks s h = let e : Failed c taken ticks s ≡ Ended h.0 h.1 h.2 = h.3 in absurd (cc)
traps_first i code (Ends Starved st) c taken ticks s h = absurd h
traps_first i code (Ends (Trapped d) st) c taken ticks s h =
    let e : Failed c taken ticks s ≡ Failed d h.0 h.1 h.2 = h.3 in
    let taken_same : h.0 ≡ taken = cc in
    let ticks_same : h.1 ≡ ticks = cc in
    let trap_same : d ≡ c = cc in
    record {
      state = st;
      is = ap (λ t. Ends (Trapped t) st) trap_same;
      at = subst (λ k. PointIs (point st) taken k) ticks_same (subst (λ k. PointIs (point st) k h.1) taken_same h.4);
    }
traps_first i code (Ends Spent st) c taken ticks s h = absurd (cc)
traps_first i code (Needs st f) c taken ticks s h = let e : Failed c taken ticks s ≡ Needing h.0 h.1 h.2 = h.3 in absurd (cc)

-- where a stage is gone, the process is spent
pub gone_first : (i : Interface) (code : List Instruction) (q : Proc) → Meets i code q Gone → (st : State) × (q ≡ Ends Spent st)
gone_first i code (Gives o p) h = let e : Gone ≡ Giving (cells_of o.value) h.0 h.1 h.2 = h.3 in absurd (cc)
gone_first i code (Ends (Value v) st) h = let e : Gone ≡ Ended h.0 h.1 h.2 = h.3 in absurd (cc)
gone_first i code (Ends Starved st) h = absurd h
gone_first i code (Ends (Trapped c) st) h = let e : Gone ≡ Failed c h.0 h.1 h.2 = h.3 in absurd (cc)
gone_first i code (Ends Spent st) h = (st, refl)
gone_first i code (Needs st f) h = let e : Gone ≡ Needing h.0 h.1 h.2 = h.3 in absurd (cc)
