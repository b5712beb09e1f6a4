-- Turns of loops: from where an invariant holds at the start of each.
use Rattle.std.proofs.Common.{◌≡◌, ℕ, zero, suc, ◌+◌, ◌-◌, ◌%◌, ◌^◌, ◌<◌, ◌≤◌, ℤ, List, ◌∷◌, Option, Some, length, slice_get, ap, sym, subst, refl, ◌∙◌, arith}
use Rattle.zir_tree.specs.declared.value.Val.{Val, Unit as UnitVal}
use Rattle.zir_tree.specs.declared.ident.Ident.{Ident}
use Rattle.zir_tree.specs.declared.ends.End.TheVariants.{Value, Starved, Trap as Trapped, Spent}
use Rattle.zir_tree.specs.declared.types.Base.TheVariants.{Unit as UnitTy}
use Rattle.zir_tree.specs.declared.types.Ty.{Ty}
use Rattle.zir_tree.specs.declared.comp.Comp.{Comp}
use Rattle.zir_meaning.specs.Store.{depth}
use Rattle.zir_meaning.specs.Trace.{State}
use Rattle.zir_meaning.specs.Evaluation.{Eval}
use Rattle.zir_meaning.specs.Statements.{leave, next_index}
use Rattle.zir_meaning.specs.Instances.{around}
use Rattle.zir_meaning.specs.Component.{bind_index}
use Rattle.zir_cells.specs.Cells.{cells_of}
use Rattle.zir_laws.specs.Process.{Proc, Gives, Ends, Needs, spent_proc, then_proc, tick_proc, tick_proc_of, turn_if_proc, turns_proc, counted_proc, proc}
use Rattle.zir_laws.proofs.Functions.{evaluates-library}
use Rattle.zir_laws.proofs.Components.{proceeds-proc}
use Rattle.zir_laws.proofs.Fuel.{Shrinks, proceeds-shrinks}
use Rattle.zir_shapes.specs.Offsets.{plain_type as plain}
use Rattle.zir_expr.specs.Memory.Frames.{Memory}
use Rattle.zir_code.specs.Scopes.{Scope}
use Rattle.zir_code.specs.Holding.{Spares}
use Rattle.zir_flow.specs.declared.instruction.Instruction.{Instruction}
use Rattle.zir_flow.specs.declared.instruction.Instruction.TheVariants.{Tick, Again}
use Rattle.zir_flow.specs.Threads.{Thread, backward}
use Rattle.zir_flow.specs.Stages.{Stage, Alone, Room, handed, seen}
use Rattle.zir_flow.specs.Kinds.{value_in}
use Rattle.zir_flow.specs.Flowing.{flow_code}
use Rattle.zir_flow.specs.Fitting.{Flows, depth_of, shape_of}
use Rattle.zir_flow.specs.Playing.{Watch}
use Rattle.zir_flow.specs.Program.{CodeAt}
use Rattle.zir_flow.proofs.Reaching.{Reaches}
use Rattle.zir_flow.proofs.Playing.{Arriving, Arrives, arrives_on, arrives_then, arrives_holds}
use Rattle.zir_flow.proofs.Standing.{Ground, Covers, Stands, Arrived, Solid, watched, ComponentArrives}
use Rattle.zir_flow.proofs.Straight.{code_here, code_ends, backward_place, goes_to, spares_then, stands_moved, ticked_state, ticked_thread, tick_arrives}

-- a process that ends with no more than so many ticks left arrives with no more
pub arrives_left : (A : Arriving) (w : Watch) (code : List Instruction) (n : ℕ) (p : Proc) (st : Stage) → Shrinks n p → Arrives A w code p st →
    Arrives (λ v s st. (s.left ≤ n) × A v s st) w code p st
arrives_left A w code n (Gives o p) st l h = (h.0, h.1, arrives_left A w code n p h.0 l h.2)
arrives_left A w code n (Ends (Value v) s) st l h = (h.0, h.1, (l, h.2))
arrives_left A w code n (Ends Starved s) st l h = absurd h
arrives_left A w code n (Ends (Trapped t) s) st l h = h
arrives_left A w code n (Ends Spent s) st l h = h
arrives_left A w code n (Needs s f) st l h = (h.0, h.1, λ x fits. arrives_left A w code n (f x) (handed code (cells_of x) h.0) (l x) (h.2 x fits))

-- a component ends with no more ticks left than it began with
pub component_shrinks : (a : Ground) (g : Scope) (c : Comp) (s : State) → Solid a g → Shrinks s.left (proc (around a.core) a.procs c s)
component_shrinks a g c s solid =
    proceeds-shrinks (proc (around a.core) a.procs c)
    (proceeds-proc (around a.core) a.procs (evaluates-library a.core.structs a.core.functions) solid.proceeds c) s

-- turns of a body while a test holds: I holds at the start of each, J behind the test, K behind the tick and B behind the body
pub record Rounds (A B : Arriving) (w : Watch) (code : List Instruction) (I J K : State → Stage → Type 0) (test : State → Eval)
    (body : State → Proc) : Type 1 where
  pub tests : (s : State) (st : Stage) (turn : State → Proc) → I s st →
      ((s' : State) (st' : Stage) → s'.left ≤ s.left → J s' st' → Arrives A w code (turn s') st') → Arrives A w code (turn_if_proc (test s) turn) st
  pub ticks : (s : State) (st : Stage) (next : State → Proc) → J s st →
      ((l : ℕ) (st' : Stage) → s.left ≡ suc l → K (ticked_state s l) st' → Arrives A w code (next (ticked_state s l)) st') →
      Arrives A w code (tick_proc s next) st
  pub turns : (s : State) (st : Stage) → K s st → Arrives B w code (body s) st
  pub shrinks : (s : State) → Shrinks s.left (body s)
  pub again : (v : Val) (s : State) (st : Stage) → B v s st → (st' : Stage) × Reaches code st st' × I s st'

no_tick_proc : (s : State) (next : State → Proc) → s.left ≡ 0 → tick_proc s next ≡ spent_proc
no_tick_proc s next e = ap (λ k. tick_proc_of k s next) e

-- such turns arrive, where there are no fewer than the ticks left
pub rounds_arrive : (k : ℕ) (A B : Arriving) (w : Watch) (code : List Instruction) (I J K : State → Stage → Type 0) (test : State → Eval)
    (body : State → Proc) (s : State) (st : Stage) → Rounds A B w code I J K test body → s.left ≤ k → I s st →
    Arrives A w code (turns_proc k test body s) st
rounds_arrive zero A B w code I J K test body s st r le i =
    r.tests s st (λ s'. spent_proc) i
    (λ s' st' less j.
    let none : s'.left ≡ 0 = omega arith in
    subst (λ p. Arrives A w code p st') (no_tick_proc s' (λ s2. spent_proc) none)
    (r.ticks s' st' (λ s2. spent_proc) j (λ l st2 e x. absurd (omega arith))))
rounds_arrive (suc k) A B w code I J K test body s st r le i =
    r.tests s st (λ s'. tick_proc s' (λ s''. then_proc (body s'') (λ v s3. turns_proc k test body s3))) i
    (λ s' st' less j. r.ticks s' st' (λ s''. then_proc (body s'') (λ v s3. turns_proc k test body s3)) j
    (λ l st2 e x. arrives_then (λ v s3 st3. (s3.left ≤ l) × B v s3 st3) A w code (body (ticked_state s' l)) st2 (λ v s3. turns_proc k test body s3)
    (arrives_left B w code l (body (ticked_state s' l)) st2 (r.shrinks (ticked_state s' l)) (r.turns (ticked_state s' l) st2 x))
    (λ v s3 st3 b.
    let z = r.again v s3 st3 b.1 in
    let few : s3.left ≤ l = b.0 in
    arrives_on A w code (turns_proc k test body s3) st3 z.0 z.1
    (rounds_arrive k A B w code I J K test body s3 z.0 r (omega arith) z.2))))

-- so many turns of a body with an index: I holds at the start of each with the turns left and the index, K behind the tick of a turn and B behind its body
pub record Counts (A : Arriving) (B : ℕ → ℤ → Arriving) (w : Watch) (code : List Instruction) (names : ℕ) (I K : ℕ → ℤ → State → Stage → Type 0)
    (name : Option Ident) (body : State → Proc) : Type 1 where
  pub names_are : (k : ℕ) (i : ℤ) (s : State) (st : Stage) → I k i s st → depth s.store ≡ names
  pub over : (i : ℤ) (s : State) (st : Stage) → I 0 i s st → Arrives A w code (Ends (Value UnitVal) s) st
  pub ticks : (k : ℕ) (i : ℤ) (s : State) (st : Stage) (next : State → Proc) → I (suc k) i s st →
      ((l : ℕ) (st' : Stage) → K k i (ticked_state s l) st' → Arrives A w code (next (ticked_state s l)) st') → Arrives A w code (tick_proc s next) st
  pub turns : (k : ℕ) (i : ℤ) (s : State) (st : Stage) → K k i s st → Arrives (B k i) w code (body (bind_index name i s)) st
  pub again : (k : ℕ) (i : ℤ) (v : Val) (s : State) (st : Stage) → B k i v s st →
      (st' : Stage) × Reaches code st st' × I k (next_index i) (leave names s) st'

-- such turns arrive
pub counts_arrive : (k : ℕ) (i : ℤ) (A : Arriving) (B : ℕ → ℤ → Arriving) (w : Watch) (code : List Instruction) (names : ℕ)
    (I K : ℕ → ℤ → State → Stage → Type 0) (name : Option Ident) (body : State → Proc) (s : State) (st : Stage) → Counts A B w code names I K name body →
    I k i s st → Arrives A w code (counted_proc k name i body s) st
counts_arrive zero i A B w code names I K name body s st r h = r.over i s st h
counts_arrive (suc k) i A B w code names I K name body s st r h =
    let e : depth s.store ≡ names = r.names_are (suc k) i s st h in
    subst (λ n. Arrives A w code (tick_proc s (λ s'. then_proc (body (bind_index name i s'))
    (λ v s2. counted_proc k name (next_index i) body (leave n s2)))) st)
    (sym e)
    (r.ticks k i s st (λ s'. then_proc (body (bind_index name i s')) (λ v s2. counted_proc k name (next_index i) body (leave names s2))) h
    (λ l st1 x. arrives_then (B k i) A w code (body (bind_index name i (ticked_state s l))) st1
    (λ v s2. counted_proc k name (next_index i) body (leave names s2)) (r.turns k i (ticked_state s l) st1 x)
    (λ v s2 st2 b.
    let z = r.again k i v s2 st2 b in
    arrives_on A w code (counted_proc k name (next_index i) body (leave names s2)) st2 z.0 z.1
    (counts_arrive k (next_index i) A B w code names I K name body (leave names s2) z.0 r z.2))))

-- where a thread stands since a memory
pub record Since (a : Ground) (g : Scope) (d place : ℕ) (m : Memory) (s : State) (st : Stage) : Type 0 where
  pub th : Thread
  pub room : Room
  pub alone : st ≡ Alone th room
  pub stands : Stands a g d place th room s
  pub spared : Spares a.top a.base d g m th.memory

-- a tick where a thread stands so, and what follows
pub tick_since : (A : Arriving) (w : Watch) (a : Ground) (g : Scope) (d place : ℕ) (m : Memory) (rest : List Instruction) (s : State) (st : Stage)
    (next : State → Proc) → length a.code < 2 ^ 32 → CodeAt a.code place (Tick ∷ rest) → Since a g d place m s st →
    ((l : ℕ) (st' : Stage) → s.left ≡ suc l → Since a g d (place + 1) m (ticked_state s l) st' → Arrives A w a.code (next (ticked_state s l)) st') →
    Arrives A w a.code (tick_proc s next) st
tick_since A w a g d place m rest s st next lt c h f =
    subst (Arrives A w a.code (tick_proc s next)) (sym h.alone)
    (tick_arrives A w a g d place rest h.th h.room s next lt c h.stands
    (λ l e k. f l (Alone (ticked_thread h.th) h.room) e
    (record { th = ticked_thread h.th; room = h.room; alone = refl; stands = k; spared = h.spared })))

-- a component where a thread stands so
pub body_since : (a : Ground) (g : Scope) (input out : Ty) (d place : ℕ) (m : Memory) (c : Comp) (s : State) (st : Stage) → ComponentArrives a c → Solid a g →
    Flows a.st g a.n input out d c → CodeAt a.code place (flow_code a.st g input d c) → length a.calls + depth_of a.st c ≤ a.deep →
    Covers a.shape (shape_of a.st c) → Since a g d place m s st →
    Arrives (λ v s' st'. Since a g d (place + length (flow_code a.st g input d c)) m s' st') (watched a g d input out m) a.code
    (proc (around a.core) a.procs c s) st
body_since a g input out d place m c s st arrives solid flows at deep covers h =
    let w = watched a g d input out h.th.memory in
    let w' = watched a g d input out m in
    let end : ℕ = place + length (flow_code a.st g input d c) in
    let ty : Option Ty = value_in a.st g input d c in
    let th : Thread = h.th in
    subst (Arrives (λ v s' st'. Since a g d end m s' st') w' a.code (proc (around a.core) a.procs c s)) (sym h.alone)
    (arrives_holds (Arrived a g d ty end th.memory) (λ v s' st'. Since a g d end m s' st') w w' a.code (proc (around a.core) a.procs c s) (Alone th h.room)
    (λ v s' st' z. record {
      th = z.th;
      room = z.room;
      alone = z.alone;
      stands = z.stands;
      spared = spares_then a.top a.base d g m th.memory z.th.memory h.spared z.spared;
    })
    (λ st' store z. record { held = z.held; spared = spares_then a.top a.base d g m th.memory (seen st') h.spared z.spared })
    (λ x f. f) (λ x f. f) (arrives g input out d place th h.room s solid flows at deep covers h.stands))

-- so many instructions back
pub back_to : (a : Ground) (g : Scope) (d place to k : ℕ) (rest : List Instruction) (s : State) (th : Thread) (room : Room) → length a.code < 2 ^ 32 →
    CodeAt a.code place (Again k ∷ rest) → to + k ≡ place → Stands a g d place th room s →
    Reaches a.code (Alone th room) (Alone (backward k th) room) × Stands a g d to (backward k th) room s
back_to a g d place to k rest s th room lt c e h =
    let ends : place + suc (length rest) ≤ length a.code = code_ends a.code place (Again k ∷ rest) c in
    let p : (th.place + (2 ^ 64 - k)) % 2 ^ 64 ≡ to =
    ap (λ p. (p + (2 ^ 64 - k)) % 2 ^ 64) h.place_is ∙ backward_place place k to e (omega arith) in (
      goes_to a.code (Again k) th (backward k th) room (ap (slice_get a.code) h.place_is ∙ code_here a.code place (Again k) rest c) refl,
      stands_moved a g d place to ((th.place + (2 ^ 64 - k)) % 2 ^ 64) th room s h p,
    )

-- the same since a memory
pub back_since : (a : Ground) (g : Scope) (d place to k : ℕ) (m : Memory) (rest : List Instruction) (s : State) (st : Stage) → length a.code < 2 ^ 32 →
    CodeAt a.code place (Again k ∷ rest) → to + k ≡ place → Since a g d place m s st → (st' : Stage) × Reaches a.code st st' × Since a g d to m s st'
back_since a g d place to k m rest s st lt c e h =
    let z = back_to a g d place to k rest s h.th h.room lt c e h.stands in (
      Alone (backward k h.th) h.room,
      subst (λ x. Reaches a.code x (Alone (backward k h.th) h.room)) (sym h.alone) z.0,
      record {
        th = backward k h.th;
        room = h.room;
        alone = refl;
        stands = z.1;
        spared = h.spared;
      },
    )

-- an end with unit
pub unit_since : (a : Ground) (g : Scope) (d place : ℕ) (m : Memory) (s : State) (st : Stage) → Since a g d place m s st →
    Arrived a g d (Some (plain UnitTy)) place m UnitVal s st
unit_since a g d place m s st h = record {
  th = h.th;
  room = h.room;
  alone = h.alone;
  stands = h.stands;
  value = record { is = plain UnitTy; has = refl; shape = refl; cells = tt };
  spared = h.spared;
}
