-- Loops of so many turns.
use Rattle.std.proofs.Common.{◌≡◌, ℕ, zero, suc, ◌+◌, ◌<◌, ◌≤◌, ◌^◌, ℤ, pos, negsuc, List, [], ◌∷◌, ◌++◌, Some, None, length, slice_get, slice_index_or, ap, sym, subst, refl, ◌∙◌, arith, inr, length-append}
use Rattle.zir_tree.specs.declared.place.Place.{Place}
use Rattle.zir_tree.specs.declared.types.Base.TheVariants.{Unit as UnitTy, Int32}
use Rattle.zir_tree.specs.declared.value.Val.{Val, Num}
use Rattle.zir_tree.specs.declared.expr.Expr.{Expr}
use Rattle.zir_tree.specs.declared.comp.Comp.{Comp, Times', more_of-Comp, end_of-Comp}
use Rattle.zir_meaning.specs.Values.{num_of}
use Rattle.zir_meaning.specs.Trace.{State}
use Rattle.zir_meaning.specs.Statements.{turns_of, leave}
use Rattle.zir_meaning.specs.Instances.{around}
use Rattle.zir_laws.specs.Process.{Proc, counted_proc, tick_proc, proc}
use Rattle.zir_shapes.specs.Offsets.{plain_type as plain}
use Rattle.zir_expr.specs.Memory.{cell_at, put_cell, after, from_base}
use Rattle.zir_expr.specs.Memory.Frames.{Memory}
use Rattle.zir_code.specs.Scopes.{Scope}
use Rattle.zir_code.specs.Coding.{stands, code_of, settling}
use Rattle.zir_code.specs.Holding.{Outside, Spares, StandsAt}
use Rattle.zir_code.proofs.Kept.{low_place, Changed, changed_cell, cell_written}
use Rattle.zir_code.proofs.Stores.{hold_length}
use Rattle.zir_code.proofs.Operating.{cell_from}
use Rattle.zir_flow.specs.declared.instruction.Instruction.{Instruction}
use Rattle.zir_flow.specs.declared.instruction.Instruction.TheVariants.{Run, Tick, Again, Turn}
use Rattle.zir_flow.specs.Threads.{Thread, Goes, onward, backward, next_with, turn_of}
use Rattle.zir_flow.specs.Stages.{Stage, Alone, Room}
use Rattle.zir_flow.specs.Flowing.{flow_code}
use Rattle.zir_flow.specs.Playing.{Watch}
use Rattle.zir_flow.specs.Program.{CodeAt}
use Rattle.zir_flow.proofs.Reaching.{Reaches}
use Rattle.zir_flow.proofs.Playing.{Arriving, Arrives, arrives_on}
use Rattle.zir_flow.proofs.Standing.{Ground, Stands, Arrived, watched, ComponentArrives}
use Rattle.zir_flow.proofs.Straight.{code_here, code_front, code_back, code_next, code_ends, onward_place, goes_to, spares_then, spares_kept, spares_changed, stands_changed, stands_moved, stands_more, settled_arrives, ticked_state, ticked_thread, tick_arrives}
use Rattle.zir_flow.proofs.Rounds.{counts_arrive, Since, back_to, unit_since}
use Rattle.zir_flow.proofs.Within.{outside_order, within_more, stands_left, inner_arrives}

-- where a thread stands since a memory, and what holds of its own memory
pub record Counting (a : Ground) (g : Scope) (d place : ℕ) (m : Memory) (P : Memory → Type 0) (s : State) (st : Stage) : Type 0 where
  pub th : Thread
  pub room : Room
  pub alone : st ≡ Alone th room
  pub stands : Stands a g d place th room s
  pub spared : Spares a.top a.base d g m th.memory
  pub so : P th.memory

-- so many turns are left in a cell
abbrev pub Left : ℕ → ℕ → ℕ → Memory → Type 0
Left base c k m = turns_of (cell_at (from_base base c) m) ≡ k

-- a number in its cell
pub number_from : (g : Scope) (m : Memory) (i : ℕ) (v : Val) → StandsAt g.structs (plain Int32) v m i → v ≡ Num (cell_at i m)
number_from g m i v st = cell_from g.structs m.cells i Int32 v (inr (inr tt)) st.shape st.cells

-- a free cell is written
pub free_written : (base c n : ℕ) (m : Memory) (x : ℤ) → base + n ≤ length m.cells → length m.cells < 2 ^ 63 → c < n →
    Changed (base + c) (base + c + 1) m (put_cell (from_base base c) x m)
free_written base c n m x room small lt =
    subst (λ i. Changed i (i + 1) m (put_cell (from_base base c) x m)) (low_place base c (omega arith)) (changed_cell (from_base base c) x m)

-- and is what was written
pub free_is : (base c n : ℕ) (m : Memory) (x : ℤ) → base + n ≤ length m.cells → length m.cells < 2 ^ 63 → c < n →
    cell_at (from_base base c) (put_cell (from_base base c) x m) ≡ x
free_is base c n m x room small lt =
    let q : from_base base c ≡ base + c = low_place base c (omega arith) in cell_written (from_base base c) x m (omega arith)

-- no turn is left
turn_over : (x : ℤ) (i k : ℕ) (th : Thread) → turns_of x ≡ 0 → turn_of x i k th ≡ Goes (onward k th)
turn_over (pos zero) i k th e = refl
turn_over (pos (suc n)) i k th e = cc
turn_over (negsuc n) i k th e = refl

-- one more turn
turn_more : (x : ℤ) (n i k : ℕ) (th : Thread) → turns_of x ≡ suc n → turn_of x i k th ≡ Goes (next_with th (put_cell i (pos n) th.memory))
turn_more (pos zero) n i k th e = cc
turn_more (pos (suc j)) n i k th e = let same : j ≡ n = cc in ap (λ j. Goes (next_with th (put_cell i (pos j) th.memory))) same
turn_more (negsuc j) n i k th e = cc

-- behind the last turn
pub over_since : (a : Ground) (g : Scope) (d place c k : ℕ) (m : Memory) (rest : List Instruction) (s : State) (th : Thread) (room : Room) →
    place + 1 + k < 2 ^ 64 → CodeAt a.code place (Turn c k ∷ rest) → Left a.base c 0 th.memory → Stands a g d place th room s →
    Spares a.top a.base d g m th.memory → (st' : Stage) × Reaches a.code (Alone th room) st' × Since a g d (place + 1 + k) m s st'
over_since a g d place c k m rest s th room lt at e h p =
    let th' : Thread = onward k th in
    let q : turns_of (cell_at (from_base th.base c) th.memory) ≡ 0 = ap (λ base. turns_of (cell_at (from_base base c) th.memory)) h.base_is ∙ e in (
      Alone th' room,
      goes_to a.code (Turn c k) th th' room (ap (slice_get a.code) h.place_is ∙ code_here a.code place (Turn c k) rest at)
          (turn_over (cell_at (from_base th.base c) th.memory) (from_base th.base c) k th q),
      record {
        th = th';
        room = room;
        alone = refl;
        stands = stands_moved a g d place (place + 1 + k) th'.place th room s h
            (ap (λ p. from_base (after p) k) h.place_is ∙ onward_place place k lt);
        spared = p;
      },
    )

-- a turn and its tick, and what follows
pub turn_ticks : (A : Arriving) (w : Watch) (a : Ground) (g : Scope) (d place c k n : ℕ) (m : Memory) (rest : List Instruction) (s : State) (th : Thread)
    (room : Room) (next : State → Proc) → d ≤ c → c < a.n → length a.code < 2 ^ 32 → CodeAt a.code place (Turn c k ∷ Tick ∷ rest) →
    Left a.base c (suc n) th.memory → Stands a g d place th room s → Spares a.top a.base d g m th.memory →
    ((l : ℕ) (th' : Thread) → th'.memory.cells ≡ (put_cell (from_base a.base c) (pos n) th.memory).cells →
    Stands a g d (place + 1 + 1) th' room (ticked_state s l) → Spares a.top a.base d g m th'.memory →
    Arrives A w a.code (next (ticked_state s l)) (Alone th' room)) →
    Arrives A w a.code (tick_proc s next) (Alone th room)
turn_ticks A w a g d place c k n m rest s th room next low lt small at e h p f =
    let m1 : Memory = th.memory in
    let room_fits : a.base + a.n ≤ length m1.cells = h.held.room in
    let few : length m1.cells < 2 ^ 63 = h.held.small in
    let m2 : Memory = put_cell (from_base a.base c) (pos n) m1 in
    let th' : Thread = next_with th m2 in
    let ends : place + suc (suc (length rest)) ≤ length a.code = code_ends a.code place (Turn c k ∷ Tick ∷ rest) at in
    let changed = free_written a.base c a.n m1 (pos n) room_fits few lt in
    let q : turns_of (cell_at (from_base th.base c) m1) ≡ suc n = ap (λ base. turns_of (cell_at (from_base base c) m1)) h.base_is ∙ e in
    let goes : turn_of (cell_at (from_base th.base c) m1) (from_base th.base c) k th ≡ Goes th' =
    turn_more (cell_at (from_base th.base c) m1) n (from_base th.base c) k th q
    ∙ ap (λ base. Goes (next_with th (put_cell (from_base base c) (pos n) m1))) h.base_is in
    let h2 = stands_changed a g d place (a.base + c) (a.base + c + 1) th room s m2 (omega arith) (omega arith) h changed in
    let p2 = spares_then a.top a.base d g m m1 m2 p (spares_changed a.top a.base d (a.base + c) (a.base + c + 1) g m1 m2 (omega arith) changed) in
    arrives_on A w a.code (tick_proc s next) (Alone th room) (Alone th' room)
    (goes_to a.code (Turn c k) th th' room (ap (slice_get a.code) h.place_is ∙ code_here a.code place (Turn c k) (Tick ∷ rest) at) goes)
    (tick_arrives A w a g d (place + 1) rest th' room s next small (code_next a.code place (Turn c k) (Tick ∷ rest) at) h2
    (λ l e' h3. f l (ticked_thread th') refl h3 p2))

-- a cell behind the variables is as it was
pub spared_cell : (a : Ground) (g : Scope) (d' c : ℕ) (m m' : Memory) → a.top ≤ a.base → a.base + c < 2 ^ 64 → c < d' →
    ((i : ℕ) → i ≡ a.base + c → Outside a.base g.locals i) → Spares a.top a.base d' g m m' → cell_at (from_base a.base c) m' ≡ cell_at (from_base a.base c) m
spared_cell a g d' c m m' apart fit lt out p =
    let q : from_base a.base c ≡ a.base + c = low_place a.base c fit in
    p (from_base a.base c) (omega arith) (omega arith) (out (from_base a.base c) q)

-- a loop of so many turns
pub times_arrives : (a : Ground) (e : Expr) (c : Comp) (p : Place) → ComponentArrives a c → ComponentArrives a (Times' e _ (more_of-Comp c end_of-Comp) p)
times_arrives a e c p arrives g input out d place th room s solid flows at deep covers h =
    let body : List Instruction = flow_code a.st g input (d + 1) c in
    let m : Memory = th.memory in
    let n : ℕ = length body in
    let last : List Instruction = Again (n + 2) ∷ [] in
    let first : Instruction = Run (code_of g e d ++ settling (stands g e d) d 1) in
    let turn : Instruction = Turn d (n + 2) in
    let whole : List Instruction = first ∷ turn ∷ Tick ∷ (body ++ last) in
    let w : Watch = watched a g d input out m in
    let size : length (body ++ last) ≡ n + 1 = length-append body last in
    let ends : place + length whole ≤ length a.code = code_ends a.code place whole at in
    let small : length a.code < 2 ^ 32 = solid.small in
    let cells : a.base + a.n ≤ length m.cells = h.held.room in
    let few : length m.cells < 2 ^ 63 = h.held.small in
    let fits : d + 1 ≤ a.n = flows.1 in
    let at1 = code_next a.code place first (turn ∷ Tick ∷ (body ++ last)) at in
    let at2 = code_next a.code (place + 1) turn (Tick ∷ (body ++ last)) at1 in
    let at3 = code_next a.code (place + 1 + 1) Tick (body ++ last) at2 in
    let inside = code_front a.code (place + 1 + 1 + 1) body last at3 in
    let back = code_back a.code (place + 1 + 1 + 1) body last at3 in
    let to : place + 1 + (n + 2) ≡ place + 1 + 1 + 1 + n = omega arith in
    let end : place + 1 + 1 + (n + 2) ≡ place + length whole = omega arith in
    let A : Arriving = Arrived a g d (Some (plain UnitTy)) (place + 1 + 1 + (n + 2)) m in
    let I = (λ (q k : ℕ) (i : ℤ) (s' : State) (st' : Stage). Counting a g d q m (Left a.base d k) s' st') in
    let behind : ℕ = place + 1 + 1 + 1 + n in
    let within = within_more a g d (d + 1) (omega arith) in
    let names : ℕ = length g.locals in
    subst (λ q. Arrives (Arrived a g d (Some (plain UnitTy)) q m) w a.code
    (proc (around a.core) a.procs (Times' e _ (more_of-Comp c end_of-Comp) p) s) (Alone th room)) end
    (settled_arrives A w a g d place (plain Int32) e (turn ∷ Tick ∷ (body ++ last)) th room s
    (λ v s'. counted_proc (turns_of (num_of v)) None (pos 0) (proc (around a.core) a.procs c) s') solid flows.0 at h
    (λ v s1 m1 st kept h1.
    let is : v ≡ Num (cell_at (from_base a.base d) m1) = number_from g m1 (from_base a.base d) v st in
    counts_arrive (turns_of (num_of v)) (pos 0) A (λ k i v' s' st'. I behind k i (leave names s') st') w a.code names (I (place + 1)) (I (place + 1 + 1 + 1))
    None (proc (around a.core) a.procs c) s1 (Alone (next_with th m1) room)
    (record {
      names_are = λ k i s' st' z. hold_length g.structs z.th.memory.cells a.base g.locals s'.store.locals z.stands.held.locals;
      over = λ i s' st' z.
          (let y = over_since a g d (place + 1) d (n + 2) m (Tick ∷ (body ++ last)) s' z.th z.room (omega arith) at1 z.so z.stands z.spared in
          (y.0, subst (λ x. Reaches a.code x y.0) (sym z.alone) y.1, unit_since a g d (place + 1 + 1 + (n + 2)) m s' y.0 y.2));
      ticks = λ k i s' st' next z f.
          subst (Arrives A w a.code (tick_proc s' next)) (sym z.alone)
          (turn_ticks A w a g d (place + 1) d (n + 2) k m (body ++ last) s' z.th z.room next (omega arith) (omega arith) small at1 z.so z.stands z.spared
          (λ l th' same h' p'. f l (Alone th' z.room) (record {
            th = th';
            room = z.room;
            alone = refl;
            stands = h';
            spared = p';
            so = ap turns_of (ap (λ cells. slice_index_or cells (from_base a.base d) (pos 0)) same
                ∙ free_is a.base d a.n z.th.memory (pos k) z.stands.held.room z.stands.held.small (omega arith));
          })));
      turns = λ k i s' st' z.
          subst (Arrives (λ v' s2 st2. I behind k i (leave names s2) st2) w a.code (proc (around a.core) a.procs c s')) (sym z.alone)
          (inner_arrives (λ v' s2 st2. I behind k i (leave names s2) st2) a g g input out d (d + 1) (place + 1 + 1 + 1) m c z.th z.room s' arrives within solid
          flows.2 inside deep covers (stands_more a g d (d + 1) (place + 1 + 1 + 1) z.th z.room s' (omega arith) z.stands) z.spared
          (λ v' s2 st2 y. record {
            th = y.th;
            room = y.room;
            alone = y.alone;
            stands = stands_left a g g d (d + 1) behind y.th y.room s2 within h.held.tops_in h.held.locals_in y.stands;
            spared = spares_then a.top a.base d g m z.th.memory y.th.memory z.spared (within.spares z.th.memory y.th.memory y.spared);
            so = ap turns_of (spared_cell a g (d + 1) d z.th.memory y.th.memory h.held.apart (omega arith) (omega arith)
                (λ j q. outside_order a.base a.base (a.base + d) g.locals j h.held.locals_in (omega arith)) y.spared) ∙ z.so;
          }));
      again = λ k i v' s' st' z.
          (let y = back_to a g d behind (place + 1) (n + 2) [] (leave names s') z.th z.room small back to z.stands in (
            Alone (backward (n + 2) z.th) z.room,
            subst (λ x. Reaches a.code x (Alone (backward (n + 2) z.th) z.room)) (sym z.alone) y.0,
            record {
              th = backward (n + 2) z.th;
              room = z.room;
              alone = refl;
              stands = y.1;
              spared = z.spared;
              so = z.so;
            },
          ));
    })
    (record {
      th = next_with th m1;
      room = room;
      alone = refl;
      stands = h1;
      spared = spares_kept a.top a.base d g m m1 s s1 kept;
      so = ap (λ (v : Val). turns_of (num_of v)) (sym is);
    })))
