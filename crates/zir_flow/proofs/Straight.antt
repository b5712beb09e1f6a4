-- Code at a place, straight code and ticks, and where a thread then stands.
use Rattle.std.proofs.Common.{◌≡◌, ℕ, zero, suc, ◌+◌, ◌-◌, ◌%◌, ◌^◌, ◌<◌, ◌≤◌, ℤ, ◌⊎◌, List, [], ◌∷◌, ◌++◌, Bool, true, false, Option, Some, length, take, slice_get, nat_lt, ap, sym, subst, refl, ◌∙◌, arith, length-append, append_assoc, take_all, inl, inr}
use Rattle.zir_tree.specs.declared.value.Val.{Val}
use Rattle.zir_tree.specs.declared.value.Slot.{Slot}
use Rattle.zir_tree.specs.declared.types.Ty.{Ty}
use Rattle.zir_tree.specs.declared.types.StructDef.{StructDef}
use Rattle.zir_tree.specs.declared.ends.End.TheVariants.{Value, Trap as TrapEnd}
use Rattle.zir_tree.specs.declared.expr.Expr.{Expr}
use Rattle.zir_tree.specs.declared.program.Core.{Core}
use Rattle.zir_meaning.specs.Trace.{State, point}
use Rattle.zir_meaning.specs.Evaluation.{Eval, Got, Traps, RunsOut, Library, ev}
use Rattle.zir_meaning.specs.Instances.{around}
use Rattle.zir_cells.specs.Cells.{cells_of}
use Rattle.zir_laws.specs.Process.{Proc, Ends, NextProc, with_proc, tick_proc, tick_proc_of, spent_proc}
use Rattle.zir_laws.proofs.Evaluating.{EvalKeeps}
use Rattle.zir_laws.proofs.Expressions.{evaluates-ev}
use Rattle.zir_laws.proofs.Functions.{evaluates-library}
use Rattle.zir_shapes.specs.Shapes.{Shaped}
use Rattle.zir_expr.specs.declared.frame.Spot.{Spot}
use Rattle.zir_expr.specs.declared.frame.Spot.TheVariants.{Local}
use Rattle.zir_expr.specs.declared.steps.Step.{Step}
use Rattle.zir_expr.specs.Memory.{Ran, Done, Trapped, Out, then_run, after, from_base, place_of, tick_if, ticked}
use Rattle.zir_expr.specs.Memory.Frames.{Memory}
use Rattle.zir_expr.specs.Running.{go_all}
use Rattle.zir_code.specs.declared.scope.Holder.{Holder}
use Rattle.zir_code.specs.Scopes.{Scope}
use Rattle.zir_code.specs.Types.{cells_for, size_in}
use Rattle.zir_code.specs.Coding.{stands, code_of, settling}
use Rattle.zir_code.specs.Peaks.{peak_of}
use Rattle.zir_code.specs.Typing.{Has}
use Rattle.zir_code.specs.Fine.{Fits}
use Rattle.zir_code.specs.Calls.{Calls}
use Rattle.zir_code.specs.Laws.{ExpressionsAgree}
use Rattle.zir_code.specs.Holding.{At, Hold, InOrder, Holds, Spares, Kept, StandsAt, Ends as EndsAs, Agrees}
use Rattle.zir_code.proofs.Kept.{low_place, kept_holds, holds_kept, holds_more, kept_changed, Changed}
use Rattle.zir_code.proofs.Calls.{no_tick, a_tick}
use Rattle.zir_code.proofs.Agreeing.{go_all-append, ends_more}
use Rattle.zir_code.proofs.Moves.{settles}
use Rattle.zir_code.proofs.Places.{placed}
use Rattle.zir_code.proofs.Room.{value_room}
use Rattle.zir_code.proofs.Simulation.{coded}
use Rattle.zir_code.proofs.TypesFound.{types_are_found}
use Rattle.zir_code.proofs.Stores.{hold_length}
use Rattle.zir_flow.specs.declared.instruction.Instruction.{Instruction}
use Rattle.zir_flow.specs.declared.instruction.Instruction.TheVariants.{Run, Tick}
use Rattle.zir_flow.specs.Threads.{Thread, Goes, after_steps, moved_by, move_if, next_with}
use Rattle.zir_flow.specs.Stages.{Stage, Alone, Room, Closed, Open, Gone, turn, turned_by}
use Rattle.zir_flow.specs.Kinds.{Shape, Flat, Split}
use Rattle.zir_flow.specs.Fitting.{RoomFits, widest}
use Rattle.zir_flow.specs.Playing.{Watch, PointIs}
use Rattle.zir_flow.specs.Program.{CodeAt}
use Rattle.zir_flow.specs.Laws.{HoldsStore}
use Rattle.zir_flow.proofs.Reaching.{Reaches, one_turn, stays, comes_next}
use Rattle.zir_flow.proofs.Playing.{Arriving, Arrives, arrives_on}
use Rattle.zir_flow.proofs.Standing.{Ground, Covers, Stands, HoldsKept, Arrived, Solid}

-- CODE AT A PLACE

get_behind : {A : Type 0} (xs : List A) (y : A) (ys : List A) → slice_get (xs ++ (y ∷ ys)) (length xs) ≡ Some y
get_behind {A} [] y ys = refl
get_behind {A} (x ∷ xs) y ys = get_behind xs y ys

-- the instruction at a place
pub code_here : (code : List Instruction) (place : ℕ) (i : Instruction) (rest : List Instruction) → CodeAt code place (i ∷ rest) →
    slice_get code place ≡ Some i
code_here code place i rest c =
    let tail : List Instruction = rest ++ c.after in
    ap (λ xs. slice_get xs place) c.split ∙ ap (slice_get (c.before ++ (i ∷ tail))) (sym c.is) ∙ get_behind c.before i tail

-- the front of code
pub code_front : (code : List Instruction) (place : ℕ) (xs ys : List Instruction) → CodeAt code place (xs ++ ys) → CodeAt code place xs
code_front code place xs ys c =
    record { before = c.before; after = ys ++ c.after; split = c.split ∙ ap (λ zs. c.before ++ zs) (append_assoc xs ys c.after); is = c.is }

-- and what is behind it
pub code_back : (code : List Instruction) (place : ℕ) (xs ys : List Instruction) → CodeAt code place (xs ++ ys) → CodeAt code (place + length xs) ys
code_back code place xs ys c = record {
  before = c.before ++ xs;
  after = c.after;
  split = c.split ∙ ap (λ zs. c.before ++ zs) (append_assoc xs ys c.after) ∙ sym (append_assoc c.before xs (ys ++ c.after));
  is = length-append c.before xs ∙ ap (λ k. k + length xs) c.is;
}

-- the code behind an instruction
pub code_next : (code : List Instruction) (place : ℕ) (i : Instruction) (rest : List Instruction) → CodeAt code place (i ∷ rest) →
    CodeAt code (place + 1) rest
code_next code place i rest c = code_back code place (i ∷ []) rest c

-- code ends in the code
pub code_ends : (code : List Instruction) (place : ℕ) (part : List Instruction) → CodeAt code place part → place + length part ≤ length code
code_ends code place part c =
    let e : length code ≡ length c.before + length (part ++ c.after) = ap length c.split ∙ length-append c.before (part ++ c.after) in
    let f : length (part ++ c.after) ≡ length part + length c.after = length-append part c.after in
    let g : length c.before ≡ place = c.is in
    omega arith

-- PLACES

-- the place so many instructions behind the next one
pub onward_place : (place k : ℕ) → place + 1 + k < 2 ^ 64 → from_base (after place) k ≡ place + 1 + k
onward_place place k h =
    let e : after place ≡ place + 1 = omega arith in ap (λ p. from_base p k) e ∙ low_place (place + 1) k h

-- the next place
pub next_place : (place : ℕ) → place + 1 < 2 ^ 64 → from_base (after place) 0 ≡ place + 1
next_place place h = let e : place + 1 + 0 ≡ place + 1 = omega arith in onward_place place 0 (omega arith) ∙ e

-- the place so many instructions back
pub backward_place : (place k to : ℕ) → to + k ≡ place → place < 2 ^ 32 → (place + (2 ^ 64 - k)) % 2 ^ 64 ≡ to
backward_place place k to e h = omega arith

-- TURNS

-- what a thread does at an instruction
pub turn_at : (code : List Instruction) (i : Instruction) (th : Thread) (room : Room) → slice_get code th.place ≡ Some i →
    turn code (Alone th room) ≡ turned_by (moved_by i th) room
turn_at code i th room e = ap (λ o. turned_by (move_if o th) room) e

-- it goes on
pub goes_to : (code : List Instruction) (i : Instruction) (th th' : Thread) (room : Room) → slice_get code th.place ≡ Some i → moved_by i th ≡ Goes th' →
    Reaches code (Alone th room) (Alone th' room)
goes_to code i th th' room e q = one_turn code (Alone th room) (Alone th' room) (turn_at code i th room e ∙ ap (λ mv. turned_by mv room) q)

-- CELLS THAT STAY

pub spares_none : (top base d : ℕ) (g : Scope) (m : Memory) → Spares top base d g m m
spares_none top base d g m i a b o = refl

pub spares_then : (top base d : ℕ) (g : Scope) (m m1 m2 : Memory) → Spares top base d g m m1 → Spares top base d g m1 m2 → Spares top base d g m m2
spares_then top base d g m m1 m2 p q i a b o = q i a b o ∙ p i a b o

-- fewer cells
pub spares_less : (top base d d' : ℕ) (g : Scope) (m m' : Memory) → d ≤ d' → Spares top base d' g m m' → Spares top base d g m m'
spares_less top base d d' g m m' le p i a b o = p i a (omega arith) o

-- what code keeps
pub spares_kept : (top base d : ℕ) (g : Scope) (m m' : Memory) (s s' : State) → Kept top base d g m m' s s' → Spares top base d g m m'
spares_kept top base d g m m' s s' k i a b o = k.same i a b

-- a change of free cells
pub spares_changed : (top base d low high : ℕ) (g : Scope) (m m' : Memory) → base + d ≤ low → Changed low high m m' → Spares top base d g m m'
spares_changed top base d low high g m m' le c i a b o = c.others i (inl (omega arith))

-- WHERE A THREAD STANDS

-- behind an instruction that leaves another memory
pub stands_next : (a : Ground) (g : Scope) (d d' place : ℕ) (th : Thread) (room : Room) (s s' : State) (m : Memory) → place + 1 < 2 ^ 64 →
    Stands a g d place th room s → Holds a.top a.base d' a.n g m s' → length m.cells ≡ length th.memory.cells → s'.taken ≡ s.taken →
    Stands a g d' (place + 1) (next_with th m) room s'
stands_next a g d d' place th room s s' m lt h held size taken = record {
  held = held;
  place_is = ap (λ p. from_base (after p) 0) h.place_is ∙ next_place place lt;
  base_is = h.base_is;
  calls_are = h.calls_are;
  deep_is = h.deep_is;
  taken = h.taken ∙ ap (λ k. k % 2 ^ 64) (sym taken);
  size_is = size ∙ h.size_is;
  room_fits = h.room_fits;
}

-- behind code that keeps the cells before the free ones
pub stands_kept : (a : Ground) (g : Scope) (d place : ℕ) (th : Thread) (room : Room) (s s' : State) (m : Memory) → place + 1 < 2 ^ 64 →
    Stands a g d place th room s → Kept a.top a.base d g th.memory m s s' → s'.taken ≡ s.taken → Stands a g d (place + 1) (next_with th m) room s'
stands_kept a g d place th room s s' m lt h k taken =
    stands_next a g d d place th room s s' m lt h (kept_holds a.top a.base d d a.n g th.memory m s s' (omega arith) h.held k) k.size taken

-- behind a change of free cells
pub stands_changed : (a : Ground) (g : Scope) (d place low high : ℕ) (th : Thread) (room : Room) (s : State) (m : Memory) → place + 1 < 2 ^ 64 →
    a.base + d ≤ low → Stands a g d place th room s → Changed low high th.memory m → Stands a g d (place + 1) (next_with th m) room s
stands_changed a g d place low high th room s m lt le h c =
    stands_kept a g d place th room s s m lt h
    (kept_changed a.top a.base d low high g th.memory th.memory m s s h.held.apart le (holds_kept a.top a.base d d a.n g th.memory s h.held) c) refl

-- at another place
pub stands_moved : (a : Ground) (g : Scope) (d place place' p : ℕ) (th : Thread) (room : Room) (s : State) → Stands a g d place th room s → p ≡ place' →
    Stands a g d place' (record th { place = p }) room s
stands_moved a g d place place' p th room s h e = record {
  held = h.held;
  place_is = e;
  base_is = h.base_is;
  calls_are = h.calls_are;
  deep_is = h.deep_is;
  taken = h.taken;
  size_is = h.size_is;
  room_fits = h.room_fits;
}

-- with more cells in use
pub stands_more : (a : Ground) (g : Scope) (d d' place : ℕ) (th : Thread) (room : Room) (s : State) → d ≤ d' → Stands a g d place th room s →
    Stands a g d' place th room s
stands_more a g d d' place th room s le h = record {
  held = holds_more a.top a.base d d' a.n g th.memory s le h.held;
  place_is = h.place_is;
  base_is = h.base_is;
  calls_are = h.calls_are;
  deep_is = h.deep_is;
  taken = h.taken;
  size_is = h.size_is;
  room_fits = h.room_fits;
}

-- with fewer, where the names in scope stand before them
pub stands_fewer : (a : Ground) (g : Scope) (d d' place : ℕ) (th : Thread) (room : Room) (s : State) → InOrder a.base a.base (a.base + d) g.locals →
    Stands a g d' place th room s → Stands a g d place th room s
stands_fewer a g d d' place th room s o h = record {
  held = record {
    tops = h.held.tops;
    locals = h.held.locals;
    tops_in = h.held.tops_in;
    locals_in = o;
    used = h.held.used;
    limit = h.held.limit;
    apart = h.held.apart;
    room = h.held.room;
    small = h.held.small;
  };
  place_is = h.place_is;
  base_is = h.base_is;
  calls_are = h.calls_are;
  deep_is = h.deep_is;
  taken = h.taken;
  size_is = h.size_is;
  room_fits = h.room_fits;
}

-- the names in the store are those in scope
pub locals_all : (structs : List StructDef) (cells : List ℤ) (base : ℕ) (ds : List Holder) (slots : List Slot) → Hold structs cells base ds slots →
    take (length ds) slots ≡ slots
locals_all structs cells base ds slots h =
    let e : length slots ≡ length ds = hold_length structs cells base ds slots h in take_all (length ds) slots (omega arith)

-- what the cells hold of the store where a thread stands
pub holds_store : (a : Ground) (g : Scope) (d place : ℕ) (th : Thread) (room : Room) (s : State) → Stands a g d place th room s →
    HoldsStore a.top a.base a.size g a.shape (Alone th room) s.store
holds_store a g d place th room s h = record {
  tops = h.held.tops;
  locals = subst (Hold g.structs th.memory.cells a.base g.locals)
      (sym (locals_all g.structs th.memory.cells a.base g.locals s.store.locals h.held.locals)) h.held.locals;
  size_is = h.size_is;
  room = h.room_fits;
}

-- what is seen of it since a memory
pub held_since : (a : Ground) (g : Scope) (d d' place : ℕ) (m : Memory) (th : Thread) (room : Room) (s : State) → Stands a g d' place th room s →
    Spares a.top a.base d g m th.memory → HoldsKept a g d m (Alone th room) s.store
held_since a g d d' place m th room s h p = record { held = holds_store a g d' place th room s h; spared = p }

-- a component has ended with a value, which stands in the first free cells
pub arrived : (a : Ground) (g : Scope) (d place : ℕ) (ty : Option Ty) (is : Ty) (v : Val) (m : Memory) (th : Thread) (room : Room) (s : State) → ty ≡ Some is →
    Stands a g d place th room s → Shaped g.structs is v → At th.memory.cells (from_base a.base d) (cells_of v) → Spares a.top a.base d g m th.memory →
    Arrived a g d ty place m v s (Alone th room)
arrived a g d place ty is v m th room s e h f c p = record {
  th = th;
  room = room;
  alone = refl;
  stands = h;
  value = record { is = is; has = e; shape = f; cells = c };
  spared = p;
}

-- a component that has ended where its code ends
pub ends_at : (a : Ground) (g : Scope) (d place : ℕ) (ty : Option Ty) (m : Memory) (w : Watch) (v : Val) (s : State) (st : Stage) →
    Arrived a g d ty place m v s st → Arrives (Arrived a g d ty place m) w a.code (Ends (Value v) s) st
ends_at a g d place ty m w v s st h = (st, stays a.code st, h)

-- STRAIGHT CODE

-- where straight code ends a process goes on, from the next instruction, or with its trap, or with no tick left
abbrev pub RanArrives : Arriving → Watch → List Instruction → Thread → Room → Proc → Ran → Type 0
RanArrives A w code th room p (Done m) = Arrives A w code p (Alone (next_with th m) room)
RanArrives A w code th room p (Trapped t m) = (s : State) × (p ≡ Ends (TrapEnd t) s) × PointIs (point s) th.taken m.used
RanArrives A w code th room p Out = p ≡ spent_proc

ran_arrives : (A : Arriving) (w : Watch) (code : List Instruction) (th : Thread) (room : Room) (p : Proc) (q : Ran) →
    turn code (Alone th room) ≡ turned_by (after_steps q (λ m. Goes (next_with th m)) th) room → RanArrives A w code th room p q →
    Arrives A w code p (Alone th room)
ran_arrives A w code th room p (Done m) e h = arrives_on A w code p (Alone th room) (Alone (next_with th m) room) (one_turn code _ _ e) h
ran_arrives A w code th room p (Trapped t m) e h = subst (λ p. Arrives A w code p (Alone th room)) (sym h.1) (record {
  taken = th.taken;
  ticks = m.used;
  last = Alone (record th { memory = m }) room;
  comes = comes_next code (Alone th room) _ e refl;
  at = h.2;
})
ran_arrives A w code th room p Out e h = subst (λ p. Arrives A w code p (Alone th room)) (sym h) (comes_next code (Alone th room) Gone e refl)

-- straight code, and the process from where it ends
pub run_arrives : (A : Arriving) (w : Watch) (code : List Instruction) (steps : List Step) (th : Thread) (room : Room) (p : Proc) →
    slice_get code th.place ≡ Some (Run steps) → RanArrives A w code th room p (go_all steps th.base th.memory) → Arrives A w code p (Alone th room)
run_arrives A w code steps th room p e h =
    ran_arrives A w code th room p (go_all steps th.base th.memory) (turn_at code (Run steps) th room e) h

-- an evaluation that steps do, and then others that do what follows
pub ran_then : (P : Val → State → Memory → Type 0) (Q : State → Memory → Type 0) (A : Arriving) (w : Watch) (code : List Instruction) (th : Thread)
    (room : Room) (s : State) (r : Eval) (q : Ran) (next : NextProc) (next' : Memory → Ran) → th.taken ≡ s.taken % 2 ^ 64 → EvalKeeps s r →
    ((s' : State) (m : Memory) → Q s' m → m.used ≡ s'.ticks) → EndsAs P Q r q →
    ((v : Val) (s' : State) (m : Memory) → s'.taken ≡ s.taken → P v s' m → RanArrives A w code th room (next v s') (next' m)) →
    RanArrives A w code th room (with_proc r next) (then_run q next')
ran_then P Q A w code th room s (Got v s') (Done m) next next' e k u h f = f v s' m k.0 h
ran_then P Q A w code th room s (Got v s') (Trapped t m) next next' e k u h f = absurd h
ran_then P Q A w code th room s (Got v s') Out next next' e k u h f = absurd h
ran_then P Q A w code th room s (Traps t s') (Done m) next next' e k u h f = absurd h
ran_then P Q A w code th room s (Traps t s') (Trapped t' m) next next' e k u h f =
    (s', ap (λ t. Ends (TrapEnd t) s') h.0, record { elements = ap (λ n. n % 2 ^ 64) k.0 ∙ sym e; used = sym (u s' m h.1) })
ran_then P Q A w code th room s (Traps t s') Out next next' e k u h f = absurd h
ran_then P Q A w code th room s RunsOut (Done m) next next' e k u h f = absurd h
ran_then P Q A w code th room s RunsOut (Trapped t m) next next' e k u h f = absurd h
ran_then P Q A w code th room s RunsOut Out next next' e k u h f = refl

-- an evaluation that steps do, and what follows from where they end
pub ran_ends : (P : Val → State → Memory → Type 0) (Q : State → Memory → Type 0) (A : Arriving) (w : Watch) (code : List Instruction) (th : Thread)
    (room : Room) (s : State) (r : Eval) (q : Ran) (next : NextProc) → th.taken ≡ s.taken % 2 ^ 64 → EvalKeeps s r →
    ((s' : State) (m : Memory) → Q s' m → m.used ≡ s'.ticks) → EndsAs P Q r q →
    ((v : Val) (s' : State) (m : Memory) → s'.taken ≡ s.taken → P v s' m → Arrives A w code (next v s') (Alone (next_with th m) room)) →
    RanArrives A w code th room (with_proc r next) q
ran_ends P Q A w code th room s (Got v s') (Done m) next e k u h f = f v s' m k.0 h
ran_ends P Q A w code th room s (Got v s') (Trapped t m) next e k u h f = absurd h
ran_ends P Q A w code th room s (Got v s') Out next e k u h f = absurd h
ran_ends P Q A w code th room s (Traps t s') (Done m) next e k u h f = absurd h
ran_ends P Q A w code th room s (Traps t s') (Trapped t' m) next e k u h f =
    (s', ap (λ t. Ends (TrapEnd t) s') h.0, record { elements = ap (λ n. n % 2 ^ 64) k.0 ∙ sym e; used = sym (u s' m h.1) })
ran_ends P Q A w code th room s (Traps t s') Out next e k u h f = absurd h
ran_ends P Q A w code th room s RunsOut (Done m) next e k u h f = absurd h
ran_ends P Q A w code th room s RunsOut (Trapped t m) next e k u h f = absurd h
ran_ends P Q A w code th room s RunsOut Out next e k u h f = refl

-- an evaluation takes no element
pub ev_keeps : (core : Core) (e : Expr) (s : State) → EvalKeeps s (ev (around core).library e s)
ev_keeps core e s = (evaluates-ev (around core).library (evaluates-library core.structs core.functions) e).keeps s

-- the next place is one
pub place_fits : (code : List Instruction) (place : ℕ) (i : Instruction) (rest : List Instruction) → length code < 2 ^ 32 → CodeAt code place (i ∷ rest) →
    place + 1 < 2 ^ 64
place_fits code place i rest lt c = let e : place + suc (length rest) ≤ length code = code_ends code place (i ∷ rest) c in omega arith

-- straight code that does an evaluation and keeps the cells before the free ones, and what follows from the thread behind it
pub straight_arrives : (P : Val → State → Memory → Type 0) (A : Arriving) (w : Watch) (a : Ground) (g : Scope) (d place : ℕ) (steps : List Step)
    (rest : List Instruction) (th : Thread) (room : Room) (s : State) (r : Eval) (next : NextProc) → length a.code < 2 ^ 32 →
    CodeAt a.code place (Run steps ∷ rest) → Stands a g d place th room s → EvalKeeps s r →
    EndsAs (λ v s' m. P v s' m × Kept a.top a.base d g th.memory m s s') (λ s' m. Kept a.top a.base d g th.memory m s s') r (go_all steps a.base th.memory) →
    ((v : Val) (s' : State) (m : Memory) → P v s' m → Kept a.top a.base d g th.memory m s s' → Stands a g d (place + 1) (next_with th m) room s' →
    Arrives A w a.code (next v s') (Alone (next_with th m) room)) →
    Arrives A w a.code (with_proc r next) (Alone th room)
straight_arrives P A w a g d place steps rest th room s r next lt c h k e f =
    run_arrives A w a.code steps th room (with_proc r next) (ap (slice_get a.code) h.place_is ∙ code_here a.code place (Run steps) rest c)
    (subst (λ b. RanArrives A w a.code th room (with_proc r next) (go_all steps b th.memory)) (sym h.base_is)
    (ran_ends (λ v s' m. P v s' m × Kept a.top a.base d g th.memory m s s') (λ s' m. Kept a.top a.base d g th.memory m s s') A w a.code th room s r
    (go_all steps a.base th.memory) next h.taken k (λ s' m z. z.used) e
    (λ v s' m t z. f v s' m z.0 z.1 (stands_kept a g d place th room s s' m (place_fits a.code place (Run steps) rest lt c) h z.1 t))))

-- straight code that leaves no more than another memory, and what follows
pub steps_arrive : (A : Arriving) (w : Watch) (a : Ground) (g : Scope) (d place : ℕ) (steps : List Step) (rest : List Instruction) (th : Thread) (room : Room)
    (s : State) (m : Memory) (p : Proc) → CodeAt a.code place (Run steps ∷ rest) → Stands a g d place th room s → go_all steps a.base th.memory ≡ Done m →
    Arrives A w a.code p (Alone (next_with th m) room) → Arrives A w a.code p (Alone th room)
steps_arrive A w a g d place steps rest th room s m p c h e f =
    run_arrives A w a.code steps th room p (ap (slice_get a.code) h.place_is ∙ code_here a.code place (Run steps) rest c)
    (subst (RanArrives A w a.code th room p) (sym (ap (λ b. go_all steps b th.memory) h.base_is ∙ e)) f)

-- EXPRESSIONS

-- the law of expressions
pub expressions_agree : ExpressionsAgree
expressions_agree top base d n l g calls t e m s has room held = coded top base n l g calls t e d m s room has held

-- an expression has as many cells as its type
pub size_found : (g : Scope) (n : ℕ) (t : Ty) (e : Expr) → Has g n t e → size_in g e ≡ cells_for g t
size_found g n t e h = ap (cells_for g) (types_are_found g n t e h)

-- the code of an expression, whose value then goes to the first free cells
pub settled_agrees : (top base d n : ℕ) (l : Library) (g : Scope) (t : Ty) (e : Expr) (m : Memory) (s : State) → Calls top l g.structs g.tops g.funs →
    Fits g d n t e → Holds top base d n g m s →
    Agrees top base d g t (Local d) m s (ev l e s) (go_all (code_of g e d ++ settling (stands g e d) d (cells_for g t)) base m)
settled_agrees top base d n l g t e m s calls f h =
    let has : Has g n t e = f.0 in
    let peak : peak_of g e d ≤ n = f.1 in
    let fit : d + cells_for g t ≤ peak_of g e d = value_room g n t e d has in
    let room : base + n ≤ length m.cells = h.room in
    let small : length m.cells < 2 ^ 63 = h.small in
    let apart : top ≤ base = h.apart in
    let q : from_base base d ≡ base + d = low_place base d (omega arith) in
    let x : Spot = stands g e d in
    let moved' : List Step = settling x d (cells_for g t) in
    subst (λ q. Agrees top base d g t (Local d) m s (ev l e s) q) (sym (go_all-append (code_of g e d) moved' base m))
    (ends_more (λ v s' m'. StandsAt g.structs t v m' (place_of base x) × Kept top base d g m m' s s') (λ s' m'. Kept top base d g m m' s s')
    (λ v s' m'. StandsAt g.structs t v m' (place_of base (Local d)) × Kept top base d g m m' s s') (λ s' m'. Kept top base d g m m' s s')
    (ev l e s) (go_all (code_of g e d) base m) (go_all moved' base) (λ s' m' k. k) (expressions_agree top base d n l g calls t e m s has peak h)
    (λ v s1 m1 z.
    let w = settles top base d n g t v x m m1 s s1 apart (omega arith) room small z.1 z.0
    (placed top base d n d l g t e m s (omega arith) (omega arith) (omega arith) has h) in
    subst (λ q. Agrees top base d g t (Local d) m s (Got v s1) q) (sym w.is)
    (subst (StandsAt g.structs t v w.memory) (sym q) w.so.stands, w.so.kept)))

-- an expression, and what follows
pub expression_arrives : (A : Arriving) (w : Watch) (a : Ground) (g : Scope) (d place : ℕ) (t : Ty) (e : Expr) (rest : List Instruction) (th : Thread)
    (room : Room) (s : State) (next : NextProc) → Solid a g → Fits g d a.n t e → CodeAt a.code place (Run (code_of g e d) ∷ rest) →
    Stands a g d place th room s →
    ((v : Val) (s' : State) (m : Memory) → StandsAt g.structs t v m (place_of a.base (stands g e d)) → Kept a.top a.base d g th.memory m s s' →
    Stands a g d (place + 1) (next_with th m) room s' → Arrives A w a.code (next v s') (Alone (next_with th m) room)) →
    Arrives A w a.code (with_proc (ev (around a.core).library e s) next) (Alone th room)
expression_arrives A w a g d place t e rest th room s next solid f c h k =
    straight_arrives (λ v s' m. StandsAt g.structs t v m (place_of a.base (stands g e d))) A w a g d place (code_of g e d) rest th room s
    (ev (around a.core).library e s) next solid.small c h (ev_keeps a.core e s)
    (expressions_agree a.top a.base d a.n (around a.core).library g solid.functions t e th.memory s f.0 f.1 h.held) k

-- an expression whose value then goes to the first free cells, and what follows
pub settled_arrives : (A : Arriving) (w : Watch) (a : Ground) (g : Scope) (d place : ℕ) (t : Ty) (e : Expr) (rest : List Instruction) (th : Thread)
    (room : Room) (s : State) (next : NextProc) → Solid a g → Fits g d a.n t e →
    CodeAt a.code place (Run (code_of g e d ++ settling (stands g e d) d (cells_for g t)) ∷ rest) → Stands a g d place th room s →
    ((v : Val) (s' : State) (m : Memory) → StandsAt g.structs t v m (from_base a.base d) → Kept a.top a.base d g th.memory m s s' →
    Stands a g d (place + 1) (next_with th m) room s' → Arrives A w a.code (next v s') (Alone (next_with th m) room)) →
    Arrives A w a.code (with_proc (ev (around a.core).library e s) next) (Alone th room)
settled_arrives A w a g d place t e rest th room s next solid f c h k =
    straight_arrives (λ v s' m. StandsAt g.structs t v m (from_base a.base d)) A w a g d place
    (code_of g e d ++ settling (stands g e d) d (cells_for g t)) rest th room s (ev (around a.core).library e s) next solid.small c h (ev_keeps a.core e s)
    (settled_agrees a.top a.base d a.n (around a.core).library g t e th.memory s solid.functions f h.held) k

-- TICKS

-- the state after a tick, where so many are left behind it
abbrev pub ticked_state : State → ℕ → State
ticked_state s l = record s { ticks = s.ticks + 1; left = l }

-- the memory
abbrev pub ticked_memory : Memory → Memory
ticked_memory m = record m { used = m.used + 1 }

-- the thread
abbrev pub ticked_thread : Thread → Thread
ticked_thread th = next_with th (ticked_memory th.memory)

tick_by : (b : Bool) (left : ℕ) (m : Memory) (s : State) → b ≡ nat_lt m.used m.limit → left ≡ s.left → m.used ≡ s.ticks → m.limit ≡ s.ticks + s.left →
    ((s.left ≡ 0) × (tick_if b m ≡ Out)) ⊎ ((l : ℕ) × (s.left ≡ suc l) × (tick_if b m ≡ Done (ticked_memory m)))
tick_by true zero m s e f u l = absurd (no_tick m.used m.limit (sym e) (omega arith))
tick_by true (suc k) m s e f u l = inr (k, sym f, refl)
tick_by false zero m s e f u l = inl (sym f, refl)
tick_by false (suc k) m s e f u l = absurd (a_tick m.used m.limit (sym e) (omega arith))

-- a tick where one is left, or none
pub tick_cases : (m : Memory) (s : State) → m.used ≡ s.ticks → m.limit ≡ s.ticks + s.left →
    ((s.left ≡ 0) × (ticked m ≡ Out)) ⊎ ((l : ℕ) × (s.left ≡ suc l) × (ticked m ≡ Done (ticked_memory m)))
tick_cases m s u l = tick_by (nat_lt m.used m.limit) s.left m s refl refl u l

-- a tick, and what follows from the thread behind it
pub tick_on : (A : Arriving) (w : Watch) (code : List Instruction) (th : Thread) (room : Room) (s : State) (next : State → Proc) →
    slice_get code th.place ≡ Some Tick → th.memory.used ≡ s.ticks → th.memory.limit ≡ s.ticks + s.left →
    ((l : ℕ) → s.left ≡ suc l → Arrives A w code (next (ticked_state s l)) (Alone (ticked_thread th) room)) →
    Arrives A w code (tick_proc s next) (Alone th room)
tick_on A w code th room s next e u lim f = elim (tick_cases th.memory s u lim) [
  | inl z ↦ ran_arrives A w code th room (tick_proc s next) Out
      (turn_at code Tick th room e ∙ ap (λ q. turned_by (after_steps q (λ m. Goes (next_with th m)) th) room) z.1) (ap (λ k. tick_proc_of k s next) z.0)
  | inr z ↦ ran_arrives A w code th room (tick_proc s next) (Done (ticked_memory th.memory))
      (turn_at code Tick th room e ∙ ap (λ q. turned_by (after_steps q (λ m. Goes (next_with th m)) th) room) z.2)
      (subst (λ k. Arrives A w code (tick_proc_of k s next) (Alone (ticked_thread th) room)) (sym z.1) (f z.0 z.1))
]

-- behind a tick
pub stands_ticked : (a : Ground) (g : Scope) (d place l : ℕ) (th : Thread) (room : Room) (s : State) → place + 1 < 2 ^ 64 → s.left ≡ suc l →
    Stands a g d place th room s → Stands a g d (place + 1) (ticked_thread th) room (ticked_state s l)
stands_ticked a g d place l th room s lt e h =
    let u : th.memory.used ≡ s.ticks = h.held.used in
    let lim : th.memory.limit ≡ s.ticks + s.left = h.held.limit in
    stands_next a g d d place th room s (ticked_state s l) (ticked_memory th.memory) lt h (record {
      tops = h.held.tops;
      locals = h.held.locals;
      tops_in = h.held.tops_in;
      locals_in = h.held.locals_in;
      used = omega arith;
      limit = omega arith;
      apart = h.held.apart;
      room = h.held.room;
      small = h.held.small;
    }) refl refl

-- a tick of a component, and what follows
pub tick_arrives : (A : Arriving) (w : Watch) (a : Ground) (g : Scope) (d place : ℕ) (rest : List Instruction) (th : Thread) (room : Room) (s : State)
    (next : State → Proc) → length a.code < 2 ^ 32 → CodeAt a.code place (Tick ∷ rest) → Stands a g d place th room s →
    ((l : ℕ) → s.left ≡ suc l → Stands a g d (place + 1) (ticked_thread th) room (ticked_state s l) →
    Arrives A w a.code (next (ticked_state s l)) (Alone (ticked_thread th) room)) →
    Arrives A w a.code (tick_proc s next) (Alone th room)
tick_arrives A w a g d place rest th room s next lt c h f =
    tick_on A w a.code th room s next (ap (slice_get a.code) h.place_is ∙ code_here a.code place Tick rest c) h.held.used h.held.limit
    (λ l e. f l e (stands_ticked a g d place l th room s (place_fits a.code place Tick rest lt c) e h))

-- ROOM

pub covers_self : (s : Shape) → Covers s s
covers_self Flat = tt
covers_self (Split a b) = (covers_self a, covers_self b)

pub covers_then : (s s' s'' : Shape) → Covers s s' → Covers s' s'' → Covers s s''
covers_then s s' Flat h k = tt
covers_then s Flat (Split a b) h k = absurd k
covers_then Flat (Split c d) (Split a b) h k = absurd h
covers_then (Split e f) (Split c d) (Split a b) h k = (covers_then e c a h.0 k.0, covers_then f d b h.1 k.1)

pub covers_left : (s a b : Shape) → Covers s (widest a b) → Covers s a
covers_left s Flat b h = tt
covers_left s (Split a1 a2) Flat h = h
covers_left Flat (Split a1 a2) (Split b1 b2) h = absurd h
covers_left (Split s1 s2) (Split a1 a2) (Split b1 b2) h = (covers_left s1 a1 b1 h.0, covers_left s2 a2 b2 h.1)

pub covers_right : (s a b : Shape) → Covers s (widest a b) → Covers s b
covers_right s Flat b h = h
covers_right s (Split a1 a2) Flat h = tt
covers_right Flat (Split a1 a2) (Split b1 b2) h = absurd h
covers_right (Split s1 s2) (Split a1 a2) (Split b1 b2) h = (covers_right s1 a1 b1 h.0, covers_right s2 a2 b2 h.1)

pub covers_fits : (size : ℕ) (s s' : Shape) (room : Room) → Covers s s' → RoomFits size s room → RoomFits size s' room
covers_fits size s Flat room h f = tt
covers_fits size Flat (Split a b) room h f = absurd h
covers_fits size (Split c d) (Split a b) Closed h f = absurd f
covers_fits size (Split c d) (Split a b) (Open m left right) h f = (f.0, covers_fits size c a left h.0 f.1, covers_fits size d b right h.1 f.2)
