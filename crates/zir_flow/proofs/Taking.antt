-- Components that take elements.
use Rattle.std.proofs.Common.{◌≡◌, ℕ, zero, suc, ◌+◌, ◌-◌, ◌*◌, ◌%◌, ◌^◌, ◌<◌, ◌≤◌, ℤ, pos, List, [], ◌∷◌, ◌++◌, true, false, Some, length, replicate, nat_lt, slice_get, ap, sym, subst, refl, ◌∙◌, arith, inl}
use Rattle.std.proofs.lemmas.Bool.Decides.{nat_tests}
use Rattle.zir_tree.specs.declared.value.Val.{Val, List as Vals}
use Rattle.zir_tree.specs.declared.place.Place.{Place}
use Rattle.zir_tree.specs.declared.types.Ty.{Ty}
use Rattle.zir_tree.specs.declared.types.StructDef.{StructDef}
use Rattle.zir_tree.specs.declared.ends.End.TheVariants.{Value}
use Rattle.zir_tree.specs.declared.comp.Comp.{Take as TakeComp, Takes as TakesComp}
use Rattle.zir_meaning.specs.Trace.{State}
use Rattle.zir_cells.specs.Cells.{cells_of}
use Rattle.zir_cells.specs.Layout.{layout_of}
use Rattle.zir_laws.specs.Process.{Ends, take_proc, takes_proc}
use Rattle.zir_shapes.specs.Shapes.{Shaped}
use Rattle.zir_shapes.specs.Offsets.{array_type as array_of}
use Rattle.zir_shapes.proofs.Fitting.{sizes-fit}
use Rattle.zir_shapes.proofs.PartCells.{cells-list}
use Rattle.zir_expr.specs.declared.frame.Spot.TheVariants.{Local}
use Rattle.zir_expr.specs.declared.steps.Step.{Step, Number}
use Rattle.zir_expr.specs.Memory.{Done, cell_at, put_cell, after, from_base}
use Rattle.zir_expr.specs.Memory.Frames.{Memory}
use Rattle.zir_code.specs.Scopes.{Scope}
use Rattle.zir_code.specs.Types.{cells_for}
use Rattle.zir_code.specs.Holding.{At, Holds, Spares}
use Rattle.zir_code.specs.Calls.{CellsAre}
use Rattle.zir_code.proofs.Cells.{cell, at_same}
use Rattle.zir_code.proofs.Kept.{low_place, Changed, changed_cell, changed_both, cell_written, kept_changed, holds_kept, kept_holds}
use Rattle.zir_code.proofs.Moves.{low_after}
use Rattle.zir_code.proofs.Rows.{width_of_all, same_cells, one_more_value, cells_together, each_shaped, as_many}
use Rattle.zir_flow.specs.declared.instruction.Series.{Series}
use Rattle.zir_flow.specs.declared.instruction.Instruction.{Instruction}
use Rattle.zir_flow.specs.declared.instruction.Instruction.TheVariants.{Run, Tick, Take, Takes, Again}
use Rattle.zir_flow.specs.Threads.{Thread, Wants, Goes, written, onward, backward, next_with, moved_by, fed, fed_by, come, next_of, counted_on, either_move, either_thread, count_in}
use Rattle.zir_flow.specs.Stages.{Stage, Alone, Room, Needing, turned_by}
use Rattle.zir_flow.specs.Playing.{Watch}
use Rattle.zir_flow.specs.Program.{CodeAt}
use Rattle.zir_flow.proofs.Reaching.{comes_next, stays}
use Rattle.zir_flow.proofs.Playing.{Arriving, Arrives, arrives_on, arrives_then, arrives_holds}
use Rattle.zir_flow.proofs.Standing.{Ground, Stands, watched, Arrived, ComponentArrives}
use Rattle.zir_flow.proofs.Straight.{code_here, code_next, code_ends, next_place, onward_place, backward_place, turn_at, goes_to, spares_none, spares_then, spares_changed, place_fits, stands_changed, stands_moved, held_since, arrived, ends_at, steps_arrive, ticked_state, ticked_thread, tick_on}

-- CELLS THAT ARE WRITTEN

-- these cells stand from an index on, and all others are as they were
pub record Written (i : ℕ) (xs : List ℤ) (m m' : Memory) : Type 0 where
  pub changed : Changed i (i + length xs) m m'
  pub at : At m'.cells i xs

one_more_written : (i : ℕ) (x : ℤ) (xs : List ℤ) (m m' : Memory) → i < length m.cells → Written (i + 1) xs (put_cell i x m) m' → Written i (x ∷ xs) m m'
one_more_written i x xs m m' lt w =
    let one : Changed i (i + 1) m (put_cell i x m) = changed_cell i x m in
    let size : length m'.cells ≡ length m.cells = w.changed.size ∙ one.size in
    record {
      changed = changed_both i (i + 1) (i + 1) (i + 1 + length xs) i (i + suc (length xs)) m (put_cell i x m) m' (omega arith) (omega arith) (omega arith)
          (omega arith) one w.changed;
      at = (omega arith, w.changed.others i (inl (omega arith)) ∙ cell_written i x m lt, w.at);
    }

-- cells are written
pub writes : (xs : List ℤ) (i : ℕ) (m : Memory) → i + length xs ≤ length m.cells → length m.cells < 2 ^ 63 → Written i xs m (written i xs m)
writes [] i m le small = record { changed = record { others = λ j o. refl; size = refl; used = refl; limit = refl }; at = tt }
writes (x ∷ xs) i m le small =
    let size : length (put_cell i x m).cells ≡ length m.cells = (changed_cell i x m).size in
    let e : after i ≡ i + 1 = low_after i (omega arith) in
    subst (λ j. Written i (x ∷ xs) m (written j xs (put_cell i x m))) (sym e)
    (one_more_written i x xs m (written (i + 1) xs (put_cell i x m)) (omega arith) (writes xs (i + 1) (put_cell i x m) (omega arith) (omega arith)))

-- ONE ELEMENT

-- where an element has been taken and its tick used
pub record Took (w : Watch) (code : List Instruction) (th : Thread) (room : Room) (s : State) (x : Val) (s' : State) (st : Stage) : Type 0 where
  pub fits : w.element x
  pub left : ℕ
  pub has : s.left ≡ suc left
  pub state : s' ≡ record (ticked_state s left) { taken = s.taken + 1 }
  pub stage : st ≡ Alone (ticked_thread (fed code (cells_of x) th)) room

-- a thread that an element was given to stands at a tick, with the same meter
pub record AtTick (code : List Instruction) (th th' : Thread) : Type 0 where
  pub here : slice_get code th'.place ≡ Some Tick
  pub used : th'.memory.used ≡ th.memory.used
  pub limit : th'.memory.limit ≡ th.memory.limit

-- one element
pub element_arrives : (w : Watch) (a : Ground) (g : Scope) (d place : ℕ) (i : Instruction) (rest : List Instruction) (th : Thread) (room : Room) (s : State) →
    moved_by i th ≡ Wants th → CodeAt a.code place (i ∷ rest) → Stands a g d place th room s → w.holds (Alone th room) s.store →
    ((x : Val) → w.element x → AtTick a.code th (fed a.code (cells_of x) th)) →
    Arrives (Took w a.code th room s) w a.code (take_proc s) (Alone th room)
element_arrives w a g d place i rest th room s q c h held f = (
  Alone th room,
  record {
    taken = th.taken;
    ticks = th.memory.used;
    comes = comes_next a.code (Alone th room) (Needing th.taken th.memory.used (Alone th room))
        (turn_at a.code i th room (ap (slice_get a.code) h.place_is ∙ code_here a.code place i rest c) ∙ ap (λ mv. turned_by mv room) q) refl;
    at = record { elements = sym h.taken; used = sym h.held.used };
    holds = held;
  },
  λ x fits.
      let k : AtTick a.code th (fed a.code (cells_of x) th) = f x fits in
      tick_on (Took w a.code th room s) w a.code (fed a.code (cells_of x) th) room s (λ s'. Ends (Value x) (record s' { taken = s'.taken + 1 })) k.here
      (k.used ∙ h.held.used) (k.limit ∙ h.held.limit)
      (λ l e. (
        Alone (ticked_thread (fed a.code (cells_of x) th)) room,
        stays a.code (Alone (ticked_thread (fed a.code (cells_of x) th)) room),
        record { fits = fits; left = l; has = e; state = refl; stage = refl },
      )),
)

-- the thread behind an instruction that took an element
abbrev pub taken_thread : Thread → Memory → Thread
taken_thread th m = record (next_with th m) { taken = after th.taken }

-- the state behind an element and its tick
abbrev pub taken_state : State → ℕ → State
taken_state s l = record (ticked_state s l) { taken = s.taken + 1 }

-- behind an element and its tick
pub stands_taken : (a : Ground) (g : Scope) (d place l : ℕ) (th : Thread) (room : Room) (s : State) (m : Memory) → place + 2 < 2 ^ 64 → s.left ≡ suc l →
    Stands a g d place th room s → Holds a.top a.base d a.n g m s → length m.cells ≡ length th.memory.cells →
    Stands a g d (place + 2) (ticked_thread (taken_thread th m)) room (taken_state s l)
stands_taken a g d place l th room s m lt e h held size =
    let u : m.used ≡ s.ticks = held.used in
    let lim : m.limit ≡ s.ticks + s.left = held.limit in
    let two : place + 1 + 1 ≡ place + 2 = omega arith in
    let t : th.taken ≡ s.taken % 2 ^ 64 = h.taken in
    record {
      held = record {
        tops = held.tops;
        locals = held.locals;
        tops_in = held.tops_in;
        locals_in = held.locals_in;
        used = omega arith;
        limit = omega arith;
        apart = held.apart;
        room = held.room;
        small = held.small;
      };
      place_is = ap (λ p. from_base (after (from_base (after p) 0)) 0) h.place_is ∙ ap (λ p. from_base (after p) 0) (next_place place (omega arith))
          ∙ next_place (place + 1) (omega arith) ∙ two;
      base_is = h.base_is;
      calls_are = h.calls_are;
      deep_is = h.deep_is;
      taken = omega arith;
      size_is = size ∙ h.size_is;
      room_fits = h.room_fits;
    }

-- free cells have changed
pub changed_held : (a : Ground) (g : Scope) (d low high : ℕ) (m m' : Memory) (s : State) → a.base + d ≤ low → Changed low high m m' →
    Holds a.top a.base d a.n g m s → Holds a.top a.base d a.n g m' s
changed_held a g d low high m m' s le c h =
    kept_holds a.top a.base d d a.n g m m' s s (omega arith) h
    (kept_changed a.top a.base d low high g m m m' s s h.apart le (holds_kept a.top a.base d d a.n g m s h) c)

-- where an element stands in free cells, since a memory and a state
pub record TakenAt (a : Ground) (g : Scope) (d place at : ℕ) (input : Ty) (m : Memory) (room : Room) (s0 : State) (x : Val) (s : State) (st : Stage) : Type 0
  where
    pub th : Thread
    pub alone : st ≡ Alone th room
    pub stands : Stands a g d place th room s
    pub shape : Shaped g.structs input x
    pub cells : At th.memory.cells (a.base + at) (cells_of x)
    pub others : (i : ℕ) → i < a.base + at → cell th.memory.cells i ≡ cell m.cells i
    pub fewer : s0.left ≡ suc s.left

-- `take` inside a component, whose element goes to free cells
pub take_on : (a : Ground) (g : Scope) (input out : Ty) (d d' place at : ℕ) (rest : List Instruction) (m : Memory) (th : Thread) (room : Room) (s : State) →
    length a.code < 2 ^ 32 → CodeAt a.code place (Take at ∷ Tick ∷ rest) → d' ≤ at → at + cells_for g input ≤ a.n → Stands a g d' place th room s →
    Spares a.top a.base d g m th.memory →
    Arrives (TakenAt a g d' (place + 2) at input th.memory room s) (watched a g d input out m) a.code (take_proc s) (Alone th room)
take_on a g input out d d' place at rest m th room s lt c low fit h p =
    let w : Watch = watched a g d input out m in
    let wide : a.base + a.n ≤ length th.memory.cells = h.held.room in
    let small : length th.memory.cells < 2 ^ 63 = h.held.small in
    let to : from_base a.base at ≡ a.base + at = low_place a.base at (omega arith) in
    let c1 : CodeAt a.code (place + 1) (Tick ∷ rest) = code_next a.code place (Take at) (Tick ∷ rest) c in
    let lt1 : place + 1 + 1 < 2 ^ 64 = place_fits a.code (place + 1) Tick rest lt c1 in
    let is : (x : Val) → fed a.code (cells_of x) th ≡ taken_thread th (written (a.base + at) (cells_of x) th.memory) =
    λ x. ap (λ o. fed_by o (cells_of x) th) (ap (slice_get a.code) h.place_is ∙ code_here a.code place (Take at) (Tick ∷ rest) c)
    ∙ ap (λ b. taken_thread th (written (from_base b at) (cells_of x) th.memory)) h.base_is
    ∙ ap (λ i. taken_thread th (written i (cells_of x) th.memory)) to in
    let wrote : (x : Val) → Shaped g.structs input x → Written (a.base + at) (cells_of x) th.memory (written (a.base + at) (cells_of x) th.memory) =
    λ x f. (let n : length (cells_of x) ≡ cells_for g input = sizes-fit g.structs input x f in
    writes (cells_of x) (a.base + at) th.memory (omega arith) small) in
    arrives_holds (Took w a.code th room s) (TakenAt a g d' (place + 2) at input th.memory room s) w w a.code (take_proc s) (Alone th room)
    (λ x s' st t.
    let m1 : Memory = written (a.base + at) (cells_of x) th.memory in
    let z : Written (a.base + at) (cells_of x) th.memory m1 = wrote x t.fits in
    subst (λ s'. TakenAt a g d' (place + 2) at input th.memory room s x s' st) (sym t.state) (record {
      th = ticked_thread (taken_thread th m1);
      alone = t.stage ∙ ap (λ th. Alone (ticked_thread th) room) (is x);
      stands = stands_taken a g d' place t.left th room s m1 (omega arith) t.has h
          (changed_held a g d' (a.base + at) (a.base + at + length (cells_of x)) th.memory m1 s (omega arith) z.changed h.held) z.changed.size;
      shape = t.fits;
      cells = z.at;
      others = λ i l. z.changed.others i (inl l);
      fewer = t.has;
    }))
    (λ st store k. k) (λ x k. k) (λ x k. k)
    (element_arrives w a g d' place (Take at) (Tick ∷ rest) th room s refl c h (held_since a g d d' place m th room s h p)
    (λ x f. subst (AtTick a.code th) (sym (is x)) (record {
      here = ap (λ p. slice_get a.code (from_base (after p) 0)) h.place_is ∙ ap (slice_get a.code) (next_place place (omega arith))
          ∙ code_here a.code (place + 1) Tick rest c1;
      used = (wrote x f).changed.used;
      limit = (wrote x f).changed.limit;
    })))

-- `take`
pub take_arrives : (a : Ground) (p : Place) → ComponentArrives a (TakeComp p)
take_arrives a p g input out d place th room s solid f c deep covers h =
    let w : Watch = watched a g d input out th.memory in
    let wide : a.base + a.n ≤ length th.memory.cells = h.held.room in
    let small : length th.memory.cells < 2 ^ 63 = h.held.small in
    let fit : d + cells_for g input ≤ a.n = f.1 in
    let to : from_base a.base d ≡ a.base + d = low_place a.base d (omega arith) in
    arrives_holds (TakenAt a g d (place + 2) d input th.memory room s) (Arrived a g d (Some input) (place + 2) th.memory) w w a.code (take_proc s)
    (Alone th room)
    (λ x s' st t. subst (Arrived a g d (Some input) (place + 2) th.memory x s') (sym t.alone)
    (arrived a g d (place + 2) (Some input) input x th.memory t.th room s' refl t.stands t.shape (subst (λ i. At t.th.memory.cells i (cells_of x)) (sym to) t.cells)
    (λ i b e o. t.others i e)))
    (λ st store k. k) (λ x k. k) (λ x k. k)
    (take_on a g input out d d place d [] th.memory th room s solid.small c (omega arith) fit h (spares_none a.top a.base d g th.memory))

-- SEVERAL ELEMENTS

replicate_more : {A : Type 0} (k : ℕ) (x : A) → replicate k x ++ x ∷ [] ≡ replicate (suc k) x
replicate_more {A} zero x = refl
replicate_more {A} (suc k) x = ap (λ xs. x ∷ xs) (replicate_more k x)

-- the cells of so many values of one type
pub width_of_some : (structs : List StructDef) (k : ℕ) (t : Ty) → width_of_all structs (replicate k t) ≡ k * layout_of structs t
width_of_some structs zero t = omega arith
width_of_some structs (suc k) t = let h = width_of_some structs k t in omega arith

-- an array's cells are those of its elements
pub array_at : (structs : List StructDef) (cells : List ℤ) (i k : ℕ) (t : Ty) (vs : List Val) → CellsAre structs cells i (replicate k t) vs →
    Shaped structs (array_of k t) (Vals vs) × At cells i (cells_of (Vals vs))
array_at structs cells i k t vs h = (
  (vs, refl, as_many structs cells i k t vs h, each_shaped structs cells i k t vs h),
  subst (At cells i) (sym (cells-list vs)) (cells_together structs cells i (replicate k t) vs h),
)

-- where so many elements of a series have come, since a memory
pub record Came (a : Ground) (g : Scope) (d place counter k : ℕ) (input : Ty) (m : Memory) (vs : List Val) (th : Thread) (room : Room) (s : State) : Type 0
  where
    pub stands : Stands a g d place th room s
    pub count : cell th.memory.cells (a.base + counter) ≡ pos k
    pub values : CellsAre g.structs th.memory.cells (a.base + d) (replicate k input) vs
    pub spared : Spares a.top a.base d g m th.memory

pub is_less : (k n count : ℕ) → k + suc n ≡ count → nat_lt k count ≡ true
is_less k n count e = grind (arith, nat_tests)

pub is_all : (k count : ℕ) → k ≡ count → nat_lt k count ≡ false
is_all k count e = grind (arith, nat_tests)

-- how many of a series have come, by its counter
pub come_is : (s : Series) (th : Thread) (base i k : ℕ) → th.base ≡ base → from_base base s.counter ≡ i → cell th.memory.cells i ≡ pos k → come s th ≡ k
come_is s th base i k b e c =
    ap (λ b. count_in (cell_at (from_base b s.counter) th.memory)) b ∙ ap (λ i. count_in (cell_at i th.memory)) e ∙ ap count_in c

-- the cells of some elements, of one more, and of the others
pub in_parts : (k n size : ℕ) → (k + suc n) * size ≡ k * size + size + n * size
in_parts k n size = omega arith

-- the series of `takes`
abbrev taking : ℕ → ℕ → ℕ → Series
taking d size count = record { counter = d + count * size; from = Local d; size = size; count = count }

-- the elements that are still to come
takes_on : (n k : ℕ) (a : Ground) (g : Scope) (input out : Ty) (d place count : ℕ) (rest : List Instruction) (m : Memory) (vs : List Val) (th : Thread)
    (room : Room) (s : State) → k + n ≡ count → length a.code < 2 ^ 32 →
    CodeAt a.code place (Takes (taking d (cells_for g input) count) 2 ∷ Tick ∷ Again 2 ∷ rest) → d + count * cells_for g input + 1 ≤ a.n →
    Came a g d place (d + count * cells_for g input) k input m vs th room s →
    Arrives (Arrived a g d (Some (array_of count input)) (place + 3) m) (watched a g d input out m) a.code (takes_proc n vs s) (Alone th room)
takes_on zero k a g input out d place count rest m vs th room s q lt c fit h =
    let size : ℕ = cells_for g input in
    let all : Series = taking d size count in
    let wide : a.base + a.n ≤ length th.memory.cells = h.stands.held.room in
    let small : length th.memory.cells < 2 ^ 63 = h.stands.held.small in
    let kk : k ≡ count = omega arith in
    let i : from_base a.base (d + count * size) ≡ a.base + (d + count * size) = low_place a.base (d + count * size) (omega arith) in
    let came : come all th ≡ k = come_is all th a.base (a.base + (d + count * size)) k h.stands.base_is i h.count in
    let code : place + 3 ≤ length a.code = (let e = code_ends a.code place (Takes all 2 ∷ Tick ∷ Again 2 ∷ rest) c in omega arith) in
    let to : from_base a.base d ≡ a.base + d = low_place a.base d (omega arith) in
    let three : place + 1 + 2 ≡ place + 3 = omega arith in
    let here : slice_get a.code th.place ≡ Some (Takes all 2) =
    ap (slice_get a.code) h.stands.place_is ∙ code_here a.code place (Takes all 2) (Tick ∷ Again 2 ∷ rest) c in
    let array = array_at g.structs th.memory.cells (a.base + d) count input vs
    (subst (λ k. CellsAre g.structs th.memory.cells (a.base + d) (replicate k input) vs) kk h.values) in
    let next : Stands a g d (place + 3) (onward 2 th) room s =
    stands_moved a g d place (place + 3) _ th room s h.stands
    (ap (λ p. from_base (after p) 2) h.stands.place_is ∙ onward_place place 2 (omega arith) ∙ three) in
    arrives_on (Arrived a g d (Some (array_of count input)) (place + 3) m) (watched a g d input out m) a.code (takes_proc zero vs s) (Alone th room)
    (Alone (onward 2 th) room)
    (goes_to a.code (Takes all 2) th (onward 2 th) room here
    (ap (λ b. either_move b (Wants th) (Goes (onward 2 th))) (ap (λ j. nat_lt j count) came ∙ is_all k count kk)))
    (ends_at a g d (place + 3) (Some (array_of count input)) m (watched a g d input out m) (Vals vs) s (Alone (onward 2 th) room)
    (arrived a g d (place + 3) (Some (array_of count input)) (array_of count input) (Vals vs) m (onward 2 th) room s refl next array.0
    (subst (λ i. At th.memory.cells i (cells_of (Vals vs))) (sym to) array.1) h.spared))
takes_on (suc n) k a g input out d place count rest m vs th room s q lt c fit h =
    let size : ℕ = cells_for g input in
    let counter : ℕ = d + count * size in
    let all : Series = taking d size count in
    let w : Watch = watched a g d input out m in
    let B : Arriving = Arrived a g d (Some (array_of count input)) (place + 3) m in
    let wide : a.base + a.n ≤ length th.memory.cells = h.stands.held.room in
    let small : length th.memory.cells < 2 ^ 63 = h.stands.held.small in
    let i : from_base a.base counter ≡ a.base + counter = low_place a.base counter (omega arith) in
    let came : come all th ≡ k = come_is all th a.base (a.base + counter) k h.stands.base_is i h.count in
    let less : nat_lt (come all th) count ≡ true = ap (λ j. nat_lt j count) came ∙ is_less k n count q in
    let code : place + 3 ≤ length a.code = (let e = code_ends a.code place (Takes all 2 ∷ Tick ∷ Again 2 ∷ rest) c in omega arith) in
    let whole : count * size ≡ k * size + size + n * size = ap (λ c. c * size) (sym q) ∙ in_parts k n size in
    let to : from_base a.base d ≡ a.base + d = low_place a.base d (omega arith) in
    let at : ℕ = a.base + d + k * size in
    let first : (from_base a.base d + k * size) % 2 ^ 64 ≡ at = omega arith in
    let from : next_of all th ≡ at =
    ap (λ b. (from_base b d + come all th * size) % 2 ^ 64) h.stands.base_is ∙ ap (λ j. (from_base a.base d + j * size) % 2 ^ 64) came ∙ first in
    let here : slice_get a.code th.place ≡ Some (Takes all 2) =
    ap (slice_get a.code) h.stands.place_is ∙ code_here a.code place (Takes all 2) (Tick ∷ Again 2 ∷ rest) c in
    let c1 : CodeAt a.code (place + 1) (Tick ∷ Again 2 ∷ rest) = code_next a.code place (Takes all 2) (Tick ∷ Again 2 ∷ rest) c in
    let c2 : CodeAt a.code (place + 1 + 1) (Again 2 ∷ rest) = code_next a.code (place + 1) Tick (Again 2 ∷ rest) c1 in
    let two : place + 1 + 1 ≡ place + 2 = omega arith in
    let one : (x : Val) → Memory = λ x. written at (cells_of x) th.memory in
    let both : (x : Val) → Memory = λ x. put_cell (a.base + counter) (pos (suc k)) (one x) in
    let more : k + 1 ≡ suc k = omega arith in
    let is : (x : Val) → fed a.code (cells_of x) th ≡ taken_thread th (both x) =
    λ x. ap (λ o. fed_by o (cells_of x) th) here
    ∙ ap (λ b. either_thread b (taken_thread th (counted_on all th (written (next_of all th) (cells_of x) th.memory))) th) less
    ∙ ap (λ b. taken_thread th (put_cell (from_base b counter) (pos (come all th + 1)) (written (next_of all th) (cells_of x) th.memory))) h.stands.base_is
    ∙ ap (λ i. taken_thread th (put_cell i (pos (come all th + 1)) (written (next_of all th) (cells_of x) th.memory))) i
    ∙ ap (λ j. taken_thread th (put_cell (a.base + counter) (pos (j + 1)) (written (next_of all th) (cells_of x) th.memory))) came
    ∙ ap (λ j. taken_thread th (put_cell (a.base + counter) (pos j) (written (next_of all th) (cells_of x) th.memory))) more
    ∙ ap (λ i. taken_thread th (put_cell (a.base + counter) (pos (suc k)) (written i (cells_of x) th.memory))) from in
    let wrote : (x : Val) → Shaped g.structs input x → Written at (cells_of x) th.memory (one x) =
    λ x f. (let n : length (cells_of x) ≡ size = sizes-fit g.structs input x f in writes (cells_of x) at th.memory (omega arith) small) in
    let change : (x : Val) → Shaped g.structs input x → Changed at (a.base + counter + 1) th.memory (both x) =
    λ x f. (let n : length (cells_of x) ≡ size = sizes-fit g.structs input x f in
    changed_both at (a.base + counter) (at + length (cells_of x)) (a.base + counter + 1) at (a.base + counter + 1) th.memory (one x) (both x)
    (omega arith) (omega arith) (omega arith) (omega arith) (wrote x f).changed (changed_cell (a.base + counter) (pos (suc k)) (one x))) in
    arrives_then (Took w a.code th room s) B w a.code (take_proc s) (Alone th room) (λ v s'. takes_proc n (vs ++ v ∷ []) s')
    (element_arrives w a g d place (Takes all 2) (Tick ∷ Again 2 ∷ rest) th room s
    (ap (λ b. either_move b (Wants th) (Goes (onward 2 th))) less) c h.stands (held_since a g d d place m th room s h.stands h.spared)
    (λ x f. subst (AtTick a.code th) (sym (is x)) (record {
      here = ap (λ p. slice_get a.code (from_base (after p) 0)) h.stands.place_is ∙ ap (slice_get a.code) (next_place place (omega arith))
          ∙ code_here a.code (place + 1) Tick (Again 2 ∷ rest) c1;
      used = (change x f).used;
      limit = (change x f).limit;
    })))
    (λ x s' st t.
    let z : Changed at (a.base + counter + 1) th.memory (both x) = change x t.fits in
    let size_x : length (cells_of x) ≡ size = sizes-fit g.structs input x t.fits in
    let put : Changed (a.base + counter) (a.base + counter + 1) (one x) (both x) = changed_cell (a.base + counter) (pos (suc k)) (one x) in
    let long : length (one x).cells ≡ length th.memory.cells = (wrote x t.fits).changed.size in
    let th1 : Thread = ticked_thread (taken_thread th (both x)) in
    let st1 : Stands a g d (place + 2) th1 room (taken_state s t.left) =
    stands_taken a g d place t.left th room s (both x) (omega arith) t.has h.stands
    (changed_held a g d at (a.base + counter + 1) th.memory (both x) s (omega arith) z h.stands.held) z.size in
    let th2 : Thread = backward 2 th1 in
    let st2 : Stands a g d place th2 room (taken_state s t.left) =
    stands_moved a g d (place + 2) place _ th1 room (taken_state s t.left) st1
    (ap (λ p. (p + (2 ^ 64 - 2)) % 2 ^ 64) st1.place_is ∙ backward_place (place + 2) 2 place refl (omega arith)) in
    let wide_k : width_of_all g.structs (replicate k input) ≡ k * size = width_of_some g.structs k input in
    let values : CellsAre g.structs (both x).cells (a.base + d) (replicate (suc k) input) (vs ++ x ∷ []) =
    subst (λ ts. CellsAre g.structs (both x).cells (a.base + d) ts (vs ++ x ∷ [])) (replicate_more k input)
    (one_more_value g.structs (both x).cells (a.base + d) (replicate k input) vs input x t.fits
    (subst (λ j. At (both x).cells (a.base + d + j) (cells_of x)) (sym wide_k)
    (at_same (one x).cells (both x).cells at (a.base + counter) at (cells_of x) put.size (λ j b e. put.others j (inl (omega arith))) (omega arith)
    (omega arith) (wrote x t.fits).at))
    (same_cells g.structs th.memory.cells (both x).cells (a.base + d) (replicate k input) vs z.size (λ j b e. z.others j (inl (omega arith))) h.values)) in
    subst (λ s'. Arrives B w a.code (takes_proc n (vs ++ x ∷ []) s') st) (sym t.state)
    (subst (Arrives B w a.code (takes_proc n (vs ++ x ∷ []) (taken_state s t.left)))
    (sym (t.stage ∙ ap (λ th. Alone (ticked_thread th) room) (is x)))
    (arrives_on B w a.code (takes_proc n (vs ++ x ∷ []) (taken_state s t.left)) (Alone th1 room) (Alone th2 room)
    (goes_to a.code (Again 2) th1 th2 room
    (ap (slice_get a.code) (st1.place_is ∙ sym two) ∙ code_here a.code (place + 1 + 1) (Again 2) rest c2) refl)
    (takes_on n (suc k) a g input out d place count rest m (vs ++ x ∷ []) th2 room (taken_state s t.left) (omega arith) lt c fit (record {
      stands = st2;
      count = cell_written (a.base + counter) (pos (suc k)) (one x) (omega arith);
      values = values;
      spared = spares_then a.top a.base d g m th.memory (both x) h.spared
          (spares_changed a.top a.base d at (a.base + counter + 1) g th.memory (both x) (omega arith) z);
    })))))

-- `takes`
pub takes_arrives : (a : Ground) (count : ℕ) (p : Place) → ComponentArrives a (TakesComp count p)
takes_arrives a count p g input out d place th room s solid f c deep covers h =
    let size : ℕ = cells_for g input in
    let counter : ℕ = d + count * size in
    let all : Series = taking d size count in
    let w : Watch = watched a g d input out th.memory in
    let fit : counter + 1 ≤ a.n = f.1 in
    let wide : a.base + a.n ≤ length th.memory.cells = h.held.room in
    let small : length th.memory.cells < 2 ^ 63 = h.held.small in
    let i : from_base a.base counter ≡ a.base + counter = low_place a.base counter (omega arith) in
    let m1 : Memory = put_cell (a.base + counter) (pos 0) th.memory in
    let put : Changed (a.base + counter) (a.base + counter + 1) th.memory m1 = changed_cell (a.base + counter) (pos 0) th.memory in
    let zero_code : List Step = Number (Local counter) (pos 0) ∷ [] in
    let code : List Instruction = Takes all 2 ∷ Tick ∷ Again 2 ∷ [] in
    let four : place + 1 + 3 ≡ place + 4 = omega arith in
    steps_arrive (Arrived a g d (Some (array_of count input)) (place + 4) th.memory) w a g d place zero_code code th room s m1 (takes_proc count [] s) c h
    (ap (λ i. Done (put_cell i (pos 0) th.memory)) i)
    (subst (λ q. Arrives (Arrived a g d (Some (array_of count input)) q th.memory) w a.code (takes_proc count [] s) (Alone (next_with th m1) room)) four
    (takes_on count 0 a g input out d (place + 1) count [] th.memory [] (next_with th m1) room s (omega arith) solid.small
    (code_next a.code place (Run zero_code) code c) fit (record {
      stands = stands_changed a g d place (a.base + counter) (a.base + counter + 1) th room s m1
          (place_fits a.code place (Run zero_code) code solid.small c) (omega arith) h put;
      count = cell_written (a.base + counter) (pos 0) th.memory (omega arith);
      values = tt;
      spared = spares_changed a.top a.base d (a.base + counter) (a.base + counter + 1) g th.memory m1 (omega arith) put;
    })))
