-- A composition begins: where its two sides stand then, and where a side ends.
use Rattle.std.proofs.Common.{◌≡◌, ◌∙◌, ◌+◌, ◌<◌, ◌≤◌, ◌^◌, ℕ, List, [], ◌∷◌, Option, Some, length, slice_get, ap, sym, subst, refl, arith}
use Rattle.zir_tree.specs.declared.value.Val.{Val}
use Rattle.zir_tree.specs.declared.types.Ty.{Ty}
use Rattle.zir_meaning.specs.Trace.{State}
use Rattle.zir_meaning.specs.Composition.{fresh}
use Rattle.zir_laws.specs.Process.{Proc}
use Rattle.zir_expr.specs.Memory.{from_base}
use Rattle.zir_expr.specs.Memory.Frames.{Memory}
use Rattle.zir_code.specs.Scopes.{Scope}
use Rattle.zir_code.specs.Holding.{Holds}
use Rattle.zir_code.proofs.Kept.{low_place, same_hold}
use Rattle.zir_flow.specs.declared.instruction.Joint.{Joint}
use Rattle.zir_flow.specs.declared.instruction.Instruction.{Instruction}
use Rattle.zir_flow.specs.declared.instruction.Instruction.TheVariants.{Pipe, Stop}
use Rattle.zir_flow.specs.Threads.{Thread}
use Rattle.zir_flow.specs.Stages.{Stage, Alone, Joined, Room, Open, Ended, copied, emptied, left_begins, right_begins}
use Rattle.zir_flow.specs.Kinds.{Shape}
use Rattle.zir_flow.specs.Fitting.{RoomFits}
use Rattle.zir_flow.specs.Playing.{Watch}
use Rattle.zir_flow.specs.Program.{CodeAt}
use Rattle.zir_flow.proofs.Reaching.{Reaches, one_turn, comes_next}
use Rattle.zir_flow.proofs.Playing.{Arrives, arrives_holds}
use Rattle.zir_flow.proofs.Standing.{Ground, Stands, Arrived, moved_to}
use Rattle.zir_flow.proofs.Straight.{code_here, turn_at}
use Rattle.zir_flow.proofs.Piping.{Halted}
use Rattle.zir_flow.proofs.Merging.{Over, written_over}

-- the ground of a side of a composition, whose room has this shape
abbrev pub side_of : Ground → Shape → Ground
side_of a shape = moved_to a a.base a.n shape []

-- a composition begins
pub begins : (code : List Instruction) (j : Joint) (th : Thread) (spare : Memory) (l r : Room) → slice_get code th.place ≡ Some (Pipe j) →
    Reaches code (Alone th (Open spare l r))
    (Joined (emptied th) j (Alone (left_begins j th spare) l) (Alone (right_begins j th) r) th.taken th.memory.used)
begins code j th spare l r e =
    one_turn code (Alone th (Open spare l r))
    (Joined (emptied th) j (Alone (left_begins j th spare) l) (Alone (right_begins j th) r) th.taken th.memory.used)
    (turn_at code (Pipe j) th (Open spare l r) e)

-- the cells up to an index are copied
copied_over : (k : ℕ) (m spare : Memory) → k ≤ length spare.cells → length spare.cells < 2 ^ 63 →
    Over 0 (0 + k) m (record spare { used = m.used; limit = m.limit }) (copied k m spare)
copied_over k m spare le small = written_over k 0 m (record spare { used = m.used; limit = m.limit }) (omega arith) small

held_copied : (top base d n : ℕ) (g : Scope) (m spare : Memory) (s : State) → d ≤ n → length spare.cells ≡ length m.cells → Holds top base d n g m s →
    Holds top base d n g (copied (base + d) m spare) s
held_copied top base d n g m spare s le size h =
    let apart = h.apart in
    let room = h.room in
    let small = h.small in
    let o = copied_over (base + d) m spare (omega arith) (omega arith) in
    let m' : Memory = copied (base + d) m spare in
    let length_is : length m'.cells ≡ length m.cells = o.changed.size ∙ size in
    record {
      tops = same_hold g.structs m.cells m'.cells base 0 top g.tops s.store.tops length_is (λ i a b. o.inside i a (omega arith)) h.tops_in h.tops;
      locals = same_hold g.structs m.cells m'.cells base base (base + d) g.locals s.store.locals length_is (λ i a b. o.inside i (omega arith) (omega arith))
          h.locals_in h.locals;
      tops_in = h.tops_in;
      locals_in = h.locals_in;
      used = o.changed.used ∙ h.used;
      limit = o.changed.limit ∙ h.limit;
      apart = apart;
      room = omega arith;
      small = omega arith;
    }

-- the left side stands where its code begins, on a copy of the cells in scope
pub left_stands : (a : Ground) (g : Scope) (d place : ℕ) (shape : Shape) (j : Joint) (th : Thread) (spare : Memory) (room left : Room) (s : State) →
    Stands a g d place th room s → j.scope ≡ d → d ≤ a.n → place + 1 < 2 ^ 64 → length spare.cells ≡ a.size → RoomFits a.size shape left →
    Stands (side_of a shape) g d (place + 1) (left_begins j th spare) left s
left_stands a g d place shape j th spare room left s h e le lt size fits =
    let same : length spare.cells ≡ length th.memory.cells = size ∙ sym h.size_is in
    let small = h.held.small in
    let wide = h.held.room in
    let at : from_base th.base j.scope ≡ a.base + d =
    ap (λ b. from_base b j.scope) h.base_is ∙ ap (from_base a.base) e ∙ low_place a.base d (omega arith) in
    let held : Holds a.top a.base d a.n g (copied (a.base + d) th.memory spare) s =
    held_copied a.top a.base d a.n g th.memory spare s le same h.held in
    let o = copied_over (a.base + d) th.memory spare (omega arith) (omega arith) in
    record {
      held = subst (λ k. Holds a.top a.base d a.n g (copied k th.memory spare) s) (sym at) held;
      place_is = ap (λ p. from_base p 1) h.place_is ∙ low_place place 1 lt;
      base_is = h.base_is;
      calls_are = refl;
      deep_is = h.deep_is;
      taken = h.taken;
      size_is = ap (λ k. length (copied k th.memory spare).cells) at ∙ o.changed.size ∙ size;
      room_fits = fits;
    }

-- the right side stands where its code begins, on the cells themselves, with its own elements and ticks
pub right_stands : (a : Ground) (g : Scope) (d place right : ℕ) (shape : Shape) (j : Joint) (th : Thread) (room rest : Room) (s : State) →
    Stands a g d place th room s → j.right ≡ right → place + 1 + right < 2 ^ 64 → RoomFits a.size shape rest →
    Stands (side_of a shape) g d (place + 1 + right) (right_begins j th) rest (fresh s)
right_stands a g d place right shape j th room rest s h e lt fits =
    let held = h.held in
    let u : th.memory.used ≡ s.ticks = held.used in
    let l : th.memory.limit ≡ s.ticks + s.left = held.limit in
    record {
      held = record {
        tops = held.tops;
        locals = held.locals;
        tops_in = held.tops_in;
        locals_in = held.locals_in;
        used = refl;
        limit = omega arith;
        apart = held.apart;
        room = held.room;
        small = held.small;
      };
      place_is = ap (λ p. from_base (from_base p 1) j.right) h.place_is ∙ ap (λ p. from_base p j.right) (low_place place 1 (omega arith))
          ∙ ap (from_base (place + 1)) e ∙ low_place (place + 1) right lt;
      base_is = h.base_is;
      calls_are = refl;
      deep_is = h.deep_is;
      taken = refl;
      size_is = h.size_is;
      room_fits = fits;
    }

halted_alone : (a : Ground) (g : Scope) (d place : ℕ) (ty : Option Ty) (m : Memory) (rest : List Instruction) (v : Val) (s : State) (th : Thread)
    (room : Room) → CodeAt a.code place (Stop ∷ rest) → Stands a g d place th room s → Arrived a g d ty place m v s (Alone th room) →
    Halted (Arrived a g d ty place m) a.code v s (Alone th room)
halted_alone a g d place ty m rest v s th room c h w =
    let at : slice_get a.code th.place ≡ Some Stop = ap (slice_get a.code) h.place_is ∙ code_here a.code place Stop rest c in
    record {
      taken = th.taken;
      ticks = th.memory.used;
      last = Alone th room;
      comes = comes_next a.code (Alone th room) (Ended th.taken th.memory.used (Alone th room)) (turn_at a.code Stop th room at) refl;
      at = record { elements = sym h.taken; used = sym h.held.used };
      is = w;
    }

-- where a stop is behind a component, a side that has arrived there ends
pub side_halts : (a : Ground) (g : Scope) (d place : ℕ) (ty : Option Ty) (m : Memory) (rest : List Instruction) (v : Val) (s : State) (st : Stage) →
    CodeAt a.code place (Stop ∷ rest) → Arrived a g d ty place m v s st → Halted (Arrived a g d ty place m) a.code v s st
side_halts a g d place ty m rest v s st c w =
    subst (Halted (Arrived a g d ty place m) a.code v s) (sym w.alone)
    (halted_alone a g d place ty m rest v s w.th w.room c w.stands (subst (Arrived a g d ty place m v s) w.alone w))

-- a side that arrives comes to its end
pub side_arrives : (a : Ground) (g : Scope) (d place : ℕ) (ty : Option Ty) (m : Memory) (rest : List Instruction) (w : Watch) (p : Proc) (st : Stage) →
    CodeAt a.code place (Stop ∷ rest) → Arrives (Arrived a g d ty place m) w a.code p st →
    Arrives (Halted (Arrived a g d ty place m) a.code) w a.code p st
side_arrives a g d place ty m rest w p st c h =
    arrives_holds (Arrived a g d ty place m) (Halted (Arrived a g d ty place m) a.code) w w a.code p st
    (λ v s st'. side_halts a g d place ty m rest v s st' c) (λ st' store x. x) (λ x y. y) (λ x y. y) h
