-- Components in a larger scope, and what then holds in the smaller one.
use Rattle.std.proofs.Common.{◌≡◌, ℕ, ◌+◌, ◌<◌, ◌≤◌, ◌^◌, ◌⊎◌, List, [], ◌∷◌, ◌++◌, length, take, take-take, length-append, sym, subst, refl, arith, inl, inr}
use Rattle.zir_tree.specs.declared.value.Val.{Val}
use Rattle.zir_tree.specs.declared.types.Ty.{Ty}
use Rattle.zir_tree.specs.declared.comp.Comp.{Comp}
use Rattle.zir_meaning.specs.Store.{Store}
use Rattle.zir_meaning.specs.Trace.{State}
use Rattle.zir_meaning.specs.Statements.{leave}
use Rattle.zir_meaning.specs.Instances.{around}
use Rattle.zir_laws.specs.Process.{proc}
use Rattle.zir_shapes.specs.Shapes.{Shaped}
use Rattle.zir_expr.specs.Memory.{from_base, place_of}
use Rattle.zir_expr.specs.Memory.Frames.{Memory}
use Rattle.zir_code.specs.declared.scope.Holder.{Holder}
use Rattle.zir_code.specs.Scopes.{Scope}
use Rattle.zir_code.specs.Statements.{with_local}
use Rattle.zir_code.specs.Holding.{Hold, InOrder, Outside, Spares}
use Rattle.zir_code.proofs.Kept.{low_place, order_ends}
use Rattle.zir_code.proofs.Stores.{hold_front}
use Rattle.zir_flow.specs.Stages.{Stage, Alone, Room, seen}
use Rattle.zir_flow.specs.Threads.{Thread}
use Rattle.zir_flow.specs.Kinds.{value_in}
use Rattle.zir_flow.specs.Flowing.{flow_code}
use Rattle.zir_flow.specs.Fitting.{Flows, depth_of, shape_of}
use Rattle.zir_flow.specs.Program.{CodeAt}
use Rattle.zir_flow.specs.Laws.{HoldsStore}
use Rattle.zir_flow.proofs.Playing.{Arriving, Arrives, arrives_holds}
use Rattle.zir_flow.proofs.Standing.{Ground, Covers, Stands, Arrived, Solid, watched, ComponentArrives}
use Rattle.zir_flow.proofs.Straight.{spares_then, spares_less, holds_store}

-- an index behind variables is outside of them
pub outside_order : (base low high : ℕ) (ds : List Holder) (i : ℕ) → InOrder base low high ds → high ≤ i → Outside base ds i
outside_order base low high [] i o le = tt
outside_order base low high (d ∷ ds) i o le =
    let e = order_ends base (place_of base d.spot + d.cells) high ds o.1 in
    (inr (omega arith), outside_order base (place_of base d.spot + d.cells) high ds i o.1 le)

-- one more variable
pub outside_more : (base : ℕ) (ds : List Holder) (d : Holder) (i : ℕ) → (i < place_of base d.spot) ⊎ (place_of base d.spot + d.cells ≤ i) →
    Outside base ds i → Outside base (ds ++ d ∷ []) i
outside_more base [] d i out o = (out, tt)
outside_more base (e ∷ ds) d i out o = (o.0, outside_more base ds d i out o.1)

-- where a scope is inside a larger one, what holds in the larger one with its cells before the free ones holds in it
pub record Within (a : Ground) (g g' : Scope) (d d' : ℕ) : Type 0 where
  pub structs : g'.structs ≡ g.structs
  pub spares : (m m' : Memory) → Spares a.top a.base d' g' m m' → Spares a.top a.base d g m m'
  pub stores : (st : Stage) (store : Store) → HoldsStore a.top a.base a.size g' a.shape st store → HoldsStore a.top a.base a.size g a.shape st store

-- the same scope with more cells in use
pub within_more : (a : Ground) (g : Scope) (d d' : ℕ) → d ≤ d' → Within a g g d d'
within_more a g d d' le = record { structs = refl; spares = λ m m'. spares_less a.top a.base d d' g m m' le; stores = λ st store h. h }

-- one more name, in cells behind those in use
pub within_local : (a : Ground) (g : Scope) (d d' e id : ℕ) (ty : Ty) → d ≤ d' → d ≤ e → a.base + e < 2 ^ 64 → Within a g (with_local g e id ty) d d'
within_local a g d d' e id ty le low fit =
    let q : from_base a.base e ≡ a.base + e = low_place a.base e fit in
    let more : length (with_local g e id ty).locals ≡ length g.locals + 1 = length-append g.locals _ in
    record {
      structs = refl;
      spares = λ m m' p i x y o. p i x (omega arith) (outside_more a.base g.locals _ i (inl (omega arith)) o);
      stores = λ st store h. record {
        tops = h.tops;
        locals = subst (Hold g.structs (seen st).cells a.base g.locals)
            (take-take (length g.locals) (length (with_local g e id ty).locals) store.locals (omega arith))
            (hold_front g.structs (seen st).cells a.base g.locals _ (take (length (with_local g e id ty).locals) store.locals) h.locals);
        size_is = h.size_is;
        room = h.room;
      };
    }

-- a free cell before those of a name is outside
pub outside_local : (base d e id o i : ℕ) (g : Scope) (ty : Ty) → InOrder base base (base + d) g.locals → d ≤ o → o < e → base + e < 2 ^ 64 →
    i ≡ base + o → Outside base (with_local g e id ty).locals i
outside_local base d e id o i g ty h low lt fit is =
    let q : from_base base e ≡ base + e = low_place base e fit in
    outside_more base g.locals _ i (inl (omega arith)) (outside_order base base (base + d) g.locals i h (omega arith))

-- the names that the larger scope has beside those of the smaller one leave it
pub stands_left : (a : Ground) (g g' : Scope) (d d' place : ℕ) (th : Thread) (room : Room) (s : State) → Within a g g' d d' →
    InOrder a.base 0 a.top g.tops → InOrder a.base a.base (a.base + d) g.locals → Stands a g' d' place th room s →
    Stands a g d place th room (leave (length g.locals) s)
stands_left a g g' d d' place th room s within tops_in locals_in h =
    let held = within.stores (Alone th room) s.store (holds_store a g' d' place th room s h) in
    record {
      held = record {
        tops = held.tops;
        locals = held.locals;
        tops_in = tops_in;
        locals_in = locals_in;
        used = h.held.used;
        limit = h.held.limit;
        apart = h.held.apart;
        room = h.held.room;
        small = h.held.small;
      };
      place_is = h.place_is;
      base_is = h.base_is;
      calls_are = h.calls_are;
      deep_is = h.deep_is;
      taken = h.taken;
      size_is = h.size_is;
      room_fits = h.room_fits;
    }

-- a component in a larger scope, since an earlier memory
pub inner_arrives : (A : Arriving) (a : Ground) (g g' : Scope) (input out : Ty) (d d' place : ℕ) (m : Memory) (c : Comp) (th : Thread) (room : Room)
    (s : State) → ComponentArrives a c → Within a g g' d d' → Solid a g' → Flows a.st g' a.n input out d' c →
    CodeAt a.code place (flow_code a.st g' input d' c) → length a.calls + depth_of a.st c ≤ a.deep → Covers a.shape (shape_of a.st c) →
    Stands a g' d' place th room s → Spares a.top a.base d g m th.memory →
    ((v : Val) (s' : State) (st' : Stage) → Arrived a g' d' (value_in a.st g' input d' c) (place + length (flow_code a.st g' input d' c)) th.memory v s' st' →
    A v s' st') →
    Arrives A (watched a g d input out m) a.code (proc (around a.core) a.procs c s) (Alone th room)
inner_arrives A a g g' input out d d' place m c th room s arrives within solid flows at deep covers h p f =
    arrives_holds (Arrived a g' d' (value_in a.st g' input d' c) (place + length (flow_code a.st g' input d' c)) th.memory) A
    (watched a g' d' input out th.memory) (watched a g d input out m) a.code (proc (around a.core) a.procs c s) (Alone th room) f
    (λ st' store z. record {
      held = within.stores st' store z.held;
      spared = spares_then a.top a.base d g m th.memory (seen st') p (within.spares th.memory (seen st') z.spared);
    })
    (λ x y. subst (λ structs. Shaped structs input x) (sym within.structs) y) (λ x y. subst (λ structs. Shaped structs out x) within.structs y)
    (arrives g' input out d' place th room s solid flows at deep covers h)
