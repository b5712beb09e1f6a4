-- A call of an instance arrives, where the instance's code does what the instance does.
use Rattle.std.specs.Prelude.{ℕ, suc, ◌+◌, ◌<◌, ◌≤◌, ◌^◌, max, List, [], ◌∷◌, ◌++◌, Bool, true, false, Option, Some, ◌≡◌, refl, length, nat_lt, slice_get, take}
use Rattle.std.proofs.Common.{ap, ◌∙◌, sym, subst, arith}
use Rattle.zir_tree.specs.declared.value.Val.{Val, List as Vals}
use Rattle.zir_tree.specs.declared.ident.Ident.{Ident}
use Rattle.zir_tree.specs.declared.types.Ty.{Ty}
use Rattle.zir_tree.specs.declared.expr.Expr.{Expr}
use Rattle.zir_tree.specs.declared.comp.Comp.{Call}
use Rattle.zir_tree.specs.declared.program.Core.{Core}
use Rattle.zir_meaning.specs.Values.{parts}
use Rattle.zir_meaning.specs.Store.{Store}
use Rattle.zir_meaning.specs.Trace.{State}
use Rattle.zir_meaning.specs.Evaluation.{Eval, Got, Traps, RunsOut, Library, then_eval, ev, ev_list}
use Rattle.zir_meaning.specs.Instances.{around}
use Rattle.zir_cells.specs.Cells.{cells_of}
use Rattle.zir_laws.specs.Process.{Proc, NextProc, with_proc, arguments_proc, tick_proc}
use Rattle.zir_laws.proofs.Evaluating.{EvalKeeps, evaluates-got}
use Rattle.zir_laws.proofs.Expressions.{evaluates-list}
use Rattle.zir_laws.proofs.Functions.{evaluates-library}
use Rattle.zir_shapes.specs.Shapes.{Shaped}
use Rattle.zir_shapes.proofs.PartCells.{parts-list}
use Rattle.zir_expr.specs.Memory.{after, from_base}
use Rattle.zir_expr.specs.Memory.Frames.{Memory}
use Rattle.zir_expr.specs.Running.{go_all}
use Rattle.zir_code.specs.Scopes.{Scope}
use Rattle.zir_code.specs.Types.{type_or_unit, cells_for}
use Rattle.zir_code.specs.Coding.{code_of_all}
use Rattle.zir_code.specs.Peaks.{peak_of_all}
use Rattle.zir_code.specs.Typing.{AllFit}
use Rattle.zir_code.specs.Holding.{At, Hold, Holds, Spares, Kept, Ends as EndsAs}
use Rattle.zir_code.specs.Calls.{CellsAre}
use Rattle.zir_code.proofs.Agreeing.{then-done}
use Rattle.zir_code.proofs.Kept.{low_place, same_hold, holds_kept}
use Rattle.zir_code.proofs.Calls.{a_tick, tops_hold, tops_order}
use Rattle.zir_code.proofs.Calling.{arguments_agree}
use Rattle.zir_flow.specs.declared.instruction.Caller.{Caller}
use Rattle.zir_flow.specs.declared.instruction.Instruction.{Instruction}
use Rattle.zir_flow.specs.declared.instruction.Instruction.TheVariants.{Run, Tick, Enter}
use Rattle.zir_flow.specs.Threads.{Thread, enter_if, next_with}
use Rattle.zir_flow.specs.Stages.{Stage, Alone, Room, seen}
use Rattle.zir_flow.specs.Kinds.{Entry, valued}
use Rattle.zir_flow.specs.Flowing.{enter_code}
use Rattle.zir_flow.specs.Fitting.{EmitsFit, entry_depth, entry_shape}
use Rattle.zir_flow.specs.Program.{CodeAt}
use Rattle.zir_flow.proofs.Playing.{Arrives, arrives_on, arrives_holds}
use Rattle.zir_flow.proofs.Standing.{Ground, Covers, Stands, HoldsKept, watched, Arrived, SameBelow, HoldsCalled, watched_call, Returned, moved_to, Solid, ComponentArrives}
use Rattle.zir_flow.proofs.Straight.{code_here, code_next, code_ends, goes_to, spares_kept, locals_all, straight_arrives, expressions_agree, ticked_state, ticked_thread, tick_arrives}

-- ARGUMENTS

-- an evaluation, another behind it, and what follows both
with_then : (r : Eval) (f : Val → State → Eval) (next : NextProc) → with_proc (then_eval r f) next ≡ with_proc r (λ v s. with_proc (f v s) next)
with_then (Got v s) f next = refl
with_then (Traps t s) f next = refl
with_then RunsOut f next = refl

-- what follows may be another process that is the same
with_same : (r : Eval) (f f' : NextProc) → ((v : Val) (s : State) → f v s ≡ f' v s) → with_proc r f ≡ with_proc r f'
with_same (Got v s) f f' e = e v s
with_same (Traps t s) f f' e = refl
with_same RunsOut f f' e = refl

-- the values of arguments as an array
abbrev together : List Val → State → Eval
together vs s = Got (Vals vs) s

-- arguments are evaluated one after the other, and what follows has them all
arguments_together : (l : Library) (es : List Expr) (vs : List Val) (s : State) (next : List Val → State → Proc) →
    arguments_proc l es vs s next ≡ with_proc (ev_list l es vs s together) (λ v s'. next (parts v) s')
arguments_together l [] vs s next = ap (λ us. next us s) (sym (parts-list vs))
arguments_together l (e ∷ es) vs s next =
    with_same (ev l e s) (λ v s'. arguments_proc l es (vs ++ v ∷ []) s' next)
    (λ v s'. with_proc (ev_list l es (vs ++ v ∷ []) s' together) (λ w s''. next (parts w) s''))
    (λ v s'. arguments_together l es (vs ++ v ∷ []) s' next)
    ∙ sym (with_then (ev l e s) (λ v s'. ev_list l es (vs ++ v ∷ []) s' together) (λ w s''. next (parts w) s''))

-- arguments take no element
arguments_keep : (core : Core) (es : List Expr) (s : State) → EvalKeeps s (ev_list (around core).library es [] s together)
arguments_keep core es s =
    (evaluates-list (around core).library (evaluates-library core.structs core.functions) es [] together (λ vs. evaluates-got (Vals vs))).keeps s

-- the code of arguments puts them one behind the other into the first free cells
arguments_end : (a : Ground) (g : Scope) (d : ℕ) (ts : List Ty) (es : List Expr) (m : Memory) (s : State) → Solid a g → AllFit g a.n ts es →
    peak_of_all g es d ≤ a.n → Holds a.top a.base d a.n g m s →
    EndsAs (λ v s' m'. CellsAre g.structs m'.cells (a.base + d) ts (parts v) × Kept a.top a.base d g m m' s s') (λ s' m'. Kept a.top a.base d g m m' s s')
    (ev_list (around a.core).library es [] s together) (go_all (code_of_all g es d) a.base m)
arguments_end a g d ts es m s solid fit peak h =
    let P : Val → State → Memory → Type 0 = λ v s' m'. CellsAre g.structs m'.cells (a.base + d) ts (parts v) × Kept a.top a.base d g m m' s s' in
    let Q : State → Memory → Type 0 = λ s' m'. Kept a.top a.base d g m m' s s' in
    subst (λ q. EndsAs P Q (ev_list (around a.core).library es [] s together) q) (then-done (go_all (code_of_all g es d) a.base m) a.base)
    (arguments_agree es P Q a.top a.base d a.n (around a.core).library g d [] ts [] m m s s together (go_all [] a.base) expressions_agree solid.functions
    (omega arith) peak fit h (holds_kept a.top a.base d d a.n g m s h) tt (λ s' m' k. k)
    (λ vs s' m' k c. (subst (CellsAre g.structs m'.cells (a.base + d) ts) (sym (parts-list vs)) c, k)))

-- ENTERING

may_enter : (b : Bool) (x y : ℕ) → nat_lt x y ≡ b → x < y → b ≡ true
may_enter true x y e h = refl
may_enter false x y e h = absurd (a_tick x y e h)

-- what holds where the caller has called
record Calling (a : Ground) (g : Scope) (d place : ℕ) (m0 : Memory) (th : Thread) (room : Room) (s : State) : Type 0 where
  pub stands : Stands a g d place th room s
  pub spared : Spares a.top a.base d g m0 th.memory

-- the ground of the body that is called
abbrev body_ground : Ground → ℕ → ℕ → Thread → Ground
body_ground a d n th = moved_to a (a.base + d) n a.shape (record { place = after th.place; base = th.base } ∷ a.calls)

-- the names of the caller stand where they stood
locals_stay : (a : Ground) (g : Scope) (d n place : ℕ) (m0 m : Memory) (th : Thread) (room : Room) (s : State) → Calling a g d place m0 th room s →
    SameBelow (body_ground a d n th) th.memory m → length m.cells ≡ a.size → Hold g.structs m.cells a.base g.locals s.store.locals
locals_stay a g d n place m0 m th room s c same size =
    let h = c.stands in
    let apart : a.top ≤ a.base = h.held.apart in
    same_hold g.structs th.memory.cells m.cells a.base a.base (a.base + d) g.locals s.store.locals (size ∙ sym h.size_is)
    (λ i x y. same i (omega arith) y) h.held.locals_in h.held.locals

-- the body has come back
came_back : (a : Ground) (g : Scope) (d place : ℕ) (m0 : Memory) (th : Thread) (room : Room) (s : State) (e : Entry) (v : Val) (s' : State) (st : Stage) →
    Solid a g → place + 1 < 2 ^ 64 → d ≤ a.n → Calling a g d place m0 th room s →
    Returned (body_ground a d e.needs th) g.structs g.tops e (record { place = after th.place; base = th.base }) a.calls th.memory s.store.locals v s' st →
    Arrived a g d e.value (place + 1) m0 v s' st
came_back a g d place m0 th room s e v s' st solid lt le c r =
    let h = c.stands in
    let big : a.base + a.n ≤ length th.memory.cells = h.held.room in
    let small : length th.memory.cells < 2 ^ 63 = h.held.small in
    let size : length r.th.memory.cells ≡ length th.memory.cells = r.size_is ∙ sym h.size_is in
    let q : from_base a.base d ≡ a.base + d = low_place a.base d (omega arith) in
    record {
      th = r.th;
      room = r.room;
      alone = r.alone;
      stands = record {
        held = record {
          tops = tops_hold g.structs r.th.memory.cells (a.base + d) a.base g.tops s'.store.tops solid.functions.all_top r.tops_held;
          locals = subst (Hold g.structs r.th.memory.cells a.base g.locals) (sym r.locals_are)
              (locals_stay a g d e.needs place m0 r.th.memory th room s c r.same r.size_is);
          tops_in = h.held.tops_in;
          locals_in = h.held.locals_in;
          used = r.used;
          limit = r.limit;
          apart = h.held.apart;
          room = omega arith;
          small = omega arith;
        };
        place_is = r.place_is ∙ ap after h.place_is ∙ (let z : after place ≡ place + 1 = omega arith in z);
        base_is = r.base_is ∙ h.base_is;
        calls_are = r.calls_are;
        deep_is = r.deep_is;
        taken = r.taken;
        size_is = r.size_is;
        room_fits = r.room_fits;
      };
      value = record {
        is = r.is;
        has = r.has;
        shape = r.value.0;
        cells = subst (λ z. At (seen z).cells (from_base a.base d) (cells_of v)) (sym r.alone)
            (subst (λ i. At r.th.memory.cells i (cells_of v)) (sym q) r.value.1);
      };
      spared = λ i x y o. r.same i x y ∙ c.spared i x y o;
    }

-- what is seen of the body is seen of its caller
seen_called : (a : Ground) (g : Scope) (d place n : ℕ) (m0 : Memory) (th : Thread) (room : Room) (s : State) (st : Stage) (store : Store) →
    Solid a g → Calling a g d place m0 th room s → HoldsCalled (body_ground a d n th) g.structs g.tops th.memory s.store.locals st store →
    HoldsKept a g d m0 st store
seen_called a g d place n m0 th room s st store solid c z =
    let m : Memory = seen st in
    let locals : Hold g.structs m.cells a.base g.locals s.store.locals = locals_stay a g d n place m0 m th room s c z.same z.size_is in
    record {
      held = record {
        tops = tops_hold g.structs m.cells (a.base + d) a.base g.tops store.tops solid.functions.all_top z.tops_held;
        locals = subst (λ slots. Hold g.structs m.cells a.base g.locals (take (length g.locals) slots)) (sym z.locals_are)
            (subst (Hold g.structs m.cells a.base g.locals) (sym (locals_all g.structs m.cells a.base g.locals s.store.locals locals)) locals);
        size_is = z.size_is;
        room = z.room_fits;
      };
      spared = λ i x y o. z.same i x y ∙ c.spared i x y o;
    }

-- from the call on
enter_arrives : (a : Ground) (g : Scope) (input out : Ty) (d place k : ℕ) (e : Entry) (vs : List Val) (m0 : Memory) (rest : List Instruction) (th : Thread)
    (room : Room) (s : State) → Solid a g → a.st.entries k ≡ Some e → e.input ≡ input → EmitsFit e.emits out →
    d + max (cells_for g (type_or_unit e.value)) e.needs ≤ a.n → CodeAt a.code place (Enter e.place d ∷ rest) → length a.calls + suc e.depth ≤ a.deep →
    Covers a.shape e.shape → CellsAre g.structs th.memory.cells (a.base + d) e.params vs → Calling a g d place m0 th room s →
    Arrives (Arrived a g d e.value (place + 1) m0) (watched a g d input out m0) a.code (a.procs k vs s) (Alone th room)
enter_arrives a g input out d place k e vs m0 rest th room s solid has takes gives fit c deep cover args z =
    let h = z.stands in
    let big : a.base + a.n ≤ length th.memory.cells = h.held.room in
    let small : length th.memory.cells < 2 ^ 63 = h.held.small in
    let apart : a.top ≤ a.base = h.held.apart in
    let code : place + suc (length rest) ≤ length a.code = code_ends a.code place (Enter e.place d ∷ rest) c in
    let lt : length a.code < 2 ^ 32 = solid.small in
    let q : from_base th.base d ≡ a.base + d = ap (λ b. from_base b d) h.base_is ∙ low_place a.base d (omega arith) in
    let caller : Caller = record { place = after th.place; base = th.base } in
    let th' : Thread = record th { place = e.place; base = from_base th.base d; calls = caller ∷ th.calls } in
    let many : length th.calls ≡ length a.calls = ap length h.calls_are in
    let less : nat_lt (length th.calls) th.deep ≡ true =
    may_enter (nat_lt (length th.calls) th.deep) (length th.calls) th.deep refl (let y : th.deep ≡ a.deep = h.deep_is in omega arith) in
    arrives_on (Arrived a g d e.value (place + 1) m0) (watched a g d input out m0) a.code (a.procs k vs s) (Alone th room) (Alone th' room)
    (goes_to a.code (Enter e.place d) th th' room (ap (slice_get a.code) h.place_is ∙ code_here a.code place (Enter e.place d) rest c)
    (ap (λ b. enter_if b e.place d th) less))
    (arrives_holds
    (Returned (body_ground a d e.needs th) g.structs g.tops e caller a.calls th.memory s.store.locals)
    (Arrived a g d e.value (place + 1) m0)
    (watched_call (body_ground a d e.needs th) g.structs g.tops e.input out th.memory s.store.locals)
    (watched a g d input out m0) a.code (a.procs k vs s) (Alone th' room)
    (λ v s' st r. came_back a g d place m0 th room s e v s' st solid (omega arith) (omega arith) z r)
    (λ st store y. seen_called a g d place e.needs m0 th room s st store solid z y)
    (λ x y. subst (λ t. Shaped g.structs t x) (sym takes) y) (λ x y. y)
    (solid.entries k e has (a.base + d) e.needs a.shape (caller ∷ a.calls) caller a.calls vs out th' room s refl cover gives (record {
      tops_held = tops_hold g.structs th.memory.cells a.base (a.base + d) g.tops s.store.tops solid.functions.all_top h.held.tops;
      tops_in = tops_order a.base (a.base + d) 0 a.top g.tops solid.functions.all_top h.held.tops_in;
      arguments = args;
      used = h.held.used;
      limit = h.held.limit;
      apart = omega arith;
      fits = omega arith;
      small = small;
      place_is = refl;
      base_is = q;
      calls_are = ap (λ cs. caller ∷ cs) h.calls_are;
      deep_is = h.deep_is;
      depth = omega arith;
      taken = h.taken;
      size_is = h.size_is;
      room_fits = h.room_fits;
    })))

-- a call
pub call_arrives : (a : Ground) (name : Ident) (k : ℕ) (es : List Expr) → ComponentArrives a (Call name k es)
call_arrives a name k es g input out d place th room s solid f c deep cover h =
    let e : Entry = f.0 in
    let o : Option Entry = a.st.entries k in
    let has : o ≡ Some e = f.1 in
    let lt : length a.code < 2 ^ 32 = solid.small in
    let c' : CodeAt a.code place (Run (code_of_all g es d) ∷ Tick ∷ Enter e.place d ∷ []) =
    subst (λ o. CodeAt a.code place (Run (code_of_all g es d) ∷ Tick ∷ enter_code o d)) has c in
    let c1 : CodeAt a.code (place + 1) (Tick ∷ Enter e.place d ∷ []) = code_next a.code place (Run (code_of_all g es d)) _ c' in
    let c2 : CodeAt a.code (place + 1 + 1) (Enter e.place d ∷ []) = code_next a.code (place + 1) Tick _ c1 in
    let deep' : length a.calls + suc e.depth ≤ a.deep = subst (λ o. length a.calls + entry_depth o ≤ a.deep) has deep in
    let cover' : Covers a.shape e.shape = subst (λ o. Covers a.shape (entry_shape o)) has cover in
    let next : List Val → State → Proc = λ vs s'. tick_proc s' (λ s''. a.procs k vs s'') in
    subst (λ o. Arrives (Arrived a g d (valued o) (place + suc (suc (length (enter_code o d)))) th.memory) (watched a g d input out th.memory) a.code
    (arguments_proc (around a.core).library es [] s next) (Alone th room)) (sym has)
    (subst (λ p. Arrives (Arrived a g d e.value (place + 3) th.memory) (watched a g d input out th.memory) a.code p (Alone th room))
    (sym (arguments_together (around a.core).library es [] s next))
    (subst (λ p. Arrives (Arrived a g d e.value p th.memory) (watched a g d input out th.memory) a.code
    (with_proc (ev_list (around a.core).library es [] s together) (λ v s'. next (parts v) s')) (Alone th room))
    (let z : place + 1 + 1 + 1 ≡ place + 3 = omega arith in z)
    (straight_arrives (λ v s' m. CellsAre g.structs m.cells (a.base + d) e.params (parts v))
    (Arrived a g d e.value (place + 1 + 1 + 1) th.memory) (watched a g d input out th.memory) a g d place (code_of_all g es d) (Tick ∷ Enter e.place d ∷ [])
    th room s (ev_list (around a.core).library es [] s together) (λ v s'. next (parts v) s') lt c' h (arguments_keep a.core es s)
    (arguments_end a g d e.params es th.memory s solid f.4 f.5 h.held)
    (λ v s1 m args k1 h1. tick_arrives (Arrived a g d e.value (place + 1 + 1 + 1) th.memory) (watched a g d input out th.memory) a g d (place + 1)
    (Enter e.place d ∷ []) (next_with th m) room s1 (λ s''. a.procs k (parts v) s'') lt c1 h1
    (λ l left h2. enter_arrives a g input out d (place + 1 + 1) k e (parts v) th.memory [] (ticked_thread (next_with th m)) room (ticked_state s1 l) solid
    has f.2 f.3 f.6 c2 deep' cover' args
    (record { stands = h2; spared = spares_kept a.top a.base d g th.memory m s s1 k1 }))))))
