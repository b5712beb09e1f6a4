-- The instances of a program: the code of each does what the instance does, over those before it.
use Rattle.std.specs.Prelude.{ℕ, suc, ◌+◌, ◌<◌, ◌≤◌, ◌^◌, List, [], ◌∷◌, ◌++◌, Bool, true, false, Option, Some, None, ◌≡◌, refl, length, nat_eq, slice_get}
use Rattle.std.proofs.Common.{ap, ◌∙◌, sym, subst, arith, inl, length-append}
use Rattle.zir_tree.specs.declared.value.Val.{Val}
use Rattle.zir_tree.specs.declared.value.Slot.{Slot}
use Rattle.zir_tree.specs.declared.ends.End.{End}
use Rattle.zir_tree.specs.declared.ends.End.TheVariants.{Value, Starved, Trap as Trapped, Spent}
use Rattle.zir_tree.specs.declared.types.Ty.{Ty}
use Rattle.zir_tree.specs.declared.types.StructDef.{StructDef}
use Rattle.zir_tree.specs.declared.comp.Comp.{Comp}
use Rattle.zir_tree.specs.declared.program.Instance.{Instance}
use Rattle.zir_meaning.specs.Store.{Store}
use Rattle.zir_meaning.specs.Trace.{State}
use Rattle.zir_meaning.specs.Functions.{entered, back, pick}
use Rattle.zir_meaning.specs.Instances.{around}
use Rattle.zir_cells.specs.Cells.{cells_of}
use Rattle.zir_laws.specs.Process.{Proc, Gives, Ends, Needs, Procs, proc}
use Rattle.zir_laws.specs.Acts.{seen_proc, called_proc, no_procs, one_more_proc, more_procs, calls_of}
use Rattle.zir_laws.proofs.Proceeding.{Proceeds, proceeds-spent, proceeds-called}
use Rattle.zir_laws.proofs.Components.{proceeds-proc}
use Rattle.zir_laws.proofs.Functions.{evaluates-library}
use Rattle.zir_shapes.specs.Shapes.{Shaped}
use Rattle.zir_shapes.proofs.Fitting.{sizes-fit}
use Rattle.zir_expr.specs.declared.frame.Spot.TheVariants.{Local}
use Rattle.zir_expr.specs.declared.steps.Step.{Step}
use Rattle.zir_expr.specs.Memory.{from_base, place_of}
use Rattle.zir_expr.specs.Memory.Frames.{Memory}
use Rattle.zir_expr.specs.Running.{go_all}
use Rattle.zir_code.specs.declared.scope.Holder.{Holder}
use Rattle.zir_code.specs.Scopes.{Scope}
use Rattle.zir_code.specs.Types.{type_or_unit, cells_for}
use Rattle.zir_code.specs.Coding.{settling}
use Rattle.zir_code.specs.Holding.{At, InOrder, Outside}
use Rattle.zir_code.specs.Bodies.{cells_of_all, inside}
use Rattle.zir_code.specs.Calls.{CellsAre, Calls}
use Rattle.zir_code.proofs.Kept.{low_place, Changed}
use Rattle.zir_code.proofs.Stores.{hold_other}
use Rattle.zir_code.proofs.Bodies.{begun}
use Rattle.zir_code.proofs.Program.{are_arguments}
use Rattle.zir_flow.specs.declared.instruction.Caller.{Caller}
use Rattle.zir_flow.specs.declared.instruction.Instruction.{Instruction}
use Rattle.zir_flow.specs.declared.instruction.Instruction.TheVariants.{Leave}
use Rattle.zir_flow.specs.Threads.{Thread, left_for}
use Rattle.zir_flow.specs.Stages.{Stage, Alone, Room, seen, handed}
use Rattle.zir_flow.specs.Kinds.{Shape, Entry, Setting, value_in}
use Rattle.zir_flow.specs.Flowing.{run_some, flow_code}
use Rattle.zir_flow.specs.Fitting.{EmitsFit, depth_of}
use Rattle.zir_flow.specs.Playing.{Watch}
use Rattle.zir_flow.specs.Program.{one_more_entry, CodeAt, HasEntry, FitsEntry, HaveEntries, more_entries, top_scope, PlacesOf}
use Rattle.zir_flow.proofs.Reaching.{Reaches, reaches_on}
use Rattle.zir_flow.proofs.Playing.{Arriving, Arrives, ArrivesEnd, arrives_holds}
use Rattle.zir_flow.proofs.Standing.{Ground, Covers, Stands, watched, Arrived, Enters, watched_call, Returned, moved_to, Solid, ComponentArrives}
use Rattle.zir_flow.proofs.Straight.{code_here, code_front, code_back, code_ends, goes_to}
use Rattle.zir_flow.proofs.Further.{GoesOn}
use Rattle.zir_flow.proofs.Settling.{settles_down, Ran, some_run}

-- AS CALLERS SEE IT

end_seen : (A B : Arriving) (w : Watch) (code : List Instruction) (locals : List Slot) (e : End) (s : State) (st : Stage) →
    ((v : Val) (s' : State) (st' : Stage) → A v s' st' → GoesOn B code v (back locals s') st') → ArrivesEnd A code e s st →
    Arrives B w code (seen_proc locals (Ends e s)) st
end_seen A B w code locals (Value v) s st f h = let k = f v s h.0 h.2 in (k.0, reaches_on code st h.0 k.0 h.1 k.1, k.2)
end_seen A B w code locals Starved s st f h = absurd h
end_seen A B w code locals (Trapped t) s st f h =
    record { taken = h.taken; ticks = h.ticks; last = h.last; comes = h.comes; at = record { elements = h.at.elements; used = h.at.used } }
end_seen A B w code locals Spent s st f h = h

-- the process of a called body, at whose points the names of the caller are in scope
seen_arrives : (A B : Arriving) (w w' : Watch) (code : List Instruction) (locals : List Slot) (p : Proc) (st : Stage) →
    ((v : Val) (s' : State) (st' : Stage) → A v s' st' → GoesOn B code v (back locals s') st') →
    ((st' : Stage) (store : Store) → w.holds st' store → w'.holds st' (record store { locals = locals })) →
    ((x : Val) → w'.element x → w.element x) → ((x : Val) → w.output x → w'.output x) → Arrives A w code p st → Arrives B w' code (seen_proc locals p) st
seen_arrives A B w w' code locals (Gives o p) st f g e u h =
    let at = h.1 in (
      h.0,
      record {
        taken = at.taken;
        ticks = at.ticks;
        comes = at.comes;
        at = record { elements = at.at.elements; used = at.at.used };
        holds = g h.0 o.at.store at.holds;
        output = u o.value at.output;
      },
      seen_arrives A B w w' code locals p h.0 f g e u h.2,
    )
seen_arrives A B w w' code locals (Ends x s) st f g e u h = end_seen A B w' code locals x s st f h
seen_arrives A B w w' code locals (Needs s k) st f g e u h =
    let at = h.1 in (
      h.0,
      record {
        taken = at.taken;
        ticks = at.ticks;
        comes = at.comes;
        at = record { elements = at.at.elements; used = at.at.used };
        holds = g h.0 s.store at.holds;
      },
      λ x fits. seen_arrives A B w w' code locals (k x) (handed code (cells_of x) h.0) f g e u (h.2 x (e x fits)),
    )

-- ONE INSTANCE

-- code that begins as an instance called with these arguments does this
abbrev BodyPlays : Ground → List StructDef → List Holder → (List Val → State → Proc) → Entry → Type 0
BodyPlays a structs tops meant e =
    (c : Caller) (calls : List Caller) (vs : List Val) (out : Ty) (th : Thread) (room : Room) (s : State) →
    a.calls ≡ c ∷ calls → Covers a.shape e.shape → EmitsFit e.emits out → Enters a structs tops e vs th room s →
    Arrives (Returned a structs tops e c calls th.memory s.store.locals) (watched_call a structs tops e.input out th.memory s.store.locals) a.code
    (meant vs s) (Alone th room)

-- what stands before the first variable is in the cells of none
outside_before : (base low high i : ℕ) (ds : List Holder) → InOrder base low high ds → i < low → Outside base ds i
outside_before base low high i [] o lt = tt
outside_before base low high i (d ∷ ds) o lt =
    let le = o.0 in (inl (omega arith), outside_before base (place_of base d.spot + d.cells) high i ds o.1 (omega arith))

-- the ground of a body that needs so many cells
abbrev needing : Ground → ℕ → Ground
needing a n = record a { n = n }

-- where the body of an instance begins
body_stands : (a : Ground) (g : Scope) (i : Instance) (e : Entry) (vs : List Val) (th : Thread) (room : Room) (s : State) → HasEntry g a.st a.code i e →
    Enters a g.structs g.tops e vs th room s →
    Stands (needing a e.needs) (inside g i.params) (cells_of_all g i.params) e.place th room (entered i.params vs s)
body_stands a g i e vs th room s h z =
    let fits = z.fits in
    record {
      held = begun a.top a.base e.needs g i.params vs th.memory s (record {
        tops = z.tops_held;
        tops_in = z.tops_in;
        arguments = are_arguments g.structs th.memory.cells a.base i.params vs (subst (λ ts. CellsAre g.structs th.memory.cells a.base ts vs) h.params z.arguments);
        fit = h.fit;
        used = z.used;
        limit = z.limit;
        apart = z.apart;
        room = omega arith;
        small = z.small;
      });
      place_is = z.place_is;
      base_is = z.base_is;
      calls_are = z.calls_are;
      deep_is = z.deep_is;
      taken = z.taken;
      size_is = z.size_is;
      room_fits = z.room_fits;
    }

-- behind its body an instance's value goes to the first cells, and the caller goes on
leaves_body : (a : Ground) (g : Scope) (i : Instance) (e : Entry) (place : ℕ) (c : Caller) (calls : List Caller) (locals : List Slot) (m : Memory) (v : Val)
    (s : State) (st : Stage) → length a.code < 2 ^ 32 → a.calls ≡ c ∷ calls → HasEntry g a.st a.code i e →
    InOrder a.base a.base (a.base + cells_of_all g i.params) (inside g i.params).locals →
    CodeAt a.code place (run_some (settling (Local (cells_of_all g i.params)) 0
    (cells_for g (type_or_unit (value_in a.st (inside g i.params) i.input (cells_of_all g i.params) i.body)))) ++ Leave ∷ []) →
    Arrived (needing a e.needs) (inside g i.params) (cells_of_all g i.params) (value_in a.st (inside g i.params) i.input (cells_of_all g i.params) i.body)
    place m v s st → GoesOn (Returned a g.structs g.tops e c calls m locals) a.code v (back locals s) st
leaves_body a g i e place c calls locals m v s st lt q h order code r =
    let d : ℕ = cells_of_all g i.params in
    let o : Option Ty = value_in a.st (inside g i.params) i.input d i.body in
    let n : ℕ = cells_for g (type_or_unit o) in
    let held = r.stands.held in
    let apart : a.top ≤ a.base = held.apart in
    let big : a.base + e.needs ≤ length r.th.memory.cells = held.room in
    let small : length r.th.memory.cells < 2 ^ 63 = held.small in
    let fit : d + n ≤ e.needs = subst (λ o. d + cells_for g (type_or_unit o) ≤ e.needs) h.value h.value_fits in
    let t : type_or_unit o ≡ r.value.is = ap type_or_unit r.value.has in
    let size : length (cells_of v) ≡ n = sizes-fit g.structs r.value.is v r.value.shape ∙ ap (cells_for g) (sym t) in
    let steps : List Step = settling (Local d) 0 n in
    let w = settles_down a.base d 0 e.needs n (cells_of v) r.th.memory (omega arith) (inl fit) big small size
    (subst (λ z. At (seen z).cells (from_base a.base d) (cells_of v)) r.alone r.value.cells) in
    let m' : Memory = w.memory in
    let c' : Changed (a.base + 0) (a.base + 0 + n) r.th.memory m' = w.so.changed in
    let within : place + length (run_some steps ++ Leave ∷ []) ≤ length a.code = code_ends a.code place _ code in
    let u : length (run_some steps ++ Leave ∷ []) ≡ length (run_some steps) + 1 = length-append (run_some steps) (Leave ∷ []) in
    let ran : Ran a.code (place + length (run_some steps)) r.th r.room m' =
    some_run a.code place steps r.th r.room m' (code_front a.code place (run_some steps) (Leave ∷ []) code) r.stands.place_is (omega arith)
    (ap (λ b. go_all steps b r.th.memory) r.stands.base_is ∙ w.is) in
    let th1 : Thread = record r.th { place = ran.at; memory = m' } in
    let th2 : Thread = record th1 { place = c.place; base = c.base; calls = calls } in
    let here : slice_get a.code th1.place ≡ Some Leave =
    ap (slice_get a.code) ran.is ∙ code_here a.code (place + length (run_some steps)) Leave [] (code_back a.code place (run_some steps) (Leave ∷ []) code) in
    let p : from_base a.base 0 ≡ a.base = low_place a.base 0 (omega arith) ∙ (let z : a.base + 0 ≡ a.base = omega arith in z) in
    let long : length m'.cells ≡ length r.th.memory.cells = c'.size in (
      Alone th2 r.room,
      subst (λ z. Reaches a.code z (Alone th2 r.room)) (sym r.alone)
          (reaches_on a.code (Alone r.th r.room) (Alone th1 r.room) (Alone th2 r.room) ran.reaches
          (goes_to a.code Leave th1 th2 r.room here (ap (λ cs. left_for cs th1) (r.stands.calls_are ∙ q)))),
      record {
        th = th2;
        room = r.room;
        alone = refl;
        is = r.value.is;
        has = h.value ∙ r.value.has;
        value = (r.value.shape, subst (λ j. At m'.cells j (cells_of v)) p w.so.cells, tt);
        tops_held = hold_other g.structs a.base 0 a.top (a.base + 0) (a.base + 0 + n) r.th.memory m' g.tops s.store.tops c' (inl (omega arith)) held.tops_in
            held.tops;
        locals_are = refl;
        same = λ j x y. c'.others j (inl (omega arith)) ∙ r.spared j x (omega arith) (outside_before a.base a.base (a.base + d) j _ order y);
        used = c'.used ∙ held.used;
        limit = c'.limit ∙ held.limit;
        place_is = refl;
        base_is = refl;
        calls_are = refl;
        deep_is = r.stands.deep_is;
        taken = r.stands.taken;
        size_is = long ∙ r.stands.size_is;
        room_fits = r.stands.room_fits;
      },
    )

-- the code of an instance does what a call of it does
body_plays : ((a : Ground) (c : Comp) → ComponentArrives a c) → (a : Ground) (g : Scope) (i : Instance) (e : Entry) → Solid a g →
    HasEntry g a.st a.code i e → BodyPlays a g.structs g.tops (called_proc i.params (proc (around a.core) a.procs i.body)) e
body_plays arrive a g i e solid h c calls vs out th room s q cover gives z =
    let ps = i.params in
    let d : ℕ = cells_of_all g ps in
    let g1 : Scope = inside g ps in
    let b : Ground = needing a e.needs in
    let first : List Instruction = flow_code a.st g1 i.input d i.body in
    let place : ℕ = e.place + length first in
    let stands : Stands b g1 d e.place th room (entered ps vs s) = body_stands a g i e vs th room s h z in
    let order = stands.held.locals_in in
    let depth : depth_of a.st i.body ≤ e.depth = h.depth in
    let deep : length a.calls + e.depth ≤ a.deep = z.depth in
    seen_arrives (Arrived b g1 d (value_in a.st g1 i.input d i.body) place th.memory) (Returned a g.structs g.tops e c calls th.memory s.store.locals)
    (watched b g1 d i.input out th.memory) (watched_call a g.structs g.tops e.input out th.memory s.store.locals) a.code s.store.locals
    (proc (around a.core) a.procs i.body (entered ps vs s)) (Alone th room)
    (λ v s' st r. leaves_body a g i e place c calls s.store.locals th.memory v s' st solid.small q h order (code_back a.code e.place first _ h.code_stands) r)
    (λ st store k. record {
      tops_held = k.held.tops;
      locals_are = refl;
      same = λ j x y. k.spared j x (omega arith) (outside_before a.base a.base (a.base + d) j _ order y);
      size_is = k.held.size_is;
      room_fits = k.held.room;
    })
    (λ x k. subst (λ t. Shaped g.structs t x) h.input k) (λ x k. k)
    (arrive b i.body g1 i.input out d e.place th room (entered ps vs s)
    (record { functions = solid.functions; assigned = solid.assigned; small = solid.small; proceeds = solid.proceeds; entries = solid.entries })
    (h.flows out gives) (code_front a.code e.place first _ h.code_stands) (omega arith) (subst (Covers a.shape) (sym h.shape) cover) stands)

-- ALL INSTANCES

-- a choice between one more instance and those before it
picked : (b : Bool) (a : Ground) (structs : List StructDef) (tops : List Holder) (new old : List Val → State → Proc) (o other : Option Entry) (e : Entry) →
    pick b o other ≡ Some e → (o ≡ Some e → BodyPlays a structs tops new e) → (other ≡ Some e → BodyPlays a structs tops old e) →
    BodyPlays a structs tops (pick b new old) e
picked true a structs tops new old o other e q f h = f q
picked false a structs tops new old o other e q f h = h q

with_entry : ((a : Ground) (c : Comp) → ComponentArrives a c) → (a : Ground) (g : Scope) (i : Instance) (o : Option Entry) (e : Entry) → Solid a g →
    FitsEntry g a.st a.code i o → o ≡ Some e → BodyPlays a g.structs g.tops (called_proc i.params (proc (around a.core) a.procs i.body)) e
with_entry arrive a g i None e solid h q = absurd (cc)
with_entry arrive a g i (Some e') e solid h q =
    let same : e' ≡ e = cc in body_plays arrive a g i e solid (subst (HasEntry g a.st a.code i) same h)

-- the ground with one more instance
abbrev one_more : Ground → ℕ → Instance → Option Entry → Ground
one_more a n i o = record a { st = record a.st { entries = one_more_entry a.st.entries n o }; procs = one_more_proc (around a.core) a.procs n i }

-- what is known of the ground is known of that of another body
solid_moved : (a : Ground) (g : Scope) (base n : ℕ) (shape : Shape) (calls : List Caller) → Solid a g → Solid (moved_to a base n shape calls) g
solid_moved a g base n shape calls s =
    record { functions = s.functions; assigned = s.assigned; small = s.small; proceeds = s.proceeds; entries = s.entries }

-- with other instances the code of a body does the same
plays_over : (a : Ground) (st : Setting) (procs : Procs) (structs : List StructDef) (tops : List Holder) (meant : List Val → State → Proc) (e : Entry) →
    BodyPlays a structs tops meant e → BodyPlays (record a { st = st; procs = procs }) structs tops meant e
plays_over a st procs structs tops meant e f c calls vs out th room s q cover gives z =
    let b : Ground = record a { st = st; procs = procs } in
    let locals : List Slot = s.store.locals in
    arrives_holds (Returned a structs tops e c calls th.memory locals) (Returned b structs tops e c calls th.memory locals)
    (watched_call a structs tops e.input out th.memory locals) (watched_call b structs tops e.input out th.memory locals) a.code (meant vs s) (Alone th room)
    (λ v s' st' r. record {
      th = r.th;
      room = r.room;
      alone = r.alone;
      is = r.is;
      has = r.has;
      value = r.value;
      tops_held = r.tops_held;
      locals_are = r.locals_are;
      same = r.same;
      used = r.used;
      limit = r.limit;
      place_is = r.place_is;
      base_is = r.base_is;
      calls_are = r.calls_are;
      deep_is = r.deep_is;
      taken = r.taken;
      size_is = r.size_is;
      room_fits = r.room_fits;
    })
    (λ st' store h. record { tops_held = h.tops_held; locals_are = h.locals_are; same = h.same; size_is = h.size_is; room_fits = h.room_fits })
    (λ x h. h) (λ x h. h)
    (f c calls vs out th room s q cover gives (record {
      tops_held = z.tops_held;
      tops_in = z.tops_in;
      arguments = z.arguments;
      used = z.used;
      limit = z.limit;
      apart = z.apart;
      fits = z.fits;
      small = z.small;
      place_is = z.place_is;
      base_is = z.base_is;
      calls_are = z.calls_are;
      deep_is = z.deep_is;
      depth = z.depth;
      taken = z.taken;
      size_is = z.size_is;
      room_fits = z.room_fits;
    }))

proceeds_pick : (b : Bool) (p q : List Val → State → Proc) (vs : List Val) → Proceeds (p vs) → Proceeds (q vs) → Proceeds (pick b p q vs)
proceeds_pick true p q vs h k = h
proceeds_pick false p q vs h k = k

one_more_plays : ((a : Ground) (c : Comp) → ComponentArrives a c) → (a : Ground) (g : Scope) (n : ℕ) (i : Instance) (o : Option Entry) → Solid a g →
    FitsEntry g a.st a.code i o → Solid (one_more a n i o) g
one_more_plays arrive a g n i o solid h =
    let new : List Val → State → Proc = called_proc i.params (proc (around a.core) a.procs i.body) in
    record {
      functions = solid.functions;
      assigned = solid.assigned;
      small = solid.small;
      proceeds = λ k vs. proceeds_pick (nat_eq k n) new (a.procs k) vs (proceeds-called i.params (proc (around a.core) a.procs i.body) vs
          (proceeds-proc (around a.core) a.procs (evaluates-library a.core.structs a.core.functions) solid.proceeds i.body)) (solid.proceeds k vs);
      entries = λ k e q base m shape calls. let b : Ground = moved_to a base m shape calls in
          plays_over b (one_more a n i o).st (one_more a n i o).procs g.structs g.tops (one_more_proc (around a.core) a.procs n i k) e
          (picked (nat_eq k n) b g.structs g.tops new (a.procs k) o (a.st.entries k) e q
          (λ z. with_entry arrive b g i o e (solid_moved a g base m shape calls solid) h z) (λ z. solid.entries k e z base m shape calls));
    }

-- the ground with these instances behind n others
abbrev with_more : Ground → ℕ → List Instance → List (Option Entry) → Ground
with_more a n is es = record a { st = record a.st { entries = more_entries a.st.entries n es }; procs = more_procs (around a.core) a.procs n is }

more_play : ((a : Ground) (c : Comp) → ComponentArrives a c) → (is : List Instance) (es : List (Option Entry)) (n : ℕ) (a : Ground) (g : Scope) → Solid a g →
    HaveEntries g a.st a.code n is es → Solid (with_more a n is es) g
more_play arrive [] [] n a g solid h = solid
more_play arrive [] (e ∷ es) n a g solid h = absurd h
more_play arrive (i ∷ is) [] n a g solid h = absurd h
more_play arrive (i ∷ is) (e ∷ es) n a g solid h = more_play arrive is es (suc n) (one_more a n i e) g (one_more_plays arrive a g n i e solid h.0) h.1

-- the code of each instance of a program does what the instance does in it
pub instances_play : ((a : Ground) (c : Comp) → ComponentArrives a c) → (a : Ground) (g : Scope) →
    Calls a.top (around a.core).library g.structs g.tops g.funs → PlacesOf a.core a.top a.size g a.st a.code → length a.code < 2 ^ 32 →
    Solid (record a { procs = calls_of a.core }) g
instances_play arrive a g calls places small =
    let none : Ground = record a { st = record { entries = λ k. None; assigned = a.st.assigned }; procs = no_procs } in
    let begins : Solid none (top_scope g) =
    record { functions = calls; assigned = places.assigned; small = small; proceeds = λ k vs. proceeds-spent; entries = λ k e z. absurd (cc) } in
    let all : Solid (with_more none 0 a.core.instances places.entries) (top_scope g) =
    more_play arrive a.core.instances places.entries 0 none (top_scope g) begins places.have in
    record {
      functions = calls;
      assigned = places.assigned;
      small = small;
      proceeds = all.proceeds;
      entries = λ k e z base n shape calls'. plays_over (moved_to (with_more none 0 a.core.instances places.entries) base n shape calls') a.st (calls_of a.core)
          g.structs g.tops (calls_of a.core k) e (all.entries k e (sym (places.are k) ∙ z) base n shape calls');
    }
