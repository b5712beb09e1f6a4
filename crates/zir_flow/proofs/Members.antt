-- Blocks arrive, member after member, and what is seen of the members is seen of the block.
use Rattle.std.specs.Prelude.{ℕ, suc, ◌+◌, ◌<◌, ◌≤◌, ◌^◌, List, ◌∷◌, ◌++◌, Option, Some, None, ◌≡◌, ◌⊎◌, refl, length}
use Rattle.std.proofs.Common.{ap, ◌∙◌, sym, subst, arith, inl, inr, length-append}
use Rattle.zir_tree.specs.declared.ident.Ident.{Ident}
use Rattle.zir_tree.specs.declared.value.Val.{Val, Unit as UnitVal}
use Rattle.zir_tree.specs.declared.types.Base.TheVariants.{Unit as UnitTy}
use Rattle.zir_tree.specs.declared.types.Ty.{Ty}
use Rattle.zir_tree.specs.declared.types.TypeExpr.{TypeExpr}
use Rattle.zir_tree.specs.declared.expr.Expr.{Expr}
use Rattle.zir_tree.specs.declared.stmt.Var.{Var as VarDecl}
use Rattle.zir_tree.specs.declared.comp.Comp.{Comp, Row_of-Member, end_of-Member, more_of-Member}
use Rattle.zir_tree.specs.declared.comp.Member.{Bind, Var, Run as RunMember}
use Rattle.zir_meaning.specs.Values.{type_of, blank, blanks_of}
use Rattle.zir_meaning.specs.Store.{depth}
use Rattle.zir_meaning.specs.Trace.{State}
use Rattle.zir_meaning.specs.Statements.{bind, leave, initial_of}
use Rattle.zir_meaning.specs.Instances.{around}
use Rattle.zir_cells.specs.Cells.{cells_of}
use Rattle.zir_laws.specs.Process.{Proc, NextProc, then_proc, with_proc, proc, members_proc}
use Rattle.zir_shapes.specs.Shapes.{Shaped, StructsBefore}
use Rattle.zir_shapes.specs.Offsets.{plain_type as plain}
use Rattle.zir_shapes.proofs.Blank.{blanks-have}
use Rattle.zir_shapes.proofs.Fitting.{sizes-fit}
use Rattle.zir_expr.specs.declared.frame.Spot.TheVariants.{Local}
use Rattle.zir_expr.specs.Memory.{from_base}
use Rattle.zir_expr.specs.Memory.Frames.{Memory}
use Rattle.zir_expr.specs.Running.{go_all}
use Rattle.zir_code.specs.declared.scope.Holder.{Holder}
use Rattle.zir_code.specs.Scopes.{Scope}
use Rattle.zir_code.specs.Types.{type_or_unit, cells_for}
use Rattle.zir_code.specs.Coding.{settling}
use Rattle.zir_code.specs.Holding.{At, InOrder, Spares, StandsAt}
use Rattle.zir_code.specs.Statements.{with_local, initial_code}
use Rattle.zir_code.specs.Fine.{InitialFits}
use Rattle.zir_code.proofs.Kept.{low_place, Changed, kept_holds, holds_kept, kept_changed}
use Rattle.zir_code.proofs.Blank.{no_change, blanks_go}
use Rattle.zir_code.proofs.Stores.{hold_length, bound_holds}
use Rattle.zir_flow.specs.declared.instruction.Instruction.{Instruction}
use Rattle.zir_flow.specs.declared.instruction.Instruction.TheVariants.{Run}
use Rattle.zir_flow.specs.Threads.{Thread, next_with}
use Rattle.zir_flow.specs.Stages.{Stage, Alone, Room, seen}
use Rattle.zir_flow.specs.Kinds.{value_in, members_value}
use Rattle.zir_flow.specs.Flowing.{run_some, flow_code, members_code}
use Rattle.zir_flow.specs.Fitting.{MembersFlow, members_depth, depth_of, members_shape, shape_of}
use Rattle.zir_flow.specs.Playing.{Watch}
use Rattle.zir_flow.specs.Program.{CodeAt}
use Rattle.zir_flow.specs.Laws.{ValueStands}
use Rattle.zir_flow.proofs.Playing.{Arriving, Arrives, arrives_then}
use Rattle.zir_flow.proofs.Standing.{Ground, Covers, Stands, watched, Arrived, Solid, ComponentArrives}
use Rattle.zir_flow.proofs.Straight.{code_front, code_back, code_next, code_ends, spares_none, spares_then, spares_kept, spares_changed, place_fits, stands_changed, steps_arrive, settled_arrives, covers_left, covers_right}
use Rattle.zir_flow.proofs.Within.{Within, within_more, within_local, stands_left, inner_arrives}
use Rattle.zir_flow.proofs.Settling.{settles_down, Ran, some_run}

-- BETWEEN MEMBERS

-- a scope with other names
abbrev pub with_names : Scope → List Holder → Scope
with_names g ls = record g { locals = ls }

-- what is known of the ground in one scope is known in the other
pub solid_names : (a : Ground) (g : Scope) (ls : List Holder) → Solid a g → Solid a (with_names g ls)
solid_names a g ls s =
    record { functions = s.functions; assigned = s.assigned; small = s.small; proceeds = s.proceeds; entries = s.entries }

-- a scope inside another one, which is inside a third
within_then : (a : Ground) (g g' g'' : Scope) (d d' d'' : ℕ) → Within a g g' d d' → Within a g' g'' d' d'' → Within a g g'' d d''
within_then a g g' g'' d d' d'' x y = record {
  structs = y.structs ∙ x.structs;
  spares = λ m m' p. x.spares m m' (y.spares m m' p);
  stores = λ st store h. x.stores st store (y.stores st store h);
}

-- where a member begins of a block that began with cells from begin on free, since that memory: the names in scope, the first free cell, where the value of
-- the member before stands, and its type
pub record Between (a : Ground) (g : Scope) (begin : ℕ) (m : Memory) (ls : List Holder) (d at : ℕ) (ty : Ty) (last : Option Ty) (v : Val) (place : ℕ)
    (th : Thread) (room : Room) (s : State) : Type 0 where
  pub stands : Stands a (with_names g ls) d place th room s
  pub within : Within a g (with_names g ls) begin d
  pub spared : Spares a.top a.base begin g m th.memory
  pub order : InOrder a.base a.base (a.base + begin) g.locals
  pub low : begin ≤ d
  pub low_at : begin ≤ at
  pub type_is : ty ≡ type_or_unit last
  pub value : ValueStands g last (from_base a.base at) v (Alone th room)
  pub fits : (at + cells_for g ty ≤ a.n) ⊎ (cells_for g ty ≡ 0)

-- the rest of a block arrives
abbrev pub MembersArrive : {k : _} → Ground → Row_of-Member k → Type 0
MembersArrive a ms =
    (g : Scope) (input out : Ty) (begin d at : ℕ) (m : Memory) (ls : List Holder) (ty : Ty) (last : Option Ty) (v : Val) (place : ℕ) (th : Thread) (room : Room)
    (s : State) → Solid a g → MembersFlow a.st (with_names g ls) a.n input out d ms →
    CodeAt a.code place (members_code a.st (with_names g ls) input begin d at ty ms) → length a.calls + members_depth a.st ms ≤ a.deep →
    Covers a.shape (members_shape a.st ms) → Between a g begin m ls d at ty last v place th room s →
    Arrives (Arrived a g begin (members_value a.st (with_names g ls) input d last ms)
    (place + length (members_code a.st (with_names g ls) input begin d at ty ms)) m) (watched a g begin input out m) a.code
    (members_proc (around a.core) a.procs ms (length g.locals) v s) (Alone th room)

-- the type of a value is that which its component has
type_found : (o : Option Ty) (t : Ty) → o ≡ Some t → type_or_unit o ≡ t
type_found o t e = ap type_or_unit e

-- the end of a block
pub ends_block : (a : Ground) → MembersArrive a end_of-Member
ends_block a g input out begin d at m ls ty last v place th room s solid f c deep cover b =
    let n : ℕ = cells_for g ty in
    let h : Stands a g begin place th room (leave (length g.locals) s) =
    stands_left a g (with_names g ls) begin d place th room s b.within b.stands.held.tops_in b.order b.stands in
    let held = h.held in
    let lt : length a.code < 2 ^ 32 = solid.small in
    let code : List Instruction = run_some (settling (Local at) begin n) in
    let within : place + length code ≤ length a.code = code_ends a.code place code c in
    let t : ty ≡ b.value.is = b.type_is ∙ type_found last b.value.is b.value.has in
    let size : length (cells_of v) ≡ n = sizes-fit g.structs b.value.is v b.value.shape ∙ ap (cells_for g) (sym t) in
    let w = settles_down a.base at begin a.n n (cells_of v) th.memory b.low_at b.fits held.room held.small size b.value.cells in
    let m' : Memory = w.memory in
    let c' : Changed (a.base + begin) (a.base + begin + n) th.memory m' = w.so.changed in
    let r : Ran a.code (place + length code) th room m' =
    some_run a.code place (settling (Local at) begin n) th room m' c h.place_is (omega arith)
    (ap (λ i. go_all (settling (Local at) begin n) i th.memory) h.base_is ∙ w.is) in (
      Alone (record th { place = r.at; memory = m' }) room,
      r.reaches,
      record {
        th = record th { place = r.at; memory = m' };
        room = room;
        alone = refl;
        stands = record {
          held = kept_holds a.top a.base begin begin a.n g th.memory m' (leave (length g.locals) s) (leave (length g.locals) s) (omega arith) held
              (kept_changed a.top a.base begin (a.base + begin) (a.base + begin + n) g th.memory th.memory m' (leave (length g.locals) s)
              (leave (length g.locals) s) held.apart (omega arith) (holds_kept a.top a.base begin begin a.n g th.memory (leave (length g.locals) s) held) c');
          place_is = r.is;
          base_is = h.base_is;
          calls_are = h.calls_are;
          deep_is = h.deep_is;
          taken = h.taken;
          size_is = c'.size ∙ h.size_is;
          room_fits = h.room_fits;
        };
        value = record { is = b.value.is; has = b.value.has; shape = b.value.shape; cells = w.so.cells };
        spared = λ i x y o. c'.others i (inl (omega arith)) ∙ b.spared i x y o;
      },
    )

-- a member that is a component, and then what follows it in the block
member_then : (a : Ground) (g : Scope) (input out : Ty) (begin d at : ℕ) (m : Memory) (ls : List Holder) (ty : Ty) (last : Option Ty) (v : Val) (place : ℕ)
    (th : Thread) (room : Room) (s : State) (c : Comp) (B : Arriving) (next : NextProc) → ComponentArrives a c → Solid a g →
    MembersFlow a.st (with_names g ls) a.n input out d (more_of-Member (RunMember c) end_of-Member) →
    CodeAt a.code place (flow_code a.st (with_names g ls) input d c) → length a.calls + depth_of a.st c ≤ a.deep → Covers a.shape (shape_of a.st c) →
    Between a g begin m ls d at ty last v place th room s →
    ((v' : Val) (s' : State) (th' : Thread) (room' : Room) → Stands a (with_names g ls) d (place + length (flow_code a.st (with_names g ls) input d c)) th' room' s' →
    ValueStands g (value_in a.st (with_names g ls) input d c) (from_base a.base d) v' (Alone th' room') → Spares a.top a.base begin g m th'.memory →
    Arrives B (watched a g begin input out m) a.code (next v' s') (Alone th' room')) →
    Arrives B (watched a g begin input out m) a.code (then_proc (proc (around a.core) a.procs c s) next) (Alone th room)
member_then a g input out begin d at m ls ty last v place th room s c B next hc solid f code deep cover b k =
    let g' : Scope = with_names g ls in
    let A : Arriving = Arrived a g' d (value_in a.st g' input d c) (place + length (flow_code a.st g' input d c)) th.memory in
    arrives_then A B (watched a g begin input out m) a.code (proc (around a.core) a.procs c s) (Alone th room) next
    (inner_arrives A a g g' input out begin d place m c th room s hc b.within (solid_names a g ls solid) f.0 code deep cover b.stands b.spared
    (λ v' s' st r. r))
    (λ v' s' st r. subst (λ z. Arrives B (watched a g begin input out m) a.code (next v' s') z) (sym r.alone)
    (k v' s' r.th r.room r.stands (record {
      is = r.value.is;
      has = r.value.has;
      shape = r.value.shape;
      cells = subst (λ z. At (seen z).cells (from_base a.base d) (cells_of v')) r.alone r.value.cells;
    })
    (spares_then a.top a.base begin g m th.memory r.th.memory b.spared (b.within.spares th.memory r.th.memory r.spared))))

-- the value of a component comes into scope
bound_between : (a : Ground) (g : Scope) (begin d : ℕ) (m : Memory) (ls : List Holder) (id : ℕ) (o : Option Ty) (v : Val) (place : ℕ) (th : Thread)
    (room : Room) (s : State) → Within a g (with_names g ls) begin d → InOrder a.base a.base (a.base + begin) g.locals → begin ≤ d →
    d + cells_for g (type_or_unit o) ≤ a.n → Stands a (with_names g ls) d place th room s → ValueStands g o (from_base a.base d) v (Alone th room) →
    Spares a.top a.base begin g m th.memory →
    Between a g begin m (with_local (with_names g ls) d id (type_or_unit o)).locals (d + cells_for g (type_or_unit o)) d (type_or_unit o)
    (Some (type_or_unit o)) v place th room (bind id v s)
bound_between a g begin d m ls id o v place th room s within order low fits h x spared =
    let u : Ty = type_or_unit o in
    let big : a.base + a.n ≤ length th.memory.cells = h.held.room in
    let small : length th.memory.cells < 2 ^ 63 = h.held.small in
    let q : from_base a.base d ≡ a.base + d = low_place a.base d (omega arith) in
    let shape : Shaped g.structs u v = subst (λ t. Shaped g.structs t v) (sym (type_found o x.is x.has)) x.shape in
    record {
      stands = record {
        held = bound_holds a.top a.base d a.n (with_names g ls) th.memory th.memory s id u v fits shape (subst (λ i. At th.memory.cells i (cells_of v)) q x.cells)
            (no_change (a.base + d) (a.base + d + cells_for g u) th.memory) h.held;
        place_is = h.place_is;
        base_is = h.base_is;
        calls_are = h.calls_are;
        deep_is = h.deep_is;
        taken = h.taken;
        size_is = h.size_is;
        room_fits = h.room_fits;
      };
      within = within_then a g (with_names g ls) (with_local (with_names g ls) d id u) begin d (d + cells_for g u) within
          (within_local a (with_names g ls) d (d + cells_for g u) d id u (omega arith) (omega arith) (omega arith));
      spared = spared;
      order = order;
      low = omega arith;
      low_at = low;
      type_is = refl;
      value = record { is = u; has = refl; shape = shape; cells = x.cells };
      fits = inl fits;
    }

-- behind the code of a member
behind : (A : ℕ → Arriving) (w : Watch) (code : List Instruction) (p : Proc) (st : Stage) (place : ℕ) (xs ys : List Instruction) →
    Arrives (A (place + length xs + length ys)) w code p st → Arrives (A (place + length (xs ++ ys))) w code p st
behind A w code p st place xs ys h =
    let e : length (xs ++ ys) ≡ length xs + length ys = length-append xs ys in
    let e' : place + length xs + length ys ≡ place + length (xs ++ ys) = omega arith in
    subst (λ k. Arrives (A k) w code p st) e' h

-- a member whose value gets a name
pub binds_member : {k : _} (a : Ground) (name : Ident) (c : Comp) (ms : Row_of-Member k) → ComponentArrives a c → MembersArrive a ms →
    MembersArrive a (more_of-Member (Bind name c) ms)
binds_member a name c ms hc hms g input out begin d at m ls ty last v place th room s solid f code deep cover b =
    let g' : Scope = with_names g ls in
    let o : Option Ty = value_in a.st g' input d c in
    let u : Ty = type_or_unit o in
    let ls' : List Holder = (with_local g' d name.id u).locals in
    let first : List Instruction = flow_code a.st g' input d c in
    let rest : List Instruction = members_code a.st (with_names g ls') input begin (d + cells_for g u) d u ms in
    let value : Option Ty = members_value a.st (with_names g ls') input (d + cells_for g u) (Some u) ms in
    behind (λ p. Arrived a g begin value p m) (watched a g begin input out m) a.code _ (Alone th room) place first rest
    (member_then a g input out begin d at m ls ty last v place th room s c (Arrived a g begin value (place + length first + length rest) m)
    (λ w s'. members_proc (around a.core) a.procs ms (length g.locals) w (bind name.id w s')) hc solid (f.0, f.1, tt) (code_front a.code place first rest code)
    (omega arith) (covers_left a.shape _ _ cover) b
    (λ v' s' th' room' h x spared.
    hms g input out begin (d + cells_for g u) d m ls' u (Some u) v' (place + length first) th' room' (bind name.id v' s') solid f.2
    (code_back a.code place first rest code) (omega arith) (covers_right a.shape _ _ cover)
    (bound_between a g begin d m ls name.id o v' (place + length first) th' room' s' b.within b.order b.low f.1 h x spared)))

-- a member that runs
pub runs_member : {k : _} (a : Ground) (c : Comp) (ms : Row_of-Member k) → ComponentArrives a c → MembersArrive a ms →
    MembersArrive a (more_of-Member (RunMember c) ms)
runs_member a c ms hc hms g input out begin d at m ls ty last v place th room s solid f code deep cover b =
    let g' : Scope = with_names g ls in
    let o : Option Ty = value_in a.st g' input d c in
    let first : List Instruction = flow_code a.st g' input d c in
    let rest : List Instruction = members_code a.st g' input begin d d (type_or_unit o) ms in
    let value : Option Ty = members_value a.st g' input d o ms in
    behind (λ p. Arrived a g begin value p m) (watched a g begin input out m) a.code _ (Alone th room) place first rest
    (member_then a g input out begin d at m ls ty last v place th room s c (Arrived a g begin value (place + length first + length rest) m)
    (λ w s'. members_proc (around a.core) a.procs ms (length g.locals) w s') hc solid (f.0, f.1, tt) (code_front a.code place first rest code)
    (omega arith) (covers_left a.shape _ _ cover) b
    (λ v' s' th' room' h x spared.
    hms g input out begin d d m ls (type_or_unit o) o v' (place + length first) th' room' s' solid f.2 (code_back a.code place first rest code) (omega arith)
    (covers_right a.shape _ _ cover)
    (record {
      stands = h;
      within = b.within;
      spared = spared;
      order = b.order;
      low = b.low;
      low_at = b.low;
      type_is = refl;
      value = x;
      fits = inl f.1;
    })))

-- VARIABLES

-- an initial value in the first free cells, and what follows
initial_arrives : (A : Arriving) (w : Watch) (a : Ground) (g : Scope) (d place : ℕ) (ty : TypeExpr) (o : Option Expr) (rest : List Instruction) (th : Thread)
    (room : Room) (s : State) (next : NextProc) → Solid a g → StructsBefore (length g.structs) (type_of ty).base → d + cells_for g (type_of ty) ≤ a.n →
    InitialFits g d a.n (type_of ty) o → CodeAt a.code place (Run (initial_code g d (cells_for g (type_of ty)) o) ∷ rest) → Stands a g d place th room s →
    ((v : Val) (s' : State) (m : Memory) → StandsAt g.structs (type_of ty) v m (from_base a.base d) → Spares a.top a.base d g th.memory m →
    Stands a g d (place + 1) (next_with th m) room s' → Arrives A w a.code (next v s') (Alone (next_with th m) room)) →
    Arrives A w a.code (with_proc (initial_of (around a.core).library ty o s) next) (Alone th room)
initial_arrives A w a g d place ty None rest th room s next solid known fits f c h k =
    let t : Ty = type_of ty in
    let n : ℕ = cells_for g t in
    let big : a.base + a.n ≤ length th.memory.cells = h.held.room in
    let small : length th.memory.cells < 2 ^ 63 = h.held.small in
    let q : from_base a.base d ≡ a.base + d = low_place a.base d (omega arith) in
    let z = blanks_go n a.base d th.memory (omega arith) small in
    let b = blanks-have g.structs t solid.functions.ordered known in
    let lt : place + 1 < 2 ^ 64 = place_fits a.code place _ rest solid.small c in
    steps_arrive A w a g d place _ rest th room s z.memory (next (blank (around a.core).library.blanks t) s) c h z.is
    (subst (λ blanks. Arrives A w a.code (next (blank blanks t) s) (Alone (next_with th z.memory) room)) (sym solid.functions.blanks)
    (k (blank (blanks_of g.structs) t) s z.memory
    (record {
      shape = b.shape;
      cells = subst (λ i. At z.memory.cells i (cells_of (blank (blanks_of g.structs) t))) (sym q)
          (subst (At z.memory.cells (a.base + d)) (sym b.cells) z.so.cells);
    })
    (spares_changed a.top a.base d (a.base + d) (a.base + d + n) g th.memory z.memory (omega arith) z.so.changed)
    (stands_changed a g d place (a.base + d) (a.base + d + n) th room s z.memory lt (omega arith) h z.so.changed)))
initial_arrives A w a g d place ty (Some e) rest th room s next solid known fits f c h k =
    settled_arrives A w a g d place (type_of ty) e rest th room s next solid f c h
    (λ v s' m st kept h'. k v s' m st (spares_kept a.top a.base d g th.memory m s s' kept) h')

-- a variable
pub declares_member : {k : _} (a : Ground) (var : VarDecl) (ms : Row_of-Member k) → MembersArrive a ms → MembersArrive a (more_of-Member (Var var) ms)
declares_member a var ms hms g input out begin d at m ls ty last v place th room s solid f code deep cover b =
    let g' : Scope = with_names g ls in
    let u : Ty = type_of var.ty in
    let ls' : List Holder = (with_local g' d var.name.id u).locals in
    let rest : List Instruction = members_code a.st (with_names g ls') input begin (d + cells_for g u) begin (plain UnitTy) ms in
    let value : Option Ty = members_value a.st (with_names g ls') input (d + cells_for g u) (Some (plain UnitTy)) ms in
    let end : ℕ = place + 1 + length rest in
    let same : end ≡ place + suc (length rest) = omega arith in
    subst (λ p. Arrives (Arrived a g begin value p m) (watched a g begin input out m) a.code
    (members_proc (around a.core) a.procs (more_of-Member (Var var) ms) (length g.locals) v s) (Alone th room)) same
    (initial_arrives (Arrived a g begin value end m) (watched a g begin input out m) a g' d place var.ty var.initial rest th room s
    (λ w s'. members_proc (around a.core) a.procs ms (length g.locals) UnitVal (bind var.name.id w s')) (solid_names a g ls solid) f.0 f.1 f.2 code b.stands
    (λ w s' m1 st kept h.
    let x = bound_between a g begin d m ls var.name.id (Some u) w (place + 1) (next_with th m1) room s' b.within b.order b.low f.1 h
    (record { is = u; has = refl; shape = st.shape; cells = st.cells })
    (spares_then a.top a.base begin g m th.memory m1 b.spared (b.within.spares th.memory m1 kept)) in
    hms g input out begin (d + cells_for g u) begin m ls' (plain UnitTy) (Some (plain UnitTy)) UnitVal (place + 1) (next_with th m1) room
    (bind var.name.id w s') solid f.3 (code_next a.code place _ rest code) deep cover (record {
      stands = x.stands;
      within = x.within;
      spared = x.spared;
      order = b.order;
      low = x.low;
      low_at = omega arith;
      type_is = refl;
      value = record { is = plain UnitTy; has = refl; shape = refl; cells = tt };
      fits = inr refl;
    })))

-- what it is for a block of these members to arrive
abbrev pub BlockArrives : {k : _} → Ground → Row_of-Member k → Type 0
BlockArrives a ms =
    (g : Scope) (input out : Ty) (d place : ℕ) (th : Thread) (room : Room) (s : State) → Solid a g → MembersFlow a.st g a.n input out d ms →
    CodeAt a.code place (members_code a.st g input d d d (plain UnitTy) ms) → length a.calls + members_depth a.st ms ≤ a.deep →
    Covers a.shape (members_shape a.st ms) → Stands a g d place th room s →
    Arrives (Arrived a g d (members_value a.st g input d (Some (plain UnitTy)) ms) (place + length (members_code a.st g input d d d (plain UnitTy) ms)) th.memory)
    (watched a g d input out th.memory) a.code (members_proc (around a.core) a.procs ms (depth s.store) UnitVal s) (Alone th room)

-- a block
pub block_arrives : {k : _} (a : Ground) (ms : Row_of-Member k) → MembersArrive a ms → BlockArrives a ms
block_arrives a ms hms g input out d place th room s solid f c deep cover h =
    let n : length s.store.locals ≡ length g.locals = hold_length g.structs th.memory.cells a.base g.locals s.store.locals h.held.locals in
    subst (λ k. Arrives (Arrived a g d (members_value a.st g input d (Some (plain UnitTy)) ms)
    (place + length (members_code a.st g input d d d (plain UnitTy) ms)) th.memory) (watched a g d input out th.memory) a.code
    (members_proc (around a.core) a.procs ms k UnitVal s) (Alone th room)) (sym n)
    (hms g input out d d d th.memory g.locals (plain UnitTy) (Some (plain UnitTy)) UnitVal place th room s solid f c deep cover (record {
      stands = h;
      within = within_more a g d d (omega arith);
      spared = spares_none a.top a.base d g th.memory;
      order = h.held.locals_in;
      low = omega arith;
      low_at = omega arith;
      type_is = refl;
      value = record { is = plain UnitTy; has = refl; shape = refl; cells = tt };
      fits = inr refl;
    }))
