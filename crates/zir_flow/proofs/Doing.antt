-- A component that does statements and ends with the value of their body.
use Rattle.std.proofs.Common.{◌≡◌, ℕ, ◌+◌, ◌<◌, ◌≤◌, ◌^◌, ◌⊎◌, Bool, true, false, List, [], ◌∷◌, ◌++◌, Option, Some, None, if◌then◌else◌, nat_eq, length, take, slice_get, ap, sym, subst, refl, ◌∙◌, arith, inl, inr}
use Rattle.std.proofs.lemmas.Bool.{eqb-true}
use Rattle.zir_tree.specs.declared.value.Val.{Val, Unit as UnitVal}
use Rattle.zir_tree.specs.declared.place.Place.{Place}
use Rattle.zir_tree.specs.declared.types.Ty.{Ty}
use Rattle.zir_tree.specs.declared.types.StructDef.{StructDef}
use Rattle.zir_tree.specs.declared.ends.End.TheVariants.{Value}
use Rattle.zir_tree.specs.declared.expr.Expr.{Expr, Unit as UnitLiteral, Bit, Bool as BoolLiteral, Int, Variable, Unary', Binary', Index', Slice', Part', Call', Array', Convert', Complex', end_of-Expr, more_of-Expr}
use Rattle.zir_tree.specs.declared.stmt.Stmt.{Stmt, Var as VarStmt, Assign, Call as CallStmt, Error, If', IfElse', While', For'}
use Rattle.zir_tree.specs.declared.stmt.Return.{Return}
use Rattle.zir_tree.specs.declared.stmt.Body.{Body}
use Rattle.zir_tree.specs.declared.comp.Comp.{Do}
use Rattle.zir_meaning.specs.Values.{type_of}
use Rattle.zir_meaning.specs.Operators.{part_of}
use Rattle.zir_meaning.specs.Functions.{pick}
use Rattle.zir_meaning.specs.Store.{depth}
use Rattle.zir_meaning.specs.Trace.{State}
use Rattle.zir_meaning.specs.Evaluation.{Eval, Got, Traps, RunsOut, Library, then_eval, ev}
use Rattle.zir_meaning.specs.Statements.{leave, left_by, does_all, result_of, run_body}
use Rattle.zir_meaning.specs.Instances.{around}
use Rattle.zir_cells.specs.Cells.{cells_of}
use Rattle.zir_cells.specs.Layout.{layout_of}
use Rattle.zir_laws.specs.Process.{Proc, Ends, with_proc}
use Rattle.zir_laws.proofs.Evaluating.{EvalKeeps}
use Rattle.zir_laws.proofs.Functions.{evaluates-library}
use Rattle.zir_laws.proofs.Statements.{evaluates-body}
use Rattle.zir_shapes.proofs.Fitting.{sizes-fit}
use Rattle.zir_expr.specs.declared.frame.Spot.{Spot}
use Rattle.zir_expr.specs.declared.frame.Spot.TheVariants.{Top, Local}
use Rattle.zir_expr.specs.declared.steps.Step.{Step}
use Rattle.zir_expr.specs.Memory.{Ran, Done, Trapped, Out, moved, from_base, place_of}
use Rattle.zir_expr.specs.Memory.Frames.{Memory}
use Rattle.zir_expr.specs.Running.{go_all}
use Rattle.zir_code.specs.declared.scope.Holder.{Holder}
use Rattle.zir_code.specs.Scopes.{Scope, found_among, variable, shifted}
use Rattle.zir_code.specs.Types.{type_in, part_offset, cells_for, size_in}
use Rattle.zir_code.specs.Coding.{spot_of, shift_if, fixed, read_at, stands, code_of, moving, settling}
use Rattle.zir_code.specs.Peaks.{peak_of}
use Rattle.zir_code.specs.Typing.{Has}
use Rattle.zir_code.specs.Holding.{At, Hold, InOrder, Holds, Spares, Kept, StandsAt, Ends as EndsAs}
use Rattle.zir_code.specs.Calls.{Calls}
use Rattle.zir_code.specs.Statements.{scope_after, free_after}
use Rattle.zir_code.specs.Fine.{Fine, Went, Stopped}
use Rattle.zir_code.specs.Bodies.{all_code, scope_after_all, free_after_all, FineAll}
use Rattle.zir_code.specs.Laws.{StatementsSpare}
use Rattle.zir_code.proofs.Agreeing.{go_all-append, ends_then, ends_more}
use Rattle.zir_code.proofs.Alike.{Adds, adds_none, adds_both, adds_statement, calls_after}
use Rattle.zir_code.proofs.Bodies.{lists_agree}
use Rattle.zir_code.proofs.Cells.{cell}
use Rattle.zir_code.proofs.Complexes.{place_shifted}
use Rattle.zir_code.proofs.Kept.{low_place, order_ends, same_hold, holds_kept, Changed}
use Rattle.zir_code.proofs.Moves.{Placed, Moved, moves, moved_at, moving_goes, Goes}
use Rattle.zir_code.proofs.Places.{fixed_found, part_stands, inside_ends, placed}
use Rattle.zir_code.proofs.Room.{value_room}
use Rattle.zir_code.proofs.Stores.{hold_length, hold_front, hold_other}
use Rattle.zir_code.proofs.TypesFound.{types_are_found}
use Rattle.zir_flow.specs.declared.instruction.Instruction.TheVariants.{Run, Tick}
use Rattle.zir_flow.specs.Threads.{Thread, next_with}
use Rattle.zir_flow.specs.Stages.{Alone}
use Rattle.zir_flow.specs.Kinds.{returned_type, body_type}
use Rattle.zir_flow.specs.Flowing.{returned_code, do_code}
use Rattle.zir_flow.specs.Fitting.{ReturnFits, DoFits}
use Rattle.zir_flow.specs.Playing.{Watch}
use Rattle.zir_flow.specs.Program.{CodeAt}
use Rattle.zir_flow.proofs.Playing.{Arriving}
use Rattle.zir_flow.proofs.Standing.{Ground, Stands, watched, Arrived, ComponentArrives}
use Rattle.zir_flow.proofs.Straight.{code_here, code_next, place_fits, stands_next, arrived, ends_at, run_arrives, ran_ends, RanArrives, expressions_agree, size_found, ticked_state, ticked_thread, tick_arrives}

-- CELLS ON ONE SIDE OF AN INDEX

-- cells of a variable are all before an index, or none of them is
abbrev PartedOne : ℕ → ℕ → Holder → Type 0
PartedOne base mid d = (place_of base d.spot + d.cells ≤ mid) ⊎ (mid ≤ place_of base d.spot)

-- the same of each of these variables
abbrev Parted : ℕ → ℕ → List Holder → Type 0
Parted base mid [] = Unit {0}
Parted base mid (d ∷ ds) = PartedOne base mid d × Parted base mid ds

parted_before : (base low high mid : ℕ) (ds : List Holder) → high ≤ mid → InOrder base low high ds → Parted base mid ds
parted_before base low high mid [] le o = tt
parted_before base low high mid (d ∷ ds) le o =
    let e = order_ends base (place_of base d.spot + d.cells) high ds o.1 in
    (inl (omega arith), parted_before base (place_of base d.spot + d.cells) high mid ds le o.1)

parted_more : (base mid : ℕ) (ds : List Holder) (d : Holder) → PartedOne base mid d → Parted base mid ds → Parted base mid (ds ++ d ∷ [])
parted_more base mid [] d p h = (p, tt)
parted_more base mid (e ∷ ds) d p h = (h.0, parted_more base mid ds d p h.1)

-- a new name's cells are behind
parted_statement : (base mid d n : ℕ) (g : Scope) (a : Stmt) → base + n < 2 ^ 63 → mid ≤ base + d → Fine g d n a → Parted base mid g.locals →
    Parted base mid (scope_after g d a).locals
parted_statement base mid d n g (VarStmt v) small le f h =
    let fit : d + cells_for g f.0 ≤ n = f.3 in
    let i : from_base base d ≡ base + d = low_place base d (omega arith) in
    parted_more base mid g.locals (record { id = v.name.id; spot = Local d; cells = cells_for g (type_of v.ty); ty = type_of v.ty }) (inr (omega arith)) h
parted_statement base mid d n g (Assign name path e) small le f h = h
parted_statement base mid d n g (CallStmt name k es) small le f h = h
parted_statement base mid d n g (Error text p) small le f h = h
parted_statement base mid d n g (If' e _ a p) small le f h = h
parted_statement base mid d n g (IfElse' e _ a _ b p) small le f h = h
parted_statement base mid d n g (While' e _ a p) small le f h = h
parted_statement base mid d n g (For' name a k _ b p) small le f h = h

-- the first free cell after a statement
free_between : (g : Scope) (d n : ℕ) (a : Stmt) → d ≤ n → Fine g d n a → (d ≤ free_after g d a) × (free_after g d a ≤ n)
free_between g d n (VarStmt v) le f =
    let fit : d + cells_for g (type_of v.ty) ≤ n = subst (λ t. d + cells_for g t ≤ n) (sym f.1) f.3 in (omega arith, fit)
free_between g d n (Assign name path e) le f = (omega arith, le)
free_between g d n (CallStmt name k es) le f = (omega arith, le)
free_between g d n (Error text p) le f = (omega arith, le)
free_between g d n (If' e _ a p) le f = (omega arith, le)
free_between g d n (IfElse' e _ a _ b p) le f = (omega arith, le)
free_between g d n (While' e _ a p) le f = (omega arith, le)
free_between g d n (For' name a k _ b p) le f = (omega arith, le)

-- after statements
free_between_all : (g : Scope) (d n : ℕ) (ss : List Stmt) → d ≤ n → FineAll g d n ss → (d ≤ free_after_all g d ss) × (free_after_all g d ss ≤ n)
free_between_all g d n [] le f = (omega arith, le)
free_between_all g d n (a ∷ more) le f =
    let one = free_between g d n a le f.0 in
    let all = free_between_all (scope_after g d a) (free_after g d a) n more one.1 f.1 in
    let x = one.0 in
    let y = all.0 in
    (omega arith, all.1)

parted_all : (base mid d n : ℕ) (g : Scope) (ss : List Stmt) → base + n < 2 ^ 63 → mid ≤ base + d → d ≤ n → FineAll g d n ss → Parted base mid g.locals →
    Parted base mid (scope_after_all g d ss).locals
parted_all base mid d n g [] small le fit f h = h
parted_all base mid d n g (a ∷ more) small le fit f h =
    let one = free_between g d n a fit f.0 in
    let x = one.0 in
    parted_all base mid (free_after g d a) n (scope_after g d a) more small (omega arith) one.1 f.1 (parted_statement base mid d n g a small le f.0 h)

one_parted : (b : Bool) (base mid : ℕ) (d e : Holder) (other : Option Holder) → PartedOne base mid d → (if b then Some d else other) ≡ Some e →
    (other ≡ Some e → PartedOne base mid e) → PartedOne base mid e
one_parted true base mid d e other h q k = let same : d ≡ e = cc in subst (PartedOne base mid) same h
one_parted false base mid d e other h q k = k q

found_parted : (base mid : ℕ) (ds : List Holder) (other : Option Holder) (id : ℕ) (e : Holder) → Parted base mid ds →
    (other ≡ Some e → PartedOne base mid e) → found_among other ds id ≡ Some e → PartedOne base mid e
found_parted base mid [] other id e h k q = k q
found_parted base mid (d ∷ ds) other id e h k q =
    one_parted (nat_eq d.id id) base mid d e (found_among other ds id) h.0 q (λ r. found_parted base mid ds other id e h.1 k r)

-- a variable in scope
variable_parted : (base mid : ℕ) (g : Scope) (id : ℕ) (e : Holder) → Parted base mid g.tops → Parted base mid g.locals → variable g id ≡ Some e →
    PartedOne base mid e
variable_parted base mid g id e t l q =
    found_parted base mid g.locals (found_among None g.tops id) id e l (λ r. found_parted base mid g.tops None id e t (λ x. absurd (nothing x)) r) q where
      nothing : None ≡ Some e → ⊥
      nothing x = cc

-- so many cells from a spot on are all before an index, or none of them is
abbrev PartedAt : ℕ → ℕ → Spot → ℕ → Type 0
PartedAt base mid x size = (place_of base x + size ≤ mid) ⊎ (mid ≤ place_of base x)

spot_found : (o : Option Holder) (v : Holder) (spot : Spot) → o ≡ Some v → spot_of o ≡ Some spot → v.spot ≡ spot
spot_found o v spot e f = cc

shift_found : (o : Option Spot) (k : ℕ) (spot : Spot) → shift_if o k ≡ Some spot → (x : Spot) × (o ≡ Some x) × (shifted x k ≡ spot)
shift_found None k spot e = cc
shift_found (Some x) k spot e = (x, refl, cc)

-- what has a fixed spot
fixed_parted : (top base mid d n : ℕ) (l : Library) (g : Scope) (t : Ty) (e : Expr) (spot : Spot) (m : Memory) (s : State) → d ≤ n →
    Parted base mid g.tops → Parted base mid g.locals → Has g n t e → Holds top base d n g m s → fixed g e ≡ Some spot →
    PartedAt base mid spot (layout_of g.structs t)
fixed_parted top base mid d n l g t (UnitLiteral p) spot m s le ts ls c h q = absurd cc
fixed_parted top base mid d n l g t (Bit b p) spot m s le ts ls c h q = absurd cc
fixed_parted top base mid d n l g t (BoolLiteral b p) spot m s le ts ls c h q = absurd cc
fixed_parted top base mid d n l g t (Int k u p) spot m s le ts ls c h q = absurd cc
fixed_parted top base mid d n l g t (Variable x) spot m s le ts ls c h q =
    let size : (c.0).cells ≡ layout_of g.structs t = c.3.cells ∙ ap (layout_of g.structs) (sym c.2) in
    subst (λ k. PartedAt base mid spot k) size
    (subst (λ y. PartedAt base mid y (c.0).cells) (spot_found (variable g x.id) c.0 spot c.1 q) (variable_parted base mid g x.id c.0 ts ls c.1))
fixed_parted top base mid d n l g t (Unary' o u _ a p) spot m s le ts ls c h q = absurd cc
fixed_parted top base mid d n l g t (Binary' o u _ a _ b p) spot m s le ts ls c h q = absurd cc
fixed_parted top base mid d n l g t (Index' _ a _ i p) spot m s le ts ls c h q = absurd cc
fixed_parted top base mid d n l g t (Slice' _ a _ i k p) spot m s le ts ls c h q = absurd cc
fixed_parted top base mid d n l g t (Part' one (more_of-Expr a end_of-Expr) name k p) spot m s le ts ls c h q =
    let o : ℕ = part_offset g.structs (type_in g a) k in
    let z = shift_found (fixed g a) o spot q in
    let x : Spot = z.0 in
    let same : o ≡ part_offset g.structs c.0 k = ap (λ ty. part_offset g.structs ty k) (types_are_found g n c.0 a c.2) in
    let whole = fixed_found top base d n l g c.0 a x m s le c.2 h z.1 in
    let ends : part_offset g.structs c.0 k + layout_of g.structs t ≤ layout_of g.structs c.0 =
    inside_ends g.structs c.0 t whole.value (part_of k whole.value) (part_offset g.structs c.0 k) whole.stands.shape
    (part_stands g.structs c.0 k t whole.value c.1 whole.stands.shape) in
    let before = whole.before in
    let room : base + n ≤ length m.cells = h.room in
    let small : length m.cells < 2 ^ 63 = h.small in
    let i : place_of base (shifted x o) ≡ place_of base x + o = place_shifted base o x (omega arith) in
    subst (λ y. PartedAt base mid y (layout_of g.structs t)) z.2
    (elim (fixed_parted top base mid d n l g c.0 a x m s le ts ls c.2 h z.1) [ inl r ↦ inl (omega arith) | inr r ↦ inr (omega arith) ])
fixed_parted top base mid d n l g t (Call' name callee _ es) spot m s le ts ls c h q = absurd cc
fixed_parted top base mid d n l g t (Array' _ es p) spot m s le ts ls c h q = absurd cc
fixed_parted top base mid d n l g t (Convert' u _ a p) spot m s le ts ls c h q = absurd cc
fixed_parted top base mid d n l g t (Complex' u _ a _ b p) spot m s le ts ls c h q = absurd cc

-- what is read, in a variable or in the first free cells
read_parted : (o : Option Spot) (top base mid d n : ℕ) (l : Library) (g : Scope) (t : Ty) (e : Expr) (m : Memory) (s : State) → fixed g e ≡ o → d ≤ n →
    mid ≤ base + d → Parted base mid g.tops → Parted base mid g.locals → Has g n t e → Holds top base d n g m s →
    PartedAt base mid (read_at o d) (layout_of g.structs t)
read_parted None top base mid d n l g t e m s q le low ts ls c h =
    let room : base + n ≤ length m.cells = h.room in
    let small : length m.cells < 2 ^ 63 = h.small in
    let i : from_base base d ≡ base + d = low_place base d (omega arith) in inr (omega arith)
read_parted (Some (Top o)) top base mid d n l g t e m s q le low ts ls c h =
    let room : base + n ≤ length m.cells = h.room in
    let small : length m.cells < 2 ^ 63 = h.small in
    let i : from_base base d ≡ base + d = low_place base d (omega arith) in inr (omega arith)
read_parted (Some (Local o)) top base mid d n l g t e m s q le low ts ls c h = fixed_parted top base mid d n l g t e (Local o) m s le ts ls c h q

-- a spot inside the body that runs
read_local : (o : Option Spot) (d : ℕ) → (x : ℕ) × (read_at o d ≡ Local x)
read_local None d = (d, refl)
read_local (Some (Top o)) d = (d, refl)
read_local (Some (Local o)) d = (o, refl)

-- A VALUE MOVES DOWN

-- a value stands further down, and other cells are as they were
record Down (base d : ℕ) (structs : List StructDef) (t : Ty) (v : Val) (m m' : Memory) : Type 0 where
  pub stands : StandsAt structs t v m' (from_base base d)
  pub changed : Changed (base + d) (base + d + layout_of structs t) m m'

down_if : (b : Bool) (base d o : ℕ) (structs : List StructDef) (t : Ty) (v : Val) (m : Memory) → nat_eq o d ≡ b → base + d + layout_of structs t ≤ length m.cells →
    from_base base o + layout_of structs t ≤ length m.cells → length m.cells < 2 ^ 63 → PartedAt base (base + d) (Local o) (layout_of structs t) →
    StandsAt structs t v m (from_base base o) →
    Goes (Down base d structs t v m) (go_all (pick b [] (moving (Local d) (Local o) (layout_of structs t))) base m)
down_if true base d o structs t v m q to from small p st = record {
  memory = m;
  is = refl;
  so = record {
    stands = subst (λ i. StandsAt structs t v m (from_base base i)) (eqb-true o d q) st;
    changed = record { others = λ i o. refl; size = refl; used = refl; limit = refl };
  };
}
down_if false base d o structs t v m q to from small p st =
    let size : ℕ = layout_of structs t in
    let i : from_base base d ≡ base + d = low_place base d (omega arith) in
    let m1 : Memory = moved size (base + d) (from_base base o) m in
    let r : Moved size (base + d) (from_base base o) m m1 =
    moves size (base + d) (from_base base o) m (elim p [ inl l ↦ inr (omega arith) | inr l ↦ inl (omega arith) ]) to from small in
    record {
      memory = m1;
      is = moving_goes (Local d) (Local o) size base m ∙ ap (λ i. Done (moved size i (from_base base o) m)) i;
      so = record {
        stands = record {
          shape = st.shape;
          cells = subst (λ i. At m1.cells i (cells_of v)) (sym i)
              (moved_at size (base + d) (from_base base o) m m1 (cells_of v) (sizes-fit structs t v st.shape) to r st.cells);
        };
        changed = r.changed;
      };
    }

-- BODIES

adds_all : (g : Scope) (d : ℕ) (ss : List Stmt) → Adds g (scope_after_all g d ss)
adds_all g d [] = adds_none g
adds_all g d (a ∷ more) =
    adds_both g (scope_after g d a) (scope_after_all (scope_after g d a) (free_after g d a) more) (adds_statement g d a)
    (adds_all (scope_after g d a) (free_after g d a) more)

-- what holds where a body has ended with a value, since a memory
record DoneAt (top base d n : ℕ) (g : Scope) (t : Ty) (m : Memory) (v : Val) (s : State) (m' : Memory) : Type 0 where
  pub stands : StandsAt g.structs t v m' (from_base base d)
  pub held : Holds top base d n g m' s
  pub spared : Spares top base d g m m'
  pub size : length m'.cells ≡ length m.cells

-- the meter after a trap
abbrev Counted : State → Memory → Type 0
Counted s m = m.used ≡ s.ticks

-- what was known of where code comes to its end
ends_done : (P : Val → State → Memory → Type 0) (Q : State → Memory → Type 0) (R : Memory → Type 0) (r : Eval) (q : Ran) →
    ((m : Memory) → q ≡ Done m → R m) → EndsAs P Q r q → EndsAs (λ v s m. P v s m × R m) Q r q
ends_done P Q R (Got v s) (Done m) k a = (a, k m refl)
ends_done P Q R (Got v s) (Trapped u m) k a = absurd a
ends_done P Q R (Got v s) Out k a = absurd a
ends_done P Q R (Traps t s) (Done m) k a = absurd a
ends_done P Q R (Traps t s) (Trapped u m) k a = a
ends_done P Q R (Traps t s) Out k a = absurd a
ends_done P Q R RunsOut (Done m) k a = absurd a
ends_done P Q R RunsOut (Trapped u m) k a = absurd a
ends_done P Q R RunsOut Out k a = tt

-- names leave the scope
ends_left : (P : Val → State → Memory → Type 0) (k : ℕ) (r : Eval) (q : Ran) → EndsAs (λ v s m. P v (leave k s) m) Counted r q →
    EndsAs P Counted (left_by k r) q
ends_left P k (Got v s) (Done m) a = a
ends_left P k (Got v s) (Trapped u m) a = absurd a
ends_left P k (Got v s) Out a = absurd a
ends_left P k (Traps t s) (Done m) a = absurd a
ends_left P k (Traps t s) (Trapped u m) a = a
ends_left P k (Traps t s) Out a = absurd a
ends_left P k RunsOut (Done m) a = absurd a
ends_left P k RunsOut (Trapped u m) a = absurd a
ends_left P k RunsOut Out a = tt

-- a value stands where it goes, and the names of the body leave the scope
body_ends : (top base d d' n k high : ℕ) (g g' : Scope) (t : Ty) (v : Val) (m m1 m2 m3 : Memory) (s s1 s2 : State) → Adds g g' → k ≡ length g.locals → d ≤ d' →
    Holds top base d n g m s → Holds top base d' n g' m1 s1 → length m1.cells ≡ length m.cells → Spares top base d g m m1 →
    Kept top base d' g' m1 m2 s1 s2 → Changed (base + d) high m2 m3 → StandsAt g'.structs t v m3 (from_base base d) →
    DoneAt top base d n g t m v (leave k s2) m3
body_ends top base d d' n k high g g' t v m m1 m2 m3 s s1 s2 x count le h h1 size p kept c st =
    let apart : top ≤ base = h.apart in
    let tops : Hold g.structs m2.cells base g.tops s2.store.tops =
    subst (λ structs. Hold structs m2.cells base g.tops s2.store.tops) x.structs
    (subst (λ ds. Hold g'.structs m2.cells base ds s2.store.tops) x.tops kept.tops) in
    let front : Hold g.structs m1.cells base g.locals (take (length g.locals) s1.store.locals) =
    subst (λ structs. Hold structs m1.cells base g.locals (take (length g.locals) s1.store.locals)) x.structs
    (hold_front g'.structs m1.cells base g.locals x.names s1.store.locals
    (subst (λ ds. Hold g'.structs m1.cells base ds s1.store.locals) x.locals h1.locals)) in
    let same : (i : ℕ) → top ≤ i → i < base + d → cell m3.cells i ≡ cell m1.cells i =
    λ i a b. c.others i (inl b) ∙ kept.same i a (omega arith) in
    let long : length m3.cells ≡ length m1.cells = c.size ∙ kept.size in
    let here : Hold g.structs m3.cells base g.locals (take (length g.locals) s1.store.locals) =
    same_hold g.structs m1.cells m3.cells base base (base + d) g.locals (take (length g.locals) s1.store.locals) long (λ i a b. same i (omega arith) b)
    h.locals_in front in
    let room : base + n ≤ length m.cells = h.room in
    let small : length m.cells < 2 ^ 63 = h.small in
    record {
      stands = subst (λ structs. StandsAt structs t v m3 (from_base base d)) x.structs st;
      held = record {
        tops = hold_other g.structs base 0 top (base + d) high m2 m3 g.tops s2.store.tops c (inl (omega arith)) h.tops_in tops;
        locals = subst (λ k. Hold g.structs m3.cells base g.locals (take k s2.store.locals)) (sym count)
            (subst (λ slots. Hold g.structs m3.cells base g.locals (take (length g.locals) slots)) (sym kept.locals) here);
        tops_in = h.tops_in;
        locals_in = h.locals_in;
        used = c.used ∙ kept.used;
        limit = c.limit ∙ kept.limit;
        apart = apart;
        room = omega arith;
        small = omega arith;
      };
      spared = λ i a b o. same i a b ∙ p i a b o;
      size = long ∙ size;
    }

-- the value of a body
result_ends : (result : Option Return) (top base d d' n k : ℕ) (l : Library) (g g' : Scope) (t : Ty) (m m1 : Memory) (s s1 : State) → Adds g g' →
    k ≡ length g.locals → d ≤ d' → d' ≤ n → Calls top l g'.structs g'.tops g'.funs → Parted base (base + d) g'.locals → d + cells_for g' t ≤ n →
    ReturnFits g' d' n t result → Holds top base d n g m s → Holds top base d' n g' m1 s1 → length m1.cells ≡ length m.cells → Spares top base d g m m1 →
    EndsAs (λ v s2 m2. DoneAt top base d n g t m v (leave k s2) m2) Counted (result_of l result s1) (go_all (returned_code g' d d' result) base m1)
result_ends None top base d d' n k l g g' t m m1 s s1 x count le le' calls parted fit f h h1 size p =
    body_ends top base d d' n k (base + d) g g' t UnitVal m m1 m1 m1 s s1 s1 x count le h h1 size p (holds_kept top base d' d' n g' m1 s1 h1)
    (record { others = λ i o. refl; size = refl; used = refl; limit = refl })
    (subst (λ t. StandsAt g'.structs t UnitVal m1 (from_base base d)) (sym f) (record { shape = refl; cells = tt }))
result_ends (Some r) top base d d' n k l g g' t m m1 s s1 x count le le' calls parted fit f h h1 size p =
    let e : Expr = r.value in
    let spot : Spot = stands g' e d' in
    let wide : ℕ = cells_for g' t in
    let moved' : List Step = settling spot d wide in
    let peak : peak_of g' e d' ≤ n = f.1 in
    let value : d' + wide ≤ peak_of g' e d' = value_room g' n t e d' f.0 in
    let apart : top ≤ base = h1.apart in
    let room : base + n ≤ length m1.cells = h1.room in
    let small : length m1.cells < 2 ^ 63 = h1.small in
    let placed' : Placed top base d' d' wide spot = placed top base d' n d' l g' t e m1 s1 le' le' (omega arith) f.0 h1 in
    let tops : Parted base (base + d) g'.tops = parted_before base 0 top (base + d) g'.tops (omega arith) h1.tops_in in
    let side : PartedAt base (base + d) spot wide =
    read_parted (fixed g' e) top base (base + d) d' n l g' t e m1 s1 refl le' (omega arith) tops parted f.0 h1 in
    let local : (y : ℕ) × (spot ≡ Local y) = read_local (fixed g' e) d' in
    let P : Val → State → Memory → Type 0 = λ v s2 m2. DoneAt top base d n g t m v (leave k s2) m2 in
    let found : size_in g' e ≡ wide = size_found g' n t e f.0 in
    subst (λ j. EndsAs P Counted (ev l e s1) (go_all (code_of g' e d' ++ settling spot d j) base m1)) (sym found)
    (subst (EndsAs P Counted (ev l e s1)) (sym (go_all-append (code_of g' e d') moved' base m1))
    (ends_more (λ v s2 m2. StandsAt g'.structs t v m2 (place_of base spot) × Kept top base d' g' m1 m2 s1 s2) (λ s2 m2. Kept top base d' g' m1 m2 s1 s2)
    P Counted (ev l e s1) (go_all (code_of g' e d') base m1) (go_all moved' base) (λ s2 m2 kept. kept.used)
    (expressions_agree top base d' n l g' calls t e m1 s1 f.0 peak h1)
    (λ v s2 m2 z.
    let long : length m2.cells ≡ length m1.cells = z.1.size in
    let before : place_of base spot + wide ≤ length m2.cells = elim placed'.before [ inl a ↦ omega arith | inr a ↦ omega arith ] in
    let y : ℕ = local.0 in
    let is : spot ≡ Local y = local.1 in
    let down : Goes (Down base d g'.structs t v m2) (go_all moved' base m2) =
    subst (λ q. Goes (Down base d g'.structs t v m2) (go_all (settling q d wide) base m2)) (sym is)
    (down_if (nat_eq y d) base d y g'.structs t v m2 refl (omega arith) (subst (λ q. place_of base q + wide ≤ length m2.cells) is before) (omega arith)
    (subst (λ q. PartedAt base (base + d) q wide) is side) (subst (λ q. StandsAt g'.structs t v m2 (place_of base q)) is z.0)) in
    subst (EndsAs P Counted (Got v s2)) (sym down.is)
    (body_ends top base d d' n k (base + d + wide) g g' t v m m1 m2 down.memory s s1 s2 x count le h h1 size p z.1 down.so.changed down.so.stands))))

-- a body does what it means
bodies_agree : StatementsSpare → (top base d n : ℕ) (l : Library) (g : Scope) (body : Body) (m : Memory) (s : State) →
    Calls top l g.structs g.tops g.funs → (f : DoFits g d n body) → d ≤ n → Holds top base d n g m s →
    EndsAs (λ v s' m'. DoneAt top base d n g f.0 m v s' m') Counted (run_body l body s) (go_all (do_code g d body) base m)
bodies_agree spare top base d n l g body m s calls f le h =
    let ss : List Stmt = body.statements in
    let t : Ty = f.0 in
    let g' : Scope = scope_after_all g d ss in
    let d' : ℕ = free_after_all g d ss in
    let k : ℕ = depth s.store in
    let count : k ≡ length g.locals = hold_length g.structs m.cells base g.locals s.store.locals h.locals in
    let x : Adds g g' = adds_all g d ss in
    let free = free_between_all g d n ss le f.1 in
    let apart : top ≤ base = h.apart in
    let room : base + n ≤ length m.cells = h.room in
    let small : length m.cells < 2 ^ 63 = h.small in
    let parted : Parted base (base + d) g'.locals =
    parted_all base (base + d) d n g ss (omega arith) (omega arith) le f.1
    (parted_before base base (base + d) (base + d) g.locals (omega arith) h.locals_in) in
    let fit : d + cells_for g' t ≤ n = subst (λ structs. d + layout_of structs t ≤ n) (sym x.structs) f.2 in
    let went : Val → State → Memory → Type 0 = λ v s' m'. Went top base d' n g' m m' s' in
    let stopped : State → Memory → Type 0 = λ s' m'. Stopped top base g'.structs g'.tops m m' s' in
    let P : Val → State → Memory → Type 0 = λ v s' m'. DoneAt top base d n g t m v s' m' in
    let q : Ran = go_all (all_code g d ss) base m in
    let all : EndsAs (λ v s' m'. went v s' m' × Spares top base d g m m') stopped (does_all l ss s) q =
    ends_done went stopped (λ m'. Spares top base d g m m') (does_all l ss s) q (λ m' e. spare top base d n l g calls ss m m' s f.1 h e)
    (lists_agree expressions_agree top base d n l g calls ss m s f.1 h) in
    ends_left P k (then_eval (does_all l ss s) (λ v s'. result_of l body.result s')) (go_all (do_code g d body) base m)
    (subst (EndsAs (λ v s' m'. P v (leave k s') m') Counted (then_eval (does_all l ss s) (λ v s'. result_of l body.result s')))
    (sym (go_all-append (all_code g d ss) (returned_code g' d d' body.result) base m))
    (ends_then (λ v s' m'. went v s' m' × Spares top base d g m m') stopped (λ v s' m'. P v (leave k s') m') Counted (does_all l ss s) q
    (λ v s'. result_of l body.result s') (go_all (returned_code g' d d' body.result) base) (λ s' m' z. z.used) all
    (λ v s1 m1 z. result_ends body.result top base d d' n k l g g' t m m1 s s1 x count free.0 free.1 (calls_after top l g g' x calls) parted fit f.3 h
    z.0.holds z.0.size z.1)))

-- the type of its value is found
result_found : (g : Scope) (d n : ℕ) (t : Ty) (r : Option Return) → ReturnFits g d n t r → Some (returned_type g r) ≡ Some t
result_found g d n t None f = ap (λ t. Some t) (sym f)
result_found g d n t (Some r) f = ap (λ t. Some t) (types_are_found g n t r.value f.0)

-- `do`
pub do_arrives : StatementsSpare → (a : Ground) (body : Body) (p : Place) → ComponentArrives a (Do body p)
do_arrives spare a body p g input out d place th room s solid f c deep covers h =
    let t : Ty = f.0 in
    let l : Library = (around a.core).library in
    let steps : List Step = do_code g d body in
    let w : Watch = watched a g d input out th.memory in
    let ty : Option Ty = Some (body_type g d body) in
    let A : Arriving = Arrived a g d ty (place + 2) th.memory in
    let g' : Scope = scope_after_all g d body.statements in
    let d' : ℕ = free_after_all g d body.statements in
    let is : ty ≡ Some t = result_found g' d' a.n t body.result f.3 in
    let two : place + 1 + 1 ≡ place + 2 = omega arith in
    let fit : d + cells_for g t ≤ a.n = f.2 in
    let c1 : CodeAt a.code (place + 1) (Run steps ∷ []) = code_next a.code place Tick (Run steps ∷ []) c in
    tick_arrives A w a g d place (Run steps ∷ []) th room s (λ s'. with_proc (run_body l body s') (λ v s''. Ends (Value v) s'')) solid.small c h
    (λ left e h1.
    let th1 : Thread = ticked_thread th in
    let s1 : State = ticked_state s left in
    let keeps : EvalKeeps s1 (run_body l body s1) = (evaluates-body l (evaluates-library a.core.structs a.core.functions) body).keeps s1 in
    let P : Val → State → Memory → Type 0 = λ v s' m'. DoneAt a.top a.base d a.n g t th1.memory v s' m' in
    let p : Proc = with_proc (run_body l body s1) (λ v s''. Ends (Value v) s'') in
    run_arrives A w a.code steps th1 room p (ap (slice_get a.code) h1.place_is ∙ code_here a.code (place + 1) (Run steps) [] c1)
    (subst (λ b. RanArrives A w a.code th1 room p (go_all steps b th1.memory)) (sym h1.base_is)
    (ran_ends P Counted A w a.code th1 room s1 (run_body l body s1) (go_all steps a.base th1.memory) (λ v s''. Ends (Value v) s'') h1.taken keeps
    (λ s' m' z. z) (bodies_agree spare a.top a.base d a.n l g body th1.memory s1 solid.functions f (omega arith) h1.held)
    (λ v s' m' taken z. ends_at a g d (place + 2) ty th.memory w v s' (Alone (next_with th1 m') room)
    (arrived a g d (place + 2) ty t v th.memory (next_with th1 m') room s' is
    (subst (λ q. Stands a g d q (next_with th1 m') room s') two
    (stands_next a g d d (place + 1) th1 room s1 s' m' (place_fits a.code (place + 1) (Run steps) [] solid.small c1) h1 z.held z.size taken))
    z.stands.shape z.stands.cells z.spared)))))
