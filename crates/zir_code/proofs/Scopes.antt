-- Scopes of statements, new names in them, and ticks.
use Rattle.std.specs.Prelude.{ℕ, zero, suc, ◌+◌, ◌<◌, ◌≤◌, ◌^◌, Bool, true, false, nat_lt, ◌≡◌, refl, length, take}
use Rattle.std.proofs.Common.{sym, subst, arith, inl}
use Rattle.zir_tree.specs.declared.value.Val.{Val, Unit as UnitVal}
use Rattle.zir_tree.specs.declared.types.Ty.{Ty}
use Rattle.zir_tree.specs.declared.stmt.Stmt.{Row_of-Stmt}
use Rattle.zir_meaning.specs.Trace.{State}
use Rattle.zir_meaning.specs.Evaluation.{Eval, Got, Traps, RunsOut, Library, tick_eval, tick_eval_of}
use Rattle.zir_meaning.specs.Statements.{bind, left_by, scope, does_row}
use Rattle.zir_expr.specs.Memory.{Ran, Done, Trapped, Out, then_run, ticked, tick_if}
use Rattle.zir_expr.specs.Memory.Frames.{Memory}
use Rattle.zir_code.specs.Scopes.{Scope}
use Rattle.zir_code.specs.Types.{cells_for}
use Rattle.zir_code.specs.Holding.{Hold, InOrder, Holds, StandsAt}
use Rattle.zir_code.specs.Statements.{with_local, scope_after_row, free_after_row}
use Rattle.zir_code.specs.Fine.{FineRow}
use Rattle.zir_code.proofs.Sparing.{AgreesSparing as AgreesStmt, Grows, grows_local, grows_row, narrows, widens, spares_other}
use Rattle.zir_code.proofs.Kept.{Changed}
use Rattle.zir_code.proofs.Stores.{hold_length, hold_front, bound_holds}
use Rattle.zir_code.proofs.Calls.{no_tick, a_tick}
use Rattle.zir_code.proofs.Alike.{Alike, Adds, adds_row, stopped_in}

-- the names of a scope leave it
pub leaves : (top base d d' n k : ℕ) (g g' : Scope) (m : Memory) (r : Eval) (q : Ran) → k ≡ length g.locals → Adds g g' →
    Grows base d d' g g' → InOrder base 0 top g.tops → InOrder base base (base + d) g.locals → AgreesStmt top base d' n g' m r q →
    AgreesStmt top base d n g m (left_by k r) q
leaves top base d d' n k g g' m (Got v s') (Done m') e x grows ot ol a =
    let h = a.holds in
    let kept : Hold g'.structs m'.cells base g.locals (take (length g.locals) s'.store.locals) =
    hold_front g'.structs m'.cells base g.locals x.names s'.store.locals
    (subst (λ ds. Hold g'.structs m'.cells base ds s'.store.locals) x.locals h.locals) in
    record {
      holds = record {
        tops = subst (λ structs. Hold structs m'.cells base g.tops s'.store.tops) x.structs
            (subst (λ ds. Hold g'.structs m'.cells base ds s'.store.tops) x.tops h.tops);
        locals = rw e (subst (λ structs. Hold structs m'.cells base g.locals (take (length g.locals) s'.store.locals)) x.structs kept);
        tops_in = ot;
        locals_in = ol;
        used = h.used;
        limit = h.limit;
        apart = h.apart;
        room = h.room;
        small = h.small;
      };
      same = a.same;
      spare = spares_other top base d' d g' g m m' (widens base d d' g g' grows) a.spare;
      size = a.size;
    }
leaves top base d d' n k g g' m (Got v s') (Trapped u m') e x grows ot ol a = absurd a
leaves top base d d' n k g g' m (Got v s') Out e x grows ot ol a = absurd a
leaves top base d d' n k g g' m (Traps u s') (Done m') e x grows ot ol a = absurd a
leaves top base d d' n k g g' m (Traps u s') (Trapped w m') e x grows ot ol a =
    (let t = stopped_in top base g' g m m' s' (record { structs = sym x.structs; tops = sym x.tops }) a.1 in
    (a.0, record { tops_held = t.tops_held; same = t.same; size = t.size; used = t.used; limit = t.limit }))
leaves top base d d' n k g g' m (Traps u s') Out e x grows ot ol a = absurd a
leaves top base d d' n k g g' m RunsOut (Done m') e x grows ot ol a = absurd a
leaves top base d d' n k g g' m RunsOut (Trapped w m') e x grows ot ol a = absurd a
leaves top base d d' n k g g' m RunsOut Out e x grows ot ol a = tt

-- statements in a scope of their own
pub in_scope : {k : _} (top base d n : ℕ) (g : Scope) (row : Row_of-Stmt k) (l : Library) (m : Memory) (s : State) (q : Ran) →
    FineRow g d n row → Holds top base d n g m s →
    AgreesStmt top base (free_after_row g d row) n (scope_after_row g d row) m (does_row l row s) q →
    AgreesStmt top base d n g m (scope (does_row l row) s) q
in_scope top base d n g row l m s q f h a =
    let room : base + n ≤ length m.cells = h.room in
    let small : length m.cells < 2 ^ 63 = h.small in
    leaves top base d (free_after_row g d row) n (length s.store.locals) g (scope_after_row g d row) m (does_row l row s) q
    (hold_length g.structs m.cells base g.locals s.store.locals h.locals) (adds_row g d row) (grows_row base d n g row (omega arith) f)
    h.tops_in h.locals_in a

-- a value that stands in the first free cells comes into scope
pub declared : (top base d n : ℕ) (g : Scope) (m m' : Memory) (s : State) (id : ℕ) (ty : Ty) (v : Val) → d + cells_for g ty ≤ n →
    StandsAt g.structs ty v m' (base + d) →
    Changed (base + d) (base + d + cells_for g ty) m m' → Holds top base d n g m s →
    AgreesStmt top base (d + cells_for g ty) n (with_local g d id ty) m (Got UnitVal (bind id v s)) (Done m')
declared top base d n g m m' s id ty v le st c h = record {
  holds = bound_holds top base d n g m m' s id ty v le st.shape st.cells c h;
  same = λ i a b. c.others i (inl (omega arith));
  spare = λ i a b o. (let room : base + n ≤ length m.cells = h.room in
      let small : length m.cells < 2 ^ 63 = h.small in
      let w : Grows base d (d + cells_for g ty) g (with_local g d id ty) = grows_local base d n g id ty le (omega arith) in
      c.others i (inl (narrows base d (d + cells_for g ty) g (with_local g d id ty) w i b o).0));
  size = c.size;
}

-- a tick, and what follows
tick_of : (b : Bool) (top base d n : ℕ) (g : Scope) (m : Memory) (s : State) (left : ℕ) (next : State → Eval) (next' : Memory → Ran) → left ≡ s.left →
    b ≡ nat_lt m.used m.limit → Holds top base d n g m s →
    ((m1 : Memory) (s1 : State) → Alike top base d g m m1 → Holds top base d n g m1 s1 → AgreesStmt top base d n g m (next s1) (next' m1)) →
    AgreesStmt top base d n g m (tick_eval_of left s next) (then_run (tick_if b m) next')
tick_of true top base d n g m s zero next next' e f h k =
    let a : m.limit ≡ s.ticks + s.left = h.limit in
    let b : m.used ≡ s.ticks = h.used in
    absurd (no_tick m.used m.limit (sym f) (omega arith))
tick_of true top base d n g m s (suc left) next next' e f h k =
    let a : m.limit ≡ s.ticks + s.left = h.limit in
    let b : m.used ≡ s.ticks = h.used in
    k (record m { used = m.used + 1 }) (record s { ticks = s.ticks + 1; left = left }) (record { same = λ i b c. refl; spare = λ i b c o. refl; size = refl })
    (record {
      tops = h.tops;
      locals = h.locals;
      tops_in = h.tops_in;
      locals_in = h.locals_in;
      used = omega arith;
      limit = omega arith;
      apart =
          h.apart;
      room = h.room;
      small = h.small;
    })
tick_of false top base d n g m s zero next next' e f h k = tt
tick_of false top base d n g m s (suc left) next next' e f h k =
    let a : m.limit ≡ s.ticks + s.left = h.limit in
    let b : m.used ≡ s.ticks = h.used in
    absurd (a_tick m.used m.limit (sym f) (omega arith))

pub ticks_on : (top base d n : ℕ) (g : Scope) (m : Memory) (s : State) (next : State → Eval) (next' : Memory → Ran) → Holds top base d n g m s →
    ((m1 : Memory) (s1 : State) → Alike top base d g m m1 → Holds top base d n g m1 s1 → AgreesStmt top base d n g m (next s1) (next' m1)) →
    AgreesStmt top base d n g m (tick_eval s next) (then_run (ticked m) next')
ticks_on top base d n g m s next next' h k = tick_of (nat_lt m.used m.limit) top base d n g m s s.left next next' refl refl h k
