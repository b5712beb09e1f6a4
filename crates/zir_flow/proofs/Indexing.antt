-- Loops of so many turns with an index.
use Rattle.std.specs.Prelude.{◌+ℤ◌}
use Rattle.std.specs.Int.{int_wrap}
use mir.Syntax.{w32}
use Rattle.std.proofs.Common.{◌≡◌, ℕ, ◌+◌, ◌%◌, ◌<◌, ◌≤◌, ◌^◌, ℤ, pos, List, [], ◌∷◌, ◌++◌, Some, length, slice_get, slice_index_or, ap, sym, subst, refl, ◌∙◌, arith, inl, inr, length-append, append_assoc}
use Rattle.zir_tree.specs.declared.place.Place.{Place}
use Rattle.zir_tree.specs.declared.ident.Ident.{Ident}
use Rattle.zir_tree.specs.declared.types.Base.TheVariants.{Unit as UnitTy, Int32}
use Rattle.zir_tree.specs.declared.types.Ty.{Ty}
use Rattle.zir_tree.specs.declared.value.Val.{Val, Num}
use Rattle.zir_tree.specs.declared.expr.Expr.{Expr}
use Rattle.zir_tree.specs.declared.comp.Comp.{Comp, For', more_of-Comp, end_of-Comp}
use Rattle.zir_meaning.specs.Values.{num_of}
use Rattle.zir_meaning.specs.Trace.{State}
use Rattle.zir_meaning.specs.Evaluation.{ev}
use Rattle.zir_meaning.specs.Statements.{bind, turns_of, next_index, leave}
use Rattle.zir_meaning.specs.Instances.{around}
use Rattle.zir_cells.specs.Cells.{cells_of}
use Rattle.zir_laws.specs.Process.{Proc, with_proc, counted_proc, tick_proc, proc}
use Rattle.zir_shapes.specs.Shapes.{Shaped}
use Rattle.zir_shapes.specs.Offsets.{plain_type as plain}
use Rattle.zir_expr.specs.declared.frame.Spot.TheVariants.{Local}
use Rattle.zir_expr.specs.declared.steps.Step.{Step}
use Rattle.zir_expr.specs.Memory.{Done, then_run, cell_at, put_cell, from_base, place_of}
use Rattle.zir_expr.specs.Memory.Frames.{Memory}
use Rattle.zir_expr.specs.Running.{go_all}
use Rattle.zir_code.specs.Scopes.{Scope}
use Rattle.zir_code.specs.Types.{cells_for}
use Rattle.zir_code.specs.Coding.{stands, code_of, settling}
use Rattle.zir_code.specs.Statements.{with_local, with_index}
use Rattle.zir_code.specs.Fine.{Fits}
use Rattle.zir_code.specs.Holding.{At, Holds, Kept, StandsAt}
use Rattle.zir_code.proofs.Kept.{low_place, kept_holds, holds_more, kept_on, Changed, changed_both}
use Rattle.zir_code.proofs.Agreeing.{go_all-append}
use Rattle.zir_code.proofs.Blank.{no_change}
use Rattle.zir_code.proofs.Stores.{hold_length, bound_holds}
use Rattle.zir_flow.specs.declared.instruction.Instruction.{Instruction}
use Rattle.zir_flow.specs.declared.instruction.Instruction.TheVariants.{Run, Tick, Again, Turn}
use Rattle.zir_flow.specs.Threads.{Thread, backward, next_with}
use Rattle.zir_flow.specs.Stages.{Stage, Alone, Room}
use Rattle.zir_flow.specs.Flowing.{index_code, flow_code}
use Rattle.zir_flow.specs.Playing.{Watch}
use Rattle.zir_flow.specs.Program.{CodeAt}
use Rattle.zir_flow.proofs.Reaching.{Reaches}
use Rattle.zir_flow.proofs.Playing.{Arriving, Arrives}
use Rattle.zir_flow.proofs.Standing.{Ground, Stands, Arrived, Solid, watched, ComponentArrives}
use Rattle.zir_flow.proofs.Straight.{code_here, code_front, code_back, code_next, code_ends, place_fits, spares_then, spares_kept, spares_changed, stands_kept, stands_changed, stands_more, run_arrives, RanArrives, ran_then, ran_ends, ev_keeps, settled_agrees, steps_arrive}
use Rattle.zir_flow.proofs.Rounds.{counts_arrive, back_to, unit_since}
use Rattle.zir_flow.proofs.Within.{outside_local, within_local, stands_left, inner_arrives}
use Rattle.zir_flow.proofs.Counting.{Counting, Left, number_from, free_written, free_is, over_since, turn_ticks, spared_cell}

-- two numbers in the first free cells, and what follows
bounds_arrive : (A : Arriving) (w : Watch) (a : Ground) (g : Scope) (d place : ℕ) (x y : Expr) (rest : List Instruction) (th : Thread) (room : Room)
    (s : State) (next : Val → Val → State → Proc) → Solid a g → Fits g d a.n (plain Int32) x → Fits g (d + 1) a.n (plain Int32) y → d + 1 < a.n →
    CodeAt a.code place (Run (code_of g x d ++ (settling (stands g x d) d 1 ++ (code_of g y (d + 1) ++ settling (stands g y (d + 1)) (d + 1) 1))) ∷ rest) →
    Stands a g d place th room s →
    ((v v' : Val) (s' : State) (m : Memory) → v ≡ Num (cell_at (from_base a.base d) m) → v' ≡ Num (cell_at (from_base a.base (d + 1)) m) →
    Kept a.top a.base d g th.memory m s s' → Stands a g d (place + 1) (next_with th m) room s' →
    Arrives A w a.code (next v v' s') (Alone (next_with th m) room)) →
    Arrives A w a.code (with_proc (ev (around a.core).library x s) (λ v s1. with_proc (ev (around a.core).library y s1) (λ v' s2. next v v' s2)))
    (Alone th room)
bounds_arrive A w a g d place x y rest th room s next solid fx fy lt c h k =
    let m : Memory = th.memory in
    let cells : a.base + a.n ≤ length m.cells = h.held.room in
    let few : length m.cells < 2 ^ 63 = h.held.small in
    let apart : a.top ≤ a.base = h.held.apart in
    let q : from_base a.base d ≡ a.base + d = low_place a.base d (omega arith) in
    let xs : List Step = code_of g x d ++ settling (stands g x d) d 1 in
    let ys : List Step = code_of g y (d + 1) ++ settling (stands g y (d + 1)) (d + 1) 1 in
    let steps : List Step = code_of g x d ++ (settling (stands g x d) d 1 ++ ys) in
    let p : Proc = with_proc (ev (around a.core).library x s) (λ v s1. with_proc (ev (around a.core).library y s1) (λ v' s2. next v v' s2)) in
    let goes : go_all steps th.base m ≡ then_run (go_all xs a.base m) (go_all ys a.base) =
    ap (λ base. go_all steps base m) h.base_is ∙ ap (λ zs. go_all zs a.base m) (sym (append_assoc (code_of g x d) (settling (stands g x d) d 1) ys))
    ∙ go_all-append xs ys a.base m in
    run_arrives A w a.code steps th room p (ap (slice_get a.code) h.place_is ∙ code_here a.code place (Run steps) rest c)
    (subst (RanArrives A w a.code th room p) (sym goes)
    (ran_then (λ v s' m'. StandsAt g.structs (plain Int32) v m' (place_of a.base (Local d)) × Kept a.top a.base d g m m' s s')
    (λ s' m'. Kept a.top a.base d g m m' s s') A w a.code th room s (ev (around a.core).library x s) (go_all xs a.base m)
    (λ v s1. with_proc (ev (around a.core).library y s1) (λ v' s2. next v v' s2)) (go_all ys a.base) h.taken (ev_keeps a.core x s) (λ s' m' z. z.used)
    (settled_agrees a.top a.base d a.n (around a.core).library g (plain Int32) x m s solid.functions fx h.held)
    (λ v s1 m1 taken z.
    let h1 = holds_more a.top a.base d (d + 1) a.n g m1 s1 (omega arith) (kept_holds a.top a.base d d a.n g m m1 s s1 (omega arith) h.held z.1) in
    ran_ends (λ v' s' m'. StandsAt g.structs (plain Int32) v' m' (place_of a.base (Local (d + 1))) × Kept a.top a.base (d + 1) g m1 m' s1 s')
    (λ s' m'. Kept a.top a.base (d + 1) g m1 m' s1 s') A w a.code th room s1 (ev (around a.core).library y s1) (go_all ys a.base m1) (λ v' s2. next v v' s2)
    (h.taken ∙ ap (λ t. t % 2 ^ 64) (sym taken)) (ev_keeps a.core y s1) (λ s' m' z. z.used)
    (settled_agrees a.top a.base (d + 1) a.n (around a.core).library g (plain Int32) y m1 s1 solid.functions fy h1)
    (λ v' s2 m2 taken' z'.
    let kept = kept_on a.top a.base d (d + 1) g m m1 m2 s s1 s2 (omega arith) z.1 z'.1 in
    let same : cell_at (from_base a.base d) m2 ≡ cell_at (from_base a.base d) m1 = z'.1.same (from_base a.base d) (omega arith) (omega arith) in
    k v v' s2 m2 (number_from g m1 (from_base a.base d) v z.0 ∙ ap Num (sym same)) (number_from g m2 (from_base a.base (d + 1)) v' z'.0) kept
    (stands_kept a g d place th room s s2 m2 (place_fits a.code place (Run steps) rest solid.small c) h kept (taken' ∙ taken))))))

-- the index goes to its name, and on
record Indexed (base d : ℕ) (i : ℤ) (m m' : Memory) : Type 0 where
  pub changed : Changed (base + d) (base + d + 4) m m'
  pub named : cell_at (from_base base (d + 2)) m' ≡ i
  pub next : cell_at (from_base base d) m' ≡ next_index i
  pub left : cell_at (from_base base (d + 1)) m' ≡ cell_at (from_base base (d + 1)) m

-- the memory behind that
abbrev after_index : ℕ → ℕ → Memory → Memory
after_index base d m =
    let m2 = put_cell (from_base base (d + 3)) (pos 1) (put_cell (from_base base (d + 2)) (cell_at (from_base base d) m) m) in
    put_cell (from_base base d) (int_wrap w32 (cell_at (from_base base d) m2 +ℤ cell_at (from_base base (d + 3)) m2)) m2

index_goes : (base d : ℕ) (p : Place) (m : Memory) → go_all (index_code d p) base m ≡ Done (after_index base d m)
index_goes base d p m = refl

-- what that memory holds
indexed : (base d n : ℕ) (i : ℤ) (m : Memory) → base + n ≤ length m.cells → length m.cells < 2 ^ 63 → d + 4 ≤ n → cell_at (from_base base d) m ≡ i →
    Indexed base d i m (after_index base d m)
indexed base d n i m room small le e =
    let m1 : Memory = put_cell (from_base base (d + 2)) (cell_at (from_base base d) m) m in
    let m2 : Memory = put_cell (from_base base (d + 3)) (pos 1) m1 in
    let x : ℤ = int_wrap w32 (cell_at (from_base base d) m2 +ℤ cell_at (from_base base (d + 3)) m2) in
    let m3 : Memory = put_cell (from_base base d) x m2 in
    let q0 : from_base base d ≡ base + d = low_place base d (omega arith) in
    let q1 : from_base base (d + 1) ≡ base + (d + 1) = low_place base (d + 1) (omega arith) in
    let q2 : from_base base (d + 2) ≡ base + (d + 2) = low_place base (d + 2) (omega arith) in
    let q3 : from_base base (d + 3) ≡ base + (d + 3) = low_place base (d + 3) (omega arith) in
    let c1 = free_written base (d + 2) n m (cell_at (from_base base d) m) room small (omega arith) in
    let size1 : length m1.cells ≡ length m.cells = c1.size in
    let c2 = free_written base (d + 3) n m1 (pos 1) (omega arith) (omega arith) (omega arith) in
    let size2 : length m2.cells ≡ length m1.cells = c2.size in
    let c3 = free_written base d n m2 x (omega arith) (omega arith) (omega arith) in
    let here : cell_at (from_base base d) m2 ≡ i =
    c2.others (from_base base d) (inl (omega arith)) ∙ c1.others (from_base base d) (inl (omega arith)) ∙ e in
    let one : cell_at (from_base base (d + 3)) m2 ≡ pos 1 = free_is base (d + 3) n m1 (pos 1) (omega arith) (omega arith) (omega arith) in
    record {
      changed = changed_both (base + (d + 2)) (base + d) (base + (d + 3) + 1) (base + d + 1) (base + d) (base + d + 4) m m2 m3 (omega arith) (omega arith)
          (omega arith) (omega arith)
          (changed_both (base + (d + 2)) (base + (d + 3)) (base + (d + 2) + 1) (base + (d + 3) + 1) (base + (d + 2)) (base + (d + 3) + 1) m m1 m2 (omega arith)
          (omega arith) (omega arith) (omega arith) c1 c2) c3;
      named = c3.others (from_base base (d + 2)) (inr (omega arith)) ∙ c2.others (from_base base (d + 2)) (inl (omega arith))
          ∙ free_is base (d + 2) n m (cell_at (from_base base d) m) room small (omega arith) ∙ e;
      next = free_is base d n m2 x (omega arith) (omega arith) (omega arith)
          ∙ ap (λ j. int_wrap w32 (j +ℤ cell_at (from_base base (d + 3)) m2)) here ∙ ap (λ j. int_wrap w32 (i +ℤ j)) one;
      left = c3.others (from_base base (d + 1)) (inr (omega arith)) ∙ c2.others (from_base base (d + 1)) (inl (omega arith))
          ∙ c1.others (from_base base (d + 1)) (inl (omega arith));
    }

-- a value that stands in the first free cells has a name
pub stands_bound : (a : Ground) (g : Scope) (d d' place id : ℕ) (ty : Ty) (v : Val) (th : Thread) (room : Room) (s : State) → d + cells_for g ty ≡ d' →
    d' ≤ a.n → Shaped g.structs ty v → At th.memory.cells (a.base + d) (cells_of v) → Stands a g d place th room s →
    Stands a (with_local g d id ty) d' place th room (bind id v s)
stands_bound a g d d' place id ty v th room s e le f c h = record {
  held = subst (λ k. Holds a.top a.base k a.n (with_local g d id ty) th.memory (bind id v s)) e
      (bound_holds a.top a.base d a.n g th.memory th.memory s id ty v (omega arith) f c
      (no_change (a.base + d) (a.base + d + cells_for g ty) th.memory) h.held);
  place_is = h.place_is;
  base_is = h.base_is;
  calls_are = h.calls_are;
  deep_is = h.deep_is;
  taken = h.taken;
  size_is = h.size_is;
  room_fits = h.room_fits;
}

-- what is known of the ground is known with one more name in scope
pub solid_local : (a : Ground) (g : Scope) (d id : ℕ) (ty : Ty) → Solid a g → Solid a (with_local g d id ty)
solid_local a g d id ty h =
    record { functions = h.functions; assigned = h.assigned; small = h.small; proceeds = h.proceeds; entries = h.entries }

-- so many turns are left, and this is the next index
abbrev LeftAt : ℕ → ℕ → ℕ → ℤ → Memory → Type 0
LeftAt base d k i m = Left base (d + 1) k m × (cell_at (from_base base d) m ≡ i)

-- a loop of so many turns with an index
pub for_arrives : (a : Ground) (name : Ident) (x y : Expr) (c : Comp) (p : Place) → ComponentArrives a c →
    ComponentArrives a (For' name x y _ (more_of-Comp c end_of-Comp) p)
for_arrives a name x y c p arrives g input out d place th room s solid flows at deep covers h =
    let g' : Scope = with_index g (d + 2) name.id in
    let body : List Instruction = flow_code a.st g' input (d + 3) c in
    let m : Memory = th.memory in
    let n : ℕ = length body in
    let last : List Instruction = Again (n + 3) ∷ [] in
    let first : Instruction =
    Run (code_of g x d ++ (settling (stands g x d) d 1 ++ (code_of g y (d + 1) ++ settling (stands g y (d + 1)) (d + 1) 1))) in
    let turn : Instruction = Turn (d + 1) (n + 3) in
    let index : Instruction = Run (index_code d p) in
    let whole : List Instruction = first ∷ turn ∷ Tick ∷ index ∷ (body ++ last) in
    let w : Watch = watched a g d input out m in
    let size : length (body ++ last) ≡ n + 1 = length-append body last in
    let ends : place + length whole ≤ length a.code = code_ends a.code place whole at in
    let small : length a.code < 2 ^ 32 = solid.small in
    let cells : a.base + a.n ≤ length m.cells = h.held.room in
    let few : length m.cells < 2 ^ 63 = h.held.small in
    let fits : d + 4 ≤ a.n = flows.2 in
    let at1 = code_next a.code place first (turn ∷ Tick ∷ index ∷ (body ++ last)) at in
    let at2 = code_next a.code (place + 1) turn (Tick ∷ index ∷ (body ++ last)) at1 in
    let at3 = code_next a.code (place + 1 + 1) Tick (index ∷ (body ++ last)) at2 in
    let at4 = code_next a.code (place + 1 + 1 + 1) index (body ++ last) at3 in
    let inside = code_front a.code (place + 1 + 1 + 1 + 1) body last at4 in
    let back = code_back a.code (place + 1 + 1 + 1 + 1) body last at4 in
    let to : place + 1 + (n + 3) ≡ place + 1 + 1 + 1 + 1 + n = omega arith in
    let end : place + 1 + 1 + (n + 3) ≡ place + length whole = omega arith in
    let A : Arriving = Arrived a g d (Some (plain UnitTy)) (place + 1 + 1 + (n + 3)) m in
    let I = (λ (q k : ℕ) (i : ℤ) (s' : State) (st' : Stage). Counting a g d q m (LeftAt a.base d k i) s' st') in
    let behind : ℕ = place + 1 + 1 + 1 + 1 + n in
    let within = within_local a g d (d + 3) (d + 2) name.id (plain Int32) (omega arith) (omega arith) (omega arith) in
    let names : ℕ = length g.locals in
    let q0 : from_base a.base d ≡ a.base + d = low_place a.base d (omega arith) in
    let q1 : from_base a.base (d + 1) ≡ a.base + (d + 1) = low_place a.base (d + 1) (omega arith) in
    let q2 : from_base a.base (d + 2) ≡ a.base + (d + 2) = low_place a.base (d + 2) (omega arith) in
    subst (λ q. Arrives (Arrived a g d (Some (plain UnitTy)) q m) w a.code
    (proc (around a.core) a.procs (For' name x y _ (more_of-Comp c end_of-Comp) p) s) (Alone th room)) end
    (bounds_arrive A w a g d place x y (turn ∷ Tick ∷ index ∷ (body ++ last)) th room s
    (λ v v' s'. counted_proc (turns_of (num_of v')) (Some name) (num_of v) (proc (around a.core) a.procs c) s') solid flows.0 flows.1 (omega arith) at h
    (λ v v' s1 m1 is is' kept h1.
    counts_arrive (turns_of (num_of v')) (num_of v) A (λ k i u s' st'. I behind k (next_index i) (leave names s') st') w a.code names (I (place + 1))
    (I (place + 1 + 1 + 1)) (Some name) (proc (around a.core) a.procs c) s1 (Alone (next_with th m1) room)
    (record {
      names_are = λ k i s' st' z. hold_length g.structs z.th.memory.cells a.base g.locals s'.store.locals z.stands.held.locals;
      over = λ i s' st' z.
          (let o = over_since a g d (place + 1) (d + 1) (n + 3) m (Tick ∷ index ∷ (body ++ last)) s' z.th z.room (omega arith) at1 z.so.0 z.stands z.spared in
          (o.0, subst (λ st. Reaches a.code st o.0) (sym z.alone) o.1, unit_since a g d (place + 1 + 1 + (n + 3)) m s' o.0 o.2));
      ticks = λ k i s' st' next z f.
          subst (Arrives A w a.code (tick_proc s' next)) (sym z.alone)
          (turn_ticks A w a g d (place + 1) (d + 1) (n + 3) k m (index ∷ (body ++ last)) s' z.th z.room next (omega arith) (omega arith) small at1 z.so.0
          z.stands z.spared
          (λ l th' same h' p'. f l (Alone th' z.room) (record {
            th = th';
            room = z.room;
            alone = refl;
            stands = h';
            spared = p';
            so = (
              ap turns_of (ap (λ cells. slice_index_or cells (from_base a.base (d + 1)) (pos 0)) same
                  ∙ free_is a.base (d + 1) a.n z.th.memory (pos k) z.stands.held.room z.stands.held.small (omega arith)),
              ap (λ cells. slice_index_or cells (from_base a.base d) (pos 0)) same
                  ∙ (free_written a.base (d + 1) a.n z.th.memory (pos k) z.stands.held.room z.stands.held.small (omega arith)).others (from_base a.base d)
                  (inl (omega arith)) ∙ z.so.1,
            );
          })));
      turns = λ k i s' st' z.
          (let m2 : Memory = z.th.memory in
          let m3 : Memory = after_index a.base d m2 in
          let cells2 : a.base + a.n ≤ length m2.cells = z.stands.held.room in
          let few2 : length m2.cells < 2 ^ 63 = z.stands.held.small in
          let r = indexed a.base d a.n i m2 cells2 few2 fits z.so.1 in
          let size3 : length m3.cells ≡ length m2.cells = r.changed.size in
          let th3 : Thread = next_with z.th m3 in
          let h3 = stands_changed a g d (place + 1 + 1 + 1) (a.base + d) (a.base + d + 4) z.th z.room s' m3 (omega arith) (omega arith) z.stands r.changed in
          let p3 = spares_then a.top a.base d g m m2 m3 z.spared
          (spares_changed a.top a.base d (a.base + d) (a.base + d + 4) g m2 m3 (omega arith) r.changed) in
          let named : slice_index_or m3.cells (a.base + (d + 2)) (pos 0) ≡ i = subst (λ o. slice_index_or m3.cells o (pos 0) ≡ i) q2 r.named in
          let h4 = stands_bound a g (d + 2) (d + 3) (place + 1 + 1 + 1 + 1) name.id (plain Int32) (Num i) th3 z.room s' (omega arith) (omega arith) (i, refl)
          (omega arith, named, tt) (stands_more a g d (d + 2) (place + 1 + 1 + 1 + 1) th3 z.room s' (omega arith) h3) in
          let B = (λ (u : Val) (s2 : State) (st2 : Stage). I behind k (next_index i) (leave names s2) st2) in
          subst (Arrives B w a.code (proc (around a.core) a.procs c (bind name.id (Num i) s'))) (sym z.alone)
          (steps_arrive B w a g d (place + 1 + 1 + 1) (index_code d p) (body ++ last) z.th z.room s' m3
          (proc (around a.core) a.procs c (bind name.id (Num i) s')) at3 z.stands (index_goes a.base d p m2)
          (inner_arrives B a g g' input out d (d + 3) (place + 1 + 1 + 1 + 1) m c th3 z.room (bind name.id (Num i) s') arrives within
          (solid_local a g (d + 2) name.id (plain Int32) solid) flows.3 inside deep covers h4 p3
          (λ u s2 st2 o. record {
            th = o.th;
            room = o.room;
            alone = o.alone;
            stands = stands_left a g g' d (d + 3) behind o.th o.room s2 within h.held.tops_in h.held.locals_in o.stands;
            spared = spares_then a.top a.base d g m m3 o.th.memory p3 (within.spares m3 o.th.memory o.spared);
            so = (
              ap turns_of (spared_cell a g' (d + 3) (d + 1) m3 o.th.memory h.held.apart (omega arith) (omega arith)
                  (λ j e. outside_local a.base d (d + 2) name.id (d + 1) j g (plain Int32) h.held.locals_in (omega arith) (omega arith) (omega arith) e)
                  o.spared ∙ r.left) ∙ z.so.0,
              spared_cell a g' (d + 3) d m3 o.th.memory h.held.apart (omega arith) (omega arith)
                  (λ j e. outside_local a.base d (d + 2) name.id d j g (plain Int32) h.held.locals_in (omega arith) (omega arith) (omega arith) e)
                  o.spared ∙ r.next,
            );
          }))));
      again = λ k i u s' st' z.
          (let o = back_to a g d behind (place + 1) (n + 3) [] (leave names s') z.th z.room small back to z.stands in (
            Alone (backward (n + 3) z.th) z.room,
            subst (λ st. Reaches a.code st (Alone (backward (n + 3) z.th) z.room)) (sym z.alone) o.0,
            record {
              th = backward (n + 3) z.th;
              room = z.room;
              alone = refl;
              stands = o.1;
              spared = z.spared;
              so = z.so;
            },
          ));
    })
    (record {
      th = next_with th m1;
      room = room;
      alone = refl;
      stands = h1;
      spared = spares_kept a.top a.base d g m m1 s s1 kept;
      so = (ap (λ (v : Val). turns_of (num_of v)) (sym is'), ap num_of (sym is));
    })))
