-- A call of code does what the function means whose body the code is.
use Rattle.std.specs.Prelude.{ℕ, ℤ, ◌+◌, ◌<◌, ◌≤◌, ◌^◌, List, [], ◌∷◌, ◌++◌, Bool, true, false, Option, Some, None, ◌≡◌, refl, length, nat_eq}
use Rattle.std.proofs.Common.{ap, ◌∙◌, sym, subst, arith, inl, inr}
use Rattle.std.proofs.lemmas.Bool.{eqb-true}
use Rattle.zir_tree.specs.declared.value.Val.{Val, Unit as UnitVal}
use Rattle.zir_tree.specs.declared.types.Ty.{Ty}
use Rattle.zir_tree.specs.declared.types.Field.{Field}
use Rattle.zir_tree.specs.declared.expr.Expr.{Expr}
use Rattle.zir_tree.specs.declared.stmt.Stmt.{Stmt, Var as VarStmt, Assign, Call, Error, If', IfElse', While', For'}
use Rattle.zir_tree.specs.declared.stmt.Return.{Return}
use Rattle.zir_meaning.specs.Values.{type_of}
use Rattle.zir_meaning.specs.Trace.{State}
use Rattle.zir_meaning.specs.Evaluation.{Eval, Got, Traps, RunsOut, Library, then_eval, ev}
use Rattle.zir_meaning.specs.Functions.{pick, arguments, entered, back, returned, called_fun}
use Rattle.zir_meaning.specs.Statements.{leave, left_by, does, does_all, result_of, run_body}
use Rattle.zir_cells.specs.Cells.{cells_of}
use Rattle.zir_shapes.proofs.Fitting.{sizes-fit}
use Rattle.zir_expr.specs.declared.frame.Spot.{Spot}
use Rattle.zir_expr.specs.declared.frame.Spot.TheVariants.{Top, Local}
use Rattle.zir_expr.specs.Memory.{Ran, Done, Trapped, Out, then_run, moved, from_base, place_of}
use Rattle.zir_expr.specs.Memory.Frames.{Memory}
use Rattle.zir_expr.specs.Running.{go_all}
use Rattle.zir_code.specs.Scopes.{Scope}
use Rattle.zir_code.specs.Types.{cells_for, size_in}
use Rattle.zir_code.specs.Coding.{fixed, read_at, stands, code_of, moving, settling}
use Rattle.zir_code.specs.Holding.{At, StandsAt, Hold, InOrder, Holds, Kept, Spares, Ends, Agrees}
use Rattle.zir_code.specs.Statements.{stmt_code, scope_after, free_after}
use Rattle.zir_code.specs.Fine.{Fits, Fine, Went as Left, Stopped}
use Rattle.zir_code.specs.Bodies.{all_code, scope_after_all, free_after_all, FineAll, parameters, cells_of_all, inside, result_code, ResultFits, body_code, FineBody, ArgumentsAt, Begins, AgreesEnd}
use Rattle.zir_code.specs.Calls.{Calls}
use Rattle.zir_code.specs.Laws.{ExpressionsAgree, StatementsAgree, StatementsSpare}
use Rattle.zir_code.proofs.Sparing.{WentSparing as Went, AgreesSparing as AgreesStmt, Grows, fewer, grows_none, grows_both, grows_statement, narrows, widens, spares_other}
use Rattle.zir_code.proofs.Kept.{low_place, order_more, Changed}
use Rattle.zir_code.proofs.Moves.{Placed, Moved, moves, moved_at, moving_goes, Goes}
use Rattle.zir_code.proofs.Agreeing.{go_all-append, ends_then, ends_more, ends_less}
use Rattle.zir_code.proofs.Stores.{hold_other}
use Rattle.zir_code.proofs.TypesFound.{types_are_found}
use Rattle.zir_code.proofs.Room.{value_room}
use Rattle.zir_code.proofs.Assigning.{fitting}
use Rattle.zir_code.proofs.Alike.{SameTops, calls_after, alike_went, after_statements, stopped_from, stopped_in, stopped_kept, idle, Adds, adds_none, adds_both, adds_tops, adds_statement}
use Rattle.zir_code.proofs.Statements.{statement_agrees}

adds_all : (g : Scope) (d : ℕ) (ss : List Stmt) → Adds g (scope_after_all g d ss)
adds_all g d [] = adds_none g
adds_all g d (a ∷ more) = adds_both g (scope_after g d a) (scope_after_all (scope_after g d a) (free_after g d a) more) (adds_statement g d a)
    (adds_all (scope_after g d a) (free_after g d a) more)

-- the names that a list of statements adds
grows_all : (base d n : ℕ) (g : Scope) (ss : List Stmt) → base + n < 2 ^ 63 → FineAll g d n ss →
    Grows base d (free_after_all g d ss) g (scope_after_all g d ss)
grows_all base d n g [] small f = grows_none base d g
grows_all base d n g (a ∷ more) small f =
    let g1 : Scope = scope_after g d a in
    let d1 : ℕ = free_after g d a in
    grows_both base d d1 (free_after_all g1 d1 more) g g1 (scope_after_all g1 d1 more) (grows_statement base d n g a small f.0)
    (grows_all base d1 n g1 more small f.1)

all_agree : (top base n : ℕ) (l : Library) → ExpressionsAgree → (ss : List Stmt) (d : ℕ) (g : Scope) → Calls top l g.structs g.tops g.funs →
    (m : Memory) (s : State) → FineAll g d n ss → Holds top base d n g m s →
    AgreesStmt top base (free_after_all g d ss) n (scope_after_all g d ss) m (does_all l ss s) (go_all (all_code g d ss) base m)
all_agree top base n l agree [] d g calls m s f h = idle top base d n g m s h
all_agree top base n l agree (a ∷ more) d g calls m s f h =
    let g1 : Scope = scope_after g d a in
    let d1 : ℕ = free_after g d a in
    let d2 : ℕ = free_after_all g1 d1 more in
    let g2 : Scope = scope_after_all g1 d1 more in
    let room : base + n ≤ length m.cells = h.room in
    let small : length m.cells < 2 ^ 63 = h.small in
    subst (λ q. AgreesStmt top base d2 n g2 m (then_eval (does l a s) (λ v s'. does_all l more s')) q)
    (sym (go_all-append (stmt_code g d a) (all_code g1 d1 more) base m))
    (after_statements top base d1 d2 n g1 g2 m (does l a s) (go_all (stmt_code g d a) base m) (λ v s'. does_all l more s')
    (go_all (all_code g1 d1 more) base) (adds_tops g1 g2 (adds_all g1 d1 more))
    (narrows base d1 d2 g1 g2 (grows_all base d1 n g1 more (omega arith) f.1))
    (statement_agrees top base n l agree a d g calls m s f.0 h)
    (λ v s' m' w. all_agree top base n l agree more d1 g1 (calls_after top l g g1 (adds_statement g d a) calls) m' s' f.1 w.holds))

-- what statements leave, with the cells that belonged to no variable in scope before them
abbrev pub AgreesApart : ℕ → ℕ → ℕ → ℕ → ℕ → Scope → Scope → Memory → Eval → Ran → Type 0
AgreesApart top base d d' n g g' m r q =
    Ends (λ v s' m'. Left top base d' n g' m m' s' × Spares top base d g m m') (λ s' m'. Stopped top base g'.structs g'.tops m m' s') r q

-- the code of a list of statements does what they mean, and keeps those cells: two laws in one
pub lists_agree_sparing : ExpressionsAgree → (top base d n : ℕ) (l : Library) (g : Scope) → Calls top l g.structs g.tops g.funs →
    (ss : List Stmt) (m : Memory) (s : State) → FineAll g d n ss → Holds top base d n g m s →
    AgreesApart top base d (free_after_all g d ss) n g (scope_after_all g d ss) m (does_all l ss s) (go_all (all_code g d ss) base m)
lists_agree_sparing agree top base d n l g calls ss m s f h =
    let d' : ℕ = free_after_all g d ss in
    let g' : Scope = scope_after_all g d ss in
    let room : base + n ≤ length m.cells = h.room in
    let small : length m.cells < 2 ^ 63 = h.small in
    ends_less (λ v s' m'. Went top base d' n g' m m' s') (λ s' m'. Stopped top base g'.structs g'.tops m m' s')
    (λ v s' m'. Left top base d' n g' m m' s' × Spares top base d g m m') (λ s' m'. Stopped top base g'.structs g'.tops m m' s') (does_all l ss s)
    (go_all (all_code g d ss) base m)
    (λ v s' m' w. (
      record { holds = w.holds; same = w.same; size = w.size },
      spares_other top base d' d g' g m m' (widens base d d' g g' (grows_all base d n g ss (omega arith) f)) w.spare,
    ))
    (λ s' m' w. w) (all_agree top base n l agree ss d g calls m s f h)

-- the code of a list of statements does what they mean
pub lists_agree : ExpressionsAgree → StatementsAgree
lists_agree agree top base d n l g calls ss m s f h =
    let d' : ℕ = free_after_all g d ss in
    let g' : Scope = scope_after_all g d ss in
    ends_less (λ v s' m'. Left top base d' n g' m m' s' × Spares top base d g m m') (λ s' m'. Stopped top base g'.structs g'.tops m m' s')
    (λ v s' m'. Left top base d' n g' m m' s') (λ s' m'. Stopped top base g'.structs g'.tops m m' s') (does_all l ss s)
    (go_all (all_code g d ss) base m) (λ v s' m' w. w.0) (λ s' m' w. w) (lists_agree_sparing agree top base d n l g calls ss m s f h)

-- what an end in memory leaves, whatever the value and the state
spares_done : (top base d d' n : ℕ) (g g' : Scope) (m m' : Memory) (r : Eval) → AgreesApart top base d d' n g g' m r (Done m') →
    Spares top base d g m m'
spares_done top base d d' n g g' m m' (Got v s') a = a.1
spares_done top base d d' n g g' m m' (Traps u s') a = absurd a
spares_done top base d d' n g g' m m' RunsOut a = absurd a

-- it keeps the cells of no variable in scope
pub lists_spare : ExpressionsAgree → StatementsSpare
lists_spare agree top base d n l g calls ss m m' s f h e =
    let d' : ℕ = free_after_all g d ss in
    let g' : Scope = scope_after_all g d ss in
    spares_done top base d d' n g g' m m' (does_all l ss s)
    (subst (AgreesApart top base d d' n g g' m (does_all l ss s)) e (lists_agree_sparing agree top base d n l g calls ss m s f h))

-- a value has been moved to the first cells of the body
record First (top base : ℕ) (g : Scope) (t : Ty) (v : Val) (m : Memory) (s : State) (m' : Memory) : Type 0 where
  pub stands : StandsAt g.structs t v m' (from_base base 0)
  pub stopped : Stopped top base g.structs g.tops m m' s

-- it is moved, or stands there
first_by : (b : Bool) (top base d n o : ℕ) (g : Scope) (t : Ty) (v : Val) (m m1 : Memory) (s s1 : State) → nat_eq o 0 ≡ b → Holds top base d n g m s →
    cells_for g t ≤ n → Kept top base d g m m1 s s1 →
    StandsAt g.structs t v m1 (from_base base o) → from_base base o + cells_for g t ≤ base + n → base ≤ from_base base o →
    Goes (First top base g t v m s1) (go_all (pick b [] (moving (Local 0) (Local o) (cells_for g t))) base m1)
first_by true top base d n o g t v m m1 s s1 e h le k st end low = record {
  memory = m1;
  is = refl;
  so = record {
    stands = subst (λ i. StandsAt g.structs t v m1 (from_base base i)) (eqb-true o 0 e) st;
    stopped =
        stopped_kept top base d g m m1 s s1 k;
  };
}
first_by false top base d n o g t v m m1 s s1 e h le k st end low =
    let size : ℕ = cells_for g t in
    let room : base + n ≤ length m.cells = h.room in
    let small : length m.cells < 2 ^ 63 = h.small in
    let apart : top ≤ base = h.apart in
    let long : length m1.cells ≡ length m.cells = k.size in
    let q : from_base base 0 ≡ base + 0 = low_place base 0 (omega arith) in
    let m2 : Memory = moved size (from_base base 0) (from_base base o) m1 in
    let r : Moved size (from_base base 0) (from_base base o) m1 m2 =
    moves size (from_base base 0) (from_base base o) m1 (inl (omega arith)) (omega arith) (omega arith) (omega arith) in
    let c : Changed (from_base base 0) (from_base base 0 + size) m1 m2 = r.changed in
    record {
      memory = m2;
      is = moving_goes (Local 0) (Local o) size base m1;
      so = record {
        stands = record {
          shape = st.shape;
          cells = moved_at size (from_base base 0) (from_base base o) m1 m2 (cells_of v)
              (sizes-fit g.structs t v st.shape) (omega arith) r st.cells;
        };
        stopped = record {
          tops_held = hold_other g.structs base 0 top (from_base base 0) (from_base base 0 + size) m1 m2 g.tops s1.store.tops c
              (inl (omega arith)) k.tops_in k.tops;
          same = λ i a b. c.others i (inl (omega arith)) ∙ k.same i a (omega arith);
          size = c.size ∙ k.size;
          used = c.used ∙ k.used;
          limit = c.limit ∙ k.limit;
        };
      };
    }

-- a value is read inside the body that runs
read_inside : (o : Option Spot) (d : ℕ) → (x : ℕ) × (read_at o d ≡ Local x)
read_inside None d = (d, refl)
read_inside (Some (Top o)) d = (d, refl)
read_inside (Some (Local o)) d = (o, refl)

-- where all cells before those of the body count as the top variables'
all_before : (top base d n : ℕ) (g : Scope) (m : Memory) (s : State) → Holds top base d n g m s → Holds base base d n g m s
all_before top base d n g m s h = record {
  tops = h.tops;
  locals = h.locals;
  tops_in = order_more base 0 top base g.tops h.apart h.tops_in;
  locals_in = h.locals_in;
  used = h.used;
  limit = h.limit;
  apart = omega arith;
  room = h.room;
  small = h.small;
}

-- the value of an expression goes to the first cells
firsts : (top base d n x : ℕ) (g : Scope) (t : Ty) (v : Val) (spot : Spot) (m m1 : Memory) (s s1 : State) → spot ≡ Local x →
    Holds top base d n g m s → cells_for g t ≤ n → d + cells_for g t ≤ n → Kept top base d g m m1 s s1 →
    StandsAt g.structs t v m1 (place_of base spot) → Placed base base d d (cells_for g t) spot →
    Goes (First top base g t v m s1) (go_all (settling spot 0 (cells_for g t)) base m1)
firsts top base d n x g t v spot m m1 s s1 e h le fit k st p =
    let st' : StandsAt g.structs t v m1 (from_base base x) = subst (λ y. StandsAt g.structs t v m1 (place_of base y)) e st in
    let p' : Placed base base d d (cells_for g t) (Local x) = subst (Placed base base d d (cells_for g t)) e p in
    let end : from_base base x + cells_for g t ≤ base + n = elim p'.before [ inl a ↦ omega arith | inr a ↦ omega arith ] in
    subst (λ y. Goes (First top base g t v m s1) (go_all (settling y 0 (cells_for g t)) base m1)) (sym e)
    (first_by (nat_eq x 0) top base d n x g t v m m1 s s1 refl h le k st' end p'.after)

-- the value of a body, or unit where it has none
result_agrees : (top base d n : ℕ) (l : Library) (g : Scope) (r : Option Return) (t : Ty) (m : Memory) (s : State) → ExpressionsAgree →
    Calls top l g.structs g.tops g.funs → ResultFits g d n t r → d ≤ n → Holds top base d n g m s →
    AgreesEnd top base g.structs g.tops t m (result_of l r s) (go_all (result_code g d r) base m)
result_agrees top base d n l g None t m s agree calls f le h = (
  subst (λ t. StandsAt g.structs t UnitVal m (from_base base 0)) (sym f) (record { shape = refl; cells = tt }),
  record { tops_held = h.tops; same = λ i a b. refl; size = refl; used = h.used; limit = h.limit },
)
result_agrees top base d n l g (Some r) t m s agree calls f le h =
    let e : Expr = r.value in
    let x : Spot = stands g e d in
    let fits : Fits g d n t e = f.0 in
    let fit = fits.1 in
    let room = value_room g n t e d fits.0 in
    let size : size_in g e ≡ cells_for g t = ap (cells_for g) (types_are_found g n t e fits.0) in
    let inside = read_inside (fixed g e) d in
    let p : Placed base base d d (cells_for g t) x = fitting base base d n l g t e m s fits (all_before top base d n g m s h) in
    subst (λ k. AgreesEnd top base g.structs g.tops t m (ev l e s) (go_all (code_of g e d ++ settling x 0 k) base m)) (sym size)
    (subst (λ q. AgreesEnd top base g.structs g.tops t m (ev l e s) q) (sym (go_all-append (code_of g e d) (settling x 0 (cells_for g t)) base m))
    (ends_more (λ v s' m'. StandsAt g.structs t v m' (place_of base x) × Kept top base d g m m' s s') (λ s' m'. Kept top base d g m m' s s')
    (λ v s' m'. StandsAt g.structs t v m' (from_base base 0) × Stopped top base g.structs g.tops m m' s')
    (λ s' m'. Stopped top base g.structs g.tops m m' s')
    (ev l e s) (go_all (code_of g e d) base m) (go_all (settling x 0 (cells_for g t)) base)
    (λ s' m' k. stopped_kept top base d g m m' s s' k)
    (agree top base d n l g calls t e m s fits.0 fits.1 h)
    (λ v s1 m1 a.
    let w = firsts top base d n inside.0 g t v x m m1 s s1 inside.1 h f.1 (omega arith) a.1 a.0 p in
    subst (λ q. AgreesEnd top base g.structs g.tops t m (Got v s1) q) (sym w.is) (w.so.stands, w.so.stopped))))

-- arguments are the parameters' values
hold_arguments : (g : Scope) (cells : List ℤ) (base i n : ℕ) (ps : List Field) (vs : List Val) → base + n ≤ length cells → length cells < 2 ^ 63 →
    i + cells_of_all g ps ≤ n → ArgumentsAt g.structs cells (base + i) ps vs →
    Hold g.structs cells base (parameters g i ps) (arguments ps vs)
hold_arguments g cells base i n [] [] room small le a = tt
hold_arguments g cells base i n [] (v ∷ vs) room small le a = absurd a
hold_arguments g cells base i n (p ∷ ps) [] room small le a = absurd a
hold_arguments g cells base i n (p ∷ ps) (v ∷ vs) room small le a =
    let q : from_base base i ≡ base + i = low_place base i (omega arith) in
    let k : ℕ = cells_for g (type_of p.ty) in (
      record { id = refl; cells = subst (λ j. At cells j (cells_of v)) (sym q) a.1; shape = a.0; size = refl },
      hold_arguments g cells base (i + k) n ps vs room small (omega arith)
          (subst (λ j. ArgumentsAt g.structs cells j ps vs) (let e : base + i + k ≡ base + (i + k) = omega arith in e) a.2),
    )

order_parameters : (g : Scope) (base i n : ℕ) (ps : List Field) → base + n < 2 ^ 63 → i + cells_of_all g ps ≤ n →
    InOrder base (base + i) (base + (i + cells_of_all g ps)) (parameters g i ps)
order_parameters g base i n [] small le = omega arith
order_parameters g base i n (p ∷ ps) small le =
    let q : from_base base i ≡ base + i = low_place base i (omega arith) in
    let k : ℕ = cells_for g (type_of p.ty) in
    let high : ℕ = base + (i + (k + cells_of_all g ps)) in (
      omega arith,
      subst (λ low. InOrder base low high (parameters g (i + k) ps)) (let e : base + (i + k) ≡ from_base base i + k = omega arith in e)
          (subst (λ high. InOrder base (base + (i + k)) high (parameters g (i + k) ps))
          (let e : base + (i + k + cells_of_all g ps) ≡ high = omega arith in e) (order_parameters g base (i + k) n ps small (omega arith))),
    )

-- what holds where a body begins is what its statements want
pub begun : (top base n : ℕ) (g : Scope) (ps : List Field) (vs : List Val) (m : Memory) (s : State) → Begins top base n g ps vs m s →
    Holds top base (cells_of_all g ps) n (inside g ps) m (entered ps vs s)
begun top base n g ps vs m s b =
    let room : base + n ≤ length m.cells = b.room in
    let small : length m.cells < 2 ^ 63 = b.small in
    let fit = b.fit in
    record {
      tops = b.tops;
      locals = hold_arguments g m.cells base 0 n ps vs room small (omega arith)
          (subst (λ j. ArgumentsAt g.structs m.cells j ps vs) (let e : base ≡ base + 0 = omega arith in e) b.arguments);
      tops_in = b.tops_in;
      locals_in = subst (λ low. InOrder base low (base + cells_of_all g ps) (parameters g 0 ps)) (let e : base + 0 ≡ base = omega arith in e)
          (subst (λ high. InOrder base (base + 0) high (parameters g 0 ps))
          (let e : base + (0 + cells_of_all g ps) ≡ base + cells_of_all g ps = omega arith in e)
          (order_parameters g base 0 n ps (omega arith) (omega arith)));
      used = b.used;
      limit = b.limit;
      apart = b.apart;
      room = room;
      small = small;
    }

-- what follows statements at the end of a body
end_after : (top base d n : ℕ) (g g' : Scope) (t : Ty) (m : Memory) (r : Eval) (q : Ran) (next : Val → State → Eval) (next' : Memory → Ran) →
    SameTops g g' → AgreesStmt top base d n g m r q →
    ((v : Val) (s' : State) (m' : Memory) → Went top base d n g m m' s' → AgreesEnd top base g.structs g.tops t m' (next v s') (next' m')) →
    AgreesEnd top base g'.structs g'.tops t m (then_eval r next) (then_run q next')
end_after top base d n g g' t m r q next next' z a k =
    ends_then (λ v s' m'. Went top base d n g m m' s') (λ s' m'. Stopped top base g.structs g.tops m m' s')
    (λ v s' m'. StandsAt g'.structs t v m' (from_base base 0) × Stopped top base g'.structs g'.tops m m' s')
    (λ s' m'. Stopped top base g'.structs g'.tops m m' s') r q next next'
    (λ s' m' x. stopped_in top base g g' m m' s' z x) a
    (λ v s1 m1 w. ends_less (λ v s' m'. StandsAt g.structs t v m' (from_base base 0) × Stopped top base g.structs g.tops m1 m' s')
    (λ s' m'. Stopped top base g.structs g.tops m1 m' s')
    (λ v s' m'. StandsAt g'.structs t v m' (from_base base 0) × Stopped top base g'.structs g'.tops m m' s')
    (λ s' m'. Stopped top base g'.structs g'.tops m m' s') (next v s1) (next' m1)
    (λ v s' m' x. (subst (λ structs. StandsAt structs t v m' (from_base base 0)) (sym z.structs) x.0, stops m1 m' s1 s' w x.1))
    (λ s' m' x. stops m1 m' s1 s' w x) (k v s1 m1 w)) where
      stops : (m1 m' : Memory) (s1 s' : State) → Went top base d n g m m1 s1 → Stopped top base g.structs g.tops m1 m' s' →
          Stopped top base g'.structs g'.tops m m' s'
      stops m1 m' s1 s' w x = stopped_in top base g g' m m' s' z (stopped_from top base d g g.structs g.tops m m1 m' s'
          (alike_went top base d d n g g m m1 s1 (fewer base d d g (omega arith)) w) x)

-- what a body keeps
body_kept : (top base : ℕ) (g : Scope) (m m' : Memory) (s s' : State) → InOrder base 0 top g.tops → Stopped top base g.structs g.tops m m' s' →
    Kept top base 0 g m m' s (back s.store.locals s')
body_kept top base g m m' s s' o a = record {
  tops = a.tops_held;
  tops_in = o;
  locals = refl;
  same = λ i b c. a.same i b (omega arith);
  size =
      a.size;
  used = a.used;
  limit = a.limit;
}

-- a call gives the names of the caller back
comes_back : (top base k : ℕ) (g : Scope) (t : Ty) (m : Memory) (s : State) (r : Eval) (q : Ran) → InOrder base 0 top g.tops →
    AgreesEnd top base g.structs g.tops t m r q → Agrees top base 0 g t (Local 0) m s (returned s.store.locals (left_by k r)) q
comes_back top base k g t m s (Got v s') (Done m') o a = (
  a.0,
  body_kept top base g m m' s (leave k s') o
      (record { tops_held = a.1.tops_held; same = a.1.same; size = a.1.size; used = a.1.used; limit = a.1.limit }),
)
comes_back top base k g t m s (Got v s') (Trapped u m') o a = absurd a
comes_back top base k g t m s (Got v s') Out o a = absurd a
comes_back top base k g t m s (Traps u s') (Done m') o a = absurd a
comes_back top base k g t m s (Traps u s') (Trapped w m') o a = (
  a.0,
  body_kept top base g m m' s (leave k s') o
      (record { tops_held = a.1.tops_held; same = a.1.same; size = a.1.size; used = a.1.used; limit = a.1.limit }),
)
comes_back top base k g t m s (Traps u s') Out o a = absurd a
comes_back top base k g t m s RunsOut (Done m') o a = absurd a
comes_back top base k g t m s RunsOut (Trapped w m') o a = absurd a
comes_back top base k g t m s RunsOut Out o a = tt

-- there is still room after statements
free_after_one : (g : Scope) (d n : ℕ) (a : Stmt) → d ≤ n → Fine g d n a → free_after g d a ≤ n
free_after_one g d n (VarStmt v) le f = subst (λ t. d + cells_for g t ≤ n) (sym f.1) f.3
free_after_one g d n (Assign name path e) le f = le
free_after_one g d n (Call name k es) le f = le
free_after_one g d n (Error text p) le f = le
free_after_one g d n (If' e _ a p) le f = le
free_after_one g d n (IfElse' e _ a _ b p) le f = le
free_after_one g d n (While' e _ a p) le f = le
free_after_one g d n (For' name a k _ b p) le f = le

free_after_list : (g : Scope) (d n : ℕ) (ss : List Stmt) → d ≤ n → FineAll g d n ss → free_after_all g d ss ≤ n
free_after_list g d n [] le f = le
free_after_list g d n (a ∷ more) le f = free_after_list (scope_after g d a) (free_after g d a) n more (free_after_one g d n a le f.0) f.1

-- the code of a body does what a call of the function means, and leaves its value in the body's first cells
pub body_agrees : (top base n : ℕ) (l : Library) (g : Scope) (ps : List Field) (statements : List Stmt) (r : Option Return) (t : Ty) (vs : List Val)
    (m : Memory) (s : State) → ExpressionsAgree → Calls top l g.structs g.tops g.funs →
    FineBody g n ps statements r t → Begins top base n g ps vs m s →
    Agrees top base 0 g t (Local 0) m s (called_fun ps (run_body l (record { statements = statements; result = r })) vs s)
    (go_all (body_code g ps statements r) base m)
body_agrees top base n l g ps statements r t vs m s agree calls f b =
    let g1 : Scope = inside g ps in
    let d1 : ℕ = cells_of_all g ps in
    let g2 : Scope = scope_after_all g1 d1 statements in
    let d2 : ℕ = free_after_all g1 d1 statements in
    let h = begun top base n g ps vs m s b in
    let s1 : State = entered ps vs s in
    let adds = adds_all g1 d1 statements in
    comes_back top base (length (arguments ps vs)) g t m s _ _ b.tops_in
    (subst (λ q. AgreesEnd top base g.structs g.tops t m (then_eval (does_all l statements s1) (λ v s2. result_of l r s2)) q)
    (sym (go_all-append (all_code g1 d1 statements) (result_code g2 d2 r) base m))
    (end_after top base d2 n g2 g t m (does_all l statements s1) (go_all (all_code g1 d1 statements) base m) (λ v s2. result_of l r s2)
    (go_all (result_code g2 d2 r) base) (record { structs = sym adds.structs; tops = sym adds.tops })
    (all_agree top base n l agree statements d1 g1 calls m s1 f.2 h)
    (λ v s2 m2 w. result_agrees top base d2 n l g2 r t m2 s2 agree (calls_after top l g1 g2 adds calls) f.3
    (free_after_list g1 d1 n statements f.1 f.2) w.holds)))
