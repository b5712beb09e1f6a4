-- The code of statements does what they mean.
use Rattle.std.specs.Prelude.{ℕ, ◌+◌, ◌<◌, ◌≤◌, ◌^◌, List, [], ◌∷◌, ◌++◌, Option, Some, None, ◌≡◌, refl, length}
use Rattle.std.proofs.Common.{ap, sym, subst, arith}
use Rattle.zir_tree.specs.declared.value.Val.{Unit as UnitVal}
use Rattle.zir_tree.specs.declared.types.Ty.{Ty}
use Rattle.zir_tree.specs.declared.types.TypeExpr.{TypeExpr}
use Rattle.zir_tree.specs.declared.expr.Expr.{Expr}
use Rattle.zir_tree.specs.declared.stmt.Stmt.{Stmt, Var as VarStmt, Assign, Call, Error, If', IfElse', While', For', Row_of-Stmt, end_of-Stmt, more_of-Stmt}
use Rattle.zir_meaning.specs.Values.{type_of, blank, blanks_of}
use Rattle.zir_meaning.specs.Trace.{State}
use Rattle.zir_meaning.specs.Evaluation.{Got, Library, then_eval, ev}
use Rattle.zir_meaning.specs.Statements.{bind, scope, done, initial_of, does, does_row}
use Rattle.zir_shapes.specs.Shapes.{StructsBefore}
use Rattle.zir_shapes.proofs.Blank.{blanks-have}
use Rattle.zir_expr.specs.declared.frame.Spot.TheVariants.{Local}
use Rattle.zir_expr.specs.declared.steps.Step.{Step}
use Rattle.zir_expr.specs.Memory.{Done}
use Rattle.zir_expr.specs.Memory.Frames.{Memory}
use Rattle.zir_expr.specs.Running.{go_all}
use Rattle.zir_code.specs.Scopes.{Scope}
use Rattle.zir_code.specs.Types.{cells_for}
use Rattle.zir_code.specs.Coding.{stands, code_of, settling}
use Rattle.zir_code.specs.Holding.{At, Holds}
use Rattle.zir_code.specs.Statements.{with_local, with_index, scope_after, free_after, initial_code, stmt_code, row_code, scope_after_row, free_after_row}
use Rattle.zir_code.specs.Fine.{InitialFits, Fine, FineRow}
use Rattle.zir_code.specs.Calls.{Calls}
use Rattle.zir_code.specs.Laws.{ExpressionsAgree}
use Rattle.zir_code.proofs.Sparing.{AgreesSparing as AgreesStmt, grows_local, grows_row, narrows}
use Rattle.zir_code.proofs.Kept.{kept_holds}
use Rattle.zir_code.proofs.Agreeing.{go_all-append}
use Rattle.zir_code.proofs.Blank.{no_change, blanks_go}
use Rattle.zir_code.proofs.Calling.{call_agrees}
use Rattle.zir_code.proofs.Alike.{after_statements, idle, kept_stated, adds_tops, adds_statement, adds_row, calls_after}
use Rattle.zir_code.proofs.Scopes.{in_scope, declared}
use Rattle.zir_code.proofs.Assigning.{after_settled, assigns}
use Rattle.zir_code.proofs.Loops.{if_agrees, while_agrees, turn_agrees, for_agrees}

no_steps : (steps : List Step) → steps ++ [] ≡ steps
no_steps [] = refl
no_steps (s ∷ steps) = ap (λ rest. s ∷ rest) (no_steps steps)

-- the code of a variable's declaration
declares : (top base d n : ℕ) (l : Library) (g : Scope) (m : Memory) (s : State) (id : ℕ) (ty : TypeExpr) (o : Option Expr) → ExpressionsAgree →
    Calls top l g.structs g.tops g.funs →
    StructsBefore (length g.structs) (type_of ty).base → d + cells_for g (type_of ty) ≤ n → InitialFits g d n (type_of ty) o →
    Holds top base d n g m s →
    AgreesStmt top base (d + cells_for g (type_of ty)) n (with_local g d id (type_of ty)) m
    (then_eval (initial_of l ty o s) (λ w s'. Got UnitVal (bind id w s'))) (go_all (initial_code g d (cells_for g (type_of ty)) o) base m)
declares top base d n l g m s id ty None agree calls known le f h =
    let t : Ty = type_of ty in
    let k : ℕ = cells_for g t in
    let room : base + n ≤ length m.cells = h.room in
    let w = blanks_go k base d m (omega arith) h.small in
    let b = blanks-have g.structs t calls.ordered known in
    subst (λ q. AgreesStmt top base (d + k) n (with_local g d id t) m (Got UnitVal (bind id (blank l.blanks t) s)) q) (sym w.is)
    (subst (λ blanks. AgreesStmt top base (d + k) n (with_local g d id t) m (Got UnitVal (bind id (blank blanks t) s)) (Done w.memory))
    (sym calls.blanks)
    (declared top base d n g m w.memory s id t (blank (blanks_of g.structs) t) le
    (record { shape = b.shape; cells = subst (At w.memory.cells (base + d)) (sym b.cells) w.so.cells }) w.so.changed h))
declares top base d n l g m s id ty (Some e) agree calls known le f h =
    let t : Ty = type_of ty in
    let k : ℕ = cells_for g t in
    let room : base + n ≤ length m.cells = h.room in
    let small : length m.cells < 2 ^ 63 = h.small in
    subst (λ steps. AgreesStmt top base (d + k) n (with_local g d id t) m (then_eval (ev l e s) (λ w s'. Got UnitVal (bind id w s')))
    (go_all (code_of g e d ++ steps) base m)) (no_steps (settling (stands g e d) d k))
    (after_settled top base d (d + k) n k l g (with_local g d id t) t e m s (λ w s'. Got UnitVal (bind id w s')) []
    (record { structs = refl; tops = refl })
    (narrows base d (d + k) g (with_local g d id t) (grows_local base d n g id t le (omega arith))) agree calls f refl h
    (λ v s1 m1 st kept. declared top base d n g m1 m1 s1 id t v le st (no_change (base + d) (base + d + k) m1)
    (kept_holds top base d d n g m m1 s s1 (omega arith) h kept)))

mutual
  -- the code of a statement does what the statement means
  pub statement_agrees : (top base n : ℕ) (l : Library) (agree : ExpressionsAgree) (a : Stmt) (d : ℕ) (g : Scope)
      (calls : Calls top l g.structs g.tops g.funs) (m : Memory) (s : State) → Fine g d n a → Holds top base d n g m s →
      AgreesStmt top base (free_after g d a) n (scope_after g d a) m (does l a s) (go_all (stmt_code g d a) base m)
  statement_agrees top base n l agree (VarStmt v) d g calls m s f h =
      declares top base d n l g m s v.name.id v.ty v.initial agree calls (subst (λ t. StructsBefore (length g.structs) t.base) (sym f.1) f.2)
      (subst (λ t. d + cells_for g t ≤ n) (sym f.1) f.3) (subst (λ t. InitialFits g d n t v.initial) (sym f.1) f.4) h
  statement_agrees top base n l agree (Assign name path e) d g calls m s f h =
      assigns top base d n l g name.id path e f.0 f.1 m s agree calls f.2 f.3 f.4 f.5 f.6 f.7 h
  statement_agrees top base n l agree (Call name k es) d g calls m s f h =
      kept_stated top base d n g f.0.result (Local d) m s _ _ h (call_agrees top base d n l g k es m s f.0 agree calls f.1 f.2 f.3 h)
  statement_agrees top base n l agree (Error text p) d g calls m s f h =
      (refl, record { tops_held = h.tops; same = λ i a b. refl; size = refl; used = h.used; limit = h.limit })
  statement_agrees top base n l agree (If' e _ a p) d g calls m s f h =
      if_agrees top base d n l g e (scope (does_row l a)) done (row_code g d a) [] m s agree calls f.0
      (λ m1 s1 h1. in_scope top base d n g a l m1 s1 _ f.1 h1 (row_agrees top base n l agree a d g calls m1 s1 f.1 h1))
      (λ m1 s1 h1. idle top base d n g m1 s1 h1) h
  statement_agrees top base n l agree (IfElse' e _ a _ b p) d g calls m s f h =
      if_agrees top base d n l g e (scope (does_row l a)) (scope (does_row l b)) (row_code g d a) (row_code g d b) m s agree calls f.0
      (λ m1 s1 h1. in_scope top base d n g a l m1 s1 _ f.1 h1 (row_agrees top base n l agree a d g calls m1 s1 f.1 h1))
      (λ m1 s1 h1. in_scope top base d n g b l m1 s1 _ f.2 h1 (row_agrees top base n l agree b d g calls m1 s1 f.2 h1)) h
  statement_agrees top base n l agree (While' e _ a p) d g calls m s f h =
      while_agrees top base d n l g e (scope (does_row l a)) (row_code g d a) m s agree calls f.0
      (λ m1 s1 h1. in_scope top base d n g a l m1 s1 _ f.1 h1 (row_agrees top base n l agree a d g calls m1 s1 f.1 h1)) h
  statement_agrees top base n l agree (For' name a k _ b p) d g calls m s f h =
      let inner : Scope = with_index g d name.id in
      let le = f.2 in
      let room : base + n ≤ length m.cells = h.room in
      let small : length m.cells < 2 ^ 63 = h.small in
      for_agrees top base d n l g name.id a k (does_row l b) (row_code inner (d + 1) b) m s agree calls f.0 f.1 le
      (turn_agrees top base d (free_after_row inner (d + 1) b) n g (scope_after_row inner (d + 1) b) name.id (does_row l b)
      (go_all (row_code inner (d + 1) b) base) (omega arith)
      (adds_row inner (d + 1) b) (grows_row base (d + 1) n inner b (omega arith) f.3)
      (λ m2 s2 h2. row_agrees top base n l agree b (d + 1) inner calls m2 s2 f.3 h2)) h

  -- the code of statements does what they mean
  row_agrees : {k : _} (top base n : ℕ) (l : Library) (agree : ExpressionsAgree) (row : Row_of-Stmt k) (d : ℕ) (g : Scope)
      (calls : Calls top l g.structs g.tops g.funs) (m : Memory) (s : State) → FineRow g d n row → Holds top base d n g m s →
      AgreesStmt top base (free_after_row g d row) n (scope_after_row g d row) m (does_row l row s) (go_all (row_code g d row) base m)
  row_agrees top base n l agree end_of-Stmt d g calls m s f h = idle top base d n g m s h
  row_agrees top base n l agree (more_of-Stmt a row) d g calls m s f h =
      let g1 : Scope = scope_after g d a in
      let d1 : ℕ = free_after g d a in
      let d2 : ℕ = free_after_row g1 d1 row in
      let g2 : Scope = scope_after_row g1 d1 row in
      let room : base + n ≤ length m.cells = h.room in
      let small : length m.cells < 2 ^ 63 = h.small in
      subst (λ q. AgreesStmt top base d2 n g2 m (then_eval (does l a s) (λ v s'. does_row l row s')) q)
      (sym (go_all-append (stmt_code g d a) (row_code g1 d1 row) base m))
      (after_statements top base d1 d2 n g1 g2 m (does l a s) (go_all (stmt_code g d a) base m) (λ v s'. does_row l row s')
      (go_all (row_code g1 d1 row) base) (adds_tops g1 g2 (adds_row g1 d1 row))
      (narrows base d1 d2 g1 g2 (grows_row base d1 n g1 row (omega arith) f.1))
      (statement_agrees top base n l agree a d g calls m s f.0 h)
      (λ v s' m' w. row_agrees top base n l agree row d1 g1 (calls_after top l g g1 (adds_statement g d a) calls) m' s' f.1 w.holds))
