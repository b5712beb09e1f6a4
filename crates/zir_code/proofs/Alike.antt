-- What statements leave, and what follows them and expressions.
use Rattle.std.specs.Prelude.{ℕ, ◌<◌, ◌≤◌, pos, List, [], ◌∷◌, ◌++◌, ◌≡◌, refl, slice_index_or, length}
use Rattle.std.proofs.Common.{ap, ◌∙◌, sym, subst, arith, append_assoc}
use Rattle.zir_tree.specs.declared.value.Val.{Val, Unit as UnitVal}
use Rattle.zir_tree.specs.declared.types.Ty.{Ty}
use Rattle.zir_tree.specs.declared.types.StructDef.{StructDef}
use Rattle.zir_tree.specs.declared.stmt.Stmt.{Stmt, Var as VarStmt, Assign, Call, Error, If', IfElse', While', For', Row_of-Stmt, end_of-Stmt, more_of-Stmt}
use Rattle.zir_meaning.specs.Trace.{State}
use Rattle.zir_meaning.specs.Evaluation.{Eval, Got, Library, then_eval}
use Rattle.zir_expr.specs.declared.frame.Spot.{Spot}
use Rattle.zir_expr.specs.Memory.{Ran, Done, then_run, place_of}
use Rattle.zir_expr.specs.Memory.Frames.{Memory}
use Rattle.zir_code.specs.declared.scope.Holder.{Holder}
use Rattle.zir_code.specs.Scopes.{Scope}
use Rattle.zir_code.specs.Holding.{Holds, Kept, Spares, StandsAt, Agrees}
use Rattle.zir_code.specs.Statements.{scope_after, free_after, scope_after_row}
use Rattle.zir_code.specs.Fine.{Stopped}
use Rattle.zir_code.specs.Calls.{Calls}
use Rattle.zir_code.proofs.Sparing.{WentSparing as Went, AgreesSparing as AgreesStmt, Narrows, spares_both, spares_other}
use Rattle.zir_code.proofs.Kept.{kept_holds}
use Rattle.zir_code.proofs.Agreeing.{ends_then, ends_less}

-- two memories whose cells between the top variables and those of the body are the same, and those of no variable in scope
pub record Alike (top base d : ℕ) (g : Scope) (m m' : Memory) : Type 0 where
  pub same : (i : ℕ) → top ≤ i → i < base → slice_index_or m'.cells i (pos 0) ≡ slice_index_or m.cells i (pos 0)
  pub spare : Spares top base d g m m'
  pub size : length m'.cells ≡ length m.cells

pub alike_went : (top base d d' n : ℕ) (g g' : Scope) (m m' : Memory) (s' : State) → Narrows base d d' g g' → Went top base d n g m m' s' →
    Alike top base d' g' m m'
alike_went top base d d' n g g' m m' s' z w =
    record { same = w.same; spare = spares_other top base d d' g g' m m' z w.spare; size = w.size }

pub alike_kept : (top base d d' : ℕ) (g g' : Scope) (m m' : Memory) (s s' : State) → Narrows base d d' g g' → Kept top base d g m m' s s' →
    Alike top base d' g' m m'
alike_kept top base d d' g g' m m' s s' z k =
    record { same = λ i a b. k.same i a (omega arith); spare = λ i a b o. k.same i a (z i b o).0; size = k.size }

-- a trap after memory was changed
pub stopped_from : (top base d : ℕ) (g : Scope) (structs : List StructDef) (tops : List Holder) (m m1 m' : Memory) (s' : State) →
    Alike top base d g m m1 → Stopped top base structs tops m1 m' s' → Stopped top base structs tops m m' s'
stopped_from top base d g structs tops m m1 m' s' a w =
    record { tops_held = w.tops_held; same = λ i b c. w.same i b c ∙ a.same i b c; size = w.size ∙ a.size; used = w.used; limit = w.limit }

-- a trap in an expression
pub stopped_kept : (top base d : ℕ) (g : Scope) (m m' : Memory) (s s' : State) → Kept top base d g m m' s s' →
    Stopped top base g.structs g.tops m m' s'
stopped_kept top base d g m m' s s' k = record {
  tops_held = k.tops;
  same = λ i b c. k.same i b (omega arith);
  size = k.size;
  used = k.used;
  limit =
      k.limit;
}

-- the same from an earlier memory
pub from_alike : (top base d n : ℕ) (g : Scope) (m m1 : Memory) (r : Eval) (q : Ran) → Alike top base d g m m1 → AgreesStmt top base d n g m1 r q →
    AgreesStmt top base d n g m r q
from_alike top base d n g m m1 r q a w =
    ends_less (λ v s' m'. Went top base d n g m1 m' s') (λ s' m'. Stopped top base g.structs g.tops m1 m' s') (λ v s' m'. Went top base d n g m m' s')
    (λ s' m'. Stopped top base g.structs g.tops m m' s') r q
    (λ v s' m' x. record {
      holds = x.holds;
      same = λ i b c. x.same i b c ∙ a.same i b c;
      spare = spares_both top base d g m m1 m' a.spare x.spare;
      size = x.size ∙ a.size;
    })
    (λ s' m' x. stopped_from top base d g g.structs g.tops m m1 m' s' a x) w

-- a scope has the structs and the top variables of another
pub record SameTops (g g' : Scope) : Type 0 where
  pub structs : g'.structs ≡ g.structs
  pub tops : g'.tops ≡ g.tops

pub same_tops : (g : Scope) → SameTops g g
same_tops g = record { structs = refl; tops = refl }

pub stopped_in : (top base : ℕ) (g g' : Scope) (m m' : Memory) (s' : State) → SameTops g g' → Stopped top base g.structs g.tops m m' s' →
    Stopped top base g'.structs g'.tops m m' s'
stopped_in top base g g' m m' s' z w =
    subst (λ ds. Stopped top base g'.structs ds m m' s') (sym z.tops) (subst (λ structs. Stopped top base structs g.tops m m' s') (sym z.structs) w)

-- what follows an expression, from where it begins
pub from_expression : (top base d d' n : ℕ) (g g' : Scope) (t : Ty) (spot : Spot) (m : Memory) (s : State) (r : Eval) (q : Ran)
    (next : Val → State → Eval) (next' : Memory → Ran) → SameTops g g' → Agrees top base d g t spot m s r q →
    ((v : Val) (s' : State) (m' : Memory) → StandsAt g.structs t v m' (place_of base spot) → Kept top base d g m m' s s' →
    AgreesStmt top base d' n g' m (next v s') (next' m')) → AgreesStmt top base d' n g' m (then_eval r next) (then_run q next')
from_expression top base d d' n g g' t spot m s r q next next' z a k =
    ends_then (λ v s' m'. StandsAt g.structs t v m' (place_of base spot) × Kept top base d g m m' s s') (λ s' m'. Kept top base d g m m' s s')
    (λ v s' m'. Went top base d' n g' m m' s') (λ s' m'. Stopped top base g'.structs g'.tops m m' s') r q next next'
    (λ s' m' x. stopped_in top base g g' m m' s' z (stopped_kept top base d g m m' s s' x)) a (λ v s' m' x. k v s' m' x.0 x.1)

-- what follows an expression, from where it ends
pub after_expression : (top base d d' n : ℕ) (g g' : Scope) (t : Ty) (spot : Spot) (m : Memory) (s : State) (r : Eval) (q : Ran)
    (next : Val → State → Eval) (next' : Memory → Ran) → SameTops g g' → Narrows base d d' g g' → Agrees top base d g t spot m s r q →
    ((v : Val) (s' : State) (m' : Memory) → StandsAt g.structs t v m' (place_of base spot) → Kept top base d g m m' s s' →
    AgreesStmt top base d' n g' m' (next v s') (next' m')) → AgreesStmt top base d' n g' m (then_eval r next) (then_run q next')
after_expression top base d d' n g g' t spot m s r q next next' z narrow a k =
    from_expression top base d d' n g g' t spot m s r q next next' z a
    (λ v s' m' st kept. from_alike top base d' n g' m m' _ _ (alike_kept top base d d' g g' m m' s s' narrow kept) (k v s' m' st kept))

-- what follows statements
pub after_statements : (top base d d' n : ℕ) (g g' : Scope) (m : Memory) (r : Eval) (q : Ran) (next : Val → State → Eval) (next' : Memory → Ran) →
    SameTops g g' → Narrows base d d' g g' → AgreesStmt top base d n g m r q →
    ((v : Val) (s' : State) (m' : Memory) → Went top base d n g m m' s' → AgreesStmt top base d' n g' m' (next v s') (next' m')) →
    AgreesStmt top base d' n g' m (then_eval r next) (then_run q next')
after_statements top base d d' n g g' m r q next next' z narrow a k =
    ends_then (λ v s' m'. Went top base d n g m m' s') (λ s' m'. Stopped top base g.structs g.tops m m' s')
    (λ v s' m'. Went top base d' n g' m m' s') (λ s' m'. Stopped top base g'.structs g'.tops m m' s') r q next next'
    (λ s' m' x. stopped_in top base g g' m m' s' z x) a
    (λ v s' m' x. from_alike top base d' n g' m m' _ _ (alike_went top base d d' n g g' m m' s' narrow x) (k v s' m' x))

-- what an expression leaves is what a statement may leave
pub kept_stated : (top base d n : ℕ) (g : Scope) (t : Ty) (spot : Spot) (m : Memory) (s : State) (r : Eval) (q : Ran) → Holds top base d n g m s →
    Agrees top base d g t spot m s r q → AgreesStmt top base d n g m r q
kept_stated top base d n g t spot m s r q h a =
    ends_less (λ v s' m'. StandsAt g.structs t v m' (place_of base spot) × Kept top base d g m m' s s') (λ s' m'. Kept top base d g m m' s s')
    (λ v s' m'. Went top base d n g m m' s') (λ s' m'. Stopped top base g.structs g.tops m m' s') r q
    (λ v s' m' x. record {
      holds = kept_holds top base d d n g m m' s s' (omega arith) h x.1;
      same = λ i b c. x.1.same i b (omega arith);
      spare = λ i b c o. x.1.same i b c;
      size = x.1.size;
    })
    (λ s' m' x. stopped_kept top base d g m m' s s' x) a

-- nothing is done
pub idle : (top base d n : ℕ) (g : Scope) (m : Memory) (s : State) → Holds top base d n g m s → AgreesStmt top base d n g m (Got UnitVal s) (Done m)
idle top base d n g m s h = record { holds = h; same = λ i a b. refl; spare = λ i a b o. refl; size = refl }

-- a statement adds names behind those in scope
pub record Adds (g g' : Scope) : Type 0 where
  pub names : List Holder
  pub locals : g'.locals ≡ g.locals ++ names
  pub structs : g'.structs ≡ g.structs
  pub tops : g'.tops ≡ g.tops
  pub funs : g'.funs ≡ g.funs

pub adds_tops : (g g' : Scope) → Adds g g' → SameTops g g'
adds_tops g g' a = record { structs = a.structs; tops = a.tops }

append_none : (ds : List Holder) → ds ≡ ds ++ []
append_none [] = refl
append_none (d ∷ ds) = ap (λ es. d ∷ es) (append_none ds)

pub adds_none : (g : Scope) → Adds g g
adds_none g = record { names = []; locals = append_none g.locals; structs = refl; tops = refl; funs = refl }

-- what may be called stays what it is
pub calls_after : (top : ℕ) (l : Library) (g g' : Scope) → Adds g g' → Calls top l g.structs g.tops g.funs → Calls top l g'.structs g'.tops g'.funs
calls_after top l g g' a c =
    subst (λ structs. Calls top l structs g'.tops g'.funs) (sym a.structs)
    (subst (λ tops. Calls top l g.structs tops g'.funs) (sym a.tops) (subst (λ funs. Calls top l g.structs g.tops funs) (sym a.funs) c))

pub adds_statement : (g : Scope) (d : ℕ) (a : Stmt) → Adds g (scope_after g d a)
adds_statement g d (VarStmt v) = record { names = _; locals = refl; structs = refl; tops = refl; funs = refl }
adds_statement g d (Assign name path e) = adds_none g
adds_statement g d (Call name k es) = adds_none g
adds_statement g d (Error text p) = adds_none g
adds_statement g d (If' e _ a p) = adds_none g
adds_statement g d (IfElse' e _ a _ b p) = adds_none g
adds_statement g d (While' e _ a p) = adds_none g
adds_statement g d (For' name a n _ b p) = adds_none g

pub adds_both : (g g1 g2 : Scope) → Adds g g1 → Adds g1 g2 → Adds g g2
adds_both g g1 g2 a b = record {
  names = a.names ++ b.names;
  locals = b.locals ∙ ap (λ ds. ds ++ b.names) a.locals ∙ append_assoc g.locals a.names b.names;
  structs = b.structs ∙ a.structs;
  tops = b.tops ∙ a.tops;
  funs = b.funs ∙ a.funs;
}

pub adds_row : {k : _} (g : Scope) (d : ℕ) (row : Row_of-Stmt k) → Adds g (scope_after_row g d row)
adds_row g d end_of-Stmt = adds_none g
adds_row g d (more_of-Stmt a row) = adds_both g (scope_after g d a) (scope_after_row (scope_after g d a) (free_after g d a) row)
    (adds_statement g d a) (adds_row (scope_after g d a) (free_after g d a) row)
