-- Statements one behind the other, and what comes into scope on the way.
use Rattle.std.specs.Prelude.{ℕ, ◌+◌, ◌<◌, ◌≤◌, ◌^◌, max, List, [], ◌∷◌, ◌++◌, length, drop, ◌&&◌, Option, ◌≡◌, refl}
use Rattle.std.proofs.Common.{ap, sym, ◌∙◌, append_assoc, append-nil, arith, get_or}
use Rattle.std.proofs.lemmas.List.{drop_all}
use denote.Hole.Carrier.{hidden}
use Rattle.zir_tree.specs.declared.types.StructDef.{StructDef}
use Rattle.zir_tree.specs.declared.stmt.Stmt.{Stmt, Var as VarStmt, Assign, Call, Error, If', IfElse', While', For'}
use Rattle.zir_tree.specs.declared.stmt.Stmt.TheBlock.{shape-the_row-Stmt-0, hidden-the_row-Stmt-0}
use Rattle.zir_expr.specs.declared.steps.Step.{Step}
use Rattle.zir_code.specs.declared.scope.Holder.{Holder}
use Rattle.zir_code.specs.declared.scope.Signature.{Signature}
use Rattle.zir_code.specs.Scopes.{Scope}
use Rattle.zir_code.specs.Statements.{stmt_code, row_code, scope_after, free_after}
use Rattle.zir_code.specs.Needs.{stmt_peak, row_peak, all_peak, stmt_coded, row_coded, all_stmts_coded}
use Rattle.zir_code.specs.Bodies.{all_code, scope_after_all, free_after_all}
use Rattle.zir_compile.specs.declared.made.Reach.{Reach}
use Rattle.zir_compile.specs.declared.scope.Names.{Names}
use Rattle.zir_compile.specs.Names.{signature_at, scope_of}
use Rattle.zir_compile.specs.Stated.{Moved, Same, StmtFits, Stated, RowFits, Rowed}
use Rattle.zir_compile.proofs.Finding.{at_place}
use Rattle.zir_compile.proofs.Making.{and_first}

-- nested statements as lists
pub steps-list : (g : Scope) (d : ℕ) (ss : List Stmt) → row_code g d (hidden-the_row-Stmt-0 ss) ≡ all_code g d ss
unfolding shape-the_row-Stmt-0 hidden-the_row-Stmt-0 hidden
steps-list g d [] = refl
steps-list g d (a ∷ ss) = ap (λ (steps : List Step). stmt_code g d a ++ steps) (steps-list (scope_after g d a) (free_after g d a) ss)

pub peaks-list : (g : Scope) (d : ℕ) (ss : List Stmt) → row_peak g d (hidden-the_row-Stmt-0 ss) ≡ all_peak g d ss
unfolding shape-the_row-Stmt-0 hidden-the_row-Stmt-0 hidden
peaks-list g d [] = refl
peaks-list g d (a ∷ ss) = ap (λ n. max (stmt_peak g d a) n) (peaks-list (scope_after g d a) (free_after g d a) ss)

pub codes-list : (g : Scope) (d : ℕ) (ss : List Stmt) → row_coded g d (hidden-the_row-Stmt-0 ss) ≡ all_stmts_coded g d ss
unfolding shape-the_row-Stmt-0 hidden-the_row-Stmt-0 hidden
codes-list g d [] = refl
codes-list g d (a ∷ ss) = ap (λ b. stmt_coded g d a && b) (codes-list (scope_after g d a) (free_after g d a) ss)

-- nothing has come into scope
pub moved_none : (a : Names) → Moved a a
moved_none a = record { added = []; locals = sym (append-nil a.locals.items); structs = refl; tops = refl; functions = refl }

pub moved_same : (a b : Names) → Same a b → Moved a b
moved_same a b s = record { added = []; locals = s.locals ∙ sym (append-nil a.locals.items); structs = s.structs; tops = s.tops; functions = s.functions }

pub same_twice : (a b c : Names) → Same a b → Same b c → Same a c
same_twice a b c s t = record { locals = t.locals ∙ s.locals; structs = t.structs ∙ s.structs; tops = t.tops ∙ s.tops; functions = t.functions ∙ s.functions }

-- what came into scope in two steps
pub moved_twice : (a b c : Names) → Moved a b → Moved b c → Moved a c
moved_twice a b c m n = record {
  added = m.added ++ n.added;
  locals = n.locals ∙ ap (λ (hs : List Holder). hs ++ n.added) m.locals ∙ append_assoc a.locals.items m.added n.added;
  structs = n.structs ∙ m.structs;
  tops = n.tops ∙ m.tops;
  functions = n.functions ∙ m.functions;
}

abbrev pub scope_at : List StructDef → List Holder → List Holder → List (Option Signature) → Scope
scope_at structs tops locals functions = record { structs = structs; tops = tops; locals = locals; funs = signature_at functions }

pub same_parts : (r s : List StructDef) (t u l k : List Holder) (f h : List (Option Signature)) → r ≡ s → t ≡ u → l ≡ k → f ≡ h → scope_at r t l f ≡ scope_at s u k h
same_parts r s t u l k f h o p q e = ap (λ x. scope_at x t l f) o ∙ ap (λ x. scope_at s x l f) p ∙ ap (λ x. scope_at s u x f) q ∙ ap (λ x. scope_at s u k x) e

-- the same names are the same scope
pub same_scope : (a b : Names) → Same a b → scope_of b ≡ scope_of a
same_scope a b s = same_parts b.structs a.structs b.tops a.tops b.locals.items a.locals.items b.functions.items a.functions.items s.structs s.tops s.locals s.functions

-- statements end where they begin, or behind it
free_least : (g : Scope) (d : ℕ) (a : Stmt) → d ≤ free_after g d a
free_least g d (VarStmt v) = omega arith
free_least g d (Assign name path e) = omega arith
free_least g d (Call name k es) = omega arith
free_least g d (Error text p) = omega arith
free_least g d (If' e _ a p) = omega arith
free_least g d (IfElse' e _ a _ b p) = omega arith
free_least g d (While' e _ a p) = omega arith
free_least g d (For' name a n _ b p) = omega arith

pub all_least : (g : Scope) (d : ℕ) (ss : List Stmt) → d ≤ all_peak g d ss
all_least g d [] = omega arith
all_least g d (a ∷ ss) = let first = free_least g d a in let more = all_least (scope_after g d a) (free_after g d a) ss in omega arith

-- so far and from here on
pub record Doing (g0 : Scope) (ss : List Stmt) (d : ℕ) (old : List Step) (rest : List Stmt) (g : Scope) (free peak : ℕ) (steps : List Step) : Type 0 where
  pub most : all_peak g0 d ss ≡ max peak (all_peak g free rest)
  pub numbers : all_stmts_coded g0 d ss ≡ all_stmts_coded g free rest
  pub code : old ++ all_code g0 d ss ≡ steps ++ all_code g free rest
  pub scope : scope_after_all g0 d ss ≡ scope_after_all g free rest
  pub end : free_after_all g0 d ss ≡ free_after_all g free rest
  pub small : peak < 2 ^ 32

pub doing_init : (g : Scope) (ss : List Stmt) (d : ℕ) (steps : List Step) → d < 2 ^ 32 → Doing g ss d steps ss g d d steps
doing_init g ss d steps lt = let least = all_least g d ss in record { most = omega arith; numbers = refl; code = refl; scope = refl; end = refl; small = lt }

-- a statement from here on
pub here_stmt : (g0 : Scope) (ss : List Stmt) (d : ℕ) (old : List Step) (n : ℕ) (a : Stmt) (g : Scope) (free peak : ℕ) (steps : List Step) → n < length ss → a ≡ get_or ss n a →
    Doing g0 ss d old (drop n ss) g free peak steps → RowFits g0 ss d → StmtFits g a free
here_stmt g0 ss d old n a g free peak steps lt is o whole =
    let place = at_place ss n a lt is in
    let most : all_peak g0 d ss ≡ max peak (all_peak g free (a ∷ drop (n + 1) ss)) = o.most ∙ ap (λ xs. max peak (all_peak g free xs)) place in
    let cells = whole.cells in
    record { cells = omega arith; numbers = and_first _ _ (sym (o.numbers ∙ ap (λ xs. all_stmts_coded g free xs) place) ∙ whole.numbers) }

-- one statement more
pub doing_on : (g0 : Scope) (ss : List Stmt) (d : ℕ) (old : List Step) (n : ℕ) (a : Stmt) (g behind : Scope) (free peak most : ℕ) (steps next : List Step) (reach : Reach) → n < length ss →
    a ≡ get_or ss n a → Doing g0 ss d old (drop n ss) g free peak steps → StmtFits g a free → Stated g a free steps next behind reach → most ≡ max peak reach.peak →
    Doing g0 ss d old (drop (n + 1) ss) behind reach.free most next
doing_on g0 ss d old n a g behind free peak most steps next reach lt is o f s m =
    let rest = drop (n + 1) ss in
    let g1 : Scope = scope_after g free a in
    let d1 : ℕ = free_after g free a in
    let place = at_place ss n a lt is in
    let peaks : all_peak g0 d ss ≡ max peak (max (stmt_peak g free a) (all_peak g1 d1 rest)) = o.most ∙ ap (λ xs. max peak (all_peak g free xs)) place in
    let same : all_peak behind reach.free rest ≡ all_peak g1 d1 rest = ap (λ q. all_peak q reach.free rest) s.scope ∙ ap (λ k. all_peak g1 k rest) s.free in
    let low = f.cells in
    let up = s.peak in
    let before = o.small in
    record {
      most = omega arith;
      numbers =
          o.numbers ∙ ap (λ xs. all_stmts_coded g free xs) place ∙ ap (λ b. b && all_stmts_coded g1 d1 rest) f.numbers
          ∙ sym (ap (λ q. all_stmts_coded q reach.free rest) s.scope ∙ ap (λ k. all_stmts_coded g1 k rest) s.free);
      code =
          o.code ∙ ap (λ xs. steps ++ all_code g free xs) place ∙ sym (append_assoc steps (stmt_code g free a) (all_code g1 d1 rest))
          ∙ ap (λ (ss : List Step). ss ++ all_code g1 d1 rest) (sym s.code)
          ∙ ap (λ (ss : List Step). next ++ ss) (sym (ap (λ q. all_code q reach.free rest) s.scope ∙ ap (λ k. all_code g1 k rest) s.free));
      scope = o.scope ∙ ap (scope_after_all g free) place ∙ sym (ap (λ q. scope_after_all q reach.free rest) s.scope ∙ ap (λ k. scope_after_all g1 k rest) s.free);
      end = o.end ∙ ap (free_after_all g free) place ∙ sym (ap (λ q. free_after_all q reach.free rest) s.scope ∙ ap (λ k. free_after_all g1 k rest) s.free);
      small = omega arith;
    }

-- no statement more
pub doing_end : (g0 : Scope) (ss : List Stmt) (d : ℕ) (old : List Step) (n : ℕ) (g : Scope) (free peak most : ℕ) (steps : List Step) → length ss ≤ n → free < 2 ^ 32 →
    Doing g0 ss d old (drop n ss) g free peak steps → most ≡ max peak free → RowFits g0 ss d × Rowed g0 ss d old steps g (record { free = free; peak = most })
doing_end g0 ss d old n g free peak most steps le lt o m =
    let none = drop_all n ss le in
    let whole : all_peak g0 d ss ≡ max peak free = o.most ∙ ap (λ xs. max peak (all_peak g free xs)) none in
    let before = o.small in (
      record { cells = omega arith; numbers = o.numbers ∙ ap (λ xs. all_stmts_coded g free xs) none },
      record {
        code = sym (o.code ∙ ap (λ xs. steps ++ all_code g free xs) none ∙ append-nil steps);
        scope = sym (o.scope ∙ ap (scope_after_all g free) none);
        free = sym (o.end ∙ ap (free_after_all g free) none);
        peak = m ∙ sym whole;
      },
    )
