-- The code of initial values, one after the other.
use Rattle.std.specs.Prelude.{ℕ, ◌<◌, ◌^◌, max, List, [], ◌∷◌, ◌++◌, Bool, true, false, ◌&&◌, Option, Some, None, ◌≡◌, refl}
use Rattle.std.proofs.Common.{ap, sym, ◌∙◌, arith}
use Rattle.std.proofs.Common.{append_assoc, append-nil}
use Rattle.zir_tree.specs.declared.ident.Ident.{Ident}
use Rattle.zir_tree.specs.declared.expr.Expr.{Expr}
use Rattle.zir_tree.specs.declared.stmt.Stmt.{Stmt, Assign}
use Rattle.zir_tree.specs.declared.stmt.Var.{Var}
use Rattle.zir_expr.specs.declared.steps.Step.{Step}
use Rattle.zir_code.specs.Scopes.{Scope}
use Rattle.zir_code.specs.Needs.{all_peak, all_stmts_coded, stmt_peak, stmt_coded}
use Rattle.zir_code.specs.Statements.{stmt_code}
use Rattle.zir_code.specs.Bodies.{all_code, free_after_all}
use Rattle.zir_compile.specs.Stated.{RowFits}
use Rattle.zir_compile.specs.declared.made.Written.{Written}
use Rattle.zir_compile.specs.Made.{written, written_if, are_written}
use Rattle.zir_compile.proofs.Making.{and_first, and_second, below_small, small_below, both_true}
use Rattle.zir_eval.specs.Opening.{initially, initial_assignments}
use Rattle.zir_eval.specs.Initials.{Begun}

first_code : (g : Scope) (name : Ident) (e : Option Expr) (ss : List Stmt) →
    all_code g 0 (initially name e ++ ss) ≡ all_code g 0 (initially name e) ++ all_code g 0 ss
first_code g name None ss = refl
first_code g name (Some e) ss = ap (λ xs. xs ++ all_code g 0 ss) (sym (append-nil (stmt_code g 0 (Assign name [] e))))

first_peak : (g : Scope) (name : Ident) (e : Option Expr) (ss : List Stmt) →
    all_peak g 0 (initially name e ++ ss) ≡ max (all_peak g 0 (initially name e)) (all_peak g 0 ss)
first_peak g name None ss = omega arith
first_peak g name (Some e) ss = let a = stmt_peak g 0 (Assign name [] e) in let b = all_peak g 0 ss in
    (let q : max a b ≡ max (max a 0) b = omega arith in q)

with_true : (a b : Bool) → (a && true) && b ≡ a && b
with_true true b = refl
with_true false b = refl

first_coded : (g : Scope) (name : Ident) (e : Option Expr) (ss : List Stmt) →
    all_stmts_coded g 0 (initially name e ++ ss) ≡ all_stmts_coded g 0 (initially name e) && all_stmts_coded g 0 ss
first_coded g name None ss = refl
first_coded g name (Some e) ss = sym (with_true (stmt_coded g 0 (Assign name [] e)) (all_stmts_coded g 0 ss))

-- the code of all variables is that so far and that of the others
pub record Goes (g : Scope) (all rest : List Var) (old new : List Step) (peak : ℕ) : Type 0 where
  pub code : old ++ all_code g 0 (initial_assignments all) ≡ new ++ all_code g 0 (initial_assignments rest)
  pub most : all_peak g 0 (initial_assignments all) ≡ max peak (all_peak g 0 (initial_assignments rest))
  pub numbers : all_stmts_coded g 0 (initial_assignments all) ≡ all_stmts_coded g 0 (initial_assignments rest)

pub none_yet : (g : Scope) (all : List Var) (old : List Step) → Goes g all all old old 0
none_yet g all old = record { code = refl; most = (let b = all_peak g 0 (initial_assignments all) in let q : b ≡ max 0 b = omega arith in q); numbers = refl }

-- one more
pub goes_on : (g : Scope) (all rest : List Var) (v : Var) (old new more : List Step) (peak end : ℕ) → Goes g all (v ∷ rest) old new peak →
    RowFits g (initially v.name v.initial) 0 → Begun g (initially v.name v.initial) new more end → Goes g all rest old more (max peak end)
goes_on g all rest v old new more peak end h f b =
    let ss : List Stmt = initially v.name v.initial in
    let others : List Stmt = initial_assignments rest in
    let p = all_peak g 0 ss in
    let q = all_peak g 0 others in
    let x : all_peak g 0 (initial_assignments (v ∷ rest)) ≡ max p q = first_peak g v.name v.initial others in
    let y : end ≡ p = b.peak_is in
    record {
      code = h.code ∙ ap (λ xs. new ++ xs) (first_code g v.name v.initial others) ∙ sym (append_assoc new (all_code g 0 ss) (all_code g 0 others))
          ∙ ap (λ xs. xs ++ all_code g 0 others) (sym b.code);
      most = h.most ∙ ap (max peak) x ∙ (let e : max peak (max p q) ≡ max (max peak end) q = omega arith in e);
      numbers = h.numbers ∙ first_coded g v.name v.initial others ∙ ap (λ z. z && all_stmts_coded g 0 others) f.numbers;
    }

-- where all fit, the next one does
pub fits_first : (g : Scope) (all rest : List Var) (v : Var) (old new : List Step) (peak : ℕ) → Goes g all (v ∷ rest) old new peak →
    RowFits g (initial_assignments all) 0 → RowFits g (initially v.name v.initial) 0
fits_first g all rest v old new peak h all_fit =
    let ss : List Stmt = initially v.name v.initial in
    let others : List Stmt = initial_assignments rest in
    let p = all_peak g 0 ss in
    let q = all_peak g 0 others in
    let x : all_peak g 0 (initial_assignments (v ∷ rest)) ≡ max p q = first_peak g v.name v.initial others in
    let y : all_peak g 0 (initial_assignments all) ≡ max peak (max p q) = h.most ∙ ap (max peak) x in
    let lt : all_peak g 0 (initial_assignments all) < 2 ^ 32 = all_fit.cells in
    record {
      cells = omega (arith, y, lt);
      numbers = and_first (all_stmts_coded g 0 ss) (all_stmts_coded g 0 others)
          (sym (first_coded g v.name v.initial others) ∙ sym h.numbers ∙ all_fit.numbers);
    }

-- all of them
pub gone_fits : (g : Scope) (all : List Var) (old new : List Step) (peak : ℕ) → Goes g all [] old new peak → peak < 2 ^ 32 →
    RowFits g (initial_assignments all) 0
gone_fits g all old new peak h lt =
    let y : all_peak g 0 (initial_assignments all) ≡ max peak 0 = h.most in
    record { cells = omega (arith, y, lt); numbers = h.numbers }

pub gone : (g : Scope) (all : List Var) (old new : List Step) (peak : ℕ) → Goes g all [] old new peak → Begun g (initial_assignments all) old new peak
gone g all old new peak h = record {
  code = sym (append-nil new) ∙ sym h.code;
  peak_is = (let y : all_peak g 0 (initial_assignments all) ≡ max peak 0 = h.most in omega (arith, y));
}

free_first : (g : Scope) (name : Ident) (e : Option Expr) (ss : List Stmt) →
    free_after_all g 0 (initially name e ++ ss) ≡ free_after_all g 0 ss
free_first g name None ss = refl
free_first g name (Some e) ss = refl

-- assignments leave what is in scope, and no more cells than before are in use
free_behind : (g : Scope) (vs : List Var) → free_after_all g 0 (initial_assignments vs) ≡ 0
free_behind g [] = refl
free_behind g (v ∷ vs) = free_first g v.name v.initial (initial_assignments vs) ∙ free_behind g vs

-- the code of all
pub begun_written : (g : Scope) (vs : List Var) (steps : List Step) (peak : ℕ) → RowFits g (initial_assignments vs) 0 →
    Begun g (initial_assignments vs) [] steps peak → Some (record { steps = steps; free = 0; peak = peak }) ≡ written g (initial_assignments vs) 0
begun_written g vs steps peak f b =
    let ss : List Stmt = initial_assignments vs in
    let made : Written = record { steps = steps; free = 0; peak = peak } in
    let same : made ≡ record { steps = all_code g 0 ss; free = free_after_all g 0 ss; peak = all_peak g 0 ss } =
    ap (λ x. let w : Written = record { steps = x; free = 0; peak = peak } in w) b.code
    ∙ ap (λ n. let w : Written = record { steps = all_code g 0 ss; free = n; peak = peak } in w) (sym (free_behind g vs))
    ∙ ap (λ n. let w : Written = record { steps = all_code g 0 ss; free = free_after_all g 0 ss; peak = n } in w) b.peak_is in
    let fit : are_written g ss 0 ≡ true = both_true _ _ (below_small (all_peak g 0 ss) f.cells) f.numbers in
    ap Some same ∙ ap (λ z. written_if z g ss 0) (sym fit)

-- none where they do not fit
pub unwritten : (g : Scope) (vs : List Var) → (RowFits g (initial_assignments vs) 0 → ⊥) → None ≡ written g (initial_assignments vs) 0
unwritten g vs f = ap (λ z. written_if z g (initial_assignments vs) 0) (sym (refused (are_written g (initial_assignments vs) 0) refl)) where
  refused : (z : Bool) → are_written g (initial_assignments vs) 0 ≡ z → z ≡ false
  refused false e = refl
  refused true e = absurd (f (record {
    cells = small_below _ (and_first _ _ e);
    numbers = and_second _ _ e;
  }))
