-- Typed statements are what code asks for.
use Rattle.std.specs.Prelude.{◌≡◌, refl, ◌≤◌, ◌+◌, max, ℕ, List, [], ◌∷◌, Bool, true, false, Option, Some, None, length}
use Rattle.std.proofs.Common.{ap, sym, subst, arith}
use Rattle.std.proofs.lemmas.List.{append-nil}
use Rattle.zir_tree.specs.declared.types.Base.TheVariants.{Bool as BoolTy, Int32}
use Rattle.zir_tree.specs.declared.types.Ty.{Ty}
use Rattle.zir_tree.specs.declared.ident.Ident.{Ident}
use Rattle.zir_tree.specs.declared.expr.Expr.{Expr}
use Rattle.zir_tree.specs.declared.stmt.Access.{Access}
use Rattle.zir_tree.specs.declared.stmt.Access.TheVariants.{Index, Slice, Part}
use Rattle.zir_tree.specs.declared.stmt.Stmt.{Stmt, Var as VarStmt, Assign, Call, Error, If', IfElse', While', For', Row_of-Stmt, end_of-Stmt, more_of-Stmt}
use Rattle.zir_tree.specs.declared.stmt.Return.{Return}
use Rattle.zir_tree.specs.declared.stmt.Body.{Body}
use Rattle.zir_types.specs.Kinds.{scalar, arr}
use Rattle.zir_types.specs.Scope.{Visible, declare}
use Rattle.zir_types.specs.Statements as seen
use Rattle.zir_types.specs.Typing as types
use Rattle.zir_meaning.specs.Values.{type_of}
use Rattle.zir_meaning.specs.Functions.{pick}
use Rattle.zir_code.specs.Scopes.{Scope, variable}
use Rattle.zir_code.specs.Types.{element_type, result_type, cells_for, size_in}
use Rattle.zir_code.specs.Peaks.{behind, needs_of, peak_of, peak_of_all}
use Rattle.zir_code.specs.Typing.{PartFits}
use Rattle.zir_code.specs.Statements.{with_index, scope_after, free_after, has_index, along_peak, storing_peak}
use Rattle.zir_code.specs.Fine.{Fits, InitialFits, AlongFits, Fine, FineRow}
use Rattle.zir_code.specs.Needs.{initial_peak, stmt_peak, row_peak, all_peak}
use Rattle.zir_code.specs.Bodies.{scope_after_all, free_after_all, FineAll}
use Rattle.zir_code.proofs.TypesFound.{types_found, part_found}
use Rattle.zir_sound.specs.Statements.{HasIfAny, IsStmt, AreStmts, AreStmtsOf, IsBody, Leads, Returns, brought}
use Rattle.zir_sound.specs.Statements as sound
use Rattle.zir_typed_code.specs.Forming.{IsFilled, AllFilled, FilledIfAny, FilledPath, FilledReturn, FormedStmt, FormedRow, FormedAll, FormedBody, numbers_after, numbers_behind}
use Rattle.zir_typed_code.specs.Scopes.{Finds, MayCall, SameScope}
use Rattle.zir_typed_code.specs.Laws.{return_peak, ValueFits}
use Rattle.zir_typed_code.proofs.Rules.{whole_type}
use Rattle.zir_typed_code.proofs.Places.{part_fits}
use Rattle.zir_typed_code.proofs.Expressions.{expression_fits, lists_fit}
use Rattle.zir_typed_code.proofs.Coming.{local_comes, seeing}

-- An expression with room for its code.
pub fits_here : (xs : List ℕ) (v : Visible) (g : Scope) (n d : ℕ) → SameScope xs v g n → (t : Ty) (e : Expr) → IsFilled e → types.Has v t e → peak_of g e d ≤ n →
    Fits g d n t e
fits_here xs v g n d w t e f h le = (expression_fits xs v g n w t e f h, le)

pub initial_room : (g : Scope) (d k : ℕ) (o : Option Expr) → d + k ≤ initial_peak g d k o
initial_room g d k None = omega arith
initial_room g d k (Some e) = omega arith

pub initial_fits : (xs : List ℕ) (v : Visible) (g : Scope) (n d k : ℕ) → SameScope xs v g n → (t : Ty) (o : Option Expr) → FilledIfAny o → HasIfAny v t o →
    initial_peak g d k o ≤ n → InitialFits g d n t o
initial_fits xs v g n d k w t None f h le = tt
initial_fits xs v g n d k w t (Some e) f h le = fits_here xs v g n d w t e f h (omega arith)

-- A path, whose peak counts where an index leads on.
along_fits : (xs : List ℕ) (v : Visible) (g : Scope) (n o : ℕ) → SameScope xs v g n → (t : Ty) (steps : List Access) (u : Ty) → FilledPath steps → Leads v t steps u →
    (has_index steps ≡ true → along_peak g t o steps ≤ n) → AlongFits g o n t steps u
along_fits xs v g n o w t [] u f h le = h
along_fits xs v g n o w t (Index e p ∷ steps) u f (m, s, b, is, whole, has, more) le =
    let all : max (peak_of g e (o + 1)) (along_peak g (element_type t) o steps) ≤ n = le refl in
    let rest : along_peak g (element_type t) o steps ≤ n = omega arith in (
      m,
      s,
      b,
      is,
      whole_type b whole,
      fits_here xs v g n (o + 1) w (scalar b) e f.0 has (omega arith),
      along_fits xs v g n o w s steps u f.1 more (λ i. subst (λ r. along_peak g r o steps ≤ n) (ap element_type is) rest),
    )
along_fits xs v g n o w t (Slice e k p ∷ steps) u f (m, s, b, is, whole, has, more) le =
    let all : max (peak_of g e (o + 1)) (along_peak g (arr k (element_type t)) o steps) ≤ n = le refl in
    let rest : along_peak g (arr k (element_type t)) o steps ≤ n = omega arith in (
      m,
      s,
      b,
      is,
      whole_type b whole,
      fits_here xs v g n (o + 1) w (scalar b) e f.0 has (omega arith),
      along_fits xs v g n o w (arr k s) steps u f.1 more (λ i. subst (λ r. along_peak g (arr k r) o steps ≤ n) (ap element_type is) rest),
    )
along_fits xs v g n o w t (Part x k p ∷ steps) u f (s, is, more) le =
    let part : PartFits g.structs t k s = part_fits v.shapes g.structs t x k s w.structs is in (
      s,
      part,
      along_fits xs v g n o w s steps u f more (λ i. subst (λ r. along_peak g r o steps ≤ n) (part_found g.structs t k s part) (le i)),
    )

-- The peak of a path with an index is that of an assignment.
storing_along : (b : Bool) (p q n : ℕ) → pick b p q ≤ n → b ≡ true → p ≤ n
storing_along true p q n h e = h
storing_along false p q n h e = absurd cc

assign_fits : (xs : List ℕ) (v : Visible) (g : Scope) (n d : ℕ) → SameScope xs v g n → (x : Ident) (steps : List Access) (e : Expr) →
    FormedStmt (length g.structs) xs (Assign x steps e) → IsStmt v (Assign x steps e) → stmt_peak g d (Assign x steps e) ≤ n → Fine g d n (Assign x steps e)
assign_fits xs v g n d w x steps e f (t, u, found, leads, has) le =
    let r : Finds g n x.id t = w.variables x.id t found in
    let own = expression_fits xs v g n w u e f.1 has in
    let size : size_in g e ≡ cells_for g u = ap (cells_for g) (types_found g n u e own) in
    let at_last : storing_peak g (variable g x.id) steps d (size_in g e) ≤ n = omega arith in
    let here : storing_peak g (Some r.holder) steps d (cells_for g u) ≤ n =
    subst (λ k. storing_peak g (Some r.holder) steps d k ≤ n) size (subst (λ o. storing_peak g o steps d (size_in g e) ≤ n) r.found at_last) in
    let way : Leads v r.holder.ty steps u = subst (λ s. Leads v s steps u) (sym r.type_is) leads in (
      u,
      r.holder,
      r.found,
      r.sole,
      r.fits,
      (own, omega arith),
      along_fits xs v g n (d + cells_for g u) w r.holder.ty steps u f.0 way
          (storing_along (has_index steps) (along_peak g r.holder.ty (d + cells_for g u) steps) (behind d (cells_for g u)) n here),
      here,
    )

call_fits : (xs : List ℕ) (v : Visible) (g : Scope) (n d : ℕ) → SameScope xs v g n → (x : Ident) (k : ℕ) (es : List Expr) → AllFilled es →
    IsStmt v (Call x k es) → stmt_peak g d (Call x k es) ≤ n → Fine g d n (Call x k es)
call_fits xs v g n d w x k es f (s, at, unit, each) le =
    let m : MayCall g k s = w.functions k s at in
    let room : max (peak_of_all g es d) (d + max (cells_for g (result_type (g.funs k))) (needs_of (g.funs k))) ≤ n = le in (
      m.made,
      m.found,
      lists_fit xs v g n w m.made.params es f (subst (λ ts. sound.Each v ts es) (sym m.params) each),
      subst (λ o. max (peak_of_all g es d) (d + max (cells_for g (result_type o)) (needs_of o)) ≤ n) m.found room,
    )

-- What nothing new is seen behind.
same_behind : (xs : List ℕ) (v : Visible) (g : Scope) (n : ℕ) → SameScope xs v g n → SameScope xs (declare [] v) g n
same_behind xs v g n w = subst (λ vs. SameScope xs (seeing v vs) g n) (sym (append-nil v.variables)) w

-- Behind a statement both sides have the same in scope.
pub scope_goes_on : (xs : List ℕ) (v : Visible) (g : Scope) (n d : ℕ) → SameScope xs v g n → (s : Stmt) → FormedStmt (length g.structs) xs s →
    stmt_peak g d s ≤ n → SameScope (numbers_after xs s) (declare (brought s) v) (scope_after g d s) n
scope_goes_on xs v g n d w (VarStmt x) f le =
    let room = initial_room g d (cells_for g (type_of x.ty)) x.initial in
    local_comes xs v g n w d x.name.id (type_of x.ty) f.0 f.1 (omega arith)
scope_goes_on xs v g n d w (Assign x steps e) f le = same_behind xs v g n w
scope_goes_on xs v g n d w (Call x k es) f le = same_behind xs v g n w
scope_goes_on xs v g n d w (Error text p) f le = same_behind xs v g n w
scope_goes_on xs v g n d w (If' e _ ss p) f le = same_behind xs v g n w
scope_goes_on xs v g n d w (IfElse' e _ ss _ us p) f le = same_behind xs v g n w
scope_goes_on xs v g n d w (While' e _ ss p) f le = same_behind xs v g n w
scope_goes_on xs v g n d w (For' x a k _ ss p) f le = same_behind xs v g n w

-- The structs are the same behind a statement.
same_structs : (g : Scope) (d : ℕ) (s : Stmt) → g.structs ≡ (scope_after g d s).structs
same_structs g d (VarStmt x) = refl
same_structs g d (Assign x steps e) = refl
same_structs g d (Call x k es) = refl
same_structs g d (Error text p) = refl
same_structs g d (If' e _ ss p) = refl
same_structs g d (IfElse' e _ ss _ us p) = refl
same_structs g d (While' e _ ss p) = refl
same_structs g d (For' x a k _ ss p) = refl

mutual
  pub stmt_fits : (xs : List ℕ) (v : Visible) (g : Scope) (n d : ℕ) → SameScope xs v g n → (s : Stmt) → FormedStmt (length g.structs) xs s → IsStmt v s →
      stmt_peak g d s ≤ n → Fine g d n s
  stmt_fits xs v g n d w (VarStmt x) f h le =
      let t = type_of x.ty in
      let room = initial_room g d (cells_for g t) x.initial in
      (t, refl, f.1, omega arith, initial_fits xs v g n d (cells_for g t) w t x.initial f.2 h le)
  stmt_fits xs v g n d w (Assign x steps e) f h le = assign_fits xs v g n d w x steps e f h le
  stmt_fits xs v g n d w (Call x k es) f h le = call_fits xs v g n d w x k es f h le
  stmt_fits xs v g n d w (Error text p) f h le = tt
  stmt_fits xs v g n d w (If' e _ ss p) f h le =
      (fits_here xs v g n d w (scalar BoolTy) e f.0 h.0 (omega arith), row_fits xs v g n d w ss f.1 h.1 (omega arith))
  stmt_fits xs v g n d w (IfElse' e _ ss _ us p) f h le = (
    fits_here xs v g n d w (scalar BoolTy) e f.0 h.0 (omega arith),
    row_fits xs v g n d w ss f.1 h.1 (omega arith),
    row_fits xs v g n d w us f.2 h.2 (omega arith),
  )
  stmt_fits xs v g n d w (While' e _ ss p) f h le =
      (fits_here xs v g n d w (scalar BoolTy) e f.0 h.0 (omega arith), row_fits xs v g n d w ss f.1 h.1 (omega arith))
  stmt_fits xs v g n d w (For' x a k _ ss p) f h le =
      let inner = local_comes xs v g n w d x.id (scalar Int32) f.0 tt (omega arith) in (
        fits_here xs v g n d w (scalar Int32) a f.1 h.0 (omega arith),
        fits_here xs v g n (d + 1) w (scalar Int32) k f.2 h.1 (omega arith),
        omega arith,
        row_fits (x.id ∷ xs) (seen.with_index x v) (with_index g d x.id) n (d + 1) inner ss f.3 h.2 (omega arith),
      )

  pub row_fits : (xs : List ℕ) (v : Visible) (g : Scope) (n d : ℕ) → SameScope xs v g n → {m : _} (ss : Row_of-Stmt m) → FormedRow (length g.structs) xs ss →
      AreStmts v ss → row_peak g d ss ≤ n → FineRow g d n ss
  row_fits xs v g n d w end_of-Stmt f h le = tt
  row_fits xs v g n d w (more_of-Stmt s ss) f h le = (
    stmt_fits xs v g n d w s f.0 h.0 (omega arith),
    row_fits (numbers_after xs s) (declare (brought s) v) (scope_after g d s) n (free_after g d s)
        (scope_goes_on xs v g n d w s f.0 (omega arith)) ss
        (subst (λ structs. FormedRow (length structs) (numbers_after xs s) ss) (same_structs g d s) f.1) h.1 (omega arith),
  )

pub statements_fit : (xs : List ℕ) (v : Visible) (g : Scope) (n : ℕ) → SameScope xs v g n → (d : ℕ) (ss : List Stmt) → FormedAll (length g.structs) xs ss →
    AreStmtsOf v ss → all_peak g d ss ≤ n → FineAll g d n ss
statements_fit xs v g n w d [] f h le = tt
statements_fit xs v g n w d (s ∷ ss) f h le = (
  stmt_fits xs v g n d w s f.0 h.0 (omega arith),
  statements_fit (numbers_after xs s) (declare (brought s) v) (scope_after g d s) n (scope_goes_on xs v g n d w s f.0 (omega arith)) (free_after g d s) ss
      (subst (λ structs. FormedAll (length structs) (numbers_after xs s) ss) (same_structs g d s) f.1) h.1 (omega arith),
)

pub scopes_go_on : (xs : List ℕ) (v : Visible) (g : Scope) (n : ℕ) → SameScope xs v g n → (d : ℕ) (ss : List Stmt) → FormedAll (length g.structs) xs ss →
    AreStmtsOf v ss → all_peak g d ss ≤ n → SameScope (numbers_behind xs ss) (sound.behind v ss) (scope_after_all g d ss) n
scopes_go_on xs v g n w d [] f h le = w
scopes_go_on xs v g n w d (s ∷ ss) f h le =
    scopes_go_on (numbers_after xs s) (declare (brought s) v) (scope_after g d s) n (scope_goes_on xs v g n d w s f.0 (omega arith)) (free_after g d s) ss
    (subst (λ structs. FormedAll (length structs) (numbers_after xs s) ss) (same_structs g d s) f.1) h.1 (omega arith)

pub value_fits : (xs : List ℕ) (v : Visible) (g : Scope) (n d : ℕ) → SameScope xs v g n → (t : Ty) (r : Option Return) → FilledReturn r → Returns v t r →
    return_peak g d r ≤ n → ValueFits g d n t r
value_fits xs v g n d w t None f h le = h
value_fits xs v g n d w t (Some r) f h le = fits_here xs v g n d w t r.value f h le

pub bodies_fit : (xs : List ℕ) (v : Visible) (g : Scope) (n : ℕ) → SameScope xs v g n → (d : ℕ) (t : Ty) (b : Body) → FormedBody (length g.structs) xs b →
    IsBody v t b → all_peak g d b.statements ≤ n →
    return_peak (scope_after_all g d b.statements) (free_after_all g d b.statements) b.result ≤ n →
    FineAll g d n b.statements × ValueFits (scope_after_all g d b.statements) (free_after_all g d b.statements) n t b.result
bodies_fit xs v g n w d t b f h le top = (
  statements_fit xs v g n w d b.statements f.0 h.statements le,
  value_fits (numbers_behind xs b.statements) (sound.behind v b.statements) (scope_after_all g d b.statements) n (free_after_all g d b.statements)
      (scopes_go_on xs v g n w d b.statements f.0 h.statements le) t b.result f.1 h.result top,
)
