-- What is typed uses only what it sees.
use Rattle.std.specs.Prelude.{ℕ, List, [], ◌∷◌, ◌++◌, Option, Some, None, Bool, true, false, ◌≡◌, refl, nat_eq, if◌then◌else◌, slice_get}
use Rattle.std.proofs.Common.{subst}
use Rattle.std.proofs.lemmas.Bool.{eqb-true}
use Rattle.zir_tree.specs.declared.types.Ty.{Ty}
use Rattle.zir_tree.specs.declared.expr.Callee.TheVariants.{Function as FunctionCallee, Struct as StructCallee}
use Rattle.zir_tree.specs.declared.expr.Expr.{Expr, Unit as UnitExpr, Bit, Bool as BoolLiteral, Int, Variable, Unary', Binary', Index', Slice', Part', Call', Array', Convert', Complex', Row_of-Expr, end_of-Expr, more_of-Expr}
use Rattle.zir_tree.specs.declared.stmt.Access.{Access}
use Rattle.zir_tree.specs.declared.stmt.Access.TheVariants.{Index, Slice, Part}
use Rattle.zir_tree.specs.declared.stmt.Stmt.{Stmt, Var as VarStmt, Assign, Call as CallStmt, Error, If', IfElse', While', For', Row_of-Stmt, end_of-Stmt, more_of-Stmt}
use Rattle.zir_tree.specs.declared.stmt.Return.{Return}
use Rattle.zir_tree.specs.declared.stmt.Body.{Body}
use Rattle.zir_types.specs.declared.scope.Seen.{Seen}
use Rattle.zir_types.specs.declared.scope.Signature.{Signature}
use Rattle.zir_types.specs.declared.typed.Called.{Called}
use Rattle.zir_types.specs.Scope.{Visible, declare, type_in}
use Rattle.zir_types.specs.Statements.{with_index}
use Rattle.zir_types.specs.Typing.{Has, Have, Alike, function_at}
use Rattle.zir_sound.specs.Statements.{HasIfAny, Each, Leads, IsStmt, AreStmts, AreStmtsOf, brought, behind, Returns, IsBody}
use Rattle.zir_beginning.specs.Uses.{ExprWithin, RowWithin, ArgumentsWithin, PathWithin, InitialWithin, StmtWithin, BlockWithin, AllWithin, ResultWithin, BodyWithin}
use Rattle.zir_beginning.specs.Order.{StmtDeclares, BlockDeclares, AllDeclare}

-- each of these variables has such a number
abbrev pub AllSeen : (ℕ → Type 0) → List Seen → Type 0
AllSeen P [] = Unit {0}
AllSeen P (v ∷ vs) = P v.id × AllSeen P vs

pub seen-append : (P : ℕ → Type 0) (xs ys : List Seen) → AllSeen P xs → AllSeen P ys → AllSeen P (xs ++ ys)
seen-append P [] ys h k = k
seen-append P (x ∷ xs) ys h k = (h.0, seen-append P xs ys h.1 k)

-- a variable that is found is one of them
found-head : (P : ℕ → Type 0) (v : Seen) (rest : Option Ty) (id : ℕ) (t : Ty) (b : Bool) → nat_eq v.id id ≡ b →
    (if b then Some v.ty else rest) ≡ Some t → P v.id → (rest ≡ Some t → P id) → P id
found-head P v rest id t true e h here next = subst P (eqb-true v.id id e) here
found-head P v rest id t false e h here next = next h

found-seen : (P : ℕ → Type 0) (vs : List Seen) (id : ℕ) (t : Ty) → type_in vs id ≡ Some t → AllSeen P vs → P id
found-seen P [] id t h all = absurd (cc)
found-seen P (v ∷ vs) id t h all =
    found-head P v (type_in vs id) id t (nat_eq v.id id) refl h all.0 (λ k. found-seen P vs id t k all.1)

-- what is seen may be used
pub record Allows (P Q : ℕ → Type 0) (g : Visible) : Type 0 where
  pub variables : AllSeen P g.variables
  pub functions : (k : ℕ) (s : Signature) → slice_get g.functions k ≡ Some s → Q k

-- more variables are seen
pub allows-more : (P Q : ℕ → Type 0) (g : Visible) (vs : List Seen) → Allows P Q g → AllSeen P vs → Allows P Q (declare vs g)
allows-more P Q g vs h all = record { variables = seen-append P g.variables vs h.variables all; functions = h.functions }

called-place : (Q : ℕ → Type 0) (k : ℕ) (o : Option Signature) (c : Called) → function_at k o ≡ Some c → ((s : Signature) → o ≡ Some s → Q k) → Q k
called-place Q k None c h next = absurd (cc)
called-place Q k (Some s) c h next = next s refl

mutual
  -- each expression
  pub within-ev : (P Q : ℕ → Type 0) (g : Visible) (t : Ty) (e : Expr) → Allows P Q g → Has g t e → ExprWithin P Q e
  within-ev P Q g t (UnitExpr p) a h = tt
  within-ev P Q g t (Bit b p) a h = tt
  within-ev P Q g t (BoolLiteral b p) a h = tt
  within-ev P Q g t (Int n b p) a h = tt
  within-ev P Q g t (Variable x) a h = found-seen P g.variables x.id t h a.variables
  within-ev P Q g t (Unary' o b _ (more_of-Expr e end_of-Expr) p) a (is, fit, h) = within-ev P Q g _ e a h
  within-ev P Q g t (Binary' o k _ (more_of-Expr d end_of-Expr) _ (more_of-Expr e end_of-Expr) p) a (r, m, is, fit, h, i) =
      (within-ev P Q g _ d a h, within-ev P Q g _ e a i)
  within-ev P Q g t (Index' _ (more_of-Expr d end_of-Expr) _ (more_of-Expr e end_of-Expr) p) a (n, w, whole, h, i) =
      (within-ev P Q g _ d a h, within-ev P Q g _ e a i)
  within-ev P Q g t (Slice' _ (more_of-Expr d end_of-Expr) _ (more_of-Expr e end_of-Expr) k p) a (u, n, w, is, whole, h, i) =
      (within-ev P Q g _ d a h, within-ev P Q g _ e a i)
  within-ev P Q g t (Part' _ (more_of-Expr e end_of-Expr) x k p) a (u, part, h) = within-ev P Q g _ e a h
  within-ev P Q g t (Call' f (FunctionCallee k) _ es) a (c, at, is, h) =
      (within-row P Q g c.params es a h, called-place Q k (slice_get g.functions k) c at (λ s e. a.functions k s e))
  within-ev P Q g t (Call' f (StructCallee k) _ es) a (c, at, is, h) = (within-row P Q g c.params es a h, tt)
  within-ev P Q g t (Array' _ es p) a (u, is, h) = within-alike P Q g u es a h
  within-ev P Q g t (Convert' b _ (more_of-Expr e end_of-Expr) p) a (w, is, fit, h) = within-ev P Q g _ e a h
  within-ev P Q g t (Complex' b _ (more_of-Expr d end_of-Expr) _ (more_of-Expr e end_of-Expr) p) a (half, is, fit, h, i) =
      (within-ev P Q g _ d a h, within-ev P Q g _ e a i)

  within-row : {m : _} (P Q : ℕ → Type 0) (g : Visible) (ts : List Ty) (es : Row_of-Expr m) → Allows P Q g → Have g ts es → RowWithin P Q es
  within-row P Q g [] end_of-Expr a h = tt
  within-row P Q g [] (more_of-Expr e es) a h = absurd h
  within-row P Q g (t ∷ ts) end_of-Expr a h = absurd h
  within-row P Q g (t ∷ ts) (more_of-Expr e es) a h = (within-ev P Q g t e a h.0, within-row P Q g ts es a h.1)

  within-alike : {m : _} (P Q : ℕ → Type 0) (g : Visible) (t : Ty) (es : Row_of-Expr m) → Allows P Q g → Alike g t es → RowWithin P Q es
  within-alike P Q g t end_of-Expr a h = tt
  within-alike P Q g t (more_of-Expr e es) a h = (within-ev P Q g t e a h.0, within-alike P Q g t es a h.1)

within-each : (P Q : ℕ → Type 0) (g : Visible) (ts : List Ty) (es : List Expr) → Allows P Q g → Each g ts es → ArgumentsWithin P Q es
within-each P Q g [] [] a h = tt
within-each P Q g [] (e ∷ es) a h = absurd h
within-each P Q g (t ∷ ts) [] a h = absurd h
within-each P Q g (t ∷ ts) (e ∷ es) a h = (within-ev P Q g t e a h.0, within-each P Q g ts es a h.1)

within-path : (P Q : ℕ → Type 0) (g : Visible) (t : Ty) (path : List Access) (u : Ty) → Allows P Q g → Leads g t path u → PathWithin P Q path
within-path P Q g t [] u a h = tt
within-path P Q g t (Index e p ∷ path) u a (n, s, w, is, whole, h, more) = (within-ev P Q g _ e a h, within-path P Q g _ path u a more)
within-path P Q g t (Slice e k p ∷ path) u a (n, s, w, is, whole, h, more) = (within-ev P Q g _ e a h, within-path P Q g _ path u a more)
within-path P Q g t (Part x k p ∷ path) u a (s, part, more) = within-path P Q g _ path u a more

pub within-initial : (P Q : ℕ → Type 0) (g : Visible) (t : Ty) (e : Option Expr) → Allows P Q g → HasIfAny g t e → InitialWithin P Q e
within-initial P Q g t None a h = tt
within-initial P Q g t (Some e) a h = within-ev P Q g t e a h

-- what a statement brings into scope it declares
brought-all : (P : ℕ → Type 0) (a : Stmt) → StmtDeclares P a → AllSeen P (brought a)
brought-all P (VarStmt v) d = (d, tt)
brought-all P (Assign name path e) d = tt
brought-all P (CallStmt name k es) d = tt
brought-all P (Error text p) d = tt
brought-all P (If' e _ a p) d = tt
brought-all P (IfElse' e _ a _ b p) d = tt
brought-all P (While' e _ a p) d = tt
brought-all P (For' name a m _ b p) d = tt

mutual
  -- each statement
  within-stmt : (P Q : ℕ → Type 0) (g : Visible) (s : Stmt) → Allows P Q g → StmtDeclares P s → IsStmt g s → StmtWithin P Q s
  within-stmt P Q g (VarStmt v) a d h = within-initial P Q g _ v.initial a h
  within-stmt P Q g (Assign x path e) a d (t, u, at, leads, h) =
      (found-seen P g.variables x.id t at a.variables, within-ev P Q g _ e a h, within-path P Q g t path u a leads)
  within-stmt P Q g (CallStmt f k es) a d (s, at, is, each) = (within-each P Q g s.params es a each, a.functions k s at)
  within-stmt P Q g (Error text p) a d h = tt
  within-stmt P Q g (If' e _ ss p) a d h = (within-ev P Q g _ e a h.0, within-block P Q g ss a d h.1)
  within-stmt P Q g (IfElse' e _ ss _ us p) a d (has, h, i) =
      (within-ev P Q g _ e a has, within-block P Q g ss a d.0 h, within-block P Q g us a d.1 i)
  within-stmt P Q g (While' e _ ss p) a d h = (within-ev P Q g _ e a h.0, within-block P Q g ss a d h.1)
  within-stmt P Q g (For' x b n _ ss p) a d (first, turns, h) =
      (within-ev P Q g _ b a first, within-ev P Q g _ n a turns, within-block P Q (with_index x g) ss (allows-more P Q g _ a (d.0, tt)) d.1 h)

  -- statements in a row
  within-block : {m : _} (P Q : ℕ → Type 0) (g : Visible) (row : Row_of-Stmt m) → Allows P Q g → BlockDeclares P row → AreStmts g row →
      BlockWithin P Q row
  within-block P Q g end_of-Stmt a d h = tt
  within-block P Q g (more_of-Stmt s row) a d h =
      (within-stmt P Q g s a d.0 h.0, within-block P Q (declare (brought s) g) row (allows-more P Q g (brought s) a (brought-all P s d.0)) d.1 h.1)

-- statements of a body
within-all : (P Q : ℕ → Type 0) (g : Visible) (ss : List Stmt) → Allows P Q g → AllDeclare P ss → AreStmtsOf g ss → AllWithin P Q ss
within-all P Q g [] a d h = tt
within-all P Q g (s ∷ ss) a d h =
    (within-stmt P Q g s a d.0 h.0, within-all P Q (declare (brought s) g) ss (allows-more P Q g (brought s) a (brought-all P s d.0)) d.1 h.1)

-- behind them
allows-behind : (P Q : ℕ → Type 0) (g : Visible) (ss : List Stmt) → Allows P Q g → AllDeclare P ss → Allows P Q (behind g ss)
allows-behind P Q g [] a d = a
allows-behind P Q g (s ∷ ss) a d =
    allows-behind P Q (declare (brought s) g) ss (allows-more P Q g (brought s) a (brought-all P s d.0)) d.1

within-result : (P Q : ℕ → Type 0) (g : Visible) (t : Ty) (r : Option Return) → Allows P Q g → Returns g t r → ResultWithin P Q r
within-result P Q g t None a h = tt
within-result P Q g t (Some r) a h = within-ev P Q g t r.value a h

-- each body
pub within-body : (P Q : ℕ → Type 0) (g : Visible) (t : Ty) (b : Body) → Allows P Q g → AllDeclare P b.statements → IsBody g t b → BodyWithin P Q b
within-body P Q g t b a d h = (
  within-all P Q g b.statements a d h.statements,
  within-result P Q (behind g b.statements) t b.result (allows-behind P Q g b.statements a d) h.result,
)
