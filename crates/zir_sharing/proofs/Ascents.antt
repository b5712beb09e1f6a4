-- What parts touch are ascending lists.
use Rattle.std.specs.Prelude.{◌≡◌, ℕ, List, [], ◌∷◌, Option, Some, None, nat_eq, refl}
use Rattle.std.proofs.Common.{◌∙◌, sym, arith}
use Rattle.std.proofs.lemmas.Bool.{cond_both}
use Rattle.zir_tree.specs.declared.expr.Expr.{Expr, Unit, Bit, Bool as Truth, Int, Variable, Unary', Binary', Index', Slice', Part', Call', Array'}
use Rattle.zir_tree.specs.declared.expr.Expr.{Convert', Complex', Row_of-Expr, end_of-Expr, more_of-Expr}
use Rattle.zir_tree.specs.declared.stmt.Var.{Var}
use Rattle.zir_tree.specs.declared.stmt.Access.{Access}
use Rattle.zir_tree.specs.declared.stmt.Access.TheVariants as access
use Rattle.zir_tree.specs.declared.stmt.Return.{Return}
use Rattle.zir_tree.specs.declared.stmt.Body.{Body}
use Rattle.zir_tree.specs.declared.stmt.Stmt.{Stmt, Row_of-Stmt, end_of-Stmt, more_of-Stmt}
use Rattle.zir_tree.specs.declared.stmt.Stmt as stmt
use Rattle.zir_tree.specs.declared.comp.Comp.{Comp, Row_of-Comp, end_of-Comp, more_of-Comp, Row_of-Member, end_of-Member, more_of-Member}
use Rattle.zir_tree.specs.declared.comp.Comp as comp
use Rattle.zir_tree.specs.declared.comp.Member as member
use Rattle.zir_tree.specs.declared.program.Decl.{Decl}
use Rattle.zir_tree.specs.declared.program.Decl.TheVariants as decl
use Rattle.zir_names.specs.Numbers.{union}
use Rattle.zir_names.specs.Touched.{Touched, Called, both, untouched, all_of, maybe_of, call_of, in_expr, in_exprs, in_stmt, in_stmts, in_comp, in_members}
use Rattle.zir_names.specs.Touched.{declares, assigns_to, in_var, in_access, in_return, in_body, tops, seen_outside, functions_from, in_decl}
use Rattle.zir_sharing.specs.Ascending.{AscendsFrom, Ascends, AllAscend}
use Rattle.zir_sharing.proofs.Sets.{ascends-add, ascends-union, ascends-kept, union_none, union_add, add_union, union_then}

pub ascends-both : (a b : Touched) → Ascends a → Ascends b → Ascends (both a b)
ascends-both a b h k =
    (ascends-union 0 a.used b.used h.0 k.0, ascends-union 0 a.assigned b.assigned h.1 k.1, ascends-union 0 a.declared b.declared h.2 k.2)

-- an ascending part, and nothing before it
pub both_none : (a : Touched) → Ascends a → both a untouched ≡ a
both_none a h = λ i. record { used = union_none 0 a.used h.0 i; assigned = union_none 0 a.assigned h.1 i; declared = union_none 0 a.declared h.2 i }

ascends-call : (fs : List Called) (id : ℕ) → AllAscend fs → Ascends (call_of fs id)
ascends-call [] id h = (tt, tt, tt)
ascends-call (f ∷ fs) id h = cond_both (nat_eq f.id id) f.touched (call_of fs id) Ascends (λ e. h.0) (λ e. ascends-call fs id h.1)

pub ascends-all : {A : Type 0} (touch : A → Touched) (xs : List A) → ((x : A) → Ascends (touch x)) → Ascends (all_of touch xs)
ascends-all touch [] h = (tt, tt, tt)
ascends-all touch (x ∷ xs) h = ascends-both (touch x) (all_of touch xs) (h x) (ascends-all touch xs h)

ascends-maybe : {A : Type 0} (touch : A → Touched) (o : Option A) → ((x : A) → Ascends (touch x)) → Ascends (maybe_of touch o)
ascends-maybe touch None h = (tt, tt, tt)
ascends-maybe touch (Some x) h = h x

one : (n : ℕ) → AscendsFrom 0 (n ∷ [])
one n = (omega arith, tt)

mutual
  pub ascends-expr : (fs : List Called) → AllAscend fs → (e : Expr) → Ascends (in_expr fs e)
  ascends-expr fs h (Unit at) = (tt, tt, tt)
  ascends-expr fs h (Bit bit at) = (tt, tt, tt)
  ascends-expr fs h (Truth truth at) = (tt, tt, tt)
  ascends-expr fs h (Int n base at) = (tt, tt, tt)
  ascends-expr fs h (Variable x) = (one x.id, tt, tt)
  ascends-expr fs h (Unary' op base _ (more_of-Expr e end_of-Expr) at) = ascends-expr fs h e
  ascends-expr fs h (Binary' op base _ (more_of-Expr a end_of-Expr) _ (more_of-Expr b end_of-Expr) at) = ascends-both (in_expr fs a) (in_expr fs b) (ascends-expr fs h a) (ascends-expr fs h b)
  ascends-expr fs h (Index' _ (more_of-Expr a end_of-Expr) _ (more_of-Expr b end_of-Expr) at) = ascends-both (in_expr fs a) (in_expr fs b) (ascends-expr fs h a) (ascends-expr fs h b)
  ascends-expr fs h (Slice' _ (more_of-Expr a end_of-Expr) _ (more_of-Expr b end_of-Expr) n at) = ascends-both (in_expr fs a) (in_expr fs b) (ascends-expr fs h a) (ascends-expr fs h b)
  ascends-expr fs h (Part' _ (more_of-Expr e end_of-Expr) name n at) = ascends-expr fs h e
  ascends-expr fs h (Call' f callee _ es) = ascends-both (call_of fs f.id) (in_exprs fs es) (ascends-call fs f.id h) (ascends-exprs fs h es)
  ascends-expr fs h (Array' _ es at) = ascends-exprs fs h es
  ascends-expr fs h (Convert' base _ (more_of-Expr e end_of-Expr) at) = ascends-expr fs h e
  ascends-expr fs h (Complex' base _ (more_of-Expr a end_of-Expr) _ (more_of-Expr b end_of-Expr) at) = ascends-both (in_expr fs a) (in_expr fs b) (ascends-expr fs h a) (ascends-expr fs h b)

  pub ascends-exprs : (fs : List Called) → AllAscend fs → {m : _} → (es : Row_of-Expr m) → Ascends (in_exprs fs es)
  ascends-exprs fs h end_of-Expr = (tt, tt, tt)
  ascends-exprs fs h (more_of-Expr e es) = ascends-both (in_expr fs e) (in_exprs fs es) (ascends-expr fs h e) (ascends-exprs fs h es)

ascends-var : (fs : List Called) → AllAscend fs → (v : Var) → Ascends (in_var fs v)
ascends-var fs h v = ascends-both (declares v.name) (maybe_of (in_expr fs) v.initial) (tt, tt, one v.name.id) (ascends-maybe (in_expr fs) v.initial (ascends-expr fs h))

ascends-access : (fs : List Called) → AllAscend fs → (a : Access) → Ascends (in_access fs a)
ascends-access fs h (access.Index i at) = ascends-expr fs h i
ascends-access fs h (access.Slice i n at) = ascends-expr fs h i
ascends-access fs h (access.Part name n at) = (tt, tt, tt)

mutual
  pub ascends-stmt : (fs : List Called) → AllAscend fs → (s : Stmt) → Ascends (in_stmt fs s)
  ascends-stmt fs h (stmt.Var v) = ascends-var fs h v
  ascends-stmt fs h (stmt.Assign x path e) =
      ascends-both (assigns_to x) (both (all_of (in_access fs) path) (in_expr fs e)) (one x.id, one x.id, tt)
      (ascends-both (all_of (in_access fs) path) (in_expr fs e) (ascends-all (in_access fs) path (ascends-access fs h)) (ascends-expr fs h e))
  ascends-stmt fs h (stmt.Call f n es) = ascends-both (call_of fs f.id) (all_of (in_expr fs) es) (ascends-call fs f.id h) (ascends-all (in_expr fs) es (ascends-expr fs h))
  ascends-stmt fs h (stmt.Error text at) = (tt, tt, tt)
  ascends-stmt fs h (stmt.If' e _ ss at) = ascends-both (in_expr fs e) (in_stmts fs ss) (ascends-expr fs h e) (ascends-stmts fs h ss)
  ascends-stmt fs h (stmt.IfElse' e _ ss _ ts at) =
      ascends-both (in_expr fs e) (both (in_stmts fs ss) (in_stmts fs ts)) (ascends-expr fs h e) (ascends-both (in_stmts fs ss) (in_stmts fs ts) (ascends-stmts fs h ss) (ascends-stmts fs h ts))
  ascends-stmt fs h (stmt.While' e _ ss at) = ascends-both (in_expr fs e) (in_stmts fs ss) (ascends-expr fs h e) (ascends-stmts fs h ss)
  ascends-stmt fs h (stmt.For' x a n _ ss at) =
      ascends-both (in_expr fs a) (both (in_expr fs n) (in_stmts fs ss)) (ascends-expr fs h a) (ascends-both (in_expr fs n) (in_stmts fs ss) (ascends-expr fs h n) (ascends-stmts fs h ss))

  pub ascends-stmts : (fs : List Called) → AllAscend fs → {m : _} → (ss : Row_of-Stmt m) → Ascends (in_stmts fs ss)
  ascends-stmts fs h end_of-Stmt = (tt, tt, tt)
  ascends-stmts fs h (more_of-Stmt s ss) = ascends-both (in_stmt fs s) (in_stmts fs ss) (ascends-stmt fs h s) (ascends-stmts fs h ss)

pub ascends-body : (fs : List Called) → AllAscend fs → (b : Body) → Ascends (in_body fs b)
ascends-body fs h b = ascends-both (all_of (in_stmt fs) b.statements) (maybe_of (in_return fs) b.result)
    (ascends-all (in_stmt fs) b.statements (ascends-stmt fs h)) (ascends-maybe (in_return fs) b.result (λ (r : Return). ascends-expr fs h r.value))

mutual
  pub ascends-comp : (fs : List Called) → AllAscend fs → (c : Comp) → Ascends (in_comp fs c)
  ascends-comp fs h (comp.Take at) = (tt, tt, tt)
  ascends-comp fs h (comp.Takes n at) = (tt, tt, tt)
  ascends-comp fs h (comp.Emit e at) = ascends-expr fs h e
  ascends-comp fs h (comp.Emits e at) = ascends-expr fs h e
  ascends-comp fs h (comp.Return e at) = ascends-expr fs h e
  ascends-comp fs h (comp.Do b at) = ascends-body fs h b
  ascends-comp fs h (comp.Repeat' _ (more_of-Comp c end_of-Comp) at) = ascends-comp fs h c
  ascends-comp fs h (comp.While' turning e _ (more_of-Comp c end_of-Comp) at) = ascends-both (in_expr fs e) (in_comp fs c) (ascends-expr fs h e) (ascends-comp fs h c)
  ascends-comp fs h (comp.Times' e _ (more_of-Comp c end_of-Comp) at) = ascends-both (in_expr fs e) (in_comp fs c) (ascends-expr fs h e) (ascends-comp fs h c)
  ascends-comp fs h (comp.For' x a n _ (more_of-Comp c end_of-Comp) at) =
      ascends-both (in_expr fs a) (both (in_expr fs n) (in_comp fs c)) (ascends-expr fs h a) (ascends-both (in_expr fs n) (in_comp fs c) (ascends-expr fs h n) (ascends-comp fs h c))
  ascends-comp fs h (comp.If' e _ (more_of-Comp c end_of-Comp) _ (more_of-Comp d end_of-Comp) at) =
      ascends-both (in_expr fs e) (both (in_comp fs c) (in_comp fs d)) (ascends-expr fs h e) (ascends-both (in_comp fs c) (in_comp fs d) (ascends-comp fs h c) (ascends-comp fs h d))
  ascends-comp fs h (comp.Map f n at) = ascends-call fs f.id h
  ascends-comp fs h (comp.Filter f n at) = ascends-call fs f.id h
  ascends-comp fs h (comp.Call f n es) = ascends-both (call_of fs f.id) (all_of (in_expr fs) es) (ascends-call fs f.id h) (ascends-all (in_expr fs) es (ascends-expr fs h))
  ascends-comp fs h (comp.Block' _ ms at) = ascends-members fs h ms
  ascends-comp fs h (comp.Pipe' link _ (more_of-Comp c end_of-Comp) _ (more_of-Comp d end_of-Comp) at) = ascends-both (in_comp fs c) (in_comp fs d) (ascends-comp fs h c) (ascends-comp fs h d)

  pub ascends-members : (fs : List Called) → AllAscend fs → {m : _} → (ms : Row_of-Member m) → Ascends (in_members fs ms)
  ascends-members fs h end_of-Member = (tt, tt, tt)
  ascends-members fs h (more_of-Member (member.Bind x c) ms) = ascends-both (in_comp fs c) (in_members fs ms) (ascends-comp fs h c) (ascends-members fs h ms)
  ascends-members fs h (more_of-Member (member.Var v) ms) = ascends-both (in_var fs v) (in_members fs ms) (ascends-var fs h v) (ascends-members fs h ms)
  ascends-members fs h (more_of-Member (member.Run c) ms) = ascends-both (in_comp fs c) (in_members fs ms) (ascends-comp fs h c) (ascends-members fs h ms)

pub ascends-outside : (top : List ℕ) (t : Touched) → Ascends t → Ascends (seen_outside top t)
ascends-outside top t h = (ascends-kept 0 top t.used h.0, ascends-kept 0 top t.assigned h.1, tt)

pub ascends-functions : (top : List ℕ) (fs : List Called) (ds : List Decl) → AllAscend fs → AllAscend (functions_from top fs ds)
ascends-functions top fs [] h = h
ascends-functions top fs (decl.Var v ∷ ds) h = ascends-functions top fs ds h
ascends-functions top fs (decl.Struct s ∷ ds) h = ascends-functions top fs ds h
ascends-functions top fs (decl.Function f ∷ ds) h = ascends-functions top (record { id = f.name.id; touched = seen_outside top (in_body fs f.body) } ∷ fs) ds (ascends-outside top (in_body fs f.body) (ascends-body fs h f.body), h)
ascends-functions top fs (decl.Comp f ∷ ds) h = ascends-functions top (record { id = f.name.id; touched = seen_outside top (in_comp fs f.body) } ∷ fs) ds (ascends-outside top (in_comp fs f.body) (ascends-comp fs h f.body), h)

pub ascends-tops : (ds : List Decl) → AscendsFrom 0 (tops ds)
ascends-tops [] = tt
ascends-tops (decl.Var v ∷ ds) = ascends-add 0 v.name.id (tops ds) (omega arith) (ascends-tops ds)
ascends-tops (decl.Struct s ∷ ds) = ascends-tops ds
ascends-tops (decl.Function f ∷ ds) = ascends-tops ds
ascends-tops (decl.Comp f ∷ ds) = ascends-tops ds

pub ascends-decl : (d : Decl) → Ascends (in_decl d)
ascends-decl (decl.Var v) = ascends-var [] tt v
ascends-decl (decl.Struct s) = (tt, tt, tt)
ascends-decl (decl.Function f) = ascends-body [] tt f.body
ascends-decl (decl.Comp f) = ascends-comp [] tt f.body

-- one declaration and those after it
pub functions-step : (top : List ℕ) (fs : List Called) (d : Decl) (ds : List Decl) → functions_from top fs (d ∷ ds) ≡ functions_from top (functions_from top fs (d ∷ [])) ds
functions-step top fs (decl.Var v) ds = refl
functions-step top fs (decl.Struct s) ds = refl
functions-step top fs (decl.Function f) ds = refl
functions-step top fs (decl.Comp f) ds = refl

-- the top variable of one declaration, and those behind it
pub tops-then : (d : Decl) (ds : List Decl) (top : List ℕ) → union (tops ds) (union (tops (d ∷ [])) top) ≡ union (tops (d ∷ ds)) top
tops-then (decl.Var v) ds top = sym (union_add v.name.id (tops ds) top ∙ add_union v.name.id (tops ds) top)
tops-then (decl.Struct s) ds top = refl
tops-then (decl.Function f) ds top = refl
tops-then (decl.Comp f) ds top = refl

-- what declarations and then main declare
pub declared-all : (ds : List Decl) (main : Comp) →
    (both (in_comp [] main) (both (all_of in_decl ds) untouched)).declared ≡ union (all_of in_decl ds).declared (in_comp [] main).declared
declared-all ds main =
    union_then (all_of in_decl ds).declared (in_comp [] main).declared []
    ∙ union_none 0 (union (all_of in_decl ds).declared (in_comp [] main).declared)
    (ascends-union 0 (all_of in_decl ds).declared (in_comp [] main).declared (ascends-all in_decl ds ascends-decl).2 (ascends-comp [] tt main).2)
