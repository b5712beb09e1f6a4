-- Over a new frame a run of the code of initial values ends as the program begins.
use Rattle.std.specs.Prelude.{ℕ, ◌+◌, List, [], ◌∷◌, ◌++◌, Option, Some, None, Result, Ok, Err, ◌≡◌, refl}
use Rattle.std.proofs.Common.{ap, subst, ◌∙◌, arith}
use Rattle.zir_tree.specs.declared.ident.Ident.{Ident}
use Rattle.zir_tree.specs.declared.expr.Expr.{Expr}
use Rattle.zir_tree.specs.declared.stmt.Stmt.{Stmt}
use Rattle.zir_tree.specs.declared.stmt.Var.{Var}
use Rattle.zir_tree.specs.declared.value.Val.{Val, Unit as UnitVal}
use Rattle.zir_tree.specs.declared.ends.End.TheVariants.{Trap as Trapped}
use Rattle.zir_tree.specs.declared.program.Core.{Core}
use Rattle.zir_meaning.specs.Store.{declared}
use Rattle.zir_meaning.specs.Trace.{ends}
use Rattle.zir_meaning.specs.Evaluation.{Eval, Got, Traps, RunsOut, Library, with_value}
use Rattle.zir_meaning.specs.Statements.{initial_of, does_all}
use Rattle.zir_meaning.specs.Functions.{library_of}
use Rattle.zir_meaning.specs.Instances.{means}
use Rattle.zir_meaning.specs.Run.{declare, top_values, start}
use Rattle.zir_laws.proofs.Evaluating.{EvalKeeps, Evaluates, FunsEvaluate, evaluates-then, evaluates-got, evaluates-moved}
use Rattle.zir_laws.proofs.Statements.{evaluates-initial}
use Rattle.zir_laws.proofs.Functions.{evaluates-library}
use Rattle.zir_expr.specs.Memory.Frames.{Memory}
use Rattle.zir_code.specs.Scopes.{Scope}
use Rattle.zir_code.specs.Holding.{Holds}
use Rattle.zir_code.specs.Calls.{Calls}
use Rattle.zir_code.specs.Bodies.{scope_after_all, free_after_all}
use Rattle.zir_eval.specs.declared.evaluation.Stop.{Stop}
use Rattle.zir_eval.specs.declared.evaluation.Stop.TheVariants.{Trap as ByTrap, Spent}
use Rattle.zir_eval.specs.Ends.{Executed}
use Rattle.zir_eval.specs.Opening.{top_cells, program_scope, initially, initial_assignments, blank_start}
use Rattle.zir_eval.proofs.Starting.{holds_blanks, calls_mean}
use Rattle.zir_beginning.specs.Laws.{EndsAs}
use Rattle.zir_beginning.specs.Code.{Began, CodeBegins}
use Rattle.zir_beginning.proofs.Beginning.{initials_begin}

-- initial values take no element, and the limit stays
evaluates-tops : (l : Library) → FunsEvaluate l.funs → (vs : List Var) → Evaluates (λ s. top_values l vs s)
evaluates-tops l k [] = evaluates-got UnitVal
evaluates-tops l k (v ∷ vs) =
    evaluates-then (initial_of l v.ty v.initial) (λ w s'. top_values l vs (declare v.name.id w s')) (evaluates-initial l k v.ty v.initial)
    (λ w. evaluates-moved (λ store. declared v.name.id w store) (λ s. top_values l vs s) (evaluates-tops l k vs))

-- assignments leave what is in scope, and no more cells than before are in use
free-first : (g : Scope) (name : Ident) (e : Option Expr) (ss : List Stmt) → free_after_all g 0 (initially name e ++ ss) ≡ free_after_all g 0 ss
free-first g name None ss = refl
free-first g name (Some e) ss = refl

free-behind : (g : Scope) (vs : List Var) → free_after_all g 0 (initial_assignments vs) ≡ 0
free-behind g [] = refl
free-behind g (v ∷ vs) = free-first g v.name v.initial (initial_assignments vs) ∙ free-behind g vs

scope-first : (g : Scope) (name : Ident) (e : Option Expr) (ss : List Stmt) → scope_after_all g 0 (initially name e ++ ss) ≡ scope_after_all g 0 ss
scope-first g name None ss = refl
scope-first g name (Some e) ss = refl

scope-behind : (g : Scope) (vs : List Var) → scope_after_all g 0 (initial_assignments vs) ≡ g
scope-behind g [] = refl
scope-behind g (v ∷ vs) = scope-first g v.name v.initial (initial_assignments vs) ∙ scope-behind g vs

-- a run that ended as the assignments
abbrev Ran : Core → ℕ → Memory → Eval → Result (Unit {0}) Stop → Memory → Type 0
Ran core room m r answer m' = Executed (top_cells core) (top_cells core) 0 room (program_scope core) m r answer m'

-- the same, by what the declarations end with
abbrev FromHere : Core → ℕ → ℕ → Eval → Result (Unit {0}) Stop → Memory → Type 0
FromHere core room limit r answer m = top_values (library_of core.structs core.functions) core.variables (start limit) ≡ r → Began core room limit answer m

-- what follows initial values that end so
follows : (core : Core) (limit : ℕ) (r : Eval) → top_values (library_of core.structs core.functions) core.variables (start limit) ≡ r → (xs : List Val) →
    with_value (top_values (library_of core.structs core.functions) core.variables (start limit)) xs (λ v s' ys. means core core.main s' ys)
    ≡ with_value r xs (λ v s' ys. means core core.main s' ys)
follows core limit r e xs = ap (λ r. with_value r xs (λ v s' ys. means core core.main s' ys)) e

began : (core : Core) (room limit : ℕ) (m m' : Memory) (r q : Eval) (answer : Result (Unit {0}) Stop) → EndsAs r q → EvalKeeps (start limit) r →
    Ran core room m q answer m' → FromHere core room limit r answer m'
began core room limit m m' (Got v s) q (Ok u) same keeps ran = λ e.
    let went = subst (λ q. Ran core room m q (Ok u) m') same ran in
    let zero : 0 + limit ≡ limit = omega arith in
    record { state = s; holds = went.holds; taken = keeps.0; limit_is = keeps.2 ∙ zero; goes_on = follows core limit (Got v s) e }
began core room limit m m' (Got v s) q (Err stop) same keeps ran = absurd (subst (λ q. Ran core room m q (Err stop) m') same ran)
began core room limit m m' (Traps t s) q (Ok u) same keeps ran = absurd (subst (λ q. Ran core room m q (Ok u) m') same.1 ran)
began core room limit m m' (Traps t s) q (Err (ByTrap w)) same keeps ran = λ e.
    let halted = subst (λ q. Ran core room m q (Err (ByTrap w)) m') same.1 ran in
    record {
      state = s;
      taken = keeps.0;
      used = halted.1.used;
      ends_so = λ xs. follows core limit (Traps t s) e xs ∙ ap (λ t. ends (Trapped t) s xs) halted.0;
    }
began core room limit m m' (Traps t s) q (Err Spent) same keeps ran = absurd (subst (λ q. Ran core room m q (Err Spent) m') same.1 ran)
began core room limit m m' RunsOut q (Ok u) same keeps ran = absurd (subst (λ q. Ran core room m q (Ok u) m') same ran)
began core room limit m m' RunsOut q (Err (ByTrap w)) same keeps ran = absurd (subst (λ q. Ran core room m q (Err (ByTrap w)) m') same ran)
began core room limit m m' RunsOut q (Err Spent) same keeps ran = λ e. follows core limit RunsOut e

-- the law
pub code_begins : CodeBegins
code_begins core room limit made m m' answer h blank made_is executes =
    let l : Library = library_of core.structs core.functions in
    let g : Scope = program_scope core in
    let top = top_cells core in
    let ss : List Stmt = initial_assignments core.variables in
    let calls : Calls top l core.structs g.tops g.funs = calls_mean core h.types.structs h.functions in
    let holds : Holds top top 0 room g m (blank_start core limit) = holds_blanks core room limit m h.types h.few h.opens blank in
    let ran : Executed top top (free_after_all g 0 ss) room (scope_after_all g 0 ss) m (does_all l ss (blank_start core limit)) answer m' =
    executes top 0 room l g ss (blank_start core limit) calls h.values holds made_is in
    let here : Ran core room m (does_all l ss (blank_start core limit)) answer m' =
    subst (λ d. Executed top top d room g m (does_all l ss (blank_start core limit)) answer m') (free-behind g core.variables)
    (subst (λ g. Executed top top (free_after_all (program_scope core) 0 ss) room g m (does_all l ss (blank_start core limit)) answer m')
    (scope-behind g core.variables) ran) in
    began core room limit m m' (top_values l core.variables (start limit)) (does_all l ss (blank_start core limit)) answer
    (initials_begin core limit h.order) ((evaluates-tops l (evaluates-library core.structs core.functions) core.variables).keeps (start limit)) here refl
