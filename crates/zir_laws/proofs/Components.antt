-- Each component proceeds, where the functions and the instances do.
use Rattle.std.specs.Prelude.{ℕ, pos, List, [], ◌∷◌, true, not, Some, None}
use Rattle.zir_tree.specs.declared.value.Val.{Val, Unit as UnitVal, Bool as BoolVal}
use Rattle.zir_tree.specs.declared.ends.End.TheVariants.{Value}
use Rattle.zir_tree.specs.declared.expr.Callee.TheVariants.{Function}
use Rattle.zir_tree.specs.declared.comp.Turning.{Turning}
use Rattle.zir_tree.specs.declared.comp.Turning.TheVariants.{While, Until}
use Rattle.zir_tree.specs.declared.comp.Comp.{Comp, Take, Takes, Emit, Emits, Return, Do, Repeat', While', Times', For', If', Map, Filter, Call, Block', Pipe', end_of-Comp, more_of-Comp, Row_of-Member, end_of-Member, more_of-Member}
use Rattle.zir_tree.specs.declared.comp.Member.{Bind, Var, Run}
use Rattle.zir_meaning.specs.Values.{parts, is_one, num_of}
use Rattle.zir_meaning.specs.Store.{bound, depth, narrowed}
use Rattle.zir_meaning.specs.Trace.{State}
use Rattle.zir_meaning.specs.Evaluation.{Eval, Got, Library, ev, called_by}
use Rattle.zir_meaning.specs.Statements.{bind, turns_of, initial_of, run_body}
use Rattle.zir_meaning.specs.Assigned.{assigns}
use Rattle.zir_meaning.specs.Component.{always, test_of, Around}
use Rattle.zir_laws.specs.Process.{Ends, with_proc, tick_proc, take_proc, outputs_proc, returns_proc, choose_proc, counted_proc, mapped_proc, filtered_proc, Procs, proc, members_proc}
use Rattle.zir_laws.proofs.Evaluating.{Evaluates, FunsEvaluate, evaluates-then, evaluates-got}
use Rattle.zir_laws.proofs.Expressions.{evaluates-ev, evaluates-called}
use Rattle.zir_laws.proofs.Statements.{evaluates-initial, evaluates-body}
use Rattle.zir_laws.proofs.Proceeding.{Proceeds, proceeds-ends, proceeds-moved, proceeds-reads, proceeds-then, proceeds-with, proceeds-arguments, proceeds-tick, proceeds-choose, proceeds-take, proceeds-takes, proceeds-outputs, proceeds-pipe}
use Rattle.zir_laws.proofs.Turning.{proceeds-turns, proceeds-counted}

-- an end with a value after a tick
proceeds-returns : (v : Val) → Proceeds (returns_proc v)
proceeds-returns v = proceeds-tick (λ s'. Ends (Value v) s') (proceeds-ends v (λ store. store))

-- one element and the function of it
proceeds-mapped : (l : Library) → FunsEvaluate l.funs → (k : ℕ) → Proceeds (mapped_proc l k)
proceeds-mapped l h k =
    proceeds-then take_proc (λ x s'. with_proc (called_by l (Function k) (x ∷ []) s') (λ v s''. outputs_proc (v ∷ []) s'')) proceeds-take
    (λ x. proceeds-with (called_by l (Function k) (x ∷ [])) (λ v s''. outputs_proc (v ∷ []) s'') (evaluates-called l h (Function k) (x ∷ []))
    (λ v. proceeds-outputs (v ∷ [])))

-- one element where the function of it is true
proceeds-filtered : (l : Library) → FunsEvaluate l.funs → (k : ℕ) → Proceeds (filtered_proc l k)
proceeds-filtered l h k =
    proceeds-then take_proc
    (λ x s'. with_proc (called_by l (Function k) (x ∷ []) s')
    (λ v s''. choose_proc (is_one v) (outputs_proc (x ∷ [])) (returns_proc UnitVal) s'')) proceeds-take
    (λ x. proceeds-with (called_by l (Function k) (x ∷ [])) (λ v s''. choose_proc (is_one v) (outputs_proc (x ∷ [])) (returns_proc UnitVal) s'')
    (evaluates-called l h (Function k) (x ∷ []))
    (λ v. proceeds-choose (is_one v) (outputs_proc (x ∷ [])) (returns_proc UnitVal) (proceeds-outputs (x ∷ [])) (proceeds-returns UnitVal)))

-- the test of a loop
pub evaluates-test : (turning : Turning) (f : State → Eval) → Evaluates f → Evaluates (λ s. test_of turning f s)
evaluates-test While f h = h
evaluates-test Until f h = evaluates-then f (λ v s. Got (BoolVal (not (is_one v))) s) h (λ v. evaluates-got (BoolVal (not (is_one v))))

-- a test that always holds
pub evaluates-always : Evaluates always
evaluates-always = evaluates-got (BoolVal true)

-- each instance proceeds
abbrev pub ProcsProceed : Procs → Type 0
ProcsProceed procs = (k : ℕ) (vs : List Val) → Proceeds (procs k vs)

mutual
  -- each component
  pub proceeds-proc : (r : Around) (procs : Procs) → FunsEvaluate r.library.funs → ProcsProceed procs → (c : Comp) → Proceeds (λ s. proc r procs c s)
  proceeds-proc r procs h g (Take p) = proceeds-take
  proceeds-proc r procs h g (Takes n p) = proceeds-takes n []
  proceeds-proc r procs h g (Emit e p) =
      proceeds-with (ev r.library e) (λ v s'. outputs_proc (v ∷ []) s') (evaluates-ev r.library h e) (λ v. proceeds-outputs (v ∷ []))
  proceeds-proc r procs h g (Emits e p) =
      proceeds-with (ev r.library e) (λ v s'. outputs_proc (parts v) s') (evaluates-ev r.library h e) (λ v. proceeds-outputs (parts v))
  proceeds-proc r procs h g (Return e p) = proceeds-with (ev r.library e) (λ v s'. returns_proc v s') (evaluates-ev r.library h e) proceeds-returns
  proceeds-proc r procs h g (Do body p) =
      proceeds-tick (λ s'. with_proc (run_body r.library body s') (λ v s''. Ends (Value v) s''))
      (proceeds-with (run_body r.library body) (λ v s''. Ends (Value v) s'') (evaluates-body r.library h body) (λ v. proceeds-ends v (λ store. store)))
  proceeds-proc r procs h g (Repeat' _ (more_of-Comp c end_of-Comp) p) =
      proceeds-turns always (proc r procs c) evaluates-always (proceeds-proc r procs h g c)
  proceeds-proc r procs h g (While' turning e _ (more_of-Comp c end_of-Comp) p) =
      proceeds-turns (test_of turning (ev r.library e)) (proc r procs c) (evaluates-test turning (ev r.library e) (evaluates-ev r.library h e))
      (proceeds-proc r procs h g c)
  proceeds-proc r procs h g (Times' e _ (more_of-Comp c end_of-Comp) p) =
      proceeds-with (ev r.library e) (λ v s'. counted_proc (turns_of (num_of v)) None (pos 0) (proc r procs c) s') (evaluates-ev r.library h e)
      (λ v. proceeds-counted (turns_of (num_of v)) None (pos 0) (proc r procs c) (proceeds-proc r procs h g c))
  proceeds-proc r procs h g (For' name a n _ (more_of-Comp c end_of-Comp) p) =
      proceeds-with (ev r.library a)
      (λ v s'. with_proc (ev r.library n s') (λ w s''. counted_proc (turns_of (num_of w)) (Some name) (num_of v) (proc r procs c) s''))
      (evaluates-ev r.library h a)
      (λ v. proceeds-with (ev r.library n) (λ w s''. counted_proc (turns_of (num_of w)) (Some name) (num_of v) (proc r procs c) s'')
      (evaluates-ev r.library h n)
      (λ w. proceeds-counted (turns_of (num_of w)) (Some name) (num_of v) (proc r procs c) (proceeds-proc r procs h g c)))
  proceeds-proc r procs h g (If' e _ (more_of-Comp a end_of-Comp) _ (more_of-Comp b end_of-Comp) p) =
      proceeds-with (ev r.library e) (λ v s'. choose_proc (is_one v) (proc r procs a) (proc r procs b) s') (evaluates-ev r.library h e)
      (λ v. proceeds-choose (is_one v) (proc r procs a) (proc r procs b) (proceeds-proc r procs h g a) (proceeds-proc r procs h g b))
  proceeds-proc r procs h g (Map f k p) = proceeds-turns always (mapped_proc r.library k) evaluates-always (proceeds-mapped r.library h k)
  proceeds-proc r procs h g (Filter f k p) = proceeds-turns always (filtered_proc r.library k) evaluates-always (proceeds-filtered r.library h k)
  proceeds-proc r procs h g (Call name k es) =
      proceeds-arguments r.library h es [] (λ vs s'. tick_proc s' (λ s''. procs k vs s'')) (λ vs. proceeds-tick (procs k vs) (g k vs))
  proceeds-proc r procs h g (Block' _ ms p) =
      proceeds-reads depth (λ n s. members_proc r procs ms n UnitVal s) (λ n. proceeds-members r procs h g ms n UnitVal)
  proceeds-proc r procs h g (Pipe' link _ (more_of-Comp a end_of-Comp) _ (more_of-Comp b end_of-Comp) p) =
      proceeds-pipe (assigns r.assigned a) (proc r procs a) (proc r procs b) (proceeds-proc r procs h g a) (proceeds-proc r procs h g b)

  -- the members of a block
  pub proceeds-members : {m : _} (r : Around) (procs : Procs) → FunsEvaluate r.library.funs → ProcsProceed procs → (ms : Row_of-Member m) (n : ℕ) (v : Val) →
      Proceeds (λ s. members_proc r procs ms n v s)
  proceeds-members r procs h g end_of-Member n v = proceeds-ends v (λ store. narrowed n store)
  proceeds-members r procs h g (more_of-Member (Bind name c) ms) n v =
      proceeds-then (proc r procs c) (λ w s'. members_proc r procs ms n w (bind name.id w s')) (proceeds-proc r procs h g c)
      (λ w. proceeds-moved (λ store. bound name.id w store) (members_proc r procs ms n w) (proceeds-members r procs h g ms n w))
  proceeds-members r procs h g (more_of-Member (Var var) ms) n v =
      proceeds-with (initial_of r.library var.ty var.initial) (λ w s'. members_proc r procs ms n UnitVal (bind var.name.id w s'))
      (evaluates-initial r.library h var.ty var.initial)
      (λ w. proceeds-moved (λ store. bound var.name.id w store) (members_proc r procs ms n UnitVal) (proceeds-members r procs h g ms n UnitVal))
  proceeds-members r procs h g (more_of-Member (Run c) ms) n v =
      proceeds-then (proc r procs c) (λ w s'. members_proc r procs ms n w s') (proceeds-proc r procs h g c) (λ w. proceeds-members r procs h g ms n w)
