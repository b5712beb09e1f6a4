-- A component that calls only instances below a place does the same over instances that do the same below it.
use Rattle.std.specs.Prelude.{ℕ, ◌<◌, pos, List, [], Some, None, ◌≡◌, refl}
use Rattle.std.proofs.Common.{ap, ◌∙◌}
use Rattle.zir_tree.specs.declared.value.Val.{Val, Unit as UnitVal}
use Rattle.zir_tree.specs.declared.comp.Comp.{Comp, Take, Takes, Emit, Emits, Return, Do, Repeat', While', Times', For', If', Map, Filter, Call, Block', Pipe', end_of-Comp, more_of-Comp, Row_of-Member, end_of-Member, more_of-Member}
use Rattle.zir_tree.specs.declared.comp.Member.{Bind, Var, Run}
use Rattle.zir_meaning.specs.Values.{is_one, num_of}
use Rattle.zir_meaning.specs.Store.{depth}
use Rattle.zir_meaning.specs.Trace.{State, point}
use Rattle.zir_meaning.specs.Evaluation.{ev}
use Rattle.zir_meaning.specs.Statements.{bind, turns_of, initial_of}
use Rattle.zir_meaning.specs.Assigned.{assigns}
use Rattle.zir_meaning.specs.Composition.{fresh}
use Rattle.zir_meaning.specs.Component.{always, test_of, Around}
use Rattle.zir_laws.specs.Process.{then_proc, tick_proc, with_proc, arguments_proc, choose_proc, turns_proc, counted_proc, piped, Procs, proc, members_proc}
use Rattle.zir_laws.specs.Calls.{CallsBelow, MembersCallBelow}
use Rattle.zir_laws.proofs.Equations.{funext}

-- instances that do the same below a place
abbrev pub Agree : ℕ → Procs → Procs → Type 0
Agree n procs procs' = (k : ℕ) (vs : List Val) (s : State) → k < n → procs k vs s ≡ procs' k vs s

mutual
  -- each component
  pub agree-proc : (r : Around) (n : ℕ) (procs procs' : Procs) → Agree n procs procs' → (c : Comp) → CallsBelow n c → (s : State) →
      proc r procs c s ≡ proc r procs' c s
  agree-proc r n procs procs' h (Take p) w s = refl
  agree-proc r n procs procs' h (Takes k p) w s = refl
  agree-proc r n procs procs' h (Emit e p) w s = refl
  agree-proc r n procs procs' h (Emits e p) w s = refl
  agree-proc r n procs procs' h (Return e p) w s = refl
  agree-proc r n procs procs' h (Do body p) w s = refl
  agree-proc r n procs procs' h (Repeat' _ (more_of-Comp c end_of-Comp) p) w s =
      ap (λ body. turns_proc s.left always body s) (funext _ _ (λ s. agree-proc r n procs procs' h c w s))
  agree-proc r n procs procs' h (While' turning e _ (more_of-Comp c end_of-Comp) p) w s =
      ap (λ body. turns_proc s.left (test_of turning (ev r.library e)) body s) (funext _ _ (λ s. agree-proc r n procs procs' h c w s))
  agree-proc r n procs procs' h (Times' e _ (more_of-Comp c end_of-Comp) p) w s =
      ap (λ body. with_proc (ev r.library e s) (λ v s'. counted_proc (turns_of (num_of v)) None (pos 0) body s'))
      (funext _ _ (λ s. agree-proc r n procs procs' h c w s))
  agree-proc r n procs procs' h (For' name a b _ (more_of-Comp c end_of-Comp) p) w s =
      ap (λ body. with_proc (ev r.library a s) (λ v s'. with_proc (ev r.library b s')
      (λ u s''. counted_proc (turns_of (num_of u)) (Some name) (num_of v) body s'')))
      (funext _ _ (λ s. agree-proc r n procs procs' h c w s))
  agree-proc r n procs procs' h (If' e _ (more_of-Comp a end_of-Comp) _ (more_of-Comp b end_of-Comp) p) w s =
      ap (λ left. with_proc (ev r.library e s) (λ v s'. choose_proc (is_one v) left (proc r procs b) s'))
      (funext _ _ (λ s. agree-proc r n procs procs' h a w.0 s))
      ∙ ap (λ right. with_proc (ev r.library e s) (λ v s'. choose_proc (is_one v) (proc r procs' a) right s'))
      (funext _ _ (λ s. agree-proc r n procs procs' h b w.1 s))
  agree-proc r n procs procs' h (Map f k p) w s = refl
  agree-proc r n procs procs' h (Filter f k p) w s = refl
  agree-proc r n procs procs' h (Call name k es) w s =
      ap (λ callee. arguments_proc r.library es [] s (λ vs s'. tick_proc s' (λ s''. callee vs s''))) (funext (procs k) (procs' k)
      (λ vs. funext (procs k vs) (procs' k vs) (λ s. h k vs s w)))
  agree-proc r n procs procs' h (Block' _ ms p) w s = agree-members r n procs procs' h ms w (depth s.store) UnitVal s
  agree-proc r n procs procs' h (Pipe' link _ (more_of-Comp a end_of-Comp) _ (more_of-Comp b end_of-Comp) p) w s =
      ap (λ left. piped (assigns r.assigned a) (depth s.store) s (proc r procs b (fresh s)) (point s) left) (agree-proc r n procs procs' h a w.0 s)
      ∙ ap (λ right. piped (assigns r.assigned a) (depth s.store) s right (point s) (proc r procs' a s)) (agree-proc r n procs procs' h b w.1 (fresh s))

  -- the members of a block
  agree-members : {m : _} (r : Around) (n : ℕ) (procs procs' : Procs) → Agree n procs procs' → (ms : Row_of-Member m) → MembersCallBelow n ms →
      (d : ℕ) (v : Val) (s : State) → members_proc r procs ms d v s ≡ members_proc r procs' ms d v s
  agree-members r n procs procs' h end_of-Member w d v s = refl
  agree-members r n procs procs' h (more_of-Member (Bind name c) ms) w d v s =
      ap (λ p. then_proc p (λ u s'. members_proc r procs ms d u (bind name.id u s'))) (agree-proc r n procs procs' h c w.0 s)
      ∙ ap (then_proc (proc r procs' c s)) (funext _ _ (λ u. funext _ _ (λ s'. agree-members r n procs procs' h ms w.1 d u (bind name.id u s'))))
  agree-members r n procs procs' h (more_of-Member (Var var) ms) w d v s =
      ap (with_proc (initial_of r.library var.ty var.initial s))
      (funext _ _ (λ u. funext _ _ (λ s'. agree-members r n procs procs' h ms w d UnitVal (bind var.name.id u s'))))
  agree-members r n procs procs' h (more_of-Member (Run c) ms) w d v s =
      ap (λ p. then_proc p (λ u s'. members_proc r procs ms d u s')) (agree-proc r n procs procs' h c w.0 s)
      ∙ ap (then_proc (proc r procs' c s)) (funext _ _ (λ u. funext _ _ (λ s'. agree-members r n procs procs' h ms w.1 d u s')))
