-- What each process from a state keeps: it counts, it stays within its limit, and with more ticks it goes on.
use Rattle.std.specs.Prelude.{ℕ, zero, suc, ◌+◌, List, [], ◌∷◌, ◌++◌, Bool, true, false, refl}
use Rattle.std.proofs.Common.{ap, arith, subst}
use Rattle.zir_tree.specs.declared.value.Val.{Val, Unit as UnitVal, List as Vals}
use Rattle.zir_tree.specs.declared.value.Slot.{Slot}
use Rattle.zir_tree.specs.declared.types.Field.{Field}
use Rattle.zir_tree.specs.declared.ends.End.TheVariants.{Value}
use Rattle.zir_tree.specs.declared.expr.Expr.{Expr}
use Rattle.zir_meaning.specs.Store.{Store, depth}
use Rattle.zir_meaning.specs.Trace.{State, point}
use Rattle.zir_meaning.specs.Evaluation.{Eval, Library, ev}
use Rattle.zir_meaning.specs.Functions.{arguments, entered}
use Rattle.zir_meaning.specs.Composition.{limit, fresh}
use Rattle.zir_laws.specs.Budgets.{richer}
use Rattle.zir_laws.specs.Process.{Proc, Gives, Ends, NextProc, spent_proc, then_proc, tick_proc, with_proc, arguments_proc, take_proc, takes_proc, outputs_proc, choose_proc, piped}
use Rattle.zir_laws.specs.Acts.{seen_proc, called_proc}
use Rattle.zir_laws.proofs.Evaluating.{Evaluates, FunsEvaluate}
use Rattle.zir_laws.proofs.Expressions.{evaluates-ev}
use Rattle.zir_laws.proofs.Counts.{Counts, counts-earlier, counts-then, counts-tick, counts-with, counts-piped, counts-seen}
use Rattle.zir_laws.proofs.Bounded.{Bounded, bounded-earlier, bounded-then, bounded-tick, bounded-with, bounded-piped, bounded-seen}
use Rattle.zir_laws.proofs.Funded.{Funded, funded-then, funded-tick, funded-with, funded-piped, funded-seen}

-- a process from each state
pub record Proceeds (p : State → Proc) : Type 0 where
  pub counts : (s : State) → Counts s.taken s.ticks (p s)
  pub bounded : (s : State) → Bounded (limit s) s.ticks (p s)
  pub funded : (m : ℕ) (s : State) → Funded (limit s) m (p s) (p (richer m s))

-- no budget for more
pub proceeds-spent : Proceeds (λ s. spent_proc)
proceeds-spent = record { counts = λ s. tt; bounded = λ s. tt; funded = λ m s. (0, tt) }

-- an end with a value, and another store
pub proceeds-ends : (v : Val) (change : Store → Store) → Proceeds (λ s. Ends (Value v) (record s { store = change s.store }))
proceeds-ends v change = record { counts = λ s. (refl, omega arith); bounded = λ s. (omega arith, refl); funded = λ m s. (refl, refl) }

-- a process over another store
pub proceeds-moved : (change : Store → Store) (p : State → Proc) → Proceeds p → Proceeds (λ s. p (record s { store = change s.store }))
proceeds-moved change p h = record {
  counts = λ s. h.counts (record s { store = change s.store });
  bounded = λ s. h.bounded (record s { store = change s.store });
  funded = λ m s. h.funded m (record s { store = change s.store });
}

-- a process that begins with what it reads of the store
pub proceeds-reads : {A : Type 0} (read : Store → A) (p : A → State → Proc) → ((a : A) → Proceeds (p a)) → Proceeds (λ s. p (read s.store) s)
proceeds-reads read p h = record {
  counts = λ s. (h (read s.store)).counts s;
  bounded = λ s. (h (read s.store)).bounded s;
  funded = λ m s. (h (read s.store)).funded m s;
}

-- a process, and where it ends with a value what follows
pub proceeds-then : (p : State → Proc) (next : NextProc) → Proceeds p → ((v : Val) → Proceeds (next v)) → Proceeds (λ s. then_proc (p s) next)
proceeds-then p next h k = record {
  counts = λ s. counts-then (p s) next s.taken s.ticks (h.counts s) (λ v s'. (k v).counts s');
  bounded = λ s. bounded-then (p s) next (limit s) s.ticks (h.bounded s) (λ v s' e. subst (λ n. Bounded n s'.ticks (next v s')) e ((k v).bounded s'));
  funded = λ m s. funded-then (p s) (p (richer m s)) (limit s) m s.taken s.ticks s.ticks next next (omega arith) (h.counts s) (h.funded m s)
      (λ v s' le e. subst (λ n. Funded n m (next v s') (next v (richer m s'))) e ((k v).funded m s')) (λ v s'. (k v).counts s');
}

-- an evaluation, and where it has a value what follows
pub proceeds-with : (f : State → Eval) (next : NextProc) → Evaluates f → ((v : Val) → Proceeds (next v)) → Proceeds (λ s. with_proc (f s) next)
proceeds-with f next h k = record {
  counts = λ s. counts-with (f s) next s (h.keeps s) (λ v s'. (k v).counts s');
  bounded = λ s. bounded-with (f s) next (limit s) s refl (h.keeps s) (λ v s' e. subst (λ n. Bounded n s'.ticks (next v s')) e ((k v).bounded s'));
  funded = λ m s. funded-with (f s) (f (richer m s)) s (limit s) m next next refl (h.keeps s) (h.funded m s)
      (λ v s' le e. subst (λ n. Funded n m (next v s') (next v (richer m s'))) e ((k v).funded m s')) (λ v s'. (k v).counts s');
}

-- arguments, and what follows them
pub proceeds-arguments : (l : Library) → FunsEvaluate l.funs → (es : List Expr) (vs : List Val) (next : List Val → State → Proc) →
    ((vs : List Val) → Proceeds (next vs)) → Proceeds (λ s. arguments_proc l es vs s next)
proceeds-arguments l k [] vs next h = h vs
proceeds-arguments l k (e ∷ es) vs next h =
    proceeds-with (ev l e) (λ v s'. arguments_proc l es (vs ++ v ∷ []) s' next) (evaluates-ev l k e) (λ v. proceeds-arguments l k es (vs ++ v ∷ []) next h)

-- a tick, and what follows
pub proceeds-tick : (p : State → Proc) → Proceeds p → Proceeds (λ s. tick_proc s p)
proceeds-tick p h = record {
  counts = λ s. counts-tick s p s.taken (λ s' e. subst (λ k. Counts k s'.ticks (p s')) e (h.counts s'));
  bounded = λ s. bounded-tick (limit s) s.ticks s p refl
      (λ s' le e. bounded-earlier (p s') (limit s) s'.ticks s.ticks (omega arith) (subst (λ n. Bounded n s'.ticks (p s')) e (h.bounded s')));
  funded = λ m s. funded-tick (limit s) m s p p refl
      (λ s' lt e. subst (λ n. Funded n m (p s') (p (richer m s'))) e (h.funded m s')) (λ s'. (s'.taken, h.counts s'));
}

-- one of two
pub proceeds-choose : (b : Bool) (p q : State → Proc) → Proceeds p → Proceeds q → Proceeds (λ s. choose_proc b p q s)
proceeds-choose true p q h k = h
proceeds-choose false p q h k = k

-- one element
pub proceeds-take : Proceeds take_proc
proceeds-take = record {
  counts = λ s. (refl, omega arith, λ x. counts-tick s _ (s.taken + 1) (λ s' e. (ap (λ k. k + 1) e, omega arith)));
  bounded = λ s. (omega arith, refl, λ x. bounded-tick (limit s) (s.ticks + 1) s _ refl (λ s' le e. (le, e)));
  funded = λ m s. (refl, λ x. funded-tick (limit s) m s _ _ refl (λ s' lt e. (refl, e)) (λ s'. (s'.taken + 1, (refl, omega arith))));
}

-- so many elements
pub proceeds-takes : (n : ℕ) (vs : List Val) → Proceeds (takes_proc n vs)
proceeds-takes zero vs = proceeds-ends (Vals vs) (λ store. store)
proceeds-takes (suc n) vs =
    proceeds-then take_proc (λ v s'. takes_proc n (vs ++ v ∷ []) s') proceeds-take (λ v. proceeds-takes n (vs ++ v ∷ []))

-- outputs
pub proceeds-outputs : (vs : List Val) → Proceeds (outputs_proc vs)
proceeds-outputs [] = proceeds-ends UnitVal (λ store. store)
proceeds-outputs (v ∷ vs) =
    let next : State → Proc = λ s. Gives (record { value = v; at = point s }) (outputs_proc vs s) in
    let h : Proceeds (outputs_proc vs) = proceeds-outputs vs in record {
      counts = λ s. counts-tick s next s.taken
          (λ s' e. (e, omega arith, subst (λ k. Counts k s'.ticks (outputs_proc vs s')) e (h.counts s')));
      bounded = λ s. bounded-tick (limit s) s.ticks s next refl
          (λ s' le e. (omega arith, omega arith, subst (λ n. Bounded n s'.ticks (outputs_proc vs s')) e (h.bounded s')));
      funded = λ m s. funded-tick (limit s) m s next next refl
          (λ s' lt e. (refl, subst (λ n. Funded n m (outputs_proc vs s') (outputs_proc vs (richer m s'))) e (h.funded m s')))
          (λ s'. (s'.taken, (refl, omega arith, h.counts s')));
    }

-- a composition
pub proceeds-pipe : (ids : List ℕ) (a b : State → Proc) → Proceeds a → Proceeds b → Proceeds (λ s. piped ids (depth s.store) s (b (fresh s)) (point s) (a s))
proceeds-pipe ids a b h k = record {
  counts = λ s. counts-earlier (piped ids (depth s.store) s (b (fresh s)) (point s) (a s)) s.taken (s.ticks + 0) s.ticks (omega arith)
      (counts-piped ids (depth s.store) (b (fresh s)) s 0 0 (point s) (a s) (k.counts (fresh s)) (h.counts s));
  bounded = λ s. bounded-earlier (piped ids (depth s.store) s (b (fresh s)) (point s) (a s)) (limit s) (s.ticks + 0) s.ticks (omega arith)
      (bounded-piped ids (depth s.store) (b (fresh s)) (limit (fresh s)) (limit s) 0 s (point s) (a s) refl (k.bounded (fresh s)) (h.bounded s));
  funded = λ m s. funded-piped ids (depth s.store) (b (fresh s)) (b (fresh (richer m s))) s (limit s) (limit (fresh s)) m 0 0 (point s) (a s) (a (richer m s)) refl
      (omega arith) (omega arith) (k.counts (fresh (richer m s))) (k.funded m (fresh s)) (h.counts (richer m s)) (h.funded m s);
}

-- a called body, as its caller sees it
proceeds-seen : (locals : List Slot) (p : State → Proc) → Proceeds p → Proceeds (λ s. seen_proc locals (p s))
proceeds-seen locals p h = record {
  counts = λ s. counts-seen locals (p s) s.taken s.ticks (h.counts s);
  bounded = λ s. bounded-seen locals (p s) (limit s) s.ticks (h.bounded s);
  funded = λ m s. funded-seen locals (p s) (p (richer m s)) (limit s) m (h.funded m s);
}

-- a call of a body
pub proceeds-called : (ps : List Field) (p : State → Proc) (vs : List Val) → Proceeds p → Proceeds (λ s. called_proc ps p vs s)
proceeds-called ps p vs h =
    proceeds-reads (λ store. store.locals) (λ locals s. seen_proc locals (p (entered ps vs s)))
    (λ locals. proceeds-seen locals (λ s. p (entered ps vs s)) (proceeds-moved (λ store. record store { locals = arguments ps vs }) p h))
