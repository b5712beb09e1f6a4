-- The value of an expression that neither traps nor costs a tick.
use Rattle.std.specs.Prelude.{◌≡◌}
use Rattle.zir_bit_tree.specs.declared.value.Val.{Val}
use Rattle.zir_bit_tree.specs.declared.tree.Expr.{Expr}
use Rattle.zir_bit_meaning.specs.Store.{Store}
use Rattle.zir_bit_meaning.specs.Trace.{State}
use Rattle.zir_bit_meaning.specs.Evaluation.{Got, ev}

-- over this store the expression has this value, wherever the run stands
abbrev pub IsValue : Expr → Store → Val → Type 0
IsValue e store v = (s : State) → s.store ≡ store → ev e s ≡ Got v s
