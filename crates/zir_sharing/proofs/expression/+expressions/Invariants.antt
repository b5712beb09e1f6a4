use Rattle.std.proofs.Common.{◌≡◌, drop}
use Rattle.zir_names.specs.Touched.{both, all_of, in_expr}
use Rattle.zir_sharing.proofs.expression.+expressions.Given as goal

-- the rest comes to what is touched so far
abbrev pub invariant-touch_exprs-loop-e : goal.invariant-touch_exprs-loop-e
invariant-touch_exprs-loop-e l = both (all_of (in_expr l.functions) l.es) l.initial.touched ≡ both (all_of (in_expr l.functions) (drop l.e-index l.es)) l.touched
