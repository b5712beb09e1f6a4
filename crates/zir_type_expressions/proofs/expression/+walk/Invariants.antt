use Rattle.std.proofs.Common.{◌≡◌, drop}
use Rattle.zir_types.specs.Wants.{asked_ty}
use Rattle.zir_types.specs.Expressions.{args_of, Alike, InTurn, no_args}
use Rattle.zir_type_expressions.proofs.expression.+walk.Given as goal

-- the walk of all is the walk of the rest from here
abbrev pub invariant-type_args-loop-e : goal.invariant-type_args-loop-e
invariant-type_args-loop-e l = args_of l.scope (InTurn l.params) no_args l.es ≡ args_of l.scope (InTurn l.rest) l.args (drop l.e-index l.es)

abbrev pub invariant-type_alike-loop-e : goal.invariant-type_alike-loop-e
invariant-type_alike-loop-e l = args_of l.scope (Alike (asked_ty l.want)) no_args l.es ≡ args_of l.scope (Alike (asked_ty l.want)) l.args (drop l.e-index l.es)
