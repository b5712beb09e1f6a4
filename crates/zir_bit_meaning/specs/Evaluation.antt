-- What an expression means, from what is in scope and with the ticks that are left.
use mathlib.Core.Bool.{beq}
use Rattle.std.specs.Prelude.{Bool, false, not, List}
use Rattle.zir_bit_tree.specs.declared.value.Val.{Val}
use Rattle.zir_bit_tree.specs.declared.value.Val.TheVariants.{Unit as UnitVal, Bit as BitVal}
use Rattle.zir_tree.specs.declared.ends.Trap.{Trap}
use Rattle.zir_bit_tree.specs.declared.ends.End.TheVariants.{Trap as Trapped}
use Rattle.zir_bit_tree.specs.declared.tree.Expr.{Expr, Unit, Bit, Variable, Xor', end_of-Expr, more_of-Expr}
use Rattle.zir_bit_meaning.specs.Store.{look_up}
use Rattle.zir_bit_meaning.specs.Trace.{State, Trace, spent, ends, Next}

-- a value, a trap, or a budget that is spent
pub data Eval : Type 0 where
  Got : (v : Val) (s : State) → Eval
  Traps : (t : Trap) (s : State) → Eval
  RunsOut : Eval

-- an evaluation, and where it has a value what follows
abbrev pub then_eval : Eval → (Val → State → Eval) → Eval
then_eval (Got v s) next = next v s
then_eval (Traps t s) next = Traps t s
then_eval RunsOut next = RunsOut

-- whether a value is the bit 1
abbrev pub is_one : Val → Bool
is_one UnitVal = false
is_one (BitVal b) = b

-- the exclusive or of two bits, and unit where the left value is none
abbrev pub xor_of : Val → Val → Val
xor_of UnitVal b = UnitVal
xor_of (BitVal a) b = BitVal (not (beq a (is_one b)))

-- the parts from left to right, and then the operator
abbrev pub ev : Expr → State → Eval
ev (Unit p) s = Got UnitVal s
ev (Bit b p) s = Got (BitVal b) s
ev (Variable name) s = Got (look_up s.store name.id) s
ev (Xor' _ (more_of-Expr a end_of-Expr) _ (more_of-Expr b end_of-Expr) p) s =
    then_eval (ev a s) (λ v s'. then_eval (ev b s') (λ w s''. Got (xor_of v w) s''))

-- a component that evaluates first, and goes on with the value
abbrev pub with_value : Eval → List Val → Next → Trace
with_value (Got v s) xs next = next v s xs
with_value (Traps t s) xs next = ends (Trapped t) s xs
with_value RunsOut xs next = spent
