-- What expressions over bits mean, in the whole language.
use Rattle.std.specs.Prelude.{List, ◌≡◌, refl, map}
use Rattle.std.proofs.Common.{ap, ◌∙◌}
use denote.Hole.Carrier.{hidden}
use Rattle.std.specs.Prelude.{bit_xor}
use Rattle.zir_tree.specs.declared.place.Place.{Place}
use Rattle.zir_tree.specs.declared.types.Base.TheVariants.{Bit as BitTy}
use Rattle.zir_tree.specs.declared.expr.Operator.TheVariants.{BitXor}
use Rattle.zir_tree.specs.declared.expr.Expr as wide_tree_expr
use Rattle.zir_tree.specs.declared.expr.Expr.TheBlock.{shape-the_row-Expr-0, hidden-the_row-Expr-0}
use Rattle.zir_meaning.specs.Operators.{bits_of_both, xor_bit, computed}
use Rattle.zir_meaning.specs.Trace as wide_traces
use Rattle.zir_meaning.specs.Evaluation as wide
use Rattle.zir_bit_tree.specs.declared.value.Val.{Val}
use Rattle.zir_bit_tree.specs.declared.value.Val.TheVariants.{Unit as UnitVal, Bit as BitVal}
use Rattle.zir_bit_tree.specs.declared.tree.Expr.{Expr, Unit, Bit, Variable, Xor', end_of-Expr, more_of-Expr}
use Rattle.zir_bit_meaning.specs.Trace.{State, Next}
use Rattle.zir_bit_meaning.specs.Evaluation.{Eval, Got, Traps, RunsOut, then_eval, xor_of, ev, with_value}
use Rattle.zir_bits.specs.Wide.{wide_value, wide_expr}
use Rattle.zir_bits.specs.Traces.{wide_state, wide_trace}
use Rattle.zir_bits.proofs.Lists.{found-wide}

-- a value, a trap, or a budget that is spent
abbrev pub wide_eval : Eval → wide.Eval
wide_eval (Got v s) = wide.Got (wide_value v) (wide_state s)
wide_eval (Traps t s) = wide.Traps t (wide_state s)
wide_eval RunsOut = wide.RunsOut

-- the exclusive or of two values
xor-value : (v w : Val) → bits_of_both xor_bit bit_xor (wide_value v) (wide_value w) ≡ wide_value (xor_of v w)
xor-value UnitVal w = refl
xor-value (BitVal a) UnitVal = refl
xor-value (BitVal a) (BitVal b) = refl

-- an exclusive or whose left side has this value
xor-right : (p : Place) (v : Val) (right : Eval) →
    wide.then_eval (wide_eval right) (λ w s. wide.computed_at (computed BitXor BitTy (wide_value v) w) p s) ≡ wide_eval (then_eval right (λ w s. Got
    (xor_of v w) s))
xor-right p v (Got w s) = ap (λ x. wide.Got x (wide_state s)) (xor-value v w)
xor-right p v (Traps t s) = refl
xor-right p v RunsOut = refl

-- an exclusive or of two sides
xor-both : (p : Place) (left : Eval) (right : State → Eval) (wide_right : wide_traces.State → wide.Eval) →
    ((s : State) → wide_right (wide_state s) ≡ wide_eval (right s)) →
    wide.both_sides BitXor BitTy p (wide_eval left) wide_right ≡ wide_eval (then_eval left (λ v s. then_eval (right s) (λ w s'. Got (xor_of v w) s')))
xor-both p (Got v s) right wide_right same =
    ap (λ e. wide.then_eval e (λ w s'. wide.computed_at (computed BitXor BitTy (wide_value v) w) p s')) (same s) ∙ xor-right p v (right s)
xor-both p (Traps t s) right wide_right same = refl
xor-both p RunsOut right wide_right same = refl

-- the parts from left to right, and then the operator
two-sides : (l : wide.Library) (a b : wide_tree_expr.Expr) (p : Place) (s : wide_traces.State) →
    wide.ev l (wide_tree_expr.Binary BitXor BitTy a b p) s ≡ wide.both_sides BitXor BitTy p (wide.ev l a s) (wide.ev l b)
unfolding shape-the_row-Expr-0 hidden-the_row-Expr-0 hidden
two-sides l a b p s = refl

-- an expression
pub ev-wide : (l : wide.Library) (e : Expr) (s : State) → wide.ev l (wide_expr e) (wide_state s) ≡ wide_eval (ev e s)
ev-wide l (Unit p) s = refl
ev-wide l (Bit b p) s = refl
ev-wide l (Variable name) s = ap (λ v. wide.Got v (wide_state s)) (found-wide s.store name.id)
ev-wide l (Xor' _ (more_of-Expr a end_of-Expr) _ (more_of-Expr b end_of-Expr) p) s =
    two-sides l (wide_expr a) (wide_expr b) p (wide_state s)
    ∙ ap (λ left. wide.both_sides BitXor BitTy p left (wide.ev l (wide_expr b))) (ev-wide l a s)
    ∙ xor-both p (ev a s) (ev b) (wide.ev l (wide_expr b)) (ev-wide l b)

-- a component that evaluates first
pub with-wide : (e : Eval) (xs : List Val) (next : Next) (wide_next : wide_traces.Next) →
    ((v : Val) (s : State) (ys : List Val) → wide_next (wide_value v) (wide_state s) (map wide_value ys) ≡ wide_trace (next v s ys)) →
    wide.with_value (wide_eval e) (map wide_value xs) wide_next ≡ wide_trace (with_value e xs next)
with-wide (Got v s) xs next wide_next same = same v s xs
with-wide (Traps t s) xs next wide_next same = refl
with-wide RunsOut xs next wide_next same = refl
