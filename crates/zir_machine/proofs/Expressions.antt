-- Values of expressions.
use Rattle.std.specs.Prelude.{refl}
use Rattle.std.proofs.Common.{◌∙◌}
use Rattle.zir_bit_tree.specs.declared.value.Val.{Val}
use Rattle.zir_tree.specs.declared.place.Place.{Place}
use Rattle.zir_bit_tree.specs.declared.tree.Expr.{Expr, Xor}
use Rattle.zir_bit_meaning.specs.Store.{Store}
use Rattle.zir_bit_meaning.specs.Evaluation.{xor_of}
use Rattle.zir_bit_laws.proofs.Equations.{ev-Xor}
use Rattle.zir_machine.specs.Values.{IsValue}

-- the value of an exclusive or is that of its sides
pub xor_value : (a b : Expr) (p : Place) (store : Store) (v w : Val) → IsValue a store v → IsValue b store w → IsValue (Xor a b p) store (xor_of v w)
xor_value a b p store v w h k s e = ev-Xor a b p s ∙ rw (h s e) (rw (k s e) refl)
