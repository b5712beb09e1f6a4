-- Whole numbers of a text as cells.
use Rattle.std.specs.Prelude.{ℕ, suc, ℤ, pos, negsuc, ◌≡◌, ◌-◌, ◌%◌, ◌^◌, ◌<◌, Bool, true, false, refl}
use Rattle.std.proofs.Common.{ap, ◌∙◌, arith, to_z, of_z, FitsSigned}
use Rattle.std.specs.Int.{int_wrap}
use mir.Syntax.{w64, w128}
use mir.Val.{sel}
use Rattle.zir_tree.specs.declared.types.Base.{Base}
use Rattle.zir_tree.specs.declared.types.Base.TheVariants.{Unit, Bit, Bool as BoolTy, Int8, Int16, Int32, Int64, Complex16, Complex32, Struct}
use Rattle.zir_meaning.specs.Values.{wrap}
use Rattle.zir_expr.specs.declared.whole.Whole.{Whole}
use Rattle.zir_expr.specs.Answers.{base_of}
use Rattle.zir_expr.proofs.Wrapping.{wrap_after_64}
use Rattle.zir_code.specs.Coding.{whole_of}
use Rattle.zir_shapes.specs.Offsets.{is_whole}

-- the lowest 64 bits of a number of 128 bits, with and without its sign
pub low_64 : (m : ℕ) (b : Bool) → m < 2 ^ 128 → int_wrap w64 (sel b (pos m) (negsuc (2 ^ 128 - suc m))) ≡ to_z w64 (m % 2 ^ 64)
unfolding int_wrap
low_64 m true h = refl
low_64 m false h = ap (to_z w64) (omega arith)

pub bits_of_128 : (a : ℤ) → FitsSigned w128 a → of_z w128 a < 2 ^ 128
bits_of_128 (pos a) f = omega (arith, f)
bits_of_128 (negsuc a) f = omega (arith, f)

wrap_same : (t : Base) (n : ℤ) → is_whole t ≡ true → wrap (base_of (whole_of t)) n ≡ wrap t n
wrap_same Unit n h = cc
wrap_same Bit n h = cc
wrap_same BoolTy n h = cc
wrap_same Int8 n h = refl
wrap_same Int16 n h = refl
wrap_same Int32 n h = refl
wrap_same Int64 n h = refl
wrap_same Complex16 n h = cc
wrap_same Complex32 n h = cc
wrap_same (Struct k) n h = cc

-- a number whose lowest 64 bits are wrapped to a whole type is wrapped to it
pub literal_is : (t : Base) (w : Whole) (n m r : ℤ) → w ≡ whole_of t → m ≡ int_wrap w64 n → r ≡ wrap (base_of w) m → is_whole t ≡ true → r ≡ wrap t n
literal_is t w n m r e f g h = g ∙ ap (λ w. wrap (base_of w) m) e ∙ ap (wrap (base_of (whole_of t))) f ∙ wrap_after_64 (whole_of t) n ∙ wrap_same t n h
