use Rattle.std.proofs.Common.{rules, arith, ap, sym, ◌≡◌, ◌∙◌, w64, ℤ, ◌-ℤ◌, ◌+ℤ◌, ◌*ℤ◌, to_z, of_z, FitsSigned}
use Rattle.std.specs.Int.{int_wrap}
use Rattle.std.proofs.lemmas.Int.{ints, to_z-of_z}
use Rattle.zir_tree.specs.declared.value.Val.{Pair}
use Rattle.zir_meaning.specs.Values.{wrap}
use Rattle.zir_expr.specs.Answers.{base_of}
use Rattle.zir_expr.proofs.Wrapping.{difference_of_cut, sum_of_cut}
use Rattle.zir_expr.proofs.complex.product.Goals as goal

-- what a product was formed from
formed : (m n r : ℤ) → FitsSigned w64 m → FitsSigned w64 n → r ≡ int_wrap w64 (to_z w64 (of_z w64 m) *ℤ to_z w64 (of_z w64 n)) → FitsSigned w64 r →
    to_z w64 (of_z w64 r) ≡ int_wrap w64 (m *ℤ n)
formed m n r f g e h = to_z-of_z w64 r h ∙ e ∙ ap (λ z. int_wrap w64 (z *ℤ to_z w64 (of_z w64 n))) (to_z-of_z w64 m f)
    ∙ ap (λ z. int_wrap w64 (m *ℤ z)) (to_z-of_z w64 n g)

pub returns : goal.returns
returns c =
    let t = c.args.t in
    let a = c.args.a in
    let b = c.args.b in
    let ar : FitsSigned w64 c.args.a.real = search rules in
    let ai : FitsSigned w64 c.args.a.imaginary = search rules in
    let br : FitsSigned w64 c.args.b.real = search rules in
    let bi : FitsSigned w64 c.args.b.imaginary = search rules in
    let p = formed a.real b.real _ ar br c.cut_product.ensures (search rules) in
    let q = formed a.imaginary b.imaginary _ ai bi c.cut_product-2.ensures (search rules) in
    let r = formed a.real b.imaginary _ ar bi c.cut_product-3.ensures (search rules) in
    let s = formed a.imaginary b.real _ ai br c.cut_product-4.ensures (search rules) in
    let e : to_z w64 (of_z w64 c.difference-real.result) ≡ c.difference-real.result = omega (arith, ints) in
    let g : to_z w64 (of_z w64 c.sum-imaginary.result) ≡ c.sum-imaginary.result = omega (arith, ints) in
    let real : to_z w64 (of_z w64 c.difference-real.result) ≡ wrap (base_of t) (a.real *ℤ b.real -ℤ a.imaginary *ℤ b.imaginary) =
    e ∙ c.difference-real.ensures ∙ ap (λ z. wrap (base_of t) (z -ℤ to_z w64 (of_z w64 c.cut_product-2.result))) p
    ∙ ap (λ z. wrap (base_of t) (int_wrap w64 (a.real *ℤ b.real) -ℤ z)) q ∙ difference_of_cut t (a.real *ℤ b.real) (a.imaginary *ℤ b.imaginary) in
    let imaginary : to_z w64 (of_z w64 c.sum-imaginary.result) ≡ wrap (base_of t) (a.real *ℤ b.imaginary +ℤ a.imaginary *ℤ b.real) =
    g ∙ c.sum-imaginary.ensures ∙ ap (λ z. wrap (base_of t) (z +ℤ to_z w64 (of_z w64 c.cut_product-4.result))) r
    ∙ ap (λ z. wrap (base_of t) (int_wrap w64 (a.real *ℤ b.imaginary) +ℤ z)) s ∙ sum_of_cut t (a.real *ℤ b.imaginary) (a.imaginary *ℤ b.real) in
    sym (ap (λ (z : ℤ). Pair z (to_z w64 (of_z w64 c.sum-imaginary.result))) real
    ∙ ap (λ (z : ℤ). Pair (wrap (base_of t) (a.real *ℤ b.real -ℤ a.imaginary *ℤ b.imaginary)) z) imaginary)
