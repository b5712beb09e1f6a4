use Rattle.std.proofs.Common.{rules, arith, ap, ◌≡◌, ◌∙◌, ◌+◌, ◌-◌, suc, ℕ, ℤ, refl, to_z, of_z, w64, FitsSigned}
use Rattle.std.proofs.lemmas.Int.{to_z-of_z}
use Rattle.zir_expr.specs.Memory.{moved, after, cell_at, put_cell}
use Rattle.zir_expr.specs.Memory.Frames.{Memory}
use Rattle.zir_expr.proofs.frame.Frame.copy_several.Goals as goal

one_moved : (n k to from : ℕ) (m m' : Memory) (x : ℤ) → n ≡ suc k → x ≡ cell_at from m → m' ≡ put_cell to x m →
    moved n to from m ≡ moved k (after to) (after from) m'
one_moved n k to from m m' x e f g = rw (e, g, f) refl

pub loop-past-preserved : goal.loop-past-preserved
loop-past-preserved c =
    let e : c.args.n - c.loop-past._past ≡ suc (c.args.n - (c.loop-past._past + 1)) = omega arith in
    let fits : FitsSigned w64 c.cell-cell.result = search rules in
    let same : to_z w64 (of_z w64 c.cell-cell.result) ≡ c.cell-cell.result = to_z-of_z w64 c.cell-cell.result fits in
    c.loop-past.invariant ∙ one_moved _ _ c.loop-past.to c.loop-past.from c.loop-past.self _ c.cell-cell.result e c.cell-cell.ensures
    (c.put.ensures ∙ ap (λ n. put_cell c.loop-past.to n c.loop-past.self) same)
