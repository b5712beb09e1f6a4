use Rattle.std.proofs.Common.{rules, arith, ap, ◌≡◌, ◌∙◌, ◌+◌, ◌-◌, suc, ℕ, ℤ, refl, to_z, of_z, w64, FitsSigned}
use Rattle.std.proofs.lemmas.Int.{to_z-of_z}
use Rattle.zir_expr.specs.Memory.{after, cell_at, put_cell}
use Rattle.zir_expr.specs.Memory.Frames.{Memory}
use Rattle.zir_flow.specs.Threads.{cells_from, written}
use Rattle.zir_stage.proofs.source.copy.Goals as goal

one_copied : (n k to from : ℕ) (m m' other : Memory) (x : ℤ) → n ≡ suc k → x ≡ cell_at from other → m' ≡ put_cell to x m →
    written to (cells_from n from other) m ≡ written (after to) (cells_from k (after from) other) m'
one_copied n k to from m m' other x e f g = rw (e, g, f) refl

pub loop-past-preserved : goal.loop-past-preserved
loop-past-preserved c =
    let e : c.args.n - c.loop-past._past ≡ suc (c.args.n - (c.loop-past._past + 1)) = omega arith in
    let fits : FitsSigned w64 c.cell-cell.result = search rules in
    let same : to_z w64 (of_z w64 c.cell-cell.result) ≡ c.cell-cell.result = to_z-of_z w64 c.cell-cell.result fits in
    c.loop-past.invariant ∙ one_copied _ _ c.loop-past.to c.loop-past.from c.loop-past.frame _ c.args.other.now c.cell-cell.result e c.cell-cell.ensures
    (c.put.ensures ∙ ap (λ n. put_cell c.loop-past.to n c.loop-past.frame) same)
