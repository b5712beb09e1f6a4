use Rattle.std.proofs.Common.{◌≡◌, ◌∙◌, ◌+◌, ℕ, suc, min, ap, arith}
use Rattle.zir_tree.specs.declared.comp.Comp.{Pipe}
use Rattle.zir_types.specs.Measures.{links}
use Rattle.zir_limits_walks.proofs.ComponentEquations.{links-Parallel}
use Rattle.zir_limits_walks.proofs.component.+links.Goals as goal

one_more : (r m n whole : ℕ) → m ≡ min n 17 → r ≡ min (m + 1) 17 → whole ≡ suc n → r ≡ min whole 17
one_more r m n whole h k l = omega arith

pub returns-in-Parallel : goal.returns-in-Parallel
returns-in-Parallel t c =
    one_more c.min.result c.links.result (links c.in-Pipe.left) (links c.args.c.now)
    (c.links.ensures ∙ ap (λ x. min (links x) 17) c.get.ensures) c.min.ensures
    (ap links c.in-Pipe.is ∙ ap (λ l. links (Pipe l c.in-Pipe.left c.in-Pipe.field-2 c.in-Pipe.field-3)) c.in-Parallel.is
    ∙ links-Parallel c.in-Pipe.left c.in-Pipe.field-2 c.in-Pipe.field-3)
