use Rattle.std.proofs.Common.{◌+◌, ◌∙◌, ap, max, refl}
use Rattle.zir_compile.specs.Names.{scope_of}
use Rattle.zir_flatten.proofs.Around.{flowed-Pipe}
use Rattle.zir_flatten.proofs.pipes.piped.Goals as goal

pub returns : goal.returns
returns c =
    let end = c.in_ok-end.ensures.1 ∙ ap (λ n. c.args.d + n) (c.from.ensures ∙ c.max.ensures) in
    let peak = c.max-3.ensures ∙ (λ i. max (end i) (c.max-2.ensures i)) in
    λ st input link a b p back f s.
    flowed-Pipe st (scope_of c.args.names.now) input c.args.d link a b p c.args.back c.in_ok-value.value c.in_ok-other.other c.args.left c.args.right _ back f s c.in_ok-value.ensures c.in_ok-other.ensures
    c.in_ok-sides.ensures c.first_of.ensures refl peak c.max-4.ensures c.in_ok-split.ensures
