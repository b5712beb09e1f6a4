use Rattle.std.proofs.Common.{◌∙◌, ap, max, refl}
use Rattle.zir_flatten.proofs.Around.{flowed-If}
use Rattle.zir_flatten.proofs.loops.chosen.Goals as goal

pub returns : goal.returns
returns c =
    λ st g input d e a b p t f s. flowed-If st g input d e a b p c.args.steps.items c.args.test c.args.first c.args.second _ t f s c.in_ok-ways.ensures refl c.first_of.ensures
    (c.max-2.ensures ∙ ap (max c.args.test.peak) c.max.ensures) c.max-3.ensures c.in_ok-layout.ensures
