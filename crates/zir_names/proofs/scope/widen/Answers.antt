use Rattle.std.proofs.Common.{◌∙◌, ap, arith, take}
use Rattle.std.specs.Prelude.{◌++◌, ◌-◌, replicate, vec_len}
use Rattle.std.proofs.lemmas.List.{take_all}
use Rattle.zir_names.proofs.Chains.{grown}
use Rattle.zir_names.proofs.scope.widen.Goals as goal

pub returns-in_ok-resize-clause-same : goal.returns-in_ok-resize-clause-same
returns-in_ok-resize-clause-same c = λ b.
    grown c.args.heads.now.items c.resize.new.self.items (4096 - vec_len c.args.heads.now) b
    (c.in_ok-resize.ensures.items ∙ ap (λ xs. xs ++ replicate (4096 - vec_len c.args.heads.now) 0) (take_all 4096 c.args.heads.now.items (omega (arith, c.args.heads.now.ok.0))))
