use Rattle.std.proofs.Common.{◌∙◌, ap, drop, ◌+◌}
use Rattle.zir_names.specs.Programs.{params}
use Rattle.zir_names.specs.Scope.{Seen}
use Rattle.zir_names.proofs.Lists.{gathered_in}
use Rattle.zir_names.proofs.Fields.{at_place, next_param}
use Rattle.zir_names.proofs.program.resolve_params.Goals as goal

pub loop-param-preserved : goal.loop-param-preserved
loop-param-preserved c =
    let xs = c.args.params.now in
    let i = c.loop-param.param-index in
    c.loop-param.invariant
    ∙ ap (λ l. gathered_in c.loop-param.made (params c.loop-param.scope c.loop-param.before.open_ l)) (at_place xs i c.param-item.result c.loop-param-test.true c.param-item.is)
    ∙ next_param c.loop-param.scope c.number.new.self c.loop-param.before.open_ c.open.new.self.open_ c.loop-param.made c.push.new.self c.param-item.result (drop (i + 1) xs) _ c.in_ok-ty.ty c.in_ok-name.name
    c.in_ok-check_new.ensures c.in_ok-ty.ensures c.in_ok-name.ensures (ap (λ (s : Seen). s.open_) c.in_ok-open.ensures) c.in_ok-push.ensures.ok
