use Rattle.std.proofs.Common.{◌∙◌, ap, drop, ◌+◌}
use Rattle.zir_names.specs.Programs.{fields}
use Rattle.zir_names.specs.Scope.{Seen}
use Rattle.zir_names.proofs.Lists.{gathered}
use Rattle.zir_names.proofs.Fields.{at_place, next_field}
use Rattle.zir_names.proofs.program.resolve_fields.Goals as goal

pub loop-field-preserved : goal.loop-field-preserved
loop-field-preserved c =
    let xs = c.args.fields.now in
    let i = c.loop-field.field-index in
    c.loop-field.invariant
    ∙ ap (λ l. gathered c.loop-field.made (fields c.args.scope.now c.loop-field.before.open_ l)) (at_place xs i c.field-item.result c.loop-field-test.true c.field-item.is)
    ∙ next_field c.args.scope.now c.loop-field.before.open_ c.open.new.self.open_ c.loop-field.made c.push.new.self c.field-item.result (drop (i + 1) xs) _ c.in_ok-ty.ty c.in_ok-name.name
    c.in_ok-check_new.ensures c.in_ok-ty.ensures c.in_ok-name.ensures (ap (λ (s : Seen). s.open_) c.in_ok-open.ensures) c.in_ok-push.ensures.ok
