use Rattle.std.proofs.Common.{◌≡◌, ◌∙◌, ap, sym, false}
use Rattle.std.specs.Str.{bytes_eq}
use Rattle.zir_tree.specs.declared.types.FieldDef.{FieldDef}
use Rattle.zir_types.proofs.Places.{field_past}
use Rattle.zir_types.proofs.scope.field.Goals as goal

pub loop-place-preserved : goal.loop-place-preserved
loop-place-preserved c =
    let f : FieldDef = c.index-fields-place.result in
    let name = c.args.name.now in
    let e : f.name ≡ c.as_slice.result.now = ap (λ z. z.name) c.index-fields-place.is ∙ sym c.as_slice.ensures in
    let b : bytes_eq f.name name ≡ false = ap (λ l. bytes_eq l name) e ∙ sym c.eq.ensures ∙ c.if-eq.false in
    c.loop-place.invariant ∙ field_past c.args.fields.now c.loop-place.place name f c.loop-place-test.true c.index-fields-place.is b
