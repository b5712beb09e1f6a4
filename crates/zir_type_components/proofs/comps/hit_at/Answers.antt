use Rattle.std.proofs.Common.{◌≡◌, ◌+◌, length, refl, Some, arith}
use Rattle.std.specs.Prelude.{slice_get}
use Rattle.std.proofs.lemmas.Option.{slice_get_read}
use Rattle.zir_type_components.proofs.Found.{hit_found}
use Rattle.zir_type_components.proofs.comps.hit_at.Goals as goal

pub returns-else-id : goal.returns-else-id
returns-else-id c =
    let there : slice_get c.args.list.now c.args.place ≡ Some c.in-Some.comp.now =
    slice_get_read c.args.list.now (length c.args.list.now) c.args.place c.in-Some.comp.now refl c.in-Some.ensures.lookup.3.0 (c.in-Some.ensures.lookup.3.1
    _) in
    hit_found c.args.list.now c.args.from c.args.place c.args.id (c.args.place + 1) c.in-Some.comp.now c.requires c.if-place-from.false there
    (omega (arith, c.id.ensures, c.if-id.false)) refl
