use Rattle.std.proofs.Common.{refl}
use Rattle.zir_types.specs.Scope.{Visible}
use Rattle.zir_types.specs.Measures.{in_var, in_type, in_initial}
use Rattle.zir_limits.specs.Facts.{told, sight}
use Rattle.zir_limits.proofs.Noted.{carried_two}
use Rattle.zir_limits_walks.proofs.statement.note_var.Goals as goal

pub returns : goal.returns
returns c =
    let g : Visible = sight (told c.args.facts.now) c.args.scope.now in
    carried_two c.note_initial.result (in_var g c.args.v.now) (in_type g c.args.v.now.ty) (in_initial g c.args.v.now.initial)
    c.args.notes.now c.note_type.new.notes c.note_initial.new.notes refl c.note_type.ensures c.note_initial.ensures
