use Rattle.std.proofs.Common.{sym, subst, []}
use Rattle.zir_names.specs.Touched.{tops}
use Rattle.zir_sharing.specs.Ascending.{AllAscend}
use Rattle.zir_sharing.proofs.Ascents.{ascends-functions}
use Rattle.zir_sharing.proofs.sides.uses.Goals as goal

pub touched_by-requires : goal.touched_by-requires
touched_by-requires c =
    subst AllAscend (sym c.in_ok-functions.ensures) (ascends-functions (tops c.args.program.now.program.declarations) [] c.args.program.now.program.declarations tt)
