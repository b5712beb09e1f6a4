use Rattle.std.proofs.Common.{sym, subst, []}
use Rattle.zir_names.specs.Touched.{tops}
use Rattle.zir_sharing.specs.Ascending.{AllAscend}
use Rattle.zir_sharing.proofs.Ascents.{ascends-functions}
use Rattle.zir_sharing.proofs.rules.sharing.Goals as goal

pub check_shared-requires : goal.check_shared-requires
check_shared-requires c =
    subst AllAscend (sym c.in_ok-functions.ensures) (ascends-functions (tops c.args.program.now.program.declarations) [] c.args.program.now.program.declarations tt)

pub check_outer-requires : goal.check_outer-requires
check_outer-requires c =
    subst AllAscend (sym c.in_ok-functions.ensures) (ascends-functions (tops c.args.program.now.program.declarations) [] c.args.program.now.program.declarations tt)
