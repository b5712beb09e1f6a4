use Rattle.std.proofs.Common.{◌≡◌, drop}
use Rattle.zir_names.specs.Numbers.{union}
use Rattle.zir_names.specs.Touched.{tops}
use Rattle.zir_sharing.proofs.declarations.top_variables.Given as goal

-- the variables of the rest come to those before them
abbrev pub invariant-loop-d : goal.invariant-loop-d
invariant-loop-d l = union (tops (drop l.d-index l.ds)) l.top ≡ tops l.ds
