use Rattle.std.proofs.Common.{◌≡◌, [], drop}
use Rattle.zir_names.specs.Touched.{functions_from}
use Rattle.zir_sharing.specs.Ascending.{AllAscend}
use Rattle.zir_sharing.proofs.declarations.functions_among.Given as goal

-- the functions of the rest come to those before them
abbrev pub invariant-loop-d : goal.invariant-loop-d
invariant-loop-d l = record {
  rest : functions_from l.top l.functions (drop l.d-index l.ds) ≡ functions_from l.top [] l.ds;
  ascending : AllAscend l.functions;
}
