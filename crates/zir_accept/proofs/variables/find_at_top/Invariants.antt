use Rattle.std.proofs.Common.{◌≡◌, drop}
use Rattle.std.specs.List.{flat_map}
use Rattle.zir_accept.specs.Variables.{first_name, of_decl}
use Rattle.zir_accept.proofs.variables.find_at_top.Given as goal

-- the first name in all declarations is the first in those from here on
abbrev pub invariant-loop-d : goal.invariant-loop-d
invariant-loop-d l = first_name l.x (flat_map of_decl l.ds) ≡ first_name l.x (flat_map of_decl (drop l.d-index l.ds))
