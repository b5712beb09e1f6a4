use Rattle.zir_compile.specs.Names.{scope_of}
use Rattle.zir_compile.specs.Signing.{Below}
use Rattle.zir_flow.specs.Program.{top_scope}
use Rattle.zir_meaning.specs.Assigned.{Assigning}
use Rattle.zir_assigned.specs.Assigned.{Agrees}
use Rattle.zir_flatten.proofs.Laying.{Laying}
use Rattle.zir_flatten.proofs.instances.lay.Given as goal

-- the code of all instances is that so far and that from here on
abbrev pub invariant-loop-i : goal.invariant-loop-i
invariant-loop-i l =
    Below l.fn.names l.names × ((r : Assigning) → Agrees l.fn.assigned r → Laying r (top_scope (scope_of l.fn.names)) l.instances l.i-index l.code.items l.places)
