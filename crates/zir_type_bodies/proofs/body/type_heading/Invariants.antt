use Rattle.std.proofs.Common.{◌≡◌, drop}
use Rattle.zir_types.specs.Statements.{heading, no_heading}
use Rattle.zir_type_bodies.proofs.body.type_heading.Given as goal

-- the walk of all is the walk of the rest from here
abbrev pub invariant-loop-field : goal.invariant-loop-field
invariant-loop-field l = heading l.scope.shapes no_heading l.fields ≡ heading l.scope.shapes l.made (drop l.field-index l.fields)
