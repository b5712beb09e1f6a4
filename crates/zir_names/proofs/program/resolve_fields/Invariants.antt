use Rattle.std.proofs.Common.{◌≡◌, [], drop}
use Rattle.zir_names.specs.Programs.{fields as fields_walk}
use Rattle.zir_names.proofs.Lists.{gathered}
use Rattle.zir_names.proofs.program.resolve_fields.Given as goal

-- what is made so far, and what the rest makes
abbrev pub invariant-loop-field : goal.invariant-loop-field
invariant-loop-field l = fields_walk l.scope [] l.fields ≡ gathered l.made (fields_walk l.scope l.before.open_ (drop l.field-index l.fields))
