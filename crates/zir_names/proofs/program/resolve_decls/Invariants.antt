use Rattle.std.proofs.Common.{◌≡◌, drop}
use Rattle.zir_names.specs.Statements.{in_turn}
use Rattle.zir_names.specs.Programs.{decl_of}
use Rattle.zir_names.proofs.Lists.{gathered_in}
use Rattle.zir_names.proofs.program.resolve_decls.Given as goal

-- what is made so far, and what the rest makes
abbrev pub invariant-loop-d : goal.invariant-loop-d
invariant-loop-d l = in_turn decl_of l.initial.scope l.ds ≡ gathered_in l.made (in_turn decl_of l.scope (drop l.d-index l.ds))
