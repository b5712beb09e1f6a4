use Rattle.std.proofs.Common.{◌≡◌, drop}
use Rattle.std.specs.List.{list_all}
use Rattle.zir_code.specs.Coding.{is_calm}
use Rattle.zir_compile.proofs.calm.+calm.Given as goal

-- all are calm where those from here on are
abbrev pub invariant-are_calm-loop-e : goal.invariant-are_calm-loop-e
invariant-are_calm-loop-e l = list_all is_calm l.es ≡ list_all is_calm (drop l.e-index l.es)
