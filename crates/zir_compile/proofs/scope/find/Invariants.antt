use Rattle.std.proofs.Common.{◌≡◌, None, drop}
use Rattle.zir_code.specs.Scopes.{found_among}
use Rattle.zir_compile.proofs.scope.find.Given as goal

-- the first of all is the first of those from here on
abbrev pub invariant-loop-holder : goal.invariant-loop-holder
invariant-loop-holder l = found_among None l.holders l.id ≡ found_among None (drop l.holder-index l.holders) l.id
