-- The value so far is that of the digits so far.
use Rattle.std.proofs.Common.{◌≡◌, ◌≤◌, ◌^◌, take}
use Rattle.zir_lex.specs.Classes.{number_of}
use Rattle.zir_lex.proofs.numbers.value_of.Given as goal

abbrev pub invariant-loop-digit : goal.invariant-loop-digit
invariant-loop-digit l = record {
  so_far : l.value ≡ number_of l.base (take l.digit-index l.digits);
  small : l.value ≤ 2 ^ 63;
}
