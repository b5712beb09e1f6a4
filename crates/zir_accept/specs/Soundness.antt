-- What holds of an accepted program.
use Rattle.std.specs.Prelude.{◌≡◌, None, Ok}
use Rattle.zir_tree.specs.declared.program.Prog.{Prog}
use Rattle.zir_names.specs.Sharing.{refusal_of}
use Rattle.zir_types.specs.Limits.{limits}
use Rattle.zir_sound.specs.Cores.{IsSound}
use Rattle.zir_accept.specs.declared.passes.Accepted.{Accepted}
use Rattle.zir_accept.specs.Accepting.{judged}

-- Its core is sound, the sides of its compositions keep apart, and it passes no limit.
pub record KeepsRules (accepted : Accepted) : Type 0 where
  pub core : IsSound accepted.core
  pub sides : refusal_of accepted.program ≡ None
  pub sizes : limits accepted.program.program accepted.core ≡ None

-- A program that is accepted keeps all rules.
abbrev pub AcceptedKeepRules : Type 0
AcceptedKeepRules = (p : Prog) (accepted : Accepted) → judged p ≡ Ok accepted → KeepsRules accepted
