-- What holds of the canonical tokens.
use Rattle.std.specs.Prelude.{ℕ, List}
use Rattle.zir_tree.specs.declared.program.Prog.{Prog}
use Rattle.zir_lex.specs.declared.token.Token.{Token}
use Rattle.zir_grammar.specs.Claim.{IsLowProg}
use Rattle.zir_print.specs.Canonical.{canonical}

-- whatever tokens spell a program, the canonical ones spell it too, at no greater height
abbrev pub ReadsBack : Type 0
ReadsBack = (most : ℕ) (tokens : List Token) (p : Prog) → IsLowProg most tokens p → IsLowProg most (canonical p) p
