-- That what a program is over bits is that program.
use Rattle.std.specs.Prelude.{◌≡◌}
use Rattle.zir_tree.specs.declared.program.Prog as wide
use Rattle.zir_tree.specs.declared.program.Core.{Core}
use Rattle.zir_bit_tree.specs.declared.tree.Prog.{Prog}
use Rattle.zir_bits.specs.Bits.{EmitsBits}
use Rattle.zir_bits.specs.Answers.{IsOver}
use Rattle.zir_narrow.specs.Narrow.{Fine, narrow}

-- what an accepted program is over bits is that program, and its component emits bits alone
abbrev pub NarrowIsOver : Type 0
NarrowIsOver = (p : wide.Prog) (core : Core) (program : Prog) →
    narrow p core ≡ Fine program →
    IsOver core program × EmitsBits program.main
