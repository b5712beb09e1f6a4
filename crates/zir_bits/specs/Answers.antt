-- That a program over bits has one answer in both meanings.
use Rattle.std.specs.Prelude.{ℕ, List, [], ◌≡◌}
use Rattle.zir_tree.specs.declared.types.Base.TheVariants.{Bit as BitTy}
use Rattle.zir_tree.specs.declared.program.Core.{Core}
use Rattle.zir_tree.specs.declared.format.Format.TheVariants.{Binary}
use Rattle.zir_meaning.specs.Answer as wide
use Rattle.zir_bit_tree.specs.declared.tree.Prog.{Prog}
use Rattle.zir_bit_meaning.specs.Answer.{answer_of}
use Rattle.zir_bits.specs.Wide.{wide_comp, plain}
use Rattle.zir_bits.specs.Bits.{EmitsBits}

-- what a program over bits answers with so many ticks, where these bytes are all of its input, as an answer of the whole language
abbrev pub bits_answer : ℕ → Prog → List ℕ → wide.Answer
bits_answer ticks program bytes = let a = answer_of ticks program bytes in record { status = a.status; out = a.out; notes = a.notes }

-- a typed program is this program over bits: no top variables, its component, and bits in and out; nothing rests on its other parts
pub record IsOver (core : Core) (program : Prog) : Type 0 where
  pub variables : core.variables ≡ []
  pub main : core.main ≡ wide_comp program.main
  pub input : core.input ≡ plain BitTy
  pub output : core.output ≡ plain BitTy

-- a typed program that is a program over bits, whose component emits bits alone, answers as that does, where it alone runs, in the binary format
abbrev pub SameAnswers : Type 0
SameAnswers = (ticks : ℕ) (name : List ℕ) (core : Core) (program : Prog) (bytes : List ℕ) → IsOver core program → EmitsBits program.main →
    wide.answer_of Binary ticks (record { name = name; core = core }) [] bytes ≡ bits_answer ticks program bytes
