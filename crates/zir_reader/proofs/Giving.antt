-- What a reader of numbers gives, by what the bytes held begin with.
use Rattle.std.proofs.Common.{ℕ, Option, Some, None, List, sym, ◌∙◌}
use Rattle.zir_samples.specs.declared.text.Front.TheVariants.{Malformed as FrontMalformed}
use Rattle.zir_reader.specs.declared.numbers.Given.TheVariants.{Malformed}
use Rattle.zir_reader.specs.Numbers.{Decides, GivesNext, Held, Keeps}

-- malformed input is answered
pub gives-malformed : (old self : Held) (left now : Option (List ℕ)) → Keeps old left self now → Decides self FrontMalformed → GivesNext old left self now Malformed
gives-malformed old self None now h d = h
gives-malformed old self (Some bytes) now h d = (h.0, h.1, ((d h.0).0, sym h.2 ∙ (d h.0).1, h.2))
