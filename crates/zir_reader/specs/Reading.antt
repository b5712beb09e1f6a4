-- What a reader of elements has left.
use Rattle.std.specs.Prelude.{ℕ, true, List, Option}
use Rattle.std.specs.Option.{option_map}
use Rattle.zir_tree.specs.declared.format.Format.{Format}
use Rattle.zir_tree.specs.declared.types.Ty.{Ty}
use Rattle.zir_meaning.specs.Elements.{element_values, elements}
use Rattle.zir_reader.specs.declared.reader.Reader.{Reader}
use Rattle.zir_reader.specs.Gathering.{gatherer_size, input_ahead}
use Rattle.zir_reader.specs.Inputs.{Input, input_of}
use Rattle.zir_reader.specs.Numbers.{items_to_come}

-- the input that bytes spell
abbrev pub spelled : Format → Ty → List ℕ → Input
spelled format ty bytes = input_of (element_values (elements format ty bytes true).found) (elements format ty bytes true).tail

-- how many cells an element of a reader has
abbrev pub element_size : Reader → ℕ
element_size reader = gatherer_size reader.gatherer

-- what a reader has left, where its source has these bytes left
abbrev pub input_left : Reader → List ℕ → Input
input_left reader bytes = input_ahead reader.gatherer (items_to_come reader.numbers bytes)

-- the same where the source tells what it has left
abbrev pub left_with : Reader → Option (List ℕ) → Option Input
left_with reader left = option_map (input_left reader) left
