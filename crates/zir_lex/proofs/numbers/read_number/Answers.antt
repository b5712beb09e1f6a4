-- A number is as long as its digits go on, in the base that its front tells.
use Rattle.std.proofs.Common.{take, refl, sym, ap, ◌∙◌}
use Rattle.std.specs.List.{prefix_len}
use Rattle.std.specs.Char.{is_ascii_hexdigit}
use Rattle.std.proofs.lemmas.List.{take_rest}
use Rattle.zir_lex.specs.Classes.{number_of}
use Rattle.zir_lex.proofs.Readers.{decimal_digits, hexadecimal_digits, decimal_reads, hexadecimal_reads}
use Rattle.zir_lex.proofs.numbers.read_number.Goals as goal

pub number_within-requires-clause-digits : goal.number_within-requires-clause-digits
number_within-requires-clause-digits c = hexadecimal_digits _ c.hexadecimal_len-len.result c.hexadecimal_len-len.ensures.value

pub number_within-requires-else-is_hexadecimal-clause-digits :
    goal.number_within-requires-else-is_hexadecimal-clause-digits
number_within-requires-else-is_hexadecimal-clause-digits c = decimal_digits c.args.text.now c.decimal_len-len.result c.decimal_len-len.ensures.value

pub returns-then-is_hexadecimal : goal.returns-then-is_hexadecimal
returns-then-is_hexadecimal c = hexadecimal_reads c.number_within.result _ c.hexadecimal_len-len.result c.args.text.now (sym c.if-is_hexadecimal.ensures) (c.hexadecimal_len-len.ensures.value ∙ ap (prefix_len is_ascii_hexdigit) (take_rest c.args.text.now 2)) (ap (λ l. number_of 16 (take c.hexadecimal_len-len.result l)) (take_rest c.args.text.now 2)) c.number_within.ensures

pub returns-else-is_hexadecimal : goal.returns-else-is_hexadecimal
returns-else-is_hexadecimal c = decimal_reads c.number_within-else-is_hexadecimal.result _ c.decimal_len-len.result c.args.text.now c.requires.some c.requires.digit (sym c.if-is_hexadecimal.ensures) c.decimal_len-len.ensures.value refl c.number_within-else-is_hexadecimal.ensures
