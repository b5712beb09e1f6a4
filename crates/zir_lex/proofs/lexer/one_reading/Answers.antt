-- The laws, each by one induction over two readings of a text.
use Rattle.zir_lex.proofs.Unique.{one_list, one_end, no_bad_byte, no_bad_number, one_bad_byte, one_bad_number, one_fault}
use Rattle.zir_lex.proofs.lexer.one_reading.Goals as goal

pub returns-clause-tokens : goal.returns-clause-tokens
returns-clause-tokens c = one_list

pub returns-clause-end : goal.returns-clause-end
returns-clause-end c = one_end

pub returns-clause-sound : goal.returns-clause-sound
returns-clause-sound c text tokens at lexes = (no_bad_byte text tokens at lexes, no_bad_number text tokens at lexes)

pub returns-clause-faults : goal.returns-clause-faults
returns-clause-faults c text a b = (one_bad_byte text a b, one_bad_number text a b, one_fault text a b)
