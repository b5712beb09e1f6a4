-- A text has one reading, so the answer is that.
use Rattle.zir_lex.proofs.Answered.{only, only_bad_byte, only_bad_number}
use Rattle.zir_lex.proofs.lexer.lex.Goals as goal

pub returns-clause-only : goal.returns-clause-only
returns-clause-only c tokens short lexes = only (λ found. found.tokens.items) c.read_all.result c.args.text.now (record { ok = c.read_all.ensures.ok; refused = c.read_all.ensures.refused }) tokens lexes

pub returns-clause-bad_byte : goal.returns-clause-bad_byte
returns-clause-bad_byte c at short bad = only_bad_byte (λ found. found.tokens.items) c.read_all.result c.args.text.now (record { ok = c.read_all.ensures.ok; refused = c.read_all.ensures.refused }) at bad

pub returns-clause-bad_number : goal.returns-clause-bad_number
returns-clause-bad_number c at short bad = only_bad_number (λ found. found.tokens.items) c.read_all.result c.args.text.now (record { ok = c.read_all.ensures.ok; refused = c.read_all.ensures.refused }) at bad
