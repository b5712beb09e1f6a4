-- A comment, a sign, or neither.
use Rattle.std.proofs.Common.{ap, ◌∙◌, drop}
use Rattle.std.specs.List.{prefix_len}
use Rattle.std.proofs.lemmas.List.{take_rest}
use Rattle.zir_lex.specs.Classes.{is_line_byte}
use Rattle.zir_lex.proofs.Readers.{comment_front, sign_front, no_sign_front, dashes, no_dashes}
use Rattle.zir_lex.proofs.signs.read_sign.Goals as goal

pub returns-then-starts_with : goal.returns-then-starts_with
returns-then-starts_with c = comment_front c.args.text.now (drop 2 c.args.text.now) c.line_len-len.result (dashes c.args.text.now c.starts_with.result c.starts_with.ensures.value c.if-starts_with.true) (c.line_len-len.ensures.value ∙ ap (prefix_len is_line_byte) (take_rest c.args.text.now 2))

pub returns-in-Some : goal.returns-in-Some
returns-in-Some c = sign_front c.args.text.now c.in-Some.symbol c.in-Some.len c.requires.kind (no_dashes c.args.text.now c.starts_with.result c.starts_with.ensures.value c.if-starts_with.false) c.in-Some.ensures

pub returns-in-None : goal.returns-in-None
returns-in-None c = no_sign_front c.args.text.now c.requires.some c.requires.kind (no_dashes c.args.text.now c.starts_with.result c.starts_with.ensures.value c.if-starts_with.false) c.in-None.ensures
