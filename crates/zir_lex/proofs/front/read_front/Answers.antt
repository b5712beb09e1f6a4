-- A byte of white space is a piece.
use Rattle.std.proofs.Common.{sym}
use Rattle.zir_lex.proofs.Readers.{white_front}
use Rattle.zir_lex.proofs.front.read_front.Goals as goal

pub returns-then-is_white : goal.returns-then-is_white
returns-then-is_white c = white_front c.args.text.now c.requires (sym c.if-is_white.ensures)
