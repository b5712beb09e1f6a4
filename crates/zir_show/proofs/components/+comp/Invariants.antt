use Rattle.std.proofs.Common.{drop}
use Rattle.std.specs.Prelude.{map}
use Rattle.zir_lex.specs.declared.token.Symbol.TheVariants.{Semicolon}
use Rattle.zir_print.specs.Marks.{mark, parted}
use Rattle.zir_print.specs.Components.{member_words}
use Rattle.zir_show.proofs.Adding.{Left, joined}
use Rattle.zir_show.proofs.components.+comp.Given as goal

abbrev pub invariant-put_members-loop-index : goal.invariant-put_members-loop-index
invariant-put_members-loop-index l = Left l.initial.text l.text (parted (mark Semicolon) (map member_words l.members)) (joined l.index (mark Semicolon) (map member_words (drop l.index l.members)))
