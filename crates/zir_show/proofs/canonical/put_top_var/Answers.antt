use Rattle.std.proofs.Common.{refl, [], ◌∷◌, ◌++◌}
use Rattle.zir_lex.specs.declared.token.Keyword.TheVariants as keyword
use Rattle.zir_lex.specs.declared.token.Symbol.TheVariants as symbol
use Rattle.zir_print.specs.Marks.{mark}
use Rattle.zir_print.specs.Statements.{declared_words}
use Rattle.zir_show.proofs.Adding.{◌▸◌, line_of}
use Rattle.zir_show.proofs.canonical.put_top_var.Goals as goal

pub returns : goal.returns
returns c =
    line_of _ _ _ keyword.Var (declared_words c.args.var.now ++ mark symbol.Semicolon ∷ []) c.in_ok-begin_line.ensures (c.in_ok-put_declared.ensures ▸ c.in_ok-symbol.ensures) c.end_line.ensures refl
