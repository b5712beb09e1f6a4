use Rattle.std.proofs.Common.{◌≡◌, ◌++◌, drop}
use Rattle.zir_print.specs.Text.{decl_lines}
use Rattle.zir_show.proofs.canonical.put_declarations.Given as goal

abbrev pub invariant-loop-declaration : goal.invariant-loop-declaration
invariant-loop-declaration l = l.initial.text ++ decl_lines l.declarations ≡ l.text ++ decl_lines (drop l.declaration-index l.declarations)
