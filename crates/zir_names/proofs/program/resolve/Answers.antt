use Rattle.std.proofs.Common.{refl}
use Rattle.zir_names.specs.Scope.{nothing_seen}
use Rattle.zir_names.specs.Statements.{in_turn}
use Rattle.zir_names.specs.Programs.{decl_of}
use Rattle.zir_names.proofs.Told.{told_err}
use Rattle.zir_names.proofs.program.resolve.Goals as goal

pub returns-in_err-declarations : goal.returns-in_err-declarations
returns-in_err-declarations c =
    told_err (in_turn decl_of nothing_seen c.args.p.now.declarations) _ _ _ c.from_residual.ensures.1 (rw (c.new-scope.ensures, c.as_slice.ensures) at c.in_err-declarations.ensures)

pub returns-in_err-input : goal.returns-in_err-input
returns-in_err-input c =
    rw (rw (c.new-scope.ensures, c.as_slice.ensures) at c.in_ok-declarations.ensures) (told_err _ _ _ _ c.from_residual-in_err-input.ensures.1 c.in_err-input.ensures)

pub returns-in_err-main : goal.returns-in_err-main
returns-in_err-main c =
    rw ((rw (c.new-scope.ensures, c.as_slice.ensures) at c.in_ok-declarations.ensures), c.in_ok-input.ensures)
    (told_err _ _ _ _ c.from_residual-in_err-main.ensures.1 c.in_err-main.ensures)

pub returns : goal.returns
returns c =
    rw ((rw (c.new-scope.ensures, c.as_slice.ensures) at c.in_ok-declarations.ensures), c.in_ok-input.ensures, c.in_ok-main.ensures)
    (c.finish.ensures _ c.resolve_type-output.ensures)
