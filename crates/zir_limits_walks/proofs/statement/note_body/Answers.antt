use Rattle.std.proofs.Common.{◌≡◌, ◌∙◌, ap, sym, List, [], ◌++◌}
use Rattle.std.specs.Prelude.{Option, None}
use Rattle.zir_tree.specs.declared.stmt.Stmt.{Stmt}
use Rattle.zir_tree.specs.declared.stmt.Return.{Return}
use Rattle.zir_types.specs.declared.scope.Seen.{Seen}
use Rattle.zir_types.specs.Known.{seen_stmts}
use Rattle.zir_types.specs.Measures.{in_list}
use Rattle.zir_limits.specs.Facts.{CoreFacts, told, sight}
use Rattle.zir_limits.specs.Notes.{noted}
use Rattle.zir_limits.proofs.Noted.{noted_two}
use Rattle.zir_limits.proofs.StatementEquations.{in_list-return}
use Rattle.zir_limits_walks.proofs.statement.note_body.Goals as goal

pub returns-clause-noted : goal.returns-clause-noted
returns-clause-noted c =
    let f : CoreFacts = told c.args.facts.now in
    let vs : List Seen = c.args.scope.now in
    let ss : List Stmt = c.args.body.now.statements in
    let r : Option Return = c.args.body.now.result in
    let same : c.note_stmts.new.scope ≡ vs ++ seen_stmts ss = c.in_ok-note_stmts.ensures.seen ∙ ap (λ x. vs ++ seen_stmts x) c.as_slice.ensures in
    noted_two (in_list (sight f vs) ss None) (in_list (sight f (vs ++ seen_stmts ss)) [] r) c.args.notes.now c.note_stmts.new.notes c.note_return.new.notes
    (c.in_ok-note_stmts.ensures.noted ∙ ap (λ x. noted (in_list (sight f vs) x None) c.args.notes.now) c.as_slice.ensures)
    (c.in_ok-ty.ensures.noted ∙ ap (λ s. noted (in_list (sight f s) [] r) c.note_stmts.new.notes) same)
    ∙ ap (λ ms. noted ms c.args.notes.now) (sym (in_list-return f vs ss r))
