use Rattle.std.proofs.Common.{◌≡◌, ◌∙◌, ap, sym, List, [], ◌∷◌, ◌++◌, ◌+◌, drop, append-nil}
use Rattle.std.specs.Prelude.{None}
use Rattle.zir_types.specs.declared.scope.Seen.{Seen}
use Rattle.zir_tree.specs.declared.stmt.Stmt.{Stmt}
use Rattle.zir_types.specs.Known.{seen_stmts}
use Rattle.zir_types.specs.Scope.{Visible}
use Rattle.zir_types.specs.Statements.{with_index}
use Rattle.zir_types.specs.Measures.{Calls, ToFunction, in_expr, in_exprs, in_path, in_stmt, in_list, seen_stmt}
use Rattle.zir_limits.specs.Facts.{CoreFacts, told, sight}
use Rattle.zir_limits.specs.Notes.{noted}
use Rattle.zir_limits.proofs.Noted.{always, on_ok, carried_two, noted_two, noted_next, noted-none}
use Rattle.zir_limits.proofs.Rows.{at_place}
use Rattle.zir_limits.proofs.StatementEquations.{in-If, in-IfElse, in-While, in-For, seen_behind}
use Rattle.zir_limits_walks.proofs.statement.+statements.Goals as goal

pub note_stmt-returns-in_ok-note_var-in-Var-clause-noted : goal.note_stmt-returns-in_ok-note_var-in-Var-clause-noted
note_stmt-returns-in_ok-note_var-in-Var-clause-noted t c =
    let f : CoreFacts = told c.args.facts.now in
    let vs : List Seen = c.args.scope.now in
    let g : Visible = sight f vs in
    always c.declare_var.result (c.in_ok-note_var-in-Var.ensures ∙ ap (λ x. noted (in_stmt g x) c.args.notes.now) (sym c.in-Var.is))

pub note_stmt-returns-in_ok-note_var-in-Var-clause-seen : goal.note_stmt-returns-in_ok-note_var-in-Var-clause-seen
note_stmt-returns-in_ok-note_var-in-Var-clause-seen t c =
    let f : CoreFacts = told c.args.facts.now in
    let vs : List Seen = c.args.scope.now in
    let g : Visible = sight f vs in
    on_ok c.declare_var.result (λ h. h ∙ ap (λ x. vs ++ seen_stmt x) (sym c.in-Var.is)) c.declare_var.ensures

pub note_stmt-returns-in_ok-note_path-in-Assign-clause-noted : goal.note_stmt-returns-in_ok-note_path-in-Assign-clause-noted
note_stmt-returns-in_ok-note_path-in-Assign-clause-noted t c =
    let f : CoreFacts = told c.args.facts.now in
    let vs : List Seen = c.args.scope.now in
    let g : Visible = sight f vs in
    carried_two c.note_expr.result (in_stmt g c.args.s.now) (in_path g c.as_slice.result.now) (in_expr g c.in-Assign.e)
    c.args.notes.now c.note_path.new.notes c.note_expr.new.notes
    (ap (in_stmt g) c.in-Assign.is ∙ ap (λ x. in_path g x ++ in_expr g c.in-Assign.e) (sym c.as_slice.ensures))
    c.in_ok-note_path-in-Assign.ensures c.note_expr.ensures

pub note_stmt-returns-in_ok-note_path-in-Assign-clause-seen : goal.note_stmt-returns-in_ok-note_path-in-Assign-clause-seen
note_stmt-returns-in_ok-note_path-in-Assign-clause-seen t c =
    let f : CoreFacts = told c.args.facts.now in
    let vs : List Seen = c.args.scope.now in
    let g : Visible = sight f vs in
    always c.note_expr.result (sym (append-nil vs) ∙ ap (λ x. vs ++ seen_stmt x) (sym c.in-Assign.is))

pub note_stmt-returns-in_ok-call-in-Call-clause-noted : goal.note_stmt-returns-in_ok-call-in-Call-clause-noted
note_stmt-returns-in_ok-call-in-Call-clause-noted t c =
    let f : CoreFacts = told c.args.facts.now in
    let vs : List Seen = c.args.scope.now in
    let g : Visible = sight f vs in
    carried_two c.note_exprs.result (in_stmt g c.args.s.now) (Calls (ToFunction c.in-Call.k) c.in-Call.f.at ∷ []) (in_exprs g c.as_slice-in-Call.result.now)
    c.args.notes.now c.call.new.self c.note_exprs.new.notes
    (ap (in_stmt g) c.in-Call.is ∙ ap (λ x. Calls (ToFunction c.in-Call.k) c.in-Call.f.at ∷ in_exprs g x) (sym c.as_slice-in-Call.ensures))
    c.in_ok-call-in-Call.ensures c.note_exprs.ensures

pub note_stmt-returns-in_ok-call-in-Call-clause-seen : goal.note_stmt-returns-in_ok-call-in-Call-clause-seen
note_stmt-returns-in_ok-call-in-Call-clause-seen t c =
    let f : CoreFacts = told c.args.facts.now in
    let vs : List Seen = c.args.scope.now in
    let g : Visible = sight f vs in
    always c.note_exprs.result (sym (append-nil vs) ∙ ap (λ x. vs ++ seen_stmt x) (sym c.in-Call.is))

pub note_stmt-returns-in-Error-clause-noted : goal.note_stmt-returns-in-Error-clause-noted
note_stmt-returns-in-Error-clause-noted t c =
    let f : CoreFacts = told c.args.facts.now in
    let vs : List Seen = c.args.scope.now in
    let g : Visible = sight f vs in
    sym (noted-none c.args.notes.now) ∙ ap (λ x. noted (in_stmt g x) c.args.notes.now) (sym c.in-Error.is)

pub note_stmt-returns-in-Error-clause-seen : goal.note_stmt-returns-in-Error-clause-seen
note_stmt-returns-in-Error-clause-seen t c =
    let f : CoreFacts = told c.args.facts.now in
    let vs : List Seen = c.args.scope.now in
    let g : Visible = sight f vs in
    sym (append-nil vs) ∙ ap (λ x. vs ++ seen_stmt x) (sym c.in-Error.is)

pub note_stmt-returns-in_ok-note_expr-in-If-clause-noted : goal.note_stmt-returns-in_ok-note_expr-in-If-clause-noted
note_stmt-returns-in_ok-note_expr-in-If-clause-noted t c =
    let f : CoreFacts = told c.args.facts.now in
    let vs : List Seen = c.args.scope.now in
    let g : Visible = sight f vs in
    carried_two c.note_block.result (in_stmt g c.args.s.now) (in_expr g c.in-If.e) (in_list g c.as_slice-in-If.result.now None)
    c.args.notes.now c.note_expr-in-If.new.notes c.note_block.new.notes
    (ap (in_stmt g) c.in-If.is ∙ in-If g c.in-If.e c.in-If.ss c.in-If.field-2 ∙ ap (λ x. in_expr g c.in-If.e ++ in_list g x None) (sym c.as_slice-in-If.ensures))
    c.in_ok-note_expr-in-If.ensures c.note_block.ensures.noted

pub note_stmt-returns-in_ok-note_expr-in-If-clause-seen : goal.note_stmt-returns-in_ok-note_expr-in-If-clause-seen
note_stmt-returns-in_ok-note_expr-in-If-clause-seen t c =
    let f : CoreFacts = told c.args.facts.now in
    let vs : List Seen = c.args.scope.now in
    let g : Visible = sight f vs in
    on_ok c.note_block.result (λ h. h ∙ sym (append-nil vs) ∙ ap (λ x. vs ++ seen_stmt x) (sym c.in-If.is)) c.note_block.ensures.left

pub note_stmt-returns-in_ok-note_expr-in-While-clause-noted : goal.note_stmt-returns-in_ok-note_expr-in-While-clause-noted
note_stmt-returns-in_ok-note_expr-in-While-clause-noted t c =
    let f : CoreFacts = told c.args.facts.now in
    let vs : List Seen = c.args.scope.now in
    let g : Visible = sight f vs in
    carried_two c.note_block-in-While.result (in_stmt g c.args.s.now) (in_expr g c.in-While.e) (in_list g c.as_slice-in-While.result.now None)
    c.args.notes.now c.note_expr-in-While.new.notes c.note_block-in-While.new.notes
    (ap (in_stmt g) c.in-While.is ∙ in-While g c.in-While.e c.in-While.ss c.in-While.field-2 ∙ ap (λ x. in_expr g c.in-While.e ++ in_list g x None) (sym c.as_slice-in-While.ensures))
    c.in_ok-note_expr-in-While.ensures c.note_block-in-While.ensures.noted

pub note_stmt-returns-in_ok-note_expr-in-While-clause-seen : goal.note_stmt-returns-in_ok-note_expr-in-While-clause-seen
note_stmt-returns-in_ok-note_expr-in-While-clause-seen t c =
    let f : CoreFacts = told c.args.facts.now in
    let vs : List Seen = c.args.scope.now in
    let g : Visible = sight f vs in
    on_ok c.note_block-in-While.result (λ h. h ∙ sym (append-nil vs) ∙ ap (λ x. vs ++ seen_stmt x) (sym c.in-While.is)) c.note_block-in-While.ensures.left

pub note_stmt-returns-in_ok-note_block-in-IfElse-clause-noted : goal.note_stmt-returns-in_ok-note_block-in-IfElse-clause-noted
note_stmt-returns-in_ok-note_block-in-IfElse-clause-noted t c =
    let f : CoreFacts = told c.args.facts.now in
    let vs : List Seen = c.args.scope.now in
    let g : Visible = sight f vs in
    carried_two c.note_block-in-IfElse-2.result (in_stmt g c.args.s.now) (in_expr g c.in-IfElse.e ++ in_list g c.as_slice-in-IfElse.result.now None)
    (in_list (sight f c.note_block-in-IfElse.new.scope) c.as_slice-in-IfElse-2.result.now None)
    c.args.notes.now c.note_block-in-IfElse.new.notes c.note_block-in-IfElse-2.new.notes
    (ap (in_stmt g) c.in-IfElse.is ∙ in-IfElse g c.in-IfElse.e c.in-IfElse.ss c.in-IfElse.us c.in-IfElse.field-3
    ∙ ap (λ x. in_expr g c.in-IfElse.e ++ in_list g x None ++ in_list g c.in-IfElse.us None) (sym c.as_slice-in-IfElse.ensures)
    ∙ ap (λ x. in_expr g c.in-IfElse.e ++ in_list g c.as_slice-in-IfElse.result.now None ++ in_list g x None) (sym c.as_slice-in-IfElse-2.ensures)
    ∙ ap (λ x. in_expr g c.in-IfElse.e ++ in_list g c.as_slice-in-IfElse.result.now None ++ in_list (sight f x) c.as_slice-in-IfElse-2.result.now None) (sym c.in_ok-note_block-in-IfElse.ensures.left))
    (noted_two (in_expr g c.in-IfElse.e) (in_list g c.as_slice-in-IfElse.result.now None) c.args.notes.now c.note_expr-in-IfElse.new.notes c.note_block-in-IfElse.new.notes
    c.in_ok-note_expr-in-IfElse.ensures c.in_ok-note_block-in-IfElse.ensures.noted)
    c.note_block-in-IfElse-2.ensures.noted

pub note_stmt-returns-in_ok-note_block-in-IfElse-clause-seen : goal.note_stmt-returns-in_ok-note_block-in-IfElse-clause-seen
note_stmt-returns-in_ok-note_block-in-IfElse-clause-seen t c =
    let f : CoreFacts = told c.args.facts.now in
    let vs : List Seen = c.args.scope.now in
    let g : Visible = sight f vs in
    on_ok c.note_block-in-IfElse-2.result (λ h. h ∙ c.in_ok-note_block-in-IfElse.ensures.left ∙ sym (append-nil vs) ∙ ap (λ x. vs ++ seen_stmt x) (sym c.in-IfElse.is)) c.note_block-in-IfElse-2.ensures.left

pub note_stmt-returns-in_ok-note_expr-in-For-2-clause-noted : goal.note_stmt-returns-in_ok-note_expr-in-For-2-clause-noted
note_stmt-returns-in_ok-note_expr-in-For-2-clause-noted t c =
    let f : CoreFacts = told c.args.facts.now in
    let vs : List Seen = c.args.scope.now in
    let g : Visible = sight f vs in
    carried_two c.note_loop.result (in_stmt g c.args.s.now) (in_expr g c.in-For.a ++ in_expr g c.in-For.n) (in_list (with_index c.in-For.x g) c.as_slice-in-For.result.now None)
    c.args.notes.now c.note_expr-in-For-2.new.notes c.note_loop.new.notes
    (ap (in_stmt g) c.in-For.is ∙ in-For g c.in-For.x c.in-For.a c.in-For.n c.in-For.ss c.in-For.field-4
    ∙ ap (λ x. in_expr g c.in-For.a ++ in_expr g c.in-For.n ++ in_list (with_index c.in-For.x g) x None) (sym c.as_slice-in-For.ensures))
    (noted_two (in_expr g c.in-For.a) (in_expr g c.in-For.n) c.args.notes.now c.note_expr-in-For.new.notes c.note_expr-in-For-2.new.notes
    c.in_ok-note_expr-in-For.ensures c.in_ok-note_expr-in-For-2.ensures)
    c.note_loop.ensures.noted

pub note_stmt-returns-in_ok-note_expr-in-For-2-clause-seen : goal.note_stmt-returns-in_ok-note_expr-in-For-2-clause-seen
note_stmt-returns-in_ok-note_expr-in-For-2-clause-seen t c =
    let f : CoreFacts = told c.args.facts.now in
    let vs : List Seen = c.args.scope.now in
    let g : Visible = sight f vs in
    on_ok c.note_loop.result (λ h. h ∙ sym (append-nil vs) ∙ ap (λ x. vs ++ seen_stmt x) (sym c.in-For.is)) c.note_loop.ensures.left

pub note_stmts-loop-s-preserved : goal.note_stmts-loop-s-preserved
note_stmts-loop-s-preserved t c =
    let f : CoreFacts = told c.args.facts.now in
    let ss : List Stmt = c.args.ss.now in
    let x : Stmt = c.s-item.result in
    let rest : List Stmt = drop (c.loop-s.s-index + 1) ss in
    let here : drop c.loop-s.s-index ss ≡ x ∷ rest = at_place ss c.loop-s.s-index x c.loop-s-test.true c.s-item.is in
    record {
      noted_ =
          c.loop-s.invariant.noted_ ∙ ap (λ l. noted (in_list (sight f c.loop-s.scope) l None) c.loop-s.notes) here
          ∙ noted_next (in_stmt (sight f c.loop-s.scope) x) (in_list (sight f (c.loop-s.scope ++ seen_stmt x)) rest None) c.loop-s.notes c.note_stmt.new.notes c.in_ok-note_stmt.ensures.noted
          ∙ ap (λ s. noted (in_list (sight f s) rest None) c.note_stmt.new.notes) (sym c.in_ok-note_stmt.ensures.seen);
      seen =
          c.loop-s.invariant.seen ∙ ap (λ l. c.loop-s.scope ++ seen_stmts l) here ∙ seen_behind c.loop-s.scope x rest
          ∙ ap (λ s. s ++ seen_stmts rest) (sym c.in_ok-note_stmt.ensures.seen);
    }
