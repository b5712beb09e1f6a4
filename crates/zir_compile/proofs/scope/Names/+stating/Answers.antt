use Rattle.std.proofs.Common.{◌+◌, sym, ◌∙◌, arith, refl, subst}
use Rattle.zir_code.specs.Statements.{with_index}
use Rattle.zir_compile.specs.Names.{scope_of}
use Rattle.zir_compile.specs.Coded.{Fits, Coded}
use Rattle.zir_compile.specs.Stated.{RowFits, Blocked}
use Rattle.zir_compile.proofs.Blocks.{stated_in, back_in, fits-If, made-If, fits-IfElse, made-IfElse, fits-While, made-While, fits-For, made-For}
use Rattle.zir_compile.proofs.Making.{makes_err}
use Rattle.zir_compile.proofs.Rows.{moved_none, moved_same, moved_twice, same_twice, same_scope, doing_init, here_stmt, doing_on, doing_end}
use Rattle.zir_compile.proofs.scope.Names.+stating.Goals as goal

pub choice-returns-clause-code : goal.choice-returns-clause-code
choice-returns-clause-code t c =
    let code = rw c.new.ensures at c.in_ok-push.ensures.items in
    λ e at before f test. made-If (scope_of c.args.self.now) e c.args.a.now at c.args.d c.max.result before c.args.steps.now.items c.push.new.self.items c.args.test c.in_ok-first.first f test c.in_ok-first.ensures.code.0
    c.in_ok-first.ensures.code.1 code c.max.ensures

pub choice-returns-in_err-first-clause-code : goal.choice-returns-in_err-first-clause-code
choice-returns-in_err-first-clause-code t c =
    λ e at before f test. makes_err _ _ _ _ _ c.from_residual.ensures.1 c.in_err-first.ensures.code (λ whole. (fits-If (scope_of c.args.self.now) e c.args.a.now at c.args.d whole).1)

pub either-returns-clause-code : goal.either-returns-clause-code
either-returns-clause-code t c =
    λ e a at before f test fa first. made-IfElse (scope_of c.args.self.now) e a c.args.b.now at c.args.d c.max-2.result before c.args.steps.now.items c.push.new.self.items c.args.test c.args.first c.in_ok-second.second f test fa first
    c.in_ok-second.ensures.code.0 c.in_ok-second.ensures.code.1 c.in_ok-push.ensures.items (omega arith)

pub either-returns-in_err-second-clause-code : goal.either-returns-in_err-second-clause-code
either-returns-in_err-second-clause-code t c =
    λ e a at before f test fa first. makes_err _ _ _ _ _ c.from_residual.ensures.1 c.in_err-second.ensures.code (λ whole. (fits-IfElse (scope_of c.args.self.now) e a c.args.b.now at c.args.d whole).2)

pub turns-returns-clause-code : goal.turns-returns-clause-code
turns-returns-clause-code t c =
    let code = rw c.from_vec.ensures at c.in_ok-push.ensures.items in
    λ e at f test. made-While (scope_of c.args.self.now) e c.args.a.now at c.args.d c.max.result c.args.steps.now.items c.push.new.self.items c.args.test.items c.args.answer c.in_ok-body.body f test c.in_ok-body.ensures.code.0
    c.in_ok-body.ensures.code.1 code c.max.ensures

pub turns-returns-in_err-body-clause-code : goal.turns-returns-in_err-body-clause-code
turns-returns-in_err-body-clause-code t c =
    λ e at f test. makes_err _ _ _ _ _ c.from_residual.ensures.1 c.in_err-body.ensures.code (λ whole. (fits-While (scope_of c.args.self.now) e c.args.a.now at c.args.d whole).1)

pub counts-returns-clause-code : goal.counts-returns-clause-code
counts-returns-clause-code t c =
    λ name a n at before same f range.
    let body = c.in_ok-body.ensures.code range.next in
    made-For (scope_of c.args.self.now) name a n c.args.b.now at c.args.d c.max.result before c.args.steps.now.items c.push.new.self.items c.args.range c.in_ok-body.body f range
    (subst (λ id. RowFits (with_index (scope_of c.args.self.now) c.args.d id) c.args.b.now (c.args.d + 1)) (sym same) body.0)
    (subst (λ id. Blocked (with_index (scope_of c.args.self.now) c.args.d id) c.args.b.now (c.args.d + 1) c.in_ok-body.body) (sym same) body.1) c.in_ok-push.ensures.items c.max.ensures

pub counts-returns-in_err-body-clause-code : goal.counts-returns-in_err-body-clause-code
counts-returns-in_err-body-clause-code t c =
    λ name a n at before same f range. makes_err _ _ _ _ _ c.from_residual.ensures.1 (c.in_err-body.ensures.code range.next)
    (λ whole. subst (λ id. RowFits (with_index (scope_of c.args.self.now) c.args.d id) c.args.b.now (c.args.d + 1)) same (fits-For (scope_of c.args.self.now) name a n c.args.b.now at c.args.d whole).1)

pub row-loop-a-init : goal.row-loop-a-init
row-loop-a-init t c = (moved_none c.args.self.now, doing_init (scope_of c.args.self.now) c.args.statements.now c.args.d c.args.steps.now.items (omega arith))

pub row-loop-a-preserved : goal.row-loop-a-preserved
row-loop-a-preserved t c = (
  moved_twice c.args.self.now c.loop-a.self c.statement.new.self c.loop-a.invariant.0 c.in_ok-reach.ensures.moved,
  doing_on (scope_of c.args.self.now) c.args.statements.now c.args.d c.args.steps.now.items c.loop-a.a-index c.a-item.result (scope_of c.loop-a.self) (scope_of c.statement.new.self) c.loop-a.free c.loop-a.peak c.max-peak.result c.loop-a.steps.items
      c.statement.new.steps.items c.in_ok-reach.reach c.loop-a-test.true c.a-item.is c.loop-a.invariant.1 c.in_ok-reach.ensures.code.0 c.in_ok-reach.ensures.code.1 c.max-peak.ensures,
)

pub row-returns-clause-code : goal.row-returns-clause-code
row-returns-clause-code t c =
    doing_end (scope_of c.args.self.now) c.args.statements.now c.args.d c.args.steps.now.items c.loop-a.a-index (scope_of c.loop-a.self) c.loop-a.free c.loop-a.peak c.max.result c.loop-a.steps.items c.loop-a-test.false (omega arith) c.loop-a.invariant.1
    c.max.ensures

pub row-returns-clause-moved : goal.row-returns-clause-moved
row-returns-clause-moved t c = c.loop-a.invariant.0

pub row-returns-in_err-reach-clause-code : goal.row-returns-in_err-reach-clause-code
row-returns-in_err-reach-clause-code t c =
    makes_err _ _ _ _ _ c.from_residual.ensures.1 c.in_err-reach.ensures.code
    (here_stmt (scope_of c.args.self.now) c.args.statements.now c.args.d c.args.steps.now.items c.loop-a.a-index c.a-item.result (scope_of c.loop-a.self) c.loop-a.free c.loop-a.peak c.loop-a.steps.items c.loop-a-test.true c.a-item.is c.loop-a.invariant.1)

pub row-returns-in_err-reach-clause-moved : goal.row-returns-in_err-reach-clause-moved
row-returns-in_err-reach-clause-moved t c = moved_twice c.args.self.now c.loop-a.self c.statement.new.self c.loop-a.invariant.0 c.in_err-reach.ensures.moved

pub statement-returns-in-Call-clause-code : goal.statement-returns-in-Call-clause-code
statement-returns-in-Call-clause-code t c = rw c.in-Call.is (rw c.as_slice-in-Call.ensures at c.call_alone.ensures c.in-Call.field-0)

pub statement-returns-in_err-first-in-IfElse-clause-code : goal.statement-returns-in_err-first-in-IfElse-clause-code
statement-returns-in_err-first-in-IfElse-clause-code t c =
    let block = rw c.as_slice-in-IfElse.ensures at c.in_err-first-in-IfElse.ensures.code in
    rw c.in-IfElse.is (makes_err _ _ _ _ _ c.from_residual-in_err-first-in-IfElse.ensures.1 block (λ whole. (fits-IfElse (scope_of c.args.self.now) c.in-IfElse.e c.in-IfElse.a c.in-IfElse.b c.in-IfElse.field-3 c.args.d whole).1))

pub statement-returns-in_err-range-in-For-clause-code : goal.statement-returns-in_err-range-in-For-clause-code
statement-returns-in_err-range-in-For-clause-code t c =
    rw c.in-For.is (makes_err _ _ _ _ _ c.from_residual-in_err-range-in-For.ensures.1 c.in_err-range-in-For.ensures
    (λ whole. (fits-For (scope_of c.args.self.now) c.in-For.x c.in-For.from c.in-For.n c.in-For.b c.in-For.field-4 c.args.d whole).0))

pub statement-returns-in_ok-answer-in-While-clause-code : goal.statement-returns-in_ok-answer-in-While-clause-code
statement-returns-in_ok-answer-in-While-clause-code t c =
    let code = rw c.as_slice-in-While.ensures at c.turns.ensures.code in
    let test = rw c.new-test.ensures.items at c.in_ok-answer-in-While.ensures in
    rw c.in-While.is (stated_in (scope_of c.args.self.now) (scope_of c.turns.new.self) _ c.args.d c.args.steps.now.items c.turns.new.steps.items c.turns.result (same_scope c.args.self.now c.turns.new.self c.turns.ensures.same)
    (code c.in-While.e c.in-While.field-2 test.0 test.1))

pub statement-returns-in_ok-answer-in-While-clause-moved : goal.statement-returns-in_ok-answer-in-While-clause-moved
statement-returns-in_ok-answer-in-While-clause-moved t c = moved_same c.args.self.now c.turns.new.self c.turns.ensures.same

pub statement-returns-in_ok-first-in-IfElse-clause-code : goal.statement-returns-in_ok-first-in-IfElse-clause-code
statement-returns-in_ok-first-in-IfElse-clause-code t c =
    let block = rw c.as_slice-in-IfElse.ensures at c.in_ok-first-in-IfElse.ensures.code in
    let back = same_scope c.args.self.now c.block.new.self c.in_ok-first-in-IfElse.ensures.same in
    let test = c.in_ok-test-in-IfElse.ensures in
    let code = rw c.as_slice-in-IfElse-2.ensures at c.either.ensures.code in
    rw c.in-IfElse.is (back_in (scope_of c.args.self.now) (scope_of c.block.new.self) (scope_of c.either.new.self) _ c.args.d c.args.steps.now.items c.either.new.steps.items c.either.result back
    (same_scope c.block.new.self c.either.new.self c.either.ensures.same ∙ back)
    (code c.in-IfElse.e c.in-IfElse.a c.in-IfElse.field-3 c.args.steps.now.items (subst (λ q. Fits q c.in-IfElse.e c.args.d) (sym back) test.0)
    (subst (λ q. Coded q c.in-IfElse.e c.args.d c.args.steps.now.items c.expression-in-IfElse.new.steps.items c.in_ok-test-in-IfElse.test) (sym back) test.1)
    (subst (λ q. RowFits q c.in-IfElse.a c.args.d) (sym back) block.0) (subst (λ q. Blocked q c.in-IfElse.a c.args.d c.in_ok-first-in-IfElse.first) (sym back) block.1)))

pub statement-returns-in_ok-first-in-IfElse-clause-moved : goal.statement-returns-in_ok-first-in-IfElse-clause-moved
statement-returns-in_ok-first-in-IfElse-clause-moved t c =
    moved_same c.args.self.now c.either.new.self (same_twice c.args.self.now c.block.new.self c.either.new.self c.in_ok-first-in-IfElse.ensures.same c.either.ensures.same)

pub statement-returns-in_ok-range-in-For-clause-code : goal.statement-returns-in_ok-range-in-For-clause-code
statement-returns-in_ok-range-in-For-clause-code t c =
    let code = rw c.as_slice-in-For.ensures at c.counts.ensures.code in
    rw c.in-For.is (stated_in (scope_of c.args.self.now) (scope_of c.counts.new.self) _ c.args.d c.args.steps.now.items c.counts.new.steps.items c.counts.result (same_scope c.args.self.now c.counts.new.self c.counts.ensures.same)
    (code c.in-For.x c.in-For.from c.in-For.n c.in-For.field-4 c.args.steps.now.items refl c.in_ok-range-in-For.ensures.0 c.in_ok-range-in-For.ensures.1))

pub statement-returns-in_ok-test-in-If-clause-code : goal.statement-returns-in_ok-test-in-If-clause-code
statement-returns-in_ok-test-in-If-clause-code t c =
    let code = rw c.as_slice-in-If.ensures at c.choice.ensures.code in
    rw c.in-If.is (stated_in (scope_of c.args.self.now) (scope_of c.choice.new.self) _ c.args.d c.args.steps.now.items c.choice.new.steps.items c.choice.result (same_scope c.args.self.now c.choice.new.self c.choice.ensures.same)
    (code c.in-If.e c.in-If.field-2 c.args.steps.now.items c.in_ok-test-in-If.ensures.0 c.in_ok-test-in-If.ensures.1))
