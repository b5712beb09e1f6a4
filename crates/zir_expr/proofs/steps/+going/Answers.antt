use Rattle.std.proofs.Common.{rules, arith, ◌≡◌, ◌∙◌, ◌+◌, ◌-◌, suc, subst, sym, ap, to_z, of_z, w64, true}
use Rattle.std.proofs.lemmas.Int.{ints}
use Rattle.std.proofs.lemmas.Result.{err_from_is_err_and}
use Rattle.zir_expr.specs.Answers.{is_set}
use Rattle.zir_expr.specs.Memory.{Done, ended, halted, place_of, cell_at, put_cell}
use Rattle.zir_expr.specs.Running.{go_all, go_turns, go_counted}
use Rattle.zir_expr.proofs.Going.{go-Branch, go-While, go-Count, call_goes, is_set_at, turn_goes, tick_stops, body_stops, count_goes, call_halts, count_stops, counting_by}
use Rattle.zir_expr.proofs.steps.+going.Goals as goal

pub count_turns-loop-past-preserved : goal.count_turns-loop-past-preserved
count_turns-loop-past-preserved t c =
    let index = c.args.counting.now.index in
    let base = c.args.base in
    let body = go_all c.args.counting.now.body c.args.base in
    let i = to_z w64 c.loop-past.i-bits in
    let e : c.turns_of-turns.result - c.loop-past.past ≡ suc (c.turns_of-turns.result - (c.loop-past.past + 1)) = omega arith in
    let next : to_z w64 (of_z w64 c.sum-i.result) ≡ c.sum-i.result = omega (arith, ints) in
    let put : c.put.new.self ≡ put_cell (place_of base index) i c.tick.new.self = c.put.ensures ∙ ap (λ q. put_cell q i c.tick.new.self) c.index-at.ensures in
    let turn : body (put_cell (place_of base index) i c.tick.new.self) ≡ Done c.run.new.frame =
    subst (λ m. body m ≡ Done c.run.new.frame) put (subst (λ ss. go_all ss base c.put.new.self
    ≡ Done c.run.new.frame) c.as_slice.ensures c.in_ok-run.ensures) in
    subst (λ z. go_counted c.turns_of-turns.result (to_z w64 (of_z w64 c.cell-i.result)) index base body c.args.frame.now
    ≡ go_counted (c.turns_of-turns.result - (c.loop-past.past + 1)) z index base body c.run.new.frame)
    (sym (next ∙ c.sum-i.ensures))
    (c.loop-past.invariant ∙ count_goes _ _ i index base body _ c.tick.new.self c.run.new.frame e c.in_ok-tick.ensures turn)

pub count_turns-returns-in_err-run : goal.count_turns-returns-in_err-run
count_turns-returns-in_err-run t c =
    let p = err_from_is_err_and c.from_residual-in_err-run.result c.from_residual-in_err-run.ensures.1 in
    let index = c.args.counting.now.index in
    let base = c.args.base in
    let body = go_all c.args.counting.now.body c.args.base in
    let i = to_z w64 c.loop-past.i-bits in
    let e : c.turns_of-turns.result - c.loop-past.past ≡ suc (c.turns_of-turns.result - (c.loop-past.past + 1)) = omega arith in
    let turns : to_z w64 (of_z w64 c.cell.result) ≡ c.cell.result = omega (arith, ints) in
    let first : to_z w64 (of_z w64 c.cell-i.result) ≡ c.cell-i.result = omega (arith, ints) in
    let put : c.put.new.self ≡ put_cell (place_of base index) i c.tick.new.self = c.put.ensures ∙ ap (λ q. put_cell q i c.tick.new.self) c.index-at.ensures in
    let turn : body (put_cell (place_of base index) i c.tick.new.self) ≡ halted c.in_err-run.field-0.0 c.run.new.frame =
    subst (λ m. body m ≡ halted c.in_err-run.field-0.0 c.run.new.frame) put (subst (λ ss. go_all ss base c.put.new.self
    ≡ halted c.in_err-run.field-0.0 c.run.new.frame) c.as_slice.ensures c.in_err-run.ensures) in
    rw (p.1, p.2)
    (counting_by c.turns_of-turns.result c.index.result c.index-at.result (to_z w64 (of_z w64 c.cell.result)) (to_z w64 (of_z w64 c.cell-i.result))
    c.args.counting.now.turns index base body c.args.frame.now _
    c.index.ensures (turns ∙ c.cell.ensures) c.turns_of-turns.ensures c.index-at.ensures (first ∙ c.cell-i.ensures)
    (c.loop-past.invariant ∙ count_stops _ _ i index base body _ c.tick.new.self c.run.new.frame c.in_err-run.field-0.0 e c.in_ok-tick.ensures turn))

pub run_one-returns-in-Branch : goal.run_one-returns-in-Branch
run_one-returns-in-Branch t c = rw c.in-Branch.is (go-Branch c.in-Branch.fork _ _ ∙ c.choose.ensures)

pub run_one-returns-in-While : goal.run_one-returns-in-While
run_one-returns-in-While t c = rw c.in-While.is (go-While c.in-While.turn _ _ ∙ c.take_turns.ensures)

pub run_one-returns-in-Count : goal.run_one-returns-in-Count
run_one-returns-in-Count t c = rw c.in-Count.is (go-Count c.in-Count.counting _ _ ∙ c.count_turns.ensures)

pub run_one-returns-in_err-tick-in-Call : goal.run_one-returns-in_err-tick-in-Call
run_one-returns-in_err-tick-in-Call t c =
    let p = err_from_is_err_and c.from_residual.result c.from_residual.ensures.1 in
    rw (c.in-Call.is, p.1, p.2) (call_halts c.in-Call.code c.in-Call.at c.args.base _ _ _ c.in_err-tick-in-Call.ensures)

pub run_one-returns-in_ok-tick-in-Call : goal.run_one-returns-in_ok-tick-in-Call
run_one-returns-in_ok-tick-in-Call t c =
    let b : c.as_slice.result.now ≡ c.in-Call.code.steps = search rules in
    rw c.in-Call.is (call_goes c.in-Call.code c.in-Call.at c.args.base _ _ c.in_ok-tick-in-Call.ensures
    ∙ subst (λ q. go_all c.in-Call.code.steps q c.tick.new.self ≡ ended c.run.result c.run.new.frame) c.index_of.ensures
    (subst (λ ss. go_all ss c.index_of.result c.tick.new.self ≡ ended c.run.result c.run.new.frame) b c.run.ensures))

pub take_turns-returns-in_err-tick : goal.take_turns-returns-in_err-tick
take_turns-returns-in_err-tick t c =
    let p = err_from_is_err_and c.from_residual-in_err-tick.result c.from_residual-in_err-tick.ensures.1 in
    let e : c.left-left.result - c.loop-past.past ≡ suc (c.left-left.result - (c.loop-past.past + 1)) = omega arith in
    let s : is_set c.cell.result ≡ true = is_set_at c.cell.result (λ z. c.if-cell-eq0.false (ap (of_z w64) z)) in
    let at : is_set (cell_at (place_of c.args.base c.args.turn.now.cell) c.run.new.frame) ≡ true =
    subst (λ i. is_set (cell_at i c.run.new.frame) ≡ true) c.index.ensures (subst (λ x. is_set x ≡ true) c.cell.ensures s) in
    rw (p.1, p.2)
    (subst (λ k. go_turns k (go_all c.args.turn.now.test c.args.base) c.args.turn.now.cell c.args.base (go_all c.args.turn.now.body c.args.base)
    c.args.frame.now ≡ halted c.in_err-tick.field-0.0 c.tick.new.self)
    c.left-left.ensures
    (c.loop-past.invariant
    ∙ tick_stops _ _ c.args.turn.now.cell c.args.base (go_all c.args.turn.now.test c.args.base) _ c.loop-past.frame c.run.new.frame c.tick.new.self
    c.in_err-tick.field-0.0 e
    (subst (λ ss. go_all ss c.args.base c.loop-past.frame ≡ Done c.run.new.frame) c.as_slice.ensures c.in_ok-run.ensures) at c.in_err-tick.ensures))

pub take_turns-returns-in_err-run-2 : goal.take_turns-returns-in_err-run-2
take_turns-returns-in_err-run-2 t c =
    let p = err_from_is_err_and c.from_residual-in_err-run-2.result c.from_residual-in_err-run-2.ensures.1 in
    let e : c.left-left.result - c.loop-past.past ≡ suc (c.left-left.result - (c.loop-past.past + 1)) = omega arith in
    let s : is_set c.cell.result ≡ true = is_set_at c.cell.result (λ z. c.if-cell-eq0.false (ap (of_z w64) z)) in
    let at : is_set (cell_at (place_of c.args.base c.args.turn.now.cell) c.run.new.frame) ≡ true =
    subst (λ i. is_set (cell_at i c.run.new.frame) ≡ true) c.index.ensures (subst (λ x. is_set x ≡ true) c.cell.ensures s) in
    rw (p.1, p.2)
    (subst (λ k. go_turns k (go_all c.args.turn.now.test c.args.base) c.args.turn.now.cell c.args.base (go_all c.args.turn.now.body c.args.base)
    c.args.frame.now ≡ halted c.in_err-run-2.field-0.0 c.run-in-loop-past.new.frame)
    c.left-left.ensures
    (c.loop-past.invariant
    ∙ body_stops _ _ c.args.turn.now.cell c.args.base (go_all c.args.turn.now.test c.args.base) (go_all c.args.turn.now.body c.args.base)
    c.loop-past.frame c.run.new.frame c.tick.new.self c.run-in-loop-past.new.frame c.in_err-run-2.field-0.0 e
    (subst (λ ss. go_all ss c.args.base c.loop-past.frame ≡ Done c.run.new.frame) c.as_slice.ensures c.in_ok-run.ensures) at c.in_ok-tick.ensures
    (subst (λ ss. go_all ss c.args.base c.tick.new.self
    ≡ halted c.in_err-run-2.field-0.0 c.run-in-loop-past.new.frame) c.as_slice-in-loop-past.ensures c.in_err-run-2.ensures)))

pub take_turns-loop-past-preserved : goal.take_turns-loop-past-preserved
take_turns-loop-past-preserved t c =
    let e : c.left-left.result - c.loop-past.past ≡ suc (c.left-left.result - (c.loop-past.past + 1)) = omega arith in
    let s : is_set c.cell.result ≡ true = is_set_at c.cell.result (λ z. c.if-cell-eq0.false (ap (of_z w64) z)) in
    let at : is_set (cell_at (place_of c.args.base c.args.turn.now.cell) c.run.new.frame) ≡ true =
    subst (λ i. is_set (cell_at i c.run.new.frame) ≡ true) c.index.ensures (subst (λ x. is_set x ≡ true) c.cell.ensures s) in
    c.loop-past.invariant
    ∙ turn_goes _ _ c.args.turn.now.cell c.args.base (go_all c.args.turn.now.test c.args.base) (go_all c.args.turn.now.body c.args.base)
    c.loop-past.frame c.run.new.frame c.tick.new.self c.run-in-loop-past.new.frame e
    (subst (λ ss. go_all ss c.args.base c.loop-past.frame ≡ Done c.run.new.frame) c.as_slice.ensures c.in_ok-run.ensures) at c.in_ok-tick.ensures
    (subst (λ ss. go_all ss c.args.base c.tick.new.self ≡ Done c.run-in-loop-past.new.frame) c.as_slice-in-loop-past.ensures c.in_ok-run-2.ensures)
