use Rattle.std.proofs.Common.{rules, ◌≡◌, ◌≤◌, ◌<◌, ◌+◌, suc, max, [], ◌∷◌, ◌++◌, ◌∙◌, arith}
use Rattle.std.proofs.lemmas.Result.{err_from_is_err_and}
use Rattle.zir_tree.specs.declared.stmt.Stmt as stmt
use Rattle.zir_grammar.specs.Parts.{reads, some_stmts, more_stmts}
use Rattle.zir_grammar.specs.Machine.{run}
use Rattle.zir_grammar.proofs.Descent.{stop_leads, leads_on, fits}
use Rattle.zir_parse_statements.proofs.Steps.{raised, room_beside, room_before}
use Rattle.zir_parse_statements.proofs.StmtParts.{
  var_fits,
  var_deep,
  name_fits,
  name_deep,
  error_fits,
  error_deep,
  test_fits,
  test_deep,
  while_fits,
  while_deep,
  count_fits,
  count_deep,
  no_stmt,
  other_of,
  else_fits,
  no_else,
  while_head,
  while_body,
  count_head,
  count_body,
  test_head,
  test_body,
  stmts_open,
  stmts_close,
  after_stmt,
  stmts_go_on,
  stmt_closes,
  stmt_goes_on,
}
use Rattle.zir_parse_statements.proofs.statements.+stmt.Goals as goal

-- ---- statement

pub statement-returns-then-room-eq0-clause-read : goal.statement-returns-then-room-eq0-clause-read
statement-returns-then-room-eq0-clause-read t c most k has =
    var_deep most c.args.room k c.args.tokens.now c.in-Some.at c.in-Some.rest.now c.in-Some.ensures.found has (omega (arith, c.if-room-eq0.true))

pub statement-returns-in_err-var-clause-read : goal.statement-returns-in_err-var-clause-read
statement-returns-in_err-var-clause-read t c most k has =
    let p = err_from_is_err_and c.from_residual.result c.from_residual.ensures.1 in
    let one : 1 ≤ c.args.room = omega (arith, c.if-room-eq0.false) in
    rw (p.1, p.2) (stop_leads c.in_err-var.field-0.0 _ _
    (var_fits most c.args.room k c.args.tokens.now c.in-Some.at c.in-Some.rest.now c.in-Some.ensures.found has one)
    (c.in_err-var.ensures.read most (λ v h. k (stmt.Var v) h) (λ v h some. has (stmt.Var v) h some)))

pub statement-returns-in-Some-clause-read : goal.statement-returns-in-Some-clause-read
statement-returns-in-Some-clause-read t c most k has =
    let one : 1 ≤ c.args.room = omega (arith, c.if-room-eq0.false) in
    var_fits most c.args.room k c.args.tokens.now c.in-Some.at c.in-Some.rest.now c.in-Some.ensures.found has one
    ∙ c.in_ok-var.ensures.read most (λ v h. k (stmt.Var v) h) (λ v h some. has (stmt.Var v) h some)

pub statement-returns-then-room-eq0-2-clause-read : goal.statement-returns-then-room-eq0-2-clause-read
statement-returns-then-room-eq0-2-clause-read t c most k has =
    name_deep most c.args.room k c.args.tokens.now c.in-Some-name.found.now c.in-Some-name.at c.in-Some-name.rest.now c.in-Some-name.ensures.found has
    (omega (arith, c.if-room-eq0-2.true))

pub statement-returns-in-Some-name-clause-read : goal.statement-returns-in-Some-name-clause-read
statement-returns-in-Some-name-clause-read t c most k has =
    let one : 1 ≤ c.args.room = omega (arith, c.if-room-eq0-2.false) in
    leads_on (λ x. run most (k x.0 x.1) x.2.now) c.named.result _ _
    (name_fits most c.args.room k c.args.tokens.now c.in-Some-name.found.now c.in-Some-name.at c.in-Some-name.rest.now c.in-Some-name.ensures.found has one)
    (c.named.ensures.read most k has)

pub statement-returns-then-room-eq0-3-clause-read : goal.statement-returns-then-room-eq0-3-clause-read
statement-returns-then-room-eq0-3-clause-read t c most k has =
    error_deep most c.args.room k c.args.tokens.now c.in-Some-keyword.at c.in-Some-keyword.rest.now c.in-Some-keyword.ensures.found has
    (omega (arith, c.if-room-eq0-3.true))

pub statement-returns-in-Some-keyword-clause-read : goal.statement-returns-in-Some-keyword-clause-read
statement-returns-in-Some-keyword-clause-read t c most k has =
    let one : 1 ≤ c.args.room = omega (arith, c.if-room-eq0-3.false) in
    leads_on (λ x. run most (k x.0 x.1) x.2.now) c.error.result _ _
    (error_fits most c.args.room k c.args.tokens.now c.in-Some-keyword.at c.in-Some-keyword.rest.now c.in-Some-keyword.ensures.found has one)
    (c.error.ensures.read most k has)

-- ---- compound

pub compound-returns-then-room-lt2-clause-read : goal.compound-returns-then-room-lt2-clause-read
compound-returns-then-room-lt2-clause-read t c most k has =
    test_deep most c.args.room k c.args.tokens.now c.in-Some.at c.in-Some.rest.now c.in-Some.ensures.found has c.if-room-lt2.true

pub compound-returns-in-Some-clause-read : goal.compound-returns-in-Some-clause-read
compound-returns-in-Some-clause-read t c most k has =
    leads_on (λ x. run most (k x.0 x.1) x.2.now) c.test.result _ _
    (test_fits most c.args.room k c.args.tokens.now c.in-Some.at c.in-Some.rest.now c.in-Some.ensures.found has c.if-room-lt2.false)
    (c.test.ensures.read most k has)

pub compound-returns-then-room-lt2-2-clause-read : goal.compound-returns-then-room-lt2-2-clause-read
compound-returns-then-room-lt2-2-clause-read t c most k has =
    while_deep most c.args.room k c.args.tokens.now c.in-Some-keyword.at c.in-Some-keyword.rest.now c.in-Some-keyword.ensures.found has c.if-room-lt2-2.true

pub compound-returns-in-Some-keyword-clause-read : goal.compound-returns-in-Some-keyword-clause-read
compound-returns-in-Some-keyword-clause-read t c most k has =
    leads_on (λ x. run most (k x.0 x.1) x.2.now) c.turning.result _ _
    (while_fits most c.args.room k c.args.tokens.now c.in-Some-keyword.at c.in-Some-keyword.rest.now c.in-Some-keyword.ensures.found has c.if-room-lt2-2.false)
    (c.turning.ensures.read most k has)

pub compound-returns-then-room-lt2-3-clause-read : goal.compound-returns-then-room-lt2-3-clause-read
compound-returns-then-room-lt2-3-clause-read t c most k has =
    count_deep most c.args.room k c.args.tokens.now c.in-Some-keyword-2.at c.in-Some-keyword-2.rest.now c.in-Some-keyword-2.ensures.found has c.if-room-lt2-3.true

pub compound-returns-in-Some-keyword-2-clause-read : goal.compound-returns-in-Some-keyword-2-clause-read
compound-returns-in-Some-keyword-2-clause-read t c most k has =
    leads_on (λ x. run most (k x.0 x.1) x.2.now) c.counted.result _ _
    (count_fits most c.args.room k c.args.tokens.now c.in-Some-keyword-2.at c.in-Some-keyword-2.rest.now c.in-Some-keyword-2.ensures.found has c.if-room-lt2-3.false)
    (c.counted.ensures.read most k has)

pub compound-returns-clause-read : goal.compound-returns-clause-read
compound-returns-clause-read t c most k has =
    no_stmt most k c.args.tokens.now c.requires.name c.requires.error c.requires.var c.in_default.ensures.found c.in_default-keyword.ensures.found c.in_default-keyword-2.ensures.found

-- ---- turning

pub turning-returns-in_err-value-clause-read : goal.turning-returns-in_err-value-clause-read
turning-returns-in_err-value-clause-read t c most k has =
    let p = err_from_is_err_and c.from_residual.result c.from_residual.ensures.1 in
    rw (p.1, p.2) (c.in_err-value.ensures.read most (while_head c.args.at k) (λ e h some. room_before most c.args.room k _ h has c.requires some))

pub turning-returns-in_err-body-clause-read : goal.turning-returns-in_err-body-clause-read
turning-returns-in_err-body-clause-read t c most k has =
    let p = err_from_is_err_and c.from_residual-in_err-body.result c.from_residual-in_err-body.ensures.1 in
    let own : 1 ≤ suc c.in_ok-value.low = omega arith in
    let below : c.in_ok-value.low < c.args.room = omega (arith, c.in_ok-value.ensures.high, c.requires) in
    rw (p.1, p.2) (stop_leads c.in_err-body.field-0.0 _ _
    (c.in_ok-value.ensures.read most (while_head c.args.at k) (λ e h some. room_before most c.args.room k _ h has c.requires some))
    (c.in_err-body.ensures.read most (while_body c.args.at k c.in_ok-value.value c.in_ok-value.low)
    (λ ss g some. room_beside most 1 c.args.room c.in_ok-value.low k _ g has own below)))

pub turning-returns-clause-read : goal.turning-returns-clause-read
turning-returns-clause-read t c most k has =
    let own : 1 ≤ suc c.in_ok-value.low = omega arith in
    let below : c.in_ok-value.low < c.args.room = omega (arith, c.in_ok-value.ensures.high, c.requires) in
    let m : c.max.result ≡ max c.in_ok-value.low c.in_ok-body.high = search rules in
    let up : c.max.result + 1 ≡ suc (max c.in_ok-value.low c.in_ok-body.high) = omega (arith, m) in
    rw up
    (c.in_ok-value.ensures.read most (while_head c.args.at k) (λ e h some. room_before most c.args.room k _ h has c.requires some)
    ∙ c.in_ok-body.ensures.read most (while_body c.args.at k c.in_ok-value.value c.in_ok-value.low)
    (λ ss g some. room_beside most 1 c.args.room c.in_ok-value.low k _ g has own below))

-- ---- counted

pub counted-returns-in_err-name-clause-read : goal.counted-returns-in_err-name-clause-read
counted-returns-in_err-name-clause-read t c most k has =
    let p = err_from_is_err_and c.from_residual.result c.from_residual.ensures.1 in
    rw (p.1, p.2) (c.in_err-name.ensures.read most (count_head c.args.at k) (λ b h some. room_before most c.args.room k _ h has c.requires some))

pub counted-returns-in_err-body-clause-read : goal.counted-returns-in_err-body-clause-read
counted-returns-in_err-body-clause-read t c most k has =
    let p = err_from_is_err_and c.from_residual-in_err-body.result c.from_residual-in_err-body.ensures.1 in
    let own : 1 ≤ suc c.in_ok-name.low = omega arith in
    let below : c.in_ok-name.low < c.args.room = omega (arith, c.in_ok-name.ensures.high, c.requires) in
    rw (p.1, p.2) (stop_leads c.in_err-body.field-0.0 _ _
    (c.in_ok-name.ensures.read most (count_head c.args.at k) (λ b h some. room_before most c.args.room k _ h has c.requires some))
    (c.in_err-body.ensures.read most (count_body c.args.at k (c.in_ok-name.name, c.in_ok-name.first, c.in_ok-name.count) c.in_ok-name.low)
    (λ ss g some. room_beside most 1 c.args.room c.in_ok-name.low k _ g has own below)))

pub counted-returns-clause-read : goal.counted-returns-clause-read
counted-returns-clause-read t c most k has =
    let own : 1 ≤ suc c.in_ok-name.low = omega arith in
    let below : c.in_ok-name.low < c.args.room = omega (arith, c.in_ok-name.ensures.high, c.requires) in
    let m : c.max.result ≡ max c.in_ok-name.low c.in_ok-body.high = search rules in
    let up : c.max.result + 1 ≡ suc (max c.in_ok-name.low c.in_ok-body.high) = omega (arith, m) in
    rw up
    (c.in_ok-name.ensures.read most (count_head c.args.at k) (λ b h some. room_before most c.args.room k _ h has c.requires some)
    ∙ c.in_ok-body.ensures.read most (count_body c.args.at k (c.in_ok-name.name, c.in_ok-name.first, c.in_ok-name.count) c.in_ok-name.low)
    (λ ss g some. room_beside most 1 c.args.room c.in_ok-name.low k _ g has own below))

-- ---- test

pub test-returns-in_err-value-clause-read : goal.test-returns-in_err-value-clause-read
test-returns-in_err-value-clause-read t c most k has =
    let p = err_from_is_err_and c.from_residual.result c.from_residual.ensures.1 in
    rw (p.1, p.2) (c.in_err-value.ensures.read most (test_head c.args.at k) (λ e h some. room_before most c.args.room k _ h has c.requires some))

pub test-returns-in_err-rest-clause-read : goal.test-returns-in_err-rest-clause-read
test-returns-in_err-rest-clause-read t c most k has =
    let p = err_from_is_err_and c.from_residual-in_err-rest.result c.from_residual-in_err-rest.ensures.1 in
    let below : c.in_ok-value.low < c.args.room = omega (arith, c.in_ok-value.ensures.high, c.requires) in
    rw (p.1, p.2) (stop_leads c.in_err-rest.field-0.0 _ _
    (c.in_ok-value.ensures.read most (test_head c.args.at k) (λ e h some. room_before most c.args.room k _ h has c.requires some))
    (c.in_err-rest.ensures.read most (reads some_stmts (test_body c.args.at k c.in_ok-value.value c.in_ok-value.low))
    (fits most k 1 c.args.room _ (suc (max c.in_ok-value.low 1)) has (omega arith) (omega (arith, below, c.requires)))))

pub test-returns-in_err-then-clause-read : goal.test-returns-in_err-then-clause-read
test-returns-in_err-then-clause-read t c most k has =
    let p = err_from_is_err_and c.from_residual-in_err-then.result c.from_residual-in_err-then.ensures.1 in
    let own : 1 ≤ suc c.in_ok-value.low = omega arith in
    let below : c.in_ok-value.low < c.args.room = omega (arith, c.in_ok-value.ensures.high, c.requires) in
    rw (p.1, p.2) (stop_leads c.in_err-then.field-0.0 _ _
    (c.in_ok-value.ensures.read most (test_head c.args.at k) (λ e h some. room_before most c.args.room k _ h has c.requires some)
    ∙ c.in_ok-rest.ensures.read most (reads some_stmts (test_body c.args.at k c.in_ok-value.value c.in_ok-value.low))
    (fits most k 1 c.args.room _ (suc (max c.in_ok-value.low 1)) has (omega arith) (omega (arith, below, c.requires))))
    (c.in_err-then.ensures.read most (test_body c.args.at k c.in_ok-value.value c.in_ok-value.low)
    (λ ss g some. room_beside most 1 c.args.room c.in_ok-value.low k _ g has own below)))

pub test-returns-in_err-other-clause-read : goal.test-returns-in_err-other-clause-read
test-returns-in_err-other-clause-read t c most k has =
    let p = err_from_is_err_and c.from_residual-in_err-other.result c.from_residual-in_err-other.ensures.1 in
    let own : 1 ≤ suc c.in_ok-value.low = omega arith in
    let below : c.in_ok-value.low < c.args.room = omega (arith, c.in_ok-value.ensures.high, c.requires) in
    let m : max c.in_ok-value.low c.in_ok-then.high ≡ c.max-height.result = search rules in
    let some : 1 ≤ max c.in_ok-value.low c.in_ok-then.high = omega (arith, c.in_ok-value.ensures.low) in
    let beside : max c.in_ok-value.low c.in_ok-then.high < c.args.room = omega (arith, below, c.in_ok-then.ensures.high, c.requires) in
    let above : 1 ≤ suc (max c.in_ok-value.low c.in_ok-then.high) = omega arith in
    rw (p.1, p.2) (stop_leads c.in_err-other.field-0.0 _ _
    (c.in_ok-value.ensures.read most (test_head c.args.at k) (λ e h some. room_before most c.args.room k _ h has c.requires some)
    ∙ c.in_ok-rest.ensures.read most (reads some_stmts (test_body c.args.at k c.in_ok-value.value c.in_ok-value.low))
    (fits most k 1 c.args.room _ (suc (max c.in_ok-value.low 1)) has (omega arith) (omega (arith, below, c.requires)))
    ∙ c.in_ok-then.ensures.read most (test_body c.args.at k c.in_ok-value.value c.in_ok-value.low)
    (λ ss g some. room_beside most 1 c.args.room c.in_ok-value.low k _ g has own below)
    ∙ else_fits most c.args.room c.in_ok-value.value c.in_ok-then.then (max c.in_ok-value.low c.in_ok-then.high) c.args.at k c.in_ok-then.rest.now _ c.in-Some.rest.now c.in-Some.ensures.found has some beside)
    (c.in_err-other.ensures.read most (other_of c.in_ok-value.value c.in_ok-then.then (max c.in_ok-value.low c.in_ok-then.high) c.args.at k)
    (λ os g own. room_beside most 1 c.args.room (max c.in_ok-value.low c.in_ok-then.high) k _ g has above beside)))

pub test-returns-in-Some-clause-read : goal.test-returns-in-Some-clause-read
test-returns-in-Some-clause-read t c most k has =
    let own : 1 ≤ suc c.in_ok-value.low = omega arith in
    let below : c.in_ok-value.low < c.args.room = omega (arith, c.in_ok-value.ensures.high, c.requires) in
    let m : c.max-height.result ≡ max c.in_ok-value.low c.in_ok-then.high = search rules in
    let n : c.max.result ≡ max c.max-height.result c.in_ok-other.high = search rules in
    let some : 1 ≤ max c.in_ok-value.low c.in_ok-then.high = omega (arith, c.in_ok-value.ensures.low) in
    let beside : max c.in_ok-value.low c.in_ok-then.high < c.args.room = omega (arith, below, c.in_ok-then.ensures.high, c.requires) in
    let above : 1 ≤ suc (max c.in_ok-value.low c.in_ok-then.high) = omega arith in
    let up : c.max.result + 1 ≡ suc (max (max c.in_ok-value.low c.in_ok-then.high) c.in_ok-other.high) = omega (arith, m, n) in
    rw up
    (c.in_ok-value.ensures.read most (test_head c.args.at k) (λ e h some. room_before most c.args.room k _ h has c.requires some)
    ∙ c.in_ok-rest.ensures.read most (reads some_stmts (test_body c.args.at k c.in_ok-value.value c.in_ok-value.low))
    (fits most k 1 c.args.room _ (suc (max c.in_ok-value.low 1)) has (omega arith) (omega (arith, below, c.requires)))
    ∙ c.in_ok-then.ensures.read most (test_body c.args.at k c.in_ok-value.value c.in_ok-value.low)
    (λ ss g some. room_beside most 1 c.args.room c.in_ok-value.low k _ g has own below)
    ∙ else_fits most c.args.room c.in_ok-value.value c.in_ok-then.then (max c.in_ok-value.low c.in_ok-then.high) c.args.at k c.in_ok-then.rest.now _ c.in-Some.rest.now c.in-Some.ensures.found has some beside
    ∙ c.in_ok-other.ensures.read most (other_of c.in_ok-value.value c.in_ok-then.then (max c.in_ok-value.low c.in_ok-then.high) c.args.at k)
    (λ os g own. room_beside most 1 c.args.room (max c.in_ok-value.low c.in_ok-then.high) k _ g has above beside))

pub test-returns-clause-read : goal.test-returns-clause-read
test-returns-clause-read t c most k has =
    let own : 1 ≤ suc c.in_ok-value.low = omega arith in
    let below : c.in_ok-value.low < c.args.room = omega (arith, c.in_ok-value.ensures.high, c.requires) in
    let m : c.max-height.result ≡ max c.in_ok-value.low c.in_ok-then.high = search rules in
    let up : c.max-height.result + 1 ≡ suc (max c.in_ok-value.low c.in_ok-then.high) = omega (arith, m) in
    rw up
    (c.in_ok-value.ensures.read most (test_head c.args.at k) (λ e h some. room_before most c.args.room k _ h has c.requires some)
    ∙ c.in_ok-rest.ensures.read most (reads some_stmts (test_body c.args.at k c.in_ok-value.value c.in_ok-value.low))
    (fits most k 1 c.args.room _ (suc (max c.in_ok-value.low 1)) has (omega arith) (omega (arith, below, c.requires)))
    ∙ c.in_ok-then.ensures.read most (test_body c.args.at k c.in_ok-value.value c.in_ok-value.low)
    (λ ss g some. room_beside most 1 c.args.room c.in_ok-value.low k _ g has own below)
    ∙ no_else most c.in_ok-value.value c.in_ok-then.then (max c.in_ok-value.low c.in_ok-then.high) c.args.at k c.in_ok-then.rest.now c.in_default.ensures.found)

-- ---- braced

pub braced-returns-in_err-rest-clause-read : goal.braced-returns-in_err-rest-clause-read
braced-returns-in_err-rest-clause-read t c most k has =
    let p = err_from_is_err_and c.from_residual.result c.from_residual.ensures.1 in
    rw (p.1, p.2) (stop_leads c.in_err-rest.field-0.0 _ _ (stmts_open most k c.args.tokens.now)
    (c.in_err-rest.ensures.read most (reads (more_stmts [] 0) (raised k)) (fits most k 1 c.args.room _ (suc 0) has (omega arith) (omega (arith, c.requires)))))

pub braced-loop-after-init : goal.braced-loop-after-init
braced-loop-after-init t c = record {
  read = λ most k has. rw c.new-statements.ensures
      (stmts_open most k c.args.tokens.now
      ∙ c.in_ok-rest.ensures.read most (reads (more_stmts [] 0) (raised k)) (fits most k 1 c.args.room _ (suc 0) has (omega arith) (omega (arith, c.requires))));
  high = omega (arith, c.requires);
  rest = omega (arith, c.in_ok-rest.ensures.rest);
}

pub braced-returns-in-Some-clause-read : goal.braced-returns-in-Some-clause-read
braced-returns-in-Some-clause-read t c most k has =
    let up : c.loop-after.high + 1 ≡ suc c.loop-after.high = omega arith in
    rw up
    (c.loop-after.invariant.read most k has
    ∙ stmts_close most c.args.room c.loop-after.statements c.loop-after.high k c.loop-after.rest.now _ c.in-Some.after.now c.in-Some.ensures.found has c.loop-after.invariant.high)

pub braced-returns-in_err-statement-clause-read : goal.braced-returns-in_err-statement-clause-read
braced-returns-in_err-statement-clause-read t c most k has =
    let p = err_from_is_err_and c.from_residual-in_err-statement.result c.from_residual-in_err-statement.ensures.1 in
    let own : 1 ≤ suc c.loop-after.high = omega arith in
    rw (p.1, p.2) (stop_leads c.in_err-statement.field-0.0 _ _
    (c.loop-after.invariant.read most k has
    ∙ stmts_go_on most c.loop-after.statements c.loop-after.high k c.loop-after.rest.now c.in_default.ensures.found)
    (c.in_err-statement.ensures.read most (after_stmt c.loop-after.statements c.loop-after.high k)
    (λ s h some. room_beside most 1 c.args.room c.loop-after.high k _ h has own c.loop-after.invariant.high)))

pub braced-returns-in-Some-symbol-clause-read : goal.braced-returns-in-Some-symbol-clause-read
braced-returns-in-Some-symbol-clause-read t c most k has =
    let own : 1 ≤ suc c.loop-after.high = omega arith in
    let m : c.max-high.result ≡ max c.loop-after.high c.in_ok-statement.height = search rules in
    let up : c.max-high.result + 1 ≡ suc (max c.loop-after.high c.in_ok-statement.height) = omega (arith, m) in
    let below : c.in_ok-statement.height < c.args.room = omega (arith, c.in_ok-statement.ensures.high, c.requires) in
    rw (c.in_ok-push.ensures.ok, up)
    (c.loop-after.invariant.read most k has
    ∙ stmts_go_on most c.loop-after.statements c.loop-after.high k c.loop-after.rest.now c.in_default.ensures.found
    ∙ c.in_ok-statement.ensures.read most (after_stmt c.loop-after.statements c.loop-after.high k)
    (λ s h some. room_beside most 1 c.args.room c.loop-after.high k _ h has own c.loop-after.invariant.high)
    ∙ stmt_closes most c.args.room c.loop-after.statements c.loop-after.high k c.in_ok-statement.statement c.in_ok-statement.height c.in_ok-statement.after.now _ c.in-Some-symbol.after.now c.in-Some-symbol.ensures.found has c.loop-after.invariant.high below)

pub braced-returns-in_err-rest-2-clause-read : goal.braced-returns-in_err-rest-2-clause-read
braced-returns-in_err-rest-2-clause-read t c most k has =
    let p = err_from_is_err_and c.from_residual-in_err-rest-2.result c.from_residual-in_err-rest-2.ensures.1 in
    let own : 1 ≤ suc c.loop-after.high = omega arith in
    let below : c.in_ok-statement.height < c.args.room = omega (arith, c.in_ok-statement.ensures.high, c.requires) in
    rw (p.1, p.2) (stop_leads c.in_err-rest-2.field-0.0 _ _
    (c.loop-after.invariant.read most k has
    ∙ stmts_go_on most c.loop-after.statements c.loop-after.high k c.loop-after.rest.now c.in_default.ensures.found
    ∙ c.in_ok-statement.ensures.read most (after_stmt c.loop-after.statements c.loop-after.high k)
    (λ s h some. room_beside most 1 c.args.room c.loop-after.high k _ h has own c.loop-after.invariant.high)
    ∙ stmt_goes_on most c.loop-after.statements c.loop-after.high k c.in_ok-statement.statement c.in_ok-statement.height c.in_ok-statement.after.now c.in_default-symbol.ensures.found)
    (c.in_err-rest-2.ensures.read most
    (reads (more_stmts (c.loop-after.statements ++ c.in_ok-statement.statement ∷ []) (max c.loop-after.high c.in_ok-statement.height)) (raised k))
    (fits most k 1 c.args.room _ (suc (max c.loop-after.high c.in_ok-statement.height)) has (omega arith) (omega (arith, below, c.loop-after.invariant.high)))))

pub braced-loop-after-preserved : goal.braced-loop-after-preserved
braced-loop-after-preserved t c =
    let own : 1 ≤ suc c.loop-after.high = omega arith in
    let m : c.max-high.result ≡ max c.loop-after.high c.in_ok-statement.height = search rules in
    let below : c.in_ok-statement.height < c.args.room = omega (arith, c.in_ok-statement.ensures.high, c.requires) in
    record {
      read = λ most k has. rw (c.in_ok-push.ensures.ok, m)
          (c.loop-after.invariant.read most k has
          ∙ stmts_go_on most c.loop-after.statements c.loop-after.high k c.loop-after.rest.now c.in_default.ensures.found
          ∙ c.in_ok-statement.ensures.read most (after_stmt c.loop-after.statements c.loop-after.high k)
          (λ s h some. room_beside most 1 c.args.room c.loop-after.high k _ h has own c.loop-after.invariant.high)
          ∙ stmt_goes_on most c.loop-after.statements c.loop-after.high k c.in_ok-statement.statement c.in_ok-statement.height c.in_ok-statement.after.now c.in_default-symbol.ensures.found
          ∙ c.in_ok-rest-2.ensures.read most
          (reads (more_stmts (c.loop-after.statements ++ c.in_ok-statement.statement ∷ []) (max c.loop-after.high c.in_ok-statement.height)) (raised k))
          (fits most k 1 c.args.room _ (suc (max c.loop-after.high c.in_ok-statement.height)) has (omega arith) (omega (arith, below, c.loop-after.invariant.high))));
      high = omega (arith, m, below, c.loop-after.invariant.high);
      rest = omega (arith, c.in_ok-statement.ensures.rest, c.in_ok-rest-2.ensures.rest, c.loop-after.invariant.rest);
    }
