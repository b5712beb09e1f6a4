use Rattle.std.proofs.Common.{rules, ◌≡◌, ◌≤◌, ◌<◌, ◌+◌, ◌-◌, ℕ, suc, max, [], ◌∷◌, Some, ap, refl, ◌∙◌, arith}
use Rattle.std.proofs.lemmas.Result.{err_from_is_err_and}
use Rattle.zir_tree.specs.declared.expr.Expr as expr
use Rattle.zir_lex.specs.declared.token.Symbol.TheVariants as symbol
use Rattle.zir_grammar.specs.Wants.{a_number}
use Rattle.zir_grammar.specs.Parts.{reads, wants, wants_sign, a_binary, operands_of, more_exprs, posts_of}
use Rattle.zir_grammar.specs.Machine.{run}
use Rattle.zir_grammar.proofs.Descent.{stop_leads, leads_on, fits}
use Rattle.zir_grammar.proofs.ExprSteps.{rank_begins, rank_ends, right_side, operator_fits, operator_deep, right_room}
use Rattle.zir_parse_statements.specs.Parsers.{an_expr, expr_before, indexed_by}
use Rattle.zir_parse_statements.proofs.Steps.{raised, room_inside, room_beside, room_among}
use Rattle.zir_parse_statements.proofs.ExprParts.{
  operand_of,
  prefix_fits,
  prefix_deep,
  literal_fits,
  literal_deep,
  posts_behind,
  name_fits,
  name_deep,
  parenthesis_fits,
  parenthesis_deep,
  array_of,
  array_fits,
  array_deep,
  conversion_fits,
  conversion_deep,
  no_primary,
  call_of,
  call_fits,
  variable_read,
  unit_read,
  enclosed_begins,
  no_args,
  args_begin,
  exprs_end,
  one_more,
  exprs_go_on,
  post_of,
  bracket_fits,
  bracket_deep,
  part_of,
  dot_fits,
  dot_deep,
  no_post,
  same_post,
  converts_second,
  converts_first,
  conversion_closes,
  conversion_goes_on,
  slice_end,
  index_end,
  index_closes,
  index_goes_on,
}
use Rattle.zir_parse_statements.proofs.expressions.+expr.Goals as goal

-- ---- binary

pub binary-returns-in_err-first-clause-read : goal.binary-returns-in_err-first-clause-read
binary-returns-in_err-first-clause-read t c most k has =
    let p = err_from_is_err_and c.from_residual.result c.from_residual.ensures.1 in
    let n : ℕ = c.args.ranks - 1 in
    let is : c.args.ranks ≡ suc n = omega (arith, c.if-ranks-eq0.false) in
    rw (p.1, p.2) (stop_leads c.in_err-first.field-0.0 _ _
    (ap (λ r. run most (reads (a_binary r) k) c.args.tokens.now) is ∙ rank_begins most n k c.args.tokens.now)
    (c.in_err-first.ensures.read most (λ e h. reads (operands_of n e h) k) has))

pub binary-loop-op-init : goal.binary-loop-op-init
binary-loop-op-init t c =
    let n : ℕ = c.args.ranks - 1 in
    let is : c.args.ranks ≡ suc n = omega (arith, c.if-ranks-eq0.false) in
    record {
      read = λ most k has. ap (λ r. run most (reads (a_binary r) k) c.args.tokens.now) is ∙ rank_begins most n k c.args.tokens.now
          ∙ c.in_ok-first.ensures.read most (λ e h. reads (operands_of n e h) k) has;
      low = c.in_ok-first.ensures.low;
      high = c.in_ok-first.ensures.high;
      rest = c.in_ok-first.ensures.rest;
    }

pub binary-returns-then-height-room-clause-read : goal.binary-returns-then-height-room-clause-read
binary-returns-then-height-room-clause-read t c most k has =
    c.loop-op.invariant.read most k has
    ∙ operator_deep most (c.args.ranks - 1) c.args.room k c.loop-op.left c.loop-op.height c.loop-op.rest.now c.in-Some.op c.in-Some.at c.in-Some.after.now c.in-Some.ensures.found has c.if-height-room.true

pub binary-returns-in_err-right-clause-read : goal.binary-returns-in_err-right-clause-read
binary-returns-in_err-right-clause-read t c most k has =
    let p = err_from_is_err_and c.from_residual-in_err-right.result c.from_residual-in_err-right.ensures.1 in
    rw (p.1, p.2) (stop_leads c.in_err-right.field-0.0 _ _
    (c.loop-op.invariant.read most k has
    ∙ operator_fits most (c.args.ranks - 1) c.args.room k c.loop-op.left c.loop-op.height c.loop-op.rest.now c.in-Some.op c.in-Some.at c.in-Some.after.now c.in-Some.ensures.found has c.loop-op.invariant.low c.if-height-room.false)
    (c.in_err-right.ensures.read most (right_side (c.args.ranks - 1) c.in-Some.op c.in-Some.at c.loop-op.left c.loop-op.height k)
    (right_room most (c.args.ranks - 1) c.args.room k c.loop-op.left c.loop-op.height c.in-Some.op c.in-Some.at has c.if-height-room.false)))

pub binary-loop-op-preserved : goal.binary-loop-op-preserved
binary-loop-op-preserved t c =
    let n : ℕ = c.args.ranks - 1 in
    let m : c.max-height.result ≡ max c.loop-op.height c.in_ok-right.high = search rules in
    let up : c.max-height.result + 1 ≡ suc (max c.loop-op.height c.in_ok-right.high) = omega (arith, m) in
    record {
      read = λ most k has. rw (c.in_ok-new.ensures, c.in_ok-new-2.ensures, up)
          (c.loop-op.invariant.read most k has
          ∙ operator_fits most n c.args.room k c.loop-op.left c.loop-op.height c.loop-op.rest.now c.in-Some.op c.in-Some.at c.in-Some.after.now c.in-Some.ensures.found has c.loop-op.invariant.low c.if-height-room.false
          ∙ c.in_ok-right.ensures.read most (right_side n c.in-Some.op c.in-Some.at c.loop-op.left c.loop-op.height k)
          (right_room most n c.args.room k c.loop-op.left c.loop-op.height c.in-Some.op c.in-Some.at has c.if-height-room.false));
      low = omega arith;
      high = omega (arith, up, c.in_ok-right.ensures.high, c.if-height-room.false);
      rest = omega (arith, c.in_ok-right.ensures.rest, c.in-Some.ensures.rest, c.loop-op.invariant.rest);
    }

pub binary-returns-clause-read : goal.binary-returns-clause-read
binary-returns-clause-read t c most k has =
    c.loop-op.invariant.read most k has ∙ rank_ends most (c.args.ranks - 1) k c.loop-op.left c.loop-op.height c.loop-op.rest.now c.in_default.ensures.found

-- ---- unary

pub unary-returns-then-room-lt2-clause-read : goal.unary-returns-then-room-lt2-clause-read
unary-returns-then-room-lt2-clause-read t c most k has =
    prefix_deep most c.args.room k c.args.tokens.now c.in-Some.op c.in-Some.at c.in-Some.after.now c.in-Some.ensures.found has c.if-room-lt2.true

pub unary-returns-in_err-operand-clause-read : goal.unary-returns-in_err-operand-clause-read
unary-returns-in_err-operand-clause-read t c most k has =
    let p = err_from_is_err_and c.from_residual.result c.from_residual.ensures.1 in
    let one : 1 ≤ c.args.room = omega (arith, c.if-room-lt2.false) in
    rw (p.1, p.2) (stop_leads c.in_err-operand.field-0.0 _ _
    (prefix_fits most c.args.room k c.args.tokens.now c.in-Some.op c.in-Some.at c.in-Some.after.now c.in-Some.ensures.found has c.if-room-lt2.false)
    (c.in_err-operand.ensures.read most (operand_of c.in-Some.op c.in-Some.at k) (λ e h some. room_inside most c.args.room k _ h has one)))

pub unary-returns-in-Some-clause-read : goal.unary-returns-in-Some-clause-read
unary-returns-in-Some-clause-read t c most k has =
    let up : c.in_ok-operand.height + 1 ≡ suc c.in_ok-operand.height = omega arith in
    let one : 1 ≤ c.args.room = omega (arith, c.if-room-lt2.false) in
    rw (c.in_ok-operand-2.ensures, up)
    (prefix_fits most c.args.room k c.args.tokens.now c.in-Some.op c.in-Some.at c.in-Some.after.now c.in-Some.ensures.found has c.if-room-lt2.false
    ∙ c.in_ok-operand.ensures.read most (operand_of c.in-Some.op c.in-Some.at k) (λ e h some. room_inside most c.args.room k _ h has one))

pub unary-returns-clause-read : goal.unary-returns-clause-read
unary-returns-clause-read t c most k has =
    leads_on (λ x. run most (k x.0 x.1) x.2.now) c.posts.result _ _ (c.in_ok-base.ensures.read most k has)
    (c.posts.ensures.read most k (λ a h above. has a h (omega (arith, above, c.in_ok-base.ensures.low))))

-- ---- primary

pub primary-returns-then-room-eq0-clause-read : goal.primary-returns-then-room-eq0-clause-read
primary-returns-then-room-eq0-clause-read t c most k has =
    literal_deep most c.args.room k c.in-Some.ensures.found has (omega (arith, c.if-room-eq0.true))

pub primary-returns-in-Some-clause-read : goal.primary-returns-in-Some-clause-read
primary-returns-in-Some-clause-read t c most k has =
    literal_fits most c.args.room k c.in-Some.ensures.found has (omega (arith, c.if-room-eq0.false))

pub primary-returns-then-room-eq0-2-clause-read : goal.primary-returns-then-room-eq0-2-clause-read
primary-returns-then-room-eq0-2-clause-read t c most k has =
    name_deep most c.args.room k c.args.tokens.now c.in-Some-name.found.now c.in-Some-name.at c.in-Some-name.rest.now c.in-Some-name.ensures.found has
    (omega (arith, c.if-room-eq0-2.true))

pub primary-returns-in-Some-name-clause-read : goal.primary-returns-in-Some-name-clause-read
primary-returns-in-Some-name-clause-read t c most k has =
    let one : 1 ≤ c.args.room = omega (arith, c.if-room-eq0-2.false) in
    leads_on (λ x. run most (reads (posts_of x.0 x.1) k) x.2.now) c.named.result _ _
    (name_fits most c.args.room k c.args.tokens.now c.in-Some-name.found.now c.in-Some-name.at c.in-Some-name.rest.now c.in-Some-name.ensures.found has one)
    (c.named.ensures.read most (posts_behind k) has)

-- ---- compound

pub compound-returns-then-room-eq0-clause-read : goal.compound-returns-then-room-eq0-clause-read
compound-returns-then-room-eq0-clause-read t c most k has =
    parenthesis_deep most c.args.room k c.args.tokens.now c.in-Some.at c.in-Some.rest.now c.in-Some.ensures.found has (omega (arith, c.if-room-eq0.true))

pub compound-returns-in-Some-clause-read : goal.compound-returns-in-Some-clause-read
compound-returns-in-Some-clause-read t c most k has =
    let one : 1 ≤ c.args.room = omega (arith, c.if-room-eq0.false) in
    leads_on (λ x. run most (reads (posts_of x.0 x.1) k) x.2.now) c.in_parentheses.result _ _
    (parenthesis_fits most c.args.room k c.args.tokens.now c.in-Some.at c.in-Some.rest.now c.in-Some.ensures.found has one)
    (c.in_parentheses.ensures.read most (posts_behind k) has)

pub compound-returns-then-room-lt2-clause-read : goal.compound-returns-then-room-lt2-clause-read
compound-returns-then-room-lt2-clause-read t c most k has =
    array_deep most c.args.room k c.args.tokens.now c.in-Some-symbol.at c.in-Some-symbol.rest.now c.in-Some-symbol.ensures.found has c.if-room-lt2.true

pub compound-returns-in_err-elements-clause-read : goal.compound-returns-in_err-elements-clause-read
compound-returns-in_err-elements-clause-read t c most k has =
    let p = err_from_is_err_and c.from_residual.result c.from_residual.ensures.1 in
    let one : 1 ≤ c.args.room = omega (arith, c.if-room-lt2.false) in
    rw (p.1, p.2) (stop_leads c.in_err-elements.field-0.0 _ _
    (array_fits most c.args.room k c.args.tokens.now c.in-Some-symbol.at c.in-Some-symbol.rest.now c.in-Some-symbol.ensures.found has c.if-room-lt2.false)
    (c.in_err-elements.ensures.read most (array_of c.in-Some-symbol.at k) (λ es h some. room_inside most c.args.room k _ h has one)))

pub compound-returns-in-Some-symbol-clause-read : goal.compound-returns-in-Some-symbol-clause-read
compound-returns-in-Some-symbol-clause-read t c most k has =
    let up : c.in_ok-elements.height + 1 ≡ suc c.in_ok-elements.height = omega arith in
    let one : 1 ≤ c.args.room = omega (arith, c.if-room-lt2.false) in
    rw up
    (array_fits most c.args.room k c.args.tokens.now c.in-Some-symbol.at c.in-Some-symbol.rest.now c.in-Some-symbol.ensures.found has c.if-room-lt2.false
    ∙ c.in_ok-elements.ensures.read most (array_of c.in-Some-symbol.at k) (λ es h some. room_inside most c.args.room k _ h has one))

pub compound-returns-then-room-lt2-2-clause-read : goal.compound-returns-then-room-lt2-2-clause-read
compound-returns-then-room-lt2-2-clause-read t c most k has =
    conversion_deep most c.args.room k c.args.tokens.now c.in-Some-conversion.base c.in-Some-conversion.at c.in-Some-conversion.rest.now c.in-Some-conversion.ensures.found has c.if-room-lt2-2.true

pub compound-returns-in-Some-conversion-clause-read : goal.compound-returns-in-Some-conversion-clause-read
compound-returns-in-Some-conversion-clause-read t c most k has =
    leads_on (λ x. run most (reads (posts_of x.0 x.1) k) x.2.now) c.converted.result _ _
    (conversion_fits most c.args.room k c.args.tokens.now c.in-Some-conversion.base c.in-Some-conversion.at c.in-Some-conversion.rest.now c.in-Some-conversion.ensures.found has c.if-room-lt2-2.false)
    (c.converted.ensures.read most (posts_behind k) has)

pub compound-returns-clause-read : goal.compound-returns-clause-read
compound-returns-clause-read t c most k has =
    no_primary most k c.args.tokens.now c.requires.prefix c.requires.literal c.requires.name c.in_default.ensures.found c.in_default-symbol.ensures.found c.in_default-conversion.ensures.found

-- ---- named

pub named-returns-in_err-arguments-clause-read : goal.named-returns-in_err-arguments-clause-read
named-returns-in_err-arguments-clause-read t c most k has =
    let p = err_from_is_err_and c.from_residual-in_err-arguments.result c.from_residual-in_err-arguments.ensures.1 in
    rw (p.1, p.2) (stop_leads c.in_err-arguments.field-0.0 _ _
    (call_fits most c.args.room c.args.found.now c.args.at k c.args.tokens.now _ c.in-Some.rest.now c.in-Some.ensures.found has c.requires)
    (c.in_err-arguments.ensures.read most (call_of c.args.found.now c.args.at k) (λ es h some. room_inside most c.args.room k _ h has c.requires)))

pub named-returns-in-Some-clause-read : goal.named-returns-in-Some-clause-read
named-returns-in-Some-clause-read t c most k has =
    let up : c.in_ok-arguments.high + 1 ≡ suc c.in_ok-arguments.high = omega arith in
    rw (c.in_ok-name.ensures, up)
    (call_fits most c.args.room c.args.found.now c.args.at k c.args.tokens.now _ c.in-Some.rest.now c.in-Some.ensures.found has c.requires
    ∙ c.in_ok-arguments.ensures.read most (call_of c.args.found.now c.args.at k) (λ es h some. room_inside most c.args.room k _ h has c.requires))

pub named-returns-clause-read : goal.named-returns-clause-read
named-returns-clause-read t c most k has =
    rw c.in_ok-name.ensures (variable_read most c.args.found.now c.args.at k c.args.tokens.now c.in_default.ensures.found)

-- ---- in_parentheses

pub in_parentheses-returns-in-Some-clause-read : goal.in_parentheses-returns-in-Some-clause-read
in_parentheses-returns-in-Some-clause-read t c most k has =
    unit_read most c.args.room c.args.at k c.args.tokens.now _ c.in-Some.rest.now c.in-Some.ensures.found has c.requires

pub in_parentheses-returns-in_err-inner-clause-read : goal.in_parentheses-returns-in_err-inner-clause-read
in_parentheses-returns-in_err-inner-clause-read t c most k has =
    let p = err_from_is_err_and c.from_residual.result c.from_residual.ensures.1 in
    rw (p.1, p.2) (stop_leads c.in_err-inner.field-0.0 _ _ (enclosed_begins most c.args.at k c.args.tokens.now c.in_default.ensures.found)
    (c.in_err-inner.ensures.read most (λ e h. wants_sign symbol.RightParenthesis (raised k e h)) (λ e h some. room_inside most c.args.room k _ h has c.requires)))

pub in_parentheses-returns-in_err-rest-clause-read : goal.in_parentheses-returns-in_err-rest-clause-read
in_parentheses-returns-in_err-rest-clause-read t c most k has =
    let p = err_from_is_err_and c.from_residual-in_err-rest.result c.from_residual-in_err-rest.ensures.1 in
    rw (p.1, p.2) (stop_leads c.in_err-rest.field-0.0 _ _
    (enclosed_begins most c.args.at k c.args.tokens.now c.in_default.ensures.found
    ∙ c.in_ok-inner.ensures.read most (λ e h. wants_sign symbol.RightParenthesis (raised k e h)) (λ e h some. room_inside most c.args.room k _ h has c.requires))
    (c.in_err-rest.ensures.read most (raised k c.in_ok-inner.inner c.in_ok-inner.height)
    (fits most k 1 c.args.room _ (suc c.in_ok-inner.height) has (omega arith) (omega (arith, c.in_ok-inner.ensures.high, c.requires)))))

pub in_parentheses-returns-clause-read : goal.in_parentheses-returns-clause-read
in_parentheses-returns-clause-read t c most k has =
    let up : c.in_ok-inner.height + 1 ≡ suc c.in_ok-inner.height = omega arith in
    rw up
    (enclosed_begins most c.args.at k c.args.tokens.now c.in_default.ensures.found
    ∙ c.in_ok-inner.ensures.read most (λ e h. wants_sign symbol.RightParenthesis (raised k e h)) (λ e h some. room_inside most c.args.room k _ h has c.requires)
    ∙ c.in_ok-rest.ensures.read most (raised k c.in_ok-inner.inner c.in_ok-inner.height)
    (fits most k 1 c.args.room _ (suc c.in_ok-inner.height) has (omega arith) (omega (arith, c.in_ok-inner.ensures.high, c.requires))))

-- ---- converted

pub converted-returns-in_err-rest-clause-read : goal.converted-returns-in_err-rest-clause-read
converted-returns-in_err-rest-clause-read t c most k has =
    let p = err_from_is_err_and c.from_residual.result c.from_residual.ensures.1 in
    rw (p.1, p.2) (c.in_err-rest.ensures.read most (an_expr (converts_first c.args.base c.args.at k))
    (fits most k 1 c.args.room _ (suc 1) has (omega arith) (omega (arith, c.requires))))

pub converted-returns-in_err-first-clause-read : goal.converted-returns-in_err-first-clause-read
converted-returns-in_err-first-clause-read t c most k has =
    let p = err_from_is_err_and c.from_residual-in_err-first.result c.from_residual-in_err-first.ensures.1 in
    let one : 1 ≤ c.args.room = omega (arith, c.requires) in
    rw (p.1, p.2) (stop_leads c.in_err-first.field-0.0 _ _
    (c.in_ok-rest.ensures.read most (an_expr (converts_first c.args.base c.args.at k)) (fits most k 1 c.args.room _ (suc 1) has (omega arith) (omega (arith, c.requires))))
    (c.in_err-first.ensures.read most (converts_first c.args.base c.args.at k) (λ e h some. room_inside most c.args.room k _ h has one)))

pub converted-returns-in-Some-clause-read : goal.converted-returns-in-Some-clause-read
converted-returns-in-Some-clause-read t c most k has =
    let one : 1 ≤ c.args.room = omega (arith, c.requires) in
    let below : c.in_ok-first.low < c.args.room = omega (arith, c.in_ok-first.ensures.high, c.requires) in
    let up : c.in_ok-first.low + 1 ≡ suc c.in_ok-first.low = omega arith in
    rw (c.in_ok-first-2.ensures, up)
    (c.in_ok-rest.ensures.read most (an_expr (converts_first c.args.base c.args.at k)) (fits most k 1 c.args.room _ (suc 1) has (omega arith) (omega (arith, c.requires)))
    ∙ c.in_ok-first.ensures.read most (converts_first c.args.base c.args.at k) (λ e h some. room_inside most c.args.room k _ h has one)
    ∙ conversion_closes most c.args.room c.args.base c.args.at k c.in_ok-first.first c.in_ok-first.low c.in_ok-first.rest.now _ c.in-Some.rest.now c.in-Some.ensures.found has below)

pub converted-returns-in_err-rest-2-clause-read : goal.converted-returns-in_err-rest-2-clause-read
converted-returns-in_err-rest-2-clause-read t c most k has =
    let p = err_from_is_err_and c.from_residual-in_err-rest-2.result c.from_residual-in_err-rest-2.ensures.1 in
    let one : 1 ≤ c.args.room = omega (arith, c.requires) in
    let below : c.in_ok-first.low < c.args.room = omega (arith, c.in_ok-first.ensures.high, c.requires) in
    rw (p.1, p.2) (stop_leads c.in_err-rest-2.field-0.0 _ _
    (c.in_ok-rest.ensures.read most (an_expr (converts_first c.args.base c.args.at k)) (fits most k 1 c.args.room _ (suc 1) has (omega arith) (omega (arith, c.requires)))
    ∙ c.in_ok-first.ensures.read most (converts_first c.args.base c.args.at k) (λ e h some. room_inside most c.args.room k _ h has one)
    ∙ conversion_goes_on most c.args.base c.args.at k c.in_ok-first.first c.in_ok-first.low c.in_ok-first.rest.now c.in_default.ensures.found)
    (c.in_err-rest-2.ensures.read most (expr_before symbol.RightParenthesis (converts_second c.args.base c.args.at k c.in_ok-first.first c.in_ok-first.low))
    (fits most k 1 c.args.room _ (suc (max c.in_ok-first.low 1)) has (omega arith) (omega (arith, below, c.requires)))))

pub converted-returns-in_err-second-clause-read : goal.converted-returns-in_err-second-clause-read
converted-returns-in_err-second-clause-read t c most k has =
    let p = err_from_is_err_and c.from_residual-in_err-second.result c.from_residual-in_err-second.ensures.1 in
    let one : 1 ≤ c.args.room = omega (arith, c.requires) in
    let own : 1 ≤ suc c.in_ok-first.low = omega arith in
    let below : c.in_ok-first.low < c.args.room = omega (arith, c.in_ok-first.ensures.high, c.requires) in
    rw (p.1, p.2) (stop_leads c.in_err-second.field-0.0 _ _
    (c.in_ok-rest.ensures.read most (an_expr (converts_first c.args.base c.args.at k)) (fits most k 1 c.args.room _ (suc 1) has (omega arith) (omega (arith, c.requires)))
    ∙ c.in_ok-first.ensures.read most (converts_first c.args.base c.args.at k) (λ e h some. room_inside most c.args.room k _ h has one)
    ∙ conversion_goes_on most c.args.base c.args.at k c.in_ok-first.first c.in_ok-first.low c.in_ok-first.rest.now c.in_default.ensures.found
    ∙ c.in_ok-rest-2.ensures.read most (expr_before symbol.RightParenthesis (converts_second c.args.base c.args.at k c.in_ok-first.first c.in_ok-first.low))
    (fits most k 1 c.args.room _ (suc (max c.in_ok-first.low 1)) has (omega arith) (omega (arith, below, c.requires))))
    (c.in_err-second.ensures.read most (λ f g. wants_sign symbol.RightParenthesis (converts_second c.args.base c.args.at k c.in_ok-first.first c.in_ok-first.low f g))
    (λ f g some. room_beside most 1 c.args.room c.in_ok-first.low k _ g has own below)))

pub converted-returns-in_err-rest-3-clause-read : goal.converted-returns-in_err-rest-3-clause-read
converted-returns-in_err-rest-3-clause-read t c most k has =
    let p = err_from_is_err_and c.from_residual-in_err-rest-3.result c.from_residual-in_err-rest-3.ensures.1 in
    let one : 1 ≤ c.args.room = omega (arith, c.requires) in
    let own : 1 ≤ suc c.in_ok-first.low = omega arith in
    let below : c.in_ok-first.low < c.args.room = omega (arith, c.in_ok-first.ensures.high, c.requires) in
    let beside : c.in_ok-second.high < c.args.room = omega (arith, c.in_ok-second.ensures.high, c.requires) in
    rw (p.1, p.2) (stop_leads c.in_err-rest-3.field-0.0 _ _
    (c.in_ok-rest.ensures.read most (an_expr (converts_first c.args.base c.args.at k)) (fits most k 1 c.args.room _ (suc 1) has (omega arith) (omega (arith, c.requires)))
    ∙ c.in_ok-first.ensures.read most (converts_first c.args.base c.args.at k) (λ e h some. room_inside most c.args.room k _ h has one)
    ∙ conversion_goes_on most c.args.base c.args.at k c.in_ok-first.first c.in_ok-first.low c.in_ok-first.rest.now c.in_default.ensures.found
    ∙ c.in_ok-rest-2.ensures.read most (expr_before symbol.RightParenthesis (converts_second c.args.base c.args.at k c.in_ok-first.first c.in_ok-first.low))
    (fits most k 1 c.args.room _ (suc (max c.in_ok-first.low 1)) has (omega arith) (omega (arith, below, c.requires)))
    ∙ c.in_ok-second.ensures.read most (λ f g. wants_sign symbol.RightParenthesis (converts_second c.args.base c.args.at k c.in_ok-first.first c.in_ok-first.low f g))
    (λ f g some. room_beside most 1 c.args.room c.in_ok-first.low k _ g has own below))
    (c.in_err-rest-3.ensures.read most (converts_second c.args.base c.args.at k c.in_ok-first.first c.in_ok-first.low c.in_ok-second.second c.in_ok-second.high)
    (fits most k 1 c.args.room _ (suc (max c.in_ok-first.low c.in_ok-second.high)) has (omega arith) (omega (arith, below, beside)))))

pub converted-returns-clause-read : goal.converted-returns-clause-read
converted-returns-clause-read t c most k has =
    let one : 1 ≤ c.args.room = omega (arith, c.requires) in
    let own : 1 ≤ suc c.in_ok-first.low = omega arith in
    let below : c.in_ok-first.low < c.args.room = omega (arith, c.in_ok-first.ensures.high, c.requires) in
    let beside : c.in_ok-second.high < c.args.room = omega (arith, c.in_ok-second.ensures.high, c.requires) in
    let m : c.max.result ≡ max c.in_ok-first.low c.in_ok-second.high = search rules in
    let up : c.max.result + 1 ≡ suc (max c.in_ok-first.low c.in_ok-second.high) = omega (arith, m) in
    rw (c.in_ok-new.ensures, c.in_ok-new-2.ensures, up)
    (c.in_ok-rest.ensures.read most (an_expr (converts_first c.args.base c.args.at k)) (fits most k 1 c.args.room _ (suc 1) has (omega arith) (omega (arith, c.requires)))
    ∙ c.in_ok-first.ensures.read most (converts_first c.args.base c.args.at k) (λ e h some. room_inside most c.args.room k _ h has one)
    ∙ conversion_goes_on most c.args.base c.args.at k c.in_ok-first.first c.in_ok-first.low c.in_ok-first.rest.now c.in_default.ensures.found
    ∙ c.in_ok-rest-2.ensures.read most (expr_before symbol.RightParenthesis (converts_second c.args.base c.args.at k c.in_ok-first.first c.in_ok-first.low))
    (fits most k 1 c.args.room _ (suc (max c.in_ok-first.low 1)) has (omega arith) (omega (arith, below, c.requires)))
    ∙ c.in_ok-second.ensures.read most (λ f g. wants_sign symbol.RightParenthesis (converts_second c.args.base c.args.at k c.in_ok-first.first c.in_ok-first.low f g))
    (λ f g some. room_beside most 1 c.args.room c.in_ok-first.low k _ g has own below)
    ∙ c.in_ok-rest-3.ensures.read most (converts_second c.args.base c.args.at k c.in_ok-first.first c.in_ok-first.low c.in_ok-second.second c.in_ok-second.high)
    (fits most k 1 c.args.room _ (suc (max c.in_ok-first.low c.in_ok-second.high)) has (omega arith) (omega (arith, below, beside))))

-- ---- list

pub list-returns-in_err-first-clause-read : goal.list-returns-in_err-first-clause-read
list-returns-in_err-first-clause-read t c most k has =
    let p = err_from_is_err_and c.from_residual.result c.from_residual.ensures.1 in
    rw (p.1, p.2) (c.in_err-first.ensures.read most (λ e h. reads (more_exprs c.args.enclosure (e ∷ []) h) k) (λ e h some. has (e ∷ []) h some))

pub list-loop-after-init : goal.list-loop-after-init
list-loop-after-init t c = record {
  read = λ most k has. rw (c.in_ok-push.ensures.ok, c.new-items.ensures)
      (c.in_ok-first.ensures.read most (λ e h. reads (more_exprs c.args.enclosure (e ∷ []) h) k) (λ e h some. has (e ∷ []) h some));
  low = c.in_ok-first.ensures.low;
  high = c.in_ok-first.ensures.high;
  rest = c.in_ok-first.ensures.rest;
}

pub list-returns-in-Some-clause-read : goal.list-returns-in-Some-clause-read
list-returns-in-Some-clause-read t c most k has =
    c.loop-after.invariant.read most k has
    ∙ exprs_end most c.args.room c.args.enclosure c.loop-after.items c.loop-after.high k c.loop-after.rest.now _ _ (rw c.closing.ensures at c.in-Some.ensures.found) has c.loop-after.invariant.low c.loop-after.invariant.high

pub list-returns-in_err-after-clause-read : goal.list-returns-in_err-after-clause-read
list-returns-in_err-after-clause-read t c most k has =
    let p = err_from_is_err_and c.from_residual-in_err-after.result c.from_residual-in_err-after.ensures.1 in
    rw (p.1, p.2) (stop_leads c.in_err-after.field-0.0 _ _
    (c.loop-after.invariant.read most k has
    ∙ exprs_go_on most c.args.enclosure c.loop-after.items c.loop-after.high k c.loop-after.rest.now (rw c.closing.ensures at c.in_default.ensures.found))
    (c.in_err-after.ensures.read most (an_expr (one_more c.args.enclosure c.loop-after.items c.loop-after.high k))
    (fits most k 1 c.args.room _ (max c.loop-after.high 1) has (omega arith) (omega (arith, c.loop-after.invariant.low, c.loop-after.invariant.high)))))

pub list-returns-in_err-item-clause-read : goal.list-returns-in_err-item-clause-read
list-returns-in_err-item-clause-read t c most k has =
    let p = err_from_is_err_and c.from_residual-in_err-item.result c.from_residual-in_err-item.ensures.1 in
    rw (p.1, p.2) (stop_leads c.in_err-item.field-0.0 _ _
    (c.loop-after.invariant.read most k has
    ∙ exprs_go_on most c.args.enclosure c.loop-after.items c.loop-after.high k c.loop-after.rest.now (rw c.closing.ensures at c.in_default.ensures.found)
    ∙ c.in_ok-after.ensures.read most (an_expr (one_more c.args.enclosure c.loop-after.items c.loop-after.high k))
    (fits most k 1 c.args.room _ (max c.loop-after.high 1) has (omega arith) (omega (arith, c.loop-after.invariant.low, c.loop-after.invariant.high))))
    (c.in_err-item.ensures.read most (one_more c.args.enclosure c.loop-after.items c.loop-after.high k)
    (λ e h some. room_among most c.args.room c.loop-after.high k _ h has some c.loop-after.invariant.high)))

pub list-loop-after-preserved : goal.list-loop-after-preserved
list-loop-after-preserved t c =
    let m : c.max-high.result ≡ max c.loop-after.high c.in_ok-item.height = search rules in
    record {
      read = λ most k has. rw (c.in_ok-push-2.ensures.ok, m)
          (c.loop-after.invariant.read most k has
          ∙ exprs_go_on most c.args.enclosure c.loop-after.items c.loop-after.high k c.loop-after.rest.now (rw c.closing.ensures at c.in_default.ensures.found)
          ∙ c.in_ok-after.ensures.read most (an_expr (one_more c.args.enclosure c.loop-after.items c.loop-after.high k))
          (fits most k 1 c.args.room _ (max c.loop-after.high 1) has (omega arith) (omega (arith, c.loop-after.invariant.low, c.loop-after.invariant.high)))
          ∙ c.in_ok-item.ensures.read most (one_more c.args.enclosure c.loop-after.items c.loop-after.high k)
          (λ e h some. room_among most c.args.room c.loop-after.high k _ h has some c.loop-after.invariant.high));
      low = omega (arith, m, c.loop-after.invariant.low);
      high = omega (arith, m, c.in_ok-item.ensures.high, c.loop-after.invariant.high);
      rest = omega (arith, c.in_ok-item.ensures.rest, c.in_ok-after.ensures.rest, c.loop-after.invariant.rest);
    }

-- ---- arguments

pub arguments-returns-in-Some-clause-read : goal.arguments-returns-in-Some-clause-read
arguments-returns-in-Some-clause-read t c most k has = rw c.new.ensures (no_args most c.args.room k c.args.tokens.now _ c.in-Some.rest.now c.in-Some.ensures.found has)

pub arguments-returns-clause-read : goal.arguments-returns-clause-read
arguments-returns-clause-read t c most k has =
    leads_on (λ x. run most (k x.0 x.1) x.2.now) c.list.result _ _ (args_begin most k c.args.tokens.now c.in_default.ensures.found)
    (c.list.ensures.read most k (λ a h some. has a h (omega arith)))

-- ---- bracket

pub bracket-returns-in_err-index-clause-read : goal.bracket-returns-in_err-index-clause-read
bracket-returns-in_err-index-clause-read t c most k has =
    let p = err_from_is_err_and c.from_residual.result c.from_residual.ensures.1 in
    rw (p.1, p.2) (c.in_err-index.ensures.read most (index_end k) (λ i h some. has _ h some))

pub bracket-returns-in-Some-clause-read : goal.bracket-returns-in-Some-clause-read
bracket-returns-in-Some-clause-read t c most k has =
    c.in_ok-index.ensures.read most (index_end k) (λ i h some. has _ h some)
    ∙ index_closes most c.args.room k c.in_ok-index.index c.in_ok-index.height c.in_ok-index.rest.now _ c.in-Some.rest.now c.in-Some.ensures.found has c.in_ok-index.ensures.low c.in_ok-index.ensures.high

pub bracket-returns-in_err-rest-clause-read : goal.bracket-returns-in_err-rest-clause-read
bracket-returns-in_err-rest-clause-read t c most k has =
    let p = err_from_is_err_and c.from_residual-in_err-rest.result c.from_residual-in_err-rest.ensures.1 in
    rw (p.1, p.2) (stop_leads c.in_err-rest.field-0.0 _ _
    (c.in_ok-index.ensures.read most (index_end k) (λ i h some. has _ h some)
    ∙ index_goes_on most k c.in_ok-index.index c.in_ok-index.height c.in_ok-index.rest.now c.in_default.ensures.found)
    (c.in_err-rest.ensures.read most (wants a_number (λ n. slice_end k c.in_ok-index.index c.in_ok-index.height n.0))
    (fits most k 1 c.args.room _ c.in_ok-index.height has c.in_ok-index.ensures.low c.in_ok-index.ensures.high)))

pub bracket-returns-in_err-length-clause-read : goal.bracket-returns-in_err-length-clause-read
bracket-returns-in_err-length-clause-read t c most k has =
    let p = err_from_is_err_and c.from_residual-in_err-length.result c.from_residual-in_err-length.ensures.1 in
    rw (p.1, p.2) (stop_leads c.in_err-length.field-0.0 _ _
    (c.in_ok-index.ensures.read most (index_end k) (λ i h some. has _ h some)
    ∙ index_goes_on most k c.in_ok-index.index c.in_ok-index.height c.in_ok-index.rest.now c.in_default.ensures.found
    ∙ c.in_ok-rest.ensures.read most (wants a_number (λ n. slice_end k c.in_ok-index.index c.in_ok-index.height n.0))
    (fits most k 1 c.args.room _ c.in_ok-index.height has c.in_ok-index.ensures.low c.in_ok-index.ensures.high))
    (c.in_err-length.ensures.read most (slice_end k c.in_ok-index.index c.in_ok-index.height)
    (λ n. fits most k 1 c.args.room _ c.in_ok-index.height has c.in_ok-index.ensures.low c.in_ok-index.ensures.high)))

pub bracket-returns-in_err-rest-2-clause-read : goal.bracket-returns-in_err-rest-2-clause-read
bracket-returns-in_err-rest-2-clause-read t c most k has =
    let p = err_from_is_err_and c.from_residual-in_err-rest-2.result c.from_residual-in_err-rest-2.ensures.1 in
    rw (p.1, p.2) (stop_leads c.in_err-rest-2.field-0.0 _ _
    (c.in_ok-index.ensures.read most (index_end k) (λ i h some. has _ h some)
    ∙ index_goes_on most k c.in_ok-index.index c.in_ok-index.height c.in_ok-index.rest.now c.in_default.ensures.found
    ∙ c.in_ok-rest.ensures.read most (wants a_number (λ n. slice_end k c.in_ok-index.index c.in_ok-index.height n.0))
    (fits most k 1 c.args.room _ c.in_ok-index.height has c.in_ok-index.ensures.low c.in_ok-index.ensures.high)
    ∙ c.in_ok-length.ensures.read most (slice_end k c.in_ok-index.index c.in_ok-index.height)
    (λ n. fits most k 1 c.args.room _ c.in_ok-index.height has c.in_ok-index.ensures.low c.in_ok-index.ensures.high))
    (c.in_err-rest-2.ensures.read most (k (c.in_ok-index.index, Some c.in_ok-length.length) c.in_ok-index.height)
    (fits most k 1 c.args.room _ c.in_ok-index.height has c.in_ok-index.ensures.low c.in_ok-index.ensures.high)))

pub bracket-returns-clause-read : goal.bracket-returns-clause-read
bracket-returns-clause-read t c most k has =
    c.in_ok-index.ensures.read most (index_end k) (λ i h some. has _ h some)
    ∙ index_goes_on most k c.in_ok-index.index c.in_ok-index.height c.in_ok-index.rest.now c.in_default.ensures.found
    ∙ c.in_ok-rest.ensures.read most (wants a_number (λ n. slice_end k c.in_ok-index.index c.in_ok-index.height n.0))
    (fits most k 1 c.args.room _ c.in_ok-index.height has c.in_ok-index.ensures.low c.in_ok-index.ensures.high)
    ∙ c.in_ok-length.ensures.read most (slice_end k c.in_ok-index.index c.in_ok-index.height)
    (λ n. fits most k 1 c.args.room _ c.in_ok-index.height has c.in_ok-index.ensures.low c.in_ok-index.ensures.high)
    ∙ c.in_ok-rest-2.ensures.read most (k (c.in_ok-index.index, Some c.in_ok-length.length) c.in_ok-index.height)
    (fits most k 1 c.args.room _ c.in_ok-index.height has c.in_ok-index.ensures.low c.in_ok-index.ensures.high)

-- ---- posts

pub posts-returns-then-low-room-clause-read : goal.posts-returns-then-low-room-clause-read
posts-returns-then-low-room-clause-read t c most k has =
    bracket_deep most c.args.room c.args.base c.args.low k c.args.tokens.now c.in-Some.at c.in-Some.after.now c.in-Some.ensures.found has c.if-low-room.true

pub posts-returns-in_err-index-clause-read : goal.posts-returns-in_err-index-clause-read
posts-returns-in_err-index-clause-read t c most k has =
    let p = err_from_is_err_and c.from_residual.result c.from_residual.ensures.1 in
    let own : c.args.low ≤ suc c.args.low = omega arith in
    rw (p.1, p.2) (stop_leads c.in_err-index.field-0.0 _ _
    (bracket_fits most c.args.room c.args.base c.args.low k c.args.tokens.now c.in-Some.at c.in-Some.after.now c.in-Some.ensures.found has c.requires.some c.if-low-room.false)
    (c.in_err-index.ensures.read most (post_of c.args.base c.args.low c.in-Some.at k)
    (λ i h some. room_beside most c.args.low c.args.room c.args.low k _ h has own c.if-low-room.false)))

pub posts-returns-in-Some-clause-read : goal.posts-returns-in-Some-clause-read
posts-returns-in-Some-clause-read t c most k has =
    let own : c.args.low ≤ suc c.args.low = omega arith in
    let m : c.max.result ≡ max c.args.low c.in_ok-index.high = search rules in
    let up : suc (max c.args.low c.in_ok-index.high) ≡ c.max.result + 1 = omega (arith, m) in
    let is : indexed_by c.args.base c.in_ok-index.index c.in_ok-index.length c.in-Some.at ≡ c.indexed-base.result =
    rw (c.indexed-base.ensures, c.in_ok-new.ensures, c.in_ok-new-2.ensures) refl in
    leads_on (λ x. run most (k x.0 x.1) x.2.now) c.posts.result _ _
    (bracket_fits most c.args.room c.args.base c.args.low k c.args.tokens.now c.in-Some.at c.in-Some.after.now c.in-Some.ensures.found has c.requires.some c.if-low-room.false
    ∙ c.in_ok-index.ensures.read most (post_of c.args.base c.args.low c.in-Some.at k)
    (λ i h some. room_beside most c.args.low c.args.room c.args.low k _ h has own c.if-low-room.false)
    ∙ same_post most k c.in_ok-index.rest.now _ c.indexed-base.result _ (c.max.result + 1) is up)
    (c.posts.ensures.read most k (λ a h above. has a h (omega (arith, m, above))))

pub posts-returns-then-low-room-2-clause-read : goal.posts-returns-then-low-room-2-clause-read
posts-returns-then-low-room-2-clause-read t c most k has =
    dot_deep most c.args.room c.args.base c.args.low k c.args.tokens.now c.in-Some-symbol.at c.in-Some-symbol.after.now c.in-Some-symbol.ensures.found has c.if-low-room-2.true

pub posts-returns-in_err-field-clause-read : goal.posts-returns-in_err-field-clause-read
posts-returns-in_err-field-clause-read t c most k has =
    let p = err_from_is_err_and c.from_residual-in_err-field.result c.from_residual-in_err-field.ensures.1 in
    rw (p.1, p.2) (stop_leads c.in_err-field.field-0.0 _ _
    (dot_fits most c.args.room c.args.base c.args.low k c.args.tokens.now c.in-Some-symbol.at c.in-Some-symbol.after.now c.in-Some-symbol.ensures.found has c.if-low-room-2.false)
    (c.in_err-field.ensures.read most (part_of c.args.base c.args.low c.in-Some-symbol.at k)
    (λ x. fits most k c.args.low c.args.room _ (suc c.args.low) has (omega arith) (omega (arith, c.if-low-room-2.false)))))

pub posts-returns-in-Some-symbol-clause-read : goal.posts-returns-in-Some-symbol-clause-read
posts-returns-in-Some-symbol-clause-read t c most k has =
    let up : suc c.args.low ≡ c.args.low + 1 = omega arith in
    let is : expr.Part c.args.base c.in_ok-field.field.name 0 c.in-Some-symbol.at ≡ expr.Part c.in_ok-new-3.field-0 c.in_ok-field.field.name 0 c.in-Some-symbol.at =
    rw c.in_ok-new-3.ensures refl in
    leads_on (λ x. run most (k x.0 x.1) x.2.now) c.posts-in-Some-symbol.result _ _
    (dot_fits most c.args.room c.args.base c.args.low k c.args.tokens.now c.in-Some-symbol.at c.in-Some-symbol.after.now c.in-Some-symbol.ensures.found has c.if-low-room-2.false
    ∙ c.in_ok-field.ensures.read most (part_of c.args.base c.args.low c.in-Some-symbol.at k)
    (λ x. fits most k c.args.low c.args.room _ (suc c.args.low) has (omega arith) (omega (arith, c.if-low-room-2.false)))
    ∙ same_post most k c.in_ok-field.rest.now _ _ _ (c.args.low + 1) is up)
    (c.posts-in-Some-symbol.ensures.read most k (λ a h above. has a h (omega (arith, above))))

pub posts-returns-clause-read : goal.posts-returns-clause-read
posts-returns-clause-read t c most k has =
    no_post most c.args.base c.args.low k c.args.tokens.now c.in_default.ensures.found c.in_default-symbol.ensures.found
