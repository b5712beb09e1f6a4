use Rattle.std.proofs.Common.{rules, ◌≡◌, ◌≤◌, ◌<◌, ◌+◌, ◌-◌, ℕ, suc, max, [], ◌∷◌, ◌++◌, refl, sym, ap, ◌∙◌, arith}
use Rattle.std.proofs.lemmas.Result.{err_from_is_err_and}
use Rattle.zir_tree.specs.declared.comp.Comp.{Comp}
use Rattle.zir_tree.specs.declared.comp.Comp as comp
use Rattle.zir_tree.specs.declared.comp.Member as member
use Rattle.zir_lex.specs.declared.token.Keyword.TheVariants as keyword
use Rattle.zir_lex.specs.declared.token.Symbol.TheVariants as symbol
use Rattle.zir_grammar.specs.Grammar.{ident}
use Rattle.zir_grammar.specs.Wants.{a_name}
use Rattle.zir_grammar.specs.Parts.{gives, reads, wants_sign, wants_word, some_args, a_chain, links_of, more_members, follow}
use Rattle.zir_grammar.specs.Machine.{run}
use Rattle.zir_grammar.proofs.Descent.{stop_leads, leads_on, fits}
use Rattle.zir_parse.specs.Heads.{least_height, behind_head, a_form_behind}
use Rattle.zir_parse.specs.Loops.{looped}
use Rattle.zir_parse.specs.Members.{behind_member, a_member_end, a_bound_behind}
use Rattle.zir_parse.proofs.Steps.{begins, begins_deep, inside}
use Rattle.zir_parse.proofs.HeadSteps.{head_taken, head_deep, no_head}
use Rattle.zir_parse.proofs.ChainSteps.{rank_begins, rank_ends, right_side, link_fits, link_deep, right_room}
use Rattle.zir_parse.proofs.LoopSteps.{body_room}
use Rattle.zir_parse.proofs.MemberSteps.{variable_begins, bound_begins, bound_deep, run_begins, run_room, bound_room, more_fit}
use Rattle.zir_parse.proofs.ChoiceSteps.{chosen, other, branches, condition_room, branches_fit, first_room, other_fits, other_room, enclosed_room}
use Rattle.zir_parse.proofs.components.+comp.Goals as goal

-- what has room below another is lower
below : {a room : ℕ} → a ≤ room - 1 → 2 ≤ room → a < room
below x y = omega (arith, x, y)

pub atom-returns-then-room-eq0-clause-read : goal.atom-returns-then-room-eq0-clause-read
atom-returns-then-room-eq0-clause-read t c most k has =
    begins_deep most 1 c.args.room (a_chain 0) k a_name c.args.tokens.now (c.in-Some.found.now, c.in-Some.at) c.in-Some.rest.now (wants_sign symbol.LeftParenthesis (reads some_args (λ es h. gives (comp.Call (ident c.in-Some.found.now c.in-Some.at) 0 es) (suc h)))) c.in-Some.ensures.found refl has (omega arith) (omega (arith, c.if-room-eq0.true))

pub atom-returns-in-Some-clause-read : goal.atom-returns-in-Some-clause-read
atom-returns-in-Some-clause-read t c most k has =
    leads_on (λ x. run most (k x.0 x.1) x.2.now) c.called.result _ _
    (begins most 1 c.args.room (a_chain 0) k a_name c.args.tokens.now (c.in-Some.found.now, c.in-Some.at) c.in-Some.rest.now (wants_sign symbol.LeftParenthesis (reads some_args (λ es h. gives (comp.Call (ident c.in-Some.found.now c.in-Some.at) 0 es) (suc h)))) c.in-Some.ensures.found refl has (omega arith) (omega (arith, c.if-room-eq0.false)))
    (c.called.ensures.read most k has)

pub atom-returns-in_default-begins_component-clause-read : goal.atom-returns-in_default-begins_component-clause-read
atom-returns-in_default-begins_component-clause-read t c most k has =
    no_head most k c.args.tokens.now c.in_default.ensures.found c.in_default-begins_component.ensures.found

pub atom-returns-then-room-least_height-clause-read : goal.atom-returns-then-room-least_height-clause-read
atom-returns-then-room-least_height-clause-read t c most k has =
    head_deep most c.args.room k c.args.tokens.now c.in-Some-begins_component.head c.in-Some-begins_component.at c.in-Some-begins_component.rest.now c.in_default.ensures.found c.in-Some-begins_component.ensures.found has (omega (arith, c.if-room-least_height.true, c.least_height.ensures))

pub atom-returns-in-Single-clause-read : goal.atom-returns-in-Single-clause-read
atom-returns-in-Single-clause-read t c most k has =
    let one : least_height c.in-Some-begins_component.head ≡ 1 = ap least_height c.in-Single.is in
    leads_on (λ x. run most (k x.0 x.1) x.2.now) c.single.result _ _
    (head_taken most c.args.room k c.args.tokens.now c.in-Some-begins_component.head c.in-Some-begins_component.at c.in-Some-begins_component.rest.now c.in_default.ensures.found c.in-Some-begins_component.ensures.found has (omega (arith, c.if-room-least_height.false, c.least_height.ensures))
    ∙ ap (λ h. run most (follow (behind_head h c.in-Some-begins_component.at) k) c.in-Some-begins_component.rest.now) c.in-Single.is)
    (c.single.ensures.read c.args.room (omega (arith, c.if-room-least_height.false, c.least_height.ensures, one)) most k has)

pub atom-returns-in-Form-clause-read : goal.atom-returns-in-Form-clause-read
atom-returns-in-Form-clause-read t c most k has =
    leads_on (λ x. run most (k x.0 x.1) x.2.now) c.compound.result _ _
    (head_taken most c.args.room k c.args.tokens.now c.in-Some-begins_component.head c.in-Some-begins_component.at c.in-Some-begins_component.rest.now c.in_default.ensures.found c.in-Some-begins_component.ensures.found has (omega (arith, c.if-room-least_height.false, c.least_height.ensures))
    ∙ ap (λ h. run most (follow (behind_head h c.in-Some-begins_component.at) k) c.in-Some-begins_component.rest.now) c.in-Form.is)
    (c.compound.ensures.read most k has)

pub choice-returns-in_err-value-clause-read : goal.choice-returns-in_err-value-clause-read
choice-returns-in_err-value-clause-read t c most k has =
    let p = err_from_is_err_and c.from_residual.result c.from_residual.ensures.1 in
    rw (p.1, p.2) (c.in_err-value.ensures.read most (λ e h. wants_word keyword.Then (branches c.args.at k e h)) (condition_room most c.args.room c.args.at k has c.requires))

pub choice-returns-in_err-rest-clause-read : goal.choice-returns-in_err-rest-clause-read
choice-returns-in_err-rest-clause-read t c most k has =
    let p = err_from_is_err_and c.from_residual-in_err-rest.result c.from_residual-in_err-rest.ensures.1 in
    rw (p.1, p.2) (stop_leads c.in_err-rest.field-0.0 _ _
    (c.in_ok-value.ensures.read most (λ e h. wants_word keyword.Then (branches c.args.at k e h)) (condition_room most c.args.room c.args.at k has c.requires))
    (c.in_err-rest.ensures.read most (branches c.args.at k c.in_ok-value.value c.in_ok-value.low) (branches_fit most c.args.room c.args.at k c.in_ok-value.value c.in_ok-value.low has c.requires (below (c.in_ok-value.ensures.high) c.requires))))

pub choice-returns-in_err-first-clause-read : goal.choice-returns-in_err-first-clause-read
choice-returns-in_err-first-clause-read t c most k has =
    let p = err_from_is_err_and c.from_residual-in_err-first.result c.from_residual-in_err-first.ensures.1 in
    rw (p.1, p.2) (stop_leads c.in_err-first.field-0.0 _ _
    (c.in_ok-value.ensures.read most (λ e h. wants_word keyword.Then (branches c.args.at k e h)) (condition_room most c.args.room c.args.at k has c.requires)
    ∙ c.in_ok-rest.ensures.read most (branches c.args.at k c.in_ok-value.value c.in_ok-value.low) (branches_fit most c.args.room c.args.at k c.in_ok-value.value c.in_ok-value.low has c.requires (below (c.in_ok-value.ensures.high) c.requires)))
    (c.in_err-first.ensures.read most (λ d g. wants_word keyword.Else (other c.args.at k c.in_ok-value.value c.in_ok-value.low d g)) (first_room most c.args.room c.args.at k c.in_ok-value.value c.in_ok-value.low has c.requires (below (c.in_ok-value.ensures.high) c.requires))))

pub choice-returns-in_err-rest-2-clause-read : goal.choice-returns-in_err-rest-2-clause-read
choice-returns-in_err-rest-2-clause-read t c most k has =
    let p = err_from_is_err_and c.from_residual-in_err-rest-2.result c.from_residual-in_err-rest-2.ensures.1 in
    rw (p.1, p.2) (stop_leads c.in_err-rest-2.field-0.0 _ _
    (c.in_ok-value.ensures.read most (λ e h. wants_word keyword.Then (branches c.args.at k e h)) (condition_room most c.args.room c.args.at k has c.requires)
    ∙ c.in_ok-rest.ensures.read most (branches c.args.at k c.in_ok-value.value c.in_ok-value.low) (branches_fit most c.args.room c.args.at k c.in_ok-value.value c.in_ok-value.low has c.requires (below (c.in_ok-value.ensures.high) c.requires))
    ∙ c.in_ok-first.ensures.read most (λ d g. wants_word keyword.Else (other c.args.at k c.in_ok-value.value c.in_ok-value.low d g)) (first_room most c.args.room c.args.at k c.in_ok-value.value c.in_ok-value.low has c.requires (below (c.in_ok-value.ensures.high) c.requires)))
    (c.in_err-rest-2.ensures.read most (other c.args.at k c.in_ok-value.value c.in_ok-value.low c.in_ok-first.first c.in_ok-first.mid) (other_fits most c.args.room c.args.at k c.in_ok-value.value c.in_ok-value.low c.in_ok-first.first c.in_ok-first.mid has c.requires (below (c.in_ok-value.ensures.high) c.requires) (below (c.in_ok-first.ensures.high) c.requires))))

pub choice-returns-in_err-second-clause-read : goal.choice-returns-in_err-second-clause-read
choice-returns-in_err-second-clause-read t c most k has =
    let p = err_from_is_err_and c.from_residual-in_err-second.result c.from_residual-in_err-second.ensures.1 in
    rw (p.1, p.2) (stop_leads c.in_err-second.field-0.0 _ _
    (c.in_ok-value.ensures.read most (λ e h. wants_word keyword.Then (branches c.args.at k e h)) (condition_room most c.args.room c.args.at k has c.requires)
    ∙ c.in_ok-rest.ensures.read most (branches c.args.at k c.in_ok-value.value c.in_ok-value.low) (branches_fit most c.args.room c.args.at k c.in_ok-value.value c.in_ok-value.low has c.requires (below (c.in_ok-value.ensures.high) c.requires))
    ∙ c.in_ok-first.ensures.read most (λ d g. wants_word keyword.Else (other c.args.at k c.in_ok-value.value c.in_ok-value.low d g)) (first_room most c.args.room c.args.at k c.in_ok-value.value c.in_ok-value.low has c.requires (below (c.in_ok-value.ensures.high) c.requires))
    ∙ c.in_ok-rest-2.ensures.read most (other c.args.at k c.in_ok-value.value c.in_ok-value.low c.in_ok-first.first c.in_ok-first.mid) (other_fits most c.args.room c.args.at k c.in_ok-value.value c.in_ok-value.low c.in_ok-first.first c.in_ok-first.mid has c.requires (below (c.in_ok-value.ensures.high) c.requires) (below (c.in_ok-first.ensures.high) c.requires)))
    (c.in_err-second.ensures.read most (chosen c.args.at k c.in_ok-value.value c.in_ok-value.low c.in_ok-first.first c.in_ok-first.mid) (other_room most c.args.room c.args.at k c.in_ok-value.value c.in_ok-value.low c.in_ok-first.first c.in_ok-first.mid has (below (c.in_ok-value.ensures.high) c.requires) (below (c.in_ok-first.ensures.high) c.requires))))

pub choice-returns-clause-read : goal.choice-returns-clause-read
choice-returns-clause-read t c most k has =
    let m : c.max.result ≡ max c.in_ok-value.low c.in_ok-first.mid = search rules in
    let n : c.max-height.result ≡ max c.max.result c.in_ok-second.high = search rules in
    let up : c.max-height.result + 1 ≡ suc (max (max c.in_ok-value.low c.in_ok-first.mid) c.in_ok-second.high) = omega (arith, m, n) in
    rw (c.in_ok-then.ensures, c.in_ok-other.ensures, up)
    (c.in_ok-value.ensures.read most (λ e h. wants_word keyword.Then (branches c.args.at k e h)) (condition_room most c.args.room c.args.at k has c.requires)
    ∙ c.in_ok-rest.ensures.read most (branches c.args.at k c.in_ok-value.value c.in_ok-value.low) (branches_fit most c.args.room c.args.at k c.in_ok-value.value c.in_ok-value.low has c.requires (below (c.in_ok-value.ensures.high) c.requires))
    ∙ c.in_ok-first.ensures.read most (λ d g. wants_word keyword.Else (other c.args.at k c.in_ok-value.value c.in_ok-value.low d g)) (first_room most c.args.room c.args.at k c.in_ok-value.value c.in_ok-value.low has c.requires (below (c.in_ok-value.ensures.high) c.requires))
    ∙ c.in_ok-rest-2.ensures.read most (other c.args.at k c.in_ok-value.value c.in_ok-value.low c.in_ok-first.first c.in_ok-first.mid) (other_fits most c.args.room c.args.at k c.in_ok-value.value c.in_ok-value.low c.in_ok-first.first c.in_ok-first.mid has c.requires (below (c.in_ok-value.ensures.high) c.requires) (below (c.in_ok-first.ensures.high) c.requires))
    ∙ c.in_ok-second.ensures.read most (chosen c.args.at k c.in_ok-value.value c.in_ok-value.low c.in_ok-first.first c.in_ok-first.mid) (other_room most c.args.room c.args.at k c.in_ok-value.value c.in_ok-value.low c.in_ok-first.first c.in_ok-first.mid has (below (c.in_ok-value.ensures.high) c.requires) (below (c.in_ok-first.ensures.high) c.requires)))

pub chain-returns-then-ranks-eq0-clause-read : goal.chain-returns-then-ranks-eq0-clause-read
chain-returns-then-ranks-eq0-clause-read t c most k has =
    leads_on (λ x. run most (k x.0 x.1) x.2.now) c.atom.result _ _ (ap (λ r. run most (reads (a_chain r) k) c.args.tokens.now) c.if-ranks-eq0.true) (c.atom.ensures.read most k has)

pub chain-returns-in_err-first-clause-read : goal.chain-returns-in_err-first-clause-read
chain-returns-in_err-first-clause-read t c most k has =
    let p = err_from_is_err_and c.from_residual.result c.from_residual.ensures.1 in
    let is : c.args.ranks ≡ suc (c.args.ranks - 1) = omega (arith, c.if-ranks-eq0.false) in
    rw (p.1, p.2) (stop_leads c.in_err-first.field-0.0 _ _ (ap (λ r. run most (reads (a_chain r) k) c.args.tokens.now) is ∙ rank_begins most (c.args.ranks - 1) k c.args.tokens.now)
    (c.in_err-first.ensures.read most (λ d h. reads (links_of (c.args.ranks - 1) d h) k) has))

pub chain-loop-link-init : goal.chain-loop-link-init
chain-loop-link-init t c =
    let is : c.args.ranks ≡ suc (c.args.ranks - 1) = omega (arith, c.if-ranks-eq0.false) in
    record {
      read = λ most k has. ap (λ r. run most (reads (a_chain r) k) c.args.tokens.now) is ∙ rank_begins most (c.args.ranks - 1) k c.args.tokens.now ∙ c.in_ok-first.ensures.read most (λ d h. reads (links_of (c.args.ranks - 1) d h) k) has;
      low = c.in_ok-first.ensures.low;
      high = c.in_ok-first.ensures.high;
      rest = c.in_ok-first.ensures.rest;
    }

pub chain-returns-then-height-room-clause-read : goal.chain-returns-then-height-room-clause-read
chain-returns-then-height-room-clause-read t c most k has =
    c.loop-link.invariant.read most k has ∙ link_deep most (c.args.ranks - 1) c.args.room k c.loop-link.left c.loop-link.height c.loop-link.rest.now c.in-Some.link c.in-Some.at c.in-Some.after.now c.in-Some.ensures.found has c.if-height-room.true

pub chain-returns-in_err-right-clause-read : goal.chain-returns-in_err-right-clause-read
chain-returns-in_err-right-clause-read t c most k has =
    let p = err_from_is_err_and c.from_residual-in_err-right.result c.from_residual-in_err-right.ensures.1 in
    rw (p.1, p.2) (stop_leads c.in_err-right.field-0.0 _ _
    (c.loop-link.invariant.read most k has
    ∙ link_fits most (c.args.ranks - 1) c.args.room k c.loop-link.left c.loop-link.height c.loop-link.rest.now c.in-Some.link c.in-Some.at c.in-Some.after.now c.in-Some.ensures.found has c.loop-link.invariant.low c.if-height-room.false)
    (c.in_err-right.ensures.read most (right_side (c.args.ranks - 1) c.in-Some.link c.in-Some.at c.loop-link.left c.loop-link.height k) (right_room most (c.args.ranks - 1) c.args.room k c.loop-link.left c.loop-link.height c.in-Some.link c.in-Some.at has c.if-height-room.false)))

pub chain-loop-link-preserved : goal.chain-loop-link-preserved
chain-loop-link-preserved t c =
    let m : c.max-height.result ≡ max c.loop-link.height c.in_ok-right.high = search rules in
    let up : c.max-height.result + 1 ≡ suc (max c.loop-link.height c.in_ok-right.high) = omega (arith, m) in
    record {
      read = λ most k has. rw (c.in_ok-before.ensures, c.in_ok-behind.ensures, up)
          (c.loop-link.invariant.read most k has
          ∙ link_fits most (c.args.ranks - 1) c.args.room k c.loop-link.left c.loop-link.height c.loop-link.rest.now c.in-Some.link c.in-Some.at c.in-Some.after.now c.in-Some.ensures.found has c.loop-link.invariant.low c.if-height-room.false
          ∙ c.in_ok-right.ensures.read most (right_side (c.args.ranks - 1) c.in-Some.link c.in-Some.at c.loop-link.left c.loop-link.height k) (right_room most (c.args.ranks - 1) c.args.room k c.loop-link.left c.loop-link.height c.in-Some.link c.in-Some.at has c.if-height-room.false));
      low = omega arith;
      high = omega (arith, up, c.in_ok-right.ensures.high, c.if-height-room.false);
      rest = omega (arith, c.in_ok-right.ensures.rest, c.in-Some.ensures.rest, c.loop-link.invariant.rest);
    }

pub chain-returns-clause-read : goal.chain-returns-clause-read
chain-returns-clause-read t c most k has =
    c.loop-link.invariant.read most k has ∙ rank_ends most (c.args.ranks - 1) k c.loop-link.left c.loop-link.height c.loop-link.rest.now c.in_default.ensures.found

pub inside_block-returns-in_err-member-clause-read : goal.inside_block-returns-in_err-member-clause-read
inside_block-returns-in_err-member-clause-read t c most k has =
    let p = err_from_is_err_and c.from_residual.result c.from_residual.ensures.1 in
    rw (p.1, p.2) (stop_leads c.in_err-member.field-0.0 _ _ (c.loop-members.invariant.read most k has) (c.in_err-member.ensures.read most c.loop-members.members c.loop-members.high k c.loop-members.invariant.high has))

pub inside_block-returns-then-closed-clause-read : goal.inside_block-returns-then-closed-clause-read
inside_block-returns-then-closed-clause-read t c most k has =
    let m : c.max-high.result ≡ max c.loop-members.high c.in_ok-member.height = search rules in
    rw (c.in_ok-push.ensures.ok, m)
    (c.loop-members.invariant.read most k has ∙ c.in_ok-member.ensures.read most c.loop-members.members c.loop-members.high k c.loop-members.invariant.high has
    ∙ ap (λ b. run most (behind_member b (c.loop-members.members ++ c.in_ok-member.member ∷ []) (max c.loop-members.high c.in_ok-member.height) k) c.in_ok-member.after.now) c.if-closed.true)

pub inside_block-loop-members-preserved : goal.inside_block-loop-members-preserved
inside_block-loop-members-preserved t c =
    let m : c.max-high.result ≡ max c.loop-members.high c.in_ok-member.height = search rules in
    record {
      read = λ most k has. rw (c.in_ok-push.ensures.ok, m)
          (c.loop-members.invariant.read most k has ∙ c.in_ok-member.ensures.read most c.loop-members.members c.loop-members.high k c.loop-members.invariant.high has
          ∙ ap (λ b. run most (behind_member b (c.loop-members.members ++ c.in_ok-member.member ∷ []) (max c.loop-members.high c.in_ok-member.height) k) c.in_ok-member.after.now) c.if-closed.false);
      high = omega (arith, m, c.in_ok-member.ensures.high, c.loop-members.invariant.high);
      rest = omega (arith, c.in_ok-member.ensures.rest, c.loop-members.invariant.rest);
    }

pub member-returns-in-Some-clause-read : goal.member-returns-in-Some-clause-read
member-returns-in-Some-clause-read t c most done low k small has =
    leads_on (λ x. run most (behind_member x.2 (done ++ x.0 ∷ []) (max low x.1) k) x.3.now) c.member_variable.result _ _
    (variable_begins most c.args.room done low k c.args.tokens.now c.in-Some.at c.in-Some.rest.now c.in-Some.ensures.found has small c.requires)
    (c.member_variable.ensures.read most done low k small has)

pub bound_member-returns-in_err-what-clause-read : goal.bound_member-returns-in_err-what-clause-read
bound_member-returns-in_err-what-clause-read t c most done low k small has =
    let p = err_from_is_err_and c.from_residual.result c.from_residual.ensures.1 in
    rw (p.1, p.2) (c.in_err-what.ensures.read most (λ d h. wants_sign symbol.Semicolon (reads (more_members (done ++ member.Bind c.args.name d ∷ []) (max low (suc h))) k)) (bound_room most c.args.room c.args.name done low k has small c.requires))

pub bound_member-returns-in-Err-clause-read : goal.bound_member-returns-in-Err-clause-read
bound_member-returns-in-Err-clause-read t c most done low k small has =
    stop_leads c.in-Err.stop _ _
    (c.in_ok-what.ensures.read most (λ d h. wants_sign symbol.Semicolon (reads (more_members (done ++ member.Bind c.args.name d ∷ []) (max low (suc h))) k)) (bound_room most c.args.room c.args.name done low k has small c.requires))
    (c.in-Err.ensures.read most (reads (more_members (done ++ member.Bind c.args.name c.in_ok-what.what ∷ []) (max low (suc c.in_ok-what.height))) k) (more_fit most c.args.room (done ++ member.Bind c.args.name c.in_ok-what.what ∷ []) (max low (suc c.in_ok-what.height)) k has (omega (arith, small, c.requires, c.in_ok-what.ensures.high)) (omega (arith, c.requires))))

pub bound_member-returns-in-Ok-clause-read : goal.bound_member-returns-in-Ok-clause-read
bound_member-returns-in-Ok-clause-read t c most done low k small has =
    let up : c.in_ok-what.height + 1 ≡ suc c.in_ok-what.height = omega arith in
    rw up
    (c.in_ok-what.ensures.read most (λ d h. wants_sign symbol.Semicolon (reads (more_members (done ++ member.Bind c.args.name d ∷ []) (max low (suc h))) k)) (bound_room most c.args.room c.args.name done low k has small c.requires)
    ∙ c.in-Ok.ensures.read most (reads (more_members (done ++ member.Bind c.args.name c.in_ok-what.what ∷ []) (max low (suc c.in_ok-what.height))) k) (more_fit most c.args.room (done ++ member.Bind c.args.name c.in_ok-what.what ∷ []) (max low (suc c.in_ok-what.height)) k has (omega (arith, small, c.requires, c.in_ok-what.ensures.high)) (omega (arith, c.requires))))

pub run_member-returns-in_err-what-clause-read : goal.run_member-returns-in_err-what-clause-read
run_member-returns-in_err-what-clause-read t c most done low k small has =
    let p = err_from_is_err_and c.from_residual.result c.from_residual.ensures.1 in
    rw (p.1, p.2) (c.in_err-what.ensures.read most (λ d h. a_member_end (done ++ member.Run d ∷ []) (max low h) k) (run_room most c.args.room done low k has small))

pub run_member-returns-in-Err-clause-read : goal.run_member-returns-in-Err-clause-read
run_member-returns-in-Err-clause-read t c most done low k small has =
    stop_leads c.in-Err.stop _ _
    (c.in_ok-what.ensures.read most (λ d h. a_member_end (done ++ member.Run d ∷ []) (max low h) k) (run_room most c.args.room done low k has small))
    (c.in-Err.ensures.read most (done ++ member.Run c.in_ok-what.what ∷ []) (max low c.in_ok-what.height) k (fits most k 1 c.args.room (done ++ member.Run c.in_ok-what.what ∷ []) (max low c.in_ok-what.height) has (omega (arith, c.in_ok-what.ensures.low)) (omega (arith, small, c.in_ok-what.ensures.high))))

pub run_member-returns-in-Ok-clause-read : goal.run_member-returns-in-Ok-clause-read
run_member-returns-in-Ok-clause-read t c most done low k small has =
    c.in_ok-what.ensures.read most (λ d h. a_member_end (done ++ member.Run d ∷ []) (max low h) k) (run_room most c.args.room done low k has small)
    ∙ c.in-Ok.ensures.read most (done ++ member.Run c.in_ok-what.what ∷ []) (max low c.in_ok-what.height) k (fits most k 1 c.args.room (done ++ member.Run c.in_ok-what.what ∷ []) (max low c.in_ok-what.height) has (omega (arith, c.in_ok-what.ensures.low)) (omega (arith, small, c.in_ok-what.ensures.high)))

pub compound-returns-in-Giving-clause-read : goal.compound-returns-in-Giving-clause-read
compound-returns-in-Giving-clause-read t c most k has =
    leads_on (λ x. run most (k x.0 x.1) x.2.now) c.with_value.result _ _ (ap (λ f. run most (a_form_behind f c.args.at k) c.args.tokens.now) c.in-Giving.is) (c.with_value.ensures.read most k has)

pub compound-returns-in-Do-clause-read : goal.compound-returns-in-Do-clause-read
compound-returns-in-Do-clause-read t c most k has =
    leads_on (λ x. run most (k x.0 x.1) x.2.now) c.performed.result _ _ (ap (λ f. run most (a_form_behind f c.args.at k) c.args.tokens.now) c.in-Do.is) (c.performed.ensures.read most k has)

pub compound-returns-in-Loop-clause-read : goal.compound-returns-in-Loop-clause-read
compound-returns-in-Loop-clause-read t c most k has =
    leads_on (λ x. run most (k x.0 x.1) x.2.now) c.whole_loop.result _ _ (ap (λ f. run most (a_form_behind f c.args.at k) c.args.tokens.now) c.in-Loop.is) (c.whole_loop.ensures.read most k has)

pub compound-returns-in-If-clause-read : goal.compound-returns-in-If-clause-read
compound-returns-in-If-clause-read t c most k has =
    leads_on (λ x. run most (k x.0 x.1) x.2.now) c.choice.result _ _ (ap (λ f. run most (a_form_behind f c.args.at k) c.args.tokens.now) c.in-If.is) (c.choice.ensures.read most k has)

pub compound-returns-in_err-members-in-Block-clause-read : goal.compound-returns-in_err-members-in-Block-clause-read
compound-returns-in_err-members-in-Block-clause-read t c most k has =
    let p = err_from_is_err_and c.from_residual.result c.from_residual.ensures.1 in
    rw (p.1, p.2) (stop_leads c.in_err-members-in-Block.field-0.0 _ _
    (ap (λ f. run most (a_form_behind f c.args.at k) c.args.tokens.now) c.in-Block.is)
    (c.in_err-members-in-Block.ensures.read most (λ ms h. k (comp.Block ms c.args.at) (suc h)) (inside most 1 c.args.room 1 k (λ ms. comp.Block ms c.args.at) has (omega (arith, c.requires)) (omega arith))))

pub compound-returns-in_ok-members-in-Block-clause-read : goal.compound-returns-in_ok-members-in-Block-clause-read
compound-returns-in_ok-members-in-Block-clause-read t c most k has =
    let up : c.in_ok-members-in-Block.height + 1 ≡ suc c.in_ok-members-in-Block.height = omega arith in
    rw up
    (ap (λ f. run most (a_form_behind f c.args.at k) c.args.tokens.now) c.in-Block.is
    ∙ c.in_ok-members-in-Block.ensures.read most (λ ms h. k (comp.Block ms c.args.at) (suc h)) (inside most 1 c.args.room 1 k (λ ms. comp.Block ms c.args.at) has (omega (arith, c.requires)) (omega arith)))

pub compound-returns-in_err-inner-in-Enclosed-clause-read : goal.compound-returns-in_err-inner-in-Enclosed-clause-read
compound-returns-in_err-inner-in-Enclosed-clause-read t c most k has =
    let p = err_from_is_err_and c.from_residual-in_err-inner-in-Enclosed.result c.from_residual-in_err-inner-in-Enclosed.ensures.1 in
    rw (p.1, p.2) (stop_leads c.in_err-inner-in-Enclosed.field-0.0 _ _
    (ap (λ f. run most (a_form_behind f c.args.at k) c.args.tokens.now) c.in-Enclosed.is)
    (c.in_err-inner-in-Enclosed.ensures.read most (λ d h. wants_sign symbol.RightParenthesis (k d (suc h))) (enclosed_room most c.args.room k has (omega (arith, c.requires)))))

pub compound-returns-in-Err-clause-read : goal.compound-returns-in-Err-clause-read
compound-returns-in-Err-clause-read t c most k has =
    stop_leads c.in-Err.stop _ _
    (ap (λ f. run most (a_form_behind f c.args.at k) c.args.tokens.now) c.in-Enclosed.is
    ∙ c.in_ok-inner-in-Enclosed.ensures.read most (λ d h. wants_sign symbol.RightParenthesis (k d (suc h))) (enclosed_room most c.args.room k has (omega (arith, c.requires))))
    (c.in-Err.ensures.read most (k c.in_ok-inner-in-Enclosed.inner (suc c.in_ok-inner-in-Enclosed.height)) (fits most k 1 c.args.room c.in_ok-inner-in-Enclosed.inner (suc c.in_ok-inner-in-Enclosed.height) has (omega arith) (omega (arith, c.in_ok-inner-in-Enclosed.ensures.high, c.requires))))

pub compound-returns-in-Ok-clause-read : goal.compound-returns-in-Ok-clause-read
compound-returns-in-Ok-clause-read t c most k has =
    let up : c.in_ok-inner-in-Enclosed.height + 1 ≡ suc c.in_ok-inner-in-Enclosed.height = omega arith in
    rw up
    (ap (λ f. run most (a_form_behind f c.args.at k) c.args.tokens.now) c.in-Enclosed.is
    ∙ c.in_ok-inner-in-Enclosed.ensures.read most (λ d h. wants_sign symbol.RightParenthesis (k d (suc h))) (enclosed_room most c.args.room k has (omega (arith, c.requires)))
    ∙ c.in-Ok.ensures.read most (k c.in_ok-inner-in-Enclosed.inner (suc c.in_ok-inner-in-Enclosed.height)) (fits most k 1 c.args.room c.in_ok-inner-in-Enclosed.inner (suc c.in_ok-inner-in-Enclosed.height) has (omega arith) (omega (arith, c.in_ok-inner-in-Enclosed.ensures.high, c.requires))))

pub whole_loop-returns-in_err-head-clause-read : goal.whole_loop-returns-in_err-head-clause-read
whole_loop-returns-in_err-head-clause-read t c most k has =
    let p = err_from_is_err_and c.from_residual.result c.from_residual.ensures.1 in
    rw (p.1, p.2) (c.in_err-head.ensures.read most c.args.at k has)

pub whole_loop-returns-in_err-body-clause-read : goal.whole_loop-returns-in_err-body-clause-read
whole_loop-returns-in_err-body-clause-read t c most k has =
    let p = err_from_is_err_and c.from_residual-in_err-body.result c.from_residual-in_err-body.ensures.1 in
    rw (p.1, p.2) (stop_leads c.in_err-body.field-0.0 _ _
    (c.in_ok-head.ensures.read most c.args.at k has)
    (c.in_err-body.ensures.read most (λ d h. k (looped c.in_ok-head.head d c.args.at) (suc (max c.in_ok-head.low h))) (body_room most c.args.room c.in_ok-head.low k (λ d. looped c.in_ok-head.head d c.args.at) has c.in_ok-head.ensures.high)))

pub whole_loop-returns-clause-read : goal.whole_loop-returns-clause-read
whole_loop-returns-clause-read t c most k has =
    let m : c.max.result ≡ max c.in_ok-head.low c.in_ok-body.high = search rules in
    let up : c.max.result + 1 ≡ suc (max c.in_ok-head.low c.in_ok-body.high) = omega (arith, m) in
    rw (c.in_ok-whole.ensures, up)
    (c.in_ok-head.ensures.read most c.args.at k has
    ∙ c.in_ok-body.ensures.read most (λ d h. k (looped c.in_ok-head.head d c.args.at) (suc (max c.in_ok-head.low h))) (body_room most c.args.room c.in_ok-head.low k (λ d. looped c.in_ok-head.head d c.args.at) has c.in_ok-head.ensures.high))

pub member-returns-in-None-clause-read : goal.member-returns-in-None-clause-read
member-returns-in-None-clause-read t c most done low k small has =
    leads_on (λ x. run most (behind_member x.2 (done ++ x.0 ∷ []) (max low x.1) k) x.3.now) c.run_member.result _ _
    (run_begins most c.args.room done low k c.args.tokens.now c.in_default.ensures.found (rw c.in-None.is at c.in_ok-binding.ensures.found) has small c.requires)
    (c.run_member.ensures.read most done low k small has)

pub member-returns-then-room-lt2-clause-read : goal.member-returns-then-room-lt2-clause-read
member-returns-then-room-lt2-clause-read t c most done low k small has =
    bound_deep most c.args.room done low k c.args.tokens.now c.in-Some-binding.name.name c.in-Some-binding.name.at c.in-Some-binding.rest.now
    (rw c.in-Some-binding.is at c.in_ok-binding.ensures.found) has small c.requires c.if-room-lt2.true

pub member-returns-else-room-lt2-clause-read : goal.member-returns-else-room-lt2-clause-read
member-returns-else-room-lt2-clause-read t c most done low k small has =
    leads_on (λ x. run most (behind_member x.2 (done ++ x.0 ∷ []) (max low x.1) k) x.3.now) c.bound_member.result _ _
    (bound_begins most c.args.room done low k c.args.tokens.now c.in-Some-binding.name.name c.in-Some-binding.name.at c.in-Some-binding.rest.now
    (rw c.in-Some-binding.is at c.in_ok-binding.ensures.found) has small c.if-room-lt2.false
    ∙ ap (λ x. run most (a_bound_behind x done low k) c.in-Some-binding.rest.now) (sym (rw c.in-Some-binding.is at c.in_ok-binding.ensures.new)))
    (c.bound_member.ensures.read most done low k small has)
