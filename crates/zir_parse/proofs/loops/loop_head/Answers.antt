use Rattle.std.proofs.Common.{suc, max, ap, ◌∙◌}
use Rattle.std.proofs.lemmas.Result.{err_from_is_err_and}
use Rattle.zir_tree.specs.declared.expr.Expr.{Expr}
use Rattle.zir_tree.specs.declared.ident.Ident.{Ident}
use Rattle.zir_tree.specs.declared.comp.Comp as comp
use Rattle.zir_grammar.specs.Parts.{follow, reads, a_chain}
use Rattle.zir_grammar.specs.Machine.{run}
use Rattle.zir_grammar.proofs.Descent.{stop_leads}
use Rattle.zir_parse.specs.Heads.{behind_loop}
use Rattle.zir_parse.proofs.LoopSteps.{head_room, repeat_low, no_condition}
use Rattle.zir_parse.proofs.loops.loop_head.Goals as goal

pub returns-in_err-rest-in-Repeat-clause-read : goal.returns-in_err-rest-in-Repeat-clause-read
returns-in_err-rest-in-Repeat-clause-read c most at k has =
    let p = err_from_is_err_and c.from_residual.result c.from_residual.ensures.1 in
    rw (p.1, p.2) (stop_leads c.in_err-rest-in-Repeat.field-0.0 _ _ (ap (λ l. run most (follow (behind_loop l at) k) c.args.tokens.now) c.in-Repeat.is)
    (c.in_err-rest-in-Repeat.ensures.read most at k (repeat_low most c.args.room k has c.requires)))

pub returns-in_ok-rest-in-Repeat-clause-read : goal.returns-in_ok-rest-in-Repeat-clause-read
returns-in_ok-rest-in-Repeat-clause-read c most at k has =
    ap (λ l. run most (follow (behind_loop l at) k) c.args.tokens.now) c.in-Repeat.is
    ∙ c.in_ok-rest-in-Repeat.ensures.read most at k (repeat_low most c.args.room k has c.requires) ∙ no_condition most at k c.in_ok-rest-in-Repeat.rest.now

pub returns-in_err-value-in-Turn-clause-read : goal.returns-in_err-value-in-Turn-clause-read
returns-in_err-value-in-Turn-clause-read c most at k has =
    let p = err_from_is_err_and c.from_residual-in_err-value-in-Turn.result c.from_residual-in_err-value-in-Turn.ensures.1 in
    rw (p.1, p.2) (stop_leads c.in_err-value-in-Turn.field-0.0 _ _ (ap (λ l. run most (follow (behind_loop l at) k) c.args.tokens.now) c.in-Turn.is)
    (c.in_err-value-in-Turn.ensures.read most (λ e h. reads (a_chain 0) (λ d g. k (comp.While c.in-Turn.turning e d at) (suc (max h g))))
    (head_room most c.args.room k (λ e d. comp.While c.in-Turn.turning e d at) has c.requires)))

pub returns-in_ok-value-in-Turn-clause-read : goal.returns-in_ok-value-in-Turn-clause-read
returns-in_ok-value-in-Turn-clause-read c most at k has =
    ap (λ l. run most (follow (behind_loop l at) k) c.args.tokens.now) c.in-Turn.is
    ∙ c.in_ok-value-in-Turn.ensures.read most (λ e h. reads (a_chain 0) (λ d g. k (comp.While c.in-Turn.turning e d at) (suc (max h g))))
    (head_room most c.args.room k (λ e d. comp.While c.in-Turn.turning e d at) has c.requires)

pub returns-in_err-count-in-Times-clause-read : goal.returns-in_err-count-in-Times-clause-read
returns-in_err-count-in-Times-clause-read c most at k has =
    let p = err_from_is_err_and c.from_residual-in_err-count-in-Times.result c.from_residual-in_err-count-in-Times.ensures.1 in
    rw (p.1, p.2) (stop_leads c.in_err-count-in-Times.field-0.0 _ _ (ap (λ l. run most (follow (behind_loop l at) k) c.args.tokens.now) c.in-Times.is)
    (c.in_err-count-in-Times.ensures.read most (λ e h. reads (a_chain 0) (λ d g. k (comp.Times e d at) (suc (max h g))))
    (head_room most c.args.room k (λ e d. comp.Times e d at) has c.requires)))

pub returns-in_ok-count-in-Times-clause-read : goal.returns-in_ok-count-in-Times-clause-read
returns-in_ok-count-in-Times-clause-read c most at k has =
    ap (λ l. run most (follow (behind_loop l at) k) c.args.tokens.now) c.in-Times.is
    ∙ c.in_ok-count-in-Times.ensures.read most (λ e h. reads (a_chain 0) (λ d g. k (comp.Times e d at) (suc (max h g))))
    (head_room most c.args.room k (λ e d. comp.Times e d at) has c.requires)

pub returns-in_err-name-in-For-clause-read : goal.returns-in_err-name-in-For-clause-read
returns-in_err-name-in-For-clause-read c most at k has =
    let p = err_from_is_err_and c.from_residual-in_err-name-in-For.result c.from_residual-in_err-name-in-For.ensures.1 in
    rw (p.1, p.2) (stop_leads c.in_err-name-in-For.field-0.0 _ _ (ap (λ l. run most (follow (behind_loop l at) k) c.args.tokens.now) c.in-For.is)
    (c.in_err-name-in-For.ensures.read most (λ b h. reads (a_chain 0) (λ d g. k (comp.For b.0 b.1 b.2 d at) (suc (max h g))))
    (head_room most c.args.room k (λ (b : Ident × Expr × Expr) d. comp.For b.0 b.1 b.2 d at) has c.requires)))

pub returns-in_ok-name-in-For-clause-read : goal.returns-in_ok-name-in-For-clause-read
returns-in_ok-name-in-For-clause-read c most at k has =
    ap (λ l. run most (follow (behind_loop l at) k) c.args.tokens.now) c.in-For.is
    ∙ c.in_ok-name-in-For.ensures.read most (λ b h. reads (a_chain 0) (λ d g. k (comp.For b.0 b.1 b.2 d at) (suc (max h g))))
    (head_room most c.args.room k (λ (b : Ident × Expr × Expr) d. comp.For b.0 b.1 b.2 d at) has c.requires)
