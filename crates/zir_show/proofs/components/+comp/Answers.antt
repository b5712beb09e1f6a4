use Rattle.std.proofs.Common.{suc, arith, refl, ap, ◌∷◌}
use Rattle.zir_lex.specs.declared.token.Keyword.TheVariants as keyword
use Rattle.zir_lex.specs.declared.token.Symbol.TheVariants as symbol
use Rattle.zir_grammar.specs.Grammar.{link_rank, link_symbol}
use Rattle.zir_print.specs.Marks.{mark, link_word, held}
use Rattle.zir_print.specs.Expressions.{expr_words}
use Rattle.zir_print.specs.Components.{comp_kind, comp_words, member_words}
use Rattle.zir_print.specs.Text.{spaced}
use Rattle.zir_print.proofs.CompLaw.{words_pipe, words_repeat, words_while, words_times, words_for, words_if, words_block}
use Rattle.zir_show.proofs.Adding.{◌▸◌, last, held_enclosed, at_limit, at_limit_last, left_all, joined_more, joined_end}
use Rattle.zir_show.proofs.Places.{infix_spaced, five}
use Rattle.zir_show.proofs.components.+comp.Goals as goal

pub put_comp-returns-in_ok-keyword-in-Repeat : goal.put_comp-returns-in_ok-keyword-in-Repeat
put_comp-returns-in_ok-keyword-in-Repeat t c = rw (c.in-Repeat.is, words_repeat) (last _ _ _ _ c.in_ok-keyword-in-Repeat.ensures (rw c.get.ensures at c.put_held.ensures) refl)

pub put_comp-returns-in_ok-put_with_condition-in-While : goal.put_comp-returns-in_ok-put_with_condition-in-While
put_comp-returns-in_ok-put_with_condition-in-While t c =
    rw (c.in-While.is, words_while) (last _ _ _ _ (rw c.keyword_of.ensures at c.in_ok-put_with_condition-in-While.ensures) (rw c.get-in-While.ensures at c.put_held-in-While.ensures) refl)

pub put_comp-returns-in_ok-put_with_condition-in-Times : goal.put_comp-returns-in_ok-put_with_condition-in-Times
put_comp-returns-in_ok-put_with_condition-in-Times t c =
    rw (c.in-Times.is, words_times) (last _ _ _ _ c.in_ok-put_with_condition-in-Times.ensures (rw c.get-in-Times.ensures at c.put_held-in-Times.ensures) refl)

pub put_comp-returns-in_ok-put_bounds-in-For : goal.put_comp-returns-in_ok-put_bounds-in-For
put_comp-returns-in_ok-put_bounds-in-For t c =
    rw (c.in-For.is, words_for) (last _ _ _ _ (c.in_ok-keyword-in-For.ensures ▸ c.in_ok-put_bounds-in-For.ensures) (rw c.get-in-For.ensures at c.put_held-in-For.ensures) refl)

pub put_comp-returns-in_ok-keyword-in-If-2 : goal.put_comp-returns-in_ok-keyword-in-If-2
put_comp-returns-in_ok-keyword-in-If-2 t c =
    rw (c.in-If.is, words_if)
    (last _ _ _ _
    (c.in_ok-put_with_value-in-If.ensures
    ▸ c.in_ok-keyword-in-If.ensures
    ▸ (rw c.get-in-If.ensures at c.in_ok-put_held-in-If.ensures)
    ▸ c.in_ok-keyword-in-If-2.ensures)
    (rw c.get-in-If-2.ensures at c.put_held-in-If-2.ensures)
    (ap spaced
    (five (link_word keyword.If ∷ expr_words c.in-If.e) (held 0 (comp_kind c.in-If.c) (comp_words c.in-If.c)) (held 0 (comp_kind c.in-If.d) (comp_words c.in-If.d)) (link_word keyword.Then) (link_word keyword.Else))))

pub put_comp-returns-in_ok-put_members-in-Block : goal.put_comp-returns-in_ok-put_members-in-Block
put_comp-returns-in_ok-put_members-in-Block t c =
    rw (c.in-Block.is, words_block) (last _ _ _ _ (c.in_ok-symbol-in-Block.ensures ▸ (rw c.as_slice-in-Block.ensures at c.in_ok-put_members-in-Block.ensures)) c.symbol-in-Block.ensures refl)

pub put_comp-returns-in_ok-symbol-in-Pipe : goal.put_comp-returns-in_ok-symbol-in-Pipe
put_comp-returns-in_ok-symbol-in-Pipe t c =
    rw (c.in-Pipe.is, words_pipe)
    (last _ _ _ _
    (at_limit _ (suc (link_rank c.in-Pipe.link)) _ _ (omega (arith, c.rank_of-rank.ensures)) (rw c.get-in-Pipe.ensures at c.in_ok-put_held-in-Pipe.ensures)
    ▸ (rw c.symbol_of.ensures at c.in_ok-symbol-in-Pipe.ensures))
    (at_limit_last _ _ _ _ (link_rank c.in-Pipe.link) _ _ c.rank_of-rank.ensures (rw c.get-in-Pipe-2.ensures at c.put_held-in-Pipe-2.ensures))
    (infix_spaced (held (suc (link_rank c.in-Pipe.link)) (comp_kind c.in-Pipe.left) (comp_words c.in-Pipe.left)) (held (link_rank c.in-Pipe.link) (comp_kind c.in-Pipe.right) (comp_words c.in-Pipe.right))
    (link_symbol c.in-Pipe.link) c.in-Pipe.field-3))

pub put_held-returns-in_ok-put_comp : goal.put_held-returns-in_ok-put_comp
put_held-returns-in_ok-put_comp t c =
    held_enclosed _ _ _ c.args.limit (comp_kind c.args.c.now) (comp_words c.args.c.now) (omega (arith, c.looseness.ensures)) (last _ _ _ _ (c.in_ok-symbol.ensures ▸ c.in_ok-put_comp.ensures) c.symbol-else-looseness-limit.ensures refl)

pub put_members-loop-index-init : goal.put_members-loop-index-init
put_members-loop-index-init t c = left_all _ _

pub put_members-loop-index-preserved : goal.put_members-loop-index-preserved
put_members-loop-index-preserved t c =
    joined_more member_words (mark symbol.Semicolon) c.args.members.now c.loop-index.index _ (omega arith) c.index-members-index.is c.loop-index.invariant c.in_ok-before_part.ensures c.in_ok-put_member.ensures

pub put_members-returns : goal.put_members-returns
put_members-returns t c = joined_end member_words (mark symbol.Semicolon) c.args.members.now c.loop-index.index (omega arith) c.loop-index.invariant
