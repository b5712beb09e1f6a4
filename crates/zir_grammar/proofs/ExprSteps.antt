-- Operands as they are read.
use Rattle.std.proofs.Common.{◌≡◌, ◌≤◌, ◌<◌, ◌-◌, ℕ, zero, suc, max, nat_le, true, false, List, length, Some, None, Err, refl, sym, ap, ◌∙◌, arith}
use Rattle.zir_tree.specs.declared.place.Place.{Place}
use Rattle.zir_tree.specs.declared.types.Base.TheVariants as base
use Rattle.zir_tree.specs.declared.expr.Operator.{Operator}
use Rattle.zir_tree.specs.declared.expr.Expr.{Expr}
use Rattle.zir_tree.specs.declared.expr.Expr as expr
use Rattle.zir_tree.specs.declared.program.Prog.{Prog}
use Rattle.zir_lex.specs.declared.token.Token.{Token}
use Rattle.zir_grammar.specs.declared.error.ParseError.TheVariants as errors
use Rattle.zir_grammar.specs.Wants.{an_operator, told, if_found}
use Rattle.zir_grammar.specs.Parts.{Rest, a_binary, operands_of, reads, done_with}
use Rattle.zir_grammar.specs.Machine.{least, run}
use Rattle.zir_grammar.specs.Reading.{at_front, HasRoom}
use Rattle.zir_grammar.proofs.Descent.{taken, deep, left_out, led, told_found, fits, too_high, same_test}

-- an expression of more ranks begins with one of fewer
pub rank_begins : (most n : ℕ) (k : Expr → ℕ → Rest Prog) (ts : List Token)
    → run most (reads (a_binary (suc n)) k) ts ≡ run most (reads (a_binary n) (λ e h. reads (operands_of n e h) k)) ts
rank_begins most n k ts = led most (a_binary (suc n)) (a_binary n) (λ e h. reads (operands_of n e h) done_with) k ts refl refl (λ t us is. refl)

-- no operator of the rank stands behind
pub rank_ends : (most n : ℕ) (k : Expr → ℕ → Rest Prog) (left : Expr) (low : ℕ) (ts : List Token) → at_front (an_operator n) ts ≡ None
    → run most (reads (operands_of n left low) k) ts ≡ run most (k left low) ts
rank_ends most n k left low ts none = left_out most (operands_of n left low) k ts refl (none, tt)

-- what is expected behind an operator
abbrev pub right_side : {A : Type 0} → ℕ → Operator → Place → Expr → ℕ → (Expr → ℕ → Rest A) → Expr → ℕ → Rest A
right_side n op at left low k right h = reads (operands_of n (expr.Binary op base.Unit left right at) (suc (max low h))) k

-- an operator whose right side fits
pub operator_fits : (most n room : ℕ) (k : Expr → ℕ → Rest Prog) (left : Expr) (low : ℕ) (ts : List Token) (op : Operator) (at : Place) (rest : List Token)
    → at_front (an_operator n) ts ≡ Some ((op, at), rest) → HasRoom most k 1 room → 1 ≤ low → low < room
    → run most (reads (operands_of n left low) k) ts ≡ run most (reads (a_binary n) (right_side n op at left low k)) rest
operator_fits most n room k left low ts op at rest e has some below =
    taken most (operands_of n left low) k (an_operator n) ts (op, at) rest (reads (a_binary n) (right_side n op at left low done_with)) e
    (λ t is. told_found (told (an_operator n) t) (λ p. Some (reads (a_binary n) (right_side n p.0 p.1 left low done_with))) None (op, at) is)
    (fits most k 1 room _ (suc (max low 1)) has (omega arith) (omega arith))

-- an operator whose right side does not fit
pub operator_deep : (most n room : ℕ) (k : Expr → ℕ → Rest Prog) (left : Expr) (low : ℕ) (ts : List Token) (op : Operator) (at : Place) (rest : List Token)
    → at_front (an_operator n) ts ≡ Some ((op, at), rest) → HasRoom most k 1 room → room ≤ low
    → run most (reads (operands_of n left low) k) ts ≡ Err (errors.TooDeep (length ts))
operator_deep most n room k left low ts op at rest e has above =
    deep most (operands_of n left low) k (an_operator n) ts (op, at) rest (reads (a_binary n) (right_side n op at left low done_with)) e
    (λ t is. told_found (told (an_operator n) t) (λ p. Some (reads (a_binary n) (right_side n p.0 p.1 left low done_with))) None (op, at) is)
    (too_high most k 1 room _ (suc (max low 1)) has (omega arith) (omega arith))

-- the room of the right side
pub right_room : (most n room : ℕ) (k : Expr → ℕ → Rest Prog) (left : Expr) (low : ℕ) (op : Operator) (at : Place) → HasRoom most k 1 room → low < room
    → HasRoom most (right_side n op at left low k) 1 (room - 1)
right_room most n room k left low op at has below right h some =
    has (expr.Binary op base.Unit left right at) (suc (max low h)) (omega arith) ∙ same_test (suc (max low h)) room h (room - 1) (λ x. omega arith) (λ x. omega arith)
