-- A choice and parentheses as they are read.
use Rattle.std.proofs.Common.{◌≡◌, ◌≤◌, ◌<◌, ◌-◌, ℕ, suc, max, nat_le, true, ◌∙◌, arith}
use Rattle.zir_tree.specs.declared.place.Place.{Place}
use Rattle.zir_tree.specs.declared.expr.Expr.{Expr}
use Rattle.zir_tree.specs.declared.comp.Comp.{Comp}
use Rattle.zir_tree.specs.declared.comp.Comp as comp
use Rattle.zir_tree.specs.declared.program.Prog.{Prog}
use Rattle.zir_lex.specs.declared.token.Keyword.TheVariants as keyword
use Rattle.zir_lex.specs.declared.token.Symbol.TheVariants as symbol
use Rattle.zir_grammar.specs.Parts.{Rest, reads, wants_sign, wants_word, a_chain}
use Rattle.zir_grammar.specs.Machine.{least}
use Rattle.zir_grammar.specs.Reading.{HasRoom}
use Rattle.zir_grammar.proofs.Descent.{fits, same_test}

-- behind both branches of a choice, behind the first and behind its condition
abbrev pub chosen : Place → (Comp → ℕ → Rest Prog) → Expr → ℕ → Comp → ℕ → Comp → ℕ → Rest Prog
chosen at k e h c g d f = k (comp.If e c d at) (suc (max (max h g) f))

abbrev pub other : Place → (Comp → ℕ → Rest Prog) → Expr → ℕ → Comp → ℕ → Rest Prog
other at k e h c g = reads (a_chain 0) (chosen at k e h c g)

abbrev pub branches : Place → (Comp → ℕ → Rest Prog) → Expr → ℕ → Rest Prog
branches at k e h = reads (a_chain 0) (λ c g. wants_word keyword.Else (other at k e h c g))

pub condition_room : (most room : ℕ) (at : Place) (k : Comp → ℕ → Rest Prog) → HasRoom most k 1 room → 2 ≤ room
    → HasRoom most (λ e h. wants_word keyword.Then (branches at k e h)) 1 (room - 1)
condition_room most room at k has two e h above =
    has _ (suc (max (max h 1) 1)) (omega arith) ∙ same_test (suc (max (max h 1) 1)) room h (room - 1) (λ x. omega arith) (λ x. omega arith)

pub branches_fit : (most room : ℕ) (at : Place) (k : Comp → ℕ → Rest Prog) (e : Expr) (h : ℕ) → HasRoom most k 1 room → 2 ≤ room → h < room
    → nat_le (least (branches at k e h)) most ≡ true
branches_fit most room at k e h has two small = fits most k 1 room _ (suc (max (max h 1) 1)) has (omega arith) (omega (arith, two, small))

pub first_room : (most room : ℕ) (at : Place) (k : Comp → ℕ → Rest Prog) (e : Expr) (h : ℕ) → HasRoom most k 1 room → 2 ≤ room → h < room
    → HasRoom most (λ c g. wants_word keyword.Else (other at k e h c g)) 1 (room - 1)
first_room most room at k e h has two small c g above =
    has _ (suc (max (max h g) 1)) (omega arith) ∙ same_test (suc (max (max h g) 1)) room g (room - 1) (λ x. omega arith) (λ x. omega arith)

pub other_fits : (most room : ℕ) (at : Place) (k : Comp → ℕ → Rest Prog) (e : Expr) (h : ℕ) (c : Comp) (g : ℕ) → HasRoom most k 1 room → 2 ≤ room
    → h < room → g < room
    → nat_le (least (other at k e h c g)) most ≡ true
other_fits most room at k e h c g has two small low = fits most k 1 room _ (suc (max (max h g) 1)) has (omega arith) (omega (arith, two, small, low))

pub other_room : (most room : ℕ) (at : Place) (k : Comp → ℕ → Rest Prog) (e : Expr) (h : ℕ) (c : Comp) (g : ℕ) → HasRoom most k 1 room → h < room
    → g < room
    → HasRoom most (chosen at k e h c g) 1 (room - 1)
other_room most room at k e h c g has small low d f above =
    has _ (suc (max (max h g) f)) (omega arith) ∙ same_test (suc (max (max h g) f)) room f (room - 1) (λ x. omega arith) (λ x. omega arith)

-- behind the component in parentheses
pub enclosed_room : (most room : ℕ) (k : Comp → ℕ → Rest Prog) → HasRoom most k 1 room → 1 ≤ room
    → HasRoom most (λ c h. wants_sign symbol.RightParenthesis (k c (suc h))) 1 (room - 1)
enclosed_room most room k has some c h above =
    has c (suc h) (omega arith) ∙ same_test (suc h) room h (room - 1) (λ x. omega arith) (λ x. omega arith)
