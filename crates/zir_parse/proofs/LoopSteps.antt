-- Loops as they are read.
use Rattle.std.proofs.Common.{◌≡◌, ◌≤◌, ◌<◌, ◌-◌, ℕ, suc, max, nat_le, true, List, Some, None, refl, ◌∙◌, arith, subst}
use Rattle.zir_tree.specs.declared.place.Place.{Place}
use Rattle.zir_tree.specs.declared.comp.Comp.{Comp}
use Rattle.zir_tree.specs.declared.comp.Comp as comp
use Rattle.zir_tree.specs.declared.program.Prog.{Prog}
use Rattle.zir_lex.specs.declared.token.Token.{Token}
use Rattle.zir_lex.specs.declared.token.Symbol.TheVariants as symbol
use Rattle.zir_grammar.specs.Wants.{a_sign, a_number, told}
use Rattle.zir_grammar.specs.Parts.{Rest, gives, wants, reads, wants_sign, a_chain, behind_repeat, repeat_entries}
use Rattle.zir_grammar.specs.Machine.{least, run}
use Rattle.zir_grammar.specs.Reading.{at_front, HasRoom}
use Rattle.zir_grammar.proofs.Descent.{taken, led, by_token, front_none, fits, same_test}
use Rattle.zir_grammar.proofs.Tables.{not_first}

-- what is expected behind a hint
abbrev pub repeated : Place → (Comp → ℕ → Rest Prog) → Rest Prog
repeated at k = reads (a_chain 0) (λ c h. k (comp.Repeat c at) (suc h))

-- behind the bracket of a hint
abbrev pub a_hint : Place → (Comp → ℕ → Rest Prog) → Rest Prog
a_hint at k = wants a_number (λ n. wants_sign symbol.Comma (wants a_number (λ m. wants_sign symbol.RightBracket (repeated at k))))

pub no_hint : (most : ℕ) (at : Place) (k : Comp → ℕ → Rest Prog) (ts : List Token) → at_front (a_sign symbol.LeftBracket) ts ≡ None
    → run most (reads (behind_repeat at) k) ts ≡ run most (repeated at k) ts
no_hint most at k ts none =
    led most (behind_repeat at) (a_chain 0) (λ c h. gives (comp.Repeat c at) (suc h)) k ts refl refl
    (λ t us is. not_first (told (a_sign symbol.LeftBracket) t) _ _ _ (front_none (a_sign symbol.LeftBracket) t us (subst
    (λ l. at_front (a_sign symbol.LeftBracket) l ≡ None) is none)) refl)

pub hint_begins : (most : ℕ) (at : Place) (k : Comp → ℕ → Rest Prog) (ts : List Token) (opens : Place) (rest : List Token)
    → at_front (a_sign symbol.LeftBracket) ts ≡ Some (opens, rest) → ((c : Comp) → nat_le (least (k c 2)) most ≡ true)
    → run most (reads (behind_repeat at) k) ts ≡ run most (a_hint at k) rest
hint_begins most at k ts opens rest e low =
    taken most (behind_repeat at) k (a_sign symbol.LeftBracket) ts opens rest
    (wants a_number (λ n. wants_sign symbol.Comma (wants a_number (λ m. wants_sign symbol.RightBracket
    (reads (a_chain 0) (λ c h. gives (comp.Repeat c at) (suc h))))))) e
    (by_token (repeat_entries at) (a_sign symbol.LeftBracket) opens _ refl) (low _)

-- the room of a loop's condition, and that of its body
pub head_room : {A : Type 0} (most room : ℕ) (k : Comp → ℕ → Rest Prog) (make : A → Comp → Comp) → HasRoom most k 1 room → 2 ≤ room
    → HasRoom most (λ e h. reads (a_chain 0) (λ c g. k (make e c) (suc (max h g)))) 1 (room - 1)
head_room most room k make has two e h above =
    has (make e _) (suc (max h 1)) (omega arith) ∙ same_test (suc (max h 1)) room h (room - 1) (λ x. omega arith) (λ x. omega arith)

pub body_room : (most room low : ℕ) (k : Comp → ℕ → Rest Prog) (make : Comp → Comp) → HasRoom most k 1 room → low < room
    → HasRoom most (λ c h. k (make c) (suc (max low h))) 1 (room - 1)
body_room most room low k make has small c h above =
    has (make c) (suc (max low h)) (omega arith) ∙ same_test (suc (max low h)) room h (room - 1) (λ x. omega arith) (λ x. omega arith)

-- what repeats is at least two levels high
pub repeat_low : (most room : ℕ) (k : Comp → ℕ → Rest Prog) → HasRoom most k 1 room → 2 ≤ room → (c : Comp) → nat_le (least (k c 2)) most ≡ true
repeat_low most room k has two c = fits most k 1 room c 2 has (omega arith) (omega (arith, two))

-- a loop without a condition is as high as its body alone makes it
pub no_condition : (most : ℕ) (at : Place) (k : Comp → ℕ → Rest Prog) (ts : List Token)
    → run most (repeated at k) ts ≡ run most (reads (a_chain 0) (λ c h. k (comp.Repeat c at) (suc (max 0 h)))) ts
no_condition most at k ts = λ i. run most (reads (a_chain 0) (λ c h. k (comp.Repeat c at) (suc (back h i)))) ts
  where
    back : (h : ℕ) → h ≡ max 0 h
    back h = grind arith
