-- Components joined by signs as they are read.
use Rattle.std.proofs.Common.{◌≡◌, ◌≤◌, ◌<◌, ◌-◌, ℕ, suc, max, List, length, Some, None, Err, refl, ◌∙◌, arith}
use Rattle.zir_tree.specs.declared.place.Place.{Place}
use Rattle.zir_tree.specs.declared.comp.Link.{Link}
use Rattle.zir_tree.specs.declared.comp.Comp.{Comp}
use Rattle.zir_tree.specs.declared.comp.Comp as comp
use Rattle.zir_tree.specs.declared.program.Prog.{Prog}
use Rattle.zir_lex.specs.declared.token.Token.{Token}
use Rattle.zir_grammar.specs.declared.error.ParseError.TheVariants as errors
use Rattle.zir_grammar.specs.Wants.{a_link, told}
use Rattle.zir_grammar.specs.Parts.{Rest, a_chain, links_of, reads, done_with}
use Rattle.zir_grammar.specs.Machine.{run}
use Rattle.zir_grammar.specs.Reading.{at_front, HasRoom}
use Rattle.zir_grammar.proofs.Descent.{taken, deep, left_out, led, told_found, fits, too_high, same_test}

-- a component of more ranks begins with one of fewer
pub rank_begins : (most n : ℕ) (k : Comp → ℕ → Rest Prog) (ts : List Token)
    → run most (reads (a_chain (suc n)) k) ts ≡ run most (reads (a_chain n) (λ c h. reads (links_of n c h) k)) ts
rank_begins most n k ts = led most (a_chain (suc n)) (a_chain n) (λ c h. reads (links_of n c h) done_with) k ts refl refl (λ t us is. refl)

-- no sign of the rank stands behind
pub rank_ends : (most n : ℕ) (k : Comp → ℕ → Rest Prog) (left : Comp) (low : ℕ) (ts : List Token) → at_front (a_link n) ts ≡ None
    → run most (reads (links_of n left low) k) ts ≡ run most (k left low) ts
rank_ends most n k left low ts none = left_out most (links_of n left low) k ts refl (none, tt)

-- what is expected behind a sign
abbrev pub right_side : {A : Type 0} → ℕ → Link → Place → Comp → ℕ → (Comp → ℕ → Rest A) → Comp → ℕ → Rest A
right_side n l at left low k right h = reads (links_of n (comp.Pipe l left right at) (suc (max low h))) k

-- a sign whose right side fits
pub link_fits : (most n room : ℕ) (k : Comp → ℕ → Rest Prog) (left : Comp) (low : ℕ) (ts : List Token) (l : Link) (at : Place) (rest : List Token)
    → at_front (a_link n) ts ≡ Some ((l, at), rest) → HasRoom most k 1 room → 1 ≤ low → low < room
    → run most (reads (links_of n left low) k) ts ≡ run most (reads (a_chain n) (right_side n l at left low k)) rest
link_fits most n room k left low ts l at rest e has some below =
    taken most (links_of n left low) k (a_link n) ts (l, at) rest (reads (a_chain n) (right_side n l at left low done_with)) e
    (λ t is. told_found (told (a_link n) t) (λ p. Some (reads (a_chain n) (right_side n p.0 p.1 left low done_with))) None (l, at) is)
    (fits most k 1 room _ (suc (max low 1)) has (omega arith) (omega arith))

-- a sign whose right side does not fit
pub link_deep : (most n room : ℕ) (k : Comp → ℕ → Rest Prog) (left : Comp) (low : ℕ) (ts : List Token) (l : Link) (at : Place) (rest : List Token)
    → at_front (a_link n) ts ≡ Some ((l, at), rest) → HasRoom most k 1 room → room ≤ low
    → run most (reads (links_of n left low) k) ts ≡ Err (errors.TooDeep (length ts))
link_deep most n room k left low ts l at rest e has above =
    deep most (links_of n left low) k (a_link n) ts (l, at) rest (reads (a_chain n) (right_side n l at left low done_with)) e
    (λ t is. told_found (told (a_link n) t) (λ p. Some (reads (a_chain n) (right_side n p.0 p.1 left low done_with))) None (l, at) is)
    (too_high most k 1 room _ (suc (max low 1)) has (omega arith) (omega arith))

-- the room of the right side
pub right_room : (most n room : ℕ) (k : Comp → ℕ → Rest Prog) (left : Comp) (low : ℕ) (l : Link) (at : Place) → HasRoom most k 1 room → low < room
    → HasRoom most (right_side n l at left low k) 1 (room - 1)
right_room most n room k left low l at has below right h some =
    has (comp.Pipe l left right at) (suc (max low h)) (omega arith) ∙ same_test (suc (max low h)) room h (room - 1) (λ x. omega arith) (λ x. omega arith)
