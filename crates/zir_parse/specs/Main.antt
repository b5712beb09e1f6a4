-- The main component as it is read.
use Rattle.std.specs.Prelude.{ℕ, ◌-◌, nat_lt, if◌then◌else◌, Bool, true, false, List, None, Result}
use Rattle.zir_tree.specs.declared.types.TypeExpr.{TypeExpr}
use Rattle.zir_tree.specs.declared.comp.Comp.{Comp}
use Rattle.zir_tree.specs.declared.program.Prog.{Prog}
use Rattle.zir_lex.specs.declared.token.Token.{Token}
use Rattle.zir_lex.specs.declared.token.Symbol.TheVariants.{LeftBracket, RightBracket}
use Rattle.zir_grammar.specs.declared.stop.Stop.{Stop}
use Rattle.zir_grammar.specs.Parts.{
  Left,
  Rest,
  reads,
  wants_sign,
  a_type_part,
  a_chain,
  behind_main,
  joined,
  joined_height,
}
use Rattle.zir_grammar.specs.Machine.{run}
use Rattle.zir_grammar.specs.Reading.{HasRoom, Leads}

-- what is expected behind the main component and its output type
abbrev pub After : Type 0 → Type 0
After A = Comp × TypeExpr → ℕ → Rest A

-- a type in brackets
abbrev pub a_type_in_brackets : {A : Type 0} → (TypeExpr → Rest A) → Rest A
a_type_in_brackets k = wants_sign LeftBracket (reads a_type_part (λ t h. wants_sign RightBracket (k t)))

-- the main chain behind what stands to the left of its last `|>>>|`
abbrev pub a_main_chain : {A : Type 0} → Left → After A → Rest A
a_main_chain left k = reads (a_chain 0) (λ c h. reads (behind_main left c h) k)

-- what is expected behind the word `write`
abbrev pub written : {A : Type 0} → Comp → ℕ → After A → Rest A
written c h k = a_type_in_brackets (λ t. k (c, t) h)

-- what is expected behind the main chain as far as it is read: behind the word `write` where that is read too
abbrev pub behind_so_far : {A : Type 0} → Bool → Comp → ℕ → After A → Rest A
behind_so_far true c h k = written c h k
behind_so_far false c h k = reads (behind_main None c h) k

-- what is expected behind that much of the chain and what stands to its left
abbrev pub behind_both : {A : Type 0} → Left → Comp → ℕ → Bool → After A → Rest A
behind_both left c h ended k = behind_so_far ended (joined left c) (joined_height left h) k

-- A function reads the main chain up to a `|>>>|` or through the word `write`, whatever stands to its left: from its
-- tokens the machine gets to what is expected behind all of the chain so far, or it stops as the function did. The room
-- is that of the part that the function reads.
abbrev pub ParsesBeside : {X : Type 0} → ℕ → List Token → (X → Comp × ℕ × Bool × List Token) → Result X Stop → Type 0
ParsesBeside room tokens view result =
    (most : ℕ) (left : Left) (k : After Prog) → HasRoom most (λ t h. k t (joined_height left h)) 1 room
    → Leads (λ x. run most (behind_both left (view x).0 (view x).1 (view x).2 k) (view x).3) result
    (run most (a_main_chain left k) tokens)

-- A function reads the main component: from its tokens the machine gets to what is expected behind the word `write`, or
-- it stops as the function did.
abbrev pub ParsesMain : {X : Type 0} → ℕ → List Token → (X → Comp × ℕ × List Token) → Result X Stop → Type 0
ParsesMain room tokens view result =
    (most : ℕ) (k : After Prog) → HasRoom most k 1 room
    → Leads (λ x. run most (written (view x).0 (view x).1 k) (view x).2) result (run most (a_main_chain None k) tokens)

-- the levels that a component may have behind one of that height and a `>>>`; none where even the lowest is too high
abbrev pub room_behind : ℕ → ℕ → ℕ
room_behind room height = if nat_lt height room then room - 1 else 0
