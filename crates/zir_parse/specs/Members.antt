-- The members of a block as they are read.
use Rattle.std.specs.Prelude.{◌≤◌, ℕ, suc, max, Bool, true, false, List, [], ◌∷◌, ◌++◌, Option, Some, None, Result}
use Rattle.zir_tree.specs.declared.ident.Ident.{Ident}
use Rattle.zir_tree.specs.declared.comp.Member as member
use Rattle.zir_tree.specs.declared.program.Prog.{Prog}
use Rattle.zir_grammar.specs.declared.stop.Stop.{Stop}
use Rattle.zir_tree.specs.declared.place.Place.{Place}
use Rattle.zir_tree.specs.declared.comp.Member.{Member}
use Rattle.zir_lex.specs.declared.token.Token.{Token}
use Rattle.zir_lex.specs.declared.token.Symbol.TheVariants.{LeftArrow, RightBrace, Semicolon}
use Rattle.zir_grammar.specs.Wants.{a_name, a_sign, if_found}
use Rattle.zir_grammar.specs.Parts.{
  Rest,
  either,
  reads,
  wants_sign,
  a_field,
  initial_of,
  a_chain,
  more_members,
  behind_semicolon,
}
use Rattle.zir_grammar.specs.Machine.{run}
use Rattle.zir_grammar.specs.Reading.{at_front, Leads, HasRoom}

-- a name and `<-` at the front, and what follows them
unfoldable pub binder_front : List Token → Option ((List ℕ × Place) × List Token)
binder_front ts =
    if_found (at_front a_name ts) (λ f. if_found (at_front (a_sign LeftArrow) f.1) (λ g. Some (f.0, g.1)) None) None

-- what is expected behind a member and the sign that ends it: more of them, or nothing where the block is closed
abbrev pub behind_member : {A : Type 0} → Bool → List Member → ℕ → (List Member → ℕ → Rest A) → Rest A
behind_member true done low k = k done low
behind_member false done low k = reads (more_members done low) k

-- what is expected behind members and one more with its height, and the sign that ends it
abbrev pub behind_one : {A : Type 0} → List Member → ℕ → (List Member → ℕ → Rest A) → Member → ℕ → Bool → Rest A
behind_one done low k m h closed = behind_member closed (done ++ m ∷ []) (max low h) k

-- the sign behind a component in a block: `}`, or `;` and perhaps `}`
abbrev pub a_member_end : {A : Type 0} → List Member → ℕ → (List Member → ℕ → Rest A) → Rest A
a_member_end done low k =
    either (a_sign RightBrace) (λ at. k done low) (a_sign Semicolon) (λ at. reads (behind_semicolon done low) k)

-- a variable behind its `var`
abbrev pub a_variable_behind : {A : Type 0} → Place → List Member → ℕ → (List Member → ℕ → Rest A) → Rest A
a_variable_behind at done low k =
    reads a_field (λ f h. reads (initial_of f at) (λ v g. wants_sign Semicolon
    (reads (more_members (done ++ member.Var v ∷ []) (max low g)) k)))

-- a component that a name is bound to, behind the `<-`
abbrev pub a_bound_behind : {A : Type 0} → Ident → List Member → ℕ → (List Member → ℕ → Rest A) → Rest A
a_bound_behind x done low k =
    reads (a_chain 2) (λ c h. wants_sign Semicolon
    (reads (more_members (done ++ member.Bind x c ∷ []) (max low (suc h))) k))

-- a component as a member
abbrev pub a_run : {A : Type 0} → List Member → ℕ → (List Member → ℕ → Rest A) → Rest A
a_run done low k = reads (a_chain 2) (λ c h. a_member_end (done ++ member.Run c ∷ []) (max low h) k)

-- A function reads a member behind any others: from its tokens the machine gets to where more are expected, or to what
-- is expected behind the block where that is closed; or it stops as the function did. The room is the greatest height
-- of the members.
abbrev pub ParsesBy : {X : Type 0} → (List Member → ℕ → (List Member → ℕ → Rest Prog) → Rest Prog) → ℕ → List Token
    → (X → Member × ℕ × Bool × List Token) → Result X Stop → Type 0
ParsesBy whole room tokens view result =
    (most : ℕ) (done : List Member) (low : ℕ) (k : List Member → ℕ → Rest Prog) → low ≤ room → HasRoom most k 1 room
    → Leads (λ x. run most (behind_one done low k (view x).0 (view x).1 (view x).2) (view x).3) result
    (run most (whole done low k) tokens)
