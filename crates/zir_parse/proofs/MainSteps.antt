-- The main component and its neighbours as they are read.
use Rattle.std.proofs.Common.{◌≡◌, ◌≤◌, ◌<◌, ◌-◌, ℕ, suc, max, List, [], ◌∷◌, length, Some, None, Ok, Err, refl, sym, ap, ◌∙◌, arith, subst}
use Rattle.zir_tree.specs.declared.place.Place.{Place}
use Rattle.zir_tree.specs.declared.comp.Comp.{Comp}
use Rattle.zir_tree.specs.declared.comp.Comp as comp
use Rattle.zir_tree.specs.declared.comp.Link.TheVariants as link
use Rattle.zir_tree.specs.declared.program.Prog.{Prog}
use Rattle.zir_lex.specs.declared.token.Token.{Token}
use Rattle.zir_lex.specs.declared.token.Keyword.TheVariants as keyword
use Rattle.zir_lex.specs.declared.token.Symbol.TheVariants as symbol
use Rattle.zir_grammar.specs.declared.error.ParseError.TheVariants as errors
use Rattle.zir_grammar.specs.Wants.{a_sign, a_word, told, if_found}
use Rattle.zir_grammar.specs.Parts.{
  Rest,
  Left,
  gives,
  reads,
  follow,
  done_with,
  a_chain,
  behind_main,
  behind_pipe,
  joined,
  joined_height,
  entries,
  pipe_entries,
}
use Rattle.zir_grammar.specs.Machine.{step, finish, run}
use Rattle.zir_grammar.specs.Reading.{at_front, HasRoom}
use Rattle.zir_grammar.proofs.Descent.{refused, taken, led, by_token, front_none, fits, same_test, Next, run_next}
use Rattle.zir_grammar.proofs.Tables.{not_first}
use Rattle.zir_parse.specs.Main.{After, a_main_chain, written, room_behind}
use Rattle.zir_parse.proofs.Steps.{begins, begins_deep}

-- the room of a part of the main chain with what stands to its left
abbrev pub beside : Left → After Prog → After Prog
beside left k t h = k t (joined_height left h)

-- behind a component to the right of a `>>>`
abbrev pub behind : {A : Type 0} → Left → Comp → ℕ → Place → After A → Comp → ℕ → Rest A
behind left c h at k d g = reads (behind_main left (comp.Pipe link.Serial c d at) (suc (max h g))) k

-- ---- `>>>`

pub pipe_begins : (most room : ℕ) (left : Left) (c : Comp) (h : ℕ) (k : After Prog) (ts : List Token) (at : Place) (rest : List Token)
    → at_front (a_sign symbol.Pipe) ts ≡ Some (at, rest) → HasRoom most (beside left k) 1 room → 1 ≤ h → h ≤ room
    → run most (reads (behind_main left c h) k) ts ≡ run most (reads (behind_pipe left c h at) k) rest
pipe_begins most room left c h k ts at rest e has some within =
    taken most (behind_main left c h) k (a_sign symbol.Pipe) ts at rest (reads (behind_pipe left c h at) done_with) e
    (by_token (entries (behind_main left c h)) (a_sign symbol.Pipe) at _ refl) (fits most (beside left k) 1 room _ h has some within)

pub write_begins : (most room : ℕ) (left : Left) (c : Comp) (h : ℕ) (at : Place) (k : After Prog) (ts : List Token) (here : Place) (rest : List Token)
    → at_front (a_word keyword.Write) ts ≡ Some (here, rest) → HasRoom most (beside left k) 1 room → 1 ≤ h → h ≤ room
    → run most (reads (behind_pipe left c h at) k) ts ≡ run most (written (joined left c) (joined_height left h) k) rest
write_begins most room left c h at k ts here rest e has some within =
    taken most (behind_pipe left c h at) k (a_word keyword.Write) ts here rest (written (joined left c) (joined_height left h) done_with) e
    (by_token (pipe_entries left c h at) (a_word keyword.Write) here _ refl) (fits most (beside left k) 1 room _ h has some within)

pub chain_goes_on : (most : ℕ) (left : Left) (c : Comp) (h : ℕ) (at : Place) (k : After Prog) (ts : List Token) → at_front (a_word keyword.Write) ts ≡ None
    → run most (reads (behind_pipe left c h at) k) ts ≡ run most (reads (a_chain 0) (behind left c h at k)) ts
chain_goes_on most left c h at k ts none =
    led most (behind_pipe left c h at) (a_chain 0) (behind left c h at done_with) k ts refl refl
    (λ t us is. not_first (told (a_word keyword.Write) t) _ _ _ (front_none (a_word keyword.Write) t us (subst
    (λ l. at_front (a_word keyword.Write) l ≡ None) is none)) refl)

behind_height : (room h g : ℕ) → h ≤ room → 1 ≤ g → (suc (max h g) ≤ room → g ≤ room_behind room h) × (room < suc (max h g) → room_behind room h < g)
behind_height room h g within some = (λ x. grind (arith, x, within, some), λ x. grind (arith, x, within, some))

-- the room of a component behind a `>>>`
pub pipe_room : (most room : ℕ) (left : Left) (c : Comp) (h : ℕ) (at : Place) (k : After Prog) → HasRoom most (beside left k) 1 room → h ≤ room
    → HasRoom most (behind left c h at k) 1 (room_behind room h)
pipe_room most room left c h at k has within d g some =
    let x = behind_height room h g within some in
    has _ (suc (max h g)) (omega arith) ∙ same_test (suc (max h g)) room g (room_behind room h) x.0 x.1

-- what is joined so is not too high
pub pipe_high : (room h g : ℕ) → h ≤ room → 1 ≤ g → g ≤ room_behind room h → suc (max h g) ≤ room
pipe_high room h g within some small = grind (arith, within, some, small)

-- ---- what is behind the chain where no `>>>` is

sign_step : (left : Left) (c : Comp) (h : ℕ) (k : After Prog) (t : Token) → told (a_sign symbol.Pipe) t ≡ None
    → step (reads (behind_main left c h) k) t ≡ step (reads (behind_main None (joined left c) (joined_height left h)) k) t
unfolding step
sign_step left c h k t none =
    let other = if_found (told (a_sign symbol.ParallelPipe) t)
    (λ at. Some (reads (a_chain 0) (λ d g. reads (behind_main (Some (joined left c, joined_height left h, at)) d g) done_with))) None in
    ap (λ o. if_found o (λ r. Some (follow r k)) None)
    (not_first (told (a_sign symbol.Pipe) t) (λ at. Some (reads (behind_pipe left c h at) done_with)) other other none refl
    ∙ sym (not_first (told (a_sign symbol.Pipe) t) (λ at. Some (reads (behind_pipe None (joined left c) (joined_height left h) at) done_with)) other other none refl))

sign_end : (most : ℕ) (left : Left) (c : Comp) (h : ℕ) (k : After Prog)
    → run most (reads (behind_main left c h) k) [] ≡ run most (reads (behind_main None (joined left c) (joined_height left h)) k) []
unfolding run finish
sign_end most left c h k = refl

-- no `>>>` behind the chain: it is as if nothing stood to the left of the last `|>>>|`
pub no_more : (most : ℕ) (left : Left) (c : Comp) (h : ℕ) (k : After Prog) (ts : List Token) → at_front (a_sign symbol.Pipe) ts ≡ None
    → run most (reads (behind_main left c h) k) ts ≡ run most (reads (behind_main None (joined left c) (joined_height left h)) k) ts
no_more most left c h k [] none = sign_end most left c h k
no_more most left c h k (t ∷ ts) none =
    run_next most (reads (behind_main left c h) k) t ts
    ∙ ap (λ o. Next most o ts) (sign_step left c h k t (front_none (a_sign symbol.Pipe) t ts none))
    ∙ sym (run_next most (reads (behind_main None (joined left c) (joined_height left h)) k) t ts)

pub no_sign : (most : ℕ) (left : Left) (c : Comp) (h : ℕ) (k : After Prog) (ts : List Token) → at_front (a_sign symbol.ParallelPipe) ts ≡ None
    → at_front (a_sign symbol.Pipe) ts ≡ None
    → run most (reads (behind_main left c h) k) ts ≡ Err (errors.Syntax (length ts))
no_sign most left c h k ts one two = refused most (behind_main left c h) k ts refl (two, (one, tt))

-- ---- `|>>>|`

pub parallel_fits : (most room : ℕ) (c : Comp) (h : ℕ) (k : After Prog) (ts : List Token) (at : Place) (rest : List Token)
    → at_front (a_sign symbol.ParallelPipe) ts ≡ Some (at, rest) → HasRoom most k 1 room → 1 ≤ h → h < room
    → run most (reads (behind_main None c h) k) ts ≡ run most (a_main_chain (Some (c, h, at)) k) rest
parallel_fits most room c h k ts at rest e has some below =
    begins most 1 room (behind_main None c h) k (a_sign symbol.ParallelPipe) ts at rest (a_main_chain (Some (c, h, at)) done_with) e refl has
    (omega arith) (omega (arith, some, below))

pub parallel_deep : (most room : ℕ) (c : Comp) (h : ℕ) (k : After Prog) (ts : List Token) (at : Place) (rest : List Token)
    → at_front (a_sign symbol.ParallelPipe) ts ≡ Some (at, rest) → HasRoom most k 1 room → room ≤ h
    → run most (reads (behind_main None c h) k) ts ≡ Err (errors.TooDeep (length ts))
parallel_deep most room c h k ts at rest e has above =
    begins_deep most 1 room (behind_main None c h) k (a_sign symbol.ParallelPipe) ts at rest (a_main_chain (Some (c, h, at)) done_with) e refl has
    (omega arith) (omega (arith, above))

pub parallel_room : (most room : ℕ) (c : Comp) (h : ℕ) (at : Place) (k : After Prog) → HasRoom most k 1 room → h < room
    → HasRoom most (beside (Some (c, h, at)) k) 1 (room - 1)
parallel_room most room c h at k has below d g some =
    has _ (suc (max h g)) (omega arith) ∙ same_test (suc (max h g)) room g (room - 1) (λ x. omega arith) (λ x. omega arith)

-- ---- the end

pub program_ends : (most : ℕ) (p : Prog) (h : ℕ) (ts : List Token) → length ts ≡ 0 → run most (gives p h) ts ≡ Ok p
unfolding run finish
program_ends most p h [] none = refl
program_ends most p h (t ∷ ts) none = absurd (cc none)

pub program_goes_on : (most : ℕ) (p : Prog) (h : ℕ) (ts : List Token) → 0 < length ts → run most (gives p h) ts ≡ Err (errors.Syntax (length ts))
unfolding run step
program_goes_on most p h [] some = absurd (omega (arith, some))
program_goes_on most p h (t ∷ ts) some = refl
