-- Members of a block as they are read.
use Rattle.std.proofs.Common.{◌≡◌, ◌≤◌, ◌<◌, ◌+◌, ◌-◌, ℕ, suc, max, nat_le, true, List, [], ◌∷◌, ◌++◌, length, Option, Some, None, Err, refl, sym, ap, ◌∙◌, arith, subst}
use Rattle.zir_tree.specs.declared.place.Place.{Place}
use Rattle.zir_tree.specs.declared.ident.Ident.{Ident}
use Rattle.zir_tree.specs.declared.comp.Comp.{Comp}
use Rattle.zir_tree.specs.declared.comp.Comp as comp
use Rattle.zir_tree.specs.declared.comp.Member.{Member}
use Rattle.zir_tree.specs.declared.comp.Member as member
use Rattle.zir_tree.specs.declared.program.Prog.{Prog}
use Rattle.zir_lex.specs.declared.token.Token.{Token}
use Rattle.zir_lex.specs.declared.token.Keyword.TheVariants as keyword
use Rattle.zir_lex.specs.declared.token.Symbol.TheVariants as symbol
use Rattle.zir_grammar.specs.declared.error.ParseError.TheVariants as errors
use Rattle.zir_grammar.specs.Grammar.{ident}
use Rattle.zir_grammar.specs.Wants.{a_sign, a_word, a_name, told, if_found}
use Rattle.zir_grammar.specs.Parts.{Rest, gives, wants, reads, follow, wants_sign, some_args, links_of, a_chain, more_members, behind_semicolon, entries, done_with, member_named, member_end}
use Rattle.zir_grammar.specs.Machine.{least, found, step, finish, run}
use Rattle.zir_grammar.specs.Reading.{at_front, HasRoom}
use Rattle.zir_grammar.proofs.Descent.{taken, wanted, led, by_token, front_is, front_none, Next, run_next, fits, too_high, same_test}
use Rattle.zir_grammar.proofs.Tables.{not_first}
use Rattle.zir_parse.specs.Members.{binder_front, a_member_end, a_variable_behind, a_bound_behind, a_run}
use Rattle.zir_parse.proofs.Steps.{begins, only_first, only_second, other_kind, wanted_deep}

-- ---- what a member begins with

pub variable_begins : (most room : ℕ) (done : List Member) (low : ℕ) (k : List Member → ℕ → Rest Prog) (ts : List Token) (at : Place) (rest : List Token)
    → at_front (a_word keyword.Var) ts ≡ Some (at, rest) → HasRoom most k 1 room → low ≤ room → 1 ≤ room
    → run most (reads (more_members done low) k) ts ≡ run most (a_variable_behind at done low k) rest
variable_begins most room done low k ts at rest e has small some =
    begins most 1 room (more_members done low) k (a_word keyword.Var) ts at rest (a_variable_behind at done low done_with) e refl has (omega arith) (omega arith)

-- a name and `<-`
record Bound (ts : List Token) (x : List ℕ) (at : Place) (rest : List Token) : Type 0 where
  pub middle : List Token
  pub arrow : Place
  pub named : at_front a_name ts ≡ Some ((x, at), middle)
  pub points : at_front (a_sign symbol.LeftArrow) middle ≡ Some (arrow, rest)

behind_name_is : (p : List ℕ × Place) (mid : List Token) (o : Option (Place × List Token)) (x : List ℕ) (at : Place) (rest : List Token)
    → ◌≡◌ {A = Option ((List ℕ × Place) × List Token)} (if_found o (λ g. Some (p, g.1)) None) (Some ((x, at), rest))
    → (arrow : Place) × (p ≡ (x, at)) × (o ≡ Some (arrow, rest))
behind_name_is p mid (Some (arrow, ts)) x at rest e =
    let all : (p, ts) ≡ ((x, at), rest) = cc e in
    (arrow, ap (λ (y : (List ℕ × Place) × List Token). y.0) all, ap (λ (y : (List ℕ × Place) × List Token). Some (arrow, y.1)) all)
behind_name_is p mid None x at rest e = absurd (cc e)

binder_of : (ts : List Token) (o : Option ((List ℕ × Place) × List Token)) (x : List ℕ) (at : Place) (rest : List Token) → at_front a_name ts ≡ o
    → ◌≡◌ {A = Option ((List ℕ × Place) × List Token)}
    (if_found o (λ f. if_found (at_front (a_sign symbol.LeftArrow) f.1) (λ g. Some (f.0, g.1)) None) None) (Some ((x, at), rest)) → Bound ts x at rest
binder_of ts (Some (p, mid)) x at rest is e =
    let y = behind_name_is p mid (at_front (a_sign symbol.LeftArrow) mid) x at rest e in
    record { middle = mid; arrow = y.0; named = is ∙ ap (λ q. Some (q, mid)) y.1; points = y.2 }
binder_of ts None x at rest is e = absurd (cc e)

binder_is : (ts : List Token) (x : List ℕ) (at : Place) (rest : List Token) → binder_front ts ≡ Some ((x, at), rest) → Bound ts x at rest
unfolding binder_front
binder_is ts x at rest e = binder_of ts (at_front a_name ts) x at rest refl e

-- behind the name of a member
abbrev named_rest : List Member → ℕ → List ℕ → Place → (List Member → ℕ → Rest Prog) → Rest Prog
named_rest done low x at k = follow (member_named done low x at) k

named_begins : (most room : ℕ) (done : List Member) (low : ℕ) (k : List Member → ℕ → Rest Prog) (ts : List Token) (x : List ℕ) (at : Place)
    (mid : List Token) → at_front a_name ts ≡ Some ((x, at), mid) → HasRoom most k 1 room → low ≤ room → 1 ≤ room
    → run most (reads (more_members done low) k) ts ≡ run most (named_rest done low x at k) mid
named_begins most room done low k ts x at mid e has small some =
    begins most 1 room (more_members done low) k a_name ts (x, at) mid (member_named done low x at) e refl has (omega arith) (omega arith)

-- behind the name of a call that is a member
abbrev call_rest : List Member → ℕ → List ℕ → Place → (List Member → ℕ → Rest Prog) → Rest Prog
call_rest done low x at k =
    reads some_args (λ es h. reads (links_of 0 (comp.Call (ident x at) 0 es) (suc h))
    (λ c g. reads (links_of 1 c g) (λ d f. a_member_end (done ++ member.Run d ∷ []) (max low f) k)))

arrow_begins : (most : ℕ) (done : List Member) (low : ℕ) (k : List Member → ℕ → Rest Prog) (ts : List Token) (x : List ℕ) (at arrow : Place)
    (rest : List Token) → at_front (a_sign symbol.LeftArrow) ts ≡ Some (arrow, rest)
    → run most (named_rest done low x at k) ts ≡ run most (wants (a_sign symbol.LeftArrow) (λ p. a_bound_behind (ident x at) done low k)) ts
arrow_begins most done low k ts x at arrow rest e =
    only_second most (a_sign symbol.LeftParenthesis) (λ p. call_rest done low x at k) (a_sign symbol.LeftArrow)
    (λ p. a_bound_behind (ident x at) done low k) ts (other_kind (a_sign symbol.LeftArrow) (a_sign symbol.LeftParenthesis) ts arrow rest e refl)

pub bound_begins : (most room : ℕ) (done : List Member) (low : ℕ) (k : List Member → ℕ → Rest Prog) (ts : List Token) (x : List ℕ) (at : Place)
    (rest : List Token) → binder_front ts ≡ Some ((x, at), rest) → HasRoom most k 1 room → low ≤ room → 2 ≤ room
    → run most (reads (more_members done low) k) ts ≡ run most (a_bound_behind (ident x at) done low k) rest
bound_begins most room done low k ts x at rest e has small two =
    let b = binder_is ts x at rest e in
    named_begins most room done low k ts x at b.middle b.named has small (omega (arith, two))
    ∙ arrow_begins most done low k b.middle x at b.arrow rest b.points
    ∙ wanted most (a_sign symbol.LeftArrow) (λ p. a_bound_behind (ident x at) done low k) b.middle b.arrow rest b.points
    (fits most k 1 room _ (max (max low 2) 1) has (omega arith) (omega (arith, small, two)))

pub bound_deep : (most room : ℕ) (done : List Member) (low : ℕ) (k : List Member → ℕ → Rest Prog) (ts : List Token) (x : List ℕ) (at : Place)
    (rest : List Token) → binder_front ts ≡ Some ((x, at), rest) → HasRoom most k 1 room → low ≤ room → 1 ≤ room → room < 2
    → run most (reads (more_members done low) k) ts ≡ Err (errors.TooDeep (length rest + 1))
bound_deep most room done low k ts x at rest e has small some one =
    let b = binder_is ts x at rest e in
    let f = front_is (a_sign symbol.LeftArrow) b.middle b.arrow rest b.points in
    let count : length b.middle ≡ length rest + 1 = ap length f.is ∙ omega arith in
    named_begins most room done low k ts x at b.middle b.named has small some ∙ arrow_begins most done low k b.middle x at b.arrow rest b.points
    ∙ wanted_deep most (a_sign symbol.LeftArrow) (λ p. a_bound_behind (ident x at) done low k) b.middle b.arrow rest b.points
    (too_high most k 1 room _ (max (max low 2) 1) has (omega arith) (omega (arith, one)))
    ∙ ap (λ n. Err (errors.TooDeep n)) count

-- ---- a component as a member

pub run_room : (most room : ℕ) (done : List Member) (low : ℕ) (k : List Member → ℕ → Rest Prog) → HasRoom most k 1 room → low ≤ room
    → HasRoom most (λ c h. a_member_end (done ++ member.Run c ∷ []) (max low h) k) 1 room
run_room most room done low k has small c h some =
    has (done ++ member.Run c ∷ []) (max low h) (omega arith) ∙ same_test (max low h) room h room (λ x. omega arith) (λ x. omega arith)

no_arrow : (p : List ℕ × Place) (mid : List Token) (o : Option (Place × List Token)) → at_front (a_sign symbol.LeftArrow) mid ≡ o
    → ◌≡◌ {A = Option ((List ℕ × Place) × List Token)} (if_found o (λ g. Some (p, g.1)) None) None → at_front (a_sign symbol.LeftArrow) mid ≡ None
no_arrow p mid (Some g) is e = absurd (cc e)
no_arrow p mid None is e = is

call_begins : (most room : ℕ) (done : List Member) (low : ℕ) (k : List Member → ℕ → Rest Prog) (ts : List Token) (x : List ℕ) (at : Place)
    (mid : List Token) → at_front a_name ts ≡ Some ((x, at), mid) → at_front (a_sign symbol.LeftArrow) mid ≡ None → HasRoom most k 1 room → low ≤ room
    → 1 ≤ room
    → run most (reads (more_members done low) k) ts ≡ run most (a_run done low k) ts
call_begins most room done low k ts x at mid e none has small some =
    named_begins most room done low k ts x at mid e has small some
    ∙ only_first most (a_sign symbol.LeftParenthesis) (λ p. call_rest done low x at k) (a_sign symbol.LeftArrow)
    (λ p. a_bound_behind (ident x at) done low k) mid none
    ∙ sym (begins most 1 room (a_chain 2) (λ c h. a_member_end (done ++ member.Run c ∷ []) (max low h) k) a_name ts (x, at) mid
    (wants_sign symbol.LeftParenthesis (reads some_args (λ es h. reads (links_of 0 (comp.Call (ident x at) 0 es) (suc h))
    (λ c g. reads (links_of 1 c g) done_with)))) e refl (run_room most room done low k has small) (omega arith) (omega (arith, some)))

not_named : (most : ℕ) (done : List Member) (low : ℕ) (k : List Member → ℕ → Rest Prog) (ts : List Token) → at_front a_name ts ≡ None
    → at_front (a_word keyword.Var) ts ≡ None
    → run most (reads (more_members done low) k) ts ≡ run most (a_run done low k) ts
not_named most done low k ts no_name no_var =
    led most (more_members done low) (a_chain 2) (member_end done low) k ts refl refl
    (λ t us is. not_first (told a_name t) _ _ _ (front_none a_name t us (subst (λ l. at_front a_name l ≡ None) is no_name))
    (not_first (told (a_word keyword.Var) t) _ _ _ (front_none (a_word keyword.Var) t us (subst
    (λ l. at_front (a_word keyword.Var) l ≡ None) is no_var)) refl))

run_by_name : (most room : ℕ) (done : List Member) (low : ℕ) (k : List Member → ℕ → Rest Prog) (ts : List Token)
    (o : Option ((List ℕ × Place) × List Token)) → at_front a_name ts ≡ o → at_front (a_word keyword.Var) ts ≡ None
    → ◌≡◌ {A = Option ((List ℕ × Place) × List Token)}
    (if_found o (λ f. if_found (at_front (a_sign symbol.LeftArrow) f.1) (λ g. Some (f.0, g.1)) None) None) None → HasRoom most k 1 room → low ≤ room
    → 1 ≤ room
    → run most (reads (more_members done low) k) ts ≡ run most (a_run done low k) ts
run_by_name most room done low k ts (Some ((x, at), mid)) is no_var e has small some =
    call_begins most room done low k ts x at mid is (no_arrow (x, at) mid (at_front (a_sign symbol.LeftArrow) mid) refl e) has small some
run_by_name most room done low k ts None is no_var e has small some = not_named most done low k ts is no_var

-- neither a variable nor a name that is bound: a component
pub run_begins : (most room : ℕ) (done : List Member) (low : ℕ) (k : List Member → ℕ → Rest Prog) (ts : List Token)
    → at_front (a_word keyword.Var) ts ≡ None → binder_front ts ≡ None → HasRoom most k 1 room → low ≤ room → 1 ≤ room
    → run most (reads (more_members done low) k) ts ≡ run most (a_run done low k) ts
unfolding binder_front
run_begins most room done low k ts no_var e has small some = run_by_name most room done low k ts (at_front a_name ts) refl no_var e has small some

-- ---- the end of a member

-- `}` behind a component
pub closed_first : (most : ℕ) (done : List Member) (low : ℕ) (k : List Member → ℕ → Rest Prog) (ts : List Token) (at : Place) (rest : List Token)
    → at_front (a_sign symbol.RightBrace) ts ≡ Some (at, rest) → nat_le (least (k done low)) most ≡ true
    → run most (a_member_end done low k) ts ≡ run most (k done low) rest
closed_first most done low k ts at rest e fit =
    only_first most (a_sign symbol.RightBrace) (λ p. k done low) (a_sign symbol.Semicolon) (λ p. reads (behind_semicolon done low) k) ts
    (other_kind (a_sign symbol.RightBrace) (a_sign symbol.Semicolon) ts at rest e refl)
    ∙ wanted most (a_sign symbol.RightBrace) (λ p. k done low) ts at rest e fit

-- no `}` behind a component: a `;` has to stand there
pub not_closed : (most : ℕ) (done : List Member) (low : ℕ) (k : List Member → ℕ → Rest Prog) (ts : List Token)
    → at_front (a_sign symbol.RightBrace) ts ≡ None
    → run most (a_member_end done low k) ts ≡ run most (wants_sign symbol.Semicolon (reads (behind_semicolon done low) k)) ts
not_closed most done low k ts none =
    only_second most (a_sign symbol.RightBrace) (λ p. k done low) (a_sign symbol.Semicolon) (λ p. reads (behind_semicolon done low) k) ts none

-- `}` behind `;`
pub closed_then : (most : ℕ) (done : List Member) (low : ℕ) (k : List Member → ℕ → Rest Prog) (ts : List Token) (at : Place) (rest : List Token)
    → at_front (a_sign symbol.RightBrace) ts ≡ Some (at, rest) → nat_le (least (k done low)) most ≡ true
    → run most (reads (behind_semicolon done low) k) ts ≡ run most (k done low) rest
closed_then most done low k ts at rest e fit =
    taken most (behind_semicolon done low) k (a_sign symbol.RightBrace) ts at rest (gives done low) e
    (by_token (entries (behind_semicolon done low)) (a_sign symbol.RightBrace) at _ refl) fit

stop_step : (done : List Member) (low : ℕ) (k : List Member → ℕ → Rest Prog) (t : Token) → told (a_sign symbol.RightBrace) t ≡ None
    → step (reads (behind_semicolon done low) k) t ≡ step (reads (more_members done low) k) t
unfolding step
stop_step done low k t none =
    ap (λ o. if_found o (λ r. Some (follow r k)) None)
    (not_first (told (a_sign symbol.RightBrace) t) (λ p. Some (gives done low)) (found (entries (more_members done low)) t)
    (found (entries (more_members done low)) t) none refl)

stop_end : (most : ℕ) (done : List Member) (low : ℕ) (k : List Member → ℕ → Rest Prog)
    → run most (reads (behind_semicolon done low) k) [] ≡ run most (reads (more_members done low) k) []
unfolding run finish
stop_end most done low k = refl

-- no `}` behind `;`: more members
pub goes_on : (most : ℕ) (done : List Member) (low : ℕ) (k : List Member → ℕ → Rest Prog) (ts : List Token)
    → at_front (a_sign symbol.RightBrace) ts ≡ None
    → run most (reads (behind_semicolon done low) k) ts ≡ run most (reads (more_members done low) k) ts
goes_on most done low k [] none = stop_end most done low k
goes_on most done low k (t ∷ ts) none =
    run_next most (reads (behind_semicolon done low) k) t ts
    ∙ ap (λ o. Next most o ts) (stop_step done low k t (front_none (a_sign symbol.RightBrace) t ts none))
    ∙ sym (run_next most (reads (more_members done low) k) t ts)

-- ---- room

-- more members behind some
pub more_fit : (most room : ℕ) (done : List Member) (low : ℕ) (k : List Member → ℕ → Rest Prog) → HasRoom most k 1 room → low ≤ room → 1 ≤ room
    → nat_le (least (reads (more_members done low) k)) most ≡ true
more_fit most room done low k has small some = fits most k 1 room _ (max low 1) has (omega arith) (omega (arith, small, some))

pub variable_room : (most room : ℕ) (done : List Member) (low : ℕ) (k : List Member → ℕ → Rest Prog) → HasRoom most k 1 room → low ≤ room → 1 ≤ room
    → HasRoom most (λ v h. wants_sign symbol.Semicolon (reads (more_members (done ++ member.Var v ∷ []) (max low h)) k)) 1 room
variable_room most room done low k has small some v h above =
    has _ (max (max low h) 1) (omega arith) ∙ same_test (max (max low h) 1) room h room (λ x. omega arith) (λ x. omega arith)

pub bound_room : (most room : ℕ) (x : Ident) (done : List Member) (low : ℕ) (k : List Member → ℕ → Rest Prog) → HasRoom most k 1 room
    → low ≤ room → 2 ≤ room
    → HasRoom most (λ c h. wants_sign symbol.Semicolon (reads (more_members (done ++ member.Bind x c ∷ []) (max low (suc h))) k)) 1 (room - 1)
bound_room most room x done low k has small two c h above =
    has _ (max (max low (suc h)) 1) (omega arith) ∙ same_test (max (max low (suc h)) 1) room h (room - 1) (λ y. omega arith) (λ y. omega arith)
