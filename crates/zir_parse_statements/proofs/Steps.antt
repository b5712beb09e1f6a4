-- The steps of functions that read parts, at the front of the tokens, and the room behind them.
use Rattle.std.proofs.Common.{◌≡◌, ◌≤◌, ◌<◌, ◌-◌, ℕ, suc, max, nat_le, true, false, List, [], ◌∷◌, length, Option, Some, None, Err, refl, sym, ap, subst, ◌∙◌, arith, if◌then◌else◌}
use Rattle.zir_lex.specs.declared.token.Token.{Token}
use Rattle.zir_tree.specs.declared.program.Prog.{Prog}
use Rattle.zir_grammar.specs.declared.error.ParseError.TheVariants as errors
use Rattle.zir_grammar.specs.Wants.{Want, Payload, token_of, told, if_found}
use Rattle.zir_grammar.specs.Parts.{Part, Tree, Rest, wants, either, reads, follow, entries, may_be_empty}
use Rattle.zir_grammar.specs.Machine.{lowest_tree, lowest, least, found, step, finish, run}
use Rattle.zir_grammar.specs.Reading.{at_front, HasRoom}
use Rattle.zir_grammar.proofs.Descent.{front_is, front_none, Next, run_next, told_found, taken, deep, by_token, same_test}
use Rattle.zir_grammar.proofs.Tables.{not_first}

-- ---- tokens

-- a token that the part begins with
pub begins : (most : ℕ) (part : Part) (k : Tree part → ℕ → Rest Prog) (w : Want) (ts : List Token) (p : Payload w) (rest : List Token) (r : Rest (Tree part))
    → at_front w ts ≡ Some (p, rest) → found (entries part) (token_of w p) ≡ Some r → nat_le (least (follow r k)) most ≡ true
    → run most (reads part k) ts ≡ run most (follow r k) rest
begins most part k w ts p rest r e is low = taken most part k w ts p rest r e (by_token (entries part) w p r is) low

-- a token that the part begins with, which is too deep
pub begins_deep : (most : ℕ) (part : Part) (k : Tree part → ℕ → Rest Prog) (w : Want) (ts : List Token) (p : Payload w) (rest : List Token) (r : Rest (Tree part))
    → at_front w ts ≡ Some (p, rest) → found (entries part) (token_of w p) ≡ Some r → nat_le (least (follow r k)) most ≡ false
    → run most (reads part k) ts ≡ Err (errors.TooDeep (length ts))
begins_deep most part k w ts p rest r e is high = deep most part k w ts p rest r e (by_token (entries part) w p r is) high

-- ---- one of two tokens

low_next : (most : ℕ) (r next : Rest Prog) (t : Token) (ts : List Token) → step r t ≡ Some next → nat_le (least next) most ≡ true
    → run most r (t ∷ ts) ≡ run most next ts
low_next most r next t ts is low =
    run_next most r t ts ∙ ap (λ o. Next most o ts) is ∙ ap (λ b. if b then run most next ts else Err (errors.TooDeep (suc (length ts)))) low

either_step : (w : Want) (f : Payload w → Rest Prog) (v : Want) (g : Payload v → Rest Prog) (t : Token) (p : Payload w) → told w t ≡ Some p
    → step (either w f v g) t ≡ Some (f p)
unfolding step
either_step w f v g t p e = told_found (told w t) (λ p. Some (f p)) (if_found (told v t) (λ p. Some (g p)) None) p e

either_passes : (w : Want) (f : Payload w → Rest Prog) (v : Want) (g : Payload v → Rest Prog) (t : Token) → told w t ≡ None
    → step (either w f v g) t ≡ step (wants v g) t
unfolding step
either_passes w f v g t e =
    not_first (told w t) (λ p. Some (f p)) (if_found (told v t) (λ p. Some (g p)) None) (if_found (told v t) (λ p. Some (g p)) None) e refl

either_end : (most : ℕ) (w : Want) (f : Payload w → Rest Prog) (v : Want) (g : Payload v → Rest Prog)
    → run most (either w f v g) [] ≡ run most (wants v g) []
unfolding run finish
either_end most w f v g = refl

-- the first of the two
pub either_first : (most : ℕ) (w : Want) (f : Payload w → Rest Prog) (v : Want) (g : Payload v → Rest Prog) (ts : List Token) (p : Payload w) (rest : List Token)
    → at_front w ts ≡ Some (p, rest) → nat_le (least (f p)) most ≡ true → run most (either w f v g) ts ≡ run most (f p) rest
either_first most w f v g ts p rest e low =
    let x = front_is w ts p rest e in
    ap (run most (either w f v g)) x.is ∙ low_next most (either w f v g) (f p) x.token rest (either_step w f v g x.token p x.tells) low

-- not the first, so the second has to come
pub either_second : (most : ℕ) (w : Want) (f : Payload w → Rest Prog) (v : Want) (g : Payload v → Rest Prog) (ts : List Token) → at_front w ts ≡ None
    → run most (either w f v g) ts ≡ run most (wants v g) ts
either_second most w f v g [] e = either_end most w f v g
either_second most w f v g (t ∷ ts) e =
    run_next most (either w f v g) t ts
    ∙ ap (λ o. Next most o ts) (either_passes w f v g t (front_none w t ts e)) ∙ sym (run_next most (wants v g) t ts)

-- ---- a part that begins with one token

told_follows : {A B : Type 0} (w : Want) (f : Payload w → Rest A) (k : A → ℕ → Rest B) (o : Option (Payload w))
    → if_found (if_found o (λ p. Some (f p)) None) (λ r. Some (follow r k)) None ≡ if_found o (λ p. Some (follow (f p) k)) None
told_follows w f k (Some p) = refl
told_follows w f k None = refl

only_step : (part : Part) (k : Tree part → ℕ → Rest Prog) (w : Want) (f : Payload w → Rest (Tree part)) (t : Token) → may_be_empty part ≡ false
    → found (entries part) t ≡ if_found (told w t) (λ p. Some (f p)) None → step (reads part k) t ≡ step (wants w (λ p. follow (f p) k)) t
unfolding step
only_step part k w f t no_empty is =
    ap (λ b. if_found (found (entries part) t) (λ r. Some (follow r k)) (if b then step (k (lowest_tree part) (lowest part)) t else None)) no_empty
    ∙ ap (λ o. if_found o (λ r. Some (follow r k)) None) is ∙ told_follows w f k (told w t)

only_end : (most : ℕ) (part : Part) (k : Tree part → ℕ → Rest Prog) (w : Want) (f : Payload w → Rest Prog) → may_be_empty part ≡ false
    → run most (reads part k) [] ≡ run most (wants w f) []
unfolding run finish
only_end most part k w f no_empty = ap (λ b. if b then finish (k (lowest_tree part) (lowest part)) else Err (errors.Syntax 0)) no_empty

-- a part whose only other beginnings do not stand there
pub only : (most : ℕ) (part : Part) (k : Tree part → ℕ → Rest Prog) (w : Want) (f : Payload w → Rest (Tree part)) (ts : List Token)
    → may_be_empty part ≡ false
    → ((t : Token) (us : List Token) → ts ≡ t ∷ us → found (entries part) t ≡ if_found (told w t) (λ p. Some (f p)) None)
    → run most (reads part k) ts ≡ run most (wants w (λ p. follow (f p) k)) ts
only most part k w f [] no_empty is = only_end most part k w (λ p. follow (f p) k) no_empty
only most part k w f (t ∷ ts) no_empty is =
    run_next most (reads part k) t ts
    ∙ ap (λ o. Next most o ts) (only_step part k w f t no_empty (is t ts refl)) ∙ sym (run_next most (wants w (λ p. follow (f p) k)) t ts)

-- what comes first does not stand at the front
pub passed : {A : Type 0} (v : Want) (g : Payload v → Rest A) (ts : List Token) (x y : Option (Rest A)) (t : Token) (us : List Token)
    → at_front v ts ≡ None → ts ≡ t ∷ us → x ≡ y
    → if_found (told v t) (λ p. Some (g p)) x ≡ y
passed v g ts x y t us none e is = not_first (told v t) (λ p. Some (g p)) x y (front_none v t us (subst (λ l. at_front v l ≡ None) e none)) is

-- ---- room

-- one level above
abbrev pub raised : {A B : Type 0} → (A → ℕ → Rest B) → A → ℕ → Rest B
raised k a h = k a (suc h)

pub room_at : {A : Type 0} (most low room : ℕ) (k : A → ℕ → Rest Prog) (a : A) (g h inner : ℕ) → HasRoom most k low room → low ≤ g
    → (g ≤ room → h ≤ inner) → (room < g → inner < h) → nat_le (least (k a g)) most ≡ nat_le h inner
room_at most low room k a g h inner has above f b = has a g above ∙ same_test g room h inner f b

-- a part of a whole that is one level higher
pub room_inside : {A : Type 0} (most room : ℕ) (k : A → ℕ → Rest Prog) (a : A) (h : ℕ) → HasRoom most k 1 room → 1 ≤ room
    → nat_le (least (k a (suc h))) most ≡ nat_le h (room - 1)
room_inside most room k a h has some = room_at most 1 room k a (suc h) h (room - 1) has (omega arith) (λ x. omega arith) (λ x. omega arith)

-- a part beside another in a whole that is one level higher
pub room_beside : {A : Type 0} (most own room low : ℕ) (k : A → ℕ → Rest Prog) (a : A) (h : ℕ) → HasRoom most k own room → own ≤ suc low → low < room
    → nat_le (least (k a (suc (max low h)))) most ≡ nat_le h (room - 1)
room_beside most own room low k a h has above below =
    room_at most own room k a (suc (max low h)) h (room - 1) has (omega arith) (λ x. omega arith) (λ x. omega arith)

-- a part beside another of the same level
pub room_among : {A : Type 0} (most room low : ℕ) (k : A → ℕ → Rest Prog) (a : A) (h : ℕ) → HasRoom most k 1 room → 1 ≤ h → low ≤ room
    → nat_le (least (k a (max low h))) most ≡ nat_le h room
room_among most room low k a h has some below = room_at most 1 room k a (max low h) h room has (omega arith) (λ x. omega arith) (λ x. omega arith)

-- a part before another of height one at least, in a whole that is one level higher
pub room_before : {A : Type 0} (most room : ℕ) (k : A → ℕ → Rest Prog) (a : A) (h : ℕ) → HasRoom most k 1 room → 2 ≤ room → 1 ≤ h
    → nat_le (least (k a (suc (max h 1)))) most ≡ nat_le h (room - 1)
room_before most room k a h has some own = room_at most 1 room k a (suc (max h 1)) h (room - 1) has (omega arith) (λ x. omega arith) (λ x. omega arith)

-- a part before another of the same level
pub room_first : {A : Type 0} (most room : ℕ) (k : A → ℕ → Rest Prog) (a : A) (h : ℕ) → HasRoom most k 1 room → 1 ≤ room → 1 ≤ h
    → nat_le (least (k a (max h 1))) most ≡ nat_le h room
room_first most room k a h has some own = room_at most 1 room k a (max h 1) h room has (omega arith) (λ x. omega arith) (λ x. omega arith)
