-- Steps at the front of the tokens: a token that a part takes or does not, and one of two kinds.
use Rattle.std.proofs.Common.{◌≡◌, ◌≤◌, ◌<◌, ◌-◌, ℕ, suc, nat_le, true, false, List, [], ◌∷◌, length, Option, Some, None, Err, refl, sym, ap, ◌∙◌, if◌then◌else◌, arith}
use Rattle.zir_lex.specs.declared.token.Token.{Token}
use Rattle.zir_tree.specs.declared.program.Prog.{Prog}
use Rattle.zir_grammar.specs.declared.error.ParseError.TheVariants as errors
use Rattle.zir_grammar.specs.Wants.{Want, Payload, token_of, told, if_found}
use Rattle.zir_grammar.specs.Parts.{Part, Tree, Rest, wants, either, reads, follow, Entry, lead, entries, may_be_empty}
use Rattle.zir_grammar.specs.Machine.{lowest_tree, lowest, least, found, step, finish, run}
use Rattle.zir_grammar.specs.Reading.{at_front, HasRoom}
use Rattle.zir_grammar.proofs.Descent.{front_is, front_none, Next, run_next, told_found, taken, deep, fits, too_high, same_test, by_token}
use Rattle.zir_grammar.proofs.Follow.{lowest_of, least_follow}
use Rattle.zir_grammar.proofs.Tables.{not_first}

-- ---- a first token that is known by its kind

fitting : {A : Type 0} (most low room : ℕ) (r : Rest A) (k : A → ℕ → Rest Prog) → HasRoom most k low room → low ≤ least r → least r ≤ room
    → nat_le (least (follow r k)) most ≡ true
fitting most low room r k has above within =
    ap (λ n. nat_le n most) (least_follow r k) ∙ fits most k low room (lowest_of r) (least r) has above within

exceeding : {A : Type 0} (most low room : ℕ) (r : Rest A) (k : A → ℕ → Rest Prog) → HasRoom most k low room → low ≤ least r → room < least r
    → nat_le (least (follow r k)) most ≡ false
exceeding most low room r k has above beyond =
    ap (λ n. nat_le n most) (least_follow r k) ∙ too_high most k low room (lowest_of r) (least r) has above beyond

-- a token that the part begins with, and what is expected behind it has room
pub begins : (most low room : ℕ) (part : Part) (k : Tree part → ℕ → Rest Prog) (w : Want) (ts : List Token) (p : Payload w) (rest : List Token)
    (r : Rest (Tree part)) → at_front w ts ≡ Some (p, rest) → found (entries part) (token_of w p) ≡ Some r → HasRoom most k low room → low ≤ least r
    → least r ≤ room
    → run most (reads part k) ts ≡ run most (follow r k) rest
begins most low room part k w ts p rest r e is has above within =
    taken most part k w ts p rest r e (by_token (entries part) w p r is) (fitting most low room r k has above within)

-- a token that the part begins with, and what is expected behind it has no room
pub begins_deep : (most low room : ℕ) (part : Part) (k : Tree part → ℕ → Rest Prog) (w : Want) (ts : List Token) (p : Payload w) (rest : List Token)
    (r : Rest (Tree part)) → at_front w ts ≡ Some (p, rest) → found (entries part) (token_of w p) ≡ Some r → HasRoom most k low room → low ≤ least r
    → room < least r
    → run most (reads part k) ts ≡ Err (errors.TooDeep (length ts))
begins_deep most low room part k w ts p rest r e is has above beyond =
    deep most part k w ts p rest r e (by_token (entries part) w p r is) (exceeding most low room r k has above beyond)

-- ---- a first token that is looked up in the table

part_step : (part : Part) (k : Tree part → ℕ → Rest Prog) (t : Token) (r : Rest (Tree part)) → found (entries part) t ≡ Some r
    → step (reads part k) t ≡ Some (follow r k)
unfolding step
part_step part k t r e = told_found (found (entries part) t)
    (λ r. Some (follow r k)) (if may_be_empty part then step (k (lowest_tree part) (lowest part)) t else None) r e

part_no_step : (part : Part) (k : Tree part → ℕ → Rest Prog) (t : Token) → found (entries part) t ≡ None
    → step (reads part k) t ≡ (if may_be_empty part then step (k (lowest_tree part) (lowest part)) t else None)
unfolding step
part_no_step part k t e =
    not_first (found (entries part) t) (λ r. Some (follow r k)) (if may_be_empty part then step (k (lowest_tree part) (lowest part)) t else None)
    (if may_be_empty part then step (k (lowest_tree part) (lowest part)) t else None) e refl

pub takes : (most low room : ℕ) (part : Part) (k : Tree part → ℕ → Rest Prog) (t : Token) (ts : List Token) (r : Rest (Tree part))
    → found (entries part) t ≡ Some r → HasRoom most k low room → low ≤ least r → least r ≤ room
    → run most (reads part k) (t ∷ ts) ≡ run most (follow r k) ts
takes most low room part k t ts r is has above within =
    run_next most (reads part k) t ts ∙ ap (λ o. Next most o ts) (part_step part k t r is)
    ∙ ap (λ b. if b then run most (follow r k) ts else Err (errors.TooDeep (suc (length ts)))) (fitting most low room r k has above within)

pub takes_deep : (most low room : ℕ) (part : Part) (k : Tree part → ℕ → Rest Prog) (t : Token) (ts : List Token) (r : Rest (Tree part))
    → found (entries part) t ≡ Some r → HasRoom most k low room → low ≤ least r → room < least r
    → run most (reads part k) (t ∷ ts) ≡ Err (errors.TooDeep (suc (length ts)))
takes_deep most low room part k t ts r is has above beyond =
    run_next most (reads part k) t ts ∙ ap (λ o. Next most o ts) (part_step part k t r is)
    ∙ ap (λ b. if b then run most (follow r k) ts else Err (errors.TooDeep (suc (length ts)))) (exceeding most low room r k has above beyond)

part_end : (most : ℕ) (part : Part) (k : Tree part → ℕ → Rest Prog)
    → run most (reads part k) [] ≡ (if may_be_empty part then run most (k (lowest_tree part) (lowest part)) [] else Err (errors.Syntax 0))
unfolding run finish
part_end most part k = refl

-- no token that the part begins with, and the part is not empty
pub stops : (most : ℕ) (part : Part) (k : Tree part → ℕ → Rest Prog) (ts : List Token) → may_be_empty part ≡ false
    → ((t : Token) (us : List Token) → ts ≡ t ∷ us → found (entries part) t ≡ None)
    → run most (reads part k) ts ≡ Err (errors.Syntax (length ts))
stops most part k [] no_empty none =
    part_end most part k ∙ ap (λ b. if b then run most (k (lowest_tree part) (lowest part)) [] else Err (errors.Syntax 0)) no_empty
stops most part k (t ∷ ts) no_empty none =
    run_next most (reads part k) t ts
    ∙ ap (λ o. Next most o ts) (part_no_step part k t (none t ts refl) ∙ ap
    (λ b. if b then step (k (lowest_tree part) (lowest part)) t else None) no_empty)

-- no token that the part begins with, and the part is empty
pub passes : (most : ℕ) (part : Part) (k : Tree part → ℕ → Rest Prog) (ts : List Token) → may_be_empty part ≡ true
    → ((t : Token) (us : List Token) → ts ≡ t ∷ us → found (entries part) t ≡ None)
    → run most (reads part k) ts ≡ run most (k (lowest_tree part) (lowest part)) ts
passes most part k [] empty none =
    part_end most part k ∙ ap (λ b. if b then run most (k (lowest_tree part) (lowest part)) [] else Err (errors.Syntax 0)) empty
passes most part k (t ∷ ts) empty none =
    run_next most (reads part k) t ts
    ∙ ap (λ o. Next most o ts) (part_no_step part k t (none t ts refl) ∙ ap
    (λ b. if b then step (k (lowest_tree part) (lowest part)) t else None) empty)
    ∙ sym (run_next most (k (lowest_tree part) (lowest part)) t ts)

first_none : {A B : Type 0} (e : Entry A) (f : A → ℕ → Rest B) (o : Option (Payload e.want)) (x : Option (Rest A)) (y : Option (Rest B))
    → (x ≡ None → y ≡ None) → if_found o (λ p. Some (e.next p)) x ≡ None → if_found o (λ p. Some (follow (e.next p) f)) y ≡ None
first_none e f (Some p) x y g is = absurd (cc is)
first_none e f None x y g is = g is

-- what no entry takes, no entry takes that leads on
pub lead_none : {A B : Type 0} (es : List (Entry A)) (f : A → ℕ → Rest B) (t : Token) → found es t ≡ None → found (lead es f) t ≡ None
lead_none [] f t is = refl
lead_none (e ∷ es) f t is = first_none e f (told e.want t) (found es t) (found (lead es f) t) (λ x. lead_none es f t x) is

-- ---- a token of one of two kinds

first_only : {A B : Type 0} (o : Option A) (f : A → Option B) (x : Option B) → x ≡ None → if_found o f x ≡ if_found o f None
first_only (Some p) f x e = refl
first_only None f x e = e

either_step_first : (w : Want) (f : Payload w → Rest Prog) (v : Want) (g : Payload v → Rest Prog) (t : Token) → told v t ≡ None
    → step (either w f v g) t ≡ step (wants w f) t
unfolding step
either_step_first w f v g t e =
    first_only (told w t) (λ p. Some (f p)) (if_found (told v t) (λ p. Some (g p)) None) (not_first (told v t) (λ p. Some (g p)) None None e refl)

either_step_second : (w : Want) (f : Payload w → Rest Prog) (v : Want) (g : Payload v → Rest Prog) (t : Token) → told w t ≡ None
    → step (either w f v g) t ≡ step (wants v g) t
unfolding step
either_step_second w f v g t e =
    not_first (told w t) (λ p. Some (f p)) (if_found (told v t) (λ p. Some (g p)) None) (if_found (told v t) (λ p. Some (g p)) None) e refl

either_end : (most : ℕ) (w : Want) (f : Payload w → Rest Prog) (v : Want) (g : Payload v → Rest Prog) (u : Want) (j : Payload u → Rest Prog)
    → run most (either w f v g) [] ≡ run most (wants u j) []
unfolding run finish
either_end most w f v g u j = refl

-- no token of the second kind
pub only_first : (most : ℕ) (w : Want) (f : Payload w → Rest Prog) (v : Want) (g : Payload v → Rest Prog) (ts : List Token) → at_front v ts ≡ None
    → run most (either w f v g) ts ≡ run most (wants w f) ts
only_first most w f v g [] e = either_end most w f v g w f
only_first most w f v g (t ∷ ts) e =
    run_next most (either w f v g) t ts ∙ ap (λ o. Next most o ts) (either_step_first w f v g t (front_none v t ts e))
    ∙ sym (run_next most (wants w f) t ts)

-- no token of the first kind
pub only_second : (most : ℕ) (w : Want) (f : Payload w → Rest Prog) (v : Want) (g : Payload v → Rest Prog) (ts : List Token) → at_front w ts ≡ None
    → run most (either w f v g) ts ≡ run most (wants v g) ts
only_second most w f v g [] e = either_end most w f v g v g
only_second most w f v g (t ∷ ts) e =
    run_next most (either w f v g) t ts ∙ ap (λ o. Next most o ts) (either_step_second w f v g t (front_none w t ts e))
    ∙ sym (run_next most (wants v g) t ts)

none_told : (v : Want) (t : Token) (ts : List Token) → told v t ≡ None → at_front v (t ∷ ts) ≡ None
unfolding at_front
none_told v t ts e = not_first (told v t) (λ p. Some (p, ts)) None None e refl

-- a token of one kind is none of another
pub other_kind : (w v : Want) (ts : List Token) (p : Payload w) (rest : List Token) → at_front w ts ≡ Some (p, rest) → told v (token_of w p) ≡ None
    → at_front v ts ≡ None
other_kind w v ts p rest e none =
    let x = front_is w ts p rest e in
    ap (at_front v) x.is ∙ none_told v x.token rest (ap (told v) x.stands ∙ none)

want_step : (w : Want) (f : Payload w → Rest Prog) (t : Token) (p : Payload w) → told w t ≡ Some p → step (wants w f) t ≡ Some (f p)
unfolding step
want_step w f t p e = told_found (told w t) (λ p. Some (f p)) None p e

-- a token that is wanted, behind which all is too high
pub wanted_deep : (most : ℕ) (w : Want) (f : Payload w → Rest Prog) (ts : List Token) (p : Payload w) (rest : List Token) → at_front w ts ≡ Some (p, rest)
    → nat_le (least (f p)) most ≡ false
    → run most (wants w f) ts ≡ Err (errors.TooDeep (length ts))
wanted_deep most w f ts p rest e high =
    let x = front_is w ts p rest e in
    ap (run most (wants w f)) x.is ∙ run_next most (wants w f) x.token rest ∙ ap (λ o. Next most o rest) (want_step w f x.token p x.tells)
    ∙ ap (λ b. if b then run most (f p) rest else Err (errors.TooDeep (suc (length rest)))) high
    ∙ ap (λ l. Err (errors.TooDeep (length l))) (sym x.is)

-- ---- room

-- a part inside of one that is one level higher
pub inside : {A B : Type 0} (most low room own : ℕ) (k : B → ℕ → Rest Prog) (g : A → B) → HasRoom most k low room → 1 ≤ room → low ≤ suc own
    → HasRoom most (λ a h. k (g a) (suc h)) own (room - 1)
inside most low room own k g has some own_above a h above =
    has (g a) (suc h) (omega (arith, above, own_above)) ∙ same_test (suc h) room h (room - 1) (λ x. omega (arith, x, some)) (λ x. omega (arith, x, some))

-- a room that is written in another way
pub same_room : {A : Type 0} (most low : ℕ) (k : A → ℕ → Rest Prog) (room other : ℕ) → HasRoom most k low room → room ≡ other → HasRoom most k low other
same_room most low k room other has e a h above = has a h above ∙ ap (nat_le h) e
