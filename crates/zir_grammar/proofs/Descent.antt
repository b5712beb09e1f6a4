-- The steps of the machine as functions that read make them, each at the front of the tokens.
use Rattle.std.proofs.Common.{◌≡◌, ◌≤◌, ◌<◌, ℕ, suc, nat_le, Bool, true, false, List, [], ◌∷◌, length, Option, Some, None, Result, Ok, Err, refl, sym, ap, ◌∙◌, if◌then◌else◌}
use Rattle.std.proofs.lemmas.Bool.{le-leb, lt-leb, leb-true, leb-false}
use Rattle.zir_lex.specs.declared.token.Token.{Token}
use Rattle.zir_tree.specs.declared.program.Prog.{Prog}
use Rattle.zir_grammar.specs.declared.error.ParseError.{ParseError}
use Rattle.zir_grammar.specs.declared.error.ParseError.TheVariants as errors
use Rattle.zir_grammar.specs.declared.stop.Stop.{Stop}
use Rattle.zir_grammar.specs.declared.stop.Stop.TheVariants.{Syntax, TooDeep, Memory}
use Rattle.zir_grammar.specs.Wants.{Want, Payload, Fits, token_of, told, if_found}
use Rattle.zir_grammar.specs.Parts.{Part, Tree, Rest, gives, wants, either, reads, follow, Entry, lead, entries, may_be_empty}
use Rattle.zir_grammar.specs.Machine.{lowest_tree, lowest, least, found, step, finish, run}
use Rattle.zir_grammar.specs.Reading.{at_front, IsStop, Leads, HasRoom}
use Rattle.zir_grammar.proofs.Meaning.{AllEntries}
use Rattle.zir_grammar.proofs.Tokens.{told_is}
use Rattle.zir_grammar.proofs.Follow.{lowest_of, least_follow}
use Rattle.zir_grammar.proofs.Tables.{not_first}

-- what stops a part stops the whole
pub stop_leads : (stop : Stop) (a b : Result Prog ParseError) → b ≡ a → IsStop stop a → IsStop stop b
stop_leads (Syntax n) a b is x = is ∙ x
stop_leads (TooDeep n) a b is x = is ∙ x
stop_leads Memory a b is x = tt

-- ---- the front

front_at : (w : Want) (t : Token) (ts : List Token) (o : Option (Payload w)) (p : Payload w) (rest : List Token) → told w t ≡ o
    → ◌≡◌ {A = Option (Payload w × List Token)} (if_found o (λ q. Some (q, ts)) None) (Some (p, rest)) → (told w t ≡ Some p) × (ts ≡ rest)
front_at w t ts (Some q) p rest is e =
    let both : (q, ts) ≡ (p, rest) = cc e in
    (is ∙ ap (λ (x : Payload w × List Token). Some x.0) both, ap (λ (x : Payload w × List Token). x.1) both)
front_at w t ts None p rest is e = absurd (cc e)

-- the tokens begin with one that tells this
pub record Front (w : Want) (ts : List Token) (p : Payload w) (rest : List Token) : Type 0 where
  pub token : Token
  pub is : ts ≡ token ∷ rest
  pub tells : told w token ≡ Some p
  pub fits : Fits w p
  pub stands : token ≡ token_of w p

pub front_is : (w : Want) (ts : List Token) (p : Payload w) (rest : List Token) → at_front w ts ≡ Some (p, rest) → Front w ts p rest
unfolding at_front
front_is w [] p rest e = absurd (cc e)
front_is w (t ∷ ts) p rest e =
    let x = front_at w t ts (told w t) p rest refl e in
    let y = told_is w t p x.0 in
    record { token = t; is = ap (λ l. t ∷ l) x.1; tells = x.0; fits = y.0; stands = y.1 }

none_at : (w : Want) (t : Token) (ts : List Token) (o : Option (Payload w)) → told w t ≡ o
    → ◌≡◌ {A = Option (Payload w × List Token)} (if_found o (λ q. Some (q, ts)) None) None → told w t ≡ None
none_at w t ts (Some q) is e = absurd (cc e)
none_at w t ts None is e = is

pub front_none : (w : Want) (t : Token) (ts : List Token) → at_front w (t ∷ ts) ≡ None → told w t ≡ None
unfolding at_front
front_none w t ts e = none_at w t ts (told w t) refl e

-- ---- one step

-- the rest of the tokens behind one of them
abbrev pub Next : ℕ → Option (Rest Prog) → List Token → Result Prog ParseError
Next most o ts = if_found o
    (λ next. if nat_le (least next) most then run most next ts else Err (errors.TooDeep (suc (length ts)))) (Err (errors.Syntax (suc (length ts))))

pub run_next : (most : ℕ) (r : Rest Prog) (t : Token) (ts : List Token) → run most r (t ∷ ts) ≡ Next most (step r t) ts
unfolding run
run_next most r t ts = refl

low_next : (most : ℕ) (r next : Rest Prog) (t : Token) (ts : List Token) → step r t ≡ Some next → nat_le (least next) most ≡ true
    → run most r (t ∷ ts) ≡ run most next ts
low_next most r next t ts is low = run_next most r t ts ∙ ap (λ o. Next most o ts) is ∙ ap
    (λ b. if b then run most next ts else Err (errors.TooDeep (suc (length ts)))) low

high_next : (most : ℕ) (r next : Rest Prog) (t : Token) (ts : List Token) → step r t ≡ Some next → nat_le (least next) most ≡ false
    → run most r (t ∷ ts) ≡ Err (errors.TooDeep (suc (length ts)))
high_next most r next t ts is high = run_next most r t ts ∙ ap (λ o. Next most o ts) is ∙ ap
    (λ b. if b then run most next ts else Err (errors.TooDeep (suc (length ts)))) high

no_next : (most : ℕ) (r : Rest Prog) (t : Token) (ts : List Token) → step r t ≡ None → run most r (t ∷ ts) ≡ Err (errors.Syntax (suc (length ts)))
no_next most r t ts is = run_next most r t ts ∙ ap (λ o. Next most o ts) is

pub told_found : {A B : Type 0} (o : Option A) (f : A → Option B) (x : Option B) (p : A) → o ≡ Some p → if_found o f x ≡ f p
told_found (Some q) f x p e = let same : q ≡ p = cc e in ap f same
told_found None f x p e = absurd (cc e)

-- ---- a token that is wanted

want_step : (w : Want) (f : Payload w → Rest Prog) (t : Token) (p : Payload w) → told w t ≡ Some p → step (wants w f) t ≡ Some (f p)
unfolding step
want_step w f t p e = told_found (told w t) (λ p. Some (f p)) None p e

want_no_step : (w : Want) (f : Payload w → Rest Prog) (t : Token) → told w t ≡ None → step (wants w f) t ≡ None
unfolding step
want_no_step w f t e = not_first (told w t) (λ p. Some (f p)) None None e refl

want_end : (most : ℕ) (w : Want) (f : Payload w → Rest Prog) → run most (wants w f) [] ≡ Err (errors.Syntax 0)
unfolding run finish
want_end most w f = refl

pub wanted : (most : ℕ) (w : Want) (f : Payload w → Rest Prog) (ts : List Token) (p : Payload w) (rest : List Token) → at_front w ts ≡ Some (p, rest)
    → nat_le (least (f p)) most ≡ true
    → run most (wants w f) ts ≡ run most (f p) rest
wanted most w f ts p rest e low =
    let x = front_is w ts p rest e in
    ap (run most (wants w f)) x.is ∙ low_next most (wants w f) (f p) x.token rest (want_step w f x.token p x.tells) low

pub unwanted : (most : ℕ) (w : Want) (f : Payload w → Rest Prog) (ts : List Token) → at_front w ts ≡ None
    → run most (wants w f) ts ≡ Err (errors.Syntax (length ts))
unwanted most w f [] e = want_end most w f
unwanted most w f (t ∷ ts) e = no_next most (wants w f) t ts (want_no_step w f t (front_none w t ts e))

-- ---- a part

part_step : (part : Part) (k : Tree part → ℕ → Rest Prog) (t : Token) (r : Rest (Tree part)) → found (entries part) t ≡ Some r
    → step (reads part k) t ≡ Some (follow r k)
unfolding step
part_step part k t r e = told_found (found (entries part) t)
    (λ r. Some (follow r k)) (if may_be_empty part then step (k (lowest_tree part) (lowest part)) t else None) r e

-- a token that the part begins with
pub taken : (most : ℕ) (part : Part) (k : Tree part → ℕ
    → Rest Prog) (w : Want) (ts : List Token) (p : Payload w) (rest : List Token) (r : Rest (Tree part)) → at_front w ts ≡ Some (p, rest)
    → ((t : Token) → told w t ≡ Some p → found (entries part) t ≡ Some r) → nat_le (least (follow r k)) most ≡ true
    → run most (reads part k) ts ≡ run most (follow r k) rest
taken most part k w ts p rest r e is low =
    let x = front_is w ts p rest e in
    ap (run most (reads part k)) x.is ∙ low_next most (reads part k) (follow r k) x.token rest (part_step part k x.token r (is x.token x.tells)) low

-- a token that the part begins with, which is too deep
pub deep : (most : ℕ) (part : Part) (k : Tree part → ℕ
    → Rest Prog) (w : Want) (ts : List Token) (p : Payload w) (rest : List Token) (r : Rest (Tree part)) → at_front w ts ≡ Some (p, rest)
    → ((t : Token) → told w t ≡ Some p → found (entries part) t ≡ Some r) → nat_le (least (follow r k)) most ≡ false
    → run most (reads part k) ts ≡ Err (errors.TooDeep (length ts))
deep most part k w ts p rest r e is high =
    let x = front_is w ts p rest e in
    ap (run most (reads part k)) x.is ∙ high_next most (reads part k) (follow r k) x.token rest (part_step part k x.token r (is x.token x.tells)) high
    ∙ ap (λ l. Err (errors.TooDeep (length l))) (sym x.is)

-- no entry begins at the front
abbrev pub NoneAt : {A : Type 0} → List (Entry A) → List Token → Type 0
NoneAt es ts = AllEntries (λ e. at_front e.want ts ≡ None) es

none_found : {A : Type 0} (es : List (Entry A)) (t : Token) (ts : List Token) → NoneAt es (t ∷ ts) → found es t ≡ None
none_found [] t ts x = refl
none_found (e ∷ es) t ts x = not_first (told e.want t) (λ p. Some (e.next p)) (found es t) None (front_none e.want t ts x.0) (none_found es t ts x.1)

not_begun : (part : Part) (k : Tree part → ℕ → Rest Prog) (t : Token) → found (entries part) t ≡ None
    → step (reads part k) t ≡ (if may_be_empty part then step (k (lowest_tree part) (lowest part)) t else None)
unfolding step
not_begun part k t e =
    not_first (found (entries part) t) (λ r. Some (follow r k)) (if may_be_empty part then step (k (lowest_tree part) (lowest part)) t else None)
    (if may_be_empty part then step (k (lowest_tree part) (lowest part)) t else None) e refl

part_end : (most : ℕ) (part : Part) (k : Tree part → ℕ → Rest Prog)
    → run most (reads part k) [] ≡ (if may_be_empty part then run most (k (lowest_tree part) (lowest part)) [] else Err (errors.Syntax 0))
unfolding run finish
part_end most part k = refl

-- nothing that the part begins with stands there
pub refused : (most : ℕ) (part : Part) (k : Tree part → ℕ → Rest Prog) (ts : List Token) → may_be_empty part ≡ false → NoneAt (entries part) ts
    → run most (reads part k) ts ≡ Err (errors.Syntax (length ts))
refused most part k [] no_empty x = part_end most part k ∙ ap
    (λ b. if b then run most (k (lowest_tree part) (lowest part)) [] else Err (errors.Syntax 0)) no_empty
refused most part k (t ∷ ts) no_empty x =
    no_next most (reads part k) t ts
    (not_begun part k t (none_found (entries part) t ts x) ∙ ap (λ b. if b then step (k (lowest_tree part) (lowest part)) t else None) no_empty)

-- a part that is empty, since nothing that it begins with stands there
pub left_out : (most : ℕ) (part : Part) (k : Tree part → ℕ → Rest Prog) (ts : List Token) → may_be_empty part ≡ true → NoneAt (entries part) ts
    → run most (reads part k) ts ≡ run most (k (lowest_tree part) (lowest part)) ts
left_out most part k [] is x = part_end most part k ∙ ap (λ b. if b then run most (k (lowest_tree part) (lowest part)) [] else Err (errors.Syntax 0)) is
left_out most part k (t ∷ ts) is x =
    run_next most (reads part k) t ts
    ∙ ap (λ o. Next most o ts) (not_begun part k t (none_found (entries part) t ts x) ∙ ap
    (λ b. if b then step (k (lowest_tree part) (lowest part)) t else None) is)
    ∙ sym (run_next most (k (lowest_tree part) (lowest part)) t ts)

-- ---- a part that begins with another

pub follow_follow : {A B C : Type 0} (r : Rest A) (f : A → ℕ → Rest B) (k : B → ℕ → Rest C) → follow (follow r f) k ≡ follow r (λ a h. follow (f a h) k)
follow_follow (gives a h) f k = refl
follow_follow (wants w g) f k = λ i. wants w (λ p. follow_follow (g p) f k i)
follow_follow (either w g v l) f k = λ i. either w (λ p. follow_follow (g p) f k i) v (λ p. follow_follow (l p) f k i)
follow_follow (reads part g) f k = λ i. reads part (λ a h. follow_follow (g a h) f k i)

lead_step : {A B : Type 0} (es : List (Entry A)) (f : A → ℕ → Rest B) (k : B → ℕ → Rest Prog) (t : Token)
    → if_found (found (lead es f) t) (λ r. Some (follow r k)) None ≡ if_found (found es t) (λ r. Some (follow r (λ a h. follow (f a h) k))) None
lead_step [] f k t = refl
lead_step {A = A} {B = B} (e ∷ es) f k t = first (told e.want t) (lead_step es f k t)
  where
    first : (o : Option (Payload e.want))
        → if_found (found (lead es f) t) (λ r. Some (follow r k)) None ≡ if_found (found es t) (λ r. Some (follow r (λ a h. follow (f a h) k))) None
        → if_found (if_found o (λ p. Some (follow (e.next p) f)) (found (lead es f) t)) (λ r. Some (follow r k)) None
        ≡ if_found (if_found o (λ p. Some (e.next p)) (found es t)) (λ r. Some (follow r (λ a h. follow (f a h) k))) None
    first (Some p) is = ap Some (follow_follow (e.next p) f k)
    first None is = is

-- the step of a part that leads on from another
abbrev pub Leading : (part inner : Part) → (Tree inner → ℕ → Rest (Tree part)) → Type 0
Leading part inner f = (may_be_empty part ≡ false) × (may_be_empty inner ≡ false) × ((t : Token) → found (entries part) t ≡ found (lead (entries inner) f) t)

begun_step : (part : Part) (k : Tree part → ℕ → Rest Prog) (t : Token) → may_be_empty part ≡ false
    → step (reads part k) t ≡ if_found (found (entries part) t) (λ r. Some (follow r k)) None
unfolding step
begun_step part k t no_empty =
    ap (λ b. if_found (found (entries part) t) (λ r. Some (follow r k)) (if b then step (k (lowest_tree part) (lowest part)) t else None)) no_empty

lead_first : (part inner : Part) (f : Tree inner → ℕ → Rest (Tree part)) (k : Tree part → ℕ → Rest Prog) (t : Token) → may_be_empty part ≡ false
    → may_be_empty inner ≡ false
    → found (entries part) t ≡ found (lead (entries inner) f) t → step (reads part k) t ≡ step (reads inner (λ a h. follow (f a h) k)) t
lead_first part inner f k t one two is =
    begun_step part k t one ∙ ap (λ o. if_found o (λ r. Some (follow r k)) None) is ∙ lead_step (entries inner) f k t ∙ sym (begun_step inner
    (λ a h. follow (f a h) k) t two)

-- a part that begins with another, before any tokens of which the first is that of the other
pub led : (most : ℕ) (part inner : Part) (f : Tree inner → ℕ → Rest (Tree part)) (k : Tree part → ℕ → Rest Prog) (ts : List Token)
    → may_be_empty part ≡ false → may_be_empty inner ≡ false
    → ((t : Token) (us : List Token) → ts ≡ t ∷ us → found (entries part) t ≡ found (lead (entries inner) f) t)
    → run most (reads part k) ts ≡ run most (reads inner (λ a h. follow (f a h) k)) ts
led most part inner f k [] one two is =
    part_end most part k ∙ ap (λ b. if b then run most (k (lowest_tree part) (lowest part)) [] else Err (errors.Syntax 0)) one
    ∙ sym (part_end most inner (λ a h. follow (f a h) k)
    ∙ ap (λ b. if b then run most (follow (f (lowest_tree inner) (lowest inner)) k) [] else Err (errors.Syntax 0)) two)
led most part inner f k (t ∷ ts) one two is =
    run_next most (reads part k) t ts ∙ ap (λ o. Next most o ts) (lead_first part inner f k t one two (is t ts refl)) ∙ sym (run_next most
    (reads inner (λ a h. follow (f a h) k)) t ts)

-- ---- room

-- what fits in the room, and what does not
pub fits : {A : Type 0} (most : ℕ) (k : A → ℕ → Rest Prog) (low room : ℕ) (a : A) (h : ℕ) → HasRoom most k low room → low ≤ h → h ≤ room
    → nat_le (least (k a h)) most ≡ true
fits most k low room a h has above within = has a h above ∙ le-leb h room within

pub too_high : {A : Type 0} (most : ℕ) (k : A → ℕ → Rest Prog) (low room : ℕ) (a : A) (h : ℕ) → HasRoom most k low room → low ≤ h → room < h
    → nat_le (least (k a h)) most ≡ false
too_high most k low room a h has above beyond = has a h above ∙ lt-leb h room beyond

same_bool : (x y : Bool) → (x ≡ true → y ≡ true) → (x ≡ false → y ≡ false) → x ≡ y
same_bool true y f g = sym (f refl)
same_bool false y f g = sym (g refl)

pub same_test : (a b c d : ℕ) → (a ≤ b → c ≤ d) → (b < a → d < c) → nat_le a b ≡ nat_le c d
same_test a b c d f g = same_bool (nat_le a b) (nat_le c d) (λ e. le-leb c d (f (leb-true a b e))) (λ e. lt-leb c d (g (leb-false a b e)))

-- the room of a part whose height makes a whole of that height
pub room_of : {A B : Type 0} (most : ℕ) (k : B → ℕ → Rest Prog) (low room : ℕ) (f : A → ℕ → Rest B) (own inner : ℕ) → HasRoom most k low room
    → ((a : A) (h : ℕ) → own ≤ h → (low ≤ least (f a h)) × (least (f a h) ≤ room → h ≤ inner) × (room < least (f a h) → inner < h))
    → HasRoom most (λ a h. follow (f a h) k) own inner
room_of most k low room f own inner has is a h above =
    let x = is a h above in
    ap (λ n. nat_le n most) (least_follow (f a h) k) ∙ has (lowest_of (f a h)) (least (f a h)) x.0 ∙ same_test (least (f a h)) room h inner x.1 x.2

-- the entry that the token of a kind takes
pub by_token : {A : Type 0} (es : List (Entry A)) (w : Want) (p : Payload w) (r : Rest A) → found es (token_of w p) ≡ Some r → (t : Token)
    → told w t ≡ Some p → found es t ≡ Some r
by_token es w p r is t e = ap (found es) (told_is w t p e).1 ∙ is

-- what leads to an answer leads to one that is the same
pub leads_on : {X : Type 0} (onward : X → Result Prog ParseError) (r : Result X Stop) (a b : Result Prog ParseError) → b ≡ a → Leads onward r a
    → Leads onward r b
leads_on onward (Ok x) a b is y = is ∙ y
leads_on onward (Err stop) a b is y = stop_leads stop a b is y
