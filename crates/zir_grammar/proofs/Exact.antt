-- One token: what is read with it from what is expected is what is read from what is expected then.
use Rattle.std.proofs.Common.{◌≡◌, ℕ, Bool, true, false, List, [], ◌∷◌, Option, Some, None, ◌⊎◌, inl, inr, refl, sym, ap, ◌∙◌, subst, if◌then◌else◌}
use Rattle.zir_lex.specs.declared.token.Token.{Token}
use Rattle.zir_grammar.specs.Wants.{Want, Payload, Fits, token_of, told, if_found}
use Rattle.zir_grammar.specs.Parts.{Part, Tree, Rest, gives, wants, either, reads, follow, Entry, entries, may_be_empty}
use Rattle.zir_grammar.specs.Machine.{lowest_tree, lowest, found, step}
use Rattle.zir_grammar.proofs.Meaning.{IsPart, Reads, Wanted, AllEntries}
use Rattle.zir_grammar.proofs.Tokens.{told_is, told_back}
use Rattle.zir_grammar.proofs.Sound.{Tokens, everything, follows, EntriesAvoid, Avoids, Sound}
use Rattle.zir_grammar.proofs.Follow.{sound_follow, follow_forth, follow_back}
use Rattle.zir_grammar.proofs.Entries.{EntryReads, EntrySound, EntryFollows, Opens, opened, passed}
use Rattle.zir_grammar.proofs.Forms.{entries_read, entries_sound, entries_follow, empty_read, opens_part}

-- ---- the entry that a token takes

-- an entry with this is taken by the token
pub record Picked {A : Type 0} (P : Entry A → Type 0) (t : Token) (r : Rest A) : Type 0 where
  pub entry : Entry A
  pub payload : Payload entry.want
  pub has : P entry
  pub fits : Fits entry.want payload
  pub is : t ≡ token_of entry.want payload
  pub next : r ≡ entry.next payload

pick_first : {A : Type 0} (P : Entry A → Type 0) (e : Entry A) (es : List (Entry A)) (t : Token) (r : Rest A) (o : Option (Payload e.want))
    → told e.want t ≡ o → P e
    → (found es t ≡ Some r → Picked P t r) → if_found o (λ p. Some (e.next p)) (found es t) ≡ Some r → Picked P t r
pick_first P e es t r (Some p) is has f x =
    let w = told_is e.want t p is in record { entry = e; payload = p; has = has; fits = w.0; is = w.1; next = cc x }
pick_first P e es t r None is has f x = f x

pub pick : {A : Type 0} (P : Entry A → Type 0) (es : List (Entry A)) (t : Token) (r : Rest A) → AllEntries P es → found es t ≡ Some r → Picked P t r
pick P [] t r all x = absurd (cc x)
pick P (e ∷ es) t r all x = pick_first P e es t r (told e.want t) refl all.0 (λ y. pick P es t r all.1 y) x

-- ---- tokens that are not taken

not_told : (bad : Tokens) (w : Want) (t : Token) (o : Option (Payload w)) → told w t ≡ o → ((p : Payload w) → Fits w p → bad (token_of w p) ≡ false)
    → bad t ≡ true → told w t ≡ None
not_told bad w t None is x b = is
not_told bad w t (Some p) is x b =
    let y = told_is w t p is in
    let no_token : bad t ≡ false = ap bad y.1 ∙ x p y.0 in
    absurd (cc (b, no_token))

pub not_found : {A : Type 0} (bad : Tokens) (es : List (Entry A)) (t : Token) → EntriesAvoid bad es → bad t ≡ true → found es t ≡ None
not_found bad [] t x b = refl
not_found bad (e ∷ es) t x b = rw (not_told bad e.want t (told e.want t) refl x.0 b) (not_found bad es t x.1 b)

if_empty : {A : Type 0} (b : Bool) (o : Option (Rest A)) → (b ≡ true → o ≡ None) → (if b then o else None) ≡ None
if_empty true o f = f refl
if_empty false o f = refl

pub avoids_step : {A : Type 0} (after bad : Tokens) (r : Rest A) (t : Token) → Avoids after bad r → bad t ≡ true → step r t ≡ None
unfolding step
avoids_step after bad (gives a h) t x b = refl
avoids_step after bad (wants w f) t x b = rw (not_told bad w t (told w t) refl x b) refl
avoids_step after bad (either w f v g) t x b = rw (not_told bad w t (told w t) refl x.0 b, not_told bad v t (told v t) refl x.1 b) refl
avoids_step after bad (reads part f) t x b =
    rw (not_found bad (entries part) t x.0 b) (if_empty (may_be_empty part) (step (f (lowest_tree part) (lowest part)) t)
    (λ e. avoids_step after bad (f (lowest_tree part) (lowest part)) t (x.1 e) b))

-- ---- what is come to stays in step

abbrev pub Kept : {A : Type 0} → Option (Rest A) → Type 0
Kept None = Unit {0}
Kept (Some r) = Sound everything r

kept_told : {A : Type 0} (w : Want) (f : Payload w → Rest A) (o : Option (Payload w)) (other : Option (Rest A)) → ((p : Payload w)
    → Sound everything (f p)) → Kept other
    → Kept (if_found o (λ p. Some (f p)) other)
kept_told w f None other x y = y
kept_told w f (Some p) other x y = x p

kept_found : {A : Type 0} (part : Part) (f : Tree part → ℕ → Rest A) (t : Token) (o : Option (Rest (Tree part))) (other : Option (Rest A))
    → found (entries part) t ≡ o
    → Sound everything (reads part f) → Kept other → Kept (if_found o (λ r. Some (follow r f)) other)
kept_found part f t None other is x y = y
kept_found part f t (Some r) other is x y =
    let k = pick (EntrySound part) (entries part) t r (entries_sound part) is in
    sound_follow everything (follows part) r f (subst (Sound (follows part)) (sym k.next) (k.has k.payload)) x.0 x.1 x.2

kept_empty : {A : Type 0} (b : Bool) (o : Option (Rest A)) → Kept o → Kept (if b then o else None)
kept_empty true o x = x
kept_empty false o x = tt

pub step_kept : {A : Type 0} (r : Rest A) (t : Token) → Sound everything r → Kept (step r t)
unfolding step
step_kept (gives a h) t x = tt
step_kept (wants w f) t x = kept_told w f (told w t) None x.1 tt
step_kept (either w f v g) t x = kept_told w f (told w t) (if_found (told v t) (λ p. Some (g p)) None) x.1 (kept_told v g (told v t) None x.3 tt)
step_kept (reads part f) t x =
    kept_found part f t (found (entries part) t) (if may_be_empty part then step (f (lowest_tree part) (lowest part)) t else None) refl x
    (kept_empty (may_be_empty part) (step (f (lowest_tree part) (lowest part)) t) (step_kept (f (lowest_tree part) (lowest part)) t (x.0
    (lowest_tree part) (lowest part))))

-- ---- one token

-- what is read from what may be expected
abbrev pub Goes : {A : Type 0} → Option (Rest A) → A → ℕ → List Token → Type 0
Goes None a h ts = ⊥
Goes (Some r) a h ts = Reads r a h ts []

head_is : (t u : Token) (ts us : List Token) → t ∷ ts ≡ u ∷ us → (t ≡ u) × (ts ≡ us)
head_is t u ts us e = (cc e, cc e)

goes_wanted : {A : Type 0} (w : Want) (f : Payload w → Rest A) (a : A) (h : ℕ) (t : Token) (ts : List Token) (other : Option (Rest A))
    → Wanted w (λ p mid. Reads (f p) a h mid []) (t ∷ ts) → Goes (if_found (told w t) (λ p. Some (f p)) other) a h ts
goes_wanted w f a h t ts other x =
    let i = head_is t (token_of w x.0) ts x.1 x.3 in
    rw (ap (told w) i.0 ∙ told_back w x.0 x.2) (subst (λ l. Reads (f x.0) a h l []) (sym i.1) x.4)

goes_second : {A : Type 0} (w v : Want) (f : Payload w → Rest A) (g : Payload v → Rest A) (a : A) (h : ℕ) (t : Token) (ts : List Token)
    → ((p : Payload v) → Fits v p → told w (token_of v p) ≡ None) → Wanted v (λ p mid. Reads (g p) a h mid []) (t ∷ ts)
    → Goes (if_found (told w t) (λ p. Some (f p)) (if_found (told v t) (λ p. Some (g p)) None)) a h ts
goes_second w v f g a h t ts other x =
    let i = head_is t (token_of v x.0) ts x.1 x.3 in
    rw (ap (told w) i.0 ∙ other x.0 x.2) (goes_wanted v g a h t ts None x)

-- a part that is empty, where the token is not one that it begins with
goes_empty : {A : Type 0} (part : Part) (f : Tree part → ℕ → Rest A) (a : A) (h : ℕ) (t : Token) (ts : List Token) (o : Option (Rest (Tree part)))
    → found (entries part) t ≡ o
    → may_be_empty part ≡ true → Avoids everything (follows part) (f (lowest_tree part) (lowest part))
    → Goes (step (f (lowest_tree part) (lowest part)) t) a h ts
    → Goes (if_found o (λ r. Some (follow r f)) (if may_be_empty part then step (f (lowest_tree part) (lowest part)) t else None)) a h ts
goes_empty part f a h t ts None is e x y = rw e y
goes_empty part f a h t ts (Some r) is e x y =
    let k = pick (EntryFollows part) (entries part) t r (entries_follow part e) is in
    let b : follows part t ≡ true = ap (follows part) k.is ∙ k.has k.payload k.fits in
    absurd (subst (λ o. Goes o a h ts) (avoids_step everything (follows part) (f (lowest_tree part) (lowest part)) t x b) y)

-- the part takes the token or is empty
goes_part : {A : Type 0} (part : Part) (f : Tree part → ℕ
    → Rest A) (a : A) (h : ℕ) (t : Token) (ts mid : List Token) (b : Tree part) (g : ℕ) (whole : List Token) → whole ≡ t ∷ ts
    → Opens part b g whole mid → Reads (f b g) a h mid [] → Avoids everything (follows part) (f (lowest_tree part) (lowest part))
    → (Reads (f (lowest_tree part) (lowest part)) a h (t ∷ ts) [] → Goes (step (f (lowest_tree part) (lowest part)) t) a h ts)
    → Goes (if_found (found (entries part) t) (λ r. Some (follow r f)) (if may_be_empty part then step (f (lowest_tree part) (lowest part)) t else None)) a h ts
goes_part part f a h t ts mid b g whole same (opened {ts = us} u r is x) y avoids onward =
    let i = head_is u t us ts same in
    rw (ap (found (entries part)) (sym i.0) ∙ is) (subst (λ l. Reads (follow r f) a h l []) i.1 (follow_back r f b g a h us mid [] x y))
goes_part part f a h t ts mid b g whole same (passed e) y avoids onward =
    goes_empty part f a h t ts (found (entries part) t) refl e avoids (onward (subst (λ l. Reads (f (lowest_tree part) (lowest part)) a h l []) same y))

-- what is read with a token is read from what is expected behind it
pub step_forth : {A : Type 0} (r : Rest A) (a : A) (h : ℕ) (t : Token) (ts : List Token) → Sound everything r → Reads r a h (t ∷ ts) [] → Goes (step r t) a h ts
unfolding step
step_forth (gives b g) a h t ts s x = let y = x.2 in absurd (cc y)
step_forth (wants w f) a h t ts s x = goes_wanted w f a h t ts None x
step_forth (either w f v g) a h t ts s (inl x) = goes_wanted w f a h t ts (if_found (told v t) (λ p. Some (g p)) None) x
step_forth (either w f v g) a h t ts s (inr x) = goes_second w v f g a h t ts s.5 x
step_forth (reads part f) a h t ts s x =
    goes_part part f a h t ts x.2 x.0 x.1 (t ∷ ts) refl (opens_part part x.0 x.1 (t ∷ ts) x.2 x.3) x.4 (s.2 (lowest_tree part) (lowest part))
    (λ y. step_forth (f (lowest_tree part) (lowest part)) a h t ts (s.0 (lowest_tree part) (lowest part)) y)

back_told : {A : Type 0} (w : Want) (f : Payload w
    → Rest A) (a : A) (h : ℕ) (t : Token) (ts : List Token) (o : Option (Payload w)) (other : Option (Rest A)) → told w t ≡ o
    → Goes (if_found o (λ p. Some (f p)) other) a h ts → Wanted w (λ p mid. Reads (f p) a h mid []) (t ∷ ts) ⊎ Goes other a h ts
back_told w f a h t ts None other is x = inr x
back_told w f a h t ts (Some p) other is x = let y = told_is w t p is in inl (p, ts, y.0, ap (λ u. u ∷ ts) y.1, x)

only_left : {A : Type 0} → A ⊎ ⊥ → A
only_left (inl x) = x
only_left (inr x) = absurd x

right_too : {A B C : Type 0} → A ⊎ B → (B → C) → A ⊎ C
right_too (inl x) f = inl x
right_too (inr x) f = inr (f x)

back_found : {A : Type 0} (part : Part) (f : Tree part → ℕ
    → Rest A) (a : A) (h : ℕ) (t : Token) (ts : List Token) (o : Option (Rest (Tree part))) (other : Option (Rest A)) → found (entries part) t ≡ o
    → Goes (if_found o (λ r. Some (follow r f)) other) a h ts → Reads (reads part f) a h (t ∷ ts) [] ⊎ Goes other a h ts
back_found part f a h t ts None other is x = inr x
back_found part f a h t ts (Some r) other is x =
    let k = pick (EntryReads part) (entries part) t r (entries_read part) is in
    let y = follow_forth r f a h ts [] x in
    let z = k.has k.payload k.fits y.0 y.1 ts y.2 (subst (λ q. Reads q y.0 y.1 ts y.2) k.next y.3) in
    inl (y.0, y.1, y.2, subst (λ u. IsPart part y.0 y.1 (u ∷ ts) y.2) (sym k.is) z, y.4)

back_empty : {A : Type 0} (b : Bool) (o : Option (Rest A)) (a : A) (h : ℕ) (ts : List Token) → Goes (if b then o else None) a h ts → (b ≡ true) × Goes o a h ts
back_empty true o a h ts x = (refl, x)
back_empty false o a h ts x = absurd x

with_empty : {A : Type 0} (part : Part) (f : Tree part → ℕ → Rest A) (a : A) (h : ℕ) (t : Token) (ts : List Token)
    → (Goes (step (f (lowest_tree part) (lowest part)) t) a h ts → Reads (f (lowest_tree part) (lowest part)) a h (t ∷ ts) [])
    → Reads (reads part f) a h (t ∷ ts) [] ⊎ Goes (if may_be_empty part then step (f (lowest_tree part) (lowest part)) t else None) a h ts
    → Reads (reads part f) a h (t ∷ ts) []
with_empty part f a h t ts onward (inl x) = x
with_empty part f a h t ts onward (inr x) =
    let y = back_empty (may_be_empty part) (step (f (lowest_tree part) (lowest part)) t) a h ts x in
    (lowest_tree part, lowest part, t ∷ ts, empty_read part (t ∷ ts) y.0, onward y.1)

-- what is read from what is expected behind a token is read with it
pub step_back : {A : Type 0} (r : Rest A) (a : A) (h : ℕ) (t : Token) (ts : List Token) → Goes (step r t) a h ts → Reads r a h (t ∷ ts) []
unfolding step
step_back (gives b g) a h t ts x = absurd x
step_back (wants w f) a h t ts x = only_left (back_told w f a h t ts (told w t) None refl x)
step_back (either w f v g) a h t ts x =
    right_too (back_told w f a h t ts (told w t) (if_found (told v t) (λ p. Some (g p)) None) refl x)
    (λ y. only_left (back_told v g a h t ts (told v t) None refl y))
step_back (reads part f) a h t ts x =
    with_empty part f a h t ts (λ y. step_back (f (lowest_tree part) (lowest part)) a h t ts y)
    (back_found part f a h t ts (found (entries part) t) (if may_be_empty part then step (f (lowest_tree part) (lowest part)) t else None) refl x)
