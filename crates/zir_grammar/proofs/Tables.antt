-- Lists of entries: what leads on to something, and what is found in them.
use Rattle.std.proofs.Common.{◌≡◌, ◌≤◌, ℕ, List, [], ◌∷◌, ◌++◌, Option, Some, None, refl, ap, ◌∙◌, arith}
use Rattle.zir_lex.specs.declared.token.Token.{Token}
use Rattle.zir_grammar.specs.Wants.{Want, Payload, Fits, token_of, told, if_found}
use Rattle.zir_grammar.specs.Parts.{Rest, follow, Entry, lead, on, wants_sign, wants_word}
use Rattle.zir_grammar.specs.Machine.{least, found}
use Rattle.zir_grammar.proofs.Meaning.{Reads, AllEntries}
use Rattle.zir_grammar.proofs.Tokens.{told_is}
use Rattle.zir_grammar.proofs.Sound.{Tokens, Avoids, Rises, Sound}
use Rattle.zir_grammar.proofs.Follow.{lowest_of, least_follow, sound_follow, follow_forth, follow_back}

-- what a form is, between tokens
abbrev pub Form : Type 0 → Type 1
Form A = A → ℕ → List Token → List Token → Type 0

-- what is expected behind the first token makes the form
abbrev pub Reading : {A : Type 0} → Form A → Entry A → Type 0
Reading {A = A} P e = (p : Payload e.want) → Fits e.want p → (a : A) (h : ℕ) (ts rest : List Token) → Reads (e.next p) a h ts rest
    → P a h (token_of e.want p ∷ ts) rest

pub lead_read : {A B : Type 0} (P : Form A) (Q : Form B) (es : List (Entry A)) (k : A → ℕ → Rest B) → AllEntries (Reading P) es
    → ((a : A) (h : ℕ) (ts mid : List Token) (b : B) (g : ℕ) (rest : List Token) → P a h ts mid → Reads (k a h) b g mid rest → Q b g ts rest)
    → AllEntries (Reading Q) (lead es k)
lead_read P Q [] k x f = tt
lead_read P Q (e ∷ es) k x f = (
  λ p fits b g ts rest y. let z = follow_forth (e.next p) k b g ts rest y in f z.0 z.1 (token_of e.want p
      ∷ ts) z.2 b g rest (x.0 p fits z.0 z.1 ts z.2 z.3) z.4,
  lead_read P Q es k x.1 f,
)

pub read_map : {A : Type 0} (P Q : Form A) (es : List (Entry A)) → ((a : A) (h : ℕ) (ts rest : List Token) → P a h ts rest → Q a h ts rest)
    → AllEntries (Reading P) es → AllEntries (Reading Q) es
read_map P Q [] f x = tt
read_map P Q (e ∷ es) f x = (λ p fits a h ts rest y. f a h (token_of e.want p ∷ ts) rest (x.0 p fits a h ts rest y), read_map P Q es f x.1)

pub all_append : {A : Type 0} (P : Entry A → Type 0) (es fs : List (Entry A)) → AllEntries P es → AllEntries P fs → AllEntries P (es ++ fs)
all_append P [] fs x y = y
all_append P (e ∷ es) fs x y = (x.0, all_append P es fs x.1 y)

-- the entries of a list keep in step, where none of these tokens is taken behind
abbrev pub Steady : {A : Type 0} → Tokens → Entry A → Type 0
Steady after e = (p : Payload e.want) → Sound after (e.next p)

pub lead_sound : {A B : Type 0} (after mid : Tokens) (es : List (Entry A)) (k : A → ℕ → Rest B) → AllEntries (Steady mid) es → ((a : A) (h : ℕ)
    → Sound after (k a h)) → Rises k
    → ((a : A) (h : ℕ) → Avoids after mid (k a h)) → AllEntries (Steady after) (lead es k)
lead_sound after mid [] k x y rises avoids = tt
lead_sound after mid (e ∷ es) k x y rises avoids =
    (λ p. sound_follow after mid (e.next p) k (x.0 p) y rises avoids, lead_sound after mid es k x.1 y rises avoids)

-- the entries of a list are no lower than that
abbrev pub NoLower : {A : Type 0} → ℕ → Entry A → Type 0
NoLower n e = (p : Payload e.want) → n ≤ least (e.next p)

no_lower : {n m k : ℕ} → m ≡ k → n ≤ k → n ≤ m
no_lower e le = omega (arith, e, le)

pub lead_low : {A B : Type 0} (n m : ℕ) (es : List (Entry A)) (k : A → ℕ → Rest B) → AllEntries (NoLower m) es → ((a : A) (h : ℕ) → m ≤ h
    → n ≤ least (k a h)) → AllEntries (NoLower n) (lead es k)
lead_low n m [] k x f = tt
lead_low n m (e ∷ es) k x f = (λ p. no_lower (least_follow (e.next p) k) (f (lowest_of (e.next p)) (least (e.next p)) (x.0 p)), lead_low n m es k x.1 f)

-- the form begins with a token of these entries
pub data OpensBy {A : Type 0} (es : List (Entry A)) : A → ℕ → List Token → List Token → Type 0 where
  opens_by : {a : A} {h : ℕ} {ts rest : List Token} (t : Token) (r : Rest A) → found es t ≡ Some r → Reads r a h ts rest → OpensBy es a h (t ∷ ts) rest

found_first : {A B : Type 0} (e : Entry A) (k : A → ℕ → Rest B) (o : Option (Payload e.want)) (x : Option (Rest A)) (y : Option (Rest B)) (r : Rest A)
    → (x ≡ Some r → y ≡ Some (follow r k)) → if_found o (λ p. Some (e.next p)) x ≡ Some r → if_found o (λ p. Some (follow (e.next p) k)) y ≡ Some (follow r k)
found_first e k (Some p) x y r f is = let s : e.next p ≡ r = cc is in ap (λ q. Some (follow q k)) s
found_first e k None x y r f is = f is

pub found_lead : {A B : Type 0} (es : List (Entry A)) (k : A → ℕ → Rest B) (t : Token) (r : Rest A) → found es t ≡ Some r
    → found (lead es k) t ≡ Some (follow r k)
found_lead [] k t r is = absurd (cc is)
found_lead (e ∷ es) k t r is = found_first e k (told e.want t) (found es t) (found (lead es k) t) r (λ y. found_lead es k t r y) is

found_more : {A : Type 0} (e : Entry A) (o : Option (Payload e.want)) (x y : Option (Rest A)) (r : Rest A) → (x ≡ Some r → y ≡ Some r)
    → if_found o (λ p. Some (e.next p)) x ≡ Some r
    → if_found o (λ p. Some (e.next p)) y ≡ Some r
found_more e (Some p) x y r f is = is
found_more e None x y r f is = f is

pub found_front : {A : Type 0} (es fs : List (Entry A)) (t : Token) (r : Rest A) → found es t ≡ Some r → found (es ++ fs) t ≡ Some r
found_front [] fs t r is = absurd (cc is)
found_front (e ∷ es) fs t r is = found_more e (told e.want t) (found es t) (found (es ++ fs) t) r (λ y. found_front es fs t r y) is

-- a form that leads on to another
pub opens_lead : {A B : Type 0} (es : List (Entry A)) (k : A → ℕ → Rest B) (a : A) (h : ℕ) (b : B) (g : ℕ) (ts mid rest : List Token)
    → OpensBy es a h ts mid → Reads (k a h) b g mid rest
    → OpensBy (lead es k) b g ts rest
opens_lead es k a h b g ts mid rest (opens_by {ts = us} t r is x) y = opens_by t (follow r k) (found_lead es k t r is) (follow_back r k a h b g us mid rest x y)

pub opens_front : {A : Type 0} (es fs : List (Entry A)) (a : A) (h : ℕ) (ts rest : List Token) → OpensBy es a h ts rest → OpensBy (es ++ fs) a h ts rest
opens_front es fs a h ts rest (opens_by t r is x) = opens_by t r (found_front es fs t r is) x

-- ---- steps that keep in step

pub same : (n : ℕ) → n ≤ n
same n = omega arith

-- a sign or a word whose place is not kept
pub sign_then : {A : Type 0} (after : Tokens) (s : _) (r : Rest A) → Sound after r → Sound after (wants_sign s r)
sign_then after s r x = (tt, λ p. x, λ p. same (least r))

pub word_then : {A : Type 0} (after : Tokens) (w : _) (r : Rest A) → Sound after r → Sound after (wants_word w r)
word_then after w r x = (tt, λ p. x, λ p. same (least r))

-- ---- a first entry before a list

-- the entry does not begin with a token of that kind
abbrev pub Differs : {A : Type 0} → Want → Entry A → Type 0
Differs w e = (p : Payload e.want) → Fits e.want p → told w (token_of e.want p) ≡ None

-- no entry begins with a token of that kind
abbrev pub NoneOf : {A : Type 0} → Want → List (Entry A) → Type 0
NoneOf w es = AllEntries (Differs w) es

told_first : {A : Type 0} (w : Want) (e : Entry A) (x : Option (Rest A)) (t : Token) (r : Rest A) (o : Option (Payload e.want)) → told e.want t ≡ o
    → ((p : Payload e.want) → Fits e.want p → told w (token_of e.want p) ≡ None) → (x ≡ Some r → told w t ≡ None)
    → if_found o (λ p. Some (e.next p)) x ≡ Some r → told w t ≡ None
told_first w e x t r (Some p) is none f y = let k = told_is e.want t p is in ap (told w) k.1 ∙ none p k.0
told_first w e x t r None is none f y = f y

none_told : {A : Type 0} (w : Want) (es : List (Entry A)) (t : Token) (r : Rest A) → NoneOf w es → found es t ≡ Some r → told w t ≡ None
none_told w [] t r x is = absurd (cc is)
none_told w (e ∷ es) t r x is = told_first w e (found es t) t r (told e.want t) refl x.0 (λ y. none_told w es t r x.1 y) is

pub none_lead : {A B : Type 0} (w : Want) (es : List (Entry A)) (k : A → ℕ → Rest B) → NoneOf w es → NoneOf w (lead es k)
none_lead w [] k x = tt
none_lead w (e ∷ es) k x = (x.0, none_lead w es k x.1)

pub not_first : {A B : Type 0} (o : Option A) (f : A → Option B) (x y : Option B) → o ≡ None → x ≡ y → if_found o f x ≡ y
not_first None f x y e is = is
not_first (Some p) f x y e is = absurd (cc e)

pub skip_first : {A : Type 0} (e : Entry A) (es : List (Entry A)) (t : Token) (r : Rest A) → told e.want t ≡ None → found es t ≡ Some r
    → found (e ∷ es) t ≡ Some r
skip_first e es t r none is = not_first (told e.want t) (λ p. Some (e.next p)) (found es t) (Some r) none is

pub opens_behind : {A : Type 0} (w : Want) (f : Payload w → Rest A) (es : List (Entry A)) (a : A) (h : ℕ) (ts rest : List Token) → NoneOf w es
    → OpensBy es a h ts rest → OpensBy (on w f ∷ es) a h ts rest
opens_behind w f es a h ts rest none (opens_by t r is x) = opens_by t r (rw (none_told w es t r none is) is) x
