-- One thing expected behind another: heights, tokens not taken, and reading.
use Rattle.std.proofs.Common.{◌≡◌, ◌≤◌, ℕ, Bool, true, false, List, [], ◌∷◌, inl, inr, refl, sym, arith}
use Rattle.zir_lex.specs.declared.token.Token.{Token}
use Rattle.zir_grammar.specs.Wants.{Want, Payload, token_of, some_payload}
use Rattle.zir_grammar.specs.Parts.{Rest, gives, wants, either, reads, follow, Entry, entries}
use Rattle.zir_grammar.specs.Machine.{lowest_tree, lowest, least}
use Rattle.zir_grammar.proofs.Meaning.{Reads, Wanted}
use Rattle.zir_grammar.proofs.Sound.{Tokens, nothing, follows, Within, EntriesAvoid, Avoids, Rises, Sound}

-- ---- tokens that are not taken

less : (a b : Bool) → (a ≡ true → b ≡ true) → b ≡ false → a ≡ false
less true b sub is = let both : b ≡ true = sub refl in absurd (cc (both, is))
less false b sub is = refl

entries_less : {A : Type 0} (bad all : Tokens) (es : List (Entry A)) → Within bad all → EntriesAvoid all es → EntriesAvoid bad es
entries_less bad all [] sub x = tt
entries_less bad all (e ∷ es) sub x =
    (λ p fits. less (bad (token_of e.want p)) (all (token_of e.want p)) (sub (token_of e.want p)) (x.0 p fits), entries_less bad all es sub x.1)

pub avoids_less : {A : Type 0} (after bad all : Tokens) (r : Rest A) → Within bad all → Avoids after all r → Avoids after bad r
avoids_less after bad all (gives a h) sub x = λ t b. x t (sub t b)
avoids_less after bad all (wants w f) sub x = λ p fits. less (bad (token_of w p)) (all (token_of w p)) (sub (token_of w p)) (x p fits)
avoids_less after bad all (either w f v g) sub x = (
  λ p fits. less (bad (token_of w p)) (all (token_of w p)) (sub (token_of w p)) (x.0 p fits),
  λ p fits. less (bad (token_of v p)) (all (token_of v p)) (sub (token_of v p)) (x.1 p fits),
)
avoids_less after bad all (reads part f) sub x =
    (entries_less bad all (entries part) sub x.0, λ e. avoids_less after bad all (f (lowest_tree part) (lowest part)) sub (x.1 e))

entries_nothing : {A : Type 0} (es : List (Entry A)) → EntriesAvoid nothing es
entries_nothing [] = tt
entries_nothing (e ∷ es) = (λ p fits. refl, entries_nothing es)

pub avoids_nothing : {A : Type 0} (after : Tokens) (r : Rest A) → Avoids after nothing r
avoids_nothing after (gives a h) = λ t b. absurd (cc b)
avoids_nothing after (wants w f) = λ p fits. refl
avoids_nothing after (either w f v g) = (λ p fits. refl, λ p fits. refl)
avoids_nothing after (reads part f) = (entries_nothing (entries part), λ e. avoids_nothing after (f (lowest_tree part) (lowest part)))

avoids_follow : {A B : Type 0} (after mid bad : Tokens) (r : Rest A) (k : A → ℕ → Rest B) → Avoids mid bad r → ((a : A) (h : ℕ)
    → Avoids after mid (k a h)) → Avoids after bad (follow r k)
avoids_follow after mid bad (gives a h) k x y = avoids_less after bad mid (k a h) x (y a h)
avoids_follow after mid bad (wants w f) k x y = x
avoids_follow after mid bad (either w f v g) k x y = x
avoids_follow after mid bad (reads part f) k x y = (x.0, λ e. avoids_follow after mid bad (f (lowest_tree part) (lowest part)) k (x.1 e) y)

-- ---- heights

-- the tree of the least height
abbrev pub lowest_of : {A : Type 0} → Rest A → A
lowest_of (gives a h) = a
lowest_of (wants w f) = lowest_of (f (some_payload w))
lowest_of (either w f v g) = lowest_of (f (some_payload w))
lowest_of (reads part f) = lowest_of (f (lowest_tree part) (lowest part))

pub least_follow : {A B : Type 0} (r : Rest A) (k : A → ℕ → Rest B) → least (follow r k) ≡ least (k (lowest_of r) (least r))
least_follow (gives a h) k = refl
least_follow (wants w f) k = least_follow (f (some_payload w)) k
least_follow (either w f v g) k = least_follow (f (some_payload w)) k
least_follow (reads part f) k = least_follow (f (lowest_tree part) (lowest part)) k

at_both : {a b c d : ℕ} → a ≡ b → c ≡ d → b ≤ d → a ≤ c
at_both x y z = omega (arith, x, y, z)

follow_rises : {A B : Type 0} (r s : Rest A) (k : A → ℕ → Rest B) → Rises k → least r ≤ least s → least (follow r k) ≤ least (follow s k)
follow_rises r s k rises le = at_both (least_follow r k) (least_follow s k) (rises (lowest_of r) (lowest_of s) (least r) (least s) le)

pub sound_follow : {A B : Type 0} (after mid : Tokens) (r : Rest A) (k : A → ℕ → Rest B) → Sound mid r → ((a : A) (h : ℕ) → Sound after (k a h)) → Rises k
    → ((a : A) (h : ℕ) → Avoids after mid (k a h)) → Sound after (follow r k)
sound_follow after mid (gives a h) k x y rises z = y a h
sound_follow after mid (wants w f) k x y rises z =
    (x.0, λ p. sound_follow after mid (f p) k (x.1 p) y rises z, λ p. follow_rises (f (some_payload w)) (f p) k rises (x.2 p))
sound_follow after mid (either w f v g) k x y rises z = (
  x.0,
  λ p. sound_follow after mid (f p) k (x.1 p) y rises z,
  λ p. follow_rises (f (some_payload w)) (f p) k rises (x.2 p),
  λ p. sound_follow after mid (g p) k (x.3 p) y rises z,
  λ p. follow_rises (f (some_payload w)) (g p) k rises (x.4 p),
  x.5,
)
sound_follow after mid (reads part f) k x y rises z = (
  λ a h. sound_follow after mid (f a h) k (x.0 a h) y rises z,
  λ a b h g le. follow_rises (f a h) (f b g) k rises (x.1 a b h g le),
  λ a h. avoids_follow after mid (follows part) (f a h) k (x.2 a h) z,
)

-- ---- reading

-- the one is read, and then what is made of it
abbrev pub Both : {A B : Type 0} → Rest A → (A → ℕ → Rest B) → B → ℕ → List Token → List Token → Type 0
Both {A = A} r k b h ts rest = (a : A) × (g : ℕ) × (mid : List Token) × Reads r a g ts mid × Reads (k a g) b h mid rest

both_wanted : {A B : Type 0} (w : Want) (f : Payload w → Rest A) (k : A → ℕ → Rest B) (b : B) (h : ℕ) (ts rest : List Token)
    → Wanted w (λ p mid. Both (f p) k b h mid rest) ts
    → (a : A) × (g : ℕ) × (mid : List Token) × Wanted w (λ p ts. Reads (f p) a g ts mid) ts × Reads (k a g) b h mid rest
both_wanted w f k b h ts rest x = let y = x.4 in (y.0, y.1, y.2, (x.0, x.1, x.2, x.3, y.3), y.4)

wanted_map : (w : Want) (P Q : Payload w → List Token → Type 0) (ts : List Token) → ((p : Payload w) (mid : List Token) → P p mid → Q p mid)
    → Wanted w P ts → Wanted w Q ts
wanted_map w P Q ts f x = (x.0, x.1, x.2, x.3, f x.0 x.1 x.4)

pub follow_forth : {A B : Type 0} (r : Rest A) (k : A → ℕ → Rest B) (b : B) (h : ℕ) (ts rest : List Token) → Reads (follow r k) b h ts rest
    → Both r k b h ts rest
follow_forth (gives a g) k b h ts rest x = (a, g, ts, (refl, refl, refl), x)
follow_forth {A = A} {B = B} (wants w f) k b h ts rest x =
    both_wanted w f k b h ts rest
    (wanted_map w (λ p mid. Reads (follow (f p) k) b h mid rest) (λ p mid. Both (f p) k b h mid rest) ts (λ p mid y. follow_forth (f p) k b h mid rest y) x)
follow_forth (either w f v g) k b h ts rest (inl x) =
    let y = both_wanted w f k b h ts rest
    (wanted_map w (λ p mid. Reads (follow (f p) k) b h mid rest) (λ p mid. Both (f p) k b h mid rest) ts (λ p mid y. follow_forth (f p) k b h mid rest y) x) in
    (y.0, y.1, y.2, inl y.3, y.4)
follow_forth (either w f v g) k b h ts rest (inr x) =
    let y = both_wanted v g k b h ts rest
    (wanted_map v (λ p mid. Reads (follow (g p) k) b h mid rest) (λ p mid. Both (g p) k b h mid rest) ts (λ p mid y. follow_forth (g p) k b h mid rest y) x) in
    (y.0, y.1, y.2, inr y.3, y.4)
follow_forth (reads part f) k b h ts rest x =
    let y = follow_forth (f x.0 x.1) k b h x.2 rest x.4 in (y.0, y.1, y.2, (x.0, x.1, x.2, x.3, y.3), y.4)

pub follow_back : {A B : Type 0} (r : Rest A) (k : A → ℕ → Rest B) (a : A) (g : ℕ) (b : B) (h : ℕ) (ts mid rest : List Token) → Reads r a g ts mid
    → Reads (k a g) b h mid rest
    → Reads (follow r k) b h ts rest
follow_back (gives c f) k a g b h ts mid rest x y = rw (sym x.0, sym x.1, x.2) y
follow_back (wants w f) k a g b h ts mid rest x y = (x.0, x.1, x.2, x.3, follow_back (f x.0) k a g b h x.1 mid rest x.4 y)
follow_back (either w f v l) k a g b h ts mid rest (inl x) y = inl (x.0, x.1, x.2, x.3, follow_back (f x.0) k a g b h x.1 mid rest x.4 y)
follow_back (either w f v l) k a g b h ts mid rest (inr x) y = inr (x.0, x.1, x.2, x.3, follow_back (l x.0) k a g b h x.1 mid rest x.4 y)
follow_back (reads part f) k a g b h ts mid rest x y = (x.0, x.1, x.2, x.3, follow_back (f x.0 x.1) k a g b h x.2 mid rest x.4 y)
