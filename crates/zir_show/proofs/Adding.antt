-- A text that grows by tokens.
use Rattle.std.proofs.Common.{◌≡◌, ℕ, zero, suc, ◌+◌, add-one, arith, ◌<◌, ◌≤◌, Bool, List, [], ◌∷◌, ◌++◌, length, get_or, drop, Result, Ok, Err, OnOk, refl, sym, ap, ◌∙◌, subst, append_assoc, append-nil, if◌then◌else◌}
use Rattle.std.specs.Prelude.{map}
use Rattle.std.proofs.lemmas.Bool.{lt-leb}
use Rattle.std.proofs.lemmas.List.{at_drop_more, at_drop_all}
use Rattle.zir_lex.specs.declared.token.Token.{Token}
use Rattle.zir_lex.specs.declared.token.Keyword.{Keyword}
use Rattle.zir_lex.specs.Tables.{keyword_bytes}
use Rattle.zir_print.specs.Marks.{behind_each, parted, enclosed, held}
use Rattle.zir_print.specs.Text.{spelling, spaced}
use Rattle.zir_show.specs.Growth.{Adds, sign_before}

pub spaced_append : (ts us : List Token) → spaced (ts ++ us) ≡ spaced ts ++ spaced us
spaced_append [] us = refl
spaced_append (t ∷ ts) us = ap (λ w. 32 ∷ (spelling t.lexeme ++ w)) (spaced_append ts us) ∙ ap (λ w. 32 ∷ w) (sym (append_assoc (spelling t.lexeme) (spaced ts) (spaced us)))

-- tokens behind others
infixl 20 ◌▸◌
pub ◌▸◌ : {a b c : List ℕ} {ts us : List Token} → Adds a b ts → Adds b c us → Adds a c (ts ++ us)
◌▸◌ {a = a} {ts = ts} {us = us} x y = record { is = y.is ∙ ap (λ w. w ++ spaced us) x.is ∙ append_assoc a (spaced ts) (spaced us) ∙ ap (λ w. a ++ w) (sym (spaced_append ts us)) }

-- the same bytes
pub adds_as : {a b : List ℕ} {ts : List Token} (us : List Token) → Adds a b ts → spaced ts ≡ spaced us → Adds a b us
adds_as {a = a} us x is = record { is = x.is ∙ ap (λ w. a ++ w) is }

pub adds_none : (a : List ℕ) → Adds a a []
adds_none a = record { is = sym (append-nil a) }

-- the last tokens, whose call may fail
pub last : {T E : Type 0} {a b : List ℕ} {ts : List Token} (r : Result T E) (c : List ℕ) (us ws : List Token) → Adds a b ts → OnOk r (Adds b c us) → spaced (ts ++ us) ≡ spaced ws → OnOk r (Adds a c ws)
last (Ok u) c us ws x y is = adds_as ws (x ▸ y) is
last (Err e) c us ws x y is = tt

-- the only tokens, whose call may fail
pub only : {T E : Type 0} (r : Result T E) (a b : List ℕ) (ts us : List Token) → OnOk r (Adds a b ts) → spaced ts ≡ spaced us → OnOk r (Adds a b us)
only (Ok u) a b ts us x is = adds_as us x is
only (Err e) a b ts us x is = tt

-- one token
pub one : {T E : Type 0} (r : Result T E) (a b bytes : List ℕ) (t : Token) → OnOk r (b ≡ a ++ 32 ∷ bytes) → bytes ≡ spelling t.lexeme → OnOk r (Adds a b (t ∷ []))
one (Ok u) a b bytes t x is = record { is = x ∙ ap (λ w. a ++ 32 ∷ w) (is ∙ sym (append-nil (spelling t.lexeme))) }
one (Err e) a b bytes t x is = tt

-- a form that binds looser than the limit stands in parentheses
pub held_enclosed : {T E : Type 0} (r : Result T E) (a b : List ℕ) (limit binds : ℕ) (ws : List Token) → limit < binds → OnOk r (Adds a b (enclosed ws)) → OnOk r (Adds a b (held limit binds ws))
held_enclosed r a b limit binds ws lt x = subst (λ (v : Bool). OnOk r (Adds a b (if v then ws else enclosed ws))) (sym (lt-leb binds limit lt)) x

-- the same limit
pub at_limit : {a b : List ℕ} (m n binds : ℕ) (ws : List Token) → m ≡ n → Adds a b (held m binds ws) → Adds a b (held n binds ws)
at_limit {a = a} {b = b} m n binds ws is x = subst (λ l. Adds a b (held l binds ws)) is x

pub at_limit_last : {T E : Type 0} (r : Result T E) (a b : List ℕ) (m n binds : ℕ) (ws : List Token) → m ≡ n → OnOk r (Adds a b (held m binds ws)) → OnOk r (Adds a b (held n binds ws))
at_limit_last r a b m n binds ws is x = subst (λ l. OnOk r (Adds a b (held l binds ws))) is x

-- of all these tokens the text has those before the rest
pub record Left (old new : List ℕ) (all rest : List Token) : Type 0 where
  pub is : old ++ spaced all ≡ new ++ spaced rest

pub left_all : (a : List ℕ) (all : List Token) → Left a a all all
left_all a all = record { is = refl }

pub left_none : {a b : List ℕ} {all rest : List Token} → Left a b all rest → rest ≡ [] → Adds a b all
left_none {a = a} {b = b} {all = all} {rest = rest} x none = record { is = sym (append-nil b) ∙ ap (λ w. b ++ spaced w) (sym none) ∙ sym x.is }

pub left_more : {a b c : List ℕ} {all rest ts : List Token} (next : List Token) → Left a b all rest → Adds b c ts → spaced rest ≡ spaced (ts ++ next) → Left a c all next
left_more {b = b} {ts = ts} next x y is = record {
  is = x.is ∙ ap (λ w. b ++ w) (is ∙ spaced_append ts next) ∙ sym (append_assoc b (spaced ts) (spaced next)) ∙ ap (λ w. w ++ spaced next) (sym y.is);
}

-- one more of some parts, each of which has its own tokens
pub part_more : {A : Type 0} (all : List A → List Token) (xs : List A) (i : ℕ) (x : A) {a b c : List ℕ} {ts : List Token} → i < length xs → x ≡ get_or xs i x
    → ((more : List A) → spaced (all (x ∷ more)) ≡ spaced (ts ++ all more)) → Left a b (all xs) (all (drop i xs)) → Adds b c ts → Left a c (all xs) (all (drop (i + 1) xs))
part_more all xs i x within item step left more =
    left_more (all (drop (i + 1) xs)) left more (ap spaced (at_drop_more all xs i x within) ∙ ap (λ y. spaced (all (y ∷ drop (i + 1) xs))) (sym item) ∙ step (drop (i + 1) xs))

-- no part is left
pub parts_end : {A : Type 0} (all : List A → List Token) (xs : List A) (i : ℕ) {a b : List ℕ} → length xs ≤ i → all [] ≡ [] → Left a b (all xs) (all (drop i xs)) → Adds a b (all xs)
parts_end all xs i past none left = left_none left (at_drop_all all xs i past ∙ none)

-- ---- parts with a sign between each two

-- some sign stands before a part that is not the first
pub some_before : (n : ℕ) (t : Token) → (n ≡ 0 → ⊥) → sign_before n t ≡ t ∷ []
some_before zero t some = absurd (some refl)
some_before (suc n) t some = refl

-- the parts from one with this index on, with the sign before each but the first of all
abbrev pub joined : ℕ → Token → List (List Token) → List Token
joined zero between parts = parted between parts
joined (suc n) between parts = behind_each between parts

joined_step : (i : ℕ) (t : Token) (w : List Token) (ws : List (List Token)) → spaced (joined i t (w ∷ ws)) ≡ spaced ((sign_before i t ++ w) ++ joined (i + 1) t ws)
joined_step zero t w ws = refl
joined_step (suc n) t w ws = ap (λ k. spaced ((t ∷ w) ++ joined k t ws)) (sym (add-one (suc n)))

joined_none : (i : ℕ) (t : Token) → joined i t [] ≡ []
joined_none zero t = refl
joined_none (suc n) t = refl

pub joined_more : {A : Type 0} (f : A → List Token) (t : Token) (xs : List A) (i : ℕ) (x : A) {a b c d : List ℕ} → i < length xs → x ≡ get_or xs i x
    → Left a b (parted t (map f xs)) (joined i t (map f (drop i xs))) → Adds b c (sign_before i t) → Adds c d (f x) → Left a d (parted t (map f xs)) (joined (i + 1) t (map f (drop (i + 1) xs)))
joined_more f t xs i x within item left sign part =
    left_more (joined (i + 1) t (map f (drop (i + 1) xs))) left (sign ▸ part)
    (ap spaced (at_drop_more (λ ys. joined i t (map f ys)) xs i x within)
    ∙ ap (λ y. spaced (joined i t (f y ∷ map f (drop (i + 1) xs)))) (sym item)
    ∙ joined_step i t (f x) (map f (drop (i + 1) xs)))

pub joined_end : {A : Type 0} (f : A → List Token) (t : Token) (xs : List A) (i : ℕ) {a b : List ℕ} → length xs ≤ i → Left a b (parted t (map f xs)) (joined i t (map f (drop i xs))) → Adds a b (parted t (map f xs))
joined_end f t xs i past left = left_none left (at_drop_all (λ ys. joined i t (map f ys)) xs i past ∙ joined_none i t)

behind_snoc : (t : Token) (ws : List (List Token)) (w : List Token) → behind_each t (ws ++ w ∷ []) ≡ behind_each t ws ++ t ∷ w
behind_snoc t [] w = ap (λ l. t ∷ l) (append-nil w)
behind_snoc t (v ∷ ws) w = ap (λ l. t ∷ (v ++ l)) (behind_snoc t ws w) ∙ ap (λ l. t ∷ l) (sym (append_assoc v (behind_each t ws) (t ∷ w)))

-- one part more behind others
pub parted_snoc : {A : Type 0} (f : A → List Token) (t : Token) (xs : List A) (n : ℕ) (w : List Token) → n ≡ length xs → parted t (map f xs ++ w ∷ []) ≡ (parted t (map f xs) ++ sign_before n t) ++ w
parted_snoc f t [] n w is = append-nil w ∙ ap (λ k. sign_before k t ++ w) (sym is)
parted_snoc f t (x ∷ xs) n w is =
    let some : n ≡ 0 → ⊥ = λ none. omega arith in
    ap (λ l. f x ++ l) (behind_snoc t (map f xs) w)
    ∙ sym (append_assoc (f x) (behind_each t (map f xs)) (t ∷ w))
    ∙ sym (append_assoc (f x ++ behind_each t (map f xs)) (t ∷ []) w)
    ∙ ap (λ l. ((f x ++ behind_each t (map f xs)) ++ l) ++ w) (sym (some_before n t some))

-- ---- lines

pub line_of : {T E : Type 0} {b c : List ℕ} {ts : List Token} (r : Result T E) (a d : List ℕ) (k : Keyword) (us : List Token) → b ≡ a ++ keyword_bytes k → Adds b c ts → OnOk r (d ≡ c ++ 10 ∷ []) → spaced ts ≡ spaced us
    → OnOk r (d ≡ a ++ (keyword_bytes k ++ (spaced us ++ 10 ∷ [])))
line_of {ts = ts} (Ok u) a d k us x y z is =
    z ∙ ap (λ w. w ++ 10 ∷ []) (y.is ∙ ap (λ w. w ++ spaced ts) x ∙ ap (λ w. (a ++ keyword_bytes k) ++ w) is)
    ∙ append_assoc (a ++ keyword_bytes k) (spaced us) (10 ∷ [])
    ∙ append_assoc a (keyword_bytes k) (spaced us ++ 10 ∷ [])
line_of (Err e) a d k us x y z is = tt
