-- The least height is a least height, and some program has it; what stands at the end of the tokens.
use Rattle.std.proofs.Common.{
  ◌≡◌,
  ◌≤◌,
  ℕ,
  zero,
  suc,
  Bool,
  true,
  false,
  List,
  [],
  ◌∷◌,
  length,
  ◌⊎◌,
  inl,
  inr,
  Result,
  Ok,
  Err,
  refl,
  sym,
  ap,
  subst,
  arith,
  if◌then◌else◌,
}
use Rattle.zir_lex.specs.declared.token.Token.{Token}
use Rattle.zir_tree.specs.declared.program.Prog.{Prog}
use Rattle.zir_grammar.specs.declared.error.ParseError.{ParseError}
use Rattle.zir_grammar.specs.declared.error.ParseError.TheVariants.{Syntax}
use Rattle.zir_grammar.specs.Wants.{token_of, some_payload}
use Rattle.zir_grammar.specs.Parts.{Part, Tree, Rest, gives, wants, either, reads, entries, may_be_empty}
use Rattle.zir_grammar.specs.Machine.{lowest_tree, lowest, least, finish}
use Rattle.zir_grammar.proofs.Meaning.{IsPart, Reads}
use Rattle.zir_grammar.proofs.Sound.{Tokens, follows, Sound}
use Rattle.zir_grammar.proofs.Follow.{lowest_of}
use Rattle.zir_grammar.proofs.Entries.{EntrySound, EntryLow, Opens, opened, passed}
use Rattle.zir_grammar.proofs.Forms.{entries_sound, entries_low, empty_read, opens_part, lowest_read}
use Rattle.zir_grammar.proofs.Exact.{pick}

-- ---- nothing lower is read

-- no part of at most so many tokens is lower than it may be, or leaves more tokens than there were
abbrev pub LowAt : ℕ → Type 0
LowAt n = (part : Part) (a : Tree part) (h : ℕ) (ts rest : List Token) → length ts ≤ n → IsPart part a h ts rest → (lowest part ≤ h) × (length rest ≤ length ts)

shorter : {n : ℕ} (t : Token) (ts mid : List Token) → ts ≡ t ∷ mid → length ts ≤ n → (length mid ≤ n) × (length mid ≤ length ts)
shorter t ts mid is le = let e : length ts ≡ suc (length mid) = ap length is in (omega (arith, e, le), omega (arith, e))

through : {a b c x y z : ℕ} → a ≤ b → y ≤ z → (b ≤ c) × (x ≤ y) → (a ≤ c) × (x ≤ z)
through p q r = let f = r.0 in let g = r.1 in (omega (arith, p, f), omega (arith, q, g))

same_low : {h g : ℕ} {ts rest : List Token} → h ≡ g → ts ≡ rest → (g ≤ h) × (length rest ≤ length ts)
same_low {ts = ts} {rest = rest} p q = let e : length ts ≡ length rest = ap length q in (omega (arith, p), omega (arith, e))

rest_low : {A : Type 0} (n : ℕ) → LowAt n → (after : Tokens) (r : Rest A) (a : A) (h : ℕ) (ts rest : List Token) → Sound after r → length ts ≤ n
    → Reads r a h ts rest
    → (least r ≤ h) × (length rest ≤ length ts)
rest_low n low after (gives b g) a h ts rest s le x = same_low x.1 x.2
rest_low n low after (wants w f) a h ts rest s le x =
    let l = shorter (token_of w x.0) ts x.1 x.3 le in
    through (s.2 x.0) l.1 (rest_low n low after (f x.0) a h x.1 rest (s.1 x.0) l.0 x.4)
rest_low n low after (either w f v g) a h ts rest s le (inl x) =
    let l = shorter (token_of w x.0) ts x.1 x.3 le in
    through (s.2 x.0) l.1 (rest_low n low after (f x.0) a h x.1 rest (s.1 x.0) l.0 x.4)
rest_low n low after (either w f v g) a h ts rest s le (inr x) =
    let l = shorter (token_of v x.0) ts x.1 x.3 le in
    through (s.4 x.0) l.1 (rest_low n low after (g x.0) a h x.1 rest (s.3 x.0) l.0 x.4)
rest_low n low after (reads part f) a h ts rest s le x =
    let y = low part x.0 x.1 ts x.2 le x.3 in
    let shorter_mid = y.1 in
    through (s.1 (lowest_tree part) x.0 (lowest part) x.1 y.0) y.1 (rest_low n low after (f x.0 x.1) a h x.2 rest (s.0 x.0 x.1) (omega
    (arith, shorter_mid, le)) x.4)

opens_low : (n : ℕ) → LowAt n → (part : Part) (a : Tree part) (h : ℕ) (ts rest : List Token) → length ts ≤ suc n → Opens part a h ts rest
    → (lowest part ≤ h) × (length rest ≤ length ts)
opens_low n low part a h ts rest le (passed e) = (omega arith, omega arith)
opens_low n low part a h ts rest le (opened {ts = us} t r is x) =
    let k = pick (EntrySound part) (entries part) t r (entries_sound part) is in
    let l = pick (EntryLow part) (entries part) t r (entries_low part) is in
    let lower : lowest part ≤ least r = subst (λ q. lowest part ≤ least q) (sym l.next) (l.has l.payload) in
    let s : Sound (follows part) r = subst (Sound (follows part)) (sym k.next) (k.has k.payload) in
    through lower (omega arith) (rest_low n low (follows part) r a h us rest s (omega (arith, le)) x)

nothing_low : (part : Part) (a : Tree part) (h : ℕ) (ts rest : List Token) → length ts ≤ 0 → Opens part a h ts rest
    → (lowest part ≤ h) × (length rest ≤ length ts)
nothing_low part a h ts rest le (passed e) = (omega arith, omega arith)
nothing_low part a h ts rest le (opened t r is x) = absurd (omega (arith, le))

part_low : (n : ℕ) → LowAt n
part_low zero part a h ts rest le x = nothing_low part a h ts rest le (opens_part part a h ts rest x)
part_low (suc n) part a h ts rest le x = opens_low n (part_low n) part a h ts rest le (opens_part part a h ts rest x)

-- nothing that is read from what is expected is lower than its least height
pub ends_least : {A : Type 0} (after : Tokens) (r : Rest A) (a : A) (h : ℕ) (ts : List Token) → Sound after r → Reads r a h ts [] → least r ≤ h
ends_least after r a h ts s x = (rest_low (length ts) (part_low (length ts)) after r a h ts [] s (omega arith) x).0

-- something of the least height is read
pub ends_somehow : {A : Type 0} (after : Tokens) (r : Rest A) (rest : List Token) → Sound after r → (ts : List Token) × Reads r (lowest_of r) (least r) ts rest
ends_somehow after (gives a h) rest s = (rest, (refl, refl, refl))
ends_somehow after (wants w f) rest s =
    let p = some_payload w in let x = ends_somehow after (f (some_payload w)) rest (s.1 (some_payload w)) in (token_of w p ∷ x.0, (p, x.0, s.0, refl, x.1))
ends_somehow after (either w f v g) rest s =
    let p = some_payload w in let x = ends_somehow after (f (some_payload w)) rest (s.1 (some_payload w)) in (token_of w p ∷ x.0, inl (p, x.0, s.0, refl, x.1))
ends_somehow after (reads part f) rest s =
    let x = ends_somehow after (f (lowest_tree part) (lowest part)) rest (s.0 (lowest_tree part) (lowest part)) in
    let y = lowest_read part x.0 in
    (y.0, (lowest_tree part, lowest part, x.0, y.1, x.1))

-- ---- the end

empty_there : (part : Part) (a : Tree part) (h : ℕ) (ts rest : List Token) → ts ≡ [] → Opens part a h ts rest → (may_be_empty part ≡ true) × (ts ≡ rest)
empty_there part a h ts rest e (passed is) = (is, refl)
empty_there part a h ts rest e (opened t r is x) = absurd (cc e)

-- the part is the empty one
end_part : (part : Part) (f : Tree part → ℕ → Rest Prog) (p : Prog) (h : ℕ) (b : Tree part) (g : ℕ) (ts mid : List Token) → ts ≡ []
    → Opens part b g ts mid → Reads (f b g) p h mid []
    → (may_be_empty part ≡ true) × Reads (f (lowest_tree part) (lowest part)) p h [] []
end_part part f p h b g ts mid e (passed is) x = (is, subst (λ l. Reads (f (lowest_tree part) (lowest part)) p h l []) e x)
end_part part f p h b g ts mid e (opened t r is y) x = absurd (cc e)

-- at the end of the tokens: what is read is what is found
pub ends_found : (r : Rest Prog) (p : Prog) (h : ℕ) → Reads r p h [] [] → finish r ≡ Ok p
unfolding finish
ends_found (gives q g) p h x = ap Ok (sym x.0)
ends_found (wants w f) p h x = let y = x.3 in absurd (cc y)
ends_found (either w f v g) p h (inl x) = let y = x.3 in absurd (cc y)
ends_found (either w f v g) p h (inr x) = let y = x.3 in absurd (cc y)
ends_found (reads part f) p h x =
    let y = end_part part f p h x.0 x.1 [] x.2 refl (opens_part part x.0 x.1 [] x.2 x.3) x.4 in
    rw (y.0) (ends_found (f (lowest_tree part) (lowest part)) p h y.1)

ok_is : (p q : Prog) → ◌≡◌ {A = Result Prog ParseError} (Ok p) (Ok q) → q ≡ p
ok_is p q e = cc

found_empty : (b : Bool) (p : Prog) (o : Result Prog ParseError) → (if b then o else Err (Syntax 0)) ≡ Ok p → (b ≡ true) × (o ≡ Ok p)
found_empty true p o e = (refl, e)
found_empty false p o e = absurd (cc e)

-- and what is found is read
pub found_ends : (r : Rest Prog) (p : Prog) → finish r ≡ Ok p → Reads r p (least r) [] []
unfolding finish
found_ends (gives q g) p e = (ok_is q p e, refl, refl)
found_ends (wants w f) p e = absurd (cc e)
found_ends (either w f v g) p e = absurd (cc e)
found_ends (reads part f) p e =
    let y = found_empty (may_be_empty part) p (finish (f (lowest_tree part) (lowest part))) e in
    (lowest_tree part, lowest part, [], empty_end part y.0, found_ends (f (lowest_tree part) (lowest part)) p y.1)
  where
    empty_end : (part : Part) → may_be_empty part ≡ true → IsPart part (lowest_tree part) (lowest part) [] []
    empty_end part e = empty_read part [] e

-- what is found at the end is a program or nothing
pub finish_cases : (r : Rest Prog) → ((p : Prog) × (finish r ≡ Ok p)) ⊎ (finish r ≡ Err (Syntax 0))
unfolding finish
finish_cases (gives q g) = inl (q, refl)
finish_cases (wants w f) = inr refl
finish_cases (either w f v g) = inr refl
finish_cases (reads part f) = cases (may_be_empty part) (finish (f (lowest_tree part) (lowest part))) (finish_cases (f (lowest_tree part) (lowest part)))
  where
    cases : (b : Bool) (o : Result Prog ParseError) → ((p : Prog) × (o ≡ Ok p)) ⊎ (o ≡ Err (Syntax 0))
        → ((p : Prog) × ((if b then o else Err (Syntax 0)) ≡ Ok p)) ⊎ ((if b then o else Err (Syntax 0)) ≡ Err (Syntax 0))
    cases true o x = x
    cases false o x = inr refl
