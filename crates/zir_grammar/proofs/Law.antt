-- What the steps answer is what the claim says.
use Rattle.std.proofs.Common.{
  ◌≡◌,
  ◌≤◌,
  ◌<◌,
  ℕ,
  suc,
  ◌+◌,
  Bool,
  true,
  false,
  List,
  [],
  ◌∷◌,
  ◌++◌,
  length,
  Option,
  Some,
  None,
  ◌⊎◌,
  inl,
  inr,
  Result,
  Ok,
  Err,
  refl,
  sym,
  ap,
  ◌∙◌,
  subst,
  arith,
  append_assoc,
  length-append,
  if◌then◌else◌,
}
use Rattle.std.specs.Prelude.{nat_le}
use Rattle.std.proofs.lemmas.List.{append-nil}
use Rattle.std.proofs.lemmas.Bool.{leb-true, leb-false, le-leb}
use Rattle.zir_lex.specs.declared.token.Token.{Token}
use Rattle.zir_tree.specs.declared.program.Prog.{Prog}
use Rattle.zir_grammar.specs.declared.error.ParseError.{ParseError}
use Rattle.zir_grammar.specs.declared.error.ParseError.TheVariants.{Syntax, TooDeep, Memory}
use Rattle.zir_grammar.specs.Grammar.{IsProg}
use Rattle.zir_grammar.specs.Claim.{IsLowProg, Begins, BeginsLow, NoneGoesOn, OnlyHighGoOn, Answers, IsTold}
use Rattle.zir_grammar.specs.Wants.{if_found}
use Rattle.zir_grammar.specs.Parts.{Rest, start}
use Rattle.zir_grammar.specs.Machine.{least, step, finish, run}
use Rattle.zir_grammar.proofs.Meaning.{Reads}
use Rattle.zir_grammar.proofs.Sound.{everything, Sound}
use Rattle.zir_grammar.proofs.Follow.{lowest_of}
use Rattle.zir_grammar.proofs.Exact.{Kept, step_kept, Goes, step_forth, step_back}
use Rattle.zir_grammar.proofs.Heights.{ends_least, ends_somehow, ends_found, found_ends, finish_cases}
use Rattle.zir_grammar.proofs.Forms.{start_forth, start_back, start_sound, start_low}

-- ---- what is expected after some tokens

-- after these tokens what is expected says exactly which programs go on
pub record Reaches (front : List Token) (r : Rest Prog) : Type 0 where
  pub sound : Sound everything r
  pub forth : (p : Prog) (h : ℕ) (more : List Token) → IsProg (front ++ more) p h → Reads r p h more []
  pub back : (p : Prog) (h : ℕ) (more : List Token) → Reads r p h more [] → IsProg (front ++ more) p h

reaches_start : Reaches [] start
reaches_start = record { sound = start_sound; forth = λ p h more x. start_forth more p h x; back = λ p h more x. start_back more p h x }

behind : (front : List Token) (t : Token) (more : List Token) → (front ++ t ∷ []) ++ more ≡ front ++ (t ∷ more)
behind front t more = append_assoc front (t ∷ []) more

reaches_step : (front : List Token) (r : Rest Prog) (t : Token) (next : Rest Prog) → Reaches front r → step r t ≡ Some next → Reaches (front ++ t ∷ []) next
reaches_step front r t next x is = record {
  sound = subst Kept is (step_kept r t x.sound);
  forth = λ p h more y. subst (λ o. Goes o p h more) is (step_forth r p h t more x.sound (x.forth p h (t ∷ more) (subst
      (λ l. IsProg l p h) (behind front t more) y)));
  back = λ p h more y. subst (λ l. IsProg l p h) (sym (behind front t more)) (x.back p h (t ∷ more) (step_back r p h t more (subst
      (λ o. Goes o p h more) (sym is) y)));
}

reached_begins : (front : List Token) (r : Rest Prog) → Reaches front r → Begins front
reached_begins front r x =
    let g = ends_somehow everything r [] x.sound in record { more = g.0; program = lowest_of r; height = least r; is = x.back (lowest_of r) (least r) g.0 g.1 }

reached_low : (most : ℕ) (front : List Token) (r : Rest Prog) → Reaches front r → least r ≤ most → BeginsLow most front
reached_low most front r x low =
    let g = ends_somehow everything r [] x.sound in
    record { more = g.0; program = lowest_of r; is = record { height = least r; low = low; is = x.back (lowest_of r) (least r) g.0 g.1 } }

reached_high : (most : ℕ) (front : List Token) (r : Rest Prog) → Reaches front r → most < least r → BeginsLow most front → ⊥
reached_high most front r x high b =
    let g = ends_least everything r b.program b.is.height b.more x.sound (x.forth b.program b.is.height b.more b.is.is) in
    let low = b.is.low in
    absurd (omega (arith, g, low, high))

goes_with : (front : List Token) (r : Rest Prog) (t : Token) → Reaches front r → (b : Begins (front ++ t ∷ [])) → Goes (step r t) b.program b.height b.more
goes_with front r t x b = step_forth r b.program b.height t b.more x.sound (x.forth b.program b.height (t ∷ b.more) (subst
    (λ l. IsProg l b.program b.height) (behind front t b.more) b.is))

no_next : (front : List Token) (r : Rest Prog) (t : Token) → Reaches front r → step r t ≡ None → Begins (front ++ t ∷ []) → ⊥
no_next front r t x is b = subst (λ o. Goes o b.program b.height b.more) is (goes_with front r t x b)

-- ---- what the steps answer

-- the first of what is wrong, so many tokens before the end
pub record FirstLeft (most : ℕ) (Wrong : List Token → List Token → Type 0) (tokens : List Token) (left : ℕ) : Type 0 where
  pub front : List Token
  pub back : List Token
  pub split : tokens ≡ front ++ back
  pub count : length back ≡ left
  pub begins : BeginsLow most front
  pub wrong : Wrong front back

-- what is answered, where errors count the tokens that are left; memory does not run out
abbrev pub AnswersLeft : ℕ → List Token → Result Prog ParseError → Type 0
AnswersLeft most tokens (Ok p) = IsLowProg most tokens p
AnswersLeft most tokens (Err (Syntax left)) = FirstLeft most NoneGoesOn tokens left
AnswersLeft most tokens (Err (TooDeep left)) = FirstLeft most (OnlyHighGoOn most) tokens left
AnswersLeft most tokens (Err Memory) = ⊥

ok_err : {C : Type 0} (p : Prog) (n : ℕ) → ◌≡◌ {A = Result Prog ParseError} (Ok p) (Err (Syntax n)) → C
ok_err p n e = absurd (cc e)

ended : (most : ℕ) (tokens front : List Token) (r : Rest Prog) → tokens ≡ front ++ [] → Reaches front r → least r ≤ most
    → ((p : Prog) × (finish r ≡ Ok p)) ⊎ (finish r ≡ Err (Syntax 0))
    → AnswersLeft most tokens (finish r)
ended most tokens front r is x low (inl (p, e)) =
    rw e (record { height = least r; low = low; is = subst (λ l. IsProg l p (least r)) (sym is) (x.back p (least r) [] (found_ends r p e)) })
ended most tokens front r is x low (inr e) =
    rw e (record {
      front = front;
      back = [];
      split = is;
      count = refl;
      begins = reached_low most front r x low;
      wrong = λ p h y. ok_err p 0 (sym (ends_found r p h (x.forth p h [] (subst (λ l. IsProg l p h) (sym (append-nil front)) y))) ∙ e);
    })

-- what the rest of the tokens makes of what is expected next
abbrev Onward : ℕ → List Token → List Token → Type 0
Onward most tokens ts = (front : List Token) (r : Rest Prog) → tokens ≡ front ++ ts → Reaches front r → least r ≤ most → AnswersLeft most tokens (run most r ts)

deep_answers : (most : ℕ) (tokens front : List Token) (r : Rest Prog) (t : Token) (ts : List Token) (next : Rest Prog) (fits : Bool)
    → nat_le (least next) most ≡ fits
    → tokens ≡ front ++ (t ∷ ts) → Reaches front r → least r ≤ most → Reaches (front ++ t ∷ []) next → Onward most tokens ts
    → AnswersLeft most tokens (if fits then run most next ts else Err (TooDeep (suc (length ts))))
deep_answers most tokens front r t ts next true fits is x low onto onward = onward (front ++ t ∷ []) next (is
    ∙ sym (behind front t ts)) onto (leb-true (least next) most fits)
deep_answers most tokens front r t ts next false fits is x low onto onward = record {
  front = front;
  back = t ∷ ts;
  split = is;
  count = refl;
  begins = reached_low most front r x low;
  wrong = (reached_begins (front ++ t ∷ []) next onto, reached_high most (front ++ t ∷ []) next onto (leb-false (least next) most fits));
}

step_answers : (most : ℕ) (tokens front : List Token) (r : Rest Prog) (t : Token) (ts : List Token) (o : Option (Rest Prog)) → step r t ≡ o
    → tokens ≡ front ++ (t ∷ ts) → Reaches front r → least r ≤ most → Onward most tokens ts
    → AnswersLeft most tokens (if_found o
    (λ next. if nat_le (least next) most then run most next ts else Err (TooDeep (suc (length ts)))) (Err (Syntax (suc (length ts)))))
step_answers most tokens front r t ts (Some next) stepped is x low onward =
    deep_answers most tokens front r t ts next (nat_le (least next) most) refl is x low (reaches_step front r t next x stepped) onward
step_answers most tokens front r t ts None stepped is x low onward = record {
  front = front;
  back = t ∷ ts;
  split = is;
  count = refl;
  begins = reached_low most front r x low;
  wrong = no_next front r t x stepped;
}

run_answers : (most : ℕ) (tokens ts front : List Token) (r : Rest Prog) → tokens ≡ front ++ ts → Reaches front r → least r ≤ most
    → AnswersLeft most tokens (run most r ts)
unfolding run
run_answers most tokens [] front r is x low = ended most tokens front r is x low (finish_cases r)
run_answers most tokens (t ∷ ts) front r is x low =
    step_answers most tokens front r t ts (step r t) refl is x low (λ front2 r2 is2 x2 low2. run_answers most tokens ts front2 r2 is2 x2 low2)

up_to : {a b c : ℕ} → a ≤ b → b ≤ c → a ≤ c
up_to x y = omega (arith, x, y)

-- the steps from the start answer what the claim says
pub start_answers : (most : ℕ) (tokens : List Token) → 1 ≤ most → AnswersLeft most tokens (run most start tokens)
start_answers most tokens low = run_answers most tokens tokens [] start refl reaches_start (up_to start_low low)

-- ---- one tree

next_found : (most : ℕ) (p : Prog) (h : ℕ) (ts : List Token) (o : Option (Rest Prog)) → Kept o → Goes o p h ts → h ≤ most
    → ((r : Rest Prog) → Sound everything r → Reads r p h ts [] → run most r ts ≡ Ok p)
    → if_found o (λ next. if nat_le (least next) most then run most next ts else Err (TooDeep (suc (length ts)))) (Err (Syntax (suc (length ts)))) ≡ Ok p
next_found most p h ts None sound x low f = absurd x
next_found most p h ts (Some r) sound x low f = rw (le-leb (least r) most (up_to (ends_least everything r p h ts sound x) low)) (f r sound x)

program_runs : (most : ℕ) (p : Prog) (h : ℕ) (ts : List Token) (r : Rest Prog) → h ≤ most → Sound everything r → Reads r p h ts [] → run most r ts ≡ Ok p
unfolding run
program_runs most p h [] r low sound x = ends_found r p h x
program_runs most p h (t ∷ ts) r low sound x =
    next_found most p h ts (step r t) (step_kept r t sound) (step_forth r p h t ts sound x) low (λ next kept y. program_runs most p h ts next low kept y)

-- the steps find each program that is not too high
pub program_found : (most : ℕ) (tokens : List Token) (p : Prog) (h : ℕ) → h ≤ most → IsProg tokens p h → run most start tokens ≡ Ok p
program_found most tokens p h low x = program_runs most p h tokens start low start_sound (start_forth tokens p h x)

ok_is : (p q : Prog) → ◌≡◌ {A = Result Prog ParseError} (Ok p) (Ok q) → p ≡ q
ok_is p q e = cc

-- tokens are one program at most, whatever its height
pub one_program : (tokens : List Token) (p q : Prog) (a b : ℕ) → IsProg tokens p a → IsProg tokens q b → p ≡ q
one_program tokens p q a b x y = ok_is p q (sym (program_found (a + b) tokens p a (omega arith) x) ∙ program_found (a + b) tokens q b (omega arith) y)

-- ---- one answer

-- what is expected behind these tokens, which the steps take
record Comes (most : ℕ) (from : Rest Prog) (before front : List Token) : Type 0 where
  pub rest : Rest Prog
  pub reaches : Reaches (before ++ front) rest
  pub steps : (back : List Token) → run most from (front ++ back) ≡ run most rest back

comes_low : (most : ℕ) (next : Rest Prog) (t : Token) (ts : List Token) → nat_le (least next) most ≡ true
    → (if nat_le (least next) most then run most next ts else Err (TooDeep (suc (length ts)))) ≡ run most next ts
comes_low most next t ts fits = rw fits refl

comes_next : (most : ℕ) (r : Rest Prog) (before : List Token) (t : Token) (ts more : List Token) (p : Prog) (h : ℕ) (o : Option (Rest Prog))
    → step r t ≡ o → h ≤ most → Reaches before r
    → Goes o p h (ts ++ more) → ((next : Rest Prog) → Reaches (before ++ t ∷ []) next → Reads next p h (ts ++ more) []
    → Comes most next (before ++ t ∷ []) ts) → Comes most r before (t ∷ ts)
unfolding run
comes_next most r before t ts more p h None is low x goes f = absurd goes
comes_next most r before t ts more p h (Some next) is low x goes f =
    let reached = reaches_step before r t next x is in
    let c = f next reached goes in
    let fits : nat_le (least next) most ≡ true = le-leb (least next) most (up_to (ends_least everything next p h (ts ++ more) reached.sound goes) low) in
    record {
      rest = c.rest;
      reaches = subst (λ l. Reaches l c.rest) (behind before t ts) c.reaches;
      steps = λ back. rw is (comes_low most next t (ts ++ back) fits ∙ c.steps back);
    }

comes : (most : ℕ) (r : Rest Prog) (before front more : List Token) (p : Prog) (h : ℕ) → h ≤ most → Reaches before r → Reads r p h (front ++ more) []
    → Comes most r before front
comes most r before [] more p h low x y = record { rest = r; reaches = subst (λ l. Reaches l r) (sym (append-nil before)) x; steps = λ back. refl }
comes most r before (t ∷ ts) more p h low x y =
    comes_next most r before t ts more p h (step r t) refl low x (step_forth r p h t (ts ++ more) x.sound y)
    (λ next reached z. comes most next (before ++ t ∷ []) ts more p h low reached z)

begun : (most : ℕ) (front : List Token) → BeginsLow most front → Comes most start [] front
begun most front b = comes most start [] front b.more b.program b.is.height b.is.low reaches_start (reaches_start.forth b.program b.is.height
    (front ++ b.more) b.is.is)

not_finished : (r : Rest Prog) → ((p : Prog) → finish r ≡ Ok p → ⊥) → ((p : Prog) × (finish r ≡ Ok p)) ⊎ (finish r ≡ Err (Syntax 0)) → finish r ≡ Err (Syntax 0)
not_finished r none (inl (p, e)) = absurd (none p e)
not_finished r none (inr e) = e

none_steps : (most : ℕ) (front : List Token) (r : Rest Prog) (t : Token) (ts : List Token) (o : Option (Rest Prog)) → step r t ≡ o → Reaches front r
    → (Begins (front ++ t ∷ []) → ⊥)
    → if_found o (λ next. if nat_le (least next) most then run most next ts else Err (TooDeep (suc (length ts)))) (Err (Syntax (suc
    (length ts)))) ≡ Err (Syntax (suc (length ts)))
none_steps most front r t ts None stepped x none = refl
none_steps most front r t ts (Some next) stepped x none = absurd (none (reached_begins (front ++ t ∷ []) next (reaches_step front r t next x stepped)))

none_runs : (most : ℕ) (front back : List Token) (r : Rest Prog) → Reaches front r → NoneGoesOn front back → run most r back ≡ Err (Syntax (length back))
unfolding run
none_runs most front [] r x none =
    not_finished r (λ p e. none p (least r) (subst (λ l. IsProg l p (least r)) (append-nil front) (x.back p (least r) [] (found_ends r p e)))) (finish_cases r)
none_runs most front (t ∷ ts) r x none = none_steps most front r t ts (step r t) refl x none

high_next : (most : ℕ) (front : List Token) (r : Rest Prog) (ts : List Token) (b : Bool) → nat_le (least r) most ≡ b → Reaches front r
    → (BeginsLow most front → ⊥)
    → (if b then run most r ts else Err (TooDeep (suc (length ts)))) ≡ Err (TooDeep (suc (length ts)))
high_next most front r ts true fits x high = absurd (high (reached_low most front r x (leb-true (least r) most fits)))
high_next most front r ts false fits x high = refl

high_steps : (most : ℕ) (front : List Token) (r : Rest Prog) (t : Token) (ts : List Token) (o : Option (Rest Prog)) → step r t ≡ o → Reaches front r
    → OnlyHighGoOn most front (t ∷ ts)
    → if_found o (λ next. if nat_le (least next) most then run most next ts else Err (TooDeep (suc (length ts)))) (Err (Syntax (suc
    (length ts)))) ≡ Err (TooDeep (suc (length ts)))
high_steps most front r t ts None stepped x high = absurd (no_next front r t x stepped high.0)
high_steps most front r t ts (Some next) stepped x high = high_next most (front ++ t
    ∷ []) next ts (nat_le (least next) most) refl (reaches_step front r t next x stepped) high.1

high_runs : (most : ℕ) (front back : List Token) (r : Rest Prog) → Reaches front r → OnlyHighGoOn most front back
    → run most r back ≡ Err (TooDeep (length back))
unfolding run
high_runs most front [] r x high = absurd high
high_runs most front (t ∷ ts) r x high = high_steps most front r t ts (step r t) refl x high

at_front : (most : ℕ) (tokens front back : List Token) → tokens ≡ front ++ back → (c : Comes most start [] front) → run most start tokens ≡ run most c.rest back
at_front most tokens front back split c = ap (run most start) split ∙ c.steps back

counted : (tokens front back : List Token) (place : ℕ) → tokens ≡ front ++ back → length front ≡ place → length tokens ≡ place + length back
counted tokens front back place split count = ap length split ∙ length-append front back ∙ ap (λ n. n + length back) count

-- what the steps find, where this is answered
abbrev Seen : ℕ → List Token → Result Prog ParseError → Result Prog ParseError → Type 0
Seen most tokens (Ok p) r = r ≡ Ok p
Seen most tokens (Err (Syntax place)) r = (left : ℕ) × (r ≡ Err (Syntax left)) × (length tokens ≡ place + left)
Seen most tokens (Err (TooDeep place)) r = (left : ℕ) × (r ≡ Err (TooDeep left)) × (length tokens ≡ place + left)
Seen most tokens (Err Memory) r = Unit {0}

seen : (most : ℕ) (tokens : List Token) (a : Result Prog ParseError) → Answers most tokens a → Seen most tokens a (run most start tokens)
seen most tokens (Ok p) x = program_found most tokens p x.height x.low x.is
seen most tokens (Err (Syntax place)) x =
    let c = begun most x.front x.begins in (
      length x.back,
      at_front most tokens x.front x.back x.split c
          ∙ none_runs most x.front x.back c.rest c.reaches x.wrong,
      counted tokens x.front x.back place x.split x.count,
    )
seen most tokens (Err (TooDeep place)) x =
    let c = begun most x.front x.begins in (
      length x.back,
      at_front most tokens x.front x.back x.split c
          ∙ high_runs most x.front x.back c.rest c.reaches x.wrong,
      counted tokens x.front x.back place x.split x.count,
    )
seen most tokens (Err Memory) x = tt

syntax_same : (a b : ℕ) → ◌≡◌ {A = Result Prog ParseError} (Err (Syntax a)) (Err (Syntax b)) → a ≡ b
syntax_same a b e = cc

deep_same : (a b : ℕ) → ◌≡◌ {A = Result Prog ParseError} (Err (TooDeep a)) (Err (TooDeep b)) → a ≡ b
deep_same a b e = cc

same_seen : (most : ℕ) (tokens : List Token) (a b r : Result Prog ParseError) → IsTold a → IsTold b → Seen most tokens a r → Seen most tokens b r → a ≡ b
same_seen most tokens (Ok p) (Ok q) r ta tb x y = sym x ∙ y
same_seen most tokens (Ok p) (Err (Syntax k)) r ta tb x y = let e = sym x ∙ y.1 in absurd (cc e)
same_seen most tokens (Ok p) (Err (TooDeep k)) r ta tb x y = let e = sym x ∙ y.1 in absurd (cc e)
same_seen most tokens (Ok p) (Err Memory) r ta tb x y = absurd tb
same_seen most tokens (Err (Syntax k)) (Ok q) r ta tb x y = let e = sym y ∙ x.1 in absurd (cc e)
same_seen most tokens (Err (Syntax k)) (Err (Syntax l)) r ta tb x y =
    let e = syntax_same x.0 y.0 (sym x.1 ∙ y.1) in
    let f = x.2 in
    let g = y.2 in
    let is : k ≡ l = omega (arith, e, f, g) in ap (λ n. Err (Syntax n)) is
same_seen most tokens (Err (Syntax k)) (Err (TooDeep l)) r ta tb x y = let e = sym x.1 ∙ y.1 in absurd (cc e)
same_seen most tokens (Err (Syntax k)) (Err Memory) r ta tb x y = absurd tb
same_seen most tokens (Err (TooDeep k)) (Ok q) r ta tb x y = let e = sym y ∙ x.1 in absurd (cc e)
same_seen most tokens (Err (TooDeep k)) (Err (Syntax l)) r ta tb x y = let e = sym x.1 ∙ y.1 in absurd (cc e)
same_seen most tokens (Err (TooDeep k)) (Err (TooDeep l)) r ta tb x y =
    let e = deep_same x.0 y.0 (sym x.1 ∙ y.1) in
    let f = x.2 in
    let g = y.2 in
    let is : k ≡ l = omega (arith, e, f, g) in ap (λ n. Err (TooDeep n)) is
same_seen most tokens (Err (TooDeep k)) (Err Memory) r ta tb x y = absurd tb
same_seen most tokens (Err Memory) b r ta tb x y = absurd ta

-- two answers that the claim allows are one
pub one_answer : (most : ℕ) (tokens : List Token) (a b : Result Prog ParseError) → IsTold a → IsTold b → Answers most tokens a → Answers most tokens b → a ≡ b
one_answer most tokens a b ta tb x y = same_seen most tokens a b (run most start tokens) ta tb (seen most tokens a x) (seen most tokens b y)
