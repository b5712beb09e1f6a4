-- Where words go wrong, and that there is one answer to them.
use Rattle.std.proofs.Common.{◌≡◌, ◌≢◌, ◌<◌, ◌+◌, ℕ, Bool, true, false, List, [], ◌∷◌, ◌++◌, length, Some, None, Ok, Err, refl, sym, ◌∙◌, ap, subst, inl, inr, arith, append_assoc}
use Rattle.std.specs.Prelude.{codes, option_and_then}
use Rattle.std.proofs.lemmas.List.{append-nil}
use Rattle.zir_command_line.specs.Words.{Asked, ForRun, ForCheck, ForShow, ForHelp, ForVersion, Ask}
use Rattle.zir_command_line.specs.Faults.{AreBad, Begins, NoneGoesOn, FirstFault, HasOneAnswer}
use Rattle.zir_command_line.specs.Walk.{State, Stops, TakesName, start, step, walk, finish, run_of}
use Rattle.zir_command_line.proofs.Walking.{onwards, walk_append, walk_on}
use Rattle.zir_command_line.proofs.Commands.{Ending, asked_once, run_found, name_found, run_ends, name_ends, run_only, check_only, show_only, help_only, version_only}

-- ---- commands whose words are walked over

-- a command asks for something exactly where a walk over the words behind it comes to an end
pub record Walks (command : List ℕ) (takes : Bool) : Type 0 where
  pub asks : (ws : List (List ℕ)) (t : State) (name : List ℕ) → walk (start takes) ws ≡ Some t → finish t ≡ Some name → (asked : Asked) × Ask (command ∷ ws) asked
  pub ends_so : (ws : List (List ℕ)) (asked : Asked) → Ask (command ∷ ws) asked → (name : List ℕ) × Ending takes ws name

pub run_walks : Walks (codes "run") true
run_walks = record {
  asks = λ ws t name e h. (ForRun (run_of t name), (refl, run_found ws t name e h));
  ends_so = λ ws asked h. let o = run_only (codes "run") ws asked refl h in (o.0.program, (run_ends ws o.0 o.2).ending);
}

pub name_walks : (command : List ℕ) → TakesName command → Walks command false
name_walks command (inl is) = record {
  asks = λ ws t name e h. (ForCheck name, (is, name_found ws t name e h));
  ends_so = λ ws asked h. let o = check_only command ws asked is h in (o.0, name_ends ws o.0 o.2);
}
name_walks command (inr is) = record {
  asks = λ ws t name e h. (ForShow name, (is, name_found ws t name e h));
  ends_so = λ ws asked h. let o = show_only command ws asked is h in (o.0, name_ends ws o.0 o.2);
}

-- ---- faults of those

-- where a walk leads, some words that ask for something begin so
begins_so : (command : List ℕ) (takes : Bool) → Walks command takes → (ws : List (List ℕ)) (t : State) → walk (start takes) ws ≡ Some t → Begins (command ∷ ws)
begins_so command takes w ws t e =
    let on = onwards t in
    let a = w.asks (ws ++ on.more) on.last on.name (walk_on (start takes) t on.last ws on.more e on.walks) on.ends_so in
    record { more = on.more; asked = a.0; asks = a.1 }

-- a walk that ends without a program
pub end_fault : (command : List ℕ) (takes : Bool) → Walks command takes → (ws : List (List ℕ)) (t : State) (place : ℕ) → walk (start takes) ws ≡ Some t → finish t ≡ None → 1 + length ws ≡ place
    → FirstFault (command ∷ ws) place
end_fault command takes w ws t place e none count = record {
  front = command ∷ ws;
  back = [];
  split = sym (append-nil (command ∷ ws));
  count = omega arith;
  begins = begins_so command takes w ws t e;
  wrong = λ asked h. let o = w.ends_so ws asked h in let same : o.1.last ≡ t = cc (o.1.walks) in let f : Some o.0 ≡ None = sym o.1.ends_so ∙ ap finish same ∙ none in cc;
}

-- no walk goes over a word at which it stops
stopped : (s before : State) (front : List (List ℕ)) (bad : List ℕ) (more : List (List ℕ)) → walk s front ≡ Some before → step before bad ≡ None → walk s ((front ++ bad ∷ []) ++ more) ≡ None
stopped s before front bad more e stop =
    let f : walk s (front ++ bad ∷ []) ≡ None = walk_append s front (bad ∷ []) ∙ ap (option_and_then (λ t. walk t (bad ∷ []))) e ∙ ap (option_and_then (λ t. Some t)) stop in
    walk_append s (front ++ bad ∷ []) more ∙ ap (option_and_then (λ t. walk t more)) f

-- a walk that stops
pub stop_fault : (command : List ℕ) (takes : Bool) → Walks command takes → (ws : List (List ℕ)) (place : ℕ) → Stops (start takes) ws 1 place → FirstFault (command ∷ ws) place
stop_fault command takes w ws place s = record {
  front = command ∷ s.front;
  back = s.bad ∷ s.back;
  split = ap (λ x. command ∷ x) s.split;
  count = let count = s.count in omega arith;
  begins = begins_so command takes w s.front s.before s.walks;
  wrong = λ b. let o = w.ends_so ((s.front ++ s.bad ∷ []) ++ b.more) b.asked b.asks in
      let none = stopped (start takes) s.before s.front s.bad b.more s.walks s.stops in
      let f : Some o.1.last ≡ None = sym o.1.walks ∙ none in cc;
}

-- ---- other faults

-- the words of the help, to go on from nothing
pub begins_nothing : Begins []
begins_nothing = record { more = codes "--help" ∷ []; asked = ForHelp; asks = (refl, refl) }

-- no word
pub no_words_fault : FirstFault [] 0
no_words_fault = record { front = []; back = []; split = refl; count = refl; begins = begins_nothing; wrong = λ asked h. absurd h }

-- a word that is no command
pub command_fault : (c : List ℕ) (ws : List (List ℕ)) → c ≢ codes "run" → c ≢ codes "check" → c ≢ codes "show" → c ≢ codes "--help" → c ≢ codes "--version" → FirstFault (c ∷ ws) 0
command_fault c ws run check show help version = record { front = []; back = c ∷ ws; split = refl; count = refl; begins = begins_nothing; wrong = λ b. wrong b.more b.asked b.asks }
  where
    wrong : (more : List (List ℕ)) (asked : Asked) → Ask (c ∷ more) asked → ⊥
    wrong more (ForRun r) h = run h.0
    wrong more (ForCheck n) h = check h.0
    wrong more (ForShow n) h = show h.0
    wrong more ForHelp h = help h.0
    wrong more ForVersion h = version h.0

-- words behind one that stands alone
pub alone_fault : (c : List ℕ) (ws : List (List ℕ)) (asked : Asked) → Ask (c ∷ []) asked → ((more : List (List ℕ)) (a : Asked) → Ask (c ∷ more) a → more ≡ []) → ws ≢ [] → FirstFault (c ∷ ws) 1
alone_fault c [] asked h only some = absurd (some refl)
alone_fault c (w ∷ ws) asked h only some = record {
  front = c ∷ [];
  back = w ∷ ws;
  split = refl;
  count = omega arith;
  begins = record { more = []; asked = asked; asks = h };
  wrong = λ b. let none = only (w ∷ b.more) b.asked b.asks in cc;
}

pub help_fault : (c : List ℕ) (ws : List (List ℕ)) → c ≡ codes "--help" → ws ≢ [] → FirstFault (c ∷ ws) 1
help_fault c ws is some = alone_fault c ws ForHelp (is, refl) (λ more a h. (help_only c more a is h).1) some

pub version_fault : (c : List ℕ) (ws : List (List ℕ)) → c ≡ codes "--version" → ws ≢ [] → FirstFault (c ∷ ws) 1
version_fault c ws is some = alone_fault c ws ForVersion (is, refl) (λ more a h. (version_only c more a is h).1) some

-- ---- one answer

-- words with a fault ask for nothing
pub fault_is_bad : (words : List (List ℕ)) (place : ℕ) → FirstFault words place → AreBad words
fault_is_bad words place f = by_back f.front f.back f.split f.wrong
  where
    by_back : (front back : List (List ℕ)) → words ≡ front ++ back → NoneGoesOn front back → AreBad words
    by_back front [] split wrong asked h = wrong asked (subst (λ ws. Ask ws asked) (split ∙ append-nil front) h)
    by_back front (bad ∷ back) split wrong asked h =
        wrong (record { more = back; asked = asked; asks = subst (λ ws. Ask ws asked) (split ∙ sym (append_assoc front (bad ∷ []) back)) h })

-- the longer of two fronts goes on behind the shorter one
record Longer (xs ys us : List (List ℕ)) : Type 0 where
  next : List ℕ
  rest : List (List ℕ)
  back : List (List ℕ)
  longer : us ≡ xs ++ next ∷ rest
  other : ys ≡ next ∷ back

longer : (xs ys us vs : List (List ℕ)) → xs ++ ys ≡ us ++ vs → length xs < length us → Longer xs ys us
longer [] ys [] vs e h = absurd (omega arith)
longer [] ys (u ∷ us) vs e h = record { next = u; rest = us; back = us ++ vs; longer = refl; other = e }
longer (x ∷ xs) ys [] vs e h = absurd (omega arith)
longer (x ∷ xs) ys (u ∷ us) vs e h =
    let same : x ≡ u = cc in
    let tails : xs ++ ys ≡ us ++ vs = cc in
    let more = longer xs ys us vs tails (omega arith) in
    record { next = more.next; rest = more.rest; back = more.back; longer = λ i. sym same i ∷ more.longer i; other = more.other }

-- no fault stands in front of another
earlier : (words : List (List ℕ)) (p q : ℕ) → FirstFault words p → FirstFault words q → p < q → ⊥
earlier words p q f g h =
    let a = f.count in
    let b = g.count in
    let l = longer f.front f.back g.front g.back (sym f.split ∙ g.split) (omega arith) in
    let more = g.begins in
    let wrong : NoneGoesOn f.front (l.next ∷ l.back) = subst (λ back. NoneGoesOn f.front back) l.other f.wrong in
    wrong (record {
      more = l.rest ++ more.more;
      asked = more.asked;
      asks = subst (λ ws. Ask ws more.asked) (ap (λ front. front ++ more.more) l.longer ∙ append_assoc f.front (l.next ∷ l.rest) more.more ∙ sym (append_assoc f.front (l.next ∷ []) (l.rest ++ more.more))) more.asks;
    })

-- two places, neither of them in front
level : (p q : ℕ) → (p < q → ⊥) → (q < p → ⊥) → p ≡ q
level p q a b = omega arith

pub answered_once : HasOneAnswer
answered_once words (Ok a) (Ok b) g h = ap Ok (asked_once words a b g h)
answered_once words (Ok a) (Err q) g h = absurd (fault_is_bad words q h a g)
answered_once words (Err p) (Ok b) g h = absurd (fault_is_bad words p g b h)
answered_once words (Err p) (Err q) g h = ap Err (level p q (earlier words p q g h) (earlier words q p h g))
