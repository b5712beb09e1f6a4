-- A walk to an end reads a line.
use Rattle.std.proofs.Common.{◌≡◌, ◌<◌, ◌^◌, ℕ, Bool, true, false, cond, not, eqb, ◌&&◌, ◌||◌, List, [], ◌∷◌, ◌++◌, length, Option, Some, None, is_some, is_none, refl, sym, ◌∙◌, ap, subst, arith}
use Rattle.std.specs.Prelude.{All, codes, option_to_list, option_and_then, bytes_eq}
use Rattle.std.proofs.lemmas.Bool.Decides.{nat_tests}
use Rattle.std.proofs.lemmas.List.{append-nil}
use Rattle.std.proofs.lemmas.List.Elements.{All-cons, All-nil}
use Rattle.zir_tree.specs.declared.format.Format.TheVariants.{Text}
use Rattle.zir_command_line.specs.declared.reading.Kind.{Kind}
use Rattle.zir_command_line.specs.declared.reading.Kind.TheVariants as kind
use Rattle.zir_command_line.specs.declared.reading.Next.{Next}
use Rattle.zir_command_line.specs.declared.reading.Next.TheVariants as next
use Rattle.zir_command_line.specs.Words.{Choice, Ticks, Workers, Split, AsText, IsName, IsPlainName, IsWithin, IsLine, ticks_of, workers_of, auto_of, format_of}
use Rattle.zir_command_line.specs.Words as words
use Rattle.zir_command_line.specs.Walk.{State, kind_of, dashed, number_of, after, after_kind, after_ticks, after_workers, step, walk, ends}
use Rattle.zir_command_line.proofs.FirstBytes.{is_text}
use Rattle.zir_command_line.proofs.Spelling.{number_is}
use Rattle.zir_command_line.proofs.Walking.{Gives, flag}

-- ---- tests that let through

-- what a test let through
passed : {A B : Type 0} (f : A → Option B) (b : Bool) (u : A) (t : B) → option_and_then f (cond b (Some u) None) ≡ Some t → (b ≡ true) × (f u ≡ Some t)
passed f true u t e = (refl, e)
passed f false u t e = cc

-- what a test did not keep out
not_kept : {A B : Type 0} (f : A → Option B) (b : Bool) (u : A) (t : B) → option_and_then f (cond b None (Some u)) ≡ Some t → (b ≡ false) × (f u ≡ Some t)
not_kept f true u t e = cc
not_kept f false u t e = (refl, e)

both : (a b : Bool) → (a && b) ≡ true → (a ≡ true) × (b ≡ true)
both true true e = (refl, refl)
both true false e = cc
both false b e = cc

neither : (a b : Bool) → (a || b) ≡ false → (a ≡ false) × (b ≡ false)
neither false false e = (refl, refl)
neither false true e = cc
neither true b e = cc

none_so : {X : Type 0} (o : Option X) → is_none o ≡ true → o ≡ None
none_so None e = refl
none_so (Some x) e = cc

not_some : {X : Type 0} (o : Option X) → is_some o ≡ false → o ≡ None
not_some None e = refl
not_some (Some x) e = cc

off : (b : Bool) → not b ≡ true → b ≡ false
off false e = refl
off true e = cc

-- a step, by what the next word has to be
open_step : (s t : State) (n : Next) (w : List ℕ) (ws : List (List ℕ)) → s.next ≡ n → walk s (w ∷ ws) ≡ Some t → option_and_then (λ u. walk u ws) (after n s w) ≡ Some t
unfolding step
open_step s t n w ws a e = ap (λ n. option_and_then (λ u. walk u ws) (after n s w)) (sym a) ∙ e

-- nothing stands in front
behind_none : {X : Type 0} (zs xs ys : List X) → xs ≡ [] → zs ≡ ys → zs ≡ xs ++ ys
behind_none zs xs ys e f = f ∙ ap (λ v. v ++ ys) (sym e)

-- ---- the word of a kind

abbrev WordIs : Kind → List ℕ → Type 0
WordIs kind.Ticks w = w ≡ codes "--ticks"
WordIs kind.Workers w = w ≡ codes "--workers"
WordIs kind.Split w = w ≡ codes "--split"
WordIs kind.Text w = w ≡ codes "--text"
WordIs kind.Separator w = w ≡ codes "--"
WordIs kind.Name w = IsPlainName w
WordIs kind.Bad w = Unit {0}

by_tests : (a b c d e : Bool) (w : List ℕ) → (a ≡ true → w ≡ codes "--ticks") → (b ≡ true → w ≡ codes "--workers") → (c ≡ true → w ≡ codes "--split")
    → (d ≡ true → w ≡ codes "--text") → (e ≡ true → w ≡ codes "--")
    → WordIs (cond a kind.Ticks (cond b kind.Workers (cond c kind.Split (cond d kind.Text (cond e kind.Separator kind.Bad))))) w
by_tests true b c d e w h i j k l = h refl
by_tests false true c d e w h i j k l = i refl
by_tests false false true d e w h i j k l = j refl
by_tests false false false true e w h i j k l = k refl
by_tests false false false false true w h i j k l = l refl
by_tests false false false false false w h i j k l = tt

dashed_word : (w : List ℕ) → WordIs (dashed w) w
unfolding dashed
dashed_word w = by_tests (bytes_eq w (codes "--ticks")) (bytes_eq w (codes "--workers")) (bytes_eq w (codes "--split")) (bytes_eq w (codes "--text")) (bytes_eq w (codes "--")) w
    (is_text w (codes "--ticks")) (is_text w (codes "--workers")) (is_text w (codes "--split")) (is_text w (codes "--text")) (is_text w (codes "--"))

by_dash : (t : Bool) (k : Kind) (w : List ℕ) → WordIs k w → (t ≡ false → IsPlainName w) → WordIs (cond t k kind.Name) w
by_dash true k w h n = h
by_dash false k w h n = n refl

kind_word : (w : List ℕ) → WordIs (kind_of w) w
unfolding kind_of
kind_word [] = tt
kind_word (b ∷ bs) = by_dash (eqb b 45) (dashed (b ∷ bs)) (b ∷ bs) (dashed_word (b ∷ bs)) (λ e. record { is_name = omega arith; no_dash = grind (arith, nat_tests) })

word_is : (k : Kind) (w : List ℕ) → kind_of w ≡ k → WordIs k w
word_is k w e = subst (λ k. WordIs k w) e (kind_word w)

-- ---- what is found

-- a line that leads from a state to another; without options where the first takes none
pub record Found (s t : State) (ws : List (List ℕ)) : Type 0 where
  pub options : List Choice
  pub names : List (List ℕ)
  pub line : IsLine ws options names
  pub gives : Gives s t options names
  pub bare : s.takes_options ≡ false → options ≡ []

gives_none : (s : State) → Gives s s [] []
gives_none s = record {
  ticks = sym (append-nil (option_to_list s.ticks));
  workers = sym (append-nil (option_to_list s.workers));
  auto = sym (append-nil (flag true s.auto));
  text = sym (append-nil (flag Text s.text));
  program = sym (append-nil (option_to_list s.program));
}

found_none : (s t : State) → s ≡ t → Found s t []
found_none s t e = subst (λ u. Found s u []) e (record { options = []; names = []; line = words.no_words; gives = gives_none s; bare = λ f. refl })

-- only names
record Named (s t : State) (ws : List (List ℕ)) : Type 0 where
  names : All IsName ws
  gives : Gives s t [] ws

name_byte : (w : List ℕ) → eqb (length w) 0 ≡ false → 0 < length w
name_byte w e = grind (arith, nat_tests)

named : (ws : List (List ℕ)) (s t : State) → s.next ≡ next.Name → walk s ws ≡ Some t → Named s t ws
unfolding step
named [] s t a e = let same : s ≡ t = cc in subst (λ u. Named s u []) same (record { names = All-nil IsName; gives = gives_none s })
named (w ∷ ws) s t a e =
    let u : State = record s { program = Some w } in
    let f = open_step s t next.Name w ws a e in
    let k = not_kept (λ u. walk u ws) (eqb (length w) 0 || is_some s.program) u t f in
    let n = neither (eqb (length w) 0) (is_some s.program) k.0 in
    let none : s.program ≡ None = not_some s.program n.1 in
    let more = named ws u t a k.1 in
    let g = more.gives in
    record { names = All-cons IsName w ws (name_byte w n.0) more.names; gives = record { ticks = g.ticks; workers = g.workers; auto = g.auto; text = g.text; program = behind_none _ (option_to_list s.program) _ (ap option_to_list none) g.program } }

-- ---- one kind of word after the other

-- from any state, such words lead to a line
unfoldable Leads : State → List (List ℕ) → Type 0
Leads t ws = (s : State) → s.next ≡ next.Any → walk s ws ≡ Some t → Found s t ws

-- the same behind the first word
abbrev LeadsBehind : State → List (List ℕ) → Type 0
LeadsBehind t [] = Unit {0}
LeadsBehind t (v ∷ ws) = Leads t ws

-- a walk to an end does not stand still in front of a value
stuck : {A : Type 0} (s t : State) (n : Next) → s.next ≡ n → ends n ≡ false → Some s ≡ Some t → ends t.next ≡ true → A
stuck s t n a f e d = absurd (let same : s ≡ t = cc in let g : ends t.next ≡ false = ap (λ u. ends u.next) (sym same) ∙ (ap ends a ∙ f) in cc)

ticks_value : (s t : State) (ws : List (List ℕ)) → s.next ≡ next.Ticks → s.takes_options ≡ true → s.ticks ≡ None → ends t.next ≡ true → LeadsBehind t ws → walk s ws ≡ Some t
    → Found s t (codes "--ticks" ∷ ws)
unfolding step Leads
ticks_value s t [] a takes none d leads e = stuck s t next.Ticks a refl e d
ticks_value s t (v ∷ ws) a takes none d leads e =
    by_number (number_of (2 ^ 48) v) refl (open_step s t next.Ticks v ws a e)
  where
    by_number : (o : Option ℕ) → number_of (2 ^ 48) v ≡ o → option_and_then (λ u. walk u ws) (after_ticks s o) ≡ Some t → Found s t (codes "--ticks" ∷ v ∷ ws)
    by_number None q f = cc
    by_number (Some n) q f =
        let is = number_is (2 ^ 48) v n q in
        let more = leads (record s { ticks = Some n; next = next.Any }) refl f in
        let g = more.gives in
        record {
          options = Ticks n ∷ more.options;
          names = more.names;
          line = subst (λ x. IsLine (codes "--ticks" ∷ x ∷ ws) (Ticks n ∷ more.options) more.names) (sym is.1) (words.ticks is.0 more.line);
          gives = record { ticks = behind_none _ (option_to_list s.ticks) _ (ap option_to_list none) g.ticks; workers = g.workers; auto = g.auto; text = g.text; program = g.program };
          bare = λ f. cc;
        }

workers_value : (s t : State) (ws : List (List ℕ)) → s.next ≡ next.Workers → s.takes_options ≡ true → s.workers ≡ None → ends t.next ≡ true → LeadsBehind t ws → walk s ws ≡ Some t
    → Found s t (codes "--workers" ∷ ws)
unfolding step Leads
workers_value s t [] a takes none d leads e = stuck s t next.Workers a refl e d
workers_value s t (v ∷ ws) a takes none d leads e =
    by_number (number_of 16 v) refl (open_step s t next.Workers v ws a e)
  where
    by_number : (o : Option ℕ) → number_of 16 v ≡ o → option_and_then (λ u. walk u ws) (after_workers s o) ≡ Some t → Found s t (codes "--workers" ∷ v ∷ ws)
    by_number None q f = cc
    by_number (Some n) q f =
        let is = number_is 16 v n q in
        let more = leads (record s { workers = Some n; next = next.Any }) refl f in
        let g = more.gives in
        record {
          options = Workers n ∷ more.options;
          names = more.names;
          line = subst (λ x. IsLine (codes "--workers" ∷ x ∷ ws) (Workers n ∷ more.options) more.names) (sym is.1) (words.workers is.0 more.line);
          gives = record { ticks = g.ticks; workers = behind_none _ (option_to_list s.workers) _ (ap option_to_list none) g.workers; auto = g.auto; text = g.text; program = g.program };
          bare = λ f. cc;
        }

split_value : (s t : State) (ws : List (List ℕ)) → s.next ≡ next.Split → s.takes_options ≡ true → s.auto ≡ false → ends t.next ≡ true → LeadsBehind t ws → walk s ws ≡ Some t
    → Found s t (codes "--split" ∷ ws)
unfolding step Leads
split_value s t [] a takes none d leads e = stuck s t next.Split a refl e d
split_value s t (v ∷ ws) a takes none d leads e =
    let u : State = record s { auto = true; next = next.Any } in
    let f = open_step s t next.Split v ws a e in
    let k = passed (λ u. walk u ws) (bytes_eq v (codes "auto")) u t f in
    let more = leads u refl k.1 in
    let g = more.gives in
    record {
      options = Split ∷ more.options;
      names = more.names;
      line = subst (λ x. IsLine (codes "--split" ∷ x ∷ ws) (Split ∷ more.options) more.names) (sym (is_text v (codes "auto") k.0)) (words.split more.line);
      gives = record { ticks = g.ticks; workers = g.workers; auto = behind_none _ (flag true s.auto) _ (ap (flag true) none) g.auto; text = g.text; program = g.program };
      bare = λ f. cc;
    }

by_kind : (k : Kind) (s t : State) (w : List ℕ) (ws : List (List ℕ)) → WordIs k w → s.next ≡ next.Any → ends t.next ≡ true → Leads t ws → LeadsBehind t ws
    → option_and_then (λ u. walk u ws) (after_kind k s w) ≡ Some t → Found s t (w ∷ ws)
unfolding Leads
by_kind kind.Ticks s t w ws is a d leads behind e =
    let u : State = record s { next = next.Ticks } in
    let k = passed (λ u. walk u ws) (s.takes_options && is_none s.ticks) u t e in
    let h = both s.takes_options (is_none s.ticks) k.0 in
    let none = none_so s.ticks h.1 in
    let f = ticks_value u t ws refl h.0 none d behind k.1 in
    subst (λ x. Found s t (x ∷ ws)) (sym is) (record { options = f.options; names = f.names; line = f.line; gives = let g = f.gives in record { ticks = g.ticks; workers = g.workers; auto = g.auto; text = g.text; program = g.program }; bare = f.bare })
by_kind kind.Workers s t w ws is a d leads behind e =
    let u : State = record s { next = next.Workers } in
    let k = passed (λ u. walk u ws) (s.takes_options && is_none s.workers) u t e in
    let h = both s.takes_options (is_none s.workers) k.0 in
    let none = none_so s.workers h.1 in
    let f = workers_value u t ws refl h.0 none d behind k.1 in
    subst (λ x. Found s t (x ∷ ws)) (sym is) (record { options = f.options; names = f.names; line = f.line; gives = let g = f.gives in record { ticks = g.ticks; workers = g.workers; auto = g.auto; text = g.text; program = g.program }; bare = f.bare })
by_kind kind.Split s t w ws is a d leads behind e =
    let u : State = record s { next = next.Split } in
    let k = passed (λ u. walk u ws) (s.takes_options && not s.auto) u t e in
    let h = both s.takes_options (not s.auto) k.0 in
    let f = split_value u t ws refl h.0 (off s.auto h.1) d behind k.1 in
    subst (λ x. Found s t (x ∷ ws)) (sym is) (record { options = f.options; names = f.names; line = f.line; gives = let g = f.gives in record { ticks = g.ticks; workers = g.workers; auto = g.auto; text = g.text; program = g.program }; bare = f.bare })
by_kind kind.Text s t w ws is a d leads behind e =
    let u : State = record s { text = true } in
    let k = passed (λ u. walk u ws) (s.takes_options && not s.text) u t e in
    let h = both s.takes_options (not s.text) k.0 in
    let none = off s.text h.1 in
    let takes : s.takes_options ≡ true = h.0 in
    let more = leads u a k.1 in
    let g = more.gives in
    record {
      options = AsText ∷ more.options;
      names = more.names;
      line = subst (λ x. IsLine (x ∷ ws) (AsText ∷ more.options) more.names) (sym is) (words.text more.line);
      gives = record { ticks = g.ticks; workers = g.workers; auto = g.auto; text = behind_none _ (flag Text s.text) _ (ap (flag Text) none) g.text; program = g.program };
      bare = λ f. cc;
    }
by_kind kind.Separator s t w ws is a d leads behind e =
    let more = named ws (record s { next = next.Name }) t refl e in
    let g = more.gives in
    record {
      options = [];
      names = ws;
      line = subst (λ x. IsLine (x ∷ ws) [] ws) (sym is) (words.separator more.names);
      gives = record { ticks = g.ticks; workers = g.workers; auto = g.auto; text = g.text; program = g.program };
      bare = λ f. refl;
    }
by_kind kind.Name s t w ws is a d leads behind e =
    let u : State = record s { program = Some w } in
    let k = not_kept (λ u. walk u ws) (eqb (length w) 0 || is_some s.program) u t e in
    let n = neither (eqb (length w) 0) (is_some s.program) k.0 in
    let none : s.program ≡ None = not_some s.program n.1 in
    let more = leads u a k.1 in
    let g = more.gives in
    record {
      options = more.options;
      names = w ∷ more.names;
      line = words.plain_name is more.line;
      gives = record { ticks = g.ticks; workers = g.workers; auto = g.auto; text = g.text; program = behind_none _ (option_to_list s.program) _ (ap option_to_list none) g.program };
      bare = more.bare;
    }
by_kind kind.Bad s t w ws is a d leads behind e = cc

-- a walk to an end, where any word may come first, reads a line
pub found : (ws : List (List ℕ)) (s t : State) → s.next ≡ next.Any → ends t.next ≡ true → walk s ws ≡ Some t → Found s t ws
unfolding step Leads
found [] s t a d e = found_none s t cc
found (w ∷ []) s t a d e = by_kind (kind_of w) s t w [] (kind_word w) a d (λ u b f. found [] u t b d f) tt (open_step s t next.Any w [] a e)
found (w ∷ v ∷ ws) s t a d e = by_kind (kind_of w) s t w (v ∷ ws) (kind_word w) a d (λ u b f. found (v ∷ ws) u t b d f) (λ u b f. found ws u t b d f) (open_step s t next.Any w (v ∷ ws) a e)
