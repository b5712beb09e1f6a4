-- A line is read by a walk to an end.
use Rattle.std.proofs.Common.{◌≡◌, ◌^◌, ◌⊎◌, ℕ, Bool, true, false, cond, not, eqb, ◌&&◌, ◌||◌, List, [], ◌∷◌, ◌++◌, length, Option, Some, None, is_some, is_none, refl, sym, ◌∙◌, ap, inl, inr, arith}
use Rattle.std.specs.Prelude.{All, codes, decimal, filter_map, option_to_list}
use Rattle.std.proofs.lemmas.Bool.Decides.{nat_tests}
use Rattle.std.proofs.lemmas.List.Elements.{All-head, All-tail}
use Rattle.zir_tree.specs.declared.format.Format.TheVariants.{Text}
use Rattle.zir_command_line.specs.declared.reading.Kind.TheVariants as kind
use Rattle.zir_command_line.specs.declared.reading.Next.{Next}
use Rattle.zir_command_line.specs.declared.reading.Next.TheVariants as next
use Rattle.zir_command_line.specs.Words.{Choice, Ticks, Workers, Split, AsText, IsName, IsPlainName, IsWithin, IsLine, ticks_of, workers_of, auto_of, format_of}
use Rattle.zir_command_line.specs.Words as words
use Rattle.zir_command_line.specs.Walk.{State, kind_of, dashed, after, after_kind, after_name, after_ticks, after_workers, step, walk, ends}
use Rattle.zir_command_line.proofs.FirstBytes.{other_is_name}
use Rattle.zir_command_line.proofs.Spelling.{spells}
use Rattle.zir_command_line.proofs.Walking.{Gives, flag, walk_step}

-- ---- values that are given once

-- behind a value that is given none stands
full : {X : Type 0} (a b : Option X) (x : X) (xs : List X) → option_to_list b ≡ option_to_list a ++ (x ∷ xs) → a ≡ None
full None b x xs e = refl
full (Some y) None x xs e = cc
full (Some y) (Some z) x xs e = cc

-- the same for a flag
lowered : {X : Type 0} (a b : Bool) (v x : X) (xs : List X) → flag v b ≡ flag v a ++ (x ∷ xs) → a ≡ false
lowered false b v x xs e = refl
lowered true false v x xs e = cc
lowered true true v x xs e = cc

same_option : {X : Type 0} (a b : Option X) → option_to_list b ≡ option_to_list a ++ [] → a ≡ b
same_option None None e = refl
same_option None (Some y) e = cc
same_option (Some x) None e = cc
same_option (Some x) (Some y) e = cc

same_flag : {X : Type 0} (v : X) (a b : Bool) → flag v b ≡ flag v a ++ [] → a ≡ b
same_flag v false false e = refl
same_flag v false true e = cc
same_flag v true false e = cc
same_flag v true true e = refl

-- what stood in front of a value that is given is gone
front_gone : {X : Type 0} (zs xs ys : List X) → xs ≡ [] → zs ≡ xs ++ ys → zs ≡ ys
front_gone zs xs ys e f = f ∙ ap (λ v. v ++ ys) e

-- ---- where a walk ends

-- the walk leads to a state with these options and names, where the words may end
pub record Walked (s t : State) (ws : List (List ℕ)) : Type 0 where
  pub at : Next
  pub walks : walk s ws ≡ Some (record t { next = at })
  pub ends_so : ends at ≡ true

-- two states that nothing comes between
same_state : (s t : State) (n : Next) → s.next ≡ n → s.takes_options ≡ t.takes_options → Gives s t [] [] → s ≡ record t { next = n }
same_state s t n a takes g =
    let ticks = same_option s.ticks t.ticks g.ticks in
    let workers = same_option s.workers t.workers g.workers in
    let auto = same_flag true s.auto t.auto g.auto in
    let text = same_flag Text s.text t.text g.text in
    let program = same_option s.program t.program g.program in
    λ i. record { ticks = ticks i; workers = workers i; auto = auto i; text = text i; program = program i; takes_options = takes i; next = a i }

-- a step in front
stepped : (s u t : State) (w : List ℕ) (ws : List (List ℕ)) → step s w ≡ Some u → Walked u t ws → Walked s t (w ∷ ws)
stepped s u t w ws e h = record { at = h.at; walks = walk_step s u w ws e ∙ h.walks; ends_so = h.ends_so }

-- a step, by what the next word has to be
step_at : (s : State) (n : Next) (w : List ℕ) → s.next ≡ n → step s w ≡ after n s w
unfolding step
step_at s n w a = ap (λ n. after n s w) a

-- a step over a name
name_step : (s : State) (w : List ℕ) → IsName w → s.program ≡ None → after_name s w ≡ Some (record s { program = Some w })
name_step s w is none =
    let u : Option State = Some (record s { program = Some w }) in
    let a : eqb (length w) 0 ≡ false = grind (arith, nat_tests) in
    ap (λ b. cond (b || is_some s.program) None u) a ∙ ap (λ o. cond (is_some o) None u) none

-- words that are all names
names_walk : (ns : List (List ℕ)) (s t : State) → s.next ≡ next.Name → s.takes_options ≡ t.takes_options → All IsName ns → Gives s t [] ns → walk s ns ≡ Some (record t { next = next.Name })
names_walk [] s t a takes all g = ap Some (same_state s t next.Name a takes g)
names_walk (n ∷ ns) s t a takes all g =
    let none = full s.program t.program n ns g.program in
    let u : State = record s { program = Some n } in
    let e : step s n ≡ Some u = step_at s next.Name n a ∙ name_step s n (All-head IsName n ns all) none in
    let h : Gives u t [] ns = record { ticks = g.ticks; workers = g.workers; auto = g.auto; text = g.text; program = front_gone _ (option_to_list s.program) _ (ap option_to_list none) g.program } in
    walk_step s u n ns e ∙ names_walk ns u t a takes (All-tail IsName n ns all) h

-- ---- a line

-- options are allowed where there are some
abbrev Allows : State → List Choice → Type 0
Allows s options = (s.takes_options ≡ true) ⊎ (options ≡ [])

-- where one is given they are allowed, and so are those behind it
takes_some : (s : State) (c : Choice) (cs : List Choice) → Allows s (c ∷ cs) → s.takes_options ≡ true
takes_some s c cs (inl e) = e
takes_some s c cs (inr e) = cc

-- a test that is passed
opened : {X : Type 0} (a b : Bool) (x : X) → a ≡ true → b ≡ true → cond (a && b) (Some x) None ≡ Some x
opened a b x e f = rw (e, f) refl

pub walked : {ws : List (List ℕ)} {options : List Choice} {names : List (List ℕ)} → IsLine ws options names → (s t : State) → s.next ≡ next.Any
    → s.takes_options ≡ t.takes_options → Allows s options → Gives s t options names → Walked s t ws
unfolding kind_of dashed step
walked words.no_words s t a takes allows g = record { at = next.Any; walks = ap Some (same_state s t next.Any a takes g); ends_so = refl }
walked (words.ticks {n = n} {words = ws} {options = cs} {names = ns} within line) s t a takes allows g =
    let may = takes_some s (Ticks n) cs allows in
    let none = full s.ticks t.ticks n (filter_map ticks_of cs) g.ticks in
    let u : State = record s { next = next.Ticks } in
    let v : State = record s { ticks = Some n; next = next.Any } in
    let e : step s (codes "--ticks") ≡ Some u = step_at s next.Any (codes "--ticks") a ∙ opened s.takes_options (is_none s.ticks) u may (ap is_none none) in
    let f : step u (decimal n) ≡ Some v = ap (after_ticks u) (spells (2 ^ 48) n (decimal n) within (omega arith) refl) in
    let h : Gives v t cs ns = record { ticks = front_gone _ (option_to_list s.ticks) _ (ap option_to_list none) g.ticks; workers = g.workers; auto = g.auto; text = g.text; program = g.program } in
    stepped s u t (codes "--ticks") (decimal n ∷ ws) e (stepped u v t (decimal n) ws f (walked line v t refl takes (inl may) h))
walked (words.workers {n = n} {words = ws} {options = cs} {names = ns} within line) s t a takes allows g =
    let may = takes_some s (Workers n) cs allows in
    let none = full s.workers t.workers n (filter_map workers_of cs) g.workers in
    let u : State = record s { next = next.Workers } in
    let v : State = record s { workers = Some n; next = next.Any } in
    let e : step s (codes "--workers") ≡ Some u = step_at s next.Any (codes "--workers") a ∙ opened s.takes_options (is_none s.workers) u may (ap is_none none) in
    let f : step u (decimal n) ≡ Some v = ap (after_workers u) (spells 16 n (decimal n) within (omega arith) refl) in
    let h : Gives v t cs ns = record { ticks = g.ticks; workers = front_gone _ (option_to_list s.workers) _ (ap option_to_list none) g.workers; auto = g.auto; text = g.text; program = g.program } in
    stepped s u t (codes "--workers") (decimal n ∷ ws) e (stepped u v t (decimal n) ws f (walked line v t refl takes (inl may) h))
walked (words.split {words = ws} {options = cs} {names = ns} line) s t a takes allows g =
    let may = takes_some s Split cs allows in
    let none = lowered s.auto t.auto true true (filter_map auto_of cs) g.auto in
    let u : State = record s { next = next.Split } in
    let v : State = record s { auto = true; next = next.Any } in
    let e : step s (codes "--split") ≡ Some u = step_at s next.Any (codes "--split") a ∙ opened s.takes_options (not s.auto) u may (ap not none) in
    let h : Gives v t cs ns = record { ticks = g.ticks; workers = g.workers; auto = front_gone _ (flag true s.auto) _ (ap (flag true) none) g.auto; text = g.text; program = g.program } in
    stepped s u t (codes "--split") (codes "auto" ∷ ws) e (stepped u v t (codes "auto") ws refl (walked line v t refl takes (inl may) h))
walked (words.text {words = ws} {options = cs} {names = ns} line) s t a takes allows g =
    let may = takes_some s AsText cs allows in
    let none = lowered s.text t.text Text Text (filter_map format_of cs) g.text in
    let u : State = record s { text = true } in
    let e : step s (codes "--text") ≡ Some u = step_at s next.Any (codes "--text") a ∙ opened s.takes_options (not s.text) u may (ap not none) in
    let h : Gives u t cs ns = record { ticks = g.ticks; workers = g.workers; auto = g.auto; text = front_gone _ (flag Text s.text) _ (ap (flag Text) none) g.text; program = g.program } in
    stepped s u t (codes "--text") ws e (walked line u t a takes (inl may) h)
walked (words.plain_name {name = n} {words = ws} {options = cs} {names = ns} is line) s t a takes allows g =
    let none = full s.program t.program n ns g.program in
    let u : State = record s { program = Some n } in
    let k : kind_of n ≡ kind.Name = sym (other_is_name n is.is_name is.no_dash) in
    let e : step s n ≡ Some u = step_at s next.Any n a ∙ ap (λ k. after_kind k s n) k ∙ name_step s n is.is_name none in
    let h : Gives u t cs ns = record { ticks = g.ticks; workers = g.workers; auto = g.auto; text = g.text; program = front_gone _ (option_to_list s.program) _ (ap option_to_list none) g.program } in
    stepped s u t n ws e (walked line u t a takes allows h)
walked (words.separator {names = ns} all) s t a takes allows g =
    let u : State = record s { next = next.Name } in
    let e : step s (codes "--") ≡ Some u = step_at s next.Any (codes "--") a in
    let h : Gives u t [] ns = record { ticks = g.ticks; workers = g.workers; auto = g.auto; text = g.text; program = g.program } in
    record { at = next.Name; walks = walk_step s u (codes "--") ns e ∙ names_walk ns u t refl takes all h; ends_so = refl }
