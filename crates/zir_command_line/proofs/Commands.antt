-- What a walk to an end asks for, and that it is all that words ask for.
use Rattle.std.proofs.Common.{◌≡◌, ℕ, Bool, true, false, cond, List, [], ◌∷◌, ◌++◌, Option, Some, None, refl, sym, ◌∙◌, ap, subst, inl, inr}
use Rattle.std.specs.Prelude.{codes, filter_map, option_to_list, unwrap_or, bytes_eq}
use Rattle.std.specs.List.{cons_option}
use Rattle.zir_tree.specs.declared.format.Format.{Format}
use Rattle.zir_tree.specs.declared.format.Format.TheVariants.{Binary, Text}
use Rattle.zir_command_line.specs.declared.reading.Next.TheVariants as next
use Rattle.zir_command_line.specs.Words.{Choice, Ticks, Workers, Split, AsText, IsLine, IsGiven, AskedRun, Asked, ForRun, ForCheck, ForShow, ForHelp, ForVersion, IsRun, Ask, AskOnce, ticks_of, workers_of, auto_of, format_of}
use Rattle.zir_command_line.specs.Walk.{State, start, walk, ends, finish, run_of}
use Rattle.zir_command_line.proofs.FirstBytes.{alike}
use Rattle.zir_command_line.proofs.Walking.{Gives, flag}
use Rattle.zir_command_line.proofs.Sound.{Found, found}
use Rattle.zir_command_line.proofs.Complete.{walked}

-- ---- options that are given once or not

once : {X : Type 0} (d : X) (xs : List X) (v : X) → IsGiven d xs v → (o : Option X) × (option_to_list o ≡ xs) × (v ≡ unwrap_or o d)
once d [] v e = (None, refl, e)
once d (x ∷ []) v e = (Some x, refl, e)
once d (x ∷ y ∷ more) v e = absurd e

given : {X : Type 0} (d : X) (o : Option X) (xs : List X) → option_to_list o ≡ xs → IsGiven d xs (unwrap_or o d)
given d None xs e = subst (λ xs. IsGiven d xs d) e refl
given d (Some x) xs e = subst (λ xs. IsGiven d xs x) e refl

-- the value of a flag
abbrev up : {X : Type 0} → X → X → Bool → X
up v d b = cond b v d

given_flag : {X : Type 0} (v d : X) (b : Bool) (xs : List X) → flag v b ≡ xs → IsGiven d xs (up v d b)
given_flag v d true xs e = subst (λ xs. IsGiven d xs v) e refl
given_flag v d false xs e = subst (λ xs. IsGiven d xs d) e refl

-- a flag's values are all the same
once_flag : {X : Type 0} (d v : X) (f : Choice → Option X) → ((c : Choice) (x : X) → f c ≡ Some x → x ≡ v) → (cs : List Choice) (w : X) → IsGiven d (filter_map f cs) w
    → (b : Bool) × (flag v b ≡ filter_map f cs) × (w ≡ up v d b)
once_flag {X} d v f same [] w e = (false, refl, e)
once_flag {X} d v f same (c ∷ cs) w e = by_value (once_flag d v f same cs w) (f c) refl e
  where
    alone : (x : X) (xs : List X) → x ≡ v → IsGiven d (x ∷ xs) w → (b : Bool) × (flag v b ≡ x ∷ xs) × (w ≡ up v d b)
    alone x [] is e = (true, ap (λ x. x ∷ []) (sym is), e ∙ is)
    alone x (y ∷ ys) is e = absurd e

    by_value : (IsGiven d (filter_map f cs) w → (b : Bool) × (flag v b ≡ filter_map f cs) × (w ≡ up v d b)) → (o : Option X) → f c ≡ o
        → IsGiven d (cons_option o (filter_map f cs)) w → (b : Bool) × (flag v b ≡ cons_option o (filter_map f cs)) × (w ≡ up v d b)
    by_value more None q e = more e
    by_value more (Some x) q e = alone x (filter_map f cs) (same c x q) e

auto_true : (c : Choice) (x : Bool) → auto_of c ≡ Some x → x ≡ true
auto_true (Ticks n) x e = cc
auto_true (Workers n) x e = cc
auto_true Split x e = cc
auto_true AsText x e = cc

format_text : (c : Choice) (x : Format) → format_of c ≡ Some x → x ≡ Text
format_text (Ticks n) x e = cc
format_text (Workers n) x e = cc
format_text Split x e = cc
format_text AsText x e = cc

-- ---- a walk to an end asks

-- where a walk may end, and with what
finished : (t : State) (name : List ℕ) → finish t ≡ Some name → (ends t.next ≡ true) × (t.program ≡ Some name)
finished t name e = by_end (ends t.next) t.program e
  where
    by_end : (b : Bool) (o : Option (List ℕ)) → cond b o None ≡ Some name → (b ≡ true) × (o ≡ Some name)
    by_end true o e = (refl, e)
    by_end false o e = cc

-- the line that is found has the one name
one_name : (s t : State) (ws : List (List ℕ)) (name : List ℕ) → s.program ≡ None → t.program ≡ Some name → (f : Found s t ws) → IsLine ws f.options (name ∷ [])
one_name s t ws name none some f =
    let names : f.names ≡ name ∷ [] = ap (λ o. option_to_list o ++ f.names) (sym none) ∙ sym f.gives.program ∙ ap option_to_list some in
    subst (λ ns. IsLine ws f.options ns) names f.line

pub run_found : (ws : List (List ℕ)) (t : State) (name : List ℕ) → walk (start true) ws ≡ Some t → finish t ≡ Some name → IsRun ws (run_of t name)
run_found ws t name e h =
    let last = finished t name h in
    let f = found ws (start true) t refl last.0 e in
    record {
      options = f.options;
      line = one_name (start true) t ws name refl last.1 f;
      ticks = given 1_000_000_000_000 t.ticks (filter_map ticks_of f.options) f.gives.ticks;
      workers = given 1 t.workers (filter_map workers_of f.options) f.gives.workers;
      auto = let v = given_flag true false t.auto (filter_map auto_of f.options) f.gives.auto in subst (λ b. IsGiven false (filter_map auto_of f.options) b) (plain t.auto) v;
      format = given_flag Text Binary t.text (filter_map format_of f.options) f.gives.text;
    }
  where
    plain : (b : Bool) → up true false b ≡ b
    plain true = refl
    plain false = refl

pub name_found : (ws : List (List ℕ)) (t : State) (name : List ℕ) → walk (start false) ws ≡ Some t → finish t ≡ Some name → IsLine ws [] (name ∷ [])
name_found ws t name e h =
    let last = finished t name h in
    let f = found ws (start false) t refl last.0 e in
    subst (λ cs. IsLine ws cs (name ∷ [])) (f.bare refl) (one_name (start false) t ws name refl last.1 f)

-- ---- what asks is a walk to an end

-- a walk to an end with this name
pub record Ending (takes : Bool) (ws : List (List ℕ)) (name : List ℕ) : Type 0 where
  pub last : State
  pub walks : walk (start takes) ws ≡ Some last
  pub ends_so : finish last ≡ Some name

-- the same with the options of a run
pub record RunEnding (ws : List (List ℕ)) (run : AskedRun) : Type 0 where
  pub ending : Ending true ws run.program
  pub is : run ≡ run_of ending.last run.program

pub run_ends : (ws : List (List ℕ)) (run : AskedRun) → IsRun ws run → RunEnding ws run
run_ends ws run r =
    let ticks = once 1_000_000_000_000 (filter_map ticks_of r.options) run.ticks r.ticks in
    let workers = once 1 (filter_map workers_of r.options) run.workers r.workers in
    let auto = once_flag false true auto_of auto_true r.options run.auto r.auto in
    let text = once_flag Binary Text format_of format_text r.options run.format r.format in
    let t : State = record { ticks = ticks.0; workers = workers.0; auto = auto.0; text = text.0; program = Some run.program; takes_options = true; next = next.Any } in
    let g : Gives (start true) t r.options (run.program ∷ []) = record { ticks = ticks.1; workers = workers.1; auto = auto.1; text = text.1; program = refl } in
    let w = walked r.line (start true) t refl refl (inl refl) g in
    record {
      ending = record { last = record t { next = w.at }; walks = w.walks; ends_so = ap (λ b. cond b (Some run.program) None) w.ends_so };
      is = λ i. record { ticks = ticks.2 i; workers = workers.2 i; auto = (auto.2 ∙ plain auto.0) i; format = text.2 i; program = run.program };
    }
  where
    plain : (b : Bool) → up true false b ≡ b
    plain true = refl
    plain false = refl

pub name_ends : (ws : List (List ℕ)) (name : List ℕ) → IsLine ws [] (name ∷ []) → Ending false ws name
name_ends ws name l =
    let t : State = record { ticks = None; workers = None; auto = false; text = false; program = Some name; takes_options = false; next = next.Any } in
    let g : Gives (start false) t [] (name ∷ []) = record { ticks = refl; workers = refl; auto = refl; text = refl; program = refl } in
    let w = walked l (start false) t refl refl (inr refl) g in
    record { last = record t { next = w.at }; walks = w.walks; ends_so = ap (λ b. cond b (Some name) None) w.ends_so }

-- ---- which command it is

-- two texts that a test tells apart
other : {A : Type 0} (x y c : List ℕ) → bytes_eq x y ≡ false → c ≡ x → c ≡ y → A
other x y c t e f = let h = alike x y (sym e ∙ f) in cc

pub run_only : (c : List ℕ) (ws : List (List ℕ)) (b : Asked) → c ≡ codes "run" → Ask (c ∷ ws) b → (run : AskedRun) × (b ≡ ForRun run) × IsRun ws run
run_only c ws (ForRun run) e h = (run, refl, h.1)
run_only c ws (ForCheck n) e h = other (codes "run") (codes "check") c refl e h.0
run_only c ws (ForShow n) e h = other (codes "run") (codes "show") c refl e h.0
run_only c ws ForHelp e h = other (codes "run") (codes "--help") c refl e h.0
run_only c ws ForVersion e h = other (codes "run") (codes "--version") c refl e h.0

pub check_only : (c : List ℕ) (ws : List (List ℕ)) (b : Asked) → c ≡ codes "check" → Ask (c ∷ ws) b → (name : List ℕ) × (b ≡ ForCheck name) × IsLine ws [] (name ∷ [])
check_only c ws (ForRun run) e h = other (codes "check") (codes "run") c refl e h.0
check_only c ws (ForCheck n) e h = (n, refl, h.1)
check_only c ws (ForShow n) e h = other (codes "check") (codes "show") c refl e h.0
check_only c ws ForHelp e h = other (codes "check") (codes "--help") c refl e h.0
check_only c ws ForVersion e h = other (codes "check") (codes "--version") c refl e h.0

pub show_only : (c : List ℕ) (ws : List (List ℕ)) (b : Asked) → c ≡ codes "show" → Ask (c ∷ ws) b → (name : List ℕ) × (b ≡ ForShow name) × IsLine ws [] (name ∷ [])
show_only c ws (ForRun run) e h = other (codes "show") (codes "run") c refl e h.0
show_only c ws (ForCheck n) e h = other (codes "show") (codes "check") c refl e h.0
show_only c ws (ForShow n) e h = (n, refl, h.1)
show_only c ws ForHelp e h = other (codes "show") (codes "--help") c refl e h.0
show_only c ws ForVersion e h = other (codes "show") (codes "--version") c refl e h.0

pub help_only : (c : List ℕ) (ws : List (List ℕ)) (b : Asked) → c ≡ codes "--help" → Ask (c ∷ ws) b → (b ≡ ForHelp) × (ws ≡ [])
help_only c ws (ForRun run) e h = other (codes "--help") (codes "run") c refl e h.0
help_only c ws (ForCheck n) e h = other (codes "--help") (codes "check") c refl e h.0
help_only c ws (ForShow n) e h = other (codes "--help") (codes "show") c refl e h.0
help_only c ws ForHelp e h = (refl, h.1)
help_only c ws ForVersion e h = other (codes "--help") (codes "--version") c refl e h.0

pub version_only : (c : List ℕ) (ws : List (List ℕ)) (b : Asked) → c ≡ codes "--version" → Ask (c ∷ ws) b → (b ≡ ForVersion) × (ws ≡ [])
version_only c ws (ForRun run) e h = other (codes "--version") (codes "run") c refl e h.0
version_only c ws (ForCheck n) e h = other (codes "--version") (codes "check") c refl e h.0
version_only c ws (ForShow n) e h = other (codes "--version") (codes "show") c refl e h.0
version_only c ws ForHelp e h = other (codes "--version") (codes "--help") c refl e h.0
version_only c ws ForVersion e h = (refl, h.1)

-- ---- words ask once

same_ending : (takes : Bool) (ws : List (List ℕ)) (m n : List ℕ) (a : Ending takes ws m) (b : Ending takes ws n) → (a.last ≡ b.last) × (m ≡ n)
same_ending takes ws m n a b =
    let last : a.last ≡ b.last = cc (a.walks, b.walks) in
    (last, let e : Some m ≡ Some n = sym a.ends_so ∙ ap finish last ∙ b.ends_so in cc)

same_run : (ws : List (List ℕ)) (a b : AskedRun) → IsRun ws a → IsRun ws b → a ≡ b
same_run ws a b p q =
    let x = run_ends ws a p in
    let y = run_ends ws b q in
    let s = same_ending true ws a.program b.program x.ending y.ending in
    x.is ∙ (λ i. run_of (s.0 i) (s.1 i)) ∙ sym y.is

same_name : (ws : List (List ℕ)) (m n : List ℕ) → IsLine ws [] (m ∷ []) → IsLine ws [] (n ∷ []) → m ≡ n
same_name ws m n p q = (same_ending false ws m n (name_ends ws m p) (name_ends ws n q)).1

pub asked_once : AskOnce
asked_once [] a b p q = absurd p
asked_once (c ∷ ws) (ForRun run) b p q = let o = run_only c ws b p.0 q in ap ForRun (same_run ws run o.0 p.1 o.2) ∙ sym o.1
asked_once (c ∷ ws) (ForCheck n) b p q = let o = check_only c ws b p.0 q in ap ForCheck (same_name ws n o.0 p.1 o.2) ∙ sym o.1
asked_once (c ∷ ws) (ForShow n) b p q = let o = show_only c ws b p.0 q in ap ForShow (same_name ws n o.0 p.1 o.2) ∙ sym o.1
asked_once (c ∷ ws) ForHelp b p q = sym (help_only c ws b p.0 q).0
asked_once (c ∷ ws) ForVersion b p q = sym (version_only c ws b p.0 q).0
