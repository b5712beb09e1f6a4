-- From what a worker stood for before a turn to what it stands for after it.
use Rattle.std.specs.Prelude.{ℕ, ◌+◌, ◌-◌, ◌^◌, ◌<◌, ◌≤◌, ◌≡◌, ◌⊎◌, refl, Bool, List, [], ◌∷◌, ◌++◌, map, length, Option, Some, None, Result, Ok, Err, IfOk, IfSome, OnOk}
use Rattle.std.proofs.Common.{ap, ◌∙◌, sym, subst, arith, append_assoc, length-append, inl, inr}
use Rattle.std.proofs.lemmas.List.{append-nil}
use Rattle.zir_bit_tree.specs.declared.value.Val.{Val}
use Rattle.zir_bit_tree.specs.declared.value.Val.TheVariants.{Bit as BitVal}
use Rattle.zir_bit_tree.specs.declared.ends.End.{End}
use Rattle.zir_bit_tree.specs.declared.ends.End.TheVariants.{Value, Starved, Trap as Trapped, Spent}
use Rattle.zir_bit_tree.specs.declared.tree.Comp.{Comp}
use Rattle.zir_bit_meaning.specs.Trace.{Out}
use Rattle.zir_bit_samples.specs.Reading.{KeptBits, GivesBit}
use Rattle.zir_steps.specs.declared.answer.Answer.{Answer}
use Rattle.zir_steps.specs.declared.answer.Answer.TheVariants.{Yield, Skip, Done, Need, Stopped}
use Rattle.zir_steps.specs.History.{History, IsFront, Rises, trace_of as trace_over}
use Rattle.zir_steps.specs.Says.{Says, Works, IsStop}
use Rattle.zir_drive.specs.declared.DriveError.{DriveError}
use Rattle.zir_drive.specs.declared.DriveError.TheVariants.{Read, Write, Memory}
use Rattle.zir_drive.specs.declared.driver.Driver.{Driver}
use Rattle.zir_drive.specs.Runs.{history}
use Rattle.zir_drive.specs.Driving.{inputs, ahead, IsFresh, Came, Gave, Fed, Goes, Fits, Live, skips, work_left, IsLast, Final, Over, Within, Turned, Handed, Moved, Worked}
use Rattle.zir_drive.proofs.Giving.{gave_none}
use Rattle.zir_drive.proofs.Handing.{history-rises}

-- what every worker's law says of what it gave
abbrev pub Fronts : (History → Type 0) → Type 0
Fronts stands_for = (h : History) → stands_for h → IsFront h

-- what every worker's law says of the ticks that it counted
abbrev pub Bounds : (History → Type 0) → ℕ → Type 0
Bounds stands_for own = (h : History) → stands_for h → own ≤ h.limit

-- a run at its beginning
pub goes_start : {K : Type 0} (stands_for : History → Type 0) (sinks : K → List ℕ → Type 0) (sink : K) (told : Option (List ℕ)) (d : Driver) (c : Comp) (n : ℕ) →
    IsFresh d → stands_for (history c n [] []) → Goes stands_for sinks sink sink told told d c n Skip
goes_start stands_for sinks sink told d c n f s = record {
  given = [];
  fed = record {
    received = [];
    kept = record { stands = s; handed = f.handed; given = f.given };
    says = tt;
    came = λ bytes e. record { rest = bytes; tells = e; all = ap (λ k. ahead k bytes) (sym f.reader) };
  };
  gave = gave_none sinks sink d.writer f.writer;
}

-- a run with few ticks
pub goes_live : {K : Type 0} (stands_for : History → Type 0) (sinks : K → List ℕ → Type 0) (before now : K) (told left : Option (List ℕ)) (d : Driver) (c : Comp) (n : ℕ) (a : Answer) →
    n ≤ 2 ^ 48 → Goes stands_for sinks before now told left d c n a → Live stands_for d c a
goes_live stands_for sinks before now told left d c n a few g = record { ticks = n; few = few; received = g.fed.received; given = g.given; kept = g.fed.kept; says = g.fed.says }

-- what was received is a front part of all
came_within : (bytes : List ℕ) (kept : KeptBits) (left : Option (List ℕ)) (xs : List Val) → Came bytes kept left xs → (more : List Val) × (inputs bytes ≡ xs ++ more)
came_within bytes kept left xs h = (ahead kept h.rest, h.all)

-- a run under way is within its trace
pub fed_within : (stands_for : History → Type 0) (told left : Option (List ℕ)) (d : Driver) (c : Comp) (n : ℕ) (a : Answer) (os : List Out) →
    Fronts stands_for → Fed stands_for told left d c n a os → Within told c n os
fed_within stands_for told left d c n a os law f =
    record { received = f.received; front = law (history c n f.received os) f.kept.stands; within = λ bytes e. came_within bytes d.reader left f.received (f.came bytes e) }

-- the worker worked on from a history
pub handed_worked : (stands_for stands_now : History → Type 0) (told left : Option (List ℕ)) (d : Driver) (c : Comp) (n : ℕ) (last : Option Answer)
    (step : History → History) (h : History) (xs : List Val) (os : List Out) (r : Result (Option Answer) DriveError) →
    Worked step stands_for stands_now r → stands_for h → step h ≡ history c n xs os → d.handed ≡ length xs → d.given ≡ length os →
    ((bytes : List ℕ) → told ≡ Some bytes → Came bytes d.reader left xs) → Within told c n os → Handed stands_now told left d c n last os r
handed_worked stands_for stands_now told left d c n last step h xs os (Ok (Some a)) w s e handed given came within =
    let k = w h s in record {
      received = xs;
      kept = record { stands = subst stands_now e k.0; handed = handed; given = given };
      says = (let P : History → Type 0 = λ h. Rises h → Says a h in subst P e k.1) (history-rises c n xs os);
      came = came;
    }
handed_worked stands_for stands_now told left d c n last step h xs os (Ok None) w s e handed given came within = absurd w
handed_worked stands_for stands_now told left d c n last step h xs os (Err Read) w s e handed given came within = absurd w
handed_worked stands_for stands_now told left d c n last step h xs os (Err Write) w s e handed given came within = absurd w
handed_worked stands_for stands_now told left d c n last step h xs os (Err Memory) w s e handed given came within = within

-- what was given stays given
pub handed_turned : {K : Type 0} (stands_for : History → Type 0) (sinks : K → List ℕ → Type 0) (before now : K) (told left : Option (List ℕ)) (d : Driver) (c : Comp) (n : ℕ) (last : Option Answer) (os : List Out) (r : Result (Option Answer) DriveError) →
    Gave sinks before now d.writer os → Handed stands_for told left d c n last os r → Turned stands_for sinks before now told left d c n last r
handed_turned stands_for sinks before now told left d c n last os (Ok (Some a)) g h = record { given = os; fed = h; gave = g }
handed_turned stands_for sinks before now told left d c n last os (Ok None) g h = record { given = os; ends = h; gave = g }
handed_turned stands_for sinks before now told left d c n last os (Err Read) g h = (os, h, g)
handed_turned stands_for sinks before now told left d c n last os (Err Write) g h = absurd h
handed_turned stands_for sinks before now told left d c n last os (Err Memory) g h = (os, h, g)

-- what was given with one output more is within the trace
pub more_within : (stands_for stands_mid : History → Type 0) (told left : Option (List ℕ)) (d : Driver) (c : Comp) (n : ℕ) (a : Answer) (os : List Out) (o : Out) →
    Fronts stands_mid → (f : Fed stands_for told left d c n a os) → stands_mid (history c n f.received (os ++ o ∷ [])) → Within told c n (os ++ o ∷ [])
more_within stands_for stands_mid told left d c n a os o law f s =
    record { received = f.received; front = law (history c n f.received (os ++ o ∷ [])) s; within = λ bytes e. came_within bytes d.reader left f.received (f.came bytes e) }

-- one more is counted
pub count_more : {A : Type 0} (k : ℕ) (xs : List A) (x : A) → k ≡ length xs → k + 1 ≡ length (xs ++ x ∷ [])
count_more k xs x e = simp length-append (omega arith)

-- a bit was read
pub came_bit : (bytes : List ℕ) (kept kept' : KeptBits) (left left' : Option (List ℕ)) (xs : List Val) (b : Bool) → Came bytes kept left xs → GivesBit kept left kept' left' (Ok (Some b)) → Came bytes kept' left' (xs ++ BitVal b ∷ [])
came_bit bytes kept kept' left left' xs b h g =
    let P : Option (List ℕ) → Type 0 = λ left. GivesBit kept left kept' left' (Ok (Some b)) in
    let k = subst P h.tells g in record {
      rest = k.0;
      tells = k.1;
      all = h.all ∙ ap (λ bs. xs ++ map BitVal bs) k.2 ∙ sym (append_assoc xs (BitVal b ∷ []) (ahead kept' k.0));
    }

-- the input has ended
pub came_end : (bytes : List ℕ) (kept kept' : KeptBits) (left left' : Option (List ℕ)) (xs : List Val) → Came bytes kept left xs → GivesBit kept left kept' left' (Ok None) → (Came bytes kept' left' xs) × (inputs bytes ≡ xs)
came_end bytes kept kept' left left' xs h g =
    let P : Option (List ℕ) → Type 0 = λ left. GivesBit kept left kept' left' (Ok None) in
    let k = subst P h.tells g in
    let all : inputs bytes ≡ xs = h.all ∙ ap (λ bs. xs ++ map BitVal bs) k.2.0 ∙ append-nil xs in
    (record { rest = k.0; tells = k.1; all = all ∙ sym (append-nil xs) ∙ ap (λ bs. xs ++ map BitVal bs) (sym k.2.1) }, all)

-- a trace that starves over all elements is the last
last_starved : (e : End) (all xs : List Val) → e ≡ Starved → all ≡ xs → IsLast e all xs
last_starved e all xs s h = let P : End → Type 0 = λ e. IsLast e all xs in subst P (sym s) h

-- the run is over where the input has ended
pub final_need : (stands_for : History → Type 0) (told left left' : Option (List ℕ)) (d d' : Driver) (c : Comp) (n : ℕ) (last : Option Answer) (os : List Out) →
    last ≡ Some Need → d'.handed ≡ d.handed → d'.given ≡ d.given → GivesBit d.reader left d'.reader left' (Ok None) →
    Fed stands_for told left d c n Need os → Final stands_for told left' d' c n last os
final_need stands_for told left left' d d' c n last os is handed given gives f = record {
  answer = Need;
  is = is;
  fed = record {
    received = f.received;
    kept = record { stands = f.kept.stands; handed = handed ∙ f.kept.handed; given = given ∙ f.kept.given };
    says = f.says;
    came = λ bytes e. (came_end bytes d.reader d'.reader left left' f.received (f.came bytes e) gives).0;
  };
  final = λ bytes e.
      last_starved (trace_over (history c n f.received os)).end (inputs bytes) f.received f.says.0 (came_end bytes d.reader d'.reader left left' f.received (f.came bytes e) gives).1;
}

-- a trace that ended with a value, in a trap or spent is the last, whatever else there is
last_done : (e : End) (v : Val) (all xs : List Val) → e ≡ Value v → IsLast e all xs
last_done e v all xs s = let P : End → Type 0 = λ e. IsLast e all xs in subst P (sym s) tt

last_stop : (e : End) (all xs : List Val) → IsStop e → IsLast e all xs
last_stop (Value v) all xs s = tt
last_stop Starved all xs s = absurd s
last_stop (Trapped t) all xs s = tt
last_stop Spent all xs s = tt

-- the run is over where the component has ended
final_ended : (stands_for : History → Type 0) (told left : Option (List ℕ)) (d : Driver) (c : Comp) (n : ℕ) (last : Option Answer) (a : Answer) (os : List Out) →
    (a ≡ Done) ⊎ (a ≡ Stopped) → Fits a last → Fed stands_for told left d c n a os → Final stands_for told left d c n last os
final_ended stands_for told left d c n last Yield os (inl e) l f = absurd (cc)
final_ended stands_for told left d c n last Yield os (inr e) l f = absurd (cc)
final_ended stands_for told left d c n last Skip os (inl e) l f = absurd (cc)
final_ended stands_for told left d c n last Skip os (inr e) l f = absurd (cc)
final_ended stands_for told left d c n last Need os (inl e) l f = absurd (cc)
final_ended stands_for told left d c n last Need os (inr e) l f = absurd (cc)
final_ended stands_for told left d c n last Done os e l f =
    record { answer = Done; is = l; fed = f; final = λ bytes e. last_done (trace_over (history c n f.received os)).end f.says.0 (inputs bytes) f.received f.says.1 }
final_ended stands_for told left d c n last Stopped os e l f =
    record { answer = Stopped; is = l; fed = f; final = λ bytes e. last_stop (trace_over (history c n f.received os)).end (inputs bytes) f.received f.says.0 }

-- and so is all that it gave
pub over_ended : {K : Type 0} (stands_for : History → Type 0) (sinks : K → List ℕ → Type 0) (before now : K) (told left : Option (List ℕ)) (d : Driver) (c : Comp) (n : ℕ) (last : Option Answer) (a : Answer) →
    (a ≡ Done) ⊎ (a ≡ Stopped) → Fits a last → Goes stands_for sinks before now told left d c n a → Over stands_for sinks before now told left d c n last
over_ended stands_for sinks before now told left d c n last a e l g = record { given = g.given; ends = final_ended stands_for told left d c n last a g.given e l g.fed; gave = g.gave }

-- the answer fits that it was
pub fits_some : (a : Answer) (last : Option Answer) → last ≡ Some a → Fits a last
fits_some Yield last e = e
fits_some Skip last e = let P : Option Answer → Type 0 = Fits Skip in subst P (sym e) refl
fits_some Done last e = e
fits_some Need last e = e
fits_some Stopped last e = e

-- less work is left where a tick was counted, or the answer is another
less_skip : (b : Answer) (d : Driver) (own own' : ℕ) → Works b own own' → own ≤ own' → own' ≤ 2 ^ 48 → work_left b d own' < work_left Skip d own
less_skip Yield d own own' w le few = omega arith
less_skip Skip d own own' w le few = omega arith
less_skip Done d own own' w le few = omega arith
less_skip Need d own own' w le few = omega arith
less_skip Stopped d own own' w le few = omega arith

-- the worker worked on
pub moved_skip : (step : History → History) (stands_for stands_now : History → Type 0) (h : History) (last : Option Answer) (d : Driver) (own own' : ℕ) (r : Result (Option Answer) DriveError) →
    Worked step stands_for stands_now r → IfOk r (λ next. last ≡ next) → IfOk r (λ next. IfSome next (λ b. Works b own own')) → OnOk r (own ≤ own') → stands_for h → Bounds stands_now own' → (step h).limit ≤ 2 ^ 48 →
    Moved Skip last d d own own' r
moved_skip step stands_for stands_now h last d own own' (Ok (Some b)) w l works counts s law few =
    let bound : own' ≤ (step h).limit = law (step h) (w h s).0 in (fits_some b last l, less_skip b d own own' works counts (omega arith))
moved_skip step stands_for stands_now h last d own own' (Ok None) w l works counts s law few = absurd w
moved_skip step stands_for stands_now h last d own own' (Err e) w l works counts s law few = tt

-- the skip of an answer is at most 1
skip_few : (b : Answer) → skips b ≤ 1
skip_few Yield = omega arith
skip_few Skip = omega arith
skip_few Done = omega arith
skip_few Need = omega arith
skip_few Stopped = omega arith

-- the worker worked on after an element was handed in or an output was given out
pub moved_more : (step : History → History) (stands_for stands_now : History → Type 0) (a : Answer) (last : Option Answer) (d d' : Driver) (own own' : ℕ) (r : Result (Option Answer) DriveError) →
    Worked step stands_for stands_now r → IfOk r (λ next. last ≡ next) → OnOk r (own ≤ own') →
    (2 ^ 48 + 1 - d'.handed) + (2 ^ 48 - d'.given) < (2 ^ 48 + 1 - d.handed) + (2 ^ 48 - d.given) → Moved a last d d' own own' r
moved_more step stands_for stands_now a last d d' own own' (Ok (Some b)) w l counts less = (fits_some b last l, omega (arith, skip_few b))
moved_more step stands_for stands_now a last d d' own own' (Ok None) w l counts less = absurd w
moved_more step stands_for stands_now a last d d' own own' (Err e) w l counts less = tt

-- the run is over behind a turn, whatever name its component has
pub over_from : {K : Type 0} (stands_for stands_now : History → Type 0) (sinks : K → List ℕ → Type 0) (before mid now : K) (told left left' : Option (List ℕ)) (d d' : Driver) (c c' : Comp) (n : ℕ) (a : Answer) (last : Option Answer) →
    c ≡ c' → (Goes stands_for sinks before mid told left d c n a → Over stands_now sinks before now told left' d' c n last) →
    Goes stands_for sinks before mid told left d c' n a → Over stands_now sinks before now told left' d' c' n last
over_from stands_for stands_now sinks before mid now told left left' d d' c c' n a last e f =
    subst (λ c. Goes stands_for sinks before mid told left d c n a → Over stands_now sinks before now told left' d' c n last) e f
