-- How far a driver has come: what its worker stands for, what was read, and what was written.
use Rattle.std.specs.Prelude.{ℕ, ◌+◌, ◌-◌, ◌*◌, ◌^◌, ◌≤◌, ◌<◌, ◌≡◌, ⊤, Bool, true, false, List, [], ◌∷◌, ◌++◌, map, length, All, Option, Some, None, Result, Ok, Err}
use Rattle.zir_bit_tree.specs.declared.value.Val.{Val}
use Rattle.zir_bit_tree.specs.declared.value.Val.TheVariants.{Bit as BitVal}
use Rattle.zir_bit_tree.specs.declared.ends.End.{End}
use Rattle.zir_bit_tree.specs.declared.ends.End.TheVariants.{Value, Starved, Trap as Trapped, Spent}
use Rattle.zir_bit_tree.specs.declared.tree.Comp.{Comp}
use Rattle.zir_bit_meaning.specs.Trace.{Out, Trace}
use Rattle.zir_bit_meaning.specs.Evaluation.{is_one}
use Rattle.zir_bit_meaning.specs.Composition.{values}
use Rattle.zir_bit_meaning.specs.Samples.{bits_of, spell_bits}
use Rattle.zir_outside.specs.declared.Failed.{Failed}
use Rattle.zir_outside.specs.Sinks.{Grew, GrewPart}
use Rattle.zir_bit_samples.specs.Reading.{KeptBits, no_bits, bits_to_come}
use Rattle.zir_bit_samples.specs.Writing.{Puts}
use Rattle.zir_steps.specs.declared.answer.Answer.{Answer}
use Rattle.zir_steps.specs.declared.answer.Answer.TheVariants.{Yield, Skip, Done, Need, Stopped}
use Rattle.zir_steps.specs.History.{History, IsFront, Rises, trace_of as trace_over}
use Rattle.zir_steps.specs.Says.{Says, MayTick, tells_end}
use Rattle.zir_drive.specs.Runs.{history, TellsEnd, TellsTaken}
use Rattle.zir_drive.specs.declared.Ended.{Ended}
use Rattle.zir_drive.specs.declared.DriveError.{DriveError}
use Rattle.zir_drive.specs.declared.DriveError.TheVariants.{Read, Write, Memory}
use Rattle.zir_drive.specs.declared.driver.Driver.{Driver}

-- the elements that these bytes spell
abbrev pub inputs : List ℕ → List Val
inputs bytes = map BitVal (bits_of bytes)

-- the elements still to come, where the source has these bytes left
abbrev pub ahead : KeptBits → List ℕ → List Val
ahead kept left = map BitVal (bits_to_come kept left)

-- a bit of an input as the element that is handed in as the k-th
abbrev pub element_in : ℕ → Bool → Out
element_in k b = record { value = BitVal b; at = record { taken = k; ticks = 0; store = [] } }

-- the bits of outputs
abbrev pub ones : List Out → List Bool
ones os = map is_one (values os)

-- nothing was read or written yet
pub record IsFresh (d : Driver) : Type 0 where
  pub reader : d.reader ≡ no_bits
  pub writer : d.writer ≡ []
  pub handed : d.handed ≡ 0
  pub given : d.given ≡ 0

-- these elements were read, and the others of all the bytes are still to come
pub record Came (bytes : List ℕ) (kept : KeptBits) (left : Option (List ℕ)) (xs : List Val) : Type 0 where
  pub rest : List ℕ
  pub tells : left ≡ Some rest
  pub all : inputs bytes ≡ xs ++ ahead kept rest

-- outputs went to the writer, whose whole pieces went to the sink
pub record Gave {K : Type 0} (stands_for : K → List ℕ → Type 0) (before now : K) (kept : List Bool) (outs : List Out) : Type 0 where
  pub put : List ℕ
  pub whole : All (λ b. b < 256) put
  pub bits : ones outs ≡ bits_of put ++ kept
  pub grew : Grew (stands_for before) (stands_for now) put

-- the worker stands for what the driver handed in and gave out, and the driver counted it
pub record Kept (stands_for : History → Type 0) (d : Driver) (c : Comp) (n : ℕ) (xs : List Val) (os : List Out) : Type 0 where
  pub stands : stands_for (history c n xs os)
  pub handed : d.handed ≡ length xs
  pub given : d.given ≡ length os

-- a run under way that has given these outputs: its worker answered so last, and the source told these bytes at first
pub record Fed (stands_for : History → Type 0) (told left : Option (List ℕ)) (d : Driver) (c : Comp) (n : ℕ) (a : Answer) (os : List Out) : Type 0 where
  pub received : List Val
  pub kept : Kept stands_for d c n received os
  pub says : Says a (history c n received os)
  pub came : (bytes : List ℕ) → told ≡ Some bytes → Came bytes d.reader left received

-- a run under way, with what it gave
pub record Goes {K : Type 0} (stands : History → Type 0) (sinks : K → List ℕ → Type 0) (before now : K) (told left : Option (List ℕ)) (d : Driver) (c : Comp) (n : ℕ) (a : Answer) : Type 0 where
  pub given : List Out
  pub fed : Fed stands told left d c n a given
  pub gave : Gave sinks before now d.writer given

-- what its worker answered last
abbrev pub Fits : Answer → Option Answer → Type 0
Fits Yield last = last ≡ Some Yield
Fits Skip last = MayTick last
Fits Done last = last ≡ Some Done
Fits Need last = last ≡ Some Need
Fits Stopped last = last ≡ Some Stopped

-- with at most 2 ^ 48 ticks it stands for something, of which the last answer speaks
pub record Live (stands_for : History → Type 0) (d : Driver) (c : Comp) (a : Answer) : Type 0 where
  pub ticks : ℕ
  pub few : ticks ≤ 2 ^ 48
  pub received : List Val
  pub given : List Out
  pub kept : Kept stands_for d c ticks received given
  pub says : Says a (history c ticks received given)

-- whether the last answer was Skip
abbrev pub skips : Answer → ℕ
skips Yield = 0
skips Skip = 1
skips Done = 0
skips Need = 0
skips Stopped = 0

-- the work that is left at most: elements to hand in, outputs to give, and ticks to count
abbrev pub work_left : Answer → Driver → ℕ → ℕ
work_left a d own = 2 * ((2 ^ 48 + 1 - d.handed) + (2 ^ 48 - d.given) + (2 ^ 48 - own)) + skips a

-- a trace that ends so, over these of all elements, is the trace over all of them
abbrev pub IsLast : End → List Val → List Val → Type 0
IsLast (Value v) all xs = ⊤
IsLast Starved all xs = all ≡ xs
IsLast (Trapped t) all xs = ⊤
IsLast Spent all xs = ⊤

-- a run at its end that has given these outputs
pub record Final (stands : History → Type 0) (told left : Option (List ℕ)) (d : Driver) (c : Comp) (n : ℕ) (last : Option Answer) (os : List Out) : Type 0 where
  pub answer : Answer
  pub is : last ≡ Some answer
  pub fed : Fed stands told left d c n answer os
  pub final : (bytes : List ℕ) → told ≡ Some bytes → IsLast (trace_over (history c n fed.received os)).end (inputs bytes) fed.received

-- a run at its end, with what it gave
pub record Over {K : Type 0} (stands : History → Type 0) (sinks : K → List ℕ → Type 0) (before now : K) (told left : Option (List ℕ)) (d : Driver) (c : Comp) (n : ℕ) (last : Option Answer) : Type 0 where
  pub given : List Out
  pub ends : Final stands told left d c n last given
  pub gave : Gave sinks before now d.writer given

-- what was received is a front part of all, and what was given one of the trace's outputs
pub record Within (told : Option (List ℕ)) (c : Comp) (n : ℕ) (os : List Out) : Type 0 where
  pub received : List Val
  pub front : IsFront (history c n received os)
  pub within : (bytes : List ℕ) → told ≡ Some bytes → (more : List Val) × (inputs bytes ≡ received ++ more)

-- a run broke off: outputs went to the writer, or where a put failed a front part of their bytes to the sink
abbrev pub Broke : {K : Type 0} → (K → List ℕ → Type 0) → K → K → Option (List ℕ) → List Bool → Comp → ℕ → DriveError → Type 0
Broke sinks before now told writer c n Read = (os : List Out) × Within told c n os × Gave sinks before now writer os
Broke sinks before now told writer c n Memory = (os : List Out) × Within told c n os × Gave sinks before now writer os
Broke sinks before now told writer c n Write = (os : List Out) × Within told c n os × GrewPart (spell_bits false (ones os)) (sinks before) (sinks now)

-- what a turn came to
abbrev pub Turned : {K : Type 0} → (History → Type 0) → (K → List ℕ → Type 0) → K → K → Option (List ℕ) → Option (List ℕ) → Driver → Comp → ℕ → Option Answer → Result (Option Answer) DriveError → Type 0
Turned stands sinks before now told left d c n last (Ok (Some a)) = Goes stands sinks before now told left d c n a
Turned stands sinks before now told left d c n last (Ok None) = Over stands sinks before now told left d c n last
Turned stands sinks before now told left d c n last (Err why) = Broke sinks before now told d.writer c n why

-- what the handing in of an element came to, for a run that has given these outputs
abbrev pub Handed : (History → Type 0) → Option (List ℕ) → Option (List ℕ) → Driver → Comp → ℕ → Option Answer → List Out → Result (Option Answer) DriveError → Type 0
Handed stands told left d c n last os (Ok (Some a)) = Fed stands told left d c n a os
Handed stands told left d c n last os (Ok None) = Final stands told left d c n last os
Handed stands told left d c n last os (Err Read) = Within told c n os
Handed stands told left d c n last os (Err Write) = ⊥
Handed stands told left d c n last os (Err Memory) = Within told c n os

-- the next answer fits, and less work is left; at the end the last answer told an end
abbrev pub Moved : Answer → Option Answer → Driver → Driver → ℕ → ℕ → Result (Option Answer) DriveError → Type 0
Moved a last d d' own own' (Ok (Some b)) = Fits b last × (work_left b d' own' < work_left a d own)
Moved a last d d' own own' (Ok None) = tells_end last ≡ true
Moved a last d d' own own' (Err why) = ⊤

-- what a call of the worker came to, which made this step of each history; only memory can be wanting
abbrev pub Worked : (History → History) → (History → Type 0) → (History → Type 0) → Result (Option Answer) DriveError → Type 0
Worked step old new (Ok (Some a)) = (h : History) → old h → new (step h) × (Rises (step h) → Says a (step h))
Worked step old new (Ok None) = ⊥
Worked step old new (Err Read) = ⊥
Worked step old new (Err Write) = ⊥
Worked step old new (Err Memory) = ⊤

-- a put of an output, by the bits that the writer had and has
abbrev pub PutOne : {K T : Type 0} → (K → List ℕ → Type 0) → K → K → List Bool → List Bool → Out → Result T Failed → Type 0
PutOne sinks before now old new o (Ok u) = Puts sinks before now (old ++ is_one o.value ∷ []) new
PutOne sinks before now old new o (Err e) = GrewPart (spell_bits false (old ++ is_one o.value ∷ [])) (sinks before) (sinks now)

-- the end of a trace and the elements taken, as they are told
abbrev pub Tells : Ended × ℕ → Trace → Type 0
Tells told t = TellsEnd told.0 t.end × TellsTaken told.0 told.1 t.last.taken
