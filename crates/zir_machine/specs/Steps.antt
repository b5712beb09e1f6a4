-- What a step of a component is.
use Rattle.std.specs.Prelude.{ℕ, ◌≡◌, ◌≢◌, ◌≤◌, ◌<◌, ◌⊎◌, Bool, true, Option, None}
use Rattle.zir_bit_tree.specs.declared.value.Val.{Val}
use Rattle.zir_bit_tree.specs.declared.ends.End.TheVariants.{Value}
use Rattle.zir_bit_meaning.specs.Trace.{State}
use Rattle.zir_bit_laws.specs.Process.{Proc, Ends, Needs, spent_proc}
use Rattle.zir_bit_laws.specs.Offers.{Fed}
use Rattle.zir_steps.specs.declared.answer.Answer.{Answer}
use Rattle.zir_steps.specs.declared.answer.Answer.TheVariants.{Yield, Skip, Done, Need, Stopped}
use Rattle.zir_machine.specs.declared.progress.Focus.{Focus}
use Rattle.zir_machine.specs.declared.progress.Focus.TheVariants.{Ended, Giving}
use Rattle.zir_machine.specs.Standing.{given_value}

-- where a component stands at an answer, with what is left of an offer and what it still does
abbrev pub Stands : Answer → Focus → State → Option Val → Proc → Type 0
Stands Yield f s j q = (v : Val) × (f ≡ Giving v)
Stands Skip f s j q = given_value f ≡ None
Stands Done f s j q = (v : Val) × (f ≡ Ended v) × (q ≡ Ends (Value v) s)
Stands Need f s j q = (j ≡ None) × (g : Val → Proc) × (q ≡ Needs s g)
Stands Stopped f s j q = q ≡ spent_proc

-- p became q, the offer i became j, and the component stands as the answer says
pub record Stepped (a : Answer) (i j : Option Val) (p q : Proc) (f : Focus) (s : State) : Type 0 where
  pub moved : Fed i j p q
  pub stands : Stands a f s j q

-- a step never gains fuel or loses ticks; it uses fuel, and gives outputs, only with ticks, or it is stopped; and it pauses only without fuel
pub record Paced (a : Answer) (fuel fuel' ticks ticks' : ℕ) : Type 0 where
  pub fuel_falls : fuel' ≤ fuel
  pub ticks_rise : ticks ≤ ticks'
  pub used : a ≢ Stopped → fuel' < fuel → ticks < ticks'
  pub yields : a ≡ Yield → ticks < ticks'
  pub pauses : a ≡ Skip → fuel' ≡ 0

-- fuel never rises and ticks never fall, and fuel is used only with ticks
pub record Uses (fuel fuel' ticks ticks' : ℕ) : Type 0 where
  pub fuel_falls : fuel' ≤ fuel
  pub ticks_rise : ticks ≤ ticks'
  pub used : fuel' < fuel → ticks < ticks'

-- an element that was offered is taken, or the component still awaits it
abbrev pub Took : Option Val → Bool → Type 0
Took offer awaits = (offer ≡ None) ⊎ (awaits ≡ true)
