-- What it is to ask one side of a composition.
use Rattle.std.specs.Prelude.{ℕ, ◌≡◌, ◌≢◌, ◌+◌, ◌*◌, ◌≤◌, ◌<◌, ◌⊎◌, true, Option, Some, None}
use Rattle.zir_bit_tree.specs.declared.value.Val.{Val}
use Rattle.zir_bit_meaning.specs.Trace.{State}
use Rattle.zir_bit_laws.specs.Process.{Proc}
use Rattle.zir_bit_laws.specs.Offers.{Fed}
use Rattle.zir_steps.specs.declared.answer.Answer.{Answer}
use Rattle.zir_steps.specs.declared.answer.Answer.TheVariants.{Yield, Skip, Need, Stopped}
use Rattle.zir_machine.specs.declared.progress.Focus.{Focus}
use Rattle.zir_machine.specs.declared.progress.Progress.{Progress}
use Rattle.zir_machine.specs.declared.progress.Waits.{Waits}
use Rattle.zir_machine.specs.declared.progress.Waits.TheVariants.{Neither, Right, Both}
use Rattle.zir_machine.specs.Standing.{is_going, given_value}
use Rattle.zir_machine.specs.Steps.{Stepped, Uses}
use Rattle.zir_machine.specs.Understood.{Linked, link_goes, link_does, link_sound, link_awaits, goes_sound, lifted, right_state, left_state}

-- it goes on asking, as the same process
pub record GoesOn (i j : Option Val) (p : Proc) (l : Linked) (f : Focus) (s : State) : Type 0 where
  pub moved : Fed i j p (link_goes l s)
  pub sound : goes_sound l s ≡ true
  pub going : is_going f ≡ true

-- it answers
pub record Answers (a : Answer) (i j : Option Val) (p : Proc) (l : Linked) (f : Focus) (s : State) : Type 0 where
  pub step : Stepped a i j p (link_does l f s) f s
  pub sound : link_sound l f s ≡ true
  pub waits : a ≡ Need → link_awaits l f ≡ true

-- nothing: it goes on asking; an answer: it gives that
abbrev pub Asked : Option Answer → Option Val → Option Val → Proc → Linked → Focus → State → Type 0
Asked None i j p l f s = GoesOn i j p l f s
Asked (Some a) i j p l f s = Answers a i j p l f s

-- fuel is used only with ticks of the next event, which had at least t; a stopped composition has no next event
pub record AskUses (a : Answer) (fuel fuel' t ticks ticks' : ℕ) : Type 0 where
  pub fuel_falls : fuel' ≤ fuel
  pub ticks_rise : ticks ≤ ticks'
  pub climbs : a ≢ Stopped → t ≤ ticks'
  pub used : a ≢ Stopped → fuel' < fuel → t < ticks'
  pub yields : a ≡ Yield → t < ticks'
  pub pauses : a ≡ Skip → fuel' ≡ 0

-- what it did cost ticks, whether it goes on or answers
abbrev pub AskPaced : Option Answer → ℕ → ℕ → ℕ → Linked → ℕ → ℕ → Type 0
AskPaced None fuel fuel' t l ticks ticks' = Uses fuel fuel' t (lifted l) × (ticks ≤ ticks')
AskPaced (Some a) fuel fuel' t l ticks ticks' = AskUses a fuel fuel' t ticks ticks'

-- how often the sides can still be asked without fuel
abbrev pub giving_rank : Option Val → ℕ
giving_rank None = 2
giving_rank (Some v) = 3

-- an element that is offered can be handed to the left side once
abbrev pub offer_rank : Option Val → ℕ
offer_rank None = 0
offer_rank (Some v) = 1

-- the right side is asked before the left one, and the left one before the whole waits
abbrev pub rank : Waits → Focus → Option Val → ℕ
rank Neither f i = 4
rank Right f i = giving_rank (given_value f)
rank Both f i = offer_rank i

-- with fuel, the sides can be asked five times more for each
abbrev pub asks_left : Linked → Option Val → ℕ → ℕ
asks_left l i fuel = 5 * fuel + rank l.waits l.left_progress.focus i

-- where it goes on, there is less left to ask
abbrev pub AsksLess : Option Answer → ℕ → ℕ → Type 0
AsksLess None n m = m < n
AsksLess (Some a) n m = Unit {0}

-- both sides are sound, the base is no later than the left side
pub record Sides (l : Linked) (s : State) : Type 0 where
  pub right : l.right.sound l.right_progress.focus (right_state l s) ≡ true
  pub left : l.left.sound l.left_progress.focus (left_state l) ≡ true
  pub base : l.base.ticks ≤ l.left_progress.ticks

-- what the right side's answer leaves: nothing changes where it needs an element, and else the whole stands where it does
abbrev pub SettledRight : Answer → Option Answer → Linked → Linked → Progress → Progress → Type 0
SettledRight a None l m p q = (m.waits ≡ Right) × (m.left_progress ≡ l.left_progress) × (m.right_progress.ticks ≡ l.right_progress.ticks) × (p.ticks ≤ q.ticks) × (a ≡ Need)
SettledRight a (Some r) l m p q = (r ≢ Need) × (r ≡ Yield → a ≡ Yield) × (r ≡ Skip → a ≡ Skip) × (r ≢ Stopped → q.ticks ≡ l.base.ticks + l.right_progress.ticks) × (p.ticks ≤ q.ticks) × (r ≢ Stopped → a ≢ Stopped)

-- what the left side's answer leaves
abbrev pub SettledLeft : Answer → Option Answer → Linked → Linked → Progress → Progress → ℕ → ℕ → Type 0
SettledLeft a None l m p q fuel fuel' = (lifted m ≡ l.left_progress.ticks + l.right_progress.ticks) × (((a ≡ Yield) × (fuel ≡ fuel' + 1)) ⊎ ((a ≡ Need) × (m.waits ≡ Both) × (fuel' ≡ fuel))) × (p.ticks ≤ q.ticks)
SettledLeft a (Some r) l m p q fuel fuel' = (r ≢ Need) × (r ≢ Yield) × (r ≡ Skip → (a ≡ Skip) ⊎ ((a ≡ Yield) × (fuel ≡ 0))) × (fuel' ≡ fuel) × (r ≢ Stopped → q.ticks ≡ l.left_progress.ticks + l.right_progress.ticks) × (p.ticks ≤ q.ticks) × (r ≢ Stopped → a ≢ Stopped)
