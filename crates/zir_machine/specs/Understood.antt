-- What a node means where the nodes inside it are understood already.
use Rattle.std.specs.Prelude.{ℕ, zero, suc, ◌≡◌, ◌+◌, List, [], ◌∷◌, Option, Bool, true, false, ◌&&◌, nat_le, nat_eq, None, is_none, length}
use Rattle.zir_bit_tree.specs.declared.value.Val.{Val}
use Rattle.zir_bit_tree.specs.declared.value.Val.TheVariants.{Unit as UnitVal}
use Rattle.zir_bit_tree.specs.declared.value.Slot.{Slot}
use Rattle.zir_bit_tree.specs.declared.ends.End.TheVariants.{Value}
use Rattle.zir_tree.specs.declared.place.Place.{Place}
use Rattle.zir_tree.specs.declared.ident.Ident.{Ident}
use Rattle.zir_bit_tree.specs.declared.tree.Comp.{Comp, Block as BlockComp, Repeat as RepeatComp, Pipe as PipeComp}
use Rattle.zir_bit_tree.specs.declared.tree.Member.{Member}
use Rattle.zir_bit_meaning.specs.Trace.{State, point}
use Rattle.zir_bit_meaning.specs.Composition.{fresh}
use Rattle.zir_bit_meaning.specs.Component.{bind, assigns}
use Rattle.zir_bit_laws.specs.Process.{Proc, Gives, Ends, Needs, spent_proc, NextProc, then_proc, turns_proc, proc, list_proc, piped}
use Rattle.zir_machine.specs.declared.progress.Focus.{Focus}
use Rattle.zir_machine.specs.declared.progress.Focus.TheVariants.{Begin, Ended, Giving, Given, Spent}
use Rattle.zir_machine.specs.declared.progress.Progress.{Progress}
use Rattle.zir_machine.specs.declared.progress.Waits.{Waits}
use Rattle.zir_machine.specs.declared.progress.Waits.TheVariants.{Neither, Right, Both}
use Rattle.zir_machine.specs.declared.progress.Base.{Base}
use Rattle.zir_machine.specs.Standing.{state_of, base_point, ended_value, given_value}
use Rattle.zir_machine.specs.Late.{Late}

-- a component that has begun: it ended, waits to give or was let give, or is out of ticks
abbrev pub ended_in : Focus → State → Proc
ended_in Begin s = spent_proc
ended_in (Ended v) s = Ends (Value v) s
ended_in (Giving v) s = Gives (record { value = v; at = point s }) (Ends (Value UnitVal) s)
ended_in Given s = Ends (Value UnitVal) s
ended_in Spent s = spent_proc

-- at the beginning
abbrev pub is_begin : Focus → Bool
is_begin Begin = true
is_begin (Ended v) = false
is_begin (Giving v) = false
is_begin Given = false
is_begin Spent = false

-- a component without parts
abbrev pub leaf : Comp → Focus → State → Proc
leaf c Begin s = proc c s
leaf c (Ended v) s = Ends (Value v) s
leaf c (Giving v) s = Gives (record { value = v; at = point s }) (Ends (Value UnitVal) s)
leaf c Given s = Ends (Value UnitVal) s
leaf c Spent s = spent_proc

-- what a node runs, what that still does, whether its counts fit together, and whether it stands where it needs an element
pub record Meant : Type 0 where
  pub what : Comp
  pub does : Focus → State → Proc
  pub sound : Focus → State → Bool
  pub awaits : Focus → Bool
  pub spent : (s : State) → does Spent s ≡ spent_proc
  pub spent_sound : (s : State) → sound Spent s ≡ true
  pub given_sound : (v : Val) (s : State) → sound (Giving v) s ≡ sound Given s
  pub giving : (v : Val) (s : State) → does (Giving v) s ≡ Gives (record { value = v; at = point s }) (does Given s)
  pub awaits_ready : (f : Focus) → awaits f ≡ true → given_value f ≡ None
  pub awaiting : (f : Focus) (s : State) → sound f s ≡ true → awaits f ≡ true → (g : Val → Proc) × (does f s ≡ Needs s g)
  pub late : (f : Focus) (s : State) → sound f s ≡ true → Late s.ticks (does f s)

-- a part of a block, understood
pub record Held : Type 0 where
  pub bound : Option Ident
  pub meant : Meant

-- a loop, understood
pub record Looped : Type 0 where
  pub body : Meant
  pub place : Place

-- two sides, understood, where they stand, and how many names were in scope before both
pub record Linked : Type 0 where
  pub left : Meant
  pub right : Meant
  pub left_progress : Progress
  pub left_store : List Slot
  pub right_progress : Progress
  pub base : Base
  pub depth : ℕ
  pub waits : Waits
  pub place : Place

-- the members of a block
abbrev pub members_of : List Held → List Member
members_of [] = []
members_of (h ∷ hs) = record { bound = h.bound; what = h.meant.what } ∷ members_of hs

-- a loop goes on with the ticks left
abbrev pub again : Comp → NextProc
again c v s = turns_proc s.left (proc c) s

-- what follows a part of a block
abbrev pub rest_of_row : List Held → ℕ → Option Ident → NextProc
rest_of_row hs base name v s = list_proc (members_of hs) base v (bind name v s)

-- the part at this place runs
abbrev pub row_in : List Held → ℕ → ℕ → Focus → State → Proc
row_in [] at base f s = ended_in f s
row_in (h ∷ hs) zero base f s = then_proc (h.meant.does f s) (rest_of_row hs base h.bound)
row_in (h ∷ hs) (suc k) base f s = row_in hs k base f s

-- the part that runs is sound
abbrev pub row_sound : List Held → ℕ → Focus → State → Bool
row_sound [] at f s = true
row_sound (h ∷ hs) zero f s = h.meant.sound f s
row_sound (h ∷ hs) (suc k) f s = row_sound hs k f s

-- the part that runs needs an element
abbrev pub row_awaits : List Held → ℕ → Focus → Bool
row_awaits [] at f = false
row_awaits (h ∷ hs) zero f = h.meant.awaits f
row_awaits (h ∷ hs) (suc k) f = row_awaits hs k f

-- the part at this place has ended with the value of the focus
abbrev pub row_done : List Held → ℕ → Focus → State → Type 0
row_done [] at f s = ⊥
row_done (h ∷ hs) zero f s = h.meant.does f s ≡ Ends (Value (ended_value f)) s
row_done (h ∷ hs) (suc k) f s = row_done hs k f s

-- the block
abbrev pub row_comp : List Held → Place → Comp
row_comp hs p = BlockComp (members_of hs) p

-- the body, and then the turns that are left
abbrev pub loop_does : Looped → Focus → State → Proc
loop_does l f s = then_proc (l.body.does f s) (again l.body.what)

-- the repeat
abbrev pub loop_comp : Looped → Comp
loop_comp l = RepeatComp l.body.what l.place

-- where the left side stands, in its own store
abbrev pub left_state : Linked → State
left_state l = state_of l.left_progress l.left_store

-- the right side works in the store of the whole
abbrev pub right_state : Linked → State → State
right_state l s = state_of l.right_progress s.store

-- what the left side still does
abbrev pub left_does : Linked → Proc
left_does l = l.left.does l.left_progress.focus (left_state l)

-- what the right side still does
abbrev pub right_does : Linked → State → Proc
right_does l s = l.right.does l.right_progress.focus (right_state l s)

-- what the two sides still do: of s only the limit and the store count
abbrev pub link_goes : Linked → State → Proc
link_goes l s = piped [] l.depth s (right_does l s) (base_point l.base) (left_does l)

-- what they do from the beginning
abbrev pub link_starts : Linked → State → Proc
link_starts l s = piped (assigns l.left.what) (length s.store) s (proc l.right.what (fresh s)) (point s) (proc l.left.what s)

-- a composition that goes on, ended, gives, or is out of ticks
abbrev pub link_does : Linked → Focus → State → Proc
link_does l Begin s = link_goes l s
link_does l (Ended v) s = Ends (Value v) s
link_does l (Giving v) s = Gives (record { value = v; at = point s }) (link_goes l s)
link_does l Given s = link_goes l s
link_does l Spent s = spent_proc

-- the ticks of the left side that the next event of the whole has at least
abbrev pub floor_at : Waits → Base → Progress → ℕ
floor_at Neither base left = base.ticks
floor_at Right base left = left.ticks
floor_at Both base left = left.ticks

-- the floor where it stands
abbrev pub floor_of : Linked → ℕ
floor_of l = floor_at l.waits l.base l.left_progress

-- the ticks that the next event of the whole has at least
abbrev pub lifted : Linked → ℕ
lifted l = floor_of l + l.right_progress.ticks

-- who waits is where it needs an element, and where both wait the whole stands at that need
abbrev pub waits_sound : Waits → Linked → State → Bool
waits_sound Neither l s = true
waits_sound Right l s = l.right.awaits l.right_progress.focus
waits_sound Both l s = l.right.awaits l.right_progress.focus && l.left.awaits l.left_progress.focus && nat_eq s.ticks (lifted l) && nat_eq s.taken l.left_progress.taken

-- the sides are sound, no output of the right side waits, the base is no later than the left side, and the whole no later than its next event
abbrev pub goes_sound : Linked → State → Bool
goes_sound l s =
    l.right.sound l.right_progress.focus (right_state l s) && l.left.sound l.left_progress.focus (left_state l)
    && is_none (given_value l.right_progress.focus)
    && nat_le l.base.ticks l.left_progress.ticks && nat_le s.ticks (lifted l) && waits_sound l.waits l s

-- its sides are sound where it goes on
abbrev pub link_sound : Linked → Focus → State → Bool
link_sound l Begin s = goes_sound l s
link_sound l (Ended v) s = true
link_sound l (Giving v) s = goes_sound l s
link_sound l Given s = goes_sound l s
link_sound l Spent s = true

-- both sides wait
abbrev pub is_both : Waits → Bool
is_both Neither = false
is_both Right = false
is_both Both = true

-- both sides wait, and the whole has not ended
abbrev pub link_awaits : Linked → Focus → Bool
link_awaits l Begin = is_both l.waits
link_awaits l (Ended v) = false
link_awaits l (Giving v) = false
link_awaits l Given = is_both l.waits
link_awaits l Spent = false

-- the composition
abbrev pub link_comp : Linked → Comp
link_comp l = PipeComp l.left.what l.right.what l.place
