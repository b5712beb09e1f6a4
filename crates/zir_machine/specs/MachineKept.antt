-- What holds of a machine at each answer, so that the calls that may come next can be made.
use Rattle.std.specs.Prelude.{ℕ, ◌+◌, ◌≤◌, ◌≡◌, List, Option, Some, true, false, is_none}
use Rattle.zir_bit_tree.specs.declared.value.Slot.{Slot}
use Rattle.zir_tree.specs.declared.ends.Stamp.{Stamp}
use Rattle.zir_steps.specs.declared.answer.Answer.{Answer}
use Rattle.zir_steps.specs.declared.answer.Answer.TheVariants.{Yield}
use Rattle.zir_steps.specs.Says.{MayTick}
use Rattle.zir_machine.specs.declared.node.Node.{Node}
use Rattle.zir_machine.specs.declared.progress.Progress.{Progress}
use Rattle.zir_machine.specs.Standing.{state_of, given_value}
use Rattle.zir_machine.specs.Nodes.{is_sound}

-- the component may take a step
pub record CanStep (n : Node) (p : Progress) (store : List Slot) : Type 0 where
  pub ready : is_none (given_value p.focus) ≡ true
  pub sound : is_sound n p.focus (state_of p store) ≡ true

-- an output waits, within the limit of ticks
pub record CanGive (n : Node) (p : Progress) (store : List Slot) (base : Stamp) (limit : ℕ) : Type 0 where
  pub waits : is_none (given_value p.focus) ≡ false
  pub sound : is_sound n p.focus (state_of p store) ≡ true
  pub inside : base.ticks + p.ticks ≤ limit

-- after an answer that lets it tick it can step, and after Yield it can give
pub record Kept (last : Option Answer) (n : Node) (p : Progress) (store : List Slot) (base : Stamp) (limit : ℕ) : Type 0 where
  pub steps : MayTick last → CanStep n p store
  pub gives : last ≡ Some Yield → CanGive n p store base limit
