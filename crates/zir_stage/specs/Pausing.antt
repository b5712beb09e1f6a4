-- What a pause of a thread says.
use Rattle.std.specs.Prelude.{ℕ, List, ℤ, Option, Some, None, slice_get}
use Rattle.zir_flow.specs.declared.instruction.Joint.{Joint}
use Rattle.zir_flow.specs.declared.instruction.Series.{Series}
use Rattle.zir_flow.specs.declared.instruction.Instruction.{Instruction}
use Rattle.zir_flow.specs.declared.instruction.Instruction.TheVariants.{Run, Tick, Take, Takes, Give, Gives as GivesSeries, Ahead, Again, Branch, Turn, Enter, Leave, Pipe, Stop}
use Rattle.zir_flow.specs.Threads.{Thread, Move, Goes as Going, Offers as Offering, Wants as Wanting, Halts as Halting, Fails as Failing, Spends as Spending, Forks as Forking, cells_from, next_with, counted_on, written, next_of, after_steps}
use Rattle.zir_expr.specs.Memory.{after, ticked}
use Rattle.zir_stage.specs.declared.thread.Pause.{Pause}
use Rattle.zir_stage.specs.declared.thread.Pause.TheVariants.{Goes, Offers, Wants, Halts, Fails, Spends, Forks}

-- the composition of an instruction, if it is one
abbrev pub joint_of : Instruction → Option Joint
joint_of (Run steps) = None
joint_of Tick = None
joint_of (Take to) = None
joint_of (Takes s k) = None
joint_of (Give x n) = None
joint_of (GivesSeries s) = None
joint_of (Ahead k) = None
joint_of (Again k) = None
joint_of (Branch x on k) = None
joint_of (Turn c k) = None
joint_of (Enter place at) = None
joint_of Leave = None
joint_of (Pipe j) = Some j
joint_of Stop = None

-- the same where there is an instruction
abbrev pub joint_if : Option Instruction → Option Joint
joint_if (Some i) = joint_of i
joint_if None = None

-- the composition at a place of the code, if one is there
abbrev pub joint_at : List Instruction → ℕ → Option Joint
joint_at code place = joint_if (slice_get code place)

-- a composition begins where there is one; elsewhere the thread waits
abbrev pub forked : Option Joint → Thread → Move
forked (Some j) th = Forking j th
forked None th = Wanting th

-- what a thread did, by its pause, the composition at its place and what it is now
abbrev pub moved_as : Pause → Option Joint → Thread → Move
moved_as Goes j th = Going th
moved_as (Offers at n) j th = Offering (cells_from n at th.memory) th
moved_as Wants j th = Wanting th
moved_as Halts j th = Halting th
moved_as (Fails t) j th = Failing t th
moved_as Spends j th = Spending
moved_as Forks j th = forked j th

-- one more element of a series is in its place
abbrev pub series_fed : Series → List ℤ → Thread → Thread
series_fed s cells th = record (next_with th (counted_on s th (written (next_of s th) cells th.memory))) { taken = after th.taken }

-- a tick, and one more output of a series
abbrev pub one_given : Series → Thread → Move
one_given s th =
    after_steps (ticked th.memory) (λ m. Offering (cells_from s.size (next_of s th) (counted_on s th m)) (record th { memory = counted_on s th m })) th

-- the composition that begins with a pause
abbrev pub fork_by : Pause → Option Joint → Option Joint
fork_by Goes j = None
fork_by (Offers at n) j = None
fork_by Wants j = None
fork_by Halts j = None
fork_by (Fails t) j = None
fork_by Spends j = None
fork_by Forks j = j
