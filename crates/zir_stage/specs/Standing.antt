-- What a stage stands for, and the room that it has.
use Rattle.std.specs.Prelude.{ℕ, ◌+◌, List, Option, Some, None}
use Rattle.zir_tree.specs.declared.ends.Stamp.{Stamp}
use Rattle.zir_expr.specs.Memory.Frames.{Memory}
use Rattle.zir_flow.specs.declared.instruction.Joint.{Joint}
use Rattle.zir_flow.specs.declared.instruction.Instruction.{Instruction}
use Rattle.zir_flow.specs.Kinds.{Shape, Flat, Split}
use Rattle.zir_flow.specs.Threads.{Thread}
use Rattle.zir_flow.specs.Stages.{Stage as Standing, Alone, Joined, Room, Closed, Open}
use Rattle.zir_stage.specs.declared.stage.Stage.{Stage, Stage', None', Some'}
use Rattle.zir_stage.specs.declared.stage.Sides.{Sides'}
use Rattle.zir_stage.specs.Pausing.{joint_at}

-- the thread of a stage
abbrev pub thread_of : Stage → Thread
thread_of (Stage' th held) = th

-- the memory of its thread
abbrev pub memory_of : Stage → Memory
memory_of s = (thread_of s).memory

-- its room for compositions
abbrev pub room_in : Stage → Room
room_in (Stage' th None') = Closed
room_in (Stage' th (Some' p (Sides' left right link))) = Open (memory_of left) (room_in left) (room_in right)

-- the room of a thread with these sides
abbrev pub room_with : Stage → Stage → Room
room_with left right = Open (memory_of left) (room_in left) (room_in right)

-- the shape of its room
abbrev pub shape_of : Stage → Shape
shape_of (Stage' th None') = Flat
shape_of (Stage' th (Some' p (Sides' left right link))) = Split (shape_of left) (shape_of right)

-- a thread that stands at a composition, if one has begun, or alone
abbrev pub stood : Option Stamp → Option Joint → Thread → Standing → Standing → Room → Standing
stood (Some link) (Some j) th left right room = Joined th j left right link.taken link.ticks
stood (Some link) None th left right room = Alone th room
stood None j th left right room = Alone th room

-- what a stage stands for over this code
abbrev pub stage_of : List Instruction → Stage → Standing
stage_of code (Stage' th None') = Alone th Closed
stage_of code (Stage' th (Some' p (Sides' left right link))) =
    stood link (joint_at code th.place) th (stage_of code left) (stage_of code right) (room_with left right)

-- what a thread stands for with the sides of a composition, if one has begun
abbrev pub standing : List Instruction → Thread → Stage → Stage → Option Stamp → Standing
standing code th left right link =
    stood link (joint_at code th.place) th (stage_of code left) (stage_of code right) (room_with left right)

-- the memory in which the cells of an output stand
abbrev pub given : Standing → Memory
given (Alone th room) = th.memory
given (Joined th j left right taken ticks) = given right

-- how large a shape is
abbrev pub weight : Shape → ℕ
weight Flat = 1
weight (Split left right) = weight left + weight right + 1
