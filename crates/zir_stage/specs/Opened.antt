-- Threads and the sides of compositions as they are opened.
use Rattle.std.specs.Prelude.{ℕ, [], None, Some, ◌≡◌, length, min}
use Rattle.zir_expr.specs.Memory.Frames.{Memory}
use Rattle.zir_flow.specs.Threads.{Thread}
use Rattle.zir_flow.specs.Fitting.{RoomFits}
use Rattle.zir_flow.specs.Kinds.{Shape}
use Rattle.zir_stage.specs.declared.stage.Sides.{Sides, Sides'}
use Rattle.zir_stage.specs.Standing.{memory_of, room_in, shape_of}

-- the left side has so many cells, both sides have room for these shapes, and no composition has begun
abbrev pub IsOpened : ℕ → Shape → Shape → Sides → Type 0
IsOpened size a b (Sides' left right (Some link)) = ⊥
IsOpened size a b (Sides' left right None) =
    (length (memory_of left).cells ≡ size) × RoomFits size a (room_in left) × RoomFits size b (room_in right) × (shape_of left ≡ a) × (shape_of right ≡ b)

-- a thread at a place of the code, in no call yet; at most 256 may be open at a time
abbrev pub beginning : ℕ → ℕ → ℕ → Memory → Thread
beginning deep place base m = record { place = place; base = base; calls = []; deep = min deep 256; memory = m; taken = 0 }
