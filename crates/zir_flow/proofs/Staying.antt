-- A thread that wants an element or begins a composition, and a stage that needs an element, are as they were before.
use Rattle.std.proofs.Common.{◌≡◌, ◌∙◌, ◌+◌, ℕ, zero, suc, ℤ, pos, negsuc, List, [], ◌∷◌, Bool, true, false, Option, Some, None, ap, subst, refl, nat_lt, nat_le, slice_get, length}
use Rattle.zir_expr.specs.Memory.{Ran, Done, Trapped, Out, cell_at, place_of, ticked}
use Rattle.zir_expr.specs.Memory.Frames.{Memory}
use Rattle.zir_expr.specs.Running.{go_all}
use Rattle.zir_expr.specs.declared.frame.Spot.TheVariants.{Local}
use Rattle.zir_flow.specs.declared.instruction.Joint.{Joint}
use Rattle.zir_flow.specs.declared.instruction.Caller.{Caller}
use Rattle.zir_flow.specs.declared.instruction.Instruction.{Instruction}
use Rattle.zir_flow.specs.declared.instruction.Instruction.TheVariants.{Run, Tick, Take, Takes, Give, Gives, Ahead, Again, Branch, Turn, Enter, Leave, Pipe, Stop}
use Rattle.zir_flow.specs.Threads.{Thread, Move, Goes, Offers, Wants, Halts, Fails, Spends, Forks, move, move_if, moved_by, either_move, after_steps, turn_of, enter_if, left_for, onward, come, cells_from, next_of, counted_on, next_with, goes_if}
use Rattle.zir_expr.specs.Answers.{is_set}
use Rattle.zir_flow.specs.Stages.{Stage, Alone, Joined, Room, Closed, Open, Turned, Going, Giving, Needing, Ended, Failed, Gone, turn, turned_by, joined, composed, pulled, either_turned, left_ended, right_ended}

-- a thread that wants an element or begins a composition is this one
abbrev pub Stays : Move → Thread → Type 0
Stays (Goes th') th = Unit {0}
Stays (Offers cells th') th = Unit {0}
Stays (Wants th') th = th' ≡ th
Stays (Halts th') th = Unit {0}
Stays (Fails t th') th = Unit {0}
Stays Spends th = Unit {0}
Stays (Forks j th') th = th' ≡ th

either_stays : (b : Bool) (m m' : Move) (th : Thread) → Stays m th → Stays m' th → Stays (either_move b m m') th
either_stays true m m' th h h' = h
either_stays false m m' th h h' = h'

steps_stay : (r : Ran) (next : Memory → Move) (th : Thread) → ((m : Memory) → Stays (next m) th) → Stays (after_steps r next th) th
steps_stay (Done m) next th h = h m
steps_stay (Trapped t m) next th h = tt
steps_stay Out next th h = tt

turn_stays : (n : ℤ) (i k : ℕ) (th : Thread) → Stays (turn_of n i k th) th
turn_stays (pos zero) i k th = tt
turn_stays (pos (suc n)) i k th = tt
turn_stays (negsuc n) i k th = tt

enter_stays : (b : Bool) (place at : ℕ) (th : Thread) → Stays (enter_if b place at th) th
enter_stays true place at th = tt
enter_stays false place at th = tt

leave_stays : (calls : List Caller) (th : Thread) → Stays (left_for calls th) th
leave_stays [] th = tt
leave_stays (c ∷ calls) th = tt

obeyed_stays : (i : Instruction) (th : Thread) → Stays (moved_by i th) th
obeyed_stays (Run steps) th = steps_stay (go_all steps th.base th.memory) (λ m. Goes (next_with th m)) th (λ m. tt)
obeyed_stays Tick th = steps_stay (ticked th.memory) (λ m. Goes (next_with th m)) th (λ m. tt)
obeyed_stays (Take to) th = refl
obeyed_stays (Takes s k) th = either_stays (nat_lt (come s th) s.count) (Wants th) (Goes (onward k th)) th refl tt
obeyed_stays (Give x n) th = tt
obeyed_stays (Gives s) th =
    let next : Memory → Move = λ m. Offers (cells_from s.size (next_of s th) (counted_on s th m)) (record th { memory = counted_on s th m }) in
    either_stays (nat_lt (come s th) s.count) (after_steps (ticked th.memory) next th) (Goes (onward 0 th)) th
    (steps_stay (ticked th.memory) next th (λ m. tt)) tt
obeyed_stays (Ahead k) th = tt
obeyed_stays (Again k) th = tt
obeyed_stays (Branch x on k) th =
    either_stays (goes_if (is_set (cell_at (place_of th.base x) th.memory)) on) (Goes (onward k th)) (Goes (onward 0 th)) th tt tt
obeyed_stays (Turn c k) th = turn_stays (cell_at (place_of th.base (Local c)) th.memory) (place_of th.base (Local c)) k th
obeyed_stays (Enter place at) th = enter_stays (nat_lt (length th.calls) th.deep) place at th
obeyed_stays Leave th = leave_stays th.calls th
obeyed_stays (Pipe j) th = refl
obeyed_stays Stop th = tt

followed_stays : (i : Option Instruction) (th : Thread) → Stays (move_if i th) th
followed_stays (Some i) th = obeyed_stays i th
followed_stays None th = tt

pub moves_stay : (code : List Instruction) (th : Thread) → Stays (move code th) th
moves_stay code th = followed_stays (slice_get code th.place) th

-- a stage that needs an element is this one
abbrev Keeps : Turned → Stage → Type 0
Keeps (Going s') s = Unit {0}
Keeps (Giving cells taken ticks s') s = Unit {0}
Keeps (Needing taken ticks s') s = s' ≡ s
Keeps (Ended taken ticks s') s = Unit {0}
Keeps (Failed t taken ticks s') s = Unit {0}
Keeps Gone s = Unit {0}

begun_keeps : (j : Joint) (th : Thread) (room : Room) (s : Stage) → Keeps (joined j th room) s
begun_keeps j th Closed s = tt
begun_keeps j th (Open spare l r) s = tt

moved_keeps : (m : Move) (th : Thread) (room : Room) → Stays m th → Keeps (turned_by m room) (Alone th room)
moved_keeps (Goes th') th room h = tt
moved_keeps (Offers cells th') th room h = tt
moved_keeps (Wants th') th room h = ap (λ t. Alone t room) h
moved_keeps (Halts th') th room h = tt
moved_keeps (Fails t th') th room h = tt
moved_keeps Spends th room h = tt
moved_keeps (Forks j th') th room h = begun_keeps j th' room (Alone th room)

limit_keeps : (b : Bool) (t : Turned) (s : Stage) → Keeps t s → Keeps (either_turned b t Gone) s
limit_keeps true t s h = h
limit_keeps false t s h = tt

left_keeps : (code : List Instruction) (th : Thread) (j : Joint) (l r r' : Stage) (t k own : ℕ) (x : Turned) → r' ≡ r → Keeps x l →
    Keeps (pulled code th j r' t k own x) (Joined th j l r t k)
left_keeps code th j l r r' t k own (Going l') same h = tt
left_keeps code th j l r r' t k own (Giving cells taken ticks l') same h = tt
left_keeps code th j l r r' t k own (Needing taken ticks l') same h =
    limit_keeps (nat_le (ticks + own) th.memory.limit) (Needing taken (ticks + own) (Joined th j l' r' t k)) (Joined th j l r t k)
    (ap (λ s. Joined th j s r' t k) h ∙ ap (λ s. Joined th j l s t k) same)
left_keeps code th j l r r' t k own (Ended taken ticks l') same h =
    limit_keeps (nat_le (ticks + own) th.memory.limit) (left_ended j th l' r' taken (ticks + own)) (Joined th j l r t k) tt
left_keeps code th j l r r' t k own (Failed trap taken ticks l') same h =
    limit_keeps (nat_le (ticks + own) th.memory.limit) (Failed trap taken (ticks + own) (Joined th j l' r' t k)) (Joined th j l r t k) tt
left_keeps code th j l r r' t k own Gone same h = tt

right_keeps : (code : List Instruction) (th : Thread) (j : Joint) (l r : Stage) (t k : ℕ) (y x : Turned) → Keeps y l → Keeps x r →
    Keeps (composed code th j l t k y x) (Joined th j l r t k)
right_keeps code th j l r t k y (Going r') h g = tt
right_keeps code th j l r t k y (Giving cells taken ticks r') h g =
    limit_keeps (nat_le (k + ticks) th.memory.limit) (Giving cells t (k + ticks) (Joined th j l r' t k)) (Joined th j l r t k) tt
right_keeps code th j l r t k y (Needing taken ticks r') h g = left_keeps code th j l r r' t k ticks y g h
right_keeps code th j l r t k y (Ended taken ticks r') h g =
    limit_keeps (nat_le (k + ticks) th.memory.limit) (right_ended j th l r' t (k + ticks)) (Joined th j l r t k) tt
right_keeps code th j l r t k y (Failed trap taken ticks r') h g =
    limit_keeps (nat_le (k + ticks) th.memory.limit) (Failed trap t (k + ticks) (Joined th j l r' t k)) (Joined th j l r t k) tt
right_keeps code th j l r t k y Gone h g = tt

turns_keep : (code : List Instruction) (s : Stage) → Keeps (turn code s) s
turns_keep code (Alone th room) = moved_keeps (move code th) th room (moves_stay code th)
turns_keep code (Joined th j l r t k) = right_keeps code th j l r t k (turn code l) (turn code r) (turns_keep code l) (turns_keep code r)

pub needs_stay : (code : List Instruction) (s s' : Stage) (taken ticks : ℕ) → turn code s ≡ Needing taken ticks s' → s' ≡ s
needs_stay code s s' taken ticks e = subst (λ t. Keeps t s) e (turns_keep code s)
