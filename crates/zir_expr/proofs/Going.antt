-- Equations of steps: nested code as lists, and how loops go on and stop.
use Rattle.std.specs.Prelude.{ℕ, suc, ℤ, pos, ◌+ℤ◌, List, [], ◌∷◌, ◌≡◌, Bool, true, false, not, refl, ◌-◌}
use Rattle.std.specs.Bool.{Decides}
use Rattle.std.specs.Ordering.{int_eq}
use Rattle.std.proofs.lemmas.Bool.Decides.{Decides-int_eq}
use Rattle.std.proofs.Common.{ap, ◌∙◌}
use Rattle.std.specs.Int.{int_wrap}
use mir.Syntax.{w32}
use denote.Hole.Carrier.{hidden}
use Rattle.zir_expr.specs.declared.frame.Halt.{Halt}
use Rattle.zir_expr.specs.declared.frame.Halt.TheVariants.{Trap, Spent}
use Rattle.zir_expr.specs.declared.frame.Spot.{Spot}
use Rattle.zir_expr.specs.declared.steps.Code.{Code}
use Rattle.zir_expr.specs.declared.steps.Fork.{Fork}
use Rattle.zir_expr.specs.declared.steps.Turn.{Turn}
use Rattle.zir_expr.specs.declared.steps.Counting.{Counting}
use Rattle.zir_expr.specs.declared.steps.Step.{Step, Branch, While, Count, Call}
use Rattle.zir_expr.specs.declared.steps.Step.TheBlock.{shape-the_row-Step-0, hidden-the_row-Step-0, shape-the_row-Code-1, hidden-the_row-Code-1}
use Rattle.zir_expr.specs.Answers.{is_set}
use Rattle.zir_expr.specs.Memory.{Ran, Done, then_run, halted, from_base, place_of, cell_at, ticked, put_cell}
use Rattle.zir_expr.specs.Memory.Frames.{Memory}
use Rattle.zir_expr.specs.Running.{go, go_row, go_all, go_turns, go_counted, branch, turns_in}

pub funext : {A : Type 0} {B : Type 0} (f g : A → B) → ((x : A) → f x ≡ g x) → f ≡ g
funext f g h = λ i x. h x i

-- what has stopped goes no further
pub stops : (h : Halt) (m : Memory) (next : Memory → Ran) → then_run (halted h m) next ≡ halted h m
stops Trap m next = refl
stops Spent m next = refl

pub row-all : (steps : List Step) (base : ℕ) (m : Memory) → go_row (hidden-the_row-Step-0 steps) base m ≡ go_all steps base m
unfolding shape-the_row-Step-0 hidden-the_row-Step-0 hidden
row-all [] base m = refl
row-all (s ∷ steps) base m = ap (then_run (go s base m)) (funext _ _ (λ m'. row-all steps base m'))

same_code : (steps : List Step) (base : ℕ) → go_row (hidden-the_row-Step-0 steps) base ≡ go_all steps base
same_code steps base = funext _ _ (λ m. row-all steps base m)

pub go-Branch : (f : Fork) (base : ℕ) (m : Memory) →
    go (Branch f) base m ≡ branch (is_set (cell_at (place_of base f.test) m)) (go_all f.first base) (go_all f.second base) m
go-Branch f base m =
    ap (λ (way : (Memory → Ran)). branch (is_set (cell_at (place_of base f.test) m)) way (go_row (hidden-the_row-Step-0 f.second) base) m) (same_code
    f.first base)
    ∙ ap (λ (way : (Memory → Ran)). branch (is_set (cell_at (place_of base f.test) m)) (go_all f.first base) way m) (same_code f.second base)

pub go-While : (w : Turn) (base : ℕ) (m : Memory) → go (While w) base m ≡ go_turns (m.limit - m.used) (go_all w.test base) w.cell base (go_all w.body base) m
go-While w base m =
    ap (λ (test : (Memory → Ran)). go_turns (m.limit - m.used) test w.cell base (go_row (hidden-the_row-Step-0 w.body) base) m) (same_code w.test base)
    ∙ ap (λ (body : (Memory → Ran)). go_turns (m.limit - m.used) (go_all w.test base) w.cell base body m) (same_code w.body base)

pub go-Count : (k : Counting) (base : ℕ) (m : Memory) →
    go (Count k) base m
    ≡ go_counted (turns_in (cell_at (place_of base k.turns) m)) (cell_at (place_of base k.index) m) k.index base (go_all k.body base) m
go-Count k base m = ap (λ (body : (Memory →
    Ran)). go_counted (turns_in (cell_at (place_of base k.turns) m)) (cell_at (place_of base k.index) m) k.index base body m) (same_code k.body base)

-- a call is a tick and the code
pub go-Call : (c : Code) (at base : ℕ) (m : Memory) → go (Call c at) base m ≡ then_run (ticked m) (go_all c.steps (from_base base at))
unfolding shape-the_row-Code-1 hidden-the_row-Code-1 hidden
go-Call c at base m = ap (then_run (ticked m)) (funext _ _ (λ m1. row-all c.steps (from_base base at) m1))

pub call_goes : (c : Code) (at base : ℕ) (m m1 : Memory) → ticked m ≡ Done m1 → go (Call c at) base m ≡ go_all c.steps (from_base base at) m1
call_goes c at base m m1 h = go-Call c at base m ∙ ap (λ r. then_run r (go_all c.steps (from_base base at))) h

pub call_halts : (c : Code) (at base : ℕ) (h : Halt) (m m1 : Memory) → ticked m ≡ halted h m1 → go (Call c at) base m ≡ halted h m1
call_halts c at base h m m1 e = go-Call c at base m ∙ ap (λ r. then_run r (go_all c.steps (from_base base at))) e ∙ stops h m1 _

set_if : (b : Bool) (P : Type 0) → Decides b P → (P → ⊥) → not b ≡ true
set_if true P d ne = absurd (ne (d.0 refl))
set_if false P d ne = refl

-- a cell that is not 0
pub is_set_at : (n : ℤ) → (n ≡ pos 0 → ⊥) → is_set n ≡ true
is_set_at n ne = set_if (int_eq n (pos 0)) (n ≡ pos 0) (Decides-int_eq n (pos 0)) ne

pub turn_goes : (n k : ℕ) (c : Spot) (base : ℕ) (test body : Memory → Ran) (m m1 m2 m3 : Memory) → n ≡ suc k → test m ≡ Done m1 →
    is_set (cell_at (place_of base c) m1) ≡ true → ticked m1 ≡ Done m2 → body m2 ≡ Done m3 →
    go_turns n test c base body m ≡ go_turns k test c base body m3
turn_goes n k c base test body m m1 m2 m3 e h s t b = rw (e, h, s, t, b) refl

pub tick_stops : (n k : ℕ) (c : Spot) (base : ℕ) (test body : Memory → Ran) (m m1 m2 : Memory) (h : Halt) → n ≡ suc k → test m ≡ Done m1 →
    is_set (cell_at (place_of base c) m1) ≡ true → ticked m1 ≡ halted h m2 → go_turns n test c base body m ≡ halted h m2
tick_stops n k c base test body m m1 m2 h e g s t = rw (e, g, s, t) (stops h m2 _)

pub body_stops : (n k : ℕ) (c : Spot) (base : ℕ) (test body : Memory → Ran) (m m1 m2 m3 : Memory) (h : Halt) → n ≡ suc k → test m ≡ Done m1 →
    is_set (cell_at (place_of base c) m1) ≡ true → ticked m1 ≡ Done m2 → body m2 ≡ halted h m3 → go_turns n test c base body m ≡ halted h m3
body_stops n k c base test body m m1 m2 m3 h e g s t b = rw (e, g, s, t, b) (stops h m3 _)

pub count_goes : (n k : ℕ) (i : ℤ) (index : Spot) (base : ℕ) (body : Memory → Ran) (m m1 m2 : Memory) → n ≡ suc k → ticked m ≡ Done m1 →
    body (put_cell (place_of base index) i m1) ≡ Done m2 →
    go_counted n i index base body m ≡ go_counted k (int_wrap w32 (i +ℤ pos 1)) index base body m2
count_goes n k i index base body m m1 m2 e t b = rw (e, t, b) refl

pub count_stops : (n k : ℕ) (i : ℤ) (index : Spot) (base : ℕ) (body : Memory → Ran) (m m1 m2 : Memory) (h : Halt) → n ≡ suc k → ticked m ≡ Done m1 →
    body (put_cell (place_of base index) i m1) ≡ halted h m2 → go_counted n i index base body m ≡ halted h m2
count_stops n k i index base body m m1 m2 h e t b = rw (e, t, b) (stops h m2 _)

-- a loop that counts, by the cells that were read at its beginning
pub counting_by : (n q r : ℕ) (x y : ℤ) (turns index : Spot) (base : ℕ) (body : Memory → Ran) (m : Memory) (end : Ran) → q ≡ place_of base turns →
    x ≡ cell_at q m → turns_in x ≡ n → r ≡ place_of base index → y ≡ cell_at r m → go_counted n y index base body m ≡ end →
    go_counted (turns_in (cell_at (place_of base turns) m)) (cell_at (place_of base index) m) index base body m ≡ end
counting_by n q r x y turns index base body m end e f g h k z = rw (← e, ← f, g, ← h, ← k) z
