-- The walk over words: in parts, onwards from any state, and what it gives.
use Rattle.std.proofs.Common.{◌≡◌, ◌≤◌, ◌<◌, ◌^◌, ℕ, Bool, true, cond, List, [], ◌∷◌, ◌++◌, Option, Some, None, refl, ◌∙◌, ap, arith}
use Rattle.std.specs.Prelude.{codes, decimal, filter_map, option_to_list, option_and_then}
use Rattle.zir_tree.specs.declared.format.Format.TheVariants.{Text}
use Rattle.zir_command_line.specs.declared.reading.Next.{Next}
use Rattle.zir_command_line.specs.declared.reading.Next.TheVariants as next
use Rattle.zir_command_line.specs.Words.{Choice, ticks_of, workers_of, auto_of, format_of}
use Rattle.zir_command_line.specs.Walk.{State, kind_of, number_of, step, walk, ends, finish}
use Rattle.zir_command_line.proofs.Spelling.{spells}

-- ---- one step and many

-- a step in front of a walk
pub walk_step : (s u : State) (w : List ℕ) (ws : List (List ℕ)) → step s w ≡ Some u → walk s (w ∷ ws) ≡ walk u ws
walk_step s u w ws e = ap (option_and_then (λ t. walk t ws)) e

-- a walk over two lists is the walk over the second from where the first leads
pub walk_append : (s : State) (xs ys : List (List ℕ)) → walk s (xs ++ ys) ≡ option_and_then (λ t. walk t ys) (walk s xs)
walk_append s [] ys = refl
walk_append s (x ∷ xs) ys =
    elim (step s x) as (λ o. option_and_then (λ t. walk t (xs ++ ys)) o ≡ option_and_then (λ t. walk t ys) (option_and_then (λ t. walk t xs) o))
    [ None ↦ refl | Some t ↦ walk_append t xs ys ]

-- a walk that goes on from where another led
pub walk_on : (s t u : State) (xs ys : List (List ℕ)) → walk s xs ≡ Some t → walk t ys ≡ Some u → walk s (xs ++ ys) ≡ Some u
walk_on s t u xs ys e f = walk_append s xs ys ∙ ap (option_and_then (λ t. walk t ys)) e ∙ f

-- ---- onwards

-- more words with which a state ends with a program
pub record Onwards (s : State) : Type 0 where
  pub more : List (List ℕ)
  pub last : State
  pub name : List ℕ
  pub walks : walk s more ≡ Some last
  pub ends_so : finish last ≡ Some name

-- one more step
pub one_step : (s u : State) (w : List ℕ) → step s w ≡ Some u → Onwards u → Onwards s
one_step s u w e o = record { more = w ∷ o.more; last = o.last; name = o.name; walks = walk_step s u w o.more e ∙ o.walks; ends_so = o.ends_so }

-- the name p
abbrev p : List ℕ
p = codes "p"

-- where a line may end, or a name may come
from_open : (s : State) (n : Next) (o : Option (List ℕ)) → s.next ≡ n → s.program ≡ o → ends n ≡ true → Onwards s
unfolding step kind_of
from_open s n (Some name) a e h = record { more = []; last = s; name = name; walks = refl; ends_so = rw (a, h, e) refl }
from_open s next.Any None a e h =
    let u : State = record s { program = Some p } in
    one_step s u p (rw (a, e) refl) (record { more = []; last = u; name = p; walks = refl; ends_so = rw a refl })
from_open s next.Name None a e h =
    let u : State = record s { program = Some p } in
    one_step s u p (rw (a, e) refl) (record { more = []; last = u; name = p; walks = refl; ends_so = rw a refl })
from_open s next.Ticks None a e h = cc
from_open s next.Workers None a e h = cc
from_open s next.Split None a e h = cc

-- the number 1 is within every limit
one : (most : ℕ) → 1 ≤ most → most < 2 ^ 64 → number_of most (decimal 1) ≡ Some 1
one most low high = spells most 1 (decimal 1) (record { low = omega arith; high = low }) high refl

-- every state goes on to an end
from_state : (s : State) (n : Next) → s.next ≡ n → Onwards s
unfolding step
from_state s next.Any a = from_open s next.Any s.program a refl refl
from_state s next.Name a = from_open s next.Name s.program a refl refl
from_state s next.Ticks a =
    let u : State = record s { ticks = Some 1; next = next.Any } in
    one_step s u (decimal 1) (rw (a, one (2 ^ 48) (omega arith) (omega arith)) refl) (from_open u next.Any u.program refl refl refl)
from_state s next.Workers a =
    let u : State = record s { workers = Some 1; next = next.Any } in
    one_step s u (decimal 1) (rw (a, one 16 (omega arith) (omega arith)) refl) (from_open u next.Any u.program refl refl refl)
from_state s next.Split a =
    let u : State = record s { auto = true; next = next.Any } in
    one_step s u (codes "auto") (rw a refl) (from_open u next.Any u.program refl refl refl)

pub onwards : (s : State) → Onwards s
onwards s = from_state s s.next refl

-- ---- what a walk gives

-- a flag as a list
abbrev pub flag : {X : Type 0} → X → Bool → List X
flag x b = cond b (x ∷ []) []

-- between two states come these options and these names
pub record Gives (s t : State) (options : List Choice) (names : List (List ℕ)) : Type 0 where
  pub ticks : option_to_list t.ticks ≡ option_to_list s.ticks ++ filter_map ticks_of options
  pub workers : option_to_list t.workers ≡ option_to_list s.workers ++ filter_map workers_of options
  pub auto : flag true t.auto ≡ flag true s.auto ++ filter_map auto_of options
  pub text : flag Text t.text ≡ flag Text s.text ++ filter_map format_of options
  pub program : option_to_list t.program ≡ option_to_list s.program ++ names
