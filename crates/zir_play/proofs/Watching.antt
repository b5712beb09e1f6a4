-- Stages that play a process perform it: what is watched of them is left out.
use Rattle.std.proofs.Common.{◌≡◌, ◌+◌, ℕ, zero, suc, Bool, true, false, List, subst, refl}
use Rattle.std.specs.Prelude.{nat_le}
use Rattle.zir_tree.specs.declared.types.Ty.{Ty}
use Rattle.zir_tree.specs.declared.comp.Comp.{Comp}
use Rattle.zir_tree.specs.declared.ends.End.{End}
use Rattle.zir_tree.specs.declared.ends.End.TheVariants.{Value, Starved, Trap as Trapped, Spent}
use Rattle.zir_meaning.specs.Trace.{State}
use Rattle.zir_cells.specs.Cells.{cells_of}
use Rattle.zir_laws.specs.Process.{Proc, Gives, Ends, Needs}
use Rattle.zir_expr.specs.Memory.{from_base}
use Rattle.zir_code.specs.Scopes.{Scope}
use Rattle.zir_code.specs.Holding.{At}
use Rattle.zir_flow.specs.declared.instruction.Instruction.{Instruction}
use Rattle.zir_flow.specs.declared.instruction.Joint.{Joint}
use Rattle.zir_flow.specs.Kinds.{Setting}
use Rattle.zir_flow.specs.Threads.{Thread, Move, Goes, Offers, Wants, Halts, Fails, Spends, Forks, move}
use Rattle.zir_flow.specs.Stages.{Stage, Alone, Joined, Room, Closed, Open, Turned, Going, Giving, Needing, Ended, Failed, Gone, turn, turned_by, turned_on, going_on, either_turned, within_limit, left_ended, right_ended, pulled, composed, seen, handed}
use Rattle.zir_flow.specs.Playing.{PlaysEnd, Plays}
use Rattle.zir_flow.specs.Laws.{watching}
use Rattle.zir_stage.specs.Standing.{given}
use Rattle.zir_play.specs.Performing.{PerformsEnd, Performs}
use Rattle.zir_play.specs.Laws.{interface_of}

-- a thread alone
abbrev pub IsAlone : Stage → Type 0
IsAlone (Alone th room) = Unit {0}
IsAlone (Joined th j left right taken ticks) = ⊥

-- not at the end
abbrev pub IsUnended : Turned → Type 0
IsUnended (Going s) = Unit {0}
IsUnended (Giving cells taken ticks s) = Unit {0}
IsUnended (Needing taken ticks s) = Unit {0}
IsUnended (Ended taken ticks s) = ⊥
IsUnended (Failed t taken ticks s) = Unit {0}
IsUnended Gone = Unit {0}

unended_if : (b : Bool) (t : Turned) → IsUnended t → IsUnended (either_turned b t Gone)
unended_if true t h = h
unended_if false t h = tt

unended_within : (th : Thread) (n : ℕ) (t : Turned) → IsUnended t → IsUnended (within_limit th n t)
unended_within th n t h = unended_if (nat_le n th.memory.limit) t h

unended_pull : (code : List Instruction) (th : Thread) (j : Joint) (right : Stage) (taken ticks own : ℕ) (t : Turned) → IsUnended (pulled code th j right taken ticks own t)
unended_pull code th j right taken ticks own (Going left) = tt
unended_pull code th j right taken ticks own (Giving cells t u left) = tt
unended_pull code th j right taken ticks own (Needing t u left) = unended_within th (u + own) (Needing t (u + own) (Joined th j left right taken ticks)) tt
unended_pull code th j right taken ticks own (Ended t u left) = unended_within th (u + own) (left_ended j th left right t (u + own)) tt
unended_pull code th j right taken ticks own (Failed trap t u left) = unended_within th (u + own) (Failed trap t (u + own) (Joined th j left right taken ticks)) tt
unended_pull code th j right taken ticks own Gone = tt

-- a composition is not the end
unended_composed : (code : List Instruction) (th : Thread) (j : Joint) (left : Stage) (taken ticks : ℕ) (leftward t : Turned) → IsUnended (composed code th j left taken ticks leftward t)
unended_composed code th j left taken ticks leftward (Going right) = tt
unended_composed code th j left taken ticks leftward (Giving cells t u right) = unended_within th (ticks + u) (Giving cells taken (ticks + u) (Joined th j left right taken ticks)) tt
unended_composed code th j left taken ticks leftward (Needing t u right) = unended_pull code th j right taken ticks u leftward
unended_composed code th j left taken ticks leftward (Ended t u right) = unended_within th (ticks + u) (right_ended j th left right taken (ticks + u)) tt
unended_composed code th j left taken ticks leftward (Failed trap t u right) = unended_within th (ticks + u) (Failed trap taken (ticks + u) (Joined th j left right taken ticks)) tt
unended_composed code th j left taken ticks leftward Gone = tt

alone_by : (m : Move) (room : Room) (taken ticks : ℕ) (last : Stage) → turned_by m room ≡ Ended taken ticks last → IsAlone last
alone_by (Goes th) room taken ticks last e = absurd (subst IsUnended e tt)
alone_by (Offers cells th) room taken ticks last e = absurd (subst IsUnended e tt)
alone_by (Wants th) room taken ticks last e = absurd (subst IsUnended e tt)
alone_by (Halts th) room taken ticks last e = let same : Alone th room ≡ last = cc in subst IsAlone same tt
alone_by (Fails t th) room taken ticks last e = absurd (subst IsUnended e tt)
alone_by Spends room taken ticks last e = absurd (subst IsUnended e tt)
alone_by (Forks j th) Closed taken ticks last e = absurd (subst IsUnended e tt)
alone_by (Forks j th) (Open m left right) taken ticks last e = absurd (subst IsUnended e tt)

alone_turn : (code : List Instruction) (s : Stage) (taken ticks : ℕ) (last : Stage) → turn code s ≡ Ended taken ticks last → IsAlone last
alone_turn code (Alone th room) taken ticks last e = alone_by (move code th) room taken ticks last e
alone_turn code (Joined th j left right t u) taken ticks last e = absurd (subst IsUnended e (unended_composed code th j left t u (turn code left) (turn code right)))

alone_next : (t : Turned) (n : ℕ) (code : List Instruction) (taken ticks : ℕ) (last : Stage) → going_on (turned_on n code) t ≡ Ended taken ticks last →
    ((s : Stage) → turned_on n code s ≡ Ended taken ticks last → IsAlone last) → (t ≡ Ended taken ticks last → IsAlone last) → IsAlone last
alone_next (Going s) n code taken ticks last e on at = on s e
alone_next (Giving cells t u s) n code taken ticks last e on at = at e
alone_next (Needing t u s) n code taken ticks last e on at = at e
alone_next (Ended t u s) n code taken ticks last e on at = at e
alone_next (Failed trap t u s) n code taken ticks last e on at = at e
alone_next Gone n code taken ticks last e on at = at e

-- at its end a stage is a thread alone
alone_at_end : (n : ℕ) (code : List Instruction) (s : Stage) (taken ticks : ℕ) (last : Stage) → turned_on n code s ≡ Ended taken ticks last → IsAlone last
alone_at_end zero code s taken ticks last e = absurd (subst IsUnended e tt)
alone_at_end (suc n) code s taken ticks last e =
    alone_next (turn code s) n code taken ticks last e (λ s'. alone_at_end n code s' taken ticks last) (alone_turn code s taken ticks last)

-- outputs stand where what is seen does
given_alone : (s : Stage) → IsAlone s → seen s ≡ given s
given_alone (Alone th room) h = refl
given_alone (Joined th j left right taken ticks) h = absurd h

module _ (top base d size : ℕ) (st : Setting) (g : Scope) (input out : Ty) (c : Comp) (code : List Instruction) where
  performs_end : (e : End) (s : State) (at : Stage) → PlaysEnd (watching top base d size st g input out c) code e s at → PerformsEnd (interface_of base d st g input c) code e s at
  performs_end (Value v) s at h =
      let same = given_alone h.last (alone_at_end h.comes.turns code at h.taken h.ticks h.last h.comes.is) in
      record {
        taken = h.taken;
        ticks = h.ticks;
        last = h.last;
        comes = h.comes;
        at = h.at;
        stands = record {
          is = h.value.is;
          has = h.value.has;
          shape = h.value.shape;
          cells = subst (λ m. At m.cells (from_base base d) (cells_of v)) same h.value.cells;
        };
      }
  performs_end Starved s at h = absurd h
  performs_end (Trapped t) s at h = h
  performs_end Spent s at h = h

  -- a stage that plays a process performs it
  pub performs_it : (p : Proc) (s : Stage) → Plays (watching top base d size st g input out c) code p s → Performs (interface_of base d st g input c) code p s
  performs_it (Gives o p) s h = (h.0, record { taken = h.1.taken; ticks = h.1.ticks; comes = h.1.comes; at = h.1.at }, performs_it p h.0 h.2)
  performs_it (Ends e t) s h = performs_end e t s h
  performs_it (Needs t f) s h =
      (h.0, record { taken = h.1.taken; ticks = h.1.ticks; comes = h.1.comes; at = h.1.at }, λ x shaped. performs_it (f x) (handed code (cells_of x) h.0) (h.2 x shaped))
