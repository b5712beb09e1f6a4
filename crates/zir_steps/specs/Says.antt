-- What an answer says of a history, when calls may come, and how an end is told.
use Rattle.std.specs.Prelude.{ℕ, ◌≡◌, ◌<◌, List, ◌∷◌, ◌++◌, Option, Some, None, Bool, true, false}
use Rattle.zir_bit_tree.specs.declared.value.Val.{Val}
use Rattle.zir_bit_tree.specs.declared.ends.End.{End}
use Rattle.zir_bit_tree.specs.declared.ends.End.TheVariants.{Value, Starved, Trap as Trapped, Spent}
use Rattle.zir_tree.specs.declared.ends.EndMark.{EndMark}
use Rattle.zir_tree.specs.declared.ends.EndMark.TheVariants.{Value as ValueMark, Starved as StarvedMark, Trap as TrapMark, Spent as SpentMark}
use Rattle.zir_tree.specs.declared.ends.Stamp.{Stamp}
use Rattle.zir_bit_meaning.specs.Trace.{State, Out}
use Rattle.zir_steps.specs.History.{History, trace_of}
use Rattle.zir_steps.specs.declared.answer.Answer.{Answer}
use Rattle.zir_steps.specs.declared.answer.Answer.TheVariants.{Yield, Skip, Done, Need, Stopped}

-- a trap, or a budget that is spent
abbrev pub IsStop : End → Type 0
IsStop (Value v) = ⊥
IsStop Starved = ⊥
IsStop (Trapped t) = Unit {0}
IsStop Spent = Unit {0}

-- all outputs of the trace were given
abbrev pub AllGiven : History → Type 0
AllGiven h = (trace_of h).outs ≡ h.given

-- what an answer says: at Yield the trace has a next output, and where it says how the trace ends all its outputs were given
abbrev pub Says : Answer → History → Type 0
Says Yield h = (o : Out) × (more : List Out) × ((trace_of h).outs ≡ h.given ++ o ∷ more)
Says Skip h = Unit {0}
Says Done h = (v : Val) × ((trace_of h).end ≡ Value v) × AllGiven h
Says Need h = ((trace_of h).end ≡ Starved) × AllGiven h
Says Stopped h = IsStop (trace_of h).end × AllGiven h

-- no output waits, and the component has not ended
abbrev pub may_tick : Option Answer → Bool
may_tick None = true
may_tick (Some Yield) = false
may_tick (Some Skip) = true
may_tick (Some Done) = false
may_tick (Some Need) = true
may_tick (Some Stopped) = false

-- a tick may come
abbrev pub MayTick : Option Answer → Type 0
MayTick last = may_tick last ≡ true

-- the last answer told an end
abbrev pub tells_end : Option Answer → Bool
tells_end None = false
tells_end (Some Yield) = false
tells_end (Some Skip) = false
tells_end (Some Done) = true
tells_end (Some Need) = true
tells_end (Some Stopped) = true

-- work was done where the answer says so
abbrev pub Works : Answer → ℕ → ℕ → Type 0
Works Yield own own' = Unit {0}
Works Skip own own' = own < own'
Works Done own own' = Unit {0}
Works Need own own' = Unit {0}
Works Stopped own own' = Unit {0}

-- the mark of an end
abbrev pub mark_of : End → EndMark
mark_of (Value v) = ValueMark
mark_of Starved = StarvedMark
mark_of (Trapped t) = TrapMark t
mark_of Spent = SpentMark

-- the stamp of an end: that of its point, and the given one for a spent end, which has no place
abbrev pub end_stamp : End → State → Stamp → Stamp
end_stamp (Value v) s last = record { taken = s.taken; ticks = s.ticks }
end_stamp Starved s last = record { taken = s.taken; ticks = s.ticks }
end_stamp (Trapped t) s last = record { taken = s.taken; ticks = s.ticks }
end_stamp Spent s last = last

-- the end of the trace with its stamp
abbrev pub end_of : History → Stamp → EndMark × Stamp
end_of h last = (mark_of (trace_of h).end, end_stamp (trace_of h).end (trace_of h).last last)
