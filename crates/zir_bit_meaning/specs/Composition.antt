-- Composition: the trace of a right side over the outputs of a left side, as one trace over the left side's input.
use Rattle.std.specs.Prelude.{ℕ, zero, suc, ◌+◌, ◌-◌, Bool, true, false, List, [], ◌∷◌, nat_le, map, take, drop, length}
use Rattle.zir_bit_tree.specs.declared.value.Val.{Val}
use Rattle.zir_bit_tree.specs.declared.ends.End.{End}
use Rattle.zir_bit_tree.specs.declared.ends.End.TheVariants.{Value, Starved, Trap as Trapped, Spent}
use Rattle.zir_bit_meaning.specs.Store.{Store, merge}
use Rattle.zir_bit_meaning.specs.Trace.{State, Point, point, Out, Trace, spent, ends, gives}

-- all ticks of a state, used and left
abbrev pub limit : State → ℕ
limit s = s.ticks + s.left

-- the point of the k-th of these outputs, and the given one for none
abbrev pub point_at : Point → List Out → ℕ → Point
point_at p os zero = p
point_at p [] (suc k) = p
point_at p (o ∷ os) (suc k) = point_at o.at os k

-- the right side's point p while the left side, which assigns these variables, stands at the left point
abbrev pub over : List ℕ → Point → Point → Point
over ids left p = record { taken = left.taken; ticks = left.ticks + p.ticks; store = merge ids left.store p.store }

-- lifted: the elements that the right side had taken are the left side's outputs so far
abbrev pub lift : List ℕ → Point → List Out → Point → Point
lift ids base os p = over ids (point_at base os p.taken) p

abbrev pub lift_out : List ℕ → Point → List Out → Out → Out
lift_out ids base os o = record { value = o.value; at = lift ids base os o.at }

-- the state at a point of a run that began at s
abbrev pub at_point : State → Point → State
at_point s p = record { taken = p.taken; ticks = p.ticks; left = limit s - p.ticks; store = p.store }

-- the right side's end, and where that starves the left side's
abbrev pub joined_end : End → End → End
joined_end left (Value v) = Value v
joined_end left Starved = left
joined_end left (Trapped t) = Trapped t
joined_end left Spent = Spent

-- what the right side has in scope while it waits, so many names since before the composition: where the left side ended with a value all others leave
abbrev pub in_scope : ℕ → End → Store → Store
in_scope n (Value v) store = take n store
in_scope n Starved store = store
in_scope n (Trapped t) store = store
in_scope n Spent store = store

-- the point where the right side waits, with what is then in scope
abbrev pub waiting : ℕ → End → Point → Point
waiting n left p = record p { store = in_scope n left p.store }

-- where it stands: at the right side's lifted end, or where the left side ended
abbrev pub joined_last : List ℕ → End → Point → Point → Point → Point
joined_last ids (Value v) left lifted p = lifted
joined_last ids Starved left lifted p = over ids left p
joined_last ids (Trapped t) left lifted p = lifted
joined_last ids Spent left lifted p = lifted

-- what stands within the limit of ticks
abbrev pub within : Bool → Trace → Trace
within true t = t
within false t = spent

-- from the first point past the limit on the budget is spent
abbrev pub cut : State → List Val → List Out → End → Point → Trace
cut s xs [] e p = within (nat_le p.ticks (limit s)) (ends e (at_point s p) (drop (p.taken - s.taken) xs))
cut s xs (o ∷ os) e p = within (nat_le o.at.ticks (limit s)) (gives o (cut s xs os e p))

-- the right side's trace over the outputs, the end and the last state of the left side
abbrev pub joined : List ℕ → State → List Val → List Out → End → State → Trace → Trace
joined ids s xs outs end last right =
    cut s xs (map (lift_out ids (point s) outs) right.outs) (joined_end end right.end)
    (joined_last ids right.end (point last) (lift ids (point s) outs (point right.last)) (waiting (length s.store) end (point right.last)))

-- the composition of a left trace, from s over xs, that assigns these variables, with a right trace over its outputs
abbrev pub compose : List ℕ → State → List Val → Trace → Trace → Trace
compose ids s xs left right = joined ids s xs left.outs left.end left.last right

-- where a right side begins: no element taken, no tick used, and the whole budget still left
abbrev pub fresh : State → State
fresh s = record { taken = 0; ticks = 0; left = s.left; store = s.store }

-- the values of outputs
abbrev pub values : List Out → List Val
values os = map (λ o. o.value) os
