-- What follows a trace over bits, and compositions of two, in the whole language.
use Rattle.std.specs.Prelude.{ℕ, zero, suc, ◌+◌, ◌-◌, Bool, true, false, List, [], ◌∷◌, ◌≡◌, refl, nat_le, map, drop, length}
use Rattle.std.proofs.Common.{ap, ◌∙◌}
use Rattle.zir_meaning.specs.Store as wide_stores
use Rattle.zir_meaning.specs.Trace as wide
use Rattle.zir_meaning.specs.Composition as wide_joins
use Rattle.zir_bit_tree.specs.declared.value.Val.{Val}
use Rattle.zir_bit_tree.specs.declared.ends.End.{End}
use Rattle.zir_bit_tree.specs.declared.ends.End.TheVariants.{Value, Starved, Trap as Trapped, Spent}
use Rattle.zir_bit_meaning.specs.Store.{Store}
use Rattle.zir_bit_meaning.specs.Trace.{State, Point, point, Out, Trace, Next, ends, gives, after, then_end, then_do, tick_of, tick}
use Rattle.zir_bit_meaning.specs.Composition.{limit, point_at, over, lift, lift_out, at_point, joined_end, in_scope, waiting, joined_last, within, cut, compose, values}
use Rattle.zir_bits.specs.Wide.{wide_value}
use Rattle.zir_bits.specs.Traces.{wide_slot, wide_store, wide_state, wide_point, wide_out, wide_end, wide_trace}
use Rattle.zir_bits.proofs.Lists.{map-after, map-drop, map-length, merge-wide, narrowed-wide}

-- no output, and this end
pub ends-wide : (e : End) (s : State) (xs : List Val) → wide.ends (wide_end e) (wide_state s) (map wide_value xs) ≡ wide_trace (ends e s xs)
ends-wide (Value v) s xs = refl
ends-wide Starved s xs = refl
ends-wide (Trapped t) s xs = refl
ends-wide Spent s xs = refl

-- some outputs, and then a trace
after-wide : (os : List Out) (t : Trace) → wide.after (map wide_out os) (wide_trace t) ≡ wide_trace (after os t)
after-wide os t = ap (λ outs. record (wide_trace t) { outs = outs }) (map-after wide_out os t.outs)

-- an end, and what follows it
then_end-wide : (e : End) (os : List Out) (s : State) (xs : List Val) (next : Next) (wide_next : wide.Next) →
    ((v : Val) (s' : State) (ys : List Val) → wide_next (wide_value v) (wide_state s') (map wide_value ys) ≡ wide_trace (next v s' ys)) →
    wide.then_end (wide_end e) (map wide_out os) (wide_state s) (map wide_value xs) wide_next ≡ wide_trace (then_end e os s xs next)
then_end-wide (Value v) os s xs next wide_next same = ap (wide.after (map wide_out os)) (same v s xs) ∙ after-wide os (next v s xs)
then_end-wide Starved os s xs next wide_next same = refl
then_end-wide (Trapped t) os s xs next wide_next same = refl
then_end-wide Spent os s xs next wide_next same = refl

-- a trace, and what follows it
pub then-wide : (t : Trace) (next : Next) (wide_next : wide.Next) →
    ((v : Val) (s : State) (ys : List Val) → wide_next (wide_value v) (wide_state s) (map wide_value ys) ≡ wide_trace (next v s ys)) →
    wide.then_do (wide_trace t) wide_next ≡ wide_trace (then_do t next)
then-wide t next wide_next same = then_end-wide t.end t.outs t.last t.rest next wide_next same

-- one of these ticks, and what follows it
tick_of-wide : (n : ℕ) (s : State) (xs : List Val) (next : State → List Val → Trace) (wide_next : wide.State → List _ → wide.Trace) →
    ((s' : State) (ys : List Val) → wide_next (wide_state s') (map wide_value ys) ≡ wide_trace (next s' ys)) →
    wide.tick_of n (wide_state s) (map wide_value xs) wide_next ≡ wide_trace (tick_of n s xs next)
tick_of-wide zero s xs next wide_next same = refl
tick_of-wide (suc left) s xs next wide_next same = same (record s { ticks = s.ticks + 1; left = left }) xs

-- one tick, and what follows it
pub tick-wide : (s : State) (xs : List Val) (next : State → List Val → Trace) (wide_next : wide.State → List _ → wide.Trace) →
    ((s' : State) (ys : List Val) → wide_next (wide_state s') (map wide_value ys) ≡ wide_trace (next s' ys)) →
    wide.tick (wide_state s) (map wide_value xs) wide_next ≡ wide_trace (tick s xs next)
tick-wide s xs next wide_next same = tick_of-wide s.left s xs next wide_next same

-- the point of an output
point_at-wide : (p : Point) (os : List Out) (k : ℕ) → wide_joins.point_at (wide_point p) (map wide_out os) k ≡ wide_point (point_at p os k)
point_at-wide p os zero = refl
point_at-wide p [] (suc k) = refl
point_at-wide p (o ∷ os) (suc k) = point_at-wide o.at os k

-- a point of the right side, while the left side stands at another
over-wide : (left p : Point) → wide_joins.over [] (wide_point left) (wide_point p) ≡ wide_point (over [] left p)
over-wide left p = ap (λ store. record { taken = left.taken; ticks = left.ticks + p.ticks; store = store }) (merge-wide left.store p.store)

-- a lifted point
lift-wide : (base : Point) (os : List Out) (p : Point) →
    wide_joins.lift [] (wide_point base) (map wide_out os) (wide_point p) ≡ wide_point (lift [] base os p)
lift-wide base os p =
    ap (λ q. wide_joins.over [] q (wide_point p)) (point_at-wide base os p.taken) ∙ over-wide (point_at base os p.taken) p

-- lifted outputs
outs-wide : (base : Point) (os outs : List Out) →
    map (wide_joins.lift_out [] (wide_point base) (map wide_out os)) (map wide_out outs) ≡ map wide_out (map (lift_out [] base os) outs)
outs-wide base os [] = refl
outs-wide base os (o ∷ outs) =
    ap (λ at. record { value = wide_value o.value; at = at } ∷ map (wide_joins.lift_out [] (wide_point base) (map wide_out os)) (map wide_out outs))
    (lift-wide base os o.at)
    ∙ ap (λ more. wide_out (lift_out [] base os o) ∷ more) (outs-wide base os outs)

-- the end of a composition
joined_end-wide : (left right : End) → wide_joins.joined_end (wide_end left) (wide_end right) ≡ wide_end (joined_end left right)
joined_end-wide left (Value v) = refl
joined_end-wide left Starved = refl
joined_end-wide left (Trapped t) = refl
joined_end-wide left Spent = refl

-- what is in scope while its right side waits
in_scope-wide : (n : ℕ) (left : End) (store : Store) → wide_joins.in_scope n (wide_end left) (wide_store store) ≡ wide_store (in_scope n left store)
in_scope-wide n (Value v) store = narrowed-wide n store
in_scope-wide n Starved store = refl
in_scope-wide n (Trapped t) store = refl
in_scope-wide n Spent store = refl

-- the point where its right side waits
waiting-wide : (s : State) (left : End) (p : Point) →
    wide_joins.waiting (wide_stores.depth (wide_store s.store)) (wide_end left) (wide_point p) ≡ wide_point (waiting (length s.store) left p)
waiting-wide s left p =
    ap (λ n. wide_joins.waiting n (wide_end left) (wide_point p)) (map-length wide_slot s.store)
    ∙ ap (λ store. record { taken = p.taken; ticks = p.ticks; store = store }) (in_scope-wide (length s.store) left p.store)

-- where it stands
joined_last-wide : (e : End) (left lifted p : Point) →
    wide_joins.joined_last [] (wide_end e) (wide_point left) (wide_point lifted) (wide_point p) ≡ wide_point (joined_last [] e left lifted p)
joined_last-wide (Value v) left lifted p = refl
joined_last-wide Starved left lifted p = over-wide left p
joined_last-wide (Trapped t) left lifted p = refl
joined_last-wide Spent left lifted p = refl

-- what stands within the limit
within-wide : (b : Bool) (t : Trace) → wide_joins.within b (wide_trace t) ≡ wide_trace (within b t)
within-wide true t = refl
within-wide false t = refl

-- what stands before the first point past the limit
cut-wide : (s : State) (xs : List Val) (os : List Out) (e : End) (p : Point) →
    wide_joins.cut (wide_state s) (map wide_value xs) (map wide_out os) (wide_end e) (wide_point p) ≡ wide_trace (cut s xs os e p)
cut-wide s xs [] e p =
    let inside : Bool = nat_le p.ticks (limit s) in
    ap (λ ys. wide_joins.within inside (wide.ends (wide_end e) (wide_state (at_point s p)) ys)) (map-drop wide_value (p.taken - s.taken) xs)
    ∙ ap (wide_joins.within inside) (ends-wide e (at_point s p) (drop (p.taken - s.taken) xs))
    ∙ within-wide inside (ends e (at_point s p) (drop (p.taken - s.taken) xs))
cut-wide s xs (o ∷ os) e p =
    let inside : Bool = nat_le o.at.ticks (limit s) in
    ap (λ t. wide_joins.within inside (wide.gives (wide_out o) t)) (cut-wide s xs os e p) ∙ within-wide inside (gives o (cut s xs os e p))

-- a composition whose left side assigns nothing
pub compose-wide : (s : State) (xs : List Val) (left right : Trace) →
    wide_joins.compose [] (wide_state s) (map wide_value xs) (wide_trace left) (wide_trace right) ≡ wide_trace (compose [] s xs left right)
compose-wide s xs left right =
    let outs : List Out = map (lift_out [] (point s) left.outs) right.outs in
    let end : End = joined_end left.end right.end in
    let lifted : Point = lift [] (point s) left.outs (point right.last) in
    let waits : Point = waiting (length s.store) left.end (point right.last) in
    let last : Point = joined_last [] right.end (point left.last) lifted waits in
    let wide_lifted = wide_joins.lift [] (wide_point (point s)) (map wide_out left.outs) (wide_point (point right.last)) in
    let wide_waits = wide_joins.waiting (wide_stores.depth (wide_store s.store)) (wide_end left.end) (wide_point (point right.last)) in
    ap (λ os. wide_joins.cut (wide_state s) (map wide_value xs) os (wide_joins.joined_end (wide_end left.end) (wide_end right.end))
    (wide_joins.joined_last [] (wide_end right.end) (wide_point (point left.last)) wide_lifted wide_waits))
    (outs-wide (point s) left.outs right.outs)
    ∙ ap (λ e. wide_joins.cut (wide_state s) (map wide_value xs) (map wide_out outs) e
    (wide_joins.joined_last [] (wide_end right.end) (wide_point (point left.last)) wide_lifted wide_waits))
    (joined_end-wide left.end right.end)
    ∙ ap (λ q. wide_joins.cut (wide_state s) (map wide_value xs) (map wide_out outs) (wide_end end)
    (wide_joins.joined_last [] (wide_end right.end) (wide_point (point left.last)) q wide_waits))
    (lift-wide (point s) left.outs (point right.last))
    ∙ ap (λ q. wide_joins.cut (wide_state s) (map wide_value xs) (map wide_out outs) (wide_end end)
    (wide_joins.joined_last [] (wide_end right.end) (wide_point (point left.last)) (wide_point lifted) q))
    (waiting-wide s left.end (point right.last))
    ∙ ap (wide_joins.cut (wide_state s) (map wide_value xs) (map wide_out outs) (wide_end end))
    (joined_last-wide right.end (point left.last) lifted waits)
    ∙ cut-wide s xs outs end last

-- the values of outputs
pub values-wide : (os : List Out) → wide_joins.values (map wide_out os) ≡ map wide_value (values os)
values-wide [] = refl
values-wide (o ∷ os) = ap (λ vs. wide_value o.value ∷ vs) (values-wide os)
