-- Components that emit bits alone do so and never trap.
use Rattle.std.specs.Prelude.{ℕ, zero, suc, ◌+◌, ◌-◌, List, [], ◌∷◌, ◌++◌, ◌≡◌, ◌⊎◌, refl, Bool, true, false, if◌then◌else◌, nat_eq, nat_le, map, take, drop, length, Some, None}
use Rattle.std.proofs.Common.{ap, ◌∙◌, sym, subst, inl, inr, eq-eqb}
use Rattle.zir_tree.specs.declared.ident.Ident.{Ident}
use Rattle.zir_bit_tree.specs.declared.value.Val.{Val}
use Rattle.zir_bit_tree.specs.declared.value.Val.TheVariants.{Unit as UnitVal, Bit as BitVal}
use Rattle.zir_bit_tree.specs.declared.value.Slot.{Slot}
use Rattle.zir_bit_tree.specs.declared.ends.End.{End}
use Rattle.zir_bit_tree.specs.declared.ends.End.TheVariants.{Value, Starved, Trap as Trapped, Spent}
use Rattle.zir_bit_tree.specs.declared.tree.Expr.{Expr, Unit as UnitValue, Bit, Variable, Xor', end_of-Expr, more_of-Expr}
use Rattle.zir_bit_tree.specs.declared.tree.Comp.{Comp, Take, Emit, Return, Block', Repeat', Pipe', end_of-Comp, more_of-Comp, Row_of-Member, end_of-Member, more_of-Member}
use Rattle.zir_bit_meaning.specs.Store.{Store, look_up, merge}
use Rattle.zir_bit_meaning.specs.Trace.{State, Point, point, Out, Trace, Next, spent, ends, gives, then_end, then_do, tick_of, tick}
use Rattle.zir_bit_meaning.specs.Evaluation.{Got, xor_of, then_eval, ev, with_value}
use Rattle.zir_bit_meaning.specs.Composition.{limit, point_at, over, lift, lift_out, at_point, joined_end, in_scope, waiting, joined_last, within, cut, compose, fresh, values}
use Rattle.zir_bit_meaning.specs.Component.{take_of, turns, bind, tr, members}
use Rattle.zir_bits.specs.Bits.{InScope, OfBits, IsTake, IsPlainMember, AreMembers, EmitsBits}
use Rattle.zir_bits.proofs.Assigned.{bits-none}

-- the value is a bit
abbrev pub IsBit : Val → Type 0
IsBit UnitVal = ⊥
IsBit (BitVal b) = Unit {0}

-- each of these values is a bit
abbrev pub EachBit : List Val → Type 0
EachBit [] = Unit {0}
EachBit (v ∷ vs) = IsBit v × EachBit vs

-- each name has a bit
abbrev EachSlot : Store → Type 0
EachSlot [] = Unit {0}
EachSlot (slot ∷ store) = IsBit slot.value × EachSlot store

-- each output is a bit
abbrev pub EachOut : List Out → Type 0
EachOut [] = Unit {0}
EachOut (o ∷ os) = IsBit o.value × EachOut os

-- a name of this number has a value
abbrev present : Store → ℕ → Bool
present [] id = false
present (slot ∷ store) id = if nat_eq slot.id id then true else present store id

-- each of these names has a value
abbrev Covers : List Ident → Store → Type 0
Covers scope store = (id : ℕ) → InScope scope id → present store id ≡ true

-- no trap; a value is as it should be, and each name has a bit
abbrev pub IsSoundEnd : (Val → State → Type 0) → End → State → Type 0
IsSoundEnd P (Value v) s = P v s × EachSlot s.store
IsSoundEnd P Starved s = EachSlot s.store
IsSoundEnd P (Trapped t) s = ⊥
IsSoundEnd P Spent s = Unit {0}

-- a trace of bits without a trap
pub record Sound (P : Val → State → Type 0) (t : Trace) : Type 0 where
  pub outs : EachOut t.outs
  pub end : IsSoundEnd P t.end t.last
  pub rest : EachBit t.rest

-- whatever the value is
abbrev pub Any : Val → State → Type 0
Any v s = Unit {0}

-- the value of a name that is the first or among the others
chosen-bit : (b : Bool) (v w : Val) (others : Bool) → IsBit v → (others ≡ true → IsBit w) → (if b then true else others) ≡ true → IsBit (if b then v else w)
chosen-bit true v w others here there e = here
chosen-bit false v w others here there e = there e

-- the value of a name is a bit
look_up-bit : (store : Store) (id : ℕ) → EachSlot store → present store id ≡ true → IsBit (look_up store id)
look_up-bit [] id each e = cc
look_up-bit (slot ∷ store) id each e =
    chosen-bit (nat_eq slot.id id) slot.value (look_up store id) (present store id) each.0 (λ h. look_up-bit store id each.1 h) e

-- a test that holds holds beside a weaker one
weaker : (b some more : Bool) → (some ≡ true → more ≡ true) → (if b then true else some) ≡ true → (if b then true else more) ≡ true
weaker true some more f e = refl
weaker false some more f e = f e

-- a name stays in scope
present-more : (store more : Store) (id : ℕ) → present store id ≡ true → present (store ++ more) id ≡ true
present-more [] more id e = cc
present-more (slot ∷ store) more id e = weaker (nat_eq slot.id id) (present store id) (present (store ++ more) id) (present-more store more id) e

-- a test that holds, or another
either-test : (b other : Bool) → other ≡ true → (if b then true else other) ≡ true
either-test true other e = refl
either-test false other e = e

-- the last name is in scope
present-last : (store : Store) (slot : Slot) → present (store ++ slot ∷ []) slot.id ≡ true
present-last [] slot = ap (λ b. if b then true else false) (eq-eqb slot.id slot.id refl)
present-last (first ∷ store) slot = either-test (nat_eq first.id slot.id) (present (store ++ slot ∷ []) slot.id) (present-last store slot)

-- the names of a longer scope
scope-more : (scope : List Ident) (x : Ident) (id : ℕ) → InScope (scope ++ x ∷ []) id → InScope scope id ⊎ (x.id ≡ id)
scope-more [] x id (inl e) = inr e
scope-more [] x id (inr h) = elim h [ ]
scope-more (y ∷ scope) x id (inl e) = inl (inl e)
scope-more (y ∷ scope) x id (inr h) = elim (scope-more scope x id h) [ inl k ↦ inl (inr k) | inr e ↦ inr e ]

-- and they have values where the last name has one
covers-more : (scope : List Ident) (x : Ident) (v : Val) (store : Store) → Covers scope store →
    Covers (scope ++ x ∷ []) (store ++ record { id = x.id; value = v } ∷ [])
covers-more scope x v store covers id h =
    let slot : Slot = record { id = x.id; value = v } in
    elim (scope-more scope x id h) [
      | inl k ↦ present-more store (slot ∷ []) id (covers id k)
      | inr e ↦ subst (λ n. present (store ++ slot ∷ []) n ≡ true) e (present-last store slot)
    ]

-- names after one another
slots-after : (a b : Store) → EachSlot a → EachSlot b → EachSlot (a ++ b)
slots-after [] b f g = g
slots-after (slot ∷ a) b f g = (f.0, slots-after a b f.1 g)

-- the first names
slots-take : (n : ℕ) (store : Store) → EachSlot store → EachSlot (take n store)
slots-take zero store f = tt
slots-take (suc n) [] f = tt
slots-take (suc n) (slot ∷ store) f = (f.0, slots-take n store f.1)

-- names merged where nothing was assigned
slots-merge : (left right : Store) → EachSlot right → EachSlot (merge [] left right)
slots-merge left [] f = tt
slots-merge left (slot ∷ right) f = (f.0, slots-merge left right f.1)

-- outputs after one another
outs-after : (a b : List Out) → EachOut a → EachOut b → EachOut (a ++ b)
outs-after [] b f g = g
outs-after (o ∷ a) b f g = (f.0, outs-after a b f.1 g)

-- lifted outputs
outs-lifted : (base : Point) (os outs : List Out) → EachOut outs → EachOut (map (lift_out [] base os) outs)
outs-lifted base os [] f = tt
outs-lifted base os (o ∷ outs) f = (f.0, outs-lifted base os outs f.1)

-- the values of outputs
pub values-bits : (os : List Out) → EachOut os → EachBit (values os)
values-bits [] f = tt
values-bits (o ∷ os) f = (f.0, values-bits os f.1)

-- values behind the first ones
bits-drop : (n : ℕ) (xs : List Val) → EachBit xs → EachBit (drop n xs)
bits-drop zero xs f = f
bits-drop (suc n) [] f = tt
bits-drop (suc n) (x ∷ xs) f = bits-drop n xs f.1

-- a spent trace
spent-sound : (P : Val → State → Type 0) → Sound P spent
spent-sound P = record { outs = tt; end = tt; rest = tt }

-- an end
ends-sound : (P : Val → State → Type 0) (e : End) (s : State) (xs : List Val) → IsSoundEnd P e s → EachBit xs → Sound P (ends e s xs)
ends-sound P (Value v) s xs h f = record { outs = tt; end = h; rest = f }
ends-sound P Starved s xs h f = record { outs = tt; end = h; rest = f }
ends-sound P (Trapped t) s xs h f = absurd h
ends-sound P Spent s xs h f = spent-sound P

-- an output, and then a trace
gives-sound : (P : Val → State → Type 0) (o : Out) (t : Trace) → IsBit o.value → Sound P t → Sound P (gives o t)
gives-sound P o t h f = record { outs = (h, f.outs); end = f.end; rest = f.rest }

-- an end, and what follows it
then_end-sound : (P Q : Val → State → Type 0) (e : End) (os : List Out) (s : State) (xs : List Val) (next : Next) → EachOut os → IsSoundEnd P e s →
    EachBit xs →
    ((v : Val) (s' : State) (ys : List Val) → P v s' → EachSlot s'.store → EachBit ys → Sound Q (next v s' ys)) → Sound Q (then_end e os s xs next)
then_end-sound P Q (Value v) os s xs next outs h f follows =
    let after : Sound Q (next v s xs) = follows v s xs h.0 h.1 f in
    record { outs = outs-after os (next v s xs).outs outs after.outs; end = after.end; rest = after.rest }
then_end-sound P Q Starved os s xs next outs h f follows = record { outs = outs; end = h; rest = f }
then_end-sound P Q (Trapped t) os s xs next outs h f follows = absurd h
then_end-sound P Q Spent os s xs next outs h f follows = record { outs = outs; end = tt; rest = f }

-- a trace, and what follows it
then-sound : (P Q : Val → State → Type 0) (t : Trace) (next : Next) → Sound P t →
    ((v : Val) (s : State) (ys : List Val) → P v s → EachSlot s.store → EachBit ys → Sound Q (next v s ys)) → Sound Q (then_do t next)
then-sound P Q t next h follows = then_end-sound P Q t.end t.outs t.last t.rest next h.outs h.end h.rest follows

-- a tick, and what follows it
tick_of-sound : (P : Val → State → Type 0) (n : ℕ) (s : State) (xs : List Val) (next : State → List Val → Trace) →
    ((ticks left : ℕ) → Sound P (next (record s { ticks = ticks; left = left }) xs)) → Sound P (tick_of n s xs next)
tick_of-sound P zero s xs next follows = spent-sound P
tick_of-sound P (suc left) s xs next follows = follows (s.ticks + 1) left

-- one element is a bit
take-sound : (scope : List Ident) (s : State) (xs : List Val) → EachSlot s.store → Covers scope s.store → EachBit xs →
    Sound (λ v s'. IsBit v × Covers scope s'.store) (take_of s xs)
take-sound scope s [] each covers f = record { outs = tt; end = each; rest = tt }
take-sound scope s (x ∷ xs) each covers f =
    tick_of-sound (λ v s'. IsBit v × Covers scope s'.store) s.left s xs (λ s' ys. ends (Value x) (record s' { taken = s'.taken + 1 }) ys)
    (λ ticks left. record { outs = tt; end = ((f.0, covers), each); rest = f.1 })

-- the exclusive or of two bits is one
xor-bit : (v w : Val) → IsBit v → IsBit w → IsBit (xor_of v w)
xor-bit UnitVal w f g = f
xor-bit (BitVal a) w f g = tt

-- an expression has a value, and leaves the state as it is
pub record Has (scope : List Ident) (e : Expr) (s : State) : Type 0 where
  pub value : Val
  pub is : ev e s ≡ Got value s
  pub bit : OfBits scope e → IsBit value

expr-has : (scope : List Ident) (e : Expr) (s : State) → EachSlot s.store → Covers scope s.store → Has scope e s
expr-has scope (UnitValue p) s each covers = record { value = UnitVal; is = refl; bit = λ h. h }
expr-has scope (Bit b p) s each covers = record { value = BitVal b; is = refl; bit = λ h. tt }
expr-has scope (Variable name) s each covers = record {
  value = look_up s.store name.id;
  is = refl;
  bit = λ h. look_up-bit s.store name.id each (covers name.id h);
}
expr-has scope (Xor' _ (more_of-Expr a end_of-Expr) _ (more_of-Expr b end_of-Expr) p) s each covers =
    let left : Has scope a s = expr-has scope a s each covers in
    let right : Has scope b s = expr-has scope b s each covers in
    record {
      value = xor_of left.value right.value;
      is = ap (λ e. then_eval e (λ v s'. then_eval (ev b s') (λ w s''. Got (xor_of v w) s''))) left.is
          ∙ ap (λ e. then_eval e (λ w s''. Got (xor_of left.value w) s'')) right.is;
      bit = λ h. xor-bit left.value right.value (left.bit h.0) (right.bit h.1);
    }

-- an expression as output
emit-sound : (scope : List Ident) (e : Expr) (s : State) (xs : List Val) → OfBits scope e → EachSlot s.store → Covers scope s.store → EachBit xs →
    Sound (λ v s'. Covers scope s'.store)
    (with_value (ev e s) xs (λ v s' ys. tick s' ys (λ s'' zs. gives (record { value = v; at = point s'' }) (ends (Value UnitVal) s'' zs))))
emit-sound scope e s xs bits each covers f =
    let has : Has scope e s = expr-has scope e s each covers in
    let next : Next = λ v s' ys. tick s' ys (λ s'' zs. gives (record { value = v; at = point s'' }) (ends (Value UnitVal) s'' zs)) in
    subst (λ r. Sound (λ v s'. Covers scope s'.store) (with_value r xs next)) (sym has.is)
    (tick_of-sound (λ v s'. Covers scope s'.store) s.left s xs (λ s'' zs. gives (record { value = has.value; at = point s'' }) (ends (Value UnitVal) s'' zs))
    (λ ticks left. record { outs = (has.bit bits, tt); end = (covers, each); rest = f }))

-- an expression as value
return-sound : (scope : List Ident) (e : Expr) (s : State) (xs : List Val) → EachSlot s.store → Covers scope s.store → EachBit xs →
    Sound (λ v s'. Covers scope s'.store) (with_value (ev e s) xs (λ v s' ys. tick s' ys (λ s'' zs. ends (Value v) s'' zs)))
return-sound scope e s xs each covers f =
    let has : Has scope e s = expr-has scope e s each covers in
    let next : Next = λ v s' ys. tick s' ys (λ s'' zs. ends (Value v) s'' zs) in
    subst (λ r. Sound (λ v s'. Covers scope s'.store) (with_value r xs next)) (sym has.is)
    (tick_of-sound (λ v s'. Covers scope s'.store) s.left s xs (λ s'' zs. ends (Value has.value) s'' zs)
    (λ ticks left. record { outs = tt; end = (covers, each); rest = f }))

-- a trace whose value is of no matter
any-end : (P : Val → State → Type 0) (e : End) (s : State) → IsSoundEnd P e s → IsSoundEnd Any e s
any-end P (Value v) s h = (tt, h.1)
any-end P Starved s h = h
any-end P (Trapped t) s h = h
any-end P Spent s h = tt

any-sound : (P : Val → State → Type 0) (t : Trace) → Sound P t → Sound Any t
any-sound P t h = record { outs = h.outs; end = any-end P t.end t.last h.end; rest = h.rest }

-- a value of a state is one of a state in which the same names are in scope
kept-end : (P Q : Val → State → Type 0) → ((v : Val) (s : State) → P v s → Q v s) → (e : End) (s : State) → IsSoundEnd P e s → IsSoundEnd Q e s
kept-end P Q f (Value v) s h = (f v s h.0, h.1)
kept-end P Q f Starved s h = h
kept-end P Q f (Trapped t) s h = h
kept-end P Q f Spent s h = tt

-- a member without a name
plain-sound : (scope : List Ident) (c : Comp) (s : State) (xs : List Val) → IsPlainMember scope c → EachSlot s.store → Covers scope s.store → EachBit xs →
    Sound (λ v s'. Covers scope s'.store) (tr c s xs)
plain-sound scope (Take p) s xs h each covers f =
    let t : Sound (λ v s'. IsBit v × Covers scope s'.store) (take_of s xs) = take-sound scope s xs each covers f in
    record {
      outs = t.outs;
      end = kept-end (λ v s'. IsBit v × Covers scope s'.store) (λ v s'. Covers scope s'.store) (λ v s' k. k.1)
          (take_of s xs).end (take_of s xs).last t.end;
      rest = t.rest;
    }
plain-sound scope (Emit e p) s xs h each covers f = emit-sound scope e s xs h each covers f
plain-sound scope (Return e p) s xs h each covers f = return-sound scope e s xs each covers f
plain-sound scope (Block' _ ms p) s xs h each covers f = absurd h
plain-sound scope (Repeat' _ c p) s xs h each covers f = absurd h
plain-sound scope (Pipe' _ a _ b p) s xs h each covers f = absurd h

-- a member with a name
bound-sound : (scope : List Ident) (c : Comp) (s : State) (xs : List Val) → IsTake c → EachSlot s.store → Covers scope s.store → EachBit xs →
    Sound (λ v s'. IsBit v × Covers scope s'.store) (tr c s xs)
bound-sound scope (Take p) s xs h each covers f = take-sound scope s xs each covers f
bound-sound scope (Emit e p) s xs h each covers f = absurd h
bound-sound scope (Return e p) s xs h each covers f = absurd h
bound-sound scope (Block' _ ms p) s xs h each covers f = absurd h
bound-sound scope (Repeat' _ c p) s xs h each covers f = absurd h
bound-sound scope (Pipe' _ a _ b p) s xs h each covers f = absurd h

-- the members of a block
members-sound : {m : _} (ms : Row_of-Member m) (scope : List Ident) (n : ℕ) (v : Val) (s : State) (xs : List Val) → AreMembers scope ms →
    EachSlot s.store → Covers scope s.store → EachBit xs → Sound Any (members ms n v s xs)
members-sound end_of-Member scope n v s xs h each covers f = record { outs = tt; end = (tt, slots-take n s.store each); rest = f }
members-sound (more_of-Member None c ms) scope n v s xs h each covers f =
    then-sound (λ v s'. Covers scope s'.store) Any (tr c s xs) (λ w s' ys. members ms n w s' ys) (plain-sound scope c s xs h.0 each covers f)
    (λ w s' ys now slots bits. members-sound ms scope n w s' ys h.1 slots now bits)
members-sound (more_of-Member (Some x) c ms) scope n v s xs h each covers f =
    then-sound (λ v s'. IsBit v × Covers scope s'.store) Any (tr c s xs) (λ w s' ys. members ms n w (bind (Some x) w s') ys)
    (bound-sound scope c s xs h.0 each covers f)
    (λ w s' ys now slots bits. members-sound ms (scope ++ x ∷ []) n w (bind (Some x) w s') ys h.1
    (slots-after s'.store (record { id = x.id; value = w } ∷ []) slots (now.0, tt)) (covers-more scope x w s'.store now.1) bits)

-- what a component does with bits
abbrev IsSoundDoes : (State → List Val → Trace) → Type 0
IsSoundDoes does = (s : State) (xs : List Val) → EachSlot s.store → EachBit xs → Sound Any (does s xs)

-- turns of a body
turns-sound : (n : ℕ) (body : State → List Val → Trace) → IsSoundDoes body → IsSoundDoes (turns n body)
turns-sound zero body h s xs each f = spent-sound Any
turns-sound (suc more) body h s xs each f =
    tick_of-sound Any s.left s xs (λ s' ys. then_do (body s' ys) (λ v s'' zs. turns more body s'' zs))
    (λ ticks left. then-sound Any Any (body (record s { ticks = ticks; left = left }) xs) (λ v s'' zs. turns more body s'' zs)
    (h (record s { ticks = ticks; left = left }) xs each f) (λ v s'' zs any slots bits. turns-sound more body h s'' zs slots bits))

-- what stands within the limit
within-sound : (b : Bool) (t : Trace) → Sound Any t → Sound Any (within b t)
within-sound true t h = h
within-sound false t h = spent-sound Any

-- what stands before the first point past the limit
cut-sound : (s : State) (xs : List Val) (os : List Out) (e : End) (p : Point) → EachOut os → IsSoundEnd Any e (at_point s p) → EachBit xs →
    Sound Any (cut s xs os e p)
cut-sound s xs [] e p outs h f =
    let rest : List Val = drop (p.taken - s.taken) xs in
    within-sound (nat_le p.ticks (limit s)) (ends e (at_point s p) rest) (ends-sound Any e (at_point s p) rest h (bits-drop (p.taken - s.taken) xs f))
cut-sound s xs (o ∷ os) e p outs h f =
    within-sound (nat_le o.at.ticks (limit s)) (gives o (cut s xs os e p)) (gives-sound Any o (cut s xs os e p) outs.0 (cut-sound s xs os e p outs.1 h f))

-- an end at another place where each name has a bit
moved-end : (e : End) (s s' : State) → IsSoundEnd Any e s → EachSlot s'.store → IsSoundEnd Any e s'
moved-end (Value v) s s' h each = (tt, each)
moved-end Starved s s' h each = each
moved-end (Trapped t) s s' h each = h
moved-end Spent s s' h each = tt

-- what is in scope while the right side of a composition waits
slots-in_scope : (n : ℕ) (left : End) (store : Store) → EachSlot store → EachSlot (in_scope n left store)
slots-in_scope n (Value v) store f = slots-take n store f
slots-in_scope n Starved store f = f
slots-in_scope n (Trapped t) store f = f
slots-in_scope n Spent store f = f

-- the end of a composition
joined-sound : (n : ℕ) (s s1 s2 : State) (left right : End) (lifted_from : Point) → IsSoundEnd Any left s1 → IsSoundEnd Any right s2 →
    IsSoundEnd Any (joined_end left right) (at_point s (joined_last [] right (point s1) (over [] lifted_from (point s2)) (waiting n left (point s2))))
joined-sound n s s1 s2 left (Value v) lifted_from h k = (tt, slots-merge lifted_from.store s2.store k.1)
joined-sound n s s1 s2 left Starved lifted_from h k =
    moved-end left s1 (at_point s (over [] (point s1) (waiting n left (point s2)))) h
    (slots-merge s1.store (in_scope n left s2.store) (slots-in_scope n left s2.store k))
joined-sound n s s1 s2 left (Trapped t) lifted_from h k = k
joined-sound n s s1 s2 left Spent lifted_from h k = tt

-- a composition whose left side assigns nothing
compose-sound : (s : State) (xs : List Val) (left right : Trace) → Sound Any left → Sound Any right → EachBit xs → Sound Any (compose [] s xs left right)
compose-sound s xs left right h k f =
    cut-sound s xs (map (lift_out [] (point s) left.outs) right.outs) (joined_end left.end right.end)
    (joined_last [] right.end (point left.last) (lift [] (point s) left.outs (point right.last))
    (waiting (length s.store) left.end (point right.last)))
    (outs-lifted (point s) left.outs right.outs k.outs)
    (joined-sound (length s.store) s left.last right.last left.end right.end (point_at (point s) left.outs right.last.taken) h.end k.end) f

-- a component
pub tr-sound : (c : Comp) → EmitsBits c → IsSoundDoes (tr c)
tr-sound (Take p) h s xs each f = any-sound (λ v s'. IsBit v × Covers [] s'.store) (take_of s xs) (take-sound [] s xs each (λ id k. absurd k) f)
tr-sound (Emit e p) h s xs each f = any-sound (λ v s'. Covers [] s'.store) (tr (Emit e p) s xs) (emit-sound [] e s xs h each (λ id k. absurd k) f)
tr-sound (Return e p) h s xs each f = any-sound (λ v s'. Covers [] s'.store) (tr (Return e p) s xs) (return-sound [] e s xs each (λ id k. absurd k) f)
tr-sound (Block' _ ms p) h s xs each f = members-sound ms [] _ UnitVal s xs h each (λ id k. absurd k) f
tr-sound (Repeat' _ (more_of-Comp c end_of-Comp) p) h s xs each f = turns-sound s.left (tr c) (tr-sound c h) s xs each f
tr-sound (Pipe' _ (more_of-Comp a end_of-Comp) _ (more_of-Comp b end_of-Comp) p) h s xs each f =
    let left : Sound Any (tr a s xs) = tr-sound a h.0 s xs each f in
    let right : Sound Any (tr b (fresh s) (values (tr a s xs).outs)) =
    tr-sound b h.1 (fresh s) (values (tr a s xs).outs) each (values-bits (tr a s xs).outs left.outs) in
    subst (λ ids. Sound Any (compose ids s xs (tr a s xs) (tr b (fresh s) (values (tr a s xs).outs)))) (sym (bits-none a))
    (compose-sound s xs (tr a s xs) (tr b (fresh s) (values (tr a s xs).outs)) left right f)
