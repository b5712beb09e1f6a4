-- Worked rows of the walk of components.
use Rattle.std.specs.Prelude.{◌≡◌, refl, ℕ, pos, List, [], ◌∷◌, true, false, Some, None}
use denote.Hole.Carrier.{hidden}
use Rattle.zir_tree.specs.declared.types.Base.TheVariants.{Unit as UnitTy, Bit as BitTy, Int8, Int32}
use Rattle.zir_tree.specs.declared.expr.Operator.TheVariants.{Add}
use Rattle.zir_tree.specs.declared.expr.Expr.{Unit, Bit, Int, Binary, Slice}
use Rattle.zir_tree.specs.declared.expr.Expr.TheBlock.{shape-the_row-Expr-0, hidden-the_row-Expr-0}
use Rattle.zir_tree.specs.declared.comp.Turning.TheVariants.{While as WhileSo}
use Rattle.zir_tree.specs.declared.comp.Link.TheVariants.{Serial}
use Rattle.zir_tree.specs.declared.comp.Comp.{Comp, Take, Takes, Emit, Emits, Return, Repeat, While, Times, For, If, Map, Filter, Call, Block, Pipe}
use Rattle.zir_tree.specs.declared.comp.Comp.TheBlock.{shape-the_row-Comp-0, hidden-the_row-Comp-0, shape-the_row-Member-1, hidden-the_row-Member-1}
use Rattle.zir_tree.specs.declared.comp.Member.{Bind, Run}
use Rattle.zir_types.specs.declared.error.TypeError.TheVariants.{Mismatch, TwoComputers, NotUnit, NotComputer, NotStreamType, Instances}
use Rattle.zir_types.specs.Walk.{Walk, Fine, Broken}
use Rattle.zir_types.specs.Kinds.{scalar, arr}
use Rattle.zir_types.specs.Statements.{no_heading}
use Rattle.zir_types.specs.Components.{Reached, comp, reached, unit_value}
use Rattle.zir_types.specs.Programs.{Prepared, makers}
use Rattle.zir_types.specs.Samples.{at, ident, name, int, x, b, t, a, f, g, scope}

-- `{ z <- take; emit z }` at a column.
abbrev copy : ℕ → Comp
copy n = Block (Bind (ident 50 n) (Take (at n)) ∷ Run (Emit (name 50 n) (at n)) ∷ []) (at n)

-- `fun comp p() { z <- take; emit z }`, and behind it `fun comp q() { p() }`.
abbrev declared : List Prepared
declared = record { id = 61; head = no_heading; body = Call (ident 60 20) 0 [] } ∷ record { id = 60; head = no_heading; body = copy 10 } ∷ []

-- A component over bits.
abbrev over_bits : Comp → Walk Reached
over_bits c = comp (makers scope declared) scope 0 (scalar BitTy) c []

-- `repeat take`: the body has the value bit.
repeat_take_row : over_bits (Repeat (Take (at 38)) (at 31)) ≡ Broken (NotUnit (at 31))
unfolding shape-the_row-Comp-0 hidden-the_row-Comp-0 hidden
repeat_take_row = refl

-- `{ z <- repeat { y <- take; emit y }; emit z }`: a transformer is bound.
bound_row : over_bits (Block (Bind (ident 51 33) (Repeat (copy 45) (at 38)) ∷ Run (Emit (name 51 66) (at 61)) ∷ []) (at 31)) ≡ Broken (NotComputer (at 38))
unfolding shape-the_row-Comp-0 hidden-the_row-Comp-0 shape-the_row-Member-1 hidden-the_row-Member-1 hidden
bound_row = refl

-- `{ repeat p(); emit w }`: a transformer before the last member is refused before what follows it.
member_row : over_bits (Block (Run (Repeat (Call (ident 60 40) 0 []) (at 33)) ∷ Run (Emit (name 99 50) (at 45)) ∷ []) (at 31)) ≡ Broken (NotComputer (at 33))
unfolding shape-the_row-Comp-0 hidden-the_row-Comp-0 shape-the_row-Member-1 hidden-the_row-Member-1 hidden
member_row = refl

-- `emit ()`: unit has no cells; nor has `a[0, 0]`.
emit_unit_row : over_bits (Emit (Unit (at 36)) (at 31)) ≡ Broken (NotStreamType (at 31))
emit_unit_row = refl

emit_empty_row : over_bits (Emit (Slice (name a 36) (int 0 38) 0 (at 37)) (at 31)) ≡ Broken (NotStreamType (at 31))
unfolding shape-the_row-Expr-0 hidden-the_row-Expr-0 hidden
emit_empty_row = refl

-- `emit '1 + '0`: the operator is refused first.
emit_bits_row : over_bits (Emit (Binary Add UnitTy (Bit true (at 36)) (Bit false (at 41)) (at 39)) (at 31)) ≡ Broken (Mismatch (at 39))
unfolding shape-the_row-Expr-0 hidden-the_row-Expr-0 hidden
emit_bits_row = refl

-- `emits a` emits int8; `emits x` is refused at the word.
emits_row : over_bits (Emits (name a 37) (at 31)) ≡ Fine (reached (Emits (name a 37) (at 31)) (Some (scalar Int8)) unit_value [])
emits_row = refl

emits_scalar_row : over_bits (Emits (name x 37) (at 31)) ≡ Broken (Mismatch (at 31))
emits_scalar_row = refl

-- `takes 3` has three elements as its value.
takes_row : over_bits (Takes 3 (at 31)) ≡ Fine (reached (Takes 3 (at 31)) None (Some (arr 3 (scalar BitTy))) [])
takes_row = refl

-- `{ emit x; emit b }` emits two types, at its brace.
emitted_row : over_bits (Block (Run (Emit (name x 38) (at 33)) ∷ Run (Emit (name b 46) (at 41)) ∷ []) (at 31)) ≡ Broken (Mismatch (at 31))
unfolding shape-the_row-Member-1 hidden-the_row-Member-1 hidden
emitted_row = refl

-- `if t then emit b else take`: the branches have two value types.
branches_row : over_bits (If (name t 34) (Emit (name b 46) (at 41)) (Take (at 53)) (at 31)) ≡ Broken (Mismatch (at 31))
unfolding shape-the_row-Comp-0 hidden-the_row-Comp-0 hidden
branches_row = refl

-- `while (x) take`: the condition is refused before the body's value.
while_row : over_bits (While WhileSo (name x 38) (Take (at 41)) (at 31)) ≡ Broken (Mismatch (at 31))
unfolding shape-the_row-Comp-0 hidden-the_row-Comp-0 hidden
while_row = refl

while_take_row : over_bits (While WhileSo (name t 38) (Take (at 41)) (at 31)) ≡ Broken (NotUnit (at 31))
unfolding shape-the_row-Comp-0 hidden-the_row-Comp-0 hidden
while_take_row = refl

-- `times (x) emit b`: the count is an int32.
times_row : over_bits (Times (name x 38) (Emit (name b 46) (at 41)) (at 31)) ≡ Broken (Mismatch (at 31))
unfolding shape-the_row-Comp-0 hidden-the_row-Comp-0 hidden
times_row = refl

-- `for i in [0, 3] emit i` is a computer of unit that emits int32.
for_row : over_bits (For (ident 52 35) (int 0 41) (int 3 44) (Emit (name 52 52) (at 47)) (at 31))
    ≡ Fine (reached (For (ident 52 35) (Int (pos 0) Int32 (at 41)) (Int (pos 3) Int32 (at 44)) (Emit (name 52 52) (at 47)) (at 31)) (Some (scalar Int32)) unit_value [])
unfolding shape-the_row-Comp-0 hidden-the_row-Comp-0 hidden
for_row = refl

-- `map f` at int8 is fine, and has its place; at bit it is refused, and so is `map g`, whose function gives unit.
map_row : comp (makers scope declared) scope 0 (scalar Int8) (Map (ident f 35) 0 (at 31)) []
    ≡ Fine (reached (Map (ident f 35) 0 (at 31)) (Some (scalar Int32)) None [])
map_row = refl

map_bit_row : over_bits (Map (ident f 35) 0 (at 31)) ≡ Broken (Mismatch (at 31))
map_bit_row = refl

map_unit_row : over_bits (Map (ident g 35) 0 (at 31)) ≡ Broken (Mismatch (at 31))
map_unit_row = refl

filter_row : comp (makers scope declared) scope 0 (scalar Int8) (Filter (ident f 38) 0 (at 31)) [] ≡ Broken (Mismatch (at 31))
filter_row = refl

-- `p() >>> p()`: two computers, at the operator; but a refusal on the right comes first.
two_row : over_bits (Pipe Serial (Call (ident 60 31) 0 []) (Call (ident 60 39) 0 []) (at 35)) ≡ Broken (TwoComputers (at 35))
unfolding shape-the_row-Comp-0 hidden-the_row-Comp-0 shape-the_row-Member-1 hidden-the_row-Member-1 hidden
two_row = refl

parts_first_row : over_bits (Pipe Serial (Call (ident 60 31) 0 []) (Repeat (Take (at 46)) (at 39)) (at 35)) ≡ Broken (NotUnit (at 39))
unfolding shape-the_row-Comp-0 hidden-the_row-Comp-0 shape-the_row-Member-1 hidden-the_row-Member-1 hidden
parts_first_row = refl

-- `do`-like left sides emit nothing, so the right side reads bits: `return x >>> take`.
silent_row : over_bits (Pipe Serial (Repeat (Return (Unit (at 45)) (at 38)) (at 31)) (Take (at 52)) (at 48))
    ≡ Fine (reached (Pipe Serial (Repeat (Return (Unit (at 45)) (at 38)) (at 31)) (Take (at 52)) (at 48)) None (Some (scalar BitTy)) [])
unfolding shape-the_row-Comp-0 hidden-the_row-Comp-0 hidden
silent_row = refl

-- `repeat q() >>> repeat p()`: the instance that q calls comes first, and p is typed once.
instances_row : over_bits (Pipe Serial (Repeat (Call (ident 61 38) 0 []) (at 31)) (Repeat (Call (ident 60 53) 0 []) (at 46)) (at 42))
    ≡ Fine (reached (Pipe Serial (Repeat (Call (ident 61 38) 1 []) (at 31)) (Repeat (Call (ident 60 53) 0 []) (at 46)) (at 42)) (Some (scalar BitTy)) None
    (record { declaration = 60; input = scalar BitTy; params = []; body = copy 10; emits = Some (scalar BitTy); value = unit_value }
    ∷ record { declaration = 61; input = scalar BitTy; params = []; body = Call (ident 60 20) 0 []; emits = Some (scalar BitTy); value = unit_value } ∷ []))
unfolding shape-the_row-Comp-0 hidden-the_row-Comp-0 shape-the_row-Member-1 hidden-the_row-Member-1 hidden
instances_row = refl

-- With 255 instances begun, a call of q makes the 256th, and the call of p in it the 257th.
limit_row : comp (makers scope declared) scope 255 (scalar BitTy) (Call (ident 61 31) 0 []) [] ≡ Broken (Instances (at 20))
limit_row = refl

-- With 256 instances begun, a call is refused after its arguments: `p(a[true])` at its bracket, and `p()` at its name.
full_row : comp (makers scope declared) scope 256 (scalar BitTy) (Call (ident 60 31) 0 []) [] ≡ Broken (Instances (at 31))
full_row = refl

-- A number of arguments that is not that of the parameters is refused at the name.
arguments_row : over_bits (Call (ident 60 31) 0 (int 1 33 ∷ [])) ≡ Broken (Mismatch (at 31))
arguments_row = refl
