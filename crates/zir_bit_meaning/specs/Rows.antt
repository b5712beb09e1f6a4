-- Worked rows: small programs whose traces and bytes are known, computed from the definitions.
use Rattle.std.specs.Prelude.{true, false, [], ◌∷◌, Some, None, ◌≡◌, refl, map}
use denote.Hole.Carrier.{hidden}
use Rattle.zir_bit_tree.specs.declared.value.Val.{Val}
use Rattle.zir_bit_tree.specs.declared.value.Val.TheVariants.{Unit as UnitVal, Bit as BitVal}
use Rattle.zir_bit_tree.specs.declared.ends.End.TheVariants.{Value, Starved, Spent}
use Rattle.zir_bit_tree.specs.declared.tree.Expr.{Unit, Bit, Variable, Xor}
use Rattle.zir_bit_tree.specs.declared.tree.Expr.TheBlock.{shape-the_row-Expr-0, hidden-the_row-Expr-0}
use Rattle.zir_bit_tree.specs.declared.tree.Comp.{Comp, Take, Emit, Return, Block, Repeat, Pipe}
use Rattle.zir_bit_tree.specs.declared.tree.Comp.TheBlock.{shape-the_row-Member-0, hidden-the_row-Member-0, shape-the_row-Comp-1, hidden-the_row-Comp-1}
use Rattle.zir_bit_tree.specs.declared.tree.Member.{Member}
use Rattle.zir_tree.specs.declared.ident.Ident.{Ident}
use Rattle.zir_tree.specs.declared.place.Place.{Place}
use Rattle.zir_bit_meaning.specs.Composition.{values}
use Rattle.zir_bit_meaning.specs.Component.{tr}
use Rattle.zir_bit_meaning.specs.Samples.{bits_of, spell, rest_of}
use Rattle.zir_bit_meaning.specs.Run.{start}

abbrev here : Place
here = record { line = 1; col = 1 }

abbrev x : Ident
x = record { name = 120 ∷ []; id = 1; at = here }

abbrev y : Ident
y = record { name = 121 ∷ []; id = 2; at = here }

abbrev z : Ident
z = record { name = 122 ∷ []; id = 3; at = here }

abbrev taking : Ident → Member
taking name = record { bound = Some name; what = Take here }

abbrev step : Comp → Member
step c = record { bound = None; what = c }

abbrev zero_bit : Val
zero_bit = BitVal false

abbrev one_bit : Val
one_bit = BitVal true

-- { x <- take; y <- take; emit x ^ y; return () }
abbrev sums : Comp
sums = Block (taking x ∷ taking y ∷ step (Emit (Xor (Variable x) (Variable y) here) here) ∷ step (Return (Unit here) here) ∷ []) here

-- { emit '1; x <- take; emit x }
abbrev leads : Comp
leads = Block (step (Emit (Bit true here) here) ∷ taking x ∷ step (Emit (Variable x) here) ∷ []) here

-- repeat { emit '1 }
abbrev ones : Comp
ones = Repeat (Block (step (Emit (Bit true here) here) ∷ []) here) here

-- repeat { y <- take; emit y ^ '1 }
abbrev flips : Comp
flips = Repeat (Block (taking y ∷ step (Emit (Xor (Variable y) (Bit true here) here) here) ∷ []) here) here

-- { x <- take; emit x; return '1 } >>> repeat { y <- take; emit y ^ '1 }
abbrev left_ends : Comp
left_ends = Pipe (Block (taking x ∷ step (Emit (Variable x) here) ∷ step (Return (Bit true here) here) ∷ []) here) flips here

-- repeat { x <- take; emit x } >>> { y <- take; emit y; return '0 }
abbrev right_ends : Comp
right_ends = Pipe
    (Repeat (Block (taking x ∷ step (Emit (Variable x) here) ∷ []) here) here)
    (Block (taking y ∷ step (Emit (Variable y) here) ∷ step (Return (Bit false here) here) ∷ []) here) here

-- repeat ({ x <- take; emit x } >>> repeat { y <- take; emit y; z <- take; emit z })
abbrev again_and_again : Comp
again_and_again = Repeat (Pipe
    (Block (taking x ∷ step (Emit (Variable x) here) ∷ []) here)
    (Repeat (Block (taking y ∷ step (Emit (Variable y) here) ∷ taking z ∷ step (Emit (Variable z) here) ∷ []) here) here) here) here

pub sums_outs : values (tr sums (start 100) (one_bit ∷ zero_bit ∷ one_bit ∷ [])).outs ≡ one_bit ∷ []
unfolding shape-the_row-Expr-0 hidden-the_row-Expr-0 shape-the_row-Member-0 hidden-the_row-Member-0 hidden
sums_outs = refl

pub sums_last : (tr sums (start 100) (one_bit ∷ zero_bit ∷ one_bit ∷ [])).last ≡ record { taken = 2; ticks = 4; left = 96; store = [] }
unfolding shape-the_row-Expr-0 hidden-the_row-Expr-0 shape-the_row-Member-0 hidden-the_row-Member-0 hidden
sums_last = refl

pub sums_end : (tr sums (start 100) (one_bit ∷ zero_bit ∷ one_bit ∷ [])).end ≡ Value UnitVal
unfolding shape-the_row-Expr-0 hidden-the_row-Expr-0 shape-the_row-Member-0 hidden-the_row-Member-0 hidden
sums_end = refl

-- with one tick and no input the output stands, and the component starves
pub leads_starves : (tr leads (start 1) []).end ≡ Starved
unfolding shape-the_row-Expr-0 hidden-the_row-Expr-0 shape-the_row-Member-0 hidden-the_row-Member-0 hidden
leads_starves = refl

-- with one tick and an element the output stands, and the budget is spent
pub leads_spent : (tr leads (start 1) (one_bit ∷ [])).end ≡ Spent
unfolding shape-the_row-Expr-0 hidden-the_row-Expr-0 shape-the_row-Member-0 hidden-the_row-Member-0 hidden
leads_spent = refl

pub leads_outs : values (tr leads (start 1) (one_bit ∷ [])).outs ≡ one_bit ∷ []
unfolding shape-the_row-Expr-0 hidden-the_row-Expr-0 shape-the_row-Member-0 hidden-the_row-Member-0 hidden
leads_outs = refl

-- five ticks are two turns, with outputs at the second and the fourth, and one tick of a third turn
pub ones_ticks : map (λ o. o.at.ticks) (tr ones (start 5) []).outs ≡ 2 ∷ 4 ∷ []
unfolding shape-the_row-Expr-0 hidden-the_row-Expr-0 shape-the_row-Member-0 hidden-the_row-Member-0 hidden shape-the_row-Comp-1 hidden-the_row-Comp-1
ones_ticks = refl

pub ones_end : (tr ones (start 5) []).end ≡ Spent
unfolding shape-the_row-Expr-0 hidden-the_row-Expr-0 shape-the_row-Member-0 hidden-the_row-Member-0 hidden shape-the_row-Comp-1 hidden-the_row-Comp-1
ones_end = refl

pub flips_outs : values (tr flips (start 100) (one_bit ∷ zero_bit ∷ [])).outs ≡ zero_bit ∷ one_bit ∷ []
unfolding shape-the_row-Expr-0 hidden-the_row-Expr-0 shape-the_row-Member-0 hidden-the_row-Member-0 hidden shape-the_row-Comp-1 hidden-the_row-Comp-1
flips_outs = refl

-- the end stands at seven ticks, three on the left and four on the right
pub left_ends_7 : (tr left_ends (start 7) (zero_bit ∷ zero_bit ∷ [])).end ≡ Value one_bit
unfolding shape-the_row-Expr-0 hidden-the_row-Expr-0 shape-the_row-Member-0 hidden-the_row-Member-0 hidden shape-the_row-Comp-1 hidden-the_row-Comp-1
left_ends_7 = refl

pub left_ends_last : (tr left_ends (start 7) (zero_bit ∷ zero_bit ∷ [])).last.ticks ≡ 7
unfolding shape-the_row-Expr-0 hidden-the_row-Expr-0 shape-the_row-Member-0 hidden-the_row-Member-0 hidden shape-the_row-Comp-1 hidden-the_row-Comp-1
left_ends_last = refl

pub left_ends_6 : (tr left_ends (start 6) (zero_bit ∷ zero_bit ∷ [])).end ≡ Spent
unfolding shape-the_row-Expr-0 hidden-the_row-Expr-0 shape-the_row-Member-0 hidden-the_row-Member-0 hidden shape-the_row-Comp-1 hidden-the_row-Comp-1
left_ends_6 = refl

pub left_ends_5 : values (tr left_ends (start 5) (zero_bit ∷ zero_bit ∷ [])).outs ≡ one_bit ∷ []
unfolding shape-the_row-Expr-0 hidden-the_row-Expr-0 shape-the_row-Member-0 hidden-the_row-Member-0 hidden shape-the_row-Comp-1 hidden-the_row-Comp-1
left_ends_5 = refl

pub left_ends_4 : (tr left_ends (start 4) (zero_bit ∷ zero_bit ∷ [])).outs ≡ []
unfolding shape-the_row-Expr-0 hidden-the_row-Expr-0 shape-the_row-Member-0 hidden-the_row-Member-0 hidden shape-the_row-Comp-1 hidden-the_row-Comp-1
left_ends_4 = refl

pub right_ends_6 : (tr right_ends (start 6) (one_bit ∷ zero_bit ∷ [])).end ≡ Value zero_bit
unfolding shape-the_row-Expr-0 hidden-the_row-Expr-0 shape-the_row-Member-0 hidden-the_row-Member-0 hidden shape-the_row-Comp-1 hidden-the_row-Comp-1
right_ends_6 = refl

pub right_ends_5 : values (tr right_ends (start 5) (one_bit ∷ zero_bit ∷ [])).outs ≡ one_bit ∷ []
unfolding shape-the_row-Expr-0 hidden-the_row-Expr-0 shape-the_row-Member-0 hidden-the_row-Member-0 hidden shape-the_row-Comp-1 hidden-the_row-Comp-1
right_ends_5 = refl

pub right_ends_4 : (tr right_ends (start 4) (one_bit ∷ zero_bit ∷ [])).outs ≡ []
unfolding shape-the_row-Expr-0 hidden-the_row-Expr-0 shape-the_row-Member-0 hidden-the_row-Member-0 hidden shape-the_row-Comp-1 hidden-the_row-Comp-1
right_ends_4 = refl

-- the names of the right side's block leave where the left side ends
pub names_leave : values (tr again_and_again (start 100) (one_bit ∷ zero_bit ∷ [])).outs ≡ one_bit ∷ zero_bit ∷ []
unfolding shape-the_row-Expr-0 hidden-the_row-Expr-0 shape-the_row-Member-0 hidden-the_row-Member-0 hidden shape-the_row-Comp-1 hidden-the_row-Comp-1
names_leave = refl

-- the least significant bit comes first
pub bits_of_3 : bits_of (3 ∷ []) ≡ true ∷ true ∷ false ∷ false ∷ false ∷ false ∷ false ∷ false ∷ []
bits_of_3 = refl

-- thirteen bits 1 are a byte and a padded byte, or where the output is not finished a byte alone
pub spells_13 : spell true (one_bit ∷ one_bit ∷ one_bit ∷ one_bit ∷ one_bit ∷ one_bit ∷ one_bit ∷ one_bit ∷ one_bit ∷ one_bit ∷ one_bit ∷ one_bit ∷ one_bit ∷ []) ≡ 255 ∷ 31 ∷ []
spells_13 = refl

pub spells_whole : spell false (one_bit ∷ one_bit ∷ one_bit ∷ one_bit ∷ one_bit ∷ one_bit ∷ one_bit ∷ one_bit ∷ one_bit ∷ []) ≡ 255 ∷ []
spells_whole = refl

-- the rest behind two bits of 00 F0 is 00 3C
pub rest_row : rest_of (0 ∷ 240 ∷ []) 2 ≡ 0 ∷ 60 ∷ []
rest_row = refl
