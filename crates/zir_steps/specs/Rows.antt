-- Worked rows: traces over elements with their points, computed from the definitions.
use Rattle.std.specs.Prelude.{true, false, [], ◌∷◌, None, ◌≡◌, refl, map, pos}
use denote.Hole.Carrier.{hidden}
use Rattle.zir_bit_tree.specs.declared.value.Val.TheVariants.{Bit as BitVal}
use Rattle.zir_bit_tree.specs.declared.ends.End.TheVariants.{Starved, Spent}
use Rattle.zir_bit_tree.specs.declared.tree.Expr.{Bit, Variable, Xor}
use Rattle.zir_bit_tree.specs.declared.tree.Expr.TheBlock.{shape-the_row-Expr-0, hidden-the_row-Expr-0}
use Rattle.zir_bit_tree.specs.declared.tree.Comp.{Comp, Take, Emit, Block, Repeat}
use Rattle.zir_bit_tree.specs.declared.tree.Comp.TheBlock.{shape-the_row-Member-0, hidden-the_row-Member-0, shape-the_row-Comp-1, hidden-the_row-Comp-1}
use Rattle.zir_tree.specs.declared.ident.Ident.{Ident}
use Rattle.zir_tree.specs.declared.place.Place.{Place}
use Rattle.std.specs.Prelude.{ℕ, Some}
use Rattle.zir_steps.specs.History.{History, trace_of, stamp_of}
use Rattle.zir_steps.specs.Elements.{val_of, element_of, received_as}

-- a place
abbrev here : Place
here = record { line = 1; col = 1 }

-- a variable
abbrev x : Ident
x = record { name = 120 ∷ []; id = 1; at = here }

-- repeat { emit '1 }
abbrev ones : Comp
ones = Repeat (Block (record { bound = None; what = Emit (Bit true here) here } ∷ []) here) here

-- repeat { x <- take; emit x ^ '1 }
abbrev flips : Comp
flips = Repeat (Block (record { bound = Some x; what = Take here } ∷ record { bound = None; what = Emit (Xor (Variable x) (Bit true here) here) here } ∷ []) here) here

-- a component that received nothing
abbrev alone : Comp → ℕ → History
alone c n = record { component = c; store = []; start = 0; limit = n; received = []; given = [] }

-- the element 1 came at three elements taken and ten ticks, the element 0 at four and twenty
abbrev fed : ℕ → History
fed n = record (alone flips n) { received = received_as (pos 1 ∷ []) (record { taken = 3; ticks = 10 }) ∷ received_as (pos 0 ∷ []) (record { taken = 4; ticks = 20 }) ∷ [] }

-- a turn and an output cost a tick each
pub ones_stamps : map stamp_of (trace_of (alone ones 5)).outs ≡ record { taken = 0; ticks = 2 } ∷ record { taken = 0; ticks = 4 } ∷ []
unfolding shape-the_row-Expr-0 hidden-the_row-Expr-0 shape-the_row-Member-0 hidden-the_row-Member-0 hidden shape-the_row-Comp-1 hidden-the_row-Comp-1
ones_stamps = refl

-- it ends where its ticks do
pub ones_end : (trace_of (alone ones 5)).end ≡ Spent
unfolding shape-the_row-Expr-0 hidden-the_row-Expr-0 shape-the_row-Member-0 hidden-the_row-Member-0 hidden shape-the_row-Comp-1 hidden-the_row-Comp-1
ones_end = refl

-- the stamps are those of the elements with the ticks of the component added
pub fed_stamps : map stamp_of (trace_of (fed 100)).outs ≡ record { taken = 3; ticks = 13 } ∷ record { taken = 4; ticks = 26 } ∷ []
unfolding shape-the_row-Expr-0 hidden-the_row-Expr-0 shape-the_row-Member-0 hidden-the_row-Member-0 hidden shape-the_row-Comp-1 hidden-the_row-Comp-1
fed_stamps = refl

-- it ends where no element is left
pub fed_end : (trace_of (fed 100)).end ≡ Starved
unfolding shape-the_row-Expr-0 hidden-the_row-Expr-0 shape-the_row-Member-0 hidden-the_row-Member-0 hidden shape-the_row-Comp-1 hidden-the_row-Comp-1
fed_end = refl

-- the second output would stand at 26 ticks
pub fed_cut : map stamp_of (trace_of (fed 25)).outs ≡ record { taken = 3; ticks = 13 } ∷ []
unfolding shape-the_row-Expr-0 hidden-the_row-Expr-0 shape-the_row-Member-0 hidden-the_row-Member-0 hidden shape-the_row-Comp-1 hidden-the_row-Comp-1
fed_cut = refl

-- the cell 1 is read as the bit 1
pub one_read : val_of (pos 1 ∷ []) ≡ BitVal true
one_read = refl

-- an element that is no bit is the bit 0
pub unfit_read : val_of (pos 2 ∷ []) ≡ BitVal false
unfit_read = refl

-- an element of two cells is the bit 0
pub wide_read : val_of (pos 1 ∷ pos 1 ∷ []) ≡ BitVal false
wide_read = refl

-- the bit 1 is written as the cell 1
pub one_written : element_of 1 (BitVal true) ≡ pos 1 ∷ []
one_written = refl
