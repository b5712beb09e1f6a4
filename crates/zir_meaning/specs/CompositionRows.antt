-- Worked rows that compute: compositions, their ends, their ticks and what they merge.
use Rattle.std.specs.Prelude.{pos, true, false, [], ◌∷◌, Some, None, codes, ◌≡◌, refl}
use Rattle.std.specs.Int.{int_wrap}
use Rattle.std.specs.Fmt.{digits}
use denote.Hole.Carrier.{hidden}
use Rattle.zir_tree.specs.declared.format.Format.TheVariants.{Binary as BinaryFormat}
use Rattle.zir_tree.specs.declared.types.Base.TheVariants.{Unit as UnitTy, Bit as BitTy, Int8}
use Rattle.zir_tree.specs.declared.value.Val.TheBlock.{shape-the_row-Val-0, hidden-the_row-Val-0}
use Rattle.zir_tree.specs.declared.expr.Operator.TheVariants.{BitXor, Add}
use Rattle.zir_tree.specs.declared.expr.Expr.{Unit, Bit, Int, Variable, Binary, Convert}
use Rattle.zir_tree.specs.declared.expr.Expr.TheBlock.{shape-the_row-Expr-0, hidden-the_row-Expr-0, shape-the_row-Expr-1, hidden-the_row-Expr-1}
use Rattle.zir_tree.specs.declared.stmt.Stmt.{Assign}
use Rattle.zir_tree.specs.declared.stmt.Stmt.TheBlock.{shape-the_row-Stmt-0, hidden-the_row-Stmt-0}
use Rattle.zir_tree.specs.declared.comp.Link.TheVariants.{Serial}
use Rattle.zir_tree.specs.declared.comp.Comp.{Take, Emit, Return as ReturnComp, Do, Repeat, Map, Call as CallComp, Block, Pipe}
use Rattle.zir_tree.specs.declared.comp.Comp.TheBlock.{shape-the_row-Member-1, hidden-the_row-Member-1, shape-the_row-Comp-0, hidden-the_row-Comp-0}
use Rattle.zir_tree.specs.declared.comp.Member.{Bind, Var as VarMember, Run}
use Rattle.zir_tree.specs.declared.program.Core.{Core}
use Rattle.zir_meaning.specs.Answer.{answer_of}
use Rattle.zir_meaning.specs.Notation.{at, here, id, plain, word, var, param, doing, returning, function, instance, core, program, loaded, answers}

-- a composition leaves what its left side did not take:
--     let comp main = read[bit] >>> { (repeat { x <- take; emit x } >>> { y <- take; emit y; return y }); z <- take; emit z } >>> write[bit]
abbrev rest_of_it_core : Core
rest_of_it_core = program (Block (Run (Pipe Serial (Repeat (Block (Bind (id 1) (Take here) ∷ Run (Emit (Variable (id 1)) here) ∷ []) here) here)
    (Block (Bind (id 2) (Take here) ∷ Run (Emit (Variable (id 2)) here) ∷ Run (ReturnComp (Variable (id 2)) here) ∷ []) here) here) ∷ Bind (id 3)
    (Take here) ∷ Run (Emit (Variable (id 3)) here) ∷ []) here) (plain BitTy) (plain BitTy) (Some (plain UnitTy))

pub rest_of_it : answer_of BinaryFormat 100 (loaded (codes "p") rest_of_it_core) [] (2 ∷ []) ≡ answers 0 (2 ∷ [])
    (codes "ended ()\ntaken 2\nwritten 2\n")
unfolding shape-the_row-Val-0 hidden-the_row-Val-0 shape-the_row-Expr-0 hidden-the_row-Expr-0 shape-the_row-Expr-1 hidden-the_row-Expr-1
    shape-the_row-Stmt-0 hidden-the_row-Stmt-0 shape-the_row-Member-1 hidden-the_row-Member-1 shape-the_row-Comp-0 hidden-the_row-Comp-0 hidden
    int_wrap digits
rest_of_it = refl

-- it ends with its right side:
--     let comp main = read[bit] >>> repeat { x <- take; emit x } >>> { y <- take; emit y; return '0 } >>> write[bit]
abbrev right_ends_core : Core
right_ends_core = program (Pipe Serial (Repeat (Block (Bind (id 1) (Take here) ∷ Run (Emit (Variable (id 1)) here) ∷ []) here) here) (Block (Bind (id
    2) (Take here) ∷ Run (Emit (Variable (id 2)) here) ∷ Run (ReturnComp (Bit false here) here) ∷ []) here) here) (plain BitTy) (plain BitTy) (Some
    (plain BitTy))

pub right_ends : answer_of BinaryFormat 6 (loaded (codes "p") right_ends_core) [] (1 ∷ []) ≡ answers 0 (1 ∷ [])
    (codes "ended '0\ntaken 1\nwritten 1\n")
unfolding shape-the_row-Val-0 hidden-the_row-Val-0 shape-the_row-Expr-0 hidden-the_row-Expr-0 shape-the_row-Expr-1 hidden-the_row-Expr-1
    shape-the_row-Stmt-0 hidden-the_row-Stmt-0 shape-the_row-Member-1 hidden-the_row-Member-1 shape-the_row-Comp-0 hidden-the_row-Comp-0 hidden
    int_wrap digits
right_ends = refl

-- the ticks of both sides count:
--     let comp main = read[bit] >>> repeat { x <- take; emit x } >>> { y <- take; emit y; return '0 } >>> write[bit]
abbrev right_ends_spent_core : Core
right_ends_spent_core = program (Pipe Serial (Repeat (Block (Bind (id 1) (Take here) ∷ Run (Emit (Variable (id 1)) here) ∷ []) here) here) (Block
    (Bind (id 2) (Take here) ∷ Run (Emit (Variable (id 2)) here) ∷ Run (ReturnComp (Bit false here) here) ∷ []) here) here) (plain BitTy) (plain
    BitTy) (Some (plain BitTy))

pub right_ends_spent : answer_of BinaryFormat 5 (loaded (codes "p") right_ends_spent_core) [] (1 ∷ []) ≡ answers 5 (1 ∷ [])
    (codes "out of ticks 5\nwritten 1\n")
unfolding shape-the_row-Val-0 hidden-the_row-Val-0 shape-the_row-Expr-0 hidden-the_row-Expr-0 shape-the_row-Expr-1 hidden-the_row-Expr-1
    shape-the_row-Stmt-0 hidden-the_row-Stmt-0 shape-the_row-Member-1 hidden-the_row-Member-1 shape-the_row-Comp-0 hidden-the_row-Comp-0 hidden
    int_wrap digits
right_ends_spent = refl

-- an output of the right side stands at both sides' ticks:
--     let comp main = read[bit] >>> repeat { x <- take; emit x } >>> { y <- take; emit y; return '0 } >>> write[bit]
abbrev right_output_spent_core : Core
right_output_spent_core = program (Pipe Serial (Repeat (Block (Bind (id 1) (Take here) ∷ Run (Emit (Variable (id 1)) here) ∷ []) here) here) (Block
    (Bind (id 2) (Take here) ∷ Run (Emit (Variable (id 2)) here) ∷ Run (ReturnComp (Bit false here) here) ∷ []) here) here) (plain BitTy) (plain
    BitTy) (Some (plain BitTy))

pub right_output_spent : answer_of BinaryFormat 4 (loaded (codes "p") right_output_spent_core) [] (1 ∷ []) ≡ answers 5 []
    (codes "out of ticks 4\nwritten 0\n")
unfolding shape-the_row-Val-0 hidden-the_row-Val-0 shape-the_row-Expr-0 hidden-the_row-Expr-0 shape-the_row-Expr-1 hidden-the_row-Expr-1
    shape-the_row-Stmt-0 hidden-the_row-Stmt-0 shape-the_row-Member-1 hidden-the_row-Member-1 shape-the_row-Comp-0 hidden-the_row-Comp-0 hidden
    int_wrap digits
right_output_spent = refl

-- it ends with its left side where the right side needs more:
--     let comp main = read[bit] >>> { x <- take; emit x; return '1 } >>> repeat { y <- take; emit y ^ '1 } >>> write[bit]
abbrev left_ends_core : Core
left_ends_core = program (Pipe Serial (Block (Bind (id 1) (Take here) ∷ Run (Emit (Variable (id 1)) here) ∷ Run (ReturnComp (Bit true here) here) ∷
    []) here) (Repeat (Block (Bind (id 2) (Take here) ∷ Run (Emit (Binary BitXor BitTy (Variable (id 2)) (Bit true here) (at 1 95)) here) ∷ []) here)
    here) here) (plain BitTy) (plain BitTy) (Some (plain BitTy))

pub left_ends : answer_of BinaryFormat 7 (loaded (codes "p") left_ends_core) [] (0 ∷ []) ≡ answers 0 (1 ∷ []) (codes "ended '1\ntaken 1\nwritten 1\n")
unfolding shape-the_row-Val-0 hidden-the_row-Val-0 shape-the_row-Expr-0 hidden-the_row-Expr-0 shape-the_row-Expr-1 hidden-the_row-Expr-1
    shape-the_row-Stmt-0 hidden-the_row-Stmt-0 shape-the_row-Member-1 hidden-the_row-Member-1 shape-the_row-Comp-0 hidden-the_row-Comp-0 hidden
    int_wrap digits
left_ends = refl

-- a right side begins with no tick used:
--     let comp main = read[bit] >>> { emit '1; emit '1; (repeat { x <- take; emit x } >>> { y <- take; return y }) } >>> write[bit]
abbrev both_after_ticks_core : Core
both_after_ticks_core = program (Block (Run (Emit (Bit true here) here) ∷ Run (Emit (Bit true here) here) ∷ Run (Pipe Serial (Repeat (Block (Bind (id
    1) (Take here) ∷ Run (Emit (Variable (id 1)) here) ∷ []) here) here) (Block (Bind (id 2) (Take here) ∷ Run (ReturnComp (Variable (id 2)) here) ∷
    []) here) here) ∷ []) here) (plain BitTy) (plain BitTy) (Some (plain BitTy))

pub both_after_ticks : answer_of BinaryFormat 7 (loaded (codes "p") both_after_ticks_core) [] (1 ∷ []) ≡ answers 0 (3 ∷ [])
    (codes "ended '1\ntaken 1\nwritten 2\n")
unfolding shape-the_row-Val-0 hidden-the_row-Val-0 shape-the_row-Expr-0 hidden-the_row-Expr-0 shape-the_row-Expr-1 hidden-the_row-Expr-1
    shape-the_row-Stmt-0 hidden-the_row-Stmt-0 shape-the_row-Member-1 hidden-the_row-Member-1 shape-the_row-Comp-0 hidden-the_row-Comp-0 hidden
    int_wrap digits
both_after_ticks = refl

-- and one tick less is too few:
--     let comp main = read[bit] >>> { emit '1; emit '1; (repeat { x <- take; emit x } >>> { y <- take; return y }) } >>> write[bit]
abbrev both_after_ticks_spent_core : Core
both_after_ticks_spent_core = program (Block (Run (Emit (Bit true here) here) ∷ Run (Emit (Bit true here) here) ∷ Run (Pipe Serial (Repeat (Block
    (Bind (id 1) (Take here) ∷ Run (Emit (Variable (id 1)) here) ∷ []) here) here) (Block (Bind (id 2) (Take here) ∷ Run (ReturnComp (Variable (id 2))
    here) ∷ []) here) here) ∷ []) here) (plain BitTy) (plain BitTy) (Some (plain BitTy))

pub both_after_ticks_spent : answer_of BinaryFormat 6 (loaded (codes "p") both_after_ticks_spent_core) [] (1 ∷ []) ≡ answers 5 (3 ∷ [])
    (codes "out of ticks 6\nwritten 2\n")
unfolding shape-the_row-Val-0 hidden-the_row-Val-0 shape-the_row-Expr-0 hidden-the_row-Expr-0 shape-the_row-Expr-1 hidden-the_row-Expr-1
    shape-the_row-Stmt-0 hidden-the_row-Stmt-0 shape-the_row-Member-1 hidden-the_row-Member-1 shape-the_row-Comp-0 hidden-the_row-Comp-0 hidden
    int_wrap digits
both_after_ticks_spent = refl

-- what the left side does ahead is not charged:
--     let comp main = read[bit] >>> { (repeat { x <- take; emit x } >>> { y <- take; return () }); emit '1 } >>> write[bit]
abbrev read_ahead_is_free_core : Core
read_ahead_is_free_core = program (Block (Run (Pipe Serial (Repeat (Block (Bind (id 1) (Take here) ∷ Run (Emit (Variable (id 1)) here) ∷ []) here)
    here) (Block (Bind (id 2) (Take here) ∷ Run (ReturnComp (Unit here) here) ∷ []) here) here) ∷ Run (Emit (Bit true here) here) ∷ []) here) (plain
    BitTy) (plain BitTy) (Some (plain UnitTy))

pub read_ahead_is_free : answer_of BinaryFormat 6 (loaded (codes "p") read_ahead_is_free_core) [] (255 ∷ []) ≡ answers 0 (1 ∷ [])
    (codes "ended ()\ntaken 1\nwritten 1\n")
unfolding shape-the_row-Val-0 hidden-the_row-Val-0 shape-the_row-Expr-0 hidden-the_row-Expr-0 shape-the_row-Expr-1 hidden-the_row-Expr-1
    shape-the_row-Stmt-0 hidden-the_row-Stmt-0 shape-the_row-Member-1 hidden-the_row-Member-1 shape-the_row-Comp-0 hidden-the_row-Comp-0 hidden
    int_wrap digits
read_ahead_is_free = refl

-- after a composition a variable stands as its left side left it at the output that was taken last:
--     let comp main = read[bit] >>> { var n : int8; (repeat { x <- take; do { n := n + 1 }; emit x } >>> { a <- take; b <- take; return () }); emit n } >>> write[int8]
abbrev merges_core : Core
merges_core = program (Block (VarMember (var 1 (word Int8) None) ∷ Run (Pipe Serial (Repeat (Block (Bind (id 2) (Take here) ∷ Run (Do (doing (Assign
    (id 1) [] (Binary Add Int8 (Variable (id 1)) (Int (pos 1) Int8 here) (at 1 80)) ∷ [])) here) ∷ Run (Emit (Variable (id 2)) here) ∷ []) here) here)
    (Block (Bind (id 3) (Take here) ∷ Bind (id 4) (Take here) ∷ Run (ReturnComp (Unit here) here) ∷ []) here) here) ∷ Run (Emit (Variable (id 1))
    here) ∷ []) here) (plain BitTy) (plain Int8) (Some (plain UnitTy))

pub merges : answer_of BinaryFormat 100 (loaded (codes "p") merges_core) [] (255 ∷ []) ≡ answers 0 (2 ∷ []) (codes "ended ()\ntaken 2\nwritten 1\n")
unfolding shape-the_row-Val-0 hidden-the_row-Val-0 shape-the_row-Expr-0 hidden-the_row-Expr-0 shape-the_row-Expr-1 hidden-the_row-Expr-1
    shape-the_row-Stmt-0 hidden-the_row-Stmt-0 shape-the_row-Member-1 hidden-the_row-Member-1 shape-the_row-Comp-0 hidden-the_row-Comp-0 hidden
    int_wrap digits
merges = refl

-- where the left side ends, as it left it at its end:
--     let comp main = read[bit] >>> { var n : int8; ({ x <- take; emit x; do { n := 5 } } >>> repeat { y <- take; emit int8(y) }); emit n } >>> write[int8]
abbrev merges_at_the_end_core : Core
merges_at_the_end_core = program (Block (VarMember (var 1 (word Int8) None) ∷ Run (Pipe Serial (Block (Bind (id 2) (Take here) ∷ Run (Emit (Variable
    (id 2)) here) ∷ Run (Do (doing (Assign (id 1) [] (Int (pos 5) Int8 here) ∷ [])) here) ∷ []) here) (Repeat (Block (Bind (id 3) (Take here) ∷ Run
    (Emit (Convert Int8 (Variable (id 3)) here) here) ∷ []) here) here) here) ∷ Run (Emit (Variable (id 1)) here) ∷ []) here) (plain BitTy) (plain
    Int8) (Some (plain UnitTy))

pub merges_at_the_end : answer_of BinaryFormat 100 (loaded (codes "p") merges_at_the_end_core) [] (1 ∷ []) ≡ answers 0 (1 ∷ 5 ∷ [])
    (codes "ended ()\ntaken 1\nwritten 2\n")
unfolding shape-the_row-Val-0 hidden-the_row-Val-0 shape-the_row-Expr-0 hidden-the_row-Expr-0 shape-the_row-Expr-1 hidden-the_row-Expr-1
    shape-the_row-Stmt-0 hidden-the_row-Stmt-0 shape-the_row-Member-1 hidden-the_row-Member-1 shape-the_row-Comp-0 hidden-the_row-Comp-0 hidden
    int_wrap digits
merges_at_the_end = refl

-- and a variable of the right side as that left it:
--     let comp main = read[bit] >>> { var n : int8; (repeat { x <- take; emit x } >>> { a <- take; do { n := 7 }; return () }); emit n } >>> write[int8]
abbrev keeps_the_right_core : Core
keeps_the_right_core = program (Block (VarMember (var 1 (word Int8) None) ∷ Run (Pipe Serial (Repeat (Block (Bind (id 2) (Take here) ∷ Run (Emit
    (Variable (id 2)) here) ∷ []) here) here) (Block (Bind (id 3) (Take here) ∷ Run (Do (doing (Assign (id 1) [] (Int (pos 7) Int8 here) ∷ [])) here)
    ∷ Run (ReturnComp (Unit here) here) ∷ []) here) here) ∷ Run (Emit (Variable (id 1)) here) ∷ []) here) (plain BitTy) (plain Int8) (Some (plain
    UnitTy))

pub keeps_the_right : answer_of BinaryFormat 100 (loaded (codes "p") keeps_the_right_core) [] (1 ∷ []) ≡ answers 0 (7 ∷ [])
    (codes "ended ()\ntaken 1\nwritten 1\n")
unfolding shape-the_row-Val-0 hidden-the_row-Val-0 shape-the_row-Expr-0 hidden-the_row-Expr-0 shape-the_row-Expr-1 hidden-the_row-Expr-1
    shape-the_row-Stmt-0 hidden-the_row-Stmt-0 shape-the_row-Member-1 hidden-the_row-Member-1 shape-the_row-Comp-0 hidden-the_row-Comp-0 hidden
    int_wrap digits
keeps_the_right = refl

-- a top variable that a function of the left side assigns:
--     var n : int8;
--     fun count(x : bit) : bit { n := n + 1; return x }
--     let comp main = read[bit] >>> { (map count >>> { a <- take; b <- take; return () }); emit n } >>> write[int8]
abbrev merges_tops_core : Core
merges_tops_core = core [] ((var 1 (word Int8) None) ∷ []) (function 2 (param 3 (word BitTy) ∷ []) (returning (Assign (id 1) [] (Binary Add Int8
    (Variable (id 1)) (Int (pos 1) Int8 here) (at 2 35)) ∷ []) (Variable (id 3))) ∷ []) [] (Block (Run (Pipe Serial (Map (id 2) 0 here) (Block (Bind
    (id 4) (Take here) ∷ Bind (id 5) (Take here) ∷ Run (ReturnComp (Unit here) here) ∷ []) here) here) ∷ Run (Emit (Variable (id 1)) here) ∷ []) here)
    (plain BitTy) (plain Int8) (Some (plain UnitTy))

pub merges_tops : answer_of BinaryFormat 100 (loaded (codes "p") merges_tops_core) [] (255 ∷ []) ≡ answers 0 (2 ∷ [])
    (codes "ended ()\ntaken 2\nwritten 1\n")
unfolding shape-the_row-Val-0 hidden-the_row-Val-0 shape-the_row-Expr-0 hidden-the_row-Expr-0 shape-the_row-Expr-1 hidden-the_row-Expr-1
    shape-the_row-Stmt-0 hidden-the_row-Stmt-0 shape-the_row-Member-1 hidden-the_row-Member-1 shape-the_row-Comp-0 hidden-the_row-Comp-0 hidden
    int_wrap digits
merges_tops = refl

-- a left side that is called:
--     var n : int8;
--     fun comp f() { repeat { x <- take; do { n := n + 2 }; emit x } }
--     let comp main = read[bit] >>> { (f() >>> { a <- take; return () }); emit n } >>> write[int8]
abbrev merges_calls_core : Core
merges_calls_core = core [] ((var 1 (word Int8) None) ∷ []) [] (instance 2 (plain BitTy) [] (Block (Run (Repeat (Block (Bind (id 3) (Take here) ∷ Run
    (Do (doing (Assign (id 1) [] (Binary Add Int8 (Variable (id 1)) (Int (pos 2) Int8 here) (at 2 48)) ∷ [])) here) ∷ Run (Emit (Variable (id 3))
    here) ∷ []) here) here) ∷ []) here) ∷ []) (Block (Run (Pipe Serial (CallComp (id 2) 0 []) (Block (Bind (id 4) (Take here) ∷ Run (ReturnComp (Unit
    here) here) ∷ []) here) here) ∷ Run (Emit (Variable (id 1)) here) ∷ []) here) (plain BitTy) (plain Int8) (Some (plain UnitTy))

pub merges_calls : answer_of BinaryFormat 100 (loaded (codes "p") merges_calls_core) [] (255 ∷ []) ≡ answers 0 (2 ∷ [])
    (codes "ended ()\ntaken 1\nwritten 1\n")
unfolding shape-the_row-Val-0 hidden-the_row-Val-0 shape-the_row-Expr-0 hidden-the_row-Expr-0 shape-the_row-Expr-1 hidden-the_row-Expr-1
    shape-the_row-Stmt-0 hidden-the_row-Stmt-0 shape-the_row-Member-1 hidden-the_row-Member-1 shape-the_row-Comp-0 hidden-the_row-Comp-0 hidden
    int_wrap digits
merges_calls = refl

-- a variable of the caller while the left side is inside a call:
--     fun comp f() { repeat { x <- take; emit x } }
--     let comp main = read[bit] >>> { var n : int8; ({ do { n := 3 }; f() } >>> { a <- take; return () }); emit n } >>> write[int8]
abbrev caller_of_the_left_core : Core
caller_of_the_left_core = core [] [] [] (instance 1 (plain BitTy) [] (Block (Run (Repeat (Block (Bind (id 2) (Take here) ∷ Run (Emit (Variable (id 2))
    here) ∷ []) here) here) ∷ []) here) ∷ []) (Block (VarMember (var 3 (word Int8) None) ∷ Run (Pipe Serial (Block (Run (Do (doing (Assign (id 3) []
    (Int (pos 3) Int8 here) ∷ [])) here) ∷ Run (CallComp (id 1) 0 []) ∷ []) here) (Block (Bind (id 4) (Take here) ∷ Run (ReturnComp (Unit here) here)
    ∷ []) here) here) ∷ Run (Emit (Variable (id 3)) here) ∷ []) here) (plain BitTy) (plain Int8) (Some (plain UnitTy))

pub caller_of_the_left : answer_of BinaryFormat 100 (loaded (codes "p") caller_of_the_left_core) [] (255 ∷ []) ≡ answers 0 (3 ∷ [])
    (codes "ended ()\ntaken 1\nwritten 1\n")
unfolding shape-the_row-Val-0 hidden-the_row-Val-0 shape-the_row-Expr-0 hidden-the_row-Expr-0 shape-the_row-Expr-1 hidden-the_row-Expr-1
    shape-the_row-Stmt-0 hidden-the_row-Stmt-0 shape-the_row-Member-1 hidden-the_row-Member-1 shape-the_row-Comp-0 hidden-the_row-Comp-0 hidden
    int_wrap digits
caller_of_the_left = refl

-- the middle of three sides:
--     let comp main = read[bit] >>> { var n : int8; (repeat { x <- take; emit x } >>> repeat { y <- take; do { n := n + 1 }; emit y } >>> { a <- take; b <- take; return () }); emit n } >>> write[int8]
abbrev three_sides_core : Core
three_sides_core = program (Block (VarMember (var 1 (word Int8) None) ∷ Run (Pipe Serial (Pipe Serial (Repeat (Block (Bind (id 2) (Take here) ∷ Run
    (Emit (Variable (id 2)) here) ∷ []) here) here) (Repeat (Block (Bind (id 3) (Take here) ∷ Run (Do (doing (Assign (id 1) [] (Binary Add Int8
    (Variable (id 1)) (Int (pos 1) Int8 here) (at 1 113)) ∷ [])) here) ∷ Run (Emit (Variable (id 3)) here) ∷ []) here) here) here) (Block (Bind (id 4)
    (Take here) ∷ Bind (id 5) (Take here) ∷ Run (ReturnComp (Unit here) here) ∷ []) here) here) ∷ Run (Emit (Variable (id 1)) here) ∷ []) here) (plain
    BitTy) (plain Int8) (Some (plain UnitTy))

pub three_sides : answer_of BinaryFormat 100 (loaded (codes "p") three_sides_core) [] (255 ∷ []) ≡ answers 0 (2 ∷ [])
    (codes "ended ()\ntaken 2\nwritten 1\n")
unfolding shape-the_row-Val-0 hidden-the_row-Val-0 shape-the_row-Expr-0 hidden-the_row-Expr-0 shape-the_row-Expr-1 hidden-the_row-Expr-1
    shape-the_row-Stmt-0 hidden-the_row-Stmt-0 shape-the_row-Member-1 hidden-the_row-Member-1 shape-the_row-Comp-0 hidden-the_row-Comp-0 hidden
    int_wrap digits
three_sides = refl

-- two sides that call one function keep their own names:
--     fun comp add(d : int8) { var t : int8 := d; repeat { x <- take; do { t := t + 1 }; emit x + t } }
--     let comp main = read[int8] >>> add(0) >>> add(10) >>> write[int8]
abbrev same_function_core : Core
same_function_core = core [] [] [] (instance 1 (plain Int8) (param 2 (word Int8) ∷ []) (Block (VarMember (var 3 (word Int8) (Some (Variable (id 2))))
    ∷ Run (Repeat (Block (Bind (id 4) (Take here) ∷ Run (Do (doing (Assign (id 3) [] (Binary Add Int8 (Variable (id 3)) (Int (pos 1) Int8 here) (at 1
    77)) ∷ [])) here) ∷ Run (Emit (Binary Add Int8 (Variable (id 4)) (Variable (id 3)) (at 1 91)) here) ∷ []) here) here) ∷ []) here) ∷ []) (Pipe
    Serial (CallComp (id 1) 0 ((Int (pos 0) Int8 here) ∷ [])) (CallComp (id 1) 0 ((Int (pos 10) Int8 here) ∷ [])) here) (plain Int8) (plain Int8) None

pub same_function : answer_of BinaryFormat 100 (loaded (codes "p") same_function_core) [] (0 ∷ 0 ∷ []) ≡ answers 0 (12 ∷ 14 ∷ [])
    (codes "input ended\ntaken 2\nwritten 2\n")
unfolding shape-the_row-Val-0 hidden-the_row-Val-0 shape-the_row-Expr-0 hidden-the_row-Expr-0 shape-the_row-Expr-1 hidden-the_row-Expr-1
    shape-the_row-Stmt-0 hidden-the_row-Stmt-0 shape-the_row-Member-1 hidden-the_row-Member-1 shape-the_row-Comp-0 hidden-the_row-Comp-0 hidden
    int_wrap digits
same_function = refl

-- the left side's end of input is the whole's:
--     let comp main = read[bit] >>> repeat { x <- take; y <- take; emit x ^ y } >>> repeat { z <- take; emit z } >>> write[bit]
abbrev left_starves_core : Core
left_starves_core = program (Pipe Serial (Repeat (Block (Bind (id 1) (Take here) ∷ Bind (id 2) (Take here) ∷ Run (Emit (Binary BitXor BitTy (Variable
    (id 1)) (Variable (id 2)) (at 1 69)) here) ∷ []) here) here) (Repeat (Block (Bind (id 3) (Take here) ∷ Run (Emit (Variable (id 3)) here) ∷ [])
    here) here) here) (plain BitTy) (plain BitTy) None

pub left_starves : answer_of BinaryFormat 100 (loaded (codes "p") left_starves_core) [] (2 ∷ []) ≡ answers 0 (1 ∷ [])
    (codes "input ended\ntaken 8\nwritten 4\n")
unfolding shape-the_row-Val-0 hidden-the_row-Val-0 shape-the_row-Expr-0 hidden-the_row-Expr-0 shape-the_row-Expr-1 hidden-the_row-Expr-1
    shape-the_row-Stmt-0 hidden-the_row-Stmt-0 shape-the_row-Member-1 hidden-the_row-Member-1 shape-the_row-Comp-0 hidden-the_row-Comp-0 hidden
    int_wrap digits
left_starves = refl

-- where the left side ends, the names of the right side's block leave:
--     let comp main = read[int8] >>> repeat ({ x <- take; emit x } >>> repeat { y <- take; emit y; z <- take; emit z }) >>> write[int8]
abbrev names_leave_core : Core
names_leave_core = program (Repeat (Pipe Serial (Block (Bind (id 1) (Take here) ∷ Run (Emit (Variable (id 1)) here) ∷ []) here) (Repeat (Block (Bind
    (id 2) (Take here) ∷ Run (Emit (Variable (id 2)) here) ∷ Bind (id 3) (Take here) ∷ Run (Emit (Variable (id 3)) here) ∷ []) here) here) here) here)
    (plain Int8) (plain Int8) None

pub names_leave : answer_of BinaryFormat 100 (loaded (codes "p") names_leave_core) [] (5 ∷ 7 ∷ []) ≡ answers 0 (5 ∷ 7 ∷ [])
    (codes "input ended\ntaken 2\nwritten 2\n")
unfolding shape-the_row-Val-0 hidden-the_row-Val-0 shape-the_row-Expr-0 hidden-the_row-Expr-0 shape-the_row-Expr-1 hidden-the_row-Expr-1
    shape-the_row-Stmt-0 hidden-the_row-Stmt-0 shape-the_row-Member-1 hidden-the_row-Member-1 shape-the_row-Comp-0 hidden-the_row-Comp-0 hidden
    int_wrap digits
names_leave = refl
