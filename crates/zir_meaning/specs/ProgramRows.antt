-- Worked rows that compute: whole programs as a radio engineer would write them.
use Rattle.std.specs.Prelude.{pos, true, [], ◌∷◌, Some, None, codes, ◌≡◌, refl}
use Rattle.std.specs.Int.{int_wrap}
use Rattle.std.specs.Fmt.{digits}
use denote.Hole.Carrier.{hidden}
use Rattle.zir_tree.specs.declared.format.Format.TheVariants.{Binary as BinaryFormat, Text as TextFormat}
use Rattle.zir_tree.specs.declared.types.Base.TheVariants.{Unit as UnitTy, Bit as BitTy, Int8, Int16, Int32, Complex16}
use Rattle.zir_tree.specs.declared.value.Val.TheBlock.{shape-the_row-Val-0, hidden-the_row-Val-0}
use Rattle.zir_tree.specs.declared.expr.Operator.TheVariants.{BitXor, Subtract, Multiply, Divide}
use Rattle.zir_tree.specs.declared.expr.Callee.TheVariants.{Function as FunctionCallee}
use Rattle.zir_tree.specs.declared.expr.Expr.{Unit, Bit, Int, Variable, Binary, Index, Slice, Call, Array}
use Rattle.zir_tree.specs.declared.expr.Expr.TheBlock.{shape-the_row-Expr-0, hidden-the_row-Expr-0, shape-the_row-Expr-1, hidden-the_row-Expr-1}
use Rattle.zir_tree.specs.declared.stmt.Access.TheVariants.{Index as StepTo, Slice as StepRange}
use Rattle.zir_tree.specs.declared.stmt.Stmt.{Var as VarStmt, Assign, Error}
use Rattle.zir_tree.specs.declared.stmt.Stmt.TheBlock.{shape-the_row-Stmt-0, hidden-the_row-Stmt-0}
use Rattle.zir_tree.specs.declared.comp.Link.TheVariants.{Serial, Parallel}
use Rattle.zir_tree.specs.declared.comp.Comp.{Take, Takes, Emit, Return as ReturnComp, Do, Repeat, Map, Call as CallComp, Block, Pipe}
use Rattle.zir_tree.specs.declared.comp.Comp.TheBlock.{shape-the_row-Member-1, hidden-the_row-Member-1, shape-the_row-Comp-0, hidden-the_row-Comp-0}
use Rattle.zir_tree.specs.declared.comp.Member.{Bind, Var as VarMember, Run}
use Rattle.zir_tree.specs.declared.program.Core.{Core}
use Rattle.zir_meaning.specs.Answer.{answer_of}
use Rattle.zir_meaning.specs.Notation.{at, here, id, ty, plain, written, word, var, param, doing, returning, function, instance, core, program, loaded, answers}

-- each bit turned:
--     fun flip(x : bit) : bit { return x ^ '1 }
--     let comp main = read[bit] >>> map flip >>> write[bit]
abbrev flips_core : Core
flips_core = core [] [] (function 1 (param 2 (word BitTy) ∷ []) (returning [] (Binary BitXor BitTy (Variable (id 2)) (Bit true here) (at 1 36))) ∷ [])
    [] (Map (id 1) 0 here) (plain BitTy) (plain BitTy) None

pub flips : answer_of BinaryFormat 100 (loaded (codes "p") flips_core) [] (0 ∷ 255 ∷ []) ≡ answers 0 (255 ∷ 0 ∷ [])
    (codes "input ended\ntaken 16\nwritten 16\n")
unfolding shape-the_row-Val-0 hidden-the_row-Val-0 shape-the_row-Expr-0 hidden-the_row-Expr-0 shape-the_row-Expr-1 hidden-the_row-Expr-1
    shape-the_row-Stmt-0 hidden-the_row-Stmt-0 shape-the_row-Member-1 hidden-the_row-Member-1 shape-the_row-Comp-0 hidden-the_row-Comp-0 hidden
    int_wrap digits
flips = refl

-- without input nothing is written:
--     fun flip(x : bit) : bit { return x ^ '1 }
--     let comp main = read[bit] >>> map flip >>> write[bit]
abbrev flips_nothing_core : Core
flips_nothing_core = core [] [] (function 1 (param 2 (word BitTy) ∷ []) (returning [] (Binary BitXor BitTy (Variable (id 2)) (Bit true here) (at 1
    36))) ∷ []) [] (Map (id 1) 0 here) (plain BitTy) (plain BitTy) None

pub flips_nothing : answer_of BinaryFormat 100 (loaded (codes "p") flips_nothing_core) [] [] ≡ answers 0 []
    (codes "input ended\ntaken 0\nwritten 0\n")
unfolding shape-the_row-Val-0 hidden-the_row-Val-0 shape-the_row-Expr-0 hidden-the_row-Expr-0 shape-the_row-Expr-1 hidden-the_row-Expr-1
    shape-the_row-Stmt-0 hidden-the_row-Stmt-0 shape-the_row-Member-1 hidden-the_row-Member-1 shape-the_row-Comp-0 hidden-the_row-Comp-0 hidden
    int_wrap digits
flips_nothing = refl

-- two bits are added:
--     let comp main = read[bit] >>> { x <- take; y <- take; emit x ^ y; return () } >>> write[bit]
abbrev adds_two_core : Core
adds_two_core = program (Block (Bind (id 1) (Take here) ∷ Bind (id 2) (Take here) ∷ Run (Emit (Binary BitXor BitTy (Variable (id 1)) (Variable (id 2))
    (at 1 62)) here) ∷ Run (ReturnComp (Unit here) here) ∷ []) here) (plain BitTy) (plain BitTy) (Some (plain UnitTy))

pub adds_two : answer_of BinaryFormat 100 (loaded (codes "p") adds_two_core) [] (1 ∷ []) ≡ answers 0 (1 ∷ []) (codes "ended ()\ntaken 2\nwritten 1\n")
unfolding shape-the_row-Val-0 hidden-the_row-Val-0 shape-the_row-Expr-0 hidden-the_row-Expr-0 shape-the_row-Expr-1 hidden-the_row-Expr-1
    shape-the_row-Stmt-0 hidden-the_row-Stmt-0 shape-the_row-Member-1 hidden-the_row-Member-1 shape-the_row-Comp-0 hidden-the_row-Comp-0 hidden
    int_wrap digits
adds_two = refl

-- a second program goes on behind the first one's elements, and the output is padded once:
--     let comp main = read[bit] >>> takes 3 >>> write[bit]
--     fun flip(x : bit) : bit { return x ^ '1 }
--     let comp main = read[bit] >>> repeat { x <- take; emit x } >>> write[bit]
abbrev in_a_row_core : Core
in_a_row_core = program (Takes 3 here) (plain BitTy) (plain BitTy) (Some (ty (3 ∷ []) BitTy))

abbrev in_a_row_core1 : Core
in_a_row_core1 = core [] [] (function 1 (param 2 (word BitTy) ∷ []) (returning [] (Binary BitXor BitTy (Variable (id 2)) (Bit true here) (at 1 36))) ∷
    []) [] (Repeat (Block (Bind (id 3) (Take here) ∷ Run (Emit (Variable (id 3)) here) ∷ []) here) here) (plain BitTy) (plain BitTy) None

pub in_a_row : answer_of BinaryFormat 100 (loaded (codes "a") in_a_row_core) (loaded (codes "b") in_a_row_core1 ∷ []) (255 ∷ 0 ∷ []) ≡ answers 0 (31 ∷
    0 ∷ []) (codes "input ended\ntaken 16\nwritten 13\n")
unfolding shape-the_row-Val-0 hidden-the_row-Val-0 shape-the_row-Expr-0 hidden-the_row-Expr-0 shape-the_row-Expr-1 hidden-the_row-Expr-1
    shape-the_row-Stmt-0 hidden-the_row-Stmt-0 shape-the_row-Member-1 hidden-the_row-Member-1 shape-the_row-Comp-0 hidden-the_row-Comp-0 hidden
    int_wrap digits
in_a_row = refl

-- a second program has the ticks that the first one left:
--     let comp main = read[bit] >>> takes 3 >>> write[bit]
--     let comp main = read[bit] >>> { emit '1; emit '1; emit '1 } >>> write[bit]
abbrev ticks_left_core : Core
ticks_left_core = program (Takes 3 here) (plain BitTy) (plain BitTy) (Some (ty (3 ∷ []) BitTy))

abbrev ticks_left_core1 : Core
ticks_left_core1 = program (Block (Run (Emit (Bit true here) here) ∷ Run (Emit (Bit true here) here) ∷ Run (Emit (Bit true here) here) ∷ []) here)
    (plain BitTy) (plain BitTy) (Some (plain UnitTy))

pub ticks_left : answer_of BinaryFormat 5 (loaded (codes "a") ticks_left_core) (loaded (codes "b") ticks_left_core1 ∷ []) (255 ∷ []) ≡ answers 5 (3 ∷
    []) (codes "out of ticks 5\nwritten 2\n")
unfolding shape-the_row-Val-0 hidden-the_row-Val-0 shape-the_row-Expr-0 hidden-the_row-Expr-0 shape-the_row-Expr-1 hidden-the_row-Expr-1
    shape-the_row-Stmt-0 hidden-the_row-Stmt-0 shape-the_row-Member-1 hidden-the_row-Member-1 shape-the_row-Comp-0 hidden-the_row-Comp-0 hidden
    int_wrap digits
ticks_left = refl

-- no program follows a trap:
--     let comp main = read[bit] >>> do { error "no" } >>> write[bit]
--     let comp main = read[bit] >>> emit '1 >>> write[bit]
abbrev not_behind_a_trap_core : Core
not_behind_a_trap_core = program (Do (doing (Error [] (at 1 36) ∷ [])) here) (plain BitTy) (plain BitTy) (Some (plain UnitTy))

abbrev not_behind_a_trap_core1 : Core
not_behind_a_trap_core1 = program (Emit (Bit true here) here) (plain BitTy) (plain BitTy) (Some (plain UnitTy))

pub not_behind_a_trap : answer_of BinaryFormat 5 (loaded (codes "a") not_behind_a_trap_core) (loaded (codes "b") not_behind_a_trap_core1 ∷ []) (255 ∷
    []) ≡ answers 4 [] (codes "trap 5 in a at 1:36\ntaken 0\nwritten 0\n")
unfolding shape-the_row-Val-0 hidden-the_row-Val-0 shape-the_row-Expr-0 hidden-the_row-Expr-0 shape-the_row-Expr-1 hidden-the_row-Expr-1
    shape-the_row-Stmt-0 hidden-the_row-Stmt-0 shape-the_row-Member-1 hidden-the_row-Member-1 shape-the_row-Comp-0 hidden-the_row-Comp-0 hidden
    int_wrap digits
not_behind_a_trap = refl

-- a program follows the end of the input:
--     let comp main = read[bit] >>> takes 9 >>> write[bit]
--     let comp main = read[bit] >>> emit '1 >>> write[bit]
abbrev behind_the_end_core : Core
behind_the_end_core = program (Takes 9 here) (plain BitTy) (plain BitTy) (Some (ty (9 ∷ []) BitTy))

abbrev behind_the_end_core1 : Core
behind_the_end_core1 = program (Emit (Bit true here) here) (plain BitTy) (plain BitTy) (Some (plain UnitTy))

pub behind_the_end : answer_of BinaryFormat 50 (loaded (codes "a") behind_the_end_core) (loaded (codes "b") behind_the_end_core1 ∷ []) (255 ∷ []) ≡
    answers 0 (1 ∷ []) (codes "ended ()\ntaken 8\nwritten 1\n")
unfolding shape-the_row-Val-0 hidden-the_row-Val-0 shape-the_row-Expr-0 hidden-the_row-Expr-0 shape-the_row-Expr-1 hidden-the_row-Expr-1
    shape-the_row-Stmt-0 hidden-the_row-Stmt-0 shape-the_row-Member-1 hidden-the_row-Member-1 shape-the_row-Comp-0 hidden-the_row-Comp-0 hidden
    int_wrap digits
behind_the_end = refl

-- no program follows malformed input:
--     let comp main = read[int8] >>> takes 9 >>> write[int8]
--     let comp main = read[int8] >>> emit 1 >>> write[int32]
abbrev not_behind_malformed_core : Core
not_behind_malformed_core = program (Takes 9 here) (plain Int8) (plain Int8) (Some (ty (9 ∷ []) Int8))

abbrev not_behind_malformed_core1 : Core
not_behind_malformed_core1 = program (Emit (Int (pos 1) Int32 here) here) (plain Int8) (plain Int32) (Some (plain UnitTy))

pub not_behind_malformed : answer_of TextFormat 50 (loaded (codes "a") not_behind_malformed_core) (loaded (codes "b") not_behind_malformed_core1 ∷ [])
    (49 ∷ 44 ∷ 50 ∷ 44 ∷ 120 ∷ []) ≡ answers 6 [] (codes "malformed input at 4\ntaken 2\nwritten 0\n")
unfolding shape-the_row-Val-0 hidden-the_row-Val-0 shape-the_row-Expr-0 hidden-the_row-Expr-0 shape-the_row-Expr-1 hidden-the_row-Expr-1
    shape-the_row-Stmt-0 hidden-the_row-Stmt-0 shape-the_row-Member-1 hidden-the_row-Member-1 shape-the_row-Comp-0 hidden-the_row-Comp-0 hidden
    int_wrap digits
not_behind_malformed = refl

-- a chain ends with its last operand, and what it read too far is given to what follows:
--     fun flip(x : bit) : bit { return x ^ '1 }
--     let comp main = read[bit] >>> { (map flip |>>>| { x <- take; y <- take; emit x; emit y }); repeat { z <- take; emit z } } >>> write[bit]
abbrev goes_on_behind_core : Core
goes_on_behind_core = core [] [] (function 1 (param 2 (word BitTy) ∷ []) (returning [] (Binary BitXor BitTy (Variable (id 2)) (Bit true here) (at 1
    36))) ∷ []) [] (Block (Run (Pipe Parallel (Map (id 1) 0 here) (Block (Bind (id 3) (Take here) ∷ Bind (id 4) (Take here) ∷ Run (Emit (Variable (id
    3)) here) ∷ Run (Emit (Variable (id 4)) here) ∷ []) here) here) ∷ Run (Repeat (Block (Bind (id 5) (Take here) ∷ Run (Emit (Variable (id 5)) here)
    ∷ []) here) here) ∷ []) here) (plain BitTy) (plain BitTy) None

pub goes_on_behind : answer_of BinaryFormat 100 (loaded (codes "p") goes_on_behind_core) [] (0 ∷ 240 ∷ []) ≡ answers 0 (3 ∷ 240 ∷ [])
    (codes "input ended\ntaken 16\nwritten 16\n")
unfolding shape-the_row-Val-0 hidden-the_row-Val-0 shape-the_row-Expr-0 hidden-the_row-Expr-0 shape-the_row-Expr-1 hidden-the_row-Expr-1
    shape-the_row-Stmt-0 hidden-the_row-Stmt-0 shape-the_row-Member-1 hidden-the_row-Member-1 shape-the_row-Comp-0 hidden-the_row-Comp-0 hidden
    int_wrap digits
goes_on_behind = refl

-- the scrambler of IEEE 802.11a on three bytes of zero bits:
--     var st : arr[7] bit := {'1, '1, '1, '1, '1, '1, '1};
--     fun scramble(x : bit) : bit { var f : bit := st[6] ^ st[3]; st[1, 6] := st[0, 6]; st[0] := f; return x ^ f }
--     let comp main = read[bit] >>> map scramble >>> write[bit]
abbrev scrambles_core : Core
scrambles_core = core [] ((var 1 (written (7 ∷ []) BitTy) (Some (Array ((Bit true here) ∷ (Bit true here) ∷ (Bit true here) ∷ (Bit true here) ∷ (Bit
    true here) ∷ (Bit true here) ∷ (Bit true here) ∷ []) here))) ∷ []) (function 2 (param 3 (word BitTy) ∷ []) (returning (VarStmt (var 4 (word BitTy)
    (Some (Binary BitXor BitTy (Index (Variable (id 1)) (Int (pos 6) Int32 here) (at 2 48)) (Index (Variable (id 1)) (Int (pos 3) Int32 here) (at 2
    56)) (at 2 52)))) ∷ Assign (id 1) (StepRange (Int (pos 1) Int32 here) 6 (at 2 63) ∷ []) (Slice (Variable (id 1)) (Int (pos 0) Int32 here) 6 (at 2
    75)) ∷ Assign (id 1) (StepTo (Int (pos 0) Int32 here) (at 2 85) ∷ []) (Variable (id 4)) ∷ []) (Binary BitXor BitTy (Variable (id 3)) (Variable (id
    4)) (at 2 104))) ∷ []) [] (Map (id 2) 0 here) (plain BitTy) (plain BitTy) None

pub scrambles : answer_of BinaryFormat 100 (loaded (codes "p") scrambles_core) [] (0 ∷ 0 ∷ 0 ∷ []) ≡ answers 0 (112 ∷ 79 ∷ 147 ∷ [])
    (codes "input ended\ntaken 24\nwritten 24\n")
unfolding shape-the_row-Val-0 hidden-the_row-Val-0 shape-the_row-Expr-0 hidden-the_row-Expr-0 shape-the_row-Expr-1 hidden-the_row-Expr-1
    shape-the_row-Stmt-0 hidden-the_row-Stmt-0 shape-the_row-Member-1 hidden-the_row-Member-1 shape-the_row-Comp-0 hidden-the_row-Comp-0 hidden
    int_wrap digits
scrambles = refl

-- the convolutional code of constraint length 7 with generators 133 and 171:
--     fun comp enc() { var h : arr[6] bit; repeat { x <- take; emit x ^ h[1] ^ h[2] ^ h[4] ^ h[5]; emit x ^ h[0] ^ h[1] ^ h[2] ^ h[5]; do { h[1, 5] := h[0, 5]; h[0] := x } } }
--     let comp main = read[bit] >>> enc() >>> write[bit]
abbrev encodes_core : Core
encodes_core = core [] [] [] (instance 1 (plain BitTy) [] (Block (VarMember (var 2 (written (6 ∷ []) BitTy) None) ∷ Run (Repeat (Block (Bind (id 3)
    (Take here) ∷ Run (Emit (Binary BitXor BitTy (Binary BitXor BitTy (Binary BitXor BitTy (Binary BitXor BitTy (Variable (id 3)) (Index (Variable (id
    2)) (Int (pos 1) Int32 here) (at 1 68)) (at 1 65)) (Index (Variable (id 2)) (Int (pos 2) Int32 here) (at 1 75)) (at 1 72)) (Index (Variable (id
    2)) (Int (pos 4) Int32 here) (at 1 82)) (at 1 79)) (Index (Variable (id 2)) (Int (pos 5) Int32 here) (at 1 89)) (at 1 86)) here) ∷ Run (Emit
    (Binary BitXor BitTy (Binary BitXor BitTy (Binary BitXor BitTy (Binary BitXor BitTy (Variable (id 3)) (Index (Variable (id 2)) (Int (pos 0) Int32
    here) (at 1 104)) (at 1 101)) (Index (Variable (id 2)) (Int (pos 1) Int32 here) (at 1 111)) (at 1 108)) (Index (Variable (id 2)) (Int (pos 2)
    Int32 here) (at 1 118)) (at 1 115)) (Index (Variable (id 2)) (Int (pos 5) Int32 here) (at 1 125)) (at 1 122)) here) ∷ Run (Do (doing (Assign (id
    2) (StepRange (Int (pos 1) Int32 here) 5 (at 1 136) ∷ []) (Slice (Variable (id 2)) (Int (pos 0) Int32 here) 5 (at 1 147)) ∷ Assign (id 2) (StepTo
    (Int (pos 0) Int32 here) (at 1 156) ∷ []) (Variable (id 3)) ∷ [])) here) ∷ []) here) here) ∷ []) here) ∷ []) (CallComp (id 1) 0 []) (plain BitTy)
    (plain BitTy) None

pub encodes : answer_of BinaryFormat 100 (loaded (codes "p") encodes_core) [] (1 ∷ []) ≡ answers 0 (251 ∷ 52 ∷ [])
    (codes "input ended\ntaken 8\nwritten 16\n")
unfolding shape-the_row-Val-0 hidden-the_row-Val-0 shape-the_row-Expr-0 hidden-the_row-Expr-0 shape-the_row-Expr-1 hidden-the_row-Expr-1
    shape-the_row-Stmt-0 hidden-the_row-Stmt-0 shape-the_row-Member-1 hidden-the_row-Member-1 shape-the_row-Comp-0 hidden-the_row-Comp-0 hidden
    int_wrap digits
encodes = refl

-- a trap on the left is the end where it is demanded:
--     fun div(x : int8) : int8 { return 10 / x }
--     let comp main = read[int8] >>> map div >>> repeat { x <- take; emit x } >>> write[int8]
abbrev divides_core : Core
divides_core = core [] [] (function 1 (param 2 (word Int8) ∷ []) (returning [] (Binary Divide Int8 (Int (pos 10) Int8 here) (Variable (id 2)) (at 1
    38))) ∷ []) [] (Pipe Serial (Map (id 1) 0 here) (Repeat (Block (Bind (id 3) (Take here) ∷ Run (Emit (Variable (id 3)) here) ∷ []) here) here)
    here) (plain Int8) (plain Int8) None

pub divides : answer_of BinaryFormat 100 (loaded (codes "p") divides_core) [] (5 ∷ 2 ∷ 0 ∷ []) ≡ answers 4 (2 ∷ 5 ∷ [])
    (codes "trap 1 in p at 1:38\ntaken 3\nwritten 2\n")
unfolding shape-the_row-Val-0 hidden-the_row-Val-0 shape-the_row-Expr-0 hidden-the_row-Expr-0 shape-the_row-Expr-1 hidden-the_row-Expr-1
    shape-the_row-Stmt-0 hidden-the_row-Stmt-0 shape-the_row-Member-1 hidden-the_row-Member-1 shape-the_row-Comp-0 hidden-the_row-Comp-0 hidden
    int_wrap digits
divides = refl

-- a trap that is never demanded is none:
--     fun div(x : int8) : int8 { return 10 / x }
--     let comp main = read[int8] >>> map div |>>>| { a <- take; b <- take; emit a; emit b } >>> write[int8]
abbrev never_demanded_core : Core
never_demanded_core = core [] [] (function 1 (param 2 (word Int8) ∷ []) (returning [] (Binary Divide Int8 (Int (pos 10) Int8 here) (Variable (id 2))
    (at 1 38))) ∷ []) [] (Pipe Parallel (Map (id 1) 0 here) (Block (Bind (id 3) (Take here) ∷ Bind (id 4) (Take here) ∷ Run (Emit (Variable (id 3))
    here) ∷ Run (Emit (Variable (id 4)) here) ∷ []) here) here) (plain Int8) (plain Int8) (Some (plain UnitTy))

pub never_demanded : answer_of BinaryFormat 100 (loaded (codes "p") never_demanded_core) [] (5 ∷ 2 ∷ 0 ∷ []) ≡ answers 0 (2 ∷ 5 ∷ [])
    (codes "ended ()\ntaken 2\nwritten 2\n")
unfolding shape-the_row-Val-0 hidden-the_row-Val-0 shape-the_row-Expr-0 hidden-the_row-Expr-0 shape-the_row-Expr-1 hidden-the_row-Expr-1
    shape-the_row-Stmt-0 hidden-the_row-Stmt-0 shape-the_row-Member-1 hidden-the_row-Member-1 shape-the_row-Comp-0 hidden-the_row-Comp-0 hidden
    int_wrap digits
never_demanded = refl

-- two outputs in five ticks:
--     let comp main = read[bit] >>> repeat { emit '1 } >>> write[bit]
abbrev for_ever_core : Core
for_ever_core = program (Repeat (Block (Run (Emit (Bit true here) here) ∷ []) here) here) (plain BitTy) (plain BitTy) None

pub for_ever : answer_of BinaryFormat 5 (loaded (codes "p") for_ever_core) [] (0 ∷ []) ≡ answers 5 (3 ∷ []) (codes "out of ticks 5\nwritten 2\n")
unfolding shape-the_row-Val-0 hidden-the_row-Val-0 shape-the_row-Expr-0 hidden-the_row-Expr-0 shape-the_row-Expr-1 hidden-the_row-Expr-1
    shape-the_row-Stmt-0 hidden-the_row-Stmt-0 shape-the_row-Member-1 hidden-the_row-Member-1 shape-the_row-Comp-0 hidden-the_row-Comp-0 hidden
    int_wrap digits
for_ever = refl

-- starving needs no tick:
--     let comp main = read[bit] >>> { emit '1; x <- take; emit x } >>> write[bit]
abbrev starves_core : Core
starves_core = program (Block (Run (Emit (Bit true here) here) ∷ Bind (id 1) (Take here) ∷ Run (Emit (Variable (id 1)) here) ∷ []) here) (plain BitTy)
    (plain BitTy) (Some (plain UnitTy))

pub starves : answer_of BinaryFormat 1 (loaded (codes "p") starves_core) [] [] ≡ answers 0 (1 ∷ []) (codes "input ended\ntaken 0\nwritten 1\n")
unfolding shape-the_row-Val-0 hidden-the_row-Val-0 shape-the_row-Expr-0 hidden-the_row-Expr-0 shape-the_row-Expr-1 hidden-the_row-Expr-1
    shape-the_row-Stmt-0 hidden-the_row-Stmt-0 shape-the_row-Member-1 hidden-the_row-Member-1 shape-the_row-Comp-0 hidden-the_row-Comp-0 hidden
    int_wrap digits
starves = refl

-- an element is taken at a tick:
--     let comp main = read[bit] >>> { emit '1; x <- take; emit x } >>> write[bit]
abbrev is_spent_core : Core
is_spent_core = program (Block (Run (Emit (Bit true here) here) ∷ Bind (id 1) (Take here) ∷ Run (Emit (Variable (id 1)) here) ∷ []) here) (plain
    BitTy) (plain BitTy) (Some (plain UnitTy))

pub is_spent : answer_of BinaryFormat 1 (loaded (codes "p") is_spent_core) [] (1 ∷ []) ≡ answers 5 (1 ∷ []) (codes "out of ticks 1\nwritten 1\n")
unfolding shape-the_row-Val-0 hidden-the_row-Val-0 shape-the_row-Expr-0 hidden-the_row-Expr-0 shape-the_row-Expr-1 hidden-the_row-Expr-1
    shape-the_row-Stmt-0 hidden-the_row-Stmt-0 shape-the_row-Member-1 hidden-the_row-Member-1 shape-the_row-Comp-0 hidden-the_row-Comp-0 hidden
    int_wrap digits
is_spent = refl

-- the end stands at eight ticks, three on the left and five on the right:
--     fun flip(x : bit) : bit { return x ^ '1 }
--     let comp main = read[bit] >>> { x <- take; emit x; return 7 } >>> map flip >>> write[bit]
abbrev ends_at_8_core : Core
ends_at_8_core = core [] [] (function 1 (param 2 (word BitTy) ∷ []) (returning [] (Binary BitXor BitTy (Variable (id 2)) (Bit true here) (at 1 36))) ∷
    []) [] (Pipe Serial (Block (Bind (id 3) (Take here) ∷ Run (Emit (Variable (id 3)) here) ∷ Run (ReturnComp (Int (pos 7) Int32 here) here) ∷ [])
    here) (Map (id 1) 0 here) here) (plain BitTy) (plain BitTy) (Some (plain Int32))

pub ends_at_8 : answer_of BinaryFormat 8 (loaded (codes "p") ends_at_8_core) [] (0 ∷ []) ≡ answers 0 (1 ∷ []) (codes "ended 7\ntaken 1\nwritten 1\n")
unfolding shape-the_row-Val-0 hidden-the_row-Val-0 shape-the_row-Expr-0 hidden-the_row-Expr-0 shape-the_row-Expr-1 hidden-the_row-Expr-1
    shape-the_row-Stmt-0 hidden-the_row-Stmt-0 shape-the_row-Member-1 hidden-the_row-Member-1 shape-the_row-Comp-0 hidden-the_row-Comp-0 hidden
    int_wrap digits
ends_at_8 = refl

-- with seven ticks the output stands, and the end does not:
--     fun flip(x : bit) : bit { return x ^ '1 }
--     let comp main = read[bit] >>> { x <- take; emit x; return 7 } >>> map flip >>> write[bit]
abbrev spent_at_7_core : Core
spent_at_7_core = core [] [] (function 1 (param 2 (word BitTy) ∷ []) (returning [] (Binary BitXor BitTy (Variable (id 2)) (Bit true here) (at 1 36)))
    ∷ []) [] (Pipe Serial (Block (Bind (id 3) (Take here) ∷ Run (Emit (Variable (id 3)) here) ∷ Run (ReturnComp (Int (pos 7) Int32 here) here) ∷ [])
    here) (Map (id 1) 0 here) here) (plain BitTy) (plain BitTy) (Some (plain Int32))

pub spent_at_7 : answer_of BinaryFormat 7 (loaded (codes "p") spent_at_7_core) [] (0 ∷ []) ≡ answers 5 (1 ∷ []) (codes "out of ticks 7\nwritten 1\n")
unfolding shape-the_row-Val-0 hidden-the_row-Val-0 shape-the_row-Expr-0 hidden-the_row-Expr-0 shape-the_row-Expr-1 hidden-the_row-Expr-1
    shape-the_row-Stmt-0 hidden-the_row-Stmt-0 shape-the_row-Member-1 hidden-the_row-Member-1 shape-the_row-Comp-0 hidden-the_row-Comp-0 hidden
    int_wrap digits
spent_at_7 = refl

-- the output stands at six ticks:
--     fun flip(x : bit) : bit { return x ^ '1 }
--     let comp main = read[bit] >>> { x <- take; emit x; return 7 } >>> map flip >>> write[bit]
abbrev spent_at_5_core : Core
spent_at_5_core = core [] [] (function 1 (param 2 (word BitTy) ∷ []) (returning [] (Binary BitXor BitTy (Variable (id 2)) (Bit true here) (at 1 36)))
    ∷ []) [] (Pipe Serial (Block (Bind (id 3) (Take here) ∷ Run (Emit (Variable (id 3)) here) ∷ Run (ReturnComp (Int (pos 7) Int32 here) here) ∷ [])
    here) (Map (id 1) 0 here) here) (plain BitTy) (plain BitTy) (Some (plain Int32))

pub spent_at_5 : answer_of BinaryFormat 5 (loaded (codes "p") spent_at_5_core) [] (0 ∷ []) ≡ answers 5 [] (codes "out of ticks 5\nwritten 0\n")
unfolding shape-the_row-Val-0 hidden-the_row-Val-0 shape-the_row-Expr-0 hidden-the_row-Expr-0 shape-the_row-Expr-1 hidden-the_row-Expr-1
    shape-the_row-Stmt-0 hidden-the_row-Stmt-0 shape-the_row-Member-1 hidden-the_row-Member-1 shape-the_row-Comp-0 hidden-the_row-Comp-0 hidden
    int_wrap digits
spent_at_5 = refl

-- the least number has no positive one:
--     fun neg(x : int16) : int16 { return 0 - x }
--     let comp main = read[int16] >>> map neg >>> write[int16]
abbrev negates_core : Core
negates_core = core [] [] (function 1 (param 2 (word Int16) ∷ []) (returning [] (Binary Subtract Int16 (Int (pos 0) Int16 here) (Variable (id 2)) (at
    1 39))) ∷ []) [] (Map (id 1) 0 here) (plain Int16) (plain Int16) None

pub negates : answer_of BinaryFormat 100 (loaded (codes "p") negates_core) [] (0 ∷ 128 ∷ []) ≡ answers 0 (0 ∷ 128 ∷ [])
    (codes "input ended\ntaken 1\nwritten 1\n")
unfolding shape-the_row-Val-0 hidden-the_row-Val-0 shape-the_row-Expr-0 hidden-the_row-Expr-0 shape-the_row-Expr-1 hidden-the_row-Expr-1
    shape-the_row-Stmt-0 hidden-the_row-Stmt-0 shape-the_row-Member-1 hidden-the_row-Member-1 shape-the_row-Comp-0 hidden-the_row-Comp-0 hidden
    int_wrap digits
negates = refl

-- products wrap:
--     fun sq(x : int16) : int16 { return x * x }
--     let comp main = read[int16] >>> repeat { x <- take; emit sq(x) } >>> write[int16]
abbrev squares_core : Core
squares_core = core [] [] (function 1 (param 2 (word Int16) ∷ []) (returning [] (Binary Multiply Int16 (Variable (id 2)) (Variable (id 2)) (at 1 38)))
    ∷ []) [] (Repeat (Block (Bind (id 3) (Take here) ∷ Run (Emit (Call (id 1) (FunctionCallee 0) ((Variable (id 3)) ∷ [])) here) ∷ []) here) here)
    (plain Int16) (plain Int16) None

pub squares : answer_of BinaryFormat 100 (loaded (codes "p") squares_core) [] (0 ∷ 128 ∷ 255 ∷ 127 ∷ []) ≡ answers 0 (0 ∷ 0 ∷ 1 ∷ 0 ∷ [])
    (codes "input ended\ntaken 2\nwritten 2\n")
unfolding shape-the_row-Val-0 hidden-the_row-Val-0 shape-the_row-Expr-0 hidden-the_row-Expr-0 shape-the_row-Expr-1 hidden-the_row-Expr-1
    shape-the_row-Stmt-0 hidden-the_row-Stmt-0 shape-the_row-Member-1 hidden-the_row-Member-1 shape-the_row-Comp-0 hidden-the_row-Comp-0 hidden
    int_wrap digits
squares = refl

-- the same where a loop takes and emits:
--     fun neg(x : int16) : int16 { return 0 - x }
--     let comp main = read[int16] >>> repeat { x <- take; emit neg(x) } >>> write[int16]
abbrev negates_in_a_loop_core : Core
negates_in_a_loop_core = core [] [] (function 1 (param 2 (word Int16) ∷ []) (returning [] (Binary Subtract Int16 (Int (pos 0) Int16 here) (Variable
    (id 2)) (at 1 39))) ∷ []) [] (Repeat (Block (Bind (id 3) (Take here) ∷ Run (Emit (Call (id 1) (FunctionCallee 0) ((Variable (id 3)) ∷ [])) here) ∷
    []) here) here) (plain Int16) (plain Int16) None

pub negates_in_a_loop : answer_of BinaryFormat 100 (loaded (codes "p") negates_in_a_loop_core) [] (0 ∷ 128 ∷ []) ≡ answers 0 (0 ∷ 128 ∷ [])
    (codes "input ended\ntaken 1\nwritten 1\n")
unfolding shape-the_row-Val-0 hidden-the_row-Val-0 shape-the_row-Expr-0 hidden-the_row-Expr-0 shape-the_row-Expr-1 hidden-the_row-Expr-1
    shape-the_row-Stmt-0 hidden-the_row-Stmt-0 shape-the_row-Member-1 hidden-the_row-Member-1 shape-the_row-Comp-0 hidden-the_row-Comp-0 hidden
    int_wrap digits
negates_in_a_loop = refl

-- the same by map:
--     fun sq(x : int16) : int16 { return x * x }
--     let comp main = read[int16] >>> map sq >>> write[int16]
abbrev squares_by_map_core : Core
squares_by_map_core = core [] [] (function 1 (param 2 (word Int16) ∷ []) (returning [] (Binary Multiply Int16 (Variable (id 2)) (Variable (id 2)) (at
    1 38))) ∷ []) [] (Map (id 1) 0 here) (plain Int16) (plain Int16) None

pub squares_by_map : answer_of BinaryFormat 100 (loaded (codes "p") squares_by_map_core) [] (0 ∷ 128 ∷ 255 ∷ 127 ∷ []) ≡ answers 0 (0 ∷ 0 ∷ 1 ∷ 0 ∷
    []) (codes "input ended\ntaken 2\nwritten 2\n")
unfolding shape-the_row-Val-0 hidden-the_row-Val-0 shape-the_row-Expr-0 hidden-the_row-Expr-0 shape-the_row-Expr-1 hidden-the_row-Expr-1
    shape-the_row-Stmt-0 hidden-the_row-Stmt-0 shape-the_row-Member-1 hidden-the_row-Member-1 shape-the_row-Comp-0 hidden-the_row-Comp-0 hidden
    int_wrap digits
squares_by_map = refl

-- an index outside its array is a trap:
--     fun pick(x : int8) : int8 { var a : arr[3] int8 := {1, 2, 3}; return a[x] }
--     let comp main = read[int8] >>> map pick >>> write[int8]
abbrev picks_core : Core
picks_core = core [] [] (function 1 (param 2 (word Int8) ∷ []) (returning (VarStmt (var 3 (written (3 ∷ []) Int8) (Some (Array ((Int (pos 1) Int8
    here) ∷ (Int (pos 2) Int8 here) ∷ (Int (pos 3) Int8 here) ∷ []) here))) ∷ []) (Index (Variable (id 3)) (Variable (id 2)) (at 1 71))) ∷ []) [] (Map
    (id 1) 0 here) (plain Int8) (plain Int8) None

pub picks : answer_of BinaryFormat 100 (loaded (codes "p") picks_core) [] (2 ∷ 3 ∷ []) ≡ answers 4 (3 ∷ [])
    (codes "trap 2 in p at 1:71\ntaken 2\nwritten 1\n")
unfolding shape-the_row-Val-0 hidden-the_row-Val-0 shape-the_row-Expr-0 hidden-the_row-Expr-0 shape-the_row-Expr-1 hidden-the_row-Expr-1
    shape-the_row-Stmt-0 hidden-the_row-Stmt-0 shape-the_row-Member-1 hidden-the_row-Member-1 shape-the_row-Comp-0 hidden-the_row-Comp-0 hidden
    int_wrap digits
picks = refl

-- numbers in a text:
--     fun neg(x : int16) : int16 { return 0 - x }
--     let comp main = read[int16] >>> map neg >>> write[int16]
abbrev text_negates_core : Core
text_negates_core = core [] [] (function 1 (param 2 (word Int16) ∷ []) (returning [] (Binary Subtract Int16 (Int (pos 0) Int16 here) (Variable (id 2))
    (at 1 39))) ∷ []) [] (Map (id 1) 0 here) (plain Int16) (plain Int16) None

pub text_negates : answer_of TextFormat 100 (loaded (codes "p") text_negates_core) [] (32 ∷ 53 ∷ 44 ∷ 45 ∷ 51 ∷ 32 ∷ 44 ∷ 10 ∷ 55 ∷ []) ≡ answers 0
    (45 ∷ 53 ∷ 44 ∷ 51 ∷ 44 ∷ 45 ∷ 55 ∷ 10 ∷ []) (codes "input ended\ntaken 3\nwritten 3\n")
unfolding shape-the_row-Val-0 hidden-the_row-Val-0 shape-the_row-Expr-0 hidden-the_row-Expr-0 shape-the_row-Expr-1 hidden-the_row-Expr-1
    shape-the_row-Stmt-0 hidden-the_row-Stmt-0 shape-the_row-Member-1 hidden-the_row-Member-1 shape-the_row-Comp-0 hidden-the_row-Comp-0 hidden
    int_wrap digits
text_negates = refl

-- malformed input counts where it is demanded:
--     fun neg(x : int16) : int16 { return 0 - x }
--     let comp main = read[int16] >>> map neg >>> write[int16]
abbrev text_is_malformed_core : Core
text_is_malformed_core = core [] [] (function 1 (param 2 (word Int16) ∷ []) (returning [] (Binary Subtract Int16 (Int (pos 0) Int16 here) (Variable
    (id 2)) (at 1 39))) ∷ []) [] (Map (id 1) 0 here) (plain Int16) (plain Int16) None

pub text_is_malformed : answer_of TextFormat 100 (loaded (codes "p") text_is_malformed_core) [] (53 ∷ 44 ∷ 120 ∷ []) ≡ answers 6 (45 ∷ 53 ∷ 10 ∷ [])
    (codes "malformed input at 2\ntaken 1\nwritten 1\n")
unfolding shape-the_row-Val-0 hidden-the_row-Val-0 shape-the_row-Expr-0 hidden-the_row-Expr-0 shape-the_row-Expr-1 hidden-the_row-Expr-1
    shape-the_row-Stmt-0 hidden-the_row-Stmt-0 shape-the_row-Member-1 hidden-the_row-Member-1 shape-the_row-Comp-0 hidden-the_row-Comp-0 hidden
    int_wrap digits
text_is_malformed = refl

-- malformed input that is not demanded is none:
--     let comp main = read[int16] >>> take >>> write[int16]
abbrev not_demanded_core : Core
not_demanded_core = program (Take here) (plain Int16) (plain Int16) (Some (plain Int16))

pub not_demanded : answer_of TextFormat 100 (loaded (codes "p") not_demanded_core) [] (53 ∷ 44 ∷ 120 ∷ []) ≡ answers 0 []
    (codes "ended 5\ntaken 1\nwritten 0\n")
unfolding shape-the_row-Val-0 hidden-the_row-Val-0 shape-the_row-Expr-0 hidden-the_row-Expr-0 shape-the_row-Expr-1 hidden-the_row-Expr-1
    shape-the_row-Stmt-0 hidden-the_row-Stmt-0 shape-the_row-Member-1 hidden-the_row-Member-1 shape-the_row-Comp-0 hidden-the_row-Comp-0 hidden
    int_wrap digits
not_demanded = refl

-- a piece shorter than an element is unread:
--     fun same(x : complex16) : complex16 { return x }
--     let comp main = read[complex16] >>> map same >>> write[complex16]
abbrev copies_complex_core : Core
copies_complex_core = core [] [] (function 1 (param 2 (word Complex16) ∷ []) (returning [] (Variable (id 2))) ∷ []) [] (Map (id 1) 0 here) (plain
    Complex16) (plain Complex16) None

pub copies_complex : answer_of BinaryFormat 100 (loaded (codes "p") copies_complex_core) [] (1 ∷ 0 ∷ 2 ∷ 0 ∷ 3 ∷ 0 ∷ []) ≡ answers 0 (1 ∷ 0 ∷ 2 ∷ 0 ∷
    []) (codes "input ended\ntaken 1\nwritten 1\n")
unfolding shape-the_row-Val-0 hidden-the_row-Val-0 shape-the_row-Expr-0 hidden-the_row-Expr-0 shape-the_row-Expr-1 hidden-the_row-Expr-1
    shape-the_row-Stmt-0 hidden-the_row-Stmt-0 shape-the_row-Member-1 hidden-the_row-Member-1 shape-the_row-Comp-0 hidden-the_row-Comp-0 hidden
    int_wrap digits
copies_complex = refl
