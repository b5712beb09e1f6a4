-- Worked rows that compute: expressions, their order and their traps.
use Rattle.std.specs.Prelude.{pos, true, false, [], ◌∷◌, Some, None, codes, ◌≡◌, refl}
use Rattle.std.specs.Int.{int_wrap}
use Rattle.std.specs.Fmt.{digits}
use denote.Hole.Carrier.{hidden}
use Rattle.zir_tree.specs.declared.format.Format.TheVariants.{Binary as BinaryFormat}
use Rattle.zir_tree.specs.declared.types.Base.TheVariants.{Unit as UnitTy, Bit as BitTy, Bool as BoolTy, Int8, Int32, Complex32, Struct as StructTy}
use Rattle.zir_tree.specs.declared.value.Val.TheBlock.{shape-the_row-Val-0, hidden-the_row-Val-0}
use Rattle.zir_tree.specs.declared.expr.Operator.TheVariants.{Or, And, Equal, Add, Subtract, Multiply, Divide}
use Rattle.zir_tree.specs.declared.expr.Callee.TheVariants.{Function as FunctionCallee, Struct as StructCallee}
use Rattle.zir_tree.specs.declared.expr.Expr.{Bit, Int, Variable, Binary, Index, Slice, Part, Call, Array, Complex}
use Rattle.zir_tree.specs.declared.expr.Expr.TheBlock.{shape-the_row-Expr-0, hidden-the_row-Expr-0, shape-the_row-Expr-1, hidden-the_row-Expr-1}
use Rattle.zir_tree.specs.declared.stmt.Access.TheVariants.{Index as StepTo}
use Rattle.zir_tree.specs.declared.stmt.Stmt.{Assign}
use Rattle.zir_tree.specs.declared.stmt.Stmt.TheBlock.{shape-the_row-Stmt-0, hidden-the_row-Stmt-0}
use Rattle.zir_tree.specs.declared.comp.Comp.{Emit, Return as ReturnComp}
use Rattle.zir_tree.specs.declared.comp.Comp.TheBlock.{shape-the_row-Member-1, hidden-the_row-Member-1, shape-the_row-Comp-0, hidden-the_row-Comp-0}
use Rattle.zir_tree.specs.declared.program.Core.{Core}
use Rattle.zir_meaning.specs.Answer.{answer_of}
use Rattle.zir_meaning.specs.Notation.{at, here, id, ty, plain, written, word, struct, var, param, returning, function, core, program, loaded, answers}

-- false decides:
--     let comp main = read[bit] >>> return 1 == 2 && 1 / 0 == 1 >>> write[bit]
abbrev no_right_side_of_and_core : Core
no_right_side_of_and_core = program (ReturnComp (Binary And BoolTy (Binary Equal Int32 (Int (pos 1) Int32 here) (Int (pos 2) Int32 here) (at 1 40))
    (Binary Equal Int32 (Binary Divide Int32 (Int (pos 1) Int32 here) (Int (pos 0) Int32 here) (at 1 50)) (Int (pos 1) Int32 here) (at 1 54)) (at 1
    45)) here) (plain BitTy) (plain BitTy) (Some (plain BoolTy))

pub no_right_side_of_and : answer_of BinaryFormat 100 (loaded (codes "p") no_right_side_of_and_core) [] [] ≡ answers 0 []
    (codes "ended false\ntaken 0\nwritten 0\n")
unfolding shape-the_row-Val-0 hidden-the_row-Val-0 shape-the_row-Expr-0 hidden-the_row-Expr-0 shape-the_row-Expr-1 hidden-the_row-Expr-1
    shape-the_row-Stmt-0 hidden-the_row-Stmt-0 shape-the_row-Member-1 hidden-the_row-Member-1 shape-the_row-Comp-0 hidden-the_row-Comp-0 hidden
    int_wrap digits
no_right_side_of_and = refl

-- true decides:
--     let comp main = read[bit] >>> return 1 == 1 || 1 / 0 == 1 >>> write[bit]
abbrev no_right_side_of_or_core : Core
no_right_side_of_or_core = program (ReturnComp (Binary Or BoolTy (Binary Equal Int32 (Int (pos 1) Int32 here) (Int (pos 1) Int32 here) (at 1 40))
    (Binary Equal Int32 (Binary Divide Int32 (Int (pos 1) Int32 here) (Int (pos 0) Int32 here) (at 1 50)) (Int (pos 1) Int32 here) (at 1 54)) (at 1
    45)) here) (plain BitTy) (plain BitTy) (Some (plain BoolTy))

pub no_right_side_of_or : answer_of BinaryFormat 100 (loaded (codes "p") no_right_side_of_or_core) [] [] ≡ answers 0 []
    (codes "ended true\ntaken 0\nwritten 0\n")
unfolding shape-the_row-Val-0 hidden-the_row-Val-0 shape-the_row-Expr-0 hidden-the_row-Expr-0 shape-the_row-Expr-1 hidden-the_row-Expr-1
    shape-the_row-Stmt-0 hidden-the_row-Stmt-0 shape-the_row-Member-1 hidden-the_row-Member-1 shape-the_row-Comp-0 hidden-the_row-Comp-0 hidden
    int_wrap digits
no_right_side_of_or = refl

-- true does not decide:
--     let comp main = read[bit] >>> return 1 == 1 && 2 == 1 >>> write[bit]
abbrev right_side_of_and_core : Core
right_side_of_and_core = program (ReturnComp (Binary And BoolTy (Binary Equal Int32 (Int (pos 1) Int32 here) (Int (pos 1) Int32 here) (at 1 40))
    (Binary Equal Int32 (Int (pos 2) Int32 here) (Int (pos 1) Int32 here) (at 1 50)) (at 1 45)) here) (plain BitTy) (plain BitTy) (Some (plain
    BoolTy))

pub right_side_of_and : answer_of BinaryFormat 100 (loaded (codes "p") right_side_of_and_core) [] [] ≡ answers 0 []
    (codes "ended false\ntaken 0\nwritten 0\n")
unfolding shape-the_row-Val-0 hidden-the_row-Val-0 shape-the_row-Expr-0 hidden-the_row-Expr-0 shape-the_row-Expr-1 hidden-the_row-Expr-1
    shape-the_row-Stmt-0 hidden-the_row-Stmt-0 shape-the_row-Member-1 hidden-the_row-Member-1 shape-the_row-Comp-0 hidden-the_row-Comp-0 hidden
    int_wrap digits
right_side_of_and = refl

-- false does not decide:
--     let comp main = read[bit] >>> return 1 == 2 || 2 == 2 >>> write[bit]
abbrev right_side_of_or_core : Core
right_side_of_or_core = program (ReturnComp (Binary Or BoolTy (Binary Equal Int32 (Int (pos 1) Int32 here) (Int (pos 2) Int32 here) (at 1 40)) (Binary
    Equal Int32 (Int (pos 2) Int32 here) (Int (pos 2) Int32 here) (at 1 50)) (at 1 45)) here) (plain BitTy) (plain BitTy) (Some (plain BoolTy))

pub right_side_of_or : answer_of BinaryFormat 100 (loaded (codes "p") right_side_of_or_core) [] [] ≡ answers 0 []
    (codes "ended true\ntaken 0\nwritten 0\n")
unfolding shape-the_row-Val-0 hidden-the_row-Val-0 shape-the_row-Expr-0 hidden-the_row-Expr-0 shape-the_row-Expr-1 hidden-the_row-Expr-1
    shape-the_row-Stmt-0 hidden-the_row-Stmt-0 shape-the_row-Member-1 hidden-the_row-Member-1 shape-the_row-Comp-0 hidden-the_row-Comp-0 hidden
    int_wrap digits
right_side_of_or = refl

-- the right side is evaluated where the left does not decide:
--     let comp main = read[bit] >>> return 1 == 1 && 1 / 0 == 1 >>> write[bit]
abbrev right_side_traps_core : Core
right_side_traps_core = program (ReturnComp (Binary And BoolTy (Binary Equal Int32 (Int (pos 1) Int32 here) (Int (pos 1) Int32 here) (at 1 40))
    (Binary Equal Int32 (Binary Divide Int32 (Int (pos 1) Int32 here) (Int (pos 0) Int32 here) (at 1 50)) (Int (pos 1) Int32 here) (at 1 54)) (at 1
    45)) here) (plain BitTy) (plain BitTy) (Some (plain BoolTy))

pub right_side_traps : answer_of BinaryFormat 100 (loaded (codes "p") right_side_traps_core) [] [] ≡ answers 4 []
    (codes "trap 1 in p at 1:50\ntaken 0\nwritten 0\n")
unfolding shape-the_row-Val-0 hidden-the_row-Val-0 shape-the_row-Expr-0 hidden-the_row-Expr-0 shape-the_row-Expr-1 hidden-the_row-Expr-1
    shape-the_row-Stmt-0 hidden-the_row-Stmt-0 shape-the_row-Member-1 hidden-the_row-Member-1 shape-the_row-Comp-0 hidden-the_row-Comp-0 hidden
    int_wrap digits
right_side_traps = refl

-- an element of an array:
--     let comp main = read[bit] >>> return {4, 5, 6}[1] >>> write[bit]
abbrev indexes_core : Core
indexes_core = program (ReturnComp (Index (Array ((Int (pos 4) Int32 here) ∷ (Int (pos 5) Int32 here) ∷ (Int (pos 6) Int32 here) ∷ []) here) (Int (pos
    1) Int32 here) (at 1 47)) here) (plain BitTy) (plain BitTy) (Some (plain Int32))

pub indexes : answer_of BinaryFormat 100 (loaded (codes "p") indexes_core) [] [] ≡ answers 0 [] (codes "ended 5\ntaken 0\nwritten 0\n")
unfolding shape-the_row-Val-0 hidden-the_row-Val-0 shape-the_row-Expr-0 hidden-the_row-Expr-0 shape-the_row-Expr-1 hidden-the_row-Expr-1
    shape-the_row-Stmt-0 hidden-the_row-Stmt-0 shape-the_row-Member-1 hidden-the_row-Member-1 shape-the_row-Comp-0 hidden-the_row-Comp-0 hidden
    int_wrap digits
indexes = refl

-- an index at the length is outside:
--     let comp main = read[bit] >>> return {4, 5, 6}[3] >>> write[bit]
abbrev index_too_high_core : Core
index_too_high_core = program (ReturnComp (Index (Array ((Int (pos 4) Int32 here) ∷ (Int (pos 5) Int32 here) ∷ (Int (pos 6) Int32 here) ∷ []) here)
    (Int (pos 3) Int32 here) (at 1 47)) here) (plain BitTy) (plain BitTy) (Some (plain Int32))

pub index_too_high : answer_of BinaryFormat 100 (loaded (codes "p") index_too_high_core) [] [] ≡ answers 4 []
    (codes "trap 2 in p at 1:47\ntaken 0\nwritten 0\n")
unfolding shape-the_row-Val-0 hidden-the_row-Val-0 shape-the_row-Expr-0 hidden-the_row-Expr-0 shape-the_row-Expr-1 hidden-the_row-Expr-1
    shape-the_row-Stmt-0 hidden-the_row-Stmt-0 shape-the_row-Member-1 hidden-the_row-Member-1 shape-the_row-Comp-0 hidden-the_row-Comp-0 hidden
    int_wrap digits
index_too_high = refl

-- an index below 0 is outside:
--     let comp main = read[bit] >>> return {4, 5, 6}[0 - 1] >>> write[bit]
abbrev index_below_core : Core
index_below_core = program (ReturnComp (Index (Array ((Int (pos 4) Int32 here) ∷ (Int (pos 5) Int32 here) ∷ (Int (pos 6) Int32 here) ∷ []) here)
    (Binary Subtract Int32 (Int (pos 0) Int32 here) (Int (pos 1) Int32 here) (at 1 50)) (at 1 47)) here) (plain BitTy) (plain BitTy) (Some (plain
    Int32))

pub index_below : answer_of BinaryFormat 100 (loaded (codes "p") index_below_core) [] [] ≡ answers 4 []
    (codes "trap 2 in p at 1:47\ntaken 0\nwritten 0\n")
unfolding shape-the_row-Val-0 hidden-the_row-Val-0 shape-the_row-Expr-0 hidden-the_row-Expr-0 shape-the_row-Expr-1 hidden-the_row-Expr-1
    shape-the_row-Stmt-0 hidden-the_row-Stmt-0 shape-the_row-Member-1 hidden-the_row-Member-1 shape-the_row-Comp-0 hidden-the_row-Comp-0 hidden
    int_wrap digits
index_below = refl

-- so many elements from an index on:
--     let comp main = read[bit] >>> return {4, 5, 6}[1, 2] >>> write[bit]
abbrev slices_core : Core
slices_core = program (ReturnComp (Slice (Array ((Int (pos 4) Int32 here) ∷ (Int (pos 5) Int32 here) ∷ (Int (pos 6) Int32 here) ∷ []) here) (Int (pos
    1) Int32 here) 2 (at 1 47)) here) (plain BitTy) (plain BitTy) (Some (ty (2 ∷ []) Int32))

pub slices : answer_of BinaryFormat 100 (loaded (codes "p") slices_core) [] [] ≡ answers 0 [] (codes "ended {5,6}\ntaken 0\nwritten 0\n")
unfolding shape-the_row-Val-0 hidden-the_row-Val-0 shape-the_row-Expr-0 hidden-the_row-Expr-0 shape-the_row-Expr-1 hidden-the_row-Expr-1
    shape-the_row-Stmt-0 hidden-the_row-Stmt-0 shape-the_row-Member-1 hidden-the_row-Member-1 shape-the_row-Comp-0 hidden-the_row-Comp-0 hidden
    int_wrap digits
slices = refl

-- a slice that goes on behind the end:
--     let comp main = read[bit] >>> return {4, 5, 6}[1, 3] >>> write[bit]
abbrev slice_too_long_core : Core
slice_too_long_core = program (ReturnComp (Slice (Array ((Int (pos 4) Int32 here) ∷ (Int (pos 5) Int32 here) ∷ (Int (pos 6) Int32 here) ∷ []) here)
    (Int (pos 1) Int32 here) 3 (at 1 47)) here) (plain BitTy) (plain BitTy) (Some (ty (3 ∷ []) Int32))

pub slice_too_long : answer_of BinaryFormat 100 (loaded (codes "p") slice_too_long_core) [] [] ≡ answers 4 []
    (codes "trap 3 in p at 1:47\ntaken 0\nwritten 0\n")
unfolding shape-the_row-Val-0 hidden-the_row-Val-0 shape-the_row-Expr-0 hidden-the_row-Expr-0 shape-the_row-Expr-1 hidden-the_row-Expr-1
    shape-the_row-Stmt-0 hidden-the_row-Stmt-0 shape-the_row-Member-1 hidden-the_row-Member-1 shape-the_row-Comp-0 hidden-the_row-Comp-0 hidden
    int_wrap digits
slice_too_long = refl

-- a slice that begins below 0:
--     let comp main = read[bit] >>> return {4, 5, 6}[0 - 1, 2] >>> write[bit]
abbrev slice_below_core : Core
slice_below_core = program (ReturnComp (Slice (Array ((Int (pos 4) Int32 here) ∷ (Int (pos 5) Int32 here) ∷ (Int (pos 6) Int32 here) ∷ []) here)
    (Binary Subtract Int32 (Int (pos 0) Int32 here) (Int (pos 1) Int32 here) (at 1 50)) 2 (at 1 47)) here) (plain BitTy) (plain BitTy) (Some (ty (2 ∷
    []) Int32))

pub slice_below : answer_of BinaryFormat 100 (loaded (codes "p") slice_below_core) [] [] ≡ answers 4 []
    (codes "trap 3 in p at 1:47\ntaken 0\nwritten 0\n")
unfolding shape-the_row-Val-0 hidden-the_row-Val-0 shape-the_row-Expr-0 hidden-the_row-Expr-0 shape-the_row-Expr-1 hidden-the_row-Expr-1
    shape-the_row-Stmt-0 hidden-the_row-Stmt-0 shape-the_row-Member-1 hidden-the_row-Member-1 shape-the_row-Comp-0 hidden-the_row-Comp-0 hidden
    int_wrap digits
slice_below = refl

-- the parts of a complex number:
--     let comp main = read[bit] >>> return {complex32(3, 0 - 4).re, complex32(3, 0 - 4).im} >>> write[bit]
abbrev parts_core : Core
parts_core = program (ReturnComp (Array ((Part (Complex Complex32 (Int (pos 3) Int32 here) (Binary Subtract Int32 (Int (pos 0) Int32 here) (Int (pos
    4) Int32 here) (at 1 54)) here) [] 0 here) ∷ (Part (Complex Complex32 (Int (pos 3) Int32 here) (Binary Subtract Int32 (Int (pos 0) Int32 here)
    (Int (pos 4) Int32 here) (at 1 78)) here) [] 1 here) ∷ []) here) here) (plain BitTy) (plain BitTy) (Some (ty (2 ∷ []) Int32))

pub parts : answer_of BinaryFormat 100 (loaded (codes "p") parts_core) [] [] ≡ answers 0 [] (codes "ended {3,-4}\ntaken 0\nwritten 0\n")
unfolding shape-the_row-Val-0 hidden-the_row-Val-0 shape-the_row-Expr-0 hidden-the_row-Expr-0 shape-the_row-Expr-1 hidden-the_row-Expr-1
    shape-the_row-Stmt-0 hidden-the_row-Stmt-0 shape-the_row-Member-1 hidden-the_row-Member-1 shape-the_row-Comp-0 hidden-the_row-Comp-0 hidden
    int_wrap digits
parts = refl

-- a struct has its fields in order, and a call of it costs nothing:
--     struct S = { a : int8; b : arr[2] bit }
--     let comp main = read[bit] >>> return {S(1, {'0, '1}), S(2, {'1, '1})}[1] >>> write[bit]
abbrev structs_core : Core
structs_core = core (struct (codes "S") ((plain Int8) ∷ (ty (2 ∷ []) BitTy) ∷ []) ∷ []) [] [] [] (ReturnComp (Index (Array ((Call (id 1) (StructCallee
    0) ((Int (pos 1) Int8 here) ∷ (Array ((Bit false here) ∷ (Bit true here) ∷ []) here) ∷ [])) ∷ (Call (id 1) (StructCallee 0) ((Int (pos 2) Int8
    here) ∷ (Array ((Bit true here) ∷ (Bit true here) ∷ []) here) ∷ [])) ∷ []) here) (Int (pos 1) Int32 here) (at 2 70)) here) (plain BitTy) (plain
    BitTy) (Some (plain (StructTy 0)))

pub structs : answer_of BinaryFormat 100 (loaded (codes "p") structs_core) [] [] ≡ answers 0 [] (codes "ended S(2,{'1,'1})\ntaken 0\nwritten 0\n")
unfolding shape-the_row-Val-0 hidden-the_row-Val-0 shape-the_row-Expr-0 hidden-the_row-Expr-0 shape-the_row-Expr-1 hidden-the_row-Expr-1
    shape-the_row-Stmt-0 hidden-the_row-Stmt-0 shape-the_row-Member-1 hidden-the_row-Member-1 shape-the_row-Comp-0 hidden-the_row-Comp-0 hidden
    int_wrap digits
structs = refl

-- a field of a struct:
--     struct S = { a : int8; b : arr[2] bit }
--     let comp main = read[bit] >>> return S(1, {'0, '1}).b >>> write[bit]
abbrev fields_core : Core
fields_core = core (struct (codes "S") ((plain Int8) ∷ (ty (2 ∷ []) BitTy) ∷ []) ∷ []) [] [] [] (ReturnComp (Part (Call (id 1) (StructCallee 0) ((Int
    (pos 1) Int8 here) ∷ (Array ((Bit false here) ∷ (Bit true here) ∷ []) here) ∷ [])) [] 1 here) here) (plain BitTy) (plain BitTy) (Some (ty (2 ∷ [])
    BitTy))

pub fields : answer_of BinaryFormat 100 (loaded (codes "p") fields_core) [] [] ≡ answers 0 [] (codes "ended {'0,'1}\ntaken 0\nwritten 0\n")
unfolding shape-the_row-Val-0 hidden-the_row-Val-0 shape-the_row-Expr-0 hidden-the_row-Expr-0 shape-the_row-Expr-1 hidden-the_row-Expr-1
    shape-the_row-Stmt-0 hidden-the_row-Stmt-0 shape-the_row-Member-1 hidden-the_row-Member-1 shape-the_row-Comp-0 hidden-the_row-Comp-0 hidden
    int_wrap digits
fields = refl

-- a value is taken before the index that changes it:
--     var a : arr[2] int8 := {1, 2};
--     fun f() : int8 { a[0] := 9; return 0 }
--     let comp main = read[bit] >>> return a[f()] >>> write[bit]
abbrev base_is_copied_core : Core
base_is_copied_core = core [] ((var 1 (written (2 ∷ []) Int8) (Some (Array ((Int (pos 1) Int8 here) ∷ (Int (pos 2) Int8 here) ∷ []) here))) ∷ [])
    (function 2 [] (returning (Assign (id 1) (StepTo (Int (pos 0) Int32 here) (at 2 19) ∷ []) (Int (pos 9) Int8 here) ∷ []) (Int (pos 0) Int8 here)) ∷
    []) [] (ReturnComp (Index (Variable (id 1)) (Call (id 2) (FunctionCallee 0) []) (at 3 39)) here) (plain BitTy) (plain BitTy) (Some (plain Int8))

pub base_is_copied : answer_of BinaryFormat 100 (loaded (codes "p") base_is_copied_core) [] [] ≡ answers 0 [] (codes "ended 1\ntaken 0\nwritten 0\n")
unfolding shape-the_row-Val-0 hidden-the_row-Val-0 shape-the_row-Expr-0 hidden-the_row-Expr-0 shape-the_row-Expr-1 hidden-the_row-Expr-1
    shape-the_row-Stmt-0 hidden-the_row-Stmt-0 shape-the_row-Member-1 hidden-the_row-Member-1 shape-the_row-Comp-0 hidden-the_row-Comp-0 hidden
    int_wrap digits
base_is_copied = refl

-- parts are evaluated from left to right:
--     var n : int8;
--     fun next() : int8 { n := n * 2 + 1; return n }
--     let comp main = read[bit] >>> return {next(), next() - next()} >>> write[bit]
abbrev left_to_right_core : Core
left_to_right_core = core [] ((var 1 (word Int8) None) ∷ []) (function 2 [] (returning (Assign (id 1) [] (Binary Add Int8 (Binary Multiply Int8
    (Variable (id 1)) (Int (pos 2) Int8 here) (at 2 28)) (Int (pos 1) Int8 here) (at 2 32)) ∷ []) (Variable (id 1))) ∷ []) [] (ReturnComp (Array
    ((Call (id 2) (FunctionCallee 0) []) ∷ (Binary Subtract Int8 (Call (id 2) (FunctionCallee 0) []) (Call (id 2) (FunctionCallee 0) []) (at 3 54)) ∷
    []) here) here) (plain BitTy) (plain BitTy) (Some (ty (2 ∷ []) Int8))

pub left_to_right : answer_of BinaryFormat 100 (loaded (codes "p") left_to_right_core) [] [] ≡ answers 0 []
    (codes "ended {1,-4}\ntaken 0\nwritten 0\n")
unfolding shape-the_row-Val-0 hidden-the_row-Val-0 shape-the_row-Expr-0 hidden-the_row-Expr-0 shape-the_row-Expr-1 hidden-the_row-Expr-1
    shape-the_row-Stmt-0 hidden-the_row-Stmt-0 shape-the_row-Member-1 hidden-the_row-Member-1 shape-the_row-Comp-0 hidden-the_row-Comp-0 hidden
    int_wrap digits
left_to_right = refl

-- a call of a function costs a tick between its arguments and its body:
--     fun id(x : bit) : bit { return x }
--     let comp main = read[bit] >>> emit id(id('1)) >>> write[bit]
abbrev function_costs_core : Core
function_costs_core = core [] [] (function 1 (param 2 (word BitTy) ∷ []) (returning [] (Variable (id 2))) ∷ []) [] (Emit (Call (id 1) (FunctionCallee
    0) ((Call (id 1) (FunctionCallee 0) ((Bit true here) ∷ [])) ∷ [])) here) (plain BitTy) (plain BitTy) (Some (plain UnitTy))

pub function_costs : answer_of BinaryFormat 3 (loaded (codes "p") function_costs_core) [] [] ≡ answers 0 (1 ∷ [])
    (codes "ended ()\ntaken 0\nwritten 1\n")
unfolding shape-the_row-Val-0 hidden-the_row-Val-0 shape-the_row-Expr-0 hidden-the_row-Expr-0 shape-the_row-Expr-1 hidden-the_row-Expr-1
    shape-the_row-Stmt-0 hidden-the_row-Stmt-0 shape-the_row-Member-1 hidden-the_row-Member-1 shape-the_row-Comp-0 hidden-the_row-Comp-0 hidden
    int_wrap digits
function_costs = refl

-- one tick less:
--     fun id(x : bit) : bit { return x }
--     let comp main = read[bit] >>> emit id(id('1)) >>> write[bit]
abbrev function_spent_core : Core
function_spent_core = core [] [] (function 1 (param 2 (word BitTy) ∷ []) (returning [] (Variable (id 2))) ∷ []) [] (Emit (Call (id 1) (FunctionCallee
    0) ((Call (id 1) (FunctionCallee 0) ((Bit true here) ∷ [])) ∷ [])) here) (plain BitTy) (plain BitTy) (Some (plain UnitTy))

pub function_spent : answer_of BinaryFormat 2 (loaded (codes "p") function_spent_core) [] [] ≡ answers 5 [] (codes "out of ticks 2\nwritten 0\n")
unfolding shape-the_row-Val-0 hidden-the_row-Val-0 shape-the_row-Expr-0 hidden-the_row-Expr-0 shape-the_row-Expr-1 hidden-the_row-Expr-1
    shape-the_row-Stmt-0 hidden-the_row-Stmt-0 shape-the_row-Member-1 hidden-the_row-Member-1 shape-the_row-Comp-0 hidden-the_row-Comp-0 hidden
    int_wrap digits
function_spent = refl
