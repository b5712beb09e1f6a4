-- Worked rows that compute: statements, their order, their costs and their traps.
use Rattle.std.specs.Prelude.{pos, true, [], ◌∷◌, Some, None, codes, ◌≡◌, refl}
use Rattle.std.specs.Int.{int_wrap}
use Rattle.std.specs.Fmt.{digits}
use denote.Hole.Carrier.{hidden}
use Rattle.zir_tree.specs.declared.format.Format.TheVariants.{Binary as BinaryFormat}
use Rattle.zir_tree.specs.declared.types.Base.TheVariants.{Unit as UnitTy, Bit as BitTy, Bool as BoolTy, Int8, Int16, Int32, Complex16, Struct as StructTy}
use Rattle.zir_tree.specs.declared.value.Val.TheBlock.{shape-the_row-Val-0, hidden-the_row-Val-0}
use Rattle.zir_tree.specs.declared.expr.Operator.TheVariants.{Equal, Less, Add, Subtract}
use Rattle.zir_tree.specs.declared.expr.Callee.TheVariants.{Function as FunctionCallee}
use Rattle.zir_tree.specs.declared.expr.Expr.{Bit, Bool as BoolLiteral, Int, Variable, Binary, Index, Slice, Part, Call, Array}
use Rattle.zir_tree.specs.declared.expr.Expr.TheBlock.{shape-the_row-Expr-0, hidden-the_row-Expr-0, shape-the_row-Expr-1, hidden-the_row-Expr-1}
use Rattle.zir_tree.specs.declared.stmt.Access.TheVariants.{Index as StepTo, Slice as StepRange, Part as StepPart}
use Rattle.zir_tree.specs.declared.stmt.Stmt.{Var as VarStmt, Assign, Call as CallStmt, Error, If as IfStmt, IfElse as IfElseStmt, While as WhileStmt, For as ForStmt}
use Rattle.zir_tree.specs.declared.stmt.Stmt.TheBlock.{shape-the_row-Stmt-0, hidden-the_row-Stmt-0}
use Rattle.zir_tree.specs.declared.comp.Comp.{Return as ReturnComp, Do, Block}
use Rattle.zir_tree.specs.declared.comp.Comp.TheBlock.{shape-the_row-Member-1, hidden-the_row-Member-1, shape-the_row-Comp-0, hidden-the_row-Comp-0}
use Rattle.zir_tree.specs.declared.comp.Member.{Bind, Run}
use Rattle.zir_tree.specs.declared.program.Core.{Core}
use Rattle.zir_meaning.specs.Answer.{answer_of}
use Rattle.zir_meaning.specs.Notation.{at, here, id, ty, plain, written, word, struct, var, param, doing, returning, function, core, program, loaded, answers}

-- 0, '0, false and all such parts:
--     struct S = { a : int8; b : arr[2] bit }
--     struct U = { s : S; c : complex16; f : bool }
--     let comp main = read[bit] >>> do { var u : arr[2] U; return u[1] } >>> write[bit]
abbrev blank_values_core : Core
blank_values_core = core (struct (codes "S") ((plain Int8) ∷ (ty (2 ∷ []) BitTy) ∷ []) ∷ struct (codes "U") ((plain (StructTy 0)) ∷ (plain Complex16)
    ∷ (plain BoolTy) ∷ []) ∷ []) [] [] [] (Do (returning (VarStmt (var 3 (written (2 ∷ []) (StructTy 1)) None) ∷ []) (Index (Variable (id 3)) (Int
    (pos 1) Int32 here) (at 3 62))) here) (plain BitTy) (plain BitTy) (Some (plain (StructTy 1)))

pub blank_values : answer_of BinaryFormat 1 (loaded (codes "p") blank_values_core) [] [] ≡ answers 0 []
    (codes "ended U(S(0,{'0,'0}),(0,0),false)\ntaken 0\nwritten 0\n")
unfolding shape-the_row-Val-0 hidden-the_row-Val-0 shape-the_row-Expr-0 hidden-the_row-Expr-0 shape-the_row-Expr-1 hidden-the_row-Expr-1
    shape-the_row-Stmt-0 hidden-the_row-Stmt-0 shape-the_row-Member-1 hidden-the_row-Member-1 shape-the_row-Comp-0 hidden-the_row-Comp-0 hidden
    int_wrap digits
blank_values = refl

-- an element of an element:
--     let comp main = read[bit] >>> do { var a : arr[2] arr[2] int8 := {{1, 2}, {3, 4}}; a[1][0] := 7; return a } >>> write[bit]
abbrev paths_core : Core
paths_core = program (Do (returning (VarStmt (var 1 (written (2 ∷ 2 ∷ []) Int8) (Some (Array ((Array ((Int (pos 1) Int8 here) ∷ (Int (pos 2) Int8
    here) ∷ []) here) ∷ (Array ((Int (pos 3) Int8 here) ∷ (Int (pos 4) Int8 here) ∷ []) here) ∷ []) here))) ∷ Assign (id 1) (StepTo (Int (pos 1) Int32
    here) (at 1 85) ∷ StepTo (Int (pos 0) Int32 here) (at 1 88) ∷ []) (Int (pos 7) Int8 here) ∷ []) (Variable (id 1))) here) (plain BitTy) (plain
    BitTy) (Some (ty (2 ∷ 2 ∷ []) Int8))

pub paths : answer_of BinaryFormat 1 (loaded (codes "p") paths_core) [] [] ≡ answers 0 [] (codes "ended {{1,2},{7,4}}\ntaken 0\nwritten 0\n")
unfolding shape-the_row-Val-0 hidden-the_row-Val-0 shape-the_row-Expr-0 hidden-the_row-Expr-0 shape-the_row-Expr-1 hidden-the_row-Expr-1
    shape-the_row-Stmt-0 hidden-the_row-Stmt-0 shape-the_row-Member-1 hidden-the_row-Member-1 shape-the_row-Comp-0 hidden-the_row-Comp-0 hidden
    int_wrap digits
paths = refl

-- a slice is replaced, also by itself one place on:
--     let comp main = read[bit] >>> do { var a : arr[4] int8 := {1, 2, 3, 4}; a[1, 3] := a[0, 3]; return a } >>> write[bit]
abbrev slice_changes_core : Core
slice_changes_core = program (Do (returning (VarStmt (var 1 (written (4 ∷ []) Int8) (Some (Array ((Int (pos 1) Int8 here) ∷ (Int (pos 2) Int8 here) ∷
    (Int (pos 3) Int8 here) ∷ (Int (pos 4) Int8 here) ∷ []) here))) ∷ Assign (id 1) (StepRange (Int (pos 1) Int32 here) 3 (at 1 74) ∷ []) (Slice
    (Variable (id 1)) (Int (pos 0) Int32 here) 3 (at 1 85)) ∷ []) (Variable (id 1))) here) (plain BitTy) (plain BitTy) (Some (ty (4 ∷ []) Int8))

pub slice_changes : answer_of BinaryFormat 1 (loaded (codes "p") slice_changes_core) [] [] ≡ answers 0 []
    (codes "ended {1,1,2,3}\ntaken 0\nwritten 0\n")
unfolding shape-the_row-Val-0 hidden-the_row-Val-0 shape-the_row-Expr-0 hidden-the_row-Expr-0 shape-the_row-Expr-1 hidden-the_row-Expr-1
    shape-the_row-Stmt-0 hidden-the_row-Stmt-0 shape-the_row-Member-1 hidden-the_row-Member-1 shape-the_row-Comp-0 hidden-the_row-Comp-0 hidden
    int_wrap digits
slice_changes = refl

-- the imaginary part alone:
--     let comp main = read[bit] >>> do { var c : complex16; c.im := 5; c.re := c.im + 1; return c } >>> write[bit]
abbrev part_changes_core : Core
part_changes_core = program (Do (returning (VarStmt (var 1 (word Complex16) None) ∷ Assign (id 1) (StepPart [] 1 here ∷ []) (Int (pos 5) Int16 here) ∷
    Assign (id 1) (StepPart [] 0 here ∷ []) (Binary Add Int16 (Part (Variable (id 1)) [] 1 here) (Int (pos 1) Int16 here) (at 1 79)) ∷ []) (Variable
    (id 1))) here) (plain BitTy) (plain BitTy) (Some (plain Complex16))

pub part_changes : answer_of BinaryFormat 1 (loaded (codes "p") part_changes_core) [] [] ≡ answers 0 [] (codes "ended (6,5)\ntaken 0\nwritten 0\n")
unfolding shape-the_row-Val-0 hidden-the_row-Val-0 shape-the_row-Expr-0 hidden-the_row-Expr-0 shape-the_row-Expr-1 hidden-the_row-Expr-1
    shape-the_row-Stmt-0 hidden-the_row-Stmt-0 shape-the_row-Member-1 hidden-the_row-Member-1 shape-the_row-Comp-0 hidden-the_row-Comp-0 hidden
    int_wrap digits
part_changes = refl

-- an element of a field:
--     struct S = { a : int8; b : arr[2] bit }
--     let comp main = read[bit] >>> do { var s : S; s.b[1] := '1; s.a := 3; return s } >>> write[bit]
abbrev field_changes_core : Core
field_changes_core = core (struct (codes "S") ((plain Int8) ∷ (ty (2 ∷ []) BitTy) ∷ []) ∷ []) [] [] [] (Do (returning (VarStmt (var 2 (word (StructTy
    0)) None) ∷ Assign (id 2) (StepPart [] 1 here ∷ StepTo (Int (pos 1) Int32 here) (at 2 50) ∷ []) (Bit true here) ∷ Assign (id 2) (StepPart [] 0
    here ∷ []) (Int (pos 3) Int8 here) ∷ []) (Variable (id 2))) here) (plain BitTy) (plain BitTy) (Some (plain (StructTy 0)))

pub field_changes : answer_of BinaryFormat 1 (loaded (codes "p") field_changes_core) [] [] ≡ answers 0 []
    (codes "ended S(3,{'0,'1})\ntaken 0\nwritten 0\n")
unfolding shape-the_row-Val-0 hidden-the_row-Val-0 shape-the_row-Expr-0 hidden-the_row-Expr-0 shape-the_row-Expr-1 hidden-the_row-Expr-1
    shape-the_row-Stmt-0 hidden-the_row-Stmt-0 shape-the_row-Member-1 hidden-the_row-Member-1 shape-the_row-Comp-0 hidden-the_row-Comp-0 hidden
    int_wrap digits
field_changes = refl

-- an element inside a slice:
--     let comp main = read[bit] >>> do { var a : arr[4] int8; a[1, 2][1] := 9; return a } >>> write[bit]
abbrev slice_of_path_core : Core
slice_of_path_core = program (Do (returning (VarStmt (var 1 (written (4 ∷ []) Int8) None) ∷ Assign (id 1) (StepRange (Int (pos 1) Int32 here) 2 (at 1
    58) ∷ StepTo (Int (pos 1) Int32 here) (at 1 64) ∷ []) (Int (pos 9) Int8 here) ∷ []) (Variable (id 1))) here) (plain BitTy) (plain BitTy) (Some (ty
    (4 ∷ []) Int8))

pub slice_of_path : answer_of BinaryFormat 1 (loaded (codes "p") slice_of_path_core) [] [] ≡ answers 0 []
    (codes "ended {0,0,9,0}\ntaken 0\nwritten 0\n")
unfolding shape-the_row-Val-0 hidden-the_row-Val-0 shape-the_row-Expr-0 hidden-the_row-Expr-0 shape-the_row-Expr-1 hidden-the_row-Expr-1
    shape-the_row-Stmt-0 hidden-the_row-Stmt-0 shape-the_row-Member-1 hidden-the_row-Member-1 shape-the_row-Comp-0 hidden-the_row-Comp-0 hidden
    int_wrap digits
slice_of_path = refl

-- the right side is evaluated before the indexes:
--     var n : int8;
--     fun next() : int8 { n := n + 1; return n }
--     let comp main = read[bit] >>> do { var a : arr[4] int8; a[next()] := next(); return a } >>> write[bit]
abbrev right_side_first_core : Core
right_side_first_core = core [] ((var 1 (word Int8) None) ∷ []) (function 2 [] (returning (Assign (id 1) [] (Binary Add Int8 (Variable (id 1)) (Int
    (pos 1) Int8 here) (at 2 28)) ∷ []) (Variable (id 1))) ∷ []) [] (Do (returning (VarStmt (var 3 (written (4 ∷ []) Int8) None) ∷ Assign (id 3)
    (StepTo (Call (id 2) (FunctionCallee 0) []) (at 3 58) ∷ []) (Call (id 2) (FunctionCallee 0) []) ∷ []) (Variable (id 3))) here) (plain BitTy)
    (plain BitTy) (Some (ty (4 ∷ []) Int8))

pub right_side_first : answer_of BinaryFormat 100 (loaded (codes "p") right_side_first_core) [] [] ≡ answers 0 []
    (codes "ended {0,0,1,0}\ntaken 0\nwritten 0\n")
unfolding shape-the_row-Val-0 hidden-the_row-Val-0 shape-the_row-Expr-0 hidden-the_row-Expr-0 shape-the_row-Expr-1 hidden-the_row-Expr-1
    shape-the_row-Stmt-0 hidden-the_row-Stmt-0 shape-the_row-Member-1 hidden-the_row-Member-1 shape-the_row-Comp-0 hidden-the_row-Comp-0 hidden
    int_wrap digits
right_side_first = refl

-- an index that changes the array itself:
--     var a : arr[3] int8;
--     fun f() : int8 { a[0] := 9; return 1 }
--     let comp main = read[bit] >>> do { a[f()] := 5; return a } >>> write[bit]
abbrev index_assigns_core : Core
index_assigns_core = core [] ((var 1 (written (3 ∷ []) Int8) None) ∷ []) (function 2 [] (returning (Assign (id 1) (StepTo (Int (pos 0) Int32 here) (at
    2 19) ∷ []) (Int (pos 9) Int8 here) ∷ []) (Int (pos 1) Int8 here)) ∷ []) [] (Do (returning (Assign (id 1) (StepTo (Call (id 2) (FunctionCallee 0)
    []) (at 3 37) ∷ []) (Int (pos 5) Int8 here) ∷ []) (Variable (id 1))) here) (plain BitTy) (plain BitTy) (Some (ty (3 ∷ []) Int8))

pub index_assigns : answer_of BinaryFormat 100 (loaded (codes "p") index_assigns_core) [] [] ≡ answers 0 []
    (codes "ended {9,5,0}\ntaken 0\nwritten 0\n")
unfolding shape-the_row-Val-0 hidden-the_row-Val-0 shape-the_row-Expr-0 hidden-the_row-Expr-0 shape-the_row-Expr-1 hidden-the_row-Expr-1
    shape-the_row-Stmt-0 hidden-the_row-Stmt-0 shape-the_row-Member-1 hidden-the_row-Member-1 shape-the_row-Comp-0 hidden-the_row-Comp-0 hidden
    int_wrap digits
index_assigns = refl

-- each index is tested before the next one is evaluated:
--     var n : int8;
--     fun next() : int8 { n := n + 1; return n }
--     let comp main = read[bit] >>> do { var a : arr[2] arr[4] int8; a[2][next()] := 1;  } >>> write[bit]
abbrev indexes_in_order_core : Core
indexes_in_order_core = core [] ((var 1 (word Int8) None) ∷ []) (function 2 [] (returning (Assign (id 1) [] (Binary Add Int8 (Variable (id 1)) (Int
    (pos 1) Int8 here) (at 2 28)) ∷ []) (Variable (id 1))) ∷ []) [] (Do (doing (VarStmt (var 3 (written (2 ∷ 4 ∷ []) Int8) None) ∷ Assign (id 3)
    (StepTo (Int (pos 2) Int32 here) (at 3 65) ∷ StepTo (Call (id 2) (FunctionCallee 0) []) (at 3 68) ∷ []) (Int (pos 1) Int8 here) ∷ [])) here)
    (plain BitTy) (plain BitTy) (Some (plain UnitTy))

pub indexes_in_order : answer_of BinaryFormat 100 (loaded (codes "p") indexes_in_order_core) [] [] ≡ answers 4 []
    (codes "trap 2 in p at 3:65\ntaken 0\nwritten 0\n")
unfolding shape-the_row-Val-0 hidden-the_row-Val-0 shape-the_row-Expr-0 hidden-the_row-Expr-0 shape-the_row-Expr-1 hidden-the_row-Expr-1
    shape-the_row-Stmt-0 hidden-the_row-Stmt-0 shape-the_row-Member-1 hidden-the_row-Member-1 shape-the_row-Comp-0 hidden-the_row-Comp-0 hidden
    int_wrap digits
indexes_in_order = refl

-- an inner variable hides an outer one:
--     let comp main = read[bit] >>> do { var a : int8 := 1; if true then { var a : int8; a := 5 }; a := a + 1; return a } >>> write[bit]
abbrev assigns_the_inner_core : Core
assigns_the_inner_core = program (Do (returning (VarStmt (var 1 (word Int8) (Some (Int (pos 1) Int8 here))) ∷ IfStmt (BoolLiteral true here) (VarStmt
    (var 2 (word Int8) None) ∷ Assign (id 2) [] (Int (pos 5) Int8 here) ∷ []) here ∷ Assign (id 1) [] (Binary Add Int8 (Variable (id 1)) (Int (pos 1)
    Int8 here) (at 1 101)) ∷ []) (Variable (id 1))) here) (plain BitTy) (plain BitTy) (Some (plain Int8))

pub assigns_the_inner : answer_of BinaryFormat 1 (loaded (codes "p") assigns_the_inner_core) [] [] ≡ answers 0 []
    (codes "ended 2\ntaken 0\nwritten 0\n")
unfolding shape-the_row-Val-0 hidden-the_row-Val-0 shape-the_row-Expr-0 hidden-the_row-Expr-0 shape-the_row-Expr-1 hidden-the_row-Expr-1
    shape-the_row-Stmt-0 hidden-the_row-Stmt-0 shape-the_row-Member-1 hidden-the_row-Member-1 shape-the_row-Comp-0 hidden-the_row-Comp-0 hidden
    int_wrap digits
assigns_the_inner = refl

-- the branch that the condition chooses:
--     let comp main = read[bit] >>> do { var a : int8; if a == 1 then { a := 5 } else { a := 6 }; if a == 1 then { error "no" }; return a } >>> write[bit]
abbrev branches_core : Core
branches_core = program (Do (returning (VarStmt (var 1 (word Int8) None) ∷ IfElseStmt (Binary Equal Int8 (Variable (id 1)) (Int (pos 1) Int8 here) (at
    1 55)) (Assign (id 1) [] (Int (pos 5) Int8 here) ∷ []) (Assign (id 1) [] (Int (pos 6) Int8 here) ∷ []) here ∷ IfStmt (Binary Equal Int8 (Variable
    (id 1)) (Int (pos 1) Int8 here) (at 1 98)) (Error [] (at 1 110) ∷ []) here ∷ []) (Variable (id 1))) here) (plain BitTy) (plain BitTy) (Some (plain
    Int8))

pub branches : answer_of BinaryFormat 1 (loaded (codes "p") branches_core) [] [] ≡ answers 0 [] (codes "ended 6\ntaken 0\nwritten 0\n")
unfolding shape-the_row-Val-0 hidden-the_row-Val-0 shape-the_row-Expr-0 hidden-the_row-Expr-0 shape-the_row-Expr-1 hidden-the_row-Expr-1
    shape-the_row-Stmt-0 hidden-the_row-Stmt-0 shape-the_row-Member-1 hidden-the_row-Member-1 shape-the_row-Comp-0 hidden-the_row-Comp-0 hidden
    int_wrap digits
branches = refl

-- a turn costs a tick before it:
--     let comp main = read[bit] >>> do { var a : int8; while (a < 3) { a := a + 1 }; return a } >>> write[bit]
abbrev while_turns_core : Core
while_turns_core = program (Do (returning (VarStmt (var 1 (word Int8) None) ∷ WhileStmt (Binary Less Int8 (Variable (id 1)) (Int (pos 3) Int8 here)
    (at 1 59)) (Assign (id 1) [] (Binary Add Int8 (Variable (id 1)) (Int (pos 1) Int8 here) (at 1 73)) ∷ []) here ∷ []) (Variable (id 1))) here)
    (plain BitTy) (plain BitTy) (Some (plain Int8))

pub while_turns : answer_of BinaryFormat 4 (loaded (codes "p") while_turns_core) [] [] ≡ answers 0 [] (codes "ended 3\ntaken 0\nwritten 0\n")
unfolding shape-the_row-Val-0 hidden-the_row-Val-0 shape-the_row-Expr-0 hidden-the_row-Expr-0 shape-the_row-Expr-1 hidden-the_row-Expr-1
    shape-the_row-Stmt-0 hidden-the_row-Stmt-0 shape-the_row-Member-1 hidden-the_row-Member-1 shape-the_row-Comp-0 hidden-the_row-Comp-0 hidden
    int_wrap digits
while_turns = refl

-- one tick less:
--     let comp main = read[bit] >>> do { var a : int8; while (a < 3) { a := a + 1 }; return a } >>> write[bit]
abbrev while_spent_core : Core
while_spent_core = program (Do (returning (VarStmt (var 1 (word Int8) None) ∷ WhileStmt (Binary Less Int8 (Variable (id 1)) (Int (pos 3) Int8 here)
    (at 1 59)) (Assign (id 1) [] (Binary Add Int8 (Variable (id 1)) (Int (pos 1) Int8 here) (at 1 73)) ∷ []) here ∷ []) (Variable (id 1))) here)
    (plain BitTy) (plain BitTy) (Some (plain Int8))

pub while_spent : answer_of BinaryFormat 3 (loaded (codes "p") while_spent_core) [] [] ≡ answers 5 [] (codes "out of ticks 3\nwritten 0\n")
unfolding shape-the_row-Val-0 hidden-the_row-Val-0 shape-the_row-Expr-0 hidden-the_row-Expr-0 shape-the_row-Expr-1 hidden-the_row-Expr-1
    shape-the_row-Stmt-0 hidden-the_row-Stmt-0 shape-the_row-Member-1 hidden-the_row-Member-1 shape-the_row-Comp-0 hidden-the_row-Comp-0 hidden
    int_wrap digits
while_spent = refl

-- what follows a loop has the ticks that its turns left:
--     let comp main = read[bit] >>> { x <- do { var a : int8; while (a < 3) { a := a + 1 }; return a }; return x } >>> write[bit]
abbrev while_costs_core : Core
while_costs_core = program (Block (Bind (id 2) (Do (returning (VarStmt (var 1 (word Int8) None) ∷ WhileStmt (Binary Less Int8 (Variable (id 1)) (Int
    (pos 3) Int8 here) (at 1 66)) (Assign (id 1) [] (Binary Add Int8 (Variable (id 1)) (Int (pos 1) Int8 here) (at 1 80)) ∷ []) here ∷ []) (Variable
    (id 1))) here) ∷ Run (ReturnComp (Variable (id 2)) here) ∷ []) here) (plain BitTy) (plain BitTy) (Some (plain Int8))

pub while_costs : answer_of BinaryFormat 5 (loaded (codes "p") while_costs_core) [] [] ≡ answers 0 [] (codes "ended 3\ntaken 0\nwritten 0\n")
unfolding shape-the_row-Val-0 hidden-the_row-Val-0 shape-the_row-Expr-0 hidden-the_row-Expr-0 shape-the_row-Expr-1 hidden-the_row-Expr-1
    shape-the_row-Stmt-0 hidden-the_row-Stmt-0 shape-the_row-Member-1 hidden-the_row-Member-1 shape-the_row-Comp-0 hidden-the_row-Comp-0 hidden
    int_wrap digits
while_costs = refl

-- one tick less:
--     let comp main = read[bit] >>> { x <- do { var a : int8; while (a < 3) { a := a + 1 }; return a }; return x } >>> write[bit]
abbrev while_costs_spent_core : Core
while_costs_spent_core = program (Block (Bind (id 2) (Do (returning (VarStmt (var 1 (word Int8) None) ∷ WhileStmt (Binary Less Int8 (Variable (id 1))
    (Int (pos 3) Int8 here) (at 1 66)) (Assign (id 1) [] (Binary Add Int8 (Variable (id 1)) (Int (pos 1) Int8 here) (at 1 80)) ∷ []) here ∷ [])
    (Variable (id 1))) here) ∷ Run (ReturnComp (Variable (id 2)) here) ∷ []) here) (plain BitTy) (plain BitTy) (Some (plain Int8))

pub while_costs_spent : answer_of BinaryFormat 4 (loaded (codes "p") while_costs_spent_core) [] [] ≡ answers 5 []
    (codes "out of ticks 4\nwritten 0\n")
unfolding shape-the_row-Val-0 hidden-the_row-Val-0 shape-the_row-Expr-0 hidden-the_row-Expr-0 shape-the_row-Expr-1 hidden-the_row-Expr-1
    shape-the_row-Stmt-0 hidden-the_row-Stmt-0 shape-the_row-Member-1 hidden-the_row-Member-1 shape-the_row-Comp-0 hidden-the_row-Comp-0 hidden
    int_wrap digits
while_costs_spent = refl

-- and of a loop that counts:
--     let comp main = read[bit] >>> { x <- do { var a : int32; for i in [5, 3] { a := a + i }; return a }; return x } >>> write[bit]
abbrev for_costs_spent_core : Core
for_costs_spent_core = program (Block (Bind (id 3) (Do (returning (VarStmt (var 1 (word Int32) None) ∷ ForStmt (id 2) (Int (pos 5) Int32 here) (Int
    (pos 3) Int32 here) (Assign (id 1) [] (Binary Add Int32 (Variable (id 1)) (Variable (id 2)) (at 1 83)) ∷ []) here ∷ []) (Variable (id 1))) here) ∷
    Run (ReturnComp (Variable (id 3)) here) ∷ []) here) (plain BitTy) (plain BitTy) (Some (plain Int32))

pub for_costs_spent : answer_of BinaryFormat 4 (loaded (codes "p") for_costs_spent_core) [] [] ≡ answers 5 [] (codes "out of ticks 4\nwritten 0\n")
unfolding shape-the_row-Val-0 hidden-the_row-Val-0 shape-the_row-Expr-0 hidden-the_row-Expr-0 shape-the_row-Expr-1 hidden-the_row-Expr-1
    shape-the_row-Stmt-0 hidden-the_row-Stmt-0 shape-the_row-Member-1 hidden-the_row-Member-1 shape-the_row-Comp-0 hidden-the_row-Comp-0 hidden
    int_wrap digits
for_costs_spent = refl

-- a turn costs a tick before it, and the index counts:
--     let comp main = read[bit] >>> do { var a : int32; for i in [5, 3] { a := a + i }; return a } >>> write[bit]
abbrev for_turns_core : Core
for_turns_core = program (Do (returning (VarStmt (var 1 (word Int32) None) ∷ ForStmt (id 2) (Int (pos 5) Int32 here) (Int (pos 3) Int32 here) (Assign
    (id 1) [] (Binary Add Int32 (Variable (id 1)) (Variable (id 2)) (at 1 76)) ∷ []) here ∷ []) (Variable (id 1))) here) (plain BitTy) (plain BitTy)
    (Some (plain Int32))

pub for_turns : answer_of BinaryFormat 4 (loaded (codes "p") for_turns_core) [] [] ≡ answers 0 [] (codes "ended 18\ntaken 0\nwritten 0\n")
unfolding shape-the_row-Val-0 hidden-the_row-Val-0 shape-the_row-Expr-0 hidden-the_row-Expr-0 shape-the_row-Expr-1 hidden-the_row-Expr-1
    shape-the_row-Stmt-0 hidden-the_row-Stmt-0 shape-the_row-Member-1 hidden-the_row-Member-1 shape-the_row-Comp-0 hidden-the_row-Comp-0 hidden
    int_wrap digits
for_turns = refl

-- one tick less:
--     let comp main = read[bit] >>> do { var a : int32; for i in [5, 3] { a := a + i }; return a } >>> write[bit]
abbrev for_spent_core : Core
for_spent_core = program (Do (returning (VarStmt (var 1 (word Int32) None) ∷ ForStmt (id 2) (Int (pos 5) Int32 here) (Int (pos 3) Int32 here) (Assign
    (id 1) [] (Binary Add Int32 (Variable (id 1)) (Variable (id 2)) (at 1 76)) ∷ []) here ∷ []) (Variable (id 1))) here) (plain BitTy) (plain BitTy)
    (Some (plain Int32))

pub for_spent : answer_of BinaryFormat 3 (loaded (codes "p") for_spent_core) [] [] ≡ answers 5 [] (codes "out of ticks 3\nwritten 0\n")
unfolding shape-the_row-Val-0 hidden-the_row-Val-0 shape-the_row-Expr-0 hidden-the_row-Expr-0 shape-the_row-Expr-1 hidden-the_row-Expr-1
    shape-the_row-Stmt-0 hidden-the_row-Stmt-0 shape-the_row-Member-1 hidden-the_row-Member-1 shape-the_row-Comp-0 hidden-the_row-Comp-0 hidden
    int_wrap digits
for_spent = refl

-- the index wraps:
--     let comp main = read[bit] >>> do { var a : int32; for i in [2147483647, 2] { a := i }; return a } >>> write[bit]
abbrev for_wraps_core : Core
for_wraps_core = program (Do (returning (VarStmt (var 1 (word Int32) None) ∷ ForStmt (id 2) (Int (pos 2147483647) Int32 here) (Int (pos 2) Int32 here)
    (Assign (id 1) [] (Variable (id 2)) ∷ []) here ∷ []) (Variable (id 1))) here) (plain BitTy) (plain BitTy) (Some (plain Int32))

pub for_wraps : answer_of BinaryFormat 3 (loaded (codes "p") for_wraps_core) [] [] ≡ answers 0 [] (codes "ended -2147483648\ntaken 0\nwritten 0\n")
unfolding shape-the_row-Val-0 hidden-the_row-Val-0 shape-the_row-Expr-0 hidden-the_row-Expr-0 shape-the_row-Expr-1 hidden-the_row-Expr-1
    shape-the_row-Stmt-0 hidden-the_row-Stmt-0 shape-the_row-Member-1 hidden-the_row-Member-1 shape-the_row-Comp-0 hidden-the_row-Comp-0 hidden
    int_wrap digits
for_wraps = refl

-- no turn below one:
--     let comp main = read[bit] >>> do { for i in [0, 0 - 3] { error "no" }; return 1 } >>> write[bit]
abbrev for_none_core : Core
for_none_core = program (Do (returning (ForStmt (id 1) (Int (pos 0) Int32 here) (Binary Subtract Int32 (Int (pos 0) Int32 here) (Int (pos 3) Int32
    here) (at 1 51)) (Error [] (at 1 58) ∷ []) here ∷ []) (Int (pos 1) Int32 here)) here) (plain BitTy) (plain BitTy) (Some (plain Int32))

pub for_none : answer_of BinaryFormat 1 (loaded (codes "p") for_none_core) [] [] ≡ answers 0 [] (codes "ended 1\ntaken 0\nwritten 0\n")
unfolding shape-the_row-Val-0 hidden-the_row-Val-0 shape-the_row-Expr-0 hidden-the_row-Expr-0 shape-the_row-Expr-1 hidden-the_row-Expr-1
    shape-the_row-Stmt-0 hidden-the_row-Stmt-0 shape-the_row-Member-1 hidden-the_row-Member-1 shape-the_row-Comp-0 hidden-the_row-Comp-0 hidden
    int_wrap digits
for_none = refl

-- the names of a turn leave it:
--     let comp main = read[bit] >>> do { var a : int8; for i in [0, 2] { var b : int8; b := b + 1; a := a + b }; var c : int8 := 4; a := a + c; return a } >>> write[bit]
abbrev scopes_leave_core : Core
scopes_leave_core = program (Do (returning (VarStmt (var 1 (word Int8) None) ∷ ForStmt (id 2) (Int (pos 0) Int32 here) (Int (pos 2) Int32 here)
    (VarStmt (var 3 (word Int8) None) ∷ Assign (id 3) [] (Binary Add Int8 (Variable (id 3)) (Int (pos 1) Int8 here) (at 1 89)) ∷ Assign (id 1) []
    (Binary Add Int8 (Variable (id 1)) (Variable (id 3)) (at 1 101)) ∷ []) here ∷ VarStmt (var 4 (word Int8) (Some (Int (pos 4) Int8 here))) ∷ Assign
    (id 1) [] (Binary Add Int8 (Variable (id 1)) (Variable (id 4)) (at 1 134)) ∷ []) (Variable (id 1))) here) (plain BitTy) (plain BitTy) (Some (plain
    Int8))

pub scopes_leave : answer_of BinaryFormat 100 (loaded (codes "p") scopes_leave_core) [] [] ≡ answers 0 [] (codes "ended 6\ntaken 0\nwritten 0\n")
unfolding shape-the_row-Val-0 hidden-the_row-Val-0 shape-the_row-Expr-0 hidden-the_row-Expr-0 shape-the_row-Expr-1 hidden-the_row-Expr-1
    shape-the_row-Stmt-0 hidden-the_row-Stmt-0 shape-the_row-Member-1 hidden-the_row-Member-1 shape-the_row-Comp-0 hidden-the_row-Comp-0 hidden
    int_wrap digits
scopes_leave = refl

-- a call of a function without a value:
--     var n : int8;
--     fun set(x : int8) { n := x }
--     let comp main = read[bit] >>> do { set(4); set(n + 1); return n } >>> write[bit]
abbrev calls_statement_core : Core
calls_statement_core = core [] ((var 1 (word Int8) None) ∷ []) (function 2 (param 3 (word Int8) ∷ []) (doing (Assign (id 1) [] (Variable (id 3)) ∷
    [])) ∷ []) [] (Do (returning (CallStmt (id 2) 0 ((Int (pos 4) Int8 here) ∷ []) ∷ CallStmt (id 2) 0 ((Binary Add Int8 (Variable (id 1)) (Int (pos
    1) Int8 here) (at 3 50)) ∷ []) ∷ []) (Variable (id 1))) here) (plain BitTy) (plain BitTy) (Some (plain Int8))

pub calls_statement : answer_of BinaryFormat 3 (loaded (codes "p") calls_statement_core) [] [] ≡ answers 0 [] (codes "ended 5\ntaken 0\nwritten 0\n")
unfolding shape-the_row-Val-0 hidden-the_row-Val-0 shape-the_row-Expr-0 hidden-the_row-Expr-0 shape-the_row-Expr-1 hidden-the_row-Expr-1
    shape-the_row-Stmt-0 hidden-the_row-Stmt-0 shape-the_row-Member-1 hidden-the_row-Member-1 shape-the_row-Comp-0 hidden-the_row-Comp-0 hidden
    int_wrap digits
calls_statement = refl

-- a call costs a tick:
--     var n : int8;
--     fun set(x : int8) { n := x }
--     let comp main = read[bit] >>> do { set(4); set(n + 1); return n } >>> write[bit]
abbrev calls_spent_core : Core
calls_spent_core = core [] ((var 1 (word Int8) None) ∷ []) (function 2 (param 3 (word Int8) ∷ []) (doing (Assign (id 1) [] (Variable (id 3)) ∷ [])) ∷
    []) [] (Do (returning (CallStmt (id 2) 0 ((Int (pos 4) Int8 here) ∷ []) ∷ CallStmt (id 2) 0 ((Binary Add Int8 (Variable (id 1)) (Int (pos 1) Int8
    here) (at 3 50)) ∷ []) ∷ []) (Variable (id 1))) here) (plain BitTy) (plain BitTy) (Some (plain Int8))

pub calls_spent : answer_of BinaryFormat 2 (loaded (codes "p") calls_spent_core) [] [] ≡ answers 5 [] (codes "out of ticks 2\nwritten 0\n")
unfolding shape-the_row-Val-0 hidden-the_row-Val-0 shape-the_row-Expr-0 hidden-the_row-Expr-0 shape-the_row-Expr-1 hidden-the_row-Expr-1
    shape-the_row-Stmt-0 hidden-the_row-Stmt-0 shape-the_row-Member-1 hidden-the_row-Member-1 shape-the_row-Comp-0 hidden-the_row-Comp-0 hidden
    int_wrap digits
calls_spent = refl

-- the names of the caller are in scope again:
--     fun f(x : int8) : int8 { var y : int8 := x + 1; return y }
--     let comp main = read[bit] >>> do { var y : int8 := 1; var z : int8 := f(y) + f(f(y)); return {y, z} } >>> write[bit]
abbrev call_keeps_names_core : Core
call_keeps_names_core = core [] [] (function 1 (param 2 (word Int8) ∷ []) (returning (VarStmt (var 3 (word Int8) (Some (Binary Add Int8 (Variable (id
    2)) (Int (pos 1) Int8 here) (at 1 44)))) ∷ []) (Variable (id 3))) ∷ []) [] (Do (returning (VarStmt (var 4 (word Int8) (Some (Int (pos 1) Int8
    here))) ∷ VarStmt (var 5 (word Int8) (Some (Binary Add Int8 (Call (id 1) (FunctionCallee 0) ((Variable (id 4)) ∷ [])) (Call (id 1) (FunctionCallee
    0) ((Call (id 1) (FunctionCallee 0) ((Variable (id 4)) ∷ [])) ∷ [])) (at 2 76)))) ∷ []) (Array ((Variable (id 4)) ∷ (Variable (id 5)) ∷ []) here))
    here) (plain BitTy) (plain BitTy) (Some (ty (2 ∷ []) Int8))

pub call_keeps_names : answer_of BinaryFormat 100 (loaded (codes "p") call_keeps_names_core) [] [] ≡ answers 0 []
    (codes "ended {1,5}\ntaken 0\nwritten 0\n")
unfolding shape-the_row-Val-0 hidden-the_row-Val-0 shape-the_row-Expr-0 hidden-the_row-Expr-0 shape-the_row-Expr-1 hidden-the_row-Expr-1
    shape-the_row-Stmt-0 hidden-the_row-Stmt-0 shape-the_row-Member-1 hidden-the_row-Member-1 shape-the_row-Comp-0 hidden-the_row-Comp-0 hidden
    int_wrap digits
call_keeps_names = refl

-- the word error:
--     let comp main = read[bit] >>> do { error "no";  } >>> write[bit]
abbrev error_traps_core : Core
error_traps_core = program (Do (doing (Error [] (at 1 36) ∷ [])) here) (plain BitTy) (plain BitTy) (Some (plain UnitTy))

pub error_traps : answer_of BinaryFormat 1 (loaded (codes "p") error_traps_core) [] [] ≡ answers 4 []
    (codes "trap 5 in p at 1:36\ntaken 0\nwritten 0\n")
unfolding shape-the_row-Val-0 hidden-the_row-Val-0 shape-the_row-Expr-0 hidden-the_row-Expr-0 shape-the_row-Expr-1 hidden-the_row-Expr-1
    shape-the_row-Stmt-0 hidden-the_row-Stmt-0 shape-the_row-Member-1 hidden-the_row-Member-1 shape-the_row-Comp-0 hidden-the_row-Comp-0 hidden
    int_wrap digits
error_traps = refl

-- a body without a return gives unit:
--     let comp main = read[bit] >>> do { var a : int8;  } >>> write[bit]
abbrev no_result_core : Core
no_result_core = program (Do (doing (VarStmt (var 1 (word Int8) None) ∷ [])) here) (plain BitTy) (plain BitTy) (Some (plain UnitTy))

pub no_result : answer_of BinaryFormat 1 (loaded (codes "p") no_result_core) [] [] ≡ answers 0 [] (codes "ended ()\ntaken 0\nwritten 0\n")
unfolding shape-the_row-Val-0 hidden-the_row-Val-0 shape-the_row-Expr-0 hidden-the_row-Expr-0 shape-the_row-Expr-1 hidden-the_row-Expr-1
    shape-the_row-Stmt-0 hidden-the_row-Stmt-0 shape-the_row-Member-1 hidden-the_row-Member-1 shape-the_row-Comp-0 hidden-the_row-Comp-0 hidden
    int_wrap digits
no_result = refl
