-- Worked rows of the walk of statements and of bodies.
use Rattle.std.specs.Prelude.{◌≡◌, refl, pos, [], ◌∷◌, true, Some, None}
use denote.Hole.Carrier.{hidden}
use Rattle.zir_tree.specs.declared.types.Base.TheVariants.{Unit as UnitTy, Int8, Int32}
use Rattle.zir_tree.specs.declared.expr.Expr.{Bit, Int}
use Rattle.zir_tree.specs.declared.stmt.Access.TheVariants.{Index, Part}
use Rattle.zir_tree.specs.declared.stmt.Stmt.{Var as VarStmt, Assign, Call as CallStmt, If, While, For}
use Rattle.zir_tree.specs.declared.stmt.Stmt.TheBlock.{shape-the_row-Stmt-0, hidden-the_row-Stmt-0}
use Rattle.zir_types.specs.declared.error.TypeError.TheVariants.{Mismatch}
use Rattle.zir_types.specs.Walk.{Fine, Broken}
use Rattle.zir_types.specs.Kinds.{scalar}
use Rattle.zir_types.specs.Statements.{stmt, plain_step, fun_body, do_body, body_of}
use Rattle.zir_types.specs.Samples.{at, ident, name, int, word, x, t, y, a, s, f, g, scope}

-- `var z : int8 := 200` is refused at the literal, and `var z : int8 := y` at `var`.
var_200_row : stmt scope (VarStmt (record { name = ident 40 5; ty = word Int8 9; initial = Some (int 200 17); at = at 1 })) ≡ Broken (Mismatch (at 17))
var_200_row = refl

var_row : stmt scope (VarStmt (record { name = ident 40 5; ty = word Int8 9; initial = Some (name y 17); at = at 1 })) ≡ Broken (Mismatch (at 1))
var_row = refl

-- `a[t] := y` is refused at the bracket, before the right side; `a[0] := y` at the name.
index_first_row : stmt scope (Assign (ident a 1) (Index (name t 3) (at 2) ∷ []) (name y 9)) ≡ Broken (Mismatch (at 2))
index_first_row = refl

assign_row : stmt scope (Assign (ident a 1) (Index (int 0 3) (at 2) ∷ []) (name y 9)) ≡ Broken (Mismatch (at 1))
assign_row = refl

-- `s.p := 5` assigns a field, at its place and with its type.
field_row : stmt scope (Assign (ident s 1) (Part (112 ∷ []) 0 (at 2) ∷ []) (int 5 8))
    ≡ Fine (plain_step (Assign (ident s 1) (Part (112 ∷ []) 0 (at 2) ∷ []) (Int (pos 5) Int8 (at 8))))
field_row = refl

-- `f(5)` has a value, so it is no statement; `g('1)` is one, and the function's place is the second.
call_value_row : stmt scope (CallStmt (ident f 1) 0 (int 5 3 ∷ [])) ≡ Broken (Mismatch (at 1))
call_value_row = refl

call_row : stmt scope (CallStmt (ident g 1) 0 (Bit true (at 3) ∷ [])) ≡ Fine (plain_step (CallStmt (ident g 1) 1 (Bit true (at 3) ∷ [])))
call_row = refl

-- `while (x) { x := y }`: the body comes before the condition's rule; without it the refusal stands at `while`.
body_first_row : stmt scope (While (name x 8) (Assign (ident x 13) [] (name y 18) ∷ []) (at 1)) ≡ Broken (Mismatch (at 13))
unfolding shape-the_row-Stmt-0 hidden-the_row-Stmt-0 hidden
body_first_row = refl

condition_row : stmt scope (While (name x 8) [] (at 1)) ≡ Broken (Mismatch (at 1))
unfolding shape-the_row-Stmt-0 hidden-the_row-Stmt-0 hidden
condition_row = refl

-- `for i in [0, 4] { y := i }`: the index is an int32, and so are the bounds.
for_row : stmt scope (For (ident 41 5) (int 0 11) (int 4 14) (Assign (ident y 19) [] (name 41 24) ∷ []) (at 1))
    ≡ Fine (plain_step (For (ident 41 5) (Int (pos 0) Int32 (at 11)) (Int (pos 4) Int32 (at 14)) (Assign (ident y 19) [] (name 41 24) ∷ []) (at 1)))
unfolding shape-the_row-Stmt-0 hidden-the_row-Stmt-0 hidden
for_row = refl

bounds_row : stmt scope (For (ident 41 5) (name x 11) (int 4 14) [] (at 1)) ≡ Broken (Mismatch (at 1))
unfolding shape-the_row-Stmt-0 hidden-the_row-Stmt-0 hidden
bounds_row = refl

-- A `var` is seen by the statements behind it in its list.
seen_row : stmt scope (If (name t 4) (VarStmt (record { name = ident 42 15; ty = word Int8 19; initial = None; at = at 11 })
    ∷ Assign (ident 42 25) [] (int 7 30) ∷ []) (at 1))
    ≡ Fine (plain_step (If (name t 4) (VarStmt (record { name = ident 42 15; ty = word Int8 19; initial = None; at = at 11 })
    ∷ Assign (ident 42 25) [] (Int (pos 7) Int8 (at 30)) ∷ []) (at 1)))
unfolding shape-the_row-Stmt-0 hidden-the_row-Stmt-0 hidden
seen_row = refl

-- A function of a type returns a value of it, and one without a type returns nothing.
return_row : fun_body scope (Some (scalar Int8)) (at 1) (record { statements = []; result = Some (record { value = int 5 30; at = at 23 }) })
    ≡ Fine (body_of [] (Some (record { value = Int (pos 5) Int8 (at 30); at = at 23 })) (scalar Int8))
return_row = refl

return_type_row : fun_body scope (Some (scalar Int8)) (at 1) (record { statements = []; result = Some (record { value = name y 30; at = at 23 }) })
    ≡ Broken (Mismatch (at 23))
return_type_row = refl

no_return_row : fun_body scope (Some (scalar Int8)) (at 1) (record { statements = []; result = None }) ≡ Broken (Mismatch (at 1))
no_return_row = refl

spare_return_row : fun_body scope None (at 1) (record { statements = []; result = Some (record { value = int 5 30; at = at 23 }) }) ≡ Broken (Mismatch (at 1))
spare_return_row = refl

-- The value of a `do` is that of its `return`, or unit.
do_row : do_body scope (record { statements = []; result = Some (record { value = name x 30; at = at 23 }) })
    ≡ Fine (body_of [] (Some (record { value = name x 30; at = at 23 })) (scalar Int8))
do_row = refl

do_unit_row : do_body scope (record { statements = []; result = None }) ≡ Fine (body_of [] None (scalar UnitTy))
do_unit_row = refl
