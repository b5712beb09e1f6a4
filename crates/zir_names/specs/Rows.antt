-- Worked rows: small programs with the places of their names, and what resolving them gives.
use Rattle.std.specs.Prelude.{ℕ, false, List, [], ◌∷◌, Some, None, ◌≡◌, refl, codes}
use denote.Hole.Carrier.{hidden}
use Rattle.zir_tree.specs.declared.place.Place.{Place}
use Rattle.zir_tree.specs.declared.ident.Ident.{Ident}
use Rattle.zir_tree.specs.declared.types.Base.TheVariants as base
use Rattle.zir_tree.specs.declared.types.TypeExpr.{TypeExpr}
use Rattle.zir_tree.specs.declared.types.Field.{Field}
use Rattle.zir_tree.specs.declared.expr.Expr.{Expr, Bit, Variable, Call}
use Rattle.zir_tree.specs.declared.expr.Expr.TheBlock.{shape-the_row-Expr-1, hidden-the_row-Expr-1}
use Rattle.zir_tree.specs.declared.expr.Callee.TheVariants as callee
use Rattle.zir_tree.specs.declared.stmt.Stmt.{Stmt}
use Rattle.zir_tree.specs.declared.stmt.Stmt as stmt
use Rattle.zir_tree.specs.declared.comp.Comp.{Comp, Take, Emit, For, Map, Block}
use Rattle.zir_tree.specs.declared.comp.Comp.TheBlock.{shape-the_row-Comp-0, hidden-the_row-Comp-0, shape-the_row-Member-1, hidden-the_row-Member-1}
use Rattle.zir_tree.specs.declared.comp.Member.{Bind, Run}
use Rattle.zir_tree.specs.declared.program.Decl.{Decl}
use Rattle.zir_tree.specs.declared.program.Decl.TheVariants as decl
use Rattle.zir_tree.specs.declared.program.Prog.{Prog}
use Rattle.zir_names.specs.declared.error.NameError.TheVariants.{Unknown, Twice, Recursive}
use Rattle.zir_names.specs.Walk.{Walk, Fine, Broken}
use Rattle.zir_names.specs.declared.program.Named.{Named}
use Rattle.zir_names.specs.Programs.{names}

-- a place in the first line
abbrev pub col : ℕ → Place
col n = record { line = 1; col = n }

-- a name at a place, with a number
abbrev pub named : List ℕ → ℕ → ℕ → Ident
named name id n = record { name = name; id = id; at = col n }

-- the name a, with a number and a column
abbrev pub a : ℕ → ℕ → Ident
a = named (codes "a")

-- the name b, with a number and a column
abbrev pub b : ℕ → ℕ → Ident
b = named (codes "b")

-- the name f, with a number and a column
abbrev pub f : ℕ → ℕ → Ident
f = named (codes "f")

-- the name g, with a number and a column
abbrev pub g : ℕ → ℕ → Ident
g = named (codes "g")

-- the name i, with a number and a column
abbrev pub i : ℕ → ℕ → Ident
i = named (codes "i")

-- the name n, with a number and a column
abbrev pub n : ℕ → ℕ → Ident
n = named (codes "n")

-- the name s, with a number and a column
abbrev pub s : ℕ → ℕ → Ident
s = named (codes "s")

-- the name x, with a number and a column
abbrev pub x : ℕ → ℕ → Ident
x = named (codes "x")

-- the name y, with a number and a column
abbrev pub y : ℕ → ℕ → Ident
y = named (codes "y")

-- bits, at a place
abbrev pub bit_type : ℕ → TypeExpr
bit_type n = record { dimensions = []; base = base.Bit; name = None; at = col n }

-- the type of a struct
abbrev pub struct_type : Ident → TypeExpr
struct_type x = record { dimensions = []; base = base.Struct 0; name = Some x; at = x.at }

-- a program over bits
abbrev pub over_bits : List Decl → Comp → Prog
over_bits ds c = record { declarations = ds; input = bit_type 1; main = c; output = bit_type 1; at = col 1 }

-- the same, resolved
abbrev pub resolved_over_bits : List Decl → Comp → Walk Named
resolved_over_bits ds c = Fine (record { program = over_bits ds c })

-- var a : bit;
abbrev pub bit_var : Ident → Decl
bit_var x = decl.Var (record { name = x; ty = bit_type 1; initial = None; at = col 1 })

-- fun f(ps) : bit { ss return e }
abbrev pub bit_function : Ident → List Field → List Stmt → Expr → Decl
bit_function f ps ss e = decl.Function (record {
  name = f;
  params = ps;
  result = Some (bit_type 1);
  body = record { statements = ss; result = Some (record { value = e; at = col 1 }) };
  at = col 1;
})

-- x : bit
abbrev pub bit_field : Ident → Field
bit_field x = record { name = x; ty = bit_type 1 }

-- f(e)
abbrev pub call_of : Ident → Expr → Expr
call_of f e = Call f (callee.Function 0) (e ∷ [])

-- var a : bit; fun f(x : bit) : bit { return x } .. { y <- take; emit f(y) }
pub numbers_row : names (over_bits
    (bit_var (a 0 5) ∷ bit_function (f 0 18) (bit_field (x 0 20) ∷ []) [] (Variable (x 0 43)) ∷ [])
    (Block (Bind (y 0 50) (Take (col 55)) ∷ Run (Emit (call_of (f 0 66) (Variable (y 0 68))) (col 61)) ∷ []) (col 48)))
    ≡ resolved_over_bits
    (bit_var (a 1 5) ∷ bit_function (f 2 18) (bit_field (x 3 20) ∷ []) [] (Variable (x 3 43)) ∷ [])
    (Block (Bind (y 4 50) (Take (col 55)) ∷ Run (Emit (call_of (f 2 66) (Variable (y 4 68))) (col 61)) ∷ []) (col 48))
unfolding shape-the_row-Expr-1 hidden-the_row-Expr-1 shape-the_row-Member-1 hidden-the_row-Member-1 hidden
numbers_row = refl

-- fun f(x : bit) : bit { return f(x) }
pub recursive_row : names (over_bits
    (bit_function (f 0 5) (bit_field (x 0 7) ∷ []) [] (call_of (f 0 31) (Variable (x 0 33))) ∷ [])
    (Take (col 40)))
    ≡ Broken (Recursive (col 31))
unfolding shape-the_row-Expr-1 hidden-the_row-Expr-1 hidden
recursive_row = refl

-- fun f(x : f) .. is no recursion: types do not see the function
pub own_type_row : names (over_bits
    (bit_function (f 0 5) (record { name = x 0 7; ty = struct_type (f 0 11) } ∷ []) [] (Variable (x 0 33)) ∷ [])
    (Take (col 40)))
    ≡ Broken (Unknown (col 11))
own_type_row = refl

-- struct s = { x : s }
pub own_field_row : names (over_bits
    (decl.Struct (record { name = s 0 8; fields = record { name = x 0 14; ty = struct_type (s 0 18) } ∷ []; at = col 1 }) ∷ [])
    (Take (col 40)))
    ≡ Broken (Recursive (col 18))
own_field_row = refl

-- var n : bit; var n : bit;
pub twice_row : names (over_bits (bit_var (n 0 5) ∷ bit_var (n 0 18) ∷ []) (Take (col 40))) ≡ Broken (Twice (col 18))
twice_row = refl

-- fun f(x : bit, x : g) ..: the second name comes before its type
pub twice_param_row : names (over_bits
    (bit_function (f 0 5) (bit_field (x 0 7) ∷ record { name = x 0 16; ty = struct_type (g 0 20) } ∷ []) [] (Variable (x 0 33)) ∷ [])
    (Take (col 40)))
    ≡ Broken (Twice (col 16))
twice_param_row = refl

-- { emit a; emit b }: the first refusal is the answer
pub first_row : names (over_bits [] (Block (Run (Emit (Variable (a 0 8)) (col 3)) ∷ Run (Emit (Variable (b 0 16)) (col 11)) ∷ []) (col 1)))
    ≡ Broken (Unknown (col 8))
unfolding shape-the_row-Member-1 hidden-the_row-Member-1 hidden
first_row = refl

-- fun f .. { f <- take; emit f(f) }: a bound name hides a function
pub hidden_row : names (over_bits
    (bit_function (f 0 5) (bit_field (x 0 7) ∷ []) [] (Variable (x 0 31)) ∷ [])
    (Block (Bind (f 0 42) (Take (col 47)) ∷ Run (Emit (call_of (f 0 58) (Variable (f 0 60))) (col 53)) ∷ []) (col 40)))
    ≡ Broken (Unknown (col 58))
unfolding shape-the_row-Expr-1 hidden-the_row-Expr-1 shape-the_row-Member-1 hidden-the_row-Member-1 hidden
hidden_row = refl

-- var x : bit; fun f(x : bit) : bit { x := '0; return x }: a parameter hides a variable, and is not assigned
pub fixed_row : names (over_bits
    (bit_var (x 0 5) ∷ bit_function (f 0 18) (bit_field (x 0 20) ∷ []) (stmt.Assign (x 0 37) [] (Bit false (col 42)) ∷ []) (Variable (x 0 53)) ∷ [])
    (Take (col 60)))
    ≡ Broken (Unknown (col 37))
fixed_row = refl

-- fun f .. { return g(x) } fun g ..: a later function is not seen
pub later_row : names (over_bits
    (bit_function (f 0 5) (bit_field (x 0 7) ∷ []) [] (call_of (g 0 31) (Variable (x 0 33)))
    ∷ bit_function (g 0 42) (bit_field (x 0 44) ∷ []) [] (Variable (x 0 70)) ∷ [])
    (Take (col 80)))
    ≡ Broken (Unknown (col 31))
unfolding shape-the_row-Expr-1 hidden-the_row-Expr-1 hidden
later_row = refl

-- fun f(x : bit, y : bit) .. map f
pub mapped_row : names (over_bits
    (bit_function (f 0 5) (bit_field (x 0 7) ∷ bit_field (y 0 16) ∷ []) [] (Variable (x 0 40)) ∷ [])
    (Map (f 0 54) 0 (col 50)))
    ≡ Broken (Unknown (col 54))
mapped_row = refl

-- { x <- emit x }: a bound name is not seen in its own component
pub bound_row : names (over_bits [] (Block (Bind (x 0 3) (Emit (Variable (x 0 13)) (col 8)) ∷ []) (col 1))) ≡ Broken (Unknown (col 13))
unfolding shape-the_row-Member-1 hidden-the_row-Member-1 hidden
bound_row = refl

-- { for i in ['0, '0] emit i; emit i }: an index is seen in its body alone
pub index_row : names (over_bits [] (Block
    (Run (For (i 0 7) (Bit false (col 13)) (Bit false (col 17)) (Emit (Variable (i 0 26)) (col 21)) (col 3)) ∷ Run (Emit (Variable (i 0 34)) (col 29)) ∷ [])
    (col 1)))
    ≡ Broken (Unknown (col 34))
unfolding shape-the_row-Comp-0 hidden-the_row-Comp-0 shape-the_row-Member-1 hidden-the_row-Member-1 hidden
index_row = refl
