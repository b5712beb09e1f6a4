-- Worked rows of the limits.
use Rattle.std.specs.Prelude.{◌≡◌, refl, ℕ, zero, suc, List, [], ◌∷◌, Option, Some, None}
use denote.Hole.Carrier.{hidden}
use Rattle.zir_tree.specs.declared.types.Base.TheVariants.{Bit as BitTy, Int8}
use Rattle.zir_tree.specs.declared.types.TypeExpr.{TypeExpr}
use Rattle.zir_tree.specs.declared.refusal.LimitKind.TheVariants.{Length, Cells, Element, Depth, Need, Stages}
use Rattle.zir_tree.specs.declared.expr.Callee.TheVariants.{Function as FunctionCallee}
use Rattle.zir_tree.specs.declared.expr.Expr.{Call}
use Rattle.zir_tree.specs.declared.expr.Expr.TheBlock.{shape-the_row-Expr-1, hidden-the_row-Expr-1}
use Rattle.zir_tree.specs.declared.stmt.Var.{Var}
use Rattle.zir_tree.specs.declared.comp.Link.TheVariants.{Parallel}
use Rattle.zir_tree.specs.declared.comp.Comp.{Comp, Take, Takes, Emit, Map, Block, Pipe}
use Rattle.zir_tree.specs.declared.comp.Comp.TheBlock.{shape-the_row-Comp-0, hidden-the_row-Comp-0, shape-the_row-Member-1, hidden-the_row-Member-1}
use Rattle.zir_tree.specs.declared.comp.Member.{Var as VarMember, Run}
use Rattle.zir_tree.specs.declared.program.Function.{Function}
use Rattle.zir_tree.specs.declared.program.Prog.{Prog}
use Rattle.zir_tree.specs.declared.program.Core.{Core}
use Rattle.zir_types.specs.Kinds.{scalar, arr}
use Rattle.zir_types.specs.Scope.{cells_in}
use Rattle.zir_types.specs.Known.{visible_of}
use Rattle.zir_types.specs.Needs.{program_need}
use Rattle.zir_types.specs.Limits.{Passed, limits}
use Rattle.zir_types.specs.Samples.{at, ident, name, word}

-- A program over bits, and its core with this main component, these functions and these top variables.
abbrev text : Prog
text = record { declarations = []; input = word BitTy 22; main = Take (at 31); output = word BitTy 90; at = at 1 }

abbrev core_of : List Var → List Function → Comp → Core
core_of vs fs c = record {
  structs = [];
  variables = vs;
  functions = fs;
  instances = [];
  main = c;
  input = scalar BitTy;
  output = scalar BitTy;
  value = None;
  at = at 1;
}

-- What is passed with this main component alone.
abbrev of_main : Comp → Option Passed
of_main c = limits text (core_of [] [] c)

-- A written array of int8 at a column.
abbrev bytes : ℕ → ℕ → TypeExpr
bytes k n = record { dimensions = record { length = k; at = at n } ∷ []; base = Int8; name = None; at = at n }

-- `takes 4096` is fine, `takes 4097` and `takes 0` are not.
takes_row : of_main (Takes 4096 (at 31)) ≡ None
takes_row = refl

takes_4097_row : of_main (Takes 4097 (at 31)) ≡ Some (record { kind = Length; at = at 31 })
takes_4097_row = refl

takes_0_row : of_main (Takes 0 (at 31)) ≡ Some (record { kind = Length; at = at 31 })
takes_0_row = refl

-- Cells saturate: arrays of 4,096 in one another are counted as one more than the limit.
saturated_row : cells_in [] (arr 4096 (arr 4096 (arr 4096 (arr 4096 (arr 4096 (scalar BitTy)))))) ≡ 65537
saturated_row = refl

-- An array of no elements has no cells, whatever they are.
empty_row : cells_in [] (arr 0 (arr 4096 (arr 4096 (scalar BitTy)))) ≡ 0
empty_row = refl

-- A variable of 4,096 times 17 cells is too large, at its `arr`; one of 4,096 times 16 is not.
abbrev matrix : ℕ → ℕ → TypeExpr
matrix k n = record { dimensions = record { length = 4096; at = at n } ∷ record { length = k; at = at (suc n) } ∷ []; base = Int8; name = None; at = at n }

abbrev with_matrix : ℕ → Comp
with_matrix k = Block (VarMember (record { name = ident 50 37; ty = matrix k 41; initial = None; at = at 33 }) ∷ Run (Take (at 60)) ∷ []) (at 31)

cells_row : of_main (with_matrix 17) ≡ Some (record { kind = Cells; at = at 41 })
unfolding shape-the_row-Member-1 hidden-the_row-Member-1 hidden
cells_row = refl

cells_16_row : of_main (with_matrix 16) ≡ None
unfolding shape-the_row-Member-1 hidden-the_row-Member-1 hidden
cells_16_row = refl

-- Of two limits the one that is tried first is answered, though it stands later: the length at column 60, not the cells at 41.
order_row : of_main (Block (VarMember (record { name = ident 50 37; ty = matrix 17 41; initial = None; at = at 33 }) ∷ Run (Takes 0 (at 60)) ∷ []) (at 31))
    ≡ Some (record { kind = Length; at = at 60 })
unfolding shape-the_row-Member-1 hidden-the_row-Member-1 hidden
order_row = refl

-- An element of 8,192 cells is too wide, at the component that emits it.
element_row : of_main (Block (VarMember (record { name = ident 50 37; ty = matrix 2 41; initial = None; at = at 33 })
    ∷ Run (Emit (name 50 65) (at 60)) ∷ []) (at 31))
    ≡ Some (record { kind = Element; at = at 60 })
unfolding shape-the_row-Member-1 hidden-the_row-Member-1 hidden
element_row = refl

-- A chain of functions, each of which calls the one before; main maps the last.
abbrev calling : ℕ → Function
calling k = record {
  name = ident k 1;
  params = record { name = ident 99 1; ty = word BitTy 1 } ∷ [];
  result = Some (word BitTy 1);
  body = record { statements = []; result = Some (record { value = Call (ident k (suc k)) (FunctionCallee k) []; at = at 2 }) };
  at = at 1;
}

abbrev first : Function
first = record {
  name = ident 99 1;
  params = record { name = ident 98 1; ty = word BitTy 1 } ∷ [];
  result = Some (word BitTy 1);
  body = record { statements = []; result = Some (record { value = name 98 2; at = at 2 }) };
  at = at 1;
}

abbrev chain_to : ℕ → ℕ → List Function
chain_to zero k = []
chain_to (suc n) k = calling k ∷ chain_to n (suc k)

-- 16 calls one in the other are fine; of 17 the innermost is refused, at its name.
depth_16_row : limits text (core_of [] (first ∷ chain_to 15 0) (Map (ident 99 35) 15 (at 31))) ≡ None
unfolding shape-the_row-Expr-1 hidden-the_row-Expr-1 hidden
depth_16_row = refl

depth_17_row : limits text (core_of [] (first ∷ chain_to 16 0) (Map (ident 99 35) 16 (at 31))) ≡ Some (record { kind = Depth; at = at 1 })
unfolding shape-the_row-Expr-1 hidden-the_row-Expr-1 hidden
depth_17_row = refl

-- 16 operands are fine; with 17 the 16th `|>>>|` is refused.
abbrev chain_of : ℕ → Comp
chain_of zero = Take (at 31)
chain_of (suc n) = Pipe Parallel (chain_of n) (Take (at 31)) (at (suc n))

stages_16_row : of_main (chain_of 15) ≡ None
unfolding shape-the_row-Comp-0 hidden-the_row-Comp-0 hidden
stages_16_row = refl

stages_17_row : of_main (chain_of 17) ≡ Some (record { kind = Stages; at = at 16 })
unfolding shape-the_row-Comp-0 hidden-the_row-Comp-0 hidden
stages_17_row = refl

-- The need of `>>>` is the sum of its sides' and 2: three takes need 1 + 1 + 2 and 1 more and 2 more.
need_row : program_need (core_of [] [] (chain_of 2)) (visible_of (core_of [] [] (chain_of 2))) ≡ 7
unfolding shape-the_row-Comp-0 hidden-the_row-Comp-0 hidden
need_row = refl

-- The need of a top variable is its cells; 17 of 65,536 cells are too many, at `let`.
abbrev big : ℕ → List Var
big zero = []
big (suc n) = record { name = ident n 1; ty = matrix 16 2; initial = None; at = at 1 } ∷ big n

need_17_row : limits text (core_of (big 17) [] (Take (at 31))) ≡ Some (record { kind = Need; at = at 1 })
need_17_row = refl

need_15_row : limits text (core_of (big 15) [] (Take (at 31))) ≡ None
need_15_row = refl
