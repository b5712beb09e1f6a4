-- Worked rows of the walk of programs.
use Rattle.std.specs.Prelude.{◌≡◌, refl, pos, List, [], ◌∷◌, Some, None}
use denote.Hole.Carrier.{hidden}
use Rattle.zir_tree.specs.declared.types.Base.{Base}
use Rattle.zir_tree.specs.declared.types.Base.TheVariants.{Unit as UnitTy, Bit as BitTy, Bool as BoolTy, Int8, Int32}
use Rattle.zir_tree.specs.declared.expr.Expr.{Int}
use Rattle.zir_tree.specs.declared.comp.Comp.{Comp, Take, Emit, Repeat, Block}
use Rattle.zir_tree.specs.declared.comp.Comp.TheBlock.{shape-the_row-Comp-0, hidden-the_row-Comp-0, shape-the_row-Member-1, hidden-the_row-Member-1}
use Rattle.zir_tree.specs.declared.comp.Member.{Bind, Run}
use Rattle.zir_tree.specs.declared.program.Decl.{Decl}
use Rattle.zir_tree.specs.declared.program.Decl.TheVariants.{Var as VarDecl, Function as FunctionDecl, Comp as CompDecl}
use Rattle.zir_tree.specs.declared.program.Prog.{Prog}
use Rattle.zir_types.specs.declared.error.TypeError.TheVariants.{Mismatch, NotUnit, NotStreamType}
use Rattle.zir_types.specs.Walk.{Fine, Broken}
use Rattle.zir_types.specs.Kinds.{scalar}
use Rattle.zir_types.specs.Programs.{program}
use Rattle.zir_types.specs.Samples.{at, ident, name, int, word}

-- A program with these declarations that reads and writes these types, the types at columns 22 and 90.
abbrev a_program : List Decl → Base → Comp → Base → Prog
a_program ds i c o = record { declarations = ds; input = word i 22; main = c; output = word o 90; at = at 1 }

-- `{ z <- take; emit z }` again and again.
abbrev copying : Comp
copying = Repeat (Block (Bind (ident 50 43) (Take (at 48)) ∷ Run (Emit (name 50 59) (at 54)) ∷ []) (at 41)) (at 34)

-- What it reads it writes.
copying_row : program (a_program [] Int8 copying Int8)
    ≡ Fine (record {
      structs = [];
      variables = [];
      functions = [];
      instances = [];
      main = copying;
      input = scalar Int8;
      output = scalar Int8;
      value = None;
      at = at 1;
    })
unfolding shape-the_row-Comp-0 hidden-the_row-Comp-0 shape-the_row-Member-1 hidden-the_row-Member-1 hidden
copying_row = refl

-- It emits another type than the program writes, at the written type.
output_row : program (a_program [] Int8 copying BitTy) ≡ Broken (Mismatch (at 90))
unfolding shape-the_row-Comp-0 hidden-the_row-Comp-0 shape-the_row-Member-1 hidden-the_row-Member-1 hidden
output_row = refl

-- A main component that emits nothing may write any stream type.
silent_row : program (a_program [] BitTy (Take (at 34)) Int32)
    ≡ Fine (record {
      structs = [];
      variables = [];
      functions = [];
      instances = [];
      main = Take (at 34);
      input = scalar BitTy;
      output = scalar Int32;
      value = Some (scalar BitTy);
      at = at 1;
    })
silent_row = refl

-- The read type is refused before main, main before the write type, and the write type's kind before its agreement.
read_row : program (a_program [] BoolTy (Repeat (Take (at 41)) (at 34)) BoolTy) ≡ Broken (NotStreamType (at 22))
read_row = refl

main_row : program (a_program [] BitTy (Repeat (Take (at 41)) (at 34)) BoolTy) ≡ Broken (NotUnit (at 34))
unfolding shape-the_row-Comp-0 hidden-the_row-Comp-0 hidden
main_row = refl

write_row : program (a_program [] BitTy copying BoolTy) ≡ Broken (NotStreamType (at 90))
unfolding shape-the_row-Comp-0 hidden-the_row-Comp-0 shape-the_row-Member-1 hidden-the_row-Member-1 hidden
write_row = refl

-- `fun comp` bodies that nothing calls are not typed; functions are, in the order of the text.
abbrev bad_comp : Decl
bad_comp = CompDecl (record { name = ident 3 10; params = []; body = Repeat (Take (at 15)) (at 14); at = at 2 })

abbrev bad_function : Decl
bad_function = FunctionDecl (record {
  name = ident 4 10;
  params = [];
  result = Some (word Int8 17);
  body = record { statements = []; result = None };
  at = at 2;
})

uncalled_row : program (a_program (bad_comp ∷ []) BitTy (Take (at 34)) BitTy)
    ≡ Fine (record {
      structs = [];
      variables = [];
      functions = [];
      instances = [];
      main = Take (at 34);
      input = scalar BitTy;
      output = scalar BitTy;
      value = Some (scalar BitTy);
      at = at 1;
    })
uncalled_row = refl

function_row : program (a_program (bad_comp ∷ bad_function ∷ []) BoolTy (Take (at 34)) BitTy) ≡ Broken (Mismatch (at 2))
function_row = refl

-- A top variable is seen by what follows it: `var v : int8 := 5` and then main emits it.
variable_row : program (a_program (VarDecl (record { name = ident 5 6; ty = word Int8 10; initial = Some (int 5 18); at = at 2 })
    ∷ []) BitTy (Emit (name 5 39) (at 34)) Int8)
    ≡ Fine (record {
      structs = [];
      variables = record { name = ident 5 6; ty = word Int8 10; initial = Some (Int (pos 5) Int8 (at 18)); at = at 2 } ∷ [];
      functions = [];
      instances = [];
      main = Emit (name 5 39) (at 34);
      input = scalar BitTy;
      output = scalar Int8;
      value = Some (scalar UnitTy);
      at = at 1;
    })
variable_row = refl
