-- The name of a variable by its number.
use Rattle.std.specs.Prelude.{ℕ, List, [], ◌∷◌, ◌++◌, Option, Some, None, nat_eq, if◌then◌else◌, unwrap_or}
use Rattle.std.specs.List.{flat_map}
use Rattle.zir_tree.specs.declared.stmt.Var.{Var as Variable}
use Rattle.zir_tree.specs.declared.comp.Comp.{Comp, Take, Takes, Emit, Emits, Return, Do, Repeat', While', Times', For', If', Map, Filter, Call, Block'}
use Rattle.zir_tree.specs.declared.comp.Comp.{Pipe', end_of-Comp, more_of-Comp, Row_of-Member, end_of-Member, more_of-Member}
use Rattle.zir_tree.specs.declared.comp.Member.{Bind, Var, Run}
use Rattle.zir_tree.specs.declared.program.Decl.{Decl}
use Rattle.zir_tree.specs.declared.program.Decl.TheVariants as decl
use Rattle.zir_tree.specs.declared.program.Prog.{Prog}

abbrev mutual
  -- The variables that the blocks in a component declare, in the order of the text.
  pub in_blocks : Comp → List Variable
  in_blocks (Take at) = []
  in_blocks (Takes n at) = []
  in_blocks (Emit e at) = []
  in_blocks (Emits e at) = []
  in_blocks (Return e at) = []
  in_blocks (Do b at) = []
  in_blocks (Repeat' _ (more_of-Comp c end_of-Comp) at) = in_blocks c
  in_blocks (While' turning e _ (more_of-Comp c end_of-Comp) at) = in_blocks c
  in_blocks (Times' e _ (more_of-Comp c end_of-Comp) at) = in_blocks c
  in_blocks (For' x a n _ (more_of-Comp c end_of-Comp) at) = in_blocks c
  in_blocks (If' e _ (more_of-Comp c end_of-Comp) _ (more_of-Comp d end_of-Comp) at) = in_blocks c ++ in_blocks d
  in_blocks (Map f n at) = []
  in_blocks (Filter f n at) = []
  in_blocks (Call f n es) = []
  in_blocks (Block' _ ms at) = of_members ms
  in_blocks (Pipe' link _ (more_of-Comp c end_of-Comp) _ (more_of-Comp d end_of-Comp) at) = in_blocks c ++ in_blocks d

  -- The variables that are members of a block or declared inside one.
  pub of_members : {m : _} → Row_of-Member m → List Variable
  of_members end_of-Member = []
  of_members (more_of-Member (Bind x c) ms) = in_blocks c ++ of_members ms
  of_members (more_of-Member (Var v) ms) = v ∷ of_members ms
  of_members (more_of-Member (Run c) ms) = in_blocks c ++ of_members ms

-- A top variable, or the variables that the blocks of a `fun comp` declare.
abbrev pub of_decl : Decl → List Variable
of_decl (decl.Var v) = v ∷ []
of_decl (decl.Struct s) = []
of_decl (decl.Function f) = []
of_decl (decl.Comp f) = in_blocks f.body

-- The variables of a program that two components may see. What a function or a `do` declares is seen in it alone.
abbrev pub variables_of : Prog → List Variable
variables_of p = flat_map of_decl p.declarations ++ in_blocks p.main

-- The name of the first of these variables that has this number.
abbrev pub first_name : ℕ → List Variable → Option (List ℕ)
first_name x [] = None
first_name x (v ∷ vs) = if nat_eq v.name.id x then Some v.name.name else first_name x vs

-- The name of the variable of this number in a program, and no bytes where there is none.
abbrev pub variable_name : Prog → ℕ → List ℕ
variable_name p x = unwrap_or (first_name x (variables_of p)) []
