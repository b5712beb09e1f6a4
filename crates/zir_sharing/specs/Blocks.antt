-- The rules of sharing over members and declarations as lists.
use Rattle.std.specs.Prelude.{List, []}
use Rattle.zir_tree.specs.declared.comp.Comp.{Comp}
use Rattle.zir_tree.specs.declared.comp.Member.{Member, Bind, Var, Run}
use Rattle.zir_tree.specs.declared.program.Decl.{Decl}
use Rattle.zir_tree.specs.declared.program.Decl.TheVariants as decl

-- Something of the component of a member, where it has one.
abbrev pub of_member : {A : Type 0} → (Comp → List A) → Member → List A
of_member look (Bind x c) = look c
of_member look (Var v) = []
of_member look (Run c) = look c

-- Something of the body of a `fun comp`.
abbrev pub of_decl : {A : Type 0} → (Comp → List A) → Decl → List A
of_decl look (decl.Var v) = []
of_decl look (decl.Struct s) = []
of_decl look (decl.Function f) = []
of_decl look (decl.Comp f) = look f.body
