-- That typing gives sound cores.
use Rattle.std.specs.Prelude.{◌≡◌, ℕ, List, [], ◌∷◌, Bool, false, ◌||◌, nat_eq}
use Rattle.zir_tree.specs.declared.program.Decl.{Decl}
use Rattle.zir_tree.specs.declared.program.Decl.TheVariants.{Var as VarDecl, Struct as StructDecl, Function as FunctionDecl, Comp as CompDecl}
use Rattle.zir_tree.specs.declared.program.Prog.{Prog}
use Rattle.zir_tree.specs.declared.program.Core.{Core}
use Rattle.zir_names.specs.declared.program.Named.{Named}
use Rattle.zir_names.specs.Walk.{Fine as Resolved}
use Rattle.zir_names.specs.Programs.{names}
use Rattle.zir_types.specs.Walk.{Fine}
use Rattle.zir_types.specs.Programs.{program}
use Rattle.zir_sound.specs.Cores.{IsSound}

-- Whether a number is one of these.
abbrev pub is_in : List ℕ → ℕ → Bool
is_in [] id = false
is_in (x ∷ xs) id = nat_eq x id || is_in xs id

-- Each `fun comp` has a number that none of these has, and none before it.
abbrev pub HaveOwnNumbers : List ℕ → List Decl → Type 0
HaveOwnNumbers xs [] = Unit {0}
HaveOwnNumbers xs (VarDecl v ∷ ds) = HaveOwnNumbers xs ds
HaveOwnNumbers xs (StructDecl s ∷ ds) = HaveOwnNumbers xs ds
HaveOwnNumbers xs (FunctionDecl f ∷ ds) = HaveOwnNumbers xs ds
HaveOwnNumbers xs (CompDecl c ∷ ds) = (is_in xs c.name.id ≡ false) × HaveOwnNumbers (c.name.id ∷ xs) ds

-- The core that the walk of a program makes is sound, where each `fun comp` has a number of its own, as it has once names are resolved.
abbrev pub CoresAreSound : Type 0
CoresAreSound = (p : Prog) (core : Core) → HaveOwnNumbers [] p.declarations → program p ≡ Fine core → IsSound core

-- Where names are resolved each `fun comp` has a number of its own.
abbrev pub NamesAreOwn : Type 0
NamesAreOwn = (p : Prog) (n : Named) → names p ≡ Resolved n → HaveOwnNumbers [] n.program.declarations
