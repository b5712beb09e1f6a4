-- What a sound core is.
use Rattle.std.specs.Prelude.{◌≡◌, List, [], ◌∷◌, ◌++◌, map, true, Option, Some, None}
use Rattle.zir_tree.specs.declared.types.Base.TheVariants.{Unit as UnitTy}
use Rattle.zir_tree.specs.declared.types.Ty.{Ty}
use Rattle.zir_tree.specs.declared.types.TypeExpr.{TypeExpr}
use Rattle.zir_tree.specs.declared.stmt.Var.{Var}
use Rattle.zir_tree.specs.declared.program.Function.{Function}
use Rattle.zir_tree.specs.declared.program.Instance.{Instance}
use Rattle.zir_tree.specs.declared.program.Core.{Core}
use Rattle.zir_types.specs.declared.scope.Seen.{Seen}
use Rattle.zir_types.specs.declared.scope.Signature.{Signature}
use Rattle.zir_types.specs.Kinds.{scalar}
use Rattle.zir_types.specs.Scope.{Visible, declare}
use Rattle.zir_types.specs.Components.{emitted}
use Rattle.zir_types.specs.Expressions.{all_same}
use Rattle.zir_types.specs.Programs.{defs_of}
use Rattle.zir_sound.specs.Statements.{IsBody, IsVar, param_of, param_types, seen_of, type_of}
use Rattle.zir_sound.specs.Components.{IsComp}

-- The type of a function's result, unit where none is written.
abbrev pub result_type : Option TypeExpr → Ty
result_type None = scalar UnitTy
result_type (Some t) = type_of t

-- What a typed function is to its calls.
abbrev pub signature_of : Function → Signature
signature_of f = record { id = f.name.id; params = param_types f.params; result = result_type f.result }

-- The first list begins the second.
abbrev pub Begins : {A : Type 0} → List A → List A → Type 0
Begins {A} front whole = (back : List A) × (whole ≡ front ++ back)

-- What is seen in a part of the top: structs from the first on, these functions, and these variables.
pub record IsTop (top : Visible) (g : Visible) (functions : List Signature) (variables : List Seen) : Type 0 where
  pub shapes : Begins g.shapes top.shapes
  pub functions_are : g.functions ≡ functions
  pub variables_are : g.variables ≡ variables

-- A function keeps its rules over the functions that stand before it alone, its parameters, and some of the first structs and top variables.
pub record IsFunction (top : Visible) (before : List Signature) (f : Function) : Type 0 where
  pub seen : Visible
  pub variables : List Seen
  pub first : Begins variables top.variables
  pub is_top : IsTop top seen before variables
  pub body : IsBody (declare (map param_of f.params) seen) (result_type f.result) f.body

-- Each function keeps its rules, and calls those before it alone.
abbrev pub AreFunctions : Visible → List Signature → List Function → Type 0
AreFunctions top before [] = Unit {0}
AreFunctions top before (f ∷ fs) = IsFunction top before f × AreFunctions top (before ++ signature_of f ∷ []) fs

-- The initial value of a top variable, where there is one, has its type, over the variables before it alone and some of the first structs and functions.
pub record IsTopVar (top : Visible) (before : List Seen) (v : Var) : Type 0 where
  pub seen : Visible
  pub functions : List Signature
  pub first : Begins functions top.functions
  pub is_top : IsTop top seen functions before
  pub initial : IsVar seen v

-- The initial value of each top variable, where there is one, has its type.
abbrev pub AreTopVars : Visible → List Seen → List Var → Type 0
AreTopVars top before [] = Unit {0}
AreTopVars top before (v ∷ vs) = IsTopVar top before v × AreTopVars top (before ++ seen_of v ∷ []) vs

-- Each instance keeps its rules over the whole top and its parameters, and calls those before it alone.
abbrev pub AreInstances : Visible → List Instance → List Instance → Type 0
AreInstances top before [] = Unit {0}
AreInstances top before (i ∷ is) =
    IsComp (declare (map param_of i.params) top) before i.input i.body i.emits i.value × AreInstances top (before ++ i ∷ []) is

-- A core is sound over what its top declares: its structs, variables, functions, instances and main component keep their rules, main reads
-- what the program reads, emits what it writes, if anything, and has the core's value.
pub record IsSound (core : Core) : Type 0 where
  pub top : Visible
  pub structs : core.structs ≡ defs_of top.shapes
  pub variables : top.variables ≡ map seen_of core.variables
  pub functions : top.functions ≡ map signature_of core.functions
  pub are_variables : AreTopVars top [] core.variables
  pub are_functions : AreFunctions top [] core.functions
  pub are_instances : AreInstances top [] core.instances
  pub emits : Option Ty
  pub main : IsComp top core.instances core.input core.main emits core.value
  pub writes : all_same core.output (emitted emits) ≡ true
