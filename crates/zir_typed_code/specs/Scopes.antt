-- What it is for code to have in scope what a typed part of a program sees.
use Rattle.std.specs.Prelude.{◌≡◌, ℕ, List, false, Some, slice_get, length}
use Rattle.zir_tree.specs.declared.types.Ty.{Ty}
use Rattle.zir_types.specs.declared.scope.Signature.{Signature}
use Rattle.zir_types.specs.Scope.{Visible, type_in}
use Rattle.zir_types.specs.Programs.{defs_of}
use Rattle.zir_shapes.specs.Shapes.{StructsBefore, Ordered}
use Rattle.zir_code.specs.declared.scope.Holder.{Holder}
use Rattle.zir_code.specs.declared.scope.Signature as code
use Rattle.zir_code.specs.Scopes.{Scope, variable}
use Rattle.zir_code.specs.Typing.{HolderFits}
use Rattle.zir_code.specs.Fine.{Absent, SoleIn}
use Rattle.zir_flow.specs.Fitting.{Distinct, Apart}
use Rattle.zir_sound.specs.Cores.{Begins}
use Rattle.zir_sound.specs.Laws.{is_in}

-- Code finds the variable of this number, which no other in scope has, with this type and the cells of it.
pub record Finds (g : Scope) (n id : ℕ) (t : Ty) : Type 0 where
  pub holder : Holder
  pub found : variable g id ≡ Some holder
  pub sole : SoleIn g id holder
  pub type_is : holder.ty ≡ t
  pub fits : HolderFits g n holder

-- Code may call the function at this place, with this signature, whose value is of a known type.
pub record MayCall (g : Scope) (k : ℕ) (s : Signature) : Type 0 where
  pub made : code.Signature
  pub found : g.funs k ≡ Some made
  pub params : made.params ≡ s.params
  pub result : made.result ≡ s.result
  pub known : StructsBefore (length g.structs) s.result.base

-- No variable in scope has this number.
pub record IsNew (g : Scope) (id : ℕ) : Type 0 where
  pub locals : Absent g.locals id
  pub tops : Absent g.tops id

-- No two variables in scope have one number.
pub record HaveOwn (g : Scope) : Type 0 where
  pub tops : Distinct g.tops
  pub locals : Distinct g.locals
  pub between : Apart g.locals g.tops

-- Code in n cells has in scope what is seen: the structs that are seen begin its own, which are in order, and it finds each variable and each
-- function; each of its variables has a number of its own, which is one of these.
pub record SameScope (xs : List ℕ) (v : Visible) (g : Scope) (n : ℕ) : Type 0 where
  pub structs : Begins (defs_of v.shapes) g.structs
  pub ordered : Ordered g.structs
  pub variables : (id : ℕ) (t : Ty) → type_in v.variables id ≡ Some t → Finds g n id t
  pub functions : (k : ℕ) (s : Signature) → slice_get v.functions k ≡ Some s → MayCall g k s
  pub own : HaveOwn g
  pub numbers : (id : ℕ) → is_in xs id ≡ false → IsNew g id
