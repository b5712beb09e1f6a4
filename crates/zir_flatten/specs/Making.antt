-- What it is for the code of a component to be made.
use Rattle.std.specs.Prelude.{ℕ, ◌+◌, max, List, ◌++◌, Option, ◌≡◌}
use Rattle.zir_tree.specs.declared.types.Ty.{Ty}
use Rattle.zir_tree.specs.declared.expr.Expr.{Expr}
use Rattle.zir_tree.specs.declared.stmt.Body.{Body}
use Rattle.zir_tree.specs.declared.stmt.Return.{Return}
use Rattle.zir_tree.specs.declared.comp.Comp.{Comp}
use Rattle.zir_expr.specs.declared.steps.Step.{Step}
use Rattle.zir_code.specs.Scopes.{Scope}
use Rattle.zir_code.specs.Types.{cells_for}
use Rattle.zir_code.specs.Coding.{code_of_all}
use Rattle.zir_code.specs.Peaks.{peak_of_all}
use Rattle.zir_flow.specs.Kinds.{Setting, returned_type, body_type, value_in, output_in}
use Rattle.zir_flow.specs.Flowing.{returned_code, do_code, flow_code}
use Rattle.zir_flow.specs.Fitting.{depth_of, shape_of}
use Rattle.zir_flat.specs.Needs.{returned_peak, do_peak, flow_peak}
use Rattle.zir_stage.specs.Layouts.{shape_by}
use Rattle.zir_flatten.specs.declared.flow.Flow.{Flow}
use Rattle.zir_flatten.specs.declared.leaves.Valued.{Valued}

-- the code of a component, with all that is said of it
pub record Flowed (st : Setting) (g : Scope) (input : Ty) (d : ℕ) (c : Comp) (made : Flow) : Type 0 where
  pub code : made.code.items ≡ flow_code st g input d c
  pub value : made.value ≡ value_in st g input d c
  pub output : made.output ≡ output_in st g input d c
  pub peak : made.peak ≡ flow_peak st g input d c
  pub depth : made.depth ≡ depth_of st c
  pub shape : shape_by made.layout ≡ shape_of st c

-- the code of arguments, and the first cell behind all that it uses
pub record Readied (g : Scope) (es : List Expr) (d : ℕ) (steps : List Step) (peak : ℕ) : Type 0 where
  pub code : steps ≡ code_of_all g es d
  pub end : peak ≡ peak_of_all g es d

-- steps have grown by the code of the value of a body, which goes to the cells from d on
pub record Returned (g : Scope) (r : Option Return) (d free : ℕ) (old new : List Step) (made : Valued) : Type 0 where
  pub code : new ≡ old ++ returned_code g d free r
  pub ty : made.ty ≡ returned_type g r
  pub peak : made.peak ≡ max (d + cells_for g (returned_type g r)) (returned_peak g free r)

-- steps have grown by the code of a body, whose value goes to the cells from d on
pub record Done (g : Scope) (body : Body) (d : ℕ) (old new : List Step) (made : Valued) : Type 0 where
  pub code : new ≡ old ++ do_code g d body
  pub ty : made.ty ≡ body_type g d body
  pub peak : made.peak ≡ do_peak g d body
