-- How many cells the code of a component uses.
use Rattle.std.specs.Prelude.{ℕ, ◌+◌, ◌*◌, max, Option, Some, None}
use Rattle.zir_tree.specs.declared.types.Ty.{Ty}
use Rattle.zir_tree.specs.declared.stmt.Body.{Body}
use Rattle.zir_tree.specs.declared.stmt.Return.{Return}
use Rattle.zir_tree.specs.declared.comp.Comp.{Comp, Take as TakeComp, Takes as TakesComp, Emit, Emits, Return as ReturnComp, Do, Repeat', While', Times', For', If', Map, Filter, Call, Block', Pipe', end_of-Comp, more_of-Comp, Row_of-Member, end_of-Member, more_of-Member}
use Rattle.zir_tree.specs.declared.comp.Member.{Bind, Var, Run as RunMember}
use Rattle.zir_tree.specs.declared.program.Instance.{Instance}
use Rattle.zir_meaning.specs.Values.{type_of}
use Rattle.zir_code.specs.Scopes.{Scope}
use Rattle.zir_code.specs.Types.{type_or_unit, result_type, cells_for, size_in}
use Rattle.zir_code.specs.Peaks.{needs_of, peak_of, peak_of_all}
use Rattle.zir_code.specs.Needs.{all_peak, initial_peak}
use Rattle.zir_code.specs.Statements.{with_local, with_index}
use Rattle.zir_code.specs.Bodies.{scope_after_all, free_after_all, cells_of_all, inside}
use Rattle.zir_flow.specs.Kinds.{Entry, Setting, valued, body_type, type_between, value_in, output_in}

-- the first cell behind all that the value of a body uses, if it has one
abbrev pub returned_peak : Scope → ℕ → Option Return → ℕ
returned_peak g free None = free
returned_peak g free (Some r) = peak_of g r.value free

-- the first cell behind all that the code of a body uses, whose cells from d on are free and whose value goes there
abbrev pub do_peak : Scope → ℕ → Body → ℕ
do_peak g d body =
    max (d + cells_for g (body_type g d body))
    (max (all_peak g d body.statements) (returned_peak (scope_after_all g d body.statements) (free_after_all g d body.statements) body.result))

-- the first cell behind all that a call of a function with one argument of this type, which stands from d on, uses
abbrev pub step_peak : Scope → ℕ → ℕ → Ty → ℕ
step_peak g d k from = d + max (cells_for g from) (max (cells_for g (result_type (g.funs k))) (needs_of (g.funs k)))

-- the cells of an instance's body
abbrev pub entry_needs : Option Entry → ℕ
entry_needs None = 0
entry_needs (Some e) = e.needs

abbrev mutual
  -- the first cell behind all that the code of a component uses where its elements have this type and the cells from d on are free, those of its value included
  pub flow_peak : Setting → Scope → Ty → ℕ → Comp → ℕ
  flow_peak st g input d (TakeComp p) = d + cells_for g input
  flow_peak st g input d (TakesComp n p) = d + n * cells_for g input + 1
  flow_peak st g input d (Emit e p) = peak_of g e d
  flow_peak st g input d (Emits e p) = max (peak_of g e d) (d + size_in g e + 1)
  flow_peak st g input d (ReturnComp e p) = max (peak_of g e d) (d + size_in g e)
  flow_peak st g input d (Do body p) = do_peak g d body
  flow_peak st g input d (Repeat' _ (more_of-Comp c end_of-Comp) p) = flow_peak st g input d c
  flow_peak st g input d (While' turning e _ (more_of-Comp c end_of-Comp) p) = max (peak_of g e d) (flow_peak st g input d c)
  flow_peak st g input d (Times' e _ (more_of-Comp c end_of-Comp) p) = max (peak_of g e d) (max (d + 1) (flow_peak st g input (d + 1) c))
  flow_peak st g input d (For' name a n _ (more_of-Comp c end_of-Comp) p) =
      max (peak_of g a d) (max (peak_of g n (d + 1)) (max (d + 4) (flow_peak st (with_index g (d + 2) name.id) input (d + 3) c)))
  flow_peak st g input d (If' e _ (more_of-Comp a end_of-Comp) _ (more_of-Comp b end_of-Comp) p) =
      max (peak_of g e d) (max (flow_peak st g input d a) (flow_peak st g input d b))
  flow_peak st g input d (Map f k p) = step_peak g d k input
  flow_peak st g input d (Filter f k p) = step_peak g (d + cells_for g input) k input
  flow_peak st g input d (Call name k es) =
      max (peak_of_all g es d) (d + max (cells_for g (type_or_unit (valued (st.entries k)))) (entry_needs (st.entries k)))
  flow_peak st g input d (Block' _ ms p) = members_peak st g input d ms
  flow_peak st g input d (Pipe' link _ (more_of-Comp a end_of-Comp) _ (more_of-Comp b end_of-Comp) p) =
      let between = type_between (output_in st g input d a) in
      max (d + max (cells_for g (type_or_unit (value_in st g input d a))) (cells_for g (type_or_unit (value_in st g between d b))))
      (max (flow_peak st g input d a) (flow_peak st g between d b))

  -- the same of the members of a block
  pub members_peak : {k : _} → Setting → Scope → Ty → ℕ → Row_of-Member k → ℕ
  members_peak st g input d end_of-Member = d
  members_peak st g input d (more_of-Member (Bind name c) ms) =
      let ty = type_or_unit (value_in st g input d c) in
      max (flow_peak st g input d c) (members_peak st (with_local g d name.id ty) input (d + cells_for g ty) ms)
  members_peak st g input d (more_of-Member (Var v) ms) =
      let ty = type_of v.ty in
      max (initial_peak g d (cells_for g ty) v.initial) (members_peak st (with_local g d v.name.id ty) input (d + cells_for g ty) ms)
  members_peak st g input d (more_of-Member (RunMember c) ms) =
      max (flow_peak st g input d c) (max (d + cells_for g (type_or_unit (value_in st g input d c))) (members_peak st g input d ms))

-- how many cells the body of an instance uses, its parameters and its value included
abbrev pub instance_needs : Setting → Scope → Instance → ℕ
instance_needs st g i =
    let d = cells_of_all g i.params in
    max (d + cells_for g (type_or_unit (value_in st (inside g i.params) i.input d i.body))) (flow_peak st (inside g i.params) i.input d i.body)
