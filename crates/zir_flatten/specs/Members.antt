-- What it is for the code of the members of a block to be made.
use Rattle.std.specs.Prelude.{ℕ, max, List, ◌++◌, Option, Some, ◌≡◌}
use Rattle.zir_tree.specs.declared.types.Base.TheVariants.{Unit as UnitTy}
use Rattle.zir_tree.specs.declared.types.Ty.{Ty}
use Rattle.zir_tree.specs.declared.comp.Comp.{Row_of-Member, more_of-Member}
use Rattle.zir_tree.specs.declared.comp.Member.{Member}
use Rattle.zir_shapes.specs.Offsets.{plain_type as plain}
use Rattle.zir_code.specs.Scopes.{Scope}
use Rattle.zir_code.specs.Types.{type_or_unit}
use Rattle.zir_flow.specs.declared.instruction.Instruction.{Instruction}
use Rattle.zir_flow.specs.Kinds.{Shape, Setting, first_of, members_value, members_output}
use Rattle.zir_flow.specs.Flowing.{members_code}
use Rattle.zir_flow.specs.Fitting.{widest, members_depth, members_shape}
use Rattle.zir_flat.specs.Needs.{members_peak}
use Rattle.zir_stage.specs.Layouts.{shape_by}
use Rattle.zir_flatten.specs.declared.flow.Flow.{Flow}
use Rattle.zir_flatten.specs.declared.members.Row.{Row}

-- the code of members, and all that is said of it
pub record Whole : Type 0 where
  pub code : List Instruction
  pub value : Option Ty
  pub output : Option Ty
  pub peak : ℕ
  pub depth : ℕ
  pub shape : Shape

-- the whole of a block which began with the cells from begin on free, from what is made of its first members and from those that follow
abbrev pub whole_of : {k : _} → Setting → Scope → Ty → ℕ → Row → Row_of-Member k → Whole
whole_of st g input begin made rest =
    record {
      code = made.code.items ++ members_code st g input begin made.free made.at (type_or_unit made.value) rest;
      value = members_value st g input made.free made.value rest;
      output = first_of made.output (members_output st g input made.free rest);
      peak = max made.peak (members_peak st g input made.free rest);
      depth = max made.depth (members_depth st rest);
      shape = widest (shape_by made.layout) (members_shape st rest);
    }

-- one member more is made of a block which began with the cells from begin on free, whatever follows it
abbrev pub FollowsIn : ℕ → Setting → Scope → Ty → Member → Row → Scope → Row → Type 0
FollowsIn begin st g input m before behind made =
    (k : _) (rest : Row_of-Member k) → whole_of st behind input begin made rest ≡ whole_of st g input begin before (more_of-Member m rest)

-- the same wherever the block began
abbrev pub Follows : Setting → Scope → Ty → Member → Row → Scope → Row → Type 0
Follows st g input m before behind made = (begin : ℕ) → FollowsIn begin st g input m before behind made

-- a component is put behind members; its value has this type, and all that is used ends before a cell
pub record Joins (before : Row) (flow : Flow) (free : ℕ) (value : Option Ty) (end : ℕ) (made : Row) : Type 0 where
  pub code : made.code.items ≡ before.code.items ++ flow.code.items
  pub free_is : made.free ≡ free
  pub at : made.at ≡ before.free
  pub value_is : made.value ≡ value
  pub output : made.output ≡ first_of before.output flow.output
  pub peak : made.peak ≡ max before.peak (max flow.peak end)
  pub depth : made.depth ≡ max before.depth flow.depth
  pub shape : shape_by made.layout ≡ widest (shape_by before.layout) (shape_by flow.layout)

-- the whole of a block where the cells from d on are free
abbrev pub all_of : {k : _} → Setting → Scope → Ty → ℕ → Row_of-Member k → Whole
all_of st g input d ms =
    record {
      code = members_code st g input d d d (plain UnitTy) ms;
      value = members_value st g input d (Some (plain UnitTy)) ms;
      output = members_output st g input d ms;
      peak = members_peak st g input d ms;
      depth = members_depth st ms;
      shape = members_shape st ms;
    }

-- no member is made yet
abbrev pub Starts : ℕ → Row → Type 0
Starts d made = (k : _) (st : Setting) (g : Scope) (input : Ty) (ms : Row_of-Member k) → whole_of st g input d made ms ≡ all_of st g input d ms

-- what is made of a block is as the whole says
pub record IsWhole (whole : Whole) (made : Flow) : Type 0 where
  pub code : made.code.items ≡ whole.code
  pub value : made.value ≡ whole.value
  pub output : made.output ≡ whole.output
  pub peak : made.peak ≡ whole.peak
  pub depth : made.depth ≡ whole.depth
  pub shape : shape_by made.layout ≡ whole.shape
