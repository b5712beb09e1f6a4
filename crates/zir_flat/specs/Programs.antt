-- The flat code of a program: the code of its instances one after the other, and behind it that of its main component.
use Rattle.std.specs.Prelude.{ℕ, suc, ◌+◌, max, List, [], ◌∷◌, ◌++◌, Option, Some, None, length, map}
use Rattle.zir_tree.specs.declared.program.Core.{Core}
use Rattle.zir_tree.specs.declared.program.Instance.{Instance}
use Rattle.zir_meaning.specs.Values.{type_of}
use Rattle.zir_meaning.specs.Instances.{around}
use Rattle.zir_code.specs.Scopes.{Scope}
use Rattle.zir_code.specs.Needs.{all_peak}
use Rattle.zir_code.specs.Bodies.{cells_of_all, inside}
use Rattle.zir_eval.specs.Opening.{program_scope, initial_assignments}
use Rattle.zir_flow.specs.declared.instruction.Instruction.{Instruction}
use Rattle.zir_flow.specs.declared.instruction.Instruction.TheVariants.{Stop}
use Rattle.zir_flow.specs.Kinds.{Entry, Shape, Setting, value_in, output_in}
use Rattle.zir_flow.specs.Flowing.{flow_code, instance_code}
use Rattle.zir_flow.specs.Fitting.{depth_of, shape_of}
use Rattle.zir_flow.specs.Program.{one_more_entry, more_entries}
use Rattle.zir_flat.specs.Needs.{flow_peak, instance_needs}

-- the entry of an instance whose code stands at a place
abbrev pub entry_at : Setting → Scope → ℕ → Instance → Entry
entry_at st g place i =
    let d = cells_of_all g i.params in
    record {
      place = place;
      params = map (λ p. type_of p.ty) i.params;
      input = i.input;
      emits = output_in st (inside g i.params) i.input d i.body;
      value = value_in st (inside g i.params) i.input d i.body;
      needs = instance_needs st g i;
      depth = depth_of st i.body;
      shape = shape_of st i.body;
    }

-- what components are in where one more instance may be called
abbrev pub one_more_in : Setting → ℕ → Entry → Setting
one_more_in st n e = record st { entries = one_more_entry st.entries n (Some e) }

-- the entries of instances behind n others, whose code stands from a place on, each over those before it
abbrev pub entries_from : Setting → Scope → ℕ → ℕ → List Instance → List (Option Entry)
entries_from st g n place [] = []
entries_from st g n place (i ∷ is) =
    let e = entry_at st g place i in Some e ∷ entries_from (one_more_in st n e) g (suc n) (place + length (instance_code st g i)) is

-- their code
abbrev pub code_from : Setting → Scope → ℕ → ℕ → List Instance → List Instruction
code_from st g n place [] = []
code_from st g n place (i ∷ is) =
    instance_code st g i ++ code_from (one_more_in st n (entry_at st g place i)) g (suc n) (place + length (instance_code st g i)) is

-- what components are in where no instance may be called yet
abbrev pub first_setting : Core → Setting
first_setting core = record { entries = λ k. None; assigned = (around core).assigned }

-- what the main component of a program is in
abbrev pub program_setting : Core → Setting
program_setting core =
    record {
      entries = more_entries (λ k. None) 0 (entries_from (first_setting core) (program_scope core) 0 0 core.instances);
      assigned = (around core).assigned;
    }

-- the code of all instances
abbrev pub instances_code : Core → List Instruction
instances_code core = code_from (first_setting core) (program_scope core) 0 0 core.instances

-- the code of the main component
abbrev pub main_code : Core → List Instruction
main_code core = flow_code (program_setting core) (program_scope core) core.input 0 core.main

-- where it stands
abbrev pub main_place : Core → ℕ
main_place core = length (instances_code core)

-- the code of a program
abbrev pub program_code : Core → List Instruction
program_code core = instances_code core ++ (main_code core ++ Stop ∷ [])

-- how many cells a program uses besides those of its top variables: for their initial values, and for its main component
abbrev pub program_needs : Core → ℕ
program_needs core =
    let g = program_scope core in max (all_peak g 0 (initial_assignments core.variables)) (flow_peak (program_setting core) g core.input 0 core.main)

-- how deep its calls go
abbrev pub program_depth : Core → ℕ
program_depth core = depth_of (program_setting core) core.main

-- which memories its compositions ask for
abbrev pub program_shape : Core → Shape
program_shape core = shape_of (program_setting core) core.main
