-- What every part of a core sees besides its variables, and the needs of calls that are known.
use Rattle.std.specs.Prelude.{ℕ, List, map, slice_index}
use Rattle.zir_tree.specs.declared.program.Function.{Function}
use Rattle.zir_tree.specs.declared.program.Instance.{Instance}
use Rattle.zir_types.specs.declared.scope.Seen.{Seen}
use Rattle.zir_types.specs.declared.scope.Shape.{Shape}
use Rattle.zir_types.specs.Scope.{Visible}
use Rattle.zir_types.specs.Known.{signature_of}
use Rattle.zir_types.specs.Needs.{Needs}
use Rattle.zir_limits.specs.declared.facts.Facts.{Facts}

-- The structs, the functions and the instances of a core, and the needs of calls of functions and instances, each by its place.
pub record CoreFacts : Type 0 where
  pub shapes : List Shape
  pub functions : List Function
  pub instances : List Instance
  pub function_needs : List ℕ
  pub instance_needs : List ℕ

-- The same as the code has them.
abbrev pub told : Facts → CoreFacts
told f = record {
  shapes = f.shapes.items;
  functions = f.functions.now;
  instances = f.instances.now;
  function_needs = f.function_needs.items;
  instance_needs = f.instance_needs.items;
}

-- What is visible with these variables.
abbrev pub sight : CoreFacts → List Seen → Visible
sight f vs = record { shapes = f.shapes; functions = map signature_of f.functions; variables = vs }

-- The needs of calls; what is not known has none.
abbrev pub needs_in : CoreFacts → Needs
needs_in f = record { by_function = λ k. slice_index f.function_needs k; by_instance = λ k. slice_index f.instance_needs k }
