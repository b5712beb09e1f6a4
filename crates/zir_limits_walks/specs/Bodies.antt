-- What is noted and known of the bodies of a core, one after the other.
use Rattle.std.specs.Prelude.{◌≡◌, ℕ, ◌+◌, List, [], ◌∷◌, ◌++◌, Result, Ok, Err}
use Rattle.std.specs.declared.alloc.AllocError.{AllocError}
use Rattle.zir_tree.specs.declared.program.Function.{Function}
use Rattle.zir_tree.specs.declared.program.Instance.{Instance}
use Rattle.zir_tree.specs.declared.program.Prog.{Prog}
use Rattle.zir_tree.specs.declared.program.Core.{Core}
use Rattle.zir_types.specs.declared.scope.Seen.{Seen}
use Rattle.zir_types.specs.Scope.{Visible, declare, cells_in}
use Rattle.zir_types.specs.Known.{seen_fields, seen_vars, shapes_in}
use Rattle.zir_types.specs.Measures.{Measure, Sends, in_type, in_comp}
use Rattle.zir_types.specs.Needs.{counted, body_need, comp_need, with_call, vars_cells}
use Rattle.zir_types.specs.Limits.{in_fields, in_result, in_function, in_instance, in_structs, in_vars, in_functions, in_instances}
use Rattle.zir_limits_walks.specs.declared.found.Visited.{Visited}
use Rattle.zir_limits_walks.specs.declared.found.Measured.{Measured}
use Rattle.zir_limits_walks.specs.declared.found.Tops.{Tops}
use Rattle.zir_limits.specs.declared.notes.Notes.{Notes}
use Rattle.zir_limits.specs.declared.notes.Call.{Call}
use Rattle.zir_limits.specs.Facts.{CoreFacts, sight, needs_in}
use Rattle.zir_limits.specs.Notes.{noted, unnoted, calls_in}

-- What is noted with these measures too, whose calls are taken away.
abbrev pub firsts : List Measure → Notes → Notes
firsts ms n = record (noted ms n) { calls = [] }

-- A visit to a body gives its calls behind those noted before, which are noted no longer, and its need, and leaves the scope as it was.
abbrev pub Visits : List Measure → ℕ → Notes → Notes → List Seen → List Seen → Result Visited AllocError → Type 0
Visits ms need before after vs now (Ok v) = (v ≡ record { calls = before.calls ++ calls_in ms; need = need }) × (after ≡ firsts ms before) × (now ≡ vs)
Visits ms need before after vs now (Err e) = Unit {0}

-- What the limits look at in a function.
abbrev pub function_measures : Visible → Function → List Measure
function_measures g f = in_fields g f.params ++ in_result g f.result ++ in_function g f

-- What the limits look at in an instance.
abbrev pub instance_measures : List Instance → Visible → Instance → List Measure
instance_measures all g i = in_fields g i.params ++ in_instance all g i

-- What the limits look at in the streams and in main.
abbrev pub main_measures : CoreFacts → List Seen → Prog → Core → List Measure
main_measures f vs p core =
    let g = sight f vs in
    in_type g p.input ++ Sends (cells_in g.shapes core.input) p.input.at ∷ in_comp f.instances g core.input core.main ++ in_type g p.output

-- The need of a call of a function, where these needs are known.
abbrev pub function_need : CoreFacts → Function → ℕ
function_need f x = with_call f.shapes x.params (body_need f.shapes (needs_in f) x.body)

-- The need of a call of an instance, where these needs are known.
abbrev pub instance_need : CoreFacts → List Seen → Instance → ℕ
instance_need f vs i =
    with_call f.shapes i.params (comp_need f.instances (needs_in f) (declare (seen_fields i.params) (sight f vs)) i.input i.body)

-- The need of main, where these needs are known.
abbrev pub main_need : CoreFacts → List Seen → Core → ℕ
main_need f vs core = comp_need f.instances (needs_in f) (sight f vs) core.input core.main

-- What is known with the needs of these functions, each over those before it.
abbrev pub functions_known : CoreFacts → List Function → CoreFacts
functions_known f [] = f
functions_known f (x ∷ xs) = functions_known (record f { function_needs = f.function_needs ++ function_need f x ∷ [] }) xs

-- What is known with the needs of these instances, each over those before it.
abbrev pub instances_known : CoreFacts → List Seen → List Instance → CoreFacts
instances_known f vs [] = f
instances_known f vs (i ∷ is) = instances_known (record f { instance_needs = f.instance_needs ++ instance_need f vs i ∷ [] }) vs is

-- The calls of functions.
abbrev pub function_calls : Visible → List Function → List (List Call)
function_calls g [] = []
function_calls g (f ∷ fs) = calls_in (function_measures g f) ∷ function_calls g fs

-- The calls of instances.
abbrev pub instance_calls : List Instance → Visible → List Instance → List (List Call)
instance_calls all g [] = []
instance_calls all g (i ∷ is) = calls_in (instance_measures all g i) ∷ instance_calls all g is

-- A core, with no need known.
abbrev pub facts_of : Core → CoreFacts
facts_of core = record {
  shapes = shapes_in [] core.structs;
  functions = core.functions;
  instances = core.instances;
  function_needs = [];
  instance_needs = [];
}

-- What is known of a core with the needs of its functions and instances.
abbrev pub known_of : Core → CoreFacts
known_of core = instances_known (functions_known (facts_of core) core.functions) (seen_vars core.variables) core.instances

-- What is noted of a core's structs and variables, and what the variables call.
abbrev pub tops_in : Prog → Core → Tops
tops_in p core = let f = facts_of core in let g = sight f (seen_vars core.variables) in record {
  notes = firsts (in_vars g core.variables) (noted (in_structs g p.declarations f.shapes) unnoted);
  calls = calls_in (in_vars g core.variables);
}

-- What is noted of a core's functions and instances besides.
abbrev pub bodies_noted : Prog → Core → Notes
bodies_noted p core = let f = facts_of core in let g = sight f (seen_vars core.variables) in
    firsts (in_instances f.instances g core.instances) (firsts (in_functions g core.functions) (tops_in p core).notes)

-- What is found of a core.
abbrev pub measured : Prog → Core → Measured
measured p core =
    let f = facts_of core in let vs = seen_vars core.variables in let g = sight f vs in record {
      notes = firsts (main_measures f vs p core) (bodies_noted p core);
      main = calls_in (main_measures f vs p core);
      variables = calls_in (in_vars g core.variables);
      functions = function_calls g core.functions;
      instances = instance_calls f.instances g core.instances;
      need = counted (main_need (known_of core) vs core + vars_cells f.shapes core.variables);
    }
