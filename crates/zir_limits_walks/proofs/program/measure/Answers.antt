use Rattle.std.proofs.Common.{◌≡◌, ◌∙◌, ap, List, ◌++◌, ◌+◌}
use Rattle.zir_tree.specs.declared.program.Prog.{Prog}
use Rattle.zir_tree.specs.declared.program.Core.{Core}
use Rattle.zir_types.specs.declared.scope.Seen.{Seen}
use Rattle.zir_types.specs.Scope.{Visible}
use Rattle.zir_types.specs.Known.{seen_vars}
use Rattle.zir_types.specs.Needs.{counted, vars_cells}
use Rattle.zir_types.specs.Limits.{in_functions, in_instances}
use Rattle.zir_limits.specs.declared.notes.Notes.{Notes}
use Rattle.zir_limits.specs.Facts.{CoreFacts, told, sight}
use Rattle.zir_limits.specs.Notes.{calls_in}
use Rattle.zir_limits_walks.specs.declared.found.Visited.{Visited}
use Rattle.zir_limits_walks.specs.declared.found.Tops.{Tops}
use Rattle.zir_limits_walks.specs.Bodies.{firsts, facts_of, known_of, tops_in, bodies_noted, function_calls, instance_calls, functions_known, instances_known, main_measures, main_need}
use Rattle.zir_limits_walks.proofs.Needing.{functions_keep, instances_keep}
use Rattle.zir_limits_walks.proofs.Whole.{measuring}
use Rattle.zir_limits_walks.proofs.program.measure.Goals as goal

pub visit_tops-requires : goal.visit_tops-requires
visit_tops-requires c =
    record {
      facts_in = c.in_ok-facts.ensures;
      all_seen = c.in_ok-declare_vars.ensures ∙ (λ j. c.new-scope.ensures j ++ seen_vars (c.as_slice.ensures j));
    }

pub visit_functions-requires : goal.visit_functions-requires
visit_functions-requires c = ap (λ (t : Tops). t.notes.calls) c.in_ok-tops.ensures

pub visit_instances-requires : goal.visit_instances-requires
visit_instances-requires c = ap (λ (n : Notes). n.calls) c.in_ok-functions.ensures.noted

pub returns : goal.returns
returns c =
    let p : Prog = c.args.program.now in
    let core : Core = c.args.core.now in
    let f : CoreFacts = facts_of core in
    let vs : List Seen = seen_vars core.variables in
    let g : Visible = sight f vs in
    let seen0 : c.declare_vars.new.scope ≡ vs = c.in_ok-declare_vars.ensures ∙ (λ j. c.new-scope.ensures j ++ seen_vars (c.as_slice.ensures j)) in
    let seen1 : c.visit_functions.new.scope ≡ vs = c.in_ok-functions.ensures.left ∙ seen0 in
    let seen2 : c.visit_instances.new.scope ≡ vs = c.in_ok-instances.ensures.left ∙ seen1 in
    let known1 : told c.visit_functions.new.facts ≡ functions_known f core.functions =
    c.in_ok-functions.ensures.known ∙ (λ j. functions_known (c.in_ok-facts.ensures j) (c.as_slice-2.ensures j)) in
    let known2 : told c.visit_instances.new.facts ≡ known_of core =
    c.in_ok-instances.ensures.known ∙ (λ j. instances_known (known1 j) (seen1 j) (c.as_slice-3.ensures j)) in
    let same1 = known1 ∙ functions_keep f core.functions in
    let same2 = known2 ∙ instances_keep (functions_known f core.functions) vs core.instances
    ∙ ap (λ (k : CoreFacts). record k { instance_needs = (known_of core).instance_needs }) (functions_keep f core.functions) in
    let notes1 : c.visit_functions.new.notes ≡ firsts (in_functions g core.functions) (tops_in p core).notes =
    c.in_ok-functions.ensures.noted ∙ (λ j. firsts (in_functions (sight (c.in_ok-facts.ensures j) (seen0 j)) (c.as_slice-2.ensures j)) (ap (λ (t : Tops). t.notes) c.in_ok-tops.ensures j)) in
    let notes2 : c.visit_instances.new.notes ≡ bodies_noted p core =
    c.in_ok-instances.ensures.noted ∙ (λ j. firsts (in_instances (same1 j).instances (sight (same1 j) (seen1 j)) (c.as_slice-3.ensures j)) (notes1 j)) in
    λ j. measuring
    ((c.in_ok-main.ensures.1 ∙ (λ k. firsts (main_measures (same2 k) (seen2 k) p core) (notes2 k))) j)
    ((ap (λ (v : Visited). v.calls) c.in_ok-main.ensures.0 ∙ (λ k. (notes2 k).calls ++ calls_in (main_measures (same2 k) (seen2 k) p core))) j)
    (ap (λ (t : Tops). t.calls) c.in_ok-tops.ensures j)
    ((c.in_ok-functions.ensures.calls ∙ (λ k. function_calls (sight (c.in_ok-facts.ensures k) (seen0 k)) (c.as_slice-2.ensures k))) j)
    ((c.in_ok-instances.ensures.calls ∙ (λ k. instance_calls (same1 k).instances (sight (same1 k) (seen1 k)) (c.as_slice-3.ensures k))) j)
    ((c.counted-need.ensures
    ∙ ap (λ n. counted (n + c.vars_cells.result)) (ap (λ (v : Visited). v.need) c.in_ok-main.ensures.0 ∙ (λ k. main_need (known2 k) (seen2 k) core))
    ∙ ap (λ n. counted (main_need (known_of core) vs core + n)) (c.vars_cells.ensures ∙ (λ k. vars_cells (same2 k).shapes (c.as_slice-4.ensures k)))) j)
