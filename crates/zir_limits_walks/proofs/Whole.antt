-- What is found of a program says its first limit.
use Rattle.std.specs.Prelude.{◌≡◌, ℕ, ◌+◌, List, ◌∷◌, ◌++◌, Bool, true, false, Option, None, nat_lt, refl}
use Rattle.std.proofs.Common.{ap, ◌∙◌, sym, append_assoc}
use Rattle.zir_tree.specs.declared.place.Place.{Place}
use Rattle.zir_tree.specs.declared.program.Prog.{Prog}
use Rattle.zir_tree.specs.declared.program.Core.{Core}
use Rattle.zir_tree.specs.declared.refusal.LimitKind.TheVariants.{Length, Cells, Element, Depth, Need, Stages}
use Rattle.zir_types.specs.declared.scope.Seen.{Seen}
use Rattle.zir_types.specs.Scope.{Visible, cells_in}
use Rattle.zir_types.specs.Known.{seen_vars, visible_of}
use Rattle.zir_types.specs.Needs.{counted, comp_need, vars_cells, program_need}
use Rattle.zir_types.specs.Measures.{Measure, Sends, in_type, in_comp}
use Rattle.zir_types.specs.Limits.{Passed, passed_at, wrong_at, first_place, places, bad_length, too_large, too_wide, too_long, measures, limits}
use Rattle.zir_types.specs.Limits.{in_structs, in_vars, in_functions, in_instances}
use Rattle.zir_limits.specs.declared.notes.Notes.{Notes}
use Rattle.zir_limits.specs.Facts.{CoreFacts, sight, needs_in}
use Rattle.zir_limits.specs.Notes.{marks, unnoted}
use Rattle.zir_limits.proofs.Order.{first_of-none}
use Rattle.zir_limits.specs.declared.notes.Call.{Call}
use Rattle.zir_limits_walks.specs.declared.found.Measured.{Measured}
use Rattle.zir_limits_walks.specs.declared.found.Tops.{Tops}
use Rattle.zir_limits_walks.specs.Answers.{in_order}
use Rattle.zir_limits_walks.specs.Bodies.{firsts, main_measures, facts_of, known_of, measured}
use Rattle.zir_limits_walks.specs.Depths.{deep_in}
use Rattle.zir_limits_walks.proofs.Firsts.{firsts-more, firsts-noted}
use Rattle.zir_limits_walks.proofs.Needing.{known_keep, needs_known}
use Rattle.zir_limits_walks.proofs.Calling.{deep_found}

-- the limits in their order, at these first places
abbrev limits_at : Option Place → Option Place → Option Place → Option Place → Option Place → Option Place → Option Passed
limits_at a b c d e f =
    passed_at Length a (passed_at Cells b (passed_at Element c (passed_at Depth d (passed_at Need e (passed_at Stages f None)))))

-- a place where a need is too great
marked_need : (w : Bool) (p : Place) → marks w p None ≡ first_place (wrong_at w p)
marked_need true p = refl
marked_need false p = refl

-- measures up to some place, two more, and those behind
behind_three : (xs bs cs ds : List Measure) → xs ++ (bs ++ cs ++ ds) ≡ xs ++ bs ++ cs ++ ds
behind_three xs bs cs ds = sym (append_assoc xs (bs ++ cs) ds) ∙ ap (λ ys. ys ++ ds) (sym (append_assoc xs bs cs))

-- all that is noted
notes_whole : (p : Prog) (core : Core) → (measured p core).notes ≡ firsts (measures p core (visible_of core)) unnoted
notes_whole p core =
    let f : CoreFacts = facts_of core in
    let g : Visible = visible_of core in
    let structs : List Measure = in_structs g p.declarations g.shapes in
    let vars : List Measure = in_vars g core.variables in
    let functions : List Measure = in_functions g core.functions in
    let instances : List Measure = in_instances core.instances g core.instances in
    let main : List Measure = main_measures f (seen_vars core.variables) p core in
    let sent : Measure = Sends (cells_in g.shapes core.input) p.input.at in
    ap (λ (n : Notes). firsts main (firsts instances (firsts functions n))) (firsts-noted structs vars unnoted)
    ∙ ap (λ (n : Notes). firsts main (firsts instances n)) (sym (firsts-more (structs ++ vars) functions unnoted))
    ∙ ap (λ (n : Notes). firsts main n) (sym (firsts-more (structs ++ vars ++ functions) instances unnoted))
    ∙ sym (firsts-more (structs ++ vars ++ functions ++ instances) main unnoted)
    ∙ ap (λ ms. firsts ms unnoted)
    (behind_three (structs ++ vars ++ functions ++ instances) (in_type g p.input) (sent ∷ in_comp core.instances g core.input core.main) (in_type g p.output))

-- the need of a program
need_whole : (p : Prog) (core : Core) → (measured p core).need ≡ program_need core (visible_of core)
need_whole p core =
    let g : Visible = visible_of core in
    let vs : List Seen = seen_vars core.variables in
    ap (λ (k : CoreFacts). counted (comp_need k.instances (needs_in (known_of core)) (sight k vs) core.input core.main + vars_cells g.shapes core.variables)) (known_keep core)
    ∙ ap (λ n. counted (comp_need core.instances n g core.input core.main + vars_cells g.shapes core.variables)) (needs_known core)

-- the first limit
pub limits_found : (p : Prog) (core : Core) → in_order (measured p core).notes (deep_in (measured p core)) (measured p core).need core.at ≡ limits p core
limits_found p core =
    let ms : List Measure = measures p core (visible_of core) in
    let n = notes_whole p core in
    λ i. limits_at
    ((ap (λ (x : Notes). x.first_length) n ∙ first_of-none (places bad_length ms)) i)
    ((ap (λ (x : Notes). x.first_cells) n ∙ first_of-none (places too_large ms)) i)
    ((ap (λ (x : Notes). x.first_element) n ∙ first_of-none (places too_wide ms)) i)
    (deep_found p core i)
    ((ap (λ k. marks (nat_lt 1048576 k) core.at None) (need_whole p core) ∙ marked_need (nat_lt 1048576 (program_need core (visible_of core))) core.at) i)
    ((ap (λ (x : Notes). x.first_stages) n ∙ first_of-none (places too_long ms)) i)

-- notes and calls
abbrev pub topping : Notes → List Call → Tops
topping notes calls = record { notes = notes; calls = calls }

-- what is found
abbrev pub measuring : Notes → List Call → List Call → List (List Call) → List (List Call) → ℕ → Measured
measuring notes main variables functions instances need =
    record { notes = notes; main = main; variables = variables; functions = functions; instances = instances; need = need }
