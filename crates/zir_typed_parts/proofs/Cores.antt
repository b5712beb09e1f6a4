-- Sound cores are well typed for flat code.
use Rattle.std.specs.Prelude.{ℕ, List, [], ◌∷◌, Option, Some, None, true, ◌≡◌, length}
use Rattle.std.proofs.Common.{refl, arith}
use Rattle.zir_tree.specs.declared.types.Ty.{Ty}
use Rattle.zir_tree.specs.declared.program.Core.{Core}
use Rattle.zir_types.specs.Scope.{Visible}
use Rattle.zir_types.specs.Components.{emitted}
use Rattle.zir_types.specs.Expressions.{all_same}
use Rattle.zir_code.specs.Scopes.{Scope}
use Rattle.zir_compile.specs.Signing.{no_signature, FineAfter}
use Rattle.zir_eval.specs.Opening.{program_scope, top_holders}
use Rattle.zir_sound.specs.Cores.{IsSound}
use Rattle.zir_flow.specs.Fitting.{EmitsFit}
use Rattle.zir_flat.specs.Programs.{first_setting, program_setting, program_needs}
use Rattle.zir_flat.specs.Laws.{ProgramFlows}
use Rattle.zir_typed_parts.specs.Laws.{CoresFlow}
use Rattle.zir_typed_code.specs.Forming.{WellFormed, top_numbers}
use Rattle.zir_typed_code.proofs.Expressions.{expression_fits}
use Rattle.zir_typed_code.proofs.Known.{values_known}
use Rattle.zir_typed_code.proofs.Coming.{local_comes}
use Rattle.zir_typed_code.proofs.Statements.{scopes_go_on, bodies_fit}
use Rattle.zir_typed_code.proofs.Functions.{top_is_same, functions_fit}
use Rattle.zir_typed_parts.proofs.Grounds.{Relates, Ground}
use Rattle.zir_typed_parts.proofs.Fitting.{all_same_are, flows}
use Rattle.zir_typed_parts.proofs.Instances.{instances_placed}
use Rattle.zir_typed_parts.proofs.Scopes.{CodeFits, related_relates}

-- what the main component emits has the type that the program writes
writes_fit : (o : Option Ty) (t : Ty) → all_same t (emitted o) ≡ true → EmitsFit o t
writes_fit None t h = tt
writes_fit (Some s) t h = (all_same_are t (s ∷ []) h).0

-- a sound core is well typed for flat code, where its functions are, and what types see at its top is related to what code sees there
pub core_flows : {R : List ℕ → Visible → Scope → ℕ → Type 0} (core : Core) (relates : Relates (length core.structs) R) (sound : IsSound core) →
    WellFormed core → FineAfter core.structs (top_holders core.structs 0 core.variables) no_signature 0 core.functions →
    R (top_numbers core) sound.top (program_scope core) 0 → ProgramFlows core
core_flows {R} core relates sound formed functions related =
    let n : ℕ = length core.structs in
    let ids : List ℕ = top_numbers core in
    let placed = instances_placed relates ids sound.top (program_scope core) (first_setting core) [] 0 0 core.instances
    (record { related = related; nothing_inside = refl }) refl (λ k i h. absurd cc) formed.instances sound.are_instances in
    let ground : Ground n R = record { relates = relates; st = program_setting core; instances = core.instances; entries = placed.entries } in
    record {
      structs = formed.structs;
      functions = functions;
      instances = placed.flow;
      main = flows ground ids sound.top (program_scope core) core.input 0 core.main sound.emits core.value (program_needs core) core.output related
          formed.input formed.main sound.main (writes_fit sound.emits core.output sound.writes) (omega arith) (omega arith);
    }

-- typed code below components is what the laws of code ask for
code_fits : CodeFits
code_fits = record { expressions = expression_fits; values = values_known; locals = local_comes; scopes = scopes_go_on; bodies = bodies_fit }

-- the law
pub cores_flow : CoresFlow
cores_flow core sound formed signed =
    core_flows core (related_relates (length core.structs) code_fits) sound formed (functions_fit core sound formed signed)
    (record { same = top_is_same core sound formed signed 0; count = refl })
