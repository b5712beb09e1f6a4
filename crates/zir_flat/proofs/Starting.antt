-- A stage at the main component of a program plays it.
use Rattle.std.specs.Prelude.{ℕ, [], ◌∷◌, ◌++◌, ◌≤◌, ◌≡◌, ◌%◌, ◌^◌, refl, length}
use Rattle.std.proofs.Common.{ap, sym, arith, append-nil}
use Rattle.zir_tree.specs.declared.program.Core.{Core}
use Rattle.zir_code.proofs.Bodies.{lists_spare}
use Rattle.zir_eval.specs.Opening.{program_scope, top_cells}
use Rattle.zir_eval.proofs.Starting.{calls_mean}
use Rattle.zir_flow.specs.declared.instruction.Instruction.TheVariants.{Stop}
use Rattle.zir_flow.specs.Fitting.{depth_of}
use Rattle.zir_flow.specs.Laws.{ComponentsPlay}
use Rattle.zir_flow.proofs.Straight.{expressions_agree}
use Rattle.zir_flow.proofs.Doing.{do_arrives}
use Rattle.zir_flow.proofs.Assembling as law
use Rattle.zir_flat.specs.Programs.{instances_code, main_code, main_place, program_setting, program_code, program_needs}
use Rattle.zir_flat.specs.Laws.{main_thread, ProgramsPlay}
use Rattle.zir_flat.proofs.Standing.{stand}

-- what flat code plays
components_play : ComponentsPlay
components_play = law.components_play (do_arrives (lists_spare expressions_agree))

-- a stage at the main component of a program plays it
pub plays : ProgramsPlay
plays core deep m room s f small held zero within fits =
    let deepest : depth_of (program_setting core) core.main ≤ deep = within in
    components_play core (program_code core) (program_setting core) (top_cells core) (top_cells core) 0 (program_needs core) (length m.cells) (main_place core)
    (program_scope core) core.input core.output core.main (main_thread core deep m) room s (calls_mean core f.structs f.functions)
    (stand core (length m.cells) f.instances) small f.main
    (record { before = instances_code core; after = []; split = ap (λ z. instances_code core ++ z) (sym (append-nil (main_code core ++ Stop ∷ []))); is = refl }) refl
    (record { held = held; base_is = refl; taken = sym (ap (λ t. t % 2 ^ 64) zero); depth = omega arith; size_is = refl; room_fits = fits })
