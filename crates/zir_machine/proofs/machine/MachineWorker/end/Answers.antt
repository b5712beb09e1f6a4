use Rattle.std.specs.Prelude.{◌≡◌, Some}
use Rattle.std.proofs.Common.{ap, ◌∙◌}
use Rattle.zir_tree.specs.declared.ends.EndMark.{EndMark}
use Rattle.zir_tree.specs.declared.ends.EndMark.TheVariants.{Value, Starved}
use Rattle.zir_tree.specs.declared.ends.Stamp.{Stamp}
use Rattle.zir_steps.specs.declared.answer.Answer.TheVariants.{Done, Need, Stopped}
use Rattle.zir_machine.specs.MachineOf.{standing_of}
use Rattle.zir_machine.proofs.Machines.{end_done, end_need, end_stopped}
use Rattle.zir_machine.proofs.machine.MachineWorker.end.Goals as goal

abbrev pair : EndMark → Stamp → EndMark × Stamp
pair m s = (m, s)

pub returns-in-Done-clause-value : goal.returns-in-Done-clause-value
returns-in-Done-clause-value c h s r =
    let last : c.args.self.now.last ≡ Some Done = c.in_ok-self.was ∙ ap Some c.in-Done.is in
    ap (pair Value) c.here.ensures ∙ end_done (standing_of c.args.self.now) h c.args.self.now.pushed s last

pub returns-in-Need-clause-value : goal.returns-in-Need-clause-value
returns-in-Need-clause-value c h s r =
    let last : c.args.self.now.last ≡ Some Need = c.in_ok-self.was ∙ ap Some c.in-Need.is in
    ap (pair Starved) c.here-in-Need.ensures ∙ end_need (standing_of c.args.self.now) h c.args.self.now.pushed s last

pub returns-in-Stopped-clause-value : goal.returns-in-Stopped-clause-value
returns-in-Stopped-clause-value c h s r =
    let last : c.args.self.now.last ≡ Some Stopped = c.in_ok-self.was ∙ ap Some c.in-Stopped.is in
    end_stopped (standing_of c.args.self.now) h c.args.self.now.pushed s r last
