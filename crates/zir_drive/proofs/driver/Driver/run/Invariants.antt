use Rattle.std.proofs.Common.{◌≤◌, ◌≡◌, ℕ, false, []}
use Rattle.zir_drive.specs.Runs.{history}
use Rattle.zir_drive.specs.Driving.{Fits, Goes, work_left}
use Rattle.zir_drive.proofs.driver.Driver.run.Given as goal

abbrev pub invariant-turns : goal.invariant-turns
invariant-turns g l = record {
  fits : Fits l.answer (g.W.Worker.last l.worker);
  bits : g.W.Worker.cells l.worker ≡ 1;
  component : g.W.Worker.component l.worker ≡ g.W.Worker.component l.fn.worker;
  reads : l.self.reader.failed ≡ false;
  reads_later : g.S.Source.faults l.fn.input ≤ g.S.Source.faults l.input;
  writes_later : g.K.Sink.faults l.fn.out ≤ g.K.Sink.faults l.out;
  goes : (n : ℕ) → g.W.Worker.stands_for l.fn.worker (history (g.W.Worker.component l.fn.worker) n [] []) →
      Goes (g.W.Worker.stands_for l.worker) g.K.Sink.stands_for l.fn.out l.out (g.S.Source.left l.fn.input) (g.S.Source.left l.input) l.self (g.W.Worker.component l.fn.worker) n l.answer;
}

abbrev pub decreases-turns : goal.decreases-turns
decreases-turns g l = work_left l.answer l.self (g.W.Worker.own l.worker)
