use Rattle.std.proofs.Common.{◌++◌, [], false, ap, sym, ◌∙◌}
use Rattle.std.proofs.lemmas.List.{append-nil}
use Rattle.std.proofs.lemmas.Result.{on_ok_weaker, on_err_weaker}
use Rattle.zir_meaning.specs.Samples.{spell_bits}
use Rattle.zir_samples.proofs.Writing.{unfinished-rest}
use Rattle.zir_samples.proofs.writer.Writer.flush_whole.Goals as goal

pub returns-clause-ok : goal.returns-clause-ok
returns-clause-ok g c =
    on_ok_weaker c.put_rest.result (λ grew. record {
      rest = spell_bits false c.self.inside.output;
      grew = grew;
      spelled = λ numbers given h. unfinished-rest c.args.self.now [] numbers given h ∙ ap (λ bits. given ++ spell_bits false bits) (append-nil c.args.self.now.bits ∙ ap (λ kept. kept.bits) (sym c.self.view_is));
    }) c.put_rest.ensures.ok

pub returns-clause-failed : goal.returns-clause-failed
returns-clause-failed g c =
    on_err_weaker c.put_rest.result (λ grew. record {
      rest = spell_bits false c.self.inside.output;
      grew = grew;
      spelled = λ numbers given h. unfinished-rest c.args.self.now [] numbers given h ∙ ap (λ bits. given ++ spell_bits false bits) (append-nil c.args.self.now.bits ∙ ap (λ kept. kept.bits) (sym c.self.view_is));
    }) c.put_rest.ensures.failed
