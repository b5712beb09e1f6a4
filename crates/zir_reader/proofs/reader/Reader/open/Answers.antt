use Rattle.std.proofs.Common.{ap, ◌∙◌}
use Rattle.zir_reader.specs.Gathering.{input_ahead}
use Rattle.zir_reader.specs.Numbers.{Held, items_to_come}
use Rattle.zir_reader.proofs.Whole.{items-spelled}
use Rattle.zir_reader.proofs.reader.Reader.open.Goals as goal

pub returns-clause-left : goal.returns-clause-left
returns-clause-left c bytes =
    let gatherer = c.in_ok-open-2.field-0 in
    ap (λ (held : Held). input_ahead gatherer (items_to_come held bytes)) c.in_ok-open.ensures
    ∙ c.in_ok-open-2.ensures.ahead _
    ∙ items-spelled c.args.format c.args.ty.now bytes c.requires

pub returns-clause-size : goal.returns-clause-size
returns-clause-size c = c.in_ok-open-2.ensures.size
